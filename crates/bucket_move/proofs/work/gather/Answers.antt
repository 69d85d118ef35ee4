use Rattle.std.proofs.Common.{◌≡◌, ◌<◌, ◌++◌, ◌∙◌, ap, length, arith, Option, Vec, Global, get_or, None}
use Rattle.std.specs.Prelude.{vec_capacity, vec_len}
use Rattle.std.specs.Option.{option_to_list}
use Rattle.std.proofs.lemmas.List.Elements.{All-get_or}
use Rattle.tuple_edge.specs.declared.row.Row.{Row}
use Rattle.bucket_move.specs.Working.{first_of, queues_in}
use Rattle.bucket_move.specs.declared.partition.Place.{Place}
use Rattle.bucket_move.proofs.Gathering.{answer_is, answered_further, below_queues, kept_still, queue_is, queues_further, told_further, told_none, told_some}
use Rattle.bucket_move.proofs.work.gather.Goals as goal
use Rattle.bucket_move.proofs.work.gather.Goals.{Joined-next_answer, in-Some, in_default}

-- the place at which the loop is
abbrev no_place : Place
no_place = record { part = 0; bucket = 0 }

there : (c : Joined-next_answer) → (get_or c.args.places.now c.loop-place.place-index no_place).part < length c.loop-place.parts
there c =
    let below : (get_or c.args.places.now c.loop-place.place-index no_place).part < length c.args.parts.now =
    All-get_or (λ (place : Place). place.part < length c.args.parts.now) c.args.places.now c.loop-place.place-index no_place c.loop-place-test.true c.requires.parts in
    omega (arith, below, c.loop-place.auto.parts)

added : (c : Joined-next_answer) → c.match-next_answer.emitted.items ≡ c.loop-place.emitted.items ++ option_to_list c.next_answer.result
added c = elim c.match-next_answer.branch [
  | in-Some w ↦ told_some c.loop-place.emitted.items c.match-next_answer.emitted.items c.next_answer.result w.in-Some.row w.in-Some.is
      (ap (λ (v : Vec Row Global). v.items) w.emitted-is ∙ w.push_reserved.ensures.items)
  | in_default w ↦ ap (λ (v : Vec Row Global). v.items) w.emitted-is ∙ told_none c.loop-place.emitted.items c.next_answer.result w.in_default.is
]

pub loop-place-preserved : goal.loop-place-preserved
loop-place-preserved c =
    let i = c.loop-place.place-index in
    let places = c.args.places.now in
    let parts = c.loop-place.parts in
    let part = (get_or c.args.places.now c.loop-place.place-index no_place).part in
    record {
      room = elim c.match-next_answer.branch [
        | in-Some w ↦ omega (arith, ap (λ (v : Vec Row Global). vec_len v) w.emitted-is, ap (λ (v : Vec Row Global). vec_capacity v) w.emitted-is, c.loop-place.invariant.room)
        | in_default w ↦ omega (arith, ap (λ (v : Vec Row Global). vec_len v) w.emitted-is, ap (λ (v : Vec Row Global). vec_capacity v) w.emitted-is, c.loop-place.invariant.room)
      ];
      kept = kept_still parts part _ c.next_answer.new.self (there c) c.next_answer.ensures.states ∙ c.loop-place.invariant.kept;
      gathers = λ answers same had.
          let now = c.loop-place.invariant.gathers answers same had in
          let there_now = below_queues parts part (there c) in
          let is = queues_further parts part _ c.next_answer.new.self (there c) c.next_answer.ensures.rest in
          let given : c.next_answer.result ≡ get_or answers i None =
          c.next_answer.ensures.value ∙ ap first_of (queue_is parts part _ c.next_answer.new.self (there c))
          ∙ answer_is places answers i no_place (queues_in parts) _ c.loop-place-test.true same there_now now.0 is in (
            answered_further places answers i no_place (queues_in parts) _ c.loop-place-test.true same there_now now.0 is,
            told_further answers i c.loop-place.emitted.items c.match-next_answer.emitted.items (omega (arith, same, c.loop-place-test.true))
                (added c ∙ ap (λ (o : Option Row). c.loop-place.emitted.items ++ option_to_list o) given) c.args.emitted.now.items now.1,
          );
    }

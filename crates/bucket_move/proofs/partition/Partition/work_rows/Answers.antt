use Rattle.std.proofs.Common.{sym, subst, arith, take, ◌+◌, ◌∙◌, ap, length, ◌<◌}
use Rattle.std.proofs.lemmas.List.Elements.{All-get_or}
use Rattle.bucket_move.specs.Limits.{buckets}
use Rattle.bucket_move.specs.declared.partition.Partition.{Partition}
use Rattle.bucket_move.specs.declared.partition.Place.{Place}
use Rattle.bucket_move.proofs.WorkSteps.{Worked, no_row, passed_at, taken_at, worked_none}
use Rattle.bucket_move.proofs.partition.Partition.work_rows.Goals as goal
use Rattle.bucket_move.proofs.partition.Partition.work_rows.Goals.{then-place-part+in_ok-take, else-place-part}

pub loop-i-init : goal.loop-i-init
loop-i-init c = record {
  size = c.requires.slots;
  works = λ stage table before keyed placed holds. worked_none stage table c.args.part before c.args.self.now.states.items c.clear.new.self.items c.clear.ensures.items holds;
}

pub loop-i-preserved : goal.loop-i-preserved
loop-i-preserved c =
    let i = c.loop-i.i in
    let places = c.args.places.now in
    let rows = c.args.rows.now in
    elim c.if-place-part.branch [
      | then-place-part+in_ok-take w ↦ record {
        size = ap (λ (p : Partition). length p.states.items) w.self-is ∙ w.in_ok-take.ensures.size ∙ c.loop-i.invariant.size;
        works = λ stage table before keyed placed holds.
            let done = taken_at stage table c.args.part before places rows i _ _ c.loop-i.self.states.items c.loop-i.self.answers.items c.loop-i-test.true c.requires.rows placed
            (c.loop-i.invariant.works stage table before keyed placed holds)
            keyed w.if-place-part.true (All-get_or (λ (place : Place). place.bucket < buckets) places i _ (omega arith) c.requires.buckets) c.loop-i.invariant.size w.take.new.self.states.items w.take.new.self.answers.items w.in_ok-take.ensures.states w.in_ok-take.ensures.answers in
            subst (λ (p : Partition). Worked stage table c.args.part before (take (i + 1) places) (take (i + 1) rows) p.states.items p.answers.items) (sym w.self-is) done;
      }
      | else-place-part w ↦ record {
        size = ap (λ (p : Partition). length p.states.items) w.self-is ∙ c.loop-i.invariant.size;
        works = λ stage table before keyed placed holds.
            let done = passed_at stage table c.args.part before places rows i _ no_row c.loop-i.self.states.items c.loop-i.self.answers.items c.loop-i-test.true c.requires.rows placed
            (c.loop-i.invariant.works stage table before keyed placed holds) w.if-place-part.false in
            subst (λ (p : Partition). Worked stage table c.args.part before (take (i + 1) places) (take (i + 1) rows) p.states.items p.answers.items) (sym w.self-is) done;
      }
    ]

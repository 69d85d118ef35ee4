use Rattle.std.proofs.Common.{ℕ, ◌≡◌, ◌<◌, ◌++◌, ◌∙◌, List, ap, sym, subst, arith, length, refl}
use Rattle.std.specs.Prelude.{All, flat_map}
use Rattle.std.specs.Option.{option_to_list}
use Rattle.std.proofs.lemmas.List.{length-map}
use Rattle.tuple_edge.specs.declared.row.Row.{Row}
use Rattle.bucket_move.specs.BucketsView.{BucketsView, IsAfter}
use Rattle.bucket_move.specs.Limits.{buckets}
use Rattle.bucket_move.specs.Working.{AllHold, first_answers, kept_in, places_of}
use Rattle.bucket_move.specs.declared.partition.Partition.{Partition}
use Rattle.bucket_move.specs.declared.partition.Place.{Place}
use Rattle.bucket_move.proofs.Feeding.{fed_further, lent_as_many, lent_still}
use Rattle.bucket_move.proofs.Moving.{AllLong}
use Rattle.bucket_move.proofs.buckets.Buckets.take_all.Goals as goal

pub work_in_order-requires-clause-buckets : goal.work_in_order-requires-clause-buckets
work_in_order-requires-clause-buckets g c κs within = subst (λ (ps : List Place). All (λ p. p.bucket < buckets) ps) (sym c.deref-2.ensures.value) c.in_ok-places.ensures.buckets

pub work_in_order-requires-clause-parts : goal.work_in_order-requires-clause-parts
work_in_order-requires-clause-parts g c κs within =
    let right = c.self.invariant in
    let parts = c.self.inside.stage.parts in
    let as_many : parts ≡ length c.deref_mut.result.now = sym right.parts ∙ length-map c.self.inside.parts.items (λ (p : Partition). p.states.items) ∙ ap length (sym c.deref_mut.ensures.value) in
    subst (λ (n : ℕ). All (λ p. p.part < n) c.deref-2.result.now) as_many
    (subst (λ (ps : List Place). All (λ p. p.part < parts) ps) (sym c.deref-2.ensures.value)
    (c.in_ok-places.ensures.there parts (subst (λ (t : List ℕ). All (λ part. part < parts) t) (sym c.deref.ensures.value) right.within)))

pub work_in_order-requires-clause-slots : goal.work_in_order-requires-clause-slots
work_in_order-requires-clause-slots g c κs within = subst (λ (ps : List Partition). AllLong (kept_in ps)) (sym c.deref_mut.ensures.value) c.self.invariant.slots

pub invariant_of-self-in_err-work_in_order : goal.invariant_of-self-in_err-work_in_order
invariant_of-self-in_err-work_in_order g c =
    let right = c.self.invariant in
    let v = c.self.inside.parts in
    let lent = c.deref_mut.result.now in
    let new = c.work_in_order.new.parts in
    record {
      stage = right.stage;
      keyed = right.keyed;
      table = right.table;
      within = right.within;
      parts = lent_as_many v lent new c.work_in_order.auto.parts c.deref_mut.ensures.value c.deref_mut.ensures.len ∙ right.parts;
      slots = subst (λ (ps : List Partition). AllLong (kept_in ps)) (sym (lent_still v lent new c.work_in_order.auto.parts c.deref_mut.ensures.len)) c.in_err-work_in_order.ensures.slots;
      count = right.count;
    }

pub invariant_of-self-2 : goal.invariant_of-self-2
invariant_of-self-2 g c =
    let right = c.self.invariant in
    let v = c.self.inside.parts in
    let lent = c.deref_mut.result.now in
    let new = c.work_in_order.new.parts in
    record {
      stage = right.stage;
      keyed = right.keyed;
      table = right.table;
      within = right.within;
      parts = lent_as_many v lent new c.work_in_order.auto.parts c.deref_mut.ensures.value c.deref_mut.ensures.len ∙ right.parts;
      slots = subst (λ (ps : List Partition). AllLong (kept_in ps)) (sym (lent_still v lent new c.work_in_order.auto.parts c.deref_mut.ensures.len)) c.in_ok-work_in_order.ensures.slots;
      count = omega (arith, c.in-Some.ensures);
    }

pub returns-clause-stands : goal.returns-clause-stands
returns-clause-stands g c = λ stage calls is.
    let inside = c.self.inside in
    let v = c.self.inside.parts in
    let lent = c.deref_mut.result.now in
    let new = c.work_in_order.new.parts in
    let rows = c.args.rows.now in
    let placed = c.deref-2.ensures.value ∙ c.in_ok-places.ensures.value ∙ ap (λ (t : List ℕ). places_of inside.stage.by t rows) c.deref.ensures.value in
    let still = lent_still v lent new c.work_in_order.auto.parts c.deref_mut.ensures.len in
    fed_further _ _ stage calls rows c.deref-2.result.now c.self.invariant (subst (λ (b : BucketsView). IsAfter stage calls b) (sym c.self.view_is) is) refl refl refl (omega (arith, c.in-Some.ensures)) placed
    (lent_as_many v lent new c.work_in_order.auto.parts c.deref_mut.ensures.value c.deref_mut.ensures.len)
    (λ s table before keyed there held.
    let done = c.in_ok-work_in_order.ensures.works s table before keyed there (subst (λ (ps : List Partition). AllHold s table before (kept_in ps)) (sym c.deref_mut.ensures.value) held) in (
      subst (λ (ps : List Partition). AllHold s table (before ++ rows) (kept_in ps)) (sym still) done.0,
      done.1 ∙ ap (λ (front : List Row). front ++ flat_map option_to_list (first_answers s.op before rows)) c.in_ok-reserve.ensures.items,
    ))

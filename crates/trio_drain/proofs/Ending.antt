-- How a drain ends, and what that means.
use Rattle.std.proofs.Common.{◌≡◌, ◌∙◌, ◌⊎◌, ◌++◌, inl, inr, ℕ, Bool, true, false, List, [], ◌∷◌, Option, None, Some, ap, refl, subst, sym}
use Rattle.std.specs.Prelude.{◌==◌, if◌then◌else◌}
use Rattle.std.proofs.lemmas.Bool.{eq-eqb, eqb-true}
use Rattle.tuple_edge.specs.declared.event.Drained.TheVariants as drained
use Rattle.pair_machine.specs.Boundary.{egress_partition}
use Rattle.pair_machine.specs.Drain.{pairs_up_to, partition}
use Rattle.pair_machine.specs.Flow.{Flow}
use Rattle.pair_machine.specs.Lists.{Each}
use Rattle.pair_machine.specs.Numbers.{Partition}
use Rattle.pair_machine.proofs.Tests.{nat_not}
use Rattle.trio_machine.specs.Drain.{IsEgressDone, first_lost, is_lost}
use Rattle.trio_machine.specs.Machine.{State, egress_in}
use Rattle.trio_machine.specs.Sound.{IsLost, IsServed}
use Rattle.trio_machine.specs.declared.node.TrioNode.TheVariants as node
use Rattle.trio_machine.proofs.DrainWhole.{finds_lost}
use Rattle.trio_machine.proofs.Served.{lost_is, served_is}
use Rattle.trio_drain.specs.Drained.{IsLostIn}
use Rattle.trio_drain.specs.Ending.{EndingsAreExact, ending, ending_by}
use Rattle.trio_drain.specs.Order.{IsEachServed}

pub ending_done : (f : Flow) (s : State) → IsEgressDone f s → ending f s ≡ drained.Whole
ending_done f s done = let e : ((egress_in (s.nodes node.Egress)).count == f.total (egress_partition f)) ≡ true = eq-eqb (egress_in (s.nodes node.Egress)).count (f.total (egress_partition f)) done in simp e

pub ending_undone : (f : Flow) (s : State) → (IsEgressDone f s → ⊥) → ending f s ≡ ending_by (first_lost s (pairs_up_to f f.stages))
ending_undone f s undone = let e : ((egress_in (s.nodes node.Egress)).count == f.total (egress_partition f)) ≡ false = nat_not (egress_in (s.nodes node.Egress)).count (f.total (egress_partition f)) undone in simp e

-- ---- what the ending means

-- a group before which none is lost is found
first_is : (s : State) (before : List Partition) (p : Partition) (after : List Partition) → Each (IsServed s) before → IsLost s p → first_lost s (before ++ p ∷ after) ≡ Some p
first_is s [] p after served lost = go (is_lost s p) refl
  where
    go : (c : Bool) → is_lost s p ≡ c → first_lost s (p ∷ after) ≡ Some p
    go true e = simp e
    go false e = absurd (lost (served_is s p e))
first_is s (q ∷ before) p after served lost = go (is_lost s q) refl (first_is s before p after served.1 lost)
  where
    go : (c : Bool) → is_lost s q ≡ c → first_lost s (before ++ p ∷ after) ≡ Some p → first_lost s (q ∷ (before ++ p ∷ after)) ≡ Some p
    go true e later = absurd (lost_is s q e served.0)
    go false e later = simp e later

module _ (f : Flow) (s : State) where
  abbrev count : ℕ
  count = (egress_in (s.nodes node.Egress)).count

  abbrev total : ℕ
  total = f.total (egress_partition f)

  abbrev found : Option Partition
  found = first_lost s (pairs_up_to f f.stages)

  undone_by : (count == total) ≡ false → IsEgressDone f s → ⊥
  undone_by e done = let t : true ≡ false = sym (eq-eqb count total done) ∙ e in cc t

  pub lost_in : (p : Partition) → ending f s ≡ drained.Lost p.stage p.part → IsLostIn f s p
  lost_in p e = by_done (count == total) refl e
    where
      by_found : (o : Option Partition) → found ≡ o → (IsEgressDone f s → ⊥) → ending_by o ≡ drained.Lost p.stage p.part → IsLostIn f s p
      by_found None is undone e = let z : ⊥ = cc e in absurd z
      by_found (Some q) is undone e =
          let stage : q.stage ≡ p.stage = cc e in
          let part : q.part ≡ p.part = cc e in
          let same : q ≡ p = λ i. partition (stage i) (part i) in
          let here = is ∙ ap (λ r. Some r) same in
          let z = finds_lost f s in
          record { there = z.there p here; first = z.first p here; undone = undone }

      by_done : (c : Bool) → (count == total) ≡ c → (if c then drained.Whole else ending_by found) ≡ drained.Lost p.stage p.part → IsLostIn f s p
      by_done true is e = let z : ⊥ = cc e in absurd z
      by_done false is e = by_found found refl (undone_by is) e

  in_lost : (p : Partition) → IsLostIn f s p → ending f s ≡ drained.Lost p.stage p.part
  in_lost p h =
      let here = subst (λ ps. first_lost s ps ≡ Some p) h.first.whole (first_is s h.first.before p h.first.after h.first.served h.first.lost) in
      ending_undone f s h.undone ∙ ap ending_by here

  whole_where : ending f s ≡ drained.Whole → IsEgressDone f s ⊎ IsEachServed f s
  whole_where e = by_done (count == total) refl e
    where
      by_found : (o : Option Partition) → found ≡ o → ending_by o ≡ drained.Whole → IsEgressDone f s ⊎ IsEachServed f s
      by_found None is e = inr ((finds_lost f s).none is)
      by_found (Some q) is e = let z : ⊥ = cc e in absurd z

      by_done : (c : Bool) → (count == total) ≡ c → (if c then drained.Whole else ending_by found) ≡ drained.Whole → IsEgressDone f s ⊎ IsEachServed f s
      by_done true is e = inl (eqb-true count total is)
      by_done false is e = by_found found refl e

  where_whole : IsEgressDone f s ⊎ IsEachServed f s → ending f s ≡ drained.Whole
  where_whole (inl done) = ending_done f s done
  where_whole (inr served) = by_done (count == total) refl
    where
      by_found : (o : Option Partition) → found ≡ o → ending_by o ≡ drained.Whole
      by_found None is = refl
      by_found (Some q) is = let z = finds_lost f s in absurd ((z.first q is).lost (served q (z.there q is)))

      by_done : (c : Bool) → (count == total) ≡ c → ending f s ≡ drained.Whole
      by_done true is = ending_done f s (eqb-true count total is)
      by_done false is = ending_undone f s (undone_by is) ∙ by_found found refl

pub endings_are_exact : EndingsAreExact
endings_are_exact f s = record {
  lost = λ stage part. (lost_in f s (partition stage part), in_lost f s (partition stage part));
  whole = (whole_where f s, where_whole f s);
}

-- The four facts of every pair hold in every state along a legal list of events within a safe script.
use Rattle.std.proofs.Common.{◌≡◌, List, [], ◌∷◌, Result, Ok, Err, refl, sym, ap, ◌∙◌, subst}
use Rattle.tuple_edge.specs.Input.{Input}
use Rattle.tuple_edge.specs.declared.event.Event.{Event}
use Rattle.plan_reader.specs.PlanView.{IsPlan, PlanView}
use Rattle.pair_machine.specs.Counts.{flow_of}
use Rattle.pair_machine.specs.Links.{AreOnTheirLinks, IsThere}
use Rattle.pair_machine.specs.Lists.{Each}
use Rattle.pair_machine.specs.Machine.{Leads, State, follow, opening, step}
use Rattle.pair_machine.specs.Messages.{Refusal}
use Rattle.pair_machine.specs.Scripts.{AreAllowed, AreWithin, IsSafe}
use Rattle.pair_machine.specs.declared.order.Order.{Order}
use Rattle.pair_machine.proofs.Legal.{follow_err, legal_front}
use Rattle.pair_machine.proofs.PlanFlow.{plan_is_flow}
use Rattle.pair_machine.proofs.SoundKept.{opening_sound}
use Rattle.pair_machine.proofs.Within.{within_front}
use Rattle.machine_parts.specs.Parts.{HasAllParts, IncarnationsAreInOrder}
use Rattle.machine_parts.specs.SafePairs.{ArePairsSafe, SafePairsHoldThroughout}
use Rattle.machine_parts.proofs.PartsKept.{incarnations_kept, links_kept, parts_of}
use Rattle.machine_parts.proofs.SafePairsKept.{opening_safe, safe_kept}

module _ (plan : PlanView) (inputs : List Input) (is_plan : IsPlan plan) (script : List Order) (safe : IsSafe script) where
  -- with the parts of soundness that they use
  record Holds (s : State) : Type 0 where
    links : AreOnTheirLinks (flow_of plan inputs) s
    incarnations : IncarnationsAreInOrder (flow_of plan inputs) s
    pairs : ArePairsSafe script s

  run : (es : List Event) (s t : State) → Each (IsThere (flow_of plan inputs)) es → AreAllowed (flow_of plan inputs) script es (Ok s) → Holds s → Leads (flow_of plan inputs) s es t → ArePairsSafe script t
  run [] s t there allowed h leads = let e : s ≡ t = cc leads in subst (ArePairsSafe script) e h.pairs
  run (e ∷ es) s t there allowed h leads = by_step (step (flow_of plan inputs) s e) refl (λ u after more. run es u t there.1 more after)
    where
      by_step : (r : Result State Refusal) → step (flow_of plan inputs) s e ≡ r
          → ((u : State) → Holds u → AreAllowed (flow_of plan inputs) script es (Ok u) → Leads (flow_of plan inputs) u es t → ArePairsSafe script t) → ArePairsSafe script t
      by_step (Ok u) done later = later u
          (record {
            links = links_kept plan inputs is_plan s u e there.0 tt h.links done;
            incarnations = incarnations_kept plan inputs is_plan s u e there.0 h.links h.incarnations done;
            pairs = safe_kept plan inputs is_plan script safe s u e there.0 allowed.0 h.links h.incarnations h.pairs done;
          })
          (subst (AreAllowed (flow_of plan inputs) script es) done allowed.1)
          (sym (ap (follow (flow_of plan inputs) es) done) ∙ leads)
      by_step (Err x) done later =
          let z : Err x ≡ Ok t = sym (follow_err (flow_of plan inputs) es x) ∙ sym (ap (follow (flow_of plan inputs) es) done) ∙ leads in
          absurd (let y : ⊥ = cc z in y)

  opening_holds : Holds opening
  opening_holds =
      let parts : HasAllParts (flow_of plan inputs) opening = parts_of (flow_of plan inputs) opening (opening_sound (flow_of plan inputs) (plan_is_flow plan inputs is_plan)) in
      record { links = parts.links; incarnations = parts.incarnations; pairs = opening_safe script }

pub safe_throughout : SafePairsHoldThroughout
safe_throughout plan inputs is_plan script safe es t legal within front rest m is leads =
    let f = flow_of plan inputs in
    run plan inputs is_plan script safe front opening m (legal_front f opening t m es front rest legal is leads).there
    (within_front f script front rest (subst (AreWithin f script) (sym is) within)).allowed (opening_holds plan inputs is_plan script safe) leads

-- Each step keeps what holds within each pair.
use Rattle.std.proofs.Common.{◌≤◌, Result, Ok, Err, true, refl}
use Rattle.tuple_edge.specs.declared.event.Event.TheVariants as event
use Rattle.pair_machine.proofs.Orders.{IsOrderedEvent, Orders}
use Rattle.pair_machine.specs.Flow.{Flow}
use Rattle.pair_machine.specs.Links.{AreOnTheirLinks, IsThere}
use Rattle.pair_machine.specs.Machine.{State, step}
use Rattle.pair_machine.specs.Messages.{Refusal}
use Rattle.pair_machine.specs.Numbers.{Partition}
use Rattle.pair_machine.specs.Pairs.{ArePairsSound, IsPairSound, side_of}
use Rattle.tuple_edge.specs.declared.event.Event.{Event}
use Rattle.tuple_edge.specs.declared.node.Which.TheVariants.{A, B}
use Rattle.pair_machine.proofs.PairKept.{keep_turns}
use Rattle.pair_machine.proofs.StepTurns.{HoldsOnOk, Goes, step_goes}

-- with every kill and every stop allowed
anything : Orders
anything = record { kill = λ n. true; stop = λ n. true }

any_allowed : (e : Event) → IsOrderedEvent anything e
unfolding anything
any_allowed (event.Take l k) = tt
any_allowed (event.Work n) = tt
any_allowed event.Make = tt
any_allowed (event.Kill n) = refl
any_allowed (event.AskStop n) = refl
any_allowed (event.AskBack n) = tt
any_allowed (event.Pull from to) = tt

pub pairs_kept : (f : Flow) (s : State) (e : Event) → IsThere f e → AreOnTheirLinks f s → ArePairsSound f s → (p : Partition) → 1 ≤ p.stage →
    HoldsOnOk (λ t. IsPairSound f p (side_of t p A) (side_of t p B)) (step f s e)
pairs_kept f s e h all sound p l = go (step f s e) (step_goes f anything s e p h (any_allowed e) all)
  where
    go : (r : Result State Refusal) → HoldsOnOk (Goes f p anything s) r → HoldsOnOk (λ t. IsPairSound f p (side_of t p A) (side_of t p B)) r
    go (Ok t) g = keep_turns g (sound p l)
    go (Err x) g = tt

-- What each turn of a pair keeps, some turns keep; and a step is some turns of each pair.
use Rattle.std.proofs.Common.{◌≡◌, Bool, true, Ok, refl, subst}
use Rattle.tuple_edge.specs.declared.event.Event.{Event}
use Rattle.tuple_edge.specs.declared.event.Event.TheVariants as event
use Rattle.pair_machine.specs.Flow.{Flow}
use Rattle.pair_machine.specs.Links.{AreOnTheirLinks, IsThere}
use Rattle.pair_machine.specs.Machine.{State, step}
use Rattle.pair_machine.specs.Numbers.{Partition}
use Rattle.pair_machine.specs.Pairs.{AreIncarnationsInOrder, Side}
use Rattle.pair_machine.proofs.IncarnationsKept.{keep_incarnations, keep_incarnations_there}
use Rattle.pair_machine.proofs.Orders.{IsOrderedEvent, Orders}
use Rattle.pair_machine.proofs.PairKept.{Turns, none, then_first, then_second}
use Rattle.pair_machine.proofs.StepTurns.{Goes, HoldsOnOk, step_goes}
use Rattle.pair_machine.proofs.Turns.{Turn}
use Rattle.machine_parts.specs.Parts.{BothWays}

-- what the turns of the first side keep, and what holds when the sides are turned round
pub turns_keep : {f : Flow} {p : Partition} {ka sa kb sb : Bool} (P : Side → Side → Type 0) → ((kill stop : Bool) (a b x y : Side) → Turn f p kill stop a b x y → P a b → P x y)
    → ((a b : Side) → P a b → P b a) → {a b x y : Side} → Turns f p ka sa kb sb a b x y → P a b → P x y
turns_keep P turn round (none a b) h = h
turns_keep P turn round (then_first a b c d x y ts t) h = turn _ _ c d x y t (turns_keep P turn round ts h)
turns_keep P turn round (then_second a b c d x y ts t) h = round y x (turn _ _ d c y x t (round c d (turns_keep P turn round ts h)))

pub turned : (P : Side → Side → Type 0) (a b : Side) → BothWays P a b → BothWays P b a
turned P a b h = (h.1, h.0)

pub incarnations_turn : {f : Flow} {p : Partition} {kill stop : Bool} {a b x y : Side} → Turn f p kill stop a b x y → BothWays AreIncarnationsInOrder a b → BothWays AreIncarnationsInOrder x y
incarnations_turn t h = (keep_incarnations t h.0 h.1, keep_incarnations_there t h.0 h.1)

-- a step under orders
pub gone : (f : Flow) (o : Orders) (s t : State) (e : Event) → IsThere f e → IsOrderedEvent o e → AreOnTheirLinks f s → step f s e ≡ Ok t → (p : Partition) → Goes f p o s t
gone f o s t e there ordered links done p = subst (HoldsOnOk (Goes f p o s)) done (step_goes f o s e p there ordered links)

-- under which anything may fail and stop
pub any_orders : Orders
any_orders = record { kill = λ n. true; stop = λ n. true }

any_ordered : (e : Event) → IsOrderedEvent any_orders e
unfolding any_orders
any_ordered (event.Take l k) = tt
any_ordered (event.Work n) = tt
any_ordered event.Make = tt
any_ordered (event.Kill n) = refl
any_ordered (event.AskStop n) = refl
any_ordered (event.AskBack n) = tt
any_ordered (event.Pull from to) = tt

pub gone_anyhow : (f : Flow) (s t : State) (e : Event) → IsThere f e → AreOnTheirLinks f s → step f s e ≡ Ok t → (p : Partition) → Goes f p any_orders s t
gone_anyhow f s t e there links done p = gone f any_orders s t e there (any_ordered e) links done p

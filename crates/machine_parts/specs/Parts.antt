-- The parts of soundness, and which of them each part's keeping uses: from any state in which a part and those that it uses hold, a
-- step leads to one in which the part holds.
use Rattle.std.specs.Prelude.{◌≡◌, ◌≤◌, ◌↔◌, List, Ok}
use Rattle.tuple_edge.specs.Input.{Input}
use Rattle.tuple_edge.specs.declared.event.Event.{Event}
use Rattle.tuple_edge.specs.declared.node.Which.TheVariants.{A, B}
use Rattle.plan_reader.specs.PlanView.{IsPlan, PlanView}
use Rattle.pair_machine.specs.Acknowledged.{IsAckedAtMostReported}
use Rattle.pair_machine.specs.Counts.{flow_of}
use Rattle.pair_machine.specs.Flow.{Flow}
use Rattle.pair_machine.specs.Lengths.{IsWithinLengths}
use Rattle.pair_machine.specs.Links.{AreBetweenNodes, AreOnTheirLinks, IsThere}
use Rattle.pair_machine.specs.Machine.{State, step}
use Rattle.pair_machine.specs.Numbers.{Partition}
use Rattle.pair_machine.specs.Pairs.{AreCatchingCovered, AreCountedCovered, AreIncarnationsInOrder, AreReportsTrue, IsOneMove, Side, side_of}
use Rattle.pair_machine.specs.Sound.{IsSound}

-- a fact on one side of a pair and the other, both ways
abbrev pub BothWays : (Side → Side → Type 0) → Side → Side → Type 0
BothWays P a b = P a b × P b a

-- it holds of every pair
abbrev pub InPairs : (Partition → Side → Side → Type 0) → State → Type 0
InPairs P s = (p : Partition) → 1 ≤ p.stage → BothWays (P p) (side_of s p A) (side_of s p B)

-- in each pair, incarnations are in order
abbrev pub IncarnationsAreInOrder : Flow → State → Type 0
IncarnationsAreInOrder f s = InPairs (λ p a b. AreIncarnationsInOrder a b) s

-- in each pair, reports are true
abbrev pub ReportsAreTrue : Flow → State → Type 0
ReportsAreTrue f s = InPairs (λ p a b. AreReportsTrue a b) s

-- in each pair, the reports that are counted are covered by marks
abbrev pub CountedAreCovered : Flow → State → Type 0
CountedAreCovered f s = InPairs (λ p a b. AreCountedCovered a b) s

-- in each pair, there is one move for each incarnation
abbrev pub MovesAreOne : Flow → State → Type 0
MovesAreOne f s = InPairs (IsOneMove f) s

-- in each pair, the reports of a newcomer are covered by its move
abbrev pub CatchingAreCovered : Flow → State → Type 0
CatchingAreCovered f s = InPairs (λ p a b. AreCatchingCovered a b) s

-- all parts
pub record HasAllParts (f : Flow) (s : State) : Type 0 where
  pub nodes : AreBetweenNodes f s
  pub links : AreOnTheirLinks f s
  pub lengths : IsWithinLengths f s
  pub incarnations : IncarnationsAreInOrder f s
  pub reports : ReportsAreTrue f s
  pub acknowledged : IsAckedAtMostReported f s
  pub counted : CountedAreCovered f s
  pub catching : CatchingAreCovered f s
  pub moves : MovesAreOne f s

-- these are all that makes a state sound
abbrev pub SoundIsItsParts : Type 0
SoundIsItsParts = (f : Flow) (s : State) → IsSound f s ↔ HasAllParts f s

-- where a step leads from a state that has the part and what it uses, the part holds again
abbrev pub IsKept : (Flow → State → Type 0) → (Flow → State → Type 0) → Type 0
IsKept uses part = (plan : PlanView) (inputs : List Input) → IsPlan plan → (s t : State) (e : Event) → IsThere (flow_of plan inputs) e
    → uses (flow_of plan inputs) s → part (flow_of plan inputs) s → step (flow_of plan inputs) s e ≡ Ok t → part (flow_of plan inputs) t

-- nothing else is used
abbrev pub Nothing : Flow → State → Type 0
Nothing f s = Unit {0}

-- that messages go between nodes of the plan is kept by itself
abbrev pub NodesAreKept : Type 0
NodesAreKept = IsKept Nothing AreBetweenNodes

-- that messages stand on links that carry them is kept by itself
abbrev pub LinksAreKept : Type 0
LinksAreKept = IsKept Nothing AreOnTheirLinks

-- that numbers are within lengths is kept, and uses the links alone
abbrev pub LengthsAreKept : Type 0
LengthsAreKept = IsKept AreOnTheirLinks IsWithinLengths

-- that what is acknowledged is at most reported is kept, and uses the links alone
abbrev pub AcknowledgingIsKept : Type 0
AcknowledgingIsKept = IsKept AreOnTheirLinks IsAckedAtMostReported

-- that incarnations are in order is kept, and uses the links alone
abbrev pub IncarnationsAreKept : Type 0
IncarnationsAreKept = IsKept AreOnTheirLinks IncarnationsAreInOrder

-- that reports are true is kept, and uses the links and the incarnations
abbrev pub ReportsAreKept : Type 0
ReportsAreKept = IsKept (λ f s. AreOnTheirLinks f s × IncarnationsAreInOrder f s) ReportsAreTrue

-- that there is one move for each incarnation is kept, and uses the links and the incarnations
abbrev pub MovesAreKept : Type 0
MovesAreKept = IsKept (λ f s. AreOnTheirLinks f s × IncarnationsAreInOrder f s) MovesAreOne

-- that counted reports are covered is kept, and uses the links, the incarnations, the reports, and what covers a newcomer's
abbrev pub CountingIsKept : Type 0
CountingIsKept = IsKept (λ f s. AreOnTheirLinks f s × IncarnationsAreInOrder f s × ReportsAreTrue f s × CatchingAreCovered f s) CountedAreCovered

-- that a newcomer's reports are covered is kept, and uses the links, the incarnations, the reports, and what covers counted ones
abbrev pub CatchingIsKept : Type 0
CatchingIsKept = IsKept (λ f s. AreOnTheirLinks f s × IncarnationsAreInOrder f s × ReportsAreTrue f s × CountedAreCovered f s) CatchingAreCovered

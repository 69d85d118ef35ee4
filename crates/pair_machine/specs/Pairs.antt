-- What holds within a pair, of either replica and its partner: incarnations are in order, reports are true, the reports that are
-- counted are covered by marks, those of a newcomer by its move, and there is one move for each incarnation. Each part is stated of
-- one side of the pair and the other, and asked for both ways.
use Rattle.std.specs.Prelude.{◌≡◌, ◌≢◌, ◌<◌, ◌≤◌, ℕ, true, List, Option, None, Some}
use Rattle.tuple_edge.specs.declared.node.EdgeId.{EdgeId}
use Rattle.tuple_edge.specs.declared.node.Which.{Which}
use Rattle.tuple_edge.specs.declared.node.Which.TheVariants.{A, B}
use Rattle.tuple_edge.specs.declared.status.Status.{Status}
use Rattle.tuple_edge.specs.declared.status.Status.TheVariants as status
use Rattle.pair_machine.specs.Numbers.{Consumer, MoveNumbers, Move, Replica, Gone, Running, Gathering, Watched, Partition, other, replica_at, control_at}
use Rattle.pair_machine.specs.Messages.{Message, Report, Lead, Serve, Begin, Chunk, ChunkEnd, Caught, Down, Stop, AskStop}
use Rattle.pair_machine.specs.Flow.{Flow}
use Rattle.pair_machine.specs.Replicas.{inc_of, size}
use Rattle.pair_machine.specs.Controllers.{counts}
use Rattle.pair_machine.specs.Lists.{Among, Each}
use Rattle.pair_machine.specs.Links.{link}
use Rattle.pair_machine.specs.Machine.{State, replica_in, controller_in}

-- one replica of a pair, what its controller knows of it, and what it and the controller ever sent within the pair
pub record Side : Type 0 where
  pub replica : Replica
  pub watched : Watched
  -- from the replica to the controller
  pub up : List Message
  -- from the controller to the replica
  pub down : List Message
  -- from the replica to its partner
  pub across : List Message

-- the side of replica w of a partition; what its partner sent to it stands on the partner's side
abbrev pub side_of : State → Partition → Which → Side
side_of s p w = record {
  replica = replica_in (s.nodes (replica_at p w));
  watched = (controller_in (s.nodes (control_at p))).watched w;
  up = s.sent (link (replica_at p w) (control_at p));
  down = s.sent (link (control_at p) (replica_at p w));
  across = s.sent (link (replica_at p w) (replica_at p (other w)));
}

-- ---- incarnations are in order

-- the incarnation that a message names is at most n
abbrev pub NamesAtMost : ℕ → Message → Type 0
NamesAtMost n (Report i e k) = i ≤ n
NamesAtMost n (Lead i t) = i ≤ n
NamesAtMost n (Serve i t) = i ≤ n
NamesAtMost n (Begin i) = i ≤ n
NamesAtMost n (Chunk i k m) = i ≤ n
NamesAtMost n (ChunkEnd i k m) = i ≤ n
NamesAtMost n (Caught i) = i ≤ n
NamesAtMost n (Down i) = i ≤ n
NamesAtMost n (Stop i) = i ≤ n
NamesAtMost n (AskStop i) = i ≤ n
NamesAtMost n m = Unit {0}

-- a fact on a serve, which says nothing of other messages
abbrev pub OfServe : (ℕ → ℕ → Type 0) → Message → Type 0
OfServe P (Serve i t) = P i t
OfServe P m = Unit {0}

-- a move under way is for an incarnation of at most n; without a move nothing is asked
abbrev pub MoveAtMost : ℕ → Option Move → Type 0
MoveAtMost n None = Unit {0}
MoveAtMost n (Some mv) = mv.target ≤ n

-- what was served is at most n, and a move is for an incarnation that was served
abbrev pub ServedAtMost : ℕ → Replica → Type 0
ServedAtMost n (Gone i) = Unit {0}
ServedAtMost n (Running x) = (x.served ≤ n) × MoveAtMost x.served x.move
ServedAtMost n (Gathering g) = Unit {0}

-- no report and no notice of having caught up names j
abbrev pub DoesNotName : ℕ → Message → Type 0
DoesNotName j (Report i e k) = i ≢ j
DoesNotName j (Caught i) = i ≢ j
DoesNotName j m = Unit {0}

-- a replica that gathers has reported nothing in this incarnation
abbrev pub Free : Replica → Message → Type 0
Free (Gone i) m = Unit {0}
Free (Running x) m = Unit {0}
Free (Gathering g) m = DoesNotName g.inc m

-- and is told in it to serve nobody
abbrev pub FreeOfServe : Replica → Message → Type 0
FreeOfServe (Gone i) m = Unit {0}
FreeOfServe (Running x) m = Unit {0}
FreeOfServe (Gathering g) m = OfServe (λ i t. i ≢ g.inc) m

-- a replica doesn't gather: it runs, or is gone
abbrev pub IsSettled : Replica → Type 0
IsSettled (Gone i) = Unit {0}
IsSettled (Running x) = Unit {0}
IsSettled (Gathering g) = ⊥

-- where a replica is up its incarnation is the controller's, and it doesn't gather
abbrev pub UpAgrees : Status → ℕ → Replica → Type 0
UpAgrees held i r = held ≡ status.Up → (inc_of r ≡ i) × IsSettled r

-- no message, move or replica of a pair is of a later incarnation than its controller holds, and none is told of twice
pub record AreIncarnationsInOrder (a b : Side) : Type 0 where
  pub below : inc_of a.replica ≤ a.watched.inc
  pub to_replica : Each (NamesAtMost a.watched.inc) a.down
  pub to_partner : Each (NamesAtMost b.watched.inc) a.across
  pub targets : Each (OfServe (λ i t. t ≤ b.watched.inc)) a.down
  pub served : ServedAtMost b.watched.inc a.replica
  pub to_control : Each (NamesAtMost (inc_of a.replica)) a.up
  pub serves : Each (OfServe (λ i t. i ≤ inc_of a.replica)) a.down
  pub free_up : Each (Free a.replica) a.up
  pub free_down : Each (FreeOfServe a.replica) a.down
  pub agrees : UpAgrees a.watched.status a.watched.inc a.replica

-- ---- reports are true

-- a fact on a report, which says nothing of other messages
abbrev pub OfReport : (ℕ → EdgeId → ℕ → Type 0) → Message → Type 0
OfReport P (Report i e k) = P i e k
OfReport P m = Unit {0}

-- a report of the incarnation in which a replica runs is at most its mark; of earlier incarnations nothing is asked
abbrev pub ReportFits : Replica → Message → Type 0
ReportFits (Gone i) m = Unit {0}
ReportFits (Running x) m = OfReport (λ i e k. i ≡ x.inc → k ≤ x.consumer.marks e.from) m
ReportFits (Gathering g) m = Unit {0}

-- a report that names the present incarnation of a replica that runs is at most its mark
pub record AreReportsTrue (a b : Side) : Type 0 where
  pub fits : Each (ReportFits a.replica) a.up

-- ---- counted reports are covered

-- no report is above its mark
abbrev pub MarksReach : (ℕ → ℕ) → Consumer → Type 0
MarksReach reports c = (q : ℕ) → reports q ≤ c.marks q

-- the reports of a counted replica are at most its marks where it runs; those of one that gathers are asked of its move instead
abbrev pub CountedReach : Watched → Replica → Type 0
CountedReach h (Gone i) = Unit {0}
CountedReach h (Running x) = counts h x.inc ≡ true → MarksReach h.reports x.consumer
CountedReach h (Gathering g) = Unit {0}

-- the reports of a counted replica that runs are at most its marks
pub record AreCountedCovered (a b : Side) : Type 0 where
  pub reach : CountedReach a.watched a.replica

-- ---- one move for each incarnation

-- a move of numbers m for incarnation i of the partner is under way, however many chunks of it were sent
abbrev pub MoveIs : Option Move → ℕ → MoveNumbers → Type 0
MoveIs None i m = ⊥
MoveIs (Some mv) i m = (mv.target ≡ i) × (mv.numbers ≡ m)

-- a replica gives its state by a move of numbers m for incarnation i
abbrev pub Moves : Replica → ℕ → MoveNumbers → Type 0
Moves (Gone j) i m = ⊥
Moves (Running x) i m = MoveIs x.move i m
Moves (Gathering g) i m = ⊥

-- a replica gathers, in incarnation i, a move of numbers m
abbrev pub Gathers : Replica → ℕ → MoveNumbers → Type 0
Gathers (Gone j) i m = ⊥
Gathers (Running x) i m = ⊥
Gathers (Gathering g) i m = (g.inc ≡ i) × (g.moved ≡ Some m)

-- a move of numbers m from b for incarnation i of a stands with the mover, in a message, or with the newcomer
pub data Stands (b a : Side) (i : ℕ) (m : MoveNumbers) : Type 0 where
  in_mover : Moves b.replica i m → Stands b a i m
  in_chunk : (n : ℕ) → Among (Chunk i n m) b.across → Stands b a i m
  in_end : (n : ℕ) → Among (ChunkEnd i n m) b.across → Stands b a i m
  in_gatherer : Gathers a.replica i m → Stands b a i m

-- a replica is past incarnation j, or gone in it, or runs in it and has served i
abbrev pub IsPast : Replica → ℕ → ℕ → Type 0
IsPast (Gone k) j i = j ≤ k
IsPast (Running y) j i = (j ≤ y.inc) × (j ≡ y.inc → i ≤ y.served)
IsPast (Gathering g) j i = j < g.inc

-- of the moves of b for a
pub record IsOneMove (f : Flow) (p : Partition) (b a : Side) : Type 0 where
  -- one incarnation at most is told to serve a target
  pub one_serve : (i j k : ℕ) → Among (Serve j i) b.down → Among (Serve k i) b.down → j ≡ k
  -- what stands of a move was told to be served, and the server is past that
  pub served : (i : ℕ) (m : MoveNumbers) → Stands b a i m → (j : ℕ) × Among (Serve j i) b.down × IsPast b.replica j i
  -- all that stands of moves for one target has the same numbers
  pub same : (i : ℕ) (m n : MoveNumbers) → Stands b a i m → Stands b a i n → m ≡ n
  -- an end counts the whole list
  pub whole : (i k : ℕ) (m : MoveNumbers) → Among (ChunkEnd i k m) b.across → k ≡ size f p m

-- ---- the reports of a newcomer are covered

-- a replica is still to take up incarnation i, or gathers in it
abbrev pub Awaits : Replica → ℕ → Type 0
Awaits (Gone j) i = j < i
Awaits (Running x) i = x.inc < i
Awaits (Gathering g) i = g.inc ≤ i

-- a partner that runs in incarnation j has marks that reach these reports, as long as it hasn't served i
abbrev pub PartnerReaches : (ℕ → ℕ) → ℕ → ℕ → Replica → Type 0
PartnerReaches reports i j (Gone k) = Unit {0}
PartnerReaches reports i j (Running y) = y.inc ≡ j → y.served < i → MarksReach reports y.consumer
PartnerReaches reports i j (Gathering g) = Unit {0}

-- of a replica a that is catching up, whose partner is b: its reports are at most the marks of its move, and of its partner until
-- that has served it
pub record AreCatchingCovered (b a : Side) : Type 0 where
  pub moves : a.watched.status ≡ status.Catching → Awaits a.replica a.watched.inc →
      (m : MoveNumbers) → Stands b a a.watched.inc m → (q : ℕ) → a.watched.reports q ≤ m.marks q
  pub partner : a.watched.status ≡ status.Catching → Awaits a.replica a.watched.inc →
      (j : ℕ) → Among (Serve j a.watched.inc) b.down → PartnerReaches a.watched.reports a.watched.inc j b.replica

-- ---- all of it

-- all that holds of one side
pub record IsSideSound (f : Flow) (p : Partition) (a b : Side) : Type 0 where
  pub incarnations : AreIncarnationsInOrder a b
  pub reports : AreReportsTrue a b
  pub counted : AreCountedCovered a b
  -- of the moves of a for b
  pub moves : IsOneMove f p a b
  -- of b as the newcomer
  pub catching : AreCatchingCovered a b

-- all that holds within a pair
pub record IsPairSound (f : Flow) (p : Partition) (a b : Side) : Type 0 where
  pub first : IsSideSound f p a b
  pub second : IsSideSound f p b a

-- every pair is sound, also of partitions that the plan hasn't; ingress has no pair
abbrev pub ArePairsSound : Flow → State → Type 0
ArePairsSound f s = (p : Partition) → 1 ≤ p.stage → IsPairSound f p (side_of s p A) (side_of s p B)

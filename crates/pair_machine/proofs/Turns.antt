-- The turns of a pair: the ways in which one side's replica or its controller changes a pair.
use Rattle.std.proofs.Common.{◌≡◌, ◌⊎◌, ◌<◌, ◌≤◌, ℕ, Bool, true, false, List, [], ◌∷◌, ◌++◌, None, Some, ◌+◌}
use Rattle.std.specs.Prelude.{max}
use Rattle.tuple_edge.specs.declared.status.Status.TheVariants as status
use Rattle.pair_machine.specs.Consumers.{telling, with_at}
use Rattle.pair_machine.specs.Controllers.{is_down}
use Rattle.pair_machine.specs.Flow.{Flow}
use Rattle.pair_machine.specs.Lists.{Among}
use Rattle.pair_machine.specs.Messages.{AskBack, AskStop, Begin, Caught, Chunk, ChunkEnd, Down, Lead, Message, Report, Serve, Stop}
use Rattle.pair_machine.specs.Numbers.{Consumer, Gathering, GatheringNumbers, Gone, Move, MoveNumbers, Partition, Producer, Replica, Running, RunningNumbers, Watched}
use Rattle.pair_machine.specs.Pairs.{Side}
use Rattle.pair_machine.specs.Replicas.{begun, caught_up, inc_of, size}
use Rattle.tuple_edge.specs.declared.node.EdgeId.{EdgeId}

abbrev pub side : Replica → Watched → List Message → List Message → List Message → Side
side r h up down across = record { replica = r; watched = h; up = up; down = down; across = across }

abbrev pub gathering : ℕ → GatheringNumbers
gathering i = record { inc = i; taken = 0; moved = None; held = λ q. [] }

-- one side's turn, and what it leaves of both sides
pub data Turn (f : Flow) (p : Partition) (kill stop : Bool) : Side → Side → Side → Side → Type 0 where
  -- the replica
  runs : (x : RunningNumbers) (t : Consumer) (s : Producer) (h : Watched) (up down across : List Message) (b : Side) →
      ((q : ℕ) → x.consumer.marks q ≤ t.marks q) →
      Turn f p kill stop (side (Running x) h up down across) b (side (Running (record x { consumer = t; producer = s })) h up down across) b
  tells : (x : RunningNumbers) (e : EdgeId) (h : Watched) (up down across : List Message) (b : Side) →
      Turn f p kill stop (side (Running x) h up down across) b
      (side (Running (record x { consumer = telling x.consumer e.from })) h (up ++ Report x.inc e (x.consumer.marks e.from) ∷ []) down across) b
  asks_stop : (x : RunningNumbers) (h : Watched) (up down across : List Message) (b : Side) → stop ≡ true →
      Turn f p kill stop (side (Running x) h up down across) b (side (Running x) h (up ++ AskStop x.inc ∷ []) down across) b
  asks_back : (x : RunningNumbers) (h : Watched) (up down across : List Message) (b : Side) →
      Turn f p kill stop (side (Running x) h up down across) b (side (Running x) h (up ++ AskBack ∷ []) down across) b
  serves : (x : RunningNumbers) (target : ℕ) (h : Watched) (up down across : List Message) (b : Side) →
      Among (Serve x.inc target) down → x.served < target →
      Turn f p kill stop (side (Running x) h up down across) b (side (Running (begun target x)) h up down across) b
  gives : (x : RunningNumbers) (mv : Move) (h : Watched) (up down across : List Message) (b : Side) → x.move ≡ Some mv →
      Turn f p kill stop (side (Running x) h up down across) b
      (side (Running (record x { move = Some (record mv { sent = mv.sent + 1 }) })) h up down (across ++ Chunk mv.target (mv.sent + 1) mv.numbers ∷ [])) b
  ends : (x : RunningNumbers) (mv : Move) (h : Watched) (up down across : List Message) (b : Side) → x.move ≡ Some mv →
      Turn f p kill stop (side (Running x) h up down across) b
      (side (Running (record x { move = None })) h up down (across ++ ChunkEnd mv.target (size f p mv.numbers) mv.numbers ∷ [])) b
  dies : (r : Replica) (h : Watched) (up down across : List Message) (b : Side) → kill ≡ true →
      Turn f p kill stop (side r h up down across) b (side (Gone (inc_of r)) h (up ++ Down (inc_of r) ∷ []) down across) b
  halts : (r : Replica) (h : Watched) (up down across : List Message) (b : Side) → Among (Stop (inc_of r)) down →
      Turn f p kill stop (side r h up down across) b (side (Gone (inc_of r)) h up down across) b
  begins : (r : Replica) (i : ℕ) (h : Watched) (up down across : List Message) (b : Side) → Among (Begin i) down → inc_of r < i →
      Turn f p kill stop (side r h up down across) b (side (Gathering (gathering i)) h up down across) b
  holds : (g : GatheringNumbers) (held : ℕ → List ℕ) (h : Watched) (up down across : List Message) (b : Side) →
      Turn f p kill stop (side (Gathering g) h up down across) b (side (Gathering (record g { held = held })) h up down across) b
  gathers : (g : GatheringNumbers) (m : MoveNumbers) (h : Watched) (up down across : List Message) (b : Side) → Among (Chunk g.inc (g.taken + 1) m) b.across →
      Turn f p kill stop (side (Gathering g) h up down across) b (side (Gathering (record g { taken = g.taken + 1; moved = Some m })) h up down across) b
  catches : (g : GatheringNumbers) (m : MoveNumbers) (h : Watched) (up down across : List Message) (b : Side) → Among (ChunkEnd g.inc g.taken m) b.across →
      Turn f p kill stop (side (Gathering g) h up down across) b (side (Running (caught_up g.inc m g.held)) h (up ++ Caught g.inc ∷ []) down across) b
  -- the controller
  hears : (r : Replica) (h : Watched) (up down across : List Message) (b : Side) (e : EdgeId) (k : ℕ) → is_down h.status ≡ false → Among (Report h.inc e k) up →
      Turn f p kill stop (side r h up down across) b
      (side r (record h { reports = with_at h.reports e.from (max (h.reports e.from) k) }) up down across) b
  flags : (r : Replica) (h : Watched) (up down across : List Message) (b : Side) (wanted back : Bool) → (wanted ≡ true → (h.stop ≡ true) ⊎ Among (AskStop h.inc) up) →
      Turn f p kill stop (side r h up down across) b (side r (record h { stop = wanted; back = back }) up down across) b
  raises : (r : Replica) (h : Watched) (up down across : List Message) (b : Side) → h.status ≡ status.Catching → Among (Caught h.inc) up →
      Turn f p kill stop (side r h up down across) b (side r (record h { status = status.Up }) up down across) b
  names : (r : Replica) (h : Watched) (up down across : List Message) (b : Side) (term : ℕ) →
      Turn f p kill stop (side r h up down across) b (side r h up (down ++ Lead h.inc term ∷ []) across) b
  downs : (r : Replica) (h : Watched) (up down across : List Message) (b : Side) → Among (Down h.inc) up ⊎ ((h.stop ≡ true) × (h.status ≡ status.Up) × (b.watched.status ≡ status.Up)) →
      Turn f p kill stop (side r h up down across) b (side r (record h { status = status.Down; stop = false }) up down across) b
  stops : (r : Replica) (h : Watched) (up down across : List Message) (b : Side) → h.status ≡ status.Down →
      Turn f p kill stop (side r h up down across) b (side r h up (down ++ Stop h.inc ∷ []) across) b
  backs : (r : Replica) (h : Watched) (up down across : List Message) (b : Side) → h.status ≡ status.Down → b.watched.status ≡ status.Up →
      Turn f p kill stop (side r h up down across) b
      (side r (record { status = status.Catching; inc = h.inc + 1; reports = b.watched.reports; stop = h.stop; back = false }) up (down ++ Begin (h.inc + 1) ∷ []) across)
      (record b { down = b.down ++ Serve b.watched.inc (h.inc + 1) ∷ [] })

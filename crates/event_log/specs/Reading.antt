-- How a log is read: what each entry stands for, after those before it.
use Rattle.std.specs.Prelude.{◌≡◌, ℕ, ◌+◌, ◌-◌, ◌^◌, ◌<◌, List, [], ◌∷◌, ◌++◌, length, min, nat_eq, Option, Some, None, IfSome, if◌then◌else◌, slice_index_or, unwrap_or, Vec, vec_capacity, vec_len, ◌≤◌}
use Rattle.tuple_edge.specs.declared.event.Event.{Event}
use Rattle.tuple_edge.specs.declared.event.Event.TheVariants as event
use Rattle.tuple_edge.specs.declared.event.Stamped.{Stamped}
use Rattle.tuple_edge.specs.declared.node.NodeId.{NodeId}
use Rattle.event_log.specs.declared.entry.Entry.{Entry}
use Rattle.event_log.specs.declared.entry.Entry.TheVariants as entry
use Rattle.event_log.specs.Views.{EntriesView, SendersView}

-- what entries speak of: the log's node, its senders by their places, and the events that stand whole
pub record Names : Type 0 where
  pub node : NodeId
  pub senders : List NodeId
  pub whole : List Stamped

-- how far a log was read: the clock, the index of the last take from each sender by its place, and how many whole events were met
pub record Progress : Type 0 where
  pub clock : ℕ
  pub taken : ℕ → ℕ
  pub used : ℕ

-- nothing was read
abbrev pub at_start : Progress
at_start = record { clock = 0; taken = λ sender. 0; used = 0 }

-- these numbers by their places, and 0 beyond them
abbrev pub by_place : List ℕ → ℕ → ℕ
by_place numbers = λ place. slice_index_or numbers place 0

-- so much later; clocks and indexes are numbers of 64 bits
abbrev pub later : ℕ → ℕ → ℕ
later n rise = min (n + rise) (2 ^ 64 - 1)

-- what an entry stands for that needs no whole event
abbrev pub short_meaning : NodeId → List NodeId → ℕ → (ℕ → ℕ) → Entry → Option Stamped
short_meaning node senders clock taken (entry.Work rise) = Some (record { clock = later clock rise; event = event.Work node })
short_meaning node senders clock taken (entry.Make rise) = Some (record { clock = later clock rise; event = event.Make })
short_meaning node senders clock taken (entry.Take sender rise) = Some (record {
  clock = later clock rise;
  event = event.Take (record { «from» = slice_index_or senders sender node; to = node }) (later (taken sender) 1);
})
short_meaning node senders clock taken (entry.Jump sender) = None
short_meaning node senders clock taken entry.Whole = None

-- what an entry stands for
abbrev pub meaning : Names → Progress → Entry → Stamped
meaning names now e = unwrap_or (short_meaning names.node names.senders now.clock now.taken e) (slice_index_or names.whole now.used (record { clock = 0; event = event.Make }))

-- an event's index; 0 where it has none
abbrev pub index_of : Event → ℕ
index_of (event.Take link index) = index
index_of (event.Work node) = 0
index_of event.Make = 0
index_of (event.Kill node) = 0
index_of (event.AskStop node) = 0
index_of (event.AskBack node) = 0
index_of (event.Pull source target) = 0

-- numbers by their places, one of them new
abbrev pub noted : ℕ → ℕ → (ℕ → ℕ) → ℕ → ℕ
noted place n numbers = λ other. if nat_eq other place then n else numbers other

-- the indexes of the last takes, after an entry that stands for this event
abbrev pub counted : Entry → Event → (ℕ → ℕ) → ℕ → ℕ
counted (entry.Work rise) e taken = taken
counted (entry.Make rise) e taken = taken
counted (entry.Take sender rise) e taken = noted sender (index_of e) taken
counted (entry.Jump sender) e taken = noted sender (index_of e) taken
counted entry.Whole e taken = taken

-- how many whole events an entry needs
abbrev pub needed : Entry → ℕ
needed (entry.Work rise) = 0
needed (entry.Make rise) = 0
needed (entry.Take sender rise) = 0
needed (entry.Jump sender) = 1
needed entry.Whole = 1

-- the whole event that an entry needs
abbrev pub whole_of : Entry → Stamped → List Stamped
whole_of (entry.Work rise) stamped = []
whole_of (entry.Make rise) stamped = []
whole_of (entry.Take sender rise) stamped = []
whole_of (entry.Jump sender) stamped = stamped ∷ []
whole_of entry.Whole stamped = stamped ∷ []

-- how far a log was read, after one more entry that stands for this event
abbrev pub after_event : Progress → Entry → Stamped → Progress
after_event now e stamped = record { clock = stamped.clock; taken = counted e stamped.event now.taken; used = now.used + needed e }

-- the same, where the entry stands for the event that it means
abbrev pub after_entry : Names → Progress → Entry → Progress
after_entry names now e = after_event now e (meaning names now e)

-- how far a log was read, after entries
abbrev pub after_all : Names → Progress → List Entry → Progress
after_all names now [] = now
after_all names now (e ∷ es) = after_all names (after_entry names now e) es

-- what entries stand for, in order
abbrev pub reading : Names → Progress → List Entry → List Stamped
reading names now [] = []
reading names now (e ∷ es) = meaning names now e ∷ reading names (after_entry names now e) es

-- an entry names one of so many senders, if it names any
abbrev pub IsKnown : ℕ → Entry → Type 0
IsKnown senders (entry.Work rise) = Unit {0}
IsKnown senders (entry.Make rise) = Unit {0}
IsKnown senders (entry.Take sender rise) = sender < senders
IsKnown senders (entry.Jump sender) = sender < senders
IsKnown senders entry.Whole = Unit {0}

-- entries name these senders, and need all whole events that are there beyond those that were met
abbrev pub AreKnown : ℕ → ℕ → ℕ → List Entry → Type 0
AreKnown senders used whole [] = used ≡ whole
AreKnown senders used whole (e ∷ es) = IsKnown senders e × AreKnown senders (used + needed e) whole es

-- the entries of a log were read as far as this, with no whole event left
pub record IsReadTo (names : Names) (entries : List Entry) (now : Progress) : Type 0 where
  pub known : AreKnown (length names.senders) 0 (length names.whole) entries
  pub progress : after_all names at_start entries ≡ now

-- the names that a log's node, senders and whole events make
abbrev pub names_of : NodeId → List NodeId → List Stamped → Names
names_of node senders whole = record { node = node; senders = senders; whole = whole }

-- how far was read where this is the clock, these are the last takes by their places, and so many whole events were met
abbrev pub progress_of : ℕ → List ℕ → ℕ → Progress
progress_of clock taken used = record { clock = clock; taken = by_place taken; used = used }

-- entries can be read on: they name senders whose takes are counted, and whole events that are there
pub record CanBeRead (senders : List NodeId) (whole : List Stamped) (taken : List ℕ) (used : ℕ) (entries : List Entry) : Type 0 where
  pub known : AreKnown (length senders) used (length whole) entries
  pub counted : length taken ≡ length senders

-- an entry of an event that is no take from one of the senders
abbrev pub IsPlain : NodeId → Option ℕ → Event → Entry → Type 0
IsPlain node risen e (entry.Work rise) = (risen ≡ Some rise) × (e ≡ event.Work node)
IsPlain node risen e (entry.Make rise) = (risen ≡ Some rise) × (e ≡ event.Make)
IsPlain node risen e (entry.Take sender rise) = ⊥
IsPlain node risen e (entry.Jump sender) = ⊥
IsPlain node risen e entry.Whole = Unit {0}

-- an entry of a take with this index from the sender at this place, whose last take had the index `last`
abbrev pub IsTake : ℕ → ℕ → Option ℕ → ℕ → Entry → Type 0
IsTake place last risen index (entry.Work rise) = ⊥
IsTake place last risen index (entry.Make rise) = ⊥
IsTake place last risen index (entry.Take sender rise) = (sender ≡ place) × (risen ≡ Some rise) × (index ≡ later last 1)
IsTake place last risen index (entry.Jump sender) = sender ≡ place
IsTake place last risen index entry.Whole = ⊥

-- an entry stands for an event, where so far the clock and the senders were these; and after it the senders are those
pub record Continues (node : NodeId) (before : SendersView) (clock : ℕ) (e : Entry) (stamped : Stamped) (after : SendersView) : Type 0 where
  pub more : List NodeId
  pub nodes : after.nodes ≡ before.nodes ++ more
  pub known : IsKnown (length after.nodes) e
  pub means : IfSome (short_meaning node after.nodes clock (by_place before.taken) e) (λ m. m ≡ stamped)
  pub taken : by_place after.taken ≡ counted e stamped.event (by_place before.taken)

-- an entry stands for the take of a packet from this sender, whichever node took it, where so far the senders were these and the clock rose by so much; and
-- after it the senders are those
abbrev pub ContinuesTake : SendersView → NodeId → Option ℕ → ℕ → Entry → SendersView → Type 0
ContinuesTake before sender risen index e after = (node : NodeId) (clock now : ℕ) → IfSome risen (λ rise. now ≡ later clock rise)
    → Continues node before clock e (record { clock = now; event = event.Take (record { «from» = sender; to = node }) index }) after

-- the entries of a log, one for each event, were read to its clock and its senders' last takes, and its lists have room for so many more
pub record IsLog {Z : Type 0} (node : NodeId) (senders : SendersView) (clock events room : ℕ) (entries : EntriesView) (whole : Vec Stamped Z) : Type 0 where
  pub read : IsReadTo (names_of node senders.nodes whole.items) entries.entries (progress_of clock senders.taken (length whole.items))
  pub counted : length entries.entries ≡ events
  pub countable : events + room < 2 ^ 64
  pub senders_fit : room ≤ senders.spare
  pub entries_fit : room ≤ entries.spare
  pub whole_fit : vec_len whole + room ≤ vec_capacity whole

-- A list of events cut into columns, and the frame at the end of each.
use Rattle.std.specs.Prelude.{◌≤◌, ◌≡◌, ℕ, zero, suc, List, [], ◌∷◌, ◌++◌, Result, Ok, Err, ◌+◌, drop, length, min, take}
use Rattle.std.specs.Int.{div_ceil}
use Rattle.std.specs.List.{flat_map}
use Rattle.tuple_edge.specs.declared.node.Which.TheVariants.{A, B}
use Rattle.tuple_edge.specs.Input.{Input}
use Rattle.plan_reader.specs.PlanView.{PlanView}
use Rattle.pair_machine.specs.Counts.{flow_of}
use Rattle.pair_machine.specs.Drain.{pairs_up_to}
use Rattle.pair_machine.specs.Flow.{Flow}
use Rattle.pair_machine.specs.Machine.{Leads, State, follow}
use Rattle.pair_machine.specs.Messages.{Refusal}
use Rattle.pair_machine.specs.Numbers.{Partition, replica_at}
use Rattle.run_journal.specs.declared.lined.Lined.{Lined}
use Rattle.flux_core.specs.Follows.{events_of}
use Rattle.run_watch.specs.FrameView.{FrameView}
use Rattle.run_watch.specs.Glimpses.{glimpse_of, mode_of}
use Rattle.run_watch.specs.Watching.{emitted_in, made_in}
use Rattle.run_watch.specs.declared.mode.Mode.{Mode}

-- ---- columns

-- how many of n events the first of so many columns has: the columns share them equally, and the first ones have one more where they don't
-- come out even
abbrev pub share : (n columns : ℕ) → ℕ
share n zero = 0
share n (suc c) = div_ceil n (suc c)

-- a list cut into so many columns
abbrev pub cut : {X : Type 0} → (columns : ℕ) → List X → List (List X)
cut zero xs = []
cut (suc c) xs = take (share (length xs) (suc c)) xs ∷ cut c (drop (share (length xs) (suc c)) xs)

-- how many columns a list has: so many, or one an event where there are fewer events
abbrev pub columns_of : {X : Type 0} → (most : ℕ) → List X → ℕ
columns_of most xs = min most (length xs)

-- ---- frames

-- the modes of a pair's replicas, A before B
abbrev pub pair_modes : Flow → State → Partition → List Mode
pair_modes f s p = mode_of (glimpse_of f s (replica_at p A)) ∷ mode_of (glimpse_of f s (replica_at p B)) ∷ []

-- the modes of all replicas, in node order
abbrev pub modes_in : Flow → State → List Mode
modes_in f s = flat_map (pair_modes f s) (pairs_up_to f f.stages)

module _ (plan : PlanView) (inputs : List Input) where
  -- the frame of a state that is reached after so many events
  abbrev pub frame_in : (place : ℕ) → State → FrameView
  frame_in place s = record { place = place; modes = modes_in (flow_of plan inputs) s; made = made_in s; emitted = emitted_in plan inputs s }

  -- the same, where a state is reached
  abbrev pub frame_at : (place : ℕ) → Result State Refusal → List FrameView
  frame_at place (Ok s) = frame_in place s ∷ []
  frame_at place (Err why) = []

  -- the frames at the ends of columns, where so many events came before the first one
  abbrev pub frames_along : (place : ℕ) → List (List Lined) → Result State Refusal → List FrameView
  frames_along place [] r = []
  frames_along place (c ∷ cs) r =
      let next = follow (flow_of plan inputs) (events_of c) r in
      frame_at (place + length c) next ++ frames_along (place + length c) cs next

  -- the frames of a whole list in at most so many columns, from a state
  abbrev pub frames_from : (most : ℕ) → State → List Lined → List FrameView
  frames_from most s lines = frames_along 0 (cut (columns_of most lines) lines) (Ok s)

-- The last frame is that of the state which the whole list reaches, after all its events, whatever the number of columns; so its modes and
-- counts are those of that state.
abbrev pub LastFramesAreOfTheEnd : Type 0
LastFramesAreOfTheEnd = (plan : PlanView) (inputs : List Input) (most : ℕ) (s t : State) (lines : List Lined) → 1 ≤ most → 1 ≤ length lines → Leads (flow_of plan inputs) s (events_of lines) t
    → (front : List FrameView) × (frames_from plan inputs most s lines ≡ front ++ frame_in plan inputs (length lines) t ∷ [])

-- The last frame is that of the state which the whole list reaches.
use Rattle.std.proofs.Common.{◌≡◌, ◌∙◌, ◌+◌, ◌-◌, ℕ, zero, suc, List, [], ◌∷◌, ◌++◌, Ok, Result, append_assoc, append-nil, drop, length, length-append, sym, take, ap, arith}
use Rattle.std.proofs.Math.Seq.{take-length}
use Rattle.std.proofs.lemmas.List.{take-append-drop}
use Rattle.tuple_edge.specs.Input.{Input}
use Rattle.plan_reader.specs.PlanView.{PlanView}
use Rattle.pair_machine.specs.Counts.{flow_of}
use Rattle.pair_machine.specs.Machine.{State, follow}
use Rattle.pair_machine.specs.Messages.{Refusal}
use Rattle.pair_machine.proofs.Legal.{follow_append}
use Rattle.run_journal.specs.declared.lined.Lined.{Lined}
use Rattle.flux_core.specs.Follows.{events_of}
use Rattle.run_watch.specs.Columns.{LastFramesAreOfTheEnd, columns_of, cut, frame_at, frame_in, frames_along, share}
use Rattle.run_watch.specs.FrameView.{FrameView}
use Rattle.run_watch.proofs.Framed.{share_last}
use Rattle.run_watch.proofs.SeenLaws.{events_joined}

module _ (plan : PlanView) (inputs : List Input) where
  EndsAt : ℕ → State → List FrameView → Type 0
  EndsAt place t frames = (front : List FrameView) × (frames ≡ front ++ frame_in plan inputs place t ∷ [])

  last_along : (c : ℕ) (xs : List Lined) (place : ℕ) (r : Result State Refusal) (t : State) → follow (flow_of plan inputs) (events_of xs) r ≡ Ok t → EndsAt (place + length xs) t (frames_along plan inputs place (cut (suc c) xs) r)
  unfolding EndsAt
  last_along zero xs place r t reached =
      let f = flow_of plan inputs in
      let all : take (share (length xs) 1) xs ≡ xs = ap (λ n. take n xs) (share_last (length xs)) ∙ take-length xs in (
        [],
        append-nil (frame_at plan inputs (place + length (take (share (length xs) 1) xs)) (follow f (events_of (take (share (length xs) 1) xs)) r))
            ∙ (λ j. frame_at plan inputs (place + length (all j)) (follow f (events_of (all j)) r))
            ∙ ap (frame_at plan inputs (place + length xs)) reached,
      )
  last_along (suc c) xs place r t reached =
      let f = flow_of plan inputs in
      let k = share (length xs) (suc (suc c)) in
      let column = take k xs in
      let rest = drop k xs in
      let next = follow f (events_of column) r in
      let later : follow f (events_of rest) next ≡ Ok t =
      sym (follow_append f (events_of column) (events_of rest) r) ∙ ap (λ es. follow f es r) (sym (events_joined column rest) ∙ ap events_of (take-append-drop k xs)) ∙ reached in
      let z = last_along c rest (place + length column) next t later in
      let here = frame_at plan inputs (place + length column) next in
      let lengths : length column + length rest ≡ length xs = sym (length-append column rest) ∙ ap length (take-append-drop k xs) in
      let whole : place + length column + length rest ≡ place + length xs = omega (arith, lengths) in (
        here ++ z.0,
        ap (λ fs. here ++ fs) z.1 ∙ sym (append_assoc here z.0 (frame_in plan inputs (place + length column + length rest) t ∷ []))
            ∙ ap (λ n. here ++ z.0 ++ frame_in plan inputs n t ∷ []) whole,
      )

pub last_frames : LastFramesAreOfTheEnd
unfolding EndsAt
last_frames plan inputs most s t lines some_column some_event reached =
    let count : columns_of most lines ≡ suc (columns_of most lines - 1) = omega arith in
    let z = last_along plan inputs (columns_of most lines - 1) lines 0 (Ok s) t reached in
    let place : 0 + length lines ≡ length lines = omega arith in
    (z.0, ap (λ n. frames_along plan inputs 0 (cut n lines) (Ok s)) count ∙ z.1 ∙ ap (λ n. z.0 ++ frame_in plan inputs n t ∷ []) place)

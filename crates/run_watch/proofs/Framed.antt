-- The frames come column by column.
use Rattle.std.proofs.Common.{◌≡◌, ◌∙◌, ◌≤◌, ◌+◌, ◌*◌, ℕ, zero, suc, List, [], ◌∷◌, ◌++◌, Ok, drop, length, length-drop, refl, sym, take, ap, arith}
use Rattle.std.specs.Prelude.{◌/◌}
use Rattle.std.proofs.Math.Nat.{div-one, le-mul_of_pos_right}
use Rattle.std.proofs.lemmas.Nat.{div-add-mod'}
use Rattle.tuple_edge.specs.Input.{Input}
use Rattle.tuple_edge.specs.declared.node.NodeId.TheVariants as node
use Rattle.plan_reader.specs.PlanView.{PlanView}
use Rattle.pair_machine.specs.Counts.{flow_of}
use Rattle.pair_machine.specs.Machine.{State, follow}
use Rattle.pair_machine.proofs.Legal.{follow_append}
use Rattle.run_journal.specs.declared.lined.Lined.{Lined}
use Rattle.flux_core.specs.Follows.{events_of}
use Rattle.flux_core.proofs.Sendings.{length-take-of}
use Rattle.run_watch.specs.Columns.{cut, frame_at, frame_in, frames_along, share}
use Rattle.run_watch.specs.FrameView.{FrameView}
use Rattle.run_watch.proofs.SeenLaws.{events_joined}

pub share_most : (n c : ℕ) → share n (suc c) ≤ n
share_most n c =
    let low : n / suc c ≤ n / suc c * suc c = le-mul_of_pos_right {m = suc c} (n / suc c) (omega arith) in
    omega (arith, div-add-mod' n (suc c), low)

pub share_last : (n : ℕ) → share n 1 ≡ n
share_last n = omega (arith, div-one n)

take_none : {X : Type 0} (k : ℕ) → take {A = X} k [] ≡ []
take_none zero = refl
take_none (suc k) = refl

drop_none : {X : Type 0} (k : ℕ) → drop {A = X} k [] ≡ []
drop_none zero = refl
drop_none (suc k) = refl

pub take_further : {X : Type 0} (xs : List X) (i k : ℕ) → take (i + k) xs ≡ take i xs ++ take k (drop i xs)
take_further xs zero k = ap (λ n. take n xs) {x = zero + k} {y = k} (omega arith)
take_further [] (suc i) k = take_none (suc i + k) ∙ sym (take_none k)
take_further (x ∷ xs) (suc i) k = ap (λ n. take n (x ∷ xs)) {x = suc i + k} {y = suc (i + k)} (omega arith) ∙ ap (λ r. x ∷ r) (take_further xs i k)

drop_further : {X : Type 0} (xs : List X) (i k : ℕ) → drop k (drop i xs) ≡ drop (i + k) xs
drop_further xs zero k = ap (λ n. drop n xs) {x = k} {y = zero + k} (omega arith)
drop_further [] (suc i) k = drop_none k ∙ sym (drop_none (suc i + k))
drop_further (x ∷ xs) (suc i) k = drop_further xs i k ∙ ap (λ n. drop n (x ∷ xs)) {x = suc (i + k)} {y = suc i + k} (omega arith)

-- what is left of frames, once the first so many events have come and so many columns are to come
abbrev pub frames_left : (plan : PlanView) (inputs : List Input) (events : List Lined) (s : State) (start left : ℕ) → List FrameView
frames_left plan inputs events s start left =
    frames_along plan inputs start (cut left (drop start events)) (follow (flow_of plan inputs) (events_of (take start events)) (Ok s))

module _ (plan : PlanView) (inputs : List Input) (events : List Lined) (s : State) where
  pub next_column : (start left k : ℕ) → start + k ≤ length events → k ≡ share (length (drop start events)) (suc left) → (t : State)
      → follow (flow_of plan inputs) (events_of (take (start + k) events)) (Ok s) ≡ Ok t
      → frames_left plan inputs events s start (suc left) ≡ frame_in plan inputs (start + k) t ∷ frames_left plan inputs events s (start + k) left
  next_column start left k within is t reached =
      let f = flow_of plan inputs in
      let column = take k (drop start events) in
      let before = follow f (events_of (take start events)) (Ok s) in
      let many : length column ≡ k = length-take-of (drop start events) k (omega (arith, within, length-drop start events)) in
      let next : follow f (events_of column) before ≡ Ok t =
      sym (follow_append f (events_of (take start events)) (events_of column) (Ok s))
      ∙ ap (λ es. follow f es (Ok s)) (sym (events_joined (take start events) column) ∙ ap events_of (sym (take_further events start k))) ∙ reached in
      let after : follow f (events_of column) before ≡ follow f (events_of (take (start + k) events)) (Ok s) = next ∙ sym reached in
      let shared : share (length (drop start events)) (suc left) ≡ k = sym is in
      (λ j. frames_along plan inputs start (take (shared j) (drop start events) ∷ cut left (drop (shared j) (drop start events))) before)
      ∙ (λ j. frame_at plan inputs (start + many j) (next j) ++ frames_along plan inputs (start + many j) (cut left (drop_further events start k j)) (after j))

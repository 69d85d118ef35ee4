-- What each partition did is what all did.
use Rattle.std.proofs.Common.{ℕ, ◌≡◌, ◌<◌, ◌||◌, zero, suc, Bool, true, false, List, [], ◌∷◌, ◌++◌, length, refl, sym, subst, ◌∙◌, arith, get_or}
use Rattle.std.specs.List.{All, list_any}
use Rattle.std.proofs.lemmas.Bool.{false≢true}
use Rattle.std.proofs.lemmas.List.{get_or-map, length-map}
use Rattle.std.proofs.lemmas.List.Elements.{All-from_get_or, All-nil}
use Rattle.tuple_edge.specs.declared.row.Row.{Row}
use Rattle.stream_ops.specs.State.{StateView}
use Rattle.plan_reader.specs.declared.stage.Stage.{Stage}
use Rattle.bucket_move.specs.ByKey.{is_keyed}
use Rattle.bucket_move.specs.Limits.{buckets}
use Rattle.bucket_move.specs.Working.{AllAnswered, AllHold, Holds, Works, first_answers, kept_in, picked, places_of, queues_in}
use Rattle.bucket_move.specs.declared.partition.Partition.{Partition}
use Rattle.bucket_move.specs.declared.partition.Place.{Place}

-- a test that no element passes fails at each
none_passes : {X : Type 0} (test : X → Bool) (xs : List X) (i : ℕ) (d : X) → list_any test xs ≡ false → i < length xs → test (get_or xs i d) ≡ false
none_passes test [] i d none below = absurd (omega arith)
none_passes test (x ∷ xs) zero d none below = left (test x) (list_any test xs) none
  where
    left : (a b : Bool) → (a || b) ≡ false → a ≡ false
    left true b e = absurd (false≢true (sym e))
    left false b e = refl
none_passes test (x ∷ xs) (suc i) d none below = none_passes test xs i d (right (test x) (list_any test xs) none) (omega arith)
  where
    right : (a b : Bool) → (a || b) ≡ false → b ≡ false
    right true b e = absurd (false≢true (sym e))
    right false b e = e

-- an element of a list that has one
some_of : {X : Type 0} (xs : List X) (i : ℕ) → i < length xs → X
some_of [] i below = absurd (omega arith)
some_of (x ∷ xs) i below = x

pub all_from : {X : Type 0} (P : X → Type 0) (xs : List X) → ((i : ℕ) (d : X) → i < length xs → P (get_or xs i d)) → All P xs
all_from P [] each = All-nil P
all_from P (x ∷ xs) each = All-from_get_or P (x ∷ xs) x (λ i below. each i x below)

-- each partition worked
abbrev pub AllWorked : List Row → List Place → List Partition → List Partition → Type 0
AllWorked rows places parts new = (part : ℕ) (d : Partition) → part < length parts → Works part rows places (get_or parts part d) (get_or new part d)

module _ (rows : List Row) (places : List Place) (parts new : List Partition) (as_many : length new ≡ length parts) (worked : AllWorked rows places parts new) where
  pub slots_after : All (λ p. length p.states.items ≡ buckets) new
  slots_after = all_from (λ p. length p.states.items ≡ buckets) new (λ i d below. (worked i d (subst (λ (n : ℕ). i < n) as_many below)).slots)

  module _ (ran : list_any (λ p. p.failed) new ≡ false) (stage : Stage) (table : List ℕ) (before : List Row) (keyed : is_keyed stage.by stage.op ≡ true) (placed : places ≡ places_of stage.by table rows)
      (held : AllHold stage table before (kept_in parts)) where
    one : (part : ℕ) (d : Partition) → part < length new
        → Holds stage table part (before ++ rows) (get_or new part d).states.items × ((get_or new part d).answers.items ≡ picked part places (first_answers stage.op before rows))
    one part d below =
        let there : part < length parts = subst (λ (n : ℕ). part < n) as_many below in
        let kept_there : part < length (kept_in parts) = subst (λ (n : ℕ). part < n) (sym (length-map parts (λ p. p.states.items))) there in
        let had : Holds stage table part before (get_or parts part d).states.items =
        subst (λ (states : List StateView). Holds stage table part before states) (get_or-map (λ p. p.states.items) parts part d [] there) (held part kept_there) in
        (worked part d there).works (none_passes (λ p. p.failed) new part d ran below) stage table before keyed placed had

    pub all_worked : AllHold stage table (before ++ rows) (kept_in new) × AllAnswered places (first_answers stage.op before rows) (queues_in new)
    all_worked = (
      λ part below.
          let there : part < length new = subst (λ (n : ℕ). part < n) (length-map new (λ p. p.states.items)) below in
          let d : Partition = some_of new part there in
          subst (λ (states : List StateView). Holds stage table part (before ++ rows) states) (sym (get_or-map (λ p. p.states.items) new part d [] there)) (one part d there).0,
      λ part below.
          let there : part < length new = subst (λ (n : ℕ). part < n) (length-map new (λ p. p.answers.items)) below in
          let d : Partition = some_of new part there in
          get_or-map (λ p. p.answers.items) new part d [] there ∙ (one part d there).1,
    )

-- What the rule comes to, over every state of every board that it allows.
use Rattle.std.specs.Prelude.{◌≡◌, ℕ, ◌<◌, ◌≤◌, true, false, ◌⊎◌, List, length, Option}
use mathlib.Core.Option.{some, none}
use lib.ListN.{get_elem?}
use Rattle.atomic_table.specs.Table.{State}
use Rattle.claim_board.specs.declared.view.SeatView.{SeatView}
use Rattle.claim_board.specs.Lists.{is_in}
use Rattle.claim_board.specs.Rule.{IsLive, has_number, IsHome, BoardRule}

module _ {T : Type 0} where
  -- no live seat holds place k
  abbrev pub NoneHolds : List (SeatView T) → ℕ → Type 0
  NoneHolds views k = (j : ℕ) (v : SeatView T) → IsLive views j v → is_in k v.holds ≡ false

  -- one live seat holds place k, and no other
  abbrev pub OneHolds : List (SeatView T) → ℕ → Type 0
  OneHolds views k = (j : ℕ) × (v : SeatView T) × IsLive views j v × (is_in k v.holds ≡ true) × ((i : ℕ) (w : SeatView T) → IsLive views i w → is_in k w.holds ≡ true → i ≡ j)

module _ {T Name : Type 0} (name : T → Name) where
  -- each place's value is at home with its name and no seat holds the place, or it isn't at home and one seat alone holds it
  abbrev pub EachIsOnce : Type 0
  EachIsOnce = (opening : List T) (seats : ℕ) (s : State (Option T) (SeatView T)) → BoardRule name opening seats s → (k : ℕ) → k < length opening
      → (IsHome name opening s.homes k × NoneHolds s.views k) ⊎ ((get_elem? s.homes k ≡ some none) × OneHolds s.views k)

  -- a live seat that has every number of the board is the only live one
  abbrev pub AllJoinedIsAlone : Type 0
  AllJoinedIsAlone = (opening : List T) (seats : ℕ) (s : State (Option T) (SeatView T)) → BoardRule name opening seats s → (id : ℕ) (v : SeatView T) → IsLive s.views id v → ((m : ℕ) → 0 < m → m ≤ seats → has_number m v ≡ true)
      → (j : ℕ) (w : SeatView T) → IsLive s.views j w → j ≡ id

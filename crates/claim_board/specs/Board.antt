-- What contracts see of a board and of its seats.
use Rattle.std.specs.Prelude.{◌≡◌, ℕ, ◌+◌, ◌<◌, ◌≤◌, Bool, true, false, ◌||◌, List, [], ◌∷◌, Option, Some}
use Rattle.claim_board.specs.declared.view.SeatView.{SeatView}
use Rattle.claim_board.specs.declared.board.Board.{Board}
use Rattle.claim_board.specs.declared.seat.BoardSeat.{BoardSeat}
use mathlib.Core.Option.{some}
use lib.ListN.{get_elem?}
use Rattle.claim_board.specs.Lists.{is_in}
use Rattle.claim_board.specs.Rule.{has_number, IsNamedAt}
use Rattle.claim_board.specs.Steps.{new_seat}

module _ {T : Type 0} where
  -- what the seat knows
  abbrev pub seat_view : BoardSeat T → SeatView T
  seat_view s = s.seat.me.0

  -- the values with which the board began: a place's name is that of its value here
  abbrev pub opening_of : Board T → List T
  opening_of b = b.table.shared.key.values.value.items

  -- how many seats the board has
  abbrev pub seats_of : Board T → ℕ
  seats_of b = b.table.shared.key.seats

  -- it is a seat of this board
  pub record IsSeatOf (b : Board T) (s : BoardSeat T) : Type 0 where
    pub table : s.seat.table_id ≡ b.table.shared.table_id
    pub opening : (seat_view s).opening ≡ opening_of b
    pub seats : (seat_view s).seats ≡ seats_of b

  -- the seat holds this place
  abbrev pub Holds : BoardSeat T → ℕ → Type 0
  Holds s k = is_in k (seat_view s).holds ≡ true

  -- the seat holds no place
  abbrev pub HoldsNone : BoardSeat T → Type 0
  HoldsNone s = (k : ℕ) → is_in k (seat_view s).holds ≡ false

  -- each of these seats holds no place
  abbrev pub AllHoldNone : List (BoardSeat T) → Type 0
  AllHoldNone seats = (j : ℕ) (s : BoardSeat T) → get_elem? seats j ≡ some s → HoldsNone s

  -- one of these seats has the number, as its own or joined into it
  abbrev pub any_has_number : ℕ → List (BoardSeat T) → Bool
  any_has_number m [] = false
  any_has_number m (s ∷ ss) = has_number m (seat_view s) || any_has_number m ss

  -- these are all seats of the board: each is one of its seats, and none of its numbers is missing
  pub record AreAll (b : Board T) (seats : List (BoardSeat T)) : Type 0 where
    pub each : (j : ℕ) (s : BoardSeat T) → get_elem? seats j ≡ some s → IsSeatOf b s
    pub numbers : (m : ℕ) → 0 < m → m ≤ seats_of b → any_has_number m seats ≡ true

  -- these are seats of a board just made, by rising number from 1
  abbrev pub AreNew : Board T → List (BoardSeat T) → Type 0
  AreNew b seats = (j : ℕ) (s : BoardSeat T) → get_elem? seats j ≡ some s → IsSeatOf b s × (seat_view s ≡ new_seat (opening_of b) (seats_of b) (j + 1))

  -- a seat after calls that gave back what they took: with its numbers, and with the places that it held before
  pub record IsBack (b : Board T) (old new : BoardSeat T) : Type 0 where
    pub seat : IsSeatOf b new
    pub number : (seat_view new).number ≡ (seat_view old).number
    pub joined : (seat_view new).joined ≡ (seat_view old).joined
    pub holds : (k : ℕ) → is_in k (seat_view new).holds ≡ is_in k (seat_view old).holds

  -- only the order of the places has changed
  pub record IsTurned (old new : BoardSeat T) : Type 0 where
    pub table : new.seat.table_id ≡ old.seat.table_id
    pub id : new.seat.id ≡ old.seat.id
    pub view : seat_view new ≡ seat_view old

-- slot k has a value with the name of place k
abbrev pub HasValue : {T Name : Type 0} → (T → Name) → List T → List (Option T) → ℕ → Type 0
HasValue name opening slots k = (x : _) × (get_elem? slots k ≡ some (Some x)) × IsNamedAt name opening k x

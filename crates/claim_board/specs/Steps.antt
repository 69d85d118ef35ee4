-- What a seat knows after each kind of step.
use Rattle.std.specs.Prelude.{◌≡◌, ◌≢◌, ℕ, ◌+◌, ◌<◌, ◌≤◌, Bool, true, false, ◌==◌, ◌||◌, ◌⊎◌, if◌then◌else◌, List, [], ◌∷◌, ◌++◌, Option, Some}
use Rattle.atomic_table.specs.Table.{Me, Step, rest}
use Rattle.claim_board.specs.declared.view.SeatView.{SeatView}
use Rattle.claim_board.specs.Lists.{without}
use Rattle.claim_board.specs.Rule.{has_number, IsNamedAt}

-- a seat's view and the slots that it has taken
abbrev pub Seated : Type 0 → Type 0
Seated T = Me (Option T) (SeatView T)

module _ {T : Type 0} where
  -- a seat of this number that has done nothing yet. The seat that splits off the others also knows how many were made
  abbrev pub fresh : List T → ℕ → ℕ → Bool → ℕ → SeatView T
  fresh opening seats number makes made = record {
    marker = record {};
    live = true;
    number = number;
    joined = [];
    holds = [];
    opening = opening;
    seats = seats;
    lost = 0;
    lost_place = 0;
    lost_owner = 0;
    loads = 0;
    last_load = 0;
    stored = false;
    makes = makes;
    made = made;
  }

  -- the first seat of a board, once so many seats were made
  abbrev pub first_seat : List T → ℕ → ℕ → SeatView T
  first_seat opening seats made = fresh opening seats 1 true made

  -- the seat of this number on a new board, all of whose seats were made by the first
  abbrev pub new_seat : List T → ℕ → ℕ → SeatView T
  new_seat opening seats number = if number == 1 then first_seat opening seats seats else fresh opening seats number false 0

  -- the seat has claimed place k
  abbrev pub with_place : ℕ → SeatView T → SeatView T
  with_place k v = record v { holds = k ∷ v.holds }

  -- the seat has given place k back
  abbrev pub without_place : ℕ → SeatView T → SeatView T
  without_place k v = record v { holds = without k v.holds }

  -- the seat has lost one more claim, of place k, to the seat of this number
  abbrev pub with_loss : ℕ → ℕ → SeatView T → SeatView T
  with_loss k owner v = record v { lost = v.lost + 1; lost_place = k; lost_owner = owner }

  -- the seat has loaded the halt word once more, and found this
  abbrev pub with_load : ℕ → SeatView T → SeatView T
  with_load found v = record v { loads = v.loads + 1; last_load = found }

  -- the seat has set the halt word
  abbrev pub with_halt : SeatView T → SeatView T
  with_halt v = record v { stored = true }

  -- the seat has split off one more
  abbrev pub with_next : SeatView T → SeatView T
  with_next v = record v { made = v.made + 1 }

  -- the seat that was split off, which has the next number
  abbrev pub next_seat : SeatView T → SeatView T
  next_seat v = fresh v.opening v.seats (v.made + 1) false 0

  -- the seat has taken in another with its numbers, with the number of seats made where the other knew it, and with its having set the halt word
  abbrev pub with_seat : SeatView T → SeatView T → SeatView T
  with_seat v w = record v {
    joined = w.number ∷ (w.joined ++ v.joined);
    stored = v.stored || w.stored;
    makes = v.makes || w.makes;
    made = if v.makes then v.made else w.made;
  }

  -- the seat that was taken in
  abbrev pub spent : SeatView T
  spent = record (fresh [] 0 0 false 0) { live = false }

  -- a number that another seat of the board has, so there is another seat
  pub record IsAnothers (v : SeatView T) (number : ℕ) : Type 0 where
    pub above : 0 < number
    pub within : number ≤ v.seats
    pub not_own : has_number number v ≡ false
    pub others : 1 < v.seats

  -- a place was given back: its slot is no longer with the seat
  abbrev pub Releases : Step (Option T) → Seated T → ℕ → Seated T → Type 0
  Releases st m found now = (now.0 ≡ without_place st.word m.0) × (now.1 ≡ rest m.1)

  -- the halt word was loaded: 0 or 1, and 1 where the seat had stored it or found it before
  pub record Loads (st : Step (Option T)) (m : Seated T) (found : ℕ) (now : Seated T) : Type 0 where
    pub view : now.0 ≡ with_load found m.0
    pub slots : now.1 ≡ m.1
    pub word : (found ≡ 0) ⊎ (found ≡ 1)
    pub stored : m.0.stored ≡ true → found ≡ 1
    pub again : m.0.last_load ≡ 1 → found ≡ 1

  -- the halt word was set
  abbrev pub Stores : Step (Option T) → Seated T → ℕ → Seated T → Type 0
  Stores st m found now = (now.0 ≡ with_halt m.0) × (now.1 ≡ m.1)

module _ {T Name : Type 0} (name : T → Name) where
  -- the claim was won: the seat has the place, and its slot with a value of the place's name
  abbrev pub Wins : ℕ → Seated T → Seated T → Type 0
  Wins k m now = (now.0 ≡ with_place k m.0) × ((x : T) × (now.1 ≡ (k, Some x) ∷ m.1) × IsNamedAt name m.0.opening k x)

  -- the claim was lost to another seat
  abbrev pub Loses : ℕ → ℕ → Seated T → Seated T → Type 0
  Loses k owner m now = (now.0 ≡ with_loss k owner m.0) × (now.1 ≡ m.1) × IsAnothers m.0 owner

  -- a place was claimed: it was free, or the word was its owner's number
  abbrev pub Tries : Step (Option T) → Seated T → ℕ → Seated T → Type 0
  Tries st m found now = (found ≡ 0 → Wins st.word m now) × (found ≢ 0 → Loses st.word found m now)

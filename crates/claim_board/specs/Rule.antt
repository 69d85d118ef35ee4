-- The rule of the board: what holds between any two atomic steps of any seats.
-- The word of each place is its claim word. Behind these stands the halt word, between words that nobody uses.
-- A slot that no seat has taken is at home.
use Rattle.std.specs.Prelude.{◌≡◌, ◌≢◌, ℕ, ◌+◌, ◌<◌, ◌≤◌, Bool, true, false, ◌==◌, ◌||◌, ◌⊎◌, List, [], length, slice_index, Option, Some}
use mathlib.Core.Option.{some, none}
use mathlib.Core.Option as maybe
use lib.ListN.{get_elem?}
use Rattle.atomic_table.specs.Table.{State}
use Rattle.claim_board.specs.declared.view.SeatView.{SeatView}
use Rattle.claim_board.specs.Lists.{is_in}

-- so many words that nobody uses stand before the halt word and behind it: they keep it out of the cache lines of the claim words
abbrev pub spare_words : ℕ
spare_words = 15

-- the place of the halt word among the words
abbrev pub halt_word_of : ℕ → ℕ
halt_word_of places = places + spare_words

-- how many words a board of so many places has
abbrev pub word_count_of : ℕ → ℕ
word_count_of places = halt_word_of places + (1 + spare_words)

-- what the slots have at home: none where a seat has taken the slot
abbrev pub Homes : Type 0 → Type 0
Homes T = List (maybe.Option (Option T))

module _ {T : Type 0} where
  -- the seat at index j is live and has the view v
  pub record IsLive (views : List (SeatView T)) (j : ℕ) (v : SeatView T) : Type 0 where
    pub at : get_elem? views j ≡ some v
    pub live : v.live ≡ true

  -- m is the seat's own number, or that of a seat joined into it
  abbrev pub has_number : ℕ → SeatView T → Bool
  has_number m v = (m == v.number) || is_in m v.joined

  -- the numbers of live seats: from 1 to the number of seats made, and none stands for two seats
  pub record Numbers (opening : List T) (seats made : ℕ) (views : List (SeatView T)) : Type 0 where
    -- no more seats are made than the board was to have
    pub made_fits : made ≤ seats
    -- all seats know the board's opening values and its number of seats
    pub opened : (j : ℕ) (v : SeatView T) → IsLive views j v → v.opening ≡ opening
    pub counted : (j : ℕ) (v : SeatView T) → IsLive views j v → v.seats ≡ seats
    -- each number of a seat is one of those made
    pub within : (j : ℕ) (v : SeatView T) (m : ℕ) → IsLive views j v → has_number m v ≡ true → (0 < m) × (m ≤ made)
    -- two seats share no number, neither of their own nor joined
    pub apart : (i j : ℕ) (v w : SeatView T) (m : ℕ) → IsLive views i v → IsLive views j w → has_number m v ≡ true → has_number m w ≡ true → i ≡ j
    -- no seat's own number is joined into it
    pub never_both : (j : ℕ) (v : SeatView T) → IsLive views j v → is_in v.number v.joined ≡ false
    -- at most one seat splits off others, and it knows how many were made
    pub one_maker : (i j : ℕ) (v w : SeatView T) → IsLive views i v → IsLive views j w → v.makes ≡ true → w.makes ≡ true → i ≡ j
    pub maker_counts : (j : ℕ) (v : SeatView T) → IsLive views j v → v.makes ≡ true → v.made ≡ made

  -- each number of a seat that was made is a live seat's own, or joined into one
  abbrev pub NoneLost : ℕ → List (SeatView T) → Type 0
  NoneLost made views = (m : ℕ) → 0 < m → m ≤ made → (j : ℕ) × (v : SeatView T) × IsLive views j v × (has_number m v ≡ true)

  -- a seat that was joined into another holds nothing
  abbrev pub SpentHoldNothing : List (SeatView T) → Type 0
  SpentHoldNothing views = (j : ℕ) (v : SeatView T) → get_elem? views j ≡ some v → v.live ≡ false → v.holds ≡ []

  -- the halt word is 0 or 1, and 1 where a live seat has stored it or found it last
  pub record Halts (opening : List T) (words : List ℕ) (views : List (SeatView T)) : Type 0 where
    pub word : (slice_index words (halt_word_of (length opening)) ≡ 0) ⊎ (slice_index words (halt_word_of (length opening)) ≡ 1)
    pub stored : (j : ℕ) (v : SeatView T) → IsLive views j v → v.stored ≡ true → slice_index words (halt_word_of (length opening)) ≡ 1
    pub found : (j : ℕ) (v : SeatView T) → IsLive views j v → v.last_load ≡ 1 → slice_index words (halt_word_of (length opening)) ≡ 1

module _ {T Name : Type 0} (name : T → Name) where
  -- the value has the name of the value with which the board began at place k
  abbrev pub IsNamedAt : List T → ℕ → T → Type 0
  IsNamedAt opening k x = (y : T) × (get_elem? opening k ≡ some y) × (name x ≡ name y)

  -- the slot of place k is at home, with a value of the place's name
  abbrev pub IsHome : List T → Homes T → ℕ → Type 0
  IsHome opening homes k = (x : T) × (get_elem? homes k ≡ some (some (Some x))) × IsNamedAt opening k x

  -- the slot of place k is out with the live seat of this number, which holds the place
  abbrev pub IsOut : List (SeatView T) → Homes T → ℕ → ℕ → Type 0
  IsOut views homes k number = (j : ℕ) × (v : SeatView T) × IsLive views j v × (v.number ≡ number) × (is_in k v.holds ≡ true) × (get_elem? homes k ≡ some none)

  -- the claims: a place's word is 0 and its value home, or it is the number of the seat that holds the place
  pub record Claims (opening : List T) (words : List ℕ) (homes : Homes T) (views : List (SeatView T)) : Type 0 where
    pub free : (k : ℕ) → k < length opening → slice_index words k ≡ 0 → IsHome opening homes k
    pub claimed : (k : ℕ) → k < length opening → slice_index words k ≢ 0 → IsOut views homes k (slice_index words k)
    pub held : (j : ℕ) (v : SeatView T) (k : ℕ) → IsLive views j v → is_in k v.holds ≡ true → (k < length opening) × (slice_index words k ≡ v.number)

  -- the rule, of a board that began with these values and was to have so many seats
  pub record BoardRule (opening : List T) (seats : ℕ) (s : State (Option T) (SeatView T)) : Type 0 where
    -- so many seats were made
    pub made : ℕ
    pub word_count : length s.words ≡ word_count_of (length opening)
    pub slot_count : length s.homes ≡ length opening
    pub numbers : Numbers opening seats made s.views
    pub none_lost : NoneLost made s.views
    pub spent : SpentHoldNothing s.views
    pub claims : Claims opening s.words s.homes s.views
    pub halts : Halts opening s.words s.views

-- A new board.
use Rattle.std.proofs.Common.{◌≡◌, ℕ, zero, suc, ◌+◌, ◌<◌, ◌≤◌, true, false, List, [], ◌∷◌, length, map, replicate, lit<, lit≤, refl, sym, ap, ◌∙◌, subst, inl, ⊎_elim, Option, Some, arith}
use Rattle.std.specs.Prelude.{slice_index}
use mathlib.Core.Option.{some, some-injective, some-ne-none}
use lib.ListN.{get_elem?, length-map, length-replicate}
use Rattle.atomic_table.specs.Table.{opening as table_opening}
use Rattle.claim_board.specs.declared.view.SeatView.{SeatView}
use Rattle.claim_board.specs.Lists.{is_in}
use Rattle.claim_board.specs.Rule.{has_number, BoardRule, halt_word_of, word_count_of}
use Rattle.claim_board.specs.Steps.{first_seat}
use Rattle.claim_board.proofs.Lists.{false≢true, zero_not_one}
use Rattle.claim_board.proofs.Seats.{has_own, own_or_joined}

module _ {T Name : Type 0} (name : T → Name) (seats : ℕ) (some_seat : 0 < seats) where
  wrapped_at : (items : List T) (k : ℕ) → k < length items → (x : T) × (get_elem? (map some (map Some items)) k ≡ some (some (Some x))) × (get_elem? items k ≡ some x)
  wrapped_at [] k lt = absurd (omega arith)
  wrapped_at (x ∷ xs) zero lt = (x, refl, refl)
  wrapped_at (x ∷ xs) (suc k) lt = wrapped_at xs k (omega arith)

  zero_at : (n k : ℕ) → slice_index (replicate n 0) k ≡ 0
  zero_at zero k = refl
  zero_at (suc n) zero = refl
  zero_at (suc n) (suc k) = zero_at n k

  abbrev seat_one : List T → SeatView T
  seat_one xs = first_seat xs seats 1

  -- what holds of the one seat holds of each seat
  each_first : (xs : List T) (P : ℕ → SeatView T → Type 0) → P 0 (seat_one xs) → (j : ℕ) (v : SeatView T) → get_elem? (seat_one xs ∷ []) j ≡ some v → P j v
  each_first xs P first zero v e = subst (P 0) (some-injective (seat_one xs) v e) first
  each_first xs P first (suc j) v e = absurd (some-ne-none v (sym e))

  at_zero : (xs : List T) (j : ℕ) (v : SeatView T) → get_elem? (seat_one xs ∷ []) j ≡ some v → j ≡ 0
  at_zero xs = each_first xs (λ j v. j ≡ 0) refl

  -- its one number is 1
  is_one : (xs : List T) (m : ℕ) → has_number m (seat_one xs) ≡ true → m ≡ 1
  is_one xs m h = ⊎_elim (λ (p : m ≡ 1). p) (λ (p : false ≡ true). absurd (false≢true p)) (own_or_joined m (seat_one xs) h)

  -- each claim word is 0, each value at home, and there is one seat
  pub begins : (xs : List T) → BoardRule name xs seats (table_opening (replicate (word_count_of (length xs)) 0) (map Some xs) (seat_one xs))
  begins xs = record {
    made = 1;
    word_count = length-replicate (word_count_of (length xs)) 0;
    slot_count = length-map (map Some xs) some ∙ length-map xs Some;
    numbers = record {
      made_fits = omega (arith, some_seat);
      opened = λ j v l. each_first xs (λ j v. v.opening ≡ xs) refl j v l.at;
      counted = λ j v l. each_first xs (λ j v. v.seats ≡ seats) refl j v l.at;
      within = λ j v m l. each_first xs (λ j v. has_number m v ≡ true → (0 < m) × (m ≤ 1)) (λ h. let e = is_one xs m h in (subst (λ n. 0 < n) (sym e) (lit< tt), subst (λ n. n ≤ 1) (sym e) (lit≤ tt))) j v l.at;
      apart = λ i j v w m l k h g. at_zero xs i v l.at ∙ sym (at_zero xs j w k.at);
      never_both = λ j v l. each_first xs (λ j v. is_in v.number v.joined ≡ false) refl j v l.at;
      one_maker = λ i j v w l k e f. at_zero xs i v l.at ∙ sym (at_zero xs j w k.at);
      maker_counts = λ j v l. each_first xs (λ j v. v.makes ≡ true → v.made ≡ 1) (λ h. refl) j v l.at;
    };
    none_lost = λ m above le. let e : 1 ≡ m = omega (arith, above, le) in (0, seat_one xs, record { at = refl; live = refl }, subst (λ n. has_number n (seat_one xs) ≡ true) e (has_own (seat_one xs)));
    spent = each_first xs (λ j v. v.live ≡ false → v.holds ≡ []) (λ not_live. refl);
    claims = record {
      free = λ k lt z. let t = wrapped_at xs k lt in (t.0, t.1, (t.0, t.2, refl));
      claimed = λ k lt nz. absurd (nz (zero_at (word_count_of (length xs)) k));
      held = λ j v k l. each_first xs (λ j v. is_in k v.holds ≡ true → (k < length xs) × (slice_index (replicate (word_count_of (length xs)) 0) k ≡ v.number)) (λ h. absurd (false≢true h)) j v l.at;
    };
    halts = record {
      word = inl (zero_at (word_count_of (length xs)) (halt_word_of (length xs)));
      stored = λ j v l. each_first xs (λ j v. v.stored ≡ true → slice_index (replicate (word_count_of (length xs)) 0) (halt_word_of (length xs)) ≡ 1) (λ h. absurd (false≢true h)) j v l.at;
      found = λ j v l. each_first xs (λ j v. v.last_load ≡ 1 → slice_index (replicate (word_count_of (length xs)) 0) (halt_word_of (length xs)) ≡ 1) (λ h. absurd (zero_not_one 0 refl h)) j v l.at;
    };
  }

  -- the same of what the code has for the values, the words and the slots
  pub begins_by : (xs ys : List T) (ws : List ℕ) (slots : List (Option T)) (n : ℕ) → ys ≡ xs → ws ≡ replicate n 0 → n ≡ word_count_of (length xs) → slots ≡ map Some xs → BoardRule name ys seats (table_opening ws slots (seat_one ys))
  begins_by xs ys ws slots n e w l s =
      let words : ws ≡ replicate (word_count_of (length xs)) 0 = w ∙ ap (λ (i : ℕ). replicate i 0) l in
      subst (λ (y : List T). BoardRule name y seats (table_opening ws slots (seat_one y))) (sym e)
      (subst (λ (o : List (Option T)). BoardRule name xs seats (table_opening ws o (seat_one xs))) (sym s)
      (subst (λ (o : List ℕ). BoardRule name xs seats (table_opening o (map Some xs) (seat_one xs))) (sym words) (begins xs)))

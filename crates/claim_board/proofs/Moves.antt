-- Each kind of step keeps the rule.
use Rattle.std.proofs.Common.{◌≡◌, ◌≢◌, ℕ, ◌<◌, ◌==◌, true, false, List, ◌∷◌, length, set, refl, sym, ap, ◌∙◌, subst, inl, inr, ⊎_elim, true≢false, Option, Some, length-set, arith}
use Rattle.std.specs.Prelude.{slice_index}
use mathlib.Core.Option.{some, none}
use prog.Atomic.{either}
use lib.ListN.{get_elem?}
use Rattle.atomic_table.specs.Table.{State, Act, keeps, takes, gives, step, stepped, Allows, Valid, carried_after, rest}
use Rattle.atomic_table.proofs.Lists.{exchanged}
use Rattle.claim_board.specs.declared.view.SeatView.{SeatView}
use Rattle.claim_board.specs.Lists.{is_in}
use Rattle.claim_board.specs.Rule.{IsLive, has_number, IsNamedAt, Halts, BoardRule, halt_word_of}
use Rattle.claim_board.specs.Steps.{Seated, with_place, without_place, with_loss, with_load, with_halt, IsAnothers, Tries, Releases, Loads, Stores}
use Rattle.claim_board.proofs.Lists.{stored_again, written_else, written_here, one_at, not_so}
use Rattle.claim_board.proofs.Seats.{SameSeat, each_after, own_within, has_own, numbers_kept, none_lost_kept, spent_kept}
use Rattle.claim_board.proofs.Places.{claims_same, claims_won, claims_released}

module _ {T : Type 0} where
  -- the halt word stays, and what the seat knows of it
  pub halts_same : (opening : List T) (words after : List ℕ) (views : List (SeatView T)) (id : ℕ) (v w : SeatView T) (at : get_elem? views id ≡ some v) → SameSeat v w → w.stored ≡ v.stored → w.last_load ≡ v.last_load
      → slice_index after (halt_word_of (length opening)) ≡ slice_index words (halt_word_of (length opening)) → Halts opening words views → Halts opening after (set views id w)
  halts_same opening words after views id v w at same_seat stored found agree h = record {
    word = ⊎_elim (λ z. inl (agree ∙ z)) (λ z. inr (agree ∙ z)) h.word;
    stored = each_after views id v w at same_seat (λ j u. u.stored ≡ true → slice_index after (halt_word_of (length opening)) ≡ 1) (λ me e. agree ∙ h.stored id v me (sym stored ∙ e)) (λ j u n l e. agree ∙ h.stored j u l e);
    found = each_after views id v w at same_seat (λ j u. u.last_load ≡ 1 → slice_index after (halt_word_of (length opening)) ≡ 1) (λ me e. agree ∙ h.found id v me (sym found ∙ e)) (λ j u n l e. agree ∙ h.found j u l e);
  }

module _ {T Name : Type 0} (name : T → Name) (opening : List T) (seats : ℕ) where
  -- a claim word that isn't 0 is another's number, for a seat that doesn't hold the place
  anothers : (slots id k : ℕ) (v : SeatView T) (s : State (Option T) (SeatView T)) → BoardRule name opening seats s → get_elem? s.views id ≡ some v → v.live ≡ true → is_in k v.holds ≡ false → k < length opening → slice_index s.words k ≢ 0
      → IsAnothers v (slice_index s.words k)
  anothers slots id k v s h at live away lt nz =
      let n : ℕ = slice_index s.words k in
      let out = h.claims.claimed k lt nz in
      let me : IsLive s.views id v = record { at = at; live = live } in
      let theirs = own_within opening seats h.made s.views h.numbers out.0 out.1 out.2 in
      let mine = own_within opening seats h.made s.views h.numbers id v me in
      let counted : v.seats ≡ seats = h.numbers.counted id v me in
      let not_own : has_number n v ≡ false = not_so (has_number n v) (λ has.
      let here : out.0 ≡ id = h.numbers.apart out.0 id out.1 v n out.2 me (ap (λ m. has_number m out.1) (sym out.3) ∙ has_own out.1) has in
      let it : out.1 ≡ v = one_at s.views id out.1 v (ap (λ i. get_elem? s.views i) (sym here) ∙ out.2.at) at in
      true≢false (sym out.4 ∙ (ap (λ (x : SeatView T). is_in k x.holds) it ∙ away))) in
      let differ : n ≢ v.number = λ e. true≢false (sym (ap (λ m. has_number m v) e ∙ has_own v) ∙ not_own) in
      record {
        above = omega (arith, out.3, theirs.0);
        within = omega (arith, out.3, theirs.1, counted, h.numbers.made_fits);
        not_own = not_own;
        others = omega (arith, out.3, theirs.0, theirs.1, mine.0, mine.1, counted, differ, h.numbers.made_fits);
      }

  -- one compare and exchange of a claim word
  pub claims : (slots id k : ℕ) (m : Seated T) → m.0.live ≡ true → m.0.opening ≡ opening → k < length opening → is_in k m.0.holds ≡ false
      → Allows (BoardRule name opening seats) slots id m k (λ n. either (n == 0) m.0.number n) (Tries name (step slots k 0 m.0.number none) m)
  claims slots id k m live same lt away s h long at room =
      let words : List ℕ = s.words in
      let v : SeatView T = m.0 in
      let F : ℕ → Type 0 = λ n. (w : SeatView T) × (a : Act (Option T)) × Valid s.homes m.1 a × BoardRule name opening seats (stepped s k n id m.1 w a) × Tries name (step slots k 0 v.number none) m (slice_index words k) (w, carried_after m.1 a) in
      exchanged (slice_index words k) 0 v.number F
      (λ (z : slice_index words k ≡ 0).
      let home = h.claims.free k lt z in (
        with_place k v,
        takes k (Some home.0),
        home.1,
        record {
          made = h.made;
          word_count = length-set words k v.number ∙ h.word_count;
          slot_count = length-set s.homes k none ∙ h.slot_count;
          numbers = numbers_kept s.views id v (with_place k v) at same_seat opening seats h.made refl h.numbers;
          none_lost = none_lost_kept s.views id v (with_place k v) at same_seat h.made h.none_lost;
          spent = spent_kept s.views id v (with_place k v) at same_seat live h.spent;
          claims = claims_won name opening words s.homes s.views id v at h.claims k live seats h.made h.numbers lt (omega (arith, h.word_count)) (omega (arith, h.slot_count)) z;
          halts = halts_same opening words (set words k v.number) s.views id v (with_place k v) at same_seat refl refl (written_else words k (halt_word_of (length opening)) v.number (λ e. omega arith)) h.halts;
        },
        ((λ _. (refl, (home.0, refl, subst (λ o. IsNamedAt name o k home.0) (sym same) home.2))), λ nz. absurd (nz z)),
      ))
      (λ (nz : slice_index words k ≢ 0).
      let w = with_loss k (slice_index words k) v in (
        w,
        keeps,
        tt,
        record {
          made = h.made;
          word_count = length-set words k (slice_index words k) ∙ h.word_count;
          slot_count = h.slot_count;
          numbers = numbers_kept s.views id v w at lose opening seats h.made refl h.numbers;
          none_lost = none_lost_kept s.views id v w at lose h.made h.none_lost;
          spent = spent_kept s.views id v w at lose live h.spent;
          claims = claims_same name opening words s.homes s.views id v at h.claims w (set words k (slice_index words k)) lose refl (λ j _. stored_again words k j);
          halts = halts_same opening words (set words k (slice_index words k)) s.views id v w at lose refl refl (stored_again words k (halt_word_of (length opening))) h.halts;
        },
        (
          (λ z. absurd (nz z)),
          λ _. (
            refl,
            refl,
            anothers slots id k v s h at live away lt nz,
          ),
        ),
      ))
    where
      same_seat : SameSeat m.0 (with_place k m.0)
      same_seat = record { live = refl; number = refl; joined = refl; opening = refl; seats = refl; makes = refl }

      lose : SameSeat m.0 (with_loss k (slice_index s.words k) m.0)
      lose = record { live = refl; number = refl; joined = refl; opening = refl; seats = refl; makes = refl }

  -- a store of 0 to the claim word of a held place, after the value was put back into its slot
  pub releases : (slots id k : ℕ) (m : Seated T) (x : T) (more : List (ℕ × Option T)) → m.1 ≡ (k, Some x) ∷ more → m.0.live ≡ true → m.0.opening ≡ opening → is_in k m.0.holds ≡ true → IsNamedAt name opening k x
      → Allows (BoardRule name opening seats) slots id m k (λ _. 0) (λ _. Releases (step slots k 0 0 none) m 0)
  releases slots id k m x more front live same holds named = subst P (sym front) by_parts
    where
      P : List (ℕ × Option T) → Type 0
      P l = Allows (BoardRule name opening seats) slots id (m.0, l) k (λ _. 0) (λ _. Releases (step slots k 0 0 none) (m.0, l) 0)

      same_seat : SameSeat m.0 (without_place k m.0)
      same_seat = record { live = refl; number = refl; joined = refl; opening = refl; seats = refl; makes = refl }

      by_parts : P ((k, Some x) ∷ more)
      by_parts s h long at room =
          let words : List ℕ = s.words in
          let v : SeatView T = m.0 in
          let me : IsLive s.views id v = record { at = at; live = live } in
          let lt = (h.claims.held id v k me holds).0 in (
            without_place k v,
            gives,
            tt,
            record {
              made = h.made;
              word_count = length-set words k 0 ∙ h.word_count;
              slot_count = length-set s.homes k (some (Some x)) ∙ h.slot_count;
              numbers = numbers_kept s.views id v (without_place k v) at same_seat opening seats h.made refl h.numbers;
              none_lost = none_lost_kept s.views id v (without_place k v) at same_seat h.made h.none_lost;
              spent = spent_kept s.views id v (without_place k v) at same_seat live h.spent;
              claims = claims_released name opening words s.homes s.views id v at h.claims k live seats h.made h.numbers lt (omega (arith, h.word_count)) (omega (arith, h.slot_count)) holds x named;
              halts = halts_same opening words (set words k 0) s.views id v (without_place k v) at same_seat refl refl (written_else words k (halt_word_of (length opening)) 0 (λ e. omega arith)) h.halts;
            },
            (refl, refl),
          )

  -- a load of the halt word
  pub loads : (slots id : ℕ) (m : Seated T) → m.0.live ≡ true → Allows (BoardRule name opening seats) slots id m (halt_word_of (length opening)) (λ n. n) (Loads (step slots (halt_word_of (length opening)) 0 0 none) m)
  loads slots id m live s h long at room =
      let i : ℕ = halt_word_of (length opening) in
      let words : List ℕ = s.words in
      let v : SeatView T = m.0 in
      let found : ℕ = slice_index words i in
      let w = with_load found v in
      let me : IsLive s.views id v = record { at = at; live = live } in
      let same : slice_index (set words i found) i ≡ found = stored_again words i i in (
        w,
        keeps,
        tt,
        record {
          made = h.made;
          word_count = length-set words i found ∙ h.word_count;
          slot_count = h.slot_count;
          numbers = numbers_kept s.views id v w at (same_seat found) opening seats h.made refl h.numbers;
          none_lost = none_lost_kept s.views id v w at (same_seat found) h.made h.none_lost;
          spent = spent_kept s.views id v w at (same_seat found) live h.spent;
          claims = claims_same name opening words s.homes s.views id v at h.claims w (set words i found) (same_seat found) refl (λ j _. stored_again words i j);
          halts = record {
            word = ⊎_elim (λ z. inl (same ∙ z)) (λ z. inr (same ∙ z)) h.halts.word;
            stored = each_after s.views id v w at (same_seat found) (λ j u. u.stored ≡ true → slice_index (set words i found) i ≡ 1) (λ me e. same ∙ h.halts.stored id v me e) (λ j u n l e. same ∙ h.halts.stored j u l e);
            found = each_after s.views id v w at (same_seat found) (λ j u. u.last_load ≡ 1 → slice_index (set words i found) i ≡ 1) (λ me e. same ∙ e) (λ j u n l e. same ∙ h.halts.found j u l e);
          };
        },
        record { view = refl; slots = refl; word = h.halts.word; stored = h.halts.stored id v me; again = h.halts.found id v me },
      )
    where
      same_seat : (found : ℕ) → SameSeat m.0 (with_load found m.0)
      same_seat found = record { live = refl; number = refl; joined = refl; opening = refl; seats = refl; makes = refl }

  -- a store of 1 to the halt word
  pub halts : (slots id : ℕ) (m : Seated T) → m.0.live ≡ true → Allows (BoardRule name opening seats) slots id m (halt_word_of (length opening)) (λ _. 1) (λ _. Stores (step slots (halt_word_of (length opening)) 1 0 none) m 1)
  halts slots id m live s h long at room =
      let i : ℕ = halt_word_of (length opening) in
      let words : List ℕ = s.words in
      let v : SeatView T = m.0 in
      let w = with_halt v in
      let one : slice_index (set words i 1) i ≡ 1 = written_here words i 1 (omega (arith, h.word_count)) in (
        w,
        keeps,
        tt,
        record {
          made = h.made;
          word_count = length-set words i 1 ∙ h.word_count;
          slot_count = h.slot_count;
          numbers = numbers_kept s.views id v w at same_seat opening seats h.made refl h.numbers;
          none_lost = none_lost_kept s.views id v w at same_seat h.made h.none_lost;
          spent = spent_kept s.views id v w at same_seat live h.spent;
          claims = claims_same name opening words s.homes s.views id v at h.claims w (set words i 1) same_seat refl (λ j lt. written_else words i j 1 (λ e. omega arith));
          halts = record { word = inr one; stored = λ j u l e. one; found = λ j u l e. one };
        },
        (refl, refl),
      )
    where
      same_seat : SameSeat m.0 (with_halt m.0)
      same_seat = record { live = refl; number = refl; joined = refl; opening = refl; seats = refl; makes = refl }

module _ {T Name : Type 0} (name : T → Name) (opening : List T) (seats slots id : ℕ) (m : Seated T) (live : m.0.live ≡ true) where
  -- the same at the number that the code is_in for the seat, and at the place that it is_in for the halt word
  pub claims_by : (k n : ℕ) → n ≡ m.0.number → m.0.opening ≡ opening → k < length opening → is_in k m.0.holds ≡ false
      → Allows (BoardRule name opening seats) slots id m k (λ f. either (f == 0) n f) (Tries name (step slots k 0 n none) m)
  claims_by k n is same lt away = subst (λ i. Allows (BoardRule name opening seats) slots id m k (λ f. either (f == 0) i f) (Tries name (step slots k 0 i none) m)) (sym is) (claims name opening seats slots id k m live same lt away)

  pub loads_at : (i : ℕ) → halt_word_of (length opening) ≡ i → Allows (BoardRule name opening seats) slots id m i (λ n. n) (Loads (step slots i 0 0 none) m)
  loads_at i is = subst (λ i. Allows (BoardRule name opening seats) slots id m i (λ n. n) (Loads (step slots i 0 0 none) m)) is (loads name opening seats slots id m live)

  pub halts_at : (i : ℕ) → halt_word_of (length opening) ≡ i → Allows (BoardRule name opening seats) slots id m i (λ _. 1) (λ _. Stores (step slots i 1 0 none) m 1)
  halts_at i is = subst (λ i. Allows (BoardRule name opening seats) slots id m i (λ _. 1) (λ _. Stores (step slots i 1 0 none) m 1)) is (halts name opening seats slots id m live)

module _ {T Name : Type 0} (name : T → Name) (opening : List T) (seats : ℕ) where
  pub releases_by : (slots id k : ℕ) (m before : Seated T) (x : T) → m ≡ (before.0, (k, Some x) ∷ rest before.1) → before.0.live ≡ true → before.0.opening ≡ opening → is_in k before.0.holds ≡ true → IsNamedAt name opening k x
      → Allows (BoardRule name opening seats) slots id m k (λ _. 0) (λ _. Releases (step slots k 0 0 none) m 0)
  releases_by slots id k m before x is live same holds named =
      subst (λ (m : Seated T). Allows (BoardRule name opening seats) slots id m k (λ _. 0) (λ _. Releases (step slots k 0 0 none) m 0)) (sym is)
      (releases name opening seats slots id k (before.0, (k, Some x) ∷ rest before.1) x (rest before.1) refl live same holds named)

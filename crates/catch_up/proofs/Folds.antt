-- The fold-in: the mark goes up to the end of the run of numbers that are held after it.
use Rattle.std.proofs.Common.{◌≡◌, ◌≢◌, ℕ, zero, suc, ◌+◌, ◌<◌, ◌≤◌, Bool, true, false, nat_eq, nat_lt, List, [], ◌∷◌, length, refl, sym, ap, ◌∙◌, subst, Option, Some, None, slice_index_or, arith}
use Rattle.std.specs.Prelude.{◌==◌}
use Rattle.std.proofs.lemmas.Bool.Decides.{nat_tests}
use Rattle.std.proofs.lemmas.List.{length-set, get_or-set_same, get_or-set_other}
use Rattle.std.specs.BTreeMap.{insert_entry, is_at}
use Rattle.std.specs.declared.cmp.Ordering.{Ordering}
use Rattle.std.specs.declared.cmp.Ordering.TheVariants.{Less, Equal, Greater}
use Rattle.std.specs.Option.{IsSome}
use Rattle.std.specs.Ordering.{nat_cmp}
use Rattle.tuple_edge.specs.declared.item.Item.{Item}
use Rattle.merge_order.specs.MergeView.{MergeView, after_offer, mark_of, with_item}
use Rattle.catch_up.specs.Fold.{AllAbove, IsRising, IsRunFrom}
use Rattle.catch_up.specs.NewcomerView.{held_at}
use Rattle.catch_up.specs.Rebuild.{all_offered, folded_below}

at_same : (k n : ℕ) → k ≡ n → is_at (nat_cmp k) n ≡ true
at_same k n same = grind (arith, nat_tests, same)

at_less : (k n : ℕ) → k < n → is_at (nat_cmp k) n ≡ false
at_less k n less = grind (arith, nat_tests, less)

at_more : (k n : ℕ) → n < k → is_at (nat_cmp k) n ≡ false
at_more k n more = grind (arith, nat_tests, more)

-- what is held above a number is not held under it
none_under : (n k : ℕ) (es : List (ℕ × Item)) → AllAbove n es → k ≤ n → held_at es k ≡ None
none_under n k [] above under = refl
none_under n k (e ∷ es) above under = rw (at_less k e.0 (omega (arith, under, above.0))) (none_under n k es above.1 under)

-- past the first number
held_past : (e : ℕ × Item) (es : List (ℕ × Item)) (k : ℕ) → e.0 < k → held_at (e ∷ es) k ≡ held_at es k
held_past e es k past = rw (at_more k e.0 past) refl

held_here : (e : ℕ × Item) (es : List (ℕ × Item)) (k : ℕ) → k ≡ e.0 → held_at (e ∷ es) k ≡ Some e.1
held_here e es k same = rw (at_same k e.0 same) refl

-- a first number at or under the mark says nothing of the run
pub run_past : (e : ℕ × Item) (es : List (ℕ × Item)) (mark upto : ℕ) → e.0 ≤ mark → IsRunFrom es mark upto → IsRunFrom (e ∷ es) mark upto
run_past e es mark upto past run = record {
  from = run.from;
  held_to = λ k above within. subst (λ (o : Option Item). IsSome o) (sym (held_past e es k (omega (arith, past, above)))) (run.held_to k above within);
  ends = let from : mark ≤ upto = run.from in held_past e es (upto + 1) (omega (arith, past, from)) ∙ run.ends;
}

-- a first number that follows the mark begins it
pub run_next : (e : ℕ × Item) (es : List (ℕ × Item)) (mark upto : ℕ) → e.0 ≡ mark + 1 → IsRunFrom es (mark + 1) upto → IsRunFrom (e ∷ es) mark upto
run_next e es mark upto next run = record {
  from = let from : mark + 1 ≤ upto = run.from in omega (arith, from);
  held_to = λ k above within. by_first k above within (nat_eq k (mark + 1)) refl;
  ends = let from : mark + 1 ≤ upto = run.from in held_past e es (upto + 1) (omega (arith, next, from)) ∙ run.ends;
}
  where
    by_first : (k : ℕ) → mark < k → k ≤ upto → (t : Bool) → nat_eq k (mark + 1) ≡ t → IsSome (held_at (e ∷ es) k)
    by_first k above within true is =
        let same : k ≡ e.0 = grind (arith, nat_tests, is, next) in
        subst (λ (o : Option Item). IsSome o) (sym (held_here e es k same)) refl
    by_first k above within false is =
        let past : mark + 1 < k = grind (arith, nat_tests, is, above) in
        subst (λ (o : Option Item). IsSome o) (sym (held_past e es k (omega (arith, next, past)))) (run.held_to k past within)

-- a first number past a gap ends it
pub run_ends : (e : ℕ × Item) (es : List (ℕ × Item)) (mark : ℕ) → mark + 1 < e.0 → AllAbove e.0 es → IsRunFrom (e ∷ es) mark mark
run_ends e es mark gap above = record {
  from = omega arith;
  held_to = λ k past within. absurd (omega (arith, past, within));
  ends = rw (at_less (mark + 1) e.0 gap) (none_under e.0 (mark + 1) es above (omega (arith, gap)));
}

-- offers that don't follow the mark leave it
offer_kept : (m : MergeView) (q n : ℕ) (x : Item) → n ≢ mark_of m q + 1 → after_offer m q n x ≡ m
offer_kept m q n x apart = by_test (n == mark_of m q + 1) refl
  where
    by_test : (t : Bool) → (n == mark_of m q + 1) ≡ t → after_offer m q n x ≡ m
    by_test true is = absurd (apart (grind (arith, nat_tests, is)))
    by_test false is = rw is refl

offer_taken : (m : MergeView) (q n : ℕ) (x : Item) → n ≡ mark_of m q + 1 → after_offer m q n x ≡ with_item m q n x
offer_taken m q n x next = let test : (n == mark_of m q + 1) ≡ true = grind (arith, nat_tests, next) in rw test refl

none_taken : (q : ℕ) (m : MergeView) (n : ℕ) (es : List (ℕ × Item)) → mark_of m q + 1 < n → AllAbove n es → all_offered q m es ≡ m
none_taken q m n [] gap above = refl
none_taken q m n (e ∷ es) gap above =
    ap (λ w. all_offered q w es) (offer_kept m q e.0 e.1 (λ same. too_far same above.0))
    ∙ none_taken q m n es gap above.1
  where
    too_far : e.0 ≡ mark_of m q + 1 → n < e.0 → ⊥
    too_far same more = omega (arith, same, more, gap)

-- the mark of an edge after what is held of it was offered
pub folds_to_run : (q : ℕ) (held : List (ℕ × Item)) (m : MergeView) → IsRising held → q < length m.marks → IsRunFrom held (mark_of m q) (mark_of (all_offered q m held) q)
folds_to_run q [] m rising inside = record { from = omega arith; held_to = λ k past within. absurd (omega (arith, past, within)); ends = refl }
folds_to_run q (e ∷ es) m rising inside =
    by_place (nat_lt (mark_of m q) e.0) refl (nat_eq e.0 (mark_of m q + 1)) refl (λ w long. folds_to_run q es w rising.1 long)
  where
    by_place : (past : Bool) → nat_lt (mark_of m q) e.0 ≡ past → (next : Bool) → nat_eq e.0 (mark_of m q + 1) ≡ next
        → ((w : MergeView) → q < length w.marks → IsRunFrom es (mark_of w q) (mark_of (all_offered q w es) q))
        → IsRunFrom (e ∷ es) (mark_of m q) (mark_of (all_offered q m (e ∷ es)) q)
    by_place past was true is later =
        let next : e.0 ≡ mark_of m q + 1 = grind (arith, nat_tests, is) in
        let more : MergeView = with_item m q e.0 e.1 in
        let there : mark_of more q ≡ mark_of m q + 1 = get_or-set_same m.marks q e.0 0 inside ∙ next in
        let long : length more.marks ≡ length m.marks = length-set m.marks q e.0 in
        subst (λ (w : MergeView). IsRunFrom (e ∷ es) (mark_of m q) (mark_of (all_offered q w es) q)) (sym (offer_taken m q e.0 e.1 next))
        (run_next e es (mark_of m q) (mark_of (all_offered q more es) q) next
        (subst (λ n. IsRunFrom es n (mark_of (all_offered q more es) q)) there (later more (omega (arith, long, inside)))))
    by_place false was false is later =
        let under : e.0 ≤ mark_of m q = grind (arith, nat_tests, was) in
        subst (λ (w : MergeView). IsRunFrom (e ∷ es) (mark_of m q) (mark_of (all_offered q w es) q)) (sym (offer_kept m q e.0 e.1 (λ same. low under same)))
        (run_past e es (mark_of m q) (mark_of (all_offered q m es) q) under (later m inside))
      where
        low : e.0 ≤ mark_of m q → e.0 ≡ mark_of m q + 1 → ⊥
        low under same = omega (arith, under, same)
    by_place true was false is later =
        let gap : mark_of m q + 1 < e.0 = grind (arith, nat_tests, was, is) in
        subst (λ (w : MergeView). IsRunFrom (e ∷ es) (mark_of m q) (mark_of w q))
        (sym (ap (λ w. all_offered q w es) (offer_kept m q e.0 e.1 (λ same. far gap same)) ∙ none_taken q m e.0 es gap rising.0))
        (run_ends e es (mark_of m q) gap rising.0)
      where
        far : mark_of m q + 1 < e.0 → e.0 ≡ mark_of m q + 1 → ⊥
        far gap same = omega (arith, gap, same)

-- ---- all edges

length_taken : (m : MergeView) (q n : ℕ) (x : Item) → length (after_offer m q n x).marks ≡ length m.marks
length_taken m q n x = by_test (nat_eq n (mark_of m q + 1)) refl
  where
    by_test : (t : Bool) → nat_eq n (mark_of m q + 1) ≡ t → length (after_offer m q n x).marks ≡ length m.marks
    by_test true is =
        let next : n ≡ mark_of m q + 1 = grind (arith, nat_tests, is) in
        ap (λ (w : MergeView). length w.marks) (offer_taken m q n x next) ∙ length-set m.marks q n
    by_test false is = ap (λ (w : MergeView). length w.marks) (offer_kept m q n x (λ same. apart same))
      where
        apart : n ≡ mark_of m q + 1 → ⊥
        apart same = let h : nat_eq n (mark_of m q + 1) ≡ true = grind (arith, nat_tests, same) in let e : true ≡ false = sym h ∙ is in cc

other_kept : (m : MergeView) (k q n : ℕ) (x : Item) → q ≢ k → mark_of (after_offer m k n x) q ≡ mark_of m q
other_kept m k q n x other = by_test (nat_eq n (mark_of m k + 1)) refl
  where
    by_test : (t : Bool) → nat_eq n (mark_of m k + 1) ≡ t → mark_of (after_offer m k n x) q ≡ mark_of m q
    by_test true is =
        let next : n ≡ mark_of m k + 1 = grind (arith, nat_tests, is) in
        ap (λ (w : MergeView). mark_of w q) (offer_taken m k n x next) ∙ get_or-set_other m.marks k q n 0 other
    by_test false is = ap (λ (w : MergeView). mark_of w q) (offer_kept m k n x (λ same. apart same))
      where
        apart : n ≡ mark_of m k + 1 → ⊥
        apart same = let h : nat_eq n (mark_of m k + 1) ≡ true = grind (arith, nat_tests, same) in let e : true ≡ false = sym h ∙ is in cc

length_offered : (q : ℕ) (m : MergeView) (es : List (ℕ × Item)) → length (all_offered q m es).marks ≡ length m.marks
length_offered q m [] = refl
length_offered q m (e ∷ es) = length_offered q (after_offer m q e.0 e.1) es ∙ length_taken m q e.0 e.1

other_offered : (k q : ℕ) (m : MergeView) (es : List (ℕ × Item)) → q ≢ k → mark_of (all_offered k m es) q ≡ mark_of m q
other_offered k q m [] other = refl
other_offered k q m (e ∷ es) other = other_offered k q (after_offer m k e.0 e.1) es other ∙ other_kept m k q e.0 e.1 other

length_folded : (n : ℕ) (m : MergeView) (held : List (List (ℕ × Item))) → length (folded_below n m held).marks ≡ length m.marks
length_folded zero m held = refl
length_folded (suc n) m held = length_offered n (folded_below n m held) (slice_index_or held n []) ∙ length_folded n m held

later_kept : (n q : ℕ) (m : MergeView) (held : List (List (ℕ × Item))) → n ≤ q → mark_of (folded_below n m held) q ≡ mark_of m q
later_kept zero q m held past = refl
later_kept (suc n) q m held past =
    other_offered n q (folded_below n m held) (slice_index_or held n []) (λ same. apart past same) ∙ later_kept n q m held (omega (arith, past))
  where
    apart : suc n ≤ q → q ≡ n → ⊥
    apart past same = omega (arith, past, same)

-- each in-edge's mark goes to the end of its run
pub all_fold : (n q : ℕ) (m : MergeView) (held : List (List (ℕ × Item))) → q < n → q < length m.marks → IsRising (slice_index_or held q [])
    → IsRunFrom (slice_index_or held q []) (mark_of m q) (mark_of (folded_below n m held) q)
all_fold zero q m held below inside rising = absurd (omega (arith, below))
all_fold (suc n) q m held below inside rising = by_same (nat_eq q n) refl (λ less. all_fold n q m held less inside rising)
  where
    by_same : (t : Bool) → nat_eq q n ≡ t → (q < n → IsRunFrom (slice_index_or held q []) (mark_of m q) (mark_of (folded_below n m held) q))
        → IsRunFrom (slice_index_or held q []) (mark_of m q) (mark_of (all_offered n (folded_below n m held) (slice_index_or held n [])) q)
    by_same true is before =
        let same : q ≡ n = grind (arith, nat_tests, is) in
        let long : length (folded_below q m held).marks ≡ length m.marks = length_folded q m held in
        subst (λ k. IsRunFrom (slice_index_or held q []) (mark_of m q) (mark_of (all_offered k (folded_below k m held) (slice_index_or held k [])) q)) same
        (subst (λ mark. IsRunFrom (slice_index_or held q []) mark (mark_of (all_offered q (folded_below q m held) (slice_index_or held q [])) q)) (later_kept q q m held (omega arith))
        (folds_to_run q (slice_index_or held q []) (folded_below q m held) rising (omega (arith, long, inside))))
    by_same false is before =
        let less : q < n = grind (arith, nat_tests, is, below) in
        subst (λ upto. IsRunFrom (slice_index_or held q []) (mark_of m q) upto) (sym (other_offered n q (folded_below n m held) (slice_index_or held n []) (λ same. apart less same))) (before less)
      where
        apart : q < n → q ≡ n → ⊥
        apart less same = omega (arith, less, same)

-- ---- what is held rises

above_kept : (n k : ℕ) (x : Item) (es : List (ℕ × Item)) → n < k → AllAbove n es → AllAbove n (insert_entry nat_cmp es k x)
above_kept n k x [] less above = (less, tt)
above_kept n k x (e ∷ es) less above = by_order (nat_cmp k e.0) refl (above_kept n k x es less above.1)
  where
    by_order : (o : Ordering) → nat_cmp k e.0 ≡ o → AllAbove n (insert_entry nat_cmp es k x) → AllAbove n (insert_entry nat_cmp (e ∷ es) k x)
    by_order Less is later = rw is (less, (above.0, above.1))
    by_order Equal is later = rw is (above.0, above.1)
    by_order Greater is later = rw is (above.0, later)

lower : (n k : ℕ) (es : List (ℕ × Item)) → k < n → AllAbove n es → AllAbove k es
lower n k [] less above = tt
lower n k (e ∷ es) less above = (omega (arith, less, above.0), lower n k es less above.1)

pub rising_kept : (k : ℕ) (x : Item) (es : List (ℕ × Item)) → IsRising es → IsRising (insert_entry nat_cmp es k x)
rising_kept k x [] rising = (tt, tt)
rising_kept k x (e ∷ es) rising = by_order (nat_cmp k e.0) refl (rising_kept k x es rising.1)
  where
    by_order : (o : Ordering) → nat_cmp k e.0 ≡ o → IsRising (insert_entry nat_cmp es k x) → IsRising (insert_entry nat_cmp (e ∷ es) k x)
    by_order Less is later =
        let less : k < e.0 = grind (arith, nat_tests, is) in
        rw is ((less, lower e.0 k es less rising.0), (rising.0, rising.1))
    by_order Equal is later = rw is (rising.0, rising.1)
    by_order Greater is later =
        let more : e.0 < k = grind (arith, nat_tests, is) in
        rw is (above_kept e.0 k x es more rising.0, later)

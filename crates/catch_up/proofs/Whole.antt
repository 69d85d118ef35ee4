-- Rebuilding from the whole list of a move gives what it was made of.
use Rattle.std.proofs.Common.{◌≡◌, ◌≢◌, ℕ, zero, suc, ◌+◌, ◌-◌, ◌<◌, ◌≤◌, Bool, true, false, nat_eq, nat_lt, List, [], ◌∷◌, ◌++◌, fold, length, refl, sym, ap, ◌∙◌, subst, replicate, slice_index_or, slice_set, append_assoc, arith}
use Rattle.std.specs.Prelude.{◌==◌}
use Rattle.std.proofs.lemmas.Bool.Decides.{nat_tests}
use Rattle.std.proofs.lemmas.Grind.{same_number_lists}
use Rattle.std.proofs.lemmas.List.{append-nil, ext_get_or, length-set, set-get_or, get_or-set_same, get_or-set_other, length-replicate}
use Rattle.std.proofs.lemmas.List.Sums.{fold-append}
use Rattle.tuple_edge.specs.declared.item.Item.{Item}
use Rattle.tuple_edge.specs.declared.packet.Entry.{Entry}
use Rattle.tuple_edge.specs.declared.packet.Entry.TheVariants as entry
use Rattle.merge_order.specs.MergeView.{MergeView, after_offer, mark_of, starting, waiting_of, with_item}
use Rattle.flux_producer.specs.ProducerView.{ProducerView, buffer_at}
use Rattle.stream_ops.specs.Entries.{IsKeyed}
use Rattle.move_list.specs.MoveList.{head_entries, kept_entries, low_entry, mark_entry, move_list, used_of}
use Rattle.tuple_edge.specs.Entries.{each_below, numbered}
use Rattle.catch_up.specs.Rebuild.{count_in, count_step, heads_step, keyed_in, keyed_step, marks_in, marks_step, merge_in}
use Rattle.catch_up.proofs.Steps.{AllKeyed, at_below, fold_six, length_below, set_set, skip_below, skip_keyed, skip_numbered}

-- ---- the marks

marks_keyed : (z : List ℕ) (e : Entry) → IsKeyed e → marks_step z e ≡ z
marks_keyed z (entry.Keyed k slot a b c) keyed = refl
marks_keyed z (entry.Mark q upto) keyed = cc
marks_keyed z (entry.Count count) keyed = cc
marks_keyed z (entry.Head q n x) keyed = cc
marks_keyed z (entry.Low t low produced) keyed = cc
marks_keyed z (entry.Kept t n x) keyed = cc

marks_heads : (q k : ℕ) (ys : List Item) (xs : List ℕ) → q < length xs → fold marks_step xs (numbered (entry.Head q) k ys) ≡ slice_set xs q (slice_index_or xs q 0 - length ys)
marks_heads q k [] xs inside =
    let same : slice_index_or xs q 0 ≡ slice_index_or xs q 0 - 0 = omega arith in
    sym (set-get_or xs q 0) ∙ ap (slice_set xs q) same
marks_heads q k (y ∷ ys) xs inside =
    let less : List ℕ = slice_set xs q (slice_index_or xs q 0 - 1) in
    let there : slice_index_or less q 0 ≡ slice_index_or xs q 0 - 1 = get_or-set_same xs q (slice_index_or xs q 0 - 1) 0 inside in
    let long : length less ≡ length xs = length-set xs q (slice_index_or xs q 0 - 1) in
    let sum : slice_index_or less q 0 - length ys ≡ slice_index_or xs q 0 - length (y ∷ ys) = omega (arith, there) in
    marks_heads q (k + 1) ys less (omega (arith, long, inside))
    ∙ set_set xs q (slice_index_or xs q 0 - 1) (slice_index_or less q 0 - length ys)
    ∙ ap (slice_set xs q) sum

module _ (m : MergeView) (p : ProducerView) (es : List Entry) (keyed : AllKeyed es) where
  abbrev marks_first : List ℕ
  marks_first = fold marks_step (replicate (length m.marks) 0) (each_below (length m.marks) (mark_entry m))

  marks_whole : marks_in (length m.marks) (move_list m p es) ≡ fold marks_step marks_first (each_below (length m.marks) (head_entries m))
  marks_whole =
      let all : List ℕ = fold marks_step marks_first (each_below (length m.marks) (head_entries m)) in
      fold_six marks_step (replicate (length m.marks) 0) (each_below (length m.marks) (mark_entry m)) (entry.Count m.count ∷ []) (each_below (length m.marks) (head_entries m))
      (each_below (length p.edges) (low_entry p)) (each_below (length p.edges) (kept_entries p)) es
      ∙ ap (λ y. fold marks_step (fold marks_step y (each_below (length p.edges) (kept_entries p))) es) (skip_below marks_step all (low_entry p) (λ q. refl) (length p.edges))
      ∙ ap (λ y. fold marks_step y es) (skip_below marks_step all (kept_entries p) (λ t. skip_numbered marks_step all (entry.Kept t) (λ n x. refl) (buffer_at p t).low (buffer_at p t).items) (length p.edges))
      ∙ skip_keyed marks_step all (marks_keyed all) es keyed

  first_length : length marks_first ≡ length m.marks
  first_length =
      length_below 0 marks_step (mark_entry m) (λ q v. mark_of m q) (λ q xs inside. refl) (length m.marks) (replicate (length m.marks) 0) (long (length m.marks))
      ∙ length-replicate (length m.marks) 0
    where
      long : (n : ℕ) → n ≤ length {A = ℕ} (replicate n 0)
      long n = let same : length {A = ℕ} (replicate n 0) ≡ n = length-replicate n 0 in omega (arith, same)

  pub marks_length : length (marks_in (length m.marks) (move_list m p es)) ≡ length m.marks
  marks_length =
      ap length marks_whole
      ∙ length_below 0 marks_step (head_entries m) (λ q v. v - length (waiting_of m q)) (λ q xs inside. marks_heads q (used_of m q) (waiting_of m q) xs inside) (length m.marks) marks_first (omega (arith, first_length))
      ∙ first_length

  pub marks_at : (q : ℕ) → q < length m.marks → slice_index_or (marks_in (length m.marks) (move_list m p es)) q 0 ≡ used_of m q
  marks_at q inside =
      ap (λ xs. slice_index_or xs q 0) marks_whole
      ∙ at_below 0 marks_step (head_entries m) (λ q v. v - length (waiting_of m q)) (λ q xs inside. marks_heads q (used_of m q) (waiting_of m q) xs inside) (length m.marks) marks_first q (omega (arith, first_length)) (omega (arith, first_length, inside))
      ∙ rw below (ap (λ v. v - length (waiting_of m q))
      (at_below 0 marks_step (mark_entry m) (λ q v. mark_of m q) (λ q xs inside. refl) (length m.marks) (replicate (length m.marks) 0) q (omega (arith, zeros)) (omega (arith, zeros, inside)) ∙ rw below refl))
    where
      zeros : length {A = ℕ} (replicate (length m.marks) 0) ≡ length m.marks
      zeros = length-replicate (length m.marks) 0

      below : nat_lt q (length m.marks) ≡ true
      below = grind (arith, nat_tests, inside)

  -- ---- the count

  count_keyed : (z : ℕ) (e : Entry) → IsKeyed e → count_step z e ≡ z
  count_keyed z (entry.Keyed k slot a b c) keyed = refl
  count_keyed z (entry.Mark q upto) keyed = cc
  count_keyed z (entry.Count count) keyed = cc
  count_keyed z (entry.Head q n x) keyed = cc
  count_keyed z (entry.Low t low produced) keyed = cc
  count_keyed z (entry.Kept t n x) keyed = cc

  pub count_whole : count_in (move_list m p es) ≡ m.count
  count_whole =
      fold_six count_step 0 (each_below (length m.marks) (mark_entry m)) (entry.Count m.count ∷ []) (each_below (length m.marks) (head_entries m))
      (each_below (length p.edges) (low_entry p)) (each_below (length p.edges) (kept_entries p)) es
      ∙ ap (λ y. fold count_step (fold count_step (fold count_step y (each_below (length p.edges) (low_entry p))) (each_below (length p.edges) (kept_entries p))) es)
      (skip_below count_step m.count (head_entries m) (λ q. skip_numbered count_step m.count (entry.Head q) (λ n x. refl) (used_of m q) (waiting_of m q)) (length m.marks))
      ∙ ap (λ y. fold count_step (fold count_step y (each_below (length p.edges) (kept_entries p))) es) (skip_below count_step m.count (low_entry p) (λ q. refl) (length p.edges))
      ∙ ap (λ y. fold count_step y es) (skip_below count_step m.count (kept_entries p) (λ t. skip_numbered count_step m.count (entry.Kept t) (λ n x. refl) (buffer_at p t).low (buffer_at p t).items) (length p.edges))
      ∙ skip_keyed count_step m.count (count_keyed m.count) es keyed

  -- ---- the operator's entries

  keyed_all : (acc fs : List Entry) → AllKeyed fs → fold keyed_step acc fs ≡ acc ++ fs
  keyed_all acc [] keyed = sym (append-nil acc)
  keyed_all acc (entry.Keyed k slot a b c ∷ fs) keyed = keyed_all (acc ++ entry.Keyed k slot a b c ∷ []) fs keyed.1 ∙ append_assoc acc (entry.Keyed k slot a b c ∷ []) fs
  keyed_all acc (entry.Mark q upto ∷ fs) keyed = let h : false ≡ true = keyed.0 in cc
  keyed_all acc (entry.Count count ∷ fs) keyed = let h : false ≡ true = keyed.0 in cc
  keyed_all acc (entry.Head q n x ∷ fs) keyed = let h : false ≡ true = keyed.0 in cc
  keyed_all acc (entry.Low t low produced ∷ fs) keyed = let h : false ≡ true = keyed.0 in cc
  keyed_all acc (entry.Kept t n x ∷ fs) keyed = let h : false ≡ true = keyed.0 in cc

  pub keyed_whole : keyed_in (move_list m p es) ≡ es
  keyed_whole =
      fold_six keyed_step [] (each_below (length m.marks) (mark_entry m)) (entry.Count m.count ∷ []) (each_below (length m.marks) (head_entries m))
      (each_below (length p.edges) (low_entry p)) (each_below (length p.edges) (kept_entries p)) es
      ∙ ap (λ y. fold keyed_step (fold keyed_step (fold keyed_step (fold keyed_step y (each_below (length m.marks) (head_entries m))) (each_below (length p.edges) (low_entry p))) (each_below (length p.edges) (kept_entries p))) es)
      (skip_below keyed_step [] (mark_entry m) (λ q. refl) (length m.marks))
      ∙ ap (λ y. fold keyed_step (fold keyed_step (fold keyed_step y (each_below (length p.edges) (low_entry p))) (each_below (length p.edges) (kept_entries p))) es)
      (skip_below keyed_step [] (head_entries m) (λ q. skip_numbered keyed_step [] (entry.Head q) (λ n x. refl) (used_of m q) (waiting_of m q)) (length m.marks))
      ∙ ap (λ y. fold keyed_step (fold keyed_step y (each_below (length p.edges) (kept_entries p))) es) (skip_below keyed_step [] (low_entry p) (λ q. refl) (length p.edges))
      ∙ ap (λ y. fold keyed_step y es) (skip_below keyed_step [] (kept_entries p) (λ t. skip_numbered keyed_step [] (entry.Kept t) (λ n x. refl) (buffer_at p t).low (buffer_at p t).items) (length p.edges))
      ∙ keyed_all [] es keyed

  -- ---- the merge

  heads_keyed : (z : MergeView) (e : Entry) → IsKeyed e → heads_step z e ≡ z
  heads_keyed z (entry.Keyed k slot a b c) keyed = refl
  heads_keyed z (entry.Mark q upto) keyed = cc
  heads_keyed z (entry.Count count) keyed = cc
  heads_keyed z (entry.Head q n x) keyed = cc
  heads_keyed z (entry.Low t low produced) keyed = cc
  heads_keyed z (entry.Kept t n x) keyed = cc

  heads_whole : (z : MergeView) → fold heads_step z (move_list m p es) ≡ fold heads_step z (each_below (length m.marks) (head_entries m))
  heads_whole z =
      let all : MergeView = fold heads_step z (each_below (length m.marks) (head_entries m)) in
      fold_six heads_step z (each_below (length m.marks) (mark_entry m)) (entry.Count m.count ∷ []) (each_below (length m.marks) (head_entries m))
      (each_below (length p.edges) (low_entry p)) (each_below (length p.edges) (kept_entries p)) es
      ∙ ap (λ y. fold heads_step (fold heads_step (fold heads_step (fold heads_step y (each_below (length m.marks) (head_entries m))) (each_below (length p.edges) (low_entry p))) (each_below (length p.edges) (kept_entries p))) es)
      (skip_below heads_step z (mark_entry m) (λ q. refl) (length m.marks))
      ∙ ap (λ y. fold heads_step (fold heads_step y (each_below (length p.edges) (kept_entries p))) es) (skip_below heads_step all (low_entry p) (λ q. refl) (length p.edges))
      ∙ ap (λ y. fold heads_step y es) (skip_below heads_step all (kept_entries p) (λ t. skip_numbered heads_step all (entry.Kept t) (λ n x. refl) (buffer_at p t).low (buffer_at p t).items) (length p.edges))
      ∙ skip_keyed heads_step all (heads_keyed all) es keyed

  -- items offered again on one edge
  abbrev with_all : MergeView → ℕ → ℕ → List Item → MergeView
  with_all v q mark xs = record v { marks = slice_set v.marks q mark; waiting = slice_set v.waiting q (waiting_of v q ++ xs) }

  taken_next : (v : MergeView) (q k : ℕ) (x : Item) → mark_of v q ≡ k → after_offer v q (k + 1) x ≡ with_item v q (k + 1) x
  taken_next v q k x at = let same : (k + 1 == mark_of v q + 1) ≡ true = grind (arith, nat_tests, at) in rw same refl

  heads_edge : (q k : ℕ) (xs : List Item) (v : MergeView) → q < length v.marks → q < length v.waiting → mark_of v q ≡ k
      → fold heads_step v (numbered (entry.Head q) k xs) ≡ with_all v q (k + length xs) xs
  heads_edge q k [] v marks waits at =
      let same : slice_index_or v.marks q 0 ≡ k + 0 = omega (arith, at) in
      ap (λ ms. record v { marks = ms }) (sym (set-get_or v.marks q 0) ∙ ap (slice_set v.marks q) same)
      ∙ ap (λ ws. record v { marks = slice_set v.marks q (k + 0); waiting = ws }) (sym (set-get_or v.waiting q []) ∙ ap (slice_set v.waiting q) (sym (append-nil (waiting_of v q))))
  heads_edge q k (x ∷ xs) v marks waits at =
      let w : MergeView = with_item v q (k + 1) x in
      let long_marks : length w.marks ≡ length v.marks = length-set v.marks q (k + 1) in
      let long_waits : length w.waiting ≡ length v.waiting = length-set v.waiting q (waiting_of v q ++ x ∷ []) in
      let there : mark_of w q ≡ k + 1 = get_or-set_same v.marks q (k + 1) 0 marks in
      let waiting : waiting_of w q ≡ waiting_of v q ++ x ∷ [] = get_or-set_same v.waiting q (waiting_of v q ++ x ∷ []) [] waits in
      let sum : k + 1 + length xs ≡ k + length (x ∷ xs) = omega arith in
      ap (λ z. fold heads_step z (numbered (entry.Head q) (k + 1) xs)) (taken_next v q k x at)
      ∙ heads_edge q (k + 1) xs w (omega (arith, long_marks, marks)) (omega (arith, long_waits, waits)) there
      ∙ ap (λ ms. record v { marks = ms; waiting = slice_set w.waiting q (waiting_of w q ++ xs) }) (set_set v.marks q (k + 1) (k + 1 + length xs) ∙ ap (slice_set v.marks q) sum)
      ∙ ap (λ ws. record v { marks = slice_set v.marks q (k + length (x ∷ xs)); waiting = ws })
      (set_set v.waiting q (waiting_of v q ++ x ∷ []) (waiting_of w q ++ xs) ∙ ap (slice_set v.waiting q) (ap (λ ws. ws ++ xs) waiting ∙ append_assoc (waiting_of v q) (x ∷ []) xs))

  -- the first k edges are as in m, and of the others nothing waits yet
  record Done (k : ℕ) (v : MergeView) : Type 0 where
    marks_long : length v.marks ≡ length m.marks
    waits_long : length v.waiting ≡ length m.marks
    count : v.count ≡ m.count
    done : (q : ℕ) → q < k → (mark_of v q ≡ mark_of m q) × (waiting_of v q ≡ waiting_of m q)
    left : (q : ℕ) → k ≤ q → q < length m.marks → (mark_of v q ≡ used_of m q) × (waiting_of v q ≡ [])

  -- no edge has more items that wait than its mark says
  abbrev pub WaitsWithin : Type 0
  WaitsWithin = (q : ℕ) → q < length m.marks → length (waiting_of m q) ≤ mark_of m q

  done_next : WaitsWithin → (k : ℕ) (v : MergeView) → k < length m.marks → Done k v → Done (suc k) (fold heads_step v (head_entries m k))
  done_next within k v inside so_far =
      subst (λ (w : MergeView). Done (suc k) w) (sym (heads_edge k (used_of m k) (waiting_of m k) v marks waits (so_far.left k (omega arith) inside).0))
      (record {
        marks_long = length-set v.marks k _ ∙ so_far.marks_long;
        waits_long = length-set v.waiting k _ ∙ so_far.waits_long;
        count = so_far.count;
        done = λ q below. by_same q below (nat_eq q k) refl;
        left = λ q past q_inside.
            let other : q ≢ k = λ same. no_less q past same in
            let before : (mark_of v q ≡ used_of m q) × (waiting_of v q ≡ []) = so_far.left q (omega (arith, past)) q_inside in
            (get_or-set_other v.marks k q _ 0 other ∙ before.0, get_or-set_other v.waiting k q _ [] other ∙ before.1);
      })
    where
      marks : k < length v.marks
      marks = let long : length v.marks ≡ length m.marks = so_far.marks_long in omega (arith, long, inside)

      waits : k < length v.waiting
      waits = let long : length v.waiting ≡ length m.marks = so_far.waits_long in omega (arith, long, inside)

      no_less : (q : ℕ) → suc k ≤ q → q ≡ k → ⊥
      no_less q past same = omega (arith, past, same)

      whole : used_of m k + length (waiting_of m k) ≡ mark_of m k
      whole = let fits : length (waiting_of m k) ≤ mark_of m k = within k inside in omega (arith, fits)

      by_same : (q : ℕ) → q < suc k → (t : Bool) → nat_eq q k ≡ t
          → (slice_index_or (slice_set v.marks k (used_of m k + length (waiting_of m k))) q 0 ≡ mark_of m q)
          × (slice_index_or (slice_set v.waiting k (waiting_of v k ++ waiting_of m k)) q [] ≡ waiting_of m q)
      by_same q below true is =
          let same : k ≡ q = grind (arith, nat_tests, is) in
          subst (λ j. (slice_index_or (slice_set v.marks k (used_of m k + length (waiting_of m k))) j 0 ≡ mark_of m j)
          × (slice_index_or (slice_set v.waiting k (waiting_of v k ++ waiting_of m k)) j [] ≡ waiting_of m j)) same (
            get_or-set_same v.marks k _ 0 marks ∙ whole,
            get_or-set_same v.waiting k _ [] waits ∙ ap (λ ws. ws ++ waiting_of m k) (so_far.left k (omega arith) inside).1,
          )
      by_same q below false is =
          let less : q < k = grind (arith, nat_tests, is, below) in
          let other : q ≢ k = λ same. apart less same in
          let before : (mark_of v q ≡ mark_of m q) × (waiting_of v q ≡ waiting_of m q) = so_far.done q less in
          (get_or-set_other v.marks k q _ 0 other ∙ before.0, get_or-set_other v.waiting k q _ [] other ∙ before.1)
        where
          apart : q < k → q ≡ k → ⊥
          apart less same = omega (arith, less, same)

  done_below : WaitsWithin → (k : ℕ) (v : MergeView) → k ≤ length m.marks → Done 0 v → Done k (fold heads_step v (each_below k (head_entries m)))
  done_below within zero v inside start = start
  done_below within (suc k) v inside start =
      subst (λ (w : MergeView). Done (suc k) w) (sym (fold-append heads_step v (each_below k (head_entries m)) (head_entries m k)))
      (done_next within k (fold heads_step v (each_below k (head_entries m))) (omega (arith, inside)) (done_below within k v (omega (arith, inside)) start))

  all_done : (v : MergeView) → length m.waiting ≡ length m.marks → Done (length m.marks) v → v ≡ m
  all_done v waits so_far =
      ap (λ ms. record v { marks = ms }) (same_number_lists v.marks m.marks so_far.marks_long (λ q inside. (so_far.done q (omega (arith, marks_long, inside))).0))
      ∙ ap (λ ws. record v { marks = m.marks; waiting = ws }) (ext_get_or [] v.waiting m.waiting (so_far.waits_long ∙ sym waits) (λ q inside. (so_far.done q (omega (arith, waits_long, inside))).1))
      ∙ ap (λ n. record m { count = n }) so_far.count
    where
      marks_long : length v.marks ≡ length m.marks
      marks_long = so_far.marks_long

      waits_long : length v.waiting ≡ length m.marks
      waits_long = so_far.waits_long

  none_waits : (z : List Item) (n q : ℕ) → slice_index_or (replicate n z) q z ≡ z
  none_waits z zero q = refl
  none_waits z (suc n) zero = refl
  none_waits z (suc n) (suc q) = none_waits z n q

  -- the merge is that of the beginning
  pub merge_whole : WaitsWithin → length m.waiting ≡ length m.marks → merge_in (length m.marks) (move_list m p es) ≡ m
  merge_whole within waits =
      heads_whole start
      ∙ all_done (fold heads_step start (each_below (length m.marks) (head_entries m))) waits
      (done_below within (length m.marks) start (omega arith)
      (record {
        marks_long = marks_length;
        waits_long = length-replicate (length start.marks) [] ∙ marks_length;
        count = count_whole;
        done = λ q below. absurd (omega (arith, below));
        left = λ q past inside. (marks_at q inside, none_waits [] (length start.marks) q);
      }))
    where
      start : MergeView
      start = starting (marks_in (length m.marks) (move_list m p es)) (count_in (move_list m p es))

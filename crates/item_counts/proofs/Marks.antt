-- How many marks a partition merges: as many as ingress puts, one after each so many inputs.
use Rattle.std.proofs.Common.{◌≡◌, ◌≢◌, ◌<◌, ◌≤◌, ℕ, zero, suc, Bool, true, false, List, [], ◌∷◌, ◌++◌, ◌+◌, Some, None, length, map, refl, sym, ap, ◌∙◌, add-one, arith}
use Rattle.std.specs.Prelude.{◌==◌, ◌%◌, ◌*◌, ◌/◌, ◌||◌, filter, if◌then◌else◌}
use Rattle.std.specs.List.{list_any}
use Rattle.std.proofs.lemmas.Bool.{eqb-true, eq-eqb}
use Rattle.std.proofs.lemmas.Nat.{div-add-mod', div-mul-add, mod-mul-add, mod_below}
use Rattle.tuple_edge.specs.Input.{Input}
use Rattle.tuple_edge.specs.declared.item.Item.{Item}
use Rattle.tuple_edge.specs.declared.item.Item.TheVariants as item
use Rattle.tuple_edge.specs.declared.row.Row.{Row}
use Rattle.merge_order.specs.Edges.{AreAlike}
use Rattle.merge_order.specs.Merged.{Place, all_rows_at, has_mark_at, is_row_at, items, mark_at, merged, rows_at, stamp_at, stamps_upto}
use Rattle.merge_order.proofs.Choices.{nat_not}
use Rattle.merge_order.proofs.Forms.{items-append}
use Rattle.plan_reader.specs.PlanView.{IsPlan, PlanView}
use Rattle.pair_machine.specs.Edges.{sent_by}
use Rattle.pair_machine.specs.Ingress.{last_stamp, mark_after, sent_together}
use Rattle.pair_machine.proofs.Stages.{ingress_marks, sends}

-- how many items are marks or the end
abbrev pub signs : List Item → ℕ
signs [] = 0
signs (item.Row s r ∷ is) = signs is
signs (item.Mark s ∷ is) = suc (signs is)
signs (item.End s ∷ is) = suc (signs is)

signs-append : (is js : List Item) → signs (is ++ js) ≡ signs is + signs js
signs-append [] js = omega arith
signs-append (item.Row s r ∷ is) js = signs-append is js
signs-append (item.Mark s ∷ is) js = omega (arith, signs-append is js)
signs-append (item.End s ∷ is) js = omega (arith, signs-append is js)

-- ---- the marks of a merged list

-- one, where something is so
abbrev one_if : Bool → ℕ
one_if b = if b then 1 else 0

-- how many marks are carried with stamps up to n
abbrev marks_upto : ℕ → (ℕ → Bool) → ℕ
marks_upto zero carries = 0
marks_upto (suc n) carries = marks_upto n carries + one_if (carries (suc n))

rows_signs : (n q : ℕ) (edge : List Item) → signs (items (rows_at n q edge)) ≡ 0
rows_signs n q [] = refl
rows_signs n q (item.Row t r ∷ edge) = go (t == n) (rows_signs n q edge)
  where
    at : Item → Place
    at i = record { source = Some q; item = i }

    go : (b : Bool) → signs (items (rows_at n q edge)) ≡ 0 → signs (items (map at (if b then item.Row t r ∷ filter (is_row_at n) edge else filter (is_row_at n) edge))) ≡ 0
    go true none = none
    go false none = none
rows_signs n q (item.Mark t ∷ edge) = rows_signs n q edge
rows_signs n q (item.End t ∷ edge) = rows_signs n q edge

all_rows_signs : (n q : ℕ) (edges : List (List Item)) → signs (items (all_rows_at n q edges)) ≡ 0
all_rows_signs n q [] = refl
all_rows_signs n q (edge ∷ edges) =
    ap signs (items-append (rows_at n q edge) (all_rows_at n (q + 1) edges)) ∙ signs-append (items (rows_at n q edge)) (items (all_rows_at n (q + 1) edges))
    ∙ omega (arith, rows_signs n q edge, all_rows_signs n (q + 1) edges)

mark_signs : (n : ℕ) (edges : List (List Item)) → signs (items (mark_at n edges)) ≡ one_if (list_any (has_mark_at n) edges)
mark_signs n edges = go (list_any (has_mark_at n) edges)
  where
    go : (b : Bool) → signs (items (if b then record { source = None; item = item.Mark n } ∷ [] else [])) ≡ one_if b
    go true = refl
    go false = refl

stamp_signs : (n : ℕ) (edges : List (List Item)) → signs (items (stamp_at n edges)) ≡ one_if (list_any (has_mark_at n) edges)
stamp_signs n edges =
    ap signs (items-append (all_rows_at n 0 edges) (mark_at n edges)) ∙ signs-append (items (all_rows_at n 0 edges)) (items (mark_at n edges))
    ∙ omega (arith, all_rows_signs n 0 edges, mark_signs n edges)

-- edges that carry the same marks
module _ (last : ℕ) (carries : ℕ → Bool) where
  any_alike : (edges : List (List Item)) → AreAlike last carries edges → 1 ≤ length edges → (n : ℕ) → list_any (has_mark_at n) edges ≡ carries n
  any_alike [] a l n = absurd (omega arith)
  any_alike (edge ∷ []) a l n = or_false (has_mark_at n edge) ∙ a.1 n
    where
      or_false : (b : Bool) → (b || false) ≡ b
      or_false true = refl
      or_false false = refl
  any_alike (edge ∷ other ∷ edges) a l n = same_or (has_mark_at n edge) (list_any (has_mark_at n) (other ∷ edges)) (a.1 n) (any_alike (other ∷ edges) a.2 (omega arith) n)
    where
      same_or : (b c : Bool) → b ≡ carries n → c ≡ carries n → (b || c) ≡ carries n
      same_or true c e f = e
      same_or false c e f = f

  upto_signs : (edges : List (List Item)) → AreAlike last carries edges → 1 ≤ length edges → (n : ℕ) → signs (items (stamps_upto n edges)) ≡ marks_upto n carries
  upto_signs edges a l zero = refl
  upto_signs edges a l (suc n) =
      ap signs (items-append (stamps_upto n edges) (stamp_at (suc n) edges)) ∙ signs-append (items (stamps_upto n edges)) (items (stamp_at (suc n) edges))
      ∙ omega (arith, upto_signs edges a l n, stamp_signs (suc n) edges, ap one_if (any_alike edges a l (suc n)))

  merged_signs : (edges : List (List Item)) → AreAlike last carries edges → 1 ≤ length edges → signs (items (merged last edges)) ≡ marks_upto last carries + 1
  merged_signs edges a l =
      ap signs (items-append (stamps_upto last edges) (record { source = None; item = item.End last } ∷ []))
      ∙ signs-append (items (stamps_upto last edges)) (item.End last ∷ [])
      ∙ ap (λ k. k + 1) (upto_signs edges a l last)

-- before each stage stand as many marks as before the first one
pub same_signs : (plan : PlanView) (inputs : List Input) → IsPlan plan → (s : ℕ)
    → signs (items (merged (last_stamp inputs) (sent_by plan inputs s))) ≡ signs (items (merged (last_stamp inputs) (sent_by plan inputs 0)))
same_signs plan inputs limits s =
    let last = last_stamp inputs in
    let carries = ingress_marks plan inputs in
    let here = sends plan inputs limits s in
    let first = sends plan inputs limits 0 in
    merged_signs last carries (sent_by plan inputs s) here.alike here.some ∙ sym (merged_signs last carries (sent_by plan inputs 0) first.alike first.some)

-- ---- how many marks ingress sends

-- a further number has one multiple more up to it where it is one
div_step : (m k : ℕ) → 1 ≤ k → suc m / k ≡ m / k + one_if (suc m % k == 0)
div_step m k some = go (suc (m % k) == k) refl
  where
    r : ℕ
    r = m % k

    q : ℕ
    q = m / k

    whole : q * k + r ≡ m
    whole = div-add-mod' m k

    below : r < k
    below = mod_below m k (omega arith)

    go : (b : Bool) → (suc r == k) ≡ b → suc m / k ≡ q + one_if (suc m % k == 0)
    go true e =
        let full : suc r ≡ k = eqb-true (suc r) k e in
        let is : suc m ≡ suc q * k + 0 = omega (arith, whole, full) in
        let quotient : suc m / k ≡ suc q = ap (λ n. n / k) is ∙ div-mul-add (suc q) k 0 (omega arith) in
        let rest : suc m % k ≡ 0 = ap (λ n. n % k) is ∙ mod-mul-add (suc q) k 0 (omega arith) in
        quotient ∙ add_one q ∙ ap (λ b. q + one_if b) (sym (eq-eqb (suc m % k) 0 rest))
      where
        add_one : (n : ℕ) → suc n ≡ n + 1
        add_one n = omega arith
    go false e =
        let apart : suc r ≢ k = λ same. let z : ⊥ = clash (suc r == k) (eq-eqb (suc r) k same) e in z in
        let inside : suc r < k = omega (arith, below, apart) in
        let is : suc m ≡ q * k + suc r = omega (arith, whole) in
        let quotient : suc m / k ≡ q = ap (λ n. n / k) is ∙ div-mul-add q k (suc r) inside in
        let rest : suc m % k ≡ suc r = ap (λ n. n % k) is ∙ mod-mul-add q k (suc r) inside in
        let none : (suc m % k == 0) ≡ false = nat_not (suc m % k) 0 (λ same. let z : ⊥ = omega (arith, rest, same) in z) in
        quotient ∙ plus_zero q ∙ ap (λ b. q + one_if b) (sym none)
      where
        clash : (b : Bool) → b ≡ true → b ≡ false → ⊥
        clash true e f = let z : ⊥ = cc f in z
        clash false e f = let z : ⊥ = cc e in z

        plus_zero : (n : ℕ) → n ≡ n + 0
        plus_zero n = omega arith

after_signs : (mark n : ℕ) → signs (mark_after mark n) ≡ one_if (n % mark == 0)
after_signs mark n = go (n % mark == 0)
  where
    go : (b : Bool) → signs (if b then item.Mark n ∷ [] else []) ≡ one_if b
    go true = refl
    go false = refl

together_signs : (mark : ℕ) → 1 ≤ mark → (m : ℕ) (rows : List Row) → signs (sent_together mark (suc m) rows) + m / mark ≡ (m + length rows) / mark + 1
together_signs mark some m [] = ap (λ n. 1 + n / mark) (plus_zero m) ∙ turned ((m + 0) / mark)
  where
    plus_zero : (n : ℕ) → n ≡ n + 0
    plus_zero n = omega arith

    turned : (n : ℕ) → 1 + n ≡ n + 1
    turned n = omega arith
together_signs mark some m (r ∷ rows) =
    let rest : List Item = sent_together mark (suc m + 1) rows in
    let same : signs rest ≡ signs (sent_together mark (suc (suc m)) rows) = ap (λ n. signs (sent_together mark n rows)) (add-one (suc m)) in
    let parts : signs (mark_after mark (suc m) ++ rest) ≡ one_if (suc m % mark == 0) + signs rest = signs-append (mark_after mark (suc m)) rest ∙ ap (λ k. k + signs rest) (after_signs mark (suc m)) in
    let step = div_step m mark some in
    let more = together_signs mark some (suc m) rows in
    let ends : (suc m + length rows) / mark ≡ (m + suc (length rows)) / mark = ap (λ n. n / mark) (shift m (length rows)) in
    sums (signs (mark_after mark (suc m) ++ rest)) (one_if (suc m % mark == 0)) (signs rest) (signs (sent_together mark (suc (suc m)) rows)) (m / mark) (suc m / mark) ((suc m + length rows) / mark) ((m + suc (length rows)) / mark) parts same step more ends
  where
    shift : (a b : ℕ) → suc a + b ≡ a + suc b
    shift a b = omega arith

    sums : (all one rest later here next end_here end_there : ℕ) → all ≡ one + rest → rest ≡ later → next ≡ here + one → later + next ≡ end_here + 1 → end_here ≡ end_there → all + here ≡ end_there + 1
    sums all one rest later here next end_here end_there a b c d e = omega arith

-- the sources of ingress put a mark after each so many inputs, and the end
pub ingress_signs : (mark : ℕ) (rows : List Row) → 1 ≤ mark → signs (sent_together mark 1 rows) ≡ length rows / mark + 1
ingress_signs mark rows some =
    let none : 0 / mark ≡ 0 = ap (λ n. n / mark) (nothing mark) ∙ div-mul-add 0 mark 0 (omega (arith, some)) in
    sums (signs (sent_together mark 1 rows)) (0 / mark) ((0 + length rows) / mark) (length rows / mark) (together_signs mark some 0 rows) none (ap (λ n. n / mark) (plain (length rows)))
  where
    nothing : (k : ℕ) → 0 ≡ 0 * k + 0
    nothing k = omega arith

    plain : (n : ℕ) → 0 + n ≡ n
    plain n = omega arith

    sums : (all none here there : ℕ) → all + none ≡ here + 1 → none ≡ 0 → here ≡ there → all ≡ there + 1
    sums all none here there a b c = omega arith

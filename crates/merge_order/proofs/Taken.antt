-- One merged item is taken from its edges: what that changes in the merged list of what is left of them.
use Rattle.std.proofs.Common.{◌≡◌, ◌≢◌, ◌<◌, ◌≤◌, ℕ, zero, suc, Bool, true, false, List, [], ◌∷◌, ◌++◌, None, Some, ◌+◌, refl, sym, ap, ◌∙◌, subst, arith, length, map}
use Rattle.std.specs.Prelude.{◌==◌, ◌||◌, if◌then◌else◌, filter}
use Rattle.std.specs.List.{list_any}
use Rattle.std.proofs.lemmas.Bool.{eqb-true, eq-eqb}
use Rattle.tuple_edge.specs.declared.row.Row.{Row}
use Rattle.tuple_edge.specs.declared.item.Item.{Item}
use Rattle.tuple_edge.specs.declared.item.Item.TheVariants as item
use Rattle.tuple_edge.specs.Item.{stamp_of}
use Rattle.merge_order.specs.Edges.{AllFrom}
use Rattle.merge_order.specs.Merged.{Place, all_rows_at, has_mark_at, is_mark_at, is_from, is_row_at, mark_at, rows_at, stamp_at, stamps_upto}
use Rattle.merge_order.proofs.Choices.{nat_self, nat_not}

abbrev pub place : ℕ → Item → Place
place q i = record { source = Some q; item = i }

abbrev pub some_mark_at : ℕ → List (List Item) → Bool
some_mark_at n es = list_any (has_mark_at n) es

-- the rows of stamp n of an edge by its first item
abbrev pub rows_if : ℕ → ℕ → Bool → Item → List Item → List Place
rows_if n q held i is = if held then place q i ∷ rows_at n q is else rows_at n q is

pub rows_cons : (n q : ℕ) (i : Item) (is : List Item) → rows_at n q (i ∷ is) ≡ rows_if n q (is_row_at n i) i is
rows_cons n q i is = go (is_row_at n i)
  where
    go : (b : Bool) → map (λ x. place q x) (if b then i ∷ filter (is_row_at n) is else filter (is_row_at n) is) ≡ rows_if n q b i is
    go true = refl
    go false = refl

-- an item goes from a list, or does not
abbrev pub TakesIf : Bool → Item → List Item → List Item → Type 0
TakesIf true i r new = r ≡ i ∷ new
TakesIf false i r new = new ≡ r

-- a merged item goes from each edge that it came from, of those from source q on
abbrev pub EdgesTake : ℕ → Place → List (List Item) → List (List Item) → Type 0
EdgesTake q j [] [] = Unit {0}
EdgesTake q j [] (new ∷ news) = ⊥
EdgesTake q j (r ∷ rs) [] = ⊥
EdgesTake q j (r ∷ rs) (new ∷ news) = TakesIf (is_from q j.source) j.item r new × EdgesTake (q + 1) j rs news

-- other stamps ------------------------------------------------------------------

rows_other : (n q : ℕ) (b : Bool) (i : Item) (r new : List Item) → is_row_at n i ≡ false → TakesIf b i r new → rows_at n q r ≡ rows_at n q new
rows_other n q true i r new other e = ap (rows_at n q) e ∙ (rows_cons n q i new ∙ ap (λ c. rows_if n q c i new) other)
rows_other n q false i r new other e = ap (rows_at n q) (sym e)

mark_other : (n : ℕ) (b : Bool) (i : Item) (r new : List Item) → is_mark_at n i ≡ false → TakesIf b i r new → has_mark_at n r ≡ has_mark_at n new
mark_other n true i r new other e = ap (has_mark_at n) e ∙ ap (λ c. c || has_mark_at n new) other
mark_other n false i r new other e = ap (has_mark_at n) (sym e)

pub all_rows_other : (n q : ℕ) (j : Place) (rs news : List (List Item)) → is_row_at n j.item ≡ false → EdgesTake q j rs news → all_rows_at n q rs ≡ all_rows_at n q news
all_rows_other n q j [] [] other t = refl
all_rows_other n q j [] (new ∷ news) other t = absurd t
all_rows_other n q j (r ∷ rs) [] other t = absurd t
all_rows_other n q j (r ∷ rs) (new ∷ news) other t =
    ap (λ l. l ++ all_rows_at n (q + 1) rs) (rows_other n q (is_from q j.source) j.item r new other t.0) ∙ ap (λ l. rows_at n q new ++ l) (all_rows_other n (q + 1) j rs news other t.1)

pub some_mark_other : (n q : ℕ) (j : Place) (rs news : List (List Item)) → is_mark_at n j.item ≡ false → EdgesTake q j rs news → some_mark_at n rs ≡ some_mark_at n news
some_mark_other n q j [] [] other t = refl
some_mark_other n q j [] (new ∷ news) other t = absurd t
some_mark_other n q j (r ∷ rs) [] other t = absurd t
some_mark_other n q j (r ∷ rs) (new ∷ news) other t =
    ap (λ c. c || some_mark_at n rs) (mark_other n (is_from q j.source) j.item r new other t.0) ∙ ap (λ c. has_mark_at n new || c) (some_mark_other n (q + 1) j rs news other t.1)

pub row_not : (n : ℕ) (i : Item) → n ≢ stamp_of i → is_row_at n i ≡ false
row_not n (item.Row s r) h = nat_not s n (λ e. h (sym e))
row_not n (item.Mark s) h = refl
row_not n (item.End s) h = refl

pub mark_not : (n : ℕ) (i : Item) → n ≢ stamp_of i → is_mark_at n i ≡ false
mark_not n (item.Row s r) h = refl
mark_not n (item.Mark s) h = nat_not s n (λ e. h (sym e))
mark_not n (item.End s) h = refl

-- the mark of stamp n, where some edge carries it
abbrev pub mark_if : ℕ → Bool → List Place
mark_if n held = if held then record { source = None; item = item.Mark n } ∷ [] else []

pub stamp_other : (n : ℕ) (j : Place) (rs news : List (List Item)) → n ≢ stamp_of j.item → EdgesTake 0 j rs news → stamp_at n rs ≡ stamp_at n news
stamp_other n j rs news h t =
    ap (λ l. l ++ mark_at n rs) (all_rows_other n 0 j rs news (row_not n j.item h) t)
    ∙ ap (λ c. all_rows_at n 0 news ++ mark_if n c) (some_mark_other n 0 j rs news (mark_not n j.item h) t)

-- stamps below -------------------------------------------------------------------

pub rows_none : (n q s : ℕ) (r : List Item) → n < s → AllFrom s r → rows_at n q r ≡ []
rows_none n q s [] l f = refl
rows_none n q s (i ∷ r) l f =
    rows_cons n q i r ∙ (ap (λ c. rows_if n q c i r) (row_not n i (λ e. let k = f.0 in omega arith)) ∙ rows_none n q s r l f.1)

pub mark_none : (n s : ℕ) (r : List Item) → n < s → AllFrom s r → has_mark_at n r ≡ false
mark_none n s [] l f = refl
mark_none n s (i ∷ r) l f = ap (λ c. c || has_mark_at n r) (mark_not n i (λ e. let k = f.0 in omega arith)) ∙ mark_none n s r l f.1

abbrev pub EachFrom : ℕ → List (List Item) → Type 0
EachFrom s [] = Unit {0}
EachFrom s (r ∷ rs) = AllFrom s r × EachFrom s rs

pub all_rows_none : (n q s : ℕ) (rs : List (List Item)) → n < s → EachFrom s rs → all_rows_at n q rs ≡ []
all_rows_none n q s [] l f = refl
all_rows_none n q s (r ∷ rs) l f = ap (λ x. x ++ all_rows_at n (q + 1) rs) (rows_none n q s r l f.0) ∙ all_rows_none n (q + 1) s rs l f.1

pub some_mark_none : (n s : ℕ) (rs : List (List Item)) → n < s → EachFrom s rs → some_mark_at n rs ≡ false
some_mark_none n s [] l f = refl
some_mark_none n s (r ∷ rs) l f = ap (λ c. c || some_mark_at n rs) (mark_none n s r l f.0) ∙ some_mark_none n s rs l f.1

pub stamp_none : (n s : ℕ) (rs : List (List Item)) → n < s → EachFrom s rs → stamp_at n rs ≡ []
stamp_none n s rs l f = ap (λ x. x ++ mark_at n rs) (all_rows_none n 0 s rs l f) ∙ ap (mark_if n) (some_mark_none n s rs l f)

pub stamps_none : (n s : ℕ) (rs : List (List Item)) → n < s → EachFrom s rs → stamps_upto n rs ≡ []
stamps_none zero s rs l f = refl
stamps_none (suc n) s rs l f = ap (λ x. x ++ stamp_at (suc n) rs) (stamps_none n s rs (omega arith) f) ∙ stamp_none (suc n) s rs l f

-- the stamps up to one that is not below ------------------------------------------

same_stamps : (n : ℕ) (j : Place) (rs news : List (List Item)) → n < stamp_of j.item → EdgesTake 0 j rs news → stamps_upto n rs ≡ stamps_upto n news
same_stamps zero j rs news l t = refl
same_stamps (suc n) j rs news l t =
    ap (λ x. x ++ stamp_at (suc n) rs) (same_stamps n j rs news (omega arith) t) ∙ ap (λ x. stamps_upto n news ++ x) (stamp_other (suc n) j rs news (λ e. omega arith) t)

-- a merged item that begins its stamp begins the stamps up to any later one
pub stamps_begin : (n : ℕ) (j : Place) (rs news : List (List Item)) → 1 ≤ stamp_of j.item → stamp_of j.item ≤ n → EachFrom (stamp_of j.item) rs → EdgesTake 0 j rs news
    → stamp_at (stamp_of j.item) rs ≡ j ∷ stamp_at (stamp_of j.item) news → stamps_upto n rs ≡ j ∷ stamps_upto n news
stamps_begin zero j rs news one l f t e = absurd (omega arith)
stamps_begin (suc n) j rs news one l f t e = go (stamp_of j.item == suc n) (eqb-true _ _) (eq-eqb _ _) (λ k. stamps_begin n j rs news one k f t e)
  where
    go : (c : Bool) → (c ≡ true → stamp_of j.item ≡ suc n) → (stamp_of j.item ≡ suc n → c ≡ true) → (stamp_of j.item ≤ n → stamps_upto n rs ≡ j ∷ stamps_upto n news) → stamps_upto (suc n) rs ≡ j ∷ stamps_upto (suc n) news
    go true is isn old =
        let s = is refl in
        let none : stamps_upto n rs ≡ [] = stamps_none n (stamp_of j.item) rs (omega arith) f in
        let none_left : stamps_upto n news ≡ [] = sym (same_stamps n j rs news (omega arith) t) ∙ none in
        let here : stamp_at (suc n) rs ≡ j ∷ stamp_at (suc n) news = subst (λ k. stamp_at k rs ≡ j ∷ stamp_at k news) s e in
        ap (λ x. x ++ stamp_at (suc n) rs) none ∙ (here ∙ sym (ap (λ x. j ∷ (x ++ stamp_at (suc n) news)) none_left))
    go false is isn old =
        let apart : stamp_of j.item ≢ suc n = λ z. let w : ⊥ = cc (isn z) in w in
        ap (λ x. x ++ stamp_at (suc n) rs) (old (omega (arith, apart))) ∙ ap (λ x. j ∷ (stamps_upto n news ++ x)) (stamp_other (suc n) j rs news (λ z. apart (sym z)) t)

-- a row ---------------------------------------------------------------------------

-- before source at no edge has rows of stamp s
abbrev pub ClearBefore : ℕ → ℕ → ℕ → List (List Item) → Type 0
ClearBefore s at q [] = Unit {0}
ClearBefore s at q (r ∷ rs) = (q < at → rows_at s q r ≡ []) × ClearBefore s at (q + 1) rs

-- nothing goes after source at
takes_none : (at : ℕ) (i : Item) (q : ℕ) (rs news : List (List Item)) → at < q → EdgesTake q (place at i) rs news → news ≡ rs
takes_none at i q [] [] l t = refl
takes_none at i q [] (new ∷ news) l t = absurd t
takes_none at i q (r ∷ rs) [] l t = absurd t
takes_none at i q (r ∷ rs) (new ∷ news) l t =
    let z : (at == q) ≡ false = nat_not at q (omega arith) in
    let same : new ≡ r = subst (λ b. TakesIf b i r new) z t.0 in
    ap (λ x. x ∷ news) same ∙ ap (λ x. r ∷ x) (takes_none at i (q + 1) rs news (omega arith) t.1)

pub row_begins : (s : ℕ) (row : Row) (at q : ℕ) (rs news : List (List Item)) → q ≤ at → at < q + length rs → ClearBefore s at q rs
    → EdgesTake q (place at (item.Row s row)) rs news → all_rows_at s q rs ≡ place at (item.Row s row) ∷ all_rows_at s q news
row_begins s row at q [] news l m clear t = absurd (omega arith)
row_begins s row at q (r ∷ rs) [] l m clear t = absurd t
row_begins s row at q (r ∷ rs) (new ∷ news) l m clear t = go (at == q) (eqb-true at q) (eq-eqb at q) t.0 (λ k. row_begins s row at (q + 1) rs news k (omega arith) clear.1 t.1)
  where
    j : Place
    j = place at (item.Row s row)

    go : (c : Bool) → (c ≡ true → at ≡ q) → (at ≡ q → c ≡ true) → TakesIf c (item.Row s row) r new → (q + 1 ≤ at → all_rows_at s (q + 1) rs ≡ j ∷ all_rows_at s (q + 1) news)
        → all_rows_at s q (r ∷ rs) ≡ j ∷ all_rows_at s q (new ∷ news)
    go true is isn e old =
        let here = is refl in
        let rest : news ≡ rs = takes_none at (item.Row s row) (q + 1) rs news (omega arith) t.1 in
        let first : rows_at s q r ≡ place q (item.Row s row) ∷ rows_at s q new =
        ap (rows_at s q) e ∙ (rows_cons s q (item.Row s row) new ∙ ap (λ b. rows_if s q b (item.Row s row) new) (nat_self s)) in
        ap (λ x. x ++ all_rows_at s (q + 1) rs) first ∙ (ap (λ k. place k (item.Row s row) ∷ (rows_at s q new ++ all_rows_at s (q + 1) rs)) (sym here)
        ∙ ap (λ x. j ∷ (rows_at s q new ++ all_rows_at s (q + 1) x)) (sym rest))
    go false is isn e old =
        let apart : at ≢ q = λ z. let w : ⊥ = cc (isn z) in w in
        let none = clear.0 (omega (arith, apart)) in
        let none_left : rows_at s q new ≡ [] = ap (rows_at s q) e ∙ none in
        ap (λ x. x ++ all_rows_at s (q + 1) rs) none ∙ (old (omega (arith, apart)) ∙ sym (ap (λ x. j ∷ (x ++ all_rows_at s (q + 1) news)) none_left))

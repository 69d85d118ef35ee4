-- What is kept by key, and the entries that tell of it: each is known from the other.
use Rattle.std.proofs.Common.{◌≡◌, Bool, true, false, List, [], ◌∷◌, ◌++◌, refl, sym, ap, ◌∙◌, subst, append_assoc}
use Rattle.std.proofs.lemmas.List.{append-nil}
use Rattle.std.proofs.lemmas.List.Elements.{All-head, All-tail}
use Rattle.std.proofs.lemmas.Map.Keys.{sorted_head, sorted_tail}
use Rattle.std.specs.List.{All, AllByRecursion}
use Rattle.std.specs.Map.{keys_of, values_of}
use Rattle.std.specs.Ordering.{is_eq}
use Rattle.std.specs.declared.cmp.Ordering.TheVariants.{Less}
use Rattle.tuple_edge.specs.declared.packet.Entry.{Entry}
use Rattle.tuple_edge.specs.declared.packet.Entry.TheVariants as entry
use Rattle.tuple_edge.specs.declared.row.Key.{Key}
use Rattle.op_spec.specs.Keys.{is_key, key_cmp}
use Rattle.stream_ops.specs.Entries.{all_told}
use Rattle.stream_ops.specs.View.{AreRight}
use Rattle.stream_ops.proofs.Keyed.{same_key}

-- whether an entry is of this key
abbrev pub has_key : Key → Entry → Bool
has_key k (entry.Keyed q slot a b c) = is_key k q
has_key k (entry.Mark edge upto) = false
has_key k (entry.Count count) = false
has_key k (entry.Head edge number item) = false
has_key k (entry.Low edge upto produced) = false
has_key k (entry.Kept edge number item) = false

-- all entries are of this key
abbrev pub AllOf : Key → List Entry → Type 0
AllOf k [] = Unit {0}
AllOf k (x ∷ xs) = (has_key k x ≡ true) × AllOf k xs

-- the first entry, if there is one, is of another key
abbrev pub BeginsApart : Key → List Entry → Type 0
BeginsApart k [] = Unit {0}
BeginsApart k (x ∷ xs) = has_key k x ≡ false

-- how entries tell of what is kept for a key: all are of that key, there is one, and they tell all
pub record Tells {X : Type 0} (told : Key → X → List Entry) (right : X → Type 0) : Type 0 where
  pub keyed : (k : Key) (x : X) → AllOf k (told k x)
  pub some : (k : Key) (x : X) → right x → (first : Entry) × (later : List Entry) × (told k x ≡ first ∷ later)
  pub exact : (k : Key) (x y : X) → right x → right y → told k x ≡ told k y → x ≡ y

-- a run of one key, before another
pub run_splits : (k : Key) (xs ys us bs : List Entry) → AllOf k xs → AllOf k ys → BeginsApart k us → BeginsApart k bs → xs ++ us ≡ ys ++ bs → (xs ≡ ys) × (us ≡ bs)
run_splits k [] [] us bs left right apart_as apart_bs same = (refl, same)
run_splits k [] (y ∷ ys) [] bs left right apart_as apart_bs same = cc
run_splits k [] (y ∷ ys) (a ∷ us) bs left right apart_as apart_bs same =
    let e : a ≡ y = cc in
    let h : false ≡ true = sym apart_as ∙ ap (has_key k) e ∙ right.0 in
    cc
run_splits k (x ∷ xs) [] us [] left right apart_as apart_bs same = cc
run_splits k (x ∷ xs) [] us (b ∷ bs) left right apart_as apart_bs same =
    let e : b ≡ x = cc in
    let h : false ≡ true = sym apart_bs ∙ ap (has_key k) e ∙ left.0 in
    cc
run_splits k (x ∷ xs) (y ∷ ys) us bs left right apart_as apart_bs same =
    let first : x ≡ y = cc in
    let later : xs ++ us ≡ ys ++ bs = cc in
    let rest : (xs ≡ ys) × (us ≡ bs) = run_splits k xs ys us bs left.1 right.1 apart_as apart_bs later in
    (ap (λ z. z ∷ xs) first ∙ ap (λ zs. y ∷ zs) rest.0, rest.1)

-- a key below another is apart from it
pub below_apart : (k q : Key) → key_cmp k q ≡ Less → is_key k q ≡ false
below_apart k q below = ap is_eq below

-- one entry is of one key
pub one_key : (k q : Key) (en : Entry) → has_key k en ≡ true → has_key q en ≡ true → k ≡ q
one_key k q (entry.Keyed z slot a b c) of_k of_q = same_key k z of_k ∙ sym (same_key q z of_q)
one_key k q (entry.Mark edge upto) of_k of_q = cc
one_key k q (entry.Count count) of_k of_q = cc
one_key k q (entry.Head edge number item) of_k of_q = cc
one_key k q (entry.Low edge upto produced) of_k of_q = cc
one_key k q (entry.Kept edge number item) of_k of_q = cc

module _ {X : Type 0} {told : Key → X → List Entry} {right : X → Type 0} (tells : Tells told right) where
  -- what tells of a key begins with an entry of that key
  pub begins : (k : Key) (x : X) (first : Entry) (later : List Entry) → told k x ≡ first ∷ later → has_key k first ≡ true
  begins k x first later is = (subst (AllOf k) is (tells.keyed k x)).0

  pub begins_apart_by : (k : Key) (e : Key × X) (rest : List Entry) → key_cmp k e.0 ≡ Less → (first : Entry) (later : List Entry) → told e.0 e.1 ≡ first ∷ later → BeginsApart k (told e.0 e.1 ++ rest)
  begins_apart_by k e rest below first later is =
      subst (λ (es : List Entry). BeginsApart k (es ++ rest)) (sym is) (apart k e.0 first below (begins e.0 e.1 first later is))
    where
      apart : (k q : Key) (en : Entry) → key_cmp k q ≡ Less → has_key q en ≡ true → has_key k en ≡ false
      apart k q (entry.Keyed z slot a b c) below of_q = ap (is_key k) (sym (same_key q z of_q)) ∙ below_apart k q below
      apart k q (entry.Mark edge upto) below of_q = refl
      apart k q (entry.Count count) below of_q = refl
      apart k q (entry.Head edge number item) below of_q = refl
      apart k q (entry.Low edge upto produced) below of_q = refl
      apart k q (entry.Kept edge number item) below of_q = refl

  -- what is kept for later keys is told apart
  pub later_apart : (k : Key) (es : List (Key × X)) (rest : List Entry) → AllByRecursion (λ q. key_cmp k q ≡ Less) (keys_of es) → All right (values_of es) → BeginsApart k rest → BeginsApart k (all_told told es ++ rest)
  later_apart k [] rest below are_right apart = apart
  later_apart k (e ∷ es) rest below are_right apart =
      let s = tells.some e.0 e.1 (All-head right e.1 (values_of es) are_right) in
      subst (BeginsApart k) (sym (append_assoc (told e.0 e.1) (all_told told es) rest))
      (begins_apart_by k e (all_told told es ++ rest) below.0 s.0 s.1 s.2)

  -- the entries tell all
  pub told_exact : (es fs : List (Key × X)) → AreRight right es → AreRight right fs → all_told told es ≡ all_told told fs → es ≡ fs
  told_exact [] [] left right_too same = refl
  told_exact [] (f ∷ fs) left right_too same =
      let s = tells.some f.0 f.1 (All-head right f.1 (values_of fs) right_too.1) in
      let h = rw s.2 at same in
      cc
  told_exact (e ∷ es) [] left right_too same =
      let s = tells.some e.0 e.1 (All-head right e.1 (values_of es) left.1) in
      let h = rw s.2 at same in
      cc
  told_exact (e ∷ es) (f ∷ fs) left right_too same =
      let s = tells.some e.0 e.1 (All-head right e.1 (values_of es) left.1) in
      let t = tells.some f.0 f.1 (All-head right f.1 (values_of fs) right_too.1) in
      let whole : (s.0 ∷ s.1) ++ all_told told es ≡ (t.0 ∷ t.1) ++ all_told told fs = ap (λ xs. xs ++ all_told told es) (sym s.2) ∙ same ∙ ap (λ xs. xs ++ all_told told fs) t.2 in
      let first : s.0 ≡ t.0 = cc in
      let key : e.0 ≡ f.0 = one_key e.0 f.0 s.0 (begins e.0 e.1 s.0 s.1 s.2) (ap (has_key f.0) first ∙ begins f.0 f.1 t.0 t.1 t.2) in
      let aligned : told e.0 e.1 ++ all_told told es ≡ told e.0 f.1 ++ all_told told fs = same ∙ ap (λ k. told k f.1 ++ all_told told fs) (sym key) in
      let parts : (told e.0 e.1 ≡ told e.0 f.1) × (all_told told es ≡ all_told told fs) =
      run_splits e.0 (told e.0 e.1) (told e.0 f.1) (all_told told es) (all_told told fs) (tells.keyed e.0 e.1) (tells.keyed e.0 f.1)
      (subst (BeginsApart e.0) (append-nil (all_told told es)) (later_apart e.0 es [] (sorted_head key_cmp e.0 (keys_of es) left.0) (All-tail right e.1 (values_of es) left.1) tt))
      (subst (BeginsApart e.0) (append-nil (all_told told fs)) (later_apart e.0 fs [] (subst (λ k. AllByRecursion (λ q. key_cmp k q ≡ Less) (keys_of fs)) (sym key) (sorted_head key_cmp f.0 (keys_of fs) right_too.0)) (All-tail right f.1 (values_of fs) right_too.1) tt))
      aligned in
      let value : e.1 ≡ f.1 = tells.exact e.0 e.1 f.1 (All-head right e.1 (values_of es) left.1) (All-head right f.1 (values_of fs) right_too.1) parts.0 in
      let rest : es ≡ fs = told_exact es fs (sorted_tail key_cmp e.0 (keys_of es) left.0, All-tail right e.1 (values_of es) left.1) (sorted_tail key_cmp f.0 (keys_of fs) right_too.0, All-tail right f.1 (values_of fs) right_too.1) parts.1 in
      let entry : e ≡ f = ap (λ k. (k, e.1)) key ∙ ap (λ x. (f.0, x)) value in
      ap (λ z. z ∷ es) entry ∙ ap (λ zs. f ∷ zs) rest

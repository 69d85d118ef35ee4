-- Keys in their order.
use Rattle.std.proofs.Common.{◌≡◌, ℤ, Bool, true, false, cond, List, [], ◌∷◌, refl, sym, ap, ◌∙◌, Option, Some}
use Rattle.std.specs.Cmp.{IsTotalOrder, Equal-is, eq_by_cmp_equiv}
use Rattle.std.specs.declared.cmp.Ordering.{Ordering}
use Rattle.std.specs.declared.cmp.Ordering.TheVariants.{Less, Equal, Greater}
use Rattle.std.specs.BTreeMap.{insert_entry, is_at}
use Rattle.std.specs.List.Sorted.{IsStrictlySortedBy}
use Rattle.std.specs.Map.{keys_of, lookup}
use Rattle.std.specs.Option.{IsSome}
use Rattle.std.specs.Ordering.{int_cmp}
use Rattle.std.proofs.lemmas.Cmp.{int_cmp_total, on_total, then_total}
use Rattle.std.proofs.lemmas.Map.Entries.{none_below_head}
use Rattle.std.proofs.lemmas.Map.Keys.{sorted_tail}
use Rattle.std.proofs.lemmas.Map.Lookups.{exact_signed, exact_pairs}
use Rattle.keyed_store.proofs.Images.{none_there}
use Rattle.tuple_edge.specs.declared.row.Key.{Key}
use Rattle.op_spec.specs.Keys.{is_key, key_cmp}
use Rattle.stream_ops.specs.Rows.{with_key}

-- keys that compare as equal are one
pub same_key : (a b : Key) → is_key a b ≡ true → a ≡ b
same_key a b same =
    ap (λ (p : ℤ × ℤ). let k : Key = record { account = p.0; symbol = p.1 } in k)
    (exact_pairs int_cmp int_cmp exact_signed exact_signed (a.account, a.symbol) (b.account, b.symbol) ((Equal-is (key_cmp a b)).0 same))

pub key_cmp_total : IsTotalOrder key_cmp
key_cmp_total = then_total (on_total (λ (k : Key). k.account) int_cmp_total) (on_total (λ (k : Key). k.symbol) int_cmp_total)

-- the keys after an insertion
keys-insert_by : {X : Type 0} (e : Key × X) (es : List (Key × X)) (k : Key) (v : X) (o : Ordering) → key_cmp k e.0 ≡ o → keys_of (insert_entry key_cmp es k v) ≡ with_key k (keys_of es)
    → keys_of (insert_entry key_cmp (e ∷ es) k v) ≡ with_key k (keys_of (e ∷ es))
keys-insert_by e es k v Less is later = rw is refl
keys-insert_by e es k v Equal is later = rw is refl
keys-insert_by e es k v Greater is later = rw is (ap (λ ks. e.0 ∷ ks) later)

pub keys-insert : {X : Type 0} (es : List (Key × X)) (k : Key) (v : X) → keys_of (insert_entry key_cmp es k v) ≡ with_key k (keys_of es)
keys-insert [] k v = refl
keys-insert (e ∷ es) k v = keys-insert_by e es k v (key_cmp k e.0) refl (keys-insert es k v)

-- a key that is there stays
keys-had_by : {X : Type 0} (e : Key × X) (es : List (Key × X)) (k : Key) (o : Ordering) → key_cmp k e.0 ≡ o
    → IsStrictlySortedBy key_cmp (keys_of (e ∷ es)) → IsSome (lookup (is_at (key_cmp k)) (e ∷ es))
    → (IsSome (lookup (is_at (key_cmp k)) es) → with_key k (keys_of es) ≡ keys_of es)
    → with_key k (keys_of (e ∷ es)) ≡ keys_of (e ∷ es)
keys-had_by e es k Less is sorted had later = absurd (none_there (is_at (key_cmp k)) (e ∷ es) (none_below_head key_cmp_total k e es sorted is) had)
keys-had_by e es k Equal is sorted had later = rw is refl
keys-had_by e es k Greater is sorted had later = rw is (ap (λ ks. e.0 ∷ ks) (later (rw is at had)))

pub keys-had : {X : Type 0} (es : List (Key × X)) (k : Key) → IsStrictlySortedBy key_cmp (keys_of es) → IsSome (lookup (is_at (key_cmp k)) es) → with_key k (keys_of es) ≡ keys_of es
keys-had [] k sorted had =
    let h : false ≡ true = had in
    cc
keys-had (e ∷ es) k sorted had = keys-had_by e es k (key_cmp k e.0) refl sorted had (λ h. keys-had es k (sorted_tail key_cmp e.0 (keys_of es) sorted) h)

-- a key is itself, and a key that is another is that other's too
pub self_key : (k : Key) → is_key k k ≡ true
self_key k = (eq_by_cmp_equiv key_cmp_total).refl k

pub is_key-symm : (a b : Key) → is_key a b ≡ is_key b a
is_key-symm a b = (eq_by_cmp_equiv key_cmp_total).symm a b

-- what an insertion leaves at each key
lookup-insert_equal : {X : Type 0} (e : Key × X) (es : List (Key × X)) (k q : Key) (v : X) (t : Bool) → is_key k q ≡ t → key_cmp k e.0 ≡ Equal
    → cond (is_key q e.0) (Some v) (lookup (is_key q) es) ≡ cond t (Some v) (cond (is_key q e.0) (Some e.1) (lookup (is_key q) es))
lookup-insert_equal e es k q v true is equal =
    let there : k ≡ e.0 = same_key k e.0 (rw equal refl) in
    let here : is_key q e.0 ≡ true = ap (is_key q) (sym there) ∙ is_key-symm q k ∙ is in
    rw here refl
lookup-insert_equal e es k q v false is equal =
    let there : k ≡ e.0 = same_key k e.0 (rw equal refl) in
    let here : is_key q e.0 ≡ false = ap (is_key q) (sym there) ∙ is_key-symm q k ∙ is in
    rw here refl

lookup-insert_greater : {X : Type 0} (e : Key × X) (es : List (Key × X)) (k q : Key) (v : X) (later : Option X) (t : Bool) → is_key q e.0 ≡ t → key_cmp k e.0 ≡ Greater
    → later ≡ cond (is_key k q) (Some v) (lookup (is_key q) es)
    → cond t (Some e.1) later ≡ cond (is_key k q) (Some v) (cond t (Some e.1) (lookup (is_key q) es))
lookup-insert_greater e es k q v later false is greater same = same
lookup-insert_greater e es k q v later true is greater same =
    let there : q ≡ e.0 = same_key q e.0 is in
    let apart : is_key k q ≡ false = ap (is_key k) there ∙ rw greater refl in
    rw apart refl

lookup-insert_by : {X : Type 0} (e : Key × X) (es : List (Key × X)) (k q : Key) (v : X) (o : Ordering) → key_cmp k e.0 ≡ o
    → lookup (is_key q) (insert_entry key_cmp es k v) ≡ cond (is_key k q) (Some v) (lookup (is_key q) es)
    → lookup (is_key q) (insert_entry key_cmp (e ∷ es) k v) ≡ cond (is_key k q) (Some v) (lookup (is_key q) (e ∷ es))
lookup-insert_by e es k q v Less is later = rw is (ap (λ t. cond t (Some v) (lookup (is_key q) (e ∷ es))) (is_key-symm q k))
lookup-insert_by e es k q v Equal is later = rw is (lookup-insert_equal e es k q v (is_key k q) refl is)
lookup-insert_by e es k q v Greater is later = rw is (lookup-insert_greater e es k q v (lookup (is_key q) (insert_entry key_cmp es k v)) (is_key q e.0) refl is later)

pub lookup-insert : {X : Type 0} (k q : Key) (v : X) (es : List (Key × X)) → lookup (is_key q) (insert_entry key_cmp es k v) ≡ cond (is_key k q) (Some v) (lookup (is_key q) es)
lookup-insert k q v [] = ap (λ t. cond t (Some v) (lookup (is_key q) [])) (is_key-symm q k)
lookup-insert k q v (e ∷ es) = lookup-insert_by e es k q v (key_cmp k e.0) refl (lookup-insert k q v es)

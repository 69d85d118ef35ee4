-- Keys that are among others already: putting one in changes nothing.
use Rattle.std.proofs.Common.{◌≡◌, ◌≤◌, ◌+◌, Bool, true, false, List, [], ◌∷◌, length, fold, refl, sym, ap, subst, ◌∙◌, arith}
use Rattle.std.specs.List.{filter}
use Rattle.std.specs.Ordering.{MatchOrdering, ordering_reverse}
use Rattle.std.specs.declared.cmp.Ordering.{Ordering}
use Rattle.std.specs.declared.cmp.Ordering.TheVariants.{Less, Equal, Greater}
use Rattle.tuple_edge.specs.declared.row.Key.{Key}
use Rattle.tuple_edge.specs.declared.row.Row.{Row}
use Rattle.op_spec.specs.Keys.{is_key, key_of, key_cmp}
use Rattle.op_spec.specs.declared.spec.By.{By}
use Rattle.stream_ops.specs.Rows.{keys_among, with_key}
use Rattle.stream_ops.proofs.Keyed.{key_cmp_total, same_key}

-- a walk along keys, past those below it, comes to this one
abbrev pub IsKnown : Key → List Key → Type 0
IsKnown k [] = ⊥
IsKnown k (q ∷ keys) = MatchOrdering (key_cmp k q) ⊥ (Unit {0}) (IsKnown k keys)

-- a key equals itself, and a key above another is not below it
cmp_self_by : (k : Key) (o : Ordering) → key_cmp k k ≡ o → key_cmp k k ≡ Equal
cmp_self_by k Less is = let back : key_cmp k k ≡ ordering_reverse (key_cmp k k) = key_cmp_total.antisymm k k in cc
cmp_self_by k Equal is = is
cmp_self_by k Greater is = let back : key_cmp k k ≡ ordering_reverse (key_cmp k k) = key_cmp_total.antisymm k k in cc

cmp_self : (k : Key) → key_cmp k k ≡ Equal
cmp_self k = cmp_self_by k (key_cmp k k) refl

reversed : (k q : Key) (o : Ordering) → key_cmp k q ≡ o → key_cmp q k ≡ ordering_reverse o
reversed k q o is = key_cmp_total.antisymm q k ∙ ap ordering_reverse is

-- a key at least another is above each that is below that one
above : (k e q : Key) (o : Ordering) → key_cmp k e ≡ o → (o ≡ Less → ⊥) → key_cmp q e ≡ Less → key_cmp k q ≡ Greater
above k e q Less is not_less below = absurd (not_less refl)
above k e q Equal is not_less below = key_cmp_total.congr k e q is ∙ reversed q e Less below
above k e q Greater is not_less below = reversed q k Less (key_cmp_total.trans q e k below (reversed k e Greater is))

-- a known key changes nothing
known_by : (k q : Key) (keys : List Key) (o : Ordering) → key_cmp k q ≡ o → (IsKnown k keys → with_key k keys ≡ keys)
    → MatchOrdering o ⊥ (Unit {0}) (IsKnown k keys) → with_key k (q ∷ keys) ≡ q ∷ keys
known_by k q keys Less is later known = absurd known
known_by k q keys Equal is later known = rw is refl
known_by k q keys Greater is later known = rw is (ap (λ ks. q ∷ ks) (later known))

pub with_key-known : (k : Key) (keys : List Key) → IsKnown k keys → with_key k keys ≡ keys
with_key-known k [] known = absurd known
with_key-known k (q ∷ keys) known = known_by k q keys (key_cmp k q) refl (λ h. with_key-known k keys h) known

-- a key that was put in is known
put_by : (k q : Key) (keys : List Key) (o : Ordering) → key_cmp k q ≡ o → IsKnown k (with_key k keys) → IsKnown k (with_key k (q ∷ keys))
put_by k q keys Less is later = rw is (rw (cmp_self k) tt)
put_by k q keys Equal is later = rw is (rw is tt)
put_by k q keys Greater is later = rw is (rw is later)

pub known_once_put : (k : Key) (keys : List Key) → IsKnown k (with_key k keys)
known_once_put k [] = rw (cmp_self k) tt
known_once_put k (q ∷ keys) = put_by k q keys (key_cmp k q) refl (known_once_put k keys)

-- a known key stays known when another is put in
stays_at : (k e : Key) (keys : List Key) (o : Ordering) → key_cmp k e ≡ o → (later : List Key) → (IsKnown k keys → IsKnown k later) → IsKnown k (e ∷ keys) → IsKnown k (e ∷ later)
stays_at k e keys Less is later stays known = absurd (rw is at known)
stays_at k e keys Equal is later stays known = rw is tt
stays_at k e keys Greater is later stays known = rw is (stays (rw is at known))

not_below : (k e : Key) (keys : List Key) (o : Ordering) → key_cmp k e ≡ o → IsKnown k (e ∷ keys) → o ≡ Less → ⊥
not_below k e keys Less is known less = rw is at known
not_below k e keys Equal is known less = cc
not_below k e keys Greater is known less = cc

stays_by : (k q e : Key) (keys : List Key) (o : Ordering) → key_cmp q e ≡ o → (IsKnown k keys → IsKnown k (with_key q keys)) → IsKnown k (e ∷ keys) → IsKnown k (with_key q (e ∷ keys))
stays_by k q e keys Less is stays known = rw is (rw (above k e q (key_cmp k e) refl (not_below k e keys (key_cmp k e) refl known) is) known)
stays_by k q e keys Equal is stays known = rw is known
stays_by k q e keys Greater is stays known = rw is (stays_at k e keys (key_cmp k e) refl (with_key q keys) stays known)

pub known_stays : (k q : Key) (keys : List Key) → IsKnown k keys → IsKnown k (with_key q keys)
known_stays k q [] known = absurd known
known_stays k q (e ∷ keys) known = stays_by k q e keys (key_cmp q e) refl (λ h. known_stays k q keys h) known

known_through : (by : By) (k : Key) (rows : List Row) (keys : List Key) → IsKnown k keys → IsKnown k (fold (λ keys r. with_key (key_of by r) keys) keys rows)
known_through by k [] keys known = known
known_through by k (r ∷ rows) keys known = known_through by k rows (with_key (key_of by r) keys) (known_stays k (key_of by r) keys known)

-- a key of rows is known among their keys
row_known_by : (by : By) (k : Key) (r : Row) (rows : List Row) (keys : List Key) (x : Row) (xs : List Row) (t : Bool) → is_key (key_of by r) k ≡ t
    → filter (λ r. is_key (key_of by r) k) (r ∷ rows) ≡ x ∷ xs
    → (filter (λ r. is_key (key_of by r) k) rows ≡ x ∷ xs → IsKnown k (fold (λ keys r. with_key (key_of by r) keys) (with_key (key_of by r) keys) rows))
    → IsKnown k (fold (λ keys r. with_key (key_of by r) keys) (with_key (key_of by r) keys) rows)
row_known_by by k r rows keys x xs true is found later =
    known_through by k rows (with_key (key_of by r) keys) (subst (λ q. IsKnown k (with_key q keys)) (sym (same_key (key_of by r) k is)) (known_once_put k keys))
row_known_by by k r rows keys x xs false is found later = later (rw is at found)

row_known : (by : By) (k : Key) (rows : List Row) (keys : List Key) (x : Row) (xs : List Row) → filter (λ r. is_key (key_of by r) k) rows ≡ x ∷ xs
    → IsKnown k (fold (λ keys r. with_key (key_of by r) keys) keys rows)
row_known by k [] keys x xs found = cc
row_known by k (r ∷ rows) keys x xs found =
    row_known_by by k r rows keys x xs (is_key (key_of by r) k) refl found (λ later. row_known by k rows (with_key (key_of by r) keys) x xs later)

-- the keys of rows stay the same where one more row has a key that they have
pub keys-known : (by : By) (k : Key) (rows : List Row) (x : Row) (xs : List Row) → filter (λ r. is_key (key_of by r) k) rows ≡ x ∷ xs
    → with_key k (keys_among by rows) ≡ keys_among by rows
keys-known by k rows x xs found = with_key-known k (keys_among by rows) (row_known by k rows [] x xs found)

-- one key more at most
length_by : (k q : Key) (keys : List Key) (o : Ordering) → key_cmp k q ≡ o → length (with_key k keys) ≤ length keys + 1 → length (with_key k (q ∷ keys)) ≤ length (q ∷ keys) + 1
length_by k q keys Less is later = rw is (omega arith)
length_by k q keys Equal is later = rw is (omega arith)
length_by k q keys Greater is later = rw is (omega arith)

pub length-with_key : (k : Key) (keys : List Key) → length (with_key k keys) ≤ length keys + 1
length-with_key k [] = omega arith
length-with_key k (q ∷ keys) = length_by k q keys (key_cmp k q) refl (length-with_key k keys)

-- What is put back of the entries that tell what is kept.
use Rattle.std.proofs.Common.{◌≡◌, ℕ, ℤ, Bool, true, false, cond, List, [], ◌∷◌, ◌++◌, refl, sym, ap, ◌∙◌, subst, Option, Some, None, append_assoc}
use Rattle.std.proofs.lemmas.List.{append-nil}
use Rattle.std.proofs.lemmas.List.Elements.{All-head, All-tail, filter-append}
use Rattle.std.proofs.lemmas.Map.Keys.{sorted_head, sorted_tail}
use Rattle.std.specs.BTreeMap.{insert_entry}
use Rattle.std.specs.List.{All, AllByRecursion, filter}
use Rattle.std.specs.Map.{keys_of, lookup, values_of}
use Rattle.std.specs.declared.cmp.Ordering.{Ordering}
use Rattle.std.specs.declared.cmp.Ordering.TheVariants.{Less, Equal, Greater}
use Rattle.keyed_store.specs.Store.{IsSorted}
use Rattle.tuple_edge.specs.declared.packet.Entry.{Entry}
use Rattle.tuple_edge.specs.declared.packet.Entry.TheVariants as entry
use Rattle.tuple_edge.specs.declared.row.Key.{Key}
use Rattle.op_spec.specs.Keys.{is_key, key_cmp}
use Rattle.stream_ops.specs.Entries.{all_told}
use Rattle.stream_ops.specs.View.{AreRight}
use Rattle.stream_ops.proofs.Keyed.{key_cmp_total, same_key, self_key}
use Rattle.stream_ops.proofs.Told.{AllOf, BeginsApart, Tells, begins, begins_apart_by, below_apart, has_key, later_apart, one_key, run_splits}

-- an entry of a key that is not below this one
abbrev pub FromKey : Key → Entry → Type 0
FromKey q (entry.Keyed k slot a b c) = key_cmp k q ≡ Less → ⊥
FromKey q (entry.Mark edge upto) = ⊥
FromKey q (entry.Count count) = ⊥
FromKey q (entry.Head edge number item) = ⊥
FromKey q (entry.Low edge upto produced) = ⊥
FromKey q (entry.Kept edge number item) = ⊥

abbrev AllFrom : Key → List Entry → Type 0
AllFrom q [] = Unit {0}
AllFrom q (x ∷ xs) = FromKey q x × AllFrom q xs

from_append : (q : Key) (xs ys : List Entry) → AllFrom q xs → AllFrom q ys → AllFrom q (xs ++ ys)
from_append q [] ys left right = right
from_append q (x ∷ xs) ys left right = (left.0, from_append q xs ys left.1 right)

from_at : (q : Key) (xs : List Entry) (x : Entry) (ys : List Entry) → AllFrom q (xs ++ x ∷ ys) → FromKey q x
from_at q [] x ys all = all.0
from_at q (z ∷ xs) x ys all = from_at q xs x ys all.1

from_one : (q k : Key) (x : Entry) → has_key k x ≡ true → (key_cmp k q ≡ Less → ⊥) → FromKey q x
from_one q k (entry.Keyed z slot a b c) of_key from = λ less. from (ap (λ k. key_cmp k q) (same_key k z of_key) ∙ less)
from_one q k (entry.Mark edge upto) of_key from = let h : false ≡ true = of_key in cc
from_one q k (entry.Count count) of_key from = let h : false ≡ true = of_key in cc
from_one q k (entry.Head edge number item) of_key from = let h : false ≡ true = of_key in cc
from_one q k (entry.Low edge upto produced) of_key from = let h : false ≡ true = of_key in cc
from_one q k (entry.Kept edge number item) of_key from = let h : false ≡ true = of_key in cc

from_run : (q k : Key) (xs : List Entry) → AllOf k xs → (key_cmp k q ≡ Less → ⊥) → AllFrom q xs
from_run q k [] of_key from = tt
from_run q k (x ∷ xs) of_key from = (from_one q k x of_key.0 from, from_run q k xs of_key.1 from)

-- the entry is of this key, so this key is not below
from_key : (q k : Key) (slot : ℕ) (a b c : ℤ) → FromKey q (entry.Keyed k slot a b c) → key_cmp k q ≡ Less → ⊥
from_key q k slot a b c from = from

less_not_from : (q z : Key) → key_cmp q z ≡ Less → key_cmp z q ≡ Less → ⊥
less_not_from q z less other = let h : Less ≡ Greater = sym other ∙ key_cmp_total.antisymm z q ∙ rw less refl in cc

froms_below : (q : Key) (ks : List Key) → AllByRecursion (λ z. key_cmp q z ≡ Less) ks → AllByRecursion (λ z. key_cmp z q ≡ Less → ⊥) ks
froms_below q [] below = tt
froms_below q (z ∷ ks) below = (less_not_from q z below.0, froms_below q ks below.1)

self_not_below : (k : Key) → key_cmp k k ≡ Less → ⊥
self_not_below k less = less_not_from k k less less

-- entries that tell of a key, if anything is kept for it
abbrev pub told_at : {X : Type 0} → (Key → X → List Entry) → Key → Option X → List Entry
told_at told k None = []
told_at told k (Some x) = told k x

filter_run : (k : Key) (xs : List Entry) → AllOf k xs → filter (has_key k) xs ≡ xs
filter_run k [] of_key = refl
filter_run k (x ∷ xs) of_key = rw of_key.0 (ap (λ zs. x ∷ zs) (filter_run k xs of_key.1))

other_one : (k q : Key) (x : Entry) → is_key k q ≡ false → has_key q x ≡ true → has_key k x ≡ false
other_one k q (entry.Keyed z slot a b c) apart of_q = ap (is_key k) (sym (same_key q z of_q)) ∙ apart
other_one k q (entry.Mark edge upto) apart of_q = refl
other_one k q (entry.Count count) apart of_q = refl
other_one k q (entry.Head edge number item) apart of_q = refl
other_one k q (entry.Low edge upto produced) apart of_q = refl
other_one k q (entry.Kept edge number item) apart of_q = refl

filter_other : (k q : Key) (xs : List Entry) → is_key k q ≡ false → AllOf q xs → filter (has_key k) xs ≡ []
filter_other k q [] apart of_q = refl
filter_other k q (x ∷ xs) apart of_q = rw (other_one k q x apart of_q.0) (filter_other k q xs apart of_q.1)

-- no later key is this one
pub not_later : {X : Type 0} (k q : Key) (es : List (Key × X)) → is_key k q ≡ true → AllByRecursion (λ z. key_cmp q z ≡ Less) (keys_of es) → lookup (is_key k) es ≡ None
not_later k q [] same below = refl
not_later k q (e ∷ es) same below =
    let apart : is_key k e.0 ≡ false = ap (λ z. is_key z e.0) (same_key k q same) ∙ below_apart q e.0 below.0 in
    rw apart (not_later k q es same below.1)

module _ {X : Type 0} {told : Key → X → List Entry} {right : X → Type 0} (tells : Tells told right) where
  all_from : (q : Key) (es : List (Key × X)) → AllByRecursion (λ z. key_cmp z q ≡ Less → ⊥) (keys_of es) → AllFrom q (all_told told es)
  all_from q [] from = tt
  all_from q (e ∷ es) from = from_append q (told e.0 e.1) (all_told told es) (from_run q e.0 (told e.0 e.1) (tells.keyed e.0 e.1) from.0) (all_from q es from.1)

  from_first : (e : Key × X) (es : List (Key × X)) → IsSorted key_cmp (e ∷ es) → AllFrom e.0 (all_told told (e ∷ es))
  from_first e es sorted = all_from e.0 (e ∷ es) (self_not_below e.0, froms_below e.0 (keys_of es) (sorted_head key_cmp e.0 (keys_of es) sorted))

  -- what is kept later has keys at which the next entry's key is not below
  next_rest : (e : Key × X) (es : List (Key × X)) (f : Key × X) (fs : List (Key × X)) (k : Key) (slot : ℕ) (a b c : ℤ) (later : List Entry) → AreRight right (e ∷ es) → AreRight right (f ∷ fs) → e.0 ≡ f.0
      → told e.0 e.1 ++ (all_told told es ++ entry.Keyed k slot a b c ∷ later) ≡ told f.0 f.1 ++ all_told told fs
      → (all_told told es ++ entry.Keyed k slot a b c ∷ later ≡ all_told told fs → AllByRecursion (λ q. key_cmp k q ≡ Less → ⊥) (keys_of es)) → AllByRecursion (λ q. key_cmp k q ≡ Less → ⊥) (keys_of es)
  next_rest e [] f fs k slot a b c later left right_too key aligned on = tt
  next_rest e (g ∷ es) f fs k slot a b c later left right_too key aligned on =
      let next : List Entry = entry.Keyed k slot a b c ∷ later in
      let below : AllByRecursion (λ q. key_cmp e.0 q ≡ Less) (keys_of (g ∷ es)) = sorted_head key_cmp e.0 (keys_of (g ∷ es)) left.0 in
      let rights : All right (values_of (g ∷ es)) = All-tail right e.1 (values_of (g ∷ es)) left.1 in
      let s = tells.some g.0 g.1 (All-head right g.1 (values_of es) rights) in
      let parts : (told e.0 e.1 ≡ told e.0 f.1) × (all_told told (g ∷ es) ++ next ≡ all_told told fs) =
      run_splits e.0 (told e.0 e.1) (told e.0 f.1) (all_told told (g ∷ es) ++ next) (all_told told fs) (tells.keyed e.0 e.1) (tells.keyed e.0 f.1)
      (subst (BeginsApart e.0) (sym (append_assoc (told g.0 g.1) (all_told told es) next)) (begins_apart_by tells e.0 g (all_told told es ++ next) below.0 s.0 s.1 s.2))
      (subst (BeginsApart e.0) (append-nil (all_told told fs)) (later_apart tells e.0 fs [] (subst (λ k. AllByRecursion (λ q. key_cmp k q ≡ Less) (keys_of fs)) (sym key) (sorted_head key_cmp f.0 (keys_of fs) right_too.0)) (All-tail right f.1 (values_of fs) right_too.1) tt))
      (aligned ∙ ap (λ k. told k f.1 ++ all_told told fs) (sym key)) in
      on parts.1

  -- the key of the next entry is not below a key that is kept
  pub next_from : (es fs : List (Key × X)) (k : Key) (slot : ℕ) (a b c : ℤ) (later : List Entry) → AreRight right es → AreRight right fs
      → all_told told es ++ entry.Keyed k slot a b c ∷ later ≡ all_told told fs → AllByRecursion (λ q. key_cmp k q ≡ Less → ⊥) (keys_of es)
  next_from [] fs k slot a b c later left right_too same = tt
  next_from (e ∷ es) [] k slot a b c later left right_too same =
      let s = tells.some e.0 e.1 (All-head right e.1 (values_of es) left.1) in
      let h = rw s.2 at same in
      cc
  next_from (e ∷ es) (f ∷ fs) k slot a b c later left right_too same =
      let next : List Entry = entry.Keyed k slot a b c ∷ later in
      let s = tells.some e.0 e.1 (All-head right e.1 (values_of es) left.1) in
      let t = tells.some f.0 f.1 (All-head right f.1 (values_of fs) right_too.1) in
      let aligned : told e.0 e.1 ++ (all_told told es ++ next) ≡ told f.0 f.1 ++ all_told told fs = sym (append_assoc (told e.0 e.1) (all_told told es) next) ∙ same in
      let whole : (s.0 ∷ s.1) ++ (all_told told es ++ next) ≡ (t.0 ∷ t.1) ++ all_told told fs = ap (λ xs. xs ++ (all_told told es ++ next)) (sym s.2) ∙ aligned ∙ ap (λ xs. xs ++ all_told told fs) t.2 in
      let first : s.0 ≡ t.0 = cc in
      let key : e.0 ≡ f.0 = one_key e.0 f.0 s.0 (begins tells e.0 e.1 s.0 s.1 s.2) (ap (has_key f.0) first ∙ begins tells f.0 f.1 t.0 t.1 t.2) in
      let from : FromKey f.0 (entry.Keyed k slot a b c) = from_at f.0 (all_told told (e ∷ es)) (entry.Keyed k slot a b c) later (subst (AllFrom f.0) (sym same) (from_first f fs right_too.0)) in (
        subst (λ q. key_cmp k q ≡ Less → ⊥) (sym key) from,
        next_rest e es f fs k slot a b c later left right_too key aligned
            (λ h. next_from es fs k slot a b c later (sorted_tail key_cmp e.0 (keys_of es) left.0, All-tail right e.1 (values_of es) left.1) (sorted_tail key_cmp f.0 (keys_of fs) right_too.0, All-tail right f.1 (values_of fs) right_too.1) h),
      )

  -- the entries of a key
  key_filter_by : (k : Key) (e : Key × X) (es : List (Key × X)) (t : Bool) → is_key k e.0 ≡ t → IsSorted key_cmp (e ∷ es) → filter (has_key k) (all_told told es) ≡ told_at told k (lookup (is_key k) es)
      → filter (has_key k) (told e.0 e.1) ++ filter (has_key k) (all_told told es) ≡ told_at told k (cond t (Some e.1) (lookup (is_key k) es))
  key_filter_by k e es true is sorted later =
      let key : k ≡ e.0 = same_key k e.0 is in
      ap (λ front. front ++ filter (has_key k) (all_told told es)) (ap (λ q. filter (has_key q) (told e.0 e.1)) key ∙ filter_run e.0 (told e.0 e.1) (tells.keyed e.0 e.1) ∙ ap (λ q. told q e.1) (sym key))
      ∙ ap (λ rest. told k e.1 ++ rest) (later ∙ ap (told_at told k) (not_later k e.0 es is (sorted_head key_cmp e.0 (keys_of es) sorted)))
      ∙ append-nil (told k e.1)
  key_filter_by k e es false is sorted later = ap (λ front. front ++ filter (has_key k) (all_told told es)) (filter_other k e.0 (told e.0 e.1) is (tells.keyed e.0 e.1)) ∙ later

  key_filter : (k : Key) (es : List (Key × X)) → IsSorted key_cmp es → filter (has_key k) (all_told told es) ≡ told_at told k (lookup (is_key k) es)
  key_filter k [] sorted = refl
  key_filter k (e ∷ es) sorted =
      filter-append (has_key k) (told e.0 e.1) (all_told told es)
      ∙ key_filter_by k e es (is_key k e.0) refl sorted (key_filter k es (sorted_tail key_cmp e.0 (keys_of es) sorted))

  -- what tells of the next entry's key goes on with that entry
  pub next_told : (es fs : List (Key × X)) (k : Key) (slot : ℕ) (a b c : ℤ) (later : List Entry) → IsSorted key_cmp es → IsSorted key_cmp fs
      → all_told told es ++ entry.Keyed k slot a b c ∷ later ≡ all_told told fs
      → told_at told k (lookup (is_key k) fs) ≡ told_at told k (lookup (is_key k) es) ++ entry.Keyed k slot a b c ∷ filter (has_key k) later
  next_told es fs k slot a b c later left right_too same =
      sym (key_filter k fs right_too) ∙ ap (filter (has_key k)) (sym same) ∙ filter-append (has_key k) (all_told told es) (entry.Keyed k slot a b c ∷ later)
      ∙ ap (λ front. front ++ filter (has_key k) (entry.Keyed k slot a b c ∷ later)) (key_filter k es left)
      ∙ rw (self_key k) refl

  -- an entry that is put at a key below which none is kept is the last one
  none_after : (k : Key) (e : Key × X) (es : List (Key × X)) → key_cmp k e.0 ≡ Equal → AllByRecursion (λ q. key_cmp e.0 q ≡ Less) (keys_of es) → AllByRecursion (λ q. key_cmp k q ≡ Less → ⊥) (keys_of es) → es ≡ []
  none_after k e [] equal below from = refl
  none_after k e (f ∷ es) equal below from = absurd (from.0 (key_cmp_total.congr k e.0 f.0 equal ∙ below.0))

  put_last_by : (k : Key) (v : X) (en : Entry) (e : Key × X) (es : List (Key × X)) (o : Ordering) → key_cmp k e.0 ≡ o → IsSorted key_cmp (e ∷ es) → AllByRecursion (λ q. key_cmp k q ≡ Less → ⊥) (keys_of (e ∷ es))
      → told k v ≡ told_at told k (lookup (is_key k) (e ∷ es)) ++ en ∷ []
      → (told k v ≡ told_at told k (lookup (is_key k) es) ++ en ∷ [] → all_told told (insert_entry key_cmp es k v) ≡ all_told told es ++ en ∷ [])
      → all_told told (insert_entry key_cmp (e ∷ es) k v) ≡ all_told told (e ∷ es) ++ en ∷ []
  put_last_by k v en e es Less is sorted from adds later = absurd (from.0 is)
  put_last_by k v en e es Equal is sorted from adds later =
      let key : k ≡ e.0 = same_key k e.0 (rw is refl) in
      let alone : es ≡ [] = none_after k e es is (sorted_head key_cmp e.0 (keys_of es) sorted) from.1 in
      let here : told k v ≡ told k e.1 ++ en ∷ [] = rw is at adds in
      let there : told e.0 v ≡ told e.0 e.1 ++ en ∷ [] = subst (λ q. told q v ≡ told q e.1 ++ en ∷ []) key here in
      rw is (rw alone (append-nil (told e.0 v) ∙ there ∙ ap (λ front. front ++ en ∷ []) (sym (append-nil (told e.0 e.1)))))
  put_last_by k v en e es Greater is sorted from adds later =
      rw is (ap (λ rest. told e.0 e.1 ++ rest) (later (rw is at adds)) ∙ sym (append_assoc (told e.0 e.1) (all_told told es) (en ∷ [])))

  pub put_last : (k : Key) (v : X) (en : Entry) (es : List (Key × X)) → IsSorted key_cmp es → AllByRecursion (λ q. key_cmp k q ≡ Less → ⊥) (keys_of es)
      → told k v ≡ told_at told k (lookup (is_key k) es) ++ en ∷ [] → all_told told (insert_entry key_cmp es k v) ≡ all_told told es ++ en ∷ []
  put_last k v en [] sorted from adds = append-nil (told k v) ∙ adds
  put_last k v en (e ∷ es) sorted from adds = put_last_by k v en e es (key_cmp k e.0) refl sorted from adds (λ h. put_last k v en es (sorted_tail key_cmp e.0 (keys_of es) sorted) from.1 h)

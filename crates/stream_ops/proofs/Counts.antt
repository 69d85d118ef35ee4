-- What one more item does to what is kept for the keys.
use Rattle.std.proofs.Common.{ℕ, ◌≡◌, Bool, true, false, cond, List, [], ◌∷◌, ◌++◌, fold, refl, sym, ap, ◌∙◌, Option, Some}
use Rattle.std.specs.List.{filter}
use Rattle.std.specs.Map.{keys_of, lookup}
use Rattle.std.proofs.lemmas.List.{append-nil}
use Rattle.std.proofs.lemmas.List.Elements.{filter-append}
use Rattle.std.proofs.lemmas.List.Sums.{fold-append}
use Rattle.tuple_edge.specs.declared.item.Item.{Item}
use Rattle.tuple_edge.specs.declared.item.Item.TheVariants as item
use Rattle.tuple_edge.specs.declared.row.Key.{Key}
use Rattle.tuple_edge.specs.declared.row.Row.{Row}
use Rattle.op_spec.specs.Keys.{is_key, key_of}
use Rattle.op_spec.specs.declared.spec.By.{By}
use Rattle.op_spec.specs.Keys.{key_cmp}
use Rattle.stream_ops.specs.Rows.{keys_among, keys_in, rows_of, rows_with, with_key}
use Rattle.stream_ops.specs.Kept.{Keeps}
use Rattle.std.specs.BTreeMap.{insert_entry}
use Rattle.stream_ops.proofs.Keyed.{keys-insert, lookup-insert, same_key}

pub rows_of-append : (xs ys : List Item) → rows_of (xs ++ ys) ≡ rows_of xs ++ rows_of ys
rows_of-append [] ys = refl
rows_of-append (item.Row stamp row ∷ xs) ys = ap (λ rows. row ∷ rows) (rows_of-append xs ys)
rows_of-append (item.Mark stamp ∷ xs) ys = rows_of-append xs ys
rows_of-append (item.End stamp ∷ xs) ys = rows_of-append xs ys

-- the rows of a key, with one row more among the items
pub rows_with-push : (b : By) (items : List Item) (stamp : _) (r : Row) (k : Key)
    → rows_with b (items ++ item.Row stamp r ∷ []) k ≡ rows_with b items k ++ cond (is_key (key_of b r) k) (r ∷ []) []
rows_with-push b items stamp r k =
    ap (filter (λ r. is_key (key_of b r) k)) (rows_of-append items (item.Row stamp r ∷ [])) ∙ filter-append (λ r. is_key (key_of b r) k) (rows_of items) (r ∷ [])

pub keys_in-push : (b : By) (items : List Item) (stamp : _) (r : Row) → keys_in b (items ++ item.Row stamp r ∷ []) ≡ with_key (key_of b r) (keys_in b items)
keys_in-push b items stamp r =
    ap (fold (λ ks r. with_key (key_of b r) ks) []) (rows_of-append items (item.Row stamp r ∷ [])) ∙ fold-append (λ ks r. with_key (key_of b r) ks) [] (rows_of items) (r ∷ [])

-- what is kept for a key, with one row more among the items
kept-push_by : {X : Type 0} (kept : List Row → Option X) (next : Option X → Row → X) → ((rows : List Row) (r : Row) → kept (rows ++ r ∷ []) ≡ Some (next (kept rows) r))
    → (b : By) (before : List Item) (r : Row) (k : Key) (t : Bool) → is_key (key_of b r) k ≡ t
    → kept (rows_with b before k ++ cond t (r ∷ []) []) ≡ cond t (Some (next (kept (rows_with b before (key_of b r))) r)) (kept (rows_with b before k))
kept-push_by kept next push b before r k false is = ap kept (append-nil (rows_with b before k))
kept-push_by kept next push b before r k true is =
    push (rows_with b before k) r ∙ ap (λ k'. Some (next (kept (rows_with b before k')) r)) (sym (same_key (key_of b r) k is))

-- a map in which what is kept for a row's key was put
abbrev pub Puts : {X : Type 0} → (Option X → Row → X) → Row → Key → List (Key × X) → List (Key × X) → Type 0
Puts next r key old new =
    ((q : Key) → lookup (is_key q) new ≡ cond (is_key key q) (Some (next (lookup (is_key key) old) r)) (lookup (is_key q) old)) × (keys_of new ≡ with_key key (keys_of old))

-- a map that keeps of items what it should, keeps it of them and one row more, once that was put
pub Keeps-next : {X : Type 0} (kept_of : List Row → Option X) (next : Option X → Row → X) → ((rows : List Row) (r : Row) → kept_of (rows ++ r ∷ []) ≡ Some (next (kept_of rows) r))
    → (by : By) (old new : List (Key × X)) (before : List Item) (stamp : ℕ) (r : Row) (key : Key)
    → key ≡ key_of by r → Keeps kept_of by old before → Puts next r key old new
    → Keeps kept_of by new (before ++ item.Row stamp r ∷ [])
Keeps-next kept_of next push by old new before stamp r key key_is had puts = record {
  values = λ q. puts.0 q ∙ rw (key_is, had.values (key_of by r), had.values q)
      (sym (ap kept_of (rows_with-push by before stamp r q) ∙ kept-push_by kept_of next push by before r q (is_key (key_of by r) q) refl));
  keys = puts.1 ∙ rw (key_is, had.keys) (sym (keys_in-push by before stamp r));
}

-- the same of entries in which it was put
pub Keeps-insert : {X : Type 0} (kept_of : List Row → Option X) (next : Option X → Row → X) → ((rows : List Row) (r : Row) → kept_of (rows ++ r ∷ []) ≡ Some (next (kept_of rows) r))
    → (by : By) (old new : List (Key × X)) (before : List Item) (stamp : ℕ) (r : Row) (key : Key)
    → key ≡ key_of by r → Keeps kept_of by old before → new ≡ insert_entry key_cmp old key (next (lookup (is_key key) old) r)
    → Keeps kept_of by new (before ++ item.Row stamp r ∷ [])
Keeps-insert kept_of next push by old new before stamp r key key_is had inserts =
    Keeps-next kept_of next push by old new before stamp r key key_is had
    (λ q. ap (lookup (is_key q)) inserts ∙ lookup-insert key q (next (lookup (is_key key) old) r) old, ap keys_of inserts ∙ keys-insert old key (next (lookup (is_key key) old) r))

-- what is kept of items is kept of others with the same rows
pub Keeps-same : {X : Type 0} (kept_of : List Row → Option X) (by : By) (kept : List (Key × X)) (xs ys : List Item)
    → rows_of ys ≡ rows_of xs → Keeps kept_of by kept xs → Keeps kept_of by kept ys
Keeps-same kept_of by kept xs ys same had = record {
  values = λ k. had.values k ∙ ap (λ rows. kept_of (filter (λ r. is_key (key_of by r) k) rows)) (sym same);
  keys = had.keys ∙ ap (keys_among by) (sym same);
}

-- no row more
pub rows_of-mark : (before : List Item) (stamp : ℕ) → rows_of (before ++ item.Mark stamp ∷ []) ≡ rows_of before
rows_of-mark before stamp = rows_of-append before (item.Mark stamp ∷ []) ∙ append-nil (rows_of before)

pub rows_of-end : (before : List Item) (stamp : ℕ) → rows_of (before ++ item.End stamp ∷ []) ≡ rows_of before
rows_of-end before stamp = rows_of-append before (item.End stamp ∷ []) ∙ append-nil (rows_of before)

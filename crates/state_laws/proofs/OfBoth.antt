-- One thing is kept of items that have the same entries.
use Rattle.std.proofs.Common.{◌≡◌, List, [], ◌∷◌, ◌++◌, sym, ◌∙◌, subst, Option, Some, None, refl}
use Rattle.std.specs.BTreeMap.{insert_entry}
use Rattle.std.specs.List.{flat_map}
use Rattle.std.specs.Map.{lookup}
use Rattle.std.specs.Option.{IfSome}
use Rattle.keyed_store.specs.Store.{IsSorted}
use Rattle.tuple_edge.specs.declared.item.Item.{Item}
use Rattle.tuple_edge.specs.declared.item.Item.TheVariants as item
use Rattle.tuple_edge.specs.declared.packet.Entry.{Entry}
use Rattle.tuple_edge.specs.declared.row.Key.{Key}
use Rattle.tuple_edge.specs.declared.row.Row.{Row}
use Rattle.op_spec.specs.Keys.{is_key, key_cmp, key_of}
use Rattle.op_spec.specs.declared.spec.By.{By}
use Rattle.stream_ops.specs.Entries.{all_told}
use Rattle.stream_ops.specs.Kept.{Keeps}
use Rattle.stream_ops.specs.Rows.{keys_in, rows_of, rows_with}
use Rattle.stream_ops.proofs.Counts.{Keeps-insert, Keeps-same}
use Rattle.stream_ops.proofs.Standing.{kept_after, kept_told, sorted-insert}
use Rattle.stream_ops.proofs.Told.{Tells, told_exact}

-- this is kept of the first items, and of the others
pub record OfBoth {X : Type 0} (kept_of : List Row → Option X) (by : By) (xs ys : List Item) : Type 0 where
  pub kept : List (Key × X)
  pub sorted : IsSorted key_cmp kept
  pub first : Keeps kept_of by kept xs
  pub other : Keeps kept_of by kept ys

-- the entries of items, key by key
abbrev pub told_by : (Key → List Row → List Entry) → By → List Item → List Entry
told_by of_rows by items = flat_map (λ k. of_rows k (rows_with by items k)) (keys_in by items)

-- it is kept of items that don't differ in rows
pub both_same : {X : Type 0} (kept_of : List Row → Option X) (by : By) (xs ys us vs : List Item) → rows_of us ≡ rows_of xs → rows_of vs ≡ rows_of ys
    → OfBoth kept_of by xs ys → OfBoth kept_of by us vs
both_same kept_of by xs ys us vs same same_too both = record {
  kept = both.kept;
  sorted = both.sorted;
  first = Keeps-same kept_of by both.kept xs us same both.first;
  other = Keeps-same kept_of by both.kept ys vs same_too both.other;
}

module _ {X : Type 0} (kept_of : List Row → Option X) (next : Option X → Row → X) (push : (rows : List Row) (r : Row) → kept_of (rows ++ r ∷ []) ≡ Some (next (kept_of rows) r)) where
  -- one row more leaves one thing kept of both
  pub both_next : (by : By) (xs ys : List Item) (stamp : _) (r : Row) → OfBoth kept_of by xs ys → OfBoth kept_of by (xs ++ item.Row stamp r ∷ []) (ys ++ item.Row stamp r ∷ [])
  both_next by xs ys stamp r both =
      let v : X = next (lookup (is_key (key_of by r)) both.kept) r in
      let new : List (Key × X) = insert_entry key_cmp both.kept (key_of by r) v in
      record {
        kept = new;
        sorted = sorted-insert (key_of by r) v both.kept both.sorted;
        first = Keeps-insert kept_of next push by both.kept new xs stamp r (key_of by r) refl both.first refl;
        other = Keeps-insert kept_of next push by both.kept new ys stamp r (key_of by r) refl both.other refl;
      }

  module _ (none : kept_of [] ≡ None) (right : X → Type 0) (stays : (o : Option X) (r : Row) → IfSome o right → right (next o r)) (told : Key → X → List Entry) (tells : Tells told right)
      (of_rows : Key → List Row → List Entry) (tell : (k : Key) (rows : List Row) (x : X) → kept_of rows ≡ Some x → told k x ≡ of_rows k rows) where
    -- items with the same entries have one thing kept of both
    pub of_both : (by : By) (xs ys : List Item) → told_by of_rows by xs ≡ told_by of_rows by ys → OfBoth kept_of by xs ys
    of_both by xs ys same =
        let of_xs = kept_after kept_of next push none right stays by xs in
        let of_ys = kept_after kept_of next push none right stays by ys in
        let alike : all_told told of_ys.0 ≡ all_told told of_xs.0 =
        kept_told kept_of told of_rows tell by of_ys.0 ys of_ys.2.0 of_ys.1 ∙ sym same ∙ sym (kept_told kept_of told of_rows tell by of_xs.0 xs of_xs.2.0 of_xs.1) in
        record {
          kept = of_xs.0;
          sorted = of_xs.2.0;
          first = of_xs.1;
          other = subst (λ kept. Keeps kept_of by kept ys) (told_exact tells of_ys.0 of_xs.0 of_ys.2 of_xs.2 alike) of_ys.1;
        }

-- items of which one thing is kept have the same entries
pub both_told : {X : Type 0} (kept_of : List Row → Option X) (told : Key → X → List Entry) (of_rows : Key → List Row → List Entry)
    → ((k : Key) (rows : List Row) (x : X) → kept_of rows ≡ Some x → told k x ≡ of_rows k rows)
    → (by : By) (xs ys : List Item) → OfBoth kept_of by xs ys → told_by of_rows by xs ≡ told_by of_rows by ys
both_told kept_of told of_rows tell by xs ys both =
    sym (kept_told kept_of told of_rows tell by both.kept xs both.sorted both.first) ∙ kept_told kept_of told of_rows tell by both.kept ys both.sorted both.other

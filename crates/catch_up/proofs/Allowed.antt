-- In the whole list of a move each of the operator's entries is the next one.
use Rattle.std.proofs.Common.{◌≡◌, ℕ, zero, suc, ◌+◌, true, false, List, [], ◌∷◌, ◌++◌, fold, length, refl, sym, ap, ◌∙◌, subst, append_assoc}
use Rattle.std.proofs.lemmas.List.Sums.{fold-append}
use Rattle.std.specs.List.{All}
use Rattle.tuple_edge.specs.declared.item.Item.{Item}
use Rattle.tuple_edge.specs.declared.packet.Entry.{Entry}
use Rattle.tuple_edge.specs.declared.packet.Entry.TheVariants as entry
use Rattle.merge_order.specs.MergeView.{MergeView, waiting_of}
use Rattle.flux_producer.specs.ProducerView.{ProducerView, buffer_at}
use Rattle.op_spec.specs.Times.{IsTimely}
use Rattle.op_spec.specs.declared.spec.OpSpec.{OpSpec}
use Rattle.stream_ops.specs.Entries.{entries}
use Rattle.move_list.specs.MoveList.{head_entries, kept_entries, low_entry, mark_entry, move_list, used_of}
use Rattle.tuple_edge.specs.Entries.{each_below, numbered}
use Rattle.catch_up.specs.Rebuild.{AllNext, keyed_step}
use Rattle.catch_up.proofs.Steps.{AllKeyed, skip_below, skip_numbered}

next_append : (spec : OpSpec) (acc xs ys : List Entry) → AllNext spec acc xs → AllNext spec (fold keyed_step acc xs) ys → AllNext spec acc (xs ++ ys)
next_append spec acc [] ys left right = right
next_append spec acc (x ∷ xs) ys left right = (left.0, next_append spec (keyed_step acc x) xs ys left.1 right)

next_below : (spec : OpSpec) (f : ℕ → List Entry) → ((q : ℕ) → AllNext spec [] (f q)) → ((q : ℕ) → fold keyed_step [] (f q) ≡ []) → (k : ℕ) → AllNext spec [] (each_below k f)
next_below spec f each skips zero = tt
next_below spec f each skips (suc k) =
    next_append spec [] (each_below k f) (f k) (next_below spec f each skips k) (subst (λ acc. AllNext spec acc (f k)) (sym (skip_below keyed_step [] f skips k)) (each k))

next_heads : (spec : OpSpec) (q k : ℕ) (xs : List Item) → AllNext spec [] (numbered (entry.Head q) k xs)
next_heads spec q k [] = tt
next_heads spec q k (x ∷ xs) = (tt, next_heads spec q (k + 1) xs)

next_kept : (spec : OpSpec) (t k : ℕ) (xs : List Item) → AllNext spec [] (numbered (entry.Kept t) k xs)
next_kept spec t k [] = tt
next_kept spec t k (x ∷ xs) = (tt, next_kept spec t (k + 1) xs)

next_keyed : (spec : OpSpec) (items : List Item) → All IsTimely items → (acc es : List Entry) → AllKeyed es → entries spec items ≡ acc ++ es → AllNext spec acc es
next_keyed spec items timely acc [] keyed is = tt
next_keyed spec items timely acc (entry.Keyed k slot a b c ∷ es) keyed is = (
  (items, es, timely, is),
  next_keyed spec items timely (acc ++ entry.Keyed k slot a b c ∷ []) es keyed.1 (is ∙ sym (append_assoc acc (entry.Keyed k slot a b c ∷ []) es)),
)
next_keyed spec items timely acc (entry.Mark q upto ∷ es) keyed is = let h : false ≡ true = keyed.0 in cc
next_keyed spec items timely acc (entry.Count count ∷ es) keyed is = let h : false ≡ true = keyed.0 in cc
next_keyed spec items timely acc (entry.Head q j x ∷ es) keyed is = let h : false ≡ true = keyed.0 in cc
next_keyed spec items timely acc (entry.Low t low produced ∷ es) keyed is = let h : false ≡ true = keyed.0 in cc
next_keyed spec items timely acc (entry.Kept t j x ∷ es) keyed is = let h : false ≡ true = keyed.0 in cc

module _ (spec : OpSpec) (m : MergeView) (p : ProducerView) where
  heads_skip : (q : ℕ) → fold keyed_step [] (head_entries m q) ≡ []
  heads_skip q = skip_numbered keyed_step [] (entry.Head q) (λ n x. refl) (used_of m q) (waiting_of m q)

  kept_skip : (t : ℕ) → fold keyed_step [] (kept_entries p t) ≡ []
  kept_skip t = skip_numbered keyed_step [] (entry.Kept t) (λ n x. refl) (buffer_at p t).low (buffer_at p t).items

  -- nothing of the operator's is in the fixed part
  then_next : (xs ys : List Entry) → fold keyed_step [] xs ≡ [] → AllNext spec [] xs → AllNext spec [] ys → AllNext spec [] (xs ++ ys)
  then_next xs ys none left right = next_append spec [] xs ys left (subst (λ acc. AllNext spec acc ys) (sym none) right)

  then_none : (xs ys : List Entry) → fold keyed_step [] xs ≡ [] → fold keyed_step [] ys ≡ [] → fold keyed_step [] (xs ++ ys) ≡ []
  then_none xs ys left right = fold-append keyed_step [] xs ys ∙ ap (λ acc. fold keyed_step acc ys) left ∙ right

  marks_none : fold keyed_step [] (each_below (length m.marks) (mark_entry m)) ≡ []
  marks_none = skip_below keyed_step [] (mark_entry m) (λ q. refl) (length m.marks)

  heads_none : fold keyed_step [] (each_below (length m.marks) (head_entries m)) ≡ []
  heads_none = skip_below keyed_step [] (head_entries m) heads_skip (length m.marks)

  lows_none : fold keyed_step [] (each_below (length p.edges) (low_entry p)) ≡ []
  lows_none = skip_below keyed_step [] (low_entry p) (λ q. refl) (length p.edges)

  kept_none : fold keyed_step [] (each_below (length p.edges) (kept_entries p)) ≡ []
  kept_none = skip_below keyed_step [] (kept_entries p) kept_skip (length p.edges)

  two_none : fold keyed_step [] (each_below (length m.marks) (mark_entry m) ++ entry.Count m.count ∷ []) ≡ []
  two_none = then_none (each_below (length m.marks) (mark_entry m)) (entry.Count m.count ∷ []) marks_none refl

  three_none : fold keyed_step [] (each_below (length m.marks) (mark_entry m) ++ (entry.Count m.count ∷ []) ++ each_below (length m.marks) (head_entries m)) ≡ []
  three_none = then_none (each_below (length m.marks) (mark_entry m) ++ entry.Count m.count ∷ []) (each_below (length m.marks) (head_entries m)) two_none heads_none

  four_none : fold keyed_step [] (each_below (length m.marks) (mark_entry m) ++ (entry.Count m.count ∷ []) ++ each_below (length m.marks) (head_entries m) ++ each_below (length p.edges) (low_entry p)) ≡ []
  four_none = then_none (each_below (length m.marks) (mark_entry m) ++ (entry.Count m.count ∷ []) ++ each_below (length m.marks) (head_entries m)) (each_below (length p.edges) (low_entry p)) three_none lows_none

  five_none : fold keyed_step [] (each_below (length m.marks) (mark_entry m) ++ (entry.Count m.count ∷ []) ++ each_below (length m.marks) (head_entries m) ++ each_below (length p.edges) (low_entry p) ++ each_below (length p.edges) (kept_entries p)) ≡ []
  five_none = then_none (each_below (length m.marks) (mark_entry m) ++ (entry.Count m.count ∷ []) ++ each_below (length m.marks) (head_entries m) ++ each_below (length p.edges) (low_entry p)) (each_below (length p.edges) (kept_entries p)) four_none kept_none

  pub whole_next : (items : List Item) → All IsTimely items → AllKeyed (entries spec items) → AllNext spec [] (move_list m p (entries spec items))
  whole_next items timely keyed =
      then_next _ (entries spec items) five_none
      (then_next _ (each_below (length p.edges) (kept_entries p)) four_none
      (then_next _ (each_below (length p.edges) (low_entry p)) three_none
      (then_next _ (each_below (length m.marks) (head_entries m)) two_none
      (then_next (each_below (length m.marks) (mark_entry m)) (entry.Count m.count ∷ []) marks_none
      (next_below spec (mark_entry m) (λ q. (tt, tt)) (λ q. refl) (length m.marks))
      (tt, tt))
      (next_below spec (head_entries m) (λ q. next_heads spec q (used_of m q) (waiting_of m q)) heads_skip (length m.marks)))
      (next_below spec (low_entry p) (λ t. (tt, tt)) (λ q. refl) (length p.edges)))
      (next_below spec (kept_entries p) (λ t. next_kept spec t (buffer_at p t).low (buffer_at p t).items) kept_skip (length p.edges)))
      (next_keyed spec items timely [] (entries spec items) keyed refl)

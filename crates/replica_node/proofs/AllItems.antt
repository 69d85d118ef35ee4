-- What holds of each item that a replica takes holds of each that waits, or is held.
use Rattle.std.proofs.Common.{◌≡◌, ℕ, zero, suc, ◌+◌, Bool, true, false, if◌then◌else◌, List, [], ◌∷◌, ◌++◌, fold, length, refl, subst, slice_index_or, slice_set, arith}
use Rattle.std.specs.Prelude.{◌==◌, replicate}
use Rattle.std.specs.BTreeMap.{insert_entry}
use Rattle.std.specs.List.{All}
use Rattle.std.specs.Ordering.{nat_cmp}
use Rattle.std.specs.declared.cmp.Ordering.{Ordering}
use Rattle.std.specs.declared.cmp.Ordering.TheVariants.{Equal, Greater, Less}
use Rattle.std.proofs.lemmas.Bool.Decides.{nat_tests}
use Rattle.std.proofs.lemmas.List.Elements.{All-append, All-cons, All-head, All-nil, All-set, All-tail}
use Rattle.tuple_edge.specs.declared.item.Item.{Item}
use Rattle.tuple_edge.specs.declared.packet.Entry.{Entry}
use Rattle.tuple_edge.specs.declared.packet.Entry.TheVariants as entry
use Rattle.merge_order.specs.MergeView.{MergeView, after_offer, mark_of, starting, waiting_of}
pub use Rattle.partition_step.proofs.TimelyNext.{all_at, all_offer}
use Rattle.catch_up.specs.Rebuild.{all_offered, folded, folded_below, heads_step, marks_in, count_in, merge_in}

pub none_at_all : {X : Type 0} (P : X → Type 0) (n : ℕ) → All (All P) (replicate n [])
none_at_all P zero = All-nil (All P)
none_at_all P (suc n) = All-cons (All P) [] (replicate n []) (All-nil P) (none_at_all P n)

-- of a list of held items, once one more is put in
pub all_put : (Q : ℕ × Item → Type 0) (k : ℕ) (i : Item) (es : List (ℕ × Item)) → Q (k, i) → All Q es → All Q (insert_entry nat_cmp es k i)
all_put Q k i [] here all = All-cons Q (k, i) [] here all
all_put Q k i (e ∷ es) here all = by_order (nat_cmp k e.0) refl (all_put Q k i es here (All-tail Q e es all))
  where
    by_order : (o : Ordering) → nat_cmp k e.0 ≡ o → All Q (insert_entry nat_cmp es k i) → All Q (insert_entry nat_cmp (e ∷ es) k i)
    by_order Less is later = rw is (All-cons Q (k, i) (e ∷ es) here all)
    by_order Equal is later =
        let same : k ≡ e.0 = grind (arith, nat_tests, is) in
        rw is (All-cons Q (e.0, i) es (subst (λ n. Q (n, i)) same here) (All-tail Q e es all))
    by_order Greater is later = rw is (All-cons Q e (insert_entry nat_cmp es k i) (All-head Q e es all) later)

module _ (P : Item → Type 0) where
  pub all_folded_on : (q : ℕ) (m : MergeView) (held : List (ℕ × Item)) → All (λ (h : ℕ × Item). P h.1) held → All (All P) m.waiting → All (All P) (all_offered q m held).waiting
  all_folded_on q m [] items all = all
  all_folded_on q m (h ∷ held) items all =
      all_folded_on q (after_offer m q h.0 h.1) held (All-tail (λ (z : ℕ × Item). P z.1) h held items) (all_offer P m q h.0 h.1 (All-head (λ (z : ℕ × Item). P z.1) h held items) all)

  pub all_folded : (n : ℕ) (m : MergeView) (held : List (List (ℕ × Item))) → All (All (λ (h : ℕ × Item). P h.1)) held → All (All P) m.waiting → All (All P) (folded_below n m held).waiting
  all_folded zero m held items all = all
  all_folded (suc n) m held items all =
      all_folded_on n (folded_below n m held) (slice_index_or held n []) (all_at (λ (h : ℕ × Item). P h.1) held n items) (all_folded n m held items all)

  -- of an item that an entry moves
  abbrev pub OfEntry : Entry → Type 0
  OfEntry (entry.Head q number i) = P i
  OfEntry (entry.Mark q upto) = Unit {0}
  OfEntry (entry.Count count) = Unit {0}
  OfEntry (entry.Low t low produced) = Unit {0}
  OfEntry (entry.Kept t number i) = P i
  OfEntry (entry.Keyed k slot a b c) = Unit {0}

  all_step : (m : MergeView) (e : Entry) → OfEntry e → All (All P) m.waiting → All (All P) (heads_step m e).waiting
  all_step m (entry.Head q number i) here all = all_offer P m q number i here all
  all_step m (entry.Mark q upto) here all = all
  all_step m (entry.Count count) here all = all
  all_step m (entry.Low t low produced) here all = all
  all_step m (entry.Kept t number i) here all = all
  all_step m (entry.Keyed k slot a b c) here all = all

  all_heads : (es : List Entry) (m : MergeView) → All OfEntry es → All (All P) m.waiting → All (All P) (fold heads_step m es).waiting
  all_heads [] m heads all = all
  all_heads (e ∷ es) m heads all = all_heads es (heads_step m e) (All-tail OfEntry e es heads) (all_step m e (All-head OfEntry e es heads) all)

  -- a merge that was rebuilt, with what was held folded in
  pub all_rebuilt : (edges : ℕ) (es : List Entry) (held : List (List (ℕ × Item))) → All OfEntry es → All (All (λ (h : ℕ × Item). P h.1)) held
      → All (All P) (folded (merge_in edges es) held).waiting
  all_rebuilt edges es held heads items =
      all_folded (length held) (merge_in edges es) held items
      (all_heads es (starting (marks_in edges es) (count_in es)) heads (none_at_all P (length (marks_in edges es))))

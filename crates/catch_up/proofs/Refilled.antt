-- The buffers that the whole list of a move makes are those of its beginning.
use Rattle.std.proofs.Common.{◌≡◌, ℕ, zero, suc, ◌+◌, ◌-◌, ◌<◌, ◌≤◌, Bool, true, false, nat_eq, nat_lt, List, [], ◌∷◌, ◌++◌, fold, length, length-append, map, min, refl, sym, ap, ◌∙◌, subst, slice_index_or, slice_set, append_assoc, arith}
use Rattle.std.specs.Prelude.{nat_le}
use Rattle.std.proofs.lemmas.Bool.Decides.{nat_tests}
use Rattle.std.proofs.lemmas.List.{append-nil, ext_get_or, get_or-map, length-map, length-set, set-get_or, get_or-set_same}
use Rattle.std.proofs.lemmas.List.Sums.{fold-append}
use Rattle.tuple_edge.specs.declared.item.Item.{Item}
use Rattle.tuple_edge.specs.declared.packet.Entry.{Entry}
use Rattle.tuple_edge.specs.declared.packet.Entry.TheVariants as entry
use Rattle.ack_buffer.specs.Buffer.{BufferView, produced_on, starting_at}
use Rattle.merge_order.specs.MergeView.{MergeView, waiting_of}
use Rattle.flux_producer.specs.OutEdge.{unused}
use Rattle.flux_producer.specs.ProducerView.{ProducerView, buffer_at}
use Rattle.stream_ops.specs.Entries.{IsKeyed}
use Rattle.move_list.specs.MoveList.{head_entries, kept_entries, low_entry, mark_entry, move_list, used_of}
use Rattle.tuple_edge.specs.Entries.{each_below, numbered}
use Rattle.catch_up.specs.Rebuild.{buffer_of, buffers_in, buffers_step, without_spare}
use Rattle.catch_up.proofs.Steps.{AllKeyed, at_below, fold_six, length_below, set_set, skip_below, skip_keyed, skip_numbered}

-- a buffer that produces an item again
abbrev pub again : BufferView → Item → BufferView
again b x = without_spare (produced_on b x)

abbrev plain : ℕ → ℕ → List Item → BufferView
plain low produced items = record { low = low; produced = produced; items = items; spare = 0 }

again_kept : (low produced : ℕ) (items : List Item) (x : Item) → low ≤ produced → again (plain low produced items) x ≡ plain low (produced + 1) (items ++ x ∷ [])
again_kept low produced items x above =
    let past : nat_le (produced + 1) low ≡ false = grind (arith, nat_tests, above) in
    rw past refl

all_again : (low produced : ℕ) (items xs : List Item) → low ≤ produced → fold again (plain low produced items) xs ≡ plain low (produced + length xs) (items ++ xs)
all_again low produced items [] above =
    let same : produced ≡ produced + 0 = omega arith in
    ap (λ n. plain low n items) same ∙ ap (plain low (produced + 0)) (sym (append-nil items))
all_again low produced items (x ∷ xs) above =
    let sum : produced + 1 + length xs ≡ produced + length (x ∷ xs) = omega arith in
    ap (λ b. fold again b xs) (again_kept low produced items x above)
    ∙ all_again low (produced + 1) (items ++ x ∷ []) xs (omega (arith, above))
    ∙ ap (λ n. plain low n ((items ++ x ∷ []) ++ xs)) sum
    ∙ ap (plain low (produced + length (x ∷ xs))) (append_assoc items (x ∷ []) xs)

-- a buffer that begins at low and produces again what was kept is the buffer that was moved
refilled : (b : BufferView) → length b.items ≡ b.produced - b.low → fold again (starting_at b.low (min b.low b.produced)) b.items ≡ without_spare b
refilled b exact = by_test (nat_le b.low b.produced) refl
  where
    by_test : (t : Bool) → nat_le b.low b.produced ≡ t → fold again (plain b.low (min b.low b.produced) []) b.items ≡ without_spare b
    by_test true is =
        let above : b.low ≤ b.produced = grind (arith, nat_tests, is) in
        let start : min b.low b.produced ≡ b.low = omega (arith, above) in
        let end : b.low + length b.items ≡ b.produced = omega (arith, above, exact) in
        ap (λ n. fold again (plain b.low n []) b.items) start
        ∙ all_again b.low b.low [] b.items (omega arith)
        ∙ ap (λ n. plain b.low n b.items) end
    by_test false is =
        let below : b.produced < b.low = grind (arith, nat_tests, is) in
        let start : min b.low b.produced ≡ b.produced = omega (arith, below) in
        let none : length b.items ≡ 0 = omega (arith, below, exact) in
        ap (λ n. fold again (plain b.low n []) b.items) start
        ∙ no_items b.items none
      where
        no_items : (xs : List Item) → length xs ≡ 0 → fold again (plain b.low b.produced []) xs ≡ plain b.low b.produced xs
        no_items [] none = refl
        no_items (x ∷ xs) none = absurd (omega (arith, none))

-- what is kept for one edge
pub kept_edge : (t k : ℕ) (ys : List Item) (bs : List BufferView) → t < length bs → fold buffers_step bs (numbered (entry.Kept t) k ys) ≡ slice_set bs t (fold again (buffer_of bs t) ys)
kept_edge t k [] bs inside = sym (set-get_or bs t (starting_at 0 0))
kept_edge t k (y ∷ ys) bs inside =
    let more : List BufferView = slice_set bs t (again (buffer_of bs t) y) in
    let there : buffer_of more t ≡ again (buffer_of bs t) y = get_or-set_same bs t (again (buffer_of bs t) y) (starting_at 0 0) inside in
    let long : length more ≡ length bs = length-set bs t (again (buffer_of bs t) y) in
    kept_edge t (k + 1) ys more (omega (arith, long, inside))
    ∙ set_set bs t (again (buffer_of bs t) y) (fold again (buffer_of more t) ys)
    ∙ ap (λ b. slice_set bs t (fold again b ys)) there

buffers_keyed : (z : List BufferView) (e : Entry) → IsKeyed e → buffers_step z e ≡ z
buffers_keyed z (entry.Keyed k slot a b c) keyed = refl
buffers_keyed z (entry.Mark q upto) keyed = cc
buffers_keyed z (entry.Count count) keyed = cc
buffers_keyed z (entry.Head q n x) keyed = cc
buffers_keyed z (entry.Low t low produced) keyed = cc
buffers_keyed z (entry.Kept t n x) keyed = cc

module _ (m : MergeView) (p : ProducerView) (es : List Entry) (keyed : AllKeyed es) where
  abbrev pub begun : ℕ → BufferView
  begun t = starting_at (buffer_at p t).low (min (buffer_at p t).low (buffer_at p t).produced)

  abbrev pub lows : ℕ → List BufferView
  lows k = fold buffers_step [] (each_below k (low_entry p))

  lows_next : (k : ℕ) → lows (suc k) ≡ lows k ++ begun k ∷ []
  lows_next k = fold-append buffers_step [] (each_below k (low_entry p)) (low_entry p k)

  pub lows_length : (k : ℕ) → length (lows k) ≡ k
  lows_length zero = refl
  lows_length (suc k) =
      let more : length (lows k ++ begun k ∷ []) ≡ length (lows k) + 1 = length-append (lows k) (begun k ∷ []) in
      let before : length (lows k) ≡ k = lows_length k in
      ap length (lows_next k) ∙ omega (arith, more, before)

  pub lows_at : (k t : ℕ) → t < k → buffer_of (lows k) t ≡ begun t
  lows_at zero t inside = absurd (omega (arith, inside))
  lows_at (suc k) t inside = ap (λ bs. buffer_of bs t) (lows_next k) ∙ by_last (nat_eq t k) refl (λ less. lows_at k t less)
    where
      seam : (xs : List BufferView) (j : ℕ) (b : BufferView) → length xs ≡ j → buffer_of (xs ++ b ∷ []) j ≡ b
      seam [] zero b long = refl
      seam [] (suc j) b long = absurd (omega (arith, long))
      seam (x ∷ xs) zero b long = absurd (omega (arith, long))
      seam (x ∷ xs) (suc j) b long = seam xs j b (omega (arith, long))

      front : (xs : List BufferView) (j : ℕ) (b : BufferView) → j < length xs → buffer_of (xs ++ b ∷ []) j ≡ buffer_of xs j
      front [] j b inside = absurd (omega (arith, inside))
      front (x ∷ xs) zero b inside = refl
      front (x ∷ xs) (suc j) b inside = front xs j b (omega (arith, inside))

      by_last : (s : Bool) → nat_eq t k ≡ s → (t < k → buffer_of (lows k) t ≡ begun t) → buffer_of (lows k ++ begun k ∷ []) t ≡ begun t
      by_last true is before =
          let same : k ≡ t = grind (arith, nat_tests, is) in
          subst (λ j. buffer_of (lows k ++ begun k ∷ []) j ≡ begun j) same (seam (lows k) k (begun k) (lows_length k))
      by_last false is before =
          let less : t < k = grind (arith, nat_tests, is, inside) in
          let long : length (lows k) ≡ k = lows_length k in
          front (lows k) t (begun k) (omega (arith, less, long)) ∙ before less

  buffers_parts : buffers_in (move_list m p es) ≡ fold buffers_step (lows (length p.edges)) (each_below (length p.edges) (kept_entries p))
  buffers_parts =
      fold_six buffers_step [] (each_below (length m.marks) (mark_entry m)) (entry.Count m.count ∷ []) (each_below (length m.marks) (head_entries m))
      (each_below (length p.edges) (low_entry p)) (each_below (length p.edges) (kept_entries p)) es
      ∙ ap (λ y. fold buffers_step (fold buffers_step (fold buffers_step (fold buffers_step y (each_below (length m.marks) (head_entries m))) (each_below (length p.edges) (low_entry p))) (each_below (length p.edges) (kept_entries p))) es)
      (skip_below buffers_step [] (mark_entry m) (λ q. refl) (length m.marks))
      ∙ ap (λ y. fold buffers_step (fold buffers_step (fold buffers_step y (each_below (length p.edges) (low_entry p))) (each_below (length p.edges) (kept_entries p))) es)
      (skip_below buffers_step [] (head_entries m) (λ q. skip_numbered buffers_step [] (entry.Head q) (λ n x. refl) (used_of m q) (waiting_of m q)) (length m.marks))
      ∙ skip_keyed buffers_step (fold buffers_step (lows (length p.edges)) (each_below (length p.edges) (kept_entries p))) (buffers_keyed (fold buffers_step (lows (length p.edges)) (each_below (length p.edges) (kept_entries p)))) es keyed

  abbrev refilled_all : List BufferView
  refilled_all = fold buffers_step (lows (length p.edges)) (each_below (length p.edges) (kept_entries p))

  -- the buffers are those of the beginning, their room left aside
  pub buffers_whole : ((t : ℕ) → t < length p.edges → length (buffer_at p t).items ≡ (buffer_at p t).produced - (buffer_at p t).low) → buffers_in (move_list m p es) ≡ map (λ e. without_spare e.buffer) p.edges
  buffers_whole exact =
      buffers_parts
      ∙ ext_get_or (starting_at 0 0) refilled_all (map (λ e. without_spare e.buffer) p.edges) (long ∙ sym (length-map p.edges (λ e. without_spare e.buffer))) (λ t inside. at t (omega (arith, long, inside)))
    where
      lows_long : length (lows (length p.edges)) ≡ length p.edges
      lows_long = lows_length (length p.edges)

      long : length refilled_all ≡ length p.edges
      long =
          length_below (starting_at 0 0) buffers_step (kept_entries p) (λ t b. fold again b (buffer_at p t).items) (λ t bs inside. kept_edge t (buffer_at p t).low (buffer_at p t).items bs inside)
          (length p.edges) (lows (length p.edges)) (omega (arith, lows_long)) ∙ lows_long

      at : (t : ℕ) → t < length p.edges → slice_index_or refilled_all t (starting_at 0 0) ≡ slice_index_or (map (λ e. without_spare e.buffer) p.edges) t (starting_at 0 0)
      at t inside =
          let below : nat_lt t (length p.edges) ≡ true = grind (arith, nat_tests, inside) in
          at_below (starting_at 0 0) buffers_step (kept_entries p) (λ t b. fold again b (buffer_at p t).items) (λ t bs inside. kept_edge t (buffer_at p t).low (buffer_at p t).items bs inside)
          (length p.edges) (lows (length p.edges)) t (omega (arith, lows_long)) (omega (arith, lows_long, inside))
          ∙ rw below (ap (λ b. fold again b (buffer_at p t).items) (lows_at (length p.edges) t inside))
          ∙ refilled (buffer_at p t) (exact t inside)
          ∙ sym (get_or-map (λ e. without_spare e.buffer) p.edges t unused (starting_at 0 0) inside)

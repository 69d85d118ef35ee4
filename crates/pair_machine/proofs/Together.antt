-- What the sources of ingress send, merged, is what they send together, in the order of the inputs.
use Rattle.std.proofs.Common.{◌≡◌, ◌<◌, ◌≤◌, ℕ, zero, suc, Bool, true, false, List, [], ◌∷◌, ◌++◌, ◌+◌, None, length, map, refl, sym, ap, ◌∙◌, arith, append_assoc}
use Rattle.std.specs.Prelude.{All, if◌then◌else◌, ◌%◌, ◌==◌, ◌||◌}
use Rattle.std.specs.List.{range_with_len}
use Rattle.std.proofs.lemmas.List.Elements.{All-head, All-tail}
use Rattle.std.proofs.lemmas.List.FromFn.{length-map-range_with_len}
use Rattle.tuple_edge.specs.Input.{Input, rows_in}
use Rattle.tuple_edge.specs.declared.item.Item.{Item}
use Rattle.tuple_edge.specs.declared.item.Item.TheVariants as item
use Rattle.merge_order.specs.Edges.{AllFrom}
use Rattle.merge_order.specs.Merged.{Place, all_rows_at, has_mark_at, is_from, items, mark_at, rows_at, stamp_at, stamps_upto}
use Rattle.merge_order.proofs.Choices.{if_elim, nat_not, nat_self}
use Rattle.merge_order.proofs.Forms.{items-append}
use Rattle.merge_order.proofs.Step.{weaken}
use Rattle.merge_order.proofs.Taken.{ClearBefore, EachFrom, EdgesTake, TakesIf, mark_if, place, row_begins, rows_none, some_mark_at, some_mark_other, stamp_none, stamps_begin}
use Rattle.pair_machine.specs.Ingress.{last_stamp, mark_after, sent_by_source, sent_from, sent_together}
use Rattle.pair_machine.specs.Laws.{SourcesMergeInOrder}
use Rattle.pair_machine.proofs.Sending.{source_from}

-- ---- lists of so many sources, from one on

abbrev of_sources : (ℕ → List Item) → (first sources : ℕ) → List (List Item)
of_sources f first sources = map f (range_with_len first sources)

each_from : (f : ℕ → List Item) (n : ℕ) → ((q : ℕ) → AllFrom n (f q)) → (first sources : ℕ) → EachFrom n (of_sources f first sources)
each_from f n h first zero = tt
each_from f n h first (suc sources) = (h first, each_from f n h (first + 1) sources)

each_takes : (f g : ℕ → List Item) (j : Place) → ((q : ℕ) → TakesIf (is_from q j.source) j.item (f q) (g q)) → (first sources : ℕ)
    → EdgesTake first j (of_sources f first sources) (of_sources g first sources)
each_takes f g j h first zero = tt
each_takes f g j h first (suc sources) = (h first, each_takes f g j h (first + 1) sources)

each_clear : (f : ℕ → List Item) (s at : ℕ) → ((q : ℕ) → q < at → rows_at s q (f q) ≡ []) → (first sources : ℕ) → ClearBefore s at first (of_sources f first sources)
each_clear f s at h first zero = tt
each_clear f s at h first (suc sources) = (h first, each_clear f s at h (first + 1) sources)

no_rows : (f : ℕ → List Item) (s : ℕ) → ((q : ℕ) → rows_at s q (f q) ≡ []) → (first sources : ℕ) → all_rows_at s first (of_sources f first sources) ≡ []
no_rows f s h first zero = refl
no_rows f s h first (suc sources) = ap (λ x. x ++ all_rows_at s (first + 1) (of_sources f (first + 1) sources)) (h first) ∙ no_rows f s h (first + 1) sources

-- ---- the end

no_marks : (n k first sources : ℕ) → some_mark_at k (of_sources (λ q. item.End n ∷ []) first sources) ≡ false
no_marks n k first zero = refl
no_marks n k first (suc sources) = no_marks n k (first + 1) sources

-- nothing comes before the ends
only_ends : (n k sources : ℕ) → stamps_upto k (of_sources (λ q. item.End n ∷ []) 0 sources) ≡ []
only_ends n zero sources = refl
only_ends n (suc k) sources =
    let es = of_sources (λ q. item.End n ∷ []) 0 sources in
    ap (λ x. x ++ stamp_at (suc k) es) (only_ends n k sources)
    ∙ (ap (λ x. x ++ mark_at (suc k) es) (no_rows (λ q. item.End n ∷ []) (suc k) (λ q. refl) 0 sources) ∙ ap (mark_if (suc k)) (no_marks n (suc k) 0 sources))

-- ---- one input

module _ (last mark n : ℕ) (r : Input) (inputs : List Input) (one : 1 ≤ n) (most : n ≤ last) where
  abbrev later : ℕ → List Item
  later q = sent_from q mark (n + 1) inputs

  later_from : (q : ℕ) → AllFrom (n + 1) (later q)
  later_from q = source_from q mark (n + 1) inputs

  -- once the row was taken
  abbrev without_row : ℕ → List Item
  without_row q = mark_after mark n ++ later q

  abbrev whole : ℕ → List Item
  whole q = sent_from q mark n (r ∷ inputs)

  none_left : (q : ℕ) → rows_at n q (without_row q) ≡ []
  none_left q =
      let none = rows_none n q (n + 1) (later q) (omega arith) (later_from q) in
      if_elim (λ xs. rows_at n q (xs ++ later q) ≡ []) (n % mark == 0) (item.Mark n ∷ []) [] (λ e. none) (λ e. none)

  row_goes : (q : ℕ) → TakesIf (r.source == q) (item.Row n r.row) (whole q) (without_row q)
  row_goes q = go (r.source == q)
    where
      go : (b : Bool) → TakesIf b (item.Row n r.row) ((if b then item.Row n r.row ∷ [] else []) ++ without_row q) (without_row q)
      go true = refl
      go false = refl

  clear : (q : ℕ) → q < r.source → rows_at n q (whole q) ≡ []
  clear q l = ap (λ (b : Bool). rows_at n q ((if b then item.Row n r.row ∷ [] else []) ++ without_row q)) (nat_not r.source q (omega arith)) ∙ none_left q

  -- the row comes first
  row_first : (sources : ℕ) → r.source < sources → stamps_upto last (of_sources whole 0 sources) ≡ place r.source (item.Row n r.row) ∷ stamps_upto last (of_sources without_row 0 sources)
  row_first sources here =
      let j = place r.source (item.Row n r.row) in
      let es = of_sources whole 0 sources in
      let news = of_sources without_row 0 sources in
      let takes = each_takes whole without_row j row_goes 0 sources in
      let begins : all_rows_at n 0 es ≡ j ∷ all_rows_at n 0 news =
      row_begins n r.row r.source 0 es news (omega arith) (omega (arith, length-map-range_with_len whole 0 sources, here)) (each_clear whole n r.source clear 0 sources) takes in
      stamps_begin last j es news one most (each_from whole n (λ q. source_from q mark n (r ∷ inputs)) 0 sources) takes
      (ap (λ x. x ++ mark_at n es) begins ∙ ap (λ b. j ∷ (all_rows_at n 0 news ++ mark_if n b)) (some_mark_other n 0 j es news refl takes))

  -- then the mark, where one follows
  mark_next : (b : Bool) (sources : ℕ) → 1 ≤ sources
      → items (stamps_upto last (of_sources (λ q. (if b then item.Mark n ∷ [] else []) ++ later q) 0 sources))
      ≡ (if b then item.Mark n ∷ [] else []) ++ items (stamps_upto last (of_sources later 0 sources))
  mark_next false sources some = refl
  mark_next true zero some = absurd (omega arith)
  mark_next true (suc more) some =
      let sources = suc more in
      let marked : ℕ → List Item = λ q. item.Mark n ∷ later q in
      let j : Place = record { source = None; item = item.Mark n } in
      let es = of_sources marked 0 sources in
      let news = of_sources later 0 sources in
      let takes : EdgesTake 0 j es news = each_takes marked later j (λ q. refl) 0 sources in
      let rows_gone : all_rows_at n 0 es ≡ [] = no_rows marked n (λ q. rows_none n q (n + 1) (later q) (omega arith) (later_from q)) 0 sources in
      let marks : some_mark_at n es ≡ true = ap (λ b. (b || has_mark_at n (later 0)) || some_mark_at n (of_sources marked 1 more)) (nat_self n) in
      let gone : stamp_at n news ≡ [] = stamp_none n (n + 1) news (omega arith) (each_from later (n + 1) later_from 0 sources) in
      ap items (stamps_begin last j es news one most (each_from marked n (λ q. (omega arith, weaken n (n + 1) (later q) (omega arith) (later_from q))) 0 sources) takes
      (ap (λ x. x ++ mark_at n es) rows_gone ∙ (ap (mark_if n) marks ∙ ap (λ x. j ∷ x) (sym gone))))

-- ---- all inputs

-- an input is of one of the sources
abbrev pub IsOfSource : ℕ → Input → Type 0
IsOfSource sources input = input.source < sources

together : (last mark n sources : ℕ) (inputs : List Input) → 1 ≤ n → n + length inputs ≡ last → 1 ≤ sources → All (IsOfSource sources) inputs
    → items (stamps_upto last (of_sources (λ q. sent_from q mark n inputs) 0 sources)) ++ item.End last ∷ [] ≡ sent_together mark n (rows_in inputs)
together last mark n sources [] one l some all = ap (λ ps. items ps ++ item.End last ∷ []) (only_ends n last sources) ∙ ap (λ k. item.End k ∷ []) (omega arith)
together last mark n sources (r ∷ inputs) one l some all =
    let most : n ≤ last = omega arith in
    let row = item.Row n r.row in
    let end = item.End last ∷ [] in
    let rest = items (stamps_upto last (of_sources (λ q. sent_from q mark (n + 1) inputs) 0 sources)) in
    ap (λ ps. items ps ++ end) (row_first last mark n r inputs one most sources (All-head (IsOfSource sources) r inputs all))
    ∙ (ap (λ x. row ∷ (x ++ end)) (mark_next last mark n r inputs one most (n % mark == 0) sources some)
    ∙ (ap (λ x. row ∷ x) (append_assoc (mark_after mark n) rest end)
    ∙ ap (λ x. row ∷ (mark_after mark n ++ x)) (together last mark (n + 1) sources inputs (omega arith) (omega arith) some (All-tail (IsOfSource sources) r inputs all))))

pub merge_in_order : SourcesMergeInOrder
merge_in_order plan inputs is_plan all =
    let sent = of_sources (sent_by_source plan inputs) 0 plan.version in
    items-append (stamps_upto (last_stamp inputs) sent) (record { source = None; item = item.End (last_stamp inputs) } ∷ [])
    ∙ together (last_stamp inputs) plan.mark 1 plan.version inputs (omega arith) (omega arith) is_plan.version_low all

-- A stage's early rows come early again, and its late ones partition by partition.
use Rattle.std.proofs.Common.{◌≡◌, ◌≢◌, ◌<◌, ◌≤◌, ℕ, ℤ, pos, negsuc, zero, suc, Bool, true, false, List, [], ◌∷◌, ◌++◌, ◌+◌, None, length, map, refl, sym, ap, ◌∙◌, subst, arith, append_assoc}
use Rattle.std.specs.Prelude.{All, ◌==◌, ◌%◌, ◌||◌, filter, if◌then◌else◌, unsigned_abs}
use Rattle.std.specs.Int.{int_rem_euclid}
use Rattle.std.specs.List.{range_with_len}
use Rattle.std.proofs.Math.Nat.{mod-lt}
use Rattle.std.proofs.lemmas.Bool.{eqb-true, eq-eqb}
use Rattle.std.proofs.lemmas.List.{append-nil, map-append}
use Rattle.std.proofs.lemmas.List.Elements.{All-cons, All-head, All-nil, All-tail, filter-append}
use Rattle.std.proofs.lemmas.List.FromFn.{length-map-range_with_len}
use Rattle.tuple_edge.specs.declared.item.Item.{Item}
use Rattle.tuple_edge.specs.declared.item.Item.TheVariants as item
use Rattle.tuple_edge.specs.declared.row.Row.{Row}
use Rattle.tuple_edge.specs.Item.{stamp_of}
use Rattle.tuple_edge.specs.Row.{column_of, route_of}
use Rattle.merge_order.specs.Edges.{AllFrom}
use Rattle.merge_order.specs.Merged.{Place, all_rows_at, has_mark_at, items, mark_at, merged, rows_at, stamp_at, stamps_upto}
use Rattle.merge_order.proofs.Choices.{if_elim, nat_not, nat_self}
use Rattle.merge_order.proofs.Forms.{items-append}
use Rattle.merge_order.proofs.Taken.{ClearBefore, EachFrom, EdgesTake, TakesIf, mark_if, place, row_begins, rows_cons, rows_if, some_mark_at, some_mark_other, stamp_none, stamps_begin, stamps_none}
use Rattle.op_spec.specs.Keys.{is_key, key_of}
use Rattle.op_spec.specs.Spec.{most_rows}
use Rattle.op_spec.specs.declared.spec.OpSpec.{OpSpec}
use Rattle.op_spec.specs.declared.spec.OpSpec.TheVariants as op
use Rattle.op_spec.specs.Times.{IsTimely}
use Rattle.stream_ops.specs.Answers.{answer, answers, crossing_answer, end_answer, row_answer, rows_of, window_answer, window_row}
use Rattle.stream_ops.specs.Joins.{is_left, join_answer}
use Rattle.stream_ops.specs.Rows.{keys_among}
use Rattle.stream_ops.specs.Sums.{sums_of, sums_row}
use Rattle.stream_ops.proofs.AnswerLaws.{length-answer_row, rows_timely}
use Rattle.stream_ops.proofs.Counts.{rows_of-append}
use Rattle.plan_reader.specs.declared.stage.Stage.{Stage}
use Rattle.pair_machine.specs.Edges.{answered, goes_to, passed, sent_by_part, sent_by_stage, stamped}
use Rattle.pair_machine.specs.Ingress.{mark_after, sent_together}
use Rattle.pair_machine.proofs.EdgeLengths.{rows_of-answered}
use Rattle.pair_machine.proofs.Sending.{merged_part}
use Rattle.evaluation.specs.StageRows.{HasTime, alike, early_replies, late_replies, part_replies, row_replies, rows_to}
use Rattle.evaluation.proofs.ComingRows.{HasRows, Past, Rises, tail_of}

-- ---- answers depend on the rows before alone

rows_same : (spec : OpSpec) (x y : List Item) (r : Row) → rows_of x ≡ rows_of y → row_answer spec x r ≡ row_answer spec y r
rows_same (op.Keep column compare limit) x y r e = refl
rows_same (op.Total by) x y r e = ap (λ rows. sums_row r.time (key_of by r) (sums_of (filter (λ z. is_key (key_of by z) (key_of by r)) rows ++ r ∷ [])) ∷ []) e
rows_same (op.Last by n) x y r e = rw e refl
rows_same (op.Window by width) x y r e = ap (λ rows. window_answer width (key_of by r) (filter (λ z. is_key (key_of by z) (key_of by r)) rows) r) e
rows_same (op.Crossing by limit) x y r e = ap (λ rows. crossing_answer limit (key_of by r) (filter (λ z. is_key (key_of by z) (key_of by r)) rows) r) e
rows_same (op.Join by width n column compare limit) x y r e =
    ap (λ rows. join_answer width n (is_left column compare limit) (key_of by r) (filter (λ z. is_key (key_of by z) (key_of by r)) rows) r) e

ends_same : (spec : OpSpec) (x y : List Item) → rows_of x ≡ rows_of y → end_answer spec x ≡ end_answer spec y
ends_same (op.Keep column compare limit) x y e = refl
ends_same (op.Total by) x y e = refl
ends_same (op.Last by n) x y e = refl
ends_same (op.Window by width) x y e = ap (λ rows. map (λ k. window_row width k (filter (λ z. is_key (key_of by z) k) rows)) (keys_among by rows)) e
ends_same (op.Crossing by limit) x y e = refl
ends_same (op.Join by width n column compare limit) x y e = refl

more_same : (x y : List Item) (i j : Item) → rows_of (i ∷ []) ≡ rows_of (j ∷ []) → rows_of x ≡ rows_of y → rows_of (x ++ i ∷ []) ≡ rows_of (y ++ j ∷ [])
more_same x y i j e f = rows_of-append x (i ∷ []) ∙ (ap (λ a. a ++ rows_of (i ∷ [])) f ∙ (ap (λ b. rows_of y ++ b) e ∙ sym (rows_of-append y (j ∷ []))))

tails_same : (spec : OpSpec) (last : ℕ) (late : List Row) (x y : List Item) → rows_of x ≡ rows_of y → answers spec x (stamped last late ++ item.End last ∷ []) ≡ answers spec y (stamped 0 late ++ item.End 0 ∷ [])
tails_same spec last [] x y e = ap (λ a. a ++ []) (ends_same spec x y e)
tails_same spec last (r ∷ late) x y e =
    ap (λ a. a ++ answers spec (x ++ item.Row last r ∷ []) (stamped last late ++ item.End last ∷ [])) (rows_same spec x y r e)
    ∙ ap (λ b. row_answer spec y r ++ b) (tails_same spec last late (x ++ item.Row last r ∷ []) (y ++ item.Row 0 r ∷ []) (more_same x y (item.Row last r) (item.Row 0 r) refl e))

pub rows_of-stamped : (s : ℕ) (rows : List Row) → rows_of (stamped s rows) ≡ rows
rows_of-stamped s [] = refl
rows_of-stamped s (r ∷ rows) = ap (λ x. r ∷ x) (rows_of-stamped s rows)

rows_then : (s : ℕ) (rows : List Row) (is : List Item) → rows_of (stamped s rows ++ is) ≡ rows ++ rows_of is
rows_then s rows is = rows_of-append (stamped s rows) is ∙ ap (λ x. x ++ rows_of is) (rows_of-stamped s rows)

-- ---- items past a stamp

past_from : (k s m : ℕ) (is : List Item) → k ≤ s + 1 → k ≤ m → Past s m is → AllFrom k is
past_from k s m [] a b p = tt
past_from k s m (item.Row t r ∷ is) a b p = (omega (arith, p.0), past_from k s m is a b p.1)
past_from k s m (item.Mark t ∷ is) a b p = (omega (arith, p.0), past_from k s m is a b p.1)
past_from k s m (item.End t ∷ is) a b p = (omega (arith, p.0), past_from k s m is a b p.1)

past_rows : (q s m : ℕ) (is : List Item) → Past s m is → rows_at s q is ≡ []
past_rows q s m [] p = refl
past_rows q s m (item.Row t r ∷ is) p = rows_cons s q (item.Row t r) is ∙ (ap (λ b. rows_if s q b (item.Row t r) is) (nat_not t s (λ e. omega (arith, p.0))) ∙ past_rows q s m is p.1)
past_rows q s m (item.Mark t ∷ is) p = past_rows q s m is p.1
past_rows q s m (item.End t ∷ is) p = past_rows q s m is p.1

past_append : (s m : ℕ) (is js : List Item) → Past s m is → Past s m js → Past s m (is ++ js)
past_append s m [] js p h = h
past_append s m (item.Row t r ∷ is) js p h = (p.0, past_append s m is js p.1 h)
past_append s m (item.Mark t ∷ is) js p h = (p.0, past_append s m is js p.1 h)
past_append s m (item.End t ∷ is) js p h = (p.0, past_append s m is js p.1 h)

past_stamped : (s m t : ℕ) (rows : List Row) (is : List Item) → s < t → Past s m is → Past s m (stamped t rows ++ is)
past_stamped s m t [] is l p = p
past_stamped s m t (r ∷ rows) is l p = (l, past_stamped s m t rows is l p)

past_filter : (s m : ℕ) (p : Item → Bool) (is : List Item) → Past s m is → Past s m (filter p is)
past_filter s m p [] h = tt
past_filter s m p (item.Row t r ∷ is) h = if_elim (Past s m) (p (item.Row t r)) (item.Row t r ∷ filter p is) (filter p is) (λ e. (h.0, past_filter s m p is h.1)) (λ e. past_filter s m p is h.1)
past_filter s m p (item.Mark t ∷ is) h = if_elim (Past s m) (p (item.Mark t)) (item.Mark t ∷ filter p is) (filter p is) (λ e. (h.0, past_filter s m p is h.1)) (λ e. past_filter s m p is h.1)
past_filter s m p (item.End t ∷ is) h = if_elim (Past s m) (p (item.End t)) (item.End t ∷ filter p is) (filter p is) (λ e. (h.0, past_filter s m p is h.1)) (λ e. past_filter s m p is h.1)

module _ (spec : OpSpec) where
  in_parts : (x is : List Item) (i : Item) → answered spec x (i ∷ is) ≡ stamped (stamp_of i) (answer spec x i) ++ (passed i ++ answered spec (x ++ i ∷ []) is)
  in_parts x is i = append_assoc (stamped (stamp_of i) (answer spec x i)) (passed i) (answered spec (x ++ i ∷ []) is)

  past_answered : (s m : ℕ) (x is : List Item) → Past s m is → Past s m (answered spec x is)
  past_answered s m x [] p = tt
  past_answered s m x (item.Row t r ∷ is) p =
      subst (Past s m) (sym (in_parts x is (item.Row t r))) (past_stamped s m t (answer spec x (item.Row t r)) (answered spec (x ++ item.Row t r ∷ []) is) p.0 (past_answered s m (x ++ item.Row t r ∷ []) is p.1))
  past_answered s m x (item.Mark t ∷ is) p = (p.0, past_answered s m (x ++ item.Mark t ∷ []) is p.1)
  past_answered s m x (item.End t ∷ is) p =
      subst (Past s m) (sym (in_parts x is (item.End t)))
      (past_stamped s m t (answer spec x (item.End t)) (item.End t ∷ answered spec (x ++ item.End t ∷ []) is) p.0 (p.0, past_answered s m (x ++ item.End t ∷ []) is p.1))

-- ---- lists of so many partitions, from one on

abbrev of_parts : (ℕ → List Item) → (first parts : ℕ) → List (List Item)
of_parts f first parts = map f (range_with_len first parts)

each_from : (f : ℕ → List Item) (n : ℕ) → ((q : ℕ) → AllFrom n (f q)) → (first parts : ℕ) → EachFrom n (of_parts f first parts)
each_from f n h first zero = tt
each_from f n h first (suc parts) = (h first, each_from f n h (first + 1) parts)

each_takes : (f g : ℕ → List Item) (at : ℕ) (i : Item) → ((q : ℕ) → TakesIf (at == q) i (f q) (g q)) → (first parts : ℕ)
    → EdgesTake first (place at i) (of_parts f first parts) (of_parts g first parts)
each_takes f g at i h first zero = tt
each_takes f g at i h first (suc parts) = (h first, each_takes f g at i h (first + 1) parts)

each_marked : (f g : ℕ → List Item) (i : Item) → ((q : ℕ) → f q ≡ i ∷ g q) → (first parts : ℕ)
    → EdgesTake first (record { source = None; item = i }) (of_parts f first parts) (of_parts g first parts)
each_marked f g i h first zero = tt
each_marked f g i h first (suc parts) = (h first, each_marked f g i h (first + 1) parts)

each_clear : (f : ℕ → List Item) (s at : ℕ) → ((q : ℕ) → q < at → rows_at s q (f q) ≡ []) → (first parts : ℕ) → ClearBefore s at first (of_parts f first parts)
each_clear f s at h first zero = tt
each_clear f s at h first (suc parts) = (h first, each_clear f s at h (first + 1) parts)

no_rows : (f : ℕ → List Item) (s : ℕ) → ((q : ℕ) → rows_at s q (f q) ≡ []) → (first parts : ℕ) → all_rows_at s first (of_parts f first parts) ≡ []
no_rows f s h first zero = refl
no_rows f s h first (suc parts) = ap (λ x. x ++ all_rows_at s (first + 1) (of_parts f (first + 1) parts)) (h first) ∙ no_rows f s h (first + 1) parts

same_parts : (f g : ℕ → List Item) → ((q : ℕ) → f q ≡ g q) → (first parts : ℕ) → of_parts f first parts ≡ of_parts g first parts
same_parts f g h first zero = refl
same_parts f g h first (suc parts) = ap (λ x. x ∷ of_parts f (first + 1) parts) (h first) ∙ ap (λ x. g first ∷ x) (same_parts f g h (first + 1) parts)

-- a row that comes before all others of its stamp
row_first : (last s at : ℕ) (r : Row) (f g : ℕ → List Item) (parts : ℕ) → 1 ≤ s → s ≤ last → at < parts → ((q : ℕ) → TakesIf (at == q) (item.Row s r) (f q) (g q))
    → ((q : ℕ) → AllFrom s (f q)) → ((q : ℕ) → q ≢ at → rows_at s q (f q) ≡ [])
    → items (stamps_upto last (of_parts f 0 parts)) ≡ item.Row s r ∷ items (stamps_upto last (of_parts g 0 parts))
row_first last s at r f g parts one most here takes from clear =
    let j = place at (item.Row s r) in
    let es = of_parts f 0 parts in
    let news = of_parts g 0 parts in
    let t = each_takes f g at (item.Row s r) takes 0 parts in
    let begins : all_rows_at s 0 es ≡ j ∷ all_rows_at s 0 news =
    row_begins s r at 0 es news (omega arith) (omega (arith, length-map-range_with_len f 0 parts, here)) (each_clear f s at (λ q l. clear q (λ e. omega arith)) 0 parts) t in
    ap items (stamps_begin last j es news one most (each_from f s from 0 parts) t
    (ap (λ x. x ++ mark_at s es) begins ∙ ap (λ b. j ∷ (all_rows_at s 0 news ++ mark_if s b)) (some_mark_other s 0 j es news refl t)))

-- what partitions send, where one of them sends rows of one stamp before all else
abbrev sent_first : (s at : ℕ) → List Row → (ℕ → List Item) → ℕ → List Item
sent_first s at rows next q = (if at == q then stamped s rows else []) ++ next q

-- Rows of one stamp and one partition come first, in their order, where all else has a later stamp.
rows_first : (last s at : ℕ) (rows : List Row) (next : ℕ → List Item) (parts : ℕ) → 1 ≤ s → s ≤ last → at < parts → ((q : ℕ) → Past s s (next q))
    → items (stamps_upto last (of_parts (sent_first s at rows next) 0 parts)) ≡ stamped s rows ++ items (stamps_upto last (of_parts next 0 parts))
rows_first last s at [] next parts one most here later = ap (λ es. items (stamps_upto last es)) (same_parts (sent_first s at [] next) next (λ q. none (at == q) (next q)) 0 parts)
  where
    none : (c : Bool) (is : List Item) → (if c then stamped s [] else []) ++ is ≡ is
    none true is = refl
    none false is = refl
rows_first last s at (r ∷ rows) next parts one most here later =
    row_first last s at r (sent_first s at (r ∷ rows) next) (sent_first s at rows next) parts one most here (λ q. takes (at == q) (next q)) (λ q. from (at == q) (next q) (later q))
    (λ q apart. clear q (at == q) (eqb-true at q) apart (later q))
    ∙ ap (λ is. item.Row s r ∷ is) (rows_first last s at rows next parts one most here later)
  where
    takes : (c : Bool) (is : List Item) → TakesIf c (item.Row s r) ((if c then stamped s (r ∷ rows) else []) ++ is) ((if c then stamped s rows else []) ++ is)
    takes true is = refl
    takes false is = refl

    stamped_from : (xs : List Row) (is : List Item) → AllFrom s is → AllFrom s (stamped s xs ++ is)
    stamped_from [] is h = h
    stamped_from (x ∷ xs) is h = (omega arith, stamped_from xs is h)

    from : (c : Bool) (is : List Item) → Past s s is → AllFrom s ((if c then stamped s (r ∷ rows) else []) ++ is)
    from true is p = stamped_from (r ∷ rows) is (past_from s s s is (omega arith) (omega arith) p)
    from false is p = past_from s s s is (omega arith) (omega arith) p

    clear : (q : ℕ) (c : Bool) → (c ≡ true → at ≡ q) → q ≢ at → Past s s (next q) → rows_at s q ((if c then stamped s (r ∷ rows) else []) ++ next q) ≡ []
    clear q true here apart p = absurd (apart (sym (here refl)))
    clear q false here apart p = past_rows q s s (next q) p

-- a mark that each partition has first
mark_first : (last s : ℕ) (f g : ℕ → List Item) (parts : ℕ) → 1 ≤ s → s ≤ last → 1 ≤ parts → ((q : ℕ) → f q ≡ item.Mark s ∷ g q) → ((q : ℕ) → AllFrom (s + 1) (g q)) → ((q : ℕ) → rows_at s q (g q) ≡ [])
    → items (stamps_upto last (of_parts f 0 parts)) ≡ item.Mark s ∷ items (stamps_upto last (of_parts g 0 parts))
mark_first last s f g zero one most some first from clear = absurd (omega arith)
mark_first last s f g (suc more) one most some first from clear =
    let parts = suc more in
    let j : Place = record { source = None; item = item.Mark s } in
    let es = of_parts f 0 parts in
    let news = of_parts g 0 parts in
    let t : EdgesTake 0 j es news = each_marked f g (item.Mark s) first 0 parts in
    let rows_gone : all_rows_at s 0 es ≡ [] = no_rows f s (λ q. ap (rows_at s q) (first q) ∙ clear q) 0 parts in
    let marks : some_mark_at s es ≡ true = ap (λ x. has_mark_at s x || some_mark_at s (of_parts f 1 more)) (first 0) ∙ ap (λ b. (b || has_mark_at s (g 0)) || some_mark_at s (of_parts f 1 more)) (nat_self s) in
    let gone : stamp_at s news ≡ [] = stamp_none s (s + 1) news (omega arith) (each_from g (s + 1) from 0 parts) in
    ap items (stamps_begin last j es news one most (each_from f s (λ q. subst (AllFrom s) (sym (first q)) (omega arith, weaker s (g q) (from q))) 0 parts) t
    (ap (λ x. x ++ mark_at s es) rows_gone ∙ (ap (mark_if s) marks ∙ ap (λ x. j ∷ x) (sym gone))))
  where
    weaker : (s : ℕ) (is : List Item) → AllFrom (s + 1) is → AllFrom s is
    weaker s [] h = tt
    weaker s (i ∷ is) h = (omega (arith, h.0), weaker s is h.1)

-- ---- where rows go

route_below : (z : ℤ) (n : ℕ) → 1 ≤ n → unsigned_abs (int_rem_euclid z (pos n)) < n
route_below (pos a) n some = mod-lt a some
route_below (negsuc a) n some = omega (arith, mod-lt a some)

goes_more : (stage : Stage) (q : ℕ) (x : List Item) (i : Item) (b : Bool) → goes_to stage q i ≡ b → filter (goes_to stage q) (x ++ i ∷ []) ≡ filter (goes_to stage q) x ++ (if b then i ∷ [] else [])
goes_more stage q x i b e = filter-append (goes_to stage q) x (i ∷ []) ∙ ap (λ c. filter (goes_to stage q) x ++ (if c then i ∷ [] else [])) e

rows_go : (stage : Stage) (q : ℕ) (x : List Item) → rows_of (filter (goes_to stage q) x) ≡ rows_to stage q (rows_of x)
rows_go stage q [] = refl
rows_go stage q (item.Row s r ∷ x) = go (route_of r stage.by stage.parts == q) (rows_go stage q x)
  where
    go : (b : Bool) → rows_of (filter (goes_to stage q) x) ≡ rows_to stage q (rows_of x)
        → rows_of (if b then item.Row s r ∷ filter (goes_to stage q) x else filter (goes_to stage q) x) ≡ (if b then r ∷ rows_to stage q (rows_of x) else rows_to stage q (rows_of x))
    go true e = ap (λ rows. r ∷ rows) e
    go false e = e
rows_go stage q (item.Mark s ∷ x) = rows_go stage q x
rows_go stage q (item.End s ∷ x) = rows_go stage q x

tail_goes : (stage : Stage) (q last : ℕ) (late : List Row) → filter (goes_to stage q) (tail_of last late) ≡ tail_of last (rows_to stage q late)
tail_goes stage q last [] = refl
tail_goes stage q last (r ∷ late) = go (route_of r stage.by stage.parts == q) (tail_goes stage q last late)
  where
    go : (b : Bool) → filter (goes_to stage q) (tail_of last late) ≡ tail_of last (rows_to stage q late)
        → (if b then item.Row last r ∷ filter (goes_to stage q) (tail_of last late) else filter (goes_to stage q) (tail_of last late)) ≡ tail_of last (if b then r ∷ rows_to stage q late else rows_to stage q late)
    go true e = ap (λ x. item.Row last r ∷ x) e
    go false e = e

-- ---- the last stamp

-- each row has the last stamp
abbrev AllLast : ℕ → List Item → Type 0
AllLast last [] = Unit {0}
AllLast last (item.Row s r ∷ is) = (s ≡ last) × AllLast last is
AllLast last (item.Mark s ∷ is) = ⊥
AllLast last (item.End s ∷ is) = AllLast last is

last_append : (last : ℕ) (rows : List Row) (is : List Item) → AllLast last is → AllLast last (stamped last rows ++ is)
last_append last [] is h = h
last_append last (r ∷ rows) is h = (refl, last_append last rows is h)

last_answered : (spec : OpSpec) (last : ℕ) (x : List Item) (late : List Row) → AllLast last (answered spec x (tail_of last late))
last_answered spec last x [] = subst (AllLast last) (sym (in_parts spec x [] (item.End last))) (last_append last (end_answer spec x) (item.End last ∷ []) tt)
last_answered spec last x (r ∷ late) =
    subst (AllLast last) (sym (in_parts spec x (tail_of last late) (item.Row last r)))
    (last_append last (answer spec x (item.Row last r)) (answered spec (x ++ item.Row last r ∷ []) (tail_of last late)) (last_answered spec last (x ++ item.Row last r ∷ []) late))

last_rows : (last q : ℕ) (is : List Item) → AllLast last is → items (rows_at last q is) ≡ stamped last (rows_of is)
last_rows last q [] h = refl
last_rows last q (item.Row s r ∷ is) h =
    ap items (rows_cons last q (item.Row s r) is ∙ ap (λ b. rows_if last q b (item.Row s r) is) (eq-eqb s last h.0))
    ∙ (ap (λ k. item.Row k r ∷ items (rows_at last q is)) h.0 ∙ ap (λ x. item.Row last r ∷ x) (last_rows last q is h.1))
last_rows last q (item.Mark s ∷ is) h = absurd h
last_rows last q (item.End s ∷ is) h = last_rows last q is h

last_marks : (last k : ℕ) (is : List Item) → AllLast last is → has_mark_at k is ≡ false
last_marks last k [] h = refl
last_marks last k (item.Row s r ∷ is) h = last_marks last k is h.1
last_marks last k (item.Mark s ∷ is) h = absurd h
last_marks last k (item.End s ∷ is) h = last_marks last k is h

tail_from : (s last : ℕ) (late : List Row) → s < last → Past s s (tail_of last late) × Past s (s + 1) (tail_of last late)
tail_from s last late l = (past_stamped s s last late (item.End last ∷ []) l (l, tt), past_stamped s (s + 1) last late (item.End last ∷ []) l (l, tt))

module _ (stage : Stage) (last : ℕ) (late : List Row) (one : 1 ≤ last) where
  -- what a partition sends for items, after those before
  abbrev after : List Item → List Item → ℕ → List Item
  after x is q = answered stage.op (filter (goes_to stage q) x) (filter (goes_to stage q) is)

  abbrev tail : List Item
  tail = tail_of last late

  -- the early rows that answer
  abbrev pub front_after : List Item → List Item → List Item
  front_after x [] = []
  front_after x (item.Row s r ∷ is) = stamped s (answer stage.op (filter (goes_to stage (route_of r stage.by stage.parts)) x) (item.Row s r)) ++ front_after (x ++ item.Row s r ∷ []) is
  front_after x (item.Mark s ∷ is) = item.Mark s ∷ front_after (x ++ item.Mark s ∷ []) is
  front_after x (item.End s ∷ is) = []

  front_past : (s m : ℕ) (x is : List Item) → Past s m is → Past s m (front_after x is)
  front_past s m x [] p = tt
  front_past s m x (item.Row t r ∷ is) p =
      past_stamped s m t (answer stage.op (filter (goes_to stage (route_of r stage.by stage.parts)) x) (item.Row t r)) (front_after (x ++ item.Row t r ∷ []) is) p.0 (front_past s m (x ++ item.Row t r ∷ []) is p.1)
  front_past s m x (item.Mark t ∷ is) p = (p.0, front_past s m (x ++ item.Mark t ∷ []) is p.1)
  front_past s m x (item.End t ∷ is) p = tt

  one_rises : (s : ℕ) (rows : List Row) (is : List Item) → length rows ≤ 1 → 1 ≤ s → s < last → Past s s is → Rises last is → Rises last (stamped s rows ++ is)
  one_rises s [] is one a b p h = h
  one_rises s (r ∷ []) is one a b p h = (a, b, p, h)
  one_rises s (r ∷ z ∷ rows) is one a b p h = absurd (omega arith)

  -- answers of one row at most are early again
  pub front_rises : most_rows stage.op ≤ 1 → (x is : List Item) → Rises last is → Rises last (front_after x is)
  front_rises few x [] h = tt
  front_rises few x (item.Row s r ∷ is) h =
      let mine = filter (goes_to stage (route_of r stage.by stage.parts)) x in
      let most : length (row_answer stage.op mine r) ≤ most_rows stage.op = length-answer_row stage.op mine s r in
      one_rises s (row_answer stage.op mine r) (front_after (x ++ item.Row s r ∷ []) is) (omega (arith, most, few)) h.0 h.1
      (front_past s s (x ++ item.Row s r ∷ []) is h.2) (front_rises few (x ++ item.Row s r ∷ []) is h.3)
  front_rises few x (item.Mark s ∷ is) h = (h.0, h.1, front_past s (s + 1) (x ++ item.Mark s ∷ []) is h.2, front_rises few (x ++ item.Mark s ∷ []) is h.3)
  front_rises few x (item.End s ∷ is) h = tt

  pub front_rows : (x is : List Item) → Rises last is → rows_of (front_after x is) ≡ early_replies stage (rows_of x) (rows_of is)
  front_rows x [] h = refl
  front_rows x (item.Row s r ∷ is) h =
      let q = route_of r stage.by stage.parts in
      rows_then s (answer stage.op (filter (goes_to stage q) x) (item.Row s r)) (front_after (x ++ item.Row s r ∷ []) is)
      ∙ (ap (λ a. a ++ rows_of (front_after (x ++ item.Row s r ∷ []) is)) (rows_same stage.op (filter (goes_to stage q) x) (alike (rows_to stage q (rows_of x))) r
      (rows_go stage q x ∙ sym (rows_of-stamped 0 (rows_to stage q (rows_of x)))))
      ∙ ap (λ b. row_replies stage (rows_of x) r ++ b) (front_rows (x ++ item.Row s r ∷ []) is h.3 ∙ ap (λ y. early_replies stage y (rows_of is)) (rows_of-append x (item.Row s r ∷ []))))
  front_rows x (item.Mark s ∷ is) h =
      front_rows (x ++ item.Mark s ∷ []) is h.3 ∙ ap (λ y. early_replies stage y (rows_of is)) (rows_of-append x (item.Mark s ∷ []) ∙ append-nil (rows_of x))
  front_rows x (item.End s ∷ is) h = absurd h

  module _ (some : 1 ≤ stage.parts) where
    abbrev sent : List Item → List Item → List (List Item)
    sent x is = of_parts (after x is) 0 stage.parts

    past_after : (s m : ℕ) (x is : List Item) (q : ℕ) → Past s m is → Past s m (after x is q)
    past_after s m x is q p = past_answered stage.op s m (filter (goes_to stage q) x) (filter (goes_to stage q) is) (past_filter s m (goes_to stage q) is p)

    -- What is answered to an early row comes before all else.
    row_step : (s : ℕ) (r : Row) (x is : List Item) → 1 ≤ s → s < last → Past s s is
        → items (stamps_upto last (sent x (item.Row s r ∷ is)))
        ≡ stamped s (answer stage.op (filter (goes_to stage (route_of r stage.by stage.parts)) x) (item.Row s r)) ++ items (stamps_upto last (sent (x ++ item.Row s r ∷ []) is))
    row_step s r x is a b p =
        ap (λ es. items (stamps_upto last es)) (same_parts (after x (item.Row s r ∷ is)) (sent_first s at replies next) (λ q. at_is q (at == q) refl (eqb-true at q)) 0 stage.parts)
        ∙ rows_first last s at replies next stage.parts a (omega arith) (route_below (column_of stage.by r) stage.parts some) (λ q. past_after s s (x ++ item.Row s r ∷ []) is q p)
      where
        at : ℕ
        at = route_of r stage.by stage.parts

        replies : List Row
        replies = answer stage.op (filter (goes_to stage at) x) (item.Row s r)

        next : ℕ → List Item
        next = after (x ++ item.Row s r ∷ []) is

        -- at its own partition, and at the others
        at_is : (q : ℕ) (c : Bool) → (at == q) ≡ c → ((at == q) ≡ true → at ≡ q) → after x (item.Row s r ∷ is) q ≡ sent_first s at replies next q
        at_is q true e here =
            ap (λ t. answered stage.op (filter (goes_to stage q) x) (if t then item.Row s r ∷ filter (goes_to stage q) is else filter (goes_to stage q) is)) e
            ∙ (in_parts stage.op (filter (goes_to stage q) x) (filter (goes_to stage q) is) (item.Row s r)
            ∙ (ap (λ y. stamped s (answer stage.op (filter (goes_to stage q) x) (item.Row s r)) ++ answered stage.op y (filter (goes_to stage q) is)) (sym (goes_more stage q x (item.Row s r) true e))
            ∙ (ap (λ k. stamped s (answer stage.op (filter (goes_to stage k) x) (item.Row s r)) ++ next q) (sym (here e))
            ∙ ap (λ t. (if t then stamped s replies else []) ++ next q) (sym e))))
        at_is q false e here =
            ap (λ t. answered stage.op (filter (goes_to stage q) x) (if t then item.Row s r ∷ filter (goes_to stage q) is else filter (goes_to stage q) is)) e
            ∙ (ap (λ y. answered stage.op y (filter (goes_to stage q) is)) (sym (goes_more stage q x (item.Row s r) false e ∙ append-nil (filter (goes_to stage q) x)))
            ∙ ap (λ t. (if t then stamped s replies else []) ++ next q) (sym e))

    mark_step : (s : ℕ) (x is : List Item) → 1 ≤ s → s < last → Past s (s + 1) is
        → items (stamps_upto last (sent x (item.Mark s ∷ is))) ≡ item.Mark s ∷ items (stamps_upto last (sent (x ++ item.Mark s ∷ []) is))
    mark_step s x is a b p =
        let next = after (x ++ item.Mark s ∷ []) is in
        let next_past : (q : ℕ) → Past s (s + 1) (next q) = λ q. past_after s (s + 1) (x ++ item.Mark s ∷ []) is q p in
        mark_first last s (after x (item.Mark s ∷ is)) next stage.parts a (omega arith) some
        (λ q. ap (λ y. item.Mark s ∷ answered stage.op y (filter (goes_to stage q) is)) (sym (goes_more stage q x (item.Mark s) true refl)))
        (λ q. past_from (s + 1) s (s + 1) (next q) (omega arith) (omega arith) (next_past q)) (λ q. past_rows q s (s + 1) (next q) (next_past q))

    -- early items go on to early items
    front_goes : (x is : List Item) → Rises last is → items (stamps_upto last (sent x (is ++ tail))) ≡ front_after x is ++ items (stamps_upto last (sent (x ++ is) tail))
    front_goes x [] h = ap (λ y. items (stamps_upto last (sent y tail))) (sym (append-nil x))
    front_goes x (item.Row s r ∷ is) h =
        let replies = stamped s (answer stage.op (filter (goes_to stage (route_of r stage.by stage.parts)) x) (item.Row s r)) in
        row_step s r x (is ++ tail) h.0 h.1 (past_append s s is tail h.2 (tail_from s last late h.1).0)
        ∙ (ap (λ y. replies ++ y) (front_goes (x ++ item.Row s r ∷ []) is h.3 ∙ ap (λ y. front_after (x ++ item.Row s r ∷ []) is ++ items (stamps_upto last (sent y tail))) (append_assoc x (item.Row s r ∷ []) is))
        ∙ sym (append_assoc replies (front_after (x ++ item.Row s r ∷ []) is) (items (stamps_upto last (sent (x ++ item.Row s r ∷ is) tail)))))
    front_goes x (item.Mark s ∷ is) h =
        mark_step s x (is ++ tail) h.0 h.1 (past_append s (s + 1) is tail h.2 (tail_from s last late h.1).1)
        ∙ ap (λ y. item.Mark s ∷ y) (front_goes (x ++ item.Mark s ∷ []) is h.3 ∙ ap (λ y. front_after (x ++ item.Mark s ∷ []) is ++ items (stamps_upto last (sent y tail))) (append_assoc x (item.Mark s ∷ []) is))
    front_goes x (item.End s ∷ is) h = absurd h

    -- ---- late items

    part_tail : (x : List Item) (q : ℕ) → items (rows_at last q (after x tail q)) ≡ stamped last (part_replies stage (rows_of x) late q)
    part_tail x q =
        let fx = filter (goes_to stage q) x in
        ap (λ is. items (rows_at last q (answered stage.op fx is))) (tail_goes stage q last late)
        ∙ (last_rows last q (answered stage.op fx (tail_of last (rows_to stage q late))) (last_answered stage.op last fx (rows_to stage q late))
        ∙ ap (stamped last) (rows_of-answered stage.op fx (tail_of last (rows_to stage q late))
        ∙ tails_same stage.op last (rows_to stage q late) fx (alike (rows_to stage q (rows_of x))) (rows_go stage q x ∙ sym (rows_of-stamped 0 (rows_to stage q (rows_of x))))))

    tails_at : (x : List Item) (q n : ℕ) → items (all_rows_at last q (of_parts (after x tail) q n)) ≡ stamped last (late_replies stage (rows_of x) late q n)
    tails_at x q zero = refl
    tails_at x q (suc n) =
        items-append (rows_at last q (after x tail q)) (all_rows_at last (q + 1) (of_parts (after x tail) (q + 1) n))
        ∙ (ap (λ y. y ++ items (all_rows_at last (q + 1) (of_parts (after x tail) (q + 1) n))) (part_tail x q)
        ∙ (ap (λ y. stamped last (part_replies stage (rows_of x) late q) ++ y) (tails_at x (q + 1) n)
        ∙ sym (map-append (item.Row last) (part_replies stage (rows_of x) late q) (late_replies stage (rows_of x) late (q + 1) n))))

    no_tail_marks : (x : List Item) (q n : ℕ) → some_mark_at last (of_parts (after x tail) q n) ≡ false
    no_tail_marks x q zero = refl
    no_tail_marks x q (suc n) =
        let fx = filter (goes_to stage q) x in
        ap (λ b. b || some_mark_at last (of_parts (after x tail) (q + 1) n)) (ap (λ is. has_mark_at last (answered stage.op fx is)) (tail_goes stage q last late)
        ∙ last_marks last last (answered stage.op fx (tail_of last (rows_to stage q late))) (last_answered stage.op last fx (rows_to stage q late)))
        ∙ no_tail_marks x (q + 1) n

    tail_stamps : (n : ℕ) → n ≡ last → (x : List Item) → items (stamps_upto n (sent x tail)) ≡ stamped last (late_replies stage (rows_of x) late 0 stage.parts)
    tail_stamps zero e x = absurd (omega arith)
    tail_stamps (suc n) e x =
        let es = sent x tail in
        let from : EachFrom last es = each_from (after x tail) last (λ q. past_from last n last (after x tail q) (omega arith) (omega arith)
        (past_after n last x tail q (past_stamped n last last late (item.End last ∷ []) (omega arith) (omega arith, tt)))) 0 stage.parts in
        let none : stamps_upto n es ≡ [] = stamps_none n last es (omega arith) from in
        ap (λ y. items (y ++ stamp_at (suc n) es)) none
        ∙ (ap (λ k. items (stamp_at k es)) e
        ∙ (ap (λ b. items (all_rows_at last 0 es ++ mark_if last b)) (no_tail_marks x 0 stage.parts) ∙ (ap items (append-nil (all_rows_at last 0 es)) ∙ tails_at x 0 stage.parts)))

    -- the whole
    pub passes_on : (is : List Item) → Rises last is
        → items (merged last (map (λ q. answered stage.op [] (filter (goes_to stage q) (is ++ tail))) (range_with_len 0 stage.parts)))
        ≡ front_after [] is ++ tail_of last (late_replies stage (rows_of is) late 0 stage.parts)
    passes_on is h =
        let end : Place = record { source = None; item = item.End last } in
        items-append (stamps_upto last (sent [] (is ++ tail))) (end ∷ [])
        ∙ (ap (λ y. y ++ item.End last ∷ []) (front_goes [] is h ∙ ap (λ y. front_after [] is ++ y) (tail_stamps last refl is))
        ∙ append_assoc (front_after [] is) (stamped last (late_replies stage (rows_of is) late 0 stage.parts)) (item.End last ∷ []))

-- ---- a stage, and what ingress sends

-- Each operator answers rows of which no two have one stamp in the order of these rows. Where it answers a row with one at most, no two answers have one stamp either.
pub stage_rows : (last : ℕ) (sent : List (List Item)) (stage : Stage) (early late : List Row) → 1 ≤ last → 1 ≤ stage.parts → (h : HasRows last (items (merged last sent)) early late) → Rises last h.front
    → (new : HasRows last (items (merged last (sent_by_stage last sent stage))) (early_replies stage [] early) (late_replies stage early late 0 stage.parts))
    × (most_rows stage.op ≤ 1 → Rises last new.front)
stage_rows last sent stage early late one some h rises =
    let given : ℕ → List Item = λ q. answered stage.op [] (filter (goes_to stage q) (h.front ++ tail_of last late)) in
    let same = same_parts (sent_by_part last sent stage) given (λ q. ap (answered stage.op []) (merged_part stage q last sent ∙ ap (filter (goes_to stage q)) h.whole)) 0 stage.parts in (
      record {
        front = front_after stage last late one [] h.front;
        whole = ap (λ es. items (merged last es)) same ∙ (passes_on stage last late one some h.front rises
            ∙ ap (λ rows. front_after stage last late one [] h.front ++ tail_of last (late_replies stage rows late 0 stage.parts)) h.rows);
        rows = front_rows stage last late one [] h.front rises ∙ ap (early_replies stage []) h.rows;
      },
      λ few. front_rises stage last late one few [] h.front rises,
    )

-- all rows
pub rows_are : (last : ℕ) (list : List Item) (early late : List Row) → HasRows last list early late → rows_of list ≡ early ++ late
rows_are last list early late h =
    ap rows_of h.whole ∙ (rows_of-append h.front (tail_of last late) ∙ (ap (λ x. x ++ rows_of (tail_of last late)) h.rows
    ∙ ap (λ x. early ++ x) (rows_then last late (item.End last ∷ []) ∙ append-nil late)))

-- the rows that ingress sends are early
abbrev front_of : (mark n : ℕ) → List Row → List Item
front_of mark n [] = []
front_of mark n (r ∷ rows) = item.Row n r ∷ mark_after mark n ++ front_of mark (n + 1) rows

front_whole : (mark n : ℕ) (rows : List Row) → sent_together mark n rows ≡ front_of mark n rows ++ item.End (n + length rows) ∷ []
front_whole mark n [] = ap (λ k. item.End k ∷ []) (omega arith)
front_whole mark n (r ∷ rows) =
    let more : n + 1 + length rows ≡ n + length (r ∷ rows) = omega arith in
    ap (λ x. item.Row n r ∷ mark_after mark n ++ x) (front_whole mark (n + 1) rows ∙ ap (λ k. front_of mark (n + 1) rows ++ item.End k ∷ []) more)
    ∙ ap (λ x. item.Row n r ∷ x) (sym (append_assoc (mark_after mark n) (front_of mark (n + 1) rows) (item.End (n + length (r ∷ rows)) ∷ [])))

front_beyond : (s m mark n : ℕ) (rows : List Row) → s < n → m ≤ n → Past s m (front_of mark n rows)
front_beyond s m mark n [] a b = tt
front_beyond s m mark n (r ∷ rows) a b =
    let rest = front_beyond s m mark (n + 1) rows (omega arith) (omega arith) in
    (a, if_elim (λ x. Past s m (x ++ front_of mark (n + 1) rows)) (n % mark == 0) (item.Mark n ∷ []) [] (λ e. (b, rest)) (λ e. rest))

front_ascends : (last mark n : ℕ) (rows : List Row) → 1 ≤ n → n + length rows ≡ last → Rises last (front_of mark n rows)
front_ascends last mark n [] one e = tt
front_ascends last mark n (r ∷ rows) one e =
    let rest = front_ascends last mark (n + 1) rows (omega arith) (omega arith) in
    let near = front_beyond n n mark (n + 1) rows (omega arith) (omega arith) in
    let far = front_beyond n (n + 1) mark (n + 1) rows (omega arith) (omega arith) in (
      one,
      omega arith,
      if_elim (λ x. Past n n (x ++ front_of mark (n + 1) rows)) (n % mark == 0) (item.Mark n ∷ []) [] (λ e. (omega arith, near)) (λ e. near),
      if_elim (λ x. Rises last (x ++ front_of mark (n + 1) rows)) (n % mark == 0) (item.Mark n ∷ []) [] (λ z. (one, omega arith, far, rest)) (λ z. rest),
    )

front_has : (mark n : ℕ) (rows : List Row) → rows_of (front_of mark n rows) ≡ rows
front_has mark n [] = refl
front_has mark n (r ∷ rows) =
    ap (λ x. r ∷ x) (if_elim (λ x. rows_of (x ++ front_of mark (n + 1) rows) ≡ rows_of (front_of mark (n + 1) rows)) (n % mark == 0) (item.Mark n ∷ []) [] (λ e. refl) (λ e. refl) ∙ front_has mark (n + 1) rows)

pub ingress_rows : (last mark : ℕ) (rows : List Row) → 1 + length rows ≡ last → (h : HasRows last (sent_together mark 1 rows) rows []) × Rises last h.front
ingress_rows last mark rows e = (
  record {
    front = front_of mark 1 rows;
    whole = front_whole mark 1 rows ∙ ap (λ k. front_of mark 1 rows ++ item.End k ∷ []) e;
    rows = front_has mark 1 rows;
  },
  front_ascends last mark 1 rows (omega arith) e,
)

-- ---- times

all_first : {X : Type 0} (P : X → Type 0) (xs ys : List X) → All P (xs ++ ys) → All P xs
all_first P [] ys h = All-nil P
all_first P (x ∷ xs) ys h = All-cons P x xs (All-head P x (xs ++ ys) h) (all_first P xs ys (All-tail P x (xs ++ ys) h))

all_last : {X : Type 0} (P : X → Type 0) (xs ys : List X) → All P (xs ++ ys) → All P ys
all_last P [] ys h = h
all_last P (x ∷ xs) ys h = all_last P xs ys (All-tail P x (xs ++ ys) h)

pub early_times : (last : ℕ) (list : List Item) (early late : List Row) → HasRows last list early late → All IsTimely list → All HasTime early
early_times last list early late h t = all_first HasTime early late (subst (All HasTime) (rows_are last list early late h) (rows_timely list t))

pub late_times : (last : ℕ) (list : List Item) (early late : List Row) → HasRows last list early late → All IsTimely list → All HasTime late
late_times last list early late h t = all_last HasTime early late (subst (All HasTime) (rows_are last list early late h) (rows_timely list t))

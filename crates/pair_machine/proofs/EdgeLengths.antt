-- A stage sends at most so many rows for each that it takes, as its operator answers one with, so each edge is short.
use Rattle.std.proofs.Common.{◌≡◌, ◌<◌, ◌≤◌, ◌⊎◌, inl, inr, ℕ, zero, suc, Bool, true, false, List, [], ◌∷◌, ◌++◌, ◌+◌, ◌-◌, ◌*◌, Option, None, Some, get_or, length, map, refl, sym, ap, ◌∙◌, subst, arith, take, append_assoc}
use Rattle.std.specs.Prelude.{All, filter, fold, if◌then◌else◌, ◌==◌, ◌%◌}
use Rattle.std.specs.List.{range_with_len}
use Rattle.std.proofs.lemmas.Bool.{cases_lt, eqb-true}
use Rattle.std.proofs.lemmas.List.{append-nil, length-append, take_all, take-take}
use Rattle.std.proofs.lemmas.List.Elements.{All-head, All-tail, All-take}
use Rattle.tuple_edge.specs.Input.{Input}
use Rattle.tuple_edge.specs.declared.item.Item.{Item}
use Rattle.tuple_edge.specs.declared.item.Item.TheVariants as item
use Rattle.tuple_edge.specs.declared.row.Row.{Row}
use Rattle.tuple_edge.specs.Row.{route_of}
use Rattle.tuple_edge.specs.Item.{stamp_of}
use Rattle.merge_order.specs.Edges.{AllFrom, IsEdge}
use Rattle.merge_order.specs.Merged.{Place, all_rows_at, is_row_at, items, mark_at, merged, rows_at, stamp_at, stamps_upto}
use Rattle.merge_order.proofs.Choices.{if_elim}
use Rattle.merge_order.proofs.Forms.{items-append, merged_edge}
use Rattle.merge_order.proofs.Taken.{rows_cons, rows_if, some_mark_at}
use Rattle.op_spec.specs.Limits.{max_join_rows}
use Rattle.op_spec.specs.Spec.{most_rows}
use Rattle.op_spec.specs.declared.spec.OpSpec.{OpSpec}
use Rattle.stream_ops.proofs.AnswerLaws.{length-answers, most_rows-few, most_rows-plain}
use Rattle.stream_ops.proofs.Counts.{rows_of-append}
use Rattle.stream_ops.specs.Answers.{IsOpen, answer, answers, end_answer, rows_of}
use Rattle.plan_reader.specs.PlanView.{IsJoinLast, IsPlan, IsStage, PlanView, is_joining}
use Rattle.plan_reader.specs.declared.stage.Stage.{Stage}
use Rattle.pair_machine.specs.Ingress.{last_stamp, mark_after, row_of_source, sent_by_ingress, sent_by_source, sent_from}
use Rattle.pair_machine.specs.Edges.{answered, edge_to, edges_to, goes_to, most_sent, passed, sent_by, sent_by_part, sent_by_stage, stamped}
use Rattle.pair_machine.proofs.Sending.{edges_to_edges, merged_part}
use Rattle.pair_machine.proofs.Stages.{HasPart, Send, ingress_marks, ingress_sends, send_edges, stage_sends, stages_have_parts}

-- how many rows are among these items
abbrev pub row_count : List Item → ℕ
row_count is = length (rows_of is)

-- and on all these lists
abbrev pub all_row_count : List (List Item) → ℕ
all_row_count [] = 0
all_row_count (e ∷ es) = row_count e + all_row_count es

row_count-append : (xs ys : List Item) → row_count (xs ++ ys) ≡ row_count xs + row_count ys
row_count-append xs ys = ap length (rows_of-append xs ys) ∙ length-append (rows_of xs) (rows_of ys)

abbrev place_count : List Place → ℕ
place_count ps = row_count (items ps)

place_count-append : (ps qs : List Place) → place_count (ps ++ qs) ≡ place_count ps + place_count qs
place_count-append ps qs = ap row_count (items-append ps qs) ∙ row_count-append (items ps) (items qs)

-- a merged list has no more rows than its edges ------------------------------------------

abbrev as_one : Bool → ℕ
as_one b = if b then 1 else 0

-- how many rows of a stamp an edge has
abbrev stamped_count : ℕ → List Item → ℕ
stamped_count n [] = 0
stamped_count n (i ∷ is) = as_one (is_row_at n i) + stamped_count n is

rows_count : (n q : ℕ) (e : List Item) → place_count (rows_at n q e) ≡ stamped_count n e
rows_count n q [] = refl
rows_count n q (item.Row s r ∷ e) = ap place_count (rows_cons n q (item.Row s r) e) ∙ go (s == n) (rows_count n q e)
  where
    go : (b : Bool) → place_count (rows_at n q e) ≡ stamped_count n e → place_count (rows_if n q b (item.Row s r) e) ≡ as_one b + stamped_count n e
    go true old = omega (arith, old)
    go false old = omega (arith, old)
rows_count n q (item.Mark s ∷ e) = omega (arith, rows_count n q e)
rows_count n q (item.End s ∷ e) = omega (arith, rows_count n q e)

abbrev all_stamped_count : ℕ → List (List Item) → ℕ
all_stamped_count n [] = 0
all_stamped_count n (e ∷ es) = stamped_count n e + all_stamped_count n es

all_rows_count : (n q : ℕ) (es : List (List Item)) → place_count (all_rows_at n q es) ≡ all_stamped_count n es
all_rows_count n q [] = refl
all_rows_count n q (e ∷ es) = omega (arith, place_count-append (rows_at n q e) (all_rows_at n (q + 1) es), rows_count n q e, all_rows_count n (q + 1) es)

-- the same for the stamps up to one
abbrev count_upto : ℕ → List Item → ℕ
count_upto zero e = 0
count_upto (suc n) e = count_upto n e + stamped_count (suc n) e

abbrev all_count_upto : ℕ → List (List Item) → ℕ
all_count_upto zero es = 0
all_count_upto (suc n) es = all_count_upto n es + all_stamped_count (suc n) es

mark_count : (n : ℕ) (es : List (List Item)) → place_count (mark_at n es) ≡ 0
mark_count n es = if_elim (λ ps. place_count ps ≡ 0) (some_mark_at n es) (record { source = None; item = item.Mark n } ∷ []) [] (λ e. refl) (λ e. refl)

stamps_count : (n : ℕ) (es : List (List Item)) → place_count (stamps_upto n es) ≡ all_count_upto n es
stamps_count zero es = refl
stamps_count (suc n) es =
    omega (
      arith,
      place_count-append (stamps_upto n es) (stamp_at (suc n) es),
      place_count-append (all_rows_at (suc n) 0 es) (mark_at (suc n) es),
      mark_count (suc n) es,
      all_rows_count (suc n) 0 es,
      stamps_count n es,
    )

none_upto : (n : ℕ) → all_count_upto n [] ≡ 0
none_upto zero = refl
none_upto (suc n) = omega (arith, none_upto n)

edge_by_edge : (n : ℕ) (e : List Item) (es : List (List Item)) → all_count_upto n (e ∷ es) ≡ count_upto n e + all_count_upto n es
edge_by_edge zero e es = refl
edge_by_edge (suc n) e es = omega (arith, edge_by_edge n e es)

empty_upto : (n : ℕ) → count_upto n [] ≡ 0
empty_upto zero = refl
empty_upto (suc n) = omega (arith, empty_upto n)

sign_upto : (n : ℕ) (i : Item) (e : List Item) → ((k : ℕ) → is_row_at k i ≡ false) → count_upto n (i ∷ e) ≡ count_upto n e
sign_upto zero i e sign = refl
sign_upto (suc n) i e sign = omega (arith, sign_upto n i e sign, ap as_one (sign (suc n)))

-- a count with one more row is at most one more, and the same where the row comes later
record CountedOnce (later : Type 0) (more less : ℕ) : Type 0 where
  before : later → more ≡ less
  most : more ≤ less + 1

row_upto : (n s : ℕ) (r : Row) (e : List Item) → CountedOnce (n < s) (count_upto n (item.Row s r ∷ e)) (count_upto n e)
row_upto zero s r e = record { before = λ l. refl; most = omega arith }
row_upto (suc n) s r e = go (s == suc n) (eqb-true s (suc n)) (row_upto n s r e)
  where
    go : (b : Bool) → (b ≡ true → s ≡ suc n) → CountedOnce (n < s) (count_upto n (item.Row s r ∷ e)) (count_upto n e)
        → CountedOnce (suc n < s) (count_upto n (item.Row s r ∷ e) + (as_one b + stamped_count (suc n) e)) (count_upto n e + stamped_count (suc n) e)
    go true is old = let same = is refl in record { before = λ l. absurd (omega arith); most = omega (arith, old.before (omega arith)) }
    go false is old = record { before = λ l. omega (arith, old.before (omega arith)); most = omega (arith, old.most) }

upto_most : (n : ℕ) (e : List Item) → count_upto n e ≤ row_count e
upto_most n [] = omega (arith, empty_upto n)
upto_most n (item.Row s r ∷ e) = let once = row_upto n s r e in omega (arith, once.most, upto_most n e)
upto_most n (item.Mark s ∷ e) = omega (arith, sign_upto n (item.Mark s) e (λ k. refl), upto_most n e)
upto_most n (item.End s ∷ e) = omega (arith, sign_upto n (item.End s) e (λ k. refl), upto_most n e)

all_upto_most : (n : ℕ) (es : List (List Item)) → all_count_upto n es ≤ all_row_count es
all_upto_most n [] = omega (arith, none_upto n)
all_upto_most n (e ∷ es) = omega (arith, edge_by_edge n e es, upto_most n e, all_upto_most n es)

pub merged_count : (last : ℕ) (es : List (List Item)) → row_count (items (merged last es)) ≤ all_row_count es
merged_count last es =
    omega (arith, place_count-append (stamps_upto last es) (record { source = None; item = item.End last } ∷ []), stamps_count last es, all_upto_most last es)

-- each row goes to one partition --------------------------------------------------------

abbrev part_count : Stage → List Item → ℕ → ℕ
part_count stage is q = row_count (filter (goes_to stage q) is)

-- how many rows go to the partitions from q on, n of them
abbrev parts_count : Stage → List Item → ℕ → ℕ → ℕ
parts_count stage is q zero = 0
parts_count stage is q (suc n) = part_count stage is q + parts_count stage is (q + 1) n

nothing_goes : (stage : Stage) (q n : ℕ) → parts_count stage [] q n ≡ 0
nothing_goes stage q zero = refl
nothing_goes stage q (suc n) = omega (arith, nothing_goes stage (q + 1) n)

sign_goes : (stage : Stage) (i : Item) (is : List Item) → ((q : ℕ) → part_count stage (i ∷ is) q ≡ part_count stage is q) → (q n : ℕ) → parts_count stage (i ∷ is) q n ≡ parts_count stage is q n
sign_goes stage i is sign q zero = refl
sign_goes stage i is sign q (suc n) = omega (arith, sign q, sign_goes stage i is sign (q + 1) n)

row_goes : (stage : Stage) (s : ℕ) (r : Row) (is : List Item) (q n : ℕ)
    → CountedOnce (route_of r stage.by stage.parts < q) (parts_count stage (item.Row s r ∷ is) q n) (parts_count stage is q n)
row_goes stage s r is q zero = record { before = λ l. refl; most = omega arith }
row_goes stage s r is q (suc n) = go (route_of r stage.by stage.parts == q) (eqb-true (route_of r stage.by stage.parts) q) (row_goes stage s r is (q + 1) n)
  where
    to : ℕ
    to = route_of r stage.by stage.parts

    go : (b : Bool) → (b ≡ true → to ≡ q) → CountedOnce (to < q + 1) (parts_count stage (item.Row s r ∷ is) (q + 1) n) (parts_count stage is (q + 1) n)
        → CountedOnce (to < q) (row_count (if b then item.Row s r ∷ filter (goes_to stage q) is else filter (goes_to stage q) is) + parts_count stage (item.Row s r ∷ is) (q + 1) n)
        (part_count stage is q + parts_count stage is (q + 1) n)
    go true is_here old = let same = is_here refl in record { before = λ l. absurd (omega arith); most = omega (arith, old.before (omega arith)) }
    go false is_here old = record { before = λ l. omega (arith, old.before (omega arith)); most = omega (arith, old.most) }

pub routed_count : (stage : Stage) (is : List Item) (q n : ℕ) → parts_count stage is q n ≤ row_count is
routed_count stage [] q n = omega (arith, nothing_goes stage q n)
routed_count stage (item.Row s r ∷ is) q n = let once = row_goes stage s r is q n in omega (arith, once.most, routed_count stage is q n)
routed_count stage (item.Mark s ∷ is) q n = omega (arith, sign_goes stage (item.Mark s) is (λ k. refl) q n, routed_count stage is q n)
routed_count stage (item.End s ∷ is) q n = omega (arith, sign_goes stage (item.End s) is (λ k. refl) q n, routed_count stage is q n)

-- an operator answers each row with at most so many ---------------------------------------

rows_of-stamped : (s : ℕ) (rows : List Row) (is : List Item) → rows_of (stamped s rows ++ is) ≡ rows ++ rows_of is
rows_of-stamped s [] is = refl
rows_of-stamped s (r ∷ rows) is = ap (λ x. r ∷ x) (rows_of-stamped s rows is)

rows_of-passed : (i : Item) (is : List Item) → rows_of (passed i ++ is) ≡ rows_of is
rows_of-passed (item.Row s r) is = refl
rows_of-passed (item.Mark s) is = refl
rows_of-passed (item.End s) is = refl

pub rows_of-answered : (op : OpSpec) (x is : List Item) → rows_of (answered op x is) ≡ answers op x is
rows_of-answered op x [] = refl
rows_of-answered op x (i ∷ is) =
    let rest = answered op (x ++ i ∷ []) is in
    ap rows_of (append_assoc (stamped (stamp_of i) (answer op x i)) (passed i) rest)
    ∙ (rows_of-stamped (stamp_of i) (answer op x i) (passed i ++ rest) ∙ ap (λ y. answer op x i ++ y) (rows_of-passed i rest ∙ rows_of-answered op (x ++ i ∷ []) is))

answers-append : (op : OpSpec) (x is js : List Item) → answers op x (is ++ js) ≡ answers op x is ++ answers op (x ++ is) js
answers-append op x [] js = ap (λ y. answers op y js) (sym (append-nil x))
answers-append op x (i ∷ is) js =
    ap (λ y. answer op x i ++ y) (answers-append op (x ++ i ∷ []) is js ∙ ap (λ y. answers op (x ++ i ∷ []) is ++ answers op y js) (append_assoc x (i ∷ []) is))
    ∙ sym (append_assoc (answer op x i) (answers op (x ++ i ∷ []) is) (answers op (x ++ i ∷ is) js))

-- an edge is what stands before its end, and the end
record Ended (last : ℕ) (is : List Item) : Type 0 where
  front : List Item
  unended : IsOpen front
  whole : is ≡ front ++ item.End last ∷ []

ended : (last : ℕ) (is : List Item) → IsEdge last is → Ended last is
ended last [] e = absurd e
ended last (item.Row s r ∷ is) e = let h = ended last is e.3 in record { front = item.Row s r ∷ h.front; unended = h.unended; whole = ap (λ x. item.Row s r ∷ x) h.whole }
ended last (item.Mark s ∷ is) e = let h = ended last is e.3 in record { front = item.Mark s ∷ h.front; unended = h.unended; whole = ap (λ x. item.Mark s ∷ x) h.whole }
ended last (item.End s ∷ is) e = record { front = []; unended = tt; whole = ap (λ k. item.End k ∷ is) e.1 ∙ ap (λ x. item.End last ∷ x) e.2 }

-- more rows are at most so many more
times_more : (m : ℕ) {a b : ℕ} → a ≤ b → m * a ≤ m * b
times_more zero l = omega arith
times_more (suc m) l = let more = times_more m l in omega arith

answers_most : (op : OpSpec) (front : List Item) (last : ℕ) → IsOpen front → length (answers op [] (front ++ item.End last ∷ [])) ≤ most_rows op * row_count (front ++ item.End last ∷ [])
answers_most op front last unended =
    let split : length (answers op [] (front ++ item.End last ∷ [])) ≡ length (answers op [] front) + length (end_answer op front) =
    ap length (answers-append op [] front (item.End last ∷ []) ∙ ap (λ x. answers op [] front ++ x) (append-nil (end_answer op front)))
    ∙ length-append (answers op [] front) (end_answer op front) in
    let most = length-answers op front unended in
    let same : row_count front ≤ row_count (front ++ item.End last ∷ []) = omega (arith, row_count-append front (item.End last ∷ [])) in
    let more = times_more (most_rows op) same in
    omega (arith, split, most, more)

pub answered_count : (op : OpSpec) (last : ℕ) (is : List Item) → IsEdge last is → row_count (answered op [] is) ≤ most_rows op * row_count is
answered_count op last is e =
    let h = ended last is e in
    let P : List Item → Type 0 = λ x. length (answers op [] x) ≤ most_rows op * row_count x in
    let most : length (answers op [] is) ≤ most_rows op * row_count is = subst P (sym h.whole) (answers_most op h.front last h.unended) in
    omega (arith, ap length (rows_of-answered op [] is), most)

-- from stage to stage ---------------------------------------------------------------------

part_sends_count : (last : ℕ) (carries : ℕ → Bool) (sent : List (List Item)) → Send last carries sent → (stage : Stage) (q : ℕ)
    → row_count (sent_by_part last sent stage q) ≤ most_rows stage.op * part_count stage (items (merged last sent)) q
part_sends_count last carries sent s stage q =
    let into = edges_to (Some stage) q sent in
    let edge_is = merged_edge last into (edges_to_edges (Some stage) q last sent (send_edges last carries sent s)) in
    omega (arith, answered_count stage.op last (items (merged last into)) edge_is, ap (λ is. most_rows stage.op * row_count is) (merged_part stage q last sent))

parts_send_count : (last : ℕ) (carries : ℕ → Bool) (sent : List (List Item)) → Send last carries sent → (stage : Stage) (q n : ℕ)
    → all_row_count (map (sent_by_part last sent stage) (range_with_len q n)) ≤ most_rows stage.op * parts_count stage (items (merged last sent)) q n
parts_send_count last carries sent s stage q zero = omega arith
parts_send_count last carries sent s stage q (suc n) = omega (arith, part_sends_count last carries sent s stage q, parts_send_count last carries sent s stage (q + 1) n)

stage_count : (last : ℕ) (carries : ℕ → Bool) (sent : List (List Item)) → Send last carries sent → (stage : Stage) → all_row_count (sent_by_stage last sent stage) ≤ most_rows stage.op * all_row_count sent
stage_count last carries sent s stage =
    let given : parts_count stage (items (merged last sent)) 0 stage.parts ≤ all_row_count sent = omega (arith, routed_count stage (items (merged last sent)) 0 stage.parts, merged_count last sent) in
    omega (arith, parts_send_count last carries sent s stage 0 stage.parts, times_more (most_rows stage.op) given)

stages_count : (last : ℕ) (carries : ℕ → Bool) (stages : List Stage) (sent : List (List Item)) → All HasPart stages → Send last carries sent
    → all_row_count (fold (sent_by_stage last) sent stages) ≤ most_sent stages * all_row_count sent
stages_count last carries [] sent parts s = omega arith
stages_count last carries (stage ∷ stages) sent parts s =
    let next = stage_sends last carries sent stage (All-head HasPart stage stages parts) s in
    let more = times_more (most_sent stages) (stage_count last carries sent s stage) in
    omega (arith, stages_count last carries stages (sent_by_stage last sent stage) (All-tail HasPart stage stages parts) next, more)

-- each input goes to one source
source_count : (q mark n : ℕ) (r : Input) (inputs : List Input) → row_count (sent_from q mark n (r ∷ inputs)) ≡ as_one (r.source == q) + row_count (sent_from q mark (n + 1) inputs)
source_count q mark n r inputs =
    let none : row_count (mark_after mark n) ≡ 0 = if_elim (λ is. row_count is ≡ 0) (n % mark == 0) (item.Mark n ∷ []) [] (λ e. refl) (λ e. refl) in
    omega (
      arith,
      row_count-append (row_of_source q n r) (mark_after mark n ++ sent_from q mark (n + 1) inputs),
      row_count-append (mark_after mark n) (sent_from q mark (n + 1) inputs),
      one (r.source == q),
      none,
    )
  where
    one : (b : Bool) → row_count (if b then item.Row n r.row ∷ [] else []) ≡ as_one b
    one true = refl
    one false = refl

-- how many rows the sources from q on send, so many of them
abbrev sources_count : (mark n : ℕ) → List Input → (q sources : ℕ) → ℕ
sources_count mark n inputs q zero = 0
sources_count mark n inputs q (suc sources) = row_count (sent_from q mark n inputs) + sources_count mark n inputs (q + 1) sources

no_inputs : (mark n q sources : ℕ) → sources_count mark n [] q sources ≡ 0
no_inputs mark n q zero = refl
no_inputs mark n q (suc sources) = omega (arith, no_inputs mark n (q + 1) sources)

one_source : (mark n : ℕ) (r : Input) (inputs : List Input) (q sources : ℕ)
    → CountedOnce (r.source < q) (sources_count mark n (r ∷ inputs) q sources) (sources_count mark (n + 1) inputs q sources)
one_source mark n r inputs q zero = record { before = λ l. refl; most = omega arith }
one_source mark n r inputs q (suc sources) = go (r.source == q) (eqb-true r.source q) (source_count q mark n r inputs) (one_source mark n r inputs (q + 1) sources)
  where
    go : (b : Bool) → (b ≡ true → r.source ≡ q) → row_count (sent_from q mark n (r ∷ inputs)) ≡ as_one b + row_count (sent_from q mark (n + 1) inputs)
        → CountedOnce (r.source < q + 1) (sources_count mark n (r ∷ inputs) (q + 1) sources) (sources_count mark (n + 1) inputs (q + 1) sources)
        → CountedOnce (r.source < q) (row_count (sent_from q mark n (r ∷ inputs)) + sources_count mark n (r ∷ inputs) (q + 1) sources)
        (row_count (sent_from q mark (n + 1) inputs) + sources_count mark (n + 1) inputs (q + 1) sources)
    go true is_here count old = let same = is_here refl in record { before = λ l. absurd (omega arith); most = omega (arith, count, old.before (omega arith)) }
    go false is_here count old = record { before = λ l. omega (arith, count, old.before (omega arith)); most = omega (arith, count, old.most) }

inputs_count : (mark n : ℕ) (inputs : List Input) (q sources : ℕ) → sources_count mark n inputs q sources ≤ length inputs
inputs_count mark n [] q sources = omega (arith, no_inputs mark n q sources)
inputs_count mark n (r ∷ inputs) q sources = let once = one_source mark n r inputs q sources in omega (arith, once.most, inputs_count mark (n + 1) inputs q sources)

ingress_count : (plan : PlanView) (inputs : List Input) (q sources : ℕ) → all_row_count (map (sent_by_source plan inputs) (range_with_len q sources)) ≡ sources_count plan.mark 1 inputs q sources
ingress_count plan inputs q zero = refl
ingress_count plan inputs q (suc sources) = omega (arith, ingress_count plan inputs (q + 1) sources)

-- a stage sends at most so many rows for each input
pub sent_count : (plan : PlanView) (inputs : List Input) → IsPlan plan → (s : ℕ) → all_row_count (sent_by plan inputs s) ≤ most_sent (take s plan.stages) * length inputs
sent_count plan inputs p s =
    let given : all_row_count (sent_by_ingress plan inputs) ≤ length inputs = omega (arith, ingress_count plan inputs 0 plan.version, inputs_count plan.mark 1 inputs 0 plan.version) in
    omega (
      arith,
      stages_count (last_stamp inputs) (ingress_marks plan inputs) (take s plan.stages) (sent_by_ingress plan inputs) (All-take HasPart s plan.stages (stages_have_parts plan p)) (ingress_sends plan inputs p),
      times_more (most_sent (take s plan.stages)) given,
    )

-- how many that are -----------------------------------------------------------------------

plain_stages : (stages : List Stage) → All (λ s. is_joining s ≡ false) stages → most_sent stages ≡ 1
plain_stages [] plain = refl
plain_stages (stage ∷ stages) plain =
    let P : Stage → Type 0 = λ s. is_joining s ≡ false in
    omega (arith, ap (λ m. m * most_sent stages) (most_rows-plain stage.op (All-head P stage stages plain)), plain_stages stages (All-tail P stage stages plain))

-- the stages before the last one send at most a row for each
pub before_last : (stages : List Stage) (s : ℕ) → IsJoinLast stages → s < length stages → most_sent (take s stages) ≡ 1
before_last stages s last l =
    let P : Stage → Type 0 = λ s. is_joining s ≡ false in
    let front : take s (take (length stages - 1) stages) ≡ take s stages = take-take s (length stages - 1) stages (omega arith) in
    plain_stages (take s stages) (subst (All P) front (All-take P s (take (length stages - 1) stages) last))

few_of : (stages : List Stage) (k : ℕ) → length stages ≤ k + 1 → All (λ s. is_joining s ≡ false) (take k stages) → All IsStage stages → most_sent stages ≤ max_join_rows
few_of [] k l plain limits = omega arith
few_of (stage ∷ []) zero l plain limits = let few = most_rows-few stage.op (All-head IsStage stage [] limits).op in omega (arith, few.1)
few_of (stage ∷ next ∷ stages) zero l plain limits = absurd (omega arith)
few_of (stage ∷ stages) (suc k) l plain limits =
    let P : Stage → Type 0 = λ s. is_joining s ≡ false in
    omega (arith, ap (λ m. m * most_sent stages) (most_rows-plain stage.op (All-head P stage (take k stages) plain)), few_of stages k (omega arith) (All-tail P stage (take k stages) plain) (All-tail IsStage stage stages limits))

pub few_sent : (plan : PlanView) (s : ℕ) → IsPlan plan → most_sent (take s plan.stages) ≤ max_join_rows
few_sent plan s p = by (cases_lt s (length plan.stages))
  where
    by : (s < length plan.stages) ⊎ (length plan.stages ≤ s) → most_sent (take s plan.stages) ≤ max_join_rows
    by (inl l) = omega (arith, before_last plan.stages s p.join_last l)
    by (inr l) = subst (λ stages. most_sent stages ≤ max_join_rows) (sym (take_all s plan.stages l)) (few_of plan.stages (length plan.stages - 1) (omega arith) p.join_last p.stages)

-- the length of an edge -----------------------------------------------------------------------

signs_from : (last k : ℕ) (e : List Item) → k ≤ last → IsEdge last e → AllFrom (k + 1) e → length e + k ≤ row_count e + last
signs_from last k [] l e f = absurd e
signs_from last k (item.Row s r ∷ is) l e f = omega (arith, signs_from last k is l e.3 f.1)
signs_from last k (item.Mark s ∷ is) l e f = omega (arith, signs_from last s is e.1 e.3 e.2, f.0)
signs_from last k (item.End s ∷ is) l e f = omega (arith, ap length e.2, f.0, e.1)

pub from_one : (last : ℕ) (e : List Item) → IsEdge last e → AllFrom 1 e
from_one last [] e = absurd e
from_one last (item.Row s r ∷ is) e = (e.0, from_one last is e.3)
from_one last (item.Mark s ∷ is) e = (e.0, from_one last is e.3)
from_one last (item.End s ∷ is) e = (e.0, subst (AllFrom 1) (sym e.2) tt)

-- an edge has its rows, and at most one sign for each stamp
pub edge_length : (last : ℕ) (e : List Item) → IsEdge last e → length e ≤ row_count e + last
edge_length last e is = omega (arith, signs_from last 0 e (omega arith) is (from_one last e is))

filter_count : (p : Item → Bool) (is : List Item) → row_count (filter p is) ≤ row_count is
filter_count p [] = omega arith
filter_count p (item.Row s r ∷ is) = if_elim (λ x. row_count x ≤ row_count (item.Row s r ∷ is)) (p (item.Row s r)) (item.Row s r ∷ filter p is) (filter p is) (λ e. omega (arith, filter_count p is)) (λ e. omega (arith, filter_count p is))
filter_count p (item.Mark s ∷ is) = if_elim (λ x. row_count x ≤ row_count is) (p (item.Mark s)) (item.Mark s ∷ filter p is) (filter p is) (λ e. omega (arith, filter_count p is)) (λ e. omega (arith, filter_count p is))
filter_count p (item.End s ∷ is) = if_elim (λ x. row_count x ≤ row_count is) (p (item.End s)) (item.End s ∷ filter p is) (filter p is) (λ e. omega (arith, filter_count p is)) (λ e. omega (arith, filter_count p is))

pub edge_to_count : (stage : Option Stage) (t : ℕ) (is : List Item) → row_count (edge_to stage t is) ≤ row_count is
edge_to_count None t is = omega arith
edge_to_count (Some stage) t is = filter_count (goes_to stage t) is

pub count_at : (es : List (List Item)) (q : ℕ) → row_count (get_or es q []) ≤ all_row_count es
count_at [] q = omega arith
count_at (e ∷ es) zero = omega arith
count_at (e ∷ es) (suc q) = omega (arith, count_at es q)

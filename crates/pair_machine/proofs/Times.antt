-- The times of rows stay within their limits on every edge.
use Rattle.std.proofs.Common.{ℕ, zero, suc, List, [], ◌∷◌, ◌++◌, ◌+◌, Option, None, Some, get_or, map, take}
use Rattle.std.specs.Prelude.{All, filter, fold, ◌%◌, ◌==◌}
use Rattle.std.specs.List.{range_with_len}
use Rattle.std.proofs.lemmas.List.Elements.{All-append, All-cons, All-filter, All-head, All-map, All-nil, All-tail, All-take, All-weaker}
use Rattle.tuple_edge.specs.Input.{Input}
use Rattle.tuple_edge.specs.declared.item.Item.{Item}
use Rattle.tuple_edge.specs.declared.item.Item.TheVariants as item
use Rattle.tuple_edge.specs.declared.row.Row.{Row}
use Rattle.tuple_edge.specs.Item.{stamp_of}
use Rattle.merge_order.specs.Merged.{Place, all_rows_at, is_row_at, items, mark_at, merged, rows_at, stamp_at, stamps_upto}
use Rattle.merge_order.proofs.Choices.{if_elim}
use Rattle.merge_order.proofs.Taken.{place, some_mark_at}
use Rattle.op_spec.specs.Spec.{IsSpec}
use Rattle.op_spec.specs.Times.{IsTimely}
use Rattle.op_spec.specs.declared.spec.OpSpec.{OpSpec}
use Rattle.stream_ops.proofs.AnswerLaws.{IsTimelyRow, answer_timely}
use Rattle.stream_ops.specs.Answers.{answer}
use Rattle.plan_reader.specs.PlanView.{IsPlan, IsStage, PlanView}
use Rattle.plan_reader.specs.declared.stage.Stage.{Stage}
use Rattle.pair_machine.specs.Ingress.{last_stamp, mark_after, row_of_source, sent_by_ingress, sent_by_source, sent_from}
use Rattle.pair_machine.specs.Edges.{answered, edge_to, edges_to, goes_to, passed, sent_by, sent_by_part, sent_by_stage, stamped}

-- the items of each list are timely
abbrev pub AreTimely : List (List Item) → Type 0
AreTimely [] = Unit {0}
AreTimely (e ∷ es) = All IsTimely e × AreTimely es

-- the rows are timely where ingress sends them -----------------------------------------

sign_timely : (i : Item) → IsTimely i → All IsTimely (i ∷ [])
sign_timely i h = All-cons IsTimely i [] h (All-nil IsTimely)

-- an input's row is timely
abbrev pub IsTimelyInput : Input → Type 0
IsTimelyInput input = IsTimelyRow input.row

source_timely : (q mark n : ℕ) (inputs : List Input) → All IsTimelyInput inputs → All IsTimely (sent_from q mark n inputs)
source_timely q mark n [] t = sign_timely (item.End n) tt
source_timely q mark n (r ∷ inputs) t =
    All-append IsTimely (row_of_source q n r) (mark_after mark n ++ sent_from q mark (n + 1) inputs)
    (if_elim (All IsTimely) (r.source == q) (item.Row n r.row ∷ []) [] (λ e. sign_timely (item.Row n r.row) (All-head IsTimelyInput r inputs t)) (λ e. All-nil IsTimely))
    (All-append IsTimely (mark_after mark n) (sent_from q mark (n + 1) inputs)
    (if_elim (All IsTimely) (n % mark == 0) (item.Mark n ∷ []) [] (λ e. sign_timely (item.Mark n) tt) (λ e. All-nil IsTimely))
    (source_timely q mark (n + 1) inputs (All-tail IsTimelyInput r inputs t)))

sources_timely : (plan : PlanView) (inputs : List Input) → All IsTimelyInput inputs → (a n : ℕ) → AreTimely (map (sent_by_source plan inputs) (range_with_len a n))
sources_timely plan inputs t a zero = tt
sources_timely plan inputs t a (suc n) = (source_timely a plan.mark 1 inputs t, sources_timely plan inputs t (a + 1) n)

-- in a merged list ----------------------------------------------------------------------

abbrev TimelyPlace : Place → Type 0
TimelyPlace p = IsTimely p.item

all_rows_timely : (n q : ℕ) (es : List (List Item)) → AreTimely es → All TimelyPlace (all_rows_at n q es)
all_rows_timely n q [] t = All-nil TimelyPlace
all_rows_timely n q (e ∷ es) t =
    All-append TimelyPlace (rows_at n q e) (all_rows_at n (q + 1) es)
    (All-map TimelyPlace (λ i. place q i) (filter (is_row_at n) e) (All-filter (is_row_at n) IsTimely e t.0)) (all_rows_timely n (q + 1) es t.1)

mark_timely : (n : ℕ) (es : List (List Item)) → All TimelyPlace (mark_at n es)
mark_timely n es =
    if_elim (All TimelyPlace) (some_mark_at n es) (record { source = None; item = item.Mark n } ∷ []) []
    (λ e. All-cons TimelyPlace (record { source = None; item = item.Mark n }) [] tt (All-nil TimelyPlace)) (λ e. All-nil TimelyPlace)

stamps_timely : (n : ℕ) (es : List (List Item)) → AreTimely es → All TimelyPlace (stamps_upto n es)
stamps_timely zero es t = All-nil TimelyPlace
stamps_timely (suc n) es t =
    All-append TimelyPlace (stamps_upto n es) (stamp_at (suc n) es) (stamps_timely n es t)
    (All-append TimelyPlace (all_rows_at (suc n) 0 es) (mark_at (suc n) es) (all_rows_timely (suc n) 0 es t) (mark_timely (suc n) es))

-- the items merged of timely ones are timely
pub merged_timely : (last : ℕ) (es : List (List Item)) → AreTimely es → All IsTimely (items (merged last es))
merged_timely last es t =
    let end : Place = record { source = None; item = item.End last } in
    All-map IsTimely (λ p. p.item) (merged last es)
    (All-append TimelyPlace (stamps_upto last es) (end ∷ []) (stamps_timely last es t) (All-cons TimelyPlace end [] tt (All-nil TimelyPlace)))

-- from stage to stage ---------------------------------------------------------------------

pub edge_to_timely : (stage : Option Stage) (t : ℕ) (is : List Item) → All IsTimely is → All IsTimely (edge_to stage t is)
edge_to_timely None t is h = h
edge_to_timely (Some stage) t is h = All-filter (goes_to stage t) IsTimely is h

pub edges_to_timely : (stage : Option Stage) (t : ℕ) (es : List (List Item)) → AreTimely es → AreTimely (edges_to stage t es)
edges_to_timely stage t [] h = tt
edges_to_timely stage t (e ∷ es) h = (edge_to_timely stage t e h.0, edges_to_timely stage t es h.1)

stamped_timely : (s : ℕ) (rows : List Row) → All IsTimelyRow rows → All IsTimely (stamped s rows)
stamped_timely s rows h = All-map IsTimely (item.Row s) rows h

passed_timely : (i : Item) → All IsTimely (passed i)
passed_timely (item.Row s r) = All-nil IsTimely
passed_timely (item.Mark s) = sign_timely (item.Mark s) tt
passed_timely (item.End s) = sign_timely (item.End s) tt

pub answered_timely : (op : OpSpec) → IsSpec op → (x is : List Item) → All IsTimely x → All IsTimely is → All IsTimely (answered op x is)
answered_timely op spec x [] before here = All-nil IsTimely
answered_timely op spec x (i ∷ is) before here =
    let first = All-head IsTimely i is here in
    let s = stamp_of i in
    All-append IsTimely (stamped s (answer op x i) ++ passed i) (answered op (x ++ i ∷ []) is)
    (All-append IsTimely (stamped s (answer op x i)) (passed i) (stamped_timely s (answer op x i) (answer_timely op x i spec before first)) (passed_timely i))
    (answered_timely op spec (x ++ i ∷ []) is (All-append IsTimely x (i ∷ []) before (sign_timely i first)) (All-tail IsTimely i is here))

part_timely : (last : ℕ) (sent : List (List Item)) (stage : Stage) (q : ℕ) → IsSpec stage.op → AreTimely sent → All IsTimely (sent_by_part last sent stage q)
part_timely last sent stage q spec t =
    answered_timely stage.op spec [] (items (merged last (edges_to (Some stage) q sent))) (All-nil IsTimely) (merged_timely last (edges_to (Some stage) q sent) (edges_to_timely (Some stage) q sent t))

parts_timely : (last : ℕ) (sent : List (List Item)) (stage : Stage) → IsSpec stage.op → AreTimely sent → (a n : ℕ) → AreTimely (map (sent_by_part last sent stage) (range_with_len a n))
parts_timely last sent stage spec t a zero = tt
parts_timely last sent stage spec t a (suc n) = (part_timely last sent stage a spec t, parts_timely last sent stage spec t (a + 1) n)

-- the settings of a stage's operator are within their limits
abbrev pub HasSpec : Stage → Type 0
HasSpec stage = IsSpec stage.op

stages_timely : (last : ℕ) (stages : List Stage) (sent : List (List Item)) → All HasSpec stages → AreTimely sent → AreTimely (fold (sent_by_stage last) sent stages)
stages_timely last [] sent specs t = t
stages_timely last (stage ∷ stages) sent specs t =
    stages_timely last stages (sent_by_stage last sent stage) (All-tail HasSpec stage stages specs) (parts_timely last sent stage (All-head HasSpec stage stages specs) t 0 stage.parts)

pub stages_have_specs : (plan : PlanView) → IsPlan plan → All HasSpec plan.stages
stages_have_specs plan p = All-weaker IsStage HasSpec (λ stage s. s.op) plan.stages p.stages

pub sent_timely : (plan : PlanView) (inputs : List Input) → IsPlan plan → All IsTimelyInput inputs → (s : ℕ) → AreTimely (sent_by plan inputs s)
sent_timely plan inputs p t s =
    stages_timely (last_stamp inputs) (take s plan.stages) (sent_by_ingress plan inputs) (All-take HasSpec s plan.stages (stages_have_specs plan p)) (sources_timely plan inputs t 0 plan.version)

pub timely_at : (es : List (List Item)) → AreTimely es → (q : ℕ) → All IsTimely (get_or es q [])
timely_at [] t q = All-nil IsTimely
timely_at (e ∷ es) t zero = t.0
timely_at (e ∷ es) t (suc q) = timely_at es t.1 q

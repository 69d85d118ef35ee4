-- Pieces of work one after another, and makes, as the loops over them do them: one more at the end, and an end that lacked memory.
use Rattle.std.proofs.Common.{◌≡◌, ◌∙◌, ◌≤◌, ◌+◌, ◌*◌, ◌++◌, ◌∷◌, [], ℕ, zero, suc, List, Ok, Err, length, drop, take, refl, ap, subst, sym, arith, add-one, append-nil, append_assoc}
use Rattle.std.specs.Prelude.{◌↔◌, replicate}
use Rattle.std.proofs.lemmas.List.{drop-append-le, length-append, length-drop, take-append-le, take_all}
use mathlib.Core.List.{IsPrefix}
use Rattle.tuple_edge.specs.Input.{Input}
use Rattle.tuple_edge.specs.Limits.{most_packets}
use Rattle.tuple_edge.specs.declared.event.Worked.TheVariants.{Did, Idle}
use Rattle.tuple_edge.specs.declared.memory.OutOfMemory.{OutOfMemory}
use Rattle.tuple_edge.specs.declared.node.NodeId.{NodeId}
use Rattle.tuple_edge.specs.declared.packet.Body.{Body}
use Rattle.tuple_edge.specs.declared.row.Row.{Row}
use Rattle.plan_reader.specs.PlanView.{PlanView}
use Rattle.pair_machine.specs.Numbers.{Node}
use Rattle.pair_machine.specs.Receivers.{appended}
use Rattle.node_tasks.specs.Steps.{DoesMake, DoesTask, StepByStep, pieces}
use Rattle.node_tasks.specs.declared.task.Task.{Task}
use Rattle.node_tasks.specs.declared.task.Task.TheVariants as task
use Rattle.plan_nodes.specs.States.{Admits, HasDone, HasMade, HasWorkedOnce, IsOfPlan, StandsFor, WantsRows, gone_of, id_of, packets_of_work, rows_of}
use Rattle.plan_nodes.specs.declared.state.NodeState.{NodeState}

-- ---- one more

-- one step more
step_more : {A G : Type 0} (Step : A → A → G → Type 0) (old mid new : A) (gs : List G) (g : G) → StepByStep Step old mid gs → Step mid new g → StepByStep Step old new (gs ++ g ∷ [])
step_more Step old mid new [] g steps step = (new, subst (λ s. Step s new g) steps step, refl)
step_more Step old mid new (x ∷ gs) g steps step = (steps.0, steps.1, step_more Step steps.0 mid new gs g steps.2 step)

-- the packets of one step more
pieces_more : {X : Type 0} (count each : ℕ) (xs ys : List X) → length xs ≡ count * each → length ys ≡ each → pieces (suc count) each (xs ++ ys) ≡ pieces count each xs ++ ys ∷ []
pieces_more zero each [] ys whole one = ap (λ l. l ∷ []) (take_all each ys (omega (arith, one)))
pieces_more zero each (x ∷ xs) ys whole one = let none : 0 * each ≡ 0 = omega arith in let some : suc (length xs) ≡ 0 = whole ∙ none in absurd (omega (arith, some))
pieces_more (suc count) each xs ys whole one =
    let split : suc count * each ≡ each + count * each = omega arith in
    let enough : each ≤ length xs = omega (arith, whole, split) in
    let left : length (drop each xs) ≡ count * each = length-drop each xs ∙ omega (arith, whole, split) in
    (λ i. take-append-le each xs ys enough i ∷ pieces (suc count) each (drop-append-le each xs ys enough i)) ∙ ap (λ l. take each xs ∷ l) (pieces_more count each (drop each xs) ys left one)

-- a node does a task
abbrev Does : Task → NodeState → NodeState → List (NodeId × Body) → Type 0
Does = DoesTask id_of IsOfPlan StandsFor

-- what may be the inputs is the same over two ends of what stays
pub both_ways : (Old Mid New : List Input → Type 0) → ((inputs : List Input) → Mid inputs ↔ Old inputs) → ((inputs : List Input) → New inputs ↔ Mid inputs) → (inputs : List Input) → New inputs ↔ Old inputs
both_ways Old Mid New before after inputs = (λ may. (before inputs).0 ((after inputs).0 may), λ may. (after inputs).1 ((before inputs).1 may))

-- A node did so many pieces of work, each of which sent so many of these packets.
pub record HasRun (old new : NodeState) (count each : ℕ) (packets : List (NodeId × Body)) : Type 0 where
  pub steps : StepByStep (Does task.Work) old new (pieces count each packets)
  pub many : length packets ≡ count * each
  pub few : length packets ≤ most_packets
  pub id : id_of new ≡ id_of old
  pub of_plan : (plan : PlanView) → IsOfPlan plan old → IsOfPlan plan new
  pub rows : IsPrefix (rows_of old) (rows_of new)
  pub gone : gone_of new ≡ gone_of old
  pub came : (inputs : List Input) → Admits new inputs ↔ Admits old inputs

prefix_on : (xs ys zs : List Row) → IsPrefix xs ys → IsPrefix ys zs → IsPrefix xs zs
prefix_on xs ys zs front more = (front.0 ++ more.0, sym (append_assoc xs front.0 more.0) ∙ ap (λ l. l ++ more.0) front.1 ∙ more.1)

-- none was done yet
pub run_begins : (old : NodeState) (each : ℕ) (packets : List (NodeId × Body)) → packets ≡ [] → HasRun old old 0 each packets
run_begins old each packets none =
    let empty : length packets ≡ 0 = ap length none in
    record {
      steps = refl;
      many = omega (arith, empty);
      few = omega (arith, empty);
      id = refl;
      of_plan = λ plan of. of;
      rows = ([], append-nil (rows_of old));
      gone = refl;
      came = λ inputs. (λ may. may, λ may. may);
    }

does_task : (t : Task) (old new : NodeState) (packets : List (NodeId × Body)) → HasDone old new t (Ok Did) packets → Does t old new packets
does_task t old new packets done = let act = done.acted in record { here = act.here refl; step = act.step refl; linked = act.linked refl; same = act.id; planned = act.of_plan }

pub run_more : (old mid new : NodeState) (count each : ℕ) (before after : List (NodeId × Body)) → HasRun old mid count each before → packets_of_work mid ≡ each → length before + each ≤ most_packets
    → HasWorkedOnce mid new (Ok Did) before after → HasRun old new (count + 1) each after
run_more old mid new count each before after run many fits work =
    let sent = appended before after in
    let one : length sent ≡ each = work.as_many refl ∙ many in
    let all : length after ≡ length before + length sent = ap length work.packets ∙ length-append before sent in
    let cut : pieces (suc count) each (before ++ sent) ≡ pieces count each before ++ sent ∷ [] = pieces_more count each before sent run.many one in
    let next : suc count ≡ count + 1 = omega arith in
    let split : (count + 1) * each ≡ each + count * each = omega arith in
    let whole : length before ≡ count * each = run.many in
    record {
      steps = subst (λ n. StepByStep (Does task.Work) old new (pieces n each after)) next
          (subst (λ l. StepByStep (Does task.Work) old new (pieces (suc count) each l)) (sym work.packets)
          (subst (StepByStep (Does task.Work) old new) (sym cut) (step_more (Does task.Work) old mid new (pieces count each before) sent run.steps (does_task task.Work mid new sent work.done))));
      many = omega (arith, whole, one, all, split);
      few = omega (arith, fits, one, all);
      id = work.done.acted.id ∙ run.id;
      of_plan = λ plan of. work.done.acted.of_plan plan (run.of_plan plan of);
      rows = prefix_on (rows_of old) (rows_of mid) (rows_of new) run.rows work.done.acted.rows;
      gone = work.done.acted.gone ∙ run.gone;
      came = both_ways (Admits old) (Admits mid) (Admits new) run.came work.done.acted.inputs;
    }

-- ---- an end

-- there was nothing to do
pub run_idle : (old mid new : NodeState) (count each : ℕ) (before after : List (NodeId × Body)) → HasRun old mid count each before → HasWorkedOnce mid new (Ok Idle) before after → HasRun old new count each after
run_idle old mid new count each before after run work =
    let quiet : after ≡ before = work.packets ∙ ap (λ l. before ++ l) (work.done.acted.idle refl).1 ∙ append-nil before in
    subst (HasRun old new count each) (sym quiet) (subst (λ s. HasRun old s count each before) (sym (work.done.acted.idle refl).0) run)

-- what stands for the same numbers as the end of a task may take its place
ends_in : (t : Task) (old mid new : NodeState) (packets : List (NodeId × Body)) → Does t old mid packets
    → id_of new ≡ id_of mid → ((plan : PlanView) → IsOfPlan plan mid → IsOfPlan plan new) → ((plan : PlanView) (inputs : List Input) (x : Node) → StandsFor plan inputs mid x → StandsFor plan inputs new x)
    → Does t old new packets
ends_in t old mid new packets does same planned still = record {
  here = does.here;
  step = λ plan inputs is timely clock a act x here asks.
      let s = does.step plan inputs is timely clock a act x here asks in (s.0, s.1, still plan inputs s.0.0 s.2, s.3);
  linked = does.linked;
  same = same ∙ does.same;
  planned = λ plan of. planned plan (does.planned plan of);
}

-- what may take the place of the end of a step may take that of the last of several
last_ends_in : {A G : Type 0} (Step : A → A → G → Type 0) (mid new : A) → ((old : A) (g : G) → Step old mid g → Step old new g)
    → (g : G) (gs : List G) (old : A) → StepByStep Step old mid (g ∷ gs) → StepByStep Step old new (g ∷ gs)
last_ends_in Step mid new ends g [] old steps = (new, ends old g (subst (λ s. Step old s g) (sym steps.2) steps.1), refl)
last_ends_in Step mid new ends g (h ∷ gs) old steps = (steps.0, steps.1, last_ends_in Step mid new ends h gs steps.0 steps.2)

-- memory lacked for one more
pub run_failed : (old mid new : NodeState) (e : OutOfMemory) (count each : ℕ) (before after : List (NodeId × Body)) → HasRun old mid count each before → 1 ≤ count → HasWorkedOnce mid new (Err e) before after
    → HasRun old new count each after
run_failed old mid new e zero each before after run some work = absurd (omega (arith, some))
run_failed old mid new e (suc count) each before after run some work =
    let quiet : after ≡ before = work.packets ∙ ap (λ l. before ++ l) work.done.acted.unsent ∙ append-nil before in
    subst (HasRun old new (suc count) each) (sym quiet) (record {
      steps = last_ends_in (Does task.Work) mid new (λ first packets does. ends_in task.Work first mid new packets does work.done.acted.id work.done.acted.of_plan work.done.acted.unchanged)
          (take each before) (pieces count each (drop each before)) old run.steps;
      many = run.many;
      few = run.few;
      id = work.done.acted.id ∙ run.id;
      of_plan = λ plan of. work.done.acted.of_plan plan (run.of_plan plan of);
      rows = prefix_on (rows_of old) (rows_of mid) (rows_of new) run.rows work.done.acted.rows;
      gone = work.done.acted.gone ∙ run.gone;
      came = both_ways (Admits old) (Admits mid) (Admits new) run.came work.done.acted.inputs;
    })

-- ---- makes

-- a make of a node that wants rows under a plan
abbrev Makes : PlanView → NodeState → NodeState → List (NodeId × Body) → Type 0
Makes plan = DoesMake id_of IsOfPlan StandsFor (WantsRows plan)

replicate-more : (count : ℕ) → ◌≡◌ {A = List (List (NodeId × Body))} (replicate (count + 1) []) (replicate count [] ++ [] ∷ [])
replicate-more count = ap (λ n. replicate n []) (add-one count) ∙ once_more count
  where
    once_more : (n : ℕ) → ◌≡◌ {A = List (List (NodeId × Body))} (replicate (suc n) []) (replicate n [] ++ [] ∷ [])
    once_more zero = refl
    once_more (suc n) = ap (λ l. [] ∷ l) (once_more n)

-- one more
pub make_more : (plan : PlanView) (old mid new : NodeState) (count : ℕ) → HasMade plan old mid count → WantsRows plan mid → HasDone mid new task.Make (Ok Did) [] → HasMade plan old new (count + 1)
make_more plan old mid new count made wants act =
    subst (StepByStep (Makes plan) old new) (sym (replicate-more count))
    (step_more (Makes plan) old mid new (replicate count []) [] made (record { wanted = wants; does = does_task task.Make mid new [] act }))

-- memory lacked for one more
pub make_failed : (plan : PlanView) (old mid new : NodeState) (e : OutOfMemory) (count : ℕ) → HasMade plan old mid count → 1 ≤ count → HasDone mid new task.Make (Err e) [] → HasMade plan old new count
make_failed plan old mid new e zero made some act = absurd (omega (arith, some))
make_failed plan old mid new e (suc count) made some act =
    last_ends_in (Makes plan) mid new (λ first packets make. record { wanted = make.wanted; does = ends_in task.Make first mid new packets make.does act.acted.id act.acted.of_plan act.acted.unchanged })
    [] (replicate count []) old made

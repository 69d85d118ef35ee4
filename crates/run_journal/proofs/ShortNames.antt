-- What a plan has, has a short name.
use Rattle.std.proofs.Common.{ℕ, zero, suc, ◌≡◌, ◌<◌, ◌≤◌, ◌&&◌, true, List, [], ◌∷◌, ◌++◌, length, map, get_or, arith}
use Rattle.std.specs.Prelude.{All, nat_le, nat_lt}
use Rattle.std.proofs.lemmas.Bool.Decides.{nat_tests}
use Rattle.std.proofs.lemmas.List.Elements.{All-append, All-cons, All-head, All-map, All-nil, All-tail, All-weaker}
use Rattle.tuple_edge.specs.declared.event.Event.{Event}
use Rattle.tuple_edge.specs.declared.event.Event.TheVariants as event
use Rattle.tuple_edge.specs.declared.node.NodeId.{NodeId}
use Rattle.tuple_edge.specs.declared.node.NodeId.TheVariants as node
use Rattle.text_words.proofs.LineFacts.{both_true}
use Rattle.plan_reader.specs.Nodes.{carries_any, carries_items, has_node, has_pair, is_replica, parts_of}
use Rattle.plan_reader.specs.PlanView.{IsPlan, IsStage, PlanView, partitions}
use Rattle.plan_reader.specs.declared.stage.Stage.{Stage}
use Rattle.plan_reader.specs.Nodes.{has_replica}
use Rattle.run_journal.specs.Limits.{max_index}
use Rattle.run_journal.specs.Text.{IsNamed}
use Rattle.run_journal.proofs.NamesBack.{IsShortName}

abbrev pub IsFew : ℕ → Type 0
IsFew n = n ≤ 8

few_at : (xs : List ℕ) (k : ℕ) → All IsFew xs → get_or xs k 0 ≤ 8
few_at [] k all = omega arith
few_at (x ∷ xs) zero all = All-head IsFew x xs all
few_at (x ∷ xs) (suc k) all = few_at xs k (All-tail IsFew x xs all)

few_parts : (plan : PlanView) (stage : ℕ) → IsPlan plan → parts_of plan stage ≤ 8
few_parts plan stage within =
    let parts : All IsFew (map (λ (s : Stage). s.parts) plan.stages) = All-map IsFew (λ (s : Stage). s.parts) plan.stages (All-weaker IsStage (λ s. IsFew s.parts) (λ s h. h.few) plan.stages within.stages) in
    let sources : plan.version ≤ 8 = omega (arith, within.version_high) in
    few_at (partitions plan.version plan.stages) stage
    (All-cons IsFew plan.version (map (λ (s : Stage). s.parts) plan.stages ++ 1 ∷ []) sources
    (All-append IsFew (map (λ (s : Stage). s.parts) plan.stages) (1 ∷ []) parts (All-cons IsFew 1 [] (omega arith) (All-nil IsFew))))

short_pair : (plan : PlanView) (stage part : ℕ) → IsPlan plan → has_pair plan stage part ≡ true → (stage < 10) × (part < 10)
short_pair plan stage part within there =
    let (stages, inside) = both_true (nat_le 1 stage && nat_le stage (length plan.stages)) (nat_lt part (parts_of plan stage)) there in
    let (low, high) = both_true (nat_le 1 stage) (nat_le stage (length plan.stages)) stages in
    let few = few_parts plan stage within in
    let many = within.few in
    (grind (arith, nat_tests), grind (arith, nat_tests))

pub short_node : (plan : PlanView) (n : NodeId) → IsPlan plan → has_node plan n ≡ true → IsShortName n
short_node plan node.Ingress within there = tt
short_node plan (node.Replica stage part which) within there = short_pair plan stage part within there
short_node plan (node.Control stage part) within there = short_pair plan stage part within there
short_node plan node.Egress within there = tt

-- an event with short names and a number that may be read
abbrev pub IsShortEvent : Event → Type 0
IsShortEvent (event.Take link index) = IsShortName link.from × IsShortName link.to × (index ≤ max_index)
IsShortEvent (event.Work n) = IsShortName n
IsShortEvent event.Make = Unit {0}
IsShortEvent (event.Kill n) = IsShortName n
IsShortEvent (event.AskStop n) = IsShortName n
IsShortEvent (event.AskBack n) = IsShortName n
IsShortEvent (event.Pull from to) = IsShortName from × IsShortName to

short_replica : (plan : PlanView) (n : NodeId) → IsPlan plan → has_replica plan n ≡ true → IsShortName n
short_replica plan n within there =
    let (kind, is_there) = both_true (is_replica n) (has_node plan n) there in
    short_node plan n within is_there

pub short_event : (plan : PlanView) (e : Event) → IsPlan plan → IsNamed plan e → IsShortEvent e
short_event plan (event.Take link index) within named =
    let (ends, carries) = both_true (has_node plan link.from && has_node plan link.to) (carries_any plan link.from link.to) named.0 in
    let (from, to) = both_true (has_node plan link.from) (has_node plan link.to) ends in
    (short_node plan link.from within from, short_node plan link.to within to, named.1)
short_event plan (event.Work n) within named = short_node plan n within named
short_event plan event.Make within named = tt
short_event plan (event.Kill n) within named = short_replica plan n within named
short_event plan (event.AskStop n) within named = short_replica plan n within named
short_event plan (event.AskBack n) within named = short_replica plan n within named
short_event plan (event.Pull from to) within named =
    let (ends, carries) = both_true (has_node plan from && has_node plan to) (carries_items plan from to) named in
    let (first, second) = both_true (has_node plan from) (has_node plan to) ends in
    (short_node plan from within first, short_node plan to within second)

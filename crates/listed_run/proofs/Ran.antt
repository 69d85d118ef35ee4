-- What a run leaves, with its histories as lists, is what its drain begins with; and the one list of all histories is that of their logs.
use Rattle.std.proofs.Common.{◌≡◌, ◌∙◌, Bool, true, false, List, [], ◌∷◌, map, refl, ap, inl, inr}
use Rattle.std.specs.Prelude.{if◌then◌else◌}
use Rattle.tuple_edge.specs.Input.{Input}
use Rattle.tuple_edge.specs.declared.event.History.{History}
use Rattle.tuple_edge.specs.declared.event.Stamped.{Stamped}
use Rattle.tuple_edge.specs.declared.node.NodeId.{NodeId}
use Rattle.event_log.specs.Views.{named_histories}
use Rattle.plan_reader.specs.PlanView.{PlanView}
use Rattle.pair_machine.specs.Joint.{AreDistinct, history_of, log_by_clocks, logged_events, put_history}
use Rattle.pair_machine.specs.Lists.{Among, Each}
use Rattle.pair_machine.specs.Numbers.{is_node}
use Rattle.pair_machine.specs.declared.order.Order.{Order}
use Rattle.pair_machine.proofs.Names.{is_node-true, node_self}
use Rattle.run_journal.specs.Logs.{AreMergeable, log_of_histories, nodes_of}
use Rattle.journal_writer.specs.Merged.{Named, merged, merged_events}
use Rattle.partition_runner.specs.Ran.{IsLegalRun}
use Rattle.partition_runner.specs.declared.ran.Ran as ran
use Rattle.partition_runner.proofs.Kept.{course_kept}
use Rattle.drained_run.proofs.Joined as joined
use Rattle.drained_run.proofs.Joined.{IsLegalRan}

-- ---- histories of nodes that differ

skip : (h : History) (all : List History) (n : NodeId) → (h.node ≡ n → ⊥) → history_of (h ∷ all) n ≡ history_of all n
skip h all n other = go (is_node h.node n) refl
  where
    go : (b : Bool) → is_node h.node n ≡ b → (if b then h.entries.items else history_of all n) ≡ history_of all n
    go true e = absurd (other (is_node-true h.node n e))
    go false e = refl

later : (h : History) (all hs : List History) → (Among h.node (nodes_of hs) → ⊥) → Each (λ (k : History). history_of all k.node ≡ k.entries.items) hs
    → Each (λ (k : History). history_of (h ∷ all) k.node ≡ k.entries.items) hs
later h all [] never old = tt
later h all (k ∷ hs) never old = (skip h all k.node (λ e. never (inl e)) ∙ old.0, later h all hs (λ a. never (inr a)) old.1)

each_found : (hs : List History) → AreDistinct (nodes_of hs) → Each (λ (h : History). history_of hs h.node ≡ h.entries.items) hs
each_found [] distinct = tt
each_found (h ∷ hs) distinct = (
  ap (λ b. if b then h.entries.items else history_of hs h.node) (node_self h.node),
  later h hs hs distinct.0 (each_found hs distinct.1),
)

merged_by : (history : NodeId → List Stamped) (hs : List History) → Each (λ (h : History). history h.node ≡ h.entries.items) hs
    → log_by_clocks history (nodes_of hs) ≡ merged (named_histories hs)
merged_by history [] all = refl
merged_by history (h ∷ hs) all =
    ap (λ ss. put_history h.node ss (log_by_clocks history (nodes_of hs))) all.0 ∙ ap (put_history h.node h.entries.items) (merged_by history hs all.1)

-- the one list is that of their logs
pub same_events : (hs : List History) → AreDistinct (nodes_of hs) → logged_events (log_of_histories hs) ≡ merged_events (named_histories hs)
same_events hs distinct = ap logged_events (merged_by (history_of hs) hs (each_found hs distinct))

-- ---- what is left

-- the nodes, and the histories with their names
abbrev pub ran_of : ran.Ran → joined.Ran
ran_of r = record { nodes = r.nodes.items; logs = named_histories r.histories.items }

named_same : (hs : List History) → map {B = NodeId × List Stamped} (λ (l : Named). (l.0, l.1)) (named_histories hs) ≡ map {B = NodeId × List Stamped} (λ (h : History). (h.node, h.entries.items)) hs
named_same [] = refl
named_same (h ∷ hs) = ap (λ ls. (h.node, h.entries.items) ∷ ls) (named_same hs)

pub legal_ran : (plan : PlanView) (inputs : List Input) (script : List Order) (r : ran.Ran) → IsLegalRun plan inputs script r → IsLegalRan plan inputs script (ran_of r)
legal_ran plan inputs script r run =
    course_kept (λ (l : Named). l.0) (λ (l : Named). l.1) (λ (h : History). h.node) (λ (h : History). h.entries.items) plan inputs script r.nodes.items (named_histories r.histories.items) r.histories.items
    (named_same r.histories.items) run.course

pub mergeable : (plan : PlanView) (inputs : List Input) (script : List Order) (r : ran.Ran) → IsLegalRun plan inputs script r → AreMergeable r.histories.items
mergeable plan inputs script r run = record { distinct = run.course.distinct; rising = run.course.rising }

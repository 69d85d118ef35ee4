-- Merged logs are a log of all nodes: in the order of clocks, with each log whole.
use Rattle.std.proofs.Common.{◌≡◌, ◌∙◌, Bool, true, false, List, [], ◌∷◌, map, refl, sym, ap, inl, inr, subst}
use Rattle.std.specs.Prelude.{if◌then◌else◌}
use Rattle.tuple_edge.specs.declared.event.Stamped.{Stamped}
use Rattle.tuple_edge.specs.declared.node.NodeId.{NodeId}
use Rattle.pair_machine.specs.Joint.{AreDistinct, AreRising, IsLog, log_by_clocks, put_history}
use Rattle.pair_machine.specs.Lists.{Among, Each}
use Rattle.pair_machine.specs.Numbers.{is_node}
use Rattle.pair_machine.proofs.Logs.{logs_there}
use Rattle.pair_machine.proofs.Names.{is_node-true, node_self}
use Rattle.journal_writer.specs.Merged.{Named, merged}
use Rattle.partition_runner.specs.Ran.{history_among}

abbrev pub nodes_in : List Named → List NodeId
nodes_in logs = map (λ (l : Named). l.0) logs

-- the history of a node among these
abbrev pub history_in : List Named → NodeId → List Stamped
history_in logs = history_among (λ (l : Named). l.0) (λ (l : Named). l.1) logs

all_rise : (ls : List Named) → Each (λ (l : Named). AreRising l.1) ls → (n : NodeId) → AreRising (history_in ls n)
all_rise [] rising n = tt
all_rise (l ∷ ls) rising n = go (is_node l.0 n) (all_rise ls rising.1 n)
  where
    go : (b : Bool) → AreRising (history_in ls n) → AreRising (if b then l.1 else history_in ls n)
    go true others = rising.0
    go false others = others

skip : (l : Named) (ls : List Named) (n : NodeId) → (l.0 ≡ n → ⊥) → history_in (l ∷ ls) n ≡ history_in ls n
skip l ls n other = go (is_node l.0 n) refl
  where
    go : (b : Bool) → is_node l.0 n ≡ b → (if b then l.1 else history_in ls n) ≡ history_in ls n
    go true e = absurd (other (is_node-true l.0 n e))
    go false e = refl

none_else : (ls : List Named) (n : NodeId) → (Among n (nodes_in ls) → ⊥) → history_in ls n ≡ []
none_else [] n never = refl
none_else (l ∷ ls) n never = skip l ls n (λ e. never (inl (sym e))) ∙ none_else ls n (λ a. never (inr a))

-- ---- merged one after another

later : (l : Named) (all ls : List Named) → (Among l.0 (nodes_in ls) → ⊥) → Each (λ (k : Named). history_in all k.0 ≡ k.1) ls
    → Each (λ (k : Named). history_in (l ∷ all) k.0 ≡ k.1) ls
later l all [] never old = tt
later l all (k ∷ ls) never old = (skip l all k.0 (λ e. never (inl e)) ∙ old.0, later l all ls (λ a. never (inr a)) old.1)

each_found : (ls : List Named) → AreDistinct (nodes_in ls) → Each (λ (l : Named). history_in ls l.0 ≡ l.1) ls
each_found [] distinct = tt
each_found (l ∷ ls) distinct = (
  ap (λ b. if b then l.1 else history_in ls l.0) (node_self l.0),
  later l ls ls distinct.0 (each_found ls distinct.1),
)

merged_by : (history : NodeId → List Stamped) (ls : List Named) → Each (λ (l : Named). history l.0 ≡ l.1) ls → log_by_clocks history (nodes_in ls) ≡ merged ls
merged_by history [] all = refl
merged_by history (l ∷ ls) all =
    ap (λ ss. put_history l.0 ss (log_by_clocks history (nodes_in ls))) all.0 ∙ ap (put_history l.0 l.1) (merged_by history ls all.1)

pub is_log : (ls : List Named) → AreDistinct (nodes_in ls) → Each (λ (l : Named). AreRising l.1) ls → IsLog (history_in ls) (merged ls)
is_log ls distinct rising = subst (IsLog (history_in ls)) (merged_by (history_in ls) ls (each_found ls distinct))
    (logs_there (nodes_in ls) (history_in ls) (record { distinct = distinct; rising = all_rise ls rising; others = none_else ls }))

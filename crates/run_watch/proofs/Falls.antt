-- Where replicas last fell, in a map.
use Rattle.std.proofs.Common.{◌≡◌, ◌∙◌, Bool, true, false, Some, cond, if◌then◌else◌, refl, sym, ap, unwrap_or}
use Rattle.std.specs.BTreeMap.{BTreeMap, get, is_at}
use Rattle.tuple_edge.specs.Node.{node_cmp}
use Rattle.tuple_edge.specs.declared.node.NodeId.{NodeId}
use Rattle.pair_machine.specs.Numbers.{is_node}
use Rattle.flux_core.proofs.Names.{same_name}
use Rattle.run_watch.specs.Happenings.{no_fall}
use Rattle.run_watch.specs.TraceView.{fall_in}
use Rattle.run_watch.specs.Watching.{fell_at}
use Rattle.run_watch.specs.declared.trace.Fall.{Fall}

pub fall_noted : (m n : BTreeMap NodeId Fall) (at : NodeId) (fall : Fall) → ((q : NodeId) → get node_cmp n q ≡ cond (is_at (node_cmp at) q) (Some fall) (get node_cmp m q)) → fall_in n ≡ fell_at fall at (fall_in m)
fall_noted m n at fall updates = λ j q. here q j
  where
    go : (q : NodeId) (b : Bool) → unwrap_or (cond b (Some fall) (get node_cmp m q)) no_fall ≡ (if b then fall else fall_in m q)
    go q true = refl
    go q false = refl

    here : (q : NodeId) → fall_in n q ≡ fell_at fall at (fall_in m) q
    here q = ap (λ o. unwrap_or o no_fall) (updates q ∙ ap (λ b. cond b (Some fall) (get node_cmp m q)) (sym (same_name at q))) ∙ go q (is_node at q)

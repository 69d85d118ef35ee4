-- What clauses say of a trace: what was told so far, at which event each replica last fell and how, and how many events there were.
use Rattle.std.specs.Prelude.{ℕ, List, unwrap_or}
use Rattle.std.specs.BTreeMap.{BTreeMap, get}
use Rattle.tuple_edge.specs.Node.{node_cmp}
use Rattle.tuple_edge.specs.declared.node.NodeId.{NodeId}
use Rattle.run_watch.specs.Happenings.{no_fall}
use Rattle.run_watch.specs.declared.happening.Told.{Told}
use Rattle.run_watch.specs.declared.trace.Fall.{Fall}
use Rattle.run_watch.specs.declared.trace.Trace.{Trace}

-- what was told, where and how each replica fell last, and the place of the last event
pub record TraceView : Type 0 where
  pub told : List Told
  pub falls : NodeId → Fall
  pub place : ℕ

-- the fall that a map has for a node; where it has none, the node never fell
abbrev pub fall_in : BTreeMap NodeId Fall → NodeId → Fall
fall_in map n = unwrap_or (get node_cmp map n) no_fall

-- a trace, as its clauses are said
abbrev pub view_of : Trace → TraceView
view_of t = record { told = t.told.items; falls = fall_in t.falls; place = t.place }

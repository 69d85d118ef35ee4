-- Partitions and keys, as their order tells them apart.
use Rattle.std.proofs.Common.{rules, ◌≡◌, ℕ}
use Rattle.std.specs.Prelude.{◌&&◌, ◌==◌}
use Rattle.std.specs.Cmp.Rules.{comparing}
use Rattle.std.specs.BTreeMap.{is_at}
use Rattle.tuple_edge.specs.declared.row.Key.{Key}
use Rattle.op_spec.specs.Keys.{is_key}
use Rattle.cause_finder.specs.Trails.{spot_cmp}
use Rattle.cause_finder.specs.declared.trails.Spot.{Spot}

pub same_spot : (s : Spot) (q : ℕ) (k : Key) → is_at (spot_cmp s) (record { part = q; key = k }) ≡ ((s.part == q) && is_key s.key k)
same_spot s q k = search (comparing, rules)

use Rattle.std.proofs.Common.{◌≡◌, ◌≤◌, take}
use Rattle.std.specs.Prelude.{count_by}
use Rattle.trade_text.specs.TradesView.{inputs_in}
use Rattle.origin_text.specs.Files.{is_of}
use Rattle.origin_text.proofs.files.came_before.Given as goal

abbrev pub invariant-loop-i : goal.invariant-loop-i
invariant-loop-i l = record {
  count : l.count ≡ count_by (is_of l.source l.like.time) (take l.i (inputs_in l.inputs));
  few : l.count ≤ l.i;
}

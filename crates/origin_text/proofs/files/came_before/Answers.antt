use Rattle.std.proofs.Common.{◌≡◌, ◌<◌, ◌+◌, ◌∙◌, ℕ, ap, arith, cond, get_or, length, pos, sym}
use Rattle.std.proofs.lemmas.Option.{slice_get-get_or}
use Rattle.tuple_edge.specs.Input.{Input}
use Rattle.tuple_edge.specs.declared.row.Row.{Row}
use Rattle.trade_text.specs.TradesView.{inputs_in}
use Rattle.trade_text.proofs.Sources.{rows_paired}
use Rattle.std.proofs.lemmas.List.{length-map}
use Rattle.origin_text.specs.Files.{is_of}
use Rattle.origin_text.proofs.Counting.{count_more, of_some}
use Rattle.origin_text.proofs.files.came_before.Goals as goal

abbrev none : Input
none = let row : Row = record { time = pos 0; account = pos 0; symbol = pos 0; qty = pos 0; value = pos 0 } in record { source = 0; row = row }

pub loop-i-preserved : goal.loop-i-preserved
loop-i-preserved c =
    let inputs = inputs_in c.args.inputs.now in
    let p = is_of c.args.source c.args.like.now.time in
    let i = c.loop-i.i in
    let had = c.loop-i.invariant in
    let many : length inputs ≡ length c.args.inputs.now.rows = sym (length-map inputs (λ (x : Input). x.row)) ∙ ap length (rows_paired c.args.inputs.now.rows c.args.inputs.now.sources) in
    let within : i < length inputs = omega (arith, c.loop-i-test.true, c.requires, many) in
    let is : c.is_of.result ≡ p (get_or inputs i none) = c.is_of.ensures ∙ ap p (of_some c.input.result (get_or inputs i none) (sym c.input.ensures ∙ slice_get-get_or inputs i none within)) in
    let now : c.counted-count.result ≡ cond c.is_of.result (c.loop-i.count + 1) c.loop-i.count = c.counted-count.ensures in
    record {
      count = now ∙ (ap (λ (n : ℕ). cond c.is_of.result (n + 1) n) had.count ∙ count_more p inputs i none c.is_of.result within is);
      few = grind (arith, now, had.few);
    }

use Rattle.std.proofs.Common.{◌≡◌, ◌++◌, ℕ, Bool, true, false, List, [], length, drop, sym, subst}
use Rattle.std.specs.Prelude.{if◌then◌else◌}
use Rattle.flux_outside.specs.Told.{SinkTold}
use Rattle.trade_text.specs.Text.{count_line}
use Rattle.tuple_edge.specs.declared.row.Row.{Row}
use Rattle.row_wire.specs.Lines.{lines_of}
use Rattle.row_wire.specs.Written.{WritesOn}
use Rattle.row_wire.specs.declared.written.Written.{Written}
use Rattle.row_wire.proofs.Writings.{writes_both, writes_empty}
use Rattle.row_wire.proofs.writing.write_rest.Goals as goal

rest_is : (before after : SinkTold) (was is : Written) (symbols : List (List ℕ)) (rows rest : List Row) (first : ℕ) (some whole : Bool) → rest ≡ drop first rows → whole ≡ some
    → WritesOn before after was (lines_of symbols rest ++ (if some then count_line (length rows) else [])) is
    → WritesOn before after was (lines_of symbols (drop first rows) ++ (if whole then count_line (length rows) else [])) is
rest_is before after was is symbols rows rest first some whole r w on =
    subst (λ (b : Bool). WritesOn before after was (lines_of symbols (drop first rows) ++ (if b then count_line (length rows) else [])) is) (sym w)
    (subst (λ (l : List Row). WritesOn before after was (lines_of symbols l ++ (if some then count_line (length rows) else [])) is) r on)

pub returns-then-whole : goal.returns-then-whole
returns-then-whole g c =
    rest_is (g.W.Wire.told c.args.wire.now) (g.W.Wire.told c.write_count.new.wire)
    c.args.written c.write_count.result c.args.trades.now.symbols c.args.rows.now c.split_at.result.1.now c.args.first true c.args.whole c.split_at.ensures.back c.if-whole.true
    (writes_both _ _ _ _ _ _ _ _ c.write_lines-lines.ensures c.write_count.ensures)

pub returns-else-whole : goal.returns-else-whole
returns-else-whole g c =
    rest_is (g.W.Wire.told c.args.wire.now) (g.W.Wire.told c.write_lines-lines.new.wire)
    c.args.written c.write_lines-lines.result c.args.trades.now.symbols c.args.rows.now c.split_at.result.1.now c.args.first false c.args.whole c.split_at.ensures.back c.if-whole.false
    (writes_empty _ _ _ _ _ c.write_lines-lines.ensures)

use Rattle.std.proofs.Common.{refl, sym, subst, List, [], ◌∙◌}
use Rattle.trade_text.specs.Text.{part_text}
use Rattle.tuple_edge.specs.declared.row.Row.{Row}
use Rattle.row_wire.specs.Written.{IsWritten}
use Rattle.row_wire.proofs.Writings.{nothing_yet}
use Rattle.row_wire.proofs.writing.write_received.Goals as goal

pub loop-init : goal.loop-init
loop-init g c = record {
  written = subst (λ (rows : List Row). IsWritten (g.W.Wire.told c.args.wire.now) (g.W.Wire.told c.write_names-written.new.wire)
      (part_text c.args.trades.now.symbols rows) c.write_names-written.result) (sym c.requires) (c.write_names-written.ensures _ [] (nothing_yet _));
  channel = refl;
}

pub returns-then-not-write_next-clause-written : goal.returns-then-not-write_next-clause-written
returns-then-not-write_next-clause-written g c = c.write_next.ensures.written _ c.loop.invariant.written

pub loop-preserved : goal.loop-preserved
loop-preserved g c = record { written = c.write_next.ensures.written _ c.loop.invariant.written; channel = c.write_next.ensures.channel ∙ c.loop.invariant.channel }

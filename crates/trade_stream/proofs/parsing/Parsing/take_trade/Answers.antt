use Rattle.std.proofs.Common.{◌+◌, ap, ◌∙◌}
use Rattle.trade_text.specs.Records.{records_left}
use Rattle.trade_text.specs.Streams.{behind_row, told_from, told_next}
use Rattle.trade_stream.proofs.Growing.{row_grows}
use Rattle.trade_stream.proofs.Pushing.{from_by_trade}
use Rattle.trade_stream.proofs.parsing.Parsing.take_trade.Goals as goal

pub returns-in-Ok-clause-told : goal.returns-in-Ok-clause-told
returns-in-Ok-clause-told c = λ s text between.
    rw (c.begin_record.ensures.number, c.begin_record.ensures.form)
    (ap (told_next (λ form. told_from (c.args.self.now.number + 1) form (records_left s text)) c.args.self.now.form.symbols) c.in-Ok.ensures.reads
    ∙ ap (behind_row c.in-Ok.row) (from_by_trade s text (c.args.self.now.number + 1) c.row.new.self between))

pub returns-in-Ok-clause-grows : goal.returns-in-Ok-clause-grows
returns-in-Ok-clause-grows c = rw c.begin_record.ensures.form (row_grows c.args.self.now.number c.args.self.now.form _ c.in-Ok.row c.row.new.self c.in-Ok.ensures.reads)

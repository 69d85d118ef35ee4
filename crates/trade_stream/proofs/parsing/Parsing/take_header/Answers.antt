use Rattle.std.proofs.Common.{[], ap, sym, ◌∙◌}
use Rattle.trade_text.specs.Records.{records_left}
use Rattle.trade_text.specs.Streams.{told_under}
use Rattle.trade_stream.proofs.Pushing.{from_by_trade}
use Rattle.trade_stream.proofs.parsing.Parsing.take_header.Goals as goal

pub returns-clause-told : goal.returns-clause-told
returns-clause-told c = λ s text between.
    rw (c.begin_record.ensures.number, c.begin_record.ensures.form, c.new-symbols.ensures)
    (ap (told_under (records_left s text)) (sym c.in-Ok.ensures) ∙ from_by_trade s text 2 (record { columns = c.in-Ok.columns; symbols = [] }) between)

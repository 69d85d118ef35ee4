use Rattle.trade_text.proofs.FirstRows.{first_rows_begin}
use Rattle.trade_text.proofs.law.first_rows_begin_the_text.Goals as goal

pub returns : goal.returns
returns c = first_rows_begin

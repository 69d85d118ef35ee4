use Rattle.std.proofs.Common.{append_assoc, arith, rules}
use Rattle.std.proofs.lemmas.List.{drop_all}
use Rattle.trade_text.proofs.text.write_line.Goals as goal

pub returns-clause-written : goal.returns-clause-written
returns-clause-written g c =
    rw (c.write_pair.ensures.written, c.write_byte-after_account.ensures.written, c.write_text-symbol.ensures.written, c.symbol.ensures.symbol, c.write_byte-after_symbol.ensures.written, c.write_pair-qty.ensures.written, c.write_byte-after_value.ensures.written, drop_all 117 c.args.bytes.now (omega arith))
    (simp append_assoc (search rules))

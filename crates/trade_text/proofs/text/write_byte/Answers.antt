use Rattle.std.proofs.Common.{◌≡◌, ◌+◌, ◌-◌, arith}
use Rattle.std.proofs.lemmas.List.{drop-set}
use Rattle.trade_text.proofs.text.write_byte.Goals as goal

pub returns-clause-written : goal.returns-clause-written
returns-clause-written c =
    let e : c.args.end - 1 + 1 ≡ c.args.end = omega arith in
    rw (drop-set c.args.bytes.now (c.args.end - 1) c.args.byte (omega arith), e)

use Rattle.std.proofs.Common.{◌≡◌, true, false, rules, sym}
use Rattle.trade_text.specs.Records.{starts_with_mark}
use Rattle.trade_text.proofs.Marks.{marked-long, strip_bom-marked, strip_bom-plain}
use Rattle.trade_text.proofs.stream_bytes.mark_bytes.Goals as goal

pub returns-then-starts_with_mark-clause-drops : goal.returns-then-starts_with_mark-clause-drops
returns-then-starts_with_mark-clause-drops c =
    let marked : starts_with_mark c.args.front.now ≡ true = search rules in
    sym (strip_bom-marked c.args.front.now marked)

pub returns-then-starts_with_mark-clause-within : goal.returns-then-starts_with_mark-clause-within
returns-then-starts_with_mark-clause-within c =
    let marked : starts_with_mark c.args.front.now ≡ true = search rules in
    marked-long c.args.front.now marked

pub returns-else-starts_with_mark-clause-drops : goal.returns-else-starts_with_mark-clause-drops
returns-else-starts_with_mark-clause-drops c =
    let plain : starts_with_mark c.args.front.now ≡ false = search rules in
    sym (strip_bom-plain c.args.front.now plain)

use Rattle.std.proofs.Common.{rules, ◌≡◌, ◌∙◌, sym, ap}
use Rattle.journal_writer.specs.declared.lines.Start.{Start}
use Rattle.journal_writer.proofs.Places.{is_from}
use Rattle.journal_writer.proofs.lines.place_of.Goals as goal

pub returns-then-eq-2 : goal.returns-then-eq-2
returns-then-eq-2 c =
    let same : c.index-starts-place.result.sender ≡ c.args.sender = search rules in
    is_from c.args.starts.now c.loop-place.place c.index-starts-place.result c.args.sender c.loop-place-test.true (ap (λ (s : Start). s.sender) (sym c.index-starts-place.is) ∙ same)

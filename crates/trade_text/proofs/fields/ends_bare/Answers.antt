use Rattle.trade_text.proofs.Trims.{above_blanks, trim_end-stop}
use Rattle.trade_text.proofs.fields.ends_bare.Goals as goal

pub returns-in-Some : goal.returns-in-Some
returns-in-Some c = λ above. trim_end-stop c.args.text.now _ c.in-Some.last.now c.in-Some.ensures.cases.0 (above_blanks c.in-Some.last.now above)

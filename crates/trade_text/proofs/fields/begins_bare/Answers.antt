use Rattle.trade_text.proofs.Trims.{above_blanks, drop_blanks-stop}
use Rattle.trade_text.proofs.fields.begins_bare.Goals as goal

pub returns-in-Some : goal.returns-in-Some
returns-in-Some c = λ above. drop_blanks-stop c.args.text.now c.in-Some.first.now _ c.in-Some.ensures.cases.0 (above_blanks c.in-Some.first.now above)

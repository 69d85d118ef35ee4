use Rattle.std.proofs.Common.{◌∙◌, ap, sym}
use Rattle.std.proofs.lemmas.Bool.{false≢true}
use Rattle.look_command.specs.Trying.{named_of, tried_of}
use Rattle.look_command.specs.Check.{given_of, judged}
use Rattle.look_command.proofs.Judged.{faults_told, judged_sound, ok_answer, refused_plan, sound_of}
use Rattle.look_command.proofs.faults.judged.Goals as goal

pub returns-then-has_fault : goal.returns-then-has_fault
returns-then-has_fault c =
    ok_answer c.faulty.result _ _ (faults_told c.args.json (tried_of c.args.said.plan) (given_of c.args.said) (sym c.has_fault.ensures ∙ c.if-has_fault.true)) c.faulty.ensures

pub returns-in-Ok : goal.returns-in-Ok
returns-in-Ok c =
    ok_answer c.sound.result _ _
    (sound_of c.args.json c.in-Ok.plan _ _ _ _ _ _ c.taken-trades.ensures c.accepted-cash.ensures c.accepted-script.ensures
    ∙ judged_sound c.args.json c.in-Ok.plan (given_of c.args.said) (sym c.has_fault.ensures ∙ c.if-has_fault.false)
    ∙ ap (λ r. judged c.args.json (tried_of r) (given_of c.args.said)) (sym c.in-Ok.is))
    c.sound.ensures

pub returns : goal.returns
returns c =
    let whole = refused_plan (tried_of c.args.said.plan) _ (named_of c.args.said.trades) (named_of c.args.said.cash) (named_of c.args.said.script) (ap tried_of c.in-Err.is) in
    absurd (false≢true (sym c.if-has_fault.false ∙ c.has_fault.ensures ∙ whole))

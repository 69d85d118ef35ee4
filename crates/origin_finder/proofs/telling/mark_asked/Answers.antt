use Rattle.std.proofs.Common.{◌≡◌, ◌<◌, ◌∙◌, ◌∷◌, [], List, ap, arith, cond, drop, length, sym}
use Rattle.std.proofs.lemmas.List.{drop_all}
use Rattle.std.proofs.lemmas.Option.{slice_get-get_or}
use Rattle.row_cause.specs.Causes.{Cause}
use Rattle.row_origin.specs.Marks.{Roles, asked_from, with_causes}
use Rattle.cause_finder.proofs.CausesFound.{there}
use Rattle.origin_finder.proofs.Passed.{told_one}
use Rattle.origin_finder.proofs.Saying.{caused_at, caused_many}
use Rattle.origin_finder.proofs.telling.mark_asked.Goals as goal

pub loop-n-preserved : goal.loop-n-preserved
loop-n-preserved c = record {
  reached = c.in_ok-mark_if.ensures.reached;
  roles = λ causes h.
      let stage = c.args.stage.now in
      let rows = c.args.rows.now in
      let said = c.args.said.now in
      let asked = c.args.asked.now in
      let n = c.loop-n.n in
      let within : n < length causes = omega (arith, caused_many stage rows said causes h, c.loop-n-test.true) in
      let at = there causes n within in
      let old : Roles = c.loop-n.roles in
      let new : Roles = c.mark_if.new.roles in
      let gave : new ≡ cond c.is_marked-is_asked.result (with_causes stage.op (at.0 ∷ []) old) old =
      c.in_ok-mark_if.ensures.roles at.0 (caused_at stage rows said causes n _ at.0 h (slice_get-get_or said n _ c.loop-n-test.true) at.1) in
      told_one stage.op n asked causes n at.0 c.args.roles.now old new (asked_from 0 asked causes) c.is_marked-is_asked.result at.2 c.is_marked-is_asked.ensures gave (c.loop-n.invariant.roles causes h);
}

pub returns : goal.returns
returns c causes h =
    let n = c.loop-n.n in
    let all : drop n causes ≡ [] = drop_all n causes (omega (arith, caused_many c.args.stage.now c.args.rows.now c.args.said.now causes h, c.loop-n-test.false)) in
    sym (c.loop-n.invariant.roles causes h ∙ ap (λ (cs : List Cause). with_causes c.args.stage.now.op (asked_from n c.args.asked.now cs) c.loop-n.roles) all)

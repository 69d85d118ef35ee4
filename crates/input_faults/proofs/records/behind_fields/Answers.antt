use Rattle.std.proofs.Common.{◌≡◌, ◌∙◌, ◌+◌, ◌-◌, ◌<◌, ℕ, sym, ap, arith}
use Rattle.input_faults.specs.Records.{behind_fields, left_of}
use Rattle.input_faults.proofs.ScanFacts.{behind_fields-more, behind_fields-none}
use Rattle.input_faults.proofs.records.behind_fields.Goals as goal

pub loop-turn-preserved : goal.loop-turn-preserved
loop-turn-preserved c =
    let l = c.loop-turn in
    let n : ℕ = c.args.fields - l._turn in
    let some : 0 < n = omega (arith, c.loop-turn-test.true) in
    ap (λ (k : ℕ). behind_fields k (left_of c.behind_field-next.result.0 c.behind_field-next.result.1.now)) (let e : c.args.fields - (l._turn + 1) ≡ n - 1 = omega arith in e)
    ∙ ap (behind_fields (n - 1)) c.behind_field-next.ensures
    ∙ sym (behind_fields-more n (left_of l.state l.rest.now) some)
    ∙ l.invariant

pub returns : goal.returns
returns c =
    let l = c.loop-turn in
    let done : c.args.fields - l._turn ≡ 0 = omega (arith, c.loop-turn-test.false) in
    sym (behind_fields-none (left_of l.state l.rest.now)) ∙ ap (λ (k : ℕ). behind_fields k (left_of l.state l.rest.now)) (sym done) ∙ l.invariant

use Rattle.std.proofs.Common.{◌≡◌, ◌∙◌, ◌-◌, ℕ, sym, ap, arith}
use Rattle.input_faults.specs.Spots.{start_of}
use Rattle.input_faults.proofs.SpotFacts.{start_none}
use Rattle.input_faults.proofs.spot.start_of.Goals as goal

pub returns-clause-value : goal.returns-clause-value
returns-clause-value c =
    let l = c.loop-turn in
    let done : c.args.before - l._turn ≡ 0 = omega (arith, c.loop-turn-test.false) in
    let here : start_of (c.args.before - l._turn) l.rest.now ≡ c.blanks_len.result =
    ap (λ (k : ℕ). start_of k l.rest.now) done ∙ start_none l.rest.now ∙ sym c.blanks_len.ensures.value in
    omega (arith, here, l.invariant.start)

use Rattle.std.proofs.Common.{◌≡◌, ◌∙◌, ◌-◌, ℕ, drop, sym, ap, arith}
use Rattle.text_words.specs.Lines.{lines_of}
use Rattle.input_faults.proofs.SpotFacts.{at_front, past_end}
use Rattle.input_faults.proofs.lines.line_of.Goals as goal

pub returns-in-None : goal.returns-in-None
returns-in-None c =
    past_end (lines_of c.args.bytes.now) (c.loop-turn._turn - 1) (c.args.number - 1) (sym c.loop-turn.invariant.lines ∙ c.in-None.ensures.value) c.loop-turn.invariant.within

pub returns-in-None-first_line : goal.returns-in-None-first_line
returns-in-None-first_line c =
    past_end (lines_of c.args.bytes.now) (c.loop-turn._turn - 1) (c.args.number - 1) (sym c.loop-turn.invariant.lines ∙ c.in-None-first_line.ensures.value) c.loop-turn.invariant.within

pub returns-in-Some-first_line : goal.returns-in-Some-first_line
returns-in-Some-first_line c =
    let done : c.args.number - 1 ≡ c.loop-turn._turn - 1 = omega (arith, c.loop-turn-test.false, c.loop-turn.invariant.within) in
    at_front (lines_of c.args.bytes.now) (c.args.number - 1) c.in-Some-first_line.line.now (lines_of c.in-Some-first_line.field-0-1.now)
    (ap (λ (k : ℕ). drop k (lines_of c.args.bytes.now)) done ∙ sym c.loop-turn.invariant.lines ∙ c.in-Some-first_line.ensures.value)

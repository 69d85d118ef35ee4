use Rattle.std.proofs.Common.{ℕ, ◌≡◌, arith, subst}
use Rattle.input_faults.specs.RecordLines.{IsBehind}
use Rattle.input_faults.specs.Records.{left_of}
use Rattle.input_faults.proofs.RecordLinesFacts.{behind_next}
use Rattle.input_faults.proofs.record_lines.go_on.Goals as goal

pub loop-turn-preserved : goal.loop-turn-preserved
loop-turn-preserved c = λ text so.
    let l = c.loop-turn in
    behind_next text l._turn (left_of l.state l.rest.now) (left_of c.behind_record-next.result.0 c.behind_record-next.result.1.now) c.behind_record-next.ensures (l.invariant text so)

pub returns : goal.returns
returns c = λ text so.
    let l = c.loop-turn in
    let done : l._turn ≡ c.args.to = omega (arith, c.loop-turn-test.false) in
    subst (λ (n : ℕ). IsBehind text n (left_of l.state l.rest.now)) done (l.invariant text so)

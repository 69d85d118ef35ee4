use Rattle.std.proofs.Common.{◌≡◌, ◌∙◌, ◌+◌, ◌-◌, ◌<◌, ℕ, sym, ap, arith}
use Rattle.input_faults.specs.Records.{Left, behind_records, drop_ends, left_of}
use Rattle.input_faults.proofs.ScanFacts.{behind_records-more, behind_records-none}
use Rattle.input_faults.proofs.records.record_of.Goals as goal

pub loop-turn-preserved : goal.loop-turn-preserved
loop-turn-preserved c =
    let l = c.loop-turn in
    let n : ℕ = c.args.number - l._turn in
    let some : 0 < n = omega (arith, c.loop-turn-test.true) in
    ap (λ (k : ℕ). behind_records k (left_of c.behind_record-next.result.0 c.behind_record-next.result.1.now)) (let e : c.args.number - (l._turn + 1) ≡ n - 1 = omega arith in e)
    ∙ ap (behind_records (n - 1)) c.behind_record-next.ensures
    ∙ sym (behind_records-more n (left_of l.state l.rest.now) some)
    ∙ l.invariant

pub returns : goal.returns
returns c =
    let l = c.loop-turn in
    let done : c.args.number - l._turn ≡ 0 = omega (arith, c.loop-turn-test.false) in
    c.without_ends.ensures
    ∙ ap (λ (left : Left). drop_ends left.text)
    (sym (behind_records-none (left_of l.state l.rest.now)) ∙ ap (λ (k : ℕ). behind_records k (left_of l.state l.rest.now)) (sym done) ∙ l.invariant)

use Rattle.std.proofs.Common.{ℕ, List, ◌≡◌, ◌-◌, ◌∙◌, length, take, ap, arith}
use Rattle.input_faults.specs.Records.{at_start, behind_records, drop_ends, left_of, line_behind}
use Rattle.input_faults.proofs.RecordLinesFacts.{found_there}
use Rattle.input_faults.proofs.record_lines.RecordLines.line.Goals as goal

pub returns-clause-line : goal.returns-clause-line
returns-clause-line c =
    let text = c.self.inside.text.now in
    let view : text ≡ c.args.self.now = c.self.view_is in
    let number = c.max-number.result in
    let same : number - 1 ≡ c.args.number - 1 = omega (arith, c.max-number.ensures) in
    let there =
    found_there c.args.self.now number (left_of c.go_on-state.result.0 c.go_on-state.result.1.now) (c.go_on-state.ensures c.args.self.now c.begin-from.ensures.behind)
    ∙ ap (λ (n : ℕ). (behind_records n (at_start c.args.self.now)).text) same in
    c.count_on-line.ensures.line
    ∙ ap (λ (t : List ℕ). line_behind (take (length t - length c.without_ends-left.result.now) t)) view
    ∙ ap (λ (xs : List ℕ). line_behind (take (length c.args.self.now - length xs) c.args.self.now)) (c.without_ends-left.ensures ∙ ap (λ (xs : List ℕ). drop_ends xs) there)

use Rattle.std.proofs.Common.{ℕ, ◌+◌, List, ◌∷◌, sym, ap, ◌∙◌, arith}
use Rattle.text_words.specs.Lines.{counting_lines_from}
use Rattle.text_words.proofs.CountingLines.{counting_first, counting_none, counting_skip}
use Rattle.text_words.proofs.lines.Lines.next_line.Goals as goal

pub returns-then-counts : goal.returns-then-counts
returns-then-counts c =
    let n = c.loop-line.self-inside.number in
    sym c.self.view_is ∙ sym c.loop-line.invariant.left
    ∙ counting_first n c.loop-line.self-inside.text.now c.in-Some.line.now c.in-Some.rest.now c.in-Some.ensures.value (sym c.counts.ensures ∙ c.if-counts.true)
    ∙ ap (λ (words : List (List ℕ)). (record { number = n; words = words }) ∷ counting_lines_from (n + 1) c.in-Some.rest.now) (sym c.new.ensures)

pub loop-line-preserved : goal.loop-line-preserved
loop-line-preserved c = record {
  left = sym (counting_skip c.loop-line.self-inside.number c.loop-line.self-inside.text.now c.in-Some.line.now c.in-Some.rest.now c.in-Some.ensures.value (sym c.counts.ensures ∙ c.if-counts.false))
      ∙ c.loop-line.invariant.left;
  room = omega (arith, c.in-Some.ensures.shorter);
}

pub returns : goal.returns
returns c =
    let none = counting_none c.loop-line.self-inside.number c.loop-line.self-inside.text.now c.in_default.ensures.value in
    (sym c.self.view_is ∙ sym c.loop-line.invariant.left ∙ none, none)

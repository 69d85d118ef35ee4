use Rattle.text_words.proofs.Pushing.{more, then}
use Rattle.origin_text.proofs.files.push_line.Goals as goal

pub returns-clause-text : goal.returns-clause-text
returns-clause-text c = then c.push_text-3.result (λ e.
    let start = c.args.text.now.items in
    more start (c.push_text-2.new.text.items) (c.push_text-3.new.text.items) _ _ (more start (c.push_number.new.text.items) (c.push_text-2.new.text.items) _ _
    (more start (c.push_text.new.text.items) (c.push_number.new.text.items) _ _ c.in_ok-push_text.ensures (rw c.line_of_nth-line.ensures.line at c.in_ok-push_number.ensures)) c.in_ok-push_text-2.ensures) e) c.push_text-3.ensures

use Rattle.std.proofs.Common.{subst, ◌≡◌, ◌+◌, ◌-◌, ◌≤◌, ◌∙◌, ℕ, List, length, drop, take, arith}
use Rattle.std.proofs.lemmas.List.{length-drop}
use Rattle.byte_source.proofs.Pieces.{copied, ended_now, gives_next, still_ended}
use Rattle.byte_source.proofs.mem_source.MemSourceByteSource.read.Goals as goal
use Rattle.byte_source.proofs.mem_source.MemSourceByteSource.read.Goals.{then-self, else-self}

pub returns-clause-gives : goal.returns-clause-gives
returns-clause-gives c =
    let few : c.min-count.result ≤ length (drop c.self.inside.at c.self.inside.text.items) = omega (arith, c.min-count.ensures, c.len.ensures, length-drop c.self.inside.at c.self.inside.text.items) in
    gives_next _ _ c.self.view_is c.min-count.result _ _ few
    (copied c.self.inside.at c.min-count.result c.self.inside.text.items _ _
    (subst (λ (text : List ℕ). c.copy_from_slice.new.self ≡ take (c.self.inside.at + c.min-count.result - c.self.inside.at) (drop c.self.inside.at text)) c.deref-2.ensures.value c.copy_from_slice.ensures.after) few)
    (λ none. omega (arith, none, c.min-count.ensures, c.min.ensures, c.len.ensures, c.next_size-size.ensures, c.requires, length-drop c.self.inside.at c.self.inside.text.items))
    (elim c.if-self.branch [ then-self w ↦ w.self-is ∙ still_ended _ _ w.if-self.true | else-self w ↦ w.self-is ∙ ended_now _ _ w.if-self.false ])

use Rattle.std.proofs.Common.{◌≡◌, ◌∙◌, false}
use Rattle.stream_reader.specs.Parts.{view_of}
use Rattle.stream_reader.proofs.Telling.{comes_first, nothing_pushed}
use Rattle.stream_reader.proofs.stream_reader.StreamReader.take.Goals as goal

pub loop-self-preserved : goal.loop-self-preserved
loop-self-preserved g c =
    let was = c.loop-self.invariant in (
      λ going.
          let p = nothing_pushed (view_of c.loop-self.self) (view_of c.push_next.new.self) c.in-Ok-None.field-0 c.in-Ok-None.field-0-is (c.in-Ok-None.ensures.pushes (was.1 ∙ going)) in
          (p.0 ∙ (was.0 going).0, p.1 ∙ (was.0 going).1),
      c.in-Ok-None.ensures.over ∙ was.1,
      c.push_next.ensures.bytes ∙ was.2,
      c.push_next.ensures.source ∙ was.3,
    )

pub returns-in-Ok-Some-clause-first : goal.returns-in-Ok-Some-clause-first
returns-in-Ok-Some-clause-first g c = λ going.
    let over : c.push_next.new.self.parser.over ≡ false = c.in-Ok-Some.ensures.over ∙ c.loop-self.invariant.1 ∙ going in
    comes_first _ _ _ (c.push_next.new.self.follows over) (c.push_next.new.self.parser.ready over)

pub returns-clause-first : goal.returns-clause-first
returns-clause-first g c = λ going.
    let over : c.loop-self.self.parser.over ≡ false = c.loop-self.invariant.1 ∙ going in
    comes_first _ _ _ (c.loop-self.self.follows over) (c.loop-self.self.parser.ready over)

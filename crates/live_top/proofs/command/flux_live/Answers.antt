use Rattle.std.proofs.Common.{◌∙◌, map, refl, string_bytes, subst, sym}
use Rattle.live_top.specs.Clauses.{IsComplete, SaysAt, StaysAt}
use Rattle.live_top.specs.Stops.{StopsTo}
use Rattle.live_top.proofs.Completeness.{complete_done, complete_stopped}
use Rattle.live_top.proofs.Statuses.{falls_short, formless_at, no_answer, quiet_why, says_done, says_lost, says_refusal, says_unread, says_why, stays_done, stays_stopped, unwritten_at, usage_at}
use Rattle.live_top.proofs.command.flux_live.Goals as goal

-- ---- a run that is done

pub returns-in-Ok-clause-says : goal.returns-in-Ok-clause-says
returns-in-Ok-clause-says g c = says_done (g.E.Sink.told c.args.err.now) (g.E.Sink.told c.args.err.now)

pub returns-in-Ok-clause-stays : goal.returns-in-Ok-clause-stays
returns-in-Ok-clause-stays g c =
    stays_done (g.F.Files.told c.args.files.now) (g.F.Files.told c.run.new.files) c.run.ensures.contents c.run.ensures.saves c.in-Ok.ensures.still c.in-Ok.ensures.wants

pub returns-in-Ok-clause-complete : goal.returns-in-Ok-clause-complete
returns-in-Ok-clause-complete g c =
    complete_done (g.F.Files.told c.args.files.now) (g.F.Files.told c.run.new.files) (map string_bytes c.args.words.now) (g.S.Sink.told c.args.out.now) (g.S.Sink.told c.run.new.out)
    c.run.ensures.contents c.in-Ok.ensures.done

-- ---- a stop

pub returns-in-Err-clause-done : goal.returns-in-Err-clause-done
returns-in-Err-clause-done g c = λ is. absurd (no_answer 0 c.in-Err.stop refl refl refl refl refl refl (sym c.said.ensures.status ∙ is))

pub returns-in-Err-clause-usage : goal.returns-in-Err-clause-usage
returns-in-Err-clause-usage g c = λ two. subst (λ why. StopsTo (g.F.Files.told c.args.files.now) (g.F.Files.told c.run.new.files) (map string_bytes c.args.words.now) (g.S.Sink.told c.args.out.now) (g.S.Sink.told c.run.new.out) why)
    (usage_at c.in-Err.stop (sym c.said.ensures.status ∙ two)) c.in-Err.ensures.stops

pub returns-in-Err-clause-formless : goal.returns-in-Err-clause-formless
returns-in-Err-clause-formless g c = λ none. (c.said.ensures.status ∙ formless_at (Unit {0}) c.in-Err.stop (c.in-Err.ensures.usage none), c.in-Err.ensures.unasked none)

pub returns-in-Err-clause-refused : goal.returns-in-Err-clause-refused
returns-in-Err-clause-refused g c = λ three.
    says_refusal (g.F.Files.told c.args.files.now) (g.F.Files.told c.run.new.files) (map string_bytes c.args.words.now) (g.S.Sink.told c.args.out.now) (g.S.Sink.told c.run.new.out)
    (g.E.Sink.told c.args.err.now) (g.E.Sink.told c.said.new.err) c.in-Err.stop (sym c.said.ensures.status ∙ three) c.in-Err.ensures.stops c.said.ensures.line

pub returns-in-Err-clause-unread : goal.returns-in-Err-clause-unread
returns-in-Err-clause-unread g c = λ four.
    says_unread (g.F.Files.told c.args.files.now) (g.F.Files.told c.run.new.files) (map string_bytes c.args.words.now) (g.S.Sink.told c.args.out.now) (g.S.Sink.told c.run.new.out)
    (g.E.Sink.told c.args.err.now) (g.E.Sink.told c.said.new.err) c.in-Err.stop (sym c.said.ensures.status ∙ four) c.in-Err.ensures.stops c.in-Err.ensures.cause c.said.ensures.line

pub returns-in-Err-clause-unwritten : goal.returns-in-Err-clause-unwritten
returns-in-Err-clause-unwritten g c = λ five. subst (λ why. StopsTo (g.F.Files.told c.args.files.now) (g.F.Files.told c.run.new.files) (map string_bytes c.args.words.now) (g.S.Sink.told c.args.out.now) (g.S.Sink.told c.run.new.out) why)
    (unwritten_at c.in-Err.stop (sym c.said.ensures.status ∙ five)) c.in-Err.ensures.stops

pub returns-in-Err-clause-lost : goal.returns-in-Err-clause-lost
returns-in-Err-clause-lost g c = λ six.
    says_lost (g.F.Files.told c.args.files.now) (g.F.Files.told c.run.new.files) (map string_bytes c.args.words.now) (g.S.Sink.told c.args.out.now) (g.S.Sink.told c.run.new.out)
    (g.E.Sink.told c.args.err.now) (g.E.Sink.told c.said.new.err) c.in-Err.stop (sym c.said.ensures.status ∙ six) c.in-Err.ensures.stops c.said.ensures.line

pub returns-in-Err-clause-short : goal.returns-in-Err-clause-short
returns-in-Err-clause-short g c = λ eight.
    falls_short (g.F.Files.told c.args.files.now) (g.F.Files.told c.run.new.files) (map string_bytes c.args.words.now) (g.S.Sink.told c.args.out.now) (g.S.Sink.told c.run.new.out)
    c.in-Err.stop (sym c.said.ensures.status ∙ eight) c.in-Err.ensures.stops

pub returns-in-Err-clause-says : goal.returns-in-Err-clause-says
returns-in-Err-clause-says g c = subst (λ s. SaysAt s (g.E.Sink.told c.args.err.now) (g.E.Sink.told c.said.new.err)) (sym c.said.ensures.status)
    (says_why (g.E.Sink.told c.args.err.now) (g.E.Sink.told c.said.new.err) c.in-Err.stop c.said.ensures.line)

pub returns-in-Err-clause-quiet : goal.returns-in-Err-clause-quiet
returns-in-Err-clause-quiet g c = (
  λ is. absurd (no_answer 0 c.in-Err.stop refl refl refl refl refl refl (sym c.said.ensures.status ∙ is)),
  λ zero five six eight. quiet_why c.args.out.now c.run.new.out c.in-Err.stop
      (λ is. five (c.said.ensures.status ∙ is)) (λ is. six (c.said.ensures.status ∙ is)) (λ is. eight (c.said.ensures.status ∙ is)) c.in-Err.ensures.quiet,
)

pub returns-in-Err-clause-stays : goal.returns-in-Err-clause-stays
returns-in-Err-clause-stays g c = subst (λ s. StaysAt s (g.F.Files.told c.args.files.now) (g.F.Files.told c.run.new.files)) (sym c.said.ensures.status)
    (stays_stopped (g.F.Files.told c.args.files.now) (g.F.Files.told c.run.new.files) c.in-Err.stop c.run.ensures.contents c.run.ensures.saves c.in-Err.ensures.cause c.in-Err.ensures.wants)

pub returns-in-Err-clause-complete : goal.returns-in-Err-clause-complete
returns-in-Err-clause-complete g c =
    let words = map string_bytes c.args.words.now in
    subst (λ s. IsComplete s (g.F.Files.told c.args.files.now) (g.F.Files.told c.run.new.files) words (g.S.Sink.told c.args.out.now) (g.S.Sink.told c.run.new.out)) (sym c.said.ensures.status)
    (complete_stopped (g.F.Files.told c.args.files.now) (g.F.Files.told c.run.new.files) words (g.S.Sink.told c.args.out.now) (g.S.Sink.told c.run.new.out)
    c.run.ensures.contents c.in-Err.stop c.in-Err.ensures.stops c.in-Err.ensures.cause)

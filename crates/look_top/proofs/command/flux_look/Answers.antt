use Rattle.std.proofs.Common.{◌∙◌, ⊎_elim, inl, inr, map, refl, string_bytes, subst, sym}
use Rattle.command_course.specs.declared.answer.Ending.{Ending}
use Rattle.flux_top.proofs.Stopping.{differ}
use Rattle.look_top.specs.Clauses.{IsComplete, SaysAt, StaysAt, WritesWhole}
use Rattle.look_top.specs.Stops.{StopsTo}
use Rattle.look_top.proofs.Statuses.{complete_answer, complete_stopped, done_at, falls_short, faulty_at, formless_at, no_answer, no_stop, quiet_at, refused_keeps, says_answer, says_lost, says_refusal, says_why, says_unread, stays_answer, stays_stopped, unwritten_at, usage_at, warned_at, writes_at}
use Rattle.look_top.proofs.command.flux_look.Goals as goal

-- ---- an answer that was written whole

pub returns-in-Ok-clause-done : goal.returns-in-Ok-clause-done
returns-in-Ok-clause-done g c = (
  λ zero. subst (λ e. WritesWhole (g.F.Files.told c.args.files.now) (g.F.Files.told c.run.new.files) (map string_bytes c.args.words.now) e (g.S.Sink.told c.args.out.now) (g.S.Sink.told c.run.new.out))
      (done_at c.in-Ok.ending (sym c.status_of.ensures ∙ zero)) c.in-Ok.ensures.written,
  λ one. subst (λ e. WritesWhole (g.F.Files.told c.args.files.now) (g.F.Files.told c.run.new.files) (map string_bytes c.args.words.now) e (g.S.Sink.told c.args.out.now) (g.S.Sink.told c.run.new.out))
      (warned_at c.in-Ok.ending (sym c.status_of.ensures ∙ one)) c.in-Ok.ensures.written,
)

pub returns-in-Ok-clause-usage : goal.returns-in-Ok-clause-usage
returns-in-Ok-clause-usage g c = λ is. absurd (no_stop 2 refl refl refl c.in-Ok.ending c.in-Ok.ensures.whole (sym c.status_of.ensures ∙ is))

pub returns-in-Ok-clause-refused : goal.returns-in-Ok-clause-refused
returns-in-Ok-clause-refused g c = λ three. inl (
  subst (λ e. WritesWhole (g.F.Files.told c.args.files.now) (g.F.Files.told c.run.new.files) (map string_bytes c.args.words.now) e (g.S.Sink.told c.args.out.now) (g.S.Sink.told c.run.new.out))
      (faulty_at c.in-Ok.ending (sym c.status_of.ensures ∙ three)) c.in-Ok.ensures.written,
  refl,
)

pub returns-in-Ok-clause-unread : goal.returns-in-Ok-clause-unread
returns-in-Ok-clause-unread g c = λ is. absurd (no_stop 4 refl refl refl c.in-Ok.ending c.in-Ok.ensures.whole (sym c.status_of.ensures ∙ is))

pub returns-in-Ok-clause-unwritten : goal.returns-in-Ok-clause-unwritten
returns-in-Ok-clause-unwritten g c = λ is. absurd (no_stop 5 refl refl refl c.in-Ok.ending c.in-Ok.ensures.whole (sym c.status_of.ensures ∙ is))

pub returns-in-Ok-clause-lost : goal.returns-in-Ok-clause-lost
returns-in-Ok-clause-lost g c = λ is. absurd (no_stop 6 refl refl refl c.in-Ok.ending c.in-Ok.ensures.whole (sym c.status_of.ensures ∙ is))

pub returns-in-Ok-clause-short : goal.returns-in-Ok-clause-short
returns-in-Ok-clause-short g c = λ is. absurd (no_stop 8 refl refl refl c.in-Ok.ending c.in-Ok.ensures.whole (sym c.status_of.ensures ∙ is))

pub returns-in-Ok-clause-says : goal.returns-in-Ok-clause-says
returns-in-Ok-clause-says g c = subst (λ s. SaysAt s (g.E.Sink.told c.args.err.now) (g.E.Sink.told c.args.err.now)) (sym c.status_of.ensures)
    (says_answer (g.E.Sink.told c.args.err.now) (g.E.Sink.told c.args.err.now) c.in-Ok.ending c.in-Ok.ensures.whole)

pub returns-in-Ok-clause-quiet : goal.returns-in-Ok-clause-quiet
returns-in-Ok-clause-quiet g c = (
  λ answered. refl,
  λ zero one three five six. absurd (writes_at c.in-Ok.ending c.in-Ok.ensures.whole (λ is. zero (c.status_of.ensures ∙ is)) (λ is. one (c.status_of.ensures ∙ is)) (λ is. three (c.status_of.ensures ∙ is))),
)

pub returns-in-Ok-clause-stays : goal.returns-in-Ok-clause-stays
returns-in-Ok-clause-stays g c = subst (λ s. StaysAt s (g.F.Files.told c.args.files.now) (g.F.Files.told c.run.new.files)) (sym c.status_of.ensures)
    (stays_answer (g.F.Files.told c.args.files.now) (g.F.Files.told c.run.new.files) c.in-Ok.ending c.in-Ok.ensures.whole c.in-Ok.ensures.still c.in-Ok.ensures.saves c.in-Ok.ensures.wants)

pub returns-in-Ok-clause-complete : goal.returns-in-Ok-clause-complete
returns-in-Ok-clause-complete g c =
    let words = map string_bytes c.args.words.now in
    subst (λ s. IsComplete s (g.F.Files.told c.args.files.now) (g.F.Files.told c.run.new.files) words (g.S.Sink.told c.args.out.now) (g.S.Sink.told c.run.new.out)) (sym c.status_of.ensures)
    (complete_answer (g.F.Files.told c.args.files.now) (g.F.Files.told c.run.new.files) words (g.S.Sink.told c.args.out.now) (g.S.Sink.told c.run.new.out) c.in-Ok.ending c.in-Ok.ensures.whole c.in-Ok.ensures.written)

-- ---- a stop

pub returns-in-Err-clause-done : goal.returns-in-Err-clause-done
returns-in-Err-clause-done g c = (
  λ is. absurd (no_answer 0 c.in-Err.stop refl refl refl refl refl refl (sym c.said.ensures.status ∙ is)),
  λ is. absurd (no_answer 1 c.in-Err.stop refl refl refl refl refl refl (sym c.said.ensures.status ∙ is)),
)

pub returns-in-Err-clause-usage : goal.returns-in-Err-clause-usage
returns-in-Err-clause-usage g c = λ two. subst (λ why. StopsTo (g.F.Files.told c.args.files.now) (g.F.Files.told c.run.new.files) (map string_bytes c.args.words.now) (g.S.Sink.told c.args.out.now) (g.S.Sink.told c.run.new.out) why)
    (usage_at c.in-Err.stop (sym c.said.ensures.status ∙ two)) c.in-Err.ensures.stops

pub returns-in-Err-clause-formless : goal.returns-in-Err-clause-formless
returns-in-Err-clause-formless g c = λ none. (c.said.ensures.status ∙ formless_at Ending c.in-Err.stop (c.in-Err.ensures.usage none), c.in-Err.ensures.unasked none)

pub returns-in-Err-clause-refused : goal.returns-in-Err-clause-refused
returns-in-Err-clause-refused g c = λ three.
    let is = sym c.said.ensures.status ∙ three in
    inr (
      says_refusal (g.F.Files.told c.args.files.now) (g.F.Files.told c.run.new.files) (map string_bytes c.args.words.now) (g.S.Sink.told c.args.out.now) (g.S.Sink.told c.run.new.out)
          (g.E.Sink.told c.args.err.now) (g.E.Sink.told c.said.new.err) c.in-Err.stop is c.in-Err.ensures.stops c.said.ensures.line,
      quiet_at c.args.out.now c.run.new.out c.in-Err.stop (λ five. differ 3 5 refl (sym is ∙ five)) (λ six. differ 3 6 refl (sym is ∙ six)) c.in-Err.ensures.quiet,
      refused_keeps (g.F.Files.told c.args.files.now) (g.F.Files.told c.run.new.files) (map string_bytes c.args.words.now) (g.S.Sink.told c.args.out.now) (g.S.Sink.told c.run.new.out)
          c.in-Err.stop is c.in-Err.ensures.kept,
    )

pub returns-in-Err-clause-unread : goal.returns-in-Err-clause-unread
returns-in-Err-clause-unread g c = λ four. says_unread (g.F.Files.told c.args.files.now) (g.F.Files.told c.run.new.files) (map string_bytes c.args.words.now) (g.S.Sink.told c.args.out.now) (g.S.Sink.told c.run.new.out)
    (g.E.Sink.told c.args.err.now) (g.E.Sink.told c.said.new.err)
    c.in-Err.stop (sym c.said.ensures.status ∙ four) c.in-Err.ensures.stops c.in-Err.ensures.cause c.said.ensures.line

pub returns-in-Err-clause-unwritten : goal.returns-in-Err-clause-unwritten
returns-in-Err-clause-unwritten g c = λ five. subst (λ why. StopsTo (g.F.Files.told c.args.files.now) (g.F.Files.told c.run.new.files) (map string_bytes c.args.words.now) (g.S.Sink.told c.args.out.now) (g.S.Sink.told c.run.new.out) why)
    (unwritten_at c.in-Err.stop (sym c.said.ensures.status ∙ five)) c.in-Err.ensures.stops

pub returns-in-Err-clause-lost : goal.returns-in-Err-clause-lost
returns-in-Err-clause-lost g c = λ six. says_lost (g.F.Files.told c.args.files.now) (g.F.Files.told c.run.new.files) (map string_bytes c.args.words.now) (g.S.Sink.told c.args.out.now) (g.S.Sink.told c.run.new.out)
    (g.E.Sink.told c.args.err.now) (g.E.Sink.told c.said.new.err)
    c.in-Err.stop (sym c.said.ensures.status ∙ six) c.in-Err.ensures.stops c.said.ensures.line

pub returns-in-Err-clause-short : goal.returns-in-Err-clause-short
returns-in-Err-clause-short g c = λ eight. falls_short (g.F.Files.told c.args.files.now) (g.F.Files.told c.run.new.files) (map string_bytes c.args.words.now) (g.S.Sink.told c.args.out.now) (g.S.Sink.told c.run.new.out)
    c.in-Err.stop (sym c.said.ensures.status ∙ eight) c.in-Err.ensures.stops c.in-Err.ensures.kept

pub returns-in-Err-clause-says : goal.returns-in-Err-clause-says
returns-in-Err-clause-says g c = subst (λ s. SaysAt s (g.E.Sink.told c.args.err.now) (g.E.Sink.told c.said.new.err)) (sym c.said.ensures.status)
    (says_why (g.E.Sink.told c.args.err.now) (g.E.Sink.told c.said.new.err) c.in-Err.stop c.said.ensures.line)

pub returns-in-Err-clause-quiet : goal.returns-in-Err-clause-quiet
returns-in-Err-clause-quiet g c = (
  λ answered. absurd (⊎_elim (λ is. no_answer 0 c.in-Err.stop refl refl refl refl refl refl (sym c.said.ensures.status ∙ is))
      (λ is. no_answer 1 c.in-Err.stop refl refl refl refl refl refl (sym c.said.ensures.status ∙ is)) answered),
  λ zero one three five six. quiet_at c.args.out.now c.run.new.out c.in-Err.stop (λ is. five (c.said.ensures.status ∙ is)) (λ is. six (c.said.ensures.status ∙ is)) c.in-Err.ensures.quiet,
)

pub returns-in-Err-clause-stays : goal.returns-in-Err-clause-stays
returns-in-Err-clause-stays g c = subst (λ s. StaysAt s (g.F.Files.told c.args.files.now) (g.F.Files.told c.run.new.files)) (sym c.said.ensures.status)
    (stays_stopped (g.F.Files.told c.args.files.now) (g.F.Files.told c.run.new.files) (map string_bytes c.args.words.now) c.in-Err.stop c.in-Err.ensures.cause c.in-Err.ensures.kept c.in-Err.ensures.saves c.in-Err.ensures.wants)

pub returns-in-Err-clause-complete : goal.returns-in-Err-clause-complete
returns-in-Err-clause-complete g c =
    let words = map string_bytes c.args.words.now in
    subst (λ s. IsComplete s (g.F.Files.told c.args.files.now) (g.F.Files.told c.run.new.files) words (g.S.Sink.told c.args.out.now) (g.S.Sink.told c.run.new.out)) (sym c.said.ensures.status)
    (complete_stopped (g.F.Files.told c.args.files.now) (g.F.Files.told c.run.new.files) words (g.S.Sink.told c.args.out.now) (g.S.Sink.told c.run.new.out) c.in-Err.stop c.in-Err.ensures.stops c.in-Err.ensures.cause)

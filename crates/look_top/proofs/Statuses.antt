-- Which end a status tells of.
use Rattle.std.proofs.Common.{ℕ, ◌≡◌, false, eqb, ap, List, refl, subst, None, Ok, ⊎_elim, inl, inr}
use Rattle.std.specs.Prelude.{◌≢◌, ◌⊎◌, Result}
use Rattle.tuple_edge.specs.declared.event.Drained.TheVariants as drained
use Rattle.pair_machine.specs.Drain.{partition}
use Rattle.pair_machine.specs.Scripts.{IsSafe}
use Rattle.command_course.specs.Steps.{IsWant}
use Rattle.command_course.specs.declared.stop.Stop.{Stop}
use Rattle.command_course.specs.declared.stop.Stop.TheVariants as stop
use Rattle.command_course.proofs.Courses.{wants_for}
use Rattle.flux_outside.specs.Outside.{Rose, StopsAtWant}
use Rattle.flux_outside.specs.Told.{FilesTold, SinkTold}
use Rattle.flux_top.specs.Clauses.{HasCause}
use Rattle.flux_top.specs.Ends.{MayBeLost, saves_of}
use Rattle.flux_top.specs.Programs as program
use Rattle.flux_top.specs.Programs.{Tells}
use Rattle.flux_top.specs.Stops.{line_at, status_at}
use Rattle.flux_top.proofs.Stopping.{differ, other_stop, says_stop, stays_stop, stopped}
pub use Rattle.flux_top.proofs.Stopping.{formless_at, no_answer, quiet_at, unwritten_at, usage_at}
use Rattle.command_course.specs.Answers.{AnswerView, status_of}
use Rattle.command_course.specs.declared.answer.Ending.{Ending}
use Rattle.command_course.specs.declared.answer.Ending.TheVariants.{Done, Faulty, Lost, Warned}
use Rattle.look_top.specs.Clauses.{ComesToAny, FallsShort, IsComplete, IsStatus, MaySave, Rejects, SaysAt, SaysLost, SaysRefusal, SaysUnread, Settles, StaysAt, WritesNot, WritesWhole}
use Rattle.look_top.specs.Lines.{lines}
use Rattle.look_top.specs.Stops.{KeepsTo, StopsTo, drained_of}
use Rattle.look_top.proofs.Completeness.{LostSome, Obeyed, RanSo, Unobeyed, rejected_asked, rejected_unanswered, runs_asked, runs_ran, runs_unrefused, settled_asked, settled_saves, settled_status, settled_unrefused}

-- ---- an answer that was written whole

pub done_at : (ending : Ending) → status_of ending ≡ 0 → ending ≡ Done
done_at Done is = refl
done_at Warned is = absurd (differ 1 0 refl is)
done_at Faulty is = absurd (differ 3 0 refl is)
done_at (Lost stage part) is = absurd (differ 6 0 refl is)

pub warned_at : (ending : Ending) → status_of ending ≡ 1 → ending ≡ Warned
warned_at Done is = absurd (differ 0 1 refl is)
warned_at Warned is = refl
warned_at Faulty is = absurd (differ 3 1 refl is)
warned_at (Lost stage part) is = absurd (differ 6 1 refl is)

pub faulty_at : (ending : Ending) → status_of ending ≡ 3 → ending ≡ Faulty
faulty_at Done is = absurd (differ 0 3 refl is)
faulty_at Warned is = absurd (differ 1 3 refl is)
faulty_at Faulty is = refl
faulty_at (Lost stage part) is = absurd (differ 6 3 refl is)

no_loss : (stage part : ℕ) → drained.Lost stage part ≡ drained.Whole → ⊥
no_loss stage part is = cc

-- a whole answer has none of the other statuses
pub no_stop : (status : ℕ) → eqb 0 status ≡ false → eqb 1 status ≡ false → eqb 3 status ≡ false → (ending : Ending) → drained_of ending ≡ drained.Whole → status_of ending ≡ status → ⊥
no_stop status zero one three Done whole is = differ 0 status zero is
no_stop status zero one three Warned whole is = differ 1 status one is
no_stop status zero one three Faulty whole is = differ 3 status three is
no_stop status zero one three (Lost stage part) whole is = no_loss stage part whole

pub says_answer : (old new : SinkTold) (ending : Ending) → drained_of ending ≡ drained.Whole → SaysAt (status_of ending) old new
says_answer old new Done whole = record { is_status = inl refl; usage = λ two. cc; unwritten = λ five. cc; short = λ eight. cc }
says_answer old new Warned whole = record { is_status = inr (inl refl); usage = λ two. cc; unwritten = λ five. cc; short = λ eight. cc }
says_answer old new Faulty whole = record { is_status = inr (inr (inr (inl refl))); usage = λ two. cc; unwritten = λ five. cc; short = λ eight. cc }
says_answer old new (Lost stage part) whole = absurd (no_loss stage part whole)

-- it writes at one of three
pub writes_at : (ending : Ending) → drained_of ending ≡ drained.Whole → status_of ending ≢ 0 → status_of ending ≢ 1 → status_of ending ≢ 3 → ⊥
writes_at Done whole zero one three = zero refl
writes_at Warned whole zero one three = one refl
writes_at Faulty whole zero one three = three refl
writes_at (Lost stage part) whole zero one three = no_loss stage part whole

-- what a step gives that comes to an answer
abbrev ended : Ending → Result Ending Stop
ended ending = Ok ending

ok_no_stop : (ending : Ending) → ended ending ≢ stopped Ending stop.CannotWrite
ok_no_stop ending same = cc

pub stays_answer : (before after : FilesTold) (ending : Ending) → drained_of ending ≡ drained.Whole → after.read_faults ≡ before.read_faults
    → (ended ending ≢ stopped Ending stop.CannotWrite → after.save_faults ≡ before.save_faults) → StopsAtWant before.wants after.wants ⊥ → StaysAt (status_of ending) before after
stays_answer before after Done whole still saves wants = record {
  wants = wants_for before.wants after.wants ⊥ (0 ≡ 8) (λ none. absurd none) wants;
  reads = λ not_unread not_short. still;
  kept = λ none_saved. absurd (none_saved (inl refl));
  saves = λ none_saved. saves (ok_no_stop Done);
}
stays_answer before after Warned whole still saves wants = record {
  wants = wants_for before.wants after.wants ⊥ (1 ≡ 8) (λ none. absurd none) wants;
  reads = λ not_unread not_short. still;
  kept = λ none_saved. absurd (none_saved (inr (inl refl)));
  saves = λ none_saved. saves (ok_no_stop Warned);
}
stays_answer before after Faulty whole still saves wants = record {
  wants = wants_for before.wants after.wants ⊥ (3 ≡ 8) (λ none. absurd none) wants;
  reads = λ not_unread not_short. still;
  kept = λ none_saved. absurd (none_saved (inr (inr (inl refl))));
  saves = λ none_saved. saves (ok_no_stop Faulty);
}
stays_answer before after (Lost stage part) whole still saves wants = absurd (no_loss stage part whole)

-- ---- a stop

is_status_at : (why : Stop) → IsStatus (status_at why)
is_status_at stop.Usage = inr (inr (inl refl))
is_status_at (stop.Refused line) = inr (inr (inr (inl refl)))
is_status_at (stop.CannotRead line) = inr (inr (inr (inr (inl refl))))
is_status_at stop.CannotWrite = inr (inr (inr (inr (inr (inl refl)))))
is_status_at (stop.PairLost stage part line) = inr (inr (inr (inr (inr (inr (inl refl))))))
is_status_at stop.OutOfMemory = inr (inr (inr (inr (inr (inr (inr refl))))))

pub says_why : (old new : SinkTold) (why : Stop) → Tells old new (line_at lines why) → SaysAt (status_at why) old new
says_why old new why tells = says_stop lines IsStatus old new why (is_status_at why) tells

keeps_at : (before after : FilesTold) (words : List (List ℕ)) (why : Stop) → KeepsTo before after words why → (MaySave (status_at why) → ⊥) → after.contents ≡ before.contents
keeps_at before after words stop.Usage keeps none_saved = keeps
keeps_at before after words (stop.Refused line) keeps none_saved = keeps
keeps_at before after words (stop.CannotRead line) keeps none_saved = keeps
keeps_at before after words stop.CannotWrite keeps none_saved = absurd (none_saved (inr (inr (inr (inl refl)))))
keeps_at before after words (stop.PairLost stage part line) keeps none_saved = absurd (none_saved (inr (inr (inr (inr (inl refl))))))
keeps_at before after words stop.OutOfMemory keeps none_saved = absurd (none_saved (inr (inr (inr (inr (inr refl))))))

-- 5 is one of those at which a file may have been saved
saves_at : (status : ℕ) → (MaySave status → status ≢ 5) → status ≢ 5
saves_at status saves five = saves (inr (inr (inr (inl five)))) five

pub stays_stopped : (before after : FilesTold) (words : List (List ℕ)) (why : Stop) → HasCause before.read_faults after.read_faults why → KeepsTo before after words why
    → (stopped Ending why ≢ stopped Ending stop.CannotWrite → after.save_faults ≡ before.save_faults) → StopsAtWant before.wants after.wants (IsWant (stopped Ending why))
    → StaysAt (status_at why) before after
stays_stopped before after words why cause keeps saves wants = stays_stop Ending MaySave before after why cause (keeps_at before after words why keeps)
    (λ none_saved. saves (other_stop Ending why (saves_at (status_at why) none_saved))) wants

-- ---- a rehearsal

-- its status under a safe script
safe_status : (ending : Ending) → RanSo (λ run. IsSafe run.script) ending → (status_of ending ≡ 0) ⊎ (status_of ending ≡ 1) ⊎ (status_of ending ≡ 8)
safe_status ending (Obeyed is) = inl (ap status_of is)
safe_status ending (Unobeyed is) = inr (inl (ap status_of is))
safe_status ending (LostSome stage part is run safe unsafe) = absurd (unsafe safe)

-- and under any
ran_status : (ending : Ending) → RanSo (λ run. Unit {0}) ending → (status_of ending ≡ 0) ⊎ (status_of ending ≡ 1) ⊎ (status_of ending ≡ 6) ⊎ (status_of ending ≡ 8)
ran_status ending (Obeyed is) = inl (ap status_of is)
ran_status ending (Unobeyed is) = inr (inl (ap status_of is))
ran_status ending (LostSome stage part is run kind unsafe) = inr (inr (inl (ap status_of is)))

lost_done : (stage part : ℕ) → Lost stage part ≡ Done → ⊥
lost_done stage part is = cc

lost_warned : (stage part : ℕ) → Lost stage part ≡ Warned → ⊥
lost_warned stage part is = cc

-- no safe script loses a pair
safe_unlost : (stage part : ℕ) → RanSo (λ run. IsSafe run.script) (Lost stage part) → ⊥
safe_unlost stage part (Obeyed is) = lost_done stage part is
safe_unlost stage part (Unobeyed is) = lost_warned stage part is
safe_unlost stage part (LostSome s p is run safe unsafe) = unsafe safe

-- ---- why words came to a stop

module _ (before after : FilesTold) (words : List (List ℕ)) (old new : SinkTold) where
  -- ---- that a status is the one to come

  pub complete_answer : (ending : Ending) → drained_of ending ≡ drained.Whole → WritesWhole before after words ending old new → IsComplete (status_of ending) before after words old new
  complete_answer ending whole writes = record {
    settles = λ of settled reads saves puts. inl (settled_status before after words ending old new of settled writes);
    runs = λ runs reads saves puts. safe_status ending (runs_ran (λ run. IsSafe run.script) before after words ending writes.ending (saves_of writes.ending.saved) runs writes.finishes.comes);
    may_lose = λ runs reads saves puts. ran_status ending (runs_ran (λ run. Unit {0}) before after words ending writes.ending (saves_of writes.ending.saved) runs writes.finishes.comes);
    rejects = λ rejected reads. absurd (rejected_unanswered before after words ending writes.ending (saves_of writes.ending.saved) rejected writes.finishes.comes);
  }

  -- what is not saved was to be
  saves_something : (of : AnswerView) → Settles before.contents words of → of.saved ≡ None → program.SavesNot (ComesToAny before after words) before after → ⊥
  saves_something of settled none fails = subst (MayBeLost before.contents after.contents)
      (settled_saves before after words fails.comes.0 fails.ending (saves_of fails.ending.saved) of settled none fails.comes.1) fails.others

  settled_unwritten : (of : AnswerView) → Settles before.contents words of → (of.saved ≡ None) ⊎ (Rose before.save_faults after.save_faults → ⊥) → (Rose old.faults new.faults → ⊥)
      → WritesNot before after words old new → ⊥
  settled_unwritten of settled saves puts not = ⊎_elim (λ part. puts part.rose)
      (λ fails. ⊎_elim (λ none. saves_something of settled none fails.0) (λ calm. calm fails.0.rose) saves) not

  calm_unwritten : (Rose before.save_faults after.save_faults → ⊥) → (Rose old.faults new.faults → ⊥) → WritesNot before after words old new → ⊥
  calm_unwritten saves puts not = ⊎_elim (λ part. puts part.rose) (λ fails. saves fails.0.rose) not

  rejected_unwritten : Rejects before.contents words → WritesNot before after words old new → ⊥
  rejected_unwritten rejected not = ⊎_elim
      (λ part. rejected_unanswered before after words part.finishes.comes.0 part.ending (saves_of part.ending.saved) rejected part.finishes.comes.1)
      (λ fails. rejected_unanswered before after words fails.0.comes.0 fails.0.ending (saves_of fails.0.ending.saved) rejected fails.0.comes.1) not

  pub complete_stopped : (why : Stop) → StopsTo before after words old new why → HasCause before.read_faults after.read_faults why → IsComplete (status_at why) before after words old new
  complete_stopped stop.Usage stops cause = record {
    settles = λ of settled reads saves puts. absurd (settled_asked before.contents words of settled stops);
    runs = λ runs reads saves puts. absurd (runs_asked (λ run. IsSafe run.script) before.contents words runs stops);
    may_lose = λ runs reads saves puts. absurd (runs_asked (λ run. Unit {0}) before.contents words runs stops);
    rejects = λ rejected reads. absurd (rejected_asked before.contents words rejected stops);
  }
  complete_stopped (stop.Refused line) stops cause = record {
    settles = λ of settled reads saves puts. absurd (settled_unrefused before after words stops.line of settled stops.comes);
    runs = λ runs reads saves puts. absurd (runs_unrefused (λ run. IsSafe run.script) before after words stops.line runs stops.comes);
    may_lose = λ runs reads saves puts. absurd (runs_unrefused (λ run. Unit {0}) before after words stops.line runs stops.comes);
    rejects = λ rejected reads. inl refl;
  }
  complete_stopped (stop.CannotRead line) stops cause = record {
    settles = λ of settled reads saves puts. absurd (reads cause);
    runs = λ runs reads saves puts. absurd (reads cause);
    may_lose = λ runs reads saves puts. absurd (reads cause);
    rejects = λ rejected reads. absurd (reads cause);
  }
  complete_stopped stop.CannotWrite stops cause = record {
    settles = λ of settled reads saves puts. absurd (settled_unwritten of settled saves puts stops);
    runs = λ runs reads saves puts. absurd (calm_unwritten saves puts stops);
    may_lose = λ runs reads saves puts. absurd (calm_unwritten saves puts stops);
    rejects = λ rejected reads. absurd (rejected_unwritten rejected stops);
  }
  complete_stopped (stop.PairLost stage part line) stops cause = record {
    settles = λ of settled reads saves puts. inl (settled_status before after words (Lost stage part) old new of settled stops.writes);
    runs = λ runs reads saves puts. absurd (safe_unlost stage part
        (runs_ran (λ run. IsSafe run.script) before after words (Lost stage part) stops.writes.ending (saves_of stops.writes.ending.saved) runs stops.writes.finishes.comes));
    may_lose = λ runs reads saves puts. inr (inr (inl refl));
    rejects = λ rejected reads. absurd (rejected_unanswered before after words (Lost stage part) stops.writes.ending (saves_of stops.writes.ending.saved) rejected stops.writes.finishes.comes);
  }
  complete_stopped stop.OutOfMemory stops cause = record {
    settles = λ of settled reads saves puts. inr refl;
    runs = λ runs reads saves puts. inr (inr refl);
    may_lose = λ runs reads saves puts. inr (inr (inr refl));
    rejects = λ rejected reads. inr refl;
  }

  pub falls_short : (why : Stop) → status_at why ≡ 8 → StopsTo before after words old new why → KeepsTo before after words why → FallsShort before after words
  falls_short stop.Usage is stops keeps = absurd (differ 2 8 refl is)
  falls_short (stop.Refused line) is stops keeps = absurd (differ 3 8 refl is)
  falls_short (stop.CannotRead line) is stops keeps = absurd (differ 4 8 refl is)
  falls_short stop.CannotWrite is stops keeps = absurd (differ 5 8 refl is)
  falls_short (stop.PairLost stage part line) is stops keeps = absurd (differ 6 8 refl is)
  falls_short stop.OutOfMemory is stops keeps = record { stops = stops; kept = keeps }

  pub refused_keeps : (why : Stop) → status_at why ≡ 3 → KeepsTo before after words why → after.contents ≡ before.contents
  refused_keeps stop.Usage is keeps = absurd (differ 2 3 refl is)
  refused_keeps (stop.Refused line) is keeps = keeps
  refused_keeps (stop.CannotRead line) is keeps = absurd (differ 4 3 refl is)
  refused_keeps stop.CannotWrite is keeps = absurd (differ 5 3 refl is)
  refused_keeps (stop.PairLost stage part line) is keeps = absurd (differ 6 3 refl is)
  refused_keeps stop.OutOfMemory is keeps = absurd (differ 8 3 refl is)

  module _ (said says : SinkTold) where
    pub says_refusal : (why : Stop) → status_at why ≡ 3 → StopsTo before after words old new why → Tells said says (line_at lines why)
        → SaysRefusal before after words said says
    says_refusal stop.Usage is stops tells = absurd (differ 2 3 refl is)
    says_refusal (stop.Refused line) is stops tells = record { line = stops.line; comes = stops.comes; tells = subst (Tells said says) stops.said_is tells }
    says_refusal (stop.CannotRead line) is stops tells = absurd (differ 4 3 refl is)
    says_refusal stop.CannotWrite is stops tells = absurd (differ 5 3 refl is)
    says_refusal (stop.PairLost stage part line) is stops tells = absurd (differ 6 3 refl is)
    says_refusal stop.OutOfMemory is stops tells = absurd (differ 8 3 refl is)

    pub says_unread : (why : Stop) → status_at why ≡ 4 → StopsTo before after words old new why → HasCause before.read_faults after.read_faults why → Tells said says (line_at lines why)
        → SaysUnread before after words said says
    says_unread stop.Usage is stops cause tells = absurd (differ 2 4 refl is)
    says_unread (stop.Refused line) is stops cause tells = absurd (differ 3 4 refl is)
    says_unread (stop.CannotRead line) is stops cause tells = record { name = stops.name; comes = stops.comes; tells = subst (Tells said says) stops.said_is tells; rose = cause }
    says_unread stop.CannotWrite is stops cause tells = absurd (differ 5 4 refl is)
    says_unread (stop.PairLost stage part line) is stops cause tells = absurd (differ 6 4 refl is)
    says_unread stop.OutOfMemory is stops cause tells = absurd (differ 8 4 refl is)

    pub says_lost : (why : Stop) → status_at why ≡ 6 → StopsTo before after words old new why → Tells said says (line_at lines why) → SaysLost before after words old new said says
    says_lost stop.Usage is stops tells = absurd (differ 2 6 refl is)
    says_lost (stop.Refused line) is stops tells = absurd (differ 3 6 refl is)
    says_lost (stop.CannotRead line) is stops tells = absurd (differ 4 6 refl is)
    says_lost stop.CannotWrite is stops tells = absurd (differ 5 6 refl is)
    says_lost (stop.PairLost stage part line) is stops tells = record { pair = partition stage part; writes = stops.writes; tells = subst (Tells said says) stops.line_is tells }
    says_lost stop.OutOfMemory is stops tells = absurd (differ 8 6 refl is)

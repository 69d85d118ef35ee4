-- Where files tell what they hold, words come to one end: a live run or a refusal.
use Rattle.std.proofs.Common.{ℕ, ◌≡◌, List, [], sym, subst, refl, append-nil, None, inl, inr}
use Rattle.pair_machine.specs.Drain.{partition}
use Rattle.trade_text.specs.Text.{part_text}
use Rattle.command_course.specs.Course.{Course, Runs}
use Rattle.command_course.specs.declared.stop.Stop.{Stop}
use Rattle.command_course.specs.declared.stop.Stop.TheVariants as stop
use Rattle.flux_outside.specs.Outside.{Adds}
use Rattle.flux_outside.specs.Told.{FilesTold, SinkTold}
use Rattle.run_command.specs.Endings.{Ending}
use Rattle.flux_top.specs.Clauses.{Accepts, ComesTo, HasCause, Rejects}
use Rattle.flux_top.specs.Ends.{IsAtEnd, Loses, LosesNone}
use Rattle.flux_top.specs.Stops.{status_at}
use Rattle.flux_top.proofs.Completeness.{accepted_asked, accepted_unlost, accepted_unrefused, rejected_asked, rejected_unended, sure_at_end}
use Rattle.live_feed.specs.declared.answer.Live.{Live}
use Rattle.live_feed.specs.declared.answer.Live.TheVariants as live
use Rattle.live_top.specs.Clauses.{IsComplete}
use Rattle.live_top.specs.Runs.{Lived, run_with}
use Rattle.live_top.specs.Stops.{StopsTo}
use Rattle.live_top.specs.Words.{as_run}

module _ (before after : FilesTold) (words : List (List ℕ)) (old new : SinkTold) (same : after.contents ≡ before.contents) where
  -- the words of `flux` came to this end, and no more calls were added
  comes : (answer : Live) (lived : Lived before after words old new answer) (ends : Course → Ending → Type 0) (text : List ℕ) → ends (Runs (run_with lived.feed lived.script)) (record { text = text; saved = None })
      → ComesTo before after (as_run words) ends (record { text = text; saved = None }) []
  comes answer lived ends text so = record {
    there = Runs (run_with lived.feed lived.script);
    comes = record {
      course = lived.comes.course;
      is_asked = lived.comes.is_asked;
      fact = record {
        reads = lived.comes.fact.calls;
        leads = lived.comes.fact.leads;
        added = subst (Adds before.calls after.calls) (sym (append-nil lived.comes.fact.calls)) lived.comes.fact.added;
      };
    };
    ends_so = so;
  }

  pub rejected_unlived : (answer : Live) → Rejects before.contents (as_run words) → Lived before after words old new answer → ⊥
  rejected_unlived answer rejected lived =
      rejected_unended before after (as_run words) (λ there ending. IsAtEnd there) (record { text = []; saved = None }) [] (λ there at. at) rejected
      (comes answer lived (λ there ending. IsAtEnd there) [] tt)

  pub accepted_unlost_live : (stage part : ℕ) → Accepts before.contents (as_run words) LosesNone → Lived before after words old new (live.Lost stage part) → ⊥
  accepted_unlost_live stage part accepted lived =
      let loses = lived.lives.answers in
      let text = part_text lived.feed.symbols loses.rows in
      accepted_unlost before after (as_run words) (partition stage part) (record { text = text; saved = None }) accepted
      (record {
        comes = comes (live.Lost stage part) lived (Loses (partition stage part)) text (record { events = loses.events; rows = loses.rows; lost = loses.lost; text = refl; journal = refl });
        keeps = same;
      })

  -- ---- that a status is the one to come

  pub complete_done : Lived before after words old new live.Done → IsComplete 0 before after words old new
  complete_done lived = record {
    complete = λ accepted reads puts. inl refl;
    may_lose = λ accepted reads puts. inl refl;
    rejects = λ rejected reads. absurd (rejected_unlived live.Done rejected lived);
  }

  pub complete_stopped : (why : Stop) → StopsTo before after words old new why → HasCause before.read_faults after.read_faults why → IsComplete (status_at why) before after words old new
  complete_stopped stop.Usage stops cause = record {
    complete = λ accepted reads puts. absurd (accepted_asked LosesNone before.contents (as_run words) accepted stops);
    may_lose = λ accepted reads puts. absurd (accepted_asked IsAtEnd before.contents (as_run words) accepted stops);
    rejects = λ rejected reads. absurd (rejected_asked before.contents (as_run words) rejected stops);
  }
  complete_stopped (stop.Refused line) stops cause = record {
    complete = λ accepted reads puts. absurd (accepted_unrefused LosesNone before after (as_run words) stops.line sure_at_end accepted stops.comes);
    may_lose = λ accepted reads puts. absurd (accepted_unrefused IsAtEnd before after (as_run words) stops.line (λ there at. at) accepted stops.comes);
    rejects = λ rejected reads. inl refl;
  }
  complete_stopped (stop.CannotRead line) stops cause = record {
    complete = λ accepted reads puts. absurd (reads cause);
    may_lose = λ accepted reads puts. absurd (reads cause);
    rejects = λ rejected reads. absurd (reads cause);
  }
  complete_stopped stop.CannotWrite stops cause = record {
    complete = λ accepted reads puts. absurd (puts stops.lives.answers.1);
    may_lose = λ accepted reads puts. absurd (puts stops.lives.answers.1);
    rejects = λ rejected reads. absurd (rejected_unlived live.WriteFault rejected stops);
  }
  complete_stopped (stop.PairLost stage part line) stops cause = record {
    complete = λ accepted reads puts. absurd (accepted_unlost_live stage part accepted stops.0);
    may_lose = λ accepted reads puts. inr (inl refl);
    rejects = λ rejected reads. absurd (rejected_unlived (live.Lost stage part) rejected stops.0);
  }
  complete_stopped stop.OutOfMemory stops cause = record {
    complete = λ accepted reads puts. inr refl;
    may_lose = λ accepted reads puts. inr (inr refl);
    rejects = λ rejected reads. inr refl;
  }

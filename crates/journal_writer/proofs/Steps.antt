-- What is left of logs where the next event was written, or where none had the clock.
use Rattle.std.proofs.Common.{◌≡◌, ◌≢◌, ◌∙◌, ◌<◌, ◌≤◌, ◌+◌, ℕ, List, [], ◌∷◌, ◌++◌, Some, None, drop, get_or, length, map, set, take, refl, sym, ap, subst, arith}
use Rattle.std.proofs.lemmas.List.{append_assoc, drop-set, drop-set-lt, drop_more, length-set, map-append, take-append-drop, take-set, take_more, take_more_set}
use Rattle.std.proofs.lemmas.List.Concat.{flat_map-append}
use Rattle.std.proofs.lemmas.Option.{none-some, same_Some}
use Rattle.std.specs.declared.cmp.Ordering.TheVariants.{Less}
use Rattle.tuple_edge.specs.Node.{node_cmp}
use Rattle.tuple_edge.specs.declared.event.Event.{Event}
use Rattle.tuple_edge.specs.declared.event.Stamped.{Stamped}
use Rattle.tuple_edge.specs.declared.node.NodeId.{NodeId}
use Rattle.text_words.specs.Text.{line_text}
use Rattle.pair_machine.specs.Joint.{AreRising, logged_events}
use Rattle.pair_machine.specs.Lists.{Each}
use Rattle.pair_machine.proofs.Lists.{each_append, each_left, each_map, each_more, each_right}
use Rattle.run_journal.specs.Text.{event_words}
use Rattle.journal_writer.specs.Lines.{lines_of}
use Rattle.journal_writer.specs.Merged.{AllBeginFrom, AreAscending, AreMergeable, BeginsFrom, Named, first_clock, merged, merged_events}
use Rattle.journal_writer.proofs.Merging.{next_is}

abbrev node_in : Named → NodeId
node_in l = l.0

abbrev events_of : List Stamped → List Event
events_of es = map (λ (s : Stamped). s.event) es

-- ---- of one log among others

ascending_at : (past : List Named) (l : Named) (logs : List Named) → AreAscending (map node_in (past ++ l ∷ logs)) → Each (λ m. node_cmp l.0 m ≡ Less) (map node_in logs)
ascending_at [] l logs a = a.0
ascending_at (d ∷ past) l logs a = ascending_at past l logs a.1

rising_rest : (es : List Stamped) → AreRising es → AreRising (drop 1 es)
rising_rest [] r = r
rising_rest (s ∷ ss) r = r.1

-- a log of which the first event is left out
mergeable_rest : (past : List Named) (n : NodeId) (es : List Stamped) (logs : List Named) → AreMergeable (past ++ (n, es) ∷ logs) → AreMergeable (past ++ (n, drop 1 es) ∷ logs)
mergeable_rest past n es logs m =
    let rises = each_right (λ (l : Named). AreRising l.1) past ((n, es) ∷ logs) m.rising in
    record {
      ascending = subst AreAscending (map-append node_in past ((n, es) ∷ logs) ∙ sym (map-append node_in past ((n, drop 1 es) ∷ logs))) m.ascending;
      rising = each_append (λ (l : Named). AreRising l.1) past ((n, drop 1 es) ∷ logs) (each_left (λ (l : Named). AreRising l.1) past ((n, es) ∷ logs) m.rising) (rising_rest es rises.0, rises.1);
    }

events_next : (clock : ℕ) (past : List Named) (n : NodeId) (es : List Stamped) (logs : List Named) → AreMergeable (past ++ (n, es) ∷ logs) → first_clock es ≡ Some clock
    → AllBeginFrom (clock + 1) past → AllBeginFrom clock logs
    → merged_events (past ++ (n, es) ∷ logs) ≡ events_of (take 1 es) ++ merged_events (past ++ (n, drop 1 es) ∷ logs)
events_next clock past n [] logs m at later from = absurd (none-some clock at)
events_next clock past n (s ∷ ss) logs m at later from =
    let is : s.clock ≡ clock = same_Some s.clock clock at in
    let rises = each_right (λ (l : Named). AreRising l.1) past ((n, s ∷ ss) ∷ logs) m.rising in
    ap logged_events (next_is past n s ss logs (subst (λ c. AllBeginFrom (c + 1) past) (sym is) later) (each_left (λ (l : Named). AreRising l.1) past ((n, s ∷ ss) ∷ logs) m.rising)
    rises.0 (subst (λ c. AllBeginFrom c logs) (sym is) from) rises.1 (ascending_at past (n, s ∷ ss) logs m.ascending))

-- behind the first event of a log its clocks are later
rest_later : (clock : ℕ) (es : List Stamped) → first_clock es ≡ Some clock → AreRising es → BeginsFrom (clock + 1) (drop 1 es)
rest_later clock [] at r = absurd (none-some clock at)
rest_later clock (s ∷ []) at r = tt
rest_later clock (s ∷ t ∷ ss) at r = let is : s.clock ≡ clock = same_Some s.clock clock at in let less : s.clock < t.clock = r.0.0 in omega (arith, is, less)

-- a log that doesn't begin with a clock, and not before it, begins later
begins_later : (clock : ℕ) (es : List Stamped) → BeginsFrom clock es → first_clock es ≢ Some clock → BeginsFrom (clock + 1) es
begins_later clock [] from not = tt
begins_later clock (s ∷ ss) from not = let other : s.clock ≢ clock = (λ e. not (ap Some e)) in omega (arith, from, other)

-- ---- in the course of a clock

-- Of logs that are written at a clock, as many as these are past it, and the others don't begin before it; what stands written, and what is left, is
-- what stood and was left.
pub record AreWritten (clock place : ℕ) (stood : List ℕ) (old : List Named) (text : List ℕ) (now : List Named) : Type 0 where
  pub mergeable : AreMergeable now
  pub long : length now ≡ length old
  pub later : AllBeginFrom (clock + 1) (take place now)
  pub from : AllBeginFrom clock (drop place now)
  pub whole : text ++ lines_of (merged_events now) ≡ stood ++ lines_of (merged_events old)

parts : (logs : List Named) (place : ℕ) (d : Named) → place < length logs → logs ≡ take place logs ++ get_or logs place d ∷ drop (place + 1) logs
parts logs place d within = sym (take-append-drop place logs) ∙ ap (λ l. take place logs ++ l) (drop_more logs place d within)

set_parts : (logs : List Named) (place : ℕ) (l : Named) → place < length logs → set logs place l ≡ take place logs ++ l ∷ drop (place + 1) logs
set_parts logs place l within =
    sym (take-append-drop place (set logs place l)) ∙ ap (λ a. a ++ drop place (set logs place l)) (take-set logs place l) ∙ ap (λ b. take place logs ++ b) (drop-set logs place l within)

-- the log at this place has no event at the clock
pub passed : (clock place : ℕ) (stood : List ℕ) (old : List Named) (text : List ℕ) (now : List Named) (d : Named) → AreWritten clock place stood old text now → place < length now
    → first_clock (get_or now place d).1 ≢ Some clock → AreWritten clock (place + 1) stood old text now
passed clock place stood old text now d w within not =
    let from : AllBeginFrom clock (get_or now place d ∷ drop (place + 1) now) = subst (AllBeginFrom clock) (drop_more now place d within) w.from in
    record {
      mergeable = w.mergeable;
      long = w.long;
      later = subst (AllBeginFrom (clock + 1)) (sym (take_more now place d within))
          (each_more (λ (l : Named). BeginsFrom (clock + 1) l.1) (take place now) (get_or now place d) w.later (begins_later clock (get_or now place d).1 from.0 not));
      from = from.1;
      whole = w.whole;
    }

-- the event at the clock of the log at this place was written
pub wrote : (clock place : ℕ) (stood : List ℕ) (old : List Named) (text after : List ℕ) (now : List Named) (d new : Named) → AreWritten clock place stood old text now → place < length now
    → first_clock (get_or now place d).1 ≡ Some clock → new ≡ ((get_or now place d).0, drop 1 (get_or now place d).1)
    → after ≡ text ++ lines_of (events_of (take 1 (get_or now place d).1)) → AreWritten clock (place + 1) stood old after (set now place new)
wrote clock place stood old text after now d new w within at rest put =
    let n = (get_or now place d).0 in
    let es = (get_or now place d).1 in
    let past = take place now in
    let logs = drop (place + 1) now in
    let split : now ≡ past ++ (n, es) ∷ logs = parts now place d within in
    let left : set now place new ≡ past ++ (n, drop 1 es) ∷ logs = ap (set now place) rest ∙ set_parts now place (n, drop 1 es) within in
    let m : AreMergeable (past ++ (n, es) ∷ logs) = subst AreMergeable split w.mergeable in
    let rises = each_right (λ (l : Named). AreRising l.1) past ((n, es) ∷ logs) m.rising in
    let from : AllBeginFrom clock ((n, es) ∷ logs) = subst (AllBeginFrom clock) (drop_more now place d within) w.from in
    let next : merged_events now ≡ events_of (take 1 es) ++ merged_events (set now place new) =
    ap merged_events split ∙ events_next clock past n es logs m at w.later from.1 ∙ ap (λ ls. events_of (take 1 es) ++ merged_events ls) (sym left) in
    record {
      mergeable = subst AreMergeable (sym left) (mergeable_rest past n es logs m);
      long = length-set now place new ∙ w.long;
      later = subst (AllBeginFrom (clock + 1)) (sym (take_more_set now place new within))
          (each_more (λ (l : Named). BeginsFrom (clock + 1) l.1) past new w.later (subst (λ (l : Named). BeginsFrom (clock + 1) l.1) (sym rest) (rest_later clock es at rises.0)));
      from = subst (AllBeginFrom clock) (sym (drop-set-lt (place + 1) now place new (omega arith))) from.1;
      whole = ap (λ t. t ++ lines_of (merged_events (set now place new))) put
          ∙ append_assoc text (lines_of (events_of (take 1 es))) (lines_of (merged_events (set now place new)))
          ∙ ap (λ l. text ++ l) (sym (flat_map-append (λ e. line_text (event_words e)) (events_of (take 1 es)) (merged_events (set now place new))))
          ∙ ap (λ es. text ++ lines_of es) (sym next)
          ∙ w.whole;
    }

-- From what was put to what is answered.
use Rattle.std.proofs.Common.{◌≡◌, ◌∙◌, ◌≤◌, ◌<◌, ◌⊎◌, inl, inr, ◌+◌, ◌^◌, ℕ, Bool, true, false, List, [], ◌∷◌, ◌++◌, length, length-append, take, drop, refl, sym, ap, subst, append_assoc, append-nil, arith}
use Rattle.std.specs.Prelude.{if◌then◌else◌}
use Rattle.std.proofs.lemmas.List.{take-append-drop}
use mathlib.Core.List.{IsPrefix}
use Rattle.tuple_edge.specs.Input.{Input}
use Rattle.tuple_edge.specs.declared.event.Drained.{Drained}
use Rattle.tuple_edge.specs.declared.event.Drained.TheVariants as drained
use Rattle.tuple_edge.specs.declared.event.Event.{Event}
use Rattle.tuple_edge.specs.declared.row.Row.{Row}
use Rattle.plan_reader.specs.PlanView.{PlanView}
use Rattle.pair_machine.specs.Output.{output}
use Rattle.pair_machine.specs.Scripts.{IsSafe}
use Rattle.pair_machine.specs.declared.order.Order.{Order}
use Rattle.trade_text.specs.Text.{count_line, part_text, text}
use Rattle.flux_outside.specs.Outside.{Rose, TakesPart}
use Rattle.flux_outside.specs.Told.{SinkTold}
use Rattle.drained_run.specs.Ended.{EndedView, EndsSo, IsEnded}
use Rattle.drained_run.proofs.Fronts.{take_prefix}
use Rattle.row_wire.specs.Lines.{lines_of}
use Rattle.row_wire.specs.Written.{IsWritten, OffersFront, OffersSo, TakesFront, TakesSo, WritesOn}
use Rattle.row_wire.specs.declared.written.Written.{Written}
use Rattle.row_wire.specs.declared.written.Written.TheVariants as written
use Rattle.row_wire.proofs.Offers.{offers_first, offers_more_front, offers_none}
use Rattle.row_wire.proofs.Writings.{part-append, takes_nothing}
use Rattle.live_feed.specs.Answers.{answered, ends_whole}
use Rattle.live_feed.specs.Lives.{AnswersSo, LivesSo, output_text}
use Rattle.live_feed.specs.declared.answer.Live.{Live}
use Rattle.live_feed.specs.declared.answer.Live.TheVariants as live

-- the text of all rows, or of the first, without its last line
abbrev pub text_so : Bool → List (List ℕ) → List Row → List ℕ
text_so whole symbols rows = if whole then text symbols rows else part_text symbols rows

-- what was written first and what was missing are the text
rest_of_text : (whole : Bool) (symbols : List (List ℕ)) (rows : List Row) (first : ℕ)
    → part_text symbols (take first rows) ++ (lines_of symbols (drop first rows) ++ (if whole then count_line (length rows) else [])) ≡ text_so whole symbols rows
rest_of_text whole symbols rows first = sym (append_assoc (part_text symbols (take first rows)) (lines_of symbols (drop first rows)) (if whole then count_line (length rows) else [])) ∙
    (ap (λ t. t ++ (if whole then count_line (length rows) else [])) (part-append symbols (take first rows) (drop first rows) ∙ ap (part_text symbols) (take-append-drop first rows)) ∙ ends whole)
  where
    ends : (whole : Bool) → part_text symbols rows ++ (if whole then count_line (length rows) else []) ≡ text_so whole symbols rows
    ends true = refl
    ends false = append-nil (part_text symbols rows)

pub written_rest : (before after start : SinkTold) (was is : Written) (whole : Bool) (symbols : List (List ℕ)) (rows : List Row) (first : ℕ)
    → WritesOn before after was (lines_of symbols (drop first rows) ++ (if whole then count_line (length rows) else [])) is
    → IsWritten start before (part_text symbols (take first rows)) was → IsWritten start after (text_so whole symbols rows) is
written_rest before after start was is whole symbols rows first on w = subst (λ t. IsWritten start after t is) (rest_of_text whole symbols rows first) (on start (part_text symbols (take first rows)) w)

-- the text of the first rows begins the text of all
part_begins : (symbols : List (List ℕ)) (rows more : List Row) → IsPrefix rows more → (rest : List ℕ) × (0 < length rest) × (part_text symbols rows ++ rest ≡ text symbols more)
part_begins symbols rows more p = (
  lines_of symbols p.0 ++ count_line (length more),
  (let l = length-append (lines_of symbols p.0) (count_line (length more)) in omega (arith, l)),
  sym (append_assoc (part_text symbols rows) (lines_of symbols p.0) (count_line (length more))) ∙ ap (λ t. t ++ count_line (length more)) (part-append symbols rows p.0 ∙ ap (part_text symbols) p.1),
)

-- what was written of a text is a front of what it begins
front_of_more : (start after : SinkTold) (some rest all : List ℕ) (how : Written) → some ++ rest ≡ all → TakesSo start after some how → TakesFront start.taken after.taken all
front_of_more start after some rest all written.Whole e t = record { front = some; left = rest; whole = sym e; taken = t }
front_of_more start after some rest all written.Broken e t = record { front = t.0.front; left = t.0.left ++ rest; whole = sym e ∙ (ap (λ l. l ++ rest) t.0.whole ∙ append_assoc t.0.front t.0.left rest); taken = t.0.taken }
front_of_more start after some rest all written.Short e t = record { front = t.front; left = t.left ++ rest; whole = sym e ∙ (ap (λ l. l ++ rest) t.whole ∙ append_assoc t.front t.left rest); taken = t.taken }

-- and so is what was offered of it
offers_of_more : (start after : SinkTold) (some rest all : List ℕ) (how : Written) → some ++ rest ≡ all → OffersSo start after some how → OffersFront start.offered after.offered all
offers_of_more start after some rest all written.Whole e o = subst (λ t. OffersFront start.offered after.offered t) e (offers_first start.offered after.offered some rest o)
offers_of_more start after some rest all written.Broken e o = subst (λ t. OffersFront start.offered after.offered t) e (offers_more_front start.offered after.offered some rest o)
offers_of_more start after some rest all written.Short e o = subst (λ t. OffersFront start.offered after.offered t) e (offers_more_front start.offered after.offered some rest o)

part_of_more : (start after : SinkTold) (some rest all : List ℕ) → some ++ rest ≡ all → TakesPart start.taken after.taken some → TakesPart start.taken after.taken all
part_of_more start after some rest all e t = record {
  front = t.front;
  left = t.left ++ rest;
  some_left = let l = length-append t.left rest in let s = t.some_left in omega (arith, l, s);
  whole = sym e ∙ (ap (λ l. l ++ rest) t.whole ∙ append_assoc t.front t.left rest);
  taken = t.taken;
}

module _ (plan : PlanView) (inputs : List Input) (script : List Order) (symbols : List (List ℕ)) (start after : SinkTold) where
  -- no memory was to be had, and the first rows of the output were written
  pub lives_short : (rows : List Row) (how : Written) → IsPrefix rows (output plan inputs) → IsWritten start after (part_text symbols rows) how → LivesSo plan inputs script symbols start after live.OutOfMemory
  lives_short rows how p w =
      let begins = part_begins symbols rows (output plan inputs) p in
      record {
        answers = tt;
        front = front_of_more start after (part_text symbols rows) begins.0 (output_text plan inputs symbols) how begins.2 w.takes;
        offers = offers_of_more start after (part_text symbols rows) begins.0 (output_text plan inputs symbols) how begins.2 w.offers;
        later = w.later;
      }

  -- the run was whole
  whole_lives : (events : List Event) (rows : List Row) (how : Written) → EndsSo plan inputs script events rows drained.Whole → IsWritten start after (text symbols rows) how → LivesSo plan inputs script symbols start after (answered how drained.Whole)
  whole_lives events rows how ends w = go how (subst (λ (l : List Row). IsWritten start after (text symbols l) how) ends.output w)
    where
      front : (how : Written) → IsWritten start after (output_text plan inputs symbols) how → TakesFront start.taken after.taken (output_text plan inputs symbols)
      front how w = front_of_more start after (output_text plan inputs symbols) [] (output_text plan inputs symbols) how (append-nil (output_text plan inputs symbols)) w.takes

      offers : (how : Written) → IsWritten start after (output_text plan inputs symbols) how → OffersFront start.offered after.offered (output_text plan inputs symbols)
      offers how w = offers_of_more start after (output_text plan inputs symbols) [] (output_text plan inputs symbols) how (append-nil (output_text plan inputs symbols)) w.offers

      go : (how : Written) → IsWritten start after (output_text plan inputs symbols) how → LivesSo plan inputs script symbols start after (answered how drained.Whole)
      go written.Whole w = record { answers = w.takes; front = front written.Whole w; offers = offers written.Whole w; later = w.later }
      go written.Broken w = record { answers = w.takes; front = front written.Broken w; offers = offers written.Broken w; later = w.later }
      go written.Short w = record { answers = tt; front = front written.Short w; offers = offers written.Short w; later = w.later }

  -- a pair was lost
  lost_lives : (events : List Event) (rows : List Row) (stage part : ℕ) (how : Written) → EndsSo plan inputs script events rows (drained.Lost stage part) → IsWritten start after (part_text symbols rows) how
      → LivesSo plan inputs script symbols start after (answered how (drained.Lost stage part))
  lost_lives events rows stage part how ends w = go how w
    where
      begins : (rest : List ℕ) × (0 < length rest) × (part_text symbols rows ++ rest ≡ output_text plan inputs symbols)
      begins = part_begins symbols rows (output plan inputs) (take_prefix rows (output plan inputs) ends.front)

      front : (how : Written) → IsWritten start after (part_text symbols rows) how → TakesFront start.taken after.taken (output_text plan inputs symbols)
      front how w = front_of_more start after (part_text symbols rows) begins.0 (output_text plan inputs symbols) how begins.2 w.takes

      offers : (how : Written) → IsWritten start after (part_text symbols rows) how → OffersFront start.offered after.offered (output_text plan inputs symbols)
      offers how w = offers_of_more start after (part_text symbols rows) begins.0 (output_text plan inputs symbols) how begins.2 w.offers

      go : (how : Written) → IsWritten start after (part_text symbols rows) how → LivesSo plan inputs script symbols start after (answered how (drained.Lost stage part))
      go written.Whole w = record { answers = record { events = events; rows = rows; lost = ends; put = w.takes }; front = front written.Whole w; offers = offers written.Whole w; later = w.later }
      go written.Broken w = record { answers = (part_of_more start after (part_text symbols rows) begins.0 (output_text plan inputs symbols) begins.2 w.takes.0, w.takes.1); front = front written.Broken w; offers = offers written.Broken w; later = w.later }
      go written.Short w = record { answers = tt; front = front written.Short w; offers = offers written.Short w; later = w.later }

  pub lives : (events : List Event) (rows : List Row) (how : Written) (d : Drained) → EndsSo plan inputs script events rows d → IsWritten start after (text_so (ends_whole d) symbols rows) how → LivesSo plan inputs script symbols start after (answered how d)
  lives events rows how drained.Whole ends w = whole_lives events rows how ends w
  lives events rows how (drained.Lost stage part) ends w = lost_lives events rows stage part how ends w

  -- the run ended, some of its rows were written first, and then the rest
  pub finishes : (before : SinkTold) (was is : Written) (ended : EndedView) (rows : List Row) (first : ℕ) (d : Drained) (whole : Bool) (answer : Live)
      → rows ≡ ended.rows → d ≡ ended.drained → whole ≡ ends_whole d → answer ≡ answered is d → IsEnded plan inputs script ended
      → WritesOn before after was (lines_of symbols (drop first rows) ++ (if whole then count_line (length rows) else [])) is
      → IsWritten start before (part_text symbols (take first ended.rows)) was → LivesSo plan inputs script symbols start after answer
  finishes before was is ended rows first d whole answer same_rows same_end same_whole same_answer ends on w =
      let all_rows : WritesOn before after was (lines_of symbols (drop first ended.rows) ++ (if whole then count_line (length ended.rows) else [])) is =
      subst (λ (l : List Row). WritesOn before after was (lines_of symbols (drop first l) ++ (if whole then count_line (length l) else [])) is) same_rows on in
      let all : WritesOn before after was (lines_of symbols (drop first ended.rows) ++ (if ends_whole ended.drained then count_line (length ended.rows) else [])) is =
      subst (λ (b : Bool). WritesOn before after was (lines_of symbols (drop first ended.rows) ++ (if b then count_line (length ended.rows) else [])) is) (same_whole ∙ ap ends_whole same_end) all_rows in
      subst (λ (a : Live). LivesSo plan inputs script symbols start after a) (sym (same_answer ∙ ap (answered is) same_end))
      (lives ended.events ended.rows is ended.drained ends (written_rest before after start was is (ends_whole ended.drained) symbols ended.rows first all w))

  -- with a safe script and no fault of the wire all was put, or no memory was to be had
  pub completes : (answer : Live) → AnswersSo plan inputs script symbols start after answer → IsSafe script → (Rose start.faults after.faults → ⊥) → (answer ≡ live.Done) ⊎ (answer ≡ live.OutOfMemory)
  completes live.Done a safe still = inl refl
  completes (live.Lost stage part) a safe still = absurd (a.lost.unsafe safe)
  completes live.WriteFault a safe still = absurd (still a.1)
  completes live.OutOfMemory a safe still = inr refl

-- nothing was put, for want of memory
pub lives_unstarted : (plan : PlanView) (inputs : List Input) (script : List Order) (symbols : List (List ℕ)) (told : SinkTold) → LivesSo plan inputs script symbols told told live.OutOfMemory
lives_unstarted plan inputs script symbols told = record { answers = tt; front = record { front = []; left = output_text plan inputs symbols; whole = refl; taken = takes_nothing told.taken }; offers = record { front = []; left = output_text plan inputs symbols; whole = refl; offers = offers_none told.offered }; later = omega arith }

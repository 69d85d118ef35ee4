-- The course of `sift`: it reads a file of trades, writes the records that are accepted, and saves those that are refused.
use Rattle.std.specs.Prelude.{ℕ, List, Some}
use Rattle.command_course.specs.Course.{Reading, Way, reads}
use Rattle.command_course.specs.Lines.{or_line}
use Rattle.command_course.specs.Answers.{AnswerView}
use Rattle.command_course.specs.declared.answer.Ending.TheVariants.{Done}
use Rattle.trade_sift.specs.Sifted.{Parts, parted}
use Rattle.trade_text.specs.Kinds.{trades_kind}
use Rattle.trade_text.specs.Limits.{max_input_bytes}
use Rattle.trade_text.specs.Messages.{fault_of}

-- the parts of a file of trades with these bytes, or the line by which it is refused, whatever its records
abbrev pub parts_from : List ℕ → List ℕ → Reading Parts
parts_from name bytes = or_line (fault_of trades_kind) name (parted bytes)

-- the parts of a file of trades
abbrev pub parts_way : (trades : List ℕ) → Way Parts
parts_way trades next = reads max_input_bytes parts_from trades next

-- the answer: what is kept is written, and what is refused is saved in a file of this name before
abbrev pub sift_answer : (rejects : List ℕ) → Parts → AnswerView
sift_answer rejects parts = record { text = parts.kept; ending = Done; saved = Some (rejects, parts.rejects) }

-- `sift`: the trades are read, and then both texts are there
abbrev pub sift_way : (trades rejects : List ℕ) → Way AnswerView
sift_way trades rejects next = parts_way trades (λ parts. next (sift_answer rejects parts))

use Rattle.std.proofs.Common.{◌≡◌, ◌+◌, ◌++◌, drop, map}
use Rattle.reach_finder.specs.Found.{passage_of}
use Rattle.reach_text.specs.Trace.{asked_in, stages_text}
use Rattle.reach_text.proofs.trace.push_stages.Given as goal

abbrev pub invariant-loop-stage : goal.invariant-loop-stage
invariant-loop-stage l = record {
  number : l.number ≡ l.stage-index + 1;
  text : l.text.items ++ stages_text (asked_in l.question) l.number (drop l.stage-index l.question.stages.now) (map passage_of l.passages)
      ≡ l.initial.text.items ++ stages_text (asked_in l.question) 1 l.question.stages.now (map passage_of l.passages);
}

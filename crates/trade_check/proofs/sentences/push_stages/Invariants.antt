use Rattle.std.proofs.Common.{◌≡◌, ◌+◌, ◌++◌, drop}
use Rattle.std.specs.Prelude.{string_bytes}
use Rattle.trade_check.specs.Symbols.{kept_sentences}
use Rattle.trade_check.proofs.sentences.push_stages.Given as goal

abbrev pub invariant-loop-place : goal.invariant-loop-place
invariant-loop-place l =
    string_bytes l.text ++ kept_sentences l.given (l.place + 1) (drop l.place l.stages) ≡ string_bytes l.initial.text ++ kept_sentences l.given 1 l.stages

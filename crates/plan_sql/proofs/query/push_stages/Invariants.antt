use Rattle.std.proofs.Common.{◌≡◌, ◌++◌, drop}
use Rattle.std.specs.Prelude.{string_bytes}
use Rattle.plan_sql.specs.Query.{stages_sql}
use Rattle.plan_sql.proofs.query.push_stages.Given as goal

abbrev pub invariant-loop-place : goal.invariant-loop-place
invariant-loop-place l =
    string_bytes l.text ++ stages_sql l.place (drop l.place l.stages) ≡ string_bytes l.initial.text ++ stages_sql 0 l.stages

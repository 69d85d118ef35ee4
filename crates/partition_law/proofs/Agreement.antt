-- What a plan gives of a key is what its operators give in one partition each.
use Rattle.std.proofs.Common.{◌≡◌, ◌∙◌, ◌++◌, [], List, ap, sym}
use Rattle.std.proofs.lemmas.List.Elements.{filter-append}
use Rattle.tuple_edge.specs.declared.row.Key.{Key}
use Rattle.tuple_edge.specs.declared.row.Row.{Row}
use Rattle.op_spec.specs.Keys.{is_key, key_of}
use Rattle.op_spec.specs.declared.spec.By.{By}
use Rattle.op_spec.specs.declared.spec.By.TheVariants as by
use Rattle.op_spec.specs.declared.spec.OpSpec.{OpSpec}
use Rattle.trade_text.specs.TradesView.{IsTrades, TradesView}
use Rattle.plan_reader.specs.PlanView.{PlanView}
use Rattle.partition_law.specs.Law.{IsSound, PartitionsAgree, given, last_key, operators, rows_of_key}
use Rattle.partition_law.proofs.Choosing.{chosen}
use Rattle.partition_law.proofs.Machine.{output_through}
use Rattle.partition_law.proofs.Stages.{chosen_alike, early_alike, early_in_one, early_through, last_test, late_alike, late_in_one, late_through, cut_row}
use Rattle.partition_law.proofs.Warned.{dealing_by, not_warned}

-- what operators give of a key, each in one partition
abbrev in_one : List OpSpec → List Row → Key → List Row
in_one specs rows k = rows_of_key (last_key specs) k (early_in_one specs rows ++ late_in_one specs rows [])

of_key : (key : By) (k : Key) (rows : List Row) → rows_of_key key k rows ≡ chosen (last_test key k) rows
of_key key k rows = chosen_alike (λ r. is_key (key_of key r) k) (λ r. last_test key k (key_of by.Both r)) rows (λ r. ap (λ (q : Key). is_key q k) (sym (cut_row key r)))

as_in_one : (plan : PlanView) (trades : TradesView) (k : Key) → IsTrades trades → IsSound plan trades → given plan trades k ≡ in_one (operators plan) trades.rows k
as_in_one plan trades k good sound =
    let key : By = last_key (operators plan) in
    let known = not_warned plan sound.limits.stages sound.warned in
    let early = early_through plan.stages trades.rows in
    let late = late_through plan.stages trades.rows [] in
    let alone = late_in_one (operators plan) trades.rows [] in
    ap (rows_of_key key k) (output_through plan trades sound.limits good sound.takes)
    ∙ filter-append (λ r. is_key (key_of key r) k) early late
    ∙ ap (λ (rows : List Row). rows_of_key key k rows ++ rows_of_key key k late) (early_alike plan.stages trades.rows known.0)
    ∙ ap (λ (rows : List Row). rows_of_key key k (early_in_one (operators plan) trades.rows) ++ rows)
    (of_key key k late ∙ late_alike key k 1 plan.stages trades.rows known.0 (dealing_by 1 plan.stages known.1) ∙ sym (of_key key k alone))
    ∙ sym (filter-append (λ r. is_key (key_of key r) k) (early_in_one (operators plan) trades.rows) alone)

pub agree : PartitionsAgree
agree one other trades k good sound beside same =
    as_in_one one trades k good sound ∙ ap (λ (specs : List OpSpec). in_one specs trades.rows k) same ∙ sym (as_in_one other trades k good beside)

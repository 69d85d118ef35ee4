-- What is known of the stages of a plan that isn't warned of for its partitions.
use Rattle.std.proofs.Common.{◌≡◌, ◌+◌, Bool, true, false, List, [], ◌∷◌, ◌++◌, Option, Some, None, length, refl, sym, ◌∙◌}
use Rattle.std.specs.Prelude.{◌||◌}
use Rattle.std.specs.List.{list_any}
use Rattle.std.proofs.lemmas.Bool.{false≢true}
use Rattle.std.proofs.lemmas.List.Folds.{list_any-append}
use Rattle.op_spec.specs.declared.spec.By.TheVariants as by
use Rattle.plan_reader.specs.declared.stage.Stage.{Stage}
use Rattle.plan_check.specs.Laws.{AreUnsplit, QuietPlansDealNone}
use Rattle.plan_check.specs.Order.{dealing}
use Rattle.plan_check.specs.Stages.{numbered}
use Rattle.plan_check.specs.Sums.{splits_keys}
use Rattle.plan_check.specs.Warnings.{dealt_leaving, first_sums, hold_warnings, is_of_parts, last_window, leaving_warnings, mark_warnings, own_warnings, part_warnings, split_warnings, stage_warnings, sums_warnings, time_warnings, where_so}
use Rattle.plan_check.specs.declared.warning.Numbered.{Numbered}
use Rattle.plan_check.specs.declared.warning.Warning.{Warning}
use Rattle.plan_check.specs.declared.warning.Warning.TheVariants as warning

neither : (a b : Bool) → (a || b) ≡ false → (a ≡ false) × (b ≡ false)
neither true b is = absurd (false≢true (sym is))
neither false b is = (refl, is)

-- none of some warnings is of partitions
abbrev IsQuiet : List Warning → Type 0
IsQuiet found = list_any is_of_parts found ≡ false

of_two : (one another : List Warning) → IsQuiet (one ++ another) → IsQuiet one × IsQuiet another
of_two one another quiet = neither (list_any is_of_parts one) (list_any is_of_parts another) (sym (list_any-append is_of_parts one another) ∙ quiet)

-- ---- keys that stay together

no_split : (t : Bool) (s : Numbered) → IsQuiet (where_so t (warning.SplitKeys s)) → t ≡ false
no_split true s quiet = absurd (false≢true (sym quiet))
no_split false s quiet = refl

are_unsplit : (sums window : Option Numbered) (before stages : List Stage) → IsQuiet (stage_warnings sums window before stages) → AreUnsplit stages
are_unsplit sums window before [] quiet = tt
are_unsplit sums window before (s ∷ stages) quiet =
    let n : Numbered = numbered (length before + 1) s in
    let all = of_two (own_warnings sums window before n) (stage_warnings (first_sums sums n) (last_window window n) (before ++ s ∷ []) stages) quiet in
    let keys : List Warning = split_warnings n ++ sums_warnings sums n in
    let times : List Warning = time_warnings window (before ++ s ∷ []) n in
    let own = of_two (keys ++ times) (part_warnings before n) all.0 in
    let first = of_two keys times own.0 in
    let split = of_two (split_warnings n) (sums_warnings sums n) first.0 in
    (no_split (splits_keys s) n split.0, are_unsplit (first_sums sums n) (last_window window n) (before ++ s ∷ []) stages all.1)

no_leaving : (dealt : Option Numbered) → IsQuiet (dealt_leaving dealt) → dealt ≡ None
no_leaving None quiet = refl
no_leaving (Some dealt) quiet = absurd (false≢true (sym quiet))

-- ---- a plan

pub deal_none : QuietPlansDealNone
deal_none plan quiet =
    let stages : List Warning = stage_warnings None None [] plan.stages in
    let leaving : List Warning = leaving_warnings plan.stages in
    let settings : List Warning = mark_warnings plan ++ hold_warnings plan in
    let all = of_two (settings ++ stages) leaving quiet in
    let both = of_two settings stages all.0 in
    (are_unsplit None None [] plan.stages both.1, no_leaving (dealing by.Both 1 plan.stages) all.1)

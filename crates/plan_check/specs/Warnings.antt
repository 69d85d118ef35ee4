-- What is warned of, in a plan and in a failure script.
use Rattle.std.specs.Prelude.{ℕ, ◌+◌, ◌&&◌, ◌||◌, nat_le, nat_lt, not, Bool, true, false, List, [], ◌∷◌, ◌++◌, Option, None, Some, flat_map, length, max, unwrap_or, if◌then◌else◌}
use Rattle.std.specs.List.{list_any}
use Rattle.op_spec.specs.declared.spec.By.TheVariants as by
use Rattle.plan_reader.specs.PlanView.{PlanView}
use Rattle.plan_reader.specs.declared.stage.Stage.{Stage}
use Rattle.pair_machine.specs.declared.order.Order.{Order}
use Rattle.failure_script.specs.Orders.{are_of_one_pair, are_unsafe, is_reached}
use Rattle.node_tasks.specs.Limits.{portion}
use Rattle.plan_check.specs.Limits.{long_mark}
use Rattle.plan_check.specs.Order.{dealing, is_window, joins_keys, key_behind}
use Rattle.plan_check.specs.Stages.{numbered}
use Rattle.plan_check.specs.Sums.{adds_up, counts_again, splits_keys}
use Rattle.plan_check.specs.declared.warning.Numbered.{Numbered}
use Rattle.plan_check.specs.declared.warning.Warning.{Warning}
use Rattle.plan_check.specs.declared.warning.Warning.TheVariants as warning

-- a warning where it is so, and none where it isn't
abbrev pub where_so : Bool → Warning → List Warning
where_so so w = if so then w ∷ [] else []

-- ---- the settings of a plan

-- whether some node of a plan merges several edges: ingress has two sources, or a stage has several partitions
abbrev pub merges_edges : PlanView → Bool
merges_edges plan = nat_lt 1 plan.version || list_any (λ s. nat_lt 1 s.parts) plan.stages

-- a long mark, where some node merges several edges and so waits for marks
abbrev pub mark_warnings : PlanView → List Warning
mark_warnings plan = where_so (nat_lt long_mark plan.mark && merges_edges plan) (warning.LongMark plan.mark)

-- a hold by which ingress ends its turns before it has made as many rows as a turn may
abbrev pub hold_warnings : PlanView → List Warning
hold_warnings plan = where_so (nat_lt plan.hold portion) (warning.ShortHold plan.hold)

-- ---- its stages

-- a stage whose keys are split
abbrev pub split_warnings : Numbered → List Warning
split_warnings s = where_so (splits_keys s.stage) (warning.SplitKeys s)

-- a stage that adds up rows which are sums already, those of an earlier stage, if there is one
abbrev pub sums_warnings : Option Numbered → Numbered → List Warning
sums_warnings None s = []
sums_warnings (Some sums) s = where_so (adds_up s.stage.op) (warning.SumsOfSums s sums)

-- the first stage in whose rows a trade counts again and again, where this one follows
abbrev pub first_sums : Option Numbered → Numbered → Option Numbered
first_sums None s = if counts_again s.stage.op then Some s else None
first_sums (Some sums) s = Some sums

-- the last `window`, where this stage follows
abbrev pub last_window : Option Numbered → Numbered → Option Numbered
last_window window s = if is_window s.stage.op then Some s else window

-- a stage, the last of these, that adds up rows of several keys of the last `window` before it: these come in the order in which windows close
abbrev pub time_warnings : Option Numbered → List Stage → Numbered → List Warning
time_warnings None stages s = []
time_warnings (Some window) stages s = where_so (adds_up s.stage.op && joins_keys window.number stages) (warning.TimeOrder s window)

-- a stage that adds up rows of one key from several partitions of a stage behind a `window`
abbrev pub dealt_warnings : Option Numbered → Numbered → List Warning
dealt_warnings None s = []
dealt_warnings (Some dealt) s = where_so (adds_up s.stage.op) (warning.PartOrder s dealt)

-- the same of the stages before it
abbrev pub part_warnings : List Stage → Numbered → List Warning
part_warnings before s = dealt_warnings (dealing (key_behind s.stage.op) 1 before) s

-- the warnings of a stage behind others: the first of those that gives sums again and again is known, and the last `window`
abbrev pub own_warnings : Option Numbered → Option Numbered → List Stage → Numbered → List Warning
own_warnings sums window before s = split_warnings s ++ sums_warnings sums s ++ time_warnings window (before ++ s.stage ∷ []) s ++ part_warnings before s

-- the warnings of stages behind others
abbrev pub stage_warnings : Option Numbered → Option Numbered → List Stage → List Stage → List Warning
stage_warnings sums window before [] = []
stage_warnings sums window before (s ∷ stages) =
    own_warnings sums window before (numbered (length before + 1) s)
    ++ stage_warnings (first_sums sums (numbered (length before + 1) s)) (last_window window (numbered (length before + 1) s)) (before ++ s ∷ []) stages

-- rows of one key that leave a plan from several partitions of a stage behind a `window`
abbrev pub dealt_leaving : Option Numbered → List Warning
dealt_leaving None = []
dealt_leaving (Some dealt) = warning.LeavingOrder dealt ∷ []

-- the same of all stages of a plan: a key that leaves is that of the last stage, and of a `keep` both columns
abbrev pub leaving_warnings : List Stage → List Warning
leaving_warnings stages = dealt_leaving (dealing by.Both 1 stages)

-- the warnings of a plan
abbrev pub plan_warnings : PlanView → List Warning
plan_warnings plan = mark_warnings plan ++ hold_warnings plan ++ stage_warnings None None [] plan.stages ++ leaving_warnings plan.stages

-- whether a warning is of partitions
abbrev pub is_of_parts : Warning → Bool
is_of_parts (warning.SplitKeys s) = true
is_of_parts (warning.PartOrder s dealt) = true
is_of_parts (warning.LeavingOrder dealt) = true
is_of_parts w = false

-- whether a plan is warned of for its partitions: these are the warnings under which its rows may be others, or in another order, in one partition
abbrev pub is_warned_of_parts : PlanView → Bool
is_warned_of_parts plan = list_any is_of_parts (plan_warnings plan)

-- ---- scripts

-- whether an order has its replica down once so many items are merged: it was due, and the replica isn't due back
abbrev pub is_down_at : ℕ → Order → Bool
is_down_at items o = nat_le o.at items && not (is_reached items o.back)

-- a stop whose partner may be down when it is due: each replica counts what it has merged itself, so none of them knows
abbrev pub stop_warnings : Order → Order → List Warning
stop_warnings o partner = where_so (not o.kill && is_down_at o.at partner) (warning.Alone o false o.at partner)

-- Whether an order has its replica down once so many items are merged, while the partner is down by another order: a stop that is due no sooner than the other order
-- waits until the partner is back.
abbrev pub is_down_beside : Order → ℕ → Order → Bool
is_down_beside o items partner = is_down_at items partner && (partner.kill || nat_lt partner.at o.at)

-- A back whose partner may be down when it is due. One that is asked for early is due once its replica is down.
abbrev pub back_warnings : Order → Option ℕ → Order → List Warning
back_warnings o None partner = []
back_warnings o (Some back) partner = where_so (is_down_beside o (max o.at back) partner) (warning.Alone o true (max o.at back) partner)

-- an order beside its partner's
abbrev pub alone_warnings : Order → Order → List Warning
alone_warnings o partner = stop_warnings o partner ++ back_warnings o o.back partner

-- two orders: whether they make the script unsafe, and where they are of one pair, which may be due while its partner is down
abbrev pub two_warnings : Order → Order → List Warning
two_warnings x y = where_so (are_unsafe x y) (warning.Unsafe x y) ++ (if are_of_one_pair x.node y.node then alone_warnings x y ++ alone_warnings y x else [])

-- the warnings of each two orders of a script, in the order of its lines
abbrev pub script_warnings : List Order → List Warning
script_warnings [] = []
script_warnings (x ∷ orders) = flat_map (two_warnings x) orders ++ script_warnings orders

-- all warnings of a plan, and of a script where there is one
abbrev pub warnings : PlanView → Option (List Order) → List Warning
warnings plan script = plan_warnings plan ++ script_warnings (unwrap_or script [])

-- A script is warned of as not safe exactly where it isn't safe.
use Rattle.std.proofs.Common.{◌≡◌, Bool, true, false, cond, List, [], ◌∷◌, ◌++◌, Option, Some, None, refl, sym, ap, subst, ◌∙◌}
use Rattle.std.specs.Prelude.{◌&&◌, ◌||◌, flat_map, max, not}
use Rattle.std.specs.Bool.{Decides}
use Rattle.std.specs.List.{list_any}
use Rattle.std.proofs.lemmas.List.Folds.{list_any-append}
use Rattle.pair_machine.specs.Scripts.{IsSafe}
use Rattle.pair_machine.specs.declared.order.Order.{Order}
use Rattle.failure_script.specs.Orders.{are_of_one_pair, are_safe, are_unsafe}
use Rattle.failure_script.proofs.SafeScripts.{are_safe_Decides}
use Rattle.plan_check.specs.Laws.{UnsafeScriptsAreTold, is_unsafe}
use Rattle.plan_check.specs.Warnings.{alone_warnings, back_warnings, script_warnings, stop_warnings, two_warnings, where_so}
use Rattle.plan_check.specs.declared.warning.Warning.{Warning}
use Rattle.plan_check.specs.declared.warning.Warning.TheVariants as warning

-- ---- truth values

or_false : (a : Bool) → (a || false) ≡ a
or_false true = refl
or_false false = refl

not_or : (a b : Bool) → not (a || b) ≡ (not a && not b)
not_or true b = refl
not_or false b = refl

-- ---- the warnings of two orders

any_where : (so : Bool) (w : Warning) → list_any is_unsafe (where_so so w) ≡ (so && is_unsafe w)
any_where true w = or_false (is_unsafe w)
any_where false w = refl

never : (so : Bool) → (so && false) ≡ false
never true = refl
never false = refl

always : (so : Bool) → (so && true) ≡ so
always true = refl
always false = refl

stop_none : (o partner : Order) → list_any is_unsafe (stop_warnings o partner) ≡ false
stop_none o partner = any_where _ (warning.Alone o false o.at partner) ∙ never _

back_none : (o : Order) (back : Option _) (partner : Order) → list_any is_unsafe (back_warnings o back partner) ≡ false
back_none o None partner = refl
back_none o (Some back) partner = any_where _ (warning.Alone o true (max o.at back) partner) ∙ never _

alone_none : (o partner : Order) → list_any is_unsafe (alone_warnings o partner) ≡ false
alone_none o partner = list_any-append is_unsafe (stop_warnings o partner) (back_warnings o o.back partner) ∙ rw (stop_none o partner, back_none o o.back partner) refl

both_none : (x y : Order) (t : Bool) → list_any is_unsafe (cond t (alone_warnings x y ++ alone_warnings y x) []) ≡ false
both_none x y true = list_any-append is_unsafe (alone_warnings x y) (alone_warnings y x) ∙ rw (alone_none x y, alone_none y x) refl
both_none x y false = refl

two_any : (x y : Order) → list_any is_unsafe (two_warnings x y) ≡ are_unsafe x y
two_any x y =
    list_any-append is_unsafe (where_so (are_unsafe x y) (warning.Unsafe x y)) (cond (are_of_one_pair x.node y.node) (alone_warnings x y ++ alone_warnings y x) [])
    ∙ rw (any_where (are_unsafe x y) (warning.Unsafe x y), both_none x y (are_of_one_pair x.node y.node)) (or_false (are_unsafe x y && true) ∙ always (are_unsafe x y))

-- ---- a script

beside_any : (x : Order) (orders : List Order) → list_any is_unsafe (flat_map (two_warnings x) orders) ≡ list_any (are_unsafe x) orders
beside_any x [] = refl
beside_any x (y ∷ orders) = list_any-append is_unsafe (two_warnings x y) (flat_map (two_warnings x) orders) ∙ rw (two_any x y, beside_any x orders) refl

none_is_safe : (orders : List Order) → not (list_any is_unsafe (script_warnings orders)) ≡ are_safe orders
unfolding are_safe
none_is_safe [] = refl
none_is_safe (x ∷ orders) =
    ap not (list_any-append is_unsafe (flat_map (two_warnings x) orders) (script_warnings orders))
    ∙ not_or (list_any is_unsafe (flat_map (two_warnings x) orders)) (list_any is_unsafe (script_warnings orders))
    ∙ rw (beside_any x orders, none_is_safe orders) refl

pub told : UnsafeScriptsAreTold
told orders = subst (λ (b : Bool). Decides b (IsSafe orders)) (sym (none_is_safe orders)) (are_safe_Decides orders)

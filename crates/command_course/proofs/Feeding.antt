-- One way behind the other: a value is read, and then what goes on with it.
use Rattle.std.proofs.Common.{ℕ, ◌≡◌, List, refl, ap, sym, subst, Some, Ok, Err}
use Rattle.std.specs.Prelude.{◌≢◌, IfErr, IfOk, Result, if◌then◌else◌}
use Rattle.std.proofs.lemmas.Bool.{eq-eqb}
use Rattle.merge_order.proofs.Choices.{nat_not}
use Rattle.plan_reader.specs.PlanView.{PlanView}
use Rattle.command_course.specs.Course.{Between, Came, Refuses, Way}
use Rattle.command_course.specs.Feeds.{for_plan}
use Rattle.command_course.specs.Lines.{not_in_plan_line}
use Rattle.command_course.specs.Steps.{GivesBy, IsRefusedBy, StopsBy, StopsOf}
use Rattle.command_course.specs.declared.stop.Stop.{Stop}
use Rattle.command_course.specs.declared.stop.Stop.TheVariants as stop
use Rattle.command_course.proofs.Courses.{came_here, came_on, refused_here, stops_on}
use Rattle.flux_outside.specs.Told.{FilesTold}

-- what a call gave that went on with a value
pub ok_gives : {A B C : Type 0} (view : C → B) (old mid new : FilesTold) (way : Way A) (onward : A → Way B) (value : A) (result : Result C Stop) → mid.contents ≡ old.contents
    → GivesBy old mid way value → IfOk result (λ c. GivesBy mid new (onward value) (view c)) → IfOk result (λ c. GivesBy old new (λ next. way (λ x. onward x next)) (view c))
ok_gives view old mid new way onward value (Ok c) same first second = λ next.
    came_on old mid new (way (λ x. onward x next)) (onward value next) (next (view c)) same (first (λ x. onward x next)) (second next)
ok_gives view old mid new way onward value (Err why) same first second = tt

-- why it stopped
pub err_stops : {A B C : Type 0} (old mid new : FilesTold) (way : Way A) (onward : A → Way B) (value : A) (result : Result C Stop) → mid.contents ≡ old.contents
    → GivesBy old mid way value → IfErr result (λ why. StopsBy mid new (onward value) why) → IfErr result (λ why. StopsBy old new (λ next. way (λ x. onward x next)) why)
err_stops old mid new way onward value (Ok c) same first second = tt
err_stops old mid new way onward value (Err why) same first second = λ next.
    stops_on old mid new (way (λ x. onward x next)) (onward value next) why same (first (λ x. onward x next)) (second next)

-- a value that is given on the spot
pub ok_gives_here : {B C : Type 0} (view : C → B) (told : FilesTold) (value : B) (result : Result C Stop)
    → IfOk result (λ c. view c ≡ value) → IfOk result (λ c. GivesBy told told (λ next. next value) (view c))
ok_gives_here view told value (Ok c) is = λ next. came_here told (next value) (next (view c)) (ap next (sym is))
ok_gives_here view told value (Err why) is = tt

pub err_short_here : {B C : Type 0} (told : FilesTold) (value : B) (result : Result C Stop)
    → IfErr result (λ why. why ≡ stop.OutOfMemory) → IfErr result (λ why. StopsBy {A = B} told told (λ next. next value) why)
err_short_here told value (Ok c) want = tt
err_short_here told value (Err why) want = λ next. subst (StopsOf told told (next value)) (sym want) (Between (next value) (came_here told (next value) (next value) refl))

-- what holds over all files and calls holds over these
pub ok_at : {C : Type 0} (P : FilesTold → C → Type 0) (told : FilesTold) (result : Result C Stop)
    → IfOk result (λ c. (told : FilesTold) → P told c) → IfOk result (P told)
ok_at P told (Ok c) all = all told
ok_at P told (Err why) all = tt

pub err_at : {C : Type 0} (P : FilesTold → Stop → Type 0) (told : FilesTold) (result : Result C Stop)
    → IfErr result (λ why. (told : FilesTold) → P told why) → IfErr result (P told)
err_at P told (Ok c) all = tt
err_at P told (Err why) all = all told

-- what a call gave, that is what goes on
pub ok_gives_value : {A B C : Type 0} (view : C → B) (old new : FilesTold) (way : Way A) (of : A → B) (value : A) (result : Result C Stop)
    → GivesBy old new way value → IfOk result (λ c. view c ≡ of value) → IfOk result (λ c. GivesBy old new (λ next. way (λ x. next (of x))) (view c))
ok_gives_value view old new way of value (Ok c) first is = λ next.
    subst (λ there. Came old new (way (λ x. next (of x))) (next there)) (sym is) (first (λ x. next (of x)))
ok_gives_value view old new way of value (Err why) first is = tt

-- a want of memory after a value was read
pub err_short_by : {A B C : Type 0} (old new : FilesTold) (way : Way A) (onward : A → Way B) (value : A) (result : Result C Stop)
    → GivesBy old new way value → IfErr result (λ why. why ≡ stop.OutOfMemory) → IfErr result (λ why. StopsBy old new (λ next. way (λ x. onward x next)) why)
err_short_by old new way onward value (Ok c) first want = tt
err_short_by old new way onward value (Err why) first want = λ next.
    subst (StopsOf old new (way (λ x. onward x next))) (sym want) (Between (onward value next) (first (λ x. onward x next)))

-- movements for a plan of version 1
pub cash_not_in_plan : (told : FilesTold) (name : List ℕ) (plan : PlanView) (why : Stop) → plan.version ≡ 1
    → IsRefusedBy why (not_in_plan_line name) (Unit {0}) → StopsBy told told (for_plan (Some name) plan) why
cash_not_in_plan told name plan why one by = λ next.
    let refuses : for_plan (Some name) plan next ≡ Refuses (not_in_plan_line name) =
    ap (λ b. if b then Refuses (not_in_plan_line name) else next plan) (eq-eqb plan.version 1 one) in
    subst (λ course. StopsOf told told course why) (sym refuses) (refused_here told (not_in_plan_line name) why (Unit {0}) by)

-- movements for a plan that has them
pub cash_in_plan : (told : FilesTold) (name : List ℕ) (plan : PlanView) → plan.version ≢ 1 → GivesBy told told (for_plan (Some name) plan) plan
cash_in_plan told name plan other = λ next.
    let goes : for_plan (Some name) plan next ≡ next plan =
    ap (λ b. if b then Refuses (not_in_plan_line name) else next plan) (nat_not plan.version 1 other) in
    came_here told (for_plan (Some name) plan next) (next plan) goes

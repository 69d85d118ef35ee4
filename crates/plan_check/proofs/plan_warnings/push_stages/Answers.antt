use Rattle.std.proofs.Common.{ℕ, ◌≡◌, ◌≤◌, ◌<◌, ◌+◌, ◌++◌, ◌∷◌, ◌∙◌, [], Bool, true, false, List, None, Option, Some, ap, arith, append_assoc, drop, get_or, length, sym, take}
use Rattle.std.specs.Prelude.{if◌then◌else◌}
use Rattle.std.specs.Option.{IfSome}
use Rattle.std.proofs.lemmas.List.{drop_more, length-take-le, take_more}
use Rattle.plan_reader.specs.declared.stage.Stage.{Stage}
use Rattle.plan_check.specs.Order.{is_window}
use Rattle.plan_check.specs.Stages.{numbered}
use Rattle.plan_check.specs.Warnings.{first_sums, last_window, own_warnings, stage_warnings}
use Rattle.plan_check.specs.declared.warning.Numbered.{Numbered}
use Rattle.plan_check.specs.declared.warning.Warning.{Warning}
use Rattle.plan_check.proofs.plan_warnings.push_stages.Goals as goal

-- with the warnings of one stage more, the rest is that of the stages behind it
next_stage : (found new : List Warning) (sums window : Option Numbered) (stages : List Stage) (place : ℕ) (d : Stage) → place < length stages
    → new ≡ found ++ own_warnings sums window (take place stages) (numbered (place + 1) (get_or stages place d))
    → new ++ stage_warnings (first_sums sums (numbered (place + 1) (get_or stages place d))) (last_window window (numbered (place + 1) (get_or stages place d))) (take (place + 1) stages) (drop (place + 1) stages)
    ≡ found ++ stage_warnings sums window (take place stages) (drop place stages)
next_stage found new sums window stages place d here is =
    let s : Stage = get_or stages place d in
    let front : List Stage = take place stages in
    let behind : List Stage = drop (place + 1) stages in
    let own : ℕ → List Warning = λ n. own_warnings sums window front (numbered n s) in
    let rest : ℕ → List Stage → List Warning = λ n before. stage_warnings (first_sums sums (numbered n s)) (last_window window (numbered n s)) before behind in
    let count : place + 1 ≡ length front + 1 = omega (arith, length-take-le place stages (omega (arith, here))) in
    ap (λ (items : List Warning). items ++ rest (place + 1) (take (place + 1) stages)) is
    ∙ append_assoc found (own (place + 1)) (rest (place + 1) (take (place + 1) stages))
    ∙ ap (λ (n : ℕ). found ++ (own n ++ rest n (take (place + 1) stages))) count
    ∙ ap (λ (before : List Stage). found ++ (own (length front + 1) ++ rest (length front + 1) before)) (take_more stages place d here)
    ∙ ap (λ (later : List Stage). found ++ stage_warnings sums window front later) (sym (drop_more stages place d here))

-- the last window stands before the next stage
by_kind : (t : Bool) (window : Option Numbered) (place : ℕ) (s : Stage) → IfSome window (λ w. w.number ≤ place)
    → IfSome (if t then Some (numbered (place + 1) s) else window) (λ w. w.number ≤ place + 1)
by_kind true window place s before = omega arith
by_kind false None place s before = tt
by_kind false (Some window) place s before = omega (arith, before)

pub loop-place-preserved : goal.loop-place-preserved
loop-place-preserved c =
    let stages = c.args.stages.now in
    let place = c.loop-place.place in
    record {
      found = rw (c.first_sums-sums.ensures, c.last_window-window.ensures) (next_stage c.loop-place.found.items c.push_stage.new.found.items c.loop-place.sums c.loop-place.window stages place _ c.loop-place-test.true c.in_ok-push_stage.ensures)
          ∙ c.loop-place.invariant.found;
      window = rw c.last_window-window.ensures (by_kind _ c.loop-place.window place _ c.loop-place.invariant.window);
    }

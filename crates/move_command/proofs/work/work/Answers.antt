use Rattle.std.proofs.Common.{◌≡◌, ◌≤◌, ◌<◌, ◌+◌, ◌-◌, ◌∷◌, ◌∙◌, [], List, Result, Ok, Err, ap, arith, drop, get_or, length, length-drop, subst, sym}
use Rattle.std.specs.Prelude.{All, OnOk}
use Rattle.std.proofs.lemmas.List.{drop_all, drop_more}
use Rattle.std.proofs.lemmas.List.Elements.{All-drop}
use Rattle.tuple_edge.specs.declared.row.Row.{Row}
use Rattle.op_spec.specs.Times.{IsTime}
use Rattle.bucket_move.specs.BucketsView.{BucketsView, Feeds}
use Rattle.bucket_move.specs.Shifts.{DontFall}
use Rattle.bucket_move.specs.declared.moves.Shift.{Shift}
use Rattle.move_command.specs.Moved.{calls_of, made}
use Rattle.move_command.proofs.Working.{Reaches, reaches_end, reaches_moved, reaches_not, sooner}
use Rattle.move_command.proofs.work.work.Goals as goal
use Rattle.move_command.proofs.work.work.Goals.{then-shift-count+in_ok-rest, else-shift-count}

abbrev none : Shift
none = record { at = 0; bucket = 0; to = 0 }

pub loop-shift-preserved : goal.loop-shift-preserved
loop-shift-preserved g c =
    let n = length c.args.rows.now in
    let k = c.loop-shift.shift-index in
    let shifts = c.args.shifts.now in
    let s = get_or shifts k none in
    let left = drop (k + 1) shifts in
    let inv = c.loop-shift.invariant in
    let passed = c.loop-shift.passed in
    let rest = c.loop-shift.rest.now in
    let whole = calls_of 0 c.args.rows.now (made n shifts) in
    let split : drop k shifts ≡ s ∷ left = drop_more shifts k none c.loop-shift-test.true in
    let order : DontFall passed (s ∷ left) = subst (DontFall passed) split inv.order in
    elim c.if-shift-count.branch [
      | then-shift-count+in_ok-rest w ↦
          let there : s.at ≤ n = w.if-shift-count.true in
          let rest_is : c.if-shift-count.rest.now ≡ drop (s.at - passed) rest = ap (λ b. b.now) w.rest-is ∙ w.in_ok-rest.ensures.rest in
          let fewer : length c.if-shift-count.rest.now ≡ length rest - (s.at - passed) = ap length rest_is ∙ length-drop (s.at - passed) rest in
          record {
            whole = ap (λ (b : BucketsView). b.failed) w.buckets-is ∙ w.in_ok-rest.ensures.whole;
            stage = ap (λ (b : BucketsView). b.stage) w.buckets-is ∙ w.work_upto.ensures.stage ∙ inv.stage;
            timely = subst (λ (rows : List Row). All (λ r. IsTime r.time) rows) (sym rest_is) (All-drop (λ r. IsTime r.time) (s.at - passed) rest inv.timely);
            many = omega (arith, fewer, w.passed-is, inv.many, order.0, there);
            order = subst (λ p. DontFall p left) (sym w.passed-is) order.1;
            reaches = λ stage first.
                reaches_moved stage c.loop-shift.buckets w.work_upto.new.buckets c.if-shift-count.buckets passed c.if-shift-count.passed n rest c.if-shift-count.rest.now s (drop k shifts) left whole
                split there w.buckets-is w.passed-is rest_is (w.in_ok-rest.ensures.stands stage) (inv.reaches stage first);
          }
      | else-shift-count w ↦
          let beyond : n < s.at = w.if-shift-count.false in
          let rest_is : c.if-shift-count.rest.now ≡ rest = ap (λ b. b.now) w.rest-is in
          record {
            whole = ap (λ (b : BucketsView). b.failed) w.buckets-is ∙ inv.whole;
            stage = ap (λ (b : BucketsView). b.stage) w.buckets-is ∙ inv.stage;
            timely = subst (λ (rows : List Row). All (λ r. IsTime r.time) rows) (sym rest_is) inv.timely;
            many = omega (arith, ap length rest_is, w.passed-is, inv.many);
            order = subst (λ p. DontFall p left) (sym w.passed-is) (sooner passed s.at left order.0 order.1);
            reaches = λ stage first.
                reaches_not stage c.loop-shift.buckets c.if-shift-count.buckets passed c.if-shift-count.passed n rest c.if-shift-count.rest.now s (drop k shifts) left whole
                split beyond w.buckets-is w.passed-is rest_is (inv.reaches stage first);
          }
    ]

pub returns : goal.returns
returns g c =
    let n = length c.args.rows.now in
    let shifts = c.args.shifts.now in
    let passed = c.loop-shift.passed in
    let rest = c.loop-shift.rest.now in
    let whole = calls_of 0 c.args.rows.now (made n shifts) in
    then c.feed.result (λ goes stage first.
    let ended = subst (λ (l : List Shift). Reaches stage c.loop-shift.buckets (calls_of passed rest (made n l)) whole) (drop_all c.loop-shift.shift-index shifts c.loop-shift-test.false)
    (c.loop-shift.invariant.reaches stage first) in
    reaches_end stage c.loop-shift.buckets c.feed.new.self (Feeds rest ∷ []) whole (goes stage) ended) c.feed.ensures.stands
  where
    then : {A E : Type 0} {P Q : Type 0} → (r : Result A E) → (P → Q) → OnOk r P → OnOk r Q
    then (Ok x) f p = f p
    then (Err e) f p = tt

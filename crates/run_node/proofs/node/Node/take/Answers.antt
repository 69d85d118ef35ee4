use Rattle.std.proofs.Common.{Ok, Err, Result, Bool, true, false, ◌≡◌, ◌≢◌, ◌∙◌, ◌++◌, ◌∷◌, [], length, ap, sym, arith}
use Rattle.std.specs.Prelude.{OnErr}
use Rattle.run_node.specs.Takes.{HasTaken, Takes}
use Rattle.run_node.proofs.Takes.{length_more, stays_same, steps_more}
use Rattle.run_node.proofs.node.Node.take.Goals as goal

-- what holds whatever the error is holds at an error
on_err : {T E P : Type 0} (r : Result T E) → P → OnErr r P
on_err (Ok x) p = tt
on_err (Err e) p = p

failed : {E : Type 0} (r : Result Bool E) (e : E) → r ≡ Err e → r ≢ Ok true
failed r e was z = let w : Err e ≡ Ok true = sym was ∙ z in cc

took_none : {E : Type 0} (r : Result Bool E) (b : Bool) → r ≡ Ok b → b ≡ false → r ≢ Ok true
took_none r b was none z = let w = sym (was ∙ ap Ok none) ∙ z in cc

pub loop-count-preserved : goal.loop-count-preserved
loop-count-preserved g c =
    let so_far = c.loop-count.invariant in
    let next = c.take_next.ensures.takes (c.in_ok-take_next.was ∙ ap Ok c.if-not-branch.false) in
    (so_far.0 ++ next.0 ∷ [], length_more so_far.0 next.0 c.loop-count.count so_far.1, steps_more (Takes g.A.Acts.id) so_far.0 next.0 c.args.self.now c.loop-count.self c.take_next.new.self so_far.2 next.1, next.1.name ∙ so_far.3)

pub returns-then-not-branch-clause-takes : goal.returns-then-not-branch-clause-takes
returns-then-not-branch-clause-takes g c =
    let so_far = c.loop-count.invariant in record {
      between = c.loop-count.self;
      taken = so_far.0;
      many = so_far.1;
      takes = so_far.2;
      stays = c.take_next.ensures.stays (took_none c.take_next.result c.in_ok-take_next.field-0 c.in_ok-take_next.was c.if-not-branch.true);
    }

pub returns-in_err-take_next-clause-failed : goal.returns-in_err-take_next-clause-failed
returns-in_err-take_next-clause-failed g c =
    let so_far = c.loop-count.invariant in
    let run : HasTaken g.A.Acts.id c.loop-count.count c.args.self.now c.take_next.new.self = record {
      between = c.loop-count.self;
      taken = so_far.0;
      many = so_far.1;
      takes = so_far.2;
      stays = c.take_next.ensures.stays (failed c.take_next.result c.in_err-take_next.field-0.0 c.in_err-take_next.was);
    } in
    on_err c.from_residual.result (c.loop-count.count, run)

pub returns-clause-takes : goal.returns-clause-takes
returns-clause-takes g c =
    let so_far = c.loop-count.invariant in
    let all : length so_far.0 ≡ c.args.most = omega (arith, so_far.1, c.loop-count.auto.count-end, c.loop-count-test.false) in record {
      between = c.loop-count.self;
      taken = so_far.0;
      many = all;
      takes = so_far.2;
      stays = stays_same g.A.Acts.id c.loop-count.self;
    }

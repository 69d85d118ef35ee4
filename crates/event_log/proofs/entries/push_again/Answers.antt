use Rattle.std.proofs.Common.{◌≡◌, ◌≤◌, ◌-◌, ◌∷◌, [], ◌++◌, suc, arith, subst, sym}
use Rattle.event_log.specs.declared.stored.Stored.TheVariants as stored
use Rattle.event_log.specs.Stored.{CameAgain}
use Rattle.event_log.proofs.Written.{again_more, one_again}
use Rattle.event_log.proofs.entries.push_again.Goals as goal

pub loop-left-preserved : goal.loop-left-preserved
loop-left-preserved c =
    let most : 1 ≤ c.min-most.result = omega (arith, c.loop-left-test.true, c.min-most.ensures) in
    let few : c.min-most.result ≤ c.loop-left.left = omega (arith, c.min-most.ensures) in
    let pushed : c.push_reserved.new.self.items ≡ c.loop-left.list.items ++ stored.Again (c.min-most.result - 1) ∷ [] = c.push_reserved.ensures.items in
    let all : suc (c.min-most.result - 1) ≡ c.min-most.result = omega (arith, most) in
    let more : CameAgain c.loop-left.list.items c.min-most.result c.push_reserved.new.self.items
    = subst (λ n. CameAgain c.loop-left.list.items n c.push_reserved.new.self.items) all
    (subst (CameAgain c.loop-left.list.items (suc (c.min-most.result - 1))) (sym pushed) (one_again c.loop-left.list.items (c.min-most.result - 1))) in
    record {
      again = again_more c.args.list.now.items c.loop-left.list.items c.push_reserved.new.self.items (c.args.times - c.loop-left.left) c.min-most.result _
          c.loop-left.invariant.again more (omega (arith, few, c.loop-left.invariant.left));
      left = omega (arith, c.loop-left.invariant.left);
      len = omega (arith, most, few, c.loop-left.invariant.len, c.push_reserved.ensures.len);
      capacity = omega (arith, c.loop-left.invariant.capacity, c.push_reserved.ensures.capacity);
    }

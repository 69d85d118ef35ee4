use Rattle.std.proofs.Common.{◌≡◌, ◌+◌, ◌<◌, ◌∙◌, ◌++◌, ◌∷◌, [], ap, sym, length, take, arith}
use Rattle.std.proofs.lemmas.List.{take_more}
use Rattle.input_faults.proofs.AllFacts.{length_front}
use Rattle.input_faults.proofs.all.record_lines.Goals as goal

pub loop-nth-preserved : goal.loop-nth-preserved
loop-nth-preserved g c =
    let l = c.loop-nth in
    let faults = c.args.faults.now in
    let within : l.nth < length faults = omega arith in
    let size = length_front faults l.nth within in
    let fault = c.index-faults-nth.result in
    let step : take (l.nth + 1) faults ≡ take l.nth faults ++ fault ∷ [] = take_more faults l.nth fault within ∙ ap (λ f. take l.nth faults ++ f ∷ []) (sym c.index-faults-nth.is) in
    record {
      so_far = rw step (c.in_ok-told.ensures.told (take l.nth faults) (let e : l.nth + 2 ≡ length (take l.nth faults) + 2 = omega (arith, size) in e) l.invariant.so_far);
      few = omega (arith, c.in_ok-told.ensures.few);
    }

use Rattle.std.proofs.Common.{◌≡◌, ◌∙◌, Some, ap, sym}
use Rattle.std.specs.Prelude.{slice_get}
use Rattle.run_node.proofs.Places.{get_there}
use Rattle.run_node.proofs.Takes.{pass_gives}
use Rattle.run_node.proofs.receiving.pass_at.Goals as goal

pub returns : goal.returns
returns g c = λ end arrival there next.
    let ends = c.args.ins.now.items in
    let old = c.index_mut.result.now in
    let at : slice_get ends c.args.place ≡ Some old = get_there ends c.args.place old c.requires.within ∙ ap Some (sym c.index_mut.ensures.value) in
    pass_gives ends c.args.place old c.pass.new.self end arrival at there next c.pass.ensures

use Rattle.std.proofs.Common.{◌∙◌, Vec, ap}
use Rattle.run_rehearsal.proofs.Merging.{text_so}
use Rattle.run_rehearsal.proofs.rehearsal.write_rehearsal.Goals as goal

pub returns : goal.returns
returns c = λ s stands.
    ap (λ (v : Vec _ _). v.items) c.into_bytes.ensures.value ∙ (c.in_ok-text.ensures ∙ text_so c.args.core.now s stands c.args.told.now c.args.orders.now c.args.rows c.args.end c.args.all)

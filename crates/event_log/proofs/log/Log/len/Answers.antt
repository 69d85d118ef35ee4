use Rattle.std.proofs.Common.{◌∙◌, length, sym, ap}
use Rattle.event_log.specs.Views.{LogView}
use Rattle.event_log.proofs.Pushing.{length-reading}
use Rattle.event_log.proofs.log.Log.len.Goals as goal

pub returns : goal.returns
returns c = sym c.self.invariant.counted ∙ sym (length-reading _ _ c.self.inside.entries.entries) ∙ ap (λ (v : LogView). length v.entries) c.self.view_is

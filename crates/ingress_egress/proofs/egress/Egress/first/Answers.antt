use Rattle.std.proofs.Common.{◌≡◌, ◌∙◌, ◌++◌, ◌∷◌, [], ap, subst, sym}
use mathlib.Core.List.{IsPrefix}
use Rattle.std.specs.Prelude.{MatchOption, slice_get}
use Rattle.ingress_egress.specs.EgressView.{EgressView}
use Rattle.ingress_egress.proofs.Handing.{first_held}
use Rattle.ingress_egress.proofs.egress.Egress.first.Goals as goal

pub returns : goal.returns
returns c =
    subst (λ (v : EgressView). MatchOption c.row_at.result (v.gone ≡ v.emitted) (λ row. IsPrefix (v.gone ++ row ∷ []) v.emitted)) c.self.view_is
    (first_held c.self.inside.gone.items c.self.inside.held.items c.self.inside.skipped c.row_at.result (ap (λ xs. slice_get xs c.self.inside.skipped) (sym c.deref.ensures.value) ∙ sym c.row_at.ensures))

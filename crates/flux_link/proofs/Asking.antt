-- One call of an inlet after others.
use Rattle.flux_link.specs.LossyInlets.{Leads}
use Rattle.flux_link.specs.declared.arrival.Arrival.{Arrival}
use Rattle.std.proofs.Common.{List, [], ◌∷◌, ◌++◌, Option, Some, refl, subst, sym}

module _ {I : Type 0} (receives : I → Option Arrival → I → Type 0) where
  pub leads_on : (arrivals : List Arrival) (before now after : I) (arrival : Arrival)
      → Leads receives arrivals before now → receives now (Some arrival) after → Leads receives (arrivals ++ arrival ∷ []) before after
  leads_on [] before now after arrival same call = (after, subst (λ i. receives i (Some arrival) after) (sym same) call, refl)
  leads_on (first ∷ later) before now after arrival leads call = (leads.0, leads.1, leads_on later leads.0 now after arrival leads.2 call)

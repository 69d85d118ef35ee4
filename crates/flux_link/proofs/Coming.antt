-- What an inlet gave and has still to come stays together, from call to call.
use Rattle.flux_link.specs.Arrivals.{KeepsAll}
use Rattle.flux_link.specs.declared.arrival.Arrival.{Arrival}
use Rattle.std.proofs.Common.{List, Option, None, Some, ◌∙◌, subst}
use Rattle.tuple_edge.specs.declared.packet.Packet.{Packet}

pub keeps_on : (first : Option (List Packet)) (given : List Arrival) (second : Option (List Packet)) (given_then : List Arrival) (third : Option (List Packet)) (given_last : List Arrival)
    → KeepsAll first given second given_then → KeepsAll second given_then third given_last → KeepsAll first given third given_last
keeps_on None given second given_then third given_last h k = tt
keeps_on (Some packets) given second given_then third given_last h k =
    let on = subst (λ o. KeepsAll o given_then third given_last) h.1 k in (on.0, on.1, on.2 ∙ h.2)

-- Lists of events within a script: their fronts, and what goes on without a failure or a request.
use Rattle.std.proofs.Common.{List, [], ◌∷◌, ◌++◌, Result, Ok, Err}
use Rattle.pair_machine.specs.Flow.{Flow}
use Rattle.pair_machine.specs.Machine.{State, opening, step}
use Rattle.pair_machine.specs.Messages.{Refusal}
use Rattle.pair_machine.specs.Scripts.{AreAllowed, AreWithin, DoesNotRepeat, HappenOnce}
use Rattle.pair_machine.specs.declared.order.Order.{Order}
use Rattle.tuple_edge.specs.declared.event.Event.{Event}
use Rattle.pair_machine.proofs.Lists.{each_left}

allowed_front : (f : Flow) (script : List Order) (xs ys : List Event) (r : Result State Refusal) → AreAllowed f script (xs ++ ys) r → AreAllowed f script xs r
allowed_front f script [] ys r h = tt
allowed_front f script (x ∷ xs) ys (Ok s) h = (h.0, allowed_front f script xs ys (step f s x) h.1)
allowed_front f script (x ∷ xs) ys (Err e) h = tt

once_front : (xs ys : List Event) → HappenOnce (xs ++ ys) → HappenOnce xs
once_front [] ys h = tt
once_front (x ∷ xs) ys h = (each_left (DoesNotRepeat x) xs ys h.0, once_front xs ys h.1)

pub within_front : (f : Flow) (script : List Order) (xs ys : List Event) → AreWithin f script (xs ++ ys) → AreWithin f script xs
within_front f script xs ys h = record { allowed = allowed_front f script xs ys (Ok opening) h.allowed; once = once_front xs ys h.once }

use Rattle.input_faults.proofs.Orders.{order-follows}
use Rattle.input_faults.proofs.Places.{statement-ok, version-ok}
use Rattle.input_faults.proofs.law.places_are_the_grammar.Goals as goal

pub returns : goal.returns
returns c = record { first = version-ok; later = statement-ok; orders = order-follows }

use Rattle.flux_producer.proofs.Dues.{due_least, due_none}
use Rattle.flux_producer.proofs.producer.Producer.due.Goals as goal

pub returns-clause-least : goal.returns-clause-least
returns-clause-least c = due_least c.args.self.now c.first_due.result c.first_due.ensures

pub returns-clause-none : goal.returns-clause-none
returns-clause-none c = due_none c.args.self.now c.first_due.result c.first_due.ensures

use Rattle.trio_core.proofs.Linked.{joins, puts}
use Rattle.trio_core.proofs.sent.list.Goals as goal

pub returns-in-Some-clause-listed : goal.returns-in-Some-clause-listed
returns-in-Some-clause-listed c = puts c.list_at.result c.args.to c.args.links.now.items c.deref.result.now c.list_at.new.links.items c.in-Some.link c.args.place c.deref.ensures.value c.in-Some.ensures.found c.list_at.ensures.listed

pub returns-in-None-clause-listed : goal.returns-in-None-clause-listed
returns-in-None-clause-listed c = joins c.add_link.result c.args.to c.args.links.now.items c.deref.result.now c.add_link.new.links.items c.args.place c.deref.ensures.value c.in-None.ensures.found c.add_link.ensures.listed

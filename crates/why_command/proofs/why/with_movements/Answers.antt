use Rattle.std.proofs.Common.{None, Ok, refl}
use Rattle.why_command.specs.Courses.{movements_way}
use Rattle.why_command.proofs.Ways.{came_here, gives_here, reads_answered, reads_none, stops_here}
use Rattle.why_command.proofs.why.with_movements.Goals as goal

pub returns-in-None-clause-gives : goal.returns-in-None-clause-gives
returns-in-None-clause-gives g c =
    let told = g.F.Files.told c.args.files.now in
    let way = movements_way c.args.trades.now None c.args.wanted c.args.plan.now c.args.kept in
    rw c.in-None.is (gives_here told told way way (λ next. came_here told (way next) (way next) refl) c.without_movements.result c.without_movements.ensures.text)

pub returns-in-None-clause-stops : goal.returns-in-None-clause-stops
returns-in-None-clause-stops g c =
    let told = g.F.Files.told c.args.files.now in
    let way = movements_way c.args.trades.now None c.args.wanted c.args.plan.now c.args.kept in
    rw c.in-None.is (stops_here told told way way (λ next. came_here told (way next) (way next) refl) c.without_movements.result c.without_movements.ensures.refused)

pub returns-in-None-clause-reads : goal.returns-in-None-clause-reads
returns-in-None-clause-reads g c =
    let told = g.F.Files.told c.args.files.now in
    reads_answered told told c.args.wanted (movements_way c.args.trades.now None c.args.wanted c.args.plan.now c.args.kept) c.without_movements.result (reads_none told (Ok c.args.wanted) tt) c.without_movements.ensures.refused

pub returns-in-Some-clause-stops : goal.returns-in-Some-clause-stops
returns-in-Some-clause-stops g c = rw c.in-Some.is c.of_movements.ensures.stops

use Rattle.command_course.proofs.Courses.{stops_want}
use Rattle.command_course.proofs.inputs.input_at.Goals as goal

pub returns-in-Err-OutOfMemory-clause-stops : goal.returns-in-Err-OutOfMemory-clause-stops
returns-in-Err-OutOfMemory-clause-stops g c =
    stops_want (g.F.Files.told c.args.files.now) (g.F.Files.told c.read.new.self) (g.I.Input.most c.args.input.now) (g.I.Input.reading c.args.input.now) c.args.name.now
    (rw c.most.ensures at (rw c.in-Err-OutOfMemory.field-0-is at c.in-Err-OutOfMemory.ensures.called))

use Rattle.std.proofs.Common.{Ok}
use Rattle.command_course.proofs.Courses.{stops_unread, stops_want}
use Rattle.look_command.proofs.Tries.{tried_long, tried_whole}
use Rattle.look_command.proofs.trying.tried_at.Goals as goal

pub returns-in-Err-Failed-clause-stops : goal.returns-in-Err-Failed-clause-stops
returns-in-Err-Failed-clause-stops g c =
    let joined = rw c.most.ensures at (rw c.in-Err-Failed.field-0-is at c.in-Err-Failed.ensures.called) in
    stops_unread (g.F.Files.told c.args.files.now) (g.F.Files.told c.read.new.self) (g.I.Input.most c.args.input.now)
    (λ it bytes. Ok (g.I.Input.reading c.args.input.now it bytes)) c.args.name.now c.unread.result joined c.unread.ensures

pub returns-in-Err-OutOfMemory-clause-stops : goal.returns-in-Err-OutOfMemory-clause-stops
returns-in-Err-OutOfMemory-clause-stops g c =
    let joined = rw c.most.ensures at (rw c.in-Err-OutOfMemory.field-0-is at c.in-Err-OutOfMemory.ensures.called) in
    stops_want (g.F.Files.told c.args.files.now) (g.F.Files.told c.read.new.self) (g.I.Input.most c.args.input.now)
    (λ it bytes. Ok (g.I.Input.reading c.args.input.now it bytes)) c.args.name.now joined

pub returns-in-Ok-TooLong-clause-gives : goal.returns-in-Ok-TooLong-clause-gives
returns-in-Ok-TooLong-clause-gives g c =
    let joined = rw c.most.ensures at c.in-Ok-TooLong.ensures.called in
    let read = rw c.new-bytes.ensures.items at (rw c.most.ensures at (rw c.in-Ok-TooLong.field-0-is at c.in-Ok-TooLong.ensures.got)) in
    tried_long (g.F.Files.told c.args.files.now) (g.F.Files.told c.read.new.self) (g.I.Input.most c.args.input.now)
    (g.I.Input.reading c.args.input.now) c.args.name.now c.too_long.result c.tried.result c.read.new.into.items c.in-Ok-TooLong.seen read joined c.too_long.ensures c.tried.ensures

pub returns-clause-gives : goal.returns-clause-gives
returns-clause-gives g c =
    let joined = rw c.most.ensures at c.in-Ok-Whole.ensures.called in
    let read = rw c.new-bytes.ensures.items at (rw c.most.ensures at (rw c.in-Ok-Whole.field-0-is at c.in-Ok-Whole.ensures.got)) in
    tried_whole (g.F.Files.told c.args.files.now) (g.F.Files.told c.read.new.self) (g.I.Input.most c.args.input.now)
    (g.I.Input.reading c.args.input.now) c.args.name.now c.value.result c.tried-in-Ok-Whole.result c.read.new.into.items read joined
    (rw c.deref.ensures.value at c.value.ensures.gives) (rw c.deref.ensures.value at c.value.ensures.stops) c.tried-in-Ok-Whole.ensures

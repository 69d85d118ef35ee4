use Rattle.std.proofs.Common.{◌∙◌, ap}
use Rattle.flux_outside.specs.Memory.{MemFilesView, names}
use Rattle.flux_outside.proofs.mem_files.MemFilesFiles.save.Goals as goal

pub returns-clause-others : goal.returns-clause-others
returns-clause-others c = λ other ne. c.insert_file.ensures.others other ne ∙ ap (λ (s : MemFilesView). names s.files other) c.self.view_is

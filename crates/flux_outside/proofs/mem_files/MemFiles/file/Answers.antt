use Rattle.std.proofs.Common.{◌∙◌, ap, Some, option_map}
use Rattle.flux_outside.specs.Memory.{MemFilesView, names}
use Rattle.flux_outside.proofs.FileNames.{names_is}
use Rattle.flux_outside.proofs.mem_files.MemFiles.file.Goals as goal

pub returns-in-None : goal.returns-in-None
returns-in-None c =
    ap (option_map (λ bytes. bytes.items)) c.in-None.ensures.value ∙ names_is c.self.inside.files c.args.name.now
    ∙ ap (λ (s : MemFilesView). names s.files c.args.name.now) c.self.view_is

pub returns-in-Some : goal.returns-in-Some
returns-in-Some c =
    ap Some c.as_slice.ensures.value ∙ ap (option_map (λ bytes. bytes.items)) c.in-Some.ensures.value ∙ names_is c.self.inside.files c.args.name.now
    ∙ ap (λ (s : MemFilesView). names s.files c.args.name.now) c.self.view_is

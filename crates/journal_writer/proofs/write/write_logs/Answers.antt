use Rattle.std.proofs.Common.{◌∙◌, ◌++◌, List, Vec, string_bytes, ap}
use Rattle.journal_writer.specs.Lines.{lines_of}
use Rattle.journal_writer.specs.Merged.{Named, merged_events}
use Rattle.journal_writer.proofs.Texts.{whole_text}
use Rattle.journal_writer.proofs.write.write_logs.Goals as goal

pub returns : goal.returns
returns c = whole_text c.into_bytes.result.items (string_bytes c.in_ok-text.text) (string_bytes c.write_merged.new.text) (string_bytes c.write_blocks.new.text) _ _
    (ap (λ (v : Vec _ _). v.items) c.into_bytes.ensures.value) c.in_ok-text.ensures
    (c.in_ok-write_merged.ensures ∙ ap (λ (ls : List Named). string_bytes c.in_ok-text.text ++ lines_of (merged_events ls)) (c.deref_mut.ensures.value ∙ c.in_ok-sources.ensures)) c.in_ok-write_blocks.ensures

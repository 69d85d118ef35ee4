use Rattle.std.proofs.Common.{◌≡◌, ◌∙◌, ap, inr, true, false}
use Rattle.csv.specs.Reading.{builder_config, builder_is_flexible, builder_names_headers, builder_trim, with_flexible, with_names_headers}
use Rattle.csv.specs.declared.reader.ReaderBuilder.{ReaderBuilder}
use Rattle.trade_text.proofs.records.open_records.Goals as goal

pub returns : goal.returns
returns c =
    let fr = c.from_reader.ensures in
    let built : c.flexible.result.now ≡ with_flexible (with_names_headers c.new.result false) true =
    c.flexible.ensures ∙ ap (λ (b : ReaderBuilder). with_flexible b true) c.has_headers.ensures in
    record {
      config = fr.config ∙ ap builder_config built ∙ c.new.ensures.config;
      trim = fr.trim ∙ ap builder_trim built ∙ c.new.ensures.trim;
      flexible = fr.flexible ∙ ap builder_is_flexible built;
      ready = inr (inr (fr.has_headers ∙ ap builder_names_headers built, fr.headers));
      source = fr.source;
      at = fr.state;
    }

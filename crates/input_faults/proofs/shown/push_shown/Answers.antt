use Rattle.std.proofs.Common.{◌++◌, ◌∙◌, ℕ, List, ap, take}
use Rattle.std.specs.Prelude.{codes, string_bytes}
use Rattle.std.specs.List.{flat_map}
use Rattle.input_faults.specs.Shown.{closing, max_shown_bytes, shown_byte}
use Rattle.input_faults.proofs.ShownFacts.{three_parts}
use Rattle.input_faults.proofs.shown.push_shown.Goals as goal

pub returns : goal.returns
returns c =
    three_parts (string_bytes c.args.text.now) (string_bytes c.push_str.new.self) (string_bytes c.push_bytes.new.text) (string_bytes c.push_str-2.new.self)
    (codes "\"") (flat_map shown_byte (take max_shown_bytes c.args.word.now)) (closing c.args.word.now)
    c.in_ok-push_str.ensures.bytes
    (c.in_ok-push_bytes.ensures ∙ ap (λ (part : List ℕ). string_bytes c.push_str.new.self ++ flat_map shown_byte part) c.front.ensures)
    (c.in_ok-push_str-2.ensures.bytes ∙ ap (λ (last : List ℕ). string_bytes c.push_bytes.new.text ++ last) c.closing.ensures)

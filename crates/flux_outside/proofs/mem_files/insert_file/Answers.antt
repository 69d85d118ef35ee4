use Rattle.std.proofs.Common.{arith, ◌≡◌, ◌∙◌, ap, sym, option_map, string_bytes}
use Rattle.std.proofs.lemmas.Map.Text.{text_keys}
use Rattle.flux_outside.proofs.FileNames.{names_is}
use Rattle.flux_outside.proofs.mem_files.insert_file.Goals as goal

pub returns-clause-saved : goal.returns-clause-saved
returns-clause-saved c =
    let key : string_bytes c.in_ok-key.key ≡ c.args.name.now = c.in_ok-key.ensures.ok in
    let value = c.in_ok-value.ensures.items in
    sym (names_is c.insert.new.self c.args.name.now) ∙ grind (arith, text_keys)

pub returns-clause-others : goal.returns-clause-others
returns-clause-others c =
    let key : string_bytes c.in_ok-key.key ≡ c.args.name.now = c.in_ok-key.ensures.ok in
    let value = c.in_ok-value.ensures.items in
    λ other ne. sym (names_is c.insert.new.self other) ∙ ap (option_map (λ bytes. bytes.items)) (grind (arith, text_keys)) ∙ names_is c.args.files.now other

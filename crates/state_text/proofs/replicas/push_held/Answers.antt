use Rattle.std.proofs.Common.{◌≡◌, ◌∙◌, ◌∷◌, ◌++◌, append-nil, append_assoc, ap, string_bytes, sym}
use Rattle.std.specs.Fmt.{decimal}
use Rattle.std.specs.List.{flat_map}
use Rattle.state_text.specs.Shown.{held_numbers}
use Rattle.state_text.proofs.Held.{after_comma, held_from}
use Rattle.state_text.proofs.replicas.push_held.Goals as goal

pub loop-number-init : goal.loop-number-init
loop-number-init c =
    let ns = held_numbers c.args.newcomer.now c.args.edge in
    let first = c.in-Some.first.now in
    let rest = c.into_iter-number-iterator.result in
    let shown : ns ≡ first ∷ rest = sym c.held_numbers-numbers.ensures.rest ∙ c.in-Some.ensures.steps ∙ ap (λ r. first ∷ r) (sym c.into_iter-number-iterator.ensures.into_iter_gives) in
    ap (λ b. b ++ flat_map after_comma rest) c.in_ok-write.ensures.bytes
    ∙ append_assoc (string_bytes c.args.text.now) (decimal first) (flat_map after_comma rest)
    ∙ ap (λ t. string_bytes c.args.text.now ++ t) (sym (held_from ns first rest shown))

pub returns : goal.returns
returns c =
    sym (append-nil (string_bytes c.loop-number.text))
    ∙ ap (λ r. string_bytes c.loop-number.text ++ flat_map after_comma r) (sym c.in-None.ensures.steps.0)
    ∙ c.loop-number.invariant

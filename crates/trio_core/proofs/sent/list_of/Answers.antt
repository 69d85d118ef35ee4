use Rattle.std.proofs.Common.{◌∙◌, ap, slice_get, sym}
use Rattle.std.specs.Option.{option_and_then}
use Rattle.trio_core.specs.Sent.{places_in}
use Rattle.trio_core.proofs.Lists.{get_at}
use Rattle.trio_core.proofs.sent.list_of.Goals as goal

pub returns-in-Some : goal.returns-in-Some
returns-in-Some c =
    let xs = c.args.links.now in
    c.places.ensures ∙ ap places_in (sym (get_at xs c.in-Some.link c.index-links-link.result c.in-Some.ensures.within c.index-links-link.is))
    ∙ ap (λ o. places_in (option_and_then (slice_get xs) o)) c.in-Some.ensures.found

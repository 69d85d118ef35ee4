use Rattle.std.proofs.Common.{◌∙◌, ap}
use Rattle.std.specs.Option.{option_and_then}
use Rattle.flux_core.specs.Sent.{body_of, listed_for}
use Rattle.flux_core.proofs.Listing.{body-listed}
use Rattle.flux_core.proofs.sent.body_at.Goals as goal

pub returns-in-None : goal.returns-in-None
returns-in-None c = ap (option_and_then (body_of c.args.log.now.packets)) c.in-None.ensures ∙ body-listed c.args.log.now.packets (listed_for c.args.places.now) c.args.to c.args.nth c.requires

pub returns-in-Some : goal.returns-in-Some
returns-in-Some c = c.body_in.ensures ∙ ap (option_and_then (body_of c.args.log.now.packets)) c.in-Some.ensures ∙ body-listed c.args.log.now.packets (listed_for c.args.places.now) c.args.to c.args.nth c.requires

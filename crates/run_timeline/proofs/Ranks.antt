-- A happening's rank is its letter's place in the key.
use Rattle.std.proofs.Common.{refl}
use Rattle.run_timeline.specs.Keys.{RanksArePlaces}
use Rattle.run_watch.specs.declared.happening.Happening.TheVariants as happening

pub ranks_are_places : RanksArePlaces
ranks_are_places (happening.Failed n inc) = refl
ranks_are_places (happening.Stopped n inc) = refl
ranks_are_places (happening.AskedStop n inc) = refl
ranks_are_places (happening.AskedBack n) = refl
ranks_are_places (happening.Named n term after how) = refl
ranks_are_places (happening.Leads n term) = refl
ranks_are_places (happening.Recalled n inc) = refl
ranks_are_places (happening.Begun n inc) = refl
ranks_are_places (happening.Moved n target entries) = refl
ranks_are_places (happening.CaughtUp n inc entries held) = refl
ranks_are_places (happening.Lost stage part) = refl
ranks_are_places (happening.Regained stage part) = refl

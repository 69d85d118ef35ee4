-- Of a file that is read its fault is told, and nothing else changes.
use Rattle.std.proofs.Common.{ℕ, ◌≡◌, ◌<◌, ◌∙◌, Bool, true, false, List, ◌++◌, length, ap, sym, subst, Option, Some, None, Ok, Err, option_map, string_bytes, arith}
use Rattle.std.specs.Prelude.{IfErr, IfOk, Result, String, codes, if◌then◌else◌, nat_lt}
use Rattle.std.specs.declared.alloc.Global.{Global}
use Rattle.std.proofs.lemmas.Bool.Decides.{nat_tests}
use Rattle.tuple_edge.specs.declared.memory.OutOfMemory.{OutOfMemory}
use Rattle.command_course.specs.Course.{Reading}
use Rattle.command_course.specs.Steps.{IsRefusedBy, StopsOn}
use Rattle.command_course.specs.declared.stop.Stop.{Stop}
use Rattle.command_course.specs.declared.stop.Stop.TheVariants as stop
use Rattle.trade_text.specs.TradesView.{TradesView}
use Rattle.trade_check.specs.Given.{GivenView, given}
use Rattle.look_command.specs.Kinds.{IsTold, IsToldUnlessLong, better, told_from, with_file}

-- the same of a file of trades, with its name and its bytes
pub file_stops : (name bytes : List ℕ) (reading : Reading TradesView) (why : Stop) → StopsOn reading why → StopsOn (with_file name bytes reading) why
file_stops name bytes reading stop.Usage stops = stops
file_stops name bytes reading (stop.Refused line) stops = ap (with_file name bytes) stops
file_stops name bytes reading (stop.CannotRead line) stops = stops
file_stops name bytes reading stop.CannotWrite stops = stops
file_stops name bytes reading (stop.PairLost stage part line) stops = stops
file_stops name bytes reading stop.OutOfMemory stops = stops

module _ (name bytes : List ℕ) (reading : Reading TradesView) (trades : TradesView) where
  pub file_gives : (result : Result GivenView Stop) → reading ≡ Ok trades → IfOk result (λ it. it ≡ given name bytes trades) → IfOk result (λ it. with_file name bytes reading ≡ Ok it)
  file_gives (Ok it) is same = ap (with_file name bytes) is ∙ ap Ok (sym same)
  file_gives (Err why) is same = tt

  pub file_keeps : (result : Result GivenView Stop) → trades.merged ≡ false → IfOk result (λ it. it ≡ given name bytes trades) → IfOk result (λ it. it.trades.merged ≡ false)
  file_keeps (Ok it) is same = ap (λ (g : GivenView). g.trades.merged) same ∙ is
  file_keeps (Err why) is same = tt

  pub file_short : (result : Result GivenView Stop) → IfErr result (λ why. why ≡ stop.OutOfMemory) → IfErr result (λ why. StopsOn (with_file name bytes reading) why)
  file_short (Ok it) want = tt
  file_short (Err why) want = subst (StopsOn (with_file name bytes reading)) (sym want) tt

module _ {A : Type 0} (most : ℕ) (fault : List ℕ → List ℕ → Option (List ℕ)) (reading : List ℕ → List ℕ → Reading A) (name bytes : List ℕ) where
  pub gives_told : (value : A) → reading name bytes ≡ Ok value → told_from most fault reading name bytes ≡ Ok value
  gives_told value is = go (nat_lt most (length bytes))
    where
      go : (long : Bool) → (if long then reading name bytes else better (fault name bytes) (reading name bytes)) ≡ Ok value
      go true = is
      go false = ap (better (fault name bytes)) is

  pub stops_long : (why : Stop) → most < length bytes → StopsOn (reading name bytes) why → StopsOn (told_from most fault reading name bytes) why
  stops_long why long stops =
      let e : nat_lt most (length bytes) ≡ true = grind (arith, nat_tests) in
      subst (λ r. StopsOn r why) (sym (ap (λ b. if b then reading name bytes else better (fault name bytes) (reading name bytes)) e)) stops

  better_refused : (line : String Global) (said : Result (Option (String Global)) OutOfMemory) (own : Stop) → reading name bytes ≡ Err (string_bytes line) → IfOk said (λ f. option_map string_bytes f ≡ fault name bytes)
      → IsTold (stop.Refused line) said own → StopsOn (better (fault name bytes) (reading name bytes)) own
  better_refused line (Ok None) own is told by =
      subst (StopsOn (better (fault name bytes) (reading name bytes))) (sym by) (ap (λ f. better f (reading name bytes)) (sym told) ∙ ap (better None) is)
  better_refused line (Ok (Some text)) own is told by = go own by
    where
      go : (own : Stop) → IsRefusedBy own (string_bytes text ++ codes "\n") (Unit {0}) → StopsOn (better (fault name bytes) (reading name bytes)) own
      go stop.Usage by = absurd by
      go (stop.Refused said) by = ap (λ f. better f (reading name bytes)) (sym told) ∙ ap (better (Some (string_bytes text))) is ∙ ap Err (sym by.0)
      go (stop.CannotRead said) by = absurd by
      go stop.CannotWrite by = absurd by
      go (stop.PairLost stage part said) by = absurd by
      go stop.OutOfMemory by = tt
  better_refused line (Err want) own is told by = subst (StopsOn (better (fault name bytes) (reading name bytes))) (sym by) tt

  better_stops : (why own : Stop) (said : Result (Option (String Global)) OutOfMemory) → StopsOn (reading name bytes) why → IfOk said (λ f. option_map string_bytes f ≡ fault name bytes)
      → IsTold why said own → StopsOn (better (fault name bytes) (reading name bytes)) own
  better_stops stop.Usage own said stops told by = absurd stops
  better_stops (stop.Refused line) own said stops told by = better_refused line said own stops told by
  better_stops (stop.CannotRead line) own said stops told by = absurd stops
  better_stops stop.CannotWrite own said stops told by = absurd stops
  better_stops (stop.PairLost stage part line) own said stops told by = absurd stops
  better_stops stop.OutOfMemory own said stops told by = subst (StopsOn (better (fault name bytes) (reading name bytes))) (sym by) tt

  stops_at : (long : Bool) (why own : Stop) (said : Result (Option (String Global)) OutOfMemory) → StopsOn (reading name bytes) why → IfOk said (λ f. option_map string_bytes f ≡ fault name bytes)
      → IsToldUnlessLong long why said own → StopsOn (if long then reading name bytes else better (fault name bytes) (reading name bytes)) own
  stops_at true why own said stops told by = subst (StopsOn (reading name bytes)) (sym by) stops
  stops_at false why own said stops told by = better_stops why own said stops told by

  pub stops_told : (why own : Stop) (said : Result (Option (String Global)) OutOfMemory) (long : Bool) → long ≡ nat_lt most (length bytes) → StopsOn (reading name bytes) why
      → IfOk said (λ f. option_map string_bytes f ≡ fault name bytes) → IsToldUnlessLong long why said own → StopsOn (told_from most fault reading name bytes) own
  stops_told why own said long long_is stops told by =
      stops_at (nat_lt most (length bytes)) why own said stops told (subst (λ b. IsToldUnlessLong b why said own) long_is by)

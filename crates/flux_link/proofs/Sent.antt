-- What a link gives was sent on it, whatever becomes of it by choices.
use Rattle.flux_link.specs.Arrivals.{arrival_at, numbered, numbered_after, WasSent}
use Rattle.flux_link.specs.Choices.{at_own_place, left_behind, treated_behind, treated}
use Rattle.flux_link.specs.Treating.{arrivals_since, given_but_for}
use Rattle.flux_link.specs.declared.arrival.Arrival.{Arrival}
use Rattle.flux_link.specs.declared.lossy.Choice.{Choice}
use Rattle.flux_link.specs.declared.lossy.Choice.TheVariants.{Pass, Drop, Twice, Behind}
use Rattle.std.proofs.Common.{◌≡◌, zero, suc, ◌+◌, ◌-◌, List, [], ◌∷◌, ◌++◌, length, take, Option, Some, None, refl, ap, sym, subst, ◌∙◌, arith, append_assoc, length-append}
use Rattle.std.proofs.lemmas.List.Elements.{All-append, All-take, All-drop}
use Rattle.std.proofs.lemmas.List.{take_at}
use Rattle.std.specs.Prelude.{All, slice_get, option_to_list}
use Rattle.tuple_edge.specs.declared.packet.Packet.{Packet}
use mathlib.Core.List.{IsPrefix}

module _ {X : Type 0} (P : X → Type 0) where
  of_none : All P []
  of_none k d within = absurd (omega arith)

  of_one : (x : X) → P x → All P (x ∷ [])
  of_one x p zero d within = p
  of_one x p (suc k) d within = absurd (omega arith)

  of_later : (x : X) (xs : List X) → All P (x ∷ xs) → All P xs
  of_later x xs all k d within = all (suc k) d (omega arith)

  of_front : (front xs : List X) → IsPrefix front xs → All P xs → All P front
  of_front front xs prefix all =
      subst (λ l. All P l) (ap (take (length front)) (sym prefix.1) ∙ take_at front prefix.0 (length front) refl) (All-take P (length front) xs all)

slice_get_seam : (before later : List Packet) (packet : Packet) → slice_get (before ++ packet ∷ later) (length before) ≡ Some packet
slice_get_seam [] later packet = refl
slice_get_seam (other ∷ before) later packet = slice_get_seam before later packet

-- each of the packets sent, numbered by its place, was sent
numbered_sent : (sent before packets : List Packet) → before ++ packets ≡ sent → All (WasSent sent) (numbered_after (length before) packets)
numbered_sent sent before [] all = of_none (WasSent sent)
numbered_sent sent before (packet ∷ later) all =
    let longer : length (before ++ packet ∷ []) ≡ length before + 1 = length-append before (packet ∷ []) in
    let place : length before + 1 - 1 ≡ length before = omega arith in
    let first : WasSent sent (arrival_at (length before + 1) packet) = record {
      from_one = omega arith;
      within = omega (arith, ap length all, length-append before (packet ∷ later));
      packet = ap (λ n. slice_get sent n) place ∙ (ap (λ l. slice_get l (length before)) (sym all) ∙ slice_get_seam before later packet);
    } in
    All-append (WasSent sent) (arrival_at (length before + 1) packet ∷ []) (numbered_after (length before + 1) later)
    (of_one (WasSent sent) (arrival_at (length before + 1) packet) first)
    (subst (λ n. All (WasSent sent) (numbered_after n later)) longer
    (numbered_sent sent (before ++ packet ∷ []) later (append_assoc before (packet ∷ []) later ∙ all)))

module _ (P : Arrival → Type 0) where
  own_place_all : (choice : Choice) (arrival : Arrival) → P arrival → All P (at_own_place choice arrival)
  own_place_all Pass arrival p = of_one P arrival p
  own_place_all Drop arrival p = of_none P
  own_place_all Twice arrival p = All-append P (arrival ∷ []) (arrival ∷ []) (of_one P arrival p) (of_one P arrival p)
  own_place_all Behind arrival p = of_none P

  left_behind_all : (choice : Choice) (arrival : Arrival) → P arrival → All P (option_to_list (left_behind choice arrival))
  left_behind_all Pass arrival p = of_none P
  left_behind_all Drop arrival p = of_none P
  left_behind_all Twice arrival p = of_none P
  left_behind_all Behind arrival p = of_one P arrival p

  -- what is given of arrivals is some of them
  treated_all : (choices : List Choice) (held : Option Arrival) (arrivals : List Arrival)
      → All P (option_to_list held) → All P arrivals → All P (treated_behind choices held arrivals)
  treated_all choices held [] of_held all = of_none P
  treated_all [] held (arrival ∷ later) of_held all =
      All-append P (arrival ∷ option_to_list held) (treated_behind [] None later)
      (All-append P (arrival ∷ []) (option_to_list held) (of_one P arrival (all zero arrival (omega arith))) of_held)
      (treated_all [] None later (of_none P) (of_later P arrival later all))
  treated_all (choice ∷ choices) held (arrival ∷ later) of_held all =
      let first : P arrival = all zero arrival (omega arith) in
      All-append P (at_own_place choice arrival ++ option_to_list held) (treated_behind choices (left_behind choice arrival) later)
      (All-append P (at_own_place choice arrival) (option_to_list held) (own_place_all choice arrival first) of_held)
      (treated_all choices (left_behind choice arrival) later (left_behind_all choice arrival first) (of_later P arrival later all))

-- where the first packets sent came, each was sent at its place
pub front_was_sent : (sent : List Packet) (arrivals : List Arrival) → IsPrefix arrivals (numbered sent) → All (WasSent sent) arrivals
front_was_sent sent arrivals prefix = of_front (WasSent sent) arrivals (numbered sent) prefix (numbered_sent sent [] sent refl)

-- what is given by choices of arrivals that were sent was sent
pub given_was_sent : (sent : List Packet) (arrivals before waiting : List Arrival) (choices : List Choice)
    → All (WasSent sent) arrivals → All (WasSent sent) (given_but_for waiting choices (arrivals_since before arrivals))
given_was_sent sent arrivals before waiting choices were_sent =
    All-take (WasSent sent) (length (treated choices (arrivals_since before arrivals)) - length waiting)
    (treated choices (arrivals_since before arrivals))
    (treated_all (WasSent sent) choices None (arrivals_since before arrivals) (of_none (WasSent sent))
    (All-drop (WasSent sent) (length before) arrivals were_sent))

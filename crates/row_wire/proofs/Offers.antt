-- What a wire was offered of texts that are written one behind another.
use Rattle.std.proofs.Common.{ℕ, ◌≡◌, ◌<◌, ◌+◌, List, [], ◌∷◌, ◌++◌, length, Some, None, Option, ⊎_elim, inl, inr, refl, sym, ap, ◌∙◌, append_assoc, append-nil, length-append, arith}
use Rattle.std.proofs.lemmas.Grind.{flat_map-append}
use Rattle.std.proofs.lemmas.List.Elements.{All-append, All-cons, All-nil}
use Rattle.std.specs.List.{flat_map}
use Rattle.std.specs.Prelude.{◌⊎◌}
use Rattle.flux_outside.specs.Outside.{AddsRests, IsOffered}
use Rattle.flux_outside.proofs.Sinks.{OffersTo, offers_last, offers_rests}
pub use Rattle.flux_outside.proofs.Sinks.{offers_nothing}
use Rattle.row_wire.specs.Written.{AddsText, AreLines, IsPut, OffersFront, OffersParts, OffersText, Part}

-- ---- one text

-- nothing of a text was offered yet, or some piece was, where pieces are told
abbrev pub IsBegun : Option (List (List ℕ)) → Option (List (List ℕ)) → List ℕ → List ℕ → Type 0
IsBegun None new text rest = Unit {0}
IsBegun (Some old) None text rest = Unit {0}
IsBegun (Some old) (Some new) text rest = (rest ≡ text) ⊎ (length old < length new)

pub not_begun : (old new : Option (List (List ℕ))) (text : List ℕ) → IsBegun old new text text
not_begun None new text = tt
not_begun (Some old) None text = tt
not_begun (Some old) (Some new) text = inl refl

same_value : {A : Type 0} {x y : A} → Some x ≡ Some y → x ≡ y
same_value e = cc

none_not_some : {A : Type 0} {x : A} → None ≡ Some x → ⊥
none_not_some e = cc

-- how many pieces there are with one more
one_more : (mid new : List (List ℕ)) (piece : List ℕ) → Some new ≡ Some (mid ++ piece ∷ []) → length new ≡ length mid + 1
one_more mid new piece e = ap length (same_value e) ∙ length-append mid (piece ∷ [])

-- a put began it
pub begun_by : (old mid new : Option (List (List ℕ))) (text rest left : List ℕ) → OffersTo old mid text rest → IsOffered mid new rest → IsBegun old new text left
begun_by None mid new text rest left offered more = tt
begun_by (Some old) None new text rest left offered more = absurd offered
begun_by (Some old) (Some mid) None text rest left offered more = tt
begun_by (Some old) (Some mid) (Some new) text rest left offered more =
    let before = ap length offered.added ∙ length-append old offered.pieces in
    let now = one_more mid new rest more in
    inr (omega (arith, before, now))

grown : (old new pieces : List (List ℕ)) → new ≡ old ++ pieces → length old < length new → 0 < length pieces
grown old new pieces added more =
    let all = ap length added ∙ length-append old pieces in
    omega (arith, all, more)

-- pieces that are rests of a text, and are some where the text isn't empty
one_text : (old new : List (List ℕ)) (text : List ℕ) → (rests : AddsRests old new text) → (0 < length text → 0 < length rests.pieces) → AddsText old new text
one_text old new text rests some = record { pieces = rests.pieces; added = rests.added; offered = record { rests = rests.rests; some = some } }

-- where nothing is left of a text, it was offered
pub puts_all : (old new : Option (List (List ℕ))) (text rest : List ℕ) → OffersTo old new text rest → IsBegun old new text rest → length rest ≡ 0 → OffersText old new text
puts_all None new text rest offered begun empty = tt
puts_all (Some old) None text rest offered begun empty = absurd offered
puts_all (Some old) (Some new) text rest offered begun empty =
    let rests = offers_rests (Some old) (Some new) text rest offered in
    one_text old new text rests (λ some. ⊎_elim
    (λ same. absurd (let n = ap length same in omega (arith, n, empty, some)))
    (λ more. grown old new rests.pieces rests.added more) begun)

-- and so where its last piece failed
pub puts_until : (old mid new : Option (List (List ℕ))) (text rest : List ℕ) → OffersTo old mid text rest → IsOffered mid new rest → OffersText old new text
puts_until None mid new text rest offered more = tt
puts_until (Some old) None new text rest offered more = absurd offered
puts_until (Some old) (Some mid) None text rest offered more = absurd (none_not_some more)
puts_until (Some old) (Some mid) (Some new) text rest offered more =
    let rests = offers_last (Some old) (Some mid) (Some new) text rest offered more in
    one_text old new text rests (λ some. grown old new rests.pieces rests.added
    (let before = ap length offered.added ∙ length-append old offered.pieces in let now = one_more mid new rest more in omega (arith, before, now)))

-- lines that were offered are one part
pub one_part : (old new : Option (List (List ℕ))) (text : List ℕ) → AreLines text → OffersText old new text → OffersParts old new text
one_part None new text lines offers = tt
one_part (Some old) None text lines offers = absurd offers
one_part (Some old) (Some new) text lines offers = record {
  parts = record { text = text; pieces = offers.pieces } ∷ [];
  cut = append-nil text;
  added = offers.added ∙ ap (λ pieces. old ++ pieces) (sym (append-nil offers.pieces));
  put = All-cons IsPut (record { text = text; pieces = offers.pieces }) [] (record { lines = lines; offered = offers.offered }) (All-nil IsPut);
}

-- ---- one text behind another

pub offers_none : (old : Option (List (List ℕ))) → OffersParts old old []
offers_none None = tt
offers_none (Some old) = record { parts = []; cut = refl; added = sym (append-nil old); put = All-nil IsPut }

pub offers_both : (old mid new : Option (List (List ℕ))) (a b : List ℕ) → OffersParts old mid a → OffersParts mid new b → OffersParts old new (a ++ b)
offers_both None mid new a b first second = tt
offers_both (Some old) None new a b first second = absurd first
offers_both (Some old) (Some mid) None a b first second = absurd second
offers_both (Some old) (Some mid) (Some new) a b first second = record {
  parts = first.parts ++ second.parts;
  cut = flat_map-append (λ (part : Part). part.text) first.parts second.parts ∙ (ap (λ t. t ++ flat_map (λ (part : Part). part.text) second.parts) first.cut ∙ ap (λ t. a ++ t) second.cut);
  added = second.added ∙ (ap (λ l. l ++ flat_map (λ (part : Part). part.pieces) second.parts) first.added
      ∙ (append_assoc old (flat_map (λ (part : Part). part.pieces) first.parts) (flat_map (λ (part : Part). part.pieces) second.parts)
      ∙ ap (λ l. old ++ l) (sym (flat_map-append (λ (part : Part). part.pieces) first.parts second.parts))));
  put = All-append IsPut first.parts second.parts first.put second.put;
}

-- a front of a text is one of a longer one
pub offers_more_front : (old new : Option (List (List ℕ))) (text more : List ℕ) → OffersFront old new text → OffersFront old new (text ++ more)
offers_more_front old new text more f = record { front = f.front; left = f.left ++ more; whole = ap (λ t. t ++ more) f.whole ∙ append_assoc f.front f.left more; offers = f.offers }

-- a text is a front of a longer one
pub offers_first : (old new : Option (List (List ℕ))) (text more : List ℕ) → OffersParts old new text → OffersFront old new (text ++ more)
offers_first old new text more offers = record { front = text; left = more; whole = refl; offers = offers }

pub offers_whole : (old new : Option (List (List ℕ))) (text : List ℕ) → OffersParts old new text → OffersFront old new text
offers_whole old new text offers = record { front = text; left = []; whole = sym (append-nil text); offers = offers }

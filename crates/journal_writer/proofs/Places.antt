-- What stands at a place of a list, and which clock it has.
use Rattle.std.proofs.Common.{◌≡◌, ◌≢◌, ◌∙◌, ◌<◌, ℕ, zero, suc, true, false, eqb, List, [], ◌∷◌, IfSome, None, Option, Some, get_or, length, slice_get, refl, sym, ap, arith}
use Rattle.std.specs.Option.{option_eq}
use Rattle.std.proofs.lemmas.Bool.{eq-eqb, eqb-true, true≢false}
use Rattle.tuple_edge.specs.declared.node.NodeId.{NodeId}
use Rattle.journal_writer.specs.Lines.{IsFrom}
use Rattle.journal_writer.specs.declared.lines.Start.{Start}

got : (starts : List Start) (place : ℕ) (d : Start) (sender : NodeId) → place < length starts → (get_or starts place d).sender ≡ sender → IfSome (slice_get starts place) (λ s. s.sender ≡ sender)
got [] place d sender within is = absurd (omega (arith, within))
got (s ∷ starts) zero d sender within is = is
got (s ∷ starts) (suc place) d sender within is = got starts place d sender (omega (arith, within)) is

pub is_from : (starts : List Start) (place : ℕ) (d : Start) (sender : NodeId) → place < length starts → (get_or starts place d).sender ≡ sender → IsFrom starts place sender
is_from starts place d sender within is = record { within = within; from = got starts place d sender within is }

-- ---- whether a clock is this one

pub same_clock : (o : Option ℕ) (clock : ℕ) → option_eq eqb o (Some clock) ≡ true → o ≡ Some clock
same_clock None clock e = cc e
same_clock (Some n) clock e = ap Some (eqb-true n clock e)

pub other_clock : (o : Option ℕ) (clock : ℕ) → option_eq eqb o (Some clock) ≡ false → o ≢ Some clock
other_clock o clock e is = true≢false (sym (ap (λ p. option_eq eqb p (Some clock)) is ∙ eq-eqb clock clock refl) ∙ e)

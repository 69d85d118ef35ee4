-- The canonical words of a plan are plain, and so each is read as it was written.
use Rattle.std.proofs.Common.{ℕ, suc, ℤ, pos, negsuc, ◌≡◌, ◌<◌, ◌≤◌, ◌+◌, true, List, [], ◌∷◌, length, refl, arith}
use Rattle.std.specs.Prelude.{All, codes, unsigned_abs}
use Rattle.std.specs.Char.{is_ascii_digit}
use Rattle.std.specs.Fmt.{decimal, signed_decimal}
use Rattle.std.specs.List.{list_all}
use Rattle.std.proofs.lemmas.Bool.Decides.{nat_tests}
use Rattle.std.proofs.lemmas.Int.{ints}
use Rattle.std.proofs.lemmas.List.Elements.{All-head, All-tail}
use Rattle.op_spec.specs.Spec.{IsSpec}
use Rattle.op_spec.specs.declared.spec.By.{By}
use Rattle.op_spec.specs.declared.spec.By.TheVariants as by
use Rattle.op_spec.specs.declared.spec.Compare.{Compare}
use Rattle.op_spec.specs.declared.spec.Compare.TheVariants as compare
use Rattle.op_spec.specs.declared.spec.OpSpec.{OpSpec}
use Rattle.op_spec.specs.declared.spec.OpSpec.TheVariants as op
use Rattle.tuple_edge.specs.Sum.{IsWithin}
use Rattle.tuple_edge.specs.declared.row.Column.{Column}
use Rattle.tuple_edge.specs.declared.row.Column.TheVariants as column
use Rattle.text_words.specs.Lines.{Word, counts}
use Rattle.text_words.proofs.LineFacts.{both_true}
use Rattle.text_words.proofs.NumberWords.{decimal_digits, decimal_few, decimal_some}
use Rattle.text_words.proofs.Spelling.{ArePlainLines, ArePlainWords, IsPlainLine, IsPlainWord, is_plain}
use Rattle.plan_reader.specs.PlanView.{IsLimit, IsPlan, IsStage, PlanView}
use Rattle.plan_reader.specs.Text.{by_name, column_name, compare_name, op_words, plan_lines, stage_lines, stage_words}
use Rattle.plan_reader.specs.declared.stage.Stage.{Stage}

plain_digit : (b : ℕ) → is_ascii_digit b ≡ true → is_plain b ≡ true
plain_digit b digit = grind (arith, nat_tests)

plain_digits : (word : List ℕ) → list_all is_ascii_digit word ≡ true → list_all is_plain word ≡ true
plain_digits [] digits = refl
plain_digits (b ∷ word) digits =
    let (here, later) = both_true (is_ascii_digit b) (list_all is_ascii_digit word) digits in
    rw (plain_digit b here, plain_digits word later) refl

decimal_plain : (n : ℕ) → n < 10000000000000000000 → IsPlainWord (decimal n)
decimal_plain n small = record { some = decimal_some n small; few = omega (arith, decimal_few n small); plain = plain_digits (decimal n) (decimal_digits n small) }

signed_plain : (z : ℤ) → unsigned_abs z < 10000000000000000000 → IsPlainWord (signed_decimal z)
signed_plain (pos n) small = decimal_plain n small
signed_plain (negsuc n) small =
    let digits = decimal_plain (suc n) small in
    record { some = omega arith; few = omega (arith, decimal_few (suc n) small); plain = digits.plain }

within_plain : (z : ℤ) → IsWithin z → IsPlainWord (signed_decimal z)
within_plain z within = signed_plain z (omega (arith, ints, within.low, within.high))

column_plain : (c : Column) → IsPlainWord (column_name c)
column_plain column.Time = record { some = omega arith; few = omega arith; plain = refl }
column_plain column.Account = record { some = omega arith; few = omega arith; plain = refl }
column_plain column.Symbol = record { some = omega arith; few = omega arith; plain = refl }
column_plain column.Qty = record { some = omega arith; few = omega arith; plain = refl }
column_plain column.Value = record { some = omega arith; few = omega arith; plain = refl }

by_plain : (b : By) → IsPlainWord (by_name b)
by_plain by.Account = record { some = omega arith; few = omega arith; plain = refl }
by_plain by.Symbol = record { some = omega arith; few = omega arith; plain = refl }
by_plain by.Both = record { some = omega arith; few = omega arith; plain = refl }

compare_plain : (c : Compare) → IsPlainWord (compare_name c)
compare_plain compare.Less = record { some = omega arith; few = omega arith; plain = refl }
compare_plain compare.AtMost = record { some = omega arith; few = omega arith; plain = refl }
compare_plain compare.Equal = record { some = omega arith; few = omega arith; plain = refl }
compare_plain compare.Unequal = record { some = omega arith; few = omega arith; plain = refl }
compare_plain compare.AtLeast = record { some = omega arith; few = omega arith; plain = refl }
compare_plain compare.Greater = record { some = omega arith; few = omega arith; plain = refl }

-- a fixed word
fixed_plain : (word : Word) → 0 < length word → length word ≤ 30 → list_all is_plain word ≡ true → IsPlainWord word
fixed_plain word some few plain = record { some = some; few = few; plain = plain }

keep_plain : IsPlainWord (codes "keep")
keep_plain = fixed_plain (codes "keep") (omega arith) (omega arith) refl

total_plain : IsPlainWord (codes "total")
total_plain = fixed_plain (codes "total") (omega arith) (omega arith) refl

last_plain : IsPlainWord (codes "last")
last_plain = fixed_plain (codes "last") (omega arith) (omega arith) refl

window_plain : IsPlainWord (codes "window")
window_plain = fixed_plain (codes "window") (omega arith) (omega arith) refl

crossing_plain : IsPlainWord (codes "crossing")
crossing_plain = fixed_plain (codes "crossing") (omega arith) (omega arith) refl

join_plain : IsPlainWord (codes "join")
join_plain = fixed_plain (codes "join") (omega arith) (omega arith) refl

op_plain : (o : OpSpec) → IsSpec o → IsLimit o → ArePlainWords (op_words o)
op_plain (op.Keep c k z) spec limit = (keep_plain, (column_plain c, (compare_plain k, (within_plain z limit, tt))))
op_plain (op.Total b) spec limit = (total_plain, (by_plain b, tt))
op_plain (op.Last b rows) spec limit = (last_plain, (by_plain b, (decimal_plain rows (omega (arith, spec.1)), tt)))
op_plain (op.Window b width) spec limit = (window_plain, (by_plain b, (signed_plain width (omega (arith, ints, spec.0, spec.1)), tt)))
op_plain (op.Crossing b z) spec limit = (crossing_plain, (by_plain b, (within_plain z limit, tt)))
op_plain (op.Join b width rows c k z) spec limit = (
  join_plain,
  (
    by_plain b,
    (
      signed_plain width (omega (arith, ints, spec.0, spec.1)),
      (decimal_plain rows (omega (arith, spec.3)), (column_plain c, (compare_plain k, (within_plain z limit, tt)))),
    ),
  ),
)

op_few : (o : OpSpec) → length (op_words o) ≤ 7
op_few (op.Keep c k z) = omega arith
op_few (op.Total b) = omega arith
op_few (op.Last b rows) = omega arith
op_few (op.Window b width) = omega arith
op_few (op.Crossing b z) = omega arith
op_few (op.Join b width rows c k z) = omega arith

stage_plain : (number : ℕ) (s : Stage) → number ≤ 7 → IsStage s → IsPlainLine (stage_words number s)
stage_plain number s small within = record {
  counts = refl;
  few = omega (arith, op_few s.op);
  plain = (
    fixed_plain (codes "stage") (omega arith) (omega arith) refl,
    (
      decimal_plain number (omega (arith, small)),
      (
        fixed_plain (codes "parts") (omega arith) (omega arith) refl,
        (
          decimal_plain s.parts (omega (arith, within.few)),
          (fixed_plain (codes "by") (omega arith) (omega arith) refl, (column_plain s.by, op_plain s.op within.op within.limit)),
        ),
      ),
    ),
  );
}

stages_plain : (number : ℕ) (stages : List Stage) → number + length stages ≤ 7 → All IsStage stages → ArePlainLines (stage_lines number stages)
stages_plain number [] small within = tt
stages_plain number (s ∷ stages) small within = (
  stage_plain number s (omega (arith, small)) (All-head IsStage s stages within),
  stages_plain (number + 1) stages (omega (arith, small)) (All-tail IsStage s stages within),
)

setting_plain : (name : Word) (n : ℕ) → IsPlainWord name → counts (name ∷ decimal n ∷ []) ≡ true → n < 10000000000000000000 → IsPlainLine (name ∷ decimal n ∷ [])
setting_plain name n plain counted small = record { counts = counted; few = omega arith; plain = (plain, (decimal_plain n small, tt)) }

pub plan_plain : (plan : PlanView) → IsPlan plan → ArePlainLines (plan_lines plan)
plan_plain plan within = (
  setting_plain (codes "flux") plan.version (fixed_plain (codes "flux") (omega arith) (omega arith) refl) refl (omega (arith, within.version_high)),
  (
    setting_plain (codes "mark") plan.mark (fixed_plain (codes "mark") (omega arith) (omega arith) refl) refl (omega (arith, within.mark_high)),
    (
      setting_plain (codes "hold") plan.hold (fixed_plain (codes "hold") (omega arith) (omega arith) refl) refl (omega (arith, within.hold_high)),
      stages_plain 1 plan.stages (omega (arith, within.few)) within.stages,
    ),
  ),
)

-- How far rows were worked and moves made.
use Rattle.std.proofs.Common.{ℕ, ◌≡◌, ◌≤◌, ◌<◌, ◌-◌, List, [], ◌∷◌, ◌++◌, take, drop, refl, sym, ap, subst, ◌∙◌, arith, append_assoc, append-nil}
use Rattle.std.specs.Prelude.{slice_set, if◌then◌else◌}
use Rattle.std.proofs.lemmas.Bool.{le-leb, lt-leb}
use Rattle.std.proofs.lemmas.List.{take-append-drop}
use Rattle.tuple_edge.specs.declared.row.Row.{Row}
use Rattle.plan_reader.specs.declared.stage.Stage.{Stage}
use Rattle.bucket_move.specs.BucketsView.{BucketsView, Call, Feeds, IsAfter, Moves, fed, table_after}
use Rattle.bucket_move.specs.Shifts.{DontFall}
use Rattle.bucket_move.specs.declared.moves.Shift.{Shift}
use Rattle.move_command.specs.Moved.{calls_of, made, moved}

-- ---- the calls

-- all rows are fed, whatever is moved
pub fed_calls : (passed : ℕ) (rows : List Row) (shifts : List Shift) → fed (calls_of passed rows shifts) ≡ rows
fed_calls passed rows [] = append-nil rows
fed_calls passed rows (s ∷ shifts) =
    let n = s.at - passed in
    ap (λ (back : List Row). take n rows ++ back) (fed_calls s.at (drop n rows) shifts) ∙ take-append-drop n rows

-- and the table is that after the moves
pub table_calls : (table : List ℕ) (passed : ℕ) (rows : List Row) (shifts : List Shift) → table_after table (calls_of passed rows shifts) ≡ moved table shifts
unfolding table_after
table_calls table passed rows [] = refl
table_calls table passed rows (s ∷ shifts) = table_calls (slice_set table s.bucket s.to) s.at (drop (s.at - passed) rows) shifts

-- ---- the moves that are left

-- a move is made where its stamp is there
pub made_here : (rows : ℕ) (s : Shift) (shifts : List Shift) → s.at ≤ rows → made rows (s ∷ shifts) ≡ s ∷ made rows shifts
made_here rows s shifts there = ap (λ t. if t then s ∷ made rows shifts else made rows shifts) (le-leb s.at rows there)

pub made_never : (rows : ℕ) (s : Shift) (shifts : List Shift) → rows < s.at → made rows (s ∷ shifts) ≡ made rows shifts
made_never rows s shifts beyond = ap (λ t. if t then s ∷ made rows shifts else made rows shifts) (lt-leb s.at rows beyond)

pub sooner : (least later : ℕ) (shifts : List Shift) → least ≤ later → DontFall later shifts → DontFall least shifts
sooner least later [] order rest = tt
sooner least later (s ∷ shifts) order rest = (omega (arith, rest.0), rest.1)

-- ---- how far they came

-- Buckets are after calls with which all calls but these were made.
pub record Reaches (stage : Stage) (b : BucketsView) (left whole : List Call) : Type 0 where
  pub calls : List Call
  pub after : IsAfter stage calls b
  pub course : calls ++ left ≡ whole

pub reaches_first : (stage : Stage) (b : BucketsView) (whole : List Call) → IsAfter stage [] b → Reaches stage b whole whole
reaches_first stage b whole after = record { calls = []; after = after; course = refl }

pub reaches_on : (stage : Stage) (old new : BucketsView) (done left whole : List Call) → ((calls : List Call) → IsAfter stage calls old → IsAfter stage (calls ++ done) new)
    → Reaches stage old (done ++ left) whole → Reaches stage new left whole
reaches_on stage old new done left whole goes r = record {
  calls = r.calls ++ done;
  after = goes r.calls r.after;
  course = append_assoc r.calls done left ∙ r.course;
}

pub reaches_end : (stage : Stage) (old new : BucketsView) (done whole : List Call) → ((calls : List Call) → IsAfter stage calls old → IsAfter stage (calls ++ done) new)
    → Reaches stage old done whole → IsAfter stage whole new
reaches_end stage old new done whole goes r = subst (λ (calls : List Call). IsAfter stage calls new) r.course (goes r.calls r.after)

-- two calls, one after the other
pub two_calls : (stage : Stage) (old mid new : BucketsView) (x y : Call) → ((calls : List Call) → IsAfter stage calls old → IsAfter stage (calls ++ x ∷ []) mid)
    → ((calls : List Call) → IsAfter stage calls mid → IsAfter stage (calls ++ y ∷ []) new) → (calls : List Call) → IsAfter stage calls old → IsAfter stage (calls ++ x ∷ y ∷ []) new
two_calls stage old mid new x y first second calls after =
    subst (λ (cs : List Call). IsAfter stage cs new) (append_assoc calls (x ∷ []) (y ∷ [])) (second (calls ++ x ∷ []) (first calls after))

-- one move more of those that are left: it is made, so the rows up to its stamp were worked before it
pub reaches_moved : (stage : Stage) (old mid new : BucketsView) (passed now n : ℕ) (rest later : List Row) (s : Shift) (here left : List Shift) (whole : List Call) → here ≡ s ∷ left → s.at ≤ n
    → new ≡ mid → now ≡ s.at → later ≡ drop (s.at - passed) rest
    → ((calls : List Call) → IsAfter stage calls old → IsAfter stage (calls ++ Feeds (take (s.at - passed) rest) ∷ Moves s.bucket s.to ∷ []) mid)
    → Reaches stage old (calls_of passed rest (made n here)) whole → Reaches stage new (calls_of now later (made n left)) whole
reaches_moved stage old mid new passed now n rest later s here left whole split there b_is p_is r_is goes r =
    let first : Reaches stage old (calls_of passed rest (s ∷ made n left)) whole =
    subst (λ (l : List Shift). Reaches stage old (calls_of passed rest l) whole) (ap (made n) split ∙ made_here n s left there) r in
    let next = reaches_on stage old mid (Feeds (take (s.at - passed) rest) ∷ Moves s.bucket s.to ∷ []) (calls_of s.at (drop (s.at - passed) rest) (made n left)) whole goes first in
    subst (λ (b : BucketsView). Reaches stage b (calls_of now later (made n left)) whole) (sym b_is)
    (subst (λ (p : ℕ). Reaches stage mid (calls_of p later (made n left)) whole) (sym p_is)
    (subst (λ (rs : List Row). Reaches stage mid (calls_of s.at rs (made n left)) whole) (sym r_is) next))

-- one that is never made
pub reaches_not : (stage : Stage) (old new : BucketsView) (passed now n : ℕ) (rest later : List Row) (s : Shift) (here left : List Shift) (whole : List Call) → here ≡ s ∷ left → n < s.at
    → new ≡ old → now ≡ passed → later ≡ rest → Reaches stage old (calls_of passed rest (made n here)) whole → Reaches stage new (calls_of now later (made n left)) whole
reaches_not stage old new passed now n rest later s here left whole split beyond b_is p_is r_is r =
    let first : Reaches stage old (calls_of passed rest (made n left)) whole =
    subst (λ (l : List Shift). Reaches stage old (calls_of passed rest l) whole) (ap (made n) split ∙ made_never n s left beyond) r in
    subst (λ (b : BucketsView). Reaches stage b (calls_of now later (made n left)) whole) (sym b_is)
    (subst (λ (p : ℕ). Reaches stage old (calls_of p later (made n left)) whole) (sym p_is)
    (subst (λ (rs : List Row). Reaches stage old (calls_of passed rs (made n left)) whole) (sym r_is) first))

-- The partitions of a stage take one more row.
use Rattle.std.proofs.Common.{◌≡◌, ◌<◌, ℕ, zero, suc, true, false, List, [], ◌∷◌, ◌++◌, ◌+◌, refl, sym, ap, ◌∙◌, subst, arith, append_assoc, drop, get_or, length, set}
use Rattle.std.specs.Prelude.{◌==◌, if◌then◌else◌}
use Rattle.std.proofs.lemmas.Bool.{eq-eqb}
use Rattle.std.proofs.lemmas.List.{append-nil, map-append}
use Rattle.std.proofs.lemmas.List.Elements.{filter-append}
use Rattle.tuple_edge.specs.declared.item.Item.{Item}
use Rattle.tuple_edge.specs.declared.item.Item.TheVariants as item
use Rattle.tuple_edge.specs.declared.row.Row.{Row}
use Rattle.tuple_edge.specs.Row.{route_of}
use Rattle.merge_order.proofs.Choices.{nat_not}
use Rattle.op_spec.specs.declared.spec.OpSpec.{OpSpec}
use Rattle.stream_ops.specs.Answers.{IsOpen, answer, answers}
use Rattle.stream_ops.specs.State.{StandsFor, StateView}
use Rattle.plan_reader.specs.declared.stage.Stage.{Stage}
use Rattle.evaluation.specs.StageRows.{HasTaken, PartsTook, alike, late_replies, part_replies, rows_to}

pub alike_open : (rows : List Row) → IsOpen (alike rows)
alike_open [] = tt
alike_open (r ∷ rows) = alike_open rows

pub alike_more : (rows : List Row) (r : Row) → alike (rows ++ r ∷ []) ≡ alike rows ++ item.Row 0 r ∷ []
alike_more rows r = map-append (item.Row 0) rows (r ∷ [])

pub rows_to-here : (stage : Stage) (q : ℕ) (rows : List Row) (r : Row) → (route_of r stage.by stage.parts == q) ≡ true → rows_to stage q (rows ++ r ∷ []) ≡ rows_to stage q rows ++ r ∷ []
rows_to-here stage q rows r e =
    filter-append (λ x. route_of x stage.by stage.parts == q) rows (r ∷ []) ∙ ap (λ b. rows_to stage q rows ++ (if b then r ∷ [] else [])) e

pub rows_to-other : (stage : Stage) (q : ℕ) (rows : List Row) (r : Row) → (route_of r stage.by stage.parts == q) ≡ false → rows_to stage q (rows ++ r ∷ []) ≡ rows_to stage q rows
rows_to-other stage q rows r e =
    filter-append (λ x. route_of x stage.by stage.parts == q) rows (r ∷ []) ∙ (ap (λ b. rows_to stage q rows ++ (if b then r ∷ [] else [])) e ∙ append-nil (rows_to stage q rows))

-- a state that takes a row
abbrev pub Takes : Stage → Row → StateView → StateView → Type 0
Takes stage r old new = (rows : List Row) → HasTaken stage.op old rows → HasTaken stage.op new (rows ++ r ∷ [])

others_took : (stage : Stage) (q : ℕ) (states : List StateView) (before : List Row) (r : Row) → route_of r stage.by stage.parts < q → PartsTook stage q states before → PartsTook stage q states (before ++ r ∷ [])
others_took stage q [] before r l h = tt
others_took stage q (state ∷ states) before r l h = (
  subst (HasTaken stage.op state) (sym (rows_to-other stage q before r (nat_not (route_of r stage.by stage.parts) q (λ e. omega arith)))) h.0,
  others_took stage (q + 1) states before r (omega arith) h.1,
)

pub row_took : (stage : Stage) (q k : ℕ) (states : List StateView) (before : List Row) (r : Row) (new d : StateView) → route_of r stage.by stage.parts ≡ q + k → k < length states
    → Takes stage r (get_or states k d) new → PartsTook stage q states before → PartsTook stage q (set states k new) (before ++ r ∷ [])
row_took stage q k [] before r new d e l t h = absurd (omega arith)
row_took stage q zero (state ∷ states) before r new d e l t h = (
  subst (HasTaken stage.op new) (sym (rows_to-here stage q before r (eq-eqb (route_of r stage.by stage.parts) q (omega arith)))) (t (rows_to stage q before) h.0),
  others_took stage (q + 1) states before r (omega arith) h.1,
)
row_took stage q (suc k) (state ∷ states) before r new d e l t h = (
  subst (HasTaken stage.op state) (sym (rows_to-other stage q before r (nat_not (route_of r stage.by stage.parts) q (λ z. omega arith)))) h.0,
  row_took stage (q + 1) k states before r new d (omega arith) (omega arith) t h.1,
)

-- one of the states
pub part_took : (stage : Stage) (q k : ℕ) (states : List StateView) (rows : List Row) (d : StateView) → k < length states → PartsTook stage q states rows → HasTaken stage.op (get_or states k d) (rows_to stage (q + k) rows)
part_took stage q k [] rows d l h = absurd (omega arith)
part_took stage q zero (state ∷ states) rows d l h = subst (λ n. HasTaken stage.op state (rows_to stage n rows)) (omega arith) h.0
part_took stage q (suc k) (state ∷ states) rows d l h = subst (λ n. HasTaken stage.op (get_or states k d) (rows_to stage n rows)) (omega arith) (part_took stage (q + 1) k states rows d (omega arith) h.1)

-- one state more, which was given nothing
pub one_more : (stage : Stage) (q : ℕ) (states : List StateView) (new : StateView) → HasTaken stage.op new [] → PartsTook stage q states [] → PartsTook stage q (states ++ new ∷ []) []
one_more stage q [] new n h = (n, tt)
one_more stage q (state ∷ states) new n h = (h.0, one_more stage (q + 1) states new n h.1)

-- answers to one item more
pub answers_more : (spec : OpSpec) (x is : List Item) (i : Item) → answers spec x (is ++ i ∷ []) ≡ answers spec x is ++ answer spec (x ++ is) i
answers_more spec x [] i = append-nil (answer spec x i) ∙ ap (λ y. answer spec y i) (sym (append-nil x))
answers_more spec x (j ∷ is) i =
    ap (λ y. answer spec x j ++ y) (answers_more spec (x ++ j ∷ []) is i ∙ ap (λ y. answers spec (x ++ j ∷ []) is ++ answer spec y i) (append_assoc x (j ∷ []) is))
    ∙ sym (append_assoc (answer spec x j) (answers spec (x ++ j ∷ []) is) (answer spec (x ++ j ∷ is) i))

-- the answers of the partitions from q on, where there is one more
pub late_next : (stage : Stage) (early late : List Row) (q n m : ℕ) → n ≡ suc m → late_replies stage early late q n ≡ part_replies stage early late q ++ late_replies stage early late (q + 1) m
late_next stage early late q n m e = ap (late_replies stage early late q) e

-- ---- the rows of one partition, one after the other

-- what a step does to a state and to the rows that were answered
pub record Steps (i : Item) (old new : StateView) (had has : List Row) : Type 0 where
  pub answers : (before : List Item) → IsOpen before → StandsFor old before → has ≡ had ++ answer old.spec before i
  pub stands : (before : List Item) → IsOpen before → StandsFor old before → StandsFor new (before ++ i ∷ [])
  pub spec : new.spec ≡ old.spec

-- a partition has taken those of these rows that go to it, after those before, and has answered them
pub record Answered (stage : Stage) (q : ℕ) (state : StateView) (before rows had has : List Row) : Type 0 where
  pub took : HasTaken stage.op state (before ++ rows_to stage q rows)
  pub answers : has ≡ had ++ answers stage.op (alike before) (alike (rows_to stage q rows))

-- after an item more
answered_more : (spec : OpSpec) (before rows : List Row) (i : Item) (had has now : List Row) → has ≡ had ++ answers spec (alike before) (alike rows)
    → now ≡ has ++ answer spec (alike (before ++ rows)) i → now ≡ had ++ answers spec (alike before) (alike rows ++ i ∷ [])
answered_more spec before rows i had has now e f =
    f ∙ (ap (λ x. x ++ answer spec (alike (before ++ rows)) i) e
    ∙ (append_assoc had (answers spec (alike before) (alike rows)) (answer spec (alike (before ++ rows)) i)
    ∙ ap (λ x. had ++ x) (ap (λ y. answers spec (alike before) (alike rows) ++ answer spec y i) (map-append (item.Row 0) before rows) ∙ sym (answers_more spec (alike before) (alike rows) i))))

pub answered_here : (stage : Stage) (q : ℕ) (old new : StateView) (before rows had has now : List Row) (r : Row) → (route_of r stage.by stage.parts == q) ≡ true
    → Steps (item.Row 0 r) old new has now → Answered stage q old before rows had has → Answered stage q new before (rows ++ r ∷ []) had now
answered_here stage q old new before rows had has now r e s a =
    let mine = rows_to stage q rows in
    let xs = before ++ mine in
    let more : rows_to stage q (rows ++ r ∷ []) ≡ mine ++ r ∷ [] = rows_to-here stage q rows r e in
    let whole : before ++ rows_to stage q (rows ++ r ∷ []) ≡ xs ++ r ∷ [] = ap (λ y. before ++ y) more ∙ sym (append_assoc before mine (r ∷ [])) in
    record {
      took = record {
        spec = s.spec ∙ a.took.spec;
        stands = subst (StandsFor new) (sym (ap alike whole ∙ alike_more xs r)) (s.stands (alike xs) (alike_open xs) a.took.stands);
      };
      answers = answered_more stage.op before mine (item.Row 0 r) had has now a.answers (s.answers (alike xs) (alike_open xs) a.took.stands ∙ ap (λ o. has ++ answer o (alike xs) (item.Row 0 r)) a.took.spec)
          ∙ ap (λ y. had ++ answers stage.op (alike before) y) (sym (ap alike more ∙ alike_more mine r));
    }

pub answered_other : (stage : Stage) (q : ℕ) (state : StateView) (before rows had has : List Row) (r : Row) → (route_of r stage.by stage.parts == q) ≡ false
    → Answered stage q state before rows had has → Answered stage q state before (rows ++ r ∷ []) had has
answered_other stage q state before rows had has r e a =
    let same = rows_to-other stage q rows r e in
    record {
      took = subst (λ y. HasTaken stage.op state (before ++ y)) (sym same) a.took;
      answers = a.answers ∙ ap (λ y. had ++ answers stage.op (alike before) (alike y)) (sym same);
    }

pub answered_end : (stage : Stage) (q : ℕ) (old new : StateView) (before rows had has now : List Row) → Steps (item.End 0) old new has now → Answered stage q old before rows had has
    → now ≡ had ++ answers stage.op (alike before) (alike (rows_to stage q rows) ++ item.End 0 ∷ [])
answered_end stage q old new before rows had has now s a =
    let mine = rows_to stage q rows in
    let xs = before ++ mine in
    answered_more stage.op before mine (item.End 0) had has now a.answers (s.answers (alike xs) (alike_open xs) a.took.stands ∙ ap (λ o. has ++ answer o (alike xs) (item.End 0)) a.took.spec)

-- where nothing was taken yet
pub answered_none : (stage : Stage) (q : ℕ) (state : StateView) (before had : List Row) → HasTaken stage.op state before → Answered stage q state before [] had had
answered_none stage q state before had h = record { took = subst (HasTaken stage.op state) (sym (append-nil before)) h; answers = sym (append-nil had) }

-- ---- one partition after the other

pub drop-set : (k : ℕ) (states : List StateView) (new : StateView) → drop (suc k) (set states k new) ≡ drop (suc k) states
drop-set k [] new = refl
drop-set zero (state ∷ states) new = refl
drop-set (suc k) (state ∷ states) new = drop-set k states new

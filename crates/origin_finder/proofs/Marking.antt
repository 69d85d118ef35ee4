-- Marks of rows, and the roles that several causes give.
use Rattle.std.proofs.Common.{ℕ, ◌≡◌, ◌+◌, Bool, true, false, cond, List, [], ◌∷◌, ◌++◌, Option, length, refl, sym, ap, ◌∙◌, append_assoc, set}
use Rattle.std.specs.Prelude.{flat_map, slice_index_or}
use Rattle.std.proofs.lemmas.List.{append-nil, length-set}
use Rattle.op_spec.specs.declared.spec.OpSpec.{OpSpec}
use Rattle.op_spec.specs.declared.spec.OpSpec.TheVariants as op
use Rattle.row_cause.specs.Causes.{Cause, counted, spoke}
use Rattle.row_cause.specs.declared.placed.Placed.{Placed}
use Rattle.row_origin.specs.Marks.{Roles, asked_from, marked, rested, with_causes}
use Rattle.origin_finder.specs.Counting.{speaker_counts}

-- ---- marks

pub length-marked : (placed : List Placed) (marks : List Bool) → length (marked placed marks) ≡ length marks
length-marked [] marks = refl
length-marked (x ∷ placed) marks = length-marked placed (set marks x.place true) ∙ length-set marks x.place true

pub marked-append : (xs ys : List Placed) (marks : List Bool) → marked (xs ++ ys) marks ≡ marked ys (marked xs marks)
marked-append [] ys marks = refl
marked-append (x ∷ xs) ys marks = marked-append xs ys (set marks x.place true)

flat-append : {X Y : Type 0} (f : X → List Y) (xs ys : List X) → flat_map f (xs ++ ys) ≡ flat_map f xs ++ flat_map f ys
flat-append f [] ys = refl
flat-append f (x ∷ xs) ys = ap (λ (rest : List _). f x ++ rest) (flat-append f xs ys) ∙ sym (append_assoc (f x) (flat_map f xs) (flat_map f ys))

abbrev roles : List Bool → List Bool → Roles
roles rests counts = record { rests = rests; counts = counts }

both : (a b c d : List Bool) → a ≡ b → c ≡ d → roles a c ≡ roles b d
both a b c d x y = λ i. roles (x i) (y i)

pub with_causes-append : (op : OpSpec) (xs ys : List Cause) (r : Roles) → with_causes op (xs ++ ys) r ≡ with_causes op ys (with_causes op xs r)
with_causes-append op xs ys r =
    both (marked (flat_map rested (xs ++ ys)) r.rests) (marked (flat_map rested ys) (marked (flat_map rested xs) r.rests)) (marked (flat_map (counted op) (xs ++ ys)) r.counts) (marked (flat_map (counted op) ys) (marked (flat_map (counted op) xs) r.counts))
    (ap (λ (placed : List Placed). marked placed r.rests) (flat-append rested xs ys) ∙ marked-append (flat_map rested xs) (flat_map rested ys) r.rests)
    (ap (λ (placed : List Placed). marked placed r.counts) (flat-append (counted op) xs ys) ∙ marked-append (flat_map (counted op) xs) (flat_map (counted op) ys) r.counts)

-- the roles that one cause gives: its rows before, and then the one that spoke
counted_by : (op : OpSpec) (before : List Placed) (speaker : Option Placed) → counted op (record { before = before; speaker = speaker }) ≡ cond (speaker_counts op) (before ++ spoke speaker) before
counted_by (op.Keep column compare limit) before speaker = refl
counted_by (op.Total by) before speaker = refl
counted_by (op.Last by n) before speaker = refl
counted_by (op.Window by width) before speaker = refl
counted_by (op.Crossing by limit) before speaker = refl
counted_by (op.Join by width n column compare limit) before speaker = refl

counted_both : (t : Bool) (before spoken : List Placed) (marks : List Bool) → marked (cond t (before ++ spoken) before) marks ≡ cond t (marked spoken (marked before marks)) (marked before marks)
counted_both true before spoken marks = marked-append before spoken marks
counted_both false before spoken marks = refl

pub one_cause : (op : OpSpec) (c : Cause) (old new : Roles) → new.rests ≡ marked (spoke c.speaker) (marked c.before old.rests)
    → new.counts ≡ cond (speaker_counts op) (marked (spoke c.speaker) (marked c.before old.counts)) (marked c.before old.counts) → new ≡ with_causes op (c ∷ []) old
one_cause op c old new a b =
    both new.rests (marked (flat_map rested (c ∷ [])) old.rests) new.counts (marked (flat_map (counted op) (c ∷ [])) old.counts)
    (a ∙ (sym (marked-append c.before (spoke c.speaker) old.rests) ∙ ap (λ (placed : List Placed). marked placed old.rests) (sym (append-nil (rested c)))))
    (b ∙ (sym (counted_both (speaker_counts op) c.before (spoke c.speaker) old.counts)
    ∙ ap (λ (placed : List Placed). marked placed old.counts) (sym (counted_by op c.before c.speaker) ∙ sym (append-nil (counted op c)))))

-- ---- those that are asked about

-- one answer more
pub with_one : (op : OpSpec) (n : ℕ) (asked : List Bool) (c : Cause) (causes : List Cause) (r new : Roles) (t : Bool) → slice_index_or asked n false ≡ t → new ≡ cond t (with_causes op (c ∷ []) r) r
    → with_causes op (asked_from n asked (c ∷ causes)) r ≡ with_causes op (asked_from (n + 1) asked causes) new
with_one op n asked c causes r new true is e =
    ap (λ (b : Bool). with_causes op (cond b (c ∷ asked_from (n + 1) asked causes) (asked_from (n + 1) asked causes)) r) is
    ∙ (with_causes-append op (c ∷ []) (asked_from (n + 1) asked causes) r ∙ ap (with_causes op (asked_from (n + 1) asked causes)) (sym e))
with_one op n asked c causes r new false is e =
    ap (λ (b : Bool). with_causes op (cond b (c ∷ asked_from (n + 1) asked causes) (asked_from (n + 1) asked causes)) r) is
    ∙ ap (with_causes op (asked_from (n + 1) asked causes)) (sym e)

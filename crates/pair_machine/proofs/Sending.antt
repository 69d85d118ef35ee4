-- What ingress sends, what an operator answers, and what goes to a partition have the form of an edge and the same marks.
use Rattle.std.proofs.Common.{◌≡◌, ◌≤◌, ℕ, Bool, List, [], ◌∷◌, ◌++◌, ◌+◌, Option, None, Some, length, refl, sym, ap, ◌∙◌, subst, arith, append_assoc}
use Rattle.std.specs.Prelude.{◌==◌, ◌%◌, ◌||◌, filter}
use Rattle.std.proofs.lemmas.List.{length-map}
use Rattle.tuple_edge.specs.Input.{Input}
use Rattle.tuple_edge.specs.declared.item.Item.{Item}
use Rattle.tuple_edge.specs.declared.item.Item.TheVariants as item
use Rattle.tuple_edge.specs.declared.row.Row.{Row}
use Rattle.tuple_edge.specs.Item.{stamp_of}
use Rattle.merge_order.specs.Edges.{AllFrom, AreAlike, AreEdges, IsEdge}
use Rattle.merge_order.specs.Merged.{has_mark_at, items, merged}
use Rattle.merge_order.proofs.Choices.{if_elim}
use Rattle.merge_order.proofs.Forms.{Goes, KeepsSigns, filter_edge, filter_marks, merged_items-filter}
use Rattle.merge_order.proofs.Step.{weaken}
use Rattle.op_spec.specs.declared.spec.OpSpec.{OpSpec}
use Rattle.stream_ops.specs.Answers.{answer}
use Rattle.plan_reader.specs.PlanView.{PlanView}
use Rattle.plan_reader.specs.declared.stage.Stage.{Stage}
use Rattle.pair_machine.specs.Ingress.{last_stamp, mark_after, row_of_source, sent_by_source, sent_from}
use Rattle.pair_machine.specs.Edges.{answered, edge_to, edges_to, goes_to, passed, stamped}

-- what goes to a partition -----------------------------------------------------------

pub keeps : (stage : Stage) (t : ℕ) → KeepsSigns (goes_to stage t)
keeps stage t = record { marks = λ stamp. refl; ends = λ stamp. refl }

pub edge_to_edge : (stage : Option Stage) (t last : ℕ) (is : List Item) → IsEdge last is → IsEdge last (edge_to stage t is)
edge_to_edge None t last is e = e
edge_to_edge (Some stage) t last is e = filter_edge (goes_to stage t) (keeps stage t) last is e

pub edge_to_marks : (stage : Option Stage) (t n : ℕ) (is : List Item) → has_mark_at n (edge_to stage t is) ≡ has_mark_at n is
edge_to_marks None t n is = refl
edge_to_marks (Some stage) t n is = filter_marks (goes_to stage t) (keeps stage t) n is

pub edges_to_alike : (stage : Option Stage) (t last : ℕ) (carries : ℕ → Bool) (es : List (List Item)) → AreAlike last carries es → AreAlike last carries (edges_to stage t es)
edges_to_alike stage t last carries [] a = tt
edges_to_alike stage t last carries (e ∷ es) a = (edge_to_edge stage t last e a.0, λ n. edge_to_marks stage t n e ∙ a.1 n, edges_to_alike stage t last carries es a.2)

-- the edges into a partition are edges, where what its sources send are
abbrev pub edges_to_edges : (stage : Option Stage) (t last : ℕ) (es : List (List Item)) → AreEdges last es → AreEdges last (edges_to stage t es)
edges_to_edges stage t last es a = record { some = omega (arith, length-map es (edge_to stage t), a.some); carries = a.carries; alike = edges_to_alike stage t last a.carries es a.alike }

-- what a partition merges is what of the whole merged list goes to it
pub merged_part : (stage : Stage) (t last : ℕ) (es : List (List Item)) → items (merged last (edges_to (Some stage) t es)) ≡ filter (goes_to stage t) (items (merged last es))
merged_part stage t last es = merged_items-filter (goes_to stage t) (keeps stage t) last es

-- what an operator answers --------------------------------------------------------------

stamped_goes : (last s : ℕ) (rows : List Row) (is : List Item) → 1 ≤ s → s ≤ last → Goes last s is → Goes last s (stamped s rows ++ is)
stamped_goes last s [] is a b g = g
stamped_goes last s (r ∷ rows) is a b g = let old = stamped_goes last s rows is a b g in record { from = (omega arith, old.from); edge = (a, b, old.from, old.edge) }

stamped_from : (k s : ℕ) (rows : List Row) (is : List Item) → k ≤ s → AllFrom k is → AllFrom k (stamped s rows ++ is)
stamped_from k s [] is l f = f
stamped_from k s (r ∷ rows) is l f = (l, stamped_from k s rows is l f)

stamped_marks : (k s : ℕ) (rows : List Row) (is : List Item) → has_mark_at k (stamped s rows ++ is) ≡ has_mark_at k is
stamped_marks k s [] is = refl
stamped_marks k s (r ∷ rows) is = stamped_marks k s rows is

module _ (op : OpSpec) where
  -- the rows of a place, its sign, and what follows
  in_parts : (x is : List Item) (i : Item) → answered op x (i ∷ is) ≡ stamped (stamp_of i) (answer op x i) ++ (passed i ++ answered op (x ++ i ∷ []) is)
  in_parts x is i = append_assoc (stamped (stamp_of i) (answer op x i)) (passed i) (answered op (x ++ i ∷ []) is)

  answered_from : (k : ℕ) (x is : List Item) → AllFrom k is → AllFrom k (answered op x is)
  answered_from k x [] f = tt
  answered_from k x (item.Row s r ∷ is) f =
      subst (AllFrom k) (sym (in_parts x is (item.Row s r)))
      (stamped_from k s (answer op x (item.Row s r)) (answered op (x ++ item.Row s r ∷ []) is) f.0 (answered_from k (x ++ item.Row s r ∷ []) is f.1))
  answered_from k x (item.Mark s ∷ is) f = (f.0, answered_from k (x ++ item.Mark s ∷ []) is f.1)
  answered_from k x (item.End s ∷ is) f =
      subst (AllFrom k) (sym (in_parts x is (item.End s)))
      (stamped_from k s (answer op x (item.End s)) (item.End s ∷ answered op (x ++ item.End s ∷ []) is) f.0 (f.0, answered_from k (x ++ item.End s ∷ []) is f.1))

  pub answered_edge : (last : ℕ) (x is : List Item) → IsEdge last is → IsEdge last (answered op x is)
  answered_edge last x [] e = e
  answered_edge last x (item.Row s r ∷ is) e =
      subst (IsEdge last) (sym (in_parts x is (item.Row s r)))
      (stamped_goes last s (answer op x (item.Row s r)) (answered op (x ++ item.Row s r ∷ []) is) e.0 e.1
      (record { from = answered_from s (x ++ item.Row s r ∷ []) is e.2; edge = answered_edge last (x ++ item.Row s r ∷ []) is e.3 })).edge
  answered_edge last x (item.Mark s ∷ is) e = (e.0, e.1, answered_from (s + 1) (x ++ item.Mark s ∷ []) is e.2, answered_edge last (x ++ item.Mark s ∷ []) is e.3)
  answered_edge last x (item.End s ∷ is) e =
      let none : answered op (x ++ item.End s ∷ []) is ≡ [] = ap (answered op (x ++ item.End s ∷ [])) e.2 in
      subst (IsEdge last) (sym (in_parts x is (item.End s)))
      (stamped_goes last s (answer op x (item.End s)) (item.End s ∷ answered op (x ++ item.End s ∷ []) is) e.0 (let l = e.1 in omega arith)
      (record { from = (omega arith, subst (AllFrom s) (sym none) tt); edge = (e.0, e.1, none) })).edge

  pub answered_marks : (k : ℕ) (x is : List Item) → has_mark_at k (answered op x is) ≡ has_mark_at k is
  answered_marks k x [] = refl
  answered_marks k x (item.Row s r ∷ is) =
      ap (has_mark_at k) (in_parts x is (item.Row s r))
      ∙ (stamped_marks k s (answer op x (item.Row s r)) (answered op (x ++ item.Row s r ∷ []) is) ∙ answered_marks k (x ++ item.Row s r ∷ []) is)
  answered_marks k x (item.Mark s ∷ is) = ap (λ b. (s == k) || b) (answered_marks k (x ++ item.Mark s ∷ []) is)
  answered_marks k x (item.End s ∷ is) =
      ap (has_mark_at k) (in_parts x is (item.End s))
      ∙ (stamped_marks k s (answer op x (item.End s)) (item.End s ∷ answered op (x ++ item.End s ∷ []) is) ∙ answered_marks k (x ++ item.End s ∷ []) is)

-- what ingress sends ----------------------------------------------------------------------

pub source_from : (q mark n : ℕ) (inputs : List Input) → AllFrom n (sent_from q mark n inputs)
source_from q mark n [] = (omega arith, tt)
source_from q mark n (r ∷ inputs) =
    let later = weaken n (n + 1) (sent_from q mark (n + 1) inputs) (omega arith) (source_from q mark (n + 1) inputs) in
    let rest = mark_after mark n ++ sent_from q mark (n + 1) inputs in
    let rest_from : AllFrom n rest =
    if_elim (λ xs. AllFrom n (xs ++ sent_from q mark (n + 1) inputs)) (n % mark == 0) (item.Mark n ∷ []) [] (λ e. (omega arith, later)) (λ e. later) in
    if_elim (λ xs. AllFrom n (xs ++ rest)) (r.source == q) (item.Row n r.row ∷ []) [] (λ e. (omega arith, rest_from)) (λ e. rest_from)

source_goes : (last q mark n : ℕ) (inputs : List Input) → 1 ≤ n → n + length inputs ≡ last → IsEdge last (sent_from q mark n inputs)
source_goes last q mark n [] one l = (one, omega arith, refl)
source_goes last q mark n (r ∷ inputs) one l =
    let old = source_goes last q mark (n + 1) inputs (omega arith) (omega arith) in
    let later = source_from q mark (n + 1) inputs in
    let rest = mark_after mark n ++ sent_from q mark (n + 1) inputs in
    let tail : Goes last n rest =
    if_elim (λ xs. Goes last n (xs ++ sent_from q mark (n + 1) inputs)) (n % mark == 0) (item.Mark n ∷ []) []
    (λ e. record { from = (omega arith, weaken n (n + 1) (sent_from q mark (n + 1) inputs) (omega arith) later); edge = (one, omega arith, later, old) })
    (λ e. record { from = weaken n (n + 1) (sent_from q mark (n + 1) inputs) (omega arith) later; edge = old }) in
    if_elim (λ xs. IsEdge last (xs ++ rest)) (r.source == q) (item.Row n r.row ∷ []) [] (λ e. (one, omega arith, tail.from, tail.edge)) (λ e. tail.edge)

pub source_edge : (plan : PlanView) (inputs : List Input) (q : ℕ) → IsEdge (last_stamp inputs) (sent_by_source plan inputs q)
source_edge plan inputs q = source_goes (last_stamp inputs) q plan.mark 1 inputs (omega arith) (omega arith)

row_marks : (q stamp k : ℕ) (r : Input) (is : List Item) → has_mark_at k (row_of_source q stamp r ++ is) ≡ has_mark_at k is
row_marks q stamp k r is = if_elim (λ xs. has_mark_at k (xs ++ is) ≡ has_mark_at k is) (r.source == q) (item.Row stamp r.row ∷ []) [] (λ e. refl) (λ e. refl)

-- all sources send the same marks
pub source_marks : (q v mark n k : ℕ) (inputs : List Input) → has_mark_at k (sent_from q mark n inputs) ≡ has_mark_at k (sent_from v mark n inputs)
source_marks q v mark n k [] = refl
source_marks q v mark n k (r ∷ inputs) =
    let here = sent_from q mark (n + 1) inputs in
    let there = sent_from v mark (n + 1) inputs in
    let rest : has_mark_at k (mark_after mark n ++ here) ≡ has_mark_at k (mark_after mark n ++ there) =
    if_elim (λ xs. has_mark_at k (xs ++ here) ≡ has_mark_at k (xs ++ there)) (n % mark == 0) (item.Mark n ∷ []) []
    (λ e. ap (λ b. (n == k) || b) (source_marks q v mark (n + 1) k inputs)) (λ e. source_marks q v mark (n + 1) k inputs) in
    row_marks q n k r (mark_after mark n ++ here) ∙ (rest ∙ sym (row_marks v n k r (mark_after mark n ++ there)))

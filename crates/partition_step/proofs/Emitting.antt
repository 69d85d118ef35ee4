-- What producing rows one after another leaves.
use Rattle.std.proofs.Common.{◌≡◌, ◌<◌, ◌≤◌, ◌+◌, ℕ, zero, suc, List, [], ◌∷◌, ◌++◌, Option, None, Some, Result, Ok, Err, OnOk, length, take, refl, sym, ap, ◌∙◌, subst, arith}
use Rattle.std.specs.Prelude.{slice_index_or}
use Rattle.std.proofs.lemmas.List.{map-append, take_all}
use Rattle.tuple_edge.specs.declared.item.Item.{Item}
use Rattle.tuple_edge.specs.declared.item.Item.TheVariants as item
use Rattle.tuple_edge.specs.declared.row.Row.{Row}
use Rattle.tuple_edge.specs.Item.{stamp_of}
use Rattle.tuple_edge.specs.Limits.{number_limit}
use Rattle.flux_producer.specs.ProducerView.{HasRoom, ProducerView, buffer_at}
use Rattle.plan_reader.specs.declared.stage.Stage.{Stage}
use Rattle.pair_machine.specs.Edges.{edge_to, passed, stamped}
use Rattle.pair_machine.proofs.Made.{edge_to-append}
use Rattle.node_edges.specs.OutEdges.{HasMade, MayMakeMore}
use Rattle.node_edges.proofs.OnEdges.{made_both, made_so, none_made}
use Rattle.partition_step.specs.Answering.{TakesOne}

-- nothing is on an edge of nothing
edge_to_nothing : (next : Option Stage) (t : ℕ) → edge_to next t [] ≡ []
edge_to_nothing None t = refl
edge_to_nothing (Some stage) t = refl

-- a front of a list with the next element
front_with : {X : Type 0} (k : ℕ) (xs : List X) (d : X) → k < length xs → take (suc k) xs ≡ take k xs ++ slice_index_or xs k d ∷ []
front_with k [] d within = absurd (omega arith)
front_with zero (x ∷ xs) d within = refl
front_with (suc k) (x ∷ xs) d within = ap (λ zs. x ∷ zs) (front_with k xs d (omega arith))

-- The first k of some rows were produced, and each edge has room for what is left and one item more.
pub record HasEmitted (next : Option Stage) (stamp : ℕ) (rows : List Row) (k : ℕ) (y z : ProducerView) : Type 0 where
  pub made : HasMade (λ t. edge_to next t (stamped stamp (take k rows))) y z
  pub room : (t : ℕ) → t < length z.edges → length rows + 1 ≤ (buffer_at z t).spare + k
  pub fits : (t : ℕ) → t < length z.edges → (buffer_at z t).produced + length rows + 1 < number_limit + k

pub none_emitted : (next : Option Stage) (stamp : ℕ) (rows : List Row) (y : ProducerView) → HasRoom y.edges (length rows + 1) → MayMakeMore (length rows + 1) y
    → HasEmitted next stamp rows 0 y y
none_emitted next stamp rows y room fits = record {
  made = made_so (λ t. []) (λ t. edge_to next t []) y y (λ t. sym (edge_to_nothing next t)) (none_made y);
  room = λ t l. let h = room t l in omega arith;
  fits = λ t l. let h = fits t l in omega arith;
}

pub one_emitted : (next : Option Stage) (stamp : ℕ) (rows : List Row) (k : ℕ) (d : Row) (y z w : ProducerView) → k < length rows → HasEmitted next stamp rows k y z
    → HasMade (λ t. edge_to next t (item.Row stamp (slice_index_or rows k d) ∷ [])) z w → TakesOne z w → HasEmitted next stamp rows (k + 1) y w
one_emitted next stamp rows k d y z w within had one takes = record {
  made = made_so (λ t. edge_to next t (stamped stamp (take k rows)) ++ edge_to next t (item.Row stamp row ∷ [])) (λ t. edge_to next t (stamped stamp (take (k + 1) rows))) y w more
      (made_both (λ t. edge_to next t (stamped stamp (take k rows))) (λ t. edge_to next t (item.Row stamp row ∷ [])) y z w had.made one);
  room = λ t l. let e = takes.targets in let h = had.room t (omega arith) in let g = takes.room t (omega arith) in omega arith;
  fits = λ t l. let e = takes.targets in let h = had.fits t (omega arith) in let g = takes.produced t (omega arith) in omega arith;
}
  where
    row : Row
    row = slice_index_or rows k d

    next_front : take (k + 1) rows ≡ take k rows ++ row ∷ []
    next_front = let one_more : k + 1 ≡ suc k = omega arith in ap (λ n. take n rows) one_more ∙ front_with k rows d within

    more : (t : ℕ) → edge_to next t (stamped stamp (take k rows)) ++ edge_to next t (item.Row stamp row ∷ []) ≡ edge_to next t (stamped stamp (take (k + 1) rows))
    more t =
        sym (edge_to-append next t (stamped stamp (take k rows)) (item.Row stamp row ∷ []))
        ∙ ap (edge_to next t) (sym (ap (stamped stamp) next_front ∙ map-append (item.Row stamp) (take k rows) (row ∷ [])))

-- room for one item is left where all rows were produced
pub room_left : (next : Option Stage) (stamp : ℕ) (rows : List Row) (k : ℕ) (y z : ProducerView) → k ≤ length rows → HasEmitted next stamp rows k y z → HasRoom z.edges 1
room_left next stamp rows k y z within had t l = let h = had.room t l in omega arith

pub fits_left : (next : Option Stage) (stamp : ℕ) (rows : List Row) (k : ℕ) (y z : ProducerView) → k ≤ length rows → HasEmitted next stamp rows k y z → MayMakeMore 1 z
fits_left next stamp rows k y z within had t l = let h = had.fits t l in omega arith

-- all rows were produced
pub all_emitted : (next : Option Stage) (stamp : ℕ) (rows : List Row) (k : ℕ) (y z : ProducerView) → length rows ≤ k → HasEmitted next stamp rows k y z
    → HasMade (λ t. edge_to next t (stamped stamp rows)) y z
all_emitted next stamp rows k y z past had =
    subst (λ rs. HasMade (λ t. edge_to next t (stamped stamp rs)) y z) (take_all k rows past) had.made

-- a mark and an end go on every edge
to_each : (next : Option Stage) (t : ℕ) (i : Item) → edge_to next t (passed i) ≡ passed i
to_each None t i = refl
to_each (Some stage) t (item.Row stamp row) = refl
to_each (Some stage) t (item.Mark stamp) = refl
to_each (Some stage) t (item.End stamp) = refl

-- the rows were produced, and then what is passed on
pub answer_emitted : (next : Option Stage) (stamp : ℕ) (rows : List Row) (i : Item) (y z w : ProducerView) → stamp ≡ stamp_of i
    → HasMade (λ t. edge_to next t (stamped stamp rows)) y z → HasMade (λ t. passed i) z w
    → HasMade (λ t. edge_to next t (stamped (stamp_of i) rows ++ passed i)) y w
answer_emitted next stamp rows i y z w same first news =
    made_so (λ t. edge_to next t (stamped stamp rows) ++ passed i) (λ t. edge_to next t (stamped (stamp_of i) rows ++ passed i)) y w
    (λ t. ap (λ is. edge_to next t (stamped stamp rows) ++ is) (sym (to_each next t i))
    ∙ sym (edge_to-append next t (stamped stamp rows) (passed i))
    ∙ ap (λ s. edge_to next t (stamped s rows ++ passed i)) same)
    (made_both (λ t. edge_to next t (stamped stamp rows)) (λ t. passed i) y z w first news)

-- what follows from what holds where a call succeeds
pub on_ok : {X Y : Type 0} (r : Result X Y) (P Q : Type 0) → (P → Q) → OnOk r P → OnOk r Q
on_ok (Ok x) P Q f h = f h
on_ok (Err e) P Q f h = tt

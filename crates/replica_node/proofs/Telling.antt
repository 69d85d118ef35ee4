-- The list of a move, by what is held and by numbers.
use Rattle.std.proofs.Common.{◌≡◌, ◌<◌, ◌+◌, ℕ, zero, suc, List, [], ◌∷◌, ◌++◌, length, refl, ap, ◌∙◌, arith}
use Rattle.tuple_edge.specs.declared.packet.Entry.{Entry}
use Rattle.tuple_edge.specs.declared.packet.Entry.TheVariants as entry
use Rattle.merge_order.specs.MergeView.{waiting_of}
use Rattle.flux_producer.specs.ProducerView.{buffer_at}
use Rattle.plan_reader.specs.Nodes.{parts_of, sources_of}
use Rattle.pair_machine.specs.Contents as contents
use Rattle.pair_machine.specs.Counts.{entries_after, made_on}
use Rattle.pair_machine.specs.Counts as counts
use Rattle.pair_machine.specs.Numbers.{out_edge}
use Rattle.move_list.specs.MoveList.{head_entries, kept_entries, low_entry, mark_entry}
use Rattle.tuple_edge.specs.Entries.{each_below, numbered}
use Rattle.replica_node.specs.Moves.{MovesTellTheirNumbers}

same_below : (n : ℕ) (f g : ℕ → List Entry) → ((q : ℕ) → q < n → f q ≡ g q) → each_below n f ≡ each_below n g
same_below zero f g same = refl
same_below (suc n) f g same =
    ap (λ es. es ++ f n) (same_below n f g (λ q below. same q (omega (arith, below))))
    ∙ ap (λ es. each_below n g ++ es) (same n (omega arith))

pub moves_tell : MovesTellTheirNumbers
moves_tell plan rows p n m producer held =
    ap (λ es. es ++ (entry.Count m.count ∷ []) ++ each_below (length m.marks) (head_entries m) ++ each_below (length producer.edges) (low_entry producer) ++ each_below (length producer.edges) (kept_entries producer) ++ last) marks
    ∙ ap (λ c. each_below sources mark_by ++ (entry.Count c ∷ []) ++ each_below (length m.marks) (head_entries m) ++ each_below (length producer.edges) (low_entry producer) ++ each_below (length producer.edges) (kept_entries producer) ++ last) held.count
    ∙ ap (λ es. each_below sources mark_by ++ (entry.Count n.count ∷ []) ++ es ++ each_below (length producer.edges) (low_entry producer) ++ each_below (length producer.edges) (kept_entries producer) ++ last) heads
    ∙ ap (λ es. each_below sources mark_by ++ (entry.Count n.count ∷ []) ++ each_below sources heads_by ++ es ++ each_below (length producer.edges) (kept_entries producer) ++ last) lows
    ∙ ap (λ es. each_below sources mark_by ++ (entry.Count n.count ∷ []) ++ each_below sources heads_by ++ each_below targets low_by ++ es ++ last) kept
  where
    last : List Entry
    last = entries_after plan rows p n.count

    sources : ℕ
    sources = sources_of plan p.stage

    targets : ℕ
    targets = parts_of plan (p.stage + 1)

    mark_by : ℕ → List Entry
    mark_by q = entry.Mark q (n.marks q) ∷ []

    heads_by : ℕ → List Entry
    heads_by q = numbered (λ j x. entry.Head q j x) (counts.used_of plan rows p q n.count) (contents.waiting plan rows p n.count q (n.marks q))

    low_by : ℕ → List Entry
    low_by t = entry.Low t (n.lows t) (made_on plan rows (out_edge p t) n.count) ∷ []

    kept_by : ℕ → List Entry
    kept_by t = numbered (λ j x. entry.Kept t j x) (n.lows t) (contents.kept plan rows p n.count t (n.lows t))

    marks : each_below (length m.marks) (mark_entry m) ≡ each_below (sources_of plan p.stage) mark_by
    marks =
        same_below (length m.marks) (mark_entry m) mark_by (λ q below. ap (λ k. entry.Mark q k ∷ []) (held.marks q below))
        ∙ ap (λ k. each_below k mark_by) held.sources

    heads : each_below (length m.marks) (head_entries m) ≡ each_below (sources_of plan p.stage) heads_by
    heads =
        same_below (length m.marks) (head_entries m) heads_by (λ q below.
        ap (λ k. numbered (entry.Head q) k (waiting_of m q)) (held.used q below)
        ∙ ap (numbered (entry.Head q) (counts.used_of plan rows p q n.count)) (held.waits q below))
        ∙ ap (λ k. each_below k heads_by) held.sources

    lows : each_below (length producer.edges) (low_entry producer) ≡ each_below (parts_of plan (p.stage + 1)) low_by
    lows =
        same_below (length producer.edges) (low_entry producer) low_by (λ t below.
        ap (λ k. entry.Low t k (buffer_at producer t).produced ∷ []) (held.lows t below)
        ∙ ap (λ k. entry.Low t (n.lows t) k ∷ []) (held.made t below))
        ∙ ap (λ k. each_below k low_by) held.targets

    kept : each_below (length producer.edges) (kept_entries producer) ≡ each_below (parts_of plan (p.stage + 1)) kept_by
    kept =
        same_below (length producer.edges) (kept_entries producer) kept_by (λ t below.
        ap (λ k. numbered (entry.Kept t) k (buffer_at producer t).items) (held.lows t below)
        ∙ ap (numbered (entry.Kept t) (n.lows t)) (held.kept t below))
        ∙ ap (λ k. each_below k kept_by) held.targets

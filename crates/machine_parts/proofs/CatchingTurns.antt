-- The turns of a newcomer and of its controller keep that its reports are covered. That nothing of a move stands for an incarnation which
-- is only now named follows from the order of incarnations, so that there is one move for a target isn't used.
use Rattle.std.proofs.Common.{◌≡◌, ◌≤◌, ℕ, Bool, false, List, [], ◌∷◌, ◌++◌, None, Some, ◌+◌, refl, sym, ap, ◌∙◌, subst, arith, ⊎_elim}
use Rattle.std.specs.Prelude.{◌==◌, if◌then◌else◌, Option}
use Rattle.std.proofs.lemmas.Bool.{eq-eqb}
use Rattle.tuple_edge.specs.declared.node.EdgeId.{EdgeId}
use Rattle.tuple_edge.specs.declared.status.Status.TheVariants as status
use Rattle.pair_machine.specs.Controllers.{is_down}
use Rattle.pair_machine.specs.Flow.{Flow}
use Rattle.pair_machine.specs.Lists.{Among}
use Rattle.pair_machine.specs.Messages.{Chunk, ChunkEnd, Message, Report, Serve}
use Rattle.pair_machine.specs.Numbers.{Gathering, Gone, Move, MoveNumbers, Partition, Replica, Running, Watched}
use Rattle.pair_machine.specs.Pairs.{AreCatchingCovered, AreCountedCovered, AreIncarnationsInOrder, Awaits, CountedReach, Free, Gathers, MoveAtMost, MoveIs, Moves, NamesAtMost, OfServe, PartnerReaches, ServedAtMost, Side, Stands, in_chunk, in_end, in_gatherer, in_mover}
use Rattle.pair_machine.specs.Replicas.{inc_of}
use Rattle.pair_machine.proofs.CatchingKept.{awaits_below}
use Rattle.pair_machine.proofs.Lists.{among_more, each_at}
use Rattle.pair_machine.proofs.MovesKept.{chunk_as}
use Rattle.pair_machine.proofs.Turns.{side, Turn, runs, tells, asks_stop, asks_back, serves, gives, ends, dies, halts, begins, holds, gathers, catches, hears, flags, raises, names, downs, stops, backs}

-- a turn after which the newcomer still awaits only what it awaited, and gathers only what stood
awaits_as : (b a a_after : Side)
    → (a_after.watched.status ≡ status.Catching → a.watched.status ≡ status.Catching) → a.watched.inc ≡ a_after.watched.inc → a.watched.reports ≡ a_after.watched.reports
    → (Awaits a_after.replica a_after.watched.inc → Awaits a.replica a_after.watched.inc)
    → ((i : ℕ) (m : MoveNumbers) → Gathers a_after.replica i m → Stands b a i m) → AreCatchingCovered b a → AreCatchingCovered b a_after
awaits_as b a a_after catching same reports await from_old k = record {
  moves = λ c w m g q. rw (← reports) (k.moves (catching c) (old w) m (subst (λ i. Stands b a i m) (sym same) (stands a_after.watched.inc m g)) q);
  partner = λ c w j g. rw (← reports, ← same) (k.partner (catching c) (old w) j (subst (λ i. Among (Serve j i) b.down) (sym same) g));
}
  where
    old : Awaits a_after.replica a_after.watched.inc → Awaits a.replica a.watched.inc
    old w = subst (Awaits a.replica) (sym same) (await w)

    stands : (i : ℕ) (m : MoveNumbers) → Stands b a_after i m → Stands b a i m
    stands i m (in_mover g) = in_mover g
    stands i m (in_chunk n g) = in_chunk n g
    stands i m (in_end n g) = in_end n g
    stands i m (in_gatherer g) = from_old i m g

-- who awaits its incarnation has sent no report of it
no_report : (r : Replica) (i : ℕ) (e : EdgeId) (k : ℕ) → Awaits r i → NamesAtMost (inc_of r) (Report i e k) → Free r (Report i e k) → ⊥
no_report (Gone j) i e k w n free = omega arith
no_report (Running x) i e k w n free = omega arith
no_report (Gathering g) i e k w n free = free (omega arith)

-- ---- a replica that is brought back

-- nothing of a move stands for an incarnation above the controller's
mover_late : (r : Replica) (n : ℕ) (m : MoveNumbers) → ServedAtMost n r → Moves r (n + 1) m → ⊥
mover_late (Gone j) n m served g = g
mover_late (Gathering g) n m served moves = moves
mover_late (Running x) n m served g = by_move x.move served.1 g
  where
    by_move : (o : Option Move) → MoveAtMost x.served o → MoveIs o (n + 1) m → ⊥
    by_move None most is = is
    by_move (Some mv) most is = omega (arith, served.0, most, is.0)

gatherer_late : (r : Replica) (n : ℕ) (m : MoveNumbers) → inc_of r ≤ n → Gathers r (n + 1) m → ⊥
gatherer_late (Gone j) n m below g = g
gatherer_late (Running x) n m below g = g
gatherer_late (Gathering x) n m below g = omega (arith, below, g.0)

nothing_late : (b a : Side) (m : MoveNumbers) → AreIncarnationsInOrder a b → AreIncarnationsInOrder b a → Stands b a (a.watched.inc + 1) m → ⊥
nothing_late b a m n n_other (in_mover g) = mover_late b.replica a.watched.inc m n_other.served g
nothing_late b a m n n_other (in_chunk k g) = let z = each_at (NamesAtMost a.watched.inc) (Chunk (a.watched.inc + 1) k m) b.across g n_other.to_partner in omega arith
nothing_late b a m n n_other (in_end k g) = let z = each_at (NamesAtMost a.watched.inc) (ChunkEnd (a.watched.inc + 1) k m) b.across g n_other.to_partner in omega arith
nothing_late b a m n n_other (in_gatherer g) = gatherer_late a.replica a.watched.inc m n.below g

partner_reaches : (r : Replica) (h : Watched) (i j : ℕ) → h.status ≡ status.Up → j ≡ h.inc → CountedReach h r → PartnerReaches h.reports i j r
partner_reaches (Gone k) h i j up same c = tt
partner_reaches (Gathering g) h i j up same c = tt
partner_reaches (Running y) h i j up same c = λ is late. c (ap (λ s. if is_down s then false else y.inc == h.inc) up ∙ eq-eqb y.inc h.inc (is ∙ same))

brought_back : (a b : Side) (h : Watched) (down : List Message) → b.watched.status ≡ status.Up → h.inc ≡ a.watched.inc + 1 → h.reports ≡ b.watched.reports
    → AreIncarnationsInOrder a b → AreIncarnationsInOrder b a → AreCountedCovered b a
    → AreCatchingCovered (record b { down = b.down ++ Serve b.watched.inc (a.watched.inc + 1) ∷ [] }) (side a.replica h a.up down a.across)
brought_back a b h down up is reports n n_other c = record {
  moves = λ st w m g q. absurd (nothing_late b a m n n_other (subst (λ i. Stands b a i m) is (stands h.inc m g)));
  partner = λ st w j g. ⊎_elim (λ o. absurd (late j o)) (λ o. let at : j ≡ b.watched.inc = cc o in rw reports (partner_reaches b.replica b.watched h.inc j up at c.reach)) (among_more (Serve j h.inc) b.down new g);
}
  where
    new : Message
    new = Serve b.watched.inc (a.watched.inc + 1)

    late : (j : ℕ) → Among (Serve j h.inc) b.down → ⊥
    late j g = let z = each_at (OfServe (λ i t. t ≤ a.watched.inc)) (Serve j h.inc) b.down g n_other.targets in omega (arith, z, is)

    stands : (i : ℕ) (m : MoveNumbers) → Stands (record b { down = b.down ++ Serve b.watched.inc (a.watched.inc + 1) ∷ [] }) (side a.replica h a.up down a.across) i m → Stands b a i m
    stands i m (in_mover g) = in_mover g
    stands i m (in_chunk k g) = in_chunk k g
    stands i m (in_end k g) = in_end k g
    stands i m (in_gatherer g) = in_gatherer g

-- ---- the turns of a, the newcomer

pub catching_turn : {f : Flow} {p : Partition} {kill stop : Bool} {a b a_after b_after : Side} → Turn f p kill stop a b a_after b_after
    → AreIncarnationsInOrder a b → AreIncarnationsInOrder b a → AreCountedCovered b a → AreCatchingCovered b a → AreCatchingCovered b_after a_after
catching_turn (runs x t s h up down across b m) n n_other c k = awaits_as b (side (Running x) h up down across) _ (λ e. e) refl refl (λ w. w) (λ i m g. absurd g) k
catching_turn (tells x e h up down across b) n n_other c k = awaits_as b (side (Running x) h up down across) _ (λ e. e) refl refl (λ w. w) (λ i m g. absurd g) k
catching_turn (asks_stop x h up down across b y) n n_other c k = awaits_as b (side (Running x) h up down across) _ (λ e. e) refl refl (λ w. w) (λ i m g. absurd g) k
catching_turn (asks_back x h up down across b) n n_other c k = awaits_as b (side (Running x) h up down across) _ (λ e. e) refl refl (λ w. w) (λ i m g. absurd g) k
catching_turn (serves x target h up down across b told l) n n_other c k = awaits_as b (side (Running x) h up down across) _ (λ e. e) refl refl (λ w. w) (λ i m g. absurd g) k
catching_turn (gives x mv h up down across b e) n n_other c k = awaits_as b (side (Running x) h up down across) _ (λ e. e) refl refl (λ w. w) (λ i m g. absurd g) k
catching_turn (ends x mv h up down across b e) n n_other c k = awaits_as b (side (Running x) h up down across) _ (λ e. e) refl refl (λ w. w) (λ i m g. absurd g) k
catching_turn (dies r h up down across b y) n n_other c k = awaits_as b (side r h up down across) _ (λ e. e) refl refl (awaits_below r h.inc) (λ i m g. absurd g) k
catching_turn (halts r h up down across b told) n n_other c k = awaits_as b (side r h up down across) _ (λ e. e) refl refl (awaits_below r h.inc) (λ i m g. absurd g) k
catching_turn (begins r i h up down across b told l) n n_other c k =
    awaits_as b (side r h up down across) _ (λ e. e) refl refl (λ w. awaits_below r h.inc (omega arith)) (λ j m g. let e : None ≡ Some m = g.1 in cc) k
catching_turn (holds g held h up down across b) n n_other c k = awaits_as b (side (Gathering g) h up down across) _ (λ e. e) refl refl (λ w. w) (λ i m g. in_gatherer g) k
catching_turn (gathers g m h up down across b told) n n_other c k =
    awaits_as b (side (Gathering g) h up down across) _ (λ e. e) refl refl (λ w. w) (λ i m_other e. in_chunk (g.taken + 1) (chunk_as g.inc i (g.taken + 1) m m_other b.across told e.0 e.1)) k
catching_turn (catches g m h up down across b told) n n_other c k = awaits_as b (side (Gathering g) h up down across) _ (λ e. e) refl refl (λ w. omega arith) (λ i m g. absurd g) k
catching_turn (hears r h up down across b e number not_down told) n n_other c k =
    let named = each_at (NamesAtMost (inc_of r)) (Report h.inc e number) up told n.to_control in
    let free = each_at (Free r) (Report h.inc e number) up told n.free_up in
    record { moves = λ st w m g q. absurd (no_report r h.inc e number w named free); partner = λ st w j g. absurd (no_report r h.inc e number w named free) }
catching_turn (flags r h up down across b stop back y) n n_other c k = awaits_as b (side r h up down across) _ (λ e. e) refl refl (λ w. w) (λ i m g. in_gatherer g) k
catching_turn (raises r h up down across b is told) n n_other c k = awaits_as b (side r h up down across) _ (λ e. cc) refl refl (λ w. w) (λ i m g. in_gatherer g) k
catching_turn (names r h up down across b term) n n_other c k = awaits_as b (side r h up down across) _ (λ e. e) refl refl (λ w. w) (λ i m g. in_gatherer g) k
catching_turn (downs r h up down across b y) n n_other c k = awaits_as b (side r h up down across) _ (λ e. cc) refl refl (λ w. w) (λ i m g. in_gatherer g) k
catching_turn (stops r h up down across b y) n n_other c k = awaits_as b (side r h up down across) _ (λ e. e) refl refl (λ w. w) (λ i m g. in_gatherer g) k
catching_turn (backs r h up down across b is_down up_there) n n_other c k = brought_back (side r h up down across) b _ _ up_there refl refl n n_other c

-- Each turn keeps what is known of a Catching replica: its reports are reached by the move and by its partner.
use Rattle.std.proofs.Common.{◌≡◌, ◌≢◌, ⊎_elim, ◌<◌, ◌≤◌, ℕ, Bool, false, List, [], ◌∷◌, ◌++◌, None, Some, ◌+◌, refl, sym, ap, ◌∙◌, subst, arith}
use Rattle.std.specs.Prelude.{◌==◌, if◌then◌else◌}
use Rattle.std.proofs.lemmas.Bool.{eq-eqb}
use Rattle.tuple_edge.specs.declared.status.Status.TheVariants as status
use Rattle.pair_machine.specs.Controllers.{is_down}
use Rattle.pair_machine.specs.Flow.{Flow}
use Rattle.pair_machine.specs.Lists.{Among}
use Rattle.pair_machine.specs.Messages.{Chunk, ChunkEnd, Lead, Message, Report, Serve, Stop}
use Rattle.pair_machine.specs.Numbers.{Gathering, Gone, MoveNumbers, Partition, Replica, Running, RunningNumbers, Watched}
use Rattle.pair_machine.specs.Pairs.{AreCatchingCovered, AreCountedCovered, AreIncarnationsInOrder, Awaits, CountedReach, Free, Gathers, IsOneMove, Moves, NamesAtMost, OfServe, PartnerReaches, Side, Stands, in_chunk, in_end, in_gatherer, in_mover}
use Rattle.pair_machine.specs.Replicas.{begun, inc_of, size}
use Rattle.tuple_edge.specs.declared.node.EdgeId.{EdgeId}
use Rattle.pair_machine.proofs.Turns.{side, Turn, runs, tells, asks_stop, asks_back, serves, gives, ends, dies, halts, begins, holds, gathers, catches, hears, flags, raises, names, downs, stops, backs}
use Rattle.pair_machine.proofs.Lists.{each_at, among_more}
use Rattle.pair_machine.proofs.MovesKept.{chunk_as, move_as, serve_told}

caught_as : (b a a_after : Side) →
    (a_after.watched.status ≡ status.Catching → a.watched.status ≡ status.Catching) →
    a.watched.inc ≡ a_after.watched.inc →
    a.watched.reports ≡ a_after.watched.reports →
    (Awaits a_after.replica a_after.watched.inc → Awaits a.replica a_after.watched.inc) →
    ((i : ℕ) (m : MoveNumbers) → Gathers a_after.replica i m → Stands b a i m) →
    AreCatchingCovered b a → AreCatchingCovered b a_after
caught_as b a a_after st e rep await from_old k = record {
  moves = λ c w m g q. rw (← rep) (k.moves (st c) (old w) m (subst (λ i. Stands b a i m) (sym e) (stands a_after.watched.inc m g)) q);
  partner = λ c w j g. rw (← rep, ← e) (k.partner (st c) (old w) j (subst (λ i. Among (Serve j i) b.down) (sym e) g));
}
  where
    old : Awaits a_after.replica a_after.watched.inc → Awaits a.replica a.watched.inc
    old w = subst (Awaits a.replica) (sym e) (await w)

    stands : (i : ℕ) (m : MoveNumbers) → Stands b a_after i m → Stands b a i m
    stands i m (in_mover g) = in_mover g
    stands i m (in_chunk n g) = in_chunk n g
    stands i m (in_end n g) = in_end n g
    stands i m (in_gatherer g) = from_old i m g

pub awaits_below : (r : Replica) (i : ℕ) → inc_of r < i → Awaits r i
awaits_below (Gone j) i h = h
awaits_below (Running x) i h = h
awaits_below (Gathering g) i h = omega arith

-- what awaits the controller's number has sent no Report of it
no_report : (r : Replica) (i : ℕ) (e : EdgeId) (k : ℕ) → Awaits r i → NamesAtMost (inc_of r) (Report i e k) → Free r (Report i e k) → ⊥
no_report (Gone j) i e k w n free = omega arith
no_report (Running x) i e k w n free = omega arith
no_report (Gathering g) i e k w n free = free (omega arith)

partner_backs : (r : Replica) (h : Watched) (i j : ℕ) → h.status ≡ status.Up → j ≡ h.inc → CountedReach h r → PartnerReaches h.reports i j r
partner_backs (Gone k) h i j u e c = tt
partner_backs (Gathering g) h i j u e c = tt
partner_backs (Running y) h i j u e c = λ same l. c (ap (λ s. if is_down s then false else y.inc == h.inc) u ∙ eq-eqb y.inc h.inc (same ∙ e))

backs_caught : (f : Flow) (p : Partition) (a b : Side) (h_after : Watched) (down : List Message) → b.watched.status ≡ status.Up → h_after.inc ≡ a.watched.inc + 1 → h_after.reports ≡ b.watched.reports →
    AreIncarnationsInOrder b a → IsOneMove f p b a → AreCountedCovered b a →
    AreCatchingCovered (record b { down = b.down ++ Serve b.watched.inc (a.watched.inc + 1) ∷ [] }) (side a.replica h_after a.up down a.across)
backs_caught f p a b h_after down u e rep n k c = record {
  moves = λ st w m g q. absurd (let s = k.served h_after.inc m (stands h_after.inc m g) in late s.0 s.1);
  partner = λ st w j g. ⊎_elim (λ o. absurd (late j o)) (λ o. let at : j ≡ b.watched.inc = cc o in rw rep (partner_backs b.replica b.watched h_after.inc j u at c.reach)) (among_more (Serve j h_after.inc) b.down new g);
}
  where
    new : Message
    new = Serve b.watched.inc (a.watched.inc + 1)

    late : (j : ℕ) → Among (Serve j h_after.inc) b.down → ⊥
    late j g = let z = each_at (OfServe (λ i t. t ≤ a.watched.inc)) (Serve j h_after.inc) b.down g n.targets in omega arith

    stands : (i : ℕ) (m : MoveNumbers) → Stands (record b { down = b.down ++ Serve b.watched.inc (a.watched.inc + 1) ∷ [] }) (side a.replica h_after a.up down a.across) i m → Stands b a i m
    stands i m (in_mover g) = in_mover g
    stands i m (in_chunk n g) = in_chunk n g
    stands i m (in_end n g) = in_end n g
    stands i m (in_gatherer g) = in_gatherer g

-- the turn of a, which is Catching
pub keep_catching : {f : Flow} {p : Partition} {kill stop : Bool} {a b a_after b_after : Side} → Turn f p kill stop a b a_after b_after → AreIncarnationsInOrder a b → AreIncarnationsInOrder b a → IsOneMove f p b a → AreCountedCovered b a → AreCatchingCovered b a → AreCatchingCovered b_after a_after
keep_catching (runs x t s h up down across b m) n n_other mo co k = caught_as b (side (Running x) h up down across) _ (λ e. e) refl refl (λ w. w) (λ i m g. absurd g) k
keep_catching (tells x e h up down across b) n n_other mo co k = caught_as b (side (Running x) h up down across) _ (λ e. e) refl refl (λ w. w) (λ i m g. absurd g) k
keep_catching (asks_stop x h up down across b y) n n_other mo co k = caught_as b (side (Running x) h up down across) _ (λ e. e) refl refl (λ w. w) (λ i m g. absurd g) k
keep_catching (asks_back x h up down across b) n n_other mo co k = caught_as b (side (Running x) h up down across) _ (λ e. e) refl refl (λ w. w) (λ i m g. absurd g) k
keep_catching (serves x target h up down across b c l) n n_other mo co k = caught_as b (side (Running x) h up down across) _ (λ e. e) refl refl (λ w. w) (λ i m g. absurd g) k
keep_catching (gives x mv h up down across b e) n n_other mo co k = caught_as b (side (Running x) h up down across) _ (λ e. e) refl refl (λ w. w) (λ i m g. absurd g) k
keep_catching (ends x mv h up down across b e) n n_other mo co k = caught_as b (side (Running x) h up down across) _ (λ e. e) refl refl (λ w. w) (λ i m g. absurd g) k
keep_catching (dies r h up down across b y) n n_other mo co k = caught_as b (side r h up down across) _ (λ e. e) refl refl (awaits_below r h.inc) (λ i m g. absurd g) k
keep_catching (halts r h up down across b c) n n_other mo co k = caught_as b (side r h up down across) _ (λ e. e) refl refl (awaits_below r h.inc) (λ i m g. absurd g) k
keep_catching (begins r i h up down across b c l) n n_other mo co k = caught_as b (side r h up down across) _ (λ e. e) refl refl (λ w. awaits_below r h.inc (omega arith)) (λ j m g. let e : None ≡ Some m = g.1 in cc) k
keep_catching (holds g held h up down across b) n n_other mo co k = caught_as b (side (Gathering g) h up down across) _ (λ e. e) refl refl (λ w. w) (λ i m g. in_gatherer g) k
keep_catching (gathers g m h up down across b c) n n_other mo co k = caught_as b (side (Gathering g) h up down across) _ (λ e. e) refl refl (λ w. w) (λ i m_other e. in_chunk (g.taken + 1) (chunk_as g.inc i (g.taken + 1) m m_other b.across c e.0 e.1)) k
keep_catching (catches g m h up down across b c) n n_other mo co k = caught_as b (side (Gathering g) h up down across) _ (λ e. e) refl refl (λ w. omega arith) (λ i m g. absurd g) k
keep_catching (hears r h up down across b e k_after c d) n n_other mo co k =
    let named = each_at (NamesAtMost (inc_of r)) (Report h.inc e k_after) up d n.to_control in
    let free = each_at (Free r) (Report h.inc e k_after) up d n.free_up in
    record { moves = λ st w m g q. absurd (no_report r h.inc e k_after w named free); partner = λ st w j g. absurd (no_report r h.inc e k_after w named free) }
keep_catching (flags r h up down across b stop back y) n n_other mo co k = caught_as b (side r h up down across) _ (λ e. e) refl refl (λ w. w) (λ i m g. in_gatherer g) k
keep_catching (raises r h up down across b c d) n n_other mo co k = caught_as b (side r h up down across) _ (λ e. cc) refl refl (λ w. w) (λ i m g. in_gatherer g) k
keep_catching (names r h up down across b term) n n_other mo co k = caught_as b (side r h up down across) _ (λ e. e) refl refl (λ w. w) (λ i m g. in_gatherer g) k
keep_catching (downs r h up down across b y) n n_other mo co k = caught_as b (side r h up down across) _ (λ e. cc) refl refl (λ w. w) (λ i m g. in_gatherer g) k
keep_catching (stops r h up down across b y) n n_other mo co k = caught_as b (side r h up down across) _ (λ e. e) refl refl (λ w. w) (λ i m g. in_gatherer g) k
keep_catching {f} {p} (backs r h up down across b c d) n n_other mo co k = backs_caught f p (side r h up down across) b _ _ d refl refl n_other mo co

-- the turn of the partner a of a Catching replica
served_as : (a b a_after : Side) →
    ((i : ℕ) (m : MoveNumbers) → Moves a_after.replica i m → Stands a b i m) →
    ((i n : ℕ) (m : MoveNumbers) → Among (Chunk i n m) a_after.across → Stands a b i m) →
    ((i n : ℕ) (m : MoveNumbers) → Among (ChunkEnd i n m) a_after.across → Stands a b i m) →
    ((j i : ℕ) → Among (Serve j i) a_after.down → Among (Serve j i) a.down) →
    ((reports : ℕ → ℕ) (i j : ℕ) → Among (Serve j i) a.down → PartnerReaches reports i j a.replica → PartnerReaches reports i j a_after.replica) →
    AreCatchingCovered a b → AreCatchingCovered a_after b
served_as a b a_after mover chunk end old reach k = record {
  moves = λ st w m g q. k.moves st w m (stands b.watched.inc m g) q;
  partner = λ st w j g. let o = old j b.watched.inc g in reach b.watched.reports b.watched.inc j o (k.partner st w j o);
}
  where
    stands : (i : ℕ) (m : MoveNumbers) → Stands a_after b i m → Stands a b i m
    stands i m (in_mover g) = mover i m g
    stands i m (in_chunk n g) = chunk i n m g
    stands i m (in_end n g) = end i n m g
    stands i m (in_gatherer g) = in_gatherer g

still : (a b a_after : Side) → a.across ≡ a_after.across →
    ((i : ℕ) (m : MoveNumbers) → Moves a_after.replica i m → Moves a.replica i m) →
    ((j i : ℕ) → Among (Serve j i) a_after.down → Among (Serve j i) a.down) →
    ((reports : ℕ → ℕ) (i j : ℕ) → Among (Serve j i) a.down → PartnerReaches reports i j a.replica → PartnerReaches reports i j a_after.replica) →
    AreCatchingCovered a b → AreCatchingCovered a_after b
still a b a_after e mover old reach k = served_as a b a_after (λ i m g. in_mover (mover i m g))
    (λ i n m g. in_chunk n (subst (Among (Chunk i n m)) (sym e) g)) (λ i n m g. in_end n (subst (Among (ChunkEnd i n m)) (sym e) g)) old reach k

serves_caught : (x : RunningNumbers) (target : ℕ) (h : Watched) (up down across : List Message) (b : Side) →
    Among (Serve x.inc target) down → x.served < target →
    AreCatchingCovered (side (Running x) h up down across) b → AreCatchingCovered (side (Running (begun target x)) h up down across) b
serves_caught x target h up down across b c l k = record {
  moves = moves;
  partner = λ st w j g. λ same late. k.partner st w j g same (omega arith);
}
  where
    moves : b.watched.status ≡ status.Catching → Awaits b.replica b.watched.inc → (m : MoveNumbers) → Stands (side (Running (begun target x)) h up down across) b b.watched.inc m → (q : ℕ) → b.watched.reports q ≤ m.marks q
    moves st w m (in_mover g) q =
        let at = subst (λ t. Among (Serve x.inc t) down) g.0 c in
        let low = k.partner st w x.inc at refl (let z = g.0 in omega arith) q in
        let same = ap (λ (n : MoveNumbers). n.marks q) g.1 in
        omega arith
    moves st w m (in_chunk n g) q = k.moves st w m (in_chunk n g) q
    moves st w m (in_end n g) q = k.moves st w m (in_end n g) q
    moves st w m (in_gatherer g) q = k.moves st w m (in_gatherer g) q

pub keep_catching_there : {f : Flow} {p : Partition} {kill stop : Bool} {a b a_after b_after : Side} → Turn f p kill stop a b a_after b_after → AreIncarnationsInOrder a b → AreCatchingCovered a b → AreCatchingCovered a_after b_after
keep_catching_there (runs x t s h up down across b m) n k = still (side (Running x) h up down across) b _ refl (λ i m g. g) (λ j i g. g) (λ reports i j g old same l q. let z = old same l q in let y = m q in omega arith) k
keep_catching_there (tells x e h up down across b) n k = still (side (Running x) h up down across) b _ refl (λ i m g. g) (λ j i g. g) (λ reports i j g old. old) k
keep_catching_there (asks_stop x h up down across b y) n k = still (side (Running x) h up down across) b _ refl (λ i m g. g) (λ j i g. g) (λ reports i j g old. old) k
keep_catching_there (asks_back x h up down across b) n k = still (side (Running x) h up down across) b _ refl (λ i m g. g) (λ j i g. g) (λ reports i j g old. old) k
keep_catching_there (serves x target h up down across b c l) n k = serves_caught x target h up down across b c l k
keep_catching_there (gives x mv h up down across b e) n k =
    served_as (side (Running x) h up down across) b _
    (λ i m g. in_mover (move_as x mv i m e g.0 g.1))
    (λ i n m g. ⊎_elim (λ o. in_chunk n o) (λ o. let t : mv.target ≡ i = cc o in let z : mv.numbers ≡ m = cc o in in_mover (move_as x mv i m e t z)) (among_more (Chunk i n m) across (Chunk mv.target (mv.sent + 1) mv.numbers) g))
    (λ i n m g. ⊎_elim (λ o. in_end n o) (λ o. absurd (let z : ⊥ = cc o in z)) (among_more (ChunkEnd i n m) across (Chunk mv.target (mv.sent + 1) mv.numbers) g))
    (λ j i g. g) (λ reports i j g old. old) k
keep_catching_there {f} {p} (ends x mv h up down across b e) n k =
    let y = ChunkEnd mv.target (size f p mv.numbers) mv.numbers in
    served_as (side (Running x) h up down across) b _
    (λ i m g. absurd g)
    (λ i n m g. ⊎_elim (λ o. in_chunk n o) (λ o. absurd (let z : ⊥ = cc o in z)) (among_more (Chunk i n m) across y g))
    (λ i n m g. ⊎_elim (λ o. in_end n o) (λ o. let t : mv.target ≡ i = cc o in let z : mv.numbers ≡ m = cc o in in_mover (move_as x mv i m e t z)) (among_more (ChunkEnd i n m) across y g))
    (λ j i g. g) (λ reports i j g old. old) k
keep_catching_there (dies r h up down across b y) n k = still (side r h up down across) b _ refl (λ i m g. absurd g) (λ j i g. g) (λ reports i j g old. tt) k
keep_catching_there (halts r h up down across b c) n k = still (side r h up down across) b _ refl (λ i m g. absurd g) (λ j i g. g) (λ reports i j g old. tt) k
keep_catching_there (begins r i h up down across b c l) n k = still (side r h up down across) b _ refl (λ i m g. absurd g) (λ j i g. g) (λ reports i j g old. tt) k
keep_catching_there (holds g held h up down across b) n k = still (side (Gathering g) h up down across) b _ refl (λ i m g. g) (λ j i g. g) (λ reports i j g old. tt) k
keep_catching_there (gathers g m h up down across b c) n k = still (side (Gathering g) h up down across) b _ refl (λ i m g. g) (λ j i g. g) (λ reports i j g old. tt) k
keep_catching_there (catches g m h up down across b c) n k = still (side (Gathering g) h up down across) b _ refl (λ i m g. absurd g) (λ j i g. g)
    (λ reports i j z old same. absurd (each_at (OfServe (λ j t. j ≢ g.inc)) (Serve j i) down z n.free_down (sym same))) k
keep_catching_there (hears r h up down across b e k_after c d) n k = still (side r h up down across) b _ refl (λ i m g. g) (λ j i g. g) (λ reports i j g old. old) k
keep_catching_there (flags r h up down across b stop back y) n k = still (side r h up down across) b _ refl (λ i m g. g) (λ j i g. g) (λ reports i j g old. old) k
keep_catching_there (raises r h up down across b c d) n k = still (side r h up down across) b _ refl (λ i m g. g) (λ j i g. g) (λ reports i j g old. old) k
keep_catching_there (names r h up down across b term) n k = still (side r h up down across) b _ refl (λ i m g. g) (serve_told down (Lead h.inc term) (λ j i e. cc)) (λ reports i j g old. old) k
keep_catching_there (downs r h up down across b y) n k = still (side r h up down across) b _ refl (λ i m g. g) (λ j i g. g) (λ reports i j g old. old) k
keep_catching_there (stops r h up down across b y) n k = still (side r h up down across) b _ refl (λ i m g. g) (serve_told down (Stop h.inc) (λ j i e. cc)) (λ reports i j g old. old) k
keep_catching_there (backs r h up down across b c d) n k = record { moves = λ st w m g q. absurd (let z : ⊥ = cc in z); partner = λ st w j g. absurd (let z : ⊥ = cc in z) }

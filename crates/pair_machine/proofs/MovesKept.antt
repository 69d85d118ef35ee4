-- Each turn keeps what is known of moves.
use Rattle.std.proofs.Common.{◌≡◌, ◌⊎◌, inl, inr, ⊎_elim, ◌<◌, ◌≤◌, ℕ, Bool, false, List, [], ◌∷◌, ◌++◌, None, Some, ◌+◌, refl, sym, ap, ◌∙◌, subst, arith}
use Rattle.tuple_edge.specs.declared.status.Status.TheVariants as status
use Rattle.pair_machine.specs.Flow.{Flow}
use Rattle.pair_machine.specs.Lists.{Among}
use Rattle.pair_machine.specs.Messages.{Begin, Chunk, ChunkEnd, Lead, Message, Serve, Stop}
use Rattle.pair_machine.specs.Numbers.{Gathering, Gone, Move, MoveNumbers, Partition, Replica, Running, RunningNumbers, Watched}
use Rattle.pair_machine.specs.Pairs.{AreIncarnationsInOrder, Gathers, IsOneMove, IsPast, MoveIs, Moves, OfServe, Side, Stands, in_chunk, in_end, in_gatherer, in_mover}
use Rattle.pair_machine.specs.Replicas.{begun, inc_of, numbers_of, size}
use Rattle.pair_machine.proofs.Turns.{side, Turn, runs, tells, asks_stop, asks_back, serves, gives, ends, dies, halts, begins, holds, gathers, catches, hears, flags, raises, names, downs, stops, backs}
use Rattle.pair_machine.proofs.Lists.{each_at, among_left, among_more}

-- what each turn but a back and a Serve does: nothing new stands, and no Serve is new
moved_as : (f : Flow) (p : Partition) (b a b_after a_after : Side) →
    ((i : ℕ) (m : MoveNumbers) → Stands b_after a_after i m → Stands b a i m) →
    ((j i : ℕ) → Among (Serve j i) b_after.down → Among (Serve j i) b.down) →
    ((j i : ℕ) → Among (Serve j i) b.down → Among (Serve j i) b_after.down) →
    ((j i : ℕ) → IsPast b.replica j i → IsPast b_after.replica j i) →
    ((i k : ℕ) (m : MoveNumbers) → Among (ChunkEnd i k m) b_after.across → k ≡ size f p m) →
    IsOneMove f p b a → IsOneMove f p b_after a_after
moved_as f p b a b_after a_after stands old new past whole k = record {
  one_serve = λ i j l g h. k.one_serve i j l (old j i g) (old l i h);
  served = λ i m g. let s = k.served i m (stands i m g) in (s.0, new s.0 i s.1, past s.0 i s.2);
  same = λ i m n g h. k.same i m n (stands i m g) (stands i n h);
  whole = whole;
}

-- the receiver's turn leaves the mover as it is
received_as : (f : Flow) (p : Partition) (b a a_after : Side) →
    ((i : ℕ) (m : MoveNumbers) → Gathers a_after.replica i m → Stands b a i m) →
    IsOneMove f p b a → IsOneMove f p b a_after
received_as f p b a a_after from_old k =
    moved_as f p b a b a_after stands (λ j i g. g) (λ j i g. g) (λ j i g. g) k.whole k
  where
    stands : (i : ℕ) (m : MoveNumbers) → Stands b a_after i m → Stands b a i m
    stands i m (in_mover g) = in_mover g
    stands i m (in_chunk n g) = in_chunk n g
    stands i m (in_end n g) = in_end n g
    stands i m (in_gatherer g) = from_old i m g

pub among_other : (j i : ℕ) (xs : List Message) (y : Message) → (Serve j i ≡ y → ⊥) → Among (Serve j i) (xs ++ y ∷ []) → Among (Serve j i) xs
among_other j i xs y ne g = ⊎_elim (λ h. h) (λ e. absurd (ne e)) (among_more (Serve j i) xs y g)

backed : (f : Flow) (p : Partition) (b a : Side) (h_after : Watched) (down : List Message) → AreIncarnationsInOrder b a → IsOneMove f p b a →
    IsOneMove f p (record b { down = b.down ++ Serve b.watched.inc (a.watched.inc + 1) ∷ [] }) (side a.replica h_after a.up down a.across)
backed f p b a h_after down n k = record {
  one_serve = λ i j l g h. one i j l (among_more (Serve j i) b.down new g) (among_more (Serve l i) b.down new h);
  served = λ i m g. let s = k.served i m (stands i m g) in (s.0, among_left (Serve s.0 i) b.down (new ∷ []) s.1, s.2);
  same = λ i m n g h. k.same i m n (stands i m g) (stands i n h);
  whole = k.whole;
}
  where
    new : Message
    new = Serve b.watched.inc (a.watched.inc + 1)

    late : (j : ℕ) (i : ℕ) → Among (Serve j i) b.down → i ≤ a.watched.inc
    late j i g = each_at (OfServe (λ i t. t ≤ a.watched.inc)) (Serve j i) b.down g n.targets

    one : (i j l : ℕ) → Among (Serve j i) b.down ⊎ (Serve j i ≡ new) → Among (Serve l i) b.down ⊎ (Serve l i ≡ new) → j ≡ l
    one i j l (inl g) (inl h) = k.one_serve i j l g h
    one i j l (inl g) (inr h) = let at : i ≡ a.watched.inc + 1 = cc h in let le = late j i g in absurd (omega arith)
    one i j l (inr g) (inl h) = let at : i ≡ a.watched.inc + 1 = cc g in let le = late l i h in absurd (omega arith)
    one i j l (inr g) (inr h) = cc

    stands : (i : ℕ) (m : MoveNumbers) → Stands (record b { down = b.down ++ Serve b.watched.inc (a.watched.inc + 1) ∷ [] }) (side a.replica h_after a.up down a.across) i m → Stands b a i m
    stands i m (in_mover g) = in_mover g
    stands i m (in_chunk n g) = in_chunk n g
    stands i m (in_end n g) = in_end n g
    stands i m (in_gatherer g) = in_gatherer g

pub chunk_as : (i i_other n : ℕ) (m m_other : MoveNumbers) (xs : List Message) → Among (Chunk i n m) xs → i ≡ i_other → Some m ≡ Some m_other → Among (Chunk i_other n m_other) xs
chunk_as i i_other n m m_other xs c e d = let inner : Chunk i n m ≡ Chunk i_other n m_other = cc in subst (λ x. Among x xs) inner c

-- the turn of a, to which b moves
pub keep_received : {f : Flow} {p : Partition} {kill stop : Bool} {a b a_after b_after : Side} → Turn f p kill stop a b a_after b_after → AreIncarnationsInOrder b a → IsOneMove f p b a → IsOneMove f p b_after a_after
keep_received {f} {p} (runs x t s h up down across b m) n k = received_as f p b (side (Running x) h up down across) _ (λ i m g. absurd g) k
keep_received {f} {p} (tells x e h up down across b) n k = received_as f p b (side (Running x) h up down across) _ (λ i m g. absurd g) k
keep_received {f} {p} (asks_stop x h up down across b y) n k = received_as f p b (side (Running x) h up down across) _ (λ i m g. absurd g) k
keep_received {f} {p} (asks_back x h up down across b) n k = received_as f p b (side (Running x) h up down across) _ (λ i m g. absurd g) k
keep_received {f} {p} (serves x target h up down across b c l) n k = received_as f p b (side (Running x) h up down across) _ (λ i m g. absurd g) k
keep_received {f} {p} (gives x mv h up down across b e) n k = received_as f p b (side (Running x) h up down across) _ (λ i m g. absurd g) k
keep_received {f} {p} (ends x mv h up down across b e) n k = received_as f p b (side (Running x) h up down across) _ (λ i m g. absurd g) k
keep_received {f} {p} (dies r h up down across b y) n k = received_as f p b (side r h up down across) _ (λ i m g. absurd g) k
keep_received {f} {p} (halts r h up down across b c) n k = received_as f p b (side r h up down across) _ (λ i m g. absurd g) k
keep_received {f} {p} (begins r i h up down across b c l) n k = received_as f p b (side r h up down across) _ (λ j m g. let e : None ≡ Some m = g.1 in cc) k
keep_received {f} {p} (holds g held h up down across b) n k = received_as f p b (side (Gathering g) h up down across) _ (λ i m g. in_gatherer g) k
keep_received {f} {p} (gathers g m h up down across b c) n k =
    received_as f p b (side (Gathering g) h up down across) _ (λ i m_other e. in_chunk (g.taken + 1) (chunk_as g.inc i (g.taken + 1) m m_other b.across c e.0 e.1)) k
keep_received {f} {p} (catches g m h up down across b c) n k = received_as f p b (side (Gathering g) h up down across) _ (λ i m g. absurd g) k
keep_received {f} {p} (hears r h up down across b e k_after c d) n k = received_as f p b (side r h up down across) _ (λ i m g. in_gatherer g) k
keep_received {f} {p} (flags r h up down across b stop back y) n k = received_as f p b (side r h up down across) _ (λ i m g. in_gatherer g) k
keep_received {f} {p} (raises r h up down across b c d) n k = received_as f p b (side r h up down across) _ (λ i m g. in_gatherer g) k
keep_received {f} {p} (names r h up down across b term) n k = received_as f p b (side r h up down across) _ (λ i m g. in_gatherer g) k
keep_received {f} {p} (downs r h up down across b y) n k = received_as f p b (side r h up down across) _ (λ i m g. in_gatherer g) k
keep_received {f} {p} (stops r h up down across b y) n k = received_as f p b (side r h up down across) _ (λ i m g. in_gatherer g) k
keep_received {f} {p} (backs r h up down across b c d) n k = backed f p b (side r h up down across) _ _ n k

pub past_up : (r r_after : Replica) (j i : ℕ) → IsPast r j i → j ≤ inc_of r
past_up (Gone k) r_after j i h = h
past_up (Running x) r_after j i h = h.0
past_up (Gathering g) r_after j i h = omega arith

-- a turn that only sends a message to the controller, or changes what the controller holds
whole_more : (f : Flow) (p : Partition) (xs : List Message) (y : Message) → ((i k : ℕ) (m : MoveNumbers) → Among (ChunkEnd i k m) xs → k ≡ size f p m) →
    ((i k : ℕ) (m : MoveNumbers) → ChunkEnd i k m ≡ y → k ≡ size f p m) → (i k : ℕ) (m : MoveNumbers) → Among (ChunkEnd i k m) (xs ++ y ∷ []) → k ≡ size f p m
whole_more f p xs y old new i k m g = ⊎_elim (old i k m) (new i k m) (among_more (ChunkEnd i k m) xs y g)

-- the mover's turn: what stands afterwards in its move and its messages
moved_by : (f : Flow) (p : Partition) (b a b_after : Side) →
    ((i : ℕ) (m : MoveNumbers) → Moves b_after.replica i m → Stands b a i m) →
    ((i n : ℕ) (m : MoveNumbers) → Among (Chunk i n m) b_after.across → Stands b a i m) →
    ((i n : ℕ) (m : MoveNumbers) → Among (ChunkEnd i n m) b_after.across → Stands b a i m) →
    ((j i : ℕ) → Among (Serve j i) b_after.down → Among (Serve j i) b.down) →
    ((j i : ℕ) → Among (Serve j i) b.down → Among (Serve j i) b_after.down) →
    ((j i : ℕ) → IsPast b.replica j i → IsPast b_after.replica j i) →
    ((i k : ℕ) (m : MoveNumbers) → Among (ChunkEnd i k m) b_after.across → k ≡ size f p m) →
    IsOneMove f p b a → IsOneMove f p b_after a
moved_by f p b a b_after mover chunk end old new past whole k = moved_as f p b a b_after a stands old new past whole k
  where
    stands : (i : ℕ) (m : MoveNumbers) → Stands b_after a i m → Stands b a i m
    stands i m (in_mover g) = mover i m g
    stands i m (in_chunk n g) = chunk i n m g
    stands i m (in_end n g) = end i n m g
    stands i m (in_gatherer g) = in_gatherer g

-- a turn of the mover that sends its partner nothing
quiet : (f : Flow) (p : Partition) (b a b_after : Side) →
    b.across ≡ b_after.across →
    ((i : ℕ) (m : MoveNumbers) → Moves b_after.replica i m → Moves b.replica i m) →
    ((j i : ℕ) → Among (Serve j i) b_after.down → Among (Serve j i) b.down) →
    ((j i : ℕ) → Among (Serve j i) b.down → Among (Serve j i) b_after.down) →
    ((j i : ℕ) → IsPast b.replica j i → IsPast b_after.replica j i) →
    IsOneMove f p b a → IsOneMove f p b_after a
quiet f p b a b_after e mover old new past k = moved_by f p b a b_after (λ i m g. in_mover (mover i m g))
    (λ i n m g. in_chunk n (subst (Among (Chunk i n m)) (sym e) g)) (λ i n m g. in_end n (subst (Among (ChunkEnd i n m)) (sym e) g)) old new past
    (λ i l m g. k.whole i l m (subst (Among (ChunkEnd i l m)) (sym e) g)) k

served_turn : (f : Flow) (p : Partition) (x : RunningNumbers) (target : ℕ) (h : Watched) (up down across : List Message) (b : Side) →
    Among (Serve x.inc target) down → x.served < target →
    IsOneMove f p (side (Running x) h up down across) b → IsOneMove f p (side (Running (begun target x)) h up down across) b
served_turn f p x target h up down across b c l k = record {
  one_serve = k.one_serve;
  served = served;
  same = λ i m n g h. same i m n (split i m g) (split i n h);
  whole = k.whole;
}
  where
    old : Side
    old = side (Running x) h up down across

    now : Side
    now = side (Running (begun target x)) h up down across

    split : (i : ℕ) (m : MoveNumbers) → Stands now b i m → Stands old b i m ⊎ (target ≡ i) × (numbers_of x ≡ m)
    split i m (in_mover g) = inr g
    split i m (in_chunk n g) = inl (in_chunk n g)
    split i m (in_end n g) = inl (in_end n g)
    split i m (in_gatherer g) = inl (in_gatherer g)

    new_serve : (i : ℕ) → target ≡ i → Among (Serve x.inc i) down
    new_serve i e = subst (λ t. Among (Serve x.inc t) down) e c

    served : (i : ℕ) (m : MoveNumbers) → Stands now b i m → (j : ℕ) × Among (Serve j i) down × IsPast (Running (begun target x)) j i
    served i m g = go (split i m g)
      where
        go : Stands old b i m ⊎ (target ≡ i) × (numbers_of x ≡ m) → (j : ℕ) × Among (Serve j i) down × IsPast (Running (begun target x)) j i
        go (inl s) = let o = k.served i m s in (o.0, o.1, (o.2.0, λ e. let z = o.2.1 e in omega arith))
        go (inr e) = (x.inc, new_serve i e.0, (omega arith, λ same. let z = e.0 in omega arith))

    never : (i : ℕ) (m : MoveNumbers) → Stands old b i m → target ≡ i → ⊥
    never i m s e =
        let o = k.served i m s in
        let j : o.0 ≡ x.inc = k.one_serve i o.0 x.inc o.1 (new_serve i e) in
        let z = o.2.1 j in
        omega arith

    same : (i : ℕ) (m n : MoveNumbers) → Stands old b i m ⊎ (target ≡ i) × (numbers_of x ≡ m) → Stands old b i n ⊎ (target ≡ i) × (numbers_of x ≡ n) → m ≡ n
    same i m n (inl s) (inl t) = k.same i m n s t
    same i m n (inl s) (inr t) = absurd (never i m s t.0)
    same i m n (inr s) (inl t) = absurd (never i n t s.0)
    same i m n (inr s) (inr t) = sym s.1 ∙ t.1

pub move_as : (x : RunningNumbers) (mv : Move) (i : ℕ) (m : MoveNumbers) → x.move ≡ Some mv → mv.target ≡ i → mv.numbers ≡ m → MoveIs x.move i m
move_as x mv i m e t n = subst (λ o. MoveIs o i m) (sym e) (t, n)

gave : (f : Flow) (p : Partition) (x : RunningNumbers) (mv : Move) (h : Watched) (up down across : List Message) (b : Side) → x.move ≡ Some mv →
    IsOneMove f p (side (Running x) h up down across) b →
    IsOneMove f p (side (Running (record x { move = Some (record mv { sent = mv.sent + 1 }) })) h up down (across ++ Chunk mv.target (mv.sent + 1) mv.numbers ∷ [])) b
gave f p x mv h up down across b e k =
    moved_by f p (side (Running x) h up down across) b _
    (λ i m g. in_mover (move_as x mv i m e g.0 g.1))
    (λ i n m g. ⊎_elim (λ o. in_chunk n o) (λ o. let t : mv.target ≡ i = cc o in let z : mv.numbers ≡ m = cc o in in_mover (move_as x mv i m e t z)) (among_more (Chunk i n m) across (Chunk mv.target (mv.sent + 1) mv.numbers) g))
    (λ i n m g. ⊎_elim (λ o. in_end n o) (λ o. absurd (let z : ⊥ = cc o in z)) (among_more (ChunkEnd i n m) across (Chunk mv.target (mv.sent + 1) mv.numbers) g))
    (λ j i g. g) (λ j i g. g) (λ j i g. g)
    (whole_more f p across (Chunk mv.target (mv.sent + 1) mv.numbers) k.whole (λ i n m o. absurd (let z : ⊥ = cc o in z))) k

ended : (f : Flow) (p : Partition) (x : RunningNumbers) (mv : Move) (h : Watched) (up down across : List Message) (b : Side) → x.move ≡ Some mv →
    IsOneMove f p (side (Running x) h up down across) b →
    IsOneMove f p (side (Running (record x { move = None })) h up down (across ++ ChunkEnd mv.target (size f p mv.numbers) mv.numbers ∷ [])) b
ended f p x mv h up down across b e k =
    let y = ChunkEnd mv.target (size f p mv.numbers) mv.numbers in
    moved_by f p (side (Running x) h up down across) b _
    (λ i m g. absurd g)
    (λ i n m g. ⊎_elim (λ o. in_chunk n o) (λ o. absurd (let z : ⊥ = cc o in z)) (among_more (Chunk i n m) across y g))
    (λ i n m g. ⊎_elim (λ o. in_end n o) (λ o. let t : mv.target ≡ i = cc o in let z : mv.numbers ≡ m = cc o in in_mover (move_as x mv i m e t z)) (among_more (ChunkEnd i n m) across y g))
    (λ j i g. g) (λ j i g. g) (λ j i g. g)
    (whole_more f p across y k.whole (λ i n m o. let s : n ≡ size f p mv.numbers = cc o in let z : mv.numbers ≡ m = cc o in s ∙ ap (size f p) z)) k

pub serve_told : (down : List Message) (y : Message) → ((j i : ℕ) → Serve j i ≡ y → ⊥) → (j i : ℕ) → Among (Serve j i) (down ++ y ∷ []) → Among (Serve j i) down
serve_told down y ne j i g = among_other j i down y (ne j i) g

-- the turn of a, that moves to b
pub keep_mover : {f : Flow} {p : Partition} {kill stop : Bool} {a b a_after b_after : Side} → Turn f p kill stop a b a_after b_after → IsOneMove f p a b → IsOneMove f p a_after b_after
keep_mover {f} {p} (runs x t s h up down across b m) k = quiet f p (side (Running x) h up down across) b _ refl (λ i m g. g) (λ j i g. g) (λ j i g. g) (λ j i g. g) k
keep_mover {f} {p} (tells x e h up down across b) k = quiet f p (side (Running x) h up down across) b _ refl (λ i m g. g) (λ j i g. g) (λ j i g. g) (λ j i g. g) k
keep_mover {f} {p} (asks_stop x h up down across b y) k = quiet f p (side (Running x) h up down across) b _ refl (λ i m g. g) (λ j i g. g) (λ j i g. g) (λ j i g. g) k
keep_mover {f} {p} (asks_back x h up down across b) k = quiet f p (side (Running x) h up down across) b _ refl (λ i m g. g) (λ j i g. g) (λ j i g. g) (λ j i g. g) k
keep_mover {f} {p} (serves x target h up down across b c l) k = served_turn f p x target h up down across b c l k
keep_mover {f} {p} (gives x mv h up down across b e) k = gave f p x mv h up down across b e k
keep_mover {f} {p} (ends x mv h up down across b e) k = ended f p x mv h up down across b e k
keep_mover {f} {p} (dies r h up down across b y) k = quiet f p (side r h up down across) b _ refl (λ i m g. absurd g) (λ j i g. g) (λ j i g. g) (past_up r r) k
keep_mover {f} {p} (halts r h up down across b c) k = quiet f p (side r h up down across) b _ refl (λ i m g. absurd g) (λ j i g. g) (λ j i g. g) (past_up r r) k
keep_mover {f} {p} (begins r i h up down across b c l) k = quiet f p (side r h up down across) b _ refl (λ i m g. absurd g) (λ j i g. g) (λ j i g. g) (λ j i_other g. let z = past_up r r j i_other g in omega arith) k
keep_mover {f} {p} (holds g held h up down across b) k = quiet f p (side (Gathering g) h up down across) b _ refl (λ i m g. g) (λ j i g. g) (λ j i g. g) (λ j i g. g) k
keep_mover {f} {p} (gathers g m h up down across b c) k = quiet f p (side (Gathering g) h up down across) b _ refl (λ i m g. g) (λ j i g. g) (λ j i g. g) (λ j i g. g) k
keep_mover {f} {p} (catches g m h up down across b c) k = quiet f p (side (Gathering g) h up down across) b _ refl (λ i m g. absurd g) (λ j i g. g) (λ j i g. g) (λ j i z. (omega arith, λ e. absurd (omega arith))) k
keep_mover {f} {p} (hears r h up down across b e k_after c d) k = quiet f p (side r h up down across) b _ refl (λ i m g. g) (λ j i g. g) (λ j i g. g) (λ j i g. g) k
keep_mover {f} {p} (flags r h up down across b stop back y) k = quiet f p (side r h up down across) b _ refl (λ i m g. g) (λ j i g. g) (λ j i g. g) (λ j i g. g) k
keep_mover {f} {p} (raises r h up down across b c d) k = quiet f p (side r h up down across) b _ refl (λ i m g. g) (λ j i g. g) (λ j i g. g) (λ j i g. g) k
keep_mover {f} {p} (names r h up down across b term) k = quiet f p (side r h up down across) b _ refl (λ i m g. g) (serve_told down (Lead h.inc term) (λ j i e. cc)) (λ j i g. among_left (Serve j i) down (Lead h.inc term ∷ []) g) (λ j i g. g) k
keep_mover {f} {p} (downs r h up down across b y) k = quiet f p (side r h up down across) b _ refl (λ i m g. g) (λ j i g. g) (λ j i g. g) (λ j i g. g) k
keep_mover {f} {p} (stops r h up down across b y) k = quiet f p (side r h up down across) b _ refl (λ i m g. g) (serve_told down (Stop h.inc) (λ j i e. cc)) (λ j i g. among_left (Serve j i) down (Stop h.inc ∷ []) g) (λ j i g. g) k
keep_mover {f} {p} (backs r h up down across b c d) k =
    let h_after : Watched = record { status = status.Catching; inc = h.inc + 1; reports = b.watched.reports; stop = h.stop; back = false } in
    let first = quiet f p (side r h up down across) b (side r h_after up (down ++ Begin (h.inc + 1) ∷ []) across) refl (λ i m g. g) (serve_told down (Begin (h.inc + 1)) (λ j i e. cc)) (λ j i g. among_left (Serve j i) down (Begin (h.inc + 1) ∷ []) g) (λ j i g. g) k in
    received_as f p (side r h_after up (down ++ Begin (h.inc + 1) ∷ []) across) b _ (λ i m g. in_gatherer g) first

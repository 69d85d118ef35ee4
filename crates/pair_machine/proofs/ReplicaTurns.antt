-- What a replica does is some turns of its side.
use Rattle.std.proofs.Common.{◌≡◌, ◌≤◌, ℕ, Bool, true, false, List, [], ◌∷◌, ◌++◌, Option, None, Some, Result, Ok, Err, ◌+◌, ◌-◌, ◌&&◌, refl, sym, ap, subst, subst₂, arith}
use Rattle.std.specs.Prelude.{◌==◌, nat_lt, nat_le}
use Rattle.std.proofs.lemmas.Bool.{eqb-true, ltb-true}
use Rattle.std.proofs.lemmas.List.{append-nil}
use Rattle.pair_machine.specs.Consumers.{is_ready, merged_one, offered, pulled, untold}
use Rattle.pair_machine.specs.Flow.{Flow}
use Rattle.pair_machine.specs.Lists.{Among}
use Rattle.pair_machine.specs.Machine.{messages_to}
use Rattle.pair_machine.specs.Messages.{Ack, Act, AskBack, AskStop, AsksBack, AsksStop, Begin, Caught, Chunk, ChunkEnd, Dies, Down, Envelope, Lead, Makes, Message, Pulls, Refusal, Report, Serve, Stop, Takes, Tuple, Want, Works, envelope}
use Rattle.pair_machine.specs.Numbers.{Consumer, Gathering, Gone, Move, MoveNumbers, Partition, Producer, Replica, Running, RunningNumbers, Watched, control_at, in_edge, other, out_edge, replica_at, copy_of}
use Rattle.pair_machine.specs.Pairs.{Side}
use Rattle.pair_machine.specs.Producers.{Due, acked_to, due, leading, sends_due, sent_on, to_producers, wanted}
use Rattle.pair_machine.specs.Replicas.{begun, caught_up, chunk_wants, inc_of, made_by, moves_or_sends, replica_asks, replica_dies, replica_does, replica_pulls, replica_takes, replica_works, reports, sends_or_reports, size, takes_ack, takes_begin, takes_chunk, takes_end, takes_lead, takes_serve, takes_stop, takes_tuple, takes_want, which_of}
use Rattle.tuple_edge.specs.declared.node.NodeId.{NodeId}
use Rattle.tuple_edge.specs.declared.node.Which.{Which}
use Rattle.pair_machine.proofs.Turns.{side, gathering, Turn, runs, tells, asks_stop, asks_back, serves, gives, ends, dies, halts, begins, holds, gathers, catches}
use Rattle.pair_machine.proofs.PairKept.{Turns, none, then_first}
use Rattle.pair_machine.proofs.Names.{node_self}
use Rattle.pair_machine.proofs.Tests.{both, if_elim, nat_not}

pub one : {f : Flow} {p : Partition} {ka sa kb sb : Bool} {a b x y : Side} → Turn f p ka sa a b x y → Turns f p ka sa kb sb a b x y
one {a = a} {b = b} {x = x} {y = y} t = then_first a b a b x y (none a b) t

-- who is whom ---------------------------------------------------------------

pub message_self : (n : NodeId) (m : Message) → messages_to n (envelope n m ∷ []) ≡ m ∷ []
message_self n m = simp node_self

-- the producers of an in-edge are neither the controller nor in the pair
pub producers_other : (p : Partition) (w : Which) (q : ℕ) (m : Message) → 1 ≤ p.stage → messages_to (replica_at p w) (to_producers p q m) ≡ []
producers_other p w q m h =
    if_elim (λ ls. messages_to (replica_at p w) ls ≡ []) (p.stage == 1) _ _ (λ e. refl)
    (λ e. let z : ((p.stage - 1) == p.stage) ≡ false = nat_not (p.stage - 1) p.stage (omega arith) in simp z)

pub producers_control : (p : Partition) (q : ℕ) (m : Message) → messages_to (control_at p) (to_producers p q m) ≡ []
producers_control p q m = if_elim (λ ls. messages_to (control_at p) ls ≡ []) (p.stage == 1) _ _ (λ e. refl) (λ e. refl)

pub due_other : (f : Flow) (p : Partition) (w : Which) (d : Due) → messages_to (replica_at p w) (sends_due f p d) ≡ []
due_other f p w d =
    if_elim (λ n. messages_to (replica_at p w) (envelope n (Tuple (out_edge p d.to) d.number) ∷ []) ≡ []) (p.stage == f.stages) _ _ (λ e. refl)
    (λ e. let z : ((p.stage + 1) == p.stage) ≡ false = nat_not (p.stage + 1) p.stage (omega arith) in simp z)

pub due_control : (f : Flow) (p : Partition) (d : Due) → messages_to (control_at p) (sends_due f p d) ≡ []
due_control f p d =
    if_elim (λ n. messages_to (control_at p) (envelope n (Tuple (out_edge p d.to) d.number) ∷ []) ≡ []) (p.stage == f.stages) _ _ (λ e. refl) (λ e. refl)

pub wants_control : (f : Flow) (p : Partition) (n : ℕ) (m : MoveNumbers) → messages_to (control_at p) (chunk_wants f p n m) ≡ []
wants_control f p n m =
    let want = Want (in_edge p (n - 1)) (m.marks (n - 1) + 1) in
    if_elim (λ ls. messages_to (control_at p) ls ≡ []) (nat_le n (f.sources p.stage)) (to_producers p (n - 1) want) [] (λ e. producers_control p (n - 1) want) (λ e. refl)

pub wants_other : (f : Flow) (p : Partition) (w : Which) (n : ℕ) (m : MoveNumbers) → 1 ≤ p.stage → messages_to (replica_at p w) (chunk_wants f p n m) ≡ []
wants_other f p w n m s =
    let want = Want (in_edge p (n - 1)) (m.marks (n - 1) + 1) in
    if_elim (λ ls. messages_to (replica_at p w) ls ≡ []) (nat_le n (f.sources p.stage)) (to_producers p (n - 1) want) [] (λ e. producers_other p w (n - 1) want s) (λ e. refl)

-- what a replica's result leaves of its side ----------------------------------

abbrev pub DoneBy : Flow → Partition → Which → (ka sa kb sb : Bool) → Side → Side → (Replica × List Envelope) → Type 0
DoneBy f p w ka sa kb sb a b d = Turns f p ka sa kb sb a b (side d.0 a.watched (a.up ++ messages_to (control_at p) d.1) a.down (a.across ++ messages_to (replica_at p (other w)) d.1)) b

abbrev pub DoneIfOk : Flow → Partition → Which → (ka sa kb sb : Bool) → Side → Side → Result (Replica × List Envelope) Refusal → Type 0
DoneIfOk f p w ka sa kb sb a b (Ok d) = DoneBy f p w ka sa kb sb a b d
DoneIfOk f p w ka sa kb sb a b (Err e) = Unit {0}

-- the message came from the controller or the partner, where it is one of theirs
abbrev pub Heard : Side → Side → Message → Type 0
Heard a b (Tuple e k) = Unit {0}
Heard a b (Ack e k) = Unit {0}
Heard a b (Report i e k) = Unit {0}
Heard a b (Lead i t) = Unit {0}
Heard a b (Serve i t) = Among (Serve i t) a.down
Heard a b (Begin i) = Among (Begin i) a.down
Heard a b (Chunk i k m) = Among (Chunk i k m) b.across
Heard a b (ChunkEnd i k m) = Among (ChunkEnd i k m) b.across
Heard a b (Caught i) = Unit {0}
Heard a b (Want e k) = Unit {0}
Heard a b (Down i) = Unit {0}
Heard a b (Stop i) = Among (Stop i) a.down
Heard a b (AskStop i) = Unit {0}
Heard a b AskBack = Unit {0}

abbrev pub HeardIn : Side → Side → Act → Type 0
HeardIn a b (Takes from m) = Heard a b m
HeardIn a b act = Unit {0}

-- what the orders for a replica allow
abbrev pub Permits : Bool → Bool → Act → Type 0
Permits kill stop (Takes from m) = Unit {0}
Permits kill stop Works = Unit {0}
Permits kill stop Makes = Unit {0}
Permits kill stop Dies = kill ≡ true
Permits kill stop AsksStop = stop ≡ true
Permits kill stop AsksBack = Unit {0}
Permits kill stop (Pulls q) = Unit {0}

module _ (f : Flow) (p : Partition) (w : Which) (ka sa kb sb : Bool) (h : Watched) (up down across : List Message) (b : Side) where
  -- what was sent, by its parts
  sent_as : (r r_after : Replica) (out : List Envelope) (ups acr : List Message) → messages_to (control_at p) out ≡ ups → messages_to (replica_at p (other w)) out ≡ acr →
      Turns f p ka sa kb sb (side r h up down across) b (side r_after h (up ++ ups) down (across ++ acr)) b → DoneBy f p w ka sa kb sb (side r h up down across) b (r_after, out)
  sent_as r r_after out ups acr e inner t = rw (e, inner) t

  silent : (r r_after : Replica) (out : List Envelope) → messages_to (control_at p) out ≡ [] → messages_to (replica_at p (other w)) out ≡ [] →
      Turns f p ka sa kb sb (side r h up down across) b (side r_after h up down across) b → DoneBy f p w ka sa kb sb (side r h up down across) b (r_after, out)
  silent r r_after out e inner t = rw (e, inner) (simp append-nil t)

  quiet : (r r_after : Replica) → Turns f p ka sa kb sb (side r h up down across) b (side r_after h up down across) b → DoneBy f p w ka sa kb sb (side r h up down across) b (r_after, [])
  quiet r r_after t = silent r r_after [] refl refl t

  still : (r : Replica) → DoneBy f p w ka sa kb sb (side r h up down across) b (r, [])
  still r = quiet r r (none (side r h up down across) b)

  to_control : (r r_after : Replica) (m : Message) → Turns f p ka sa kb sb (side r h up down across) b (side r_after h (up ++ m ∷ []) down across) b → DoneBy f p w ka sa kb sb (side r h up down across) b (r_after, envelope (control_at p) m ∷ [])
  to_control r r_after m t = sent_as r r_after (envelope (control_at p) m ∷ []) (m ∷ []) [] (message_self (control_at p) m) refl (simp append-nil t)

  to_partner : (r r_after : Replica) (m : Message) → Turns f p ka sa kb sb (side r h up down across) b (side r_after h up down (across ++ m ∷ [])) b → DoneBy f p w ka sa kb sb (side r h up down across) b (r_after, envelope (replica_at p (other w)) m ∷ [])
  to_partner r r_after m t = sent_as r r_after (envelope (replica_at p (other w)) m ∷ []) [] (m ∷ []) refl (message_self (replica_at p (other w)) m) (simp append-nil t)

  -- a Running replica goes on with other marks and another producer
  ran : (x : RunningNumbers) (t : Consumer) (s : Producer) (out : List Envelope) → messages_to (control_at p) out ≡ [] → messages_to (replica_at p (other w)) out ≡ [] →
      ((q : ℕ) → x.consumer.marks q ≤ t.marks q) →
      DoneBy f p w ka sa kb sb (side (Running x) h up down across) b (Running (record x { consumer = t; producer = s }), out)
  ran x t s out e inner m = silent (Running x) (Running (record x { consumer = t; producer = s })) out e inner (one (runs x t s h up down across b m))

  offered_rises : (t : Consumer) (q n j : ℕ) → t.marks j ≤ (offered t q n).marks j
  offered_rises t q n j = if_elim (λ (u : Consumer). t.marks j ≤ u.marks j) (n == t.marks q + 1) _ _
      (λ e. let is : n ≡ t.marks q + 1 = eqb-true n (t.marks q + 1) e in
      if_elim (λ v. t.marks j ≤ v) (j == q) n (t.marks j) (λ s. let same = ap t.marks (eqb-true j q s) in omega arith) (λ s. omega arith))
      (λ e. omega arith)

  pulled_rises : (t : Consumer) (q j : ℕ) → t.marks j ≤ (pulled t q).marks j
  pulled_rises t q j = if_elim (λ v. t.marks j ≤ v) (j == q) (t.marks q + 1) (t.marks j) (λ s. let same = ap t.marks (eqb-true j q s) in omega arith) (λ s. omega arith)

  tuple_done : (q n : ℕ) (r : Replica) → DoneBy f p w ka sa kb sb (side r h up down across) b (takes_tuple q n r, [])
  tuple_done q n (Gone i) = still (Gone i)
  tuple_done q n (Running x) = ran x (offered x.consumer q n) x.producer [] refl refl (offered_rises x.consumer q n)
  tuple_done q n (Gathering g) = quiet (Gathering g) _ (one (holds g _ h up down across b))

  ack_done : (t k : ℕ) (r : Replica) → DoneBy f p w ka sa kb sb (side r h up down across) b (takes_ack t k r, [])
  ack_done t k (Gone i) = still (Gone i)
  ack_done t k (Running x) = ran x x.consumer (acked_to x.producer t k) [] refl refl (λ q. omega arith)
  ack_done t k (Gathering g) = still (Gathering g)

  want_done : (t c n : ℕ) (r : Replica) → DoneBy f p w ka sa kb sb (side r h up down across) b (takes_want t c n r, [])
  want_done t c n (Gone i) = still (Gone i)
  want_done t c n (Running x) = ran x x.consumer (wanted x.producer t c n) [] refl refl (λ q. omega arith)
  want_done t c n (Gathering g) = still (Gathering g)

  lead_done : (i term : ℕ) (r : Replica) → DoneBy f p w ka sa kb sb (side r h up down across) b (takes_lead i term r, [])
  lead_done i term (Gone j) = still (Gone j)
  lead_done i term (Running x) = if_elim (λ r. DoneBy f p w ka sa kb sb (side (Running x) h up down across) b (r, [])) (i == x.inc) _ _
      (λ e. ran x x.consumer (leading x.producer term) [] refl refl (λ q. omega arith)) (λ e. still (Running x))
  lead_done i term (Gathering g) = still (Gathering g)

  serve_done : (i target : ℕ) (r : Replica) → Among (Serve i target) down → DoneBy f p w ka sa kb sb (side r h up down across) b (takes_serve i target r, [])
  serve_done i target (Gone j) c = still (Gone j)
  serve_done i target (Running x) c = if_elim (λ r. DoneBy f p w ka sa kb sb (side (Running x) h up down across) b (r, [])) ((i == x.inc) && nat_lt x.served target) _ _
      (λ e. let z = both (i == x.inc) (nat_lt x.served target) e in
      let is : i ≡ x.inc = eqb-true i x.inc z.0 in
      quiet (Running x) (Running (begun target x)) (one (serves x target h up down across b (subst (λ j. Among (Serve j target) down) is c) (ltb-true x.served target z.1))))
      (λ e. still (Running x))
  serve_done i target (Gathering g) c = still (Gathering g)

  stop_done : (i : ℕ) (r : Replica) → Among (Stop i) down → DoneBy f p w ka sa kb sb (side r h up down across) b (takes_stop i r, [])
  stop_done i r c = if_elim (λ r_after. DoneBy f p w ka sa kb sb (side r h up down across) b (r_after, [])) (i == inc_of r) _ _
      (λ e. quiet r (Gone (inc_of r)) (one (halts r h up down across b (subst (λ j. Among (Stop j) down) (eqb-true i (inc_of r) e) c))))
      (λ e. still r)

  begin_done : (i : ℕ) (r : Replica) → Among (Begin i) down → DoneBy f p w ka sa kb sb (side r h up down across) b (takes_begin i r, [])
  begin_done i r c = if_elim (λ r_after. DoneBy f p w ka sa kb sb (side r h up down across) b (r_after, [])) (nat_lt (inc_of r) i) _ _
      (λ e. quiet r (Gathering (gathering i)) (one (begins r i h up down across b c (ltb-true (inc_of r) i e))))
      (λ e. still r)

  chunk_done : 1 ≤ p.stage → (i n : ℕ) (m : MoveNumbers) (r : Replica) → Among (Chunk i n m) b.across → DoneBy f p w ka sa kb sb (side r h up down across) b (takes_chunk f p i n m r)
  chunk_done s i n m (Gone j) c = still (Gone j)
  chunk_done s i n m (Running x) c = still (Running x)
  chunk_done s i n m (Gathering g) c = if_elim (DoneBy f p w ka sa kb sb (side (Gathering g) h up down across) b) ((i == g.inc) && (n == g.taken + 1)) _ _
      (λ e. let z = both (i == g.inc) (n == g.taken + 1) e in
      let is : i ≡ g.inc = eqb-true i g.inc z.0 in
      let at : n ≡ g.taken + 1 = eqb-true n (g.taken + 1) z.1 in
      let c_after : Among (Chunk g.inc (g.taken + 1) m) b.across = subst₂ (λ j k. Among (Chunk j k m) b.across) is at c in
      silent (Gathering g) _ (chunk_wants f p n m) (wants_control f p n m) (wants_other f p (other w) n m s)
      (subst (λ k. Turns f p ka sa kb sb (side (Gathering g) h up down across) b (side (Gathering (record g { taken = k; moved = Some m })) h up down across) b) (sym at)
      (one (gathers g m h up down across b c_after))))
      (λ e. still (Gathering g))

  end_done : (i n : ℕ) (m : MoveNumbers) (r : Replica) → Among (ChunkEnd i n m) b.across → DoneBy f p w ka sa kb sb (side r h up down across) b (takes_end p i n m r)
  end_done i n m (Gone j) c = still (Gone j)
  end_done i n m (Running x) c = still (Running x)
  end_done i n m (Gathering g) c = if_elim (DoneBy f p w ka sa kb sb (side (Gathering g) h up down across) b) ((i == g.inc) && (n == g.taken)) _ _
      (λ e. let z = both (i == g.inc) (n == g.taken) e in
      let is : i ≡ g.inc = eqb-true i g.inc z.0 in
      let at : n ≡ g.taken = eqb-true n g.taken z.1 in
      let c_after : Among (ChunkEnd g.inc g.taken m) b.across = subst₂ (λ j k. Among (ChunkEnd j k m) b.across) is at c in
      subst (λ j. DoneBy f p w ka sa kb sb (side (Gathering g) h up down across) b (Running (caught_up j m g.held), envelope (control_at p) (Caught j) ∷ [])) (sym is)
      (to_control (Gathering g) (Running (caught_up g.inc m g.held)) (Caught g.inc) (one (catches g m h up down across b c_after))))
      (λ e. still (Gathering g))

  takes_done : 1 ≤ p.stage → (from : NodeId) (m : Message) (r : Replica) → Heard (side r h up down across) b m → DoneBy f p w ka sa kb sb (side r h up down across) b (replica_takes f p from m r)
  takes_done s from (Tuple e k) r c = tuple_done e.from k r
  takes_done s from (Ack e k) r c = ack_done e.to k r
  takes_done s from (Lead i t) r c = lead_done i t r
  takes_done s from (Serve i t) r c = serve_done i t r c
  takes_done s from (Begin i) r c = begin_done i r c
  takes_done s from (Stop i) r c = stop_done i r c
  takes_done s from (Chunk i k m) r c = chunk_done s i k m r c
  takes_done s from (ChunkEnd i k m) r c = end_done i k m r c
  takes_done s from (Want e k) r c = want_done e.to (copy_of (which_of from)) k r
  takes_done s from message r c = still r

  reports_done : (x : RunningNumbers) (q : Option ℕ) → DoneIfOk f p w ka sa kb sb (side (Running x) h up down across) b (reports f p x q)
  reports_done x None = tt
  reports_done x (Some q) = to_control (Running x) _ _ (one (tells x (in_edge p q) h up down across b))

  sends_done : (x : RunningNumbers) (d : Option Due) → DoneIfOk f p w ka sa kb sb (side (Running x) h up down across) b (sends_or_reports f p x d)
  sends_done x (Some d) = ran x x.consumer (sent_on x.producer d) (sends_due f p d) (due_control f p d) (due_other f p (other w) d) (λ q. omega arith)
  sends_done x None = reports_done x (untold f p x.consumer)

  moves_done : (x : RunningNumbers) (mv : Option Move) → x.move ≡ mv → DoneIfOk f p w ka sa kb sb (side (Running x) h up down across) b (moves_or_sends f p (replica_at p (other w)) x mv)
  moves_done x None e = sends_done x (due f p (made_by f p x.consumer.count) x.producer)
  moves_done x (Some mv) e = if_elim (DoneBy f p w ka sa kb sb (side (Running x) h up down across) b) (nat_lt mv.sent (size f p mv.numbers)) _ _
      (λ c. to_partner (Running x) _ _ (one (gives x mv h up down across b e)))
      (λ c. to_partner (Running x) _ _ (one (ends x mv h up down across b e)))

  works_done : (r : Replica) → DoneIfOk f p w ka sa kb sb (side r h up down across) b (replica_works f p w r)
  works_done (Gone i) = tt
  works_done (Gathering g) = tt
  works_done (Running x) = if_elim (DoneIfOk f p w ka sa kb sb (side (Running x) h up down across) b) (is_ready f p x.consumer) _ _
      (λ e. ran x (merged_one x.consumer) x.producer [] refl refl (λ q. omega arith))
      (λ e. moves_done x x.move refl)

  dies_done : ka ≡ true → (r : Replica) → DoneIfOk f p w ka sa kb sb (side r h up down across) b (replica_dies p r)
  dies_done y (Gone i) = tt
  dies_done y (Running x) = to_control (Running x) _ _ (one (dies (Running x) h up down across b y))
  dies_done y (Gathering g) = to_control (Gathering g) _ _ (one (dies (Gathering g) h up down across b y))

  pulls_done : (q : ℕ) (r : Replica) → DoneIfOk f p w ka sa kb sb (side r h up down across) b (replica_pulls q r)
  pulls_done q (Gone i) = tt
  pulls_done q (Running x) = ran x (pulled x.consumer q) x.producer [] refl refl (pulled_rises x.consumer q)
  pulls_done q (Gathering g) = tt

  asks_stop_done : sa ≡ true → (r : Replica) → DoneIfOk f p w ka sa kb sb (side r h up down across) b (replica_asks p (λ i. AskStop i) r)
  asks_stop_done y (Gone i) = tt
  asks_stop_done y (Running x) = to_control (Running x) _ _ (one (asks_stop x h up down across b y))
  asks_stop_done y (Gathering g) = tt

  asks_back_done : (r : Replica) → DoneIfOk f p w ka sa kb sb (side r h up down across) b (replica_asks p (λ i. AskBack) r)
  asks_back_done (Gone i) = tt
  asks_back_done (Running x) = to_control (Running x) _ _ (one (asks_back x h up down across b))
  asks_back_done (Gathering g) = tt

  pub does_done : 1 ≤ p.stage → (a : Act) (r : Replica) → Permits ka sa a → HeardIn (side r h up down across) b a → DoneIfOk f p w ka sa kb sb (side r h up down across) b (replica_does f p w a r)
  does_done s (Takes from m) r y c = takes_done s from m r c
  does_done s Works r y c = works_done r
  does_done s Makes r y c = tt
  does_done s Dies r y c = dies_done y r
  does_done s AsksStop r y c = asks_stop_done y r
  does_done s AsksBack r y c = asks_back_done r
  does_done s (Pulls q) r y c = pulls_done q r

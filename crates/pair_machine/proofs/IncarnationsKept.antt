-- Each turn keeps the bounds on incarnations.
use Rattle.std.proofs.Common.{◌≡◌, ◌≢◌, ◌<◌, ◌≤◌, ℕ, Bool, ◌+◌, sym, arith}
use Rattle.tuple_edge.specs.declared.status.Status.TheVariants as status
use Rattle.pair_machine.specs.Flow.{Flow}
use Rattle.pair_machine.specs.Messages.{Ack, AskBack, AskStop, Begin, Caught, Chunk, ChunkEnd, Down, Lead, Message, Report, Serve, Stop, Tuple, Want}
use Rattle.pair_machine.specs.Numbers.{Gathering, Gone, Partition, Replica, Running}
use Rattle.pair_machine.specs.Pairs.{AreIncarnationsInOrder, DoesNotName, Free, FreeOfServe, IsSettled, NamesAtMost, OfServe, ServedAtMost, Side}
use Rattle.pair_machine.specs.Replicas.{inc_of}
use Rattle.pair_machine.proofs.Turns.{Turn, runs, tells, asks_stop, asks_back, serves, gives, ends, dies, halts, begins, holds, gathers, catches, hears, flags, raises, names, downs, stops, backs}
use Rattle.pair_machine.proofs.Lists.{each_more, each_map, each_at, each_all}

-- incarnations of a message rise with the bound
pub names_more : (i j : ℕ) → i ≤ j → (m : Message) → NamesAtMost i m → NamesAtMost j m
names_more i j h (Tuple e k) n = tt
names_more i j h (Ack e k) n = tt
names_more i j h (Report a e k) n = omega arith
names_more i j h (Lead a t) n = omega arith
names_more i j h (Serve a t) n = omega arith
names_more i j h (Begin a) n = omega arith
names_more i j h (Chunk a k m) n = omega arith
names_more i j h (ChunkEnd a k m) n = omega arith
names_more i j h (Caught a) n = omega arith
names_more i j h (Want e k) n = tt
names_more i j h (Down a) n = omega arith
names_more i j h (Stop a) n = omega arith
names_more i j h (AskStop a) n = omega arith
names_more i j h AskBack n = tt

pub serve_more : (P Q : ℕ → ℕ → Type 0) → ((i t : ℕ) → P i t → Q i t) → (m : Message) → OfServe P m → OfServe Q m
serve_more P Q g (Serve i t) n = g i t n
serve_more P Q g message n = tt

-- a message to the controller that names at most i binds no later incarnation
binds_up : (i j : ℕ) → i < j → (m : Message) → NamesAtMost i m → DoesNotName j m
binds_up i j h (Report a e k) n = omega arith
binds_up i j h (Caught a) n = omega arith
binds_up i j h message n = tt

all_free : (r : Replica) → IsSettled r → (m : Message) → Free r m
all_free (Gone i) s m = tt
all_free (Running x) s m = tt
all_free (Gathering g) s m = absurd s

all_free_down : (r : Replica) → IsSettled r → (m : Message) → FreeOfServe r m
all_free_down (Gone i) s m = tt
all_free_down (Running x) s m = tt
all_free_down (Gathering g) s m = absurd s

settled_by_caught : (r : Replica) (i : ℕ) → inc_of r ≡ i → Free r (Caught i) → IsSettled r
settled_by_caught (Gone j) i e free = tt
settled_by_caught (Running x) i e free = tt
settled_by_caught (Gathering g) i e free = free (sym e)

served_more : (i j : ℕ) → i ≤ j → (r : Replica) → ServedAtMost i r → ServedAtMost j r
served_more i j h (Gone k) s = tt
served_more i j h (Running x) s = search arith
served_more i j h (Gathering g) s = tt

pub keep_incarnations : {f : Flow} {p : Partition} {kill stop : Bool} {a b a_after b_after : Side} → Turn f p kill stop a b a_after b_after → AreIncarnationsInOrder a b → AreIncarnationsInOrder b a → AreIncarnationsInOrder a_after b_after
keep_incarnations (runs x t s h up down across b m) n k = search (each_more, arith)
keep_incarnations (tells x e h up down across b) n k = search (each_more, arith)
keep_incarnations (asks_stop x h up down across b y) n k = search (each_more, arith)
keep_incarnations (asks_back x h up down across b) n k = search (each_more, arith)
keep_incarnations (serves x target h up down across b c l) n k =
    let at = each_at (OfServe (λ i t. t ≤ b.watched.inc)) (Serve x.inc target) down c n.targets in
    search (each_more, arith, at)
keep_incarnations (gives x mv h up down across b e) n k = search (each_more, arith)
keep_incarnations (ends x mv h up down across b e) n k = search (each_more, arith)
keep_incarnations (dies r h up down across b y) n k = search (each_more, arith, each_all)
keep_incarnations (halts r h up down across b c) n k = search (each_more, arith, each_all)
keep_incarnations (begins r i h up down across b c l) n k =
    let at = each_at (NamesAtMost h.inc) (Begin i) down c n.to_replica in
    let more_up = each_map (NamesAtMost (inc_of r)) (NamesAtMost i) (names_more (inc_of r) i (omega arith)) up n.to_control in
    let more_down = each_map (OfServe (λ j t. j ≤ inc_of r)) (OfServe (λ j t. j ≤ i)) (serve_more (λ j t. j ≤ inc_of r) (λ j t. j ≤ i) (λ j t. omega arith)) down n.serves in
    let free = each_map (NamesAtMost (inc_of r)) (DoesNotName i) (binds_up (inc_of r) i l) up n.to_control in
    let free_down = each_map (OfServe (λ j t. j ≤ inc_of r)) (OfServe (λ j t. j ≢ i)) (serve_more (λ j t. j ≤ inc_of r) (λ j t. j ≢ i) (λ j t. omega arith)) down n.serves in
    search (arith, at, more_up, more_down, free, free_down)
keep_incarnations (holds g held h up down across b) n k = search (each_more, arith)
keep_incarnations (gathers g m h up down across b c) n k = search (each_more, arith)
keep_incarnations (catches g m h up down across b c) n k = search (each_more, arith, each_all)
keep_incarnations (hears r h up down across b e k_after c d) n k = search (each_more, arith)
keep_incarnations (flags r h up down across b stop back y) n k = search (each_more, arith)
keep_incarnations (raises r h up down across b c d) n k =
    let named = each_at (NamesAtMost (inc_of r)) (Caught h.inc) up d n.to_control in
    let free = each_at (Free r) (Caught h.inc) up d n.free_up in
    let same : inc_of r ≡ h.inc = omega arith in
    let settled = settled_by_caught r h.inc same free in
    search (each_more, arith, settled)
keep_incarnations (names r h up down across b term) n k = search (each_more, arith)
keep_incarnations (downs r h up down across b y) n k = search (each_more, arith)
keep_incarnations (stops r h up down across b y) n k = search (each_more, arith)
keep_incarnations (backs r h up down across b c d) n k =
    let more_down = each_map (NamesAtMost h.inc) (NamesAtMost (h.inc + 1)) (names_more h.inc (h.inc + 1) (omega arith)) down n.to_replica in
    let not_up : status.Catching ≡ status.Up → ⊥ = λ e. cc in
    search (each_more, arith, more_down, absurd, not_up)

pub keep_incarnations_there : {f : Flow} {p : Partition} {kill stop : Bool} {a b a_after b_after : Side} → Turn f p kill stop a b a_after b_after → AreIncarnationsInOrder a b → AreIncarnationsInOrder b a → AreIncarnationsInOrder b_after a_after
keep_incarnations_there (runs x t s h up down across b m) n k = assumption
keep_incarnations_there (tells x e h up down across b) n k = assumption
keep_incarnations_there (asks_stop x h up down across b y) n k = assumption
keep_incarnations_there (asks_back x h up down across b) n k = assumption
keep_incarnations_there (serves x target h up down across b c l) n k = assumption
keep_incarnations_there (gives x mv h up down across b e) n k = assumption
keep_incarnations_there (ends x mv h up down across b e) n k = assumption
keep_incarnations_there (dies r h up down across b y) n k = assumption
keep_incarnations_there (halts r h up down across b c) n k = assumption
keep_incarnations_there (begins r i h up down across b c l) n k = assumption
keep_incarnations_there (holds g held h up down across b) n k = assumption
keep_incarnations_there (gathers g m h up down across b c) n k = assumption
keep_incarnations_there (catches g m h up down across b c) n k = assumption
keep_incarnations_there (hears r h up down across b e k_after c d) n k = assumption
keep_incarnations_there (flags r h up down across b stop back y) n k = assumption
keep_incarnations_there (raises r h up down across b c d) n k = assumption
keep_incarnations_there (names r h up down across b term) n k = assumption
keep_incarnations_there (downs r h up down across b y) n k = assumption
keep_incarnations_there (stops r h up down across b y) n k = assumption
keep_incarnations_there (backs r h up down across b c d) n k =
    let agree = k.agrees d in
    let targets = each_map (OfServe (λ i t. t ≤ h.inc)) (OfServe (λ i t. t ≤ h.inc + 1)) (serve_more (λ i t. t ≤ h.inc) (λ i t. t ≤ h.inc + 1) (λ i t. omega arith)) b.down k.targets in
    let across_after = each_map (NamesAtMost h.inc) (NamesAtMost (h.inc + 1)) (names_more h.inc (h.inc + 1) (omega arith)) b.across k.to_partner in
    let served = served_more h.inc (h.inc + 1) (omega arith) b.replica k.served in
    let free = all_free_down b.replica agree.1 (Serve b.watched.inc (h.inc + 1)) in
    search (each_more, arith, targets, across_after, served, free)

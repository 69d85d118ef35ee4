-- What a controller hears is what the machine's one hears.
use Rattle.std.proofs.Common.{◌≡◌, ◌≢◌, ◌<◌, ◌∙◌, ◌++◌, ℕ, zero, suc, Bool, true, false, List, [], ◌∷◌, Option, None, Some, length, slice_index, max, replicate, refl, ap, sym, subst, arith}
use Rattle.std.specs.Prelude.{◌==◌, eqb, if◌then◌else◌, slice_index_or, slice_set}
use Rattle.std.specs.Option.{option_eq}
use Rattle.std.proofs.Math.ListN.{length-set}
use Rattle.std.proofs.lemmas.Bool.{eqb-true, eq-eqb}
use Rattle.std.proofs.lemmas.List.{append-nil, get_or-set_same, get_or-set_other}
use Rattle.pair_machine.specs.Consumers.{first_below, with_at}
use Rattle.pair_machine.specs.Flow.{Flow}
use Rattle.pair_machine.specs.Numbers.{Partition}
use Rattle.pair_machine.proofs.Tests.{if_elim}
use Rattle.tuple_edge.specs.declared.node.EdgeId.{EdgeId}
use Rattle.trio_machine.specs.Controllers.{controller_hears, downed, goes_down, leads_now, named, reported}
use Rattle.trio_machine.specs.Machine.{new_controller}
use Rattle.trio_machine.specs.Messages.{Down, Envelope, Report}
use Rattle.trio_machine.specs.Numbers.{Controller, ControllerNode, group_size}
use Rattle.trio_machine.specs.declared.body.TrioBody.{TrioBody}
use Rattle.trio_machine.specs.declared.body.TrioBody.TheVariants as body
use Rattle.trio_nodes.specs.Contents.{message_of}
use Rattle.trio_nodes.specs.ControllerPackets.{IsDone, IsHeard, packets_of}
use Rattle.trio_nodes.specs.ControllerView.{ControllerView, HaveReports, TrioWatchedView, heard, numbers_in, numbers_of, partition_of, unheard, watched_in}
use Rattle.trio_nodes.specs.Outbox.{TrioOutboxView}

-- what stands at a place of a list after another place was set
pub at_set : {X : Type 0} (xs : List X) (c : ℕ) (w d : X) → c < length xs → (j : ℕ) → slice_index_or (slice_set xs c w) j d ≡ (if j == c then w else slice_index_or xs j d)
at_set xs c w d there j = go (j == c) refl
  where
    go : (b : Bool) → (j == c) ≡ b → slice_index_or (slice_set xs c w) j d ≡ (if b then w else slice_index_or xs j d)
    go true e = ap (λ k. slice_index_or (slice_set xs c w) k d) (eqb-true j c e) ∙ get_or-set_same xs c w d there
    go false e = get_or-set_other xs c j w d (λ at. let z : true ≡ false = sym (eq-eqb j c at) ∙ e in cc)

-- a place that is there is the same whatever is taken past the end
pub at_place : {X : Type 0} (xs : List X) (c : ℕ) (d e : X) → c < length xs → slice_index_or xs c d ≡ slice_index_or xs c e
at_place [] c d e there = absurd (omega arith)
at_place (x ∷ xs) zero d e there = refl
at_place (x ∷ xs) (suc c) d e there = at_place xs c d e (omega arith)

-- ---- the opening

zeros : (n q : ℕ) → slice_index (replicate n 0) q ≡ 0
zeros zero q = refl
zeros (suc n) zero = refl
zeros (suc n) (suc q) = zeros n q

opens_up : (edges d : ℕ) → (watched_in (replicate group_size (unheard edges)) d).up ≡ true
opens_up edges zero = refl
opens_up edges (suc zero) = refl
opens_up edges (suc (suc zero)) = refl
opens_up edges (suc (suc (suc d))) = refl

opens_reports : (edges d q : ℕ) → slice_index (watched_in (replicate group_size (unheard edges)) d).reports q ≡ 0
opens_reports edges zero q = zeros edges q
opens_reports edges (suc zero) q = zeros edges q
opens_reports edges (suc (suc zero)) q = zeros edges q
opens_reports edges (suc (suc (suc d))) q = refl

pub opens : (stage part edges : ℕ) (watched : List TrioWatchedView) (acked : List ℕ) → watched ≡ replicate group_size (unheard edges) → acked ≡ replicate edges 0
    → numbers_of (record { stage = stage; part = part; watched = watched; acked = acked; term = 1; leader = Some 0 }) ≡ new_controller
opens stage part edges watched acked ew ea =
    (λ i. numbers_of (record { stage = stage; part = part; watched = ew i; acked = ea i; term = 1; leader = Some 0 }))
    ∙ (λ i. record { up = λ d. opens_up edges d i; reports = λ d q. opens_reports edges d q i; acked = λ q. zeros edges q i; term = 1; leader = Some 0 })

-- whether this replica leads
leads_is : (o : Option ℕ) (c : ℕ) → option_eq eqb o (Some c) ≡ leads_now o c
leads_is None c = refl
leads_is (Some d) c = refl

-- ---- one replica changed

abbrev pub changed : ControllerView → ℕ → TrioWatchedView → ControllerView
changed v c w = record v { watched = slice_set v.watched c w }

push : {Y : Type 0} (g : TrioWatchedView → Y) (b : Bool) (w u : TrioWatchedView) → g (if b then w else u) ≡ (if b then g w else g u)
push g true w u = refl
push g false w u = refl

module _ (v : ControllerView) (c : ℕ) (there : c < length v.watched) where
  -- what is the same of the replica as before is so of all
  stays : {Y : Type 0} (g : TrioWatchedView → Y) (w : TrioWatchedView) → g w ≡ g (watched_in v.watched c) → (d : ℕ) → g (watched_in (slice_set v.watched c w) d) ≡ g (watched_in v.watched d)
  stays g w same d =
      ap g (at_set v.watched c w (unheard 0) there d)
      ∙ if_elim (λ u. g u ≡ g (watched_in v.watched d)) (d == c) w (watched_in v.watched d)
      (λ t. same ∙ ap (λ k. g (watched_in v.watched k)) (sym (eqb-true d c t))) (λ t. refl)

  pub downed_is : numbers_of (changed v c (record (watched_in v.watched c) { up = false })) ≡ downed c (numbers_of v)
  downed_is =
      let w : TrioWatchedView = record (watched_in v.watched c) { up = false } in
      λ i. record {
        up = λ d. (ap (λ (u : TrioWatchedView). u.up) (at_set v.watched c w (unheard 0) there d) ∙ push (λ u. u.up) (d == c) w (watched_in v.watched d)) i;
        reports = λ d q. stays (λ u. slice_index u.reports q) w refl d i;
        acked = numbers_in v.acked;
        term = v.term;
        leader = v.leader;
      }

  reported_is : (q k : ℕ) → q < length (watched_in v.watched c).reports
      → numbers_of (changed v c (record (watched_in v.watched c) { reports = slice_set (watched_in v.watched c).reports q (max (slice_index (watched_in v.watched c).reports q) k) })) ≡ reported c q k (numbers_of v)
  reported_is q k inside =
      let u = watched_in v.watched c in
      let most = max (slice_index u.reports q) k in
      let w : TrioWatchedView = record u { reports = slice_set u.reports q most } in
      let at : (d : ℕ) → numbers_in (watched_in (slice_set v.watched c w) d).reports ≡ (if d == c then numbers_in w.reports else numbers_in (watched_in v.watched d).reports) =
      λ d. ap (λ (z : TrioWatchedView). numbers_in z.reports) (at_set v.watched c w (unheard 0) there d) ∙ push (λ z. numbers_in z.reports) (d == c) w (watched_in v.watched d) in
      let own : numbers_in w.reports ≡ with_at (numbers_in u.reports) q most = λ i j. at_set u.reports q most 0 inside j i in
      λ i. record {
        up = λ d. stays (λ z. z.up) w refl d i;
        reports = λ d. (at d ∙ ap (λ f. if d == c then f else numbers_in (watched_in v.watched d).reports) own) i;
        acked = numbers_in v.acked;
        term = v.term;
        leader = v.leader;
      }

  same_is : numbers_of (changed v c (watched_in v.watched c)) ≡ numbers_of v
  same_is = λ i. record {
    up = λ d. stays (λ z. z.up) (watched_in v.watched c) refl d i;
    reports = λ d. stays (λ z. numbers_in z.reports) (watched_in v.watched c) refl d i;
    acked = numbers_in v.acked;
    term = v.term;
    leader = v.leader;
  }

  -- ---- a report

  abbrev hearing : ℕ → ℕ → Bool → ControllerView
  hearing q k b = changed v c (if b then record (watched_in v.watched c) { reports = slice_set (watched_in v.watched c).reports q (max (slice_index (watched_in v.watched c).reports q) k) } else watched_in v.watched c)

  abbrev hears : ℕ → ℕ → Bool → (Controller × List Envelope)
  hears q k b = if b then (reported c q k (numbers_of v), []) else (numbers_of v, [])

  hears_so : (q k : ℕ) (b : Bool) (out : TrioOutboxView) → q < length (watched_in v.watched c).reports → IsDone v (hearing q k b) out out (hears q k b)
  hears_so q k true out inside = record { numbers = reported_is q k inside; packets = sym (append-nil out.packets); partition = refl; edges = refl }
  hears_so q k false out inside = record { numbers = same_is; packets = sym (append-nil out.packets); partition = refl; edges = refl }

  pub report_done : (new : ControllerView) (out : TrioOutboxView) (p : Partition) (e : EdgeId) (k : ℕ) → new ≡ changed v c (heard (watched_in v.watched c) e.from k)
      → e.from < length (watched_in v.watched c).reports → IsDone v new out out (controller_hears p c (Report e k) (numbers_of v))
  report_done new out p e k is inside =
      subst (λ z. IsDone v z out out (controller_hears p c (Report e k) (numbers_of v))) (sym is) (hears_so e.from k (watched_in v.watched c).up out inside)

  -- ---- a replica that goes down

  abbrev down : ControllerView
  down = changed v c (record (watched_in v.watched c) { up = false })

  abbrev choice : Partition → Bool → (Controller × List Envelope)
  choice p b = if b then named p (downed c (numbers_of v)) (first_below (downed c (numbers_of v)).up group_size) else (downed c (numbers_of v), [])

  pub not_led_done : (new : ControllerView) (out : TrioOutboxView) → leads_now v.leader c ≡ false → new ≡ down → IsDone v new out out (goes_down (partition_of v) c (numbers_of v))
  not_led_done new out t is = subst (λ z. IsDone v z out out (goes_down (partition_of v) c (numbers_of v))) (sym is) (record {
    numbers = downed_is ∙ ap (λ b. (choice (partition_of v) b).0) (sym t);
    packets = sym (append-nil out.packets) ∙ ap (λ b. out.packets ++ packets_of (choice (partition_of v) b).1) (sym t);
    partition = refl;
    edges = refl;
  })

  pub led_done : (mid new : ControllerView) (before after : TrioOutboxView) (lowest : Option ℕ) → leads_now v.leader c ≡ true → mid ≡ record down { leader = lowest }
      → lowest ≡ first_below (λ d. (watched_in mid.watched d).up) group_size → IsDone mid new before after (named (partition_of mid) (numbers_of mid) mid.leader)
      → IsDone v new before after (goes_down (partition_of v) c (numbers_of v))
  led_done mid new before after lowest t is first done =
      let p = partition_of v in
      let x = downed c (numbers_of v) in
      let of_mid : named (partition_of mid) (numbers_of mid) mid.leader ≡ named p (record (numbers_of down) { leader = lowest }) lowest = ap (λ m. named (partition_of m) (numbers_of m) m.leader) is in
      let of_down : named p (record (numbers_of down) { leader = lowest }) lowest ≡ named p (record x { leader = lowest }) lowest = ap (λ y. named p (record y { leader = lowest }) lowest) downed_is in
      let lowest_is : lowest ≡ first_below x.up group_size =
      first ∙ ap (λ (m : ControllerView). first_below (λ d. (watched_in m.watched d).up) group_size) is ∙ ap (λ (y : Controller). first_below y.up group_size) downed_is in
      let same : named (partition_of mid) (numbers_of mid) mid.leader ≡ goes_down p c (numbers_of v) =
      of_mid ∙ of_down ∙ whoever p x lowest ∙ ap (named p x) lowest_is ∙ ap (choice p) (sym t) in
      record {
        numbers = done.numbers ∙ ap (λ d. d.0) same;
        packets = done.packets ∙ ap (λ d. before.packets ++ packets_of d.1) same;
        partition = done.partition ∙ ap partition_of is;
        edges = done.edges ∙ ap (λ (m : ControllerView). length m.acked) is;
      }
    where
      whoever : (p : Partition) (x : Controller) (o : Option ℕ) → named p (record x { leader = o }) o ≡ named p x o
      whoever p x None = refl
      whoever p x (Some d) = refl

-- ---- the same of a controller as code has it

module _ (old v new : ControllerView) (c : ℕ) (is : v ≡ old) (there : c < length v.watched) where
  pub report_here : (out : TrioOutboxView) (b : TrioBody) (e : EdgeId) (k : ℕ) → b ≡ body.Report e k → IsHeard old b → HaveReports (length v.acked) v.watched
      → new ≡ changed v c (heard (watched_in v.watched c) e.from k) → IsDone old new out out (controller_hears (partition_of old) c (message_of b) (numbers_of old))
  report_here out b e k says h reports done =
      let here : IsHeard v (body.Report e k) = subst (λ z. IsHeard z (body.Report e k)) (sym is) (subst (IsHeard old) says h) in
      let inside : e.from < length (watched_in v.watched c).reports = let x = here.2 in let y = reports c there in omega arith in
      subst (λ z. IsDone z new out out (controller_hears (partition_of z) c (message_of b) (numbers_of z))) is
      (subst (λ z. IsDone v new out out (controller_hears (partition_of v) c (message_of z) (numbers_of v))) (sym says) (report_done v c there new out (partition_of v) e k done inside))

  pub not_led_here : (out : TrioOutboxView) → option_eq eqb v.leader (Some c) ≡ false → new ≡ down v c there → IsDone old new out out (goes_down (partition_of old) c (numbers_of old))
  not_led_here out t done = subst (λ z. IsDone z new out out (goes_down (partition_of z) c (numbers_of z))) is (not_led_done v c there new out (sym (leads_is v.leader c) ∙ t) done)

  pub led_here : (mid : ControllerView) (before after : TrioOutboxView) (lowest : Option ℕ) → option_eq eqb v.leader (Some c) ≡ true → mid ≡ record (down v c there) { leader = lowest }
      → lowest ≡ first_below (λ d. (watched_in mid.watched d).up) group_size → IsDone mid new before after (named (partition_of mid) (numbers_of mid) mid.leader)
      → IsDone old new before after (goes_down (partition_of old) c (numbers_of old))
  led_here mid before after lowest t done first names =
      subst (λ z. IsDone z new before after (goes_down (partition_of z) c (numbers_of z))) is (led_done v c there mid new before after lowest (sym (leads_is v.leader c) ∙ t) done first names)

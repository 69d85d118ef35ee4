-- Each rule keeps what is always true of a replica.
use Rattle.std.proofs.Common.{◌≡◌, ℕ, zero, suc, ◌+◌, Bool, true, false, if◌then◌else◌, List, [], ◌∷◌, Option, Result, Ok, Err, fold, length, map, refl, sym, ap, ◌∙◌, subst, slice_index_or, slice_set, arith}
use Rattle.std.specs.Prelude.{◌==◌, ◌&&◌, OnErr, OnOk, nat_lt, replicate}
use Rattle.std.specs.List.{All, range_with_len}
use Rattle.std.proofs.Math.ListN.{length-set}
use Rattle.std.proofs.lemmas.Bool.{eq-eqb, eqb-true}
use Rattle.std.proofs.lemmas.List.{length-map, length-replicate}
use Rattle.std.proofs.lemmas.List.FromFn.{length-range_with_len}
use Rattle.std.proofs.lemmas.List.Elements.{All-append, All-cons, All-nil, All-set}
use Rattle.tuple_edge.specs.declared.item.Item.{Item}
use Rattle.tuple_edge.specs.declared.node.NodeId.{NodeId}
use Rattle.tuple_edge.specs.declared.packet.Body.{Body}
use Rattle.tuple_edge.specs.declared.packet.Entry.{Entry}
use Rattle.tuple_edge.specs.declared.packet.Entry.TheVariants as entry
use Rattle.merge_order.specs.MergeView.{MergeView, after_offer, mark_of, starting, with_item}
use Rattle.flux_consumer.specs.ConsumerView.{ConsumerView, with_merge}
use Rattle.flux_producer.specs.OutEdge.{acknowledged, over, rewound, wanted}
use Rattle.flux_producer.specs.ProducerView.{ProducerView, acked, edge_at, leading, with_edge, without_room}
use Rattle.op_spec.specs.Times.{IsTimely}
use Rattle.move_list.specs.MoveList.{fixed_part}
use Rattle.state_mover.specs.MoverView.{IsMidway, MoverView, total_of}
use Rattle.state_mover.specs.MoverView as mover
use Rattle.catch_up.specs.NewcomerView.{NewcomerView, begun, held_of, is_held, taken_by, took_of, with_held}
use Rattle.catch_up.specs.declared.newcomer.Took.{Took}
use Rattle.catch_up.specs.declared.newcomer.Took.TheVariants as took
use Rattle.catch_up.specs.Rebuild.{all_offered, buffers_in, folded, folded_below, heads_step, lows_in, marks_in, marks_step, merge_in, count_in}
use Rattle.catch_up.proofs.Lows.{lows_begin}
use Rattle.replica_node.specs.Admitted.{IsEntryHere, IsWholeAt}
use Rattle.replica_node.specs.IsReplica.{IsGathering, IsMoving, IsPhase, IsRunning, IsTimelyEntry}
use Rattle.replica_node.specs.Phases.{ack_taken, begin_taken, chunk_taken, inc_in, lead_taken, serve_taken, serving, stop_taken, tuple_taken, want_taken}
use Rattle.replica_node.specs.ReplicaView.{targets_of}
use Rattle.replica_node.specs.Rules.{HasCaughtUp, IsEnded}
use Rattle.replica_node.specs.declared.phase.Phase.{Phase}
use Rattle.replica_node.specs.declared.phase.Phase.TheVariants as phase
use Rattle.replica_node.specs.declared.phase.Running.{Running}
use Rattle.replica_node.specs.declared.role.Role.{Role}
use Rattle.replica_node.proofs.AllItems.{all_at, all_offer, all_put, all_rebuilt, none_at_all}

-- ---- numbers of edges

pub offer_marks : (m : MergeView) (q n : ℕ) (i : Item) → length (after_offer m q n i).marks ≡ length m.marks
offer_marks m q n i = by_test (n == mark_of m q + 1)
  where
    by_test : (b : Bool) → length (if b then with_item m q n i else m).marks ≡ length m.marks
    by_test true = length-set m.marks q n
    by_test false = refl

folded_marks_on : (q : ℕ) (m : MergeView) (held : List (ℕ × Item)) → length (all_offered q m held).marks ≡ length m.marks
folded_marks_on q m [] = refl
folded_marks_on q m (h ∷ held) = folded_marks_on q (after_offer m q h.0 h.1) held ∙ offer_marks m q h.0 h.1

folded_marks : (n : ℕ) (m : MergeView) (held : List (List (ℕ × Item))) → length (folded_below n m held).marks ≡ length m.marks
folded_marks zero m held = refl
folded_marks (suc n) m held = folded_marks_on n (folded_below n m held) (slice_index_or held n []) ∙ folded_marks n m held

head_marks : (m : MergeView) (e : Entry) → length (heads_step m e).marks ≡ length m.marks
head_marks m (entry.Head q number i) = offer_marks m q number i
head_marks m (entry.Mark q upto) = refl
head_marks m (entry.Count count) = refl
head_marks m (entry.Low t low produced) = refl
head_marks m (entry.Kept t number i) = refl
head_marks m (entry.Keyed k slot a b c) = refl

heads_marks : (es : List Entry) (m : MergeView) → length (fold heads_step m es).marks ≡ length m.marks
heads_marks [] m = refl
heads_marks (e ∷ es) m = heads_marks es (heads_step m e) ∙ head_marks m e

mark_marks : (marks : List ℕ) (e : Entry) → length (marks_step marks e) ≡ length marks
mark_marks marks (entry.Head q number i) = length-set marks q _
mark_marks marks (entry.Mark q upto) = length-set marks q upto
mark_marks marks (entry.Count count) = refl
mark_marks marks (entry.Low t low produced) = refl
mark_marks marks (entry.Kept t number i) = refl
mark_marks marks (entry.Keyed k slot a b c) = refl

marks_marks : (es : List Entry) (marks : List ℕ) → length (fold marks_step marks es) ≡ length marks
marks_marks [] marks = refl
marks_marks (e ∷ es) marks = marks_marks es (marks_step marks e) ∙ mark_marks marks e

rebuilt_marks : (edges : ℕ) (es : List Entry) (held : List (List (ℕ × Item))) → length (folded (merge_in edges es) held).marks ≡ edges
rebuilt_marks edges es held =
    folded_marks (length held) (merge_in edges es) held ∙ heads_marks es (starting (marks_in edges es) (count_in es))
    ∙ marks_marks es (replicate edges 0) ∙ length-replicate edges 0

-- ---- one that runs

module _ (role : Role) where
  -- it takes another consumer, or another producer
  pub with_consumer : (r : Running) (c : ConsumerView) → length c.merge.marks ≡ length r.consumer.merge.marks → All (All IsTimely) c.merge.waiting → IsRunning role r → IsRunning role (record r { consumer = c })
  with_consumer r c marks timely is = record {
    sources = marks ∙ is.sources;
    stage = is.stage;
    from = is.from;
    copies = is.copies;
    targets = is.targets;
    op = is.op;
    timely = timely;
    moving = is.moving;
  }

  pub with_producer : (r : Running) (y : ProducerView) → y.stage ≡ r.producer.stage → y.from ≡ r.producer.from → y.copies ≡ r.producer.copies → length y.edges ≡ length r.producer.edges
      → IsRunning role r → IsRunning role (record r { producer = y })
  with_producer r y stage from copies targets is = record {
    sources = is.sources;
    stage = stage ∙ is.stage;
    from = from ∙ is.from;
    copies = copies ∙ is.copies;
    targets = targets ∙ is.targets;
    op = is.op;
    timely = is.timely;
    moving = is.moving;
  }

  pub keeps_tuple : (q n : ℕ) (i : Item) (p : Phase) → IsTimely i → IsPhase role p → IsPhase role (tuple_taken q n i p)
  keeps_tuple q n i (phase.Running r) timely is =
      with_consumer r (with_merge r.consumer (after_offer r.consumer.merge q n i)) (offer_marks r.consumer.merge q n i) (all_offer IsTimely r.consumer.merge q n i timely is.timely) is
  keeps_tuple q n i (phase.Gathering g) timely is = by_test (is_held g q n)
    where
      Q : ℕ × Item → Type 0
      Q h = IsTimely h.1

      by_test : (b : Bool) → IsGathering role (if b then g else record g { held = slice_set g.held q (with_held (held_of g q) n i) })
      by_test true = is
      by_test false = record {
        sources = length-set g.held q (with_held (held_of g q) n i) ∙ is.sources;
        held = All-set (All (λ (h : ℕ × Item). IsTimely h.1)) g.held q (with_held (held_of g q) n i)
            (all_put (λ (h : ℕ × Item). IsTimely h.1) n i (held_of g q) timely (all_at (λ (h : ℕ × Item). IsTimely h.1) g.held q is.held)) is.held;
        taken = is.taken;
      }
  keeps_tuple q n i (phase.Gone inc) timely is = tt

  pub keeps_ack : (t upto : ℕ) (p : Phase) → IsPhase role p → IsPhase role (ack_taken t upto p)
  keeps_ack t upto (phase.Running r) is = with_producer r (acked r.producer t upto) refl refl refl (length-set r.producer.edges t (acknowledged (edge_at r.producer t) upto)) is
  keeps_ack t upto (phase.Gathering g) is = is
  keeps_ack t upto (phase.Gone inc) is = tt

  pub keeps_want : (t copy number : ℕ) (p : Phase) → IsPhase role p → IsPhase role (want_taken t copy number p)
  keeps_want t copy number (phase.Running r) is = by_test r.producer.leads
    where
      by_test : (b : Bool) → IsRunning role (record r { producer = if b then with_edge r.producer t (wanted (edge_at r.producer t) copy number) else r.producer })
      by_test true = with_producer r (with_edge r.producer t (wanted (edge_at r.producer t) copy number)) refl refl refl (length-set r.producer.edges t (wanted (edge_at r.producer t) copy number)) is
      by_test false = is
  keeps_want t copy number (phase.Gathering g) is = is
  keeps_want t copy number (phase.Gone inc) is = tt

  pub keeps_lead : (inc term : ℕ) (p : Phase) → IsPhase role p → IsPhase role (lead_taken inc term p)
  keeps_lead inc term (phase.Running r) is = by_inc (inc == r.inc)
    where
      by_term : (b : Bool) → IsRunning role (record r { producer = if b then record r.producer { term = term; leads = true; edges = map rewound r.producer.edges } else r.producer })
      by_term true = with_producer r (record r.producer { term = term; leads = true; edges = map rewound r.producer.edges }) refl refl refl (length-map r.producer.edges rewound) is
      by_term false = is

      by_inc : (b : Bool) → IsPhase role (if b then phase.Running (record r { producer = leading r.producer term }) else phase.Running r)
      by_inc true = by_term (nat_lt r.producer.term term)
      by_inc false = is
  keeps_lead inc term (phase.Gathering g) is = is
  keeps_lead inc term (phase.Gone own) is = tt

  -- a mover that has given nothing may go by any entries that are as many as it was told
  begun_midway : (target : ℕ) (fixed old : List Entry) → IsMidway (mover.begun target fixed (length old)) old
  begun_midway target fixed old = record { count = refl; place = λ some. absurd (omega arith) }

  pub keeps_serve : (inc target : ℕ) (p : Phase) → IsPhase role p → IsPhase role (serve_taken inc target p)
  keeps_serve inc target (phase.Running r) is = by_test ((inc == r.inc) && nat_lt r.served target)
    where
      served : IsRunning role (serving target r)
      served = record {
        sources = is.sources;
        stage = is.stage;
        from = is.from;
        copies = is.copies;
        targets = is.targets;
        op = is.op;
        timely = is.timely;
        moving = (begun_midway target (fixed_part r.consumer.merge r.producer) r.state.entries, omega arith);
      }

      by_test : (b : Bool) → IsPhase role (if b then phase.Running (serving target r) else phase.Running r)
      by_test true = served
      by_test false = is
  keeps_serve inc target (phase.Gathering g) is = is
  keeps_serve inc target (phase.Gone own) is = tt

  -- ---- one that begins anew, and gathers

  pub keeps_begin : (inc : ℕ) (p : Phase) → IsPhase role p → IsPhase role (begin_taken role.sources inc p)
  keeps_begin inc p is = by_test (nat_lt (inc_in p) inc)
    where
      by_test : (b : Bool) → IsPhase role (if b then phase.Gathering (begun inc role.sources) else p)
      by_test true = record {
        sources = length-replicate role.sources [];
        held = none_at_all (λ (h : ℕ × Item). IsTimely h.1) role.sources;
        taken = All-nil IsTimelyEntry;
      }
      by_test false = is

  pub keeps_stop : (inc : ℕ) (p : Phase) → IsPhase role p → IsPhase role (stop_taken inc p)
  keeps_stop inc p is = by_test (inc == inc_in p)
    where
      by_test : (b : Bool) → IsPhase role (if b then phase.Gone (inc_in p) else p)
      by_test true = tt
      by_test false = is

  timely_entry : (e : Entry) → IsEntryHere role e → IsTimelyEntry e
  timely_entry (entry.Head q number i) here = here.2
  timely_entry (entry.Mark q upto) here = tt
  timely_entry (entry.Count count) here = tt
  timely_entry (entry.Low t low produced) here = tt
  timely_entry (entry.Kept t number i) here = here.1
  timely_entry (entry.Keyed k slot a b c) here = tt

  pub keeps_chunk : (inc number : ℕ) (e : Entry) (p : Phase) → IsEntryHere role e → IsPhase role p → IsPhase role (chunk_taken inc number e p)
  keeps_chunk inc number e (phase.Running r) here is = is
  keeps_chunk inc number e (phase.Gathering g) here is = by_took (took_of g inc number)
    where
      by_took : (t : Took) → IsGathering role (taken_by t g e)
      by_took took.Taken = record {
        sources = is.sources;
        held = is.held;
        taken = All-append IsTimelyEntry g.taken (e ∷ []) is.taken (All-cons IsTimelyEntry e [] (timely_entry e here) (All-nil IsTimelyEntry));
      }
      by_took took.Repeat = is
      by_took took.Ahead = is
      by_took took.OtherInc = is
  keeps_chunk inc number e (phase.Gone own) here is = tt

  -- one that has caught up, where the lows taken were those of the out-edges
  pub keeps_end : (g : NewcomerView) (r : Running) → HasCaughtUp role g r → lows_in g.taken ≡ range_with_len 0 (targets_of role.next) → IsGathering role g → IsRunning role r
  keeps_end g r caught whole is = record {
    sources = ap (λ (c : ConsumerView). length c.merge.marks) caught.merges ∙ rebuilt_marks (length g.held) g.taken g.held ∙ is.sources;
    stage = ap (λ (y : ProducerView). y.stage) caught.sends;
    from = ap (λ (y : ProducerView). y.from) caught.sends;
    copies = ap (λ (y : ProducerView). y.copies) caught.sends;
    targets =
        sym (length-map r.producer.edges without_room) ∙ ap (λ (y : ProducerView). length y.edges) caught.sends
        ∙ length-map (map over (buffers_in g.taken)) without_room ∙ length-map (buffers_in g.taken) over
        ∙ lows_begin g.taken ∙ ap length whole ∙ length-range_with_len 0 (targets_of role.next);
    op = caught.spec;
    timely = subst (λ (c : ConsumerView). All (All IsTimely) c.merge.waiting) (sym caught.merges) (all_rebuilt IsTimely (length g.held) g.taken g.held is.taken is.held);
    moving = subst (λ (m : Option MoverView). IsMoving m r.state.old) (sym caught.move) caught.unwatched;
  }

-- a call that succeeded made one phase, and otherwise left another
pub either : {A E : Type 0} (role : Role) (r : Result A E) (new taken old : Phase) → OnOk r (new ≡ taken) → OnErr r (new ≡ old) → IsPhase role taken → IsPhase role old → IsPhase role new
either role (Ok a) new taken old made left kept was = subst (IsPhase role) (sym made) kept
either role (Err e) new taken old made left kept was = subst (IsPhase role) (sym left) was

not_same : (m n : ℕ) → (m == n) ≡ false → m ≡ n → ⊥
not_same m n differ same = let z : true ≡ false = sym (eq-eqb m n same) ∙ differ in cc

pub keeps_ended : (role : Role) (inc count : ℕ) (p after : Phase) (sent : List (NodeId × Body)) → IsWholeAt role p inc count → IsEnded role inc count p after sent → IsPhase role p → IsPhase role after
keeps_ended role inc count (phase.Running r) after sent whole ended is = subst (IsPhase role) (sym ended.0) is
keeps_ended role inc count (phase.Gone own) after sent whole ended is = subst (IsPhase role) (sym ended.0) tt
keeps_ended role inc count (phase.Gathering g) after sent whole ended is = by_tests (inc == g.inc) refl (count == length g.taken) refl
  where
    by_tests : (a : Bool) → (inc == g.inc) ≡ a → (b : Bool) → (count == length g.taken) ≡ b → IsPhase role after
    by_tests true own true all =
        let one = eqb-true inc g.inc own in
        let two = eqb-true count (length g.taken) all in
        let it = ended.ended one two in
        subst (IsPhase role) (sym it.1) (keeps_end role g it.0 it.2 (whole one two) is)
    by_tests false other b all = subst (IsPhase role) (sym (ended.refused (λ h. not_same inc g.inc other h.0)).0) is
    by_tests true own false some = subst (IsPhase role) (sym (ended.refused (λ h. not_same count (length g.taken) some h.1)).0) is

pub either_ended : {A E : Type 0} (role : Role) (inc count : ℕ) (r : Result A E) (old new : Phase) (sent : List (NodeId × Body)) → OnOk r (IsEnded role inc count old new sent) → OnErr r (new ≡ old)
    → IsWholeAt role old inc count → IsPhase role old → IsPhase role new
either_ended role inc count (Ok a) old new sent made left whole is = keeps_ended role inc count old new sent whole made is
either_ended role inc count (Err e) old new sent made left whole is = subst (IsPhase role) (sym left) is

-- of what a failed call left, the first part
pub on_err : {A E : Type 0} (P Q : Type 0) (r : Result A E) → OnErr r (P × Q) → OnErr r P
on_err P Q (Ok a) left = tt
on_err P Q (Err e) left = left.0

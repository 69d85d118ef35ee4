-- Whether a pair is lost, by what is seen of its three nodes.
use Rattle.std.proofs.Common.{◌≡◌, ◌∙◌, ℕ, Bool, true, false, Option, None, Some, refl, sym, ap, unwrap_or}
use Rattle.std.specs.Prelude.{◌≢◌, if◌then◌else◌}
use Rattle.tuple_edge.specs.declared.node.NodeId.{NodeId}
use Rattle.tuple_edge.specs.declared.node.NodeId.TheVariants as node
use Rattle.tuple_edge.specs.declared.node.Which.{Which}
use Rattle.tuple_edge.specs.declared.node.Which.TheVariants.{A, B}
use Rattle.pair_control.specs.ControllerView.{ControllerView, watched_of}
use Rattle.pair_machine.specs.Drain.{is_lost, is_serving, partition}
use Rattle.pair_machine.specs.Flow.{Flow}
use Rattle.pair_machine.specs.Machine.{State, controller_in, replica_in}
use Rattle.pair_machine.specs.Numbers.{Gathering, Gone, Replica, Running, other}
use Rattle.pair_machine.specs.Pairs.{Side, side_of}
use Rattle.run_watch.specs.Glimpses.{glimpse_of, known_of, replica_seen}
use Rattle.run_watch.specs.Happenings.{loss, pair_loss}
use Rattle.run_watch.specs.Looks.{control_seen, knows, runs_as, watched_seen}
use Rattle.run_watch.specs.Pairs.{DifferAt, counted_as, in_order, knows_both, lost_by}
use Rattle.run_watch.specs.declared.glimpse.Glimpse.{Glimpse}
use Rattle.run_watch.specs.declared.glimpse.Known.{Known}
use Rattle.run_watch.specs.declared.happening.Happening.{Happening}

-- a side serves, where its replica runs in an incarnation that is counted
serving_seen : (sources : ℕ) (a : Side) → is_serving a ≡ counted_as (known_of a.watched) (runs_as (replica_seen sources a.replica))
serving_seen sources a = go a.replica
  where
    go : (r : Replica) → is_serving (record a { replica = r }) ≡ counted_as (known_of a.watched) (runs_as (replica_seen sources r))
    go (Running x) = refl
    go (Gathering g) = refl
    go (Gone i) = refl

module _ (f : Flow) (s : State) (stage part : ℕ) where
  -- in which incarnation replica w runs
  abbrev pub runs_in : Which → Option ℕ
  runs_in w = runs_as (glimpse_of f s (node.Replica stage part w))

  -- what the controller knows of it
  abbrev pub known_to : Which → Known
  known_to w = known_of ((controller_in (s.nodes (node.Control stage part))).watched w)

  pub lost_seen : is_lost s (partition stage part) ≡ lost_by (known_to A) (known_to B) (runs_in A) (runs_in B)
  lost_seen =
      let a = serving_seen (f.sources stage) (side_of s (partition stage part) A) in
      let b = serving_seen (f.sources stage) (side_of s (partition stage part) B) in
      (λ j. if a j then false else if b j then false else true)

-- ---- what a change of one node makes of its pair

loss_same : (stage part : ℕ) (lost : Bool) → loss stage part lost lost ≡ None
loss_same stage part true = refl
loss_same stage part false = refl

other_differs : (w : Which) → other w ≢ w
other_differs A e = absurd (let z : ⊥ = cc e in z)
other_differs B e = absurd (let z : ⊥ = cc e in z)

module _ (f : Flow) (s t : State) (stage part : ℕ) where
  abbrev both_lost : Option Happening
  both_lost = loss stage part (is_lost s (partition stage part)) (is_lost t (partition stage part))

  -- where the replica w alone changed
  module _ (w : Which) (differ : DifferAt (node.Replica stage part w) s t) where
    known_stays : (v : Which) → known_to f s stage part v ≡ known_to f t stage part v
    known_stays v = ap (λ x. known_of ((controller_in x).watched v)) (sym (differ (node.Control stage part) (λ e. cc e)))

    partner_stays : runs_in f s stage part (other w) ≡ runs_in f t stage part (other w)
    partner_stays =
        ap (λ x. runs_as (replica_seen (f.sources stage) (replica_in x)))
        (sym (differ (node.Replica stage part (other w)) (λ e. other_differs w (replica_which e))))
      where
        replica_which : {u v : Which} → node.Replica stage part u ≡ node.Replica stage part v → u ≡ v
        replica_which e = cc e

    pub replica_loss : (a b : Known) (before after partner : Option ℕ) → a ≡ known_to f t stage part A → b ≡ known_to f t stage part B → before ≡ runs_in f s stage part w → after ≡ runs_in f t stage part w
        → partner ≡ runs_in f t stage part (other w) → loss stage part (in_order w (lost_by a b) before partner) (in_order w (lost_by a b) after partner) ≡ both_lost
    replica_loss a b before after partner a_is b_is before_is after_is partner_is =
        let was : in_order w (lost_by a b) before partner ≡ is_lost s (partition stage part) =
        (λ j. in_order w (lost_by ((a_is ∙ sym (known_stays A)) j) ((b_is ∙ sym (known_stays B)) j)) (before_is j) ((partner_is ∙ sym partner_stays) j)) ∙ in_state s w in
        let now : in_order w (lost_by a b) after partner ≡ is_lost t (partition stage part) =
        (λ j. in_order w (lost_by (a_is j) (b_is j)) (after_is j) (partner_is j)) ∙ in_state t w in
        (λ j. loss stage part (was j) (now j))
      where
        in_state : (u : State) (v : Which) → in_order v (lost_by (known_to f u stage part A) (known_to f u stage part B)) (runs_in f u stage part v) (runs_in f u stage part (other v)) ≡ is_lost u (partition stage part)
        in_state u A = sym (lost_seen f u stage part)
        in_state u B = sym (lost_seen f u stage part)

  -- where the controller alone changed
  module _ (differ : DifferAt (node.Control stage part) s t) where
    runs_stay : (v : Which) → runs_in f s stage part v ≡ runs_in f t stage part v
    runs_stay v = ap (λ x. runs_as (replica_seen (f.sources stage) (replica_in x))) (sym (differ (node.Replica stage part v) (λ e. cc e)))

    pub control_loss : (a b c d : Known) (runs_a runs_b : Option ℕ) → a ≡ known_to f s stage part A → b ≡ known_to f s stage part B → c ≡ known_to f t stage part A → d ≡ known_to f t stage part B
        → runs_a ≡ runs_in f t stage part A → runs_b ≡ runs_in f t stage part B → loss stage part (lost_by a b runs_a runs_b) (lost_by c d runs_a runs_b) ≡ both_lost
    control_loss a b c d runs_a runs_b a_is b_is c_is d_is runs_a_is runs_b_is =
        let was : lost_by a b runs_a runs_b ≡ is_lost s (partition stage part) =
        (λ j. lost_by (a_is j) (b_is j) ((runs_a_is ∙ sym (runs_stay A)) j) ((runs_b_is ∙ sym (runs_stay B)) j)) ∙ sym (lost_seen f s stage part) in
        let now : lost_by c d runs_a runs_b ≡ is_lost t (partition stage part) =
        (λ j. lost_by (c_is j) (d_is j) (runs_a_is j) (runs_b_is j)) ∙ sym (lost_seen f t stage part) in
        (λ j. loss stage part (was j) (now j))

-- what is seen of a controller tells what it knows
pub knows_to : (f : Flow) (s : State) (stage part : ℕ) (g : Glimpse) (w : Which) (k : Known) → g ≡ glimpse_of f s (node.Control stage part) → Some k ≡ knows g w → k ≡ known_to f s stage part w
knows_to f s stage part g w k seen is = ap (λ o. unwrap_or o k) (is ∙ ap (λ x. knows x w) seen ∙ in_either w)
  where
    in_either : (v : Which) → knows (glimpse_of f s (node.Control stage part)) v ≡ Some (known_to f s stage part v)
    in_either A = refl
    in_either B = refl

-- where nothing else is seen of a node than before, nothing happens to its pair
pub nothing_lost : (f : Flow) (s t : State) (n : NodeId) (x : Glimpse) → x ≡ glimpse_of f s n → x ≡ glimpse_of f t n → DifferAt n s t → None ≡ pair_loss n s t
nothing_lost f s t node.Ingress x before after differ = refl
nothing_lost f s t node.Egress x before after differ = refl
nothing_lost f s t (node.Replica stage part w) x before after differ =
    let own : runs_in f s stage part w ≡ runs_in f t stage part w = ap runs_as (sym before ∙ after) in
    let lost = in_order w (lost_by (known_to f t stage part A) (known_to f t stage part B)) (runs_in f t stage part w) (runs_in f t stage part (other w)) in
    sym (loss_same stage part lost)
    ∙ replica_loss f s t stage part w differ (known_to f t stage part A) (known_to f t stage part B) (runs_in f t stage part w) (runs_in f t stage part w) (runs_in f t stage part (other w)) refl refl (sym own) refl refl
nothing_lost f s t (node.Control stage part) x before after differ =
    let a : known_to f t stage part A ≡ known_to f s stage part A = knows_to f s stage part x A (known_to f t stage part A) before (ap (λ g. knows g A) (sym after)) in
    let b : known_to f t stage part B ≡ known_to f s stage part B = knows_to f s stage part x B (known_to f t stage part B) before (ap (λ g. knows g B) (sym after)) in
    let lost = lost_by (known_to f t stage part A) (known_to f t stage part B) (runs_in f t stage part A) (runs_in f t stage part B) in
    sym (loss_same stage part lost)
    ∙ control_loss f s t stage part differ (known_to f t stage part A) (known_to f t stage part B) (known_to f t stage part A) (known_to f t stage part B) (runs_in f t stage part A) (runs_in f t stage part B) a b refl refl refl refl

pub known_from : (f : Flow) (s : State) (stage part : ℕ) (c : ControllerView) (w : Which) → control_seen c ≡ glimpse_of f s (node.Control stage part) → watched_seen (watched_of c w) ≡ known_to f s stage part w
known_from f s stage part c A seen = knows_to f s stage part (control_seen c) A (watched_seen c.a) seen refl
known_from f s stage part c B seen = knows_to f s stage part (control_seen c) B (watched_seen c.b) seen refl

pub both_known : (f : Flow) (s : State) (stage part : ℕ) (g : Glimpse) (a b : Known) → g ≡ glimpse_of f s (node.Control stage part) → Some (a, b) ≡ knows_both g → (a ≡ known_to f s stage part A) × (b ≡ known_to f s stage part B)
both_known f s stage part g a b seen is =
    let z : Some (a, b) ≡ Some (known_to f s stage part A, known_to f s stage part B) = is ∙ ap knows_both seen in
    (ap (λ (o : Option (Known × Known)). (unwrap_or o (a, b)).0) z, ap (λ (o : Option (Known × Known)). (unwrap_or o (a, b)).1) z)

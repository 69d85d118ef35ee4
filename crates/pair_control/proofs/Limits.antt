-- How far the numbers of a controller go with one packet.
use Rattle.std.proofs.Common.{◌⊎◌, inl, inr, ◌≡◌, ◌<◌, ◌≤◌, ◌+◌, ◌^◌, ◌&&◌, ℕ, List, false, max, subst, sym, arith}
use Rattle.std.specs.Prelude.{◌==◌}
use Rattle.tuple_edge.specs.declared.node.Which.{Which}
use Rattle.tuple_edge.specs.declared.node.Which.TheVariants.{A, B}
use Rattle.tuple_edge.specs.declared.packet.Body.{Body}
use Rattle.tuple_edge.specs.declared.packet.Body.TheVariants as body
use Rattle.tuple_edge.specs.declared.status.Status.{Status}
use Rattle.tuple_edge.specs.declared.status.Status.TheVariants as status
use Rattle.std.specs.Option.{is_none}
use Rattle.pair_machine.specs.Controllers.{acks, backs, controller_hears, controller_takes, counts, goes_down, is_catching, is_down, is_up, leads_now, least_of, stops, with_watched}
use Rattle.pair_machine.specs.Messages.{AskBack, AskStop, Caught, Down, Envelope, Message, Report}
use Rattle.pair_machine.specs.Numbers.{Controller, Partition, Watched, other}
use Rattle.pair_machine.proofs.Tests.{if_elim}
use Rattle.pair_control.specs.Admitted.{AreReportsSmall, IsCarried, IsSmall}
use Rattle.pair_control.specs.ControllerView.{ControllerView, numbers_of}
use Rattle.pair_control.specs.Packets.{message_of}

-- The term rises once at most: who is named when the packet is heard leaves the pair with one replica that isn't up, and then no stop is granted.
pub rises_once : (P_heard P_back P_stopped : Type 0) (before heard back stopped last : ℕ) → heard ≤ before + 1 → (heard ≡ before) ⊎ P_heard → back ≡ heard → (P_heard → P_back) →
    stopped ≤ back + 1 → (stopped ≡ back) ⊎ P_stopped → (P_back → (stopped ≡ back) × P_stopped) → last ≤ stopped + 1 → (P_stopped → last ≡ stopped) → last ≤ before + 1
rises_once P_heard P_back P_stopped before heard back stopped last l (inl e) e_back k l_stopped (inl e_stopped) g l_last g_last = omega arith
rises_once P_heard P_back P_stopped before heard back stopped last l (inl e) e_back k l_stopped (inr away) g l_last g_last = let z = g_last away in omega arith
rises_once P_heard P_back P_stopped before heard back stopped last l (inr away) e_back k l_stopped o g l_last g_last = let x = g (k away) in let y = g_last x.1 in let z = x.0 in omega arith

-- ---- reports and acknowledgements

abbrev ReportsBelow : Watched → Type 0
ReportsBelow h = (q : ℕ) → h.reports q < 2 ^ 62

record AreBelow (c : Controller) : Type 0 where
  reports : (w : Which) → ReportsBelow (c.watched w)
  acked : (q : ℕ) → c.acked q < 2 ^ 62

abbrev Stay : (Controller × List Envelope) → Type 0
Stay d = AreBelow d.0

with_watched_below : (c : Controller) (w : Which) (h : Watched) → AreBelow c → ReportsBelow h → AreBelow (with_watched c w h)
with_watched_below c w h below h_below = record { reports = both w; acked = below.acked }
  where
    both : (u w_there : Which) → ReportsBelow ((with_watched c u h).watched w_there)
    both A A = h_below
    both A B = below.reports B
    both B A = below.reports A
    both B B = h_below

goes_down_below : (p : Partition) (w : Which) (c : Controller) → AreBelow c → Stay (goes_down p w c)
goes_down_below p w c below =
    let down = with_watched_below c w (record (c.watched w) { status = status.Down; stop = false }) below (below.reports w) in
    if_elim Stay (leads_now c.leader w) _ _
    (λ t. if_elim Stay (is_up (c.watched (other w)).status) _ _ (λ u. record { reports = down.reports; acked = down.acked }) (λ u. record { reports = down.reports; acked = down.acked }))
    (λ t. down)

hears_below : (p : Partition) (w : Which) (m : Message) (c : Controller) → IsSmall m → AreBelow c → Stay (controller_hears p w m c)
hears_below p w (Report i e k) c small below =
    if_elim Stay (counts (c.watched w) i) _ _
    (λ t. with_watched_below c w _ below (λ q. if_elim (λ n. n < 2 ^ 62) (q == e.from) _ _ (λ u. let x = below.reports w e.from in omega arith) (λ u. below.reports w q)))
    (λ t. below)
hears_below p w (Down i) c small below = if_elim Stay (counts (c.watched w) i) _ _ (λ t. goes_down_below p w c below) (λ t. below)
hears_below p w (AskStop i) c small below = if_elim Stay (counts (c.watched w) i) _ _ (λ t. with_watched_below c w _ below (below.reports w)) (λ t. below)
hears_below p w AskBack c small below = with_watched_below c (other w) _ below (below.reports (other w))
hears_below p w (Caught i) c small below =
    let up = with_watched_below c w (record (c.watched w) { status = status.Up }) below (below.reports w) in
    if_elim Stay ((i == (c.watched w).inc) && is_catching (c.watched w).status) _ _
    (λ t. if_elim Stay (is_none c.leader) _ _ (λ u. record { reports = up.reports; acked = up.acked }) (λ u. up)) (λ t. below)
hears_below p w m c small below = below

backs_below : (p : Partition) (w : Which) (c : Controller) → AreBelow c → Stay (backs p w c)
backs_below p w c below =
    if_elim Stay ((c.watched w).back && (is_down (c.watched w).status && is_up (c.watched (other w)).status)) _ _ (λ t. with_watched_below c w _ below (below.reports (other w))) (λ t. below)

stops_below : (p : Partition) (w : Which) (c : Controller) → AreBelow c → Stay (stops p w c)
stops_below p w c below = if_elim Stay ((c.watched w).stop && (is_up (c.watched w).status && is_up (c.watched (other w)).status)) _ _ (λ t. goes_down_below p w c below) (λ t. below)

least_below : (k : ℕ) (a_status : Status) (a : ℕ) (b_status : Status) (b : ℕ) → k < 2 ^ 62 → a < 2 ^ 62 → b < 2 ^ 62 → max k (least_of k a_status a b_status b) < 2 ^ 62
least_below k status.Down a status.Down b hk ha hb = omega arith
least_below k status.Down a status.Up b hk ha hb = omega arith
least_below k status.Down a status.Catching b hk ha hb = omega arith
least_below k status.Up a status.Down b hk ha hb = omega arith
least_below k status.Up a status.Up b hk ha hb = omega arith
least_below k status.Up a status.Catching b hk ha hb = omega arith
least_below k status.Catching a status.Down b hk ha hb = omega arith
least_below k status.Catching a status.Up b hk ha hb = omega arith
least_below k status.Catching a status.Catching b hk ha hb = omega arith

acks_below : (edges : ℕ) (p : Partition) (c : Controller) → AreBelow c → Stay (acks edges p c)
acks_below edges p c below = record { reports = below.reports; acked = λ q. least_below (c.acked q) (c.watched A).status _ (c.watched B).status _ (below.acked q) (below.reports A q) (below.reports B q) }

takes_below : (edges : ℕ) (p : Partition) (w : Which) (m : Message) (c : Controller) → IsSmall m → AreBelow c → Stay (controller_takes edges p w m c)
takes_below edges p w m c small below =
    acks_below edges p _ (stops_below p B _ (stops_below p A _ (backs_below p B _ (backs_below p A _ (hears_below p w m c small below)))))

carried_small : (c : ControllerView) (b : Body) → IsCarried c b → IsSmall (message_of b)
carried_small c (body.Report i e k) h = h.3
carried_small c b h = tt

below_of : (c : ControllerView) → AreReportsSmall c → AreBelow (numbers_of c)
below_of c small = record { reports = both; acked = λ q. (small q).2 }
  where
    both : (w : Which) → ReportsBelow ((numbers_of c).watched w)
    both A = λ q. (small q).0
    both B = λ q. (small q).1

-- reports and acknowledged numbers stay below the limit
pub reports_stay : (edges : ℕ) (p : Partition) (w : Which) (old new : ControllerView) (b : Body) → IsCarried old b →
    numbers_of new ≡ (controller_takes edges p w (message_of b) (numbers_of old)).0 → AreReportsSmall old → AreReportsSmall new
reports_stay edges p w old new b carried e small =
    let below : AreBelow (numbers_of new) = subst AreBelow (sym e) (takes_below edges p w (message_of b) (numbers_of old) (carried_small old b carried) (below_of old small)) in
    λ q. (below.reports A q, below.reports B q, below.acked q)

-- What the controller of a group does, in numbers. It hears its three replicas, names another leader where the leader goes down, and
-- after each message, whatever the message was, acknowledges each in-edge up to the least report of the replicas that are up.
use Rattle.std.specs.Prelude.{ℕ, zero, suc, Bool, false, List, [], ◌∷◌, ◌++◌, Option, None, Some, ◌+◌, ◌==◌, if◌then◌else◌, nat_lt, min, max, unwrap_or}
use Rattle.pair_machine.specs.Consumers.{first_below, with_at}
use Rattle.pair_machine.specs.Numbers.{Partition, in_edge}
use Rattle.trio_machine.specs.Messages.{Message, Ack, Report, Lead, Down, Envelope, envelope}
use Rattle.trio_machine.specs.Numbers.{Controller, group_size, replica_at}
use Rattle.trio_machine.specs.Replicas.{to_producers}

-- ---- reports

-- replica c reported the items of in-edge q up to k; a report never falls
abbrev pub reported : ℕ → ℕ → ℕ → Controller → Controller
reported c q k x = record x { reports = λ d. if d == c then with_at (x.reports c) q (max (x.reports c q) k) else x.reports d }

-- ---- leaders

-- whether the leader, if there is one, is replica c
abbrev pub leads_now : Option ℕ → ℕ → Bool
leads_now None c = false
leads_now (Some d) c = d == c

-- a replica is named leader, under the next term; or there is no leader
abbrev pub named : Partition → Controller → Option ℕ → (Controller × List Envelope)
named p x None = (record x { leader = None }, [])
named p x (Some c) = (record x { term = x.term + 1; leader = Some c }, envelope (replica_at p c) (Lead (x.term + 1)) ∷ [])

-- replica c is held down
abbrev pub downed : ℕ → Controller → Controller
downed c x = record x { up = λ d. if d == c then false else x.up d }

-- replica c goes down; where it led, the lowest replica that is up is named leader
abbrev pub goes_down : Partition → ℕ → Controller → (Controller × List Envelope)
goes_down p c x = if leads_now x.leader c then named p (downed c x) (first_below (downed c x).up group_size) else (downed c x, [])

-- what a message from replica c says; only one that is up is heard, and a message that no line names says nothing
abbrev pub controller_hears : Partition → ℕ → Message → Controller → (Controller × List Envelope)
controller_hears p c (Report e k) x = if x.up c then (reported c e.from k x, []) else (x, [])
controller_hears p c Down x = if x.up c then goes_down p c x else (x, [])
controller_hears p c m x = (x, [])

-- ---- acknowledgements

-- the least of a number, where there is one, and another
abbrev pub least_with : Option ℕ → ℕ → ℕ
least_with None k = k
least_with (Some j) k = min j k

-- the least report of in-edge q by those of the first n replicas that are up; none where none is up
abbrev pub least_below : Controller → ℕ → ℕ → Option ℕ
least_below x q zero = None
least_below x q (suc n) = if x.up n then Some (least_with (least_below x q n) (x.reports n q)) else least_below x q n

-- the least report of in-edge q by the replicas that are up; what is acknowledged, where none is
abbrev pub least : Controller → ℕ → ℕ
least x q = unwrap_or (least_below x q group_size) (x.acked q)

-- the acknowledgements of so many in-edges from q on, to the three producers of an edge or to ingress: of those whose least report has risen
abbrev pub acks_from : ℕ → ℕ → Partition → Controller → List Envelope
acks_from zero q p x = []
acks_from (suc n) q p x =
    (if nat_lt (x.acked q) (least x q) then to_producers p q (Ack (in_edge p q) (least x q)) else []) ++ acks_from n (q + 1) p x

-- each in-edge is acknowledged up to the least report of the replicas that are up, and never up to less than before
abbrev pub acks : ℕ → Partition → Controller → (Controller × List Envelope)
acks edges p x = (record x { acked = λ q. max (x.acked q) (least x q) }, acks_from edges 0 p x)

-- ---- the whole step

-- what a message from replica c does to the controller of a group with so many in-edges
abbrev pub controller_takes : ℕ → Partition → ℕ → Message → Controller → (Controller × List Envelope)
controller_takes edges p c m x =
    let heard = controller_hears p c m x in
    let acking = acks edges p heard.0 in
    (acking.0, heard.1 ++ acking.1)

-- A rehearsal worked by hand: replica A of one pair fails and B takes over, and replica B of another stops, begins anew and catches up.
use Rattle.std.specs.Prelude.{◌≡◌, ◌+◌, ℕ, true, false, List, [], ◌∷◌, ◌++◌, Option, None, Some, codes}
use Rattle.tuple_edge.specs.declared.node.NodeId.{NodeId}
use Rattle.tuple_edge.specs.declared.node.NodeId.TheVariants as node
use Rattle.tuple_edge.specs.declared.node.Which.TheVariants.{A, B}
use Rattle.pair_machine.specs.declared.order.Order.{Order}
use Rattle.run_end.specs.declared.ends.RunEnd.TheVariants.{Done, Lost}
use Rattle.run_watch.specs.declared.happening.Fell.TheVariants as fell
use Rattle.run_watch.specs.declared.happening.Happening.{Happening}
use Rattle.run_watch.specs.declared.happening.Happening.TheVariants as happening
use Rattle.run_watch.specs.declared.happening.Told.{Told}
use Rattle.run_rehearsal.specs.Fates.{are_obeyed, obeyed_at}
use Rattle.run_rehearsal.specs.RehearsalText.{end_text, follow_text, rehearsal_text}

-- a replica of the first pair
abbrev pub leader : NodeId
leader = node.Replica 1 0 A

-- its partner
abbrev pub follower : NodeId
follower = node.Replica 1 0 B

-- a replica of the second pair
abbrev pub stopped : NodeId
stopped = node.Replica 2 0 B

-- something that is told at an event, where so many trades are in and rows out
abbrev pub told_at : (place made emitted : ℕ) → Happening → Told
told_at place made emitted h = record { place = place; line = place + 1; made = made; emitted = emitted; happening = h }

-- what is told: A fails and B takes over; the other asks to be stopped, and it stops
abbrev pub told : List Told
told =
    told_at 10 5 0 (happening.Failed leader 1) ∷ told_at 14 6 0 (happening.Named follower 2 4 fell.Failed) ∷ told_at 16 6 1 (happening.Leads follower 2)
    ∷ told_at 20 9 1 (happening.AskedStop stopped 1) ∷ told_at 25 9 1 (happening.Stopped stopped 1) ∷ []

-- the script: A is to fail, and the other to stop and to come back
abbrev pub orders : List Order
orders = record { node = leader; kill = true; at = 40; back = None } ∷ record { node = stopped; kill = false; at = 100; back = Some 150 } ∷ []

-- every replica that runs has merged so many items at the end
abbrev pub merged : NodeId → Option ℕ
merged n = Some 120

-- the replica is asked back, begins anew and catches up
abbrev pub told_back : List Told
told_back =
    told_at 30 9 1 (happening.AskedBack stopped) ∷ told_at 40 9 1 (happening.Begun stopped 2) ∷ told_at 90 12 3 (happening.CaughtUp stopped 2 30 4) ∷ []

-- the texts of rehearsals that were worked by hand are those that are defined
pub record WorkedRehearsal : Type 0 where
  -- the whole text
  pub text : rehearsal_text told orders merged 2 Done 2 ≡
      codes "rehearsal 1\n"
      ++ codes "kill 1.0.a at 40: obeyed at event 10, in 5 out 0\n"
      ++ codes "stop 2.0.b at 100: obeyed at event 20, in 9 out 1\n"
      ++ codes "back 2.0.b at 150: never obeyed, and the count was not reached: 2.0.a had merged 120 items at the end\n"
      ++ codes "1.0.b takes over from 1.0.a: named at event 14, leads from event 16, 6 events and 1 rows after the fall\n"
      ++ codes "obeyed 1 of 2 orders\nrows 2\ndone\n"
  -- an order without its way back isn't obeyed, and with it it is
  pub without_back : are_obeyed told orders ≡ false
  pub with_back : are_obeyed (told ++ told_back) orders ≡ true
  -- the failure of another replica of the pair obeys no order, nor does a stop one to fail
  pub forestalled : obeyed_at told (record { node = follower; kill = true; at = 40; back = None }) ≡ None
  pub other_kind : obeyed_at told (record { node = stopped; kill = true; at = 40; back = None }) ≡ None
  -- a catch-up
  pub caught_up : follow_text told_back (told_at 40 9 1 (happening.Begun stopped 2)) ≡
      codes "2.0.b catches up: begun at event 40, done at event 90, 50 events and 2 rows later, 30 entries moved, 4 items held\n"
  -- one that isn't done, and one that never heard that it was named
  pub not_caught_up : follow_text [] (told_at 40 9 1 (happening.Begun stopped 2)) ≡ codes "2.0.b catches up: begun at event 40, and has not caught up\n"
  pub not_heard : follow_text [] (told_at 14 6 0 (happening.Named follower 2 4 fell.Failed)) ≡ codes "1.0.b takes over from 1.0.a: named at event 14, and has not heard of it\n"
  -- a lost pair
  pub lost : end_text 0 1 2 (Lost 1 0) 5 ≡ codes "obeyed 0 of 1 orders\nrows 2\npair 1.0 is lost: 2 rows, 5 with all\n"

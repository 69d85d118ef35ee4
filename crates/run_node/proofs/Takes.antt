-- Arrivals that are taken, one after another, keep a node sound.
use Rattle.std.proofs.Common.{◌≡◌, ◌<◌, ◌+◌, ◌^◌, ◌++◌, ◌∷◌, [], ℕ, List, Option, None, Some, refl, sym, ap, ◌∙◌, subst, arith, length}
use Rattle.std.specs.Prelude.{IfSome, IsSome, slice_get, slice_set}
use Rattle.flux_link.specs.declared.arrival.Arrival.{Arrival}
use Rattle.tuple_edge.specs.Input.{Input}
use Rattle.tuple_edge.specs.declared.event.Event.TheVariants as event
use Rattle.tuple_edge.specs.declared.event.Stamped.{Stamped}
use Rattle.tuple_edge.specs.declared.node.NodeId.{NodeId}
use Rattle.tuple_edge.specs.declared.packet.Body.{Body}
use Rattle.tuple_edge.specs.declared.packet.Packet.{Packet}
use Rattle.plan_reader.specs.PlanView.{PlanView}
use Rattle.pair_machine.specs.Courses.{Arrivals}
use Rattle.pair_machine.specs.Links.{link}
use Rattle.pair_machine.specs.Lists.{Each}
use Rattle.pair_machine.specs.Numbers.{Node}
use Rattle.pair_machine.specs.Receivers.{GoOverLinks}
use Rattle.pair_machine.specs.declared.order.Order.{Order}
use Rattle.node_tasks.specs.declared.task.Task.TheVariants as task
use Rattle.run_node.specs.declared.fired.Fired.{Fired}
use Rattle.run_node.specs.Ends.{InEndView, InLink, OutLink, links_in}
use Rattle.run_node.specs.Fits.{Came, Fit, HasCome, HasNext, IsWaiting, Taken}
use Rattle.run_node.specs.NodeView.{NodeView, in_names}
use Rattle.run_node.specs.Sends.{with_all_sent}
use Rattle.run_node.specs.SoundNode.{IsSoundNode}
use Rattle.node_tasks.specs.Steps.{StepByStep}
use Rattle.run_node.specs.Takes.{TakesNothing}
use Rattle.node_tasks.specs.Tasks.{DoesStep}
use Rattle.run_node.specs.Fired.{fired_after}
use Rattle.run_node.proofs.Events.{sound_after}
use Rattle.run_node.proofs.Places.{each_front, each_last, each_set_by, each_unset_by, map_get, map_set, map_set_by, set_there, within_set}
use Rattle.run_node.proofs.Runs.{or_false}

-- a take is nothing that a script's orders make a node do
fired_by_take : (fired : Fired) (k : Taken) → fired_after fired (task.Take k.from k.arrival.index k.arrival.packet) ≡ fired
fired_by_take fired k = λ i. record { stopped = or_false fired.stopped i; recalled = or_false fired.recalled i }

module _ {A : Type 0} (id : A → NodeId) (of_plan : PlanView → A → Type 0) (stands : PlanView → List Input → A → Node → Type 0) (plan : PlanView) (inputs : List Input) (script : List Order)
    (state : A) (ins : List InLink) (outs : List OutLink) (clock : ℕ) (fired : Fired) (history : List Stamped)
    (s : IsSoundNode id of_plan stands plan inputs script state ins outs clock fired history) where
  -- an arrival that came was taken
  pub sound_after_take : (k : Taken) (new : A) (packets : List (NodeId × Body)) (c : ℕ) → ((arrived : Arrivals) → Fit arrived ins → Came arrived k.from k.arrival)
      → clock < c → k.arrival.packet.at < c → c < 2 ^ 62 → id new ≡ id state → of_plan plan new
      → DoesStep id stands (task.Take k.from k.arrival.index k.arrival.packet) state new packets → GoOverLinks plan (id state) packets
      → IsSoundNode id of_plan stands plan inputs script new ins (with_all_sent c packets outs) c fired (history ++ record { clock = c; event = event.Take (link k.from (id state)) k.arrival.index } ∷ [])
  sound_after_take k new packets c came later after small same named does over =
      subst (λ f. IsSoundNode id of_plan stands plan inputs script new ins (with_all_sent c packets outs) c f (history ++ record { clock = c; event = event.Take (link k.from (id state)) k.arrival.index } ∷ [])) (fired_by_take fired k)
      (sound_after id of_plan stands plan inputs script state ins outs clock fired history s (task.Take k.from k.arrival.index k.arrival.packet) new packets c
      came later after small refl same named refl does over (λ x stands_so. tt))

-- ---- one after another

module _ {A G : Type 0} (Step : A → A → G → Type 0) where
  -- one step more behind steps
  pub steps_more : (gs : List G) (g : G) (old between new : A) → StepByStep Step old between gs → Step between new g → StepByStep Step old new (gs ++ g ∷ [])
  steps_more [] g old between new same last = (new, subst (λ b. Step b new g) same last, refl)
  steps_more (h ∷ gs) g old between new steps last = (steps.0, steps.1, steps_more gs g steps.0 between new steps.2 last)

pub length_more : {X : Type 0} (xs : List X) (x : X) (n : ℕ) → length xs ≡ n → length (xs ++ x ∷ []) ≡ n + 1
length_more [] x n e = omega arith
length_more (y ∷ xs) x n e = let rest = length_more xs x (length xs) refl in omega arith

-- a node that does nothing is the same
pub stays_same : {A T : Type 0} (id : A → NodeId) (v : NodeView A T) → TakesNothing id v v
stays_same id v = record { name = refl; links = refl; history = refl }

-- ---- what a link gave

-- the next arrival, by its packet and its index
pub next_is : (next : Option Arrival) (packet : Packet) (index : ℕ) → IsSome next → IfSome next (λ a. packet ≡ a.packet) → IfSome next (λ a. index ≡ a.index)
    → next ≡ Some (record { index = index; packet = packet })
next_is None packet index some p i = cc
next_is (Some a) packet index some p i = λ k. Some (record { index = sym i k; packet = sym p k })

module _ (taken : Taken) where
  -- it fits only where what the links gave before does
  pub fit_before : (before after : List InLink) (arrived : Arrivals) → HasCome taken before after → Fit arrived after → Fit arrived before
  fit_before before after arrived h fit =
      let a = taken.arrival in
      let new : InLink = record h.link { given = h.link.given ++ a ∷ [] } in
      each_unset_by (λ (l : InLink). Each (Came arrived l.from) l.given) before h.place h.link new h.there
      (each_front (Came arrived h.link.from) h.link.given (a ∷ [])) (subst (Fit arrived) h.gave fit)

  -- where it fits, the arrival came under its index
  pub came_of : (before after : List InLink) (arrived : Arrivals) → HasCome taken before after → Fit arrived after → Came arrived taken.from taken.arrival
  came_of before after arrived h fit =
      let a = taken.arrival in
      let new : InLink = record h.link { given = h.link.given ++ a ∷ [] } in
      let all : Each (Came arrived h.link.from) (h.link.given ++ a ∷ []) =
      each_set_by (λ (l : InLink). Each (Came arrived l.from) l.given) before h.place h.link new h.there (subst (Fit arrived) h.gave fit) in
      ap (λ n. arrived n a.index) h.from ∙ each_last (Came arrived h.link.from) h.link.given a all

  -- names stay
  pub names_come : (before after : List InLink) → HasCome taken before after → in_names after ≡ in_names before
  names_come before after h =
      let new : InLink = record h.link { given = h.link.given ++ taken.arrival ∷ [] } in
      ap in_names h.gave ∙ map_set_by (λ (l : InLink). (l.from, l.identity)) before h.place h.link new h.there refl

-- an end gave the arrival that was next there, whose packet and index were looked at before
pub has_come : (from : NodeId) (index : ℕ) (packet : Packet) (end : InEndView) (first second third : List InLink) → second ≡ first → from ≡ end.link.from
    → HasNext end → IfSome end.next (λ a. packet ≡ a.packet) → IfSome end.next (λ a. index ≡ a.index)
    → ((arrival : Arrival) → end.next ≡ Some arrival → HasCome (record { from = end.link.from; arrival = arrival }) second third)
    → HasCome (record { from = from; arrival = record { index = index; packet = packet } }) first third
has_come from index packet end first second third same sent waits p i gave =
    let k : Taken = record { from = from; arrival = record { index = index; packet = packet } } in
    let h = gave k.arrival (next_is end.next packet index waits.0 p i) in
    let come : HasCome k second third = record { place = h.place; link = h.link; there = h.there; from = sent ∙ h.from; gave = h.gave } in
    subst (λ l. HasCome k l third) same come

-- it gives that arrival alone, and no other end gives any
pub pass_gives : (ends : List InEndView) (place : ℕ) (old new end : InEndView) (arrival : Arrival) → slice_get ends place ≡ Some old → slice_get ends place ≡ Some end
    → end.next ≡ Some arrival → IfSome old.next (λ a. new.link ≡ record old.link { given = old.link.given ++ a ∷ [] })
    → HasCome (record { from = end.link.from; arrival = arrival }) (links_in ends) (links_in (slice_set ends place new))
pass_gives ends place old new end arrival at there next gave =
    let some : Some old ≡ Some end = sym at ∙ there in
    let same : old ≡ end = cc some in
    let at_end : IfSome end.next (λ a. new.link ≡ record end.link { given = end.link.given ++ a ∷ [] }) =
    subst (λ (y : InEndView). IfSome y.next (λ a. new.link ≡ record y.link { given = y.link.given ++ a ∷ [] })) same gave in
    let given : IfSome (Some arrival) (λ a. new.link ≡ record end.link { given = end.link.given ++ a ∷ [] }) =
    subst (λ o. IfSome o (λ a. new.link ≡ record end.link { given = end.link.given ++ a ∷ [] })) next at_end in
    record {
      place = place;
      link = end.link;
      there = map_get (λ (e : InEndView). e.link) ends place end there;
      from = refl;
      gave = map_set (λ (e : InEndView). e.link) ends place new ∙ ap (λ l. slice_set (links_in ends) place l) given;
    }

-- where it waits at an end, it waits at the place of that end
pub waits_at : (ends : List InEndView) (place : ℕ) (new : InEndView) → place < length ends → HasNext new → IsWaiting (slice_set ends place new) place
waits_at ends place new lt waits = record {
  within = within_set ends place new lt;
  next = λ e there. subst HasNext (set_there ends place new e there) waits;
}

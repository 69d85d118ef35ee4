-- Pieces of work one after another, and makes one after another, keep a node sound.
use Rattle.std.proofs.Common.{◌≡◌, ◌<◌, ◌+◌, ◌^◌, ◌++◌, ◌∷◌, [], ◌||◌, ◌∙◌, ℕ, zero, suc, Bool, true, false, List, refl, sym, ap, subst, append_assoc, append-nil, arith, drop, length}
use Rattle.std.specs.Prelude.{replicate}
use Rattle.std.proofs.lemmas.List.{length-replicate}
use Rattle.tuple_edge.specs.Input.{Input}
use Rattle.tuple_edge.specs.declared.event.Stamped.{Stamped}
use Rattle.tuple_edge.specs.declared.node.NodeId.{NodeId}
use Rattle.tuple_edge.specs.declared.packet.Body.{Body}
use Rattle.plan_reader.specs.PlanView.{PlanView}
use Rattle.pair_machine.specs.Courses.{Arrivals}
use Rattle.pair_machine.specs.Numbers.{Node}
use Rattle.pair_machine.specs.Scripts.{IsAllowedAt}
use Rattle.pair_machine.specs.declared.order.Order.{Order}
use Rattle.event_log.specs.Views.{makes_after, repeated_after}
use Rattle.node_tasks.specs.declared.task.Task.{Task}
use Rattle.node_tasks.specs.declared.task.Task.TheVariants as task
use Rattle.run_node.specs.declared.fired.Fired.{Fired}
use Rattle.run_node.specs.Ends.{InLink, OutLink}
use Rattle.run_node.specs.Sends.{with_all_sent, with_steps_sent}
use Rattle.run_node.specs.SoundNode.{IsSoundNode}
use Rattle.node_tasks.specs.Steps.{DoesMake, DoesTask, StepByStep, pieces}
use Rattle.node_tasks.specs.Tasks.{event_of}
use Rattle.run_node.specs.Fired.{fired_after, repeats}
use Rattle.run_node.proofs.Events.{sound_after}
use Rattle.run_node.proofs.Merged.{CameFor, clock_of}

pub or_false : (b : Bool) → (b || false) ≡ b
or_false true = refl
or_false false = refl

-- a task is nothing that a script's orders make a node do, and it takes nothing
pub record IsOwn (t : Task) : Type 0 where
  pub came : (arrived : Arrivals) → CameFor arrived t
  pub timeless : clock_of t ≡ 0
  pub new : (fired : Fired) → repeats fired t ≡ false
  pub stays : (fired : Fired) → fired_after fired t ≡ fired
  pub allowed : (script : List Order) (me : NodeId) (x : Node) → IsAllowedAt script (event_of me t) x

none_fired : (fired : Fired) → ◌≡◌ {A = Fired} (record { stopped = fired.stopped || false; recalled = fired.recalled || false }) fired
none_fired fired = λ i. record { stopped = or_false fired.stopped i; recalled = or_false fired.recalled i }

pub work_is_own : IsOwn task.Work
work_is_own = record { came = λ arrived. tt; timeless = refl; new = λ fired. refl; stays = none_fired; allowed = λ script me x. tt }

pub make_is_own : IsOwn task.Make
make_is_own = record { came = λ arrived. tt; timeless = refl; new = λ fired. refl; stays = none_fired; allowed = λ script me x. tt }

pub length-pieces : {X : Type 0} (count each : ℕ) (xs : List X) → length (pieces count each xs) ≡ count
length-pieces zero each xs = refl
length-pieces (suc count) each xs = ap suc (length-pieces count each (drop each xs))

nothing_sent : (count clock : ℕ) (outs : List OutLink) → with_steps_sent clock (replicate count []) outs ≡ outs
nothing_sent zero clock outs = refl
nothing_sent (suc count) clock outs = nothing_sent count (clock + 1) outs

steps_as : {A G : Type 0} {Step Other : A → A → G → Type 0} → ((old new : A) (g : G) → Step old new g → Other old new g) → (old new : A) (gs : List G) → StepByStep Step old new gs → StepByStep Other old new gs
steps_as turns old new [] steps = steps
steps_as turns old new (g ∷ gs) steps = (steps.0, turns old steps.0 g steps.1, steps_as turns steps.0 new gs steps.2)

module _ {A : Type 0} (id : A → NodeId) (of_plan : PlanView → A → Type 0) (stands : PlanView → List Input → A → Node → Type 0) (plan : PlanView) (inputs : List Input) (script : List Order) (ins : List InLink) (fired : Fired) where
  abbrev Sound : A → List OutLink → ℕ → List Stamped → Type 0
  Sound state outs clock history = IsSoundNode id of_plan stands plan inputs script state ins outs clock fired history

  -- a task once
  sound_after_one : (t : Task) → IsOwn t → (state new : A) (outs : List OutLink) (clock : ℕ) (history : List Stamped) (packets : List (NodeId × Body)) → Sound state outs clock history → clock + 1 < 2 ^ 62
      → DoesTask id of_plan stands t state new packets
      → Sound new (with_all_sent (clock + 1) packets outs) (clock + 1) (history ++ record { clock = clock + 1; event = event_of (id state) t } ∷ [])
  sound_after_one t own state new outs clock history packets sound small does =
      let later : clock_of t < clock + 1 = omega (arith, own.timeless) in
      subst (λ f. IsSoundNode id of_plan stands plan inputs script new ins (with_all_sent (clock + 1) packets outs) (clock + 1) f (history ++ record { clock = clock + 1; event = event_of (id state) t } ∷ [])) (own.stays fired)
      (sound_after id of_plan stands plan inputs script state ins outs clock fired history sound t new packets (clock + 1)
      (λ arrived fit. own.came arrived) (omega arith) later small (own.new fired) does.same (does.planned plan sound.named) does.here does.step (does.linked plan sound.named) (λ x stands_so. own.allowed script (id state) x))

  -- as often as it sends these packets
  pub sound_after_steps : (t : Task) → IsOwn t → (sends : List (List (NodeId × Body))) (state new : A) (outs : List OutLink) (clock : ℕ) (history : List Stamped) → Sound state outs clock history → clock + length sends < 2 ^ 62
      → StepByStep (DoesTask id of_plan stands t) state new sends
      → Sound new (with_steps_sent clock sends outs) (clock + length sends) (history ++ repeated_after (event_of (id state) t) clock (length sends))
  sound_after_steps t own [] state new outs clock history sound small steps =
      let still : clock ≡ clock + 0 = omega arith in
      subst (λ s. Sound s outs (clock + 0) (history ++ [])) (sym steps)
      (subst (λ c. Sound state outs c (history ++ [])) still (subst (Sound state outs clock) (sym (append-nil history)) sound))
  sound_after_steps t own (packets ∷ later) state new outs clock history sound small steps =
      let between = steps.0 in
      let h : Stamped = record { clock = clock + 1; event = event_of (id state) t } in
      let less : clock + 1 < 2 ^ 62 = omega arith in
      let few : clock + 1 + length later < 2 ^ 62 = omega arith in
      let first = sound_after_one t own state between outs clock history packets sound less steps.1 in
      let rest = sound_after_steps t own later between new (with_all_sent (clock + 1) packets outs) (clock + 1) (history ++ h ∷ []) first few steps.2 in
      let all : clock + 1 + length later ≡ clock + suc (length later) = omega arith in
      let told : (history ++ h ∷ []) ++ repeated_after (event_of (id between) t) (clock + 1) (length later) ≡ history ++ repeated_after (event_of (id state) t) clock (suc (length later)) =
      append_assoc history (h ∷ []) (repeated_after (event_of (id between) t) (clock + 1) (length later)) ∙ ap (λ n. history ++ h ∷ repeated_after (event_of n t) (clock + 1) (length later)) steps.1.same in
      subst (λ c. Sound new (with_steps_sent (clock + 1) later (with_all_sent (clock + 1) packets outs)) c (history ++ repeated_after (event_of (id state) t) clock (suc (length later)))) all
      (subst (Sound new (with_steps_sent (clock + 1) later (with_all_sent (clock + 1) packets outs)) (clock + 1 + length later)) told rest)

  -- ---- makes, which send nothing

  -- so many of them
  pub sound_after_makes : (Wants : A → Type 0) (count : ℕ) (state new : A) (outs : List OutLink) (clock : ℕ) (history : List Stamped) → Sound state outs clock history → clock + count < 2 ^ 62
      → StepByStep (DoesMake id of_plan stands Wants) state new (replicate count [])
      → Sound new outs (clock + count) (history ++ makes_after clock count)
  sound_after_makes Wants count state new outs clock history sound small steps =
      let nothing : List (List (NodeId × Body)) = replicate count [] in
      let all : length nothing ≡ count = length-replicate count [] in
      let few : clock + length nothing < 2 ^ 62 = omega (arith, all) in
      let does : StepByStep (DoesTask id of_plan stands task.Make) state new nothing = steps_as (λ old after packets make. make.does) state new nothing steps in
      let so_far = sound_after_steps task.Make make_is_own nothing state new outs clock history sound few does in
      subst (λ n. Sound new outs (clock + n) (history ++ makes_after clock n)) all
      (subst (λ l. Sound new l (clock + length nothing) (history ++ makes_after clock (length nothing))) (nothing_sent count clock outs) so_far)

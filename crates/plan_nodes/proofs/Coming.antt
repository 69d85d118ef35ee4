-- Which inputs may be those of a run, from what came to its nodes.
use Rattle.std.proofs.Common.{◌≡◌, ◌∙◌, ◌+◌, ◌++◌, ◌∷◌, Bool, List, [], Result, Ok, Err, true, false, length, length-append, ap, append-nil, arith, pos, refl, subst, sym}
use Rattle.std.specs.Prelude.{◌↔◌, IfOk, IsTrue}
use mathlib.Core.List.{IsPrefix}
use Rattle.tuple_edge.specs.Input.{Input}
use Rattle.tuple_edge.specs.declared.memory.OutOfMemory.{OutOfMemory}
use Rattle.ingress_egress.specs.IngressStands.{AreCome}
use Rattle.ingress_egress.specs.IngressView.{IngressView, MayFeed, fed}
use Rattle.ingress_egress.proofs.Coming.{came_whole, end_admits}
use Rattle.node_tasks.specs.Coming.{HaveCome}
use Rattle.plan_nodes.specs.States.{Admits, has_ended, inputs_in}
use Rattle.plan_nodes.specs.declared.state.NodeState.{NodeState}
use Rattle.plan_nodes.specs.declared.state.NodeState.TheVariants as state

-- where all came, nothing but these may be the inputs
pub these_alone : (i : IngressView) (these : List Input) → i.ended ≡ true → i.inputs ≡ these → (inputs : List Input) → Admits (state.Ingress i) inputs → inputs ≡ these
these_alone i these ended came inputs may = sym (subst (λ b. AreCome b i.inputs inputs) ended may) ∙ came

-- where nothing but these may be the inputs, they came, and are all
pub all_came : (s : NodeState) (these : List Input) → ((inputs : List Input) → Admits s inputs → inputs ≡ these) → (has_ended s ≡ true) × (inputs_in s ≡ these)
all_came s these only = came_whole (has_ended s) (inputs_in s) these only

-- what came to a node may be the inputs
pub own_admitted : (s : NodeState) → Admits s (inputs_in s)
own_admitted s = end_admits (has_ended s) (inputs_in s) (inputs_in s) refl

-- ---- one more

-- lists that each begin with the other are one
same_list : (xs ys more back : List Input) → xs ++ more ≡ ys → ys ++ back ≡ xs → xs ≡ ys
same_list xs ys [] back on off = sym (append-nil xs) ∙ on
same_list xs ys (y ∷ more) back on off =
    let longer : length xs + length (y ∷ more) ≡ length ys = sym (length-append xs (y ∷ more)) ∙ ap length on in
    let shorter : length ys + length back ≡ length xs = sym (length-append ys back) ∙ ap length off in
    absurd (omega (arith, longer, shorter))

-- an input
some_input : Input
some_input = record { source = 0; row = record { time = pos 0; account = pos 0; symbol = pos 0; qty = pos 0; value = pos 0 } }

-- what came can't be all, and be all with one more
not_both : (came all : List Input) → came ≡ all → came ≡ all ++ some_input ∷ [] → ⊥
not_both came all none one =
    let few : length came ≡ length all = ap length none in
    let more : length came ≡ length all + 1 = ap length one ∙ length-append all (some_input ∷ []) in
    omega (arith, few, more)

-- where the same may be the inputs, the same came, and it was said as well that they are all
same_came : (was is : Bool) (old new : List Input) → ((inputs : List Input) → AreCome is new inputs ↔ AreCome was old inputs) → (is ≡ was) × (new ≡ old)
same_came true true old new both = (refl, (both old).1 refl)
same_came true false old new both = absurd (not_both old new ((both new).0 ([], append-nil new)) ((both (new ++ some_input ∷ [])).0 (some_input ∷ [], refl)))
same_came false true old new both = absurd (not_both new old ((both old).1 ([], append-nil old)) ((both (old ++ some_input ∷ [])).1 (some_input ∷ [], refl)))
same_came false false old new both =
    let on : IsPrefix old new = (both new).0 ([], append-nil new) in
    let off : IsPrefix new old = (both old).1 ([], append-nil old) in
    (refl, same_list new old off.0 on.0 off.1 on.1)

-- so what came to a node is the same where the same may be its inputs
pub still_here : (old new : NodeState) → ((inputs : List Input) → Admits new inputs ↔ Admits old inputs) → (has_ended new ≡ has_ended old) × (inputs_in new ≡ inputs_in old)
still_here old new both = same_came (has_ended old) (has_ended new) (inputs_in old) (inputs_in new) both

-- where more may come, an input that came stands behind those before it
pub one_more : (old new : IngressView) (input : Input) → old.ended ≡ false → new ≡ fed old input → (before : List Input) → HaveCome Admits (state.Ingress old) before
    → HaveCome Admits (state.Ingress new) (before ++ input ∷ [])
one_more old new input more is before came =
    let all = old.inputs ++ input ∷ [] in
    let on : IsPrefix old.inputs before = subst (λ b. AreCome b old.inputs before) more came.may in
    let off : IsPrefix before old.inputs = came.front old.inputs (subst (λ b. AreCome b old.inputs old.inputs) (sym more) ([], append-nil old.inputs)) in
    let same : old.inputs ≡ before = same_list old.inputs before on.0 off.0 on.1 off.1 in
    let here : HaveCome Admits (state.Ingress (fed old input)) all =
    record {
      may = subst (λ b. AreCome b all all) (sym more) ([], append-nil all);
      front = λ inputs h. subst (λ b. AreCome b all inputs) more h;
    } in
    subst (λ (i : IngressView). HaveCome Admits (state.Ingress i) (before ++ input ∷ [])) (sym is)
    (subst (λ (first : List Input). HaveCome Admits (state.Ingress (fed old input)) (first ++ input ∷ [])) same here)

-- an input that ingress took came behind those before it
pub came_behind : (old new : IngressView) (input : Input) (result : Result Bool OutOfMemory) → IfOk result (λ taken. IsTrue taken ↔ MayFeed old input)
    → IfOk result (λ taken. IsTrue taken → new ≡ fed old input)
    → IfOk result (λ taken. IsTrue taken → (before : List Input) → HaveCome Admits (state.Ingress old) before → HaveCome Admits (state.Ingress new) (before ++ input ∷ []))
came_behind old new input (Ok taken) may grew = λ yes before came. one_more old new input (may.0 yes).open_yet (grew yes) before came
came_behind old new input (Err lack) may grew = tt

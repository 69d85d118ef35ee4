use Rattle.std.proofs.Common.{◌≡◌, ◌∙◌, ◌+◌, ◌++◌, ◌∷◌, [], None, Some, append-nil, ap, arith, drop, refl, subst, sym}
use Rattle.std.specs.Prelude.{MatchOption}
use mathlib.Core.List.{IsPrefix}
use Rattle.std.proofs.lemmas.Option.{slice_get_within}
use Rattle.ingress_egress.specs.EgressView.{EgressView}
use Rattle.ingress_egress.proofs.Handing.{first_held, found, goes_on, hand_stands}
use Rattle.ingress_egress.proofs.egress.Egress.let_go.Goals as goal

-- where none is left all were handed on
pub returns-in_err-row-clause-gone : goal.returns-in_err-row-clause-gone
returns-in_err-row-clause-gone c =
    let at = found c.self.inside.held.items c.deref.result.now c.self.inside.skipped c.row_at.result None c.deref.ensures.value c.row_at.ensures c.in_err-row.was in
    let old = c.args.self.now in
    subst (λ o. MatchOption o ((old ≡ old) × (old.gone ≡ old.emitted)) (λ row. old ≡ record old { gone = old.gone ++ row ∷ [] })) (sym c.from_residual.ensures)
    (refl, subst (λ (v : EgressView). v.gone ≡ v.emitted) c.self.view_is (first_held c.self.inside.gone.items c.self.inside.held.items c.self.inside.skipped None at))

pub returns-in_err-row-clause-first : goal.returns-in_err-row-clause-first
returns-in_err-row-clause-first c =
    let at = found c.self.inside.held.items c.deref.result.now c.self.inside.skipped c.row_at.result None c.deref.ensures.value c.row_at.ensures c.in_err-row.was in
    subst (λ (v : EgressView). IsPrefix v.gone v.emitted) c.self.view_is
    ([], append-nil c.self.inside.gone.items ∙ first_held c.self.inside.gone.items c.self.inside.held.items c.self.inside.skipped None at)

pub overflow_sub-len : goal.overflow_sub-len
overflow_sub-len c = let l = slice_get_within c.self.inside.held.items c.self.inside.skipped c.in_ok-row.row (found c.self.inside.held.items c.deref.result.now c.self.inside.skipped c.row_at.result (Some c.in_ok-row.row) c.deref.ensures.value c.row_at.ensures c.in_ok-row.was) in omega (arith, c.len.ensures, l)

pub drop_front-requires : goal.drop_front-requires
drop_front-requires c = let l = slice_get_within c.self.inside.held.items c.self.inside.skipped c.in_ok-row.row (found c.self.inside.held.items c.deref.result.now c.self.inside.skipped c.row_at.result (Some c.in_ok-row.row) c.deref.ensures.value c.row_at.ensures c.in_ok-row.was) in omega (arith, l)

pub returns-then-len-self-clause-gone : goal.returns-then-len-self-clause-gone
returns-then-len-self-clause-gone c =
    let at = found c.self.inside.held.items c.deref.result.now c.self.inside.skipped c.row_at.result (Some c.in_ok-row.row) c.deref.ensures.value c.row_at.ensures c.in_ok-row.was in
    let all = (λ i. c.and-self-inside.ensures i ++ c.drop_front.ensures i) ∙ goes_on c.self.inside.gone.items c.self.inside.held.items c.self.inside.skipped c.in_ok-row.row at in
    (λ i. record { stages = c.self.inside.stages; consumer = c.self.inside.consumer; emitted = all i; gone = c.and-self-inside.ensures i; done = c.self.inside.done })
    ∙ ap (λ (v : EgressView). record v { gone = v.gone ++ c.in_ok-row.row ∷ [] }) c.self.view_is

pub returns-then-len-self-clause-emitted : goal.returns-then-len-self-clause-emitted
returns-then-len-self-clause-emitted c =
    let at = found c.self.inside.held.items c.deref.result.now c.self.inside.skipped c.row_at.result (Some c.in_ok-row.row) c.deref.ensures.value c.row_at.ensures c.in_ok-row.was in
    (λ i. c.and-self-inside.ensures i ++ c.drop_front.ensures i) ∙ goes_on c.self.inside.gone.items c.self.inside.held.items c.self.inside.skipped c.in_ok-row.row at
    ∙ ap (λ (v : EgressView). v.emitted) c.self.view_is

pub returns-then-len-self-clause-stands : goal.returns-then-len-self-clause-stands
returns-then-len-self-clause-stands c = λ plan rows n s. hand_stands plan rows c.args.self.now _ _ n (returns-then-len-self-clause-gone c) s

pub returns-else-len-self-clause-gone : goal.returns-else-len-self-clause-gone
returns-else-len-self-clause-gone c =
    let at = found c.self.inside.held.items c.deref.result.now c.self.inside.skipped c.row_at.result (Some c.in_ok-row.row) c.deref.ensures.value c.row_at.ensures c.in_ok-row.was in
    let all = ap (λ xs. xs ++ drop (c.self.inside.skipped + 1) c.self.inside.held.items) c.and-self-inside.ensures
    ∙ goes_on c.self.inside.gone.items c.self.inside.held.items c.self.inside.skipped c.in_ok-row.row at in
    (λ i. record { stages = c.self.inside.stages; consumer = c.self.inside.consumer; emitted = all i; gone = c.and-self-inside.ensures i; done = c.self.inside.done })
    ∙ ap (λ (v : EgressView). record v { gone = v.gone ++ c.in_ok-row.row ∷ [] }) c.self.view_is

pub returns-else-len-self-clause-emitted : goal.returns-else-len-self-clause-emitted
returns-else-len-self-clause-emitted c =
    let at = found c.self.inside.held.items c.deref.result.now c.self.inside.skipped c.row_at.result (Some c.in_ok-row.row) c.deref.ensures.value c.row_at.ensures c.in_ok-row.was in
    ap (λ xs. xs ++ drop (c.self.inside.skipped + 1) c.self.inside.held.items) c.and-self-inside.ensures
    ∙ goes_on c.self.inside.gone.items c.self.inside.held.items c.self.inside.skipped c.in_ok-row.row at
    ∙ ap (λ (v : EgressView). v.emitted) c.self.view_is

pub returns-else-len-self-clause-stands : goal.returns-else-len-self-clause-stands
returns-else-len-self-clause-stands c = λ plan rows n s. hand_stands plan rows c.args.self.now _ _ n (returns-else-len-self-clause-gone c) s

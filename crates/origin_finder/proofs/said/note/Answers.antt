use Rattle.std.proofs.Common.{rules, ◌≡◌, ◌∙◌, ◌+◌, ◌-◌, ◌++◌, ◌∷◌, [], ℕ, List, ap, append_assoc, arith, drop, get_or, pos, sym}
use Rattle.std.proofs.lemmas.List.{append-nil, drop_all, drop_more}
use Rattle.tuple_edge.specs.declared.row.Row.{Row}
use Rattle.origin_finder.specs.Said.{speaker_of, speakers_of}
use Rattle.origin_finder.specs.declared.said.Speaker.{Speaker}
use Rattle.origin_finder.proofs.said.note.Goals as goal

abbrev none : Row
none = record { time = pos 0; account = pos 0; symbol = pos 0; qty = pos 0; value = pos 0 }

pub loop-place-init : goal.loop-place-init
loop-place-init c =
    ap (λ (n : ℕ). c.args.said.now.items ++ speakers_of c.args.part c.args.spoke.now n (drop c.args.had c.args.out.now)) (let e : c.args.had - c.args.had ≡ 0 = omega arith in e)

pub loop-place-preserved : goal.loop-place-preserved
loop-place-preserved c =
    let part = c.args.part in
    let spoke = c.args.spoke.now in
    let out = c.args.out.now in
    let k = c.loop-place.place in
    let n = k - c.args.had in
    let a = get_or out k none in
    let s : Speaker = speaker_of part spoke n a in
    let had = c.loop-place.said.items in
    let rest = drop (k + 1) out in
    let next : n + 1 ≡ k + 1 - c.args.had = omega arith in
    let gave : c.push.new.self.items ≡ had ++ s ∷ [] = search rules in
    ap (λ (ss : List Speaker). ss ++ speakers_of part spoke (k + 1 - c.args.had) rest) gave
    ∙ (append_assoc had (s ∷ []) (speakers_of part spoke (k + 1 - c.args.had) rest)
    ∙ (ap (λ (m : ℕ). had ++ s ∷ speakers_of part spoke m rest) (sym next)
    ∙ (ap (λ (rs : List Row). had ++ speakers_of part spoke n rs) (sym (drop_more out k none c.loop-place-test.true)) ∙ c.loop-place.invariant)))

pub returns : goal.returns
returns c =
    let had = c.loop-place.said.items in
    let k = c.loop-place.place in
    sym (append-nil had)
    ∙ (ap (λ (rs : List Row). had ++ speakers_of c.args.part c.args.spoke.now (k - c.args.had) rs) (sym (drop_all k c.args.out.now c.loop-place-test.false)) ∙ c.loop-place.invariant)

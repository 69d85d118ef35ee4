use Rattle.std.proofs.Common.{◌≡◌, ◌∙◌, ◌++◌, ◌∷◌, ◌+◌, ◌≤◌, [], drop, length, sym, ap, arith}
use Rattle.std.specs.List.{range_with_len}
use Rattle.std.proofs.lemmas.Bool.{eq-eqb, eqb-true}
use Rattle.std.proofs.lemmas.List.{append-nil, at_drop_all}
use Rattle.tuple_edge.specs.declared.packet.Entry.TheVariants as entry
use Rattle.catch_up.specs.Rebuild.{lows_in}
use Rattle.catch_up.proofs.Lows.{as_many, comes_next, low_at, one_more_before}
use Rattle.catch_up.proofs.rebuild.tell_lows.Goals as goal

pub returns-then-from-told : goal.returns-then-from-told
returns-then-from-told c =
    let i = c.loop-entry.entry-index in
    let told = c.loop-entry.told in
    let here : lows_in (drop i c.args.entries.now) ≡ c.in-Low.edge ∷ lows_in (drop (i + 1) c.args.entries.now) =
    low_at c.args.entries.now i c.in-Low.edge c.in-Low.upto c.in-Low.produced (entry.Mark 0 0) c.loop-entry-test.true c.in-Low.is in (
      λ no. let z : ⊥ = cc no in absurd z,
      λ all.
          let next : c.in-Low.edge ≡ 0 + told =
          comes_next 0 told c.args.edges c.in-Low.edge (lows_in (drop (i + 1) c.args.entries.now)) (ap (λ xs. range_with_len 0 told ++ xs) (sym here) ∙ c.loop-entry.invariant.rest ∙ all) in
          absurd (c.if-from-told.true (omega (arith, c.from.ensures, next))),
    )

pub loop-entry-preserved : goal.loop-entry-preserved
loop-entry-preserved c =
    let i = c.loop-entry.entry-index in
    let told = c.loop-entry.told in
    let here : lows_in (drop i c.args.entries.now) ≡ c.in-Low.edge ∷ lows_in (drop (i + 1) c.args.entries.now) =
    low_at c.args.entries.now i c.in-Low.edge c.in-Low.upto c.in-Low.produced (entry.Mark 0 0) c.loop-entry-test.true c.in-Low.is in
    let edge : told ≡ c.in-Low.edge = sym c.if-from-told.false ∙ c.from.ensures in record {
      rest =
          one_more_before told (lows_in (drop (i + 1) c.args.entries.now))
          ∙ ap (λ xs. range_with_len 0 told ++ xs) (ap (λ t. t ∷ lows_in (drop (i + 1) c.args.entries.now)) edge ∙ sym here) ∙ c.loop-entry.invariant.rest;
      few = omega (arith, c.loop-entry.invariant.few);
    }

pub returns : goal.returns
returns c =
    let i = c.loop-entry.entry-index in
    let told = c.loop-entry.told in
    let past : length c.args.entries.now ≤ i = omega (arith, c.loop-entry-test.false) in
    let none : lows_in (drop i c.args.entries.now) ≡ [] = at_drop_all lows_in c.args.entries.now i past in
    let whole : range_with_len 0 told ≡ lows_in c.args.entries.now =
    sym (append-nil (range_with_len 0 told)) ∙ ap (λ xs. range_with_len 0 told ++ xs) (sym none) ∙ c.loop-entry.invariant.rest in (
      λ same. sym whole ∙ ap (range_with_len 0) (eqb-true told c.from-2.result same ∙ c.from-2.ensures),
      λ all. eq-eqb told c.from-2.result (as_many 0 told c.args.edges (whole ∙ all) ∙ sym c.from-2.ensures),
    )

-- Inputs that come one by one, and those of trades, which all come before the end.
use Rattle.std.proofs.Common.{◌≡◌, ◌∙◌, ◌+◌, ◌≤◌, ◌<◌, ℕ, zero, suc, Bool, true, false, List, [], ◌∷◌, ◌++◌, Some, add-one, append-nil, ap, arith, length, refl, subst, sym, take}
use Rattle.std.specs.Prelude.{◌↔◌, All, IsTrue, pos, slice_get}
use Rattle.std.proofs.lemmas.List.{length-append, length-take-le, take_all}
use Rattle.std.proofs.lemmas.Option.{get_or_from_slice_get}
use Rattle.std.proofs.lemmas.List.Elements.{All-get_or, All-weaker}
use Rattle.pair_machine.specs.Numbers.{Node}
use Rattle.plan_reader.specs.PlanView.{PlanView}
use Rattle.stream_ops.specs.Times.{IsTime}
use Rattle.trade_text.proofs.Sources.{each_row}
use Rattle.trade_text.specs.TradesView.{IsInputRow, IsTrades, TradesView, inputs_in, paired}
use Rattle.tuple_edge.specs.Input.{Input}
use Rattle.tuple_edge.specs.declared.row.Row.{Row}
use Rattle.ingress_egress.specs.IngressStands.{AreCome, IsOfPlan, StandsFor}
use Rattle.ingress_egress.specs.IngressView.{IngressView, MayFeed, fed}

-- ---- trades

paired_many : (rows : List Row) (sources : List ℕ) → length (paired rows sources) ≡ length rows
paired_many [] sources = refl
paired_many (r ∷ rows) [] = ap suc (paired_many rows [])
paired_many (r ∷ rows) (s ∷ sources) = ap suc (paired_many rows sources)

-- there are as many inputs as rows
pub as_many : (trades : TradesView) → length (inputs_in trades) ≡ length trades.rows
as_many trades = paired_many trades.rows trades.sources

timely_row : (r : Row) → IsInputRow r → IsTime r.time
timely_row r limits = (limits.time.low, limits.time.high)

-- the time of each input is within its limits
pub timely : (trades : TradesView) → IsTrades trades → All (λ (input : Input). IsTime input.row.time) (inputs_in trades)
timely trades is = each_row (λ r. IsTime r.time) trades.rows trades.sources (All-weaker IsInputRow (λ r. IsTime r.time) timely_row trades.rows is.rows)

-- the first so many and the next one
pub take_more : {X : Type 0} (xs : List X) (n : ℕ) (x : X) → slice_get xs n ≡ Some x → take (suc n) xs ≡ take n xs ++ x ∷ []
take_more [] n x at = let z : ⊥ = cc at in absurd z
take_more (y ∷ xs) zero x at = let same : y ≡ x = cc at in ap (λ z. z ∷ []) same
take_more (y ∷ xs) (suc n) x at = ap (λ zs. y ∷ zs) (take_more xs n x at)

-- all of them
pub all_come : (trades : TradesView) (n : ℕ) → length trades.rows ≤ n → take n (inputs_in trades) ≡ inputs_in trades
all_come trades n all = let many = as_many trades in take_all n (inputs_in trades) (omega arith)

-- one more of them comes
pub comes_next : (trades : TradesView) → IsTrades trades → (n : ℕ) → n < length trades.rows → (old here new : IngressView) → here ≡ record old { inputs = take n (inputs_in trades) } → old.ended ≡ false
    → (input : Input) → slice_get (inputs_in trades) n ≡ Some input → (taken : Bool) → IsTrue taken ↔ MayFeed here input → (IsTrue taken → new ≡ fed here input)
    → new ≡ record old { inputs = take (n + 1) (inputs_in trades) }
comes_next trades is n within old here new before still input at taken takes came =
    let many = as_many trades in
    let few = is.few_rows in
    let before_many : length here.inputs ≡ length (take n (inputs_in trades)) = ap (λ (i : IngressView). length i.inputs) before in
    let so_many : length (take n (inputs_in trades)) ≡ n = length-take-le n (inputs_in trades) (omega arith) in
    let may : MayFeed here input = record {
      open_yet = ap (λ (i : IngressView). i.ended) before ∙ still;
      time = subst (λ (x : Input). IsTime x.row.time) (get_or_from_slice_get (inputs_in trades) n input input at)
          (All-get_or (λ (x : Input). IsTime x.row.time) (inputs_in trades) n input (omega arith) (timely trades is));
      few = omega arith;
    } in
    came (takes.1 may) ∙ ap (λ i. fed i input) before ∙ ap (λ xs. record old { inputs = xs }) (sym (ap (λ k. take k (inputs_in trades)) (add-one n) ∙ take_more (inputs_in trades) n input at))

-- ---- what changes where inputs come

-- ingress with other inputs stands for the same numbers, of each list of inputs that they may begin
pub come_stands : (plan : PlanView) (inputs came : List Input) (ended : Bool) (i : IngressView) (n : Node) → AreCome ended came inputs → StandsFor plan inputs i n
    → StandsFor plan inputs (record i { inputs = came; ended = ended }) n
come_stands plan inputs came ended i n may s = record {
  inputs = may;
  first = s.first;
  mark = s.mark;
  makes = s.makes;
  sources = s.sources;
  producers = s.producers;
}

pub come_of_plan : (plan : PlanView) (came : List Input) (ended : Bool) (i : IngressView) → IsOfPlan plan i → IsOfPlan plan (record i { inputs = came; ended = ended })
come_of_plan plan came ended i is = record { first = is.first; sources = is.sources }

-- those that came and are all begin the same lists as they did before
pub end_admits : (ended : Bool) (came inputs : List Input) → came ≡ inputs → AreCome ended came inputs
end_admits true came inputs same = same
end_admits false came inputs same = ([], append-nil came ∙ same)

-- ---- one list alone

some_input : Input
some_input = record { source = 0; row = record { time = pos 0; account = pos 0; symbol = pos 0; qty = pos 0; value = pos 0 } }

-- where nothing but these may be the inputs, they came, and are all
pub came_whole : (ended : Bool) (came these : List Input) → ((inputs : List Input) → AreCome ended came inputs → inputs ≡ these) → (ended ≡ true) × (came ≡ these)
came_whole true came these only = (refl, only came refl)
came_whole false came these only =
    let same = ap length (only came ([], append-nil came)) in
    let more = ap length (only (came ++ some_input ∷ []) (some_input ∷ [], refl)) in
    let many = length-append came (some_input ∷ []) in
    absurd (omega (arith, same, more, many))

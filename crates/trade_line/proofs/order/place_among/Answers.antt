use Rattle.std.proofs.Common.{◌≡◌, ◌≤◌, ◌+◌, ◌∙◌, List, ap, arith, drop, length, sym}
use Rattle.tuple_edge.specs.Input.{Input}
use Rattle.trade_text.specs.TradesView.{inputs_in}
use Rattle.trade_line.specs.Order.{is_trade_of, place_behind}
use Rattle.trade_line.proofs.Places.{as_many, none_left, of_some, one_found, one_on, there}
use Rattle.trade_line.proofs.order.place_among.Goals as goal

pub loop-place-preserved : goal.loop-place-preserved
loop-place-preserved c =
    let inputs = inputs_in c.args.inputs.now in
    let time = c.args.spot.now.time in
    let k = c.loop-place.place in
    let left = c.loop-place.left in
    let t = there inputs k (omega (arith, c.loop-place-test.true, ap length c.rows-count.ensures.rows, as_many c.args.inputs.now)) in
    sym (one_on time t.0 (drop (k + 1) inputs) k left c.left_behind-left.result c.is_trade_of-here.result (c.is_trade_of-here.ensures ∙ ap (is_trade_of time) (of_some c.input.result t.0 (sym c.input.ensures ∙ t.1))) (sym c.is_last-found.ensures ∙ c.if-found.false) c.left_behind-left.ensures)
    ∙ (ap (λ (is : List Input). k + place_behind time left is) (sym t.2) ∙ c.loop-place.invariant)

pub returns-then-found : goal.returns-then-found
returns-then-found c =
    let inputs = inputs_in c.args.inputs.now in
    let time = c.args.spot.now.time in
    let k = c.loop-place.place in
    let left = c.loop-place.left in
    let t = there inputs k (omega (arith, c.loop-place-test.true, ap length c.rows-count.ensures.rows, as_many c.args.inputs.now)) in
    sym (one_found time t.0 (drop (k + 1) inputs) k left c.is_trade_of-here.result (c.is_trade_of-here.ensures ∙ ap (is_trade_of time) (of_some c.input.result t.0 (sym c.input.ensures ∙ t.1))) (sym c.is_last-found.ensures ∙ c.if-found.true))
    ∙ (ap (λ (is : List Input). k + place_behind time left is) (sym t.2) ∙ c.loop-place.invariant)

pub returns : goal.returns
returns c =
    let inputs = inputs_in c.args.inputs.now in
    let time = c.args.spot.now.time in
    let k = c.loop-place.place in
    let left = c.loop-place.left in
    let past : length inputs ≤ k = omega (arith, c.loop-place-test.false, ap length c.rows-count.ensures.rows, as_many c.args.inputs.now) in
    let end : length inputs ≡ k + place_behind time left (drop k inputs) =
    omega (arith, past, ap (λ (is : List Input). place_behind time left is) (none_left inputs k past), c.loop-place-test.false, c.loop-place.auto.place-end, ap length c.rows-count.ensures.rows, as_many c.args.inputs.now) in
    (let count : length c.rows-count.result.now ≡ length inputs = omega (arith, ap length c.rows-count.ensures.rows, as_many c.args.inputs.now) in count) ∙ (end ∙ c.loop-place.invariant)

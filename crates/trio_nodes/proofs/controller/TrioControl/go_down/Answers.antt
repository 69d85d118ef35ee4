use Rattle.std.proofs.Common.{◌≡◌, ◌<◌, ◌∙◌, false, length, ap, sym, arith}
use Rattle.pair_machine.specs.Consumers.{first_below}
use Rattle.trio_machine.specs.Numbers.{group_size}
use Rattle.trio_nodes.specs.ControllerView.{ControllerView, TrioWatchedView, unheard, watched_in}
use Rattle.trio_nodes.proofs.Hearing.{at_place, changed, led_here, not_led_here}
use Rattle.trio_nodes.proofs.controller.TrioControl.go_down.Goals as goal

pub returns-then-led-clause-does : goal.returns-then-led-clause-does
returns-then-led-clause-does c =
    let v : ControllerView = record {
      stage = c.self.inside.stage;
      part = c.self.inside.part;
      watched = c.self.inside.watched.items;
      acked = c.self.inside.acked.items;
      term = c.self.inside.term;
      leader = c.self.inside.leader;
    } in
    let there : c.args.copy < length v.watched = let three = c.self.invariant.three in let copy = c.requires.copy in omega arith in
    let seen : c.index_mut.result.now ≡ watched_in v.watched c.args.copy = c.index_mut.ensures.value ∙ at_place v.watched c.args.copy c.index_mut.result.now (unheard 0) there in
    let down : c.go_down.new.self ≡ record (watched_in v.watched c.args.copy) { up = false } = c.go_down.ensures ∙ ap (λ (w : TrioWatchedView). record w { up = false }) seen in
    led_here _ v _ c.args.copy c.self.view_is there _ c.args.out.now _ c.lowest_up-self-inside.result
    (sym c.eq-led.ensures ∙ c.if-led.true)
    (λ i. record (changed v c.args.copy (down i)) { leader = c.lowest_up-self-inside.result })
    (c.lowest_up-self-inside.ensures.value ∙ ap (λ ws. first_below (λ d. (watched_in ws d).up) group_size) c.deref.ensures.value)
    c.name_leader.ensures.does

pub returns-else-led-clause-does : goal.returns-else-led-clause-does
returns-else-led-clause-does c =
    let v : ControllerView = record {
      stage = c.self.inside.stage;
      part = c.self.inside.part;
      watched = c.self.inside.watched.items;
      acked = c.self.inside.acked.items;
      term = c.self.inside.term;
      leader = c.self.inside.leader;
    } in
    let there : c.args.copy < length v.watched = let three = c.self.invariant.three in let copy = c.requires.copy in omega arith in
    let seen : c.index_mut.result.now ≡ watched_in v.watched c.args.copy = c.index_mut.ensures.value ∙ at_place v.watched c.args.copy c.index_mut.result.now (unheard 0) there in
    let down : c.go_down.new.self ≡ record (watched_in v.watched c.args.copy) { up = false } = c.go_down.ensures ∙ ap (λ (w : TrioWatchedView). record w { up = false }) seen in
    not_led_here _ v _ c.args.copy c.self.view_is there c.args.out.now (sym c.eq-led.ensures ∙ c.if-led.false) (ap (changed v c.args.copy) down)

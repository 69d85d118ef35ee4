use Rattle.std.proofs.Common.{◌≡◌, ◌∙◌, ◌<◌, ℕ, List, Some, ap, length, subst, sym}
use Rattle.std.specs.Prelude.{slice_get, slice_index_or, slice_set}
use Rattle.flux_link.specs.Arrivals.{WasSent}
use Rattle.pair_machine.specs.Lists.{Each}
use Rattle.run_node.specs.Ends.{InEndView, InLink, emitted_to, links_in}
use Rattle.run_node.specs.FirstLinks.{identity_to}
use Rattle.run_node.specs.NodeView.{NodeView, out_names}
use Rattle.run_node.specs.SoundNode.{IsSoundNode}
use Rattle.run_node.proofs.Places.{get_there, map_get, map_set_by, within_map}
use Rattle.run_node.proofs.node.Node.settle.Goals as goal

-- the end that stands at a place of the ends, where there is one in the list of links
stands_at : (ends : List InEndView) (place : ℕ) (end : InEndView) → place < length (links_in ends) → end ≡ slice_index_or ends place end → slice_get ends place ≡ Some end
stands_at ends place end lt value = get_there ends place end (within_map (λ (e : InEndView). e.link) ends place lt) ∙ ap Some (sym value)

-- the links stay where an end was replaced by one of the same link
same_links : (ends : List InEndView) (place : ℕ) (end new : InEndView) → slice_get ends place ≡ Some end → new.link ≡ end.link → links_in (slice_set ends place new) ≡ links_in ends
same_links ends place end new at same = map_set_by (λ (e : InEndView). e.link) ends place end new at same

pub settle_to-requires-after_bounds : goal.settle_to-requires-after_bounds
settle_to-requires-after_bounds g c κs within =
    let n = c.self.inside in
    let s = c.sender.inside in
    let end = c.index_mut.result.now in
    let lt = subst (λ (v : NodeView _ _). c.args.inlet < length v.ins) (sym c.self.view_is) c.requires.inlet in
    let at = stands_at n.ins.items c.args.inlet end lt c.index_mut.ensures.value in
    let here = subst (λ (v : NodeView _ _). (l : InLink) → slice_get v.ins c.args.inlet ≡ Some l → identity_to (out_names c.args.sender.now.outs) (g.A.Acts.id v.state) ≡ Some l.identity) (sym c.self.view_is) c.requires.link in
    let both = subst (λ (w : NodeView _ _). (l : InLink) → slice_get (links_in n.ins.items) c.args.inlet ≡ Some l → identity_to (out_names w.outs) (g.A.Acts.id n.state) ≡ Some l.identity) (sym c.sender.view_is) here in
    subst (λ me. identity_to (out_names s.outs.links) me ≡ Some end.link.identity) (sym c.id-me.ensures) (both end.link (map_get (λ (e : InEndView). e.link) n.ins.items c.args.inlet end at))

pub invariant_of-self : goal.invariant_of-self
invariant_of-self g c =
    let n = c.self.inside in
    let end = c.index_mut.result.now in
    let lt = subst (λ (v : NodeView _ _). c.args.inlet < length v.ins) (sym c.self.view_is) c.requires.inlet in
    let at = stands_at n.ins.items c.args.inlet end lt c.index_mut.ensures.value in
    let same = same_links n.ins.items c.args.inlet end c.settle_to.new.end at c.settle_to.ensures.same.1 in
    record {
      unsent = c.self.invariant.unsent;
      gave = c.self.invariant.gave;
      sound = λ inputs may timely. subst (λ (l : List InLink). IsSoundNode g.A.Acts.id g.A.Acts.of_plan g.A.Acts.stands g.N.RunNames.plan inputs g.N.RunNames.script n.state l n.outs.links n.clock n.fired (g.K.Keeps.kept n.history).entries) (sym same) (c.self.invariant.sound inputs may timely);
      own = c.self.invariant.own;
    }

pub returns-clause-same : goal.returns-clause-same
returns-clause-same g c =
    let n = c.self.inside in
    let s = c.sender.inside in
    let end = c.index_mut.result.now in
    let lt = subst (λ (v : NodeView _ _). c.args.inlet < length v.ins) (sym c.self.view_is) c.requires.inlet in
    let at = stands_at n.ins.items c.args.inlet end lt c.index_mut.ensures.value in
    let same = same_links n.ins.items c.args.inlet end c.settle_to.new.end at c.settle_to.ensures.same.1 in
    let outs = c.settle_to.ensures.same.0 in
    let receiver : ◌≡◌ {A = NodeView _ _} (record { state = n.state; ins = links_in (slice_set n.ins.items c.args.inlet c.settle_to.new.end); outs = n.outs.links; history = (g.K.Keeps.kept n.history).entries; tap = n.tap }) (record { state = n.state; ins = links_in n.ins.items; outs = n.outs.links; history = (g.K.Keeps.kept n.history).entries; tap = n.tap }) =
    (λ i. record { state = n.state; ins = same i; outs = n.outs.links; history = (g.K.Keeps.kept n.history).entries; tap = n.tap }) in
    let sender : ◌≡◌ {A = NodeView _ _} (record { state = s.state; ins = links_in s.ins.items; outs = c.settle_to.new.outs.links; history = (g.K.Keeps.kept s.history).entries; tap = s.tap }) (record { state = s.state; ins = links_in s.ins.items; outs = s.outs.links; history = (g.K.Keeps.kept s.history).entries; tap = s.tap }) =
    (λ i. record { state = s.state; ins = links_in s.ins.items; outs = (outs i).links; history = (g.K.Keeps.kept s.history).entries; tap = s.tap }) in
    (receiver ∙ c.self.view_is, sender ∙ c.sender.view_is)

pub returns-clause-settled : goal.returns-clause-settled
returns-clause-settled g c = λ l there.
    let n = c.self.inside in
    let s = c.sender.inside in
    let end = c.index_mut.result.now in
    let lt = subst (λ (v : NodeView _ _). c.args.inlet < length v.ins) (sym c.self.view_is) c.requires.inlet in
    let at = stands_at n.ins.items c.args.inlet end lt c.index_mut.ensures.value in
    let here = subst (λ (v : NodeView _ _). slice_get v.ins c.args.inlet ≡ Some l) (sym c.self.view_is) there in
    let some : Some end.link ≡ Some l = sym (map_get (λ (e : InEndView). e.link) n.ins.items c.args.inlet end at) ∙ here in
    let is : end.link ≡ l = cc some in
    let sent = subst (λ m. Each (WasSent (emitted_to s.outs.links m)) end.link.given) c.id-me.ensures c.settle_to.ensures.settled in
    let mine = subst (λ (v : NodeView _ _). Each (WasSent (emitted_to s.outs.links (g.A.Acts.id v.state))) end.link.given) c.self.view_is sent in
    let theirs = subst (λ (v : NodeView _ _). Each (WasSent (emitted_to v.outs (g.A.Acts.id c.args.self.now.state))) end.link.given) c.sender.view_is mine in
    subst (λ (k : InLink). Each (WasSent (emitted_to c.args.sender.now.outs (g.A.Acts.id c.args.self.now.state))) k.given) is theirs

use Rattle.std.proofs.Common.{◌≡◌, ◌∙◌, ◌≤◌, ◌<◌, ◌-◌, ℕ, Bool, true, false, List, None, Some, length, refl, ap, subst, sym, arith}
use Rattle.std.specs.Prelude.{Option, if◌then◌else◌, nat_le, slice_get, slice_index_or}
use Rattle.std.proofs.lemmas.List.{get_or_default}
use borrow.Author.Tests.{leb-false}
use Rattle.tuple_edge.specs.declared.item.Item.{Item}
use Rattle.ack_buffer.specs.Buffer.{BufferView, item_at}
use Rattle.ack_buffer.proofs.BufferLaws.{item_at-stands}
use Rattle.flux_producer.specs.Due.{due_of}
use Rattle.flux_producer.specs.OutEdge.{OutEdgeView, cursor_of, unused}
use Rattle.flux_producer.specs.ProducerView.{ProducerView, buffer_at, edge_at}
use Rattle.flux_producer.specs.declared.due.Due.{Due}
use Rattle.flux_producer.proofs.Dues.{due_of-least}
use Rattle.flux_producer.proofs.producer.Producer.send.Goals as goal

-- the edge on which an item is due
edge_due : (p : ProducerView) (edges : List OutEdgeView) (d : Due) (e : OutEdgeView) → due_of p ≡ Some d → edges ≡ p.edges → e ≡ slice_index_or edges d.to e → e ≡ edge_at p d.to
edge_due p edges d e due same at =
    at ∙ ap (λ es. slice_index_or es d.to e) same ∙ get_or_default p.edges d.to e unused (due_of-least p d due).waits.edge

-- it waits there
waits_due : (p : ProducerView) (d : Due) (e : OutEdgeView) → due_of p ≡ Some d → e ≡ edge_at p d.to → cursor_of e d.copy ≤ e.buffer.produced
waits_due p d e due at = subst (λ (k : OutEdgeView). cursor_of k d.copy ≤ k.buffer.produced) (sym at) (due_of-least p d due).waits.produced

-- what its replica gets next is the item that is due
item_due : (p : ProducerView) (d : Due) (e : OutEdgeView) (got : Option Item) → due_of p ≡ Some d → e ≡ edge_at p d.to → got ≡ item_at e.buffer (cursor_of e d.copy)
    → item_at (buffer_at p d.to) d.number ≡ got
item_due p d e got due at is =
    ap (item_at (buffer_at p d.to)) (due_of-least p d due).number ∙ ap (λ (k : OutEdgeView). item_at k.buffer (cursor_of k d.copy)) (sym at) ∙ sym is

-- where a buffer gives an item, its number is above low
above_by : (b : BufferView) (number : ℕ) (item : Item) (t : Bool) → nat_le number b.low ≡ t
    → (if t then None else slice_get b.items (number - b.low - 1)) ≡ Some item → b.low < number
above_by b number item true test found = let never : ⊥ = cc found in absurd never
above_by b number item false test found = leb-false _ _ test

above_low : (b : BufferView) (number : ℕ) (item : Item) → item_at b number ≡ Some item → b.low < number
above_low b number item found = above_by b number item (nat_le number b.low) refl found

pub index_mut-requires : goal.index_mut-requires
index_mut-requires c =
    let there = (due_of-least c.args.self.now c.args.due c.requires).waits.edge in
    let same = ap (λ (p : ProducerView). length p.edges) c.self.view_is in omega (arith, there, same)

pub send-requires : goal.send-requires
send-requires c =
    let there = (due_of-least c.args.self.now c.args.due c.requires).waits.copy in
    let same = ap (λ (p : ProducerView). p.copies) c.self.view_is in omega (arith, there, same, c.self.invariant.few)

pub unreachable-requires : goal.unreachable-requires
unreachable-requires c =
    let edge = edge_due c.args.self.now c.self.inside.edges.items c.args.due c.index_mut.result.now c.requires (ap (λ (p : ProducerView). p.edges) c.self.view_is) c.index_mut.ensures.value in
    let waits = waits_due c.args.self.now c.args.due c.index_mut.result.now c.requires edge in
    omega (arith, waits, c.in_default.ensures.none.1)

pub returns-clause-item : goal.returns-clause-item
returns-clause-item c =
    let edge = edge_due c.args.self.now c.self.inside.edges.items c.args.due c.index_mut.result.now c.requires (ap (λ (p : ProducerView). p.edges) c.self.view_is) c.index_mut.ensures.value in
    item_due c.args.self.now c.args.due c.index_mut.result.now c.send.result c.requires edge c.send.ensures.item ∙ c.in-Some.is

pub returns-clause-above : goal.returns-clause-above
returns-clause-above c =
    let edge = edge_due c.args.self.now c.self.inside.edges.items c.args.due c.index_mut.result.now c.requires (ap (λ (p : ProducerView). p.edges) c.self.view_is) c.index_mut.ensures.value in
    let item = item_due c.args.self.now c.args.due c.index_mut.result.now c.send.result c.requires edge c.send.ensures.item ∙ c.in-Some.is in
    above_low (buffer_at c.args.self.now c.args.due.to) c.args.due.number c.in-Some.item item

pub returns-clause-gives : goal.returns-clause-gives
returns-clause-gives c = λ all stands.
    let edge = edge_due c.args.self.now c.self.inside.edges.items c.args.due c.index_mut.result.now c.requires (ap (λ (p : ProducerView). p.edges) c.self.view_is) c.index_mut.ensures.value in
    let item = item_due c.args.self.now c.args.due c.index_mut.result.now c.send.result c.requires edge c.send.ensures.item ∙ c.in-Some.is in
    let above = above_low (buffer_at c.args.self.now c.args.due.to) c.args.due.number c.in-Some.item item in
    let there = (due_of-least c.args.self.now c.args.due c.requires).waits.edge in
    sym (item_at-stands (buffer_at c.args.self.now c.args.due.to) (all c.args.due.to) c.args.due.number (stands c.args.due.to there) above) ∙ item

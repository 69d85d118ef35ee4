use Rattle.std.proofs.Common.{◌≡◌, ◌+◌, drop}
use Rattle.std.specs.VecDeque.{deque_len, deque_capacity}
use Rattle.ack_buffer.proofs.buffer.let_go.Given as goal

abbrev pub invariant-loop-gone : goal.invariant-loop-gone
invariant-loop-gone l = record {
  items : l.items.items ≡ drop l._gone l.initial.items.items;
  len : deque_len l.items + l._gone ≡ deque_len l.initial.items;
  capacity : deque_capacity l.items ≡ deque_capacity l.initial.items;
}

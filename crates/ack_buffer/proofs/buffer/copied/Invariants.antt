use Rattle.std.proofs.Common.{◌≡◌, take}
use Rattle.std.specs.VecDeque.{deque_len, deque_capacity}
use Rattle.ack_buffer.proofs.buffer.copied.Given as goal

abbrev pub invariant-loop-place : goal.invariant-loop-place
invariant-loop-place l = record {
  items : l.copy.items ≡ take l.place l.items.items;
  len : deque_len l.copy ≡ l.place;
  capacity : deque_capacity l.copy ≡ l.capacity;
}

use Rattle.std.proofs.Common.{arith}
use Rattle.stream_reader.proofs.Telling.{follows_start}
use Rattle.stream_reader.proofs.stream_reader.StreamReader.new.Goals as goal

pub invariant_of-result : goal.invariant_of-result
invariant_of-result g c = record {
  within = (omega arith, omega arith);
  some = omega (arith, c.in_ok-vec.ensures.len);
  follows = λ goes_on. rw (c.new-2.ensures, c.new-3.ensures) (follows_start c.new.result.at (c.new.result.ready goes_on) c.new.ensures.told c.new.ensures.standing);
}

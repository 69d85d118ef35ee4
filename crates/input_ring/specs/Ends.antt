-- What contracts see of the two ends of a ring of inputs.
use Rattle.std.specs.Prelude.{List, Option, None, Some}
use Rattle.std.specs.declared.alloc.Global.{Global}
use Rattle.rtrb.specs.Ring.{received, sent}
use Rattle.rtrb.specs.Shared.{Names}
use Rattle.tuple_edge.specs.Input.{Input}
use Rattle.input_ring.specs.declared.sending.InputSender.{InputSender}
use Rattle.input_ring.specs.declared.source.InputSource.{InputSource}
use denote.RawPtr.{Ptr}

-- the memory of a ring, its ghost names and its heap: two ends that have them in common are the ends of one ring
pub record Ring : Type 0 where
  pub words : Ptr
  pub slots : Ptr
  pub names : Names
  pub heap : Global

-- a ring, or none
abbrev pub RingName : Type 0
RingName = Option Ring

-- no ring
abbrev pub no_ring : RingName
no_ring = None

-- the inputs that were sent
abbrev pub inputs_sent : InputSender → List Input
inputs_sent sender = sent sender.producer

-- the inputs that were given
abbrev pub inputs_given : InputSource → List Input
inputs_given source = received source.consumer

-- the ring that an end sends to
abbrev pub sends_to : InputSender → RingName
sends_to sender = let end = sender.producer.end in Some (record { words = end.words; slots = end.slots; names = end.names; heap = end.heap })

-- the ring that an end gives from
abbrev pub gives_from : InputSource → RingName
gives_from source = let end = source.consumer.end in Some (record { words = end.words; slots = end.slots; names = end.names; heap = end.heap })

-- What tells one link from another.
use Rattle.rtrb.specs.Shared.{Names}
use Rattle.std.specs.declared.alloc.Global.{Global}
use denote.RawPtr.{Ptr}

-- the memory of a ring, its ghost names and its heap: two ends that have them in common are the ends of one ring
pub record Identity : Type 0 where
  pub words : Ptr
  pub slots : Ptr
  pub names : Names
  pub heap : Global

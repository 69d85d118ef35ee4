-- What a producer is to send next.
use Rattle.std.specs.Prelude.{◌≡◌, ℕ, zero, suc, ◌<◌, ◌≤◌, length, Option, None, Some, nat_le, if◌then◌else◌}
use Rattle.flux_producer.specs.ProducerView.{ProducerView, buffer_at, cursor_at}
use Rattle.flux_producer.specs.declared.due.Due.{Due}

-- an item of an edge waits to be sent to a replica
pub record Waits (p : ProducerView) (t c : ℕ) : Type 0 where
  pub edge : t < length p.edges
  pub copy : c < p.copies
  pub produced : cursor_at p t c ≤ (buffer_at p t).produced

-- nothing waits
abbrev pub NoneWaits : ProducerView → Type 0
NoneWaits p = (t c : ℕ) → Waits p t c → ⊥

-- d is, or comes before, the item of that number to a replica of a target: by number, then target, then replica
pub record IsNoLater (d : Due) (number t c : ℕ) : Type 0 where
  pub by_number : d.number ≤ number
  pub by_target : d.number ≡ number → d.to ≤ t
  pub by_copy : d.number ≡ number → d.to ≡ t → d.copy ≤ c

-- d is the first of all that waits
pub record IsLeast (p : ProducerView) (d : Due) : Type 0 where
  pub waits : Waits p d.to d.copy
  pub number : d.number ≡ cursor_at p d.to d.copy
  pub first : (t c : ℕ) → Waits p t c → IsNoLater d (cursor_at p t c) t c

-- the same as a function: -----------------------------------------------------

-- the one of the lesser number, and of two with one number the former
abbrev pub sooner : Option Due → Option Due → Option Due
sooner None e = e
sooner (Some d) None = Some d
sooner (Some d) (Some e) = if nat_le d.number e.number then Some d else Some e

-- the soonest of the first n
abbrev pub soonest_below : (ℕ → Option Due) → ℕ → Option Due
soonest_below due zero = None
soonest_below due (suc n) = sooner (soonest_below due n) (due n)

-- what is due to a replica of a target
abbrev pub due_at : ProducerView → ℕ → ℕ → Option Due
due_at p t c = if nat_le (cursor_at p t c) (buffer_at p t).produced then Some (record { to = t; copy = c; number = cursor_at p t c }) else None

-- what is due to a target
abbrev pub due_to : ProducerView → ℕ → Option Due
due_to p t = soonest_below (due_at p t) p.copies

-- what is due: nothing where it doesn't lead
abbrev pub due_of : ProducerView → Option Due
due_of p = if p.leads then soonest_below (due_to p) (length p.edges) else None

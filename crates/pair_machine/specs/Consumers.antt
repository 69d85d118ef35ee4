-- What a consumer does, in numbers: it takes an item of an edge, merges the next one, and tells its marks. A replica that runs and
-- egress are consumers.
use Rattle.std.specs.Prelude.{ℕ, zero, suc, Bool, true, Option, None, Some, ◌+◌, ◌==◌, ◌&&◌, if◌then◌else◌, nat_lt}
use Rattle.std.specs.Option.{option_or}
use Rattle.pair_machine.specs.Numbers.{Consumer, Partition}
use Rattle.pair_machine.specs.Flow.{Flow}

-- ---- searches among the numbers below a bound

-- whether a test holds of each number below n
abbrev pub all_below : ℕ → (ℕ → Bool) → Bool
all_below zero test = true
all_below (suc n) test = all_below n test && test n

-- the first number below n of which a test holds
abbrev pub first_below : (ℕ → Bool) → ℕ → Option ℕ
first_below test zero = None
first_below test (suc n) = option_or (first_below test n) (if test n then Some n else None)

-- numbers of edges, with another number for edge k
abbrev pub with_at : (ℕ → ℕ) → ℕ → ℕ → ℕ → ℕ
with_at f k v j = if j == k then v else f j

-- ---- consumers

-- the merge is ready: of each in-edge an item was taken that is not merged yet
abbrev pub is_ready : Flow → Partition → Consumer → Bool
is_ready f p c = all_below (f.sources p.stage) (λ q. nat_lt (f.used p q c.count) (c.marks q))

-- the next item is merged
abbrev pub merged_one : Consumer → Consumer
merged_one c = record c { count = c.count + 1 }

-- item n of in-edge q is offered: it is taken where it is the next one
abbrev pub offered : Consumer → ℕ → ℕ → Consumer
offered c q n = if n == c.marks q + 1 then record c { marks = with_at c.marks q n } else c

-- the next item of in-edge q is taken
abbrev pub pulled : Consumer → ℕ → Consumer
pulled c q = record c { marks = with_at c.marks q (c.marks q + 1) }

-- the first in-edge whose mark is above what was told
abbrev pub untold : Flow → Partition → Consumer → Option ℕ
untold f p c = first_below (λ q. nat_lt (c.told q) (c.marks q)) (f.sources p.stage)

-- the mark of in-edge q is told
abbrev pub telling : Consumer → ℕ → Consumer
telling c q = record c { told = with_at c.told q (c.marks q) }

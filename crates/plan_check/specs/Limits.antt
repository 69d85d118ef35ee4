-- From where on partitions wait long.
use Rattle.std.specs.Prelude.{ℕ}

-- The greatest mark under which partitions don't wait long. A row of the largest plan, of 344 edges, has less than one mark to go with it then, so that a longer
-- one saves hardly any.
abbrev pub long_mark : ℕ
long_mark = 512

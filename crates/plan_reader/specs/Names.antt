-- The names of nodes.
use Rattle.std.specs.Prelude.{ℕ, ◌+◌, ◌==◌, Option, Some, None, codes, drop, length, nat_le, option_and_then, position, take, if◌then◌else◌}
use Rattle.std.specs.Option.{option_map}
use Rattle.std.specs.Str.{bytes_eq}
use Rattle.tuple_edge.specs.declared.node.NodeId.{NodeId}
use Rattle.tuple_edge.specs.declared.node.NodeId.TheVariants as node
use Rattle.tuple_edge.specs.declared.node.Which.TheVariants as which
use Rattle.text_words.specs.Lines.{Word}
use Rattle.text_words.specs.Numbers.{number_of}
use Rattle.plan_reader.specs.Limits.{max_name_digits}

infixl 10 ◌>>=◌
-- what follows from a value, if there is one
abbrev pub ◌>>=◌ : {A B : Type 0} → Option A → (A → Option B) → Option B
found >>= f = option_and_then f found

-- what stands before and behind the first such byte of a word
unfoldable pub cut_at : ℕ → Word → Option (Word × Word)
cut_at mark word = option_map (λ place. (take place word, drop (place + 1) word)) (position (λ b. b == mark) word)

-- the stage or partition that a word names
unfoldable pub place_named : Word → Option ℕ
place_named word = if nat_le (length word) max_name_digits then number_of word else None

-- a node of the pair that runs this partition of this stage
abbrev pub member_named : ℕ → ℕ → Word → Option NodeId
member_named stage part letter =
    if bytes_eq letter (codes "a") then Some (node.Replica stage part which.A)
    else if bytes_eq letter (codes "b") then Some (node.Replica stage part which.B)
    else if bytes_eq letter (codes "c") then Some (node.Control stage part)
    else None

-- the replica or controller named by a stage, a partition and a letter, with points between them
unfoldable pub pair_node_named : Word → Option NodeId
pair_node_named word = do
  by_stage ← cut_at 46 word
  by_part ← cut_at 46 by_stage.1
  stage ← place_named by_stage.0
  part ← place_named by_part.0
  member_named stage part by_part.1

-- the node that a word names
unfoldable pub node_named : Word → Option NodeId
node_named word =
    if bytes_eq word (codes "in") then Some node.Ingress
    else if bytes_eq word (codes "out") then Some node.Egress
    else pair_node_named word

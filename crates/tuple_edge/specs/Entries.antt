-- Lists of entries: how the list of a move is put together.
use Rattle.std.specs.Prelude.{ℕ, zero, suc, ◌+◌, List, [], ◌∷◌, ◌++◌}
use Rattle.tuple_edge.specs.declared.item.Item.{Item}
use Rattle.tuple_edge.specs.declared.packet.Entry.{Entry}

-- the lists of the numbers below n, one after another
abbrev pub each_below : ℕ → (ℕ → List Entry) → List Entry
each_below zero f = []
each_below (suc n) f = each_below n f ++ f n

-- items as entries, numbered on from n
abbrev pub numbered : (ℕ → Item → Entry) → ℕ → List Item → List Entry
numbered f n [] = []
numbered f n (x ∷ xs) = f (n + 1) x ∷ numbered f (n + 1) xs

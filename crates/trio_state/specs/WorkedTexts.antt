-- The texts of the groups of some states, worked by hand: lists of events on a small plan, and the lines of the state that each one reaches.
use Rattle.std.specs.Prelude.{ℕ, ◌≡◌, List, [], ◌∷◌, ◌++◌, codes}
use Rattle.std.specs.List.{flat_map}
use Rattle.trio_machine.specs.WorkedRows.{After, kill, one_stage, replica, control, take, two_fail, two_stages}
use Rattle.trio_state.specs.GroupsText.{groups_text}

-- lines, each of which ends in LF
abbrev pub lines : List (List ℕ) → List ℕ
lines texts = flat_map (λ line. line ++ codes "\n") texts

-- each of these lists of events ends in a state whose groups have this text
pub record WorkedTexts : Type 0 where
  -- each group of a plan of two stages opens with its first replica as its leader
  pub opens : After (two_stages 1) [] (λ s. groups_text (two_stages 1) s ≡ lines (
      codes "1.0.c term=1 lead=0"
      ∷ codes "1.0.0 running count=0"
      ∷ codes "1.0.1 running count=0"
      ∷ codes "1.0.2 running count=0"
      ∷ codes "2.0.c term=1 lead=0"
      ∷ codes "2.0.0 running count=0"
      ∷ codes "2.0.1 running count=0"
      ∷ codes "2.0.2 running count=0"
      ∷ []))
  -- two replicas fail after three trades, and the third leads
  pub third_leads : After (one_stage 3) two_fail (λ s. groups_text (one_stage 3) s ≡ lines (
      codes "1.0.c term=3 lead=2"
      ∷ codes "1.0.0 gone"
      ∷ codes "1.0.1 gone"
      ∷ codes "1.0.2 running count=3"
      ∷ []))
  -- the third fails too, and its controller hears of it
  pub none_leads : After (one_stage 3) (two_fail ++ kill (replica 1 2) ++ take (replica 1 2) (control 1) 1) (λ s. groups_text (one_stage 3) s ≡ lines (
      codes "1.0.c term=3 lead=none"
      ∷ codes "1.0.0 gone"
      ∷ codes "1.0.1 gone"
      ∷ codes "1.0.2 gone"
      ∷ []))

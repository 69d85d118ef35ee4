-- The lines of warnings.
use Rattle.std.specs.Prelude.{ℕ, Bool, List, ◌++◌, codes, if◌then◌else◌}
use Rattle.std.specs.Fmt.{decimal}
use Rattle.plan_reader.specs.Text.{column_name}
use Rattle.plan_check.specs.Words.{order_text, stage_text}
use Rattle.plan_check.specs.declared.warning.Numbered.{Numbered}
use Rattle.plan_check.specs.declared.warning.Warning.{Warning}
use Rattle.plan_check.specs.declared.warning.Warning.TheVariants as warning

-- what isn't done for want of a partner
abbrev pub alone_text : Bool → List ℕ
alone_text back = if back then codes "isn't asked back" else codes "isn't stopped until its partner is up again"

-- the partitions of a stage, and by which column rows go to them
abbrev pub partitions_of : Numbered → List ℕ
partitions_of s = codes "of the " ++ decimal s.stage.parts ++ codes " partitions by " ++ column_name s.stage.by ++ codes " of " ++ stage_text s

-- what is hardly meant
abbrev pub warned : Warning → List ℕ
warned (warning.LongMark mark) = codes "mark " ++ decimal mark ++ codes ": a partition to which no row comes on some edge waits for up to so many rows"
warned (warning.ShortHold hold) = codes "hold " ++ decimal hold ++ codes ": ingress stops once an edge holds so many items, and partitions wait for its next turn"
warned (warning.SplitKeys s) =
    stage_text s ++ codes ": the key doesn't hold " ++ column_name s.stage.by ++ codes ", by which rows go to " ++ decimal s.stage.parts
    ++ codes " partitions; rows of one key come to several partitions, and each sums for itself"
warned (warning.SumsOfSums s sums) = stage_text s ++ codes ": it adds up rows that are sums already, those of " ++ stage_text sums
warned (warning.TimeOrder s window) =
    stage_text s ++ codes ": it adds up rows of several keys of " ++ stage_text window ++ codes ", and they come in the order in which its windows close, not in that of their times"
warned (warning.PartOrder s dealt) =
    stage_text s ++ codes ": rows of one key come from several " ++ partitions_of dealt ++ codes "; at the end they come partition by partition, so what it tells depends on their number"
warned (warning.LeavingOrder dealt) =
    codes "rows of one key leave the plan from several " ++ partitions_of dealt ++ codes "; at the end they come partition by partition, so their order depends on their number"
warned (warning.Unsafe first second) = codes "the script isn't safe, as " ++ order_text first ++ codes " and " ++ order_text second ++ codes " are of one pair; it may be lost"
warned (warning.Alone o back items partner) =
    order_text o ++ codes ": by " ++ order_text partner ++ codes " its partner may be down after " ++ decimal items ++ codes " items, and then it " ++ alone_text back

-- the line of a warning
abbrev pub warning_line : Warning → List ℕ
warning_line w = codes "Warning: " ++ warned w ++ codes ".\n"

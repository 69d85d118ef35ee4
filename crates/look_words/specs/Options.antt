-- The options that each command has.
use Rattle.std.specs.Prelude.{Option, Some, None, codes, if◌then◌else◌}
use Rattle.std.specs.Str.{bytes_eq}
use Rattle.command_line.specs.Words.{Text}
use Rattle.look_words.specs.declared.kind.Flag.TheVariants.{All, Check, Json, Only, Svg}
use Rattle.look_words.specs.declared.kind.OptionKind.{OptionKind}
use Rattle.look_words.specs.declared.kind.OptionKind.TheVariants.{Alone, WithValue}
use Rattle.look_words.specs.declared.kind.Valued.TheVariants.{Cash, Picture, Rejects, Script, Threads, Turns}

-- `check`: `--cash C`, `--script S`, `--all`, `--json`
unfoldable pub check_option : Text → Option OptionKind
check_option name =
    if bytes_eq name (codes "cash") then Some (WithValue Cash)
    else if bytes_eq name (codes "script") then Some (WithValue Script)
    else if bytes_eq name (codes "all") then Some (Alone All)
    else if bytes_eq name (codes "json") then Some (Alone Json)
    else None

-- `story`: `--cash C`, `--script S`, `--json`
unfoldable pub story_option : Text → Option OptionKind
story_option name =
    if bytes_eq name (codes "cash") then Some (WithValue Cash)
    else if bytes_eq name (codes "script") then Some (WithValue Script)
    else if bytes_eq name (codes "json") then Some (Alone Json)
    else None

-- `timeline`: `--cash C`, `--svg`, `--json`, `--only`
unfoldable pub timeline_option : Text → Option OptionKind
timeline_option name =
    if bytes_eq name (codes "cash") then Some (WithValue Cash)
    else if bytes_eq name (codes "svg") then Some (Alone Svg)
    else if bytes_eq name (codes "json") then Some (Alone Json)
    else if bytes_eq name (codes "only") then Some (Alone Only)
    else None

-- `rehearse`: `--cash C`, `--threads N`, `--turns T`, `--svg FILE`
unfoldable pub rehearse_option : Text → Option OptionKind
rehearse_option name =
    if bytes_eq name (codes "cash") then Some (WithValue Cash)
    else if bytes_eq name (codes "threads") then Some (WithValue Threads)
    else if bytes_eq name (codes "turns") then Some (WithValue Turns)
    else if bytes_eq name (codes "svg") then Some (WithValue Picture)
    else None

-- `why`: `--cash C`, `--all`, `--check`
unfoldable pub why_option : Text → Option OptionKind
why_option name =
    if bytes_eq name (codes "cash") then Some (WithValue Cash)
    else if bytes_eq name (codes "all") then Some (Alone All)
    else if bytes_eq name (codes "check") then Some (Alone Check)
    else None

-- `trace`: `--cash C`
unfoldable pub trace_option : Text → Option OptionKind
trace_option name = if bytes_eq name (codes "cash") then Some (WithValue Cash) else None

-- `sift`: `--rejects R`
unfoldable pub sift_option : Text → Option OptionKind
sift_option name = if bytes_eq name (codes "rejects") then Some (WithValue Rejects) else None

-- what an option of this name is of a command of that one, if it has such an option; `sql` has none
unfoldable pub option_kind : Text → Text → Option OptionKind
option_kind command name =
    if bytes_eq command (codes "check") then check_option name
    else if bytes_eq command (codes "story") then story_option name
    else if bytes_eq command (codes "timeline") then timeline_option name
    else if bytes_eq command (codes "rehearse") then rehearse_option name
    else if bytes_eq command (codes "why") then why_option name
    else if bytes_eq command (codes "trace") then trace_option name
    else if bytes_eq command (codes "sift") then sift_option name
    else None

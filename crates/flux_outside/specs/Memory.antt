-- Files and sinks in memory, as contracts see them.
use Rattle.std.specs.Prelude.{ℕ, ◌+◌, ◌-◌, ◌==◌, ◌++◌, Bool, List, length, take, min, None, Some, Result, Ok, Err, if◌then◌else◌, string_bytes, String, Vec}
use Rattle.std.specs.List.{list_any}
use Rattle.std.specs.Map.{lookup}
use Rattle.std.specs.Ordering.{is_eq, nat_cmp}
use Rattle.std.specs.Cmp.Lexicographic.{slice_cmp}
use Rattle.std.specs.declared.alloc.Global.{Global}
use Rattle.flux_outside.specs.Outside.{Call, Names, Read, Save, Wants, counted}
use Rattle.flux_outside.specs.Told.{FilesTold, SinkTold}
use Rattle.flux_outside.specs.declared.mem_files.MemCall.{MemCall}
use Rattle.flux_outside.specs.declared.mem_files.MemCall.TheVariants as call
use Rattle.flux_outside.specs.declared.mem_files.MemWants.{MemWants}
use Rattle.flux_outside.specs.declared.outside.Failed.{Failed}

-- whether a list of numbers has this one
abbrev pub has_number : List ℕ → ℕ → Bool
has_number numbers n = list_any (λ k. k == n) numbers

-- ---- files

-- the files by their names, the numbers of the calls that fail, the calls so far, the wants of memory, and the faults
pub record MemFilesView : Type 0 where
  pub files : List (List ℕ × List ℕ)
  pub fails : List ℕ
  pub calls : List Call
  pub wants : Wants
  pub read_faults : ℕ
  pub save_faults : ℕ

-- what each name holds
abbrev pub names : List (List ℕ × List ℕ) → Names
names files = λ name. lookup (λ other. is_eq (slice_cmp nat_cmp name other)) files

-- a file as its name and its bytes
abbrev pub file_of : String Global × Vec ℕ Global → List ℕ × List ℕ
file_of e = (string_bytes e.0, e.1.items)

-- a call, with its name as bytes
abbrev pub call_of : MemCall → Call
call_of (call.Read name max) = Read (string_bytes name) max
call_of (call.Save name) = Save (string_bytes name)

-- how often a call has found no memory, and whether the last call did
abbrev pub wants_of : MemWants → Wants
wants_of wants = record { count = wants.count; last = wants.last }

-- they tell all
abbrev pub files_told : MemFilesView → FilesTold
files_told s = record { contents = Some (names s.files); calls = Some s.calls; wants = Some s.wants; read_faults = s.read_faults; save_faults = s.save_faults }

-- whether the next call is one of those that fail
abbrev pub next_fails : MemFilesView → Bool
next_fails s = has_number s.fails (length s.calls + 1)

-- ---- sinks

-- the bytes taken, the numbers of the puts that fail, the puts and faults so far, the most bytes that a put takes, and the room for all bytes
pub record MemSinkView : Type 0 where
  pub taken : List ℕ
  pub fails : List ℕ
  pub puts : ℕ
  pub faults : ℕ
  pub most : ℕ
  pub room : ℕ

-- it tells all but the pieces that it was given
abbrev pub sink_told : MemSinkView → SinkTold
sink_told s = record { taken = Some s.taken; offered = None; faults = s.faults }

-- how many bytes of a piece the next put takes, where it doesn't fail
abbrev pub taken_of : MemSinkView → List ℕ → ℕ
taken_of s bytes = min (min (length bytes) s.most) (s.room - length s.taken)

-- whether the next put is one of those that fail
abbrev pub put_fails : MemSinkView → Bool
put_fails s = has_number s.fails (counted s.puts)

-- what a put answers
abbrev pub put_answer : MemSinkView → List ℕ → Result ℕ Failed
put_answer s bytes = if put_fails s then Err (record {}) else Ok (taken_of s bytes)

-- the sink after a put
abbrev pub after_put : MemSinkView → List ℕ → MemSinkView
after_put s bytes =
    if put_fails s then record s { puts = counted s.puts; faults = counted s.faults }
    else if taken_of s bytes == 0 then record s { puts = counted s.puts; faults = counted s.faults }
    else record s { puts = counted s.puts; taken = s.taken ++ take (taken_of s bytes) bytes }

-- One record more, judged behind those before it.
use Rattle.std.proofs.Common.{ℕ, ◌≡◌, ◌+◌, ◌<◌, ◌≤◌, true, false, List, [], ◌∷◌, ◌++◌, length, nat_lt, Option, Some, Ok, Err, Bor, refl, sym, ap, subst, ◌∙◌, arith, append_assoc, if◌then◌else◌}
use Rattle.std.specs.Prelude.{IfOk, Result}
use Rattle.std.specs.Option.{is_none}
use Rattle.std.proofs.lemmas.List.{append-nil}
use Rattle.std.proofs.lemmas.Bool.Decides.{nat_tests}
use Rattle.csv.specs.Machine.{ends_at_end, next_record}
use Rattle.csv.specs.Reading.{default_config}
use Rattle.csv.specs.declared.parser.State.{State}
use Rattle.csv.specs.declared.reader.Reader.{Reader}
use Rattle.tuple_edge.specs.declared.memory.OutOfMemory.{OutOfMemory}
use Rattle.tuple_edge.specs.declared.row.Row.{Row}
use Rattle.trade_text.specs.Files.{RowsRead, row_onto, with_row}
use Rattle.trade_text.specs.Records.{HasLeft, TakesNext, records_left}
use Rattle.trade_text.specs.Results.{Read, ◌>>=◌}
use Rattle.trade_text.specs.declared.error.ReadError.{ReadError}
use Rattle.trade_text.specs.declared.error.ReadError.TheVariants as error
use Rattle.trade_text.proofs.Reading.{onto, record_more, record_none}
use Rattle.record_faults.specs.Alone.{IsJudged, IsNext, IsRecord}
use Rattle.record_faults.specs.EachRecord.{fault_in, faults_from, unless_refused}
use Rattle.record_faults.proofs.Rows.{took_record}

module _ {F K : Type 0} (row_in : ℕ → K → List (List ℕ) → Read F (Row × K)) (room : ℕ) where
  one_longer : (rows : List Row) (row : Row) → length (rows ++ row ∷ []) ≡ length rows + 1
  one_longer [] row = refl
  one_longer (first ∷ rows) row = let more = one_longer rows row in omega (arith, more)

  judged : (stands : K → Type 0) (so_far : RowsRead K) (fault : Option (ReadError F)) (read : Read F (Row × K)) → IsJudged stands fault so_far.kept read
      → (fault ≡ fault_in (read >>= λ next. Ok (with_row so_far.rows next))) × stands (unless_refused so_far (read >>= λ next. Ok (with_row so_far.rows next))).kept
      × (length (unless_refused so_far (read >>= λ next. Ok (with_row so_far.rows next))).rows ≡ (if is_none fault then length so_far.rows + 1 else length so_far.rows))
  judged stands so_far fault (Ok next) is = (is.0, is.1, one_longer so_far.rows next.0 ∙ ap (λ (f : Option (ReadError F)). if is_none f then length so_far.rows + 1 else length so_far.rows) (sym is.0))
  judged stands so_far fault (Err e) is = (is.0, is.1, ap (λ (f : Option (ReadError F)). if is_none f then length so_far.rows + 1 else length so_far.rows) (sym is.0))

  -- where there is room the judge says it
  pub next_judged : (stands : K → Type 0) (number count : ℕ) (so_far : RowsRead K) (fields : List (List ℕ)) (fault : Option (ReadError F)) → count < room → length so_far.rows ≡ count
      → IsJudged stands fault so_far.kept (row_in number so_far.kept fields) → IsNext row_in room stands number count so_far fields fault
  next_judged stands number count so_far fields fault some counts is =
      let few : length so_far.rows < room = omega (arith, some, counts) in
      let said = judged stands so_far fault (row_in number so_far.kept fields) is in
      let onward = onto row_in room number so_far fields few in
      record {
        fault_is = said.0 ∙ ap fault_in (sym onward);
        stands_for = subst (λ read. stands (unless_refused so_far read).kept) (sym onward) said.1;
        counts = ap (λ read. length (unless_refused so_far read).rows) onward ∙ said.2 ∙ ap (λ n. if is_none fault then n + 1 else n) counts;
      }

  full : (number : ℕ) (so_far : RowsRead K) (fields : List (List ℕ)) → nat_lt (length so_far.rows) room ≡ false → row_onto row_in room number so_far fields ≡ Err error.TooMany
  unfolding row_onto
  full number so_far fields test = rw test refl

  -- where there is none it is one too many
  pub next_full : (stands : K → Type 0) (number count : ℕ) (so_far : RowsRead K) (fields : List (List ℕ)) → room ≤ count → length so_far.rows ≡ count → stands so_far.kept
      → IsNext row_in room stands number count so_far fields (Some error.TooMany)
  next_full stands number count so_far fields none counts is =
      let test : nat_lt (length so_far.rows) room ≡ false = let many : room ≤ length so_far.rows = omega (arith, none, counts) in grind (arith, nat_tests) in
      let over = full number so_far fields test in
      record {
        fault_is = ap fault_in (sym over);
        stands_for = subst (λ read. stands (unless_refused so_far read).kept) (sym over) is;
        counts = ap (λ read. length (unless_refused so_far read).rows) over ∙ counts;
      }

  -- what a judge says of it is so
  pub judged_ok : (r : Result (Option (ReadError F)) OutOfMemory) (stands after : K → Type 0) (number count : ℕ) (fields : List (List ℕ)) → count < room
      → IfOk r (λ fault. (kept : K) → stands kept → IsRecord fields → IsJudged after fault kept (row_in number kept fields))
      → IfOk r (λ fault. (so_far : RowsRead K) → stands so_far.kept → length so_far.rows ≡ count → IsRecord fields → IsNext row_in room after number count so_far fields fault)
  judged_ok (Ok fault) stands after number count fields some judges = λ so_far stands counts is. next_judged after number count so_far fields fault some counts (judges so_far.kept stands is)
  judged_ok (Err want) stands after number count fields some judges = tt

  -- the faults so far, and what is left of all
  pub record GoesOn {J : Type 0} (stands : J → K → Type 0) (turn most count : ℕ) (faults whole : List (Option (ReadError F))) (judge : J) (reader : Reader (Bor (List ℕ))) : Type 0 where
    pub state : State
    pub text : List ℕ
    pub so_far : RowsRead K
    pub left : HasLeft reader state text
    pub between : ends_at_end state ≡ false
    pub few : length (records_left state text) + turn ≤ most
    pub counts : length so_far.rows ≡ count
    pub stands_for : stands judge so_far.kept
    pub is : whole ≡ faults ++ faults_from row_in room (turn + 2) so_far (records_left state text)

  module _ {J : Type 0} (stands : J → K → Type 0) where
    -- there was no record more
    pub ended : (turn most count : ℕ) (faults whole : List (Option (ReadError F))) (judge : J) (old new : Reader (Bor (List ℕ))) (fields : List (List ℕ))
        → (g : GoesOn stands turn most count faults whole judge old) → TakesNext (next_record default_config g.state [] [] g.text) false fields new → faults ≡ whole
    ended turn most count faults whole judge old new fields g took =
        sym (g.is ∙ ap (λ rows. faults ++ faults_from row_in room (turn + 2) g.so_far rows) (record_none g.state g.text fields new took) ∙ append-nil faults)

    -- there were as many records as there may be
    pub all_told : (turn most count : ℕ) (faults whole : List (Option (ReadError F))) (judge : J) (reader : Reader (Bor (List ℕ))) → most ≤ turn
        → GoesOn stands turn most count faults whole judge reader → faults ≡ whole
    all_told turn most count faults whole judge reader over g =
        sym (g.is ∙ ap (λ rows. faults ++ faults_from row_in room (turn + 2) g.so_far rows) (nothing (records_left g.state g.text) (let few = g.few in omega (arith, few, over))) ∙ append-nil faults)
      where
        nothing : (rows : List (List (List ℕ))) → length rows ≤ 0 → rows ≡ []
        nothing [] few = refl
        nothing (row ∷ rows) few = absurd (omega (arith, few))

    -- a record was judged
    pub goes_on : (turn most count : ℕ) (faults whole : List (Option (ReadError F))) (judge after : J) (old new : Reader (Bor (List ℕ))) (fields : List (List ℕ)) (fault : Option (ReadError F))
        → (g : GoesOn stands turn most count faults whole judge old) → TakesNext (next_record default_config g.state [] [] g.text) true fields new
        → (IsRecord fields → IsNext row_in room (stands after) (turn + 2) count g.so_far fields fault)
        → GoesOn stands (turn + 1) most (if is_none fault then count + 1 else count) (faults ++ fault ∷ []) whole after new
    goes_on turn most count faults whole judge after old new fields fault g took judged =
        let more = record_more g.state g.text fields new g.between took in
        let next = judged (took_record g.state g.text true fields new took refl) in
        let size = ap length more.records in
        let number : turn + 2 + 1 ≡ turn + 1 + 2 = omega arith in
        let read = row_onto row_in room (turn + 2) g.so_far fields in
        record {
          state = more.after;
          text = more.rest;
          so_far = unless_refused g.so_far read;
          left = more.left;
          between = more.between;
          few = let few = g.few in omega (arith, few, size);
          counts = next.counts;
          stands_for = next.stands_for;
          is = g.is
              ∙ ap (λ rows. faults ++ faults_from row_in room (turn + 2) g.so_far rows) more.records
              ∙ ap (λ f. faults ++ (f ∷ faults_from row_in room (turn + 2 + 1) (unless_refused g.so_far read) (records_left more.after more.rest))) (sym next.fault_is)
              ∙ ap (λ n. faults ++ (fault ∷ faults_from row_in room n (unless_refused g.so_far read) (records_left more.after more.rest))) number
              ∙ sym (append_assoc faults (fault ∷ []) (faults_from row_in room (turn + 1 + 2) (unless_refused g.so_far read) (records_left more.after more.rest)));
        }

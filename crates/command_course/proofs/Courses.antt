-- How far a course came, one reading after the other.
use Rattle.std.proofs.Common.{ℕ, ◌≡◌, ◌<◌, ◌∙◌, true, false, List, [], ◌∷◌, ◌++◌, length, refl, sym, ap, subst, append_assoc, append-nil, string_bytes, Option, Some, None, Ok, Err, ⊎_elim, inl, inr}
use Rattle.std.proofs.lemmas.Result.{err_from_is_err_and}
use Rattle.std.specs.Prelude.{IfErr, IfOk, OnOk, Result, Vec}
use Rattle.std.specs.Result.{IsErrAnd}
use Rattle.std.specs.declared.alloc.Global.{Global}
use Rattle.command_course.specs.Course.{AtReading, Between, Came, CameToRead, Course, Leads, Reading, Reads, Refuses, Runs, StoppedShort, Writes, reads, ◌>>=◌}
use Rattle.command_course.specs.Lines.{cannot_read_line}
use Rattle.flux_outside.specs.Outside.{Adds, Call, IsHeld, IsRead, Joins, Names, Read, StopsAtWant, Wants, WantsLast}
use Rattle.flux_outside.specs.Told.{FilesTold}
use Rattle.command_course.specs.Steps.{Gives, HasReadCause, IsRefusedBy, IsUnreadBy, IsWant, OnlyReads, StopsAt, StopsOf, StopsOn}
use Rattle.flux_outside.specs.declared.outside.Got.TheVariants as got
use Rattle.command_course.specs.declared.stop.Stop.{Stop}
use Rattle.command_course.specs.declared.stop.Stop.TheVariants as stop

-- ---- calls

adds_none : (old new : Option (List Call)) (call : Call) → Joins old new call false → Adds old new []
adds_none None new call joined = tt
adds_none (Some old) new call joined = joined ∙ ap Some (sym (append-nil old))

adds_one : (old new : Option (List Call)) (call : Call) → Joins old new call true → Adds old new (call ∷ [])
adds_one None new call joined = tt
adds_one (Some old) new call joined = joined

pub adds_on : (old mid new : Option (List Call)) (xs ys : List Call) → Adds old mid xs → Adds mid new ys → Adds old new (xs ++ ys)
adds_on None mid new xs ys first next = tt
adds_on (Some old) None new xs ys first next = absurd (none_not_some first)
  where
    none_not_some : {calls : List Call} → None ≡ Some calls → ⊥
    none_not_some e = cc
adds_on (Some old) (Some mid) new xs ys first next =
    let whole : mid ≡ old ++ xs = cc in
    next ∙ ap Some (ap (λ calls. calls ++ ys) whole ∙ append_assoc old xs ys)

-- ---- one course behind the other

leads_on : (told : Option Names) (course mid there : Course) (xs ys : List Call) → Leads told course xs mid → Leads told mid ys there → Leads told course (xs ++ ys) there
leads_on told course mid there [] ys first next = subst (λ x. Leads told x ys there) (sym first) next
leads_on told (Reads name most after) mid there (call ∷ xs) ys first next = (first.0, (first.1.0, first.1.1, leads_on told (after first.1.0) mid there xs ys first.1.2 next))
leads_on told (Writes text) mid there (call ∷ xs) ys first next = absurd first
leads_on told (Runs run) mid there (call ∷ xs) ys first next = absurd first
leads_on told (Refuses line) mid there (call ∷ xs) ys first next = absurd first

pub came_on : (old mid new : FilesTold) (course between there : Course) → mid.contents ≡ old.contents → Came old mid course between → Came mid new between there → Came old new course there
came_on old mid new course between there same first next = record {
  calls = first.calls ++ next.calls;
  leads = leads_on old.contents course between there first.calls next.calls first.leads (subst (λ told. Leads told between next.calls there) same next.leads);
  added = adds_on old.calls mid.calls new.calls first.calls next.calls first.added next.added;
}

came_to_read_on : (old mid new : FilesTold) (course between : Course) (name : List ℕ) → mid.contents ≡ old.contents → Came old mid course between → CameToRead mid new between name
    → CameToRead old new course name
came_to_read_on old mid new course between name same first next = record {
  most = next.most;
  next = next.next;
  calls = first.calls ++ next.calls;
  leads = leads_on old.contents course between (Reads name next.most next.next) first.calls next.calls first.leads
      (subst (λ told. Leads told between next.calls (Reads name next.most next.next)) same next.leads);
  added = subst (Adds old.calls new.calls) (sym (append_assoc first.calls next.calls (Read name next.most ∷ [])))
      (adds_on old.calls mid.calls new.calls first.calls (next.calls ++ Read name next.most ∷ []) first.added next.added);
}

short_on : (old mid new : FilesTold) (course between : Course) → mid.contents ≡ old.contents → Came old mid course between → StoppedShort mid new between → StoppedShort old new course
short_on old mid new course between same first (Between there came) = Between there (came_on old mid new course between there same first came)
short_on old mid new course between same first (AtReading name came) = AtReading name (came_to_read_on old mid new course between name same first came)

pub stops_on : (old mid new : FilesTold) (course between : Course) (why : Stop) → mid.contents ≡ old.contents → Came old mid course between → StopsOf mid new between why
    → StopsOf old new course why
stops_on old mid new course between stop.Usage same first next = next
stops_on old mid new course between (stop.Refused line) same first next = came_on old mid new course between (Refuses _) same first next
stops_on old mid new course between (stop.CannotRead line) same first next =
    record { name = next.name; came = came_to_read_on old mid new course between next.name same first next.came; line_is = next.line_is }
stops_on old mid new course between stop.CannotWrite same first next = next
stops_on old mid new course between (stop.PairLost stage part said) same first next = next
stops_on old mid new course between stop.OutOfMemory same first next = short_on old mid new course between same first next

adds_self : (calls : Option (List Call)) → Adds calls calls []
adds_self None = tt
adds_self (Some calls) = ap Some (sym (append-nil calls))

-- a course stands where it stood, and may be named otherwise
pub came_here : (told : FilesTold) (course there : Course) → course ≡ there → Came told told course there
came_here told course there is = record { calls = []; leads = is; added = adds_self told.calls }

pub came_is : (old new : FilesTold) (course between there : Course) → Came old new course between → between ≡ there → Came old new course there
came_is old new course between there came is = subst (Came old new course) is came

-- a refusal on the spot
pub refused_here : (told : FilesTold) (line : List ℕ) (why : Stop) (P : Type 0) → IsRefusedBy why line P → StopsOf told told (Refuses line) why
refused_here told line stop.Usage P by = by
refused_here told line (stop.Refused said) P by = came_here told (Refuses line) (Refuses (string_bytes said)) (ap Refuses (sym by.0))
refused_here told line (stop.CannotRead said) P by = absurd by
refused_here told line stop.CannotWrite P by = by
refused_here told line (stop.PairLost stage part said) P by = by
refused_here told line stop.OutOfMemory P by = Between (Refuses line) (came_here told (Refuses line) (Refuses line) refl)

-- ---- one reading

read_is : {A : Type 0} (old new : FilesTold) (most : ℕ) (reading : List ℕ → List ℕ → Reading A) (name bytes : List ℕ) (next : A → Course)
    → IsHeld old.contents name bytes → Joins old.calls new.calls (Read name most) true → Came old new (reads most reading name next) (reading name bytes >>= next)
read_is old new most reading name bytes next held joined = record { calls = Read name most ∷ []; leads = (refl, (bytes, held, refl)); added = adds_one old.calls new.calls (Read name most) joined }

-- what a whole file says
pub gives_whole : {A : Type 0} (old new : FilesTold) (most : ℕ) (reading : List ℕ → List ℕ → Reading A) (name bytes : List ℕ) (value : A)
    → IsRead old.contents name most got.Whole [] bytes → Joins old.calls new.calls (Read name most) true → reading name bytes ≡ Ok value → Gives old new most reading name value
gives_whole old new most reading name bytes value read joined is next =
    subst (Came old new (reads most reading name next)) (ap (λ r. r >>= next) is)
    (read_is old new most reading name bytes next (subst (IsHeld old.contents name) (sym read.read.1) read.held) joined)

stops_read : {A : Type 0} (old new : FilesTold) (most : ℕ) (reading : List ℕ → List ℕ → Reading A) (name bytes : List ℕ) (why : Stop)
    → IsHeld old.contents name bytes → Joins old.calls new.calls (Read name most) true → StopsOn (reading name bytes) why → StopsAt old new most reading name why
stops_read old new most reading name bytes stop.Usage held joined on next = on
stops_read old new most reading name bytes (stop.Refused line) held joined on next =
    subst (Came old new (reads most reading name next)) (ap (λ r. r >>= next) on) (read_is old new most reading name bytes next held joined)
stops_read old new most reading name bytes (stop.CannotRead line) held joined on next = absurd on
stops_read old new most reading name bytes stop.CannotWrite held joined on next = on
stops_read old new most reading name bytes (stop.PairLost stage part said) held joined on next = on
stops_read old new most reading name bytes stop.OutOfMemory held joined on next = Between (reading name bytes >>= next) (read_is old new most reading name bytes next held joined)

-- a whole file that is refused
pub stops_whole : {A : Type 0} (old new : FilesTold) (most : ℕ) (reading : List ℕ → List ℕ → Reading A) (name bytes : List ℕ) (why : Stop)
    → IsRead old.contents name most got.Whole [] bytes → Joins old.calls new.calls (Read name most) true → StopsOn (reading name bytes) why → StopsAt old new most reading name why
stops_whole old new most reading name bytes why read joined on = stops_read old new most reading name bytes why (subst (IsHeld old.contents name) (sym read.read.1) read.held) joined on

-- a file that is too long
pub stops_long : {A : Type 0} (old new : FilesTold) (most : ℕ) (reading : List ℕ → List ℕ → Reading A) (name appended : List ℕ) (seen : ℕ) (why : Stop)
    → IsRead old.contents name most (got.TooLong seen) [] appended → Joins old.calls new.calls (Read name most) true → ((bytes : List ℕ) → most < length bytes → StopsOn (reading name bytes) why)
    → StopsAt old new most reading name why
stops_long old new most reading name appended seen why read joined long = stops_read old new most reading name read.bytes why read.held joined (long read.bytes read.read.0)

-- a file that can't be read
pub stops_unread : {A : Type 0} (old new : FilesTold) (most : ℕ) (reading : List ℕ → List ℕ → Reading A) (name : List ℕ) (why : Stop)
    → Joins old.calls new.calls (Read name most) true → IsUnreadBy why (cannot_read_line name) → StopsAt old new most reading name why
stops_unread old new most reading name why joined unread next = go why unread
  where
    came : CameToRead old new (reads most reading name next) name
    came = record { most = most; next = λ bytes. reading name bytes >>= next; calls = []; leads = refl; added = adds_one old.calls new.calls (Read name most) joined }

    go : (why : Stop) → IsUnreadBy why (cannot_read_line name) → StopsOf old new (reads most reading name next) why
    go stop.Usage unread = unread
    go (stop.Refused line) unread = absurd unread
    go (stop.CannotRead line) unread = record { name = name; came = came; line_is = unread }
    go stop.CannotWrite unread = unread
    go (stop.PairLost stage part said) unread = unread
    go stop.OutOfMemory unread = AtReading name came

-- a read that found no memory
pub stops_want : {A : Type 0} (old new : FilesTold) (most : ℕ) (reading : List ℕ → List ℕ → Reading A) (name : List ℕ)
    → Joins old.calls new.calls (Read name most) false → StopsAt old new most reading name stop.OutOfMemory
stops_want old new most reading name joined next =
    Between (reads most reading name next) (record { calls = []; leads = refl; added = adds_none old.calls new.calls (Read name most) joined })

-- ---- what a call answered

-- a course that came to a text, where the call gave that text
pub ok_came : (old new : FilesTold) (course : Course) (text : List ℕ) (result : Result (Vec ℕ Global) Stop) → Came old new course (Writes text)
    → IfOk result (λ bytes. bytes.items ≡ text) → IfOk result (λ bytes. Came old new course (Writes bytes.items))
ok_came old new course text (Ok bytes) came is = came_is old new course (Writes text) (Writes bytes.items) came (ap Writes (sym is))
ok_came old new course text (Err why) came is = tt

-- a course that came somewhere, where the call found no memory
pub err_short : (old new : FilesTold) (course there : Course) (result : Result (Vec ℕ Global) Stop) → Came old new course there
    → IfErr result (λ why. why ≡ stop.OutOfMemory) → IfErr result (λ why. StopsOf old new course why)
err_short old new course there (Ok bytes) came want = tt
err_short old new course there (Err why) came want = subst (StopsOf old new course) (sym want) (Between there came)

-- a course that came somewhere, and went on in the call
pub ok_on : (old mid new : FilesTold) (course between : Course) (result : Result (Vec ℕ Global) Stop) → mid.contents ≡ old.contents → Came old mid course between
    → IfOk result (λ bytes. Came mid new between (Writes bytes.items)) → IfOk result (λ bytes. Came old new course (Writes bytes.items))
ok_on old mid new course between (Ok bytes) same first next = came_on old mid new course between (Writes bytes.items) same first next
ok_on old mid new course between (Err why) same first next = tt

pub err_on : (old mid new : FilesTold) (course between : Course) (result : Result (Vec ℕ Global) Stop) → mid.contents ≡ old.contents → Came old mid course between
    → IfErr result (λ why. StopsOf mid new between why) → IfErr result (λ why. StopsOf old new course why)
err_on old mid new course between (Ok bytes) same first next = tt
err_on old mid new course between (Err why) same first next = stops_on old mid new course between why same first next

-- ---- wants

-- what else holds at a want may be weakened
pub wants_for : (old new : Option Wants) (P Q : Type 0) → (P → Q) → StopsAtWant old new P → StopsAtWant old new Q
wants_for None new P Q to wants = tt
wants_for (Some old) None P Q to wants = wants
wants_for (Some old) (Some new) P Q to wants = ⊎_elim (λ same. inl same) (λ last. inr (last.0, last.1, to last.2)) wants

-- calls that found memory, and then others
pub wants_on : (old mid new : Option Wants) (P : Type 0) → StopsAtWant old mid ⊥ → StopsAtWant mid new P → StopsAtWant old new P
wants_on None mid new P first next = tt
wants_on (Some old) None new P first next = absurd first
wants_on (Some old) (Some mid) None P first next = next
wants_on (Some old) (Some mid) (Some new) P first next = ⊎_elim (λ same. after same) (λ last. absurd last.2) first
  where
    after : mid.count ≡ old.count → WantsLast old new P
    after same = ⊎_elim (λ more. inl (more ∙ same)) (λ last. inr (cc, last.1, last.2)) next

-- ---- steps that only read

-- what the exit of a `?` returns
pub err_passed : {T E : Type 0} (P : E → Type 0) (why : E) (result : Result T E) → IsErrAnd result (λ e. e ≡ why) → P why → IfErr result P
err_passed P why result passed holds =
    let is = err_from_is_err_and result passed in
    rw (is.1, is.2) holds

wants_none : (old : Option Wants) (P : Type 0) → StopsAtWant old old P
wants_none None P = tt
wants_none (Some old) P = inl refl

want_is : (A B : Type 0) (why : Stop) → IsWant {A = A} (Err why) → IsWant {A = B} (Err why)
want_is A B stop.Usage want = want
want_is A B (stop.Refused line) want = want
want_is A B (stop.CannotRead line) want = want
want_is A B stop.CannotWrite want = want
want_is A B (stop.PairLost stage part said) want = want
want_is A B stop.OutOfMemory want = want

-- one step behind the other
pub reads_on : {A B : Type 0} (old mid new : FilesTold) (value : A) (result : Result B Stop) → OnlyReads old mid (Ok value) → OnlyReads mid new result → OnlyReads old new result
reads_on old mid new value result first next = record {
  contents = next.contents ∙ first.contents;
  saves = next.saves ∙ first.saves;
  wants = wants_on old.wants mid.wants new.wants (IsWant result) first.wants next.wants;
  cause = subst (λ faults. IfErr result (λ why. HasReadCause faults new.read_faults why)) first.still next.cause;
  still = subst (λ faults. OnOk result (new.read_faults ≡ faults)) first.still next.still;
}

-- a step that stopped, whatever else it would have given
pub reads_stopped : (A B : Type 0) (old new : FilesTold) (why : Stop) → OnlyReads {A = A} old new (Err why) → OnlyReads {A = B} old new (Err why)
reads_stopped A B old new why reads = record {
  contents = reads.contents;
  saves = reads.saves;
  wants = wants_for old.wants new.wants (IsWant {A = A} (Err why)) (IsWant {A = B} (Err why)) (want_is A B why) reads.wants;
  cause = reads.cause;
  still = tt;
}

-- the same at the exit of a `?`
pub reads_passed : {A B : Type 0} (old new : FilesTold) (why : Stop) (result : Result B Stop) → IsErrAnd result (λ e. e ≡ why) → OnlyReads {A = A} old new (Err why) → OnlyReads old new result
reads_passed {A} {B} old new why result passed reads =
    let is = err_from_is_err_and result passed in
    rw (is.1, is.2) (reads_stopped A B old new why reads)

judged_still : {B : Type 0} (before now : ℕ) (result : Result B Stop) → now ≡ before → IfErr result (λ why. (faults : ℕ) → HasReadCause faults faults why) → OnOk result (now ≡ before)
judged_still before now (Ok x) same judged = same
judged_still before now (Err why) same judged = tt

judged_cause : {B : Type 0} (before now : ℕ) (result : Result B Stop) → now ≡ before → IfErr result (λ why. (faults : ℕ) → HasReadCause faults faults why)
    → IfErr result (λ why. HasReadCause before now why)
judged_cause before now (Ok x) same judged = tt
judged_cause before now (Err why) same judged = subst (λ faults. HasReadCause before faults why) (sym same) (judged before)

want_judged : {B : Type 0} (result : Result B Stop) → IfErr result (λ why. why ≡ stop.OutOfMemory) → IfErr result (λ why. (faults : ℕ) → HasReadCause faults faults why)
want_judged (Ok x) want = tt
want_judged (Err why) want = λ faults. subst (HasReadCause faults faults) (sym want) tt

-- a step that reads, and then one that reads nothing
pub reads_judged : {A B : Type 0} (old new : FilesTold) (value : A) (result : Result B Stop) → OnlyReads old new (Ok value) → IfErr result (λ why. (faults : ℕ) → HasReadCause faults faults why)
    → OnlyReads old new result
reads_judged old new value result reads judged = record {
  contents = reads.contents;
  saves = reads.saves;
  wants = wants_for old.wants new.wants ⊥ (IsWant result) (λ none. absurd none) reads.wants;
  cause = judged_cause old.read_faults new.read_faults result reads.still judged;
  still = judged_still old.read_faults new.read_faults result reads.still judged;
}

pub reads_then : {A B : Type 0} (old new : FilesTold) (value : A) (result : Result B Stop) → OnlyReads old new (Ok value) → IfErr result (λ why. why ≡ stop.OutOfMemory) → OnlyReads old new result
reads_then old new value result reads want = reads_judged old new value result reads (want_judged result want)

-- a step that reads nothing
pub reads_nothing : {B : Type 0} (told : FilesTold) (result : Result B Stop) → IfErr result (λ why. (faults : ℕ) → HasReadCause faults faults why) → OnlyReads told told result
reads_nothing told result judged = record {
  contents = refl;
  saves = refl;
  wants = wants_none told.wants (IsWant result);
  cause = judged_cause told.read_faults told.read_faults result refl judged;
  still = judged_still told.read_faults told.read_faults result refl judged;
}

pub reads_none : {B : Type 0} (told : FilesTold) (result : Result B Stop) → IfErr result (λ why. why ≡ stop.OutOfMemory) → OnlyReads told told result
reads_none told result want = reads_nothing told result (want_judged result want)

refused_judged : (line : List ℕ) (why : Stop) (P : Type 0) → IsRefusedBy why line P → (faults : ℕ) → HasReadCause faults faults why
refused_judged line stop.Usage P by faults = absurd by
refused_judged line (stop.Refused said) P by faults = refl
refused_judged line (stop.CannotRead said) P by faults = absurd by
refused_judged line stop.CannotWrite P by faults = by
refused_judged line (stop.PairLost stage part said) P by faults = by
refused_judged line stop.OutOfMemory P by faults = tt

-- a refusal on the spot
pub reads_refused : {B : Type 0} (told : FilesTold) (line : List ℕ) (why : Stop) (P : Type 0) → IsRefusedBy why line P → OnlyReads {A = B} told told (Err why)
reads_refused told line why P by = reads_nothing told (Err why) (refused_judged line why P by)

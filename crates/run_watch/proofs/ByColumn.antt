-- A list that is watched column by column.
use Rattle.std.proofs.Common.{◌≡◌, ◌∙◌, ◌≤◌, ◌+◌, ℕ, suc, true, List, [], ◌∷◌, ◌++◌, append_assoc, append-nil, drop, length, length-drop, min, refl, subst, sym, take, ap, arith}
use Rattle.std.proofs.Math.Seq.{take-length}
use Rattle.std.proofs.lemmas.List.{take-append-drop}
use Rattle.std.proofs.lemmas.List.Elements.{All-drop, All-take}
use Rattle.plan_reader.specs.Nodes.{names_event}
use Rattle.pair_machine.specs.Machine.{State}
use Rattle.pair_machine.specs.Sound.{IsSound}
use Rattle.run_journal.specs.declared.lined.Lined.{Lined}
use Rattle.flux_core.specs.CoreView.{CoreView, flow_in, inputs_of}
use Rattle.flux_core.specs.Follows.{AreNamed, IsFollowed, events_of}
use Rattle.flux_core.specs.Stands.{IsCore, StandsFor}
use Rattle.flux_core.proofs.Sendings.{length-take-of}
use Rattle.run_watch.specs.Columns.{frame_in, frames_from, share}
use Rattle.run_watch.specs.FrameView.{FrameView}
use Rattle.run_watch.specs.Seen.{HasSeen, HasStopped}
use Rattle.run_watch.specs.TraceView.{TraceView}
use Rattle.run_watch.specs.Watching.{nowhere, told_from}
use Rattle.run_watch.specs.declared.happening.Told.{Told}
use Rattle.run_watch.specs.declared.watching.WatchError.{WatchError}
use Rattle.run_watch.proofs.Framed.{frames_left, next_column, share_last, share_most, take_further}
use Rattle.run_watch.proofs.SeenLaws.{seen_joined, seen_none, stopped_later}

-- a trace of no event
abbrev pub blank : TraceView
blank = record { told = []; falls = nowhere; place = 0 }

-- so far: the first events were seen, and the frames are those of the columns that are over
pub record HasCome (old now : CoreView) (trace : TraceView) (events : List Lined) (start left most : ℕ) (frames : List FrameView) : Type 0 where
  pub seen : HasSeen old now blank trace (take start events)
  pub core : IsCore now
  pub within : start ≤ length events
  pub whole : left ≡ 0 → start ≡ length events
  pub frames_are : (s : State) → StandsFor old s → IsSound (flow_in old) s → frames_from old.plan (inputs_of old) most s events ≡ frames ++ frames_left old.plan (inputs_of old) events s start left

pub blank_trace : (t : TraceView) → t.told ≡ [] → t.falls ≡ nowhere → t.place ≡ 0 → t ≡ blank
blank_trace t told falls place = λ j. record { told = told j; falls = falls j; place = place j }

pub come_none : (core : CoreView) (trace : TraceView) (events : List Lined) (left most : ℕ) → IsCore core → trace ≡ blank → 1 ≤ most → left ≡ min most (length events) → HasCome core core trace events 0 left most []
come_none core trace events left most is same some count = record {
  seen = subst (λ t. HasSeen core core blank t []) (sym same) (seen_none core blank);
  core = is;
  within = omega arith;
  whole = λ none. omega (arith, none, count, some);
  frames_are = λ s stands sound. ap (λ n. frames_left core.plan (inputs_of core) events s 0 n) (sym count);
}

all_of_one : (k n left : ℕ) → k ≡ share n (suc left) → left ≡ 0 → k ≡ n
all_of_one k n left is none = is ∙ ap (λ l. share n (suc l)) none ∙ share_last n

module _ (old now : CoreView) (t : TraceView) (events : List Lined) (start left most k : ℕ) (frames : List FrameView) (come : HasCome old now t events start (suc left) most frames)
    (is : k ≡ share (length (drop start events)) (suc left)) where
  rest_length : length (drop start events) + start ≡ length events
  rest_length = let w = come.within in omega (arith, length-drop start events, w)

  pub column_within : start + k ≤ length events
  column_within = let most_is : share (length (drop start events)) (suc left) ≤ length (drop start events) = share_most (length (drop start events)) left in omega (arith, most_is, is, rest_length)

  pub column_length : length (take k (drop start events)) ≡ k
  column_length = length-take-of (drop start events) k (let w = column_within in omega (arith, w, rest_length))

  pub column_room : t.place + length (take k (drop start events)) ≤ length events
  column_room =
      let place = come.seen.place in
      let front : length (take start events) ≡ start = length-take-of events start come.within in
      omega (arith, place, front, column_length, column_within)

  pub column_named : AreNamed old.plan events → AreNamed now.plan (take k (drop start events))
  column_named named =
      subst (λ p. AreNamed p (take k (drop start events))) (sym come.seen.followed.plan)
      (All-take (λ (l : Lined). names_event old.plan l.event ≡ true) k (drop start events) (All-drop (λ (l : Lined). names_event old.plan l.event ≡ true) start events named))

  module _ (new : CoreView) (u : TraceView) (more : List FrameView) (core : IsCore new) (seen : HasSeen now new t u (take k (drop start events)))
      (framed : (s : State) → StandsFor new s → more ≡ frames ++ frame_in new.plan (inputs_of new) u.place s ∷ []) where
    seen_further : HasSeen old new blank u (take (start + k) events)
    seen_further = subst (HasSeen old new blank u) (sym (take_further events start k)) (seen_joined old now new blank t u (take start events) (take k (drop start events)) come.seen seen)

    place_further : u.place ≡ start + k
    place_further = seen_further.place ∙ (let many : length (take (start + k) events) ≡ start + k = length-take-of events (start + k) column_within in omega (arith, many))

    frames_further : (s : State) → StandsFor old s → IsSound (flow_in old) s → frames_from old.plan (inputs_of old) most s events ≡ more ++ frames_left old.plan (inputs_of old) events s (start + k) left
    frames_further s stands sound =
        let z = seen_further.followed.goes s stands sound in
        let later = frames_left old.plan (inputs_of old) events s (start + k) left in
        let here = frame_in old.plan (inputs_of old) (start + k) z.0 in
        let shown : more ≡ frames ++ here ∷ [] =
        framed z.0 z.3 ∙ (λ j. frames ++ frame_in (seen_further.followed.plan j) (seen_further.followed.inputs j) (place_further j) z.0 ∷ []) in
        come.frames_are s stands sound
        ∙ ap (λ r. frames ++ r) (next_column old.plan (inputs_of old) events s start left k column_within is z.0 z.1)
        ∙ sym (append_assoc frames (here ∷ []) later)
        ∙ ap (λ r. r ++ later) (sym shown)

    pub come_next : HasCome old new u events (start + k) left most more
    come_next = record {
      seen = seen_further;
      core = core;
      within = column_within;
      whole = λ none. let all : k ≡ length (drop start events) = all_of_one k (length (drop start events)) left is none in omega (arith, all, rest_length);
      frames_are = frames_further;
    }

  pub column_stopped : (new : CoreView) (why : WatchError) → HasStopped now new (take k (drop start events)) why → HasStopped old new events why
  column_stopped new why stopped =
      subst (λ ls. HasStopped old new ls why)
      (ap (λ r. take start events ++ r) (take-append-drop k (drop start events)) ∙ take-append-drop start events)
      (stopped_later old now new (take start events) (take k (drop start events)) (drop k (drop start events)) why come.seen.followed stopped)

module _ (old now : CoreView) (t : TraceView) (events : List Lined) (start most : ℕ) (frames : List FrameView) (come : HasCome old now t events start 0 most frames) where
  seen_all : HasSeen old now blank t events
  seen_all = subst (HasSeen old now blank t) (ap (λ n. take n events) (come.whole refl) ∙ take-length events) come.seen

  pub followed_all : IsFollowed old now (events_of events)
  followed_all = seen_all.followed

  pub told_all : (told : List Told) → told ≡ t.told → (s : State) → StandsFor old s → IsSound (flow_in old) s → told ≡ told_from old.plan (inputs_of old) s events
  told_all told is s stands sound = is ∙ seen_all.told s stands sound

  pub frames_all : (s : State) → StandsFor old s → IsSound (flow_in old) s → frames ≡ frames_from old.plan (inputs_of old) most s events
  frames_all s stands sound = sym (append-nil frames) ∙ sym (come.frames_are s stands sound)

use Rattle.std.proofs.Common.{◌≡◌, ◌∙◌, true, false, refl, rules, arith}
use Rattle.csv.specs.Reading.{strip_bom}
use Rattle.std.specs.Io.Buffered.{reader_remaining}
use Rattle.trade_text.specs.Records.{starts_with_mark}
use Rattle.trade_text.proofs.StreamFacts.{front_ends, front_grows, marked_alike, opened}
use Rattle.trade_text.proofs.stream_bytes.StreamBytes.open.Goals as goal
use Rattle.trade_text.proofs.stream_bytes.StreamBytes.open.Goals.{in-Some+in_ok-push-in-Some, in-None}

pub loop-preserved : goal.loop-preserved
loop-preserved g c = λ text known.
    let f = c.loop.invariant text known in
    let after = reader_remaining g.R.Read.remaining c.loop.source in
    let new = reader_remaining g.R.Read.remaining c.read_byte.new.source in
    elim c.match-branch-2.branch [
      | in-Some+in_ok-push-in-Some w ↦ rw (w.front-is, w.in_ok-push-in-Some.ensures.items)
          (front_grows text c.loop.front.items after c.loop.counter f w.in-Some.byte new (rw w.in-Some.is at (c.in_ok-read_byte.ensures.gives f.rest f.known)))
      | in-None w ↦ rw w.front-is (front_ends text c.loop.front.items after c.loop.counter f new (rw w.in-None.is at (c.in_ok-read_byte.ensures.gives f.rest f.known)))
    ]

pub returns-then-starts_with_mark : goal.returns-then-starts_with_mark
returns-then-starts_with_mark g c = λ text known.
    let f = c.loop.invariant text known in
    let marked : starts_with_mark (strip_bom c.loop.front.items) ≡ true = search rules in
    (refl, marked_alike text c.loop.front.items (reader_remaining g.R.Read.remaining c.loop.source) c.loop.counter f (omega (arith, c.loop-test.false, c.loop.auto.counter-end)) ∙ marked)

pub returns : goal.returns
returns g c = λ text known.
    let f = c.loop.invariant text known in
    let plain : starts_with_mark (strip_bom c.loop.front.items) ≡ false = search rules in
    let all : c.loop.counter ≡ 6 = omega (arith, c.loop-test.false, c.loop.auto.counter-end) in (
      opened text c.loop.front.items (reader_remaining g.R.Read.remaining c.loop.source) c.loop.counter f all c.mark_bytes-at.result (rw c.deref-2.ensures.value at c.mark_bytes-at.ensures.drops),
      marked_alike text c.loop.front.items (reader_remaining g.R.Read.remaining c.loop.source) c.loop.counter f all ∙ plain,
    )

use Rattle.std.proofs.Common.{◌≡◌, ◌∙◌, ◌<◌, ◌+◌, List, Some, arith, get_or, length, string_bytes, sym, ap, subst}
use Rattle.std.proofs.lemmas.List.{get_or_default}
use Rattle.journal_writer.specs.Merged.{Named, first_clock}
use Rattle.journal_writer.proofs.Places.{other_clock, same_clock}
use Rattle.journal_writer.proofs.Steps.{AreWritten, passed, wrote}
use Rattle.journal_writer.proofs.write.write_clock.Goals.{then-eq+in_ok-put, else-eq}
use Rattle.journal_writer.proofs.write.write_clock.Goals as goal

pub loop-place-preserved : goal.loop-place-preserved
loop-place-preserved c =
    let stood = string_bytes c.args.text.now in
    let old = c.args.sources.now in
    let now = c.loop-place.sources in
    let place = c.loop-place.place in
    let within : place < length now = omega (arith, c.loop-place-test.true, c.loop-place.invariant.long) in
    elim c.if-eq.branch [
      | then-eq+in_ok-put w ↦
          let d = w.index-sources-place-then-eq.result in
          let at : first_clock (get_or now place d).1 ≡ Some c.args.clock =
          ap (λ (l : Named). first_clock l.1) (get_or_default now place d c.index-sources-place.result within)
          ∙ sym c.clock.ensures ∙ same_clock c.clock.result c.args.clock (sym c.eq.ensures ∙ w.if-eq.true) in
          subst (λ (ls : List Named). AreWritten c.args.clock (place + 1) stood old (string_bytes c.if-eq.text) ls) (sym w.sources-is)
          (wrote c.args.clock place stood old (string_bytes c.loop-place.text) (string_bytes c.if-eq.text) now d w.put.new.self c.loop-place.invariant within at
          (λ i. (w.put.ensures.node i, w.put.ensures.rest i)) (ap (λ t. string_bytes t) w.text-is ∙ w.in_ok-put.ensures.text))
      | else-eq w ↦
          subst (λ (ls : List Named). AreWritten c.args.clock (place + 1) stood old (string_bytes c.if-eq.text) ls) (sym w.sources-is)
          (subst (λ t. AreWritten c.args.clock (place + 1) stood old (string_bytes t) now) (sym w.text-is)
          (passed c.args.clock place stood old (string_bytes c.loop-place.text) now c.index-sources-place.result c.loop-place.invariant within
          (λ e. other_clock c.clock.result c.args.clock (sym c.eq.ensures ∙ w.if-eq.false) (c.clock.ensures ∙ e))))
    ]

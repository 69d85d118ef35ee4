use Rattle.std.proofs.Common.{ℕ, ◌≡◌, ◌<◌, ◌-◌, ◌^◌, ◌∙◌, [], List, sym, ap, subst, arith, length, min, suc, add-one}
use Rattle.std.proofs.lemmas.List.{get_or-map}
use Rattle.std.proofs.lemmas.List.Elements.{All-get_or}
use Rattle.tuple_edge.specs.declared.row.Row.{Row}
use Rattle.op_spec.specs.declared.spec.OpSpec.{OpSpec}
use Rattle.stream_ops.specs.Kept.{keys_after}
use Rattle.stream_ops.specs.State.{StateView}
use Rattle.bucket_move.specs.BucketsView.{keys_of_first, part_of, state_after, state_at, state_in}
use Rattle.bucket_move.specs.Limits.{buckets}
use Rattle.bucket_move.specs.Rows.{items_of, rows_in}
use Rattle.bucket_move.specs.Working.{kept_in}
use Rattle.bucket_move.specs.declared.partition.Partition.{Partition}
use Rattle.bucket_move.proofs.KeysBelow.{keys_below, keys_below-all, keys_below-elsewhere, keys_below-few, keys_below-here, keys_below-none}
use Rattle.bucket_move.proofs.KeysKept.{keys_of_first-elsewhere, keys_of_first-here}
use Rattle.bucket_move.proofs.Moving.{each_long}
use Rattle.bucket_move.proofs.work.keys_at.Goals as goal
use Rattle.bucket_move.proofs.work.keys_at.Goals.{then-at-part, else-at-part}

pub key_count-requires : goal.key_count-requires
key_count-requires c =
    let parts = c.args.parts.now in
    let there : part_of c.args.table.now c.loop-bucket.bucket < length parts =
    All-get_or (λ (p : ℕ). p < length parts) c.args.table.now c.loop-bucket.bucket 0 (omega arith) c.requires.within in
    subst (λ (p : Partition). c.loop-bucket.bucket < length p.states.items) (sym c.index-parts-at.is)
    (subst (λ (n : ℕ). c.loop-bucket.bucket < n) (sym (each_long parts (part_of c.args.table.now c.loop-bucket.bucket) c.index-parts-at.result there c.requires.slots)) c.loop-bucket-test.true)

pub loop-bucket-init : goal.loop-bucket-init
loop-bucket-init c = record {
  stands = λ stage rows keyed few stand. sym (keys_below-none stage c.args.table.now c.args.part rows keyed);
  kept = λ spec rows keep. omega arith;
}

pub loop-bucket-preserved : goal.loop-bucket-preserved
loop-bucket-preserved c =
    let table = c.args.table.now in
    let part = c.args.part in
    let parts = c.args.parts.now in
    let n = c.loop-bucket.bucket in
    let there : part_of table n < length parts = All-get_or (λ (p : ℕ). p < length parts) table n 0 (omega arith) c.requires.within in
    elim c.if-at-part.branch [
      | then-at-part w ↦
          let counts : (spec : OpSpec) (rows : List Row) → state_at spec (kept_in parts) (part_of table n) n ≡ state_after spec rows → w.key_count.result ≡ length (keys_after spec (items_of rows)) =
          λ spec rows keep. w.key_count.ensures spec rows
          (ap (λ (p : Partition). state_in spec p.states.items n) w.index-parts-at.is
          ∙ ap (λ (states : List StateView). state_in spec states n) (sym (get_or-map (λ (p : Partition). p.states.items) parts (part_of table n) w.index-parts-at.result [] there))
          ∙ keep) in
          rw add-one (record {
            stands = λ stage rows keyed few stand.
                let had = c.loop-bucket.invariant.stands stage rows keyed few stand in
                let count = counts stage.op (rows_in stage.by n rows) (stand n c.loop-bucket-test.true) in
                let here = keys_below-here stage table part n rows keyed w.if-at-part.true in
                let some = keys_below-few stage table part (suc n) rows keyed in
                omega (arith, w.keys-is, w.saturating_add-keys.ensures, count, here, some, had, few);
            kept = λ spec rows keep.
                let had = c.loop-bucket.invariant.kept spec rows keep in
                let count = counts spec (rows n) (keep n c.loop-bucket-test.true) in
                let here = keys_of_first-here spec table part rows n w.if-at-part.true in
                omega (arith, w.keys-is, w.saturating_add-keys.ensures, count, here, had);
          })
      | else-at-part w ↦
          rw add-one (record {
            stands = λ stage rows keyed few stand. w.keys-is ∙ c.loop-bucket.invariant.stands stage rows keyed few stand ∙ sym (keys_below-elsewhere stage table part n rows w.if-at-part.false);
            kept = λ spec rows keep.
                w.keys-is ∙ c.loop-bucket.invariant.kept spec rows keep
                ∙ ap (λ (count : ℕ). min count (2 ^ 64 - 1)) (sym (keys_of_first-elsewhere spec table part rows n w.if-at-part.false));
          })
    ]

pub returns-clause-stands : goal.returns-clause-stands
returns-clause-stands c = λ stage rows keyed few stand.
    let all : c.loop-bucket.bucket ≡ buckets = omega arith in
    c.loop-bucket.invariant.stands stage rows keyed few stand ∙ ap (λ (n : ℕ). keys_below stage c.args.table.now c.args.part n rows) all ∙ keys_below-all stage c.args.table.now c.args.part rows

pub returns-clause-kept : goal.returns-clause-kept
returns-clause-kept c = λ spec rows keep.
    let all : c.loop-bucket.bucket ≡ buckets = omega arith in
    c.loop-bucket.invariant.kept spec rows keep ∙ ap (λ (n : ℕ). min (keys_of_first spec c.args.table.now c.args.part rows n) (2 ^ 64 - 1)) all

use Rattle.std.proofs.Common.{ℕ, ◌≡◌, ◌%◌, ◌++◌, ◌∷◌, [], List, ap, sym, ◌∙◌, arith, map}
use Rattle.std.specs.List.{range_with_len}
use Rattle.std.proofs.lemmas.List.FromFn.{map-range_with_len_more}
use Rattle.bucket_move.specs.Limits.{buckets}
use Rattle.bucket_move.proofs.buckets.opening_table.Goals as goal

pub loop-bucket-preserved : goal.loop-bucket-preserved
loop-bucket-preserved c =
    let n = c.loop-bucket.bucket in
    c.in_ok-push.ensures.items ∙ ap (λ (t : List ℕ). t ++ n % c.args.parts ∷ []) c.loop-bucket.invariant ∙ sym (map-range_with_len_more (λ b. b % c.args.parts) 0 n n (omega arith))

pub returns : goal.returns
returns c =
    let all : c.loop-bucket.bucket ≡ buckets = omega arith in
    c.loop-bucket.invariant ∙ ap (λ (n : ℕ). map (λ b. b % c.args.parts) (range_with_len 0 n)) all

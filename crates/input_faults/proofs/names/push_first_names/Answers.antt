use Rattle.std.proofs.Common.{◌≡◌, ◌∙◌, ◌++◌, ℕ, ap, take, arith}
use Rattle.std.specs.Prelude.{string_bytes}
use Rattle.std.specs.List.{flat_map}
use Rattle.csv.specs.Records.{fields_of}
use Rattle.input_faults.specs.AllFaults.{named}
use Rattle.input_faults.proofs.AllFacts.{names_more}
use Rattle.input_faults.proofs.names.push_first_names.Goals as goal

pub loop-place-preserved : goal.loop-place-preserved
loop-place-preserved c =
    let l = c.loop-place in
    record {
      text_is = names_more named (string_bytes c.args.text.now) (string_bytes l.text) (string_bytes c.push_name_at.new.text) (fields_of c.args.header.now) l.place l.invariant.text_is c.in_ok-push_name_at.ensures;
      few = omega arith;
    }

pub returns : goal.returns
returns c =
    let l = c.loop-place in
    let done : l.place ≡ 100 = omega (arith, l.invariant.few) in
    l.invariant.text_is ∙ ap (λ (n : ℕ). string_bytes c.args.text.now ++ flat_map named (take n (fields_of c.args.header.now))) done

use Rattle.std.proofs.Common.{◌∙◌, ap, sym, refl, [], Some, append-nil}
use Rattle.flux_outside.specs.Memory.{MemSinkView}
use Rattle.flux_outside.proofs.mem_sink.MemSinkSink.put.Goals as goal

pub returns-then-contains-clause-failed : goal.returns-then-contains-clause-failed
returns-then-contains-clause-failed c = record {
  front = [];
  left = c.args.bytes.now;
  some_left = c.requires;
  whole = refl;
  taken = ap Some (ap (λ (s : MemSinkView). s.taken) c.self.view_is ∙ sym (append-nil c.args.self.now.taken));
}

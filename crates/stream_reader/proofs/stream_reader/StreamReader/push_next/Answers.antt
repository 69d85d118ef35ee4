use Rattle.std.proofs.Common.{◌≡◌, false, sym, ◌∙◌, refl, arith}
use Rattle.stream_reader.proofs.Telling.{fault_first, goes_on, goes_on_with, long_told, one_looked}
use Rattle.stream_reader.proofs.stream_reader.StreamReader.push_next.Goals as goal

pub invariant_of-self-in-Ok-None : goal.invariant_of-self-in-Ok-None
invariant_of-self-in-Ok-None g c = record {
  within = (omega (arith, c.requires), c.args.self.now.within.1);
  some = c.args.self.now.some;
  follows = λ going.
      let was : c.args.self.now.parser.over ≡ false = sym c.in-Ok-None.ensures.over ∙ going in
      rw c.and-self.ensures
      (goes_on c.args.self.now.looked.items c.args.self.now.rows.items c.args.self.now.parser.at c.push.new.self.at _ (c.args.self.now.follows was) (c.push.new.self.ready going)
      (c.in-Ok-None.ensures.standing was) c.in-Ok-None.field-0 c.in-Ok-None.field-0-is (c.in-Ok-None.ensures.tells was));
}

pub invariant_of-self-in-Ok-Some : goal.invariant_of-self-in-Ok-Some
invariant_of-self-in-Ok-Some g c = record {
  within = (omega (arith, c.requires), c.args.self.now.within.1);
  some = c.args.self.now.some;
  follows = λ going.
      let was : c.args.self.now.parser.over ≡ false = sym c.in-Ok-Some.ensures.over ∙ going in
      rw (c.and-self.ensures, c.and-self-in-Ok-Some.ensures)
      (goes_on_with c.args.self.now.looked.items c.args.self.now.rows.items c.args.self.now.parser.at c.push.new.self.at _ (c.args.self.now.follows was) (c.push.new.self.ready going)
      (c.in-Ok-Some.ensures.standing was) c.in-Ok-Some.field-0 c.in-Ok-Some.row c.in-Ok-Some.field-0-is (c.in-Ok-Some.ensures.tells was));
}

pub returns-in-Err-clause-pushes : goal.returns-in-Err-clause-pushes
returns-in-Err-clause-pushes g c = λ going.
    let f = c.args.self.now.follows going in
    record {
      rows = refl;
      fault = λ rest. rw c.and-self.ensures (fault_first c.args.self.now.looked.items c.args.self.now.rows.items c.args.self.now.parser.at c.args.self.now.parser.at _ f c.in-Err.error rest (c.in-Err.ensures.tells going rest));
      long = λ number is. rw c.and-self.ensures
          (long_told c.args.self.now.looked.items c.args.self.now.rows.items c.args.self.now.parser.at _ c.in-Err.error f (c.args.self.now.parser.ready going) (c.in-Err.ensures.long going) number is);
      over = c.in-Err.ensures.over;
    }

pub returns-in-Err-clause-bytes : goal.returns-in-Err-clause-bytes
returns-in-Err-clause-bytes g c =
    rw c.and-self.ensures (one_looked c.args.self.now.looked.items c.args.self.now.piece.items c.args.self.now.at c.args.self.now.filled _ c.requires c.args.self.now.within.1 c.index.ensures)

pub returns-in-Ok-None-clause-bytes : goal.returns-in-Ok-None-clause-bytes
returns-in-Ok-None-clause-bytes g c =
    rw c.and-self.ensures (one_looked c.args.self.now.looked.items c.args.self.now.piece.items c.args.self.now.at c.args.self.now.filled _ c.requires c.args.self.now.within.1 c.index.ensures)

pub returns-in-Ok-Some-clause-bytes : goal.returns-in-Ok-Some-clause-bytes
returns-in-Ok-Some-clause-bytes g c =
    rw c.and-self.ensures (one_looked c.args.self.now.looked.items c.args.self.now.piece.items c.args.self.now.at c.args.self.now.filled _ c.requires c.args.self.now.within.1 c.index.ensures)

use Rattle.std.proofs.Common.{◌∙◌, sym, ap, nat_lt}
use Rattle.record_faults.proofs.SymbolFacts.{room-known, room-unknown}
use Rattle.record_faults.proofs.symbols.KnownSymbols.has_room.Goals as goal

pub returns-then-contains : goal.returns-then-contains
returns-then-contains c =
    c.if-contains.true ∙ room-known c.args.self.now.names.keys c.args.name.now (sym c.contains.ensures ∙ c.if-contains.true)

pub returns-else-contains : goal.returns-else-contains
returns-else-contains c =
    ap (λ n. nat_lt n 4096) c.len.ensures.len ∙ room-unknown c.args.self.now.names.keys c.args.name.now (sym c.contains.ensures ∙ c.if-contains.false)

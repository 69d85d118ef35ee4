use Rattle.std.proofs.Common.{◌≡◌, ◌∙◌, ◌++◌, ◌∷◌, [], Some, ap, sym, false, if◌then◌else◌}
use Rattle.std.specs.List.{list_any}
use Rattle.std.specs.Str.{bytes_eq}
use Rattle.trade_text.specs.Symbols.{texts}
use Rattle.record_faults.proofs.SymbolFacts.{learns-known, learns-new}
use Rattle.record_faults.proofs.symbols.KnownSymbols.learn.Goals as goal

pub returns-then-contains : goal.returns-then-contains
returns-then-contains c = learns-known c.args.self.now.names.keys c.args.name.now (sym c.contains.ensures ∙ c.if-contains.true)

pub returns : goal.returns
returns c =
    let keys = c.args.self.now.names.keys in
    let name = c.in_ok-name.name in
    let none : list_any (λ v. bytes_eq c.args.name.now v.items) keys ≡ false = sym c.contains.ensures ∙ c.if-contains.false in
    let not_there : list_any (λ v. bytes_eq name.items v.items) keys ≡ false = rw c.in_ok-name.ensures.items none in
    let pushed : c.insert.new.self.keys ≡ keys ++ name ∷ [] = c.in_ok-insert.ensures.keys ∙ ap (λ there. if there then keys else keys ++ name ∷ []) not_there in
    learns-new keys c.args.name.now name none c.requires c.in_ok-name.ensures.items ∙ ap (λ ks. Some (texts ks)) (sym pushed)

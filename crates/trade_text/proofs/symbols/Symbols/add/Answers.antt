use Rattle.std.proofs.Common.{◌≡◌, ◌<◌, ◌≤◌, ◌∙◌, ◌++◌, ◌∷◌, [], List, ℕ, None, Some, ap, sym, refl, subst, false, length, if◌then◌else◌, ◌+◌, arith}
use Rattle.std.specs.List.{list_any}
use Rattle.std.specs.Str.{bytes_eq}
use Rattle.trade_text.specs.Symbols.{number_in, texts}
use Rattle.trade_text.proofs.SymbolFacts.{absent, numbered-full, numbered-new, unknown}
use Rattle.trade_text.proofs.symbols.Symbols.add.Goals as goal

pub returns-then-count-ge-MAX_SYMBOLS-clause-numbers : goal.returns-then-count-ge-MAX_SYMBOLS-clause-numbers
returns-then-count-ge-MAX_SYMBOLS-clause-numbers c =
    let keys = c.self.inside.names.keys in
    let new = subst (λ (known : List (List ℕ)). number_in known c.args.name.now ≡ None) (sym c.self.view_is) c.requires.new in
    let full : 4096 ≤ length keys = rw c.len-count.ensures.len at c.if-count-ge-MAX_SYMBOLS.true in
    rw (← c.self.view_is) (numbered-full keys c.args.name.now (unknown keys c.args.name.now new) full)

pub returns-clause-numbers : goal.returns-clause-numbers
returns-clause-numbers c =
    let keys = c.self.inside.names.keys in
    let name = c.in_ok-name.name in
    let new = subst (λ (known : List (List ℕ)). number_in known c.args.name.now ≡ None) (sym c.self.view_is) c.requires.new in
    let none = unknown keys c.args.name.now new in
    let fits : length keys < 4096 = omega arith in
    let not_there : list_any (λ v. bytes_eq name.items v.items) keys ≡ false = rw c.in_ok-name.ensures.items (absent (λ v. bytes_eq c.args.name.now v.items) keys _ refl none) in
    let pushed : c.insert.new.self.keys ≡ keys ++ name ∷ [] = c.in_ok-insert.ensures.keys ∙ ap (λ there. if there then keys else keys ++ name ∷ []) not_there in
    rw (← c.self.view_is, c.len-count.ensures.len) (numbered-new keys c.args.name.now name none fits c.in_ok-name.ensures.items ∙ ap (λ ks. Some (length keys + 1, texts ks)) (sym pushed))

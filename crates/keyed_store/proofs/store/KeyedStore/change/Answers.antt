use Rattle.std.proofs.Common.{◌≡◌, ◌∙◌, List, Some, ap, sym, refl}
use Rattle.std.specs.BTreeMap.{insert_entry, is_at}
use Rattle.std.specs.Map.{lookup}
use Rattle.std.specs.Option.{IsSome}
use Rattle.keyed_store.specs.Store.{StoreView, changed, images_of, watched}
use Rattle.keyed_store.proofs.Images.{changed-there, insert-watched, set-inserts}
use Rattle.keyed_store.proofs.store.KeyedStore.change.Goals as goal

pub returns-clause-changes : goal.returns-clause-changes
returns-clause-changes g c =
    let there : lookup (is_at (g.K.Ord.cmp c.args.key.now)) c.self.inside.kept.entries ≡ Some c.in-Some.value.now = sym c.in-Some.ensures.value in
    let some : IsSome (lookup (is_at (g.K.Ord.cmp c.args.key.now)) c.self.inside.kept.entries) = rw there refl in
    changed-there g.K.Ord.cmp c.args.self.now (watched g.K.Ord.cmp (c.get_mut.follows.lender c.take.new.self).entries (images_of c.put_aside.new.images)) c.args.key.now
    (λ x. g.V.Takes.after x c.args.more) c.in-Some.value.now
    (sym (ap (λ (s : StoreView g.row.K.Denot g.row.V.Denot). lookup (is_at (g.K.Ord.cmp c.args.key.now)) s.kept) c.self.view_is) ∙ there)
    (ap (λ (es : List (g.row.K.Denot × g.row.V.Denot)). watched g.K.Ord.cmp es (images_of c.put_aside.new.images))
    ((c.get_mut.follows.holds c.take.new.self).0 ∙ set-inserts g.met.K.Ord.total c.args.key.now c.take.new.self c.self.inside.kept.entries c.in_ok-put_aside.ensures.store.0 some)
    ∙ insert-watched g.met.K.Ord.total c.self.inside.kept.entries (images_of c.put_aside.new.images) c.args.key.now c.take.new.self c.in_ok-put_aside.ensures.store c.in_ok-put_aside.ensures.aside
    ∙ ap (λ (s : StoreView g.row.K.Denot g.row.V.Denot). changed s (insert_entry g.K.Ord.cmp s.kept c.args.key.now c.take.new.self)) (c.in_ok-put_aside.ensures.same ∙ c.self.view_is)
    ∙ ap (λ (v : g.row.V.Denot). changed c.args.self.now (insert_entry g.K.Ord.cmp c.args.self.now.kept c.args.key.now v)) c.take.ensures.after)

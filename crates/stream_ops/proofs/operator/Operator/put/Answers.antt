use Rattle.std.proofs.Common.{◌≡◌, ◌∙◌, ◌++◌, ◌∷◌, [], ◌*ℤ◌, ℤ, FitsSigned, to_z, of_z, w64, ap, refl, sym, subst, arith}
use Rattle.std.proofs.lemmas.Int.{ints}
use Rattle.std.specs.BTreeMap.{insert_entry}
use Rattle.std.specs.Map.{lookup}
use Rattle.circular_buffer.specs.Buffer.{Buffer}
use Rattle.keyed_store.specs.Join.{joined}
use Rattle.keyed_store.specs.Store.{StoreView}
use Rattle.tuple_edge.specs.declared.packet.Entry.{Entry}
use Rattle.tuple_edge.specs.declared.packet.Entry.TheVariants as entry
use Rattle.tuple_edge.specs.declared.row.Key.{Key}
use Rattle.op_spec.specs.Keys.{is_key, key_cmp}
use Rattle.op_spec.specs.Spec.{IsSpec}
use Rattle.stream_ops.specs.Entries.{all_told, told_last, told_total, told_window}
use Rattle.stream_ops.specs.Joins.{is_left, join_key}
use Rattle.stream_ops.specs.State.{IsNextEntry}
use Rattle.stream_ops.specs.Steps.{last_added}
use Rattle.stream_ops.specs.View.{AreLast, IsSound, IsWindow, entries_of, spec_of}
use Rattle.stream_ops.specs.declared.operator.Operator.{Operator}
use Rattle.stream_ops.specs.declared.operator.Operator.TheVariants as operator
use Rattle.stream_ops.specs.declared.sums.Sums.{Sums}
use Rattle.stream_ops.specs.declared.window.OpenWindow.{OpenWindow}
use Rattle.stream_ops.proofs.PutBack.{keyed_is, next_keyed, put_joined, put_last_rows, put_total, put_window, put_window_fits, side_put}
use Rattle.stream_ops.proofs.Standing.{joined_sound, last_right, opened, right-changed, right-found}
use Rattle.stream_ops.proofs.operator.Operator.put.Goals as goal

pub returns-in_ok-insert-in-Total-clause-entries : goal.returns-in_ok-insert-in-Total-clause-entries
returns-in_ok-insert-in-Total-clause-entries c = λ given.
    let en : Entry = entry.Keyed c.in-Keyed.key c.in-Keyed.slot c.in-Keyed.qty c.in-Keyed.value c.in-Keyed.window in
    let o : Operator = operator.Total c.in-Total.by c.in-Total.totals in
    let sound : IsSound o = subst (λ (o : Operator). IsSound o) c.in-Total.is c.requires.sound in
    let next : IsNextEntry (spec_of o) (entries_of o) en =
    subst (λ (o : Operator). IsNextEntry (spec_of o) (entries_of o) en) c.in-Total.is (subst (λ (e : Entry). IsNextEntry (spec_of c.args.self.now) (entries_of c.args.self.now) e) c.in-Keyed.is given) in
    ap (λ (s : StoreView Key Sums). all_told told_total s.kept) c.in_ok-insert-in-Total.ensures.inserts
    ∙ ap (λ (s : Sums). all_told told_total (insert_entry key_cmp c.in-Total.totals.kept c.in-Keyed.key s)) c.told-sums.ensures
    ∙ put_total c.in-Total.by c.in-Total.totals.kept c.in-Keyed.key c.in-Keyed.slot c.in-Keyed.qty c.in-Keyed.value c.in-Keyed.window next.0 next.1 sound.0 next.3
    ∙ ap (λ (o : Operator). entries_of o ++ en ∷ []) (sym c.in-Total.is) ∙ ap (λ (e : Entry). entries_of c.args.self.now ++ e ∷ []) (sym c.in-Keyed.is)

pub returns-in_ok-insert-in-Crossing-clause-entries : goal.returns-in_ok-insert-in-Crossing-clause-entries
returns-in_ok-insert-in-Crossing-clause-entries c = λ given.
    let en : Entry = entry.Keyed c.in-Keyed.key c.in-Keyed.slot c.in-Keyed.qty c.in-Keyed.value c.in-Keyed.window in
    let o : Operator = operator.Crossing c.in-Crossing.by c.in-Crossing.limit c.in-Crossing.totals in
    let sound : IsSound o = subst (λ (o : Operator). IsSound o) c.in-Crossing.is c.requires.sound in
    let next : IsNextEntry (spec_of o) (entries_of o) en =
    subst (λ (o : Operator). IsNextEntry (spec_of o) (entries_of o) en) c.in-Crossing.is (subst (λ (e : Entry). IsNextEntry (spec_of c.args.self.now) (entries_of c.args.self.now) e) c.in-Keyed.is given) in
    ap (λ (s : StoreView Key Sums). all_told told_total s.kept) c.in_ok-insert-in-Crossing.ensures.inserts
    ∙ ap (λ (s : Sums). all_told told_total (insert_entry key_cmp c.in-Crossing.totals.kept c.in-Keyed.key s)) c.told-sums.ensures
    ∙ put_total c.in-Crossing.by c.in-Crossing.totals.kept c.in-Keyed.key c.in-Keyed.slot c.in-Keyed.qty c.in-Keyed.value c.in-Keyed.window next.0 next.1 sound.1.0 next.3
    ∙ ap (λ (o : Operator). entries_of o ++ en ∷ []) (sym c.in-Crossing.is) ∙ ap (λ (e : Entry). entries_of c.args.self.now ++ e ∷ []) (sym c.in-Keyed.is)

pub returns-in_ok-add_last_row-in-Last-clause-entries : goal.returns-in_ok-add_last_row-in-Last-clause-entries
returns-in_ok-add_last_row-in-Last-clause-entries c = λ given.
    let en : Entry = entry.Keyed c.in-Keyed.key c.in-Keyed.slot c.in-Keyed.qty c.in-Keyed.value c.in-Keyed.window in
    let o : Operator = operator.Last c.in-Last.by c.in-Last.rows c.in-Last.last_rows c.in-Last.count in
    let sound : IsSound o = subst (λ (o : Operator). IsSound o) c.in-Last.is c.requires.sound in
    let next : IsNextEntry (spec_of o) (entries_of o) en =
    subst (λ (o : Operator). IsNextEntry (spec_of o) (entries_of o) en) c.in-Last.is (subst (λ (e : Entry). IsNextEntry (spec_of c.args.self.now) (entries_of c.args.self.now) e) c.in-Keyed.is given) in
    ap (λ (s : StoreView Key (Buffer Sums)). all_told told_last s.kept) c.in_ok-add_last_row-in-Last.ensures.pushes
    ∙ ap (λ (s : Sums). all_told told_last (insert_entry key_cmp c.in-Last.last_rows.kept c.in-Keyed.key (last_added c.in-Last.rows (lookup (is_key c.in-Keyed.key) c.in-Last.last_rows.kept) s))) c.told-sums.ensures
    ∙ put_last_rows c.in-Last.by c.in-Last.rows c.in-Last.last_rows.kept c.in-Keyed.key c.in-Keyed.slot c.in-Keyed.qty c.in-Keyed.value c.in-Keyed.window next.0 next.1 sound.0.0 sound.1.0 next.3
    ∙ ap (λ (o : Operator). entries_of o ++ en ∷ []) (sym c.in-Last.is) ∙ ap (λ (e : Entry). entries_of c.args.self.now ++ e ∷ []) (sym c.in-Keyed.is)

pub returns-in_ok-add_last_row-in-Last-clause-sound : goal.returns-in_ok-add_last_row-in-Last-clause-sound
returns-in_ok-add_last_row-in-Last-clause-sound c =
    let sound : IsSound (operator.Last c.in-Last.by c.in-Last.rows c.in-Last.last_rows c.in-Last.count) = subst (λ (o : Operator). IsSound o) c.in-Last.is c.requires.sound in
    let sums : Sums = c.told-sums.result in (
      sound.0,
      right-changed (AreLast c.in-Last.rows) c.in-Last.last_rows c.add_last_row.new.last_rows c.in-Keyed.key (last_added c.in-Last.rows (lookup (is_key c.in-Keyed.key) c.in-Last.last_rows.kept) sums) sound.1 c.in_ok-add_last_row-in-Last.ensures.pushes
          (last_right c.in-Last.rows sound.0.0 (lookup (is_key c.in-Keyed.key) c.in-Last.last_rows.kept) sums (right-found (AreLast c.in-Last.rows) c.in-Keyed.key c.in-Last.last_rows.kept sound.1.0)),
      c.in_ok-add_last_row-in-Last.ensures.total,
    )

pub returns-in_ok-insert-in-Window-clause-entries : goal.returns-in_ok-insert-in-Window-clause-entries
returns-in_ok-insert-in-Window-clause-entries c = λ given.
    let en : Entry = entry.Keyed c.in-Keyed.key c.in-Keyed.slot c.in-Keyed.qty c.in-Keyed.value c.in-Keyed.window in
    let o : Operator = operator.Window c.in-Window.by c.in-Window.width c.in-Window.windows in
    let sound : IsSound o = subst (λ (o : Operator). IsSound o) c.in-Window.is c.requires.sound in
    let limits : IsSpec (spec_of o) = sound.0 in
    let back : to_z w64 (of_z w64 c.in-Window.width) ≡ c.in-Window.width = omega (arith, ints) in
    let made = rw back at c.in-Some.ensures.1 in
    let next : IsNextEntry (spec_of o) (entries_of o) en =
    subst (λ (o : Operator). IsNextEntry (spec_of o) (entries_of o) en) c.in-Window.is (subst (λ (e : Entry). IsNextEntry (spec_of c.args.self.now) (entries_of c.args.self.now) e) c.in-Keyed.is given) in
    ap (λ (s : StoreView Key OpenWindow). all_told told_window s.kept) c.in_ok-insert-in-Window.ensures.inserts
    ∙ ap (λ (w : OpenWindow). all_told told_window (insert_entry key_cmp c.in-Window.windows.kept c.in-Keyed.key w)) made
    ∙ ap (λ (s : Sums). all_told told_window (insert_entry key_cmp c.in-Window.windows.kept c.in-Keyed.key (opened c.in-Window.width c.in-Keyed.window s))) c.told-sums.ensures
    ∙ put_window c.in-Window.by c.in-Window.width c.in-Window.windows.kept c.in-Keyed.key c.in-Keyed.slot c.in-Keyed.qty c.in-Keyed.value c.in-Keyed.window next.0 next.1 sound.1.0 next.3
    ∙ ap (λ (o : Operator). entries_of o ++ en ∷ []) (sym c.in-Window.is) ∙ ap (λ (e : Entry). entries_of c.args.self.now ++ e ∷ []) (sym c.in-Keyed.is)

pub returns-in_ok-insert-in-Window-clause-sound : goal.returns-in_ok-insert-in-Window-clause-sound
returns-in_ok-insert-in-Window-clause-sound c =
    let o : Operator = operator.Window c.in-Window.by c.in-Window.width c.in-Window.windows in
    let sound : IsSound o = subst (λ (o : Operator). IsSound o) c.in-Window.is c.requires.sound in
    let limits : IsSpec (spec_of o) = sound.0 in
    let back : to_z w64 (of_z w64 c.in-Window.width) ≡ c.in-Window.width = omega (arith, ints) in
    let made = rw back at c.in-Some.ensures.1 in (
      sound.0,
      right-changed (IsWindow c.in-Window.width) c.in-Window.windows c.insert-in-Window.new.self c.in-Keyed.key c.in-Some.window sound.1 c.in_ok-insert-in-Window.ensures.inserts
          (subst (λ (w : OpenWindow). IsWindow c.in-Window.width w) (sym made) refl),
    )

pub returns-in_default-numbered-clause-entries : goal.returns-in_default-numbered-clause-entries
returns-in_default-numbered-clause-entries c = λ given.
    let en : Entry = entry.Keyed c.in-Keyed.key c.in-Keyed.slot c.in-Keyed.qty c.in-Keyed.value c.in-Keyed.window in
    let o : Operator = operator.Window c.in-Window.by c.in-Window.width c.in-Window.windows in
    let sound : IsSound o = subst (λ (o : Operator). IsSound o) c.in-Window.is c.requires.sound in
    let back : to_z w64 (of_z w64 c.in-Window.width) ≡ c.in-Window.width = omega (arith, ints) in
    let next : IsNextEntry (spec_of o) (entries_of o) en =
    subst (λ (o : Operator). IsNextEntry (spec_of o) (entries_of o) en) c.in-Window.is (subst (λ (e : Entry). IsNextEntry (spec_of c.args.self.now) (entries_of c.args.self.now) e) c.in-Keyed.is given) in
    absurd (c.in_default-numbered.ensures (subst (λ (z : ℤ). FitsSigned w64 (c.in-Keyed.window *ℤ z)) (sym back)
    (put_window_fits c.in-Window.by c.in-Window.width c.in-Window.windows.kept c.in-Keyed.key c.in-Keyed.slot c.in-Keyed.qty c.in-Keyed.value c.in-Keyed.window next.0 next.1 sound.1.0 sound.0.0 next.2 next.3)))

pub returns-in_ok-put_joined-in-Join-clause-entries : goal.returns-in_ok-put_joined-in-Join-clause-entries
returns-in_ok-put_joined-in-Join-clause-entries c = λ given.
    let en : Entry = entry.Keyed c.in-Keyed.key c.in-Keyed.slot c.in-Keyed.qty c.in-Keyed.value c.in-Keyed.window in
    let o : Operator = operator.Join c.in-Join.by c.in-Join.width c.in-Join.column c.in-Join.compare c.in-Join.limit c.in-Join.join in
    let sound : IsSound o = subst (λ (o : Operator). IsSound o) c.in-Join.is c.requires.sound in
    let next : IsNextEntry (spec_of o) (entries_of o) en =
    subst (λ (o : Operator). IsNextEntry (spec_of o) (entries_of o) en) c.in-Join.is (subst (λ (e : Entry). IsNextEntry (spec_of c.args.self.now) (entries_of c.args.self.now) e) c.in-Keyed.is given) in
    let put : c.put_joined.new.join ≡ joined c.in-Join.join (join_key c.in-Keyed.key) (side_put c.in-Keyed.slot c.in-Keyed.qty c.in-Keyed.value c.in-Keyed.window) =
    c.in_ok-put_joined-in-Join.ensures.keeps ∙ ap (λ (s : Sums). joined c.in-Join.join (join_key c.in-Keyed.key) (side_put c.in-Keyed.slot s.qty s.value c.in-Keyed.window)) c.told-sums.ensures in
    put_joined c.in-Join.by c.in-Join.width (is_left c.in-Join.column c.in-Join.compare c.in-Join.limit) c.in-Join.join c.put_joined.new.join c.in-Keyed.key c.in-Keyed.slot c.in-Keyed.qty c.in-Keyed.value c.in-Keyed.window next.0 next.1
    sound.0.2 sound.0.3 sound.1.0 next.3 put
    ∙ ap (λ (o : Operator). entries_of o ++ en ∷ []) (sym c.in-Join.is) ∙ ap (λ (e : Entry). entries_of c.args.self.now ++ e ∷ []) (sym c.in-Keyed.is)

pub returns-in_ok-put_joined-in-Join-clause-sound : goal.returns-in_ok-put_joined-in-Join-clause-sound
returns-in_ok-put_joined-in-Join-clause-sound c =
    joined_sound c.in-Join.by c.in-Join.width c.in-Join.column c.in-Join.compare c.in-Join.limit c.in-Join.join c.put_joined.new.join c.in-Keyed.key _ _
    (subst (λ (o : Operator). IsSound o) c.in-Join.is c.requires.sound) c.in_ok-put_joined-in-Join.ensures.keeps

pub returns-in_default-clause-entries : goal.returns-in_default-clause-entries
returns-in_default-clause-entries c = λ given.
    absurd (keyed_is c.args.entry.now (next_keyed (spec_of c.args.self.now) given.0 (entries_of c.args.self.now) c.args.entry.now given.1 given.3) c.in_default.not-Keyed)

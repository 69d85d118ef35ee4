use Rattle.std.proofs.Common.{ℕ, ◌≡◌, ◌<◌, List, [], ap, sym, subst, ◌∙◌, length, length-set, get_or}
use Rattle.std.specs.Prelude.{slice_set}
use Rattle.std.proofs.lemmas.List.{get_or-map, length-map}
use Rattle.stream_ops.specs.State.{StateView}
use Rattle.bucket_move.specs.Working.{kept_in, with_state}
use Rattle.bucket_move.specs.declared.partition.Partition.{Partition}
use Rattle.bucket_move.proofs.Moving.{AllLong, each_long, exchanged, with_state-long}
use Rattle.bucket_move.proofs.work.hand_over.Goals as goal

pub exchange-state-requires : goal.exchange-state-requires
exchange-state-requires c = subst (λ (n : ℕ). c.args.bucket < n) (sym (each_long c.args.parts.now c.args.from _ c.requires.from c.requires.slots)) c.requires.bucket

pub exchange-requires : goal.exchange-requires
exchange-requires c =
    let parts = c.args.parts.now in
    let left = slice_set c.args.parts.now c.args.from c.exchange-state.new.self in
    let taken = exchanged parts c.args.from _ c.exchange-state.new.self c.args.bucket c.args.unseen c.requires.from c.exchange-state.ensures.states in
    let from : c.args.from < length (kept_in parts) = subst (λ (n : ℕ). c.args.from < n) (sym (length-map parts (λ (p : Partition). p.states.items))) c.requires.from in
    let to : c.args.to < length left = subst (λ (n : ℕ). c.args.to < n) (sym (length-set parts c.args.from c.exchange-state.new.self)) c.requires.to in
    let long : AllLong (kept_in left) = subst AllLong (sym taken) (with_state-long (kept_in parts) c.args.from c.args.bucket c.args.unseen from c.requires.slots) in
    subst (λ (n : ℕ). c.args.bucket < n) (sym (each_long left c.args.to _ to long)) c.requires.bucket

pub returns : goal.returns
returns c =
    let parts = c.args.parts.now in
    let left = slice_set c.args.parts.now c.args.from c.exchange-state.new.self in
    let taken = exchanged parts c.args.from _ c.exchange-state.new.self c.args.bucket c.args.unseen c.requires.from c.exchange-state.ensures.states in
    let to : c.args.to < length left = subst (λ (n : ℕ). c.args.to < n) (sym (length-set parts c.args.from c.exchange-state.new.self)) c.requires.to in
    let state : c.exchange-state.result ≡ get_or (get_or (kept_in parts) c.args.from []) c.args.bucket c.args.unseen =
    c.exchange-state.ensures.value c.args.unseen
    ∙ ap (λ (states : List StateView). get_or states c.args.bucket c.args.unseen) (sym (get_or-map (λ (p : Partition). p.states.items) parts c.args.from _ [] c.requires.from)) in
    exchanged left c.args.to _ c.exchange.new.self c.args.bucket c.exchange-state.result to c.exchange.ensures.states
    ∙ ap (λ (kept : List (List StateView)). with_state kept c.args.to c.args.bucket c.exchange-state.result) taken
    ∙ ap (λ (s : StateView). with_state (with_state (kept_in parts) c.args.from c.args.bucket c.args.unseen) c.args.to c.args.bucket s) state

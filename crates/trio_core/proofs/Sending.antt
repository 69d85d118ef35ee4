-- What a node sends goes to the messages of its links.
use Rattle.std.proofs.Common.{◌≡◌, ◌∙◌, List, [], ◌∷◌, ◌++◌, Bool, true, false, refl, sym, ap, subst, if◌then◌else◌}
use Rattle.tuple_edge.specs.Input.{Input}
use Rattle.plan_reader.specs.PlanView.{PlanView}
use Rattle.pair_machine.specs.Courses.{Pairwise}
use Rattle.pair_machine.specs.Lists.{Each}
use Rattle.trio_machine.specs.Machine.{messages_to}
use Rattle.trio_machine.specs.Messages.{Envelope, Message}
use Rattle.trio_machine.specs.Numbers.{is_node}
use Rattle.trio_machine.specs.declared.body.TrioBody.{TrioBody}
use Rattle.trio_machine.specs.declared.node.TrioNode.{TrioNode}
use Rattle.trio_nodes.specs.Contents.{ArePacketsFor, BodyStands, HasItem, envelopes_of, message_of}
use Rattle.trio_core.specs.CoreView.{Log}
use Rattle.trio_core.specs.Sent.{bodies_to}
use Rattle.trio_core.specs.Stands.{PacketsStand}
use Rattle.trio_core.proofs.Lists.{pairwise_append}

pub bodies_append : (to : TrioNode) (xs ys : List (TrioNode × TrioBody)) → bodies_to to (xs ++ ys) ≡ bodies_to to xs ++ bodies_to to ys
bodies_append to [] ys = refl
bodies_append to (p ∷ xs) ys = go (is_node p.0 to) (bodies_append to xs ys)
  where
    go : (b : Bool) → bodies_to to (xs ++ ys) ≡ bodies_to to xs ++ bodies_to to ys
        → (if b then p.1 ∷ bodies_to to (xs ++ ys) else bodies_to to (xs ++ ys)) ≡ (if b then p.1 ∷ bodies_to to xs else bodies_to to xs) ++ bodies_to to ys
    go true e = ap (λ r. p.1 ∷ r) e
    go false e = e

module _ (plan : PlanView) (inputs : List Input) where
  to_one : (ps : Log) (to : TrioNode) → Each (λ (p : TrioNode × TrioBody). HasItem plan inputs p.1) ps → Pairwise (BodyStands plan inputs) (bodies_to to ps) (messages_to to (envelopes_of ps))
  to_one [] to h = tt
  to_one (p ∷ ps) to h = go (is_node p.0 to) (to_one ps to h.1)
    where
      go : (b : Bool) → Pairwise (BodyStands plan inputs) (bodies_to to ps) (messages_to to (envelopes_of ps))
          → Pairwise (BodyStands plan inputs) (if b then p.1 ∷ bodies_to to ps else bodies_to to ps) (if b then message_of p.1 ∷ messages_to to (envelopes_of ps) else messages_to to (envelopes_of ps))
      go true r = (record { numbers = refl; item = h.0 }, r)
      go false r = r

  -- packets that stand for envelopes do so link by link
  pub packets_stand : (ps : Log) (es : List Envelope) → ArePacketsFor plan inputs ps es → PacketsStand plan inputs ps (λ to. messages_to to es)
  packets_stand ps es h = λ to. subst (λ k. Pairwise (BodyStands plan inputs) (bodies_to to ps) (messages_to to k)) h.messages (to_one ps to h.items)

  -- and so after what was there already
  pub sent_more : (old new more : Log) (sent : TrioNode → List Message) (es : List Envelope) → new ≡ old ++ more → PacketsStand plan inputs old sent → ArePacketsFor plan inputs more es
      → PacketsStand plan inputs new (λ to. sent to ++ messages_to to es)
  sent_more old new more sent es e h k = λ to.
      let R = BodyStands plan inputs in
      subst (λ bodies. Pairwise R bodies (sent to ++ messages_to to es)) (sym (ap (bodies_to to) e ∙ bodies_append to old more))
      (pairwise_append R (bodies_to to old) (sent to) (bodies_to to more) (messages_to to es) (h to) (packets_stand more es k to))

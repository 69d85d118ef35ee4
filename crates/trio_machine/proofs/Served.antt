-- What the search for a group's server finds.
use Rattle.std.proofs.Common.{◌≡◌, ◌<◌, ◌≤◌, ◌⊎◌, inl, inr, ℕ, zero, suc, Bool, true, false, Option, None, Some, ◌∙◌, refl, sym, subst, arith}
use Rattle.std.specs.Prelude.{if◌then◌else◌, is_none, unwrap_or}
use Rattle.std.specs.Option.{option_or}
use Rattle.std.proofs.lemmas.Bool.{cases_lt, true≢false}
use Rattle.pair_machine.specs.Consumers.{first_below}
use Rattle.pair_machine.specs.Numbers.{Partition}
use Rattle.trio_machine.specs.Reports.{IsRunning, replicas_of}
use Rattle.trio_machine.specs.Drain.{is_lost, is_running, is_serving, server}
use Rattle.trio_machine.specs.Machine.{State, controller_in}
use Rattle.trio_machine.specs.Numbers.{Gone, Replica, Running, control_at, group_size}
use Rattle.trio_machine.specs.Sound.{IsLost, IsServed, Serves}
use Rattle.pair_machine.proofs.Found.{FoundIn, first_found}
use Rattle.pair_machine.proofs.Tests.{both}

-- where nothing is found no number passes the test
none_below : (n : ℕ) (test : ℕ → Bool) → first_below test n ≡ None → (c : ℕ) → c < n → test c ≡ false
none_below zero test e c l = absurd (omega arith)
none_below (suc n) test e c l = go (first_below test n) refl (test n) refl e (λ found. none_below n test found c)
  where
    go : (o : Option ℕ) → first_below test n ≡ o → (b : Bool) → test n ≡ b → option_or o (if b then Some n else None) ≡ None
        → (first_below test n ≡ None → c < n → test c ≡ false) → test c ≡ false
    go (Some j) found b at none before = let z : ⊥ = cc none in absurd z
    go None found true at none before = let z : ⊥ = cc none in absurd z
    go None found false at none before = by (cases_lt c n)
      where
        by : (c < n) ⊎ (n ≤ c) → test c ≡ false
        by (inl less) = before found less
        by (inr after) = subst (λ k. test k ≡ false) (omega arith) at

running_is : (r : Replica) → is_running r ≡ true → IsRunning r
running_is Gone e = cc
running_is (Running x) e = tt

is_running_true : (r : Replica) → IsRunning r → is_running r ≡ true
is_running_true Gone h = absurd h
is_running_true (Running x) h = refl

pub serves_there : (s : State) (p : Partition) (c : ℕ) → c < group_size → is_serving s p c ≡ true → Serves s p c
serves_there s p c l e =
    let z = both (is_running (replicas_of s p c)) ((controller_in (s.nodes (control_at p))).up c) e in
    record { there = l; running = running_is (replicas_of s p c) z.0; counted = z.1 }

serving : (s : State) (p : Partition) (c : ℕ) → Serves s p c → is_serving s p c ≡ true
serving s p c h =
    let r : is_running (replicas_of s p c) ≡ true = is_running_true (replicas_of s p c) h.running in
    let u = h.counted in
    simp (r, u)

-- where no replica is found the group is lost
pub lost_where : (s : State) (p : Partition) → first_below (is_serving s p) group_size ≡ None → IsLost s p
lost_where s p e served = true≢false (sym (serving s p served.0 served.1) ∙ none_below group_size (is_serving s p) e served.0 served.1.there)

-- and where one is, it serves
pub server_serves : (s : State) (p : Partition) → IsServed s p → Serves s p (server s p)
server_serves s p served = go (first_below (is_serving s p) group_size) refl (first_found group_size (is_serving s p))
  where
    go : (o : Option ℕ) → first_below (is_serving s p) group_size ≡ o → FoundIn (is_serving s p) group_size o → Serves s p (unwrap_or o 0)
    go (Some c) e h = serves_there s p c h.1 h.0
    go None e h = absurd (lost_where s p e served)

pub lost_is : (s : State) (p : Partition) → is_lost s p ≡ true → IsLost s p
lost_is s p e = go (first_below (is_serving s p) group_size) refl e
  where
    go : (o : Option ℕ) → first_below (is_serving s p) group_size ≡ o → is_none o ≡ true → IsLost s p
    go (Some c) found none = let z : ⊥ = cc none in absurd z
    go None found none = lost_where s p found

pub served_is : (s : State) (p : Partition) → is_lost s p ≡ false → IsServed s p
served_is s p e = go (first_below (is_serving s p) group_size) e (first_found group_size (is_serving s p))
  where
    go : (o : Option ℕ) → is_none o ≡ false → FoundIn (is_serving s p) group_size o → IsServed s p
    go (Some c) some h = (c, serves_there s p c h.1 h.0)
    go None some h = let z : ⊥ = cc some in absurd z

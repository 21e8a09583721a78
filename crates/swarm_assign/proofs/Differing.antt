-- The difference of two lists by rising task is what each task of either gives.
use Rattle.std.proofs.Common.{◌≡◌, ℕ, ◌≤◌, ◌<◌, Bool, true, false, cond, eqb, List, [], ◌∷◌, ◌++◌, Option, Some, None, refl, ap, ◌∙◌, arith}
use Rattle.std.specs.Prelude.{◌&&◌, ◌||◌, ◌==◌, filter, flat_map, is_some, map, not}
use Rattle.std.proofs.lemmas.Bool.Decides.{nat_tests}
use Rattle.std.proofs.lemmas.List.{map-append}
use Rattle.swarm_assign.proofs.Together.{flat_map-same}
use Rattle.swarm_assign.specs.Inside.Merging.{difference_of, merged}
use Rattle.swarm_objects.proofs.RowLemmas.{Has-from_row_at, RisesFrom-filter}
use Rattle.swarm_objects.proofs.RowChanges.{rising_from}
use Rattle.swarm_objects.proofs.Tests.{or_false}
use Rattle.swarm_objects.specs.Agents.Messages.{assigned_task, change_of, changes_of, is_sent, same_assigned, update_of}
use Rattle.swarm_objects.specs.Rows.{IsRising, RisesFrom, rising, row_at}
use Rattle.swarm_objects.specs.Same.{same_workload}
use Rattle.swarm_objects.specs.Values.Ranks.{desired_rank}
use Rattle.swarm_objects.specs.declared.messages.AssignChange.TheVariants as assign
use Rattle.swarm_objects.specs.declared.messages.Assigned.{Assigned}

-- Another task is never the same.

other-assigned : (a b : Assigned) → (a.task == b.task) ≡ false → same_assigned a b ≡ false
other-assigned a b e =
    ap (λ t. t && desired_rank a.desired == desired_rank b.desired && same_workload a.workload b.workload) e

above-differs : (k n : ℕ) → k < n → (k == n) ≡ false
above-differs k n lt = grind (arith, nat_tests, lt)

none-sent : (n : ℕ) (a : Assigned) (sent : List Assigned) → RisesFrom assigned_task n sent → a.task ≤ n →
    is_sent sent a ≡ false
none-sent n a [] r le = refl
none-sent n a (s ∷ sent) r le =
    ap (λ b. b || is_sent sent a) (other-assigned a s (above-differs a.task s.task (omega (arith, r.0))))
    ∙ none-sent s.task a sent r.1 (omega (arith, r.0))

-- what was sent of the task is the same
abbrev is_sent_so : Assigned → Option Assigned → Bool
is_sent_so a None = false
is_sent_so a (Some s) = same_assigned a s

turned : (a b : ℕ) → eqb a b ≡ eqb b a
turned a b = grind (arith, nat_tests)

equal-number : (a b : ℕ) → eqb a b ≡ true → b ≤ a
equal-number a b e = grind (arith, nat_tests, e)

sent-is : (a : Assigned) (sent : List Assigned) → IsRising assigned_task sent →
    is_sent sent a ≡ is_sent_so a (row_at assigned_task a.task sent)
sent-is a [] r = refl
sent-is a (s ∷ sent) r =
    go (eqb s.task a.task) refl (sent-is a sent (rising_from assigned_task s.task sent r))
  where
    go : (b : Bool) → eqb s.task a.task ≡ b → is_sent sent a ≡ is_sent_so a (row_at assigned_task a.task sent) →
        (same_assigned a s || is_sent sent a) ≡ is_sent_so a (cond b (Some s) (row_at assigned_task a.task sent))
    go true e below =
        ap (λ b. same_assigned a s || b) (none-sent s.task a sent r (equal-number s.task a.task e))
        ∙ or_false (same_assigned a s)
    go false e below =
        ap (λ b. b || is_sent sent a) (other-assigned a s (turned a.task s.task ∙ e)) ∙ below

-- Updates.

no-update : (n k : ℕ) (rows : List Assigned) → RisesFrom assigned_task n rows → k ≤ n → update_of rows k ≡ []
no-update n k [] r le = refl
no-update n k (a ∷ rows) r le =
    ap (λ b. cond b (assign.Update a ∷ []) (update_of rows k))
    (turned a.task k ∙ above-differs k a.task (omega (arith, r.0)))
    ∙ no-update a.task k rows r.1 (omega (arith, r.0))

one-update : (p : Assigned → Bool) (k : ℕ) (due : List Assigned) (d : Assigned) → IsRising assigned_task due →
    row_at assigned_task k due ≡ Some d → update_of (filter p due) k ≡ cond (p d) (assign.Update d ∷ []) []
one-update p k [] d r is = absurd cc
one-update p k (a ∷ due) d r is =
    go (eqb a.task k) refl is (one-update p k due d (rising_from assigned_task a.task due r))
  where
    here : (b : Bool) → p a ≡ b → eqb a.task k ≡ true →
        update_of (cond b (a ∷ filter p due) (filter p due)) k ≡ cond b (assign.Update a ∷ []) []
    here true e f = ap (λ b. cond b (assign.Update a ∷ []) (update_of (filter p due) k)) f
    here false e f =
        no-update a.task k (filter p due) (RisesFrom-filter assigned_task a.task p due r)
        (equal-number a.task k f)

    passed : (b : Bool) → eqb a.task k ≡ false →
        update_of (cond b (a ∷ filter p due) (filter p due)) k ≡ update_of (filter p due) k
    passed true f = ap (λ b. cond b (assign.Update a ∷ []) (update_of (filter p due) k)) f
    passed false f = refl

    go : (b : Bool) → eqb a.task k ≡ b → cond b (Some a) (row_at assigned_task k due) ≡ Some d →
        (row_at assigned_task k due ≡ Some d →
        update_of (filter p due) k ≡ cond (p d) (assign.Update d ∷ []) []) →
        update_of (cond (p a) (a ∷ filter p due) (filter p due)) k ≡ cond (p d) (assign.Update d ∷ []) []
    go true e f below =
        let same : a ≡ d = cc in
        here (p a) refl e ∙ ap (λ (x : Assigned). cond (p x) (assign.Update x ∷ []) []) same
    go false e f below = passed (p a) e ∙ below f

-- the change of a task, by what was sent and is due of it
change-is : (sent due : List Assigned) (k : ℕ) → IsRising assigned_task sent → IsRising assigned_task due →
    change_of sent due k
    ≡ difference_of k (row_at assigned_task k sent) (row_at assigned_task k due)
change-is sent due k r q = go (row_at assigned_task k due) refl
  where
    none : (o : Option Assigned) → assign.Remove k ∷ [] ≡ difference_of k o None
    none None = refl
    none (Some s) = refl

    told : (d : Assigned) (o : Option Assigned) →
        cond (not (is_sent_so d o)) (assign.Update d ∷ []) [] ≡ difference_of k o (Some d)
    told d None = refl
    told d (Some s) = same (same_assigned d s)
      where
        same : (b : Bool) → cond (not b) (assign.Update d ∷ []) [] ≡ cond b [] (assign.Update d ∷ [])
        same true = refl
        same false = refl

    go : (o : Option Assigned) → row_at assigned_task k due ≡ o →
        cond (not (is_some o)) (assign.Remove k ∷ []) (update_of (filter (λ a. not (is_sent sent a)) due) k)
        ≡ difference_of k (row_at assigned_task k sent) o
    go None e = none (row_at assigned_task k sent)
    go (Some d) e =
        one-update (λ a. not (is_sent sent a)) k due d q e
        ∙ ap (λ b. cond (not b) (assign.Update d ∷ []) []) (sent-is d sent r)
        ∙ ap (λ n. cond (not (is_sent_so d (row_at assigned_task n sent))) (assign.Update d ∷ []) [])
        (Has-from_row_at assigned_task k due d e).1
        ∙ told d (row_at assigned_task k sent)

pub changes-are : (sent due : List Assigned) → IsRising assigned_task sent → IsRising assigned_task due →
    changes_of sent due ≡ merged assigned_task assigned_task difference_of sent due
changes-are sent due r q =
    ap (λ ks. flat_map (change_of sent due) (rising ks)) (map-append assigned_task sent due)
    ∙ flat_map-same (change_of sent due)
    (λ k. difference_of k (row_at assigned_task k sent) (row_at assigned_task k due))
    (rising (map assigned_task sent ++ map assigned_task due))
    (λ k h. change-is sent due k r q)

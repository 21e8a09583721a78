-- What a node has by the difference from what it was sent is what was due.
use Rattle.std.proofs.Common.{◌≡◌, ℕ, ◌+◌, ◌≤◌, ◌<◌, zero, suc, length, Bool, true, false, cond, eqb, List, [], ◌∷◌, ◌++◌, refl, sym, ap, subst, ◌∙◌, arith}
use Rattle.std.specs.Bool.{Decides}
use Rattle.std.specs.Prelude.{◌&&◌, ◌==◌, map}
use Rattle.std.specs.Cmp.Lexicographic.{pointwise}
use Rattle.std.proofs.lemmas.Bool.Decides.{Decides-and, Decides-eqb, Decides-like}
use Rattle.swarm_assign.proofs.Together.{Meets, first, second, both, neither, meets, merged_both, merged_first, merged_second}
use Rattle.swarm_assign.specs.Inside.Merging.{change_task, difference_of, left_of, merged}
use Rattle.swarm_objects.proofs.RowLemmas.{RisesFrom-lower}
use Rattle.swarm_objects.proofs.SameLemmas.{Decides-pointwise, Decides-same_workload}
use Rattle.swarm_objects.proofs.RowChanges.{rising_from}
use Rattle.swarm_objects.specs.Agents.Messages.{assigned_task, same_assigned}
use Rattle.swarm_objects.specs.Rows.{IsRising, RisesFrom}
use Rattle.swarm_objects.specs.Same.{same_workload}
use Rattle.swarm_objects.specs.Values.Ranks.{desired_rank}
use Rattle.swarm_objects.specs.declared.messages.AssignChange.{AssignChange}
use Rattle.swarm_objects.specs.declared.messages.AssignChange.TheVariants as assign
use Rattle.swarm_objects.specs.declared.messages.Assigned.{Assigned}
use Rattle.swarm_objects.specs.declared.tasks.Desired.{Desired}
use Rattle.swarm_objects.specs.declared.tasks.Desired.TheVariants as desired

-- The test of equal content decides equality.

desired_of : ℕ → Desired
desired_of n =
    cond (eqb n 384) desired.Ready
    (cond (eqb n 512) desired.Running
    (cond (eqb n 576) desired.Complete (cond (eqb n 640) desired.Shutdown desired.Remove)))

desired-back : (d : Desired) → desired_of (desired_rank d) ≡ d
unfolding desired_of
desired-back desired.Ready = refl
desired-back desired.Running = refl
desired-back desired.Complete = refl
desired-back desired.Shutdown = refl
desired-back desired.Remove = refl

same-desired : (d e : Desired) → desired_rank d ≡ desired_rank e → d ≡ e
same-desired d e same = sym (desired-back d) ∙ ap desired_of same ∙ desired-back e

pub Decides-same_assigned : (a b : Assigned) → Decides (same_assigned a b) (a ≡ b)
Decides-same_assigned a b =
    Decides-like (same_assigned a b)
    (λ e i. record { task = e.0.0 i; desired = same-desired a.desired b.desired e.0.1 i; workload = e.1 i })
    (λ e. (
      (ap (λ (x : Assigned). x.task) e, ap (λ (x : Assigned). desired_rank x.desired) e),
      ap (λ (x : Assigned). x.workload) e,
    ))
    (Decides-and (a.task == b.task && desired_rank a.desired == desired_rank b.desired)
    (same_workload a.workload b.workload)
    (Decides-and (a.task == b.task) (desired_rank a.desired == desired_rank b.desired)
    (Decides-eqb a.task b.task) (Decides-eqb (desired_rank a.desired) (desired_rank b.desired)))
    (Decides-same_workload a.workload b.workload))

pub Decides-all : (xs ys : List Assigned) → Decides (pointwise same_assigned xs ys) (xs ≡ ys)
Decides-all xs ys = Decides-pointwise same_assigned Decides-same_assigned xs ys

-- Differences and what they leave.

abbrev pub differing : List Assigned → List Assigned → List AssignChange
differing sent due = merged assigned_task assigned_task difference_of sent due

abbrev pub left_by : List AssignChange → List Assigned → List Assigned
left_by changes told = merged change_task assigned_task left_of changes told

abbrev Pair : List Assigned → List Assigned → Type 0
Pair sent due = Meets Assigned Assigned assigned_task assigned_task sent due

pair : (n : ℕ) (sent due : List Assigned) → RisesFrom assigned_task n sent → RisesFrom assigned_task n due → Pair sent due
pair n sent due r q =
    meets assigned_task assigned_task sent due (rising_from assigned_task n sent r) (rising_from assigned_task n due q)

-- changes rise, as tasks do

one-more : (n : ℕ) (c : AssignChange) (changes : List AssignChange) → n < change_task c →
    RisesFrom change_task (change_task c) changes → RisesFrom change_task n (c ∷ changes)
one-more n c changes lt r = (lt, r)

at-most-one : (n : ℕ) (b : Bool) (d : Assigned) (changes : List AssignChange) → n < d.task →
    RisesFrom change_task d.task changes →
    RisesFrom change_task n (cond b [] (assign.Update d ∷ []) ++ changes)
at-most-one n true d changes lt r = RisesFrom-lower change_task n d.task changes (omega (arith, lt)) r
at-most-one n false d changes lt r = (lt, r)

-- the same of all smaller pairs of lists
abbrev RiseBelow : List Assigned → List Assigned → Type 0
RiseBelow sent due =
    (k : ℕ) (xs ys : List Assigned) → length xs + length ys < length sent + length due →
    RisesFrom assigned_task k xs → RisesFrom assigned_task k ys → RisesFrom change_task k (differing xs ys)

differing-step : {sent due : List Assigned} (n : ℕ) → RisesFrom assigned_task n sent → RisesFrom assigned_task n due →
    Pair sent due → RiseBelow sent due → RisesFrom change_task n (differing sent due)
differing-step n r q neither below = tt
differing-step n r q (first {x = x} {xs = xs} {ys = ys} a b) below =
    subst (RisesFrom change_task n) (sym (merged_first assigned_task assigned_task difference_of x xs ys a b))
    (one-more n (assign.Remove x.task) (differing xs ys) r.0 (below x.task xs ys (omega arith) a b))
differing-step n r q (second {xs = xs} {y = y} {ys = ys} a b) below =
    subst (RisesFrom change_task n) (sym (merged_second assigned_task assigned_task difference_of xs y ys a b))
    (one-more n (assign.Update y) (differing xs ys) q.0 (below y.task xs ys (omega arith) a b))
differing-step n r q (both {x = x} {xs = xs} {y = y} {ys = ys} e a b) below =
    subst (RisesFrom change_task n) (sym (merged_both assigned_task assigned_task difference_of x xs y ys e a b))
    (at-most-one n (same_assigned y x) y (differing xs ys) q.0
    (below y.task xs ys (omega arith) (subst (λ k. RisesFrom assigned_task k xs) (sym e) a) b))

differing-rises : (fuel n : ℕ) (sent due : List Assigned) → length sent + length due ≤ fuel →
    RisesFrom assigned_task n sent → RisesFrom assigned_task n due → RisesFrom change_task n (differing sent due)
differing-rises zero n [] [] le r q = tt
differing-rises zero n [] (y ∷ ys) le r q = absurd (omega (arith, le))
differing-rises zero n (x ∷ xs) due le r q = absurd (omega (arith, le))
differing-rises (suc fuel) n sent due le r q =
    differing-step n r q (pair n sent due r q)
    (λ k xs ys lt a b. differing-rises fuel k xs ys (omega (arith, le, lt)) a b)

rises : (n : ℕ) (sent due : List Assigned) → RisesFrom assigned_task n sent → RisesFrom assigned_task n due →
    RisesFrom change_task n (differing sent due)
rises n sent due r q = differing-rises (length sent + length due) n sent due (omega arith) r q

is-rising-step : {sent due : List Assigned} → Pair sent due → IsRising change_task (differing sent due)
is-rising-step neither = tt
is-rising-step (first {x = x} {xs = xs} {ys = ys} a b) =
    subst (IsRising change_task) (sym (merged_first assigned_task assigned_task difference_of x xs ys a b))
    (rises x.task xs ys a b)
is-rising-step (second {xs = xs} {y = y} {ys = ys} a b) =
    subst (IsRising change_task) (sym (merged_second assigned_task assigned_task difference_of xs y ys a b))
    (rises y.task xs ys a b)
is-rising-step (both {x = x} {xs = xs} {y = y} {ys = ys} e a b) =
    subst (IsRising change_task) (sym (merged_both assigned_task assigned_task difference_of x xs y ys e a b))
    (go (same_assigned y x) (rises y.task xs ys (subst (λ k. RisesFrom assigned_task k xs) (sym e) a) b))
  where
    go : (c : Bool) → RisesFrom change_task y.task (differing xs ys) →
        IsRising change_task (cond c [] (assign.Update y ∷ []) ++ differing xs ys)
    go true h = rising_from change_task y.task (differing xs ys) h
    go false h = h

pub differing-is-rising : (sent due : List Assigned) → IsRising assigned_task sent → IsRising assigned_task due →
    IsRising change_task (differing sent due)
differing-is-rising sent due r q = is-rising-step (meets assigned_task assigned_task sent due r q)

-- by the difference a node has what was due

abbrev LeftBelow : List Assigned → List Assigned → Type 0
LeftBelow sent due =
    (xs ys : List Assigned) → length xs + length ys < length sent + length due →
    IsRising assigned_task xs → IsRising assigned_task ys → left_by (differing xs ys) xs ≡ ys

left-both : (x : Assigned) (xs : List Assigned) (y : Assigned) (ys : List Assigned) → y.task ≡ x.task →
    RisesFrom assigned_task x.task xs → RisesFrom assigned_task y.task ys →
    left_by (differing xs ys) xs ≡ ys → (c : Bool) → same_assigned y x ≡ c →
    left_by (cond c [] (assign.Update y ∷ []) ++ differing xs ys) (x ∷ xs) ≡ y ∷ ys
left-both x xs y ys e a b below true same =
    let is : y ≡ x = (Decides-same_assigned y x).0 same in
    merged_second change_task assigned_task left_of (differing xs ys) x xs
    (rises x.task xs ys a (subst (λ k. RisesFrom assigned_task k ys) e b)) a
    ∙ ap (λ zs. x ∷ zs) below
    ∙ ap (λ z. z ∷ ys) (sym is)
left-both x xs y ys e a b below false same =
    merged_both change_task assigned_task left_of (assign.Update y) (differing xs ys) x xs (sym e)
    (rises y.task xs ys (subst (λ k. RisesFrom assigned_task k xs) (sym e) a) b) a
    ∙ ap (λ zs. y ∷ zs) below

left-step : {sent due : List Assigned} → Pair sent due → LeftBelow sent due → left_by (differing sent due) sent ≡ due
left-step neither below = refl
left-step (first {x = x} {xs = xs} {ys = ys} a b) below =
    ap (λ cs. left_by cs (x ∷ xs)) (merged_first assigned_task assigned_task difference_of x xs ys a b)
    ∙ merged_both change_task assigned_task left_of (assign.Remove x.task) (differing xs ys) x xs refl
    (rises x.task xs ys a b) a
    ∙ below xs ys (omega arith) (rising_from assigned_task x.task xs a) (rising_from assigned_task x.task ys b)
left-step (second {xs = xs} {y = y} {ys = ys} a b) below =
    ap (λ cs. left_by cs xs) (merged_second assigned_task assigned_task difference_of xs y ys a b)
    ∙ merged_first change_task assigned_task left_of (assign.Update y) (differing xs ys) xs (rises y.task xs ys a b) a
    ∙ ap (λ zs. y ∷ zs)
    (below xs ys (omega arith) (rising_from assigned_task y.task xs a) (rising_from assigned_task y.task ys b))
left-step (both {x = x} {xs = xs} {y = y} {ys = ys} e a b) below =
    ap (λ cs. left_by cs (x ∷ xs)) (merged_both assigned_task assigned_task difference_of x xs y ys e a b)
    ∙ left-both x xs y ys e a b
    (below xs ys (omega arith) (rising_from assigned_task x.task xs a) (rising_from assigned_task y.task ys b))
    (same_assigned y x) refl

left-is : (fuel : ℕ) (sent due : List Assigned) → length sent + length due ≤ fuel → IsRising assigned_task sent →
    IsRising assigned_task due → left_by (differing sent due) sent ≡ due
left-is zero [] [] le r q = refl
left-is zero [] (y ∷ ys) le r q = absurd (omega (arith, le))
left-is zero (x ∷ xs) due le r q = absurd (omega (arith, le))
left-is (suc fuel) sent due le r q =
    left-step (meets assigned_task assigned_task sent due r q)
    (λ xs ys lt a b. left-is fuel xs ys (omega (arith, le, lt)) a b)

pub left-due : (sent due : List Assigned) → IsRising assigned_task sent → IsRising assigned_task due →
    left_by (differing sent due) sent ≡ due
left-due sent due r q = left-is (length sent + length due) sent due (omega arith) r q

-- nothing differs from itself, and no changes leave all as it was

nothing-from : (n : ℕ) (due : List Assigned) → RisesFrom assigned_task n due → differing due due ≡ []
nothing-from n [] r = refl
nothing-from n (d ∷ due) r =
    merged_both assigned_task assigned_task difference_of d due d due refl r.1 r.1
    ∙ ap (λ b. cond b [] (assign.Update d ∷ []) ++ differing due due) ((Decides-same_assigned d d).1 refl)
    ∙ nothing-from d.task due r.1

pub nothing-differs : (due : List Assigned) → IsRising assigned_task due → differing due due ≡ []
nothing-differs [] r = refl
nothing-differs (d ∷ due) r =
    merged_both assigned_task assigned_task difference_of d due d due refl r r
    ∙ ap (λ b. cond b [] (assign.Update d ∷ []) ++ differing due due) ((Decides-same_assigned d d).1 refl)
    ∙ nothing-from d.task due r

pub unchanged : (told : List Assigned) → IsRising assigned_task told → left_by [] told ≡ told
unchanged [] r = refl
unchanged (a ∷ told) r =
    merged_second change_task assigned_task left_of [] a told tt r
    ∙ ap (λ zs. a ∷ zs) (unchanged told (rising_from assigned_task a.task told r))

-- a whole message

updates-rise-from : (n : ℕ) (due : List Assigned) → RisesFrom assigned_task n due →
    RisesFrom change_task n (map assign.Update due)
updates-rise-from n [] r = tt
updates-rise-from n (d ∷ due) r = (r.0, updates-rise-from d.task due r.1)

pub updates-rise : (due : List Assigned) → IsRising assigned_task due → IsRising change_task (map assign.Update due)
updates-rise [] r = tt
updates-rise (d ∷ due) r = updates-rise-from d.task due r

pub all-updated : (due : List Assigned) → IsRising assigned_task due → left_by (map assign.Update due) [] ≡ due
all-updated [] r = refl
all-updated (d ∷ due) r =
    merged_first change_task assigned_task left_of (assign.Update d) (map assign.Update due) []
    (updates-rise-from d.task due r) tt
    ∙ ap (λ zs. d ∷ zs) (all-updated due (rising_from assigned_task d.task due r))

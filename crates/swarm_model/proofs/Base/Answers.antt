-- What holds of whatever world a call leaves: the answers of calls and of operations, taken apart.
use Rattle.std.proofs.Common.{◌≡◌, ℕ, Bool, true, false, cond, List, [], ◌++◌, refl, subst, Option, Some, None, Ok, Err, Result, ◌∷◌}
use Rattle.std.specs.Prelude.{OnOk, ⊤}
use Rattle.swarm_model.specs.Calls.Operations.{apply_op, apply_ops}
use Rattle.swarm_model.specs.Calls.Refusals.{Done, found}
use Rattle.swarm_objects.specs.Refusals.{first_refusal, refuse, unless}
use Rattle.swarm_objects.specs.World.{World}
use Rattle.swarm_objects.specs.declared.calls.Op.{Op}
use Rattle.swarm_objects.specs.declared.ids.Kind.{Kind}
use Rattle.swarm_objects.specs.declared.replies.Refusal.{Refusal}
use Rattle.swarm_objects.specs.declared.replies.Wanted.{Wanted}

-- the fact, of what is given where nothing refuses
abbrev pub OnGiven : {X : Type 0} → (X → Type 0) → Result X Refusal → Type 0
OnGiven P (Ok x) = P x
OnGiven P (Err r) = ⊤

pub given-unless : {X : Type 0} (P : X → Type 0) (r : Option Refusal) (x : X) → (r ≡ None → P x) → OnGiven P (unless r x)
given-unless P None x holds = holds refl
given-unless P (Some r) x holds = tt

pub given-found : {X Y : Type 0} (P : Y → Type 0) (k : Kind) (asked : Wanted) (row : Option X) (next : X → Result Y Refusal) →
    ((x : X) → row ≡ Some x → OnGiven P (next x)) → OnGiven P (found k asked row next)
given-found P k asked None next holds = tt
given-found P k asked (Some x) next holds = holds x refl

-- where a test may refuse
pub given-if : {X : Type 0} (P : X → Type 0) (b : Bool) (x : Result X Refusal) (r : Refusal) → (b ≡ true → OnGiven P x) →
    OnGiven P (cond b x (Err r))
given-if P true x r holds = holds refl
given-if P false x r holds = tt

pub given-if_not : {X : Type 0} (P : X → Type 0) (b : Bool) (x : Result X Refusal) (r : Refusal) → (b ≡ false → OnGiven P x) →
    OnGiven P (cond b (Err r) x)
given-if_not P true x r holds = tt
given-if_not P false x r holds = holds refl

-- where a refusal comes first
pub given-unless_some : {X : Type 0} (P : X → Type 0) (r : Option Refusal) (x : Result X Refusal) → (r ≡ None → OnGiven P x) →
    OnGiven P (elim r [ Some q ↦ Err q | None ↦ x ])
given-unless_some P None x holds = holds refl
given-unless_some P (Some q) x holds = tt

pub given-is : {X : Type 0} (P : X → Type 0) (given : Result X Refusal) (x : X) → OnGiven P given → given ≡ Ok x → P x
given-is P (Ok y) x holds e = let same : y ≡ x = cc in subst P same holds
given-is P (Err r) x holds e = absurd cc

-- none of these refuses where the first of them is none
pub none_of : (r : Option Refusal) (rest : List (Option Refusal)) → first_refusal (r ∷ rest) ≡ None →
    (r ≡ None) × (first_refusal rest ≡ None)
none_of None rest e = (refl, e)
none_of (Some r) rest e = absurd cc

pub not_refused : (b : Bool) (r : Refusal) → refuse b r ≡ None → b ≡ false
not_refused true r e = absurd cc
not_refused false r e = refl

-- Operations: a fact of two worlds that passes from step to step holds of the first and the last one.

abbrev pub OnDone : (World → Type 0) → Done → Type 0
OnDone P done = OnGiven (λ (d : World × ℕ). P d.0) done

ops_step : (P : World → Type 0) (version : ℕ) (ops : List Op) (ids : List ℕ) (done : Done) → OnDone P done →
    ((one : World × ℕ) → P one.0 → OnGiven (λ (d : World × List ℕ). P d.0) (apply_ops version ops one.0 (ids ++ one.1 ∷ []))) →
    OnGiven (λ (d : World × List ℕ). P d.0)
    (elim done [ Ok one ↦ apply_ops version ops one.0 (ids ++ one.1 ∷ []) | Err r ↦ Err r ])
ops_step P version ops ids (Ok one) holds rest = rest one holds
ops_step P version ops ids (Err r) holds rest = tt

-- what each operation keeps, all of them keep
pub ops-keep : (P : World → Type 0) (version : ℕ) → ((w : World) (o : Op) → P w → OnDone P (apply_op version w o)) →
    (ops : List Op) (w : World) (ids : List ℕ) → P w → OnGiven (λ (d : World × List ℕ). P d.0) (apply_ops version ops w ids)
ops-keep P version keeps [] w ids holds = holds
ops-keep P version keeps (o ∷ ops) w ids holds =
    ops_step P version ops ids (apply_op version w o) (keeps w o holds)
    (λ one one_holds. ops-keep P version keeps ops one.0 (ids ++ one.1 ∷ []) one_holds)

pub on-ok : {X E : Type 0} {P Q : Type 0} (r : Result X E) → (P → Q) → OnOk r P → OnOk r Q
on-ok (Ok x) f h = f h
on-ok (Err e) f h = h

-- Where the executors come from that an agent has once its inbox is applied.
use Rattle.std.proofs.Common.{Bool, List, None, Option, Some, [], ap, arith, cond, eqb, false, inl, inr, not, refl, subst, sym, true, ℕ, ◌∙◌, ◌∷◌, ◌≡◌, ◌⊎◌}
use Rattle.std.proofs.lemmas.Bool.Decides.{nat_tests}
use Rattle.std.specs.List.{list_any}
use Rattle.std.specs.Option.{option_map}
use Rattle.std.specs.Prelude.{fold, is_some, ◌&&◌}
use Rattle.swarm_objects.proofs.Aims.{Aim, aim}
use Rattle.swarm_objects.proofs.Hearing.{applied-at, heard}
use Rattle.swarm_objects.proofs.RowLemmas.{Has-from_row_at}
use Rattle.swarm_objects.specs.Agents.Hearing.{aimed_or_new}
use Rattle.swarm_objects.specs.Agents.Messages.{applied, assigned_task, gone_executor, left_out, names}
use Rattle.swarm_objects.specs.Rows.{Has, executor_task, row_at}
use Rattle.swarm_objects.specs.World.{Tables}
use Rattle.swarm_objects.specs.declared.agents.Executor.{Executor}
use Rattle.swarm_objects.specs.declared.messages.AssignChange.TheVariants as assign
use Rattle.swarm_objects.specs.declared.messages.AssignChange.{AssignChange}
use Rattle.swarm_objects.specs.declared.messages.Assigned.{Assigned}
use Rattle.swarm_objects.specs.declared.messages.Message.{Message}
use Rattle.swarm_objects.specs.declared.messages.NodeSent.{NodeSent}
use Rattle.swarm_objects.specs.declared.tasks.TaskState.TheVariants as state
use Rattle.swarm_settle.proofs.Aims.{aim_at, applied-aims, is_gone, stays-gone, will}
use Rattle.swarm_settle.proofs.InStep.{InStep}

-- as far as it has come, with the same work
pub record SameProgress (e f : Executor) : Type 0 where
  pub state : f.state ≡ e.state
  pub since : f.since ≡ e.since
  pub workload : f.workload ≡ e.workload

progress-same : (e : Executor) → SameProgress e e
progress-same e = record { state = refl; since = refl; workload = refl }

-- an update made it
pub record IsMadeBy (i : Assigned) (f : Executor) : Type 0 where
  pub state : f.state ≡ state.Accepted
  pub workload : f.workload ≡ i.workload

-- it was there, or an update of its task made it
abbrev pub ComesFrom : ℕ → Option Executor → List AssignChange → Executor → Type 0
ComesFrom x o cs f =
    ((e : Executor) × (o ≡ Some e) × SameProgress e f)
    ⊎ ((i : Assigned) × Has cs (assign.Update i) × (i.task ≡ x) × IsMadeBy i f)

some-is : {A : Type 0} (a b : A) → Some a ≡ Some b → a ≡ b
some-is a b e = cc

heard-from : (clock x : ℕ) (c : AssignChange) (o : Option Executor) (f : Executor) → heard clock x c o ≡ Some f →
    ComesFrom x o (c ∷ []) f
heard-from clock x (assign.Update a) o f at = go (eqb a.task x) refl o at
  where
    go : (b : Bool) → eqb a.task x ≡ b → (o : Option Executor) → cond b (Some (aimed_or_new clock a o)) o ≡ Some f →
        ComesFrom x o (assign.Update a ∷ []) f
    go true e None at =
        let is = some-is (aimed_or_new clock a None) f at in
        inr (
          a,
          inl refl,
          grind (arith, nat_tests, e),
          subst (IsMadeBy a) is (record { state = refl; workload = refl }),
        )
    go true e (Some g) at =
        inl (
          g,
          refl,
          subst (SameProgress g) (some-is (aimed_or_new clock a (Some g)) f at)
              (record { state = refl; since = refl; workload = refl }),
        )
    go false e o at = inl (f, at, progress-same f)
heard-from clock x (assign.Remove gone) o f at = go (eqb gone x) o at
  where
    go : (b : Bool) (o : Option Executor) → cond b (option_map gone_executor o) o ≡ Some f →
        ComesFrom x o (assign.Remove gone ∷ []) f
    go true None at = absurd cc
    go true (Some g) at =
        inl (
          g,
          refl,
          subst (SameProgress g) (some-is (gone_executor g) f at)
              (record { state = refl; since = refl; workload = refl }),
        )
    go false o at = inl (f, at, progress-same f)

-- further progress, and further changes
from-later : (x : ℕ) (o : Option Executor) (c : AssignChange) (cs : List AssignChange) (e f : Executor) →
    SameProgress e f → ComesFrom x o (c ∷ []) e → ComesFrom x o (c ∷ cs) f
from-later x o c cs e f same (inl k) =
    inl (
      k.0,
      k.1,
      record {
        state = same.state ∙ k.2.state;
        since = same.since ∙ k.2.since;
        workload = same.workload ∙ k.2.workload;
      },
    )
from-later x o c cs e f same (inr (i, inl h, number, made)) =
    inr (i, inl h, number, record { state = same.state ∙ made.state; workload = same.workload ∙ made.workload })
from-later x o c cs e f same (inr (i, inr none, number, made)) = absurd none

hear-from : (clock x : ℕ) (cs : List AssignChange) (o : Option Executor) (f : Executor) →
    fold (λ e c. heard clock x c e) o cs ≡ Some f → ComesFrom x o cs f
hear-from clock x [] o f at = inl (f, at, progress-same f)
hear-from clock x (c ∷ cs) o f at = go (hear-from clock x cs (heard clock x c o) f at)
  where
    go : ComesFrom x (heard clock x c o) cs f → ComesFrom x o (c ∷ cs) f
    go (inl k) = from-later x o c cs k.0 f k.2 (heard-from clock x c o k.0 k.1)
    go (inr (i, h, number, made)) = inr (i, inr h, number, made)

left-progress : (m : Message) (e : Executor) → SameProgress e (left_out m e)
left-progress m e = go (m.complete && not (list_any (names e.task) m.changes))
  where
    go : (b : Bool) → SameProgress e (cond b (gone_executor e) e)
    go true = record { state = refl; since = refl; workload = refl }
    go false = progress-same e

-- an executor of an agent that has applied the message
pub applied-from : (clock x : ℕ) (m : Message) (es : List Executor) (f : Executor) →
    row_at executor_task x (applied clock m es) ≡ Some f → ComesFrom x (row_at executor_task x es) m.changes f
applied-from clock x m es f at =
    go (fold (λ e c. heard clock x c e) (row_at executor_task x es) m.changes) refl
    (sym (applied-at clock x m es) ∙ at)
  where
    go : (o : Option Executor) → fold (λ e c. heard clock x c e) (row_at executor_task x es) m.changes ≡ o →
        option_map (left_out m) o ≡ Some f → ComesFrom x (row_at executor_task x es) m.changes f
    go None e k = absurd cc
    go (Some g) e k =
        let same : SameProgress g f = subst (SameProgress g) (some-is (left_out m g) f k) (left-progress m g) in
        more same (hear-from clock x m.changes (row_at executor_task x es) g e)
      where
        more : SameProgress g f → ComesFrom x (row_at executor_task x es) m.changes g →
            ComesFrom x (row_at executor_task x es) m.changes f
        more same (inl k) =
            inl (
              k.0,
              k.1,
              record {
                state = same.state ∙ k.2.state;
                since = same.since ∙ k.2.since;
                workload = same.workload ∙ k.2.workload;
              },
            )
        more same (inr (i, h, number, made)) =
            inr (i, h, number, record { state = same.state ∙ made.state; workload = same.workload ∙ made.workload })

-- No message takes an executor away.

heard-stays : (clock x : ℕ) (c : AssignChange) (e : Executor) →
    (f : Executor) × (heard clock x c (Some e) ≡ Some f)
heard-stays clock x (assign.Update a) e = go (eqb a.task x)
  where
    go : (b : Bool) → (f : Executor) × (cond b (Some (aimed_or_new clock a (Some e))) (Some e) ≡ Some f)
    go true = (aimed_or_new clock a (Some e), refl)
    go false = (e, refl)
heard-stays clock x (assign.Remove gone) e = go (eqb gone x)
  where
    go : (b : Bool) → (f : Executor) × (cond b (Some (gone_executor e)) (Some e) ≡ Some f)
    go true = (gone_executor e, refl)
    go false = (e, refl)

hear-stays : (clock x : ℕ) (cs : List AssignChange) (e : Executor) →
    (f : Executor) × (fold (λ e c. heard clock x c e) (Some e) cs ≡ Some f)
hear-stays clock x [] e = (e, refl)
hear-stays clock x (c ∷ cs) e =
    let next = heard-stays clock x c e in
    let last = hear-stays clock x cs next.0 in
    (last.0, ap (λ (o : Option Executor). fold (λ e c. heard clock x c e) o cs) next.1 ∙ last.1)

pub applied-stays : (clock x : ℕ) (m : Message) (es : List Executor) (e : Executor) →
    row_at executor_task x es ≡ Some e → (f : Executor) × (row_at executor_task x (applied clock m es) ≡ Some f)
applied-stays clock x m es e at =
    let last = hear-stays clock x m.changes e in (
      left_out m last.0,
      applied-at clock x m es
          ∙ ap (λ (o : Option Executor). option_map (left_out m) (fold (λ e c. heard clock x c e) o m.changes)) at
          ∙ ap (option_map (left_out m)) last.1,
    )

-- Aims.

its-aim : (o : Option Executor) (p : Aim) → option_map aim o ≡ Some p → (e : Executor) × (o ≡ Some e) × (aim e ≡ p)
its-aim None p at = absurd cc
its-aim (Some e) p at = (e, refl, some-is (aim e) p at)

-- who has an aim will have one
pub will-stay : (x : ℕ) (inbox : Option Message) (es : List Executor) (p : Aim) → aim_at es x ≡ Some p →
    (q : Aim) × (will x inbox (aim_at es x) ≡ Some q)
will-stay x None es p at = (p, at)
will-stay x (Some m) es p at =
    let e = its-aim (row_at executor_task x es) p at in
    let f = applied-stays 0 x m es e.0 e.1 in
    (aim f.0, sym (applied-aims 0 x m es) ∙ ap (option_map aim) f.1)

-- what comes of nothing has an update
pub will-update : (x : ℕ) (inbox : Option Message) (q : Aim) → will x inbox None ≡ Some q →
    (m : Message) × (inbox ≡ Some m) × (i : Assigned) × Has m.changes (assign.Update i) × (i.task ≡ x)
will-update x None q at = absurd cc
will-update x (Some m) q at =
    let f = its-aim (row_at executor_task x (applied 0 m [])) q (applied-aims 0 x m [] ∙ at) in
    go (applied-from 0 x m [] f.0 f.1)
  where
    go : {f : Executor} → ComesFrom x None m.changes f →
        (n : Message) × (Some m ≡ Some n) × (i : Assigned) × Has n.changes (assign.Update i) × (i.task ≡ x)
    go (inl k) = absurd (let wrong : None ≡ Some k.0 = k.1 in cc)
    go (inr (i, h, number, made)) = (m, refl, i, h, number)

-- of an executor that is gone there is no update
pub no-update : (t : Tables) (sent : Option NodeSent) (inbox : Option Message) (now : ℕ → Option Aim) (x : ℕ) →
    InStep t sent inbox now → is_gone (now x) ≡ true → will x inbox None ≡ None
no-update t sent inbox now x is dead = go (will x inbox None) refl
  where
    its : (s : NodeSent) → sent ≡ Some s → (o : Option Assigned) → row_at assigned_task x s.tasks ≡ o →
        is_some o ≡ true → ⊥
    its s e None at there = absurd cc
    its s e (Some i) at there =
        let row = Has-from_row_at assigned_task x s.tasks i at in
        let said : will x inbox (now x) ≡ Some (i.desired, false) =
        subst (λ (y : ℕ). will y inbox (now y) ≡ Some (i.desired, false)) row.1 (is.items s i e row.0) in
        absurd (let no : false ≡ true =
        subst (λ (o : Option Aim). is_gone o ≡ true) said (stays-gone x inbox (now x) dead) in cc)

    go : (o : Option Aim) → will x inbox None ≡ o → o ≡ None
    go None e = refl
    go (Some p) e =
        let from = is.made x (ap is_some e) in
        absurd (its from.0 from.1 (row_at assigned_task x from.0.tasks) refl from.2)

-- What is wanted of an executor and whether it is gone: what a message makes of that, task by task.
use Rattle.swarm_objects.proofs.Aims.{Aim, aim}
use Rattle.std.proofs.Common.{Bool, List, None, Option, Some, [], ap, arith, cond, eqb, false, inl, inr, not, refl, subst, sym, true, ℕ, ◌∙◌, ◌∷◌, ◌≡◌}
use Rattle.std.proofs.lemmas.Bool.Decides.{nat_tests}
use Rattle.std.specs.List.{list_any}
use Rattle.std.specs.Option.{option_map}
use Rattle.std.specs.Prelude.{fold, is_some, ◌&&◌}
use Rattle.swarm_objects.proofs.Hearing.{applied-at, heard}
use Rattle.swarm_objects.specs.Agents.Hearing.{aimed_or_new}
use Rattle.swarm_objects.proofs.RowLemmas.{Has-from_row_at}
use Rattle.swarm_objects.specs.Agents.Messages.{applied, gone_executor, left_out, names}
use Rattle.swarm_objects.specs.Rows.{Has, executor_task, row_at}
use Rattle.swarm_objects.specs.declared.agents.Executor.{Executor}
use Rattle.swarm_objects.specs.declared.messages.AssignChange.TheVariants as assign
use Rattle.swarm_objects.specs.declared.messages.AssignChange.{AssignChange}
use Rattle.swarm_objects.specs.declared.messages.Assigned.{Assigned}
use Rattle.swarm_objects.specs.declared.messages.Message.{Message}

-- the aim of the task's executor
abbrev pub aim_at : List Executor → ℕ → Option Aim
aim_at es x = option_map aim (row_at executor_task x es)

abbrev pub is_gone : Option Aim → Bool
is_gone None = false
is_gone (Some p) = p.1

abbrev pub is_kept : Option Aim → Bool
is_kept None = false
is_kept (Some p) = not p.1

abbrev pub gone_aim : Aim → Aim
gone_aim p = (p.0, true)

abbrev pub aimed_at : Assigned → Option Aim → Aim
aimed_at a None = (a.desired, false)
aimed_at a (Some p) = (a.desired, p.1)

abbrev heard_aim : ℕ → Option Aim → AssignChange → Option Aim
heard_aim x o (assign.Update a) = cond (eqb a.task x) (Some (aimed_at a o)) o
heard_aim x o (assign.Remove gone) = cond (eqb gone x) (option_map gone_aim o) o

abbrev left_aim : Message → ℕ → Aim → Aim
left_aim m x p = cond (m.complete && not (list_any (names x) m.changes)) (gone_aim p) p

-- the aim once the inbox is applied
abbrev pub will : ℕ → Option Message → Option Aim → Option Aim
will x None o = o
will x (Some m) o = option_map (left_aim m x) (fold (heard_aim x) o m.changes)

-- Applying, seen by aims.

heard-aims : (clock x : ℕ) (c : AssignChange) (o : Option Executor) →
    option_map aim (heard clock x c o) ≡ heard_aim x (option_map aim o) c
heard-aims clock x (assign.Update a) o = go (eqb a.task x) o
  where
    go : (b : Bool) (o : Option Executor) →
        option_map aim (cond b (Some (aimed_or_new clock a o)) o)
        ≡ cond b (Some (aimed_at a (option_map aim o))) (option_map aim o)
    go true None = refl
    go true (Some e) = refl
    go false o = refl
heard-aims clock x (assign.Remove gone) o = go (eqb gone x) o
  where
    go : (b : Bool) (o : Option Executor) →
        option_map aim (cond b (option_map gone_executor o) o)
        ≡ cond b (option_map gone_aim (option_map aim o)) (option_map aim o)
    go true None = refl
    go true (Some e) = refl
    go false o = refl

all-aims : (clock x : ℕ) (cs : List AssignChange) (o : Option Executor) →
    option_map aim (fold (λ e c. heard clock x c e) o cs) ≡ fold (heard_aim x) (option_map aim o) cs
all-aims clock x [] o = refl
all-aims clock x (c ∷ cs) o =
    all-aims clock x cs (heard clock x c o) ∙ ap (λ (p : Option Aim). fold (heard_aim x) p cs) (heard-aims clock x c o)

abbrev IsOf : ℕ → Option Executor → Type 0
IsOf x o = (f : Executor) → o ≡ Some f → f.task ≡ x

heard-own : (clock x : ℕ) (c : AssignChange) (o : Option Executor) → IsOf x o → IsOf x (heard clock x c o)
heard-own clock x (assign.Update a) o own = go (eqb a.task x) refl o own
  where
    go : (b : Bool) → eqb a.task x ≡ b → (o : Option Executor) → IsOf x o →
        IsOf x (cond b (Some (aimed_or_new clock a o)) o)
    go true same None own f at =
        let is : aimed_or_new clock a None ≡ f = cc in
        subst (λ (z : Executor). z.task ≡ x) is (grind (arith, nat_tests, same))
    go true same (Some e) own f at =
        let is : aimed_or_new clock a (Some e) ≡ f = cc in subst (λ (z : Executor). z.task ≡ x) is (own e refl)
    go false other o own f at = own f at
heard-own clock x (assign.Remove gone) o own = go (eqb gone x) o own
  where
    go : (b : Bool) (o : Option Executor) → IsOf x o → IsOf x (cond b (option_map gone_executor o) o)
    go true None own f at = absurd cc
    go true (Some e) own f at =
        let is : gone_executor e ≡ f = cc in subst (λ (z : Executor). z.task ≡ x) is (own e refl)
    go false o own f at = own f at

all-own : (clock x : ℕ) (cs : List AssignChange) (o : Option Executor) → IsOf x o →
    IsOf x (fold (λ e c. heard clock x c e) o cs)
all-own clock x [] o own = own
all-own clock x (c ∷ cs) o own = all-own clock x cs (heard clock x c o) (heard-own clock x c o own)

left-aims : (m : Message) (x : ℕ) (o : Option Executor) → IsOf x o →
    option_map aim (option_map (left_out m) o) ≡ option_map (left_aim m x) (option_map aim o)
left-aims m x None own = refl
left-aims m x (Some e) own =
    ap (λ (p : Aim). Some p)
    (go (m.complete && not (list_any (names e.task) m.changes))
    ∙ ap (λ (k : ℕ). left_aim m k (aim e)) (own e refl))
  where
    go : (b : Bool) → aim (cond b (gone_executor e) e) ≡ cond b (gone_aim (aim e)) (aim e)
    go true = refl
    go false = refl

pub applied-aims : (clock x : ℕ) (m : Message) (es : List Executor) →
    aim_at (applied clock m es) x ≡ will x (Some m) (aim_at es x)
applied-aims clock x m es =
    ap (option_map aim) (applied-at clock x m es)
    ∙ left-aims m x (fold (λ e c. heard clock x c e) (row_at executor_task x es) m.changes)
    (all-own clock x m.changes (row_at executor_task x es) (λ f at. (Has-from_row_at executor_task x es f at).1))
    ∙ ap (option_map (left_aim m x)) (all-aims clock x m.changes (row_at executor_task x es))

-- What is gone stays gone.

heard-gone : (x : ℕ) (c : AssignChange) (o : Option Aim) → is_gone o ≡ true → is_gone (heard_aim x o c) ≡ true
heard-gone x (assign.Update a) None is = absurd cc
heard-gone x (assign.Update a) (Some p) is = go (eqb a.task x)
  where
    go : (b : Bool) → is_gone (cond b (Some (a.desired, p.1)) (Some p)) ≡ true
    go true = is
    go false = is
heard-gone x (assign.Remove gone) None is = absurd cc
heard-gone x (assign.Remove gone) (Some p) is = go (eqb gone x)
  where
    go : (b : Bool) → is_gone (cond b (Some (gone_aim p)) (Some p)) ≡ true
    go true = refl
    go false = is

all-gone : (x : ℕ) (cs : List AssignChange) (o : Option Aim) → is_gone o ≡ true →
    is_gone (fold (heard_aim x) o cs) ≡ true
all-gone x [] o is = is
all-gone x (c ∷ cs) o is = all-gone x cs (heard_aim x o c) (heard-gone x c o is)

left-gone : (m : Message) (x : ℕ) (o : Option Aim) → is_gone o ≡ true → is_gone (option_map (left_aim m x) o) ≡ true
left-gone m x None is = absurd cc
left-gone m x (Some p) is = go (m.complete && not (list_any (names x) m.changes))
  where
    go : (b : Bool) → is_gone (Some (cond b (gone_aim p) p)) ≡ true
    go true = refl
    go false = is

pub stays-gone : (x : ℕ) (inbox : Option Message) (o : Option Aim) → is_gone o ≡ true →
    is_gone (will x inbox o) ≡ true
stays-gone x None o is = is
stays-gone x (Some m) o is = left-gone m x (fold (heard_aim x) o m.changes) (all-gone x m.changes o is)

-- An update makes an executor.

heard-some : (x : ℕ) (c : AssignChange) (o : Option Aim) → is_some o ≡ true → is_some (heard_aim x o c) ≡ true
heard-some x (assign.Update a) o is = go (eqb a.task x)
  where
    go : (b : Bool) → is_some (cond b (Some (aimed_at a o)) o) ≡ true
    go true = refl
    go false = is
heard-some x (assign.Remove gone) None is = absurd cc
heard-some x (assign.Remove gone) (Some p) is = go (eqb gone x)
  where
    go : (b : Bool) → is_some (cond b (Some (gone_aim p)) (Some p)) ≡ true
    go true = refl
    go false = refl

all-some : (x : ℕ) (cs : List AssignChange) (o : Option Aim) → is_some o ≡ true →
    is_some (fold (heard_aim x) o cs) ≡ true
all-some x [] o is = is
all-some x (c ∷ cs) o is = all-some x cs (heard_aim x o c) (heard-some x c o is)

update-some : (i : Assigned) (cs : List AssignChange) (o : Option Aim) → Has cs (assign.Update i) →
    is_some (fold (heard_aim i.task) o cs) ≡ true
update-some i [] o h = absurd h
update-some i (c ∷ cs) o (inl e) =
    all-some i.task cs (heard_aim i.task o c)
    (subst (λ (z : AssignChange). is_some (heard_aim i.task o z) ≡ true) (sym e) (go (eqb i.task i.task) own))
  where
    own : eqb i.task i.task ≡ true
    own = grind (arith, nat_tests)

    go : (b : Bool) → b ≡ true → is_some (cond b (Some (aimed_at i o)) o) ≡ true
    go true e = refl
    go false e = absurd cc
update-some i (c ∷ cs) o (inr h) = update-some i cs (heard_aim i.task o c) h

pub updated-some : (m : Message) (i : Assigned) (o : Option Aim) → Has m.changes (assign.Update i) →
    is_some (will i.task (Some m) o) ≡ true
updated-some m i o h = left-some (fold (heard_aim i.task) o m.changes) (update-some i m.changes o h)
  where
    left-some : (p : Option Aim) → is_some p ≡ true → is_some (option_map (left_aim m i.task) p) ≡ true
    left-some None is = absurd cc
    left-some (Some q) is = refl

-- What an agent's executors will be, what was sent, and which tasks are there go together.
use Rattle.swarm_objects.proofs.Aims.{same-aim, Aim, aim}
use Rattle.std.proofs.Common.{Bool, List, None, Option, Some, [], ap, arith, cond, eqb, false, inl, inr, not, refl, subst, sym, true, ℕ, ◌<◌, ◌∙◌, ◌≡◌, ◌⊎◌}
use Rattle.std.proofs.lemmas.Bool.Decides.{nat_tests}
use Rattle.std.specs.Option.{option_map}
use Rattle.std.specs.Prelude.{is_some}
use Rattle.swarm_settle.proofs.Aims.{aim_at, applied-aims, is_gone, is_kept, stays-gone, will}
use Rattle.swarm_objects.proofs.Hearing.{message-tells}
use Rattle.swarm_objects.specs.Agents.Hearing.{aimed_or_new, executor_after, is_sent_so, may_have}
use Rattle.swarm_model.proofs.Moves.Rows.{becomes-cases, between-has}
use Rattle.swarm_model.proofs.Moves.Worlds.{TablesMove, TaskMoves}
use Rattle.swarm_objects.proofs.RowLemmas.{Has-from_row_at}
use Rattle.swarm_objects.proofs.Tests.{any-has, never-both}
use Rattle.swarm_objects.specs.Agents.Messages.{gone_executor, assigned_task, next_message, same_assigned}
use Rattle.swarm_objects.specs.Rows.{Has, IsRising, executor_task, has_row, row_at, task_id}
use Rattle.swarm_objects.specs.World.{Tables}
use Rattle.swarm_objects.specs.declared.agents.Executor.{Executor}
use Rattle.swarm_objects.specs.declared.messages.Assigned.{Assigned}
use Rattle.swarm_objects.specs.declared.messages.Message.{Message}
use Rattle.swarm_objects.specs.declared.messages.NodeSent.{NodeSent}
use Rattle.swarm_objects.specs.declared.tasks.Desired.{Desired}
use Rattle.swarm_objects.specs.declared.tasks.Task.{Task}

-- the task's number was given, and its row isn't there
pub record IsLost (t : Tables) (x : ℕ) : Type 0 where
  pub below : x < t.next_id
  pub away : (y : Task) → Has t.tasks y → ¬ (y.id ≡ x)

pub record InStep (t : Tables) (sent : Option NodeSent) (inbox : Option Message) (now : ℕ → Option Aim) : Type 0 where
  pub items : (s : NodeSent) (i : Assigned) → sent ≡ Some s → Has s.tasks i →
      will i.task inbox (now i.task) ≡ Some (i.desired, false)
  pub others : (s : NodeSent) (x : ℕ) → sent ≡ Some s → is_kept (will x inbox (now x)) ≡ true →
      has_row assigned_task x s.tasks ≡ true
  pub gone : (x : ℕ) → is_gone (will x inbox (now x)) ≡ true → IsLost t x
  pub made : (x : ℕ) → is_some (will x inbox None) ≡ true →
      (s : NodeSent) × (sent ≡ Some s) × (has_row assigned_task x s.tasks ≡ true)

-- What is lost stays lost.

pub lost-moves : (t u : Tables) (x : ℕ) → TablesMove t u → IsLost t x → IsLost u x
lost-moves t u x m is = record {
  below = omega (arith, is.below, m.next);
  away = λ y h e. go y e (becomes-cases TaskMoves m.tasks.more t.tasks u.tasks m.tasks.rows y h);
}
  where
    go : (y : Task) → y.id ≡ x → ((z : Task) × Has t.tasks z × TaskMoves z y) ⊎ Has m.tasks.more y → ⊥
    go y e (inl r) = is.away r.0 r.1 (sym r.2.id ∙ e)
    go y e (inr new) =
        let above = between-has task_id t.next_id u.next_id m.tasks.more y m.tasks.fresh new in
        omega (arith, above.0, is.below, e)

pub in-step-moves : (t u : Tables) (sent : Option NodeSent) (inbox : Option Message) (now : ℕ → Option Aim) →
    TablesMove t u → InStep t sent inbox now → InStep u sent inbox now
in-step-moves t u sent inbox now m is = record {
  items = is.items;
  others = is.others;
  gone = λ x e. lost-moves t u x m (is.gone x e);
  made = is.made;
}

-- the same aims
pub in-step-as : (t : Tables) (sent : Option NodeSent) (inbox : Option Message) (now then : ℕ → Option Aim) →
    ((x : ℕ) → then x ≡ now x) → InStep t sent inbox now → InStep t sent inbox then
in-step-as t sent inbox now then same is = record {
  items = λ s i e h. ap (will i.task inbox) (same i.task) ∙ is.items s i e h;
  others = λ s x e k. is.others s x e (subst (λ (o : Option Aim). is_kept (will x inbox o) ≡ true) (same x) k);
  gone = λ x k. is.gone x (subst (λ (o : Option Aim). is_gone (will x inbox o) ≡ true) (same x) k);
  made = is.made;
}

-- an agent that has nothing, to which nothing was sent
pub in-step-new : (t : Tables) (now : ℕ → Option Aim) → ((x : ℕ) → now x ≡ None) → InStep t None None now
in-step-new t now none = record {
  items = λ s i e h. absurd (let wrong : None ≡ Some s = e in cc);
  others = λ s x e k. absurd (let wrong : None ≡ Some s = e in cc);
  gone = λ x k.
      absurd (let wrong : is_gone None ≡ true = subst (λ (o : Option Aim). is_gone o ≡ true) (none x) k in cc);
  made = λ x k. absurd (let wrong : false ≡ true = k in cc);
}

-- Registering: nothing was sent, and the inbox is empty.

pub in-step-begun : (t : Tables) (sent : Option NodeSent) (inbox : Option Message) (now : ℕ → Option Aim) →
    InStep t sent inbox now → InStep t None None now
in-step-begun t sent inbox now is = record {
  items = λ s i e h. absurd (let wrong : None ≡ Some s = e in cc);
  others = λ s x e k. absurd (let wrong : None ≡ Some s = e in cc);
  gone = λ x k. is.gone x (stays-gone x inbox (now x) k);
  made = λ x k. absurd (let wrong : false ≡ true = k in cc);
}

-- Applying: what will be is.

pub in-step-applied : (t : Tables) (sent : Option NodeSent) (inbox : Option Message) (now then : ℕ → Option Aim) →
    ((x : ℕ) → then x ≡ will x inbox (now x)) → InStep t sent inbox now → InStep t sent None then
in-step-applied t sent inbox now then same is = record {
  items = λ s i e h. same i.task ∙ is.items s i e h;
  others = λ s x e k. is.others s x e (subst (λ (o : Option Aim). is_kept o ≡ true) (same x) k);
  gone = λ x k. is.gone x (subst (λ (o : Option Aim). is_gone o ≡ true) (same x) k);
  made = λ x k. absurd (let wrong : false ≡ true = k in cc);
}

-- Forgetting: an executor that is gone goes.

pub in-step-left : (t : Tables) (sent : Option NodeSent) (inbox : Option Message) (now then : ℕ → Option Aim) (x : ℕ) →
    is_gone (now x) ≡ true → then x ≡ None → ((y : ℕ) → eqb y x ≡ false → then y ≡ now y) →
    InStep t sent inbox now → InStep t sent inbox then
in-step-left t sent inbox now then x dead away same is = record {
  items = λ s i e h. item s i e h (eqb i.task x) refl;
  others = λ s y e k. other s y e k (eqb y x) refl;
  gone = λ y k. lost y k (eqb y x) refl;
  made = is.made;
}
  where
    gone_then : is_gone (will x inbox (now x)) ≡ true
    gone_then = stays-gone x inbox (now x) dead

    -- nothing of it was sent
    unsent : (s : NodeSent) → sent ≡ Some s → ¬ (has_row assigned_task x s.tasks ≡ true)
    unsent s e there = go (row_at assigned_task x s.tasks) refl there
      where
        go : (o : Option Assigned) → row_at assigned_task x s.tasks ≡ o → ¬ (is_some o ≡ true)
        go None at k = absurd cc
        go (Some i) at k =
            let row = Has-from_row_at assigned_task x s.tasks i at in
            let said : will x inbox (now x) ≡ Some (i.desired, false) =
            subst (λ (y : ℕ). will y inbox (now y) ≡ Some (i.desired, false)) row.1 (is.items s i e row.0) in
            let wrong : is_gone (Some (i.desired, false)) ≡ true =
            subst (λ (o : Option Aim). is_gone o ≡ true) said gone_then in
            absurd (let no : false ≡ true = wrong in cc)

    -- and no message makes it
    nothing : (o : Option Aim) → will x inbox None ≡ o → o ≡ None
    nothing None e = refl
    nothing (Some p) e =
        let from = is.made x (ap (λ (o : Option Aim). is_some o) e) in absurd (unsent from.0 from.1 from.2)

    none : will x inbox (then x) ≡ None
    none = ap (will x inbox) away ∙ nothing (will x inbox None) refl

    is_it : (y : ℕ) → eqb y x ≡ true → y ≡ x
    is_it y e = grind (arith, nat_tests, e)

    item : (s : NodeSent) (i : Assigned) → sent ≡ Some s → Has s.tasks i → (b : Bool) → eqb i.task x ≡ b →
        will i.task inbox (then i.task) ≡ Some (i.desired, false)
    item s i e h true q =
        let wrong : is_gone (Some (i.desired, false)) ≡ true =
        subst (λ (o : Option Aim). is_gone o ≡ true) (is.items s i e h)
        (subst (λ (y : ℕ). is_gone (will y inbox (now y)) ≡ true) (sym (is_it i.task q)) gone_then) in
        absurd (let no : false ≡ true = wrong in cc)
    item s i e h false q = ap (will i.task inbox) (same i.task q) ∙ is.items s i e h

    other : (s : NodeSent) (y : ℕ) → sent ≡ Some s → is_kept (will y inbox (then y)) ≡ true → (b : Bool) →
        eqb y x ≡ b → has_row assigned_task y s.tasks ≡ true
    other s y e k true q =
        let here : is_kept (will x inbox (then x)) ≡ true =
        subst (λ (z : ℕ). is_kept (will z inbox (then z)) ≡ true) (is_it y q) k in
        absurd (let wrong : is_kept None ≡ true = subst (λ (o : Option Aim). is_kept o ≡ true) none here in cc)
    other s y e k false q =
        is.others s y e (subst (λ (o : Option Aim). is_kept (will y inbox o) ≡ true) (same y q) k)

    lost : (y : ℕ) → is_gone (will y inbox (then y)) ≡ true → (b : Bool) → eqb y x ≡ b → IsLost t y
    lost y k true q =
        let here : is_gone (will x inbox (then x)) ≡ true =
        subst (λ (z : ℕ). is_gone (will z inbox (then z)) ≡ true) (is_it y q) k in
        absurd (let wrong : is_gone None ≡ true = subst (λ (o : Option Aim). is_gone o ≡ true) none here in cc)
    lost y k false q = is.gone y (subst (λ (o : Option Aim). is_gone (will y inbox o) ≡ true) (same y q) k)

-- Pulling: what is due was sent, and the message waits.

kept-not : (p : Aim) → p.1 ≡ true → ¬ (is_kept (Some p) ≡ true)
kept-not p gone e = let wrong : not true ≡ true = subst (λ (b : Bool). not b ≡ true) gone e in cc

-- the aim that the next message makes of what is there
abbrev After : Option NodeSent → Option Assigned → ℕ → Option Executor → Option Aim
After sent due x o = option_map aim (executor_after 0 sent due x o)

pub record IsPull (t : Tables) (due : List Assigned) (es : List Executor) : Type 0 where
  pub rises : IsRising assigned_task due
  pub found : (i : Assigned) → Has due i → row_at assigned_task i.task due ≡ Some i
  pub there : (i : Assigned) → Has due i → ¬ (IsLost t i.task)
  pub given : (x : ℕ) (e : Executor) → row_at executor_task x es ≡ Some e →
      (x < t.next_id) × ((y : Task) → Has t.tasks y → y.id ≡ x → has_row assigned_task x due ≡ true)

item-after : (t : Tables) (sent : Option NodeSent) (due : List Assigned) (es : List Executor) → IsPull t due es →
    InStep t sent None (aim_at es) → (i : Assigned) → Has due i → (b : Bool) → is_sent_so sent i ≡ b →
    (o : Option Executor) → row_at executor_task i.task es ≡ o →
    option_map aim (cond b o (Some (aimed_or_new 0 i o))) ≡ Some (i.desired, false)
item-after t None due es pull is i h true q o at = absurd (let wrong : false ≡ true = q in cc)
item-after t (Some s) due es pull is i h true q o at =
    let from = any-has (same_assigned i) s.tasks q in
    let same = same-aim i from.0 from.2 in
    let was : aim_at es i.task ≡ Some (from.0.desired, false) =
    subst (λ (x : ℕ). aim_at es x ≡ Some (from.0.desired, false)) same.0 (is.items s from.0 refl from.1) in
    ap (option_map aim) (sym at) ∙ was ∙ ap (λ (d : Desired). Some (d, false)) same.1
item-after t sent due es pull is i h false q None at = refl
item-after t sent due es pull is i h false q (Some e) at = ap (λ (b : Bool). Some (i.desired, b)) (alive e.gone refl)
  where
    alive : (b : Bool) → e.gone ≡ b → e.gone ≡ false
    alive false k = k
    alive true k =
        absurd (pull.there i h (is.gone i.task
        (subst (λ (o : Option Executor). is_gone (option_map aim o) ≡ true) (sym at) k)))

other-after : (t : Tables) (sent : Option NodeSent) (es : List Executor) → InStep t sent None (aim_at es) → (x : ℕ) →
    (b : Bool) → may_have sent x ≡ b → (o : Option Executor) → row_at executor_task x es ≡ o →
    ¬ (is_kept (option_map aim (cond b (option_map gone_executor o) o)) ≡ true)
other-after t sent es is x true q None at k = absurd (let wrong : false ≡ true = k in cc)
other-after t sent es is x true q (Some e) at k = kept-not (aim (gone_executor e)) refl k
other-after t None es is x false q o at k = absurd (let wrong : true ≡ false = q in cc)
other-after t (Some s) es is x false q o at k =
    never-both (has_row assigned_task x s.tasks) q
    (is.others s x refl (subst (λ (p : Option Executor). is_kept (option_map aim p) ≡ true) (sym at) k))

gone-after : (t : Tables) (sent : Option NodeSent) (due : List Assigned) (es : List Executor) → IsPull t due es →
    InStep t sent None (aim_at es) → (x : ℕ) → (d : Option Assigned) → row_at assigned_task x due ≡ d →
    (o : Option Executor) → row_at executor_task x es ≡ o → is_gone (After sent d x o) ≡ true → IsLost t x
gone-after t sent due es pull is x (Some a) due_at o at k = go (is_sent_so sent a) o at k
  where
    go : (b : Bool) (o : Option Executor) → row_at executor_task x es ≡ o →
        is_gone (option_map aim (cond b o (Some (aimed_or_new 0 a o)))) ≡ true → IsLost t x
    go true o at k = is.gone x (subst (λ (p : Option Executor). is_gone (option_map aim p) ≡ true) (sym at) k)
    go false None at k = absurd (let wrong : false ≡ true = k in cc)
    go false (Some e) at k = is.gone x (subst (λ (p : Option Executor). is_gone (option_map aim p) ≡ true) (sym at) k)
gone-after t sent due es pull is x None due_at o at k = go (may_have sent x) o at k
  where
    go : (b : Bool) (o : Option Executor) → row_at executor_task x es ≡ o →
        is_gone (option_map aim (cond b (option_map gone_executor o) o)) ≡ true → IsLost t x
    go true None at k = absurd (let wrong : false ≡ true = k in cc)
    go true (Some e) at k =
        let has = pull.given x e at in
        record {
          below = has.0;
          away = λ y h same.
              never-both (has_row assigned_task x due) (ap (λ (d : Option Assigned). is_some d) due_at)
              (has.1 y h same);
        }
    go false o at k = is.gone x (subst (λ (p : Option Executor). is_gone (option_map aim p) ≡ true) (sym at) k)

pub in-step-pulled : (t : Tables) (sent : Option NodeSent) (due : List Assigned) (m : Message) (es : List Executor)
    (new : NodeSent) → IsPull t due es → next_message sent due ≡ Some m → new.tasks ≡ due →
    InStep t sent None (aim_at es) → InStep t (Some new) (Some m) (aim_at es)
in-step-pulled t sent due m es new pull e tasks is = record {
  items = λ s i q h.
      let here : Has due i = subst (λ (xs : List Assigned). Has xs i) (sym (its s q)) h in
      tells es i.task
      ∙ ap (λ (d : Option Assigned). After sent d i.task (row_at executor_task i.task es)) (pull.found i here)
      ∙ item-after t sent due es pull is i here (is_sent_so sent i) refl (row_at executor_task i.task es) refl;
  others = λ s x q k.
      subst (λ (xs : List Assigned). has_row assigned_task x xs ≡ true) (its s q)
      (kept x (row_at assigned_task x due) refl
      (subst (λ (o : Option Aim). is_kept o ≡ true) (tells es x) k));
  gone = λ x k.
      gone-after t sent due es pull is x (row_at assigned_task x due) refl (row_at executor_task x es) refl
      (subst (λ (o : Option Aim). is_gone o ≡ true) (tells es x) k);
  made = λ x k. (
    new,
    refl,
    subst (λ (xs : List Assigned). has_row assigned_task x xs ≡ true) (sym tasks)
        (some x (row_at assigned_task x due) refl (subst (λ (o : Option Aim). is_some o ≡ true) (tells [] x) k)),
  );
}
  where
    some-is : (a b : NodeSent) → Some a ≡ Some b → a ≡ b
    some-is a b e = cc

    its : (s : NodeSent) → Some new ≡ Some s → due ≡ s.tasks
    its s q = sym tasks ∙ ap (λ (r : NodeSent). r.tasks) (some-is new s q)

    tells : (fs : List Executor) (x : ℕ) →
        will x (Some m) (aim_at fs x) ≡ After sent (row_at assigned_task x due) x (row_at executor_task x fs)
    tells fs x =
        sym (applied-aims 0 x m fs) ∙ ap (option_map aim) (message-tells 0 sent due m fs x pull.rises e)

    kept : (x : ℕ) (d : Option Assigned) → row_at assigned_task x due ≡ d →
        is_kept (After sent d x (row_at executor_task x es)) ≡ true → has_row assigned_task x due ≡ true
    kept x (Some a) at k = ap (λ (d : Option Assigned). is_some d) at
    kept x None at k = absurd (other-after t sent es is x (may_have sent x) refl (row_at executor_task x es) refl k)

    some : (x : ℕ) (d : Option Assigned) → row_at assigned_task x due ≡ d → is_some (After sent d x None) ≡ true →
        has_row assigned_task x due ≡ true
    some x (Some a) at k = ap (λ (d : Option Assigned). is_some d) at
    some x None at k = go (may_have sent x) k
      where
        go : (b : Bool) → is_some (option_map aim (cond b (option_map gone_executor None) None)) ≡ true →
            has_row assigned_task x due ≡ true
        go true k = absurd (let wrong : false ≡ true = k in cc)
        go false k = absurd (let wrong : false ≡ true = k in cc)

-- What is wanted of an executor, what will be once its inbox is applied, and what is wanted of its task: in this order.
use Rattle.std.proofs.Common.{Bool, List, None, Option, Some, ap, arith, cond, eqb, false, inl, inr, refl, subst, sym, true, ℕ, ◌<◌, ◌∙◌, ◌≡◌, ◌≤◌, ◌⊎◌}
use Rattle.std.proofs.lemmas.Bool.Decides.{nat_tests}
use Rattle.std.specs.Option.{option_map}
use Rattle.std.specs.Prelude.{filter}
use Rattle.swarm_model.proofs.Moves.Rows.{RisesBetween, becomes-cases, between-has, between-one}
use Rattle.swarm_model.proofs.Moves.Worlds.{TablesMove, TaskMoves}
use Rattle.swarm_objects.proofs.Aims.{Aim, aim}
use Rattle.swarm_objects.proofs.Hearing.{message-tells}
use Rattle.swarm_objects.proofs.RowLemmas.{Has-filter_cases, Has-from_row_at, Has-map_cases}
use Rattle.swarm_objects.specs.Agents.Hearing.{aimed_or_new, executor_after, is_sent_so, may_have}
use Rattle.swarm_objects.specs.Agents.Messages.{assigned, assigned_task, due_set, gone_executor, is_assigned_on, next_message}
use Rattle.swarm_objects.specs.Rows.{Has, IsRising, executor_task, row_at, task_id}
use Rattle.swarm_objects.specs.Values.Ranks.{desired_rank}
use Rattle.swarm_objects.specs.World.{Tables}
use Rattle.swarm_objects.specs.declared.agents.Executor.{Executor}
use Rattle.swarm_objects.specs.declared.messages.Assigned.{Assigned}
use Rattle.swarm_objects.specs.declared.messages.Message.{Message}
use Rattle.swarm_objects.specs.declared.messages.NodeSent.{NodeSent}
use Rattle.swarm_objects.specs.declared.tasks.Task.{Task}
use Rattle.swarm_settle.proofs.Aims.{aim_at, applied-aims, will}

pub record InRank (t : Tables) (inbox : Option Message) (now : ℕ → Option Aim) : Type 0 where
  -- the executor wants no more than it will
  pub grows : (x : ℕ) (p q : Aim) → now x ≡ Some p → will x inbox (now x) ≡ Some q →
      desired_rank p.0 ≤ desired_rank q.0
  -- and that no more than its task
  pub rows : (y : Task) (q : Aim) → Has t.tasks y → will y.id inbox (now y.id) ≡ Some q →
      desired_rank q.0 ≤ desired_rank y.desired
  -- the number was given
  pub below : (x : ℕ) (q : Aim) → will x inbox (now x) ≡ Some q → x < t.next_id

some-is : {A : Type 0} (a b : A) → Some a ≡ Some b → a ≡ b
some-is a b e = cc

rank-same : (p q : Aim) → p ≡ q → desired_rank p.0 ≤ desired_rank q.0
rank-same p q e = subst (λ (z : Aim). desired_rank p.0 ≤ desired_rank z.0) e (omega arith)

-- What is wanted of tasks rises.

pub rank-moves : (t u : Tables) (inbox : Option Message) (now : ℕ → Option Aim) → TablesMove t u → InRank t inbox now →
    InRank u inbox now
rank-moves t u inbox now m is = record {
  grows = is.grows;
  rows = λ y q h at. go y q at (becomes-cases TaskMoves m.tasks.more t.tasks u.tasks m.tasks.rows y h);
  below = λ x q at. let low = is.below x q at in omega (arith, low, m.next);
}
  where
    go : (y : Task) (q : Aim) → will y.id inbox (now y.id) ≡ Some q →
        ((z : Task) × Has t.tasks z × TaskMoves z y) ⊎ Has m.tasks.more y → desired_rank q.0 ≤ desired_rank y.desired
    go y q at (inl r) =
        let low = is.rows r.0 q r.1 (subst (λ (k : ℕ). will k inbox (now k) ≡ Some q) r.2.id at) in
        omega (arith, low, r.2.rises.desired)
    go y q at (inr new) =
        let above = between-has task_id t.next_id u.next_id m.tasks.more y m.tasks.fresh new in
        let low = is.below y.id q at in
        absurd (omega (arith, above.0, low))

pub rank-as : (t : Tables) (inbox : Option Message) (now then : ℕ → Option Aim) → ((x : ℕ) → then x ≡ now x) →
    InRank t inbox now → InRank t inbox then
rank-as t inbox now then same is = record {
  grows = λ x p q at next. is.grows x p q (sym (same x) ∙ at) (sym (ap (will x inbox) (same x)) ∙ next);
  rows = λ y q h next. is.rows y q h (sym (ap (will y.id inbox) (same y.id)) ∙ next);
  below = λ x q next. is.below x q (sym (ap (will x inbox) (same x)) ∙ next);
}

-- An agent that has nothing.

pub rank-new : (t : Tables) (now : ℕ → Option Aim) → ((x : ℕ) → now x ≡ None) → InRank t None now
rank-new t now none = record {
  grows = λ x p q at next. absurd (let wrong : None ≡ Some p = sym (none x) ∙ at in cc);
  rows = λ y q h next. absurd (let wrong : None ≡ Some q = sym (none y.id) ∙ next in cc);
  below = λ x q next. absurd (let wrong : None ≡ Some q = sym (none x) ∙ next in cc);
}

-- The inbox is thrown away, or applied.

pub rank-begun : (t : Tables) (inbox : Option Message) (now : ℕ → Option Aim) →
    ((x : ℕ) (p : Aim) → now x ≡ Some p → (q : Aim) × (will x inbox (now x) ≡ Some q)) → InRank t inbox now →
    InRank t None now
rank-begun t inbox now next is = record {
  grows = λ x p q at same. rank-same p q (some-is p q (sym at ∙ same));
  rows = λ y q h at.
      let then = next y.id q at in
      let low = is.grows y.id q then.0 at then.1 in
      let high = is.rows y then.0 h then.1 in
      omega (arith, low, high);
  below = λ x q at. let then = next x q at in is.below x then.0 then.1;
}

pub rank-applied : (t : Tables) (inbox : Option Message) (now then : ℕ → Option Aim) →
    ((x : ℕ) → then x ≡ will x inbox (now x)) → InRank t inbox now → InRank t None then
rank-applied t inbox now then same is = record {
  grows = λ x p q at next. rank-same p q (some-is p q (sym at ∙ next));
  rows = λ y q h at. is.rows y q h (sym (same y.id) ∙ at);
  below = λ x q at. is.below x q (sym (same x) ∙ at);
}

-- An executor is forgotten, of which the inbox has no update.

pub rank-left : (t : Tables) (inbox : Option Message) (now then : ℕ → Option Aim) (x : ℕ) →
    will x inbox None ≡ None → then x ≡ None → ((y : ℕ) → eqb y x ≡ false → then y ≡ now y) → InRank t inbox now →
    InRank t inbox then
rank-left t inbox now then x none away same is = record {
  grows = λ y p q at next. grown y p q at next (eqb y x) refl;
  rows = λ y q h next. is.rows y q h (kept y.id q next (eqb y.id x) refl);
  below = λ y q next. is.below y q (kept y q next (eqb y x) refl);
}
  where
    is_it : (y : ℕ) → eqb y x ≡ true → x ≡ y
    is_it y e = grind (arith, nat_tests, e)

    gone : will x inbox (then x) ≡ None
    gone = ap (will x inbox) away ∙ none

    kept : (y : ℕ) (q : Aim) → will y inbox (then y) ≡ Some q → (b : Bool) → eqb y x ≡ b →
        will y inbox (now y) ≡ Some q
    kept y q next true e =
        let wrong : None ≡ Some q =
        sym gone ∙ subst (λ (k : ℕ). will k inbox (then k) ≡ Some q) (sym (is_it y e)) next in
        absurd cc
    kept y q next false e = sym (ap (will y inbox) (same y e)) ∙ next

    grown : (y : ℕ) (p q : Aim) → then y ≡ Some p → will y inbox (then y) ≡ Some q → (b : Bool) → eqb y x ≡ b →
        desired_rank p.0 ≤ desired_rank q.0
    grown y p q at next true e =
        let wrong : None ≡ Some p = sym away ∙ subst (λ (k : ℕ). then k ≡ Some p) (sym (is_it y e)) at in
        absurd cc
    grown y p q at next false e = is.grows y p q (sym (same y e) ∙ at) (kept y q next false e)

-- A message is pulled.

-- the aim is what it was, or what is due
abbrev AimFrom : Option Aim → Option Assigned → Aim → Type 0
AimFrom old due q =
    ((p : Aim) × (old ≡ Some p) × (q.0 ≡ p.0)) ⊎ ((a : Assigned) × (due ≡ Some a) × (q.0 ≡ a.desired))

same-from : (o : Option Executor) (due : Option Assigned) (q : Aim) → option_map aim o ≡ Some q →
    AimFrom (option_map aim o) due q
same-from o due q e = inl (q, e, refl)

after-from : (sent : Option NodeSent) (due : Option Assigned) (x : ℕ) (o : Option Executor) (q : Aim) →
    option_map aim (executor_after 0 sent due x o) ≡ Some q → AimFrom (option_map aim o) due q
after-from sent (Some a) x o q e = go (is_sent_so sent a) o e
  where
    go : (b : Bool) (o : Option Executor) → option_map aim (cond b o (Some (aimed_or_new 0 a o))) ≡ Some q →
        AimFrom (option_map aim o) (Some a) q
    go true o e = same-from o (Some a) q e
    go false None e = inr (a, refl, ap (λ (p : Aim). p.0) (sym (some-is (a.desired, false) q e)))
    go false (Some f) e = inr (a, refl, ap (λ (p : Aim). p.0) (sym (some-is (a.desired, f.gone) q e)))
after-from sent None x o q e = go (may_have sent x) o e
  where
    go : (b : Bool) (o : Option Executor) → option_map aim (cond b (option_map gone_executor o) o) ≡ Some q →
        AimFrom (option_map aim o) None q
    go true None e = absurd cc
    go true (Some f) e =
        inl (aim f, refl, ap (λ (p : Aim). p.0) (sym (some-is (f.desired, true) q e)))
    go false o e = same-from o None q e

-- each item that is due is of a task
abbrev pub OfRows : Tables → List Assigned → Type 0
OfRows t due =
    (x : ℕ) (a : Assigned) → row_at assigned_task x due ≡ Some a →
    (y : Task) × Has t.tasks y × (y.id ≡ x) × (a.desired ≡ y.desired)

pub due-rows : (t : Tables) (node : ℕ) → OfRows t (due_set t node)
due-rows t node x a at =
    let row = Has-from_row_at assigned_task x (due_set t node) a at in
    let from = Has-map_cases assigned (filter (is_assigned_on node) t.tasks) a row.0 in
    let y = Has-filter_cases (is_assigned_on node) t.tasks from.0 from.1 in
    (from.0, y.0, ap assigned_task from.2 ∙ row.1, ap (λ (i : Assigned). i.desired) (sym from.2))

pub rank-pulled : (t : Tables) (sent : Option NodeSent) (due : List Assigned) (m : Message) (es : List Executor) →
    RisesBetween task_id 1 t.next_id t.tasks → IsRising assigned_task due → OfRows t due →
    next_message sent due ≡ Some m → InRank t None (aim_at es) → InRank t (Some m) (aim_at es)
rank-pulled t sent due m es rising rises of e is = record {
  grows = λ x p q at next. grown x p q at (from x q next);
  rows = λ y q h next. held y q h (from y.id q next);
  below = λ x q next. low x q (from x q next);
}
  where
    from : (x : ℕ) (q : Aim) → will x (Some m) (aim_at es x) ≡ Some q →
        AimFrom (aim_at es x) (row_at assigned_task x due) q
    from x q next =
        after-from sent (row_at assigned_task x due) x (row_at executor_task x es) q
        (sym (sym (applied-aims 0 x m es) ∙ ap (option_map aim) (message-tells 0 sent due m es x rises e)) ∙ next)

    grown : (x : ℕ) (p q : Aim) → aim_at es x ≡ Some p → AimFrom (aim_at es x) (row_at assigned_task x due) q →
        desired_rank p.0 ≤ desired_rank q.0
    grown x p q at (inl k) =
        let same : p ≡ k.0 = some-is p k.0 (sym at ∙ k.1) in
        omega (arith, ap desired_rank (ap (λ (z : Aim). z.0) same), ap desired_rank k.2)
    grown x p q at (inr k) =
        let y = of x k.0 k.1 in
        let most = is.rows y.0 p y.1 (subst (λ (j : ℕ). aim_at es j ≡ Some p) (sym y.2) at) in
        omega (arith, most, ap desired_rank y.3, ap desired_rank k.2)

    held : (y : Task) (q : Aim) → Has t.tasks y → AimFrom (aim_at es y.id) (row_at assigned_task y.id due) q →
        desired_rank q.0 ≤ desired_rank y.desired
    held y q h (inl k) =
        let most = is.rows y k.0 h k.1 in omega (arith, most, ap desired_rank k.2)
    held y q h (inr k) =
        let row = of y.id k.0 k.1 in
        let same = between-one task_id 1 t.next_id t.tasks row.0 y rising row.1 h row.2 in
        omega (arith, ap desired_rank k.2, ap desired_rank row.3, ap (λ (z : Task). desired_rank z.desired) same)

    low : (x : ℕ) (q : Aim) → AimFrom (aim_at es x) (row_at assigned_task x due) q → x < t.next_id
    low x q (inl k) = is.below x k.0 k.1
    low x q (inr k) =
        let row = of x k.0 k.1 in
        let inside = between-has task_id 1 t.next_id t.tasks row.0 rising row.1 in
        omega (arith, inside.1, row.2)

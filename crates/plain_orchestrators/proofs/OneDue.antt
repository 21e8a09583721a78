-- A duty that names a row is due exactly where that row passes the test.
use Rattle.std.proofs.Common.{◌≡◌, ℕ, Bool, true, false, eqb, List, ◌++◌, refl, sym, ap, ◌∙◌}
use Rattle.std.proofs.lemmas.List.Folds.{list_any-append}
use Rattle.std.specs.Prelude.{◌||◌, ◌&&◌}
use Rattle.std.specs.List.{list_any}
use Rattle.swarm_plain.proofs.AnyOf.{any_none, any_where, one_number}
use Rattle.swarm_objects.proofs.Tests.{any_same, or_false}
use Rattle.swarm_objects.specs.Duties.{is_due}
use Rattle.swarm_objects.specs.Kinds.{same_duty}
use Rattle.swarm_objects.specs.Loops.Dispatcher.{is_expired, is_orphaned}
use Rattle.swarm_objects.specs.Loops.Enforcer.{is_misplaced}
use Rattle.swarm_objects.specs.Loops.Reaper.{is_removable, is_trimmed}
use Rattle.swarm_objects.specs.Loops.Restart.{wants_raise, wants_restart}
use Rattle.swarm_objects.specs.Loops.Words.{duty_where}
use Rattle.swarm_objects.specs.Rows.{node_id, task_id}
use Rattle.swarm_objects.specs.World.{World}
use Rattle.swarm_objects.specs.declared.duties.Duty.{Duty}
use Rattle.swarm_objects.specs.declared.duties.Duty.TheVariants as duty
use Rattle.swarm_objects.specs.declared.nodes.Node.{Node}
use Rattle.swarm_objects.specs.declared.tasks.Task.{Task}

-- Of the duties for the rows that pass.

-- it is one of them where it names the row
pub named : {X : Type 0} (key : X → ℕ) (duty_of : X → Duty) (test : X → Bool) (rows : List X) (d : Duty) (id : ℕ) →
    ((x : X) → same_duty d (duty_of x) ≡ (eqb id (key x) && true)) →
    list_any (same_duty d) (duty_where test duty_of rows) ≡ list_any (λ x. eqb (key x) id && test x) rows
named {X} key duty_of test rows d id names =
    any_where (same_duty d) duty_of test rows
    ∙ any_same (λ (x : X). same_duty d (duty_of x) && test x) (λ (x : X). eqb (key x) id && test x) rows
    (λ (x : X). ap (λ b. b && test x) (names x ∙ one_number id (key x)))

-- it is none of those of another kind
pub unnamed : {X : Type 0} (duty_of : X → Duty) (test : X → Bool) (rows : List X) (d : Duty) →
    ((x : X) → same_duty d (duty_of x) ≡ false) → list_any (same_duty d) (duty_where test duty_of rows) ≡ false
unnamed {X} duty_of test rows d other =
    any_where (same_duty d) duty_of test rows
    ∙ any_none (λ (x : X). same_duty d (duty_of x) && test x) rows (λ (x : X). ap (λ b. b && test x) (other x))

-- Of two lists, where it is in one alone.

pub in_first : (p : Duty → Bool) (xs ys : List Duty) (found : Bool) → list_any p xs ≡ found → list_any p ys ≡ false →
    found ≡ list_any p (xs ++ ys)
in_first p xs ys found first second =
    sym (list_any-append p xs ys ∙ ap (λ b. list_any p xs || b) second ∙ or_false (list_any p xs) ∙ first)

pub in_second : (p : Duty → Bool) (xs ys : List Duty) (found : Bool) → list_any p xs ≡ false → list_any p ys ≡ found →
    found ≡ list_any p (xs ++ ys)
in_second p xs ys found first second = sym (list_any-append p xs ys ∙ ap (λ b. b || list_any p ys) first ∙ second)

-- The dispatcher.

pub expire_due : (w : World) (id : ℕ) →
    list_any (λ (n : Node). eqb n.id id && is_expired w.tables n) w.tables.nodes ≡ is_due w (duty.Expire id)
expire_due w id =
    let t = w.tables in
    let d = duty.Expire id in
    in_first (same_duty d) (duty_where (is_expired t) (λ (n : Node). duty.Expire n.id) t.nodes)
    (duty_where (is_orphaned t) (λ (x : Task). duty.Orphan x.id) t.tasks)
    (list_any (λ (n : Node). eqb n.id id && is_expired t n) t.nodes)
    (named node_id (λ (n : Node). duty.Expire n.id) (is_expired t) t.nodes d id (λ (n : Node). refl))
    (unnamed (λ (x : Task). duty.Orphan x.id) (is_orphaned t) t.tasks d (λ (x : Task). refl))

pub orphan_due : (w : World) (id : ℕ) →
    list_any (λ (x : Task). eqb x.id id && is_orphaned w.tables x) w.tables.tasks ≡ is_due w (duty.Orphan id)
orphan_due w id =
    let t = w.tables in
    let d = duty.Orphan id in
    in_second (same_duty d) (duty_where (is_expired t) (λ (n : Node). duty.Expire n.id) t.nodes)
    (duty_where (is_orphaned t) (λ (x : Task). duty.Orphan x.id) t.tasks)
    (list_any (λ (x : Task). eqb x.id id && is_orphaned t x) t.tasks)
    (unnamed (λ (n : Node). duty.Expire n.id) (is_expired t) t.nodes d (λ (n : Node). refl))
    (named task_id (λ (x : Task). duty.Orphan x.id) (is_orphaned t) t.tasks d id (λ (x : Task). refl))

-- The enforcer.

pub reject_due : (w : World) (id : ℕ) →
    list_any (λ (x : Task). eqb x.id id && is_misplaced w.tables x) w.tables.tasks ≡ is_due w (duty.Reject id)
reject_due w id =
    let t = w.tables in
    let d = duty.Reject id in
    sym (named task_id (λ (x : Task). duty.Reject x.id) (is_misplaced t) t.tasks d id (λ (x : Task). refl))

-- The loop on tasks that ended.

pub restart_due : (w : World) (id : ℕ) →
    list_any (λ (x : Task). eqb x.id id && wants_restart w.tables x) w.tables.tasks ≡ is_due w (duty.Restart id)
restart_due w id =
    let t = w.tables in
    let d = duty.Restart id in
    in_first (same_duty d) (duty_where (wants_restart t) (λ (x : Task). duty.Restart x.id) t.tasks)
    (duty_where (wants_raise t) (λ (x : Task). duty.Raise x.id) t.tasks)
    (list_any (λ (x : Task). eqb x.id id && wants_restart t x) t.tasks)
    (named task_id (λ (x : Task). duty.Restart x.id) (wants_restart t) t.tasks d id (λ (x : Task). refl))
    (unnamed (λ (x : Task). duty.Raise x.id) (wants_raise t) t.tasks d (λ (x : Task). refl))

pub raise_due : (w : World) (id : ℕ) →
    list_any (λ (x : Task). eqb x.id id && wants_raise w.tables x) w.tables.tasks ≡ is_due w (duty.Raise id)
raise_due w id =
    let t = w.tables in
    let d = duty.Raise id in
    in_second (same_duty d) (duty_where (wants_restart t) (λ (x : Task). duty.Restart x.id) t.tasks)
    (duty_where (wants_raise t) (λ (x : Task). duty.Raise x.id) t.tasks)
    (list_any (λ (x : Task). eqb x.id id && wants_raise t x) t.tasks)
    (unnamed (λ (x : Task). duty.Restart x.id) (wants_restart t) t.tasks d (λ (x : Task). refl))
    (named task_id (λ (x : Task). duty.Raise x.id) (wants_raise t) t.tasks d id (λ (x : Task). refl))

-- The reaper.

pub delete_due : (w : World) (id : ℕ) →
    list_any (λ (x : Task). eqb x.id id && is_removable x) w.tables.tasks ≡ is_due w (duty.Delete id)
delete_due w id =
    let t = w.tables in
    let d = duty.Delete id in
    in_first (same_duty d) (duty_where is_removable (λ (x : Task). duty.Delete x.id) t.tasks)
    (duty_where (is_trimmed t) (λ (x : Task). duty.Trim x.id) t.tasks)
    (list_any (λ (x : Task). eqb x.id id && is_removable x) t.tasks)
    (named task_id (λ (x : Task). duty.Delete x.id) is_removable t.tasks d id (λ (x : Task). refl))
    (unnamed (λ (x : Task). duty.Trim x.id) (is_trimmed t) t.tasks d (λ (x : Task). refl))

pub trim_due : (w : World) (id : ℕ) →
    list_any (λ (x : Task). eqb x.id id && is_trimmed w.tables x) w.tables.tasks ≡ is_due w (duty.Trim id)
trim_due w id =
    let t = w.tables in
    let d = duty.Trim id in
    in_second (same_duty d) (duty_where is_removable (λ (x : Task). duty.Delete x.id) t.tasks)
    (duty_where (is_trimmed t) (λ (x : Task). duty.Trim x.id) t.tasks)
    (list_any (λ (x : Task). eqb x.id id && is_trimmed t x) t.tasks)
    (unnamed (λ (x : Task). duty.Delete x.id) is_removable t.tasks d (λ (x : Task). refl))
    (named task_id (λ (x : Task). duty.Trim x.id) (is_trimmed t) t.tasks d id (λ (x : Task). refl))

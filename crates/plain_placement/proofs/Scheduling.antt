-- What the scheduler has to do about a task names the task, so one duty is due exactly where its task has it.
use Rattle.std.proofs.Common.{◌≡◌, ℕ, Bool, true, false, cond, eqb, List, []}
use Rattle.std.proofs.Common.{◌∷◌, Option, Some, None, refl, sym, ap, ◌∙◌}
use Rattle.std.proofs.lemmas.List.Folds.{list_any-append}
use Rattle.std.specs.Prelude.{◌&&◌, ◌||◌}
use Rattle.std.specs.List.{list_any}
use Rattle.std.specs.Str.{bytes_eq}
use Rattle.swarm_plain.proofs.AnyOf.{and_false, turned}
use Rattle.plain_placement.specs.Inside.Scheduling.{is_scheduled}
use Rattle.swarm_objects.proofs.RowChanges.{change_row-None, same_change}
use Rattle.swarm_objects.proofs.Tests.{any_each, any_same}
use Rattle.swarm_objects.specs.Changes.{change_task, noted, with_tables}
use Rattle.swarm_objects.specs.Duties.{effect_by}
use Rattle.swarm_objects.specs.Kinds.{duty_numbers, kind_place, same_duty}
use Rattle.swarm_objects.specs.Loops.Allocator.{same_note}
use Rattle.swarm_objects.specs.Loops.Scheduler.{explained, is_to_drop, is_to_place, place_duty, placing, schedule, scheduler}
use Rattle.swarm_objects.specs.Loops.Words.{when}
use Rattle.swarm_objects.specs.Nodes.BestNode.{best_node}
use Rattle.swarm_objects.specs.Nodes.Filters.{refusal_counts}
use Rattle.swarm_objects.specs.Rows.{IsRising, row_at, task_id}
use Rattle.swarm_objects.specs.World.{Tables, World}
use Rattle.swarm_objects.specs.declared.duties.Duty.{Duty}
use Rattle.swarm_objects.specs.declared.duties.Duty.TheVariants as duty
use Rattle.swarm_objects.specs.declared.nodes.Node.{Node}
use Rattle.swarm_objects.specs.declared.tasks.Note.TheVariants as note
use Rattle.swarm_objects.specs.declared.tasks.Task.{Task}

-- A duty that names a task is only found where that task is.

same_named : (d e : Duty) (id k : ℕ) (ns ms : List ℕ) → duty_numbers d ≡ id ∷ ns → duty_numbers e ≡ k ∷ ms →
    same_duty d e ≡ (eqb k id && same_duty d e)
same_named d e id k ns ms first second =
    rw (first, second) (go (eqb (kind_place d) (kind_place e)) (bytes_eq ns ms) (eqb id k) (eqb k id) (turned id k))
  where
    go : (a b q c : Bool) → q ≡ c → (a && (q && b)) ≡ (c && (a && (q && b)))
    go true true true true e = refl
    go true true false false e = refl
    go true false true true e = refl
    go true false false false e = refl
    go false true true true e = refl
    go false true false false e = refl
    go false false true true e = refl
    go false false false false e = refl
    go a b true false e = cc
    go a b false true e = cc

one_named : (b c : Bool) → b ≡ (c && b) → (b || false) ≡ (c && (b || false))
one_named true c e = e
one_named false c e = e

either_named : (a b c : Bool) → a ≡ (c && a) → b ≡ (c && b) → (a || b) ≡ (c && (a || b))
either_named true b true first second = refl
either_named true b false first second = first
either_named false b c first second = second

when_named : (p : Duty → Bool) (b c : Bool) (e : Duty) → p e ≡ (c && p e) →
    list_any p (when b e) ≡ (c && list_any p (when b e))
when_named p true c e named = one_named (p e) c named
when_named p false c e named = sym (and_false c)

placing_named : (t : Tables) (x : Task) (n : Option Node) (d : Duty) (id : ℕ) (ns : List ℕ) → duty_numbers d ≡ id ∷ ns →
    list_any (same_duty d) (placing t x n) ≡ (eqb x.id id && list_any (same_duty d) (placing t x n))
placing_named t x (Some n) d id ns first =
    one_named (same_duty d (duty.Place x.id n.id)) (eqb x.id id)
    (same_named d (duty.Place x.id n.id) id x.id ns (n.id ∷ []) first refl)
placing_named t x None d id ns first = go (same_note (note.Filters (refusal_counts t x)) x.note)
  where
    go : (b : Bool) → list_any (same_duty d) (cond b [] (duty.Explain x.id ∷ []))
        ≡ (eqb x.id id && list_any (same_duty d) (cond b [] (duty.Explain x.id ∷ [])))
    go true = sym (and_false (eqb x.id id))
    go false =
        one_named (same_duty d (duty.Explain x.id)) (eqb x.id id)
        (same_named d (duty.Explain x.id) id x.id ns [] first refl)

place_named : (t : Tables) (x : Task) (b : Bool) (d : Duty) (id : ℕ) (ns : List ℕ) → duty_numbers d ≡ id ∷ ns →
    list_any (same_duty d) (place_duty t x b) ≡ (eqb x.id id && list_any (same_duty d) (place_duty t x b))
place_named t x true d id ns first = placing_named t x (best_node t x) d id ns first
place_named t x false d id ns first = sym (and_false (eqb x.id id))

schedule_named : (t : Tables) (x : Task) (d : Duty) (id : ℕ) (ns : List ℕ) → duty_numbers d ≡ id ∷ ns →
    list_any (same_duty d) (schedule t x) ≡ (eqb x.id id && list_any (same_duty d) (schedule t x))
schedule_named t x d id ns first =
    let drop' = when (is_to_drop x) (duty.Drop x.id) in
    let place = place_duty t x (is_to_place x) in
    let split = list_any-append (same_duty d) drop' place in
    split
    ∙ either_named (list_any (same_duty d) drop') (list_any (same_duty d) place) (eqb x.id id)
    (when_named (same_duty d) (is_to_drop x) (eqb x.id id) (duty.Drop x.id)
    (same_named d (duty.Drop x.id) id x.id ns [] first refl))
    (place_named t x (is_to_place x) d id ns first)
    ∙ ap (λ b. eqb x.id id && b) (sym split)

-- where the duty names the task, it is in the list exactly where that task has it
pub scheduled : (t : Tables) (d : Duty) (id : ℕ) (ns : List ℕ) → duty_numbers d ≡ id ∷ ns →
    list_any (is_scheduled t id d) t.tasks ≡ list_any (same_duty d) (scheduler t)
scheduled t d id ns first =
    sym (any_each (same_duty d) (schedule t) t.tasks
    ∙ any_same (λ (x : Task). list_any (same_duty d) (schedule t x)) (is_scheduled t id d) t.tasks
    (λ (x : Task). schedule_named t x d id ns first))

-- The note of the task that is there.

pub explains : (w : World) (version id : ℕ) (x : Task) (counts : List ℕ) → IsRising task_id w.tables.tasks →
    row_at task_id id w.tables.tasks ≡ Some x → counts ≡ refusal_counts w.tables x →
    with_tables w (change_task id (noted version (note.Filters counts)) w.tables) ≡ effect_by version w (duty.Explain id)
explains w version id x counts rises there are =
    ap (λ (rows : List Task). with_tables w (record w.tables { tasks = rows }))
    (same_change task_id id (noted version (note.Filters counts)) (explained version w.tables) w.tables.tasks x
    rises there (ap (λ (ns : List ℕ). noted version (note.Filters ns) x) are))

pub explains_none : (w : World) (version id : ℕ) → row_at task_id id w.tables.tasks ≡ None →
    w ≡ effect_by version w (duty.Explain id)
explains_none w version id missing =
    sym (ap (λ (rows : List Task). with_tables w (record w.tables { tasks = rows }))
    (change_row-None task_id id (explained version w.tables) w.tables.tasks missing))

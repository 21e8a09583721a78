-- What a duty makes of tasks that are new, so that they stay calm.
use Rattle.std.proofs.Common.{Bool, List, None, Option, Some, [], ap, arith, cond, eqb, false, inl, inr, refl, subst, sym, true, ℕ, ◌∙◌, ◌∷◌, ◌≡◌, ◌≤◌, ◌⊎◌}
use Rattle.std.proofs.lemmas.Bool.Decides.{nat_tests}
use Rattle.std.specs.Prelude.{nat_le, not, ◌&&◌}
use Rattle.swarm_settle.proofs.Bound.Calm.Fit.{KeepsFit, well-kept}
use Rattle.swarm_settle.proofs.Bound.Calm.World.{AreCalm, is_well_placed}
use Rattle.swarm_model.proofs.Laws.Timely.{changed-cases}
use Rattle.swarm_model.proofs.Moves.Worlds.{TaskMoves, task-same, task-then}
use Rattle.swarm_objects.proofs.RowLemmas.{Has-append_cases, Has-filter_cases, Has-map_cases}
use Rattle.swarm_objects.specs.Changes.{change_task, change_where, on_service, with_new}
use Rattle.swarm_objects.specs.Loops.Reaper.{without_task}
use Rattle.swarm_objects.specs.Rows.{Has, on_row, row_at, service_id, task_id}
use Rattle.swarm_objects.specs.Tasks.New.{with_task}
use Rattle.swarm_objects.specs.Tasks.Words.{is_live, is_placed}
use Rattle.swarm_objects.specs.Values.Ranks.{desired_rank, rank}
use Rattle.swarm_objects.specs.World.{Tables}
use Rattle.swarm_objects.specs.declared.services.Service.{Service}
use Rattle.swarm_objects.specs.declared.tasks.Desired.{Desired}
use Rattle.swarm_objects.specs.declared.tasks.Task.{Task}
use Rattle.swarm_objects.specs.declared.tasks.TaskState.TheVariants as state

-- where it is new, it isn't placed but as before, and comes no further than PREPARING
pub record CalmTask (m : ℕ) (x y : Task) : Type 0 where
  pub moves : TaskMoves x y
  pub placed : m ≤ x.id → is_placed y ≡ true → is_placed x ≡ true
  pub early : m ≤ x.id → is_live y ≡ true → rank x.state ≤ rank state.Preparing → rank y.state ≤ rank state.Preparing

pub calm-same : (m : ℕ) (x : Task) → CalmTask m x x
calm-same m x = record { moves = task-same x; placed = λ new is. is; early = λ new live low. low }

-- its state stays
pub calm-state : (m : ℕ) (x y : Task) → TaskMoves x y → y.state ≡ x.state → CalmTask m x y
calm-state m x y moves same = record {
  moves = moves;
  placed = λ new is. subst (λ (s : _). (nat_le (rank state.Assigned) (rank s) && nat_le (rank s) (rank state.Running)) ≡ true) same is;
  early = λ new live low. subst (λ (s : _). rank s ≤ rank state.Preparing) (sym same) low;
}

-- what was wanted of it was no more
live-before : (x y : Task) → TaskMoves x y → is_live y ≡ true → is_live x ≡ true
live-before x y moves live =
    let goal : desired_rank y.goal ≡ desired_rank x.goal = ap desired_rank moves.rises.making.goal in
    let up = moves.rises.desired in
    grind (arith, nat_tests, live, goal, up)

pub calm-then : (m : ℕ) (x y z : Task) → CalmTask m x y → CalmTask m y z → CalmTask m x z
calm-then m x y z first second = record {
  moves = task-then x y z first.moves second.moves;
  placed = λ new is. first.placed new (second.placed (still new) is);
  early = λ new live low.
      second.early (still new) live (first.early new (live-before y z second.moves live) low);
}
  where
    still : m ≤ x.id → m ≤ y.id
    still new = omega (arith, new, first.moves.id)

-- a task that comes
pub record ComesNew (t : Tables) (x : Task) : Type 0 where
  pub id : x.id ≡ t.next_id
  pub state : x.state ≡ state.New
  pub created : x.created ≡ t.clock

abbrev pub FromOld : ℕ → Tables → Task → Type 0
FromOld m t y = (x : Task) × Has t.tasks x × CalmTask m x y

-- each task stands for one that was there
pub record Stays (m : ℕ) (t u : Tables) : Type 0 where
  pub tasks : (y : Task) → Has u.tasks y → FromOld m t y
  pub clock : u.clock ≡ t.clock
  pub next : u.next_id ≡ t.next_id
  pub fit : KeepsFit t u

-- or is new
pub record Calms (m : ℕ) (t u : Tables) : Type 0 where
  pub tasks : (y : Task) → Has u.tasks y → FromOld m t y ⊎ ComesNew t y
  pub clock : u.clock ≡ t.clock
  pub fit : KeepsFit t u

pub calms : {m : ℕ} {t u : Tables} → Stays m t u → Calms m t u
calms is = record { tasks = λ y h. inl (is.tasks y h); clock = is.clock; fit = is.fit }

-- the tables stay calm
new-placed : (x : Task) → x.state ≡ state.New → is_placed x ≡ true → ⊥
new-placed x new is =
    let wrong : false ≡ true = subst (λ (s : _). (nat_le (rank state.Assigned) (rank s) && nat_le (rank s) (rank state.Running)) ≡ true) new is in
    cc

pub stay-calm : (m : ℕ) (t u : Tables) → Calms m t u → AreCalm m t → AreCalm m u
stay-calm m t u step is = record {
  made = λ y h new. made y new (step.tasks y h);
  early = λ y h new live. early y new live (step.tasks y h);
  placed = λ y h new there. placed y new there (step.tasks y h);
}
  where
    old : (x y : Task) → CalmTask m x y → m ≤ y.id → m ≤ x.id
    old x y calm new = omega (arith, new, calm.moves.id)

    made : (y : Task) → m ≤ y.id → FromOld m t y ⊎ ComesNew t y → y.created ≡ u.clock
    made y new (inl r) =
        r.2.moves.rises.making.created ∙ is.made r.0 r.1 (old r.0 y r.2 new) ∙ sym step.clock
    made y new (inr c) = c.created ∙ sym step.clock

    early : (y : Task) → m ≤ y.id → is_live y ≡ true → FromOld m t y ⊎ ComesNew t y →
        rank y.state ≤ rank state.Preparing
    early y new live (inl r) =
        let was = old r.0 y r.2 new in
        r.2.early was live (is.early r.0 r.1 was (live-before r.0 y r.2.moves live))
    early y new live (inr c) = subst (λ (s : _). rank s ≤ rank state.Preparing) (sym c.state) (omega arith)

    placed : (y : Task) → m ≤ y.id → is_placed y ≡ true → FromOld m t y ⊎ ComesNew t y → is_well_placed u y ≡ true
    placed y new there (inl r) =
        let was = old r.0 y r.2 new in
        well-kept t u r.0 y step.fit r.2.moves (is.placed r.0 r.1 was (r.2.placed was there))
    placed y new there (inr c) = absurd (new-placed y c.state there)

-- Makers.

pub stays-same : (m : ℕ) (t : Tables) → Stays m t t
stays-same m t = record {
  tasks = λ y h. (y, h, calm-same m y);
  clock = refl;
  next = refl;
  fit = λ constraints k is. is;
}

pub stays-then : (m : ℕ) (t u v : Tables) → Stays m t u → Stays m u v → Stays m t v
stays-then m t u v first second = record {
  tasks = λ z h.
      let from = second.tasks z h in
      let back = first.tasks from.0 from.1 in
      (back.0, back.1, calm-then m back.0 from.0 z back.2 from.2);
  clock = second.clock ∙ first.clock;
  next = second.next ∙ first.next;
  fit = λ constraints k is. second.fit constraints k (first.fit constraints k is);
}

-- the tasks are as they were
pub stays-tasks : (m : ℕ) (t u : Tables) → u.tasks ≡ t.tasks → u.clock ≡ t.clock → u.next_id ≡ t.next_id → KeepsFit t u →
    Stays m t u
stays-tasks m t u same clock next fit = record {
  tasks = λ y h. (y, subst (λ (xs : List Task). Has xs y) same h, calm-same m y);
  clock = clock;
  next = next;
  fit = fit;
}

-- one task changes
pub stays-task : (m : ℕ) (t : Tables) (id : ℕ) (f : Task → Task) →
    ((x : Task) → Has t.tasks x → x.id ≡ id → CalmTask m x (f x)) → Stays m t (change_task id f t)
stays-task m t id f each = record {
  tasks = λ y h. go y (changed-cases task_id id f t.tasks y h);
  clock = refl;
  next = refl;
  fit = λ constraints k is. is;
}
  where
    go : (y : Task) → ((x : Task) × Has t.tasks x × ((x ≡ y) ⊎ ((x.id ≡ id) × (f x ≡ y)))) → FromOld m t y
    go y r = elim r.2 [
      | inl e ↦ (r.0, r.1, subst (CalmTask m r.0) e (calm-same m r.0))
      | inr k ↦ (r.0, r.1, subst (CalmTask m r.0) k.1 (each r.0 r.1 k.0))
    ]

-- those that pass a test change
pub stays-where : (m : ℕ) (t : Tables) (test : Task → Bool) (f : Task → Task) →
    ((x : Task) → Has t.tasks x → test x ≡ true → CalmTask m x (f x)) → Stays m t (change_where test f t)
stays-where m t test f each = record {
  tasks = λ y h.
      let from = Has-map_cases (λ x. cond (test x) (f x) x) t.tasks y h in
      (from.0, from.1, subst (CalmTask m from.0) from.2 (go from.0 from.1 (test from.0) refl));
  clock = refl;
  next = refl;
  fit = λ constraints k is. is;
}
  where
    go : (x : Task) → Has t.tasks x → (b : Bool) → test x ≡ b → CalmTask m x (cond b (f x) x)
    go x h true e = each x h e
    go x h false e = calm-same m x

-- one goes
pub stays-left : (m : ℕ) (t : Tables) (id : ℕ) → Stays m t (without_task id t)
stays-left m t id = record {
  tasks = λ y h. (y, (Has-filter_cases (λ x. not (eqb (task_id x) id)) t.tasks y h).0, calm-same m y);
  clock = refl;
  next = refl;
  fit = λ constraints k is. is;
}

-- one comes
pub calms-comes : (m : ℕ) (t u : Tables) (x : Task) → Stays m t u → ComesNew u x → Calms m t (with_task u x)
calms-comes m t u x first new = record {
  tasks = λ y h. go y (Has-append_cases u.tasks (x ∷ []) y h);
  clock = first.clock;
  fit = first.fit;
}
  where
    mine : ComesNew t x
    mine = record { id = new.id ∙ first.next; state = new.state; created = new.created ∙ first.clock }

    go : (y : Task) → Has u.tasks y ⊎ Has (x ∷ []) y → FromOld m t y ⊎ ComesNew t y
    go y (inl h) = inl (first.tasks y h)
    go y (inr (inl e)) = inr (subst (ComesNew t) e mine)
    go y (inr (inr none)) = absurd none

pub calms-new : (m version : ℕ) (d : Desired) (t u : Tables) (s : Service) (k : ℕ) → Stays m t u →
    Calms m t (with_new version d u s k)
calms-new m version d t u s k first =
    calms-comes m t u _ first (record { id = refl; state = refl; created = refl })

-- services may change beside
pub calms-services : (m : ℕ) (t u : Tables) (services : List Service) → Calms m t u →
    Calms m t (record u { services = services })
calms-services m t u services is = record { tasks = is.tasks; clock = is.clock; fit = is.fit }

pub calms-on_service : (m : ℕ) (t : Tables) (s : ℕ) (f : Service → Tables) →
    ((v : Service) → row_at service_id s t.services ≡ Some v → Calms m t (f v)) → Calms m t (on_service t s f)
calms-on_service m t s f each = go (row_at service_id s t.services) refl
  where
    go : (o : Option Service) → row_at service_id s t.services ≡ o → Calms m t (on_row t f o)
    go None e = calms (stays-same m t)
    go (Some v) e = each v e

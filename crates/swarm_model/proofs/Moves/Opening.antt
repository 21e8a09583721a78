-- A remote node's session opens with what resources are left: tasks that no longer fit are rejected.
use Rattle.std.proofs.Common.{◌≡◌, ℕ, ◌<◌, ◌≤◌, Bool, true, false, cond, inr, List, [], ◌∷◌, ◌++◌, refl, sym, ap, ◌∙◌, subst, arith, append-nil}
use Rattle.std.specs.Prelude.{fold}
use Rattle.swarm_model.proofs.Moves.Duties.{placed-most}
use Rattle.swarm_model.proofs.Moves.Ids.{comes-next, times-becomes, times-with_row}
use Rattle.swarm_model.proofs.Moves.Rows.{Becomes, becomes-change_any}
use Rattle.swarm_model.proofs.Moves.Sessions.{opened, opened-rises}
use Rattle.swarm_model.proofs.Moves.Tables.{moves-in_state}
use Rattle.swarm_model.proofs.Moves.Worlds.{networks-stay, SameId, TablesMove, TaskMoves, task-same, turns-by, turns-ids}
use Rattle.swarm_model.specs.Calls.Remote.{begun_tables}
use Rattle.swarm_objects.specs.Nodes.Opening.{TakenSoFar, fits_in, keep_or_reject, keep_other, keep_task, tasks_within, with_resources}
use Rattle.swarm_objects.proofs.Tests.{first_so}
use Rattle.swarm_objects.specs.Changes.{in_state}
use Rattle.swarm_objects.specs.Nodes.Holdings.{is_placed_on}
use Rattle.swarm_model.specs.Laws.Rises.{session_id}
use Rattle.swarm_objects.specs.Nodes.Sessions.{new_session}
use Rattle.swarm_objects.specs.Rows.{node_id, session_node, task_id}
use Rattle.swarm_objects.specs.Tasks.Words.{is_on, is_placed}
use Rattle.swarm_objects.specs.World.{Tables}
use Rattle.swarm_objects.specs.declared.tasks.Task.{Task}
use Rattle.swarm_objects.specs.declared.tasks.TaskState.TheVariants as state

-- what one task adds
pub record Adds (old new : TakenSoFar) (x : Task) : Type 0 where
  pub task : Task
  pub tasks : new.tasks ≡ old.tasks ++ task ∷ []
  pub moves : TaskMoves x task

one-added : (version clock node : ℕ) (kept : TakenSoFar) (x : Task) → Adds kept (keep_other version clock node kept x) x
one-added version clock node kept x = by_place (is_placed_on node x) refl
  where
    by_room : (b : Bool) → is_placed_on node x ≡ true →
        Adds kept (cond b (keep_task kept x) (record kept { tasks = kept.tasks ++ in_state version clock state.Rejected x ∷ [] })) x
    by_room true e = record { task = x; tasks = refl; moves = task-same x }
    by_room false e =
        let most = placed-most x (first_so (is_placed x) (is_on node x) e) in
        record {
          task = in_state version clock state.Rejected x;
          tasks = refl;
          moves = moves-in_state version clock state.Rejected x (omega (arith, most));
        }

    by_place : (b : Bool) → is_placed_on node x ≡ b →
        Adds kept (cond b (keep_or_reject version clock kept x) (record kept { tasks = kept.tasks ++ x ∷ [] })) x
    by_place true e = by_room (fits_in kept x) e
    by_place false e = record { task = x; tasks = refl; moves = task-same x }

pub regroup : {X : Type 0} (xs : List X) (y : X) (ys : List X) → (xs ++ y ∷ []) ++ ys ≡ xs ++ y ∷ ys
regroup [] y ys = refl
regroup (x ∷ xs) y ys = ap (λ zs. x ∷ zs) (regroup xs y ys)

-- what all of them add
pub record AddsAll (old new : TakenSoFar) (xs : List Task) : Type 0 where
  pub more : List Task
  pub tasks : new.tasks ≡ old.tasks ++ more
  pub rows : Becomes TaskMoves [] xs more

all-added : (version clock node : ℕ) (xs : List Task) (kept : TakenSoFar) →
    AddsAll kept (fold (keep_other version clock node) kept xs) xs
all-added version clock node [] kept = record { more = []; tasks = sym (append-nil kept.tasks); rows = refl }
all-added version clock node (x ∷ xs) kept =
    let next = keep_other version clock node kept x in
    let one = one-added version clock node kept x in
    let rest = all-added version clock node xs next in
    record {
      more = one.task ∷ rest.more;
      tasks = rest.tasks ∙ ap (λ z. z ++ rest.more) one.tasks ∙ regroup kept.tasks one.task rest.more;
      rows = inr (one.moves, rest.rows);
    }

pub within-becomes : (version clock node cpu mem : ℕ) (xs : List Task) →
    Becomes TaskMoves [] xs (tasks_within version clock node cpu mem xs)
within-becomes version clock node cpu mem xs =
    let all = all-added version clock node xs (record { cpu = cpu; mem = mem; tasks = [] }) in
    subst (λ z. Becomes TaskMoves [] xs z) (sym all.tasks) all.rows

pub opening-moves : (version : ℕ) (t : Tables) (node cpu mem : ℕ) → (1 ≤ node) × (node < t.next_id) →
    TablesMove t (begun_tables version t node cpu mem)
opening-moves version t node cpu mem is = record {
  next = omega arith;
  nodes =
      turns-by (becomes-change_any (SameId node_id) node_id node (with_resources version cpu mem) t.nodes (λ n. refl)
      (λ n h. refl));
  services = turns-ids t.services;
  tasks = turns-by (within-becomes version t.clock node cpu mem t.tasks);
  networks = networks-stay t.networks;
  sessions = opened t node;
  opens = opened-rises t node is;
  ids = λ i.
      comes-next t.next_id i t.next_id _ _ refl (omega (
        arith,
        times-becomes node_id (SameId node_id) (λ x y e. e) i t.nodes _
            (becomes-change_any (SameId node_id) node_id node (with_resources version cpu mem) t.nodes (λ n. refl)
            (λ n h. refl)),
        times-becomes task_id TaskMoves (λ x y m. m.id) i t.tasks _ (within-becomes version t.clock node cpu mem t.tasks),
        times-with_row session_node session_id i (new_session t node) t.sessions,
      ));
}

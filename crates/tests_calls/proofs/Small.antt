-- A small world is sound, and its numbers are small.
use Rattle.std.proofs.Common.{◌≡◌, ◌<◌, ◌+◌, ◌++◌, ℕ, List, [], ◌∷◌, true, refl, ap, arith, subst, sym}
use Rattle.std.specs.Prelude.{◌&&◌}
use Rattle.std.specs.List.{list_all}
use Rattle.swarm_objects.proofs.RowLemmas.{IsBelow-more, RisesFrom-push}
use Rattle.swarm_objects.proofs.Tests.{both, both_are}
use Rattle.swarm_objects.specs.Bounds.{far_end, is_near_service, is_near_task}
use Rattle.swarm_objects.specs.Rows.{IsBelow, node_id, task_id}
use Rattle.swarm_objects.specs.World.{Tables}
use Rattle.swarm_objects.specs.declared.nodes.Node.{Node}
use Rattle.swarm_objects.specs.declared.services.Service.{Service}
use Rattle.swarm_objects.specs.declared.tasks.Task.{Task}
use Rattle.swarm_objects.specs.Usable.{IsUsable}
use Rattle.tests_calls.specs.Small.{AreNodes, AreTasks, many_tables, small_tables}

pub usable : (now : ℕ) (ns : List Node) (x : Task) → now < far_end → AreNodes ns → x.id ≡ 2 → is_near_task x ≡ true →
    IsUsable (small_tables now ns x)
usable now ns x early nodes id near = record {
  sound = record {
    ordered = record {
      nodes = nodes.rises;
      services = tt;
      tasks = (omega (arith, id), tt);
      networks = tt;
      sessions = tt;
    };
    below = record { nodes = nodes.below; services = tt; tasks = (omega (arith, id), tt); networks = tt };
    subnets = refl;
  };
  next_id = omega arith;
  clock = early;
  times = record {
    nodes = nodes.near;
    services = refl;
    tasks = ap (λ b. b && true) near;
    attempts = refl;
    sessions = refl;
    orphan = refl;
  };
}

-- One task more.

below_push : (n : ℕ) (xs : List Task) (x : Task) → x.id ≡ n → IsBelow task_id n xs → IsBelow task_id (n + 1) (xs ++ x ∷ [])
below_push n [] x id below = (omega arith, tt)
below_push n (y ∷ xs) x id below = (let lt = below.0 in omega arith, below_push n xs x id below.1)

near_push : (xs : List Task) (x : Task) → list_all is_near_task xs ≡ true → is_near_task x ≡ true →
    list_all is_near_task (xs ++ x ∷ []) ≡ true
near_push [] x all near = both (is_near_task x) true near refl
near_push (y ∷ xs) x all near =
    let parts = both_are (is_near_task y) (list_all is_near_task xs) all in
    both (is_near_task y) (list_all is_near_task (xs ++ x ∷ [])) parts.0 (near_push xs x parts.1 near)

pub one_more : (n : ℕ) (xs new : List Task) (x : Task) → AreTasks n xs → new ≡ xs ++ x ∷ [] → x.id ≡ n → 0 < n →
    is_near_task x ≡ true → AreTasks (n + 1) new
one_more n xs new x tasks is id some near =
    let below : IsBelow task_id x.id xs = rw id tasks.below in
    subst (AreTasks (n + 1)) (sym is) (record {
      rises = RisesFrom-push task_id 0 xs x tasks.rises below (omega arith);
      below = below_push n xs x id tasks.below;
      near = near_push xs x tasks.near near;
    })

many_usable : (ns : List Node) (s : Service) (xs : List Task) → AreNodes ns → s.id ≡ 7 → is_near_service s ≡ true →
    AreTasks 1008 xs → IsUsable (many_tables ns s xs)
many_usable ns s xs nodes id near tasks = record {
  sound = record {
    ordered = record {
      nodes = nodes.rises;
      services = (omega (arith, id), tt);
      tasks = tasks.rises;
      networks = tt;
      sessions = tt;
    };
    below = record {
      nodes = IsBelow-more node_id 9 1008 ns (omega arith) nodes.below;
      services = (omega (arith, id), tt);
      tasks = tasks.below;
      networks = tt;
    };
    subnets = refl;
  };
  next_id = omega arith;
  clock = omega arith;
  times = record {
    nodes = nodes.near;
    services = ap (λ b. b && true) near;
    tasks = tasks.near;
    attempts = refl;
    sessions = refl;
    orphan = refl;
  };
}

pub usable_many : (t : Tables) (ns : List Node) (s : Service) (xs : List Task) → AreNodes ns → s.id ≡ 7 →
    is_near_service s ≡ true → AreTasks 1008 xs → t ≡ many_tables ns s xs → IsUsable t
usable_many t ns s xs nodes id near tasks is = subst IsUsable (sym is) (many_usable ns s xs nodes id near tasks)

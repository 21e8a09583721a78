-- The worlds of one task, and of a service and its task, are sound and small.
use Rattle.std.proofs.Common.{◌≡◌, true, [], ◌∷◌, refl, sym, ap, subst, arith}
use Rattle.std.specs.Prelude.{◌&&◌}
use Rattle.swarm_objects.specs.Bounds.{is_near_service, is_near_task}
use Rattle.swarm_objects.specs.World.{Tables, empty_tables}
use Rattle.swarm_objects.specs.declared.services.Service.{Service}
use Rattle.swarm_objects.specs.declared.tasks.Task.{Task}
use Rattle.swarm_objects.specs.Usable.{IsUsable}

near_one : (x : Task) → is_near_task x ≡ true → (is_near_task x && true) ≡ true
near_one x e = ap (λ b. b && true) e

abbrev pub one : Task → Tables
one x = record empty_tables { next_id = 2; tasks = x ∷ [] }

usable : (x : Task) → x.id ≡ 1 → is_near_task x ≡ true → IsUsable (one x)
usable x id near = record {
  sound = record {
    ordered = record { nodes = tt; services = tt; tasks = (omega (arith, id), tt); networks = tt; sessions = tt };
    below = record { nodes = tt; services = tt; tasks = (omega (arith, id), tt); networks = tt };
    subnets = refl;
  };
  next_id = omega arith;
  clock = omega arith;
  times = record {
    nodes = refl;
    services = refl;
    tasks = near_one x near;
    attempts = refl;
    sessions = refl;
    orphan = refl;
  };
}

pub usable_one : (t : Tables) (x : Task) → x.id ≡ 1 → is_near_task x ≡ true → t ≡ one x → IsUsable t
usable_one t x id near is = subst IsUsable (sym is) (usable x id near)

abbrev pub two : Service → Task → Tables
two s x = record empty_tables { next_id = 8; services = s ∷ []; tasks = x ∷ [] }

both_usable : (s : Service) (x : Task) → s.id ≡ 7 → x.id ≡ 1 → is_near_service s ≡ true → is_near_task x ≡ true →
    IsUsable (two s x)
both_usable s x service_id task_id near_service near_task = record {
  sound = record {
    ordered = record {
      nodes = tt;
      services = (omega (arith, service_id), tt);
      tasks = (omega (arith, task_id), tt);
      networks = tt;
      sessions = tt;
    };
    below = record {
      nodes = tt;
      services = (omega (arith, service_id), tt);
      tasks = (omega (arith, task_id), tt);
      networks = tt;
    };
    subnets = refl;
  };
  next_id = omega arith;
  clock = omega arith;
  times = record {
    nodes = refl;
    services = ap (λ b. b && true) near_service;
    tasks = near_one x near_task;
    attempts = refl;
    sessions = refl;
    orphan = refl;
  };
}

pub usable_two : (t : Tables) (s : Service) (x : Task) → s.id ≡ 7 → x.id ≡ 1 → is_near_service s ≡ true →
    is_near_task x ≡ true → t ≡ two s x → IsUsable t
usable_two t s x service_id task_id near_service near_task is =
    subst IsUsable (sym is) (both_usable s x service_id task_id near_service near_task)

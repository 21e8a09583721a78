-- How many tasks can come at most: two for each task that is there, and three for each place that is wanted.
use Rattle.std.proofs.Common.{Bool, List, None, Option, Some, [], arith, eqb, false, length, true, ℕ, ◌+◌, ◌-◌, ◌*◌, ◌∷◌, ◌≡◌, ◌≤◌}
use Rattle.std.proofs.lemmas.Bool.Decides.{nat_tests}
use Rattle.std.proofs.lemmas.List.Sums.{count_by-le-length, length-filter, sum_by-cons}
use Rattle.std.specs.Prelude.{count_by, filter, fold, is_some, not, sum_by, ◌&&◌}
use Rattle.swarm_settle.proofs.Bound.Most.{filter-most}
use Rattle.swarm_settle.proofs.Bound.Positions.{bit-most}
use Rattle.swarm_settle.proofs.Bound.Start.Shares.{shares-most, sum-scaled}
use Rattle.swarm_settle.specs.Bound.Coming.{coming, coming_by_mode, coming_of, coming_on, is_renewed, places_held, places_lost, replicas_before, replicas_in}
use Rattle.swarm_model.specs.Laws.Size.{places_of_service, places_wanted, wanted_by_spec}
use Rattle.swarm_objects.proofs.Tests.{first_so}
use Rattle.swarm_objects.specs.Kinds.{bit}
use Rattle.swarm_objects.specs.Loops.Global.{is_missing}
use Rattle.swarm_objects.specs.Nodes.Sessions.{is_session_live}
use Rattle.swarm_objects.specs.Rows.{RisesFrom, has_row, node_id, on_row, service_id, with_number}
use Rattle.swarm_objects.specs.Services.Words.{is_job}
use Rattle.swarm_objects.specs.Tasks.Places.{counts_for, held_places, is_held_place, place_number, place_numbers}
use Rattle.swarm_objects.specs.World.{Tables}
use Rattle.swarm_objects.specs.declared.nodes.Node.{Node}
use Rattle.swarm_objects.specs.declared.services.Mode.TheVariants as mode
use Rattle.swarm_objects.specs.declared.services.Mode.{Mode}
use Rattle.swarm_objects.specs.declared.services.Service.{Service}
use Rattle.swarm_objects.specs.declared.services.ServiceSpec.{ServiceSpec}
use Rattle.swarm_objects.specs.declared.tasks.Task.{Task}
use Rattle.swarm_settle.proofs.Held.{one-more}

numbers-most : (ks : List ℕ) (tasks : List Task) →
    length (fold (λ js t. with_number (place_number t.place) js) ks tasks) ≤ length ks + length tasks
numbers-most ks [] = omega arith
numbers-most ks (x ∷ tasks) =
    let rest = numbers-most (with_number (place_number x.place) ks) tasks in
    omega (arith, rest, one-more (place_number x.place) ks)

-- no more than the tasks that count for it
pub held-most : (t : Tables) (s : Service) → places_held t s ≤ count_by (counts_for s) t.tasks
held-most t s =
    let held = filter-most (is_held_place t s) (place_numbers t s) in
    let numbers = numbers-most [] (filter (counts_for s) t.tasks) in
    omega (arith, held, numbers, length-filter (counts_for s) t.tasks)

-- One service.

on-most : (t : Tables) (s : Service) (n : Node) → coming_on t s n ≤ 3
on-most t s n =
    omega (
      arith,
      bit-most (not (is_job s.spec.mode) && is_some s.previous),
      bit-most (not (is_session_live t n.id)),
      bit-most (is_missing t s n),
    )

before-most : (t : Tables) (o : Option ServiceSpec) →
    on_row 0 (λ (spec : ServiceSpec). replicas_in spec.mode) o ≤ on_row 0 (wanted_by_spec t) o
before-most t None = omega arith
before-most t (Some spec) = go spec.mode
  where
    go : (m : Mode) → replicas_in m ≤ places_wanted t m
    go (mode.Replicated replicas) = omega arith
    go mode.Global = omega arith
    go (mode.Job concurrent total) = omega arith

-- beside the places that wait
mode-most : (t : Tables) (s : Service) (m : Mode) →
    coming_by_mode t s m ≤ places_held t s + 3 * (places_wanted t m + on_row 0 (wanted_by_spec t) s.previous)
mode-most t s (mode.Replicated replicas) =
    go (not (is_job s.spec.mode) && is_some s.previous) (before-most t s.previous)
  where
    held : ℕ
    held = places_held t s

    before : ℕ
    before = replicas_before s

    wanted : ℕ
    wanted = on_row 0 (wanted_by_spec t) s.previous

    go : (b : Bool) → before ≤ wanted →
        (replicas - held) * (1 + bit b) + bit b * (held + before) ≤ held + 3 * (replicas + wanted)
    go true few = omega (arith, few)
    go false few = omega arith
mode-most t s (mode.Job concurrent total) = omega arith
mode-most t s mode.Global =
    let nodes = sum-scaled 3 (coming_on t s) t.nodes (λ n h. on-most t s n) in
    let lost = count_by-le-length (λ k. not (has_row node_id k t.nodes)) (held_places t s) in
    go (not (is_job s.spec.mode) && is_some s.previous) nodes lost
  where
    go : (b : Bool) → sum_by (coming_on t s) t.nodes ≤ 3 * length t.nodes → places_lost t s ≤ places_held t s →
        sum_by (coming_on t s) t.nodes + bit b * places_lost t s
        ≤ places_held t s + 3 * (length t.nodes + on_row 0 (wanted_by_spec t) s.previous)
    go true nodes lost = omega (arith, nodes, lost)
    go false nodes lost = omega (arith, nodes)

pub of-most : (m : ℕ) (t : Tables) (s : Service) →
    coming_of m t s ≤ 2 * count_by (counts_for s) t.tasks + 3 * places_of_service t s
of-most m t s =
    let waiting = count_by-le-length (λ k. not (is_renewed m t s k)) (held_places t s) in
    omega (arith, waiting, held-most t s, mode-most t s s.spec.mode)

-- All services.

pub coming-most : (m low : ℕ) (t : Tables) → RisesFrom service_id low t.services →
    coming m t ≤ 2 * length t.tasks + 3 * sum_by (places_of_service t) t.services
coming-most m low t rises =
    let each = sums t.services in
    let shares = shares-most service_id (λ (x : Task). x.service) counts_for low t.services t.tasks rises
    (λ s x e. named s x (first_so _ _ e)) in
    omega (arith, each, shares)
  where
    named : (s : Service) (x : Task) → eqb x.service s.id ≡ true → s.id ≡ x.service
    named s x e = grind (arith, nat_tests, e)

    sums : (ss : List Service) →
        sum_by (coming_of m t) ss
        ≤ 2 * sum_by (λ s. count_by (counts_for s) t.tasks) ss + 3 * sum_by (places_of_service t) ss
    sums [] = omega arith
    sums (s ∷ ss) =
        omega (
          arith,
          sum_by-cons (coming_of m t) s ss,
          sum_by-cons (λ s. count_by (counts_for s) t.tasks) s ss,
          sum_by-cons (places_of_service t) s ss,
          of-most m t s,
          sums ss,
        )

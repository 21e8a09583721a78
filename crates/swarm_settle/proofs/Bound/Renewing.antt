-- A held place gets a new task, and others of its tasks may stop: one less can still come.
use Rattle.std.proofs.Common.{Bool, List, [], ap, false, map, refl, sym, true, ℕ, ◌++◌, ◌+◌, ◌∙◌, ◌∷◌, ◌≡◌, ◌≤◌}
use Rattle.swarm_settle.proofs.Bound.ComingFills.{by-number}
use Rattle.swarm_settle.proofs.Bound.ComingSteps.{coming-renews, coming-stays}
use Rattle.swarm_settle.proofs.Bound.Falls.Places.{seen-elsewhere}
use Rattle.swarm_settle.proofs.Bound.Falls.Touched.{touch}
use Rattle.swarm_settle.proofs.Bound.Pushes.{StandsNew, coming-one, held-outside, held-pushed, other-outside, outside-new, renewed-outside, renewed-pushed}
use Rattle.swarm_settle.proofs.Bound.Seen.{AllSeen, held-seen, renewed-seen}
use Rattle.swarm_settle.specs.Bound.Coming.{coming, coming_of, is_renewed}
use Rattle.swarm_model.proofs.Moves.Rows.{RisesBetween}
use Rattle.swarm_objects.proofs.Tests.{never-both}
use Rattle.swarm_objects.specs.Rows.{Has, service_id}
use Rattle.swarm_objects.specs.Tasks.Places.{is_held_place, is_in_place, place_at}
use Rattle.swarm_objects.specs.World.{Tables}
use Rattle.swarm_objects.specs.declared.services.Service.{Service}
use Rattle.swarm_objects.specs.declared.tasks.Attempt.{Attempt}
use Rattle.swarm_objects.specs.declared.tasks.Task.{Task}

-- those of the place that pass the test are touched, and a new one stands there
pub coming-renewed : (m : ℕ) (t : Tables) (s : Service) (k i : ℕ) (test : Task → Bool) (f : Task → Task) (x : Task)
    (a : List Attempt) → RisesBetween service_id 1 t.next_id t.services → Has t.services s → StandsNew m s k x →
    ((y : Task) → Has t.tasks y → test y ≡ true → is_in_place s (place_at s.spec.mode k) y ≡ true) →
    ((y : Task) → is_in_place s (place_at s.spec.mode k) (f y) ≡ is_in_place s (place_at s.spec.mode k) y) →
    is_held_place t s k ≡ true → is_renewed m t s k ≡ false →
    coming m (record t { next_id = i; tasks = map (touch test f) t.tasks ++ x ∷ []; attempts = a }) + 1 ≤ coming m t
coming-renewed m t s k i test f x a rises there new inside stays held old =
    let g = touch test f in
    let xs = map g t.tasks in
    let u = record t { next_id = i; tasks = xs ++ x ∷ []; attempts = a } in
    let seen : (j : ℕ) → ¬ (j ≡ k) → AllSeen s (place_at s.spec.mode j) g t.tasks =
    λ j off. seen-elsewhere s s j k test f t.tasks (λ same number. off number) inside stays in
    let one : coming_of m u s + 1 ≤ coming_of m t s =
    coming-renews m t u s k (record { nodes = refl; live = λ n. refl })
    (record {
      held = λ j. by-number j k
          (λ e. ap (is_held_place u s) e ∙ held-pushed m s k xs x new ∙ sym held ∙ sym (ap (is_held_place t s) e))
          (λ off. held-outside s (place_at s.spec.mode j) xs x (outside-new m s k j x new off)
          ∙ held-seen s (place_at s.spec.mode j) g t.tasks (seen j off));
    })
    (λ j e. by-number j k
    (λ same. never-both (is_renewed m t s k) old (sym (ap (is_renewed m t s) same) ∙ e))
    (λ off. renewed-outside m s (place_at s.spec.mode j) xs x (outside-new m s k j x new off)
    ∙ renewed-seen m s (place_at s.spec.mode j) g t.tasks (seen j off) ∙ e))
    held old (renewed-pushed m s k xs x new) in
    coming-one m t u s rises there refl one
    (λ v off.
    let out : (j : ℕ) → is_in_place v (place_at v.spec.mode j) x ≡ false =
    λ j. other-outside v (place_at v.spec.mode j) x (λ e. off (e ∙ new.service)) in
    let same : (j : ℕ) → AllSeen v (place_at v.spec.mode j) g t.tasks =
    λ j. seen-elsewhere v s j k test f t.tasks (λ is number. off is) inside stays in
    coming-stays m t u v (record { nodes = refl; live = λ n. refl })
    (record {
      held = λ j. held-outside v (place_at v.spec.mode j) xs x (out j)
          ∙ held-seen v (place_at v.spec.mode j) g t.tasks (same j);
    })
    (λ j e. renewed-outside m v (place_at v.spec.mode j) xs x (out j)
    ∙ renewed-seen m v (place_at v.spec.mode j) g t.tasks (same j) ∙ e))

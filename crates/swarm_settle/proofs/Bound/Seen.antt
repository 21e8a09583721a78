-- Tasks that change, where a place sees nothing of it.
use Rattle.std.proofs.Common.{Bool, List, None, ap, false, inl, inr, map, refl, sym, true, ℕ, ◌∙◌, ◌≡◌, ◌≤◌, ◌⊎◌}
use Rattle.std.specs.List.{list_any}
use Rattle.std.specs.Prelude.{◌||◌}
use Rattle.swarm_settle.proofs.Bound.ComingSteps.{coming-stays}
use Rattle.swarm_settle.proofs.Bound.Looks.{SameLook, any-mapped, filter-mapped, last-mapped, place-look, renews, renews-look}
use Rattle.swarm_settle.proofs.Bound.Sums.{sum-le}
use Rattle.swarm_settle.specs.Bound.Coming.{coming, coming_of}
use Rattle.swarm_objects.proofs.RowLemmas.{Has-filter_cases}
use Rattle.swarm_objects.proofs.Tests.{never-both}
use Rattle.swarm_objects.specs.Rows.{Has, is_some_and}
use Rattle.swarm_objects.specs.Tasks.Places.{closes, is_held, is_in_place, newest, place_at, tasks_of_place}
use Rattle.swarm_objects.specs.Tasks.Words.{is_live}
use Rattle.swarm_objects.specs.World.{Tables}
use Rattle.swarm_objects.specs.declared.services.Service.{Service}
use Rattle.swarm_objects.specs.declared.tasks.Place.{Place}
use Rattle.swarm_objects.specs.declared.tasks.Task.{Task}

-- it looks the same, or stands elsewhere before and after
abbrev pub SeenSame : Service → Place → Task → Task → Type 0
SeenSame s p x y = SameLook x y ⊎ ((is_in_place s p x ≡ false) × (is_in_place s p y ≡ false))

abbrev pub AllSeen : Service → Place → (Task → Task) → List Task → Type 0
AllSeen s p f xs = (x : Task) → Has xs x → SeenSame s p x (f x)

place-seen : (s : Service) (p : Place) (x y : Task) → SeenSame s p x y → is_in_place s p y ≡ is_in_place s p x
place-seen s p x y (inl look) = place-look s p x y look
place-seen s p x y (inr out) = out.1 ∙ sym out.0

look-seen : (s : Service) (p : Place) (x y : Task) → is_in_place s p x ≡ true → SeenSame s p x y → SameLook x y
look-seen s p x y inside (inl look) = look
look-seen s p x y inside (inr out) = never-both (is_in_place s p x) out.0 inside

places-seen : (s : Service) (p : Place) (f : Task → Task) (xs : List Task) → AllSeen s p f xs →
    tasks_of_place s p (map f xs) ≡ map f (tasks_of_place s p xs)
places-seen s p f xs all = filter-mapped (is_in_place s p) f xs (λ x h. place-seen s p x (f x) (all x h))

each-seen : (s : Service) (p : Place) (f : Task → Task) (xs : List Task) → AllSeen s p f xs → (x : Task) →
    Has (tasks_of_place s p xs) x → SameLook x (f x)
each-seen s p f xs all x h =
    let at = Has-filter_cases (is_in_place s p) xs x h in look-seen s p x (f x) at.1 (all x at.0)

pub held-seen : (s : Service) (p : Place) (f : Task → Task) (xs : List Task) → AllSeen s p f xs →
    is_held s p (map f xs) ≡ is_held s p xs
held-seen s p f xs all =
    let ys = tasks_of_place s p xs in
    let each = each-seen s p f xs all in
    ap (λ (zs : List Task). list_any is_live zs || is_some_and closes (newest zs)) (places-seen s p f xs all)
    ∙ ap (λ (b : Bool). b || is_some_and closes (newest (map f ys)))
    (any-mapped is_live f ys (λ x h. (each x h).live))
    ∙ ap (λ (b : Bool). list_any is_live ys || b)
    (last-mapped closes f None None ys refl (λ x h. (each x h).closes))

pub renewed-seen : (m : ℕ) (s : Service) (p : Place) (f : Task → Task) (xs : List Task) → AllSeen s p f xs →
    list_any (renews m s) (tasks_of_place s p (map f xs)) ≡ list_any (renews m s) (tasks_of_place s p xs)
renewed-seen m s p f xs all =
    let ys = tasks_of_place s p xs in
    let each = each-seen s p f xs all in
    ap (λ (zs : List Task). list_any (renews m s) zs) (places-seen s p f xs all)
    ∙ any-mapped (renews m s) f ys (λ x h. renews-look m s x (f x) (each x h))

-- a service that sees nothing of it
pub coming-seen : (m : ℕ) (t : Tables) (f : Task → Task) (s : Service) →
    ((k : ℕ) → AllSeen s (place_at s.spec.mode k) f t.tasks) →
    coming_of m (record t { tasks = map f t.tasks }) s ≤ coming_of m t s
coming-seen m t f s all =
    coming-stays m t (record t { tasks = map f t.tasks }) s (record { nodes = refl; live = λ n. refl })
    (record { held = λ k. held-seen s (place_at s.spec.mode k) f t.tasks (all k) })
    (λ k e. renewed-seen m s (place_at s.spec.mode k) f t.tasks (all k) ∙ e)

-- no service does
pub coming-unseen : (m : ℕ) (t : Tables) (f : Task → Task) →
    ((s : Service) → Has t.services s → (k : ℕ) → AllSeen s (place_at s.spec.mode k) f t.tasks) →
    coming m (record t { tasks = map f t.tasks }) ≤ coming m t
coming-unseen m t f all =
    sum-le (coming_of m (record t { tasks = map f t.tasks })) (coming_of m t) t.services
    (λ s h. coming-seen m t f s (all s h))

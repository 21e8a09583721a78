-- Tasks that change in nothing that a place sees.
use Rattle.std.proofs.Common.{Bool, List, None, Option, Some, [], ap, cond, false, inl, inr, map, refl, true, ℕ, ◌∙◌, ◌∷◌, ◌≡◌, ◌≤◌}
use Rattle.std.specs.List.{last_or, list_any}
use Rattle.std.specs.Prelude.{filter, nat_le, not, ◌&&◌, ◌==◌, ◌||◌}
use Rattle.swarm_settle.proofs.Bound.ComingSteps.{coming-stays}
use Rattle.swarm_settle.proofs.Bound.Sums.{sum-le}
use Rattle.swarm_settle.specs.Bound.Coming.{coming, coming_of, is_new_since}
use Rattle.swarm_objects.proofs.RowLemmas.{Has-filter_cases}
use Rattle.swarm_objects.specs.Rows.{Has, is_some_and}
use Rattle.swarm_objects.specs.Same.{same_place, same_template}
use Rattle.swarm_objects.specs.Services.Words.{is_clean, is_job, is_live_clean}
use Rattle.swarm_objects.specs.Tasks.Places.{closes, counts_for, is_held, is_in_place, newest, place_at, tasks_of_place}
use Rattle.swarm_objects.specs.Tasks.Words.{is_live}
use Rattle.swarm_objects.specs.World.{Tables}
use Rattle.swarm_objects.specs.declared.services.Service.{Service}
use Rattle.swarm_objects.specs.declared.tasks.Place.{Place}
use Rattle.swarm_objects.specs.declared.tasks.Task.{Task}
use Rattle.swarm_objects.specs.declared.templates.Template.{Template}

-- it stands in the same place with the same template, is live where it was, and closes its place where it did
pub record SameLook (x y : Task) : Type 0 where
  pub id : y.id ≡ x.id
  pub service : y.service ≡ x.service
  pub place : y.place ≡ x.place
  pub iteration : y.iteration ≡ x.iteration
  pub template : y.template ≡ x.template
  pub live : is_live y ≡ is_live x
  pub closes : closes y ≡ closes x

pub look-same : (x : Task) → SameLook x x
look-same x = record {
  id = refl;
  service = refl;
  place = refl;
  iteration = refl;
  template = refl;
  live = refl;
  closes = refl;
}

-- Words on one task.

pub counts-look : (s : Service) (x y : Task) → SameLook x y → counts_for s y ≡ counts_for s x
counts-look s x y is =
    ap (λ (n : ℕ). n == s.id && (not (is_job s.spec.mode) || y.iteration == s.iteration)) is.service
    ∙ ap (λ (n : ℕ). x.service == s.id && (not (is_job s.spec.mode) || n == s.iteration)) is.iteration

pub place-look : (s : Service) (p : Place) (x y : Task) → SameLook x y → is_in_place s p y ≡ is_in_place s p x
place-look s p x y is =
    ap (λ (b : Bool). b && same_place y.place p) (counts-look s x y is)
    ∙ ap (λ (q : Place). counts_for s x && same_place q p) is.place

pub clean-look : (s : Service) (x y : Task) → SameLook x y → is_clean s y ≡ is_clean s x
clean-look s x y is =
    ap (λ (z : Template). same_template z s.spec.template && (not (is_job s.spec.mode) || y.iteration == s.iteration))
    is.template
    ∙ ap (λ (n : ℕ). same_template x.template s.spec.template && (not (is_job s.spec.mode) || n == s.iteration))
    is.iteration

-- it renews its place
abbrev pub renews : ℕ → Service → Task → Bool
renews m s x = is_live_clean s x && is_new_since m x

pub renews-look : (m : ℕ) (s : Service) (x y : Task) → SameLook x y → renews m s y ≡ renews m s x
renews-look m s x y is =
    ap (λ (b : Bool). b && is_clean s y && is_new_since m y) is.live
    ∙ ap (λ (b : Bool). is_live x && b && is_new_since m y) (clean-look s x y is)
    ∙ ap (λ (n : ℕ). is_live x && is_clean s x && nat_le m n) is.id

-- Lists.

pub filter-mapped : {X : Type 0} (p : X → Bool) (f : X → X) (xs : List X) →
    ((x : X) → Has xs x → p (f x) ≡ p x) → filter p (map f xs) ≡ map f (filter p xs)
filter-mapped p f [] same = refl
filter-mapped p f (x ∷ xs) same =
    ap (λ (b : Bool). cond b (f x ∷ filter p (map f xs)) (filter p (map f xs))) (same x (inl refl))
    ∙ ap (λ ys. cond (p x) (f x ∷ ys) ys) (filter-mapped p f xs (λ y h. same y (inr h)))
    ∙ go (p x)
  where
    go : (b : Bool) → cond b (f x ∷ map f (filter p xs)) (map f (filter p xs)) ≡ map f (cond b (x ∷ filter p xs) (filter p xs))
    go true = refl
    go false = refl

pub any-mapped : {X : Type 0} (p : X → Bool) (f : X → X) (xs : List X) → ((x : X) → Has xs x → p (f x) ≡ p x) →
    list_any p (map f xs) ≡ list_any p xs
any-mapped p f [] same = refl
any-mapped p f (x ∷ xs) same =
    ap (λ (b : Bool). b || list_any p (map f xs)) (same x (inl refl))
    ∙ ap (λ (b : Bool). p x || b) (any-mapped p f xs (λ y h. same y (inr h)))

pub last-mapped : {X : Type 0} (p : X → Bool) (f : X → X) (o q : Option X) (xs : List X) →
    is_some_and p q ≡ is_some_and p o → ((x : X) → Has xs x → p (f x) ≡ p x) →
    is_some_and p (last_or q (map f xs)) ≡ is_some_and p (last_or o xs)
last-mapped p f o q [] first same = first
last-mapped p f o q (x ∷ xs) first same =
    last-mapped p f (Some x) (Some (f x)) xs (same x (inl refl)) (λ y h. same y (inr h))

-- Places.

abbrev pub AllLook : (Task → Task) → List Task → Type 0
AllLook f xs = (x : Task) → Has xs x → SameLook x (f x)

pub places-look : (s : Service) (p : Place) (f : Task → Task) (xs : List Task) → AllLook f xs →
    tasks_of_place s p (map f xs) ≡ map f (tasks_of_place s p xs)
places-look s p f xs all = filter-mapped (is_in_place s p) f xs (λ x h. place-look s p x (f x) (all x h))

in-places : (s : Service) (p : Place) (f : Task → Task) (xs : List Task) → AllLook f xs → AllLook f (tasks_of_place s p xs)
in-places s p f xs all x h = all x (Has-filter_cases (is_in_place s p) xs x h).0

pub held-look : (s : Service) (p : Place) (f : Task → Task) (xs : List Task) → AllLook f xs →
    is_held s p (map f xs) ≡ is_held s p xs
held-look s p f xs all =
    let ys = tasks_of_place s p xs in
    let each = in-places s p f xs all in
    ap (λ (zs : List Task). list_any is_live zs || is_some_and closes (newest zs)) (places-look s p f xs all)
    ∙ ap (λ (b : Bool). b || is_some_and closes (newest (map f ys)))
    (any-mapped is_live f ys (λ x h. (each x h).live))
    ∙ ap (λ (b : Bool). list_any is_live ys || b)
    (last-mapped closes f None None ys refl (λ x h. (each x h).closes))

pub renewed-look : (m : ℕ) (s : Service) (p : Place) (f : Task → Task) (xs : List Task) → AllLook f xs →
    list_any (renews m s) (tasks_of_place s p (map f xs)) ≡ list_any (renews m s) (tasks_of_place s p xs)
renewed-look m s p f xs all =
    let ys = tasks_of_place s p xs in
    let each = in-places s p f xs all in
    ap (λ (zs : List Task). list_any (renews m s) zs) (places-look s p f xs all)
    ∙ any-mapped (renews m s) f ys (λ x h. renews-look m s x (f x) (each x h))

-- the tables with tasks that look the same
pub coming-looks : (m : ℕ) (t : Tables) (f : Task → Task) → AllLook f t.tasks →
    coming m (record t { tasks = map f t.tasks }) ≤ coming m t
coming-looks m t f all =
    let u = record t { tasks = map f t.tasks } in
    sum-le (coming_of m u) (coming_of m t) t.services
    (λ s h. coming-stays m t u s (record { nodes = refl; live = λ n. refl })
    (record { held = λ k. held-look s (place_at s.spec.mode k) f t.tasks all })
    (λ k e. renewed-look m s (place_at s.spec.mode k) f t.tasks all ∙ e))

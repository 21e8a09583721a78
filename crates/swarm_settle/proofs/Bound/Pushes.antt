-- A new task in a place that isn't held: one less can still come.
use Rattle.std.proofs.Common.{Bool, List, [], ap, arith, cond, eqb, false, inl, refl, subst, sym, true, ℕ, ◌++◌, ◌+◌, ◌∙◌, ◌∷◌, ◌≡◌, ◌≤◌}
use Rattle.std.proofs.lemmas.Bool.Decides.{nat_tests}
use Rattle.std.proofs.lemmas.List.Elements.{filter-append}
use Rattle.std.specs.List.{list_any}
use Rattle.std.specs.Prelude.{not, sum_by, ◌&&◌, ◌==◌, ◌||◌}
use Rattle.swarm_settle.proofs.Bound.ComingFills.{Fills, SameBut, by-number}
use Rattle.swarm_settle.proofs.Bound.ComingSteps.{SameNodes, coming-stays}
use Rattle.swarm_settle.proofs.Bound.Looks.{renews}
use Rattle.swarm_settle.proofs.Bound.Sums.{sum-falls}
use Rattle.swarm_settle.specs.Bound.Coming.{coming, coming_of, is_new_since}
use Rattle.swarm_model.proofs.Moves.Rows.{RisesBetween, between-one}
use Rattle.swarm_objects.proofs.RowLemmas.{Has-append_right}
use Rattle.swarm_objects.proofs.SameLemmas.{Decides-same_template}
use Rattle.swarm_objects.proofs.Tests.{both, has-any, or_left, or_right}
use Rattle.swarm_objects.specs.Rows.{Has, is_some_and, service_id}
use Rattle.swarm_objects.specs.Same.{same_place, same_template}
use Rattle.swarm_objects.specs.Services.Words.{is_clean, is_job, is_live_clean}
use Rattle.swarm_objects.specs.Tasks.New.{with_task}
use Rattle.swarm_objects.specs.Tasks.Places.{closes, counts_for, is_held, is_held_place, is_in_place, newest, place_at, tasks_of_place}
use Rattle.swarm_objects.specs.Tasks.Words.{is_live}
use Rattle.swarm_objects.specs.World.{Tables}
use Rattle.swarm_objects.specs.declared.services.Mode.TheVariants as mode
use Rattle.swarm_objects.specs.declared.services.Mode.{Mode}
use Rattle.swarm_objects.specs.declared.services.Service.{Service}
use Rattle.swarm_objects.specs.declared.tasks.Place.{Place}
use Rattle.swarm_objects.specs.declared.tasks.Task.{Task}

-- The tasks of a place, with one more task.

append-none : {X : Type 0} (xs : List X) → xs ++ [] ≡ xs
append-none [] = refl
append-none (x ∷ xs) = ap (λ ys. x ∷ ys) (append-none xs)

pub place-outside : (s : Service) (p : Place) (xs : List Task) (x : Task) → is_in_place s p x ≡ false →
    tasks_of_place s p (xs ++ x ∷ []) ≡ tasks_of_place s p xs
place-outside s p xs x out =
    filter-append (is_in_place s p) xs (x ∷ [])
    ∙ ap (λ (b : Bool). tasks_of_place s p xs ++ cond b (x ∷ []) []) out
    ∙ append-none (tasks_of_place s p xs)

pub place-inside : (s : Service) (p : Place) (xs : List Task) (x : Task) → is_in_place s p x ≡ true →
    tasks_of_place s p (xs ++ x ∷ []) ≡ tasks_of_place s p xs ++ x ∷ []
place-inside s p xs x inside =
    filter-append (is_in_place s p) xs (x ∷ []) ∙ ap (λ (b : Bool). tasks_of_place s p xs ++ cond b (x ∷ []) []) inside

-- Places by their numbers.

same-at : (x : Mode) (k j : ℕ) → same_place (place_at x k) (place_at x j) ≡ (k == j)
same-at (mode.Replicated replicas) k j = refl
same-at mode.Global k j = refl
same-at (mode.Job concurrent total) k j = refl

unequal : (k j : ℕ) → ¬ (j ≡ k) → (k == j) ≡ false
unequal k j off = go (eqb k j) refl
  where
    go : (b : Bool) → eqb k j ≡ b → b ≡ false
    go true e = absurd (off (grind (arith, nat_tests, e)))
    go false e = refl

-- A new task of the service, in its place with this number.

pub record StandsNew (m : ℕ) (s : Service) (k : ℕ) (x : Task) : Type 0 where
  pub service : x.service ≡ s.id
  pub iteration : x.iteration ≡ s.iteration
  pub template : x.template ≡ s.spec.template
  pub place : x.place ≡ place_at s.spec.mode k
  pub live : is_live x ≡ true
  pub new : m ≤ x.id

counts-new : (m : ℕ) (s : Service) (k : ℕ) (x : Task) → StandsNew m s k x → counts_for s x ≡ true
counts-new m s k x is =
    both (x.service == s.id) _ (grind (arith, nat_tests, is.service))
    (or_right (not (is_job s.spec.mode)) (x.iteration == s.iteration) (grind (arith, nat_tests, is.iteration)))

pub inside-new : (m : ℕ) (s : Service) (k : ℕ) (x : Task) → StandsNew m s k x →
    is_in_place s (place_at s.spec.mode k) x ≡ true
inside-new m s k x is =
    both (counts_for s x) _ (counts-new m s k x is)
    (ap (λ (p : Place). same_place p (place_at s.spec.mode k)) is.place ∙ same-at s.spec.mode k k
    ∙ same-number k)
  where
    same-number : (n : ℕ) → (n == n) ≡ true
    same-number n = grind (arith, nat_tests)

pub outside-new : (m : ℕ) (s : Service) (k j : ℕ) (x : Task) → StandsNew m s k x → ¬ (j ≡ k) →
    is_in_place s (place_at s.spec.mode j) x ≡ false
outside-new m s k j x is off =
    ap (λ (b : Bool). counts_for s x && b)
    (ap (λ (p : Place). same_place p (place_at s.spec.mode j)) is.place ∙ same-at s.spec.mode k j ∙ unequal k j off)
    ∙ none (counts_for s x)
  where
    none : (b : Bool) → (b && false) ≡ false
    none true = refl
    none false = refl

pub renews-new : (m : ℕ) (s : Service) (k : ℕ) (x : Task) → StandsNew m s k x → renews m s x ≡ true
renews-new m s k x is =
    both (is_live_clean s x) (is_new_since m x)
    (both (is_live x) (is_clean s x) is.live
    (both (same_template x.template s.spec.template) _ ((Decides-same_template x.template s.spec.template).1 is.template)
    (or_right (not (is_job s.spec.mode)) (x.iteration == s.iteration) (grind (arith, nat_tests, is.iteration)))))
    (grind (arith, nat_tests, is.new))

-- of another service
pub other-outside : (v : Service) (p : Place) (x : Task) → ¬ (v.id ≡ x.service) → is_in_place v p x ≡ false
other-outside v p x off =
    ap (λ (b : Bool). (b && (not (is_job v.spec.mode) || x.iteration == v.iteration)) && same_place x.place p)
    (unequal x.service v.id off)

-- What is held and renewed, with one more task.

pub held-outside : (s : Service) (p : Place) (xs : List Task) (x : Task) → is_in_place s p x ≡ false →
    is_held s p (xs ++ x ∷ []) ≡ is_held s p xs
held-outside s p xs x out =
    ap (λ (ys : List Task). list_any is_live ys || is_some_and closes (newest ys)) (place-outside s p xs x out)

pub renewed-outside : (m : ℕ) (s : Service) (p : Place) (xs : List Task) (x : Task) → is_in_place s p x ≡ false →
    list_any (renews m s) (tasks_of_place s p (xs ++ x ∷ [])) ≡ list_any (renews m s) (tasks_of_place s p xs)
renewed-outside m s p xs x out = ap (list_any (renews m s)) (place-outside s p xs x out)

any-pushed : (test : Task → Bool) (s : Service) (p : Place) (xs : List Task) (x : Task) → is_in_place s p x ≡ true →
    test x ≡ true → list_any test (tasks_of_place s p (xs ++ x ∷ [])) ≡ true
any-pushed test s p xs x inside passes =
    ap (list_any test) (place-inside s p xs x inside)
    ∙ has-any test (tasks_of_place s p xs ++ x ∷ []) x
    (Has-append_right (tasks_of_place s p xs) (x ∷ []) x (inl refl)) passes

pub held-pushed : (m : ℕ) (s : Service) (k : ℕ) (xs : List Task) (x : Task) → StandsNew m s k x →
    is_held s (place_at s.spec.mode k) (xs ++ x ∷ []) ≡ true
held-pushed m s k xs x is =
    or_left (list_any is_live (tasks_of_place s (place_at s.spec.mode k) (xs ++ x ∷ []))) _
    (any-pushed is_live s (place_at s.spec.mode k) xs x (inside-new m s k x is) is.live)

pub renewed-pushed : (m : ℕ) (s : Service) (k : ℕ) (xs : List Task) (x : Task) → StandsNew m s k x →
    list_any (renews m s) (tasks_of_place s (place_at s.spec.mode k) (xs ++ x ∷ [])) ≡ true
renewed-pushed m s k xs x is =
    any-pushed (renews m s) s (place_at s.spec.mode k) xs x (inside-new m s k x is) (renews-new m s k x is)

pub same-but-pushed : (m : ℕ) (t : Tables) (s : Service) (k : ℕ) (x : Task) → StandsNew m s k x →
    SameBut m t (with_task t x) s k
same-but-pushed m t s k x is = record {
  held = λ j off. held-outside s (place_at s.spec.mode j) t.tasks x (outside-new m s k j x is off);
  renewed = λ j off e. renewed-outside m s (place_at s.spec.mode j) t.tasks x (outside-new m s k j x is off) ∙ e;
}

pub fills-pushed : (m : ℕ) (t : Tables) (s : Service) (k : ℕ) (x : Task) → StandsNew m s k x →
    is_held_place t s k ≡ false → Fills m t (with_task t x) s k
fills-pushed m t s k x is unheld = record {
  others = same-but-pushed m t s k x is;
  before = unheld;
  after = held-pushed m s k t.tasks x is;
  renewed = renewed-pushed m s k t.tasks x is;
}

same-with_task : (t : Tables) (x : Task) → SameNodes t (with_task t x)
same-with_task t x = record { nodes = refl; live = λ n. refl }

-- nothing comes for other services
pub coming-other : (m : ℕ) (t : Tables) (v : Service) (x : Task) → ¬ (v.id ≡ x.service) →
    coming_of m (with_task t x) v ≤ coming_of m t v
coming-other m t v x off =
    coming-stays m t (with_task t x) v (same-with_task t x)
    (record { held = λ k. held-outside v (place_at v.spec.mode k) t.tasks x (other-outside v (place_at v.spec.mode k) x off) })
    (λ k e. renewed-outside m v (place_at v.spec.mode k) t.tasks x (other-outside v (place_at v.spec.mode k) x off) ∙ e)

-- one service has less to come, the others no more
pub coming-one : (m : ℕ) (t u : Tables) (s : Service) → RisesBetween service_id 1 t.next_id t.services →
    Has t.services s → u.services ≡ t.services → coming_of m u s + 1 ≤ coming_of m t s →
    ((v : Service) → ¬ (v.id ≡ s.id) → coming_of m u v ≤ coming_of m t v) → coming m u + 1 ≤ coming m t
coming-one m t u s rises there same one others =
    omega (
      arith,
      ap (λ (xs : List Service). sum_by (coming_of m u) xs) same,
      sum-falls (coming_of m u) (coming_of m t) 1 t.services s there one
          (λ v h. by-number v.id s.id
          (λ e. let is = between-one service_id 1 t.next_id t.services s v rises there h (sym e) in
          let less : coming_of m u v + 1 ≤ coming_of m t v =
          subst (λ (z : Service). coming_of m u z + 1 ≤ coming_of m t z) is one in
          omega (arith, less)) (others v)),
    )

pub coming-filled : (m : ℕ) (t : Tables) (s : Service) (k : ℕ) (x : Task) →
    RisesBetween service_id 1 t.next_id t.services → Has t.services s → StandsNew m s k x →
    coming_of m (with_task t x) s + 1 ≤ coming_of m t s → coming m (with_task t x) + 1 ≤ coming m t
coming-filled m t s k x rises there is one =
    coming-one m t (with_task t x) s rises there refl one
    (λ v off. coming-other m t v x (λ e. off (e ∙ is.service)))

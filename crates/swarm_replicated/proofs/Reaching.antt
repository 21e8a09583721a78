-- How far changes reach, change by change: which services they touch, and in which places of one they may matter.
use Rattle.std.proofs.Common.{Bool, List, None, Option, Some, [], ap, cond, drop, eqb, false, get_or, inl, inr, length}
use Rattle.std.proofs.Common.{not}
use Rattle.std.proofs.Common.{refl, subst, sym, true, ℕ, ◌+◌, ◌<◌, ◌∙◌, ◌∷◌, ◌≡◌, ◌⊎◌}
use Rattle.std.proofs.lemmas.List.{drop_more}
use Rattle.std.specs.Prelude.{◌&&◌}
use Rattle.role_words.proofs.Numbers.{number_equal, same_number}
use Rattle.role_words.specs.Marks.{stands}
use Rattle.swarm_objects.proofs.Tests.{all-pass, both, first_so, or_cases, or_left, or_right, second_so, some-and}
use Rattle.swarm_objects.specs.Rows.{is_some_and, row_at, task_id}
use Rattle.swarm_objects.specs.Tasks.Places.{place_number}
use Rattle.swarm_objects.specs.World.{Tables}
use Rattle.swarm_objects.specs.declared.rows.Change.TheVariants as change
use Rattle.swarm_objects.specs.declared.rows.Change.{Change}
use Rattle.swarm_objects.specs.declared.services.Service.{Service}
use Rattle.swarm_objects.specs.declared.tasks.Task.{Task}
use Rattle.swarm_replicated.specs.Inside.PlaceChanges.{goes_on, is_alike, is_elsewhere, is_it, place_of, spares}
use Rattle.swarm_replicated.specs.Inside.PlaceChanges.{was_elsewhere}
use Rattle.swarm_replicated.specs.Inside.Reach.{joined, passes, reach_only}
use Rattle.swarm_replicated.specs.Inside.Touches.{is_same_standing, keeps_standing, touches_only, was_other}
use Rattle.swarm_replicated.specs.declared.reach.Reach.TheVariants as reach
use Rattle.swarm_replicated.specs.declared.reach.Reach.{Reach}

-- What passes for either of two passes for both, where what passes for none passes for any number.

passes-left : (test : Option ℕ → Bool) → ((k : ℕ) → test None ≡ true → test (Some k) ≡ true) → (a b : Reach) →
    passes test a ≡ true → passes test (joined a b) ≡ true
passes-left test grows reach.Nothing reach.Nothing e = e
passes-left test grows reach.Nothing (reach.One k) e = grows k e
passes-left test grows reach.Nothing reach.More e = refl
passes-left test grows (reach.One k) reach.Nothing e = e
passes-left test grows (reach.One k) (reach.One j) e = go (eqb k j)
  where
    go : (b : Bool) → passes test (cond b (reach.One k) reach.More) ≡ true
    go true = e
    go false = refl
passes-left test grows (reach.One k) reach.More e = refl
passes-left test grows reach.More b e = refl

passes-right : (test : Option ℕ → Bool) → ((k : ℕ) → test None ≡ true → test (Some k) ≡ true) → (a b : Reach) →
    passes test b ≡ true → passes test (joined a b) ≡ true
passes-right test grows reach.Nothing b e = e
passes-right test grows (reach.One k) reach.Nothing e = grows k e
passes-right test grows (reach.One k) (reach.One j) e = go (eqb k j) refl
  where
    go : (b : Bool) → eqb k j ≡ b → passes test (cond b (reach.One k) reach.More) ≡ true
    go true is = subst (λ n. test (Some n) ≡ true) (sym (same_number k j is)) e
    go false is = refl
passes-right test grows (reach.One k) reach.More e = refl
passes-right test grows reach.More b e = refl

-- A loop over changes.

-- what passes for this with those that are left passes for it with all
pub record Reaches (test : Option ℕ → Change → Bool) (far : Reach) (left all : List Change) : Type 0 where
  pub rest : (r : Reach) →
      ((c : Change) → passes (λ o. test o c) far ≡ true → passes (λ o. test o c) r ≡ true) →
      reach_only test r left ≡ true → reach_only test r all ≡ true

pub begins : (test : Option ℕ → Change → Bool) (all : List Change) → Reaches test reach.Nothing all all
begins test all = record { rest = λ r wider pass. pass }

steps : (test : Option ℕ → Change → Bool) → ((c : Change) (k : ℕ) → test None c ≡ true → test (Some k) c ≡ true) →
    (far one next : Reach) (left rest all : List Change) (c : Change) → left ≡ c ∷ rest →
    passes (λ o. test o c) one ≡ true → next ≡ joined far one → Reaches test far left all → Reaches test next rest all
steps test grows far one next left rest all c at it is h = record {
  rest = λ r wider pass.
      h.rest r
      (λ d e.
      wider d (subst (λ n. passes (λ o. test o d) n ≡ true) (sym is) (passes-left (λ o. test o d) (grows d) far one e)))
      (subst (λ l. reach_only test r l ≡ true) (sym at)
      (both (passes (λ o. test o c) r) (reach_only test r rest)
      (wider c
      (subst (λ n. passes (λ o. test o c) n ≡ true) (sym is) (passes-right (λ o. test o c) (grows c) far one it)))
      pass));
}

steps-at : (test : Option ℕ → Change → Bool) → ((c : Change) (k : ℕ) → test None c ≡ true → test (Some k) c ≡ true) →
    (far one next : Reach) (cs : List Change) (i : ℕ) (c : Change) → i < length cs → c ≡ get_or cs i c →
    passes (λ o. test o c) one ≡ true → next ≡ joined far one → Reaches test far (drop i cs) cs →
    Reaches test next (drop (i + 1) cs) cs
steps-at test grows far one next cs i c lt at =
    steps test grows far one next (drop i cs) (drop (i + 1) cs) cs c
    (drop_more cs i c lt ∙ ap (λ d. d ∷ drop (i + 1) cs) (sym at))

pub ends : (test : Option ℕ → Change → Bool) (far : Reach) (left all : List Change) → left ≡ [] →
    Reaches test far left all → reach_only test far all ≡ true
ends test far left all none h =
    h.rest far (λ c e. e) (subst (λ l. reach_only test far l ≡ true) (sym none) refl)

-- nothing is said where more than one is reached
pub more-only : (test : Option ℕ → Change → Bool) (all : List Change) → reach_only test reach.More all ≡ true
more-only test all = all-pass (λ c. passes (λ o. test o c) reach.More) all (λ c h. refl)

-- Services that are touched.

touches-more : (t : Tables) (c : Change) (k : ℕ) → touches_only t None c ≡ true → touches_only t (Some k) c ≡ true
touches-more t (change.PutNode n) k e = refl
touches-more t (change.PutService v) k e = absurd cc
touches-more t (change.PutTask x) k e = go (or_cases (keeps_standing t x) false e)
  where
    go : (keeps_standing t x ≡ true) ⊎ (false ≡ true) → touches_only t (Some k) (change.PutTask x) ≡ true
    go (inl kept) = or_left (keeps_standing t x) (is_it (Some k) x.service && not (was_other t (Some k) x.id)) kept
    go (inr never) = absurd cc
touches-more t (change.DropTask id) k e = go (row_at task_id id t.tasks) e
  where
    go : (o : Option Task) → not (is_some_and (λ (y : Task). not (is_it None y.service)) o) ≡ true →
        not (is_some_and (λ (y : Task). not (is_it (Some k) y.service)) o) ≡ true
    go None e = refl
    go (Some y) e = absurd cc
touches-more t (change.Keep a) k e = refl

pub touch-next : (t : Tables) (far one next : Reach) (cs : List Change) (i : ℕ) (c : Change) → i < length cs →
    c ≡ get_or cs i c → passes (λ o. touches_only t o c) one ≡ true → next ≡ joined far one →
    Reaches (touches_only t) far (drop i cs) cs → Reaches (touches_only t) next (drop (i + 1) cs) cs
touch-next t = steps-at (touches_only t) (touches-more t)

-- the put of a service
pub touch-service : (t : Tables) (v : Service) → touches_only t (Some v.id) (change.PutService v) ≡ true
touch-service t v = number_equal v.id v.id refl

-- a task that isn't there yet
pub touch-new : (t : Tables) (x : Task) → row_at task_id x.id t.tasks ≡ None →
    touches_only t (Some x.service) (change.PutTask x) ≡ true
touch-new t x at =
    or_right (keeps_standing t x) (is_it (Some x.service) x.service && not (was_other t (Some x.service) x.id))
    (both (is_it (Some x.service) x.service) (not (was_other t (Some x.service) x.id))
    (number_equal x.service x.service refl)
    (ap (λ o. not (is_some_and (λ (y : Task). not (is_it (Some x.service) y.service)) o)) at))

-- one that stands as before
pub touch-same : (t : Tables) (x y : Task) → row_at task_id x.id t.tasks ≡ Some y → is_same_standing x y ≡ true →
    touches_only t None (change.PutTask x) ≡ true
touch-same t x y at same =
    or_left (keeps_standing t x) (is_it None x.service && not (was_other t None x.id))
    (some-and (is_same_standing x) (row_at task_id x.id t.tasks) y at same)

-- any other one
pub touch-other : (t : Tables) (x y : Task) → row_at task_id x.id t.tasks ≡ Some y →
    passes (λ o. touches_only t o (change.PutTask x)) (joined (reach.One x.service) (reach.One y.service)) ≡ true
touch-other t x y at = go (eqb x.service y.service) refl
  where
    go : (b : Bool) → eqb x.service y.service ≡ b →
        passes (λ o. touches_only t o (change.PutTask x)) (cond b (reach.One x.service) reach.More) ≡ true
    go true is =
        or_right (keeps_standing t x) (is_it (Some x.service) x.service && not (was_other t (Some x.service) x.id))
        (both (is_it (Some x.service) x.service) (not (was_other t (Some x.service) x.id))
        (number_equal x.service x.service refl)
        (ap (λ o. not (is_some_and (λ (z : Task). not (is_it (Some x.service) z.service)) o)) at
        ∙ ap (λ b. not (not b)) is))
    go false is = refl

-- a task that goes
pub touch-drop : (t : Tables) (id : ℕ) (y : Task) → row_at task_id id t.tasks ≡ Some y →
    touches_only t (Some y.service) (change.DropTask id) ≡ true
touch-drop t id y at =
    ap (λ o. not (is_some_and (λ (z : Task). not (is_it (Some y.service) z.service)) o)) at
    ∙ ap (λ b. not (not b)) (number_equal y.service y.service refl)

pub touch-none : (t : Tables) (id : ℕ) → row_at task_id id t.tasks ≡ None →
    touches_only t None (change.DropTask id) ≡ true
touch-none t id at = ap (λ o. not (is_some_and (λ (z : Task). not (is_it None z.service)) o)) at

pub ruleset touch_steps = (touch-service, touch-new, touch-same, touch-other, touch-drop, touch-none)

-- Places in which a change may matter.

elsewhere-more : (s : Service) (x : Task) (k : ℕ) → not (is_elsewhere s None x) ≡ true →
    not (is_elsewhere s (Some k) x) ≡ true
elsewhere-more s x k e = go (stands s x) (is_it (Some k) (place_number x.place)) e
  where
    go : (a b : Bool) → not (a && not false) ≡ true → not (a && not b) ≡ true
    go true b e = absurd cc
    go false b e = refl

was-more : (t : Tables) (s : Service) (id k : ℕ) → not (was_elsewhere t s None id) ≡ true →
    not (was_elsewhere t s (Some k) id) ≡ true
was-more t s id k e = go (row_at task_id id t.tasks) e
  where
    go : (o : Option Task) → not (is_some_and (is_elsewhere s None) o) ≡ true →
        not (is_some_and (is_elsewhere s (Some k)) o) ≡ true
    go None e = refl
    go (Some y) e = elsewhere-more s y k e

spares-more : (t : Tables) (s : Service) (c : Change) (k : ℕ) → spares t s None c ≡ true → spares t s (Some k) c ≡ true
spares-more t s (change.PutNode n) k e = refl
spares-more t s (change.PutService v) k e = e
spares-more t s (change.PutTask x) k e =
    go (or_cases (goes_on t s x) (not (is_elsewhere s None x) && not (was_elsewhere t s None x.id)) e)
  where
    go : (goes_on t s x ≡ true) ⊎ (not (is_elsewhere s None x) && not (was_elsewhere t s None x.id) ≡ true) →
        spares t s (Some k) (change.PutTask x) ≡ true
    go (inl on) = or_left (goes_on t s x) (not (is_elsewhere s (Some k) x) && not (was_elsewhere t s (Some k) x.id)) on
    go (inr off) =
        or_right (goes_on t s x) (not (is_elsewhere s (Some k) x) && not (was_elsewhere t s (Some k) x.id))
        (both (not (is_elsewhere s (Some k) x)) (not (was_elsewhere t s (Some k) x.id))
        (elsewhere-more s x k (first_so (not (is_elsewhere s None x)) (not (was_elsewhere t s None x.id)) off))
        (was-more t s x.id k (second_so (not (is_elsewhere s None x)) (not (was_elsewhere t s None x.id)) off)))
spares-more t s (change.DropTask id) k e = was-more t s id k e
spares-more t s (change.Keep a) k e = refl

pub place-next : (t : Tables) (s : Service) (far one next : Reach) (cs : List Change) (i : ℕ) (c : Change) →
    i < length cs → c ≡ get_or cs i c → passes (λ o. spares t s o c) one ≡ true → next ≡ joined far one →
    Reaches (spares t s) far (drop i cs) cs → Reaches (spares t s) next (drop (i + 1) cs) cs
place-next t s = steps-at (spares t s) (spares-more t s)

-- the task stands in no other place than its own
own-place : (s : Service) (x : Task) → passes (λ o. not (is_elsewhere s o x)) (place_of s x) ≡ true
own-place s x = go (stands s x) refl
  where
    go : (b : Bool) → stands s x ≡ b →
        passes (λ o. not (is_elsewhere s o x)) (cond b (reach.One (place_number x.place)) reach.Nothing) ≡ true
    go true is =
        ap (λ b. not (b && not (eqb (place_number x.place) (place_number x.place)))) is
        ∙ ap (λ b. not (not b)) (number_equal (place_number x.place) (place_number x.place) refl)
    go false is = ap (λ b. not (b && not (is_it None (place_number x.place)))) is

was-none : (t : Tables) (s : Service) (id : ℕ) (r : Reach) → row_at task_id id t.tasks ≡ None →
    passes (λ o. not (was_elsewhere t s o id)) r ≡ true
was-none t s id reach.Nothing at = ap (λ o. not (is_some_and (is_elsewhere s None) o)) at
was-none t s id (reach.One k) at = ap (λ o. not (is_some_and (is_elsewhere s (Some k)) o)) at
was-none t s id reach.More at = refl

was-there : (t : Tables) (s : Service) (id : ℕ) (y : Task) (r : Reach) → row_at task_id id t.tasks ≡ Some y →
    passes (λ o. not (is_elsewhere s o y)) r ≡ true → passes (λ o. not (was_elsewhere t s o id)) r ≡ true
was-there t s id y reach.Nothing at e = ap (λ o. not (is_some_and (is_elsewhere s None) o)) at ∙ e
was-there t s id y (reach.One k) at e = ap (λ o. not (is_some_and (is_elsewhere s (Some k)) o)) at ∙ e
was-there t s id y reach.More at e = refl

put-spares : (t : Tables) (s : Service) (x : Task) (r : Reach) → passes (λ o. not (is_elsewhere s o x)) r ≡ true →
    passes (λ o. not (was_elsewhere t s o x.id)) r ≡ true → passes (λ o. spares t s o (change.PutTask x)) r ≡ true
put-spares t s x reach.Nothing here was =
    or_right (goes_on t s x) (not (is_elsewhere s None x) && not (was_elsewhere t s None x.id))
    (both (not (is_elsewhere s None x)) (not (was_elsewhere t s None x.id)) here was)
put-spares t s x (reach.One k) here was =
    or_right (goes_on t s x) (not (is_elsewhere s (Some k) x) && not (was_elsewhere t s (Some k) x.id))
    (both (not (is_elsewhere s (Some k) x)) (not (was_elsewhere t s (Some k) x.id)) here was)
put-spares t s x reach.More here was = refl

-- a task that isn't there yet
pub place-new : (t : Tables) (s : Service) (x : Task) → row_at task_id x.id t.tasks ≡ None →
    passes (λ o. spares t s o (change.PutTask x)) (place_of s x) ≡ true
place-new t s x at = put-spares t s x (place_of s x) (own-place s x) (was-none t s x.id (place_of s x) at)

-- one that is alike
pub place-alike : (t : Tables) (s : Service) (x y : Task) → row_at task_id x.id t.tasks ≡ Some y →
    is_alike s x y ≡ true → spares t s None (change.PutTask x) ≡ true
place-alike t s x y at alike =
    or_left (goes_on t s x) (not (is_elsewhere s None x) && not (was_elsewhere t s None x.id))
    (some-and (is_alike s x) (row_at task_id x.id t.tasks) y at alike)

-- any other one
place-other : (t : Tables) (s : Service) (x y : Task) → row_at task_id x.id t.tasks ≡ Some y →
    passes (λ o. spares t s o (change.PutTask x)) (joined (place_of s x) (place_of s y)) ≡ true
place-other t s x y at =
    put-spares t s x (joined (place_of s x) (place_of s y))
    (passes-left (λ o. not (is_elsewhere s o x)) (elsewhere-more s x) (place_of s x) (place_of s y) (own-place s x))
    (was-there t s x.id y (joined (place_of s x) (place_of s y)) at
    (passes-right (λ o. not (is_elsewhere s o y)) (elsewhere-more s y) (place_of s x) (place_of s y) (own-place s y)))

pub place-both : (t : Tables) (s : Service) (x y : Task) (a b r : Reach) → row_at task_id x.id t.tasks ≡ Some y →
    a ≡ place_of s x → b ≡ place_of s y → r ≡ joined a b → passes (λ o. spares t s o (change.PutTask x)) r ≡ true
place-both t s x y a b r at here was is =
    subst (λ n. passes (λ o. spares t s o (change.PutTask x)) n ≡ true)
    (sym (is ∙ ap (λ n. joined n b) here ∙ ap (joined (place_of s x)) was)) (place-other t s x y at)

-- a task that goes
pub place-drop : (t : Tables) (s : Service) (id : ℕ) (y : Task) → row_at task_id id t.tasks ≡ Some y →
    passes (λ o. spares t s o (change.DropTask id)) (place_of s y) ≡ true
place-drop t s id y at = drop-spares (place_of s y) (was-there t s id y (place_of s y) at (own-place s y))
  where
    drop-spares : (r : Reach) → passes (λ o. not (was_elsewhere t s o id)) r ≡ true →
        passes (λ o. spares t s o (change.DropTask id)) r ≡ true
    drop-spares r e = e

pub place-none : (t : Tables) (s : Service) (id : ℕ) → row_at task_id id t.tasks ≡ None →
    spares t s None (change.DropTask id) ≡ true
place-none t s id at = was-none t s id reach.Nothing at

pub ruleset place_steps = (place-new, place-alike, place-drop, place-none)

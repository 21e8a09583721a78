-- The held places of a service by how its tasks stand.
use Rattle.std.proofs.Common.{Bool, List, None, Option, Some, [], ap, cond, false, fold, length, refl, sym, true, ℕ, ◌∙◌, ◌∷◌, ◌≡◌}
use Rattle.std.specs.List.{list_any}
use Rattle.std.specs.Option.{option_map}
use Rattle.std.specs.Ordering.{is_lt}
use Rattle.std.specs.Prelude.{filter, is_some, map, nat_lt, not, option_to_list, ◌&&◌, ◌==◌, ◌||◌}
use Rattle.std.specs.declared.cmp.Ordering.{Ordering}
use Rattle.swarm_objects.proofs.Filters.{filter_same}
use Rattle.swarm_objects.proofs.PlaceLemmas.{and_left, any_again, counted_of_service, in_place_of_service}
use Rattle.swarm_objects.specs.Loops.Global.{come_duties, is_missing, is_to_leave, leave_duties, may_stay, wants_here}
use Rattle.swarm_objects.specs.Loops.Jobs.{has_old, is_old_of, next_duty}
use Rattle.swarm_objects.specs.Loops.Replicated.{create_duty, down_cmp, down_duty, first_to_go}
use Rattle.swarm_objects.specs.Loops.Words.{when}
use Rattle.swarm_objects.specs.Rows.{first_gap, first_of, is_row_and, is_some_and, least_by, node_id, with_number}
use Rattle.swarm_objects.specs.Same.{same_place}
use Rattle.swarm_objects.specs.Services.Words.{is_job}
use Rattle.swarm_objects.specs.Tasks.Places.{closes, counts_for, has_live, held_places, is_held, is_held_place, is_in_place, live_places, newest, numbers_of, place_at, place_number, place_numbers, tasks_of_place}
use Rattle.swarm_objects.specs.Tasks.Words.{is_live, is_of}
use Rattle.swarm_objects.specs.World.{Tables}
use Rattle.swarm_objects.specs.declared.duties.Duty.TheVariants as duty
use Rattle.swarm_objects.specs.declared.nodes.Node.{Node}
use Rattle.swarm_objects.specs.declared.services.Mode.{Mode}
use Rattle.swarm_objects.specs.declared.services.Mode.TheVariants as mode
use Rattle.swarm_objects.specs.declared.services.Service.{Service}
use Rattle.swarm_objects.specs.declared.tasks.Place.{Place}
use Rattle.swarm_objects.specs.declared.tasks.Task.{Task}
use Rattle.swarm_spans.proofs.Services.Alike.{Reads, any-alike, filter-alike, fold-alike, last-alike, some-alike}
use Rattle.swarm_spans.specs.Services.Lines.{comes, creates, downs, leaves, job_creates}
use Rattle.swarm_spans.specs.Services.Standings.{Standing, standing}
use Rattle.swarm_spans.specs.Spans.{has_duty}

-- Tests of a task that read how it stands.

counts-read : (s : Service) → Reads standing (counts_for s)
counts-read s x y e =
    ap (λ (k : Standing). k.service == s.id && (not (is_job s.spec.mode) || k.iteration == s.iteration)) e

pub place-read : (s : Service) (p : Place) → Reads standing (is_in_place s p)
place-read s p x y e =
    ap (λ (k : Standing). (k.service == s.id && (not (is_job s.spec.mode) || k.iteration == s.iteration))
    && same_place k.place p) e

pub live-read : Reads standing is_live
live-read x y e = ap (λ (k : Standing). k.live) e

pub closes-read : Reads standing closes
closes-read x y e = ap (λ (k : Standing). k.closed && k.kept) e

number-read : Reads standing (λ x. place_number x.place)
number-read x y e = ap (λ (k : Standing). place_number k.place) e

old-read : (s : Service) → Reads standing (λ x. is_of s.id x && is_old_of x s)
old-read s x y e =
    ap (λ (k : Standing). k.service == s.id && (is_job s.spec.mode && nat_lt k.iteration s.iteration && k.kept)) e

-- What two lists of tasks have in common that stand alike.

pub numbers-alike : (s : Service) (xs ys : List Task) → map standing xs ≡ map standing ys
    → numbers_of s xs ≡ numbers_of s ys
numbers-alike s xs ys e =
    fold-alike standing (λ x. place_number x.place) (λ ks k. with_number k ks) [] (filter (counts_for s) xs)
    (filter (counts_for s) ys) number-read (filter-alike standing (counts_for s) xs ys (counts-read s) e)

placed-alike : (s : Service) (p : Place) (xs ys : List Task) → map standing xs ≡ map standing ys
    → map standing (tasks_of_place s p xs) ≡ map standing (tasks_of_place s p ys)
placed-alike s p xs ys e = filter-alike standing (is_in_place s p) xs ys (place-read s p) e

held-alike : (s : Service) (p : Place) (xs ys : List Task) → map standing xs ≡ map standing ys
    → is_held s p xs ≡ is_held s p ys
held-alike s p xs ys e =
    let placed = placed-alike s p xs ys e in
    let live = any-alike standing is_live (tasks_of_place s p xs) (tasks_of_place s p ys) live-read placed in
    let closed =
    some-alike standing closes (newest (tasks_of_place s p xs)) (newest (tasks_of_place s p ys)) closes-read
    (last-alike standing None None (tasks_of_place s p xs) (tasks_of_place s p ys) refl placed) in
    ap (λ b. b || is_some_and closes (newest (tasks_of_place s p xs))) live
    ∙ ap (λ b. list_any is_live (tasks_of_place s p ys) || b) closed

-- A service's own tasks tell all of its places.

abbrev pub own : Tables → Service → List Task
own t s = filter (is_of s.id) t.tasks

abbrev pub StandAlike : Tables → Tables → Service → Type 0
StandAlike t u s = map standing (own u s) ≡ map standing (own t s)

pub numbers-of : (s : Service) (tasks : List Task) → numbers_of s (filter (is_of s.id) tasks) ≡ numbers_of s tasks
numbers-of s tasks =
    ap (λ (xs : List Task). fold (λ ks x. with_number (place_number x.place) ks) [] xs) (counted_of_service s tasks)

pub numbers-same : (t u : Tables) (s : Service) → StandAlike t u s → place_numbers u s ≡ place_numbers t s
numbers-same t u s e =
    sym (numbers-of s u.tasks) ∙ numbers-alike s (own u s) (own t s) e ∙ numbers-of s t.tasks

held-of : (s : Service) (p : Place) (tasks : List Task) → is_held s p (filter (is_of s.id) tasks) ≡ is_held s p tasks
held-of s p tasks =
    ap (λ xs. list_any is_live xs || is_some_and closes (newest xs)) (in_place_of_service s p tasks)

pub held-same : (t u : Tables) (s : Service) (k : ℕ) → StandAlike t u s → is_held_place u s k ≡ is_held_place t s k
held-same t u s k e =
    let p = place_at s.spec.mode k in
    sym (held-of s p u.tasks) ∙ held-alike s p (own u s) (own t s) e ∙ held-of s p t.tasks

pub live-same : (t u : Tables) (s : Service) (k : ℕ) → StandAlike t u s → has_live u s k ≡ has_live t s k
live-same t u s k e =
    let p = place_at s.spec.mode k in
    sym (ap (list_any is_live) (in_place_of_service s p u.tasks))
    ∙ any-alike standing is_live (tasks_of_place s p (own u s)) (tasks_of_place s p (own t s)) live-read
    (placed-alike s p (own u s) (own t s) e)
    ∙ ap (list_any is_live) (in_place_of_service s p t.tasks)

pub held-places-same : (t u : Tables) (s : Service) → StandAlike t u s → held_places u s ≡ held_places t s
held-places-same t u s e =
    filter_same (is_held_place u s) (is_held_place t s) (place_numbers u s) (λ k. held-same t u s k e)
    ∙ ap (filter (is_held_place t s)) (numbers-same t u s e)

live-places-same : (t u : Tables) (s : Service) → StandAlike t u s → live_places u s ≡ live_places t s
live-places-same t u s e =
    filter_same (has_live u s) (has_live t s) (place_numbers u s) (λ k. live-same t u s k e)
    ∙ ap (filter (has_live t s)) (numbers-same t u s e)

old-of : (s : Service) (tasks : List Task)
    → list_any (λ x. is_of s.id x && is_old_of x s) (filter (is_of s.id) tasks)
    ≡ list_any (λ x. is_of s.id x && is_old_of x s) tasks
old-of s tasks =
    any_again (λ x. is_of s.id x && is_old_of x s) (is_of s.id) tasks
    (λ x h. and_left (is_of s.id x) (is_old_of x s) h)

old-same : (t u : Tables) (s : Service) → StandAlike t u s → has_old u s ≡ has_old t s
old-same t u s e =
    sym (old-of s u.tasks)
    ∙ any-alike standing (λ x. is_of s.id x && is_old_of x s) (own u s) (own t s) (old-read s) e
    ∙ old-of s t.tasks

-- Line by line.

pub create-same : (t u : Tables) (s : Service) → StandAlike t u s
    → has_duty (creates u) s ≡ has_duty (creates t) s
create-same t u s e = go s.spec.mode
  where
    go : (m : Mode) → is_some (first_of (create_duty u s m)) ≡ is_some (first_of (create_duty t s m))
    go (mode.Replicated n) =
        ap (λ held. is_some (first_of (when (nat_lt (length held) n) (duty.ReplicatedCreate s.id (first_gap 1 held)))))
        (held-places-same t u s e)
    go mode.Global = refl
    go (mode.Job concurrent total) = refl

-- the order in which slots are given up decides which, and not whether one is

least-some : {X : Type 0} (compare : X → X → Ordering) (x : X) (xs : List X)
    → is_some (least_by compare (Some x) xs) ≡ true
least-some compare x [] = refl
least-some {X} compare x (y ∷ xs) =
    go (is_lt (compare y x)) (least-some compare y xs) (least-some compare x xs)
  where
    go : (b : Bool) → is_some (least_by compare (Some y) xs) ≡ true → is_some (least_by compare (Some x) xs) ≡ true
        → is_some (least_by compare (cond b (Some y) (Some x)) xs) ≡ true
    go true this that = this
    go false this that = that

least-any : {X : Type 0} (compare : X → X → Ordering) (xs : List X)
    → is_some (least_by compare None xs) ≡ is_some (first_of xs)
least-any compare [] = refl
least-any compare (x ∷ xs) = least-some compare x xs

down-held : (t : Tables) (s : Service) (n : ℕ)
    → is_some (first_of (down_duty t s (mode.Replicated n)))
    ≡ (nat_lt n (length (held_places t s)) && is_some (first_of (held_places t s)))
down-held t s n = go (nat_lt n (length (held_places t s)))
  where
    one : (o : Option ℕ) → is_some (first_of (option_to_list (option_map (duty.Down s.id) o))) ≡ is_some o
    one None = refl
    one (Some k) = refl

    go : (b : Bool) → is_some (first_of (cond b (option_to_list (option_map (duty.Down s.id) (first_to_go t s))) []))
        ≡ (b && is_some (first_of (held_places t s)))
    go true = one (first_to_go t s) ∙ least-any (down_cmp t s) (held_places t s)
    go false = refl

pub down-same : (t u : Tables) (s : Service) → StandAlike t u s → has_duty (downs u) s ≡ has_duty (downs t) s
down-same t u s e = go s.spec.mode
  where
    go : (m : Mode) → is_some (first_of (down_duty u s m)) ≡ is_some (first_of (down_duty t s m))
    go (mode.Replicated n) =
        down-held u s n
        ∙ ap (λ (held : List ℕ). nat_lt n (length held) && is_some (first_of held)) (held-places-same t u s e)
        ∙ sym (down-held t s n)
    go mode.Global = refl
    go (mode.Job concurrent total) = refl

pub next-same : (t u : Tables) (s : Service) → StandAlike t u s → has_duty (job_creates u) s ≡ has_duty (job_creates t) s
next-same t u s e = go s.spec.mode
  where
    given : ℕ → ℕ → List ℕ → List ℕ → Bool → Bool
    given concurrent total live held old =
        is_some (first_of (when (nat_lt (length live) concurrent && nat_lt (length held) total && not old)
        (duty.JobCreate s.id (first_gap 0 held))))

    go : (m : Mode) → is_some (first_of (next_duty u s m)) ≡ is_some (first_of (next_duty t s m))
    go (mode.Replicated n) = refl
    go mode.Global = refl
    go (mode.Job concurrent total) =
        ap (λ live. given concurrent total live (held_places u s) (has_old u s)) (live-places-same t u s e)
        ∙ ap (λ held. given concurrent total (live_places t s) held (has_old u s)) (held-places-same t u s e)
        ∙ ap (given concurrent total (live_places t s) (held_places t s)) (old-same t u s e)

pub leave-same : (t u : Tables) (s : Service) → u.nodes ≡ t.nodes → StandAlike t u s
    → has_duty (leaves u) s ≡ has_duty (leaves t) s
leave-same t u s nodes e = go s.spec.mode
  where
    to-leave : (k : ℕ) → is_to_leave u s k ≡ is_to_leave t s k
    to-leave k =
        ap (λ b. b && not (is_row_and node_id (may_stay s) u.nodes k)) (held-same t u s k e)
        ∙ ap (λ (list : List Node). is_held_place t s k && not (is_row_and node_id (may_stay s) list k)) nodes

    places : filter (is_to_leave u s) (place_numbers u s) ≡ filter (is_to_leave t s) (place_numbers t s)
    places =
        filter_same (is_to_leave u s) (is_to_leave t s) (place_numbers u s) to-leave
        ∙ ap (filter (is_to_leave t s)) (numbers-same t u s e)

    go : (m : Mode) → is_some (first_of (leave_duties u s m)) ≡ is_some (first_of (leave_duties t s m))
    go (mode.Replicated n) = refl
    go mode.Global = ap (λ ks. is_some (first_of (map (duty.Leave s.id) ks))) places
    go (mode.Job concurrent total) = refl

pub come-same : (t u : Tables) (s : Service) → u.nodes ≡ t.nodes → StandAlike t u s
    → has_duty (comes u) s ≡ has_duty (comes t) s
come-same t u s nodes e = go s.spec.mode
  where
    missing : (n : Node) → is_missing u s n ≡ is_missing t s n
    missing n = ap (λ b. wants_here s n && not b) (held-same t u s n.id e)

    where-missing : filter (is_missing u s) u.nodes ≡ filter (is_missing t s) t.nodes
    where-missing = filter_same (is_missing u s) (is_missing t s) u.nodes missing ∙ ap (filter (is_missing t s)) nodes

    go : (m : Mode) → is_some (first_of (come_duties u s m)) ≡ is_some (first_of (come_duties t s m))
    go (mode.Replicated n) = refl
    go mode.Global = ap (λ list. is_some (first_of (map (λ (n : Node). duty.GlobalCreate s.id n.id) list))) where-missing
    go (mode.Job concurrent total) = refl

-- What decides when a place goes, for a window of places by one walk over the service's tasks.
use Rattle.std.proofs.Common.{Bool, List, [], ap, arith, cond, eqb, false, get_or, length, max, refl, set, subst, sym, true, ℕ, ◌+◌, ◌-◌, ◌<◌, ◌∙◌, ◌∷◌, ◌≡◌, ◌≤◌, ◌≢◌}
use Rattle.std.proofs.lemmas.Bool.Decides.{nat_tests}
use Rattle.std.proofs.lemmas.List.{get_or-replicate, get_or-set_other, get_or-set_same, length-replicate, length-set}
use Rattle.std.specs.List.{list_any}
use Rattle.std.specs.Prelude.{filter, fold, map, ◌&&◌, ◌||◌}
use Rattle.role_words.proofs.Numbers.{or_false}
use Rattle.role_words.specs.Marks.{stands, tasks_at}
use Rattle.swarm_objects.proofs.PlaceLemmas.{in_place_of_service}
use Rattle.swarm_objects.specs.Loops.Replicated.{crowd, is_up, place_crowd}
use Rattle.swarm_objects.specs.Tasks.Places.{is_in_place, place_at, place_number}
use Rattle.swarm_objects.specs.Tasks.Words.{is_live, is_of, is_running}
use Rattle.swarm_objects.specs.World.{Tables}
use Rattle.swarm_objects.specs.declared.services.Service.{Service}
use Rattle.swarm_objects.specs.declared.tasks.Task.{Task}
use Rattle.swarm_replicated.proofs.PlaceSteps.{at-stands, stands-at}
use Rattle.swarm_replicated.specs.Inside.Weights.{IsApart, IsAt, Remains, Weighs, blank, heavier, is_up_with, most_with, noted_at, weight_at}
use Rattle.swarm_replicated.specs.declared.weights.TheConstants.{BLANK, WIDTH}
use Rattle.swarm_replicated.specs.declared.weights.Weight.{Weight}
use Rattle.swarm_replicated.specs.declared.weights.Weights.{Weights}

-- No task is noted yet.

pub begins : (t : Tables) (s : Service) (w : Weights) (first : ℕ) (tasks : List Task) → w ≡ blank first →
    tasks ≡ filter (is_of s.id) t.tasks → Remains t s w tasks
begins t s w first tasks is all =
    subst (λ v. Remains t s v tasks) (sym is) (subst (Remains t s (blank first)) (sym all) (record {
      wide = length-replicate WIDTH BLANK;
      up = λ i lt.
          ap (λ (v : Weight). is_up_with v.is_up (tasks_at s (filter (is_of s.id) t.tasks) (first + i)))
          (get_or-replicate WIDTH i BLANK BLANK lt)
          ∙ ap (is_up_with false) (in_place_of_service s (place_at s.spec.mode (first + i)) t.tasks);
      most = λ i lt.
          ap (λ (v : Weight). most_with (λ (x : Task). crowd t s x.node) v.crowd (tasks_at s (filter (is_of s.id) t.tasks) (first + i)))
          (get_or-replicate WIDTH i BLANK BLANK lt)
          ∙ ap (most_with (λ (x : Task). crowd t s x.node) 0) (in_place_of_service s (place_at s.spec.mode (first + i)) t.tasks);
    }))

-- A task that isn't live, or stands elsewhere.

up-apart : (was in_place live runs : Bool) (rest : List Task) (x : Task) → is_live x ≡ live → in_place && live ≡ false →
    is_up_with was (cond in_place (x ∷ rest) rest) ≡ is_up_with was rest
up-apart was true true runs rest x e off = absurd cc
up-apart was true false runs rest x e off =
    ap (λ b. was || ((b && is_running x) || list_any (λ (y : Task). is_live y && is_running y) rest)) e
up-apart was false live runs rest x e off = refl

most-apart : (count : Task → ℕ) (was : ℕ) (in_place live : Bool) (rest : List Task) (x : Task) → is_live x ≡ live →
    in_place && live ≡ false → most_with count was (cond in_place (x ∷ rest) rest) ≡ most_with count was rest
most-apart count was true true rest x e off = absurd cc
most-apart count was true false rest x e off =
    ap (λ b. fold max was (map count (cond b (x ∷ filter is_live rest) (filter is_live rest)))) e
most-apart count was false live rest x e off = refl

pub passed : (t : Tables) (s : Service) (w : Weights) (x : Task) (left : List Task) → IsApart w s x →
    Remains t s w (x ∷ left) → Remains t s w left
passed t s w x left apart h = record {
  wide = h.wide;
  up = λ i lt.
      sym (up-apart (weight_at w i).is_up (here i) (is_live x) (is_running x) (tasks_at s left (w.first + i)) x refl (apart i lt))
      ∙ h.up i lt;
  most = λ i lt.
      sym (most-apart (λ (y : Task). crowd t s y.node) (weight_at w i).crowd (here i) (is_live x) (tasks_at s left (w.first + i)) x refl (apart i lt))
      ∙ h.most i lt;
}
  where
    here : ℕ → Bool
    here i = is_in_place s (place_at s.spec.mode (w.first + i)) x

-- A live task in one of the places.

or-next : (was live runs rest : Bool) → live ≡ true → (was || ((live && runs) || rest)) ≡ ((was || runs) || rest)
or-next true live runs rest e = refl
or-next false live runs rest e = ap (λ b. (b && runs) || rest) e

up-more : (was : Bool) (x : Task) (rest : List Task) → is_live x ≡ true →
    is_up_with (was || is_running x) rest ≡ is_up_with was (x ∷ rest)
up-more was x rest live =
    sym (or-next was (is_live x) (is_running x) (list_any (λ (y : Task). is_live y && is_running y) rest) live)

most-more : (count : Task → ℕ) (was : ℕ) (x : Task) (rest : List Task) → is_live x ≡ true →
    most_with count (max was (count x)) rest ≡ most_with count was (x ∷ rest)
most-more count was x rest live =
    sym (ap (λ b. fold max was (map count (cond b (x ∷ filter is_live rest) (filter is_live rest)))) live)

noted : (t : Tables) (s : Service) (w : Weights) (x : Task) (left : List Task) (i : ℕ) → IsAt w s x i →
    Remains t s w (x ∷ left) → Remains t s (noted_at i (is_running x) (crowd t s x.node) w) left
noted t s w x left i at h = record {
  wide = length-set w.weights i new ∙ h.wide;
  up = λ j lt. up j lt (eqb j i) refl;
  most = λ j lt. most j lt (eqb j i) refl;
}
  where
    new : Weight
    new = heavier (weight_at w i) (is_running x) (crowd t s x.node)

    count : Task → ℕ
    count y = crowd t s y.node

    within : i < length w.weights
    within = let lt = at.within in let wide = h.wide in omega (arith, lt, wide)

    here : is_in_place s (place_at s.spec.mode (w.first + i)) x ≡ true
    here = at-stands s x (w.first + i) at.in_place at.number

    away : (j : ℕ) → j ≢ i → is_in_place s (place_at s.spec.mode (w.first + j)) x ≡ false
    away j differ = go (is_in_place s (place_at s.spec.mode (w.first + j)) x) refl
      where
        apart : place_number x.place ≡ w.first + j → ⊥
        apart e = let number = at.number in differ (omega (arith, e, number))

        go : (b : Bool) → is_in_place s (place_at s.spec.mode (w.first + j)) x ≡ b → b ≡ false
        go true e = absurd (apart (stands-at s x (w.first + j) e).1)
        go false e = refl

    rest : ℕ → List Task
    rest j = tasks_at s left (w.first + j)

    up : (j : ℕ) → j < WIDTH → (b : Bool) → eqb j i ≡ b →
        is_up_with (get_or (set w.weights i new) j BLANK).is_up (rest j) ≡ is_up t s (w.first + j)
    up j lt true e =
        let same : i ≡ j = grind (arith, nat_tests, e) in
        subst (λ n. is_up_with (get_or (set w.weights i new) n BLANK).is_up (rest n) ≡ is_up t s (w.first + n)) same
        (ap (λ (v : Weight). is_up_with v.is_up (rest i)) (get_or-set_same w.weights i new BLANK within)
        ∙ up-more (weight_at w i).is_up x (rest i) at.live
        ∙ sym (ap (λ b. is_up_with (weight_at w i).is_up (cond b (x ∷ rest i) (rest i))) here) ∙ h.up i at.within)
    up j lt false e =
        let differ : j ≢ i = grind (arith, nat_tests, e) in
        ap (λ (v : Weight). is_up_with v.is_up (rest j)) (get_or-set_other w.weights i j new BLANK differ)
        ∙ sym (ap (λ b. is_up_with (weight_at w j).is_up (cond b (x ∷ rest j) (rest j))) (away j differ)) ∙ h.up j lt

    most : (j : ℕ) → j < WIDTH → (b : Bool) → eqb j i ≡ b →
        most_with count (get_or (set w.weights i new) j BLANK).crowd (rest j) ≡ place_crowd t s (w.first + j)
    most j lt true e =
        let same : i ≡ j = grind (arith, nat_tests, e) in
        subst (λ n. most_with count (get_or (set w.weights i new) n BLANK).crowd (rest n) ≡ place_crowd t s (w.first + n)) same
        (ap (λ (v : Weight). most_with count v.crowd (rest i)) (get_or-set_same w.weights i new BLANK within)
        ∙ most-more count (weight_at w i).crowd x (rest i) at.live
        ∙ sym (ap (λ b. most_with count (weight_at w i).crowd (cond b (x ∷ rest i) (rest i))) here) ∙ h.most i at.within)
    most j lt false e =
        let differ : j ≢ i = grind (arith, nat_tests, e) in
        ap (λ (v : Weight). most_with count v.crowd (rest j)) (get_or-set_other w.weights i j new BLANK differ)
        ∙ sym (ap (λ b. most_with count (weight_at w j).crowd (cond b (x ∷ rest j) (rest j))) (away j differ)) ∙ h.most j lt

pub noted-by : (t : Tables) (s v : Service) (w u : Weights) (x : Task) (left : List Task) (i most : ℕ) (runs : Bool) →
    IsAt w s x i → runs ≡ is_running x → most ≡ crowd t v x.node → v ≡ s → u ≡ noted_at i runs most w →
    Remains t s w (x ∷ left) → Remains t s u left
noted-by t s v w u x left i most runs at run counted same is h =
    subst (λ z. Remains t s z left)
    (sym (is ∙ ap (λ b. noted_at i b most w) run ∙ ap (λ n. noted_at i (is_running x) n w) (counted ∙ ap (λ z. crowd t z x.node) same)))
    (noted t s w x left i at h)

-- one task more
pub steps : (t k : Tables) (s : Service) (w v : Weights) (tasks left : List Task) (x : Task) → k ≡ t → tasks ≡ x ∷ left →
    ((left : List Task) → Remains k s w (x ∷ left) → Remains k s v left) → Remains t s w tasks → Remains t s v left
steps t k s w v tasks left x same is step h =
    subst (λ z. Remains z s v left) same (step left (subst (λ z. Remains z s w (x ∷ left)) (sym same) (subst (Remains t s w) is h)))

-- All tasks are noted.

abbrev weight : Bool → ℕ → Weight
weight up most = record { is_up = up; crowd = most }

pub ends : (t : Tables) (s : Service) (w : Weights) (tasks : List Task) → tasks ≡ [] → Remains t s w tasks → Weighs t s w
ends t s w tasks none h = record {
  wide = h.wide;
  each = λ i lt.
      ap (λ b. weight b (weight_at w i).crowd) (sym (or_false (weight_at w i).is_up) ∙ (all.up i lt))
      ∙ ap (weight (is_up t s (w.first + i))) (all.most i lt);
}
  where
    all : Remains t s w []
    all = subst (Remains t s w) none h

-- Where a task stands.

pub before : (w : Weights) (s : Service) (x : Task) (number : ℕ) → number ≡ place_number x.place → number < w.first → IsApart w s x
before w s x number is lt i within = go (is_in_place s (place_at s.spec.mode (w.first + i)) x) refl
  where
    apart : place_number x.place ≡ w.first + i → ⊥
    apart e = omega (arith, is, lt, e)

    go : (b : Bool) → is_in_place s (place_at s.spec.mode (w.first + i)) x ≡ b → b && is_live x ≡ false
    go true e = absurd (apart (stands-at s x (w.first + i) e).1)
    go false e = refl

pub behind : (w : Weights) (s : Service) (x : Task) (number index : ℕ) → number ≡ place_number x.place →
    index ≡ number - w.first → WIDTH ≤ index → IsApart w s x
behind w s x number index is at far i within = go (is_in_place s (place_at s.spec.mode (w.first + i)) x) refl
  where
    apart : place_number x.place ≡ w.first + i → ⊥
    apart e = omega (arith, is, at, far, e, within)

    go : (b : Bool) → is_in_place s (place_at s.spec.mode (w.first + i)) x ≡ b → b && is_live x ≡ false
    go true e = absurd (apart (stands-at s x (w.first + i) e).1)
    go false e = refl

pub idle : (w : Weights) (s : Service) (x : Task) → is_live x && stands s x ≡ false → IsApart w s x
idle w s x off i within = go (is_in_place s (place_at s.spec.mode (w.first + i)) x) refl (is_live x) refl
  where
    go : (b : Bool) → is_in_place s (place_at s.spec.mode (w.first + i)) x ≡ b → (c : Bool) → is_live x ≡ c → b && c ≡ false
    go true e true f = absurd (both (is_live x) (stands s x) off f (stands-at s x (w.first + i) e).0)
      where
        both : (a b : Bool) → a && b ≡ false → a ≡ true → b ≡ true → ⊥
        both true true e f g = absurd cc
        both true false e f g = absurd cc
        both false b e f g = absurd cc
    go true e false f = refl
    go false e c f = refl

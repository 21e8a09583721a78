-- What is remembered of services, and changes that touch one of them.
use Rattle.std.proofs.Common.{Bool, List, None, Option, Some, ap, arith, cond, eqb, false, get_or, length}
use Rattle.std.proofs.Common.{not, refl, set, subst, sym, true, ℕ, ◌%◌, ◌<◌, ◌∙◌, ◌≡◌, ◌≢◌, ◌⊎◌, inl}
use Rattle.std.proofs.Common.{inr}
use Rattle.std.proofs.lemmas.Bool.Decides.{nat_tests}
use Rattle.std.proofs.lemmas.List.{get_or-replicate, get_or-set_other, get_or-set_same}
use Rattle.std.specs.List.{list_all}
use Rattle.std.specs.Prelude.{IfSome, replicate, ◌&&◌, ◌||◌}
use Rattle.role_words.proofs.Numbers.{number_equal, same_number}
use Rattle.role_words.specs.Marks.{stands}
use Rattle.swarm_objects.proofs.RowLemmas.{Has-from_row_at}
use Rattle.swarm_objects.proofs.SameLemmas.{Decides-same_place}
use Rattle.swarm_objects.proofs.Tests.{all-pass, both, first_so, of-all, or_cases, or_left, or_right, second_so}
use Rattle.swarm_objects.proofs.Tests.{some-and, some-and-cases}
use Rattle.swarm_objects.specs.ChangeLists.{apply_changes}
use Rattle.swarm_objects.specs.Rows.{Has, is_some_and, row_at, service_id, task_id}
use Rattle.swarm_objects.specs.Same.{same_bool, same_place}
use Rattle.swarm_objects.specs.Services.Words.{is_job}
use Rattle.swarm_objects.specs.Tasks.Places.{closes, counts_for, held_places, place_at, place_number}
use Rattle.swarm_objects.specs.Tasks.Words.{is_live}
use Rattle.swarm_objects.specs.Usable.{IsUsable}
use Rattle.swarm_objects.specs.World.{Tables}
use Rattle.swarm_objects.specs.declared.rows.Change.TheVariants as change
use Rattle.swarm_objects.specs.declared.rows.Change.{Change}
use Rattle.swarm_objects.specs.declared.services.Service.{Service}
use Rattle.swarm_objects.specs.declared.tasks.Place.{Place}
use Rattle.swarm_objects.specs.declared.tasks.Task.{Task}
use Rattle.swarm_replicated.proofs.Leaving.{not-of, service-stays}
use Rattle.swarm_replicated.proofs.Recounting.{all-spared}
use Rattle.swarm_replicated.proofs.PlaceSteps.{is-it}
use Rattle.swarm_replicated.specs.Inside.Touches.{is_same_standing, keeps_standing, touches_only, was_other}
use Rattle.swarm_replicated.specs.Inside.PlaceChanges.{goes_on, is_alike, is_elsewhere, is_it, keeps_places, spares}
use Rattle.swarm_replicated.specs.Inside.PlaceChanges.{was_elsewhere}
use Rattle.swarm_replicated.specs.Inside.Reach.{reach_only}
use Rattle.swarm_replicated.specs.KnownPlaces.{AreCounted, IsCounted, IsKept, Knows, entry, of_service}
use Rattle.swarm_replicated.specs.declared.known_places.Counted.{Counted}
use Rattle.swarm_replicated.specs.declared.known_places.KnownPlaces.{KnownPlaces}
use Rattle.swarm_replicated.specs.declared.known_places.TheConstants.{SLOTS}
use Rattle.swarm_replicated.specs.declared.reach.Reach.TheVariants as reach
use Rattle.swarm_replicated.specs.declared.reach.Reach.{Reach}

-- A change that touches no service but another one spares all places.

yes-no : (b : Bool) → b ≡ false → not b ≡ true
yes-no true e = absurd cc
yes-no false e = refl

-- a task of another service stands in none of these places
not-here : (s : Service) (o : Option ℕ) (x : Task) → is_it o x.service ≡ true → (o ≡ Some s.id → ⊥) → stands s x ≡ false
not-here s o x e apart = go (eqb x.service s.id) refl
  where
    go : (b : Bool) → eqb x.service s.id ≡ b → stands s x ≡ false
    go true is = absurd (apart (is-it o x.service e ∙ ap Some (same_number x.service s.id is)))
    go false is =
        ap (λ b. (b && (not (is_job s.spec.mode) || eqb x.iteration s.iteration)) && same_place x.place (place_at s.spec.mode (place_number x.place))) is

not-elsewhere : (s : Service) (x : Task) → stands s x ≡ false → not (is_elsewhere s None x) ≡ true
not-elsewhere s x e = yes-no (is_elsewhere s None x) (ap (λ b. b && not (is_it None (place_number x.place))) e)

-- where the task that was there is no such one
not-was : (t : Tables) (s : Service) (id : ℕ) (o : Option Task) → row_at task_id id t.tasks ≡ o →
    ((y : Task) → o ≡ Some y → stands s y ≡ false) → not (was_elsewhere t s None id) ≡ true
not-was t s id None at each = ap (λ p. not (is_some_and (is_elsewhere s None) p)) at
not-was t s id (Some y) at each =
    ap (λ p. not (is_some_and (is_elsewhere s None) p)) at ∙ not-elsewhere s y (each y refl)

was-here : (t : Tables) (o : Option ℕ) (id : ℕ) (y : Task) → row_at task_id id t.tasks ≡ Some y →
    not (was_other t o id) ≡ true → is_it o y.service ≡ true
was-here t o id y at e =
    twice (is_it o y.service) (sym (ap (is_some_and (λ (z : Task). not (is_it o z.service))) at) ∙ not-of (was_other t o id) e)
  where
    twice : (b : Bool) → not b ≡ false → b ≡ true
    twice true e = refl
    twice false e = absurd cc

unmoved : (t : Tables) (s : Service) (o : Option ℕ) (id : ℕ) → not (was_other t o id) ≡ true → (o ≡ Some s.id → ⊥) →
    not (was_elsewhere t s None id) ≡ true
unmoved t s o id e apart =
    not-was t s id (row_at task_id id t.tasks) refl
    (λ y at. not-here s o y (was-here t o id y at e) apart)

same-counts : (s : Service) (x y : Task) → x.service ≡ y.service → x.iteration ≡ y.iteration → counts_for s x ≡ counts_for s y
same-counts s x y service iteration =
    ap (λ n. eqb n s.id && (not (is_job s.spec.mode) || eqb x.iteration s.iteration)) service
    ∙ ap (λ n. eqb y.service s.id && (not (is_job s.spec.mode) || eqb n s.iteration)) iteration

same-stands : (s : Service) (x y : Task) → x.service ≡ y.service → x.place ≡ y.place → x.iteration ≡ y.iteration →
    stands s x ≡ stands s y
same-stands s x y service place iteration =
    ap (λ b. b && same_place x.place (place_at s.spec.mode (place_number x.place))) (same-counts s x y service iteration)
    ∙ ap (λ (p : Place). counts_for s y && same_place p (place_at s.spec.mode (place_number p))) place

kept-standing : (t : Tables) (s : Service) (x : Task) → keeps_standing t x ≡ true → spares t s None (change.PutTask x) ≡ true
kept-standing t s x e = go (stands s x) refl
  where
    row : (y : Task) × (row_at task_id x.id t.tasks ≡ Some y) × (is_same_standing x y ≡ true)
    row = some-and-cases (is_same_standing x) (row_at task_id x.id t.tasks) e

    y : Task
    y = row.0

    four : ((eqb x.service y.service && same_place x.place y.place) && eqb x.iteration y.iteration) && same_bool (is_live x) (is_live y) ≡ true
    four = first_so _ (same_bool (closes x) (closes y)) row.2

    three : (eqb x.service y.service && same_place x.place y.place) && eqb x.iteration y.iteration ≡ true
    three = first_so _ (same_bool (is_live x) (is_live y)) four

    two : eqb x.service y.service && same_place x.place y.place ≡ true
    two = first_so _ (eqb x.iteration y.iteration) three

    place : x.place ≡ y.place
    place = (Decides-same_place x.place y.place).0 (second_so (eqb x.service y.service) _ two)

    same : stands s x ≡ stands s y
    same =
        same-stands s x y (same_number x.service y.service (first_so (eqb x.service y.service) _ two)) place
        (same_number x.iteration y.iteration (second_so (eqb x.service y.service && same_place x.place y.place) _ three))

    number : eqb (place_number x.place) (place_number y.place) ≡ true
    number = number_equal (place_number x.place) (place_number y.place) (ap place_number place)

    go : (b : Bool) → stands s x ≡ b → spares t s None (change.PutTask x) ≡ true
    go true is =
        or_left (goes_on t s x) (not (is_elsewhere s None x) && not (was_elsewhere t s None x.id))
        (some-and (is_alike s x) (row_at task_id x.id t.tasks) y row.1
        (both _ (same_bool (closes x) (closes y))
        (both _ (same_bool (is_live x) (is_live y))
        (both (stands s x && stands s y) _ (both (stands s x) (stands s y) is (sym same ∙ is)) number)
        (second_so _ (same_bool (is_live x) (is_live y)) four))
        (second_so _ (same_bool (closes x) (closes y)) row.2)))
    go false is =
        or_right (goes_on t s x) (not (is_elsewhere s None x) && not (was_elsewhere t s None x.id))
        (both (not (is_elsewhere s None x)) (not (was_elsewhere t s None x.id)) (not-elsewhere s x is)
        (not-was t s x.id (Some y) row.1 (λ z e. let is_y : y ≡ z = cc in subst (λ (v : Task). stands s v ≡ false) is_y (sym same ∙ is))))

spared-other : (t : Tables) (s : Service) (o : Option ℕ) (c : Change) → touches_only t o c ≡ true → (o ≡ Some s.id → ⊥) →
    spares t s None c ≡ true
spared-other t s o (change.PutNode n) e apart = refl
spared-other t s o (change.PutService v) e apart =
    or_left (not (eqb v.id s.id)) (keeps_places s v) (yes-no (eqb v.id s.id) (go (eqb v.id s.id) refl))
  where
    go : (b : Bool) → eqb v.id s.id ≡ b → b ≡ false
    go true is = absurd (apart (is-it o v.id e ∙ ap Some (same_number v.id s.id is)))
    go false is = refl
spared-other t s o (change.PutTask x) e apart =
    go (or_cases (keeps_standing t x) (is_it o x.service && not (was_other t o x.id)) e)
  where
    go : (keeps_standing t x ≡ true) ⊎ (is_it o x.service && not (was_other t o x.id) ≡ true) →
        spares t s None (change.PutTask x) ≡ true
    go (inl kept) = kept-standing t s x kept
    go (inr other) =
        or_right (goes_on t s x) (not (is_elsewhere s None x) && not (was_elsewhere t s None x.id))
        (both (not (is_elsewhere s None x)) (not (was_elsewhere t s None x.id))
        (not-elsewhere s x (not-here s o x (first_so (is_it o x.service) _ other) apart))
        (unmoved t s o x.id (second_so (is_it o x.service) _ other) apart))
spared-other t s o (change.DropTask id) e apart = unmoved t s o id e apart
spared-other t s o (change.Keep a) e apart = refl

-- What is remembered of another service goes on.
untouched : (t : Tables) (k : Counted) (o : Option ℕ) (cs : List Change) → IsUsable t → IsCounted t k →
    list_all (touches_only t o) cs ≡ true → (o ≡ Some k.service → ⊥) → IsCounted (apply_changes t cs) k
untouched t k o cs usable counted all apart = record {
  each = λ s e.
      let there = sym (service-stays cs t k.service other) ∙ e in
      (all-spared t s k cs usable counted there
      (all-pass (spares t s None) cs
      (λ c h. spared-other t s o c (of-all (touches_only t o) cs c all h) (λ is. apart (is ∙ ap Some (its s there)))))).each s e;
}
  where
    its : (s : Service) → row_at service_id k.service t.services ≡ Some s → s.id ≡ k.service
    its s at = (Has-from_row_at service_id k.service t.services s at).1

    other : (c : Change) → Has cs c → (v : Service) → c ≡ change.PutService v → not (eqb v.id k.service) ≡ true
    other c h v is = yes-no (eqb v.id k.service) (go (eqb v.id k.service) refl)
      where
        go : (b : Bool) → eqb v.id k.service ≡ b → b ≡ false
        go true same =
            absurd (apart (is-it o v.id (subst (λ d. touches_only t o d ≡ true) is (of-all (touches_only t o) cs c all h))
            ∙ ap Some (same_number v.id k.service same)))
        go false same = refl

-- tables with the same services and tasks
counted-same : (t u : Tables) (k : Counted) → u.services ≡ t.services → u.tasks ≡ t.tasks → IsCounted t k → IsCounted u k
counted-same t u k services tasks is = record {
  each = λ s there.
      subst (λ (all : List Task). AreCounted k (held_places (record t { tasks = all }) s)) (sym tasks)
      (is.each s (subst (λ (all : List Service). row_at service_id k.service all ≡ Some s) services there));
}

pub knows_same : (t u : Tables) (known : KnownPlaces) → u.services ≡ t.services → u.tasks ≡ t.tasks → Knows t known →
    Knows u known
knows_same t u known services tasks knows = record {
  each = λ slot lt. go slot (get_or known.counted slot None) (knows.each slot lt);
}
  where
    go : (slot : ℕ) (o : Option Counted) → IfSome o (IsKept t slot) → IfSome o (IsKept u slot)
    go slot None kept = tt
    go slot (Some k) kept = record { counted = counted-same t u k services tasks kept.counted; stands = kept.stands }

-- The slots.

within : (service slot : ℕ) → slot ≡ service % SLOTS → slot < SLOTS
within service slot is = omega (arith, is)

goes-on : (t : Tables) (o : Option ℕ) (cs : List Change) (slot : ℕ) (p : Option Counted) → IsUsable t →
    list_all (touches_only t o) cs ≡ true → ((k : Counted) → k.service % SLOTS ≡ slot → o ≡ Some k.service → ⊥) →
    IfSome p (IsKept t slot) → IfSome p (IsKept (apply_changes t cs) slot)
goes-on t o cs slot None usable all apart kept = tt
goes-on t o cs slot (Some k) usable all apart kept =
    record { counted = untouched t k o cs usable kept.counted all (apart k kept.stands); stands = kept.stands }

-- where no service is touched
pub none-touched : (t : Tables) (known : KnownPlaces) (r : Reach) (cs : List Change) → IsUsable t → r ≡ reach.Nothing →
    reach_only (touches_only t) r cs ≡ true → Knows t known → Knows (apply_changes t cs) known
none-touched t known r cs usable is all knows = record {
  each = λ slot lt.
      goes-on t None cs slot (get_or known.counted slot None) usable
      (subst (λ p. reach_only (touches_only t) p cs ≡ true) is all) (λ k _ e. none k e) (knows.each slot lt);
}
  where
    none : (k : Counted) → None ≡ Some k.service → ⊥
    none k e = absurd cc

-- nothing is remembered
pub none-known : (t : Tables) → Knows t (record { counted = replicate SLOTS None })
none-known t = record {
  each = λ slot lt. subst (λ o. IfSome o (IsKept t slot)) (sym (get_or-replicate SLOTS slot none none lt)) tt;
}
  where
    none : Option Counted
    none = None

-- one slot is put anew, and the others go on
put-slot : (t : Tables) (known : KnownPlaces) (slot : ℕ) (p : Option Counted) → slot < SLOTS →
    length known.counted ≡ SLOTS →
    ((j : ℕ) → j < SLOTS → j ≢ slot → IfSome (get_or known.counted j None) (IsKept t j)) → IfSome p (IsKept t slot) →
    Knows t (record { counted = set known.counted slot p })
put-slot t known slot p within wide others kept = record { each = λ j lt. go j lt (eqb j slot) refl }
  where
    go : (j : ℕ) → j < SLOTS → (b : Bool) → eqb j slot ≡ b →
        IfSome (get_or (set known.counted slot p) j None) (IsKept t j)
    go j lt true e =
        let same : slot ≡ j = grind (arith, nat_tests, e) in
        subst (λ n. IfSome (get_or (set known.counted slot p) n None) (IsKept t n)) same
        (subst (λ q. IfSome q (IsKept t slot)) (sym (get_or-set_same known.counted slot p None (omega (arith, within, wide)))) kept)
    go j lt false e =
        let differ : j ≢ slot = grind (arith, nat_tests, e) in
        subst (λ q. IfSome q (IsKept t j)) (sym (get_or-set_other known.counted slot j p None differ)) (others j lt differ)

-- what is so of a service is put into its slot
pub slot-filled : (t : Tables) (known : KnownPlaces) (slot : ℕ) (k : Counted) → slot ≡ k.service % SLOTS →
    length known.counted ≡ SLOTS → Knows t known → IsCounted t k →
    Knows t (record { counted = set known.counted slot (Some k) })
slot-filled t known slot k is wide knows counted =
    put-slot t known slot (Some k) (within k.service slot is) wide (λ j lt differ. knows.each j lt)
    (record { counted = counted; stands = sym is })

-- where one service is touched, and its slot is emptied
pub one-touched : (t : Tables) (known : KnownPlaces) (service slot : ℕ) (cs : List Change) → IsUsable t →
    slot ≡ service % SLOTS → length known.counted ≡ SLOTS → list_all (touches_only t (Some service)) cs ≡ true →
    Knows t known → Knows (apply_changes t cs) (record { counted = set known.counted slot None })
one-touched t known service slot cs usable is wide all knows =
    put-slot (apply_changes t cs) known slot None (within service slot is) wide
    (λ j lt differ.
    goes-on t (Some service) cs j (get_or known.counted j None) usable all (apart j differ) (knows.each j lt)) tt
  where
    apart : (j : ℕ) → j ≢ slot → (k : Counted) → k.service % SLOTS ≡ j → Some service ≡ Some k.service → ⊥
    apart j differ k at same =
        let one : service ≡ k.service = cc in differ (sym at ∙ ap (λ n. n % SLOTS) (sym one) ∙ sym is)

-- What is remembered of one service.

of-counted : (t : Tables) (slot id : ℕ) (o : Option Counted) → IfSome o (IsKept t slot) →
    IfSome (of_service id o) (IsCounted t)
of-counted t slot id None kept = tt
of-counted t slot id (Some k) kept = go (eqb k.service id)
  where
    go : (b : Bool) → IfSome (cond b (Some k) None) (IsCounted t)
    go true = kept.counted
    go false = tt

of-same : (id : ℕ) (o : Option Counted) → IfSome (of_service id o) (λ k. k.service ≡ id)
of-same id None = tt
of-same id (Some k) = go (eqb k.service id) refl
  where
    go : (b : Bool) → eqb k.service id ≡ b → IfSome (cond b (Some k) None) (λ k. k.service ≡ id)
    go true is = same_number k.service id is
    go false is = tt

entry-counted : (t : Tables) (known : KnownPlaces) (id : ℕ) → Knows t known → IfSome (entry known id) (IsCounted t)
entry-counted t known id knows =
    of-counted t (id % SLOTS) id (get_or known.counted (id % SLOTS) None)
    (knows.each (id % SLOTS) (within id (id % SLOTS) refl))

pub found-counted : (t : Tables) (known : KnownPlaces) (id : ℕ) (k : Counted) → Some k ≡ entry known id →
    Knows t known → IsCounted t k
found-counted t known id k is knows = subst (λ o. IfSome o (IsCounted t)) (sym is) (entry-counted t known id knows)

pub found-same : (known : KnownPlaces) (id : ℕ) (k : Counted) → Some k ≡ entry known id → k.service ≡ id
found-same known id k is =
    subst (λ o. IfSome o (λ k. k.service ≡ id)) (sym is) (of-same id (get_or known.counted (id % SLOTS) None))

pub recalled-same : (known : KnownPlaces) (id : ℕ) (o : Option Counted) → o ≡ entry known id →
    IfSome o (λ k. k.service ≡ id)
recalled-same known id o is =
    subst (λ p. IfSome p (λ k. k.service ≡ id)) (sym is) (of-same id (get_or known.counted (id % SLOTS) None))

pub recalled : (t : Tables) (known : KnownPlaces) (s : Service) (o : Option Counted) → o ≡ entry known s.id →
    Knows t known → row_at service_id s.id t.services ≡ Some s → IfSome o (λ k. AreCounted k (held_places t s))
recalled t known s None is knows at = tt
recalled t known s (Some k) is knows at =
    (found-counted t known s.id k is knows).each s
    (subst (λ n. row_at service_id n t.services ≡ Some s) (sym (found-same known s.id k is)) at)

-- where nothing is remembered of the one that is touched
pub other-touched : (t : Tables) (known : KnownPlaces) (service : ℕ) (cs : List Change) → IsUsable t →
    entry known service ≡ None → list_all (touches_only t (Some service)) cs ≡ true → Knows t known →
    Knows (apply_changes t cs) known
other-touched t known service cs usable none all knows = record {
  each = λ j lt. go j (get_or known.counted j None) refl (knows.each j lt);
}
  where
    apart : (j : ℕ) (k : Counted) → get_or known.counted j None ≡ Some k → k.service % SLOTS ≡ j →
        Some service ≡ Some k.service → ⊥
    apart j k at stands same =
        let one : service ≡ k.service = cc in
        let slot : service % SLOTS ≡ j = ap (λ n. n % SLOTS) one ∙ stands in
        let there : entry known service ≡ Some k =
        ap (λ n. of_service service (get_or known.counted n None)) slot ∙ ap (of_service service) at
        ∙ ap (λ b. cond b (Some k) None) (number_equal k.service service (sym one)) in
        differ (sym none ∙ there)
      where
        differ : None ≡ Some k → ⊥
        differ e = absurd cc

    go : (j : ℕ) (o : Option Counted) → get_or known.counted j None ≡ o → IfSome o (IsKept t j) →
        IfSome o (IsKept (apply_changes t cs) j)
    go j None at kept = tt
    go j (Some k) at kept = record {
      counted = untouched t k (Some service) cs usable kept.counted all (apart j k at kept.stands);
      stands = kept.stands;
    }

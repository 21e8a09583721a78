-- What is remembered of a service's places, after changes that spare all of them, or all but one.
use Rattle.std.proofs.Common.{Bool, List, None, Option, Some, ap, arith, eqb, false, refl, subst, sym, true, ℕ, ◌∙◌, ◌≡◌}
use Rattle.std.proofs.lemmas.Bool.Decides.{nat_tests}
use Rattle.std.specs.List.{list_all}
use Rattle.std.specs.Prelude.{IfSome, not, ◌&&◌, ◌||◌}
use Rattle.role_words.proofs.Numbers.{number_equal}
use Rattle.swarm_objects.proofs.RowLemmas.{Has-from_row_at, row_at-Some}
use Rattle.swarm_objects.proofs.Tests.{of-all}
use Rattle.swarm_objects.specs.ChangeLists.{apply_changes}
use Rattle.swarm_objects.specs.Rows.{Has, IsRising, itself, row_at, service_id, with_number}
use Rattle.swarm_objects.specs.Tasks.Places.{held_places, is_held_place}
use Rattle.swarm_objects.specs.Usable.{IsUsable}
use Rattle.swarm_objects.specs.World.{Tables}
use Rattle.swarm_objects.specs.declared.rows.Change.TheVariants as change
use Rattle.swarm_objects.specs.declared.rows.Change.{Change}
use Rattle.swarm_objects.specs.declared.services.Mode.TheVariants as mode
use Rattle.swarm_objects.specs.declared.services.Mode.{Mode}
use Rattle.swarm_objects.specs.declared.services.Service.{Service}
use Rattle.swarm_replicated.proofs.Leaving.{each-row}
use Rattle.swarm_replicated.proofs.Remembering.{held-not, held-rise, more-places, same-places}
use Rattle.swarm_replicated.proofs.PlaceSteps.{held-spared}
use Rattle.swarm_replicated.specs.Inside.PlaceChanges.{is_replicated, keeps_places, spares}
use Rattle.swarm_replicated.specs.Inside.Reach.{reach_only}
use Rattle.swarm_replicated.specs.KnownPlaces.{AreCounted, IsCounted}
use Rattle.swarm_replicated.specs.declared.known_places.Counted.{Counted}
use Rattle.swarm_replicated.specs.declared.reach.Reach.TheVariants as reach
use Rattle.swarm_replicated.specs.declared.reach.Reach.{Reach}

one-service : (s v : Service) (o : Option Service) → o ≡ Some s → o ≡ Some v → s ≡ v
one-service s v o e f = let both : Some s ≡ Some v = sym e ∙ f in cc

-- whatever tasks there are, both hold the same places
abbrev AreAlike : Service → Service → Type 0
AreAlike s v = (u : Tables) → held_places u v ≡ held_places u s

keeps-held : (s v : Service) → v.id ≡ s.id → keeps_places s v ≡ true → AreAlike s v
keeps-held s v same e u = go s.spec.mode v.spec.mode refl refl e
  where
    go : (m n : Mode) → s.spec.mode ≡ m → v.spec.mode ≡ n → is_replicated m && is_replicated n ≡ true →
        held_places u v ≡ held_places u s
    go (mode.Replicated a) (mode.Replicated b) of_s of_v e =
        ap (λ m. held_places u (record v { spec = record v.spec { mode = m } })) of_v
        ∙ ap (λ id. held_places u (record v { id = id; spec = record v.spec { mode = mode.Replicated b } })) same
        ∙ sym (ap (λ m. held_places u (record s { spec = record s.spec { mode = m } })) of_s)
    go (mode.Replicated a) mode.Global of_s of_v e = absurd cc
    go (mode.Replicated a) (mode.Job b c) of_s of_v e = absurd cc
    go mode.Global n of_s of_v e = absurd cc
    go (mode.Job a b) n of_s of_v e = absurd cc

or-same : (a b : Bool) → not a || b ≡ true → a ≡ true → b ≡ true
or-same true b e f = e
or-same false b e f = absurd cc

-- the service has the same places as before, whatever row it has now
on-service : (t : Tables) (s : Service) (k r : Counted) (o : Option ℕ) (cs : List Change) → IsUsable t →
    row_at service_id k.service t.services ≡ Some s → list_all (spares t s o) cs ≡ true → r.service ≡ k.service →
    AreCounted r (held_places (apply_changes t cs) s) → IsCounted (apply_changes t cs) r
on-service t s k r o cs usable at all same counted = record {
  each = λ v e.
      let row = Has-from_row_at service_id r.service (apply_changes t cs).services v e in
      subst (AreCounted r)
      (sym (each-row (AreAlike s) k.service cs t put was v row.0 (row.1 ∙ same) (apply_changes t cs))) counted;
}
  where
    its : s.id ≡ k.service
    its = (Has-from_row_at service_id k.service t.services s at).1

    put : (c : Change) → Has cs c → (v : Service) → c ≡ change.PutService v → v.id ≡ k.service → AreAlike s v
    put c h v is id =
        keeps-held s v (id ∙ sym its)
        (or-same (eqb v.id s.id) (keeps_places s v)
        (subst (λ d. spares t s o d ≡ true) is (of-all (spares t s o) cs c all h))
        (number_equal v.id s.id (id ∙ sym its)))

    was : (v : Service) → Has t.services v → v.id ≡ k.service → AreAlike s v
    was v h id u =
        ap (held_places u)
        (one-service v s (row_at service_id k.service t.services)
        (subst (λ n. row_at service_id n t.services ≡ Some v) id
        (row_at-Some service_id 0 t.services v usable.sound.ordered.services h)) at)

-- no place is another one
pub all-spared : (t : Tables) (s : Service) (k : Counted) (cs : List Change) → IsUsable t → IsCounted t k →
    row_at service_id k.service t.services ≡ Some s → list_all (spares t s None) cs ≡ true →
    IsCounted (apply_changes t cs) k
all-spared t s k cs usable counted at all =
    on-service t s k k None cs usable at all refl
    (subst (AreCounted k)
    (sym (same-places t (apply_changes t cs) s (λ j. held-spared t s None cs j usable all none)))
    (counted.each s at))
  where
    none : {j : ℕ} → None ≡ Some j → ⊥
    none e = absurd cc

pub none-other : (t : Tables) (s : Service) (k : Counted) (r : Reach) (cs : List Change) → IsUsable t → IsCounted t k →
    row_at service_id k.service t.services ≡ Some s → r ≡ reach.Nothing → reach_only (spares t s) r cs ≡ true →
    IsCounted (apply_changes t cs) k
none-other t s k r cs usable counted at is all =
    all-spared t s k cs usable counted at (subst (λ p. reach_only (spares t s) p cs ≡ true) is all)

elsewhere : (t : Tables) (s : Service) (number : ℕ) (cs : List Change) → IsUsable t →
    list_all (spares t s (Some number)) cs ≡ true → (j : ℕ) → (number ≡ j → ⊥) →
    is_held_place (apply_changes t cs) s j ≡ is_held_place t s j
elsewhere t s number cs usable all j apart = held-spared t s (Some number) cs j usable all (λ e. apart (let same : number ≡ j = cc in same))

-- the place is held as before
pub place-same : (t : Tables) (s : Service) (k : Counted) (number : ℕ) (cs : List Change) (b : Bool) → IsUsable t →
    IsCounted t k → row_at service_id k.service t.services ≡ Some s → list_all (spares t s (Some number)) cs ≡ true →
    is_held_place t s number ≡ b → is_held_place (apply_changes t cs) s number ≡ b → IsCounted (apply_changes t cs) k
place-same t s k number cs b usable counted at all was is =
    on-service t s k k (Some number) cs usable at all refl
    (subst (AreCounted k) (sym (same-places t (apply_changes t cs) s (λ j. same j (eqb number j) refl))) (counted.each s at))
  where
    same : (j : ℕ) (c : Bool) → eqb number j ≡ c → is_held_place (apply_changes t cs) s j ≡ is_held_place t s j
    same j true e =
        let here : number ≡ j = grind (arith, nat_tests, e) in
        subst (λ n. is_held_place (apply_changes t cs) s n ≡ is_held_place t s n) here (is ∙ sym was)
    same j false e = elsewhere t s number cs usable all j differs
      where
        differs : number ≡ j → ⊥
        differs here = grind (arith, nat_tests, e, here)

-- it is held now
pub place-more : (t : Tables) (s : Service) (k : Counted) (o : Option Counted) (number : ℕ) (cs : List Change) → IsUsable t →
    row_at service_id k.service t.services ≡ Some s → list_all (spares t s (Some number)) cs ≡ true →
    is_held_place (apply_changes t cs) s number ≡ true → IfSome o (λ r. r.service ≡ k.service) →
    IfSome o (λ r. AreCounted r (with_number number (held_places t s))) → IfSome o (IsCounted (apply_changes t cs))
place-more t s k None number cs usable at all is same counted = tt
place-more t s k (Some r) number cs usable at all is same counted =
    on-service t s k r (Some number) cs usable at all same
    (subst (AreCounted r) (sym (more-places t (apply_changes t cs) s number is (elsewhere t s number cs usable all))) counted)

-- it isn't held any more
pub place-less : (t : Tables) (s : Service) (k : Counted) (o : Option Counted) (number : ℕ) (cs : List Change) → IsUsable t →
    IsCounted t k → row_at service_id k.service t.services ≡ Some s → list_all (spares t s (Some number)) cs ≡ true →
    is_held_place t s number ≡ true → is_held_place (apply_changes t cs) s number ≡ false →
    IfSome o (λ r. r.service ≡ k.service) →
    ((left : List ℕ) → IsRising itself left → (Has left number → ⊥) → AreCounted k (with_number number left) →
    IfSome o (λ r. AreCounted r left)) → IfSome o (IsCounted (apply_changes t cs))
place-less t s k o number cs usable counted at all was is same less =
    go o same
    (less (held_places (apply_changes t cs) s) (held-rise (apply_changes t cs) s) (held-not (apply_changes t cs) s number is)
    (subst (AreCounted k)
    (more-places (apply_changes t cs) t s number was (λ j apart. sym (elsewhere t s number cs usable all j apart)))
    (counted.each s at)))
  where
    go : (o : Option Counted) → IfSome o (λ r. r.service ≡ k.service) →
        IfSome o (λ r. AreCounted r (held_places (apply_changes t cs) s)) → IfSome o (IsCounted (apply_changes t cs))
    go None same counted = tt
    go (Some r) same counted = on-service t s k r (Some number) cs usable at all same counted

-- A replicated service has as many held places as replicas.
use Rattle.std.proofs.Common.{List, None, Option, Some, ap, arith, false, length, refl, true, ℕ, ◌<◌, ◌≡◌}
use Rattle.std.proofs.lemmas.Bool.Decides.{nat_tests}
use Rattle.std.specs.Prelude.{nat_lt}
use Rattle.swarm_settle.proofs.Rest.{least-none, no-duty}
use Rattle.swarm_settle.specs.Rest.{IsAtRest}
use Rattle.swarm_objects.proofs.Tests.{false_from_ne_true}
use Rattle.swarm_objects.specs.Loops.Replicated.{down_cmp, first_to_go}
use Rattle.swarm_objects.specs.Rows.{Has, first_gap}
use Rattle.swarm_objects.specs.Tasks.Places.{held_places}
use Rattle.swarm_objects.specs.World.{World}
use Rattle.swarm_objects.specs.declared.duties.Duty.TheVariants as duty
use Rattle.swarm_objects.specs.declared.services.Mode.TheVariants as mode
use Rattle.swarm_objects.specs.declared.services.Service.{Service}

-- a replicated service has as many held places as replicas
abbrev pub HasReplicas : World → Type 0
HasReplicas w =
    (s : Service) (n : ℕ) → Has w.tables.services s → s.spec.mode ≡ mode.Replicated n →
    length (held_places w.tables s) ≡ n

none-more : (w : World) → IsAtRest w → (s : Service) (n : ℕ) → Has w.tables.services s →
    s.spec.mode ≡ mode.Replicated n → nat_lt n (length (held_places w.tables s)) ≡ false
none-more w rest s n h e =
    false_from_ne_true (nat_lt n (length (held_places w.tables s))) (λ more. go more (first_to_go w.tables s) refl)
  where
    go : nat_lt n (length (held_places w.tables s)) ≡ true → (o : Option ℕ) → first_to_go w.tables s ≡ o → ⊥
    go more (Some k) first =
        no-duty w rest (duty.Down s.id k) (record { row = s; there = h; id_is = refl; fact = (n, e, more, first) })
    go more None first =
        let none : length (held_places w.tables s) ≡ 0 =
        ap (λ (ks : List ℕ). length ks) (least-none (down_cmp w.tables s) (held_places w.tables s) first) in
        let some : n < length (held_places w.tables s) = grind (arith, nat_tests, more) in
        omega (arith, none, some)

none-fewer : (w : World) → IsAtRest w → (s : Service) (n : ℕ) → Has w.tables.services s →
    s.spec.mode ≡ mode.Replicated n → nat_lt (length (held_places w.tables s)) n ≡ false
none-fewer w rest s n h e =
    false_from_ne_true (nat_lt (length (held_places w.tables s)) n)
    (λ fewer.
    no-duty w rest (duty.ReplicatedCreate s.id (first_gap 1 (held_places w.tables s)))
    (record { row = s; there = h; id_is = refl; fact = (n, e, fewer, refl) }))

pub has-replicas : (w : World) → IsAtRest w → HasReplicas w
has-replicas w rest s n h e =
    let most = none-more w rest s n h e in
    let least = none-fewer w rest s n h e in
    grind (arith, nat_tests, most, least)

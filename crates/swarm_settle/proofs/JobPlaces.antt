-- A job has as many held places as its total, or as many with a live task as may run at once, and no more of either.
use Rattle.std.proofs.Common.{Bool, List, Some, arith, false, length, refl, subst, sym, true, ℕ, ◌≡◌, ◌≤◌}
use Rattle.std.proofs.lemmas.Bool.Decides.{nat_tests}
use Rattle.std.specs.Prelude.{nat_le, nat_lt, ⊤, ◌&&◌, ◌==◌, ◌||◌}
use Rattle.swarm_settle.proofs.Known.{Known}
use Rattle.swarm_settle.proofs.Lawful.{Lawful}
use Rattle.swarm_settle.proofs.Rest.{no-duty}
use Rattle.swarm_settle.proofs.ShapeDuties.{found}
use Rattle.swarm_settle.proofs.ShapeWords.{held-places-blank, live-places-blank}
use Rattle.swarm_settle.proofs.Shapes.{Closings, bare, shape}
use Rattle.swarm_settle.proofs.Wholes.{number-is}
use Rattle.swarm_model.specs.Laws.Matches.{matches_mode}
use Rattle.swarm_settle.specs.Rest.{IsAtRest}
use Rattle.swarm_objects.proofs.RowLemmas.{Has-map}
use Rattle.swarm_objects.proofs.Tests.{any-has, both, false_from_ne_true, first_so, or_left, or_right, second_so, some-and}
use Rattle.swarm_objects.specs.Loops.Jobs.{has_old, is_old_of}
use Rattle.swarm_objects.specs.Rows.{Has, first_gap, row_at, service_id}
use Rattle.swarm_objects.specs.Tasks.Places.{held_places, live_places}
use Rattle.swarm_objects.specs.Tasks.Words.{is_of}
use Rattle.swarm_objects.specs.World.{World}
use Rattle.swarm_objects.specs.declared.duties.Duty.TheVariants as duty
use Rattle.swarm_objects.specs.declared.services.Mode.TheVariants as mode
use Rattle.swarm_objects.specs.declared.services.Service.{Service}

-- a job has at most its total of held places and at most as many live ones as may run at once; one of these is reached
abbrev pub HasJobPlaces : World → Type 0
HasJobPlaces w =
    (s : Service) (concurrent total : ℕ) → Has w.tables.services s → s.spec.mode ≡ mode.Job concurrent total →
    matches_mode w.tables s (mode.Job concurrent total) ≡ true

-- the service is found by its number
pub service-found : (w : World) → Known w → (s : Service) (k : ℕ) → Has w.tables.services s → s.id ≡ k →
    row_at service_id k w.tables.services ≡ Some s
service-found w known s k h e =
    found service_id w.tables.next_id k w.tables.services (λ v. ⊤) known.orderly.services
    (record { row = s; there = h; id_is = e; fact = tt })

none-old : (w : World) → Known w → IsAtRest w → (s : Service) → Has w.tables.services s → has_old w.tables s ≡ false
none-old w known rest s h =
    false_from_ne_true (has_old w.tables s)
    (λ some.
    let one = any-has (λ x. is_of s.id x && is_old_of x s) w.tables.tasks some in
    let x = one.0 in
    let of = number-is x.service s.id (first_so (is_of s.id x) (is_old_of x s) one.2) in
    no-duty w rest (duty.Old x.id)
    (record {
      row = x;
      there = one.1;
      id_is = refl;
      fact = some-and (is_old_of x) (row_at service_id x.service w.tables.services) s
          (service-found w known s x.service h (sym of)) (second_so (is_of s.id x) (is_old_of x s) one.2);
    }))

-- one of the two numbers is reached
one-reached : (w : World) → Known w → IsAtRest w → (s : Service) (c n : ℕ) → Has w.tables.services s →
    s.spec.mode ≡ mode.Job c n →
    (nat_lt (length (live_places w.tables s)) c && nat_lt (length (held_places w.tables s)) n) ≡ false
one-reached w known rest s c n h e =
    false_from_ne_true _
    (λ fewer.
    no-duty w rest (duty.JobCreate s.id (first_gap 0 (held_places w.tables s)))
    (record {
      row = s;
      there = h;
      id_is = refl;
      fact = (
        c,
        n,
        e,
        first_so (nat_lt (length (live_places w.tables s)) c) _ fewer,
        second_so _ (nat_lt (length (held_places w.tables s)) n) fewer,
        none-old w known rest s h,
        refl,
      );
    }))

pub has-job-places : (w : World) (c : Closings) → Known w → Lawful w.entries w.entries c (shape w.tables) → IsAtRest w →
    HasJobPlaces w
has-job-places w closings known lawful rest s c n h e =
    both (nat_le held n && nat_le live c) (held == n || live == c)
    (both (nat_le held n) (nat_le live c) (grind (arith, nat_tests, most)) (grind (arith, nat_tests, at_once)))
    (reached (nat_lt live c) refl (nat_lt held n) refl (one-reached w known rest s c n h e))
  where
    held : ℕ
    held = length (held_places w.tables s)

    live : ℕ
    live = length (live_places w.tables s)

    bounds : (length (held_places (shape w.tables) (bare s)) ≤ n) × (length (live_places (shape w.tables) (bare s)) ≤ c)
    bounds = lawful.bounds (bare s) (Has-map bare w.tables.services s h) c n e

    most : held ≤ n
    most = subst (λ (ks : List ℕ). length ks ≤ n) (held-places-blank w.tables s) bounds.0

    at_once : live ≤ c
    at_once = subst (λ (ks : List ℕ). length ks ≤ c) (live-places-blank w.tables s) bounds.1

    reached : (a : Bool) → nat_lt live c ≡ a → (b : Bool) → nat_lt held n ≡ b → (a && b) ≡ false →
        (held == n || live == c) ≡ true
    reached true p true q k = absurd cc
    reached true p false q k =
        or_left (held == n) (live == c) (let is : held ≡ n = (let up : n ≤ held = grind (arith, nat_tests, q) in
        omega (arith, up, most)) in grind (arith, nat_tests, is))
    reached false p b q k =
        or_right (held == n) (live == c) (let is : live ≡ c = (let up : c ≤ live = grind (arith, nat_tests, p) in
        omega (arith, up, at_once)) in grind (arith, nat_tests, is))

-- No live task has ended, in a world at rest.
use Rattle.std.proofs.Common.{Bool, Option, ap, false, not, refl, subst, sym, true, ℕ, ◌∙◌, ◌≡◌}
use Rattle.std.specs.Prelude.{◌&&◌, ◌||◌}
use Rattle.swarm_settle.proofs.Held.{task-number}
use Rattle.swarm_settle.proofs.Known.{Known}
use Rattle.swarm_settle.proofs.NothingElse.{LivesIn, live-in}
use Rattle.swarm_settle.proofs.Rest.{no-duty}
use Rattle.swarm_settle.specs.Rest.{IsAtRest}
use Rattle.swarm_objects.proofs.Tests.{both, false_from_ne_true, first_so, not_from_false, some-and, some-and-cases}
use Rattle.swarm_objects.specs.Loops.Global.{may_stay}
use Rattle.swarm_objects.specs.Loops.Restart.{is_current, is_over}
use Rattle.swarm_objects.specs.Nodes.Words.{is_astray, is_homed, is_valid, is_valid_node}
use Rattle.swarm_objects.specs.Rows.{Has, is_row_and, is_some_and, node_id, row_at, service_id}
use Rattle.swarm_objects.specs.Tasks.Places.{counts_for, is_held, is_held_place, place_at, place_number, place_numbers}
use Rattle.swarm_objects.specs.Tasks.Words.{has_ended, is_live}
use Rattle.swarm_objects.specs.World.{World}
use Rattle.swarm_objects.specs.declared.duties.Duty.TheVariants as duty
use Rattle.swarm_objects.specs.declared.services.Mode.TheVariants as mode
use Rattle.swarm_objects.specs.declared.services.Mode.{Mode}
use Rattle.swarm_objects.specs.declared.services.Service.{Service}
use Rattle.swarm_objects.specs.declared.tasks.Place.TheVariants.{On, Slot}
use Rattle.swarm_objects.specs.declared.tasks.Place.{Place}
use Rattle.swarm_objects.specs.declared.tasks.Task.{Task}

pub on-global : (m : Mode) (j k : ℕ) → On k ≡ place_at m j → (m ≡ mode.Global) × (j ≡ k)
on-global (mode.Replicated n) j k e = absurd cc
on-global mode.Global j k e = let same : k ≡ j = cc in (refl, sym same)
on-global (mode.Job c n) j k e = absurd cc

-- nothing is to be restarted
pub no-restart : (w : World) → IsAtRest w → (x : Task) → Has w.tables.tasks x → is_live x ≡ true →
    is_current w.tables x ≡ true → is_over w.tables x x.place ≡ false
no-restart w rest x h live current =
    false_from_ne_true (is_over w.tables x x.place)
    (λ over.
    no-duty w rest (duty.Restart x.id)
    (record {
      row = x;
      there = h;
      id_is = refl;
      fact = both (is_live x && is_over w.tables x x.place) (is_current w.tables x)
          (both (is_live x) (is_over w.tables x x.place) live over) current;
    }))

-- the node of a place that is held is valid, and meets the constraints
pub may-stay : (w : World) → Known w → IsAtRest w → (x : Task) (s : Service) (k : ℕ) → Has w.tables.tasks x →
    LivesIn w x s → x.place ≡ On k → is_row_and node_id (may_stay s) w.tables.nodes k ≡ true
may-stay w known rest x s k h lives at = go (is_row_and node_id (may_stay s) w.tables.nodes k) refl
  where
    kind : (s.spec.mode ≡ mode.Global) × (place_number x.place ≡ k)
    kind =
        let place = (known.of.of x s h lives.there lives.of).place in
        ((on-global s.spec.mode place.0 k (sym at ∙ place.1)).0, ap place_number at)

    held : is_held_place w.tables s k ≡ true
    held =
        ap (λ (m : Mode). is_held s (place_at m k) w.tables.tasks) kind.0
        ∙ ap (λ (p : Place). is_held s p w.tables.tasks) (sym at) ∙ lives.held

    go : (b : Bool) → is_row_and node_id (may_stay s) w.tables.nodes k ≡ b →
        is_row_and node_id (may_stay s) w.tables.nodes k ≡ true
    go true e = e
    go false e =
        absurd (no-duty w rest (duty.Leave s.id k)
        (record {
          row = s;
          there = lives.there;
          id_is = refl;
          fact = (
            kind.0,
            (
              subst (Has (place_numbers w.tables s)) kind.1 (task-number w.tables s x h lives.counts),
              both (is_held_place w.tables s k) (not (is_row_and node_id (may_stay s) w.tables.nodes k)) held
                  (not_from_false (is_row_and node_id (may_stay s) w.tables.nodes k) e),
            ),
          );
        }))

valid-of : (w : World) (s : Service) (k : ℕ) → is_row_and node_id (may_stay s) w.tables.nodes k ≡ true →
    is_valid w.tables k ≡ true
valid-of w s k e =
    let at = some-and-cases (may_stay s) (row_at node_id k w.tables.nodes) e in
    some-and is_valid_node (row_at node_id k w.tables.nodes) at.0 at.1 (first_so (is_valid_node at.0) _ at.2)

pub never-ended : (w : World) → Known w → IsAtRest w → (x : Task) → Has w.tables.tasks x → is_live x ≡ true →
    has_ended x ≡ false
never-ended w known rest x h live = by_place x.place refl
  where
    lives : (s : Service) × LivesIn w x s
    lives = live-in w x known rest h live

    current : is_current w.tables x ≡ true
    current =
        some-and (λ s. counts_for s x) (row_at service_id x.service w.tables.services) lives.0 lives.1.found
        lives.1.counts

    left : (a b : Bool) → (a || b) ≡ false → a ≡ false
    left true b e = absurd cc
    left false b e = refl

    not_both : (a b : Bool) → b ≡ true → (a && b) ≡ false → a ≡ false
    not_both true true e f = absurd cc
    not_both true false e f = absurd cc
    not_both false b e f = refl

    by_place : (p : Place) → x.place ≡ p → has_ended x ≡ false
    by_place (Slot k) e =
        left (has_ended x) (is_astray w.tables x)
        (ap (λ (p : Place). is_over w.tables x p) (sym e) ∙ no-restart w rest x h live current)
    by_place (On k) e =
        let valid = valid-of w lives.0 k (may-stay w known rest x lives.0 k h lives.1 e) in
        let homed : is_homed w.tables x ≡ true =
        ap (λ (o : Option ℕ). is_some_and (is_valid w.tables) o) ((known.home x h).bound k e) ∙ valid in
        not_both (has_ended x) (is_homed w.tables x) homed
        (ap (λ (p : Place). is_over w.tables x p) (sym e) ∙ no-restart w rest x h live current)

-- The places of every service are as its mode wants them.
use Rattle.std.proofs.Common.{Bool, ap, arith, false, not, refl, true, ℕ, ◌∙◌, ◌≡◌}
use Rattle.std.proofs.lemmas.Bool.Decides.{nat_tests}
use Rattle.std.specs.List.{list_all}
use Rattle.std.specs.Prelude.{◌&&◌, ◌||◌}
use Rattle.swarm_settle.proofs.Held.{held-member}
use Rattle.swarm_settle.proofs.JobPlaces.{has-job-places}
use Rattle.swarm_settle.proofs.Known.{Known, known-replay}
use Rattle.swarm_settle.proofs.KnownCalls.{known-nodes-replay}
use Rattle.swarm_settle.proofs.KnownNodes.{KnownNodes, is_known}
use Rattle.swarm_settle.proofs.Lawful.{Lawful, lawful-replay}
use Rattle.swarm_settle.proofs.PlaceLists.{place-is}
use Rattle.swarm_settle.proofs.Replicas.{has-replicas}
use Rattle.swarm_settle.proofs.Rest.{no-duty}
use Rattle.swarm_settle.proofs.Shapes.{Closings, shape}
use Rattle.swarm_settle.specs.Laws.{HasPlaces, PlacesLaw}
use Rattle.swarm_settle.specs.Rest.{IsAtRest}
use Rattle.swarm_model.specs.Closing.{closing}
use Rattle.swarm_model.specs.History.{replay}
use Rattle.swarm_model.specs.Laws.Matches.{has_right_node, matches_mode, matches_nodes, may_keep}
use Rattle.swarm_objects.proofs.RowLemmas.{Has-filter_cases, Has-from_row_at}
use Rattle.swarm_objects.proofs.Tests.{all-pass, both, first_so, never-both, not-true, not_from_false, or_left, or_right, second_so, some-and, some-and-cases, true_from_ne_false}
use Rattle.swarm_objects.specs.Loops.Global.{may_stay, wants_here}
use Rattle.swarm_objects.specs.Nodes.Words.{is_active, is_down, is_drain, is_pause, is_ready, is_valid_node, meets_all}
use Rattle.swarm_objects.specs.Rows.{Has, is_row_and, node_id, row_at}
use Rattle.swarm_objects.specs.Tasks.Places.{held_places, is_held_place, is_in_place, place_at, place_numbers, place_tasks}
use Rattle.swarm_objects.specs.World.{World}
use Rattle.swarm_objects.specs.declared.duties.Duty.TheVariants as duty
use Rattle.swarm_objects.specs.declared.nodes.Availability.TheVariants as availability
use Rattle.swarm_objects.specs.declared.nodes.Availability.{Availability}
use Rattle.swarm_objects.specs.declared.nodes.Node.{Node}
use Rattle.swarm_objects.specs.declared.services.Mode.TheVariants as mode
use Rattle.swarm_objects.specs.declared.services.Mode.{Mode}
use Rattle.swarm_objects.specs.declared.services.Service.{Service}
use Rattle.swarm_objects.specs.declared.tasks.Place.TheVariants.{On}

-- every node that is to have a task has its place held
each-held : (w : World) → IsAtRest w → (s : Service) → Has w.tables.services s → s.spec.mode ≡ mode.Global →
    (n : Node) → Has w.tables.nodes n → (not (wants_here s n) || is_held_place w.tables s n.id) ≡ true
each-held w rest s h e n there = go (wants_here s n) refl (is_held_place w.tables s n.id) refl
  where
    go : (a : Bool) → wants_here s n ≡ a → (b : Bool) → is_held_place w.tables s n.id ≡ b → (not a || b) ≡ true
    go false p b q = refl
    go true p true q = refl
    go true p false q =
        absurd (no-duty w rest (duty.GlobalCreate s.id n.id)
        (record {
          row = s;
          there = h;
          id_is = refl;
          fact = (
            e,
            record {
              row = n;
              there = there;
              id_is = refl;
              fact = both (wants_here s n) (not (is_held_place w.tables s n.id)) p
                  (not_from_false (is_held_place w.tables s n.id) q);
            },
          );
        }))

-- the node of a held place is valid and meets the constraints
stays-there : (w : World) → IsAtRest w → (s : Service) (k : ℕ) → Has w.tables.services s → s.spec.mode ≡ mode.Global →
    Has (place_numbers w.tables s) k → is_held_place w.tables s k ≡ true →
    is_row_and node_id (may_stay s) w.tables.nodes k ≡ true
stays-there w rest s k h e number held =
    true_from_ne_false (is_row_and node_id (may_stay s) w.tables.nodes k)
    (λ off.
    no-duty w rest (duty.Leave s.id k)
    (record {
      row = s;
      there = h;
      id_is = refl;
      fact = (
        e,
        (
          number,
          both (is_held_place w.tables s k) (not (is_row_and node_id (may_stay s) w.tables.nodes k)) held
              (not_from_false (is_row_and node_id (may_stay s) w.tables.nodes k) off),
        ),
      );
    }))

-- READY, and neither DOWN nor on DRAIN
pub known-valid : (n : Node) → is_known n ≡ true → is_valid_node n ≡ true → is_ready n.state ≡ true
known-valid n known valid =
    go (is_ready n.state) (is_down n.state) known (not-true (is_down n.state) (first_so _ _ valid))
  where
    go : (a b : Bool) → (a || b) ≡ true → b ≡ false → a ≡ true
    go true b e f = refl
    go false true e f = absurd cc
    go false false e f = absurd cc

right-node : (s : Service) (n : Node) → is_ready n.state ≡ true → may_stay s n ≡ true →
    (wants_here s n || may_keep s n) ≡ true
right-node s n ready stays =
    go n.availability refl (not-true (is_drain n.availability) (second_so _ _ (first_so _ _ stays)))
  where
    meets : meets_all s.spec.template.constraints n ≡ true
    meets = second_so _ (meets_all s.spec.template.constraints n) stays

    go : (a : Availability) → n.availability ≡ a → is_drain n.availability ≡ false →
        (wants_here s n || may_keep s n) ≡ true
    go availability.Active e off =
        or_left (wants_here s n) (may_keep s n)
        (both (is_ready n.state && is_active n.availability) _ (both (is_ready n.state) (is_active n.availability) ready
        (ap is_active e)) meets)
    go availability.Pause e off =
        or_right (wants_here s n) (may_keep s n)
        (both (is_ready n.state && is_pause n.availability) _ (both (is_ready n.state) (is_pause n.availability) ready
        (ap is_pause e)) meets)
    go availability.Drain e off = never-both (is_drain n.availability) off (ap is_drain e)

right-place : (w : World) → Known w → KnownNodes w.tables → IsAtRest w → (s : Service) (k : ℕ) →
    Has w.tables.services s → s.spec.mode ≡ mode.Global → Has (held_places w.tables s) k →
    has_right_node w.tables s k ≡ true
right-place w known nodes rest s k h e held =
    let parts = Has-filter_cases (is_held_place w.tables s) (place_numbers w.tables s) k held in
    let stays = stays-there w rest s k h e parts.0 parts.1 in
    let at = some-and-cases (may_stay s) (row_at node_id k w.tables.nodes) stays in
    let n = at.0 in
    let row = Has-from_row_at node_id k w.tables.nodes n at.1 in
    let one = held-member (place_tasks w.tables s k) parts.1 in
    let inside = Has-filter_cases (is_in_place s (place_at s.spec.mode k)) w.tables.tasks one.0 one.1 in
    let place : one.0.place ≡ On k =
    place-is s (place_at s.spec.mode k) one.0 inside.1 ∙ ap (λ (m : Mode). place_at m k) e in
    let is_there = nodes one.0 k inside.0 ((known.home one.0 inside.0).bound k place) in
    let ready = known-valid n (is_there.known n row.0 row.1) (first_so (is_valid_node n) _ at.2) in
    some-and (λ m. wants_here s m || may_keep s m) (row_at node_id k w.tables.nodes) n at.1
    (right-node s n ready at.2)

global-nodes : (w : World) → Known w → KnownNodes w.tables → IsAtRest w → (s : Service) → Has w.tables.services s →
    s.spec.mode ≡ mode.Global → matches_nodes w.tables s ≡ true
global-nodes w known nodes rest s h e =
    both (list_all (λ n. not (wants_here s n) || is_held_place w.tables s n.id) w.tables.nodes)
    (list_all (has_right_node w.tables s) (held_places w.tables s))
    (all-pass (λ n. not (wants_here s n) || is_held_place w.tables s n.id) w.tables.nodes (each-held w rest s h e))
    (all-pass (has_right_node w.tables s) (held_places w.tables s)
    (λ k held. right-place w known nodes rest s k h e held))

pub has-places : (w : World) (c : Closings) → Known w → KnownNodes w.tables →
    Lawful w.entries w.entries c (shape w.tables) → IsAtRest w → HasPlaces w
has-places w c known nodes lawful rest s h = go s.spec.mode refl
  where
    go : (m : Mode) → s.spec.mode ≡ m → matches_mode w.tables s m ≡ true
    go (mode.Replicated n) e =
        let same = has-replicas w rest s n h e in grind (arith, nat_tests, same)
    go mode.Global e = global-nodes w known nodes rest s h e
    go (mode.Job concurrent total) e = has-job-places w c known lawful rest s concurrent total h e

pub places : PlacesLaw
places h legal rest =
    has-places (replay h) (closing h) (known-replay h legal) (known-nodes-replay h legal) (lawful-replay h legal) rest

-- Rows that a line can't tell apart.
use Rattle.std.proofs.Common.{List, ◌≡◌, Bool, sym, ap, ◌∙◌}
use Rattle.std.specs.List.{list_any}
use Rattle.std.specs.Prelude.{filter, is_none, ◌==◌, ◌&&◌, ◌||◌, ◌+◌, nat_le, nat_lt, not}
use Rattle.swarm_objects.specs.Loops.Dispatcher.{is_long_down, is_orphaned}
use Rattle.swarm_objects.specs.Loops.Enforcer.{breaks_constraints, is_misplaced}
use Rattle.swarm_objects.specs.Loops.Jobs.{is_old, is_old_of}
use Rattle.swarm_objects.specs.Loops.Replicated.{is_gone}
use Rattle.swarm_objects.specs.Loops.Restart.{is_current, is_held_up, is_in_the_way, is_over, wants_raise, wants_restart}
use Rattle.swarm_objects.specs.Loops.Words.{when}
use Rattle.swarm_objects.specs.Nodes.Words.{is_astray, is_down, is_homed, is_invalid, is_node_and, is_valid, is_valid_node, meets_all}
use Rattle.swarm_objects.specs.Rows.{has_row, is_row_and, is_some_and, node_id, service_id}
use Rattle.swarm_objects.specs.Same.{same_place}
use Rattle.swarm_objects.specs.Services.Ports.{gives_number}
use Rattle.swarm_objects.specs.Services.Words.{has_service, is_job}
use Rattle.swarm_objects.specs.Tasks.Words.{has_ended, is_beside, is_kept, is_live, is_placed, is_to_wait}
use Rattle.swarm_objects.specs.World.{Tables}
use Rattle.swarm_objects.specs.declared.duties.Duty.{Duty}
use Rattle.swarm_objects.specs.declared.duties.Duty.TheVariants as duty
use Rattle.swarm_objects.specs.declared.nodes.Node.{Node}
use Rattle.swarm_objects.specs.declared.services.PortNumber.{PortNumber}
use Rattle.swarm_objects.specs.declared.services.Service.{Service}
use Rattle.swarm_objects.specs.declared.tasks.Place.{Place}
use Rattle.swarm_objects.specs.declared.tasks.Place.TheVariants.{On, Slot}
use Rattle.swarm_objects.specs.declared.tasks.Task.{Task}
use Rattle.swarm_objects.specs.declared.templates.Port.{Port}
use Rattle.swarm_spans.proofs.Lines.{has-when}
use Rattle.swarm_spans.specs.Kept.{AlikeFor, StandAlike}
use Rattle.swarm_spans.specs.Lines.{AlikeCounting, AlikeDown, AlikeNumbered, AlikeOlds, AlikePorts, AlikeThere, AlikeValid, goes, olds, orphans, raises, rejects, restarts}

pub stand_alike : (x y : Task) → x.id ≡ y.id → x.service ≡ y.service → x.iteration ≡ y.iteration → x.place ≡ y.place
    → x.node ≡ y.node → StandAlike x y
stand_alike x y id service iteration place node = record {
  id = sym id;
  service = sym service;
  iteration = sym iteration;
  place = sym place;
  node = sym node;
}

-- What is read of the task's service and of the tasks beside it.

current : (t : Tables) (x y : Task) → StandAlike x y → is_current t y ≡ is_current t x
current t x y s =
    ap (λ k. is_row_and service_id (λ s. k == s.id && (not (is_job s.spec.mode) || y.iteration == s.iteration)) t.services k)
    s.service
    ∙ ap (λ i. is_row_and service_id (λ s. x.service == s.id && (not (is_job s.spec.mode) || i == s.iteration))
    t.services x.service) s.iteration

held : (t : Tables) (x y : Task) → StandAlike x y → is_held_up t y ≡ is_held_up t x
held t x y s =
    ap (λ k. list_any (λ z. z.service == k && same_place z.place y.place && not (z.id == y.id) && is_in_the_way t z)
    t.tasks) s.service
    ∙ ap (λ p. list_any (λ z. z.service == x.service && same_place z.place p && not (z.id == y.id) && is_in_the_way t z)
    t.tasks) s.place
    ∙ ap (λ i. list_any (λ z. is_beside x z && not (z.id == i) && is_in_the_way t z) t.tasks) s.id

over : (t : Tables) (x y : Task) → StandAlike x y → has_ended x ≡ has_ended y → (p : Place)
    → is_over t y p ≡ is_over t x p
over t x y s ended (Slot k) =
    ap (λ b. b || is_astray t y) (sym ended) ∙ ap (λ o. has_ended x || is_some_and (is_invalid t) o) s.node
over t x y s ended (On k) =
    ap (λ b. b && is_homed t y) (sym ended) ∙ ap (λ o. has_ended x && is_some_and (is_valid t) o) s.node

-- Lines of which a test says whether there is a duty.

by-test : (test : Tables → Task → Bool) (made : Task → Duty) (x y : Task) → StandAlike x y
    → ((t : Tables) → test t y ≡ test t x) → AlikeFor (λ t x. when (test t x) (made x)) x y
by-test test made x y s same = record {
  due = λ t. has-when (test t y) (made y) ∙ same t ∙ sym (has-when (test t x) (made x));
  service = s.service;
  node = s.node;
}

pub orphans_alike : (x y : Task) → StandAlike x y → is_placed x ≡ is_placed y → AlikeFor orphans x y
orphans_alike x y s placed =
    by-test is_orphaned (λ x. duty.Orphan x.id) x y s
    (λ t. ap (λ b. b && is_node_and t (is_long_down t) y) (sym placed)
    ∙ ap (λ o. is_placed x && is_some_and (is_row_and node_id (is_long_down t) t.nodes) o) s.node)

pub rejects_alike : (x y : Task) → StandAlike x y → is_placed x ≡ is_placed y → is_live x ≡ is_live y
    → x.template.constraints ≡ y.template.constraints → AlikeFor rejects x y
rejects_alike x y s placed live constraints =
    by-test is_misplaced (λ x. duty.Reject x.id) x y s
    (λ t. ap (λ b. b && is_placed y && is_node_and t (breaks_constraints y) y) (sym live)
    ∙ ap (λ b. is_live x && b && is_node_and t (breaks_constraints y) y) (sym placed)
    ∙ ap (λ cs. is_live x && is_placed x
    && is_some_and (is_row_and node_id (λ n. not (meets_all cs n)) t.nodes) y.node) (sym constraints)
    ∙ ap (λ o. is_live x && is_placed x && is_some_and (is_row_and node_id (breaks_constraints x) t.nodes) o) s.node)

pub restarts_alike : (x y : Task) → StandAlike x y → is_live x ≡ is_live y → has_ended x ≡ has_ended y
    → AlikeFor restarts x y
restarts_alike x y s live ended =
    by-test wants_restart (λ x. duty.Restart x.id) x y s
    (λ t. ap (λ b. b && is_over t y y.place && is_current t y) (sym live)
    ∙ ap (λ p. is_live x && is_over t y p && is_current t y) s.place
    ∙ ap (λ b. is_live x && b && is_current t y) (over t x y s ended x.place)
    ∙ ap (λ b. is_live x && is_over t x x.place && b) (current t x y s))

pub raises_alike : (x y : Task) → StandAlike x y → is_to_wait x ≡ is_to_wait y → has_ended x ≡ has_ended y
    → x.raise_at ≡ y.raise_at → AlikeFor raises x y
raises_alike x y s waits ended time =
    by-test wants_raise (λ x. duty.Raise x.id) x y s
    (λ t. ap (λ b. b && not (has_ended y) && nat_le y.raise_at t.clock && is_current t y && not (is_held_up t y))
    (sym waits)
    ∙ ap (λ b. is_to_wait x && not b && nat_le y.raise_at t.clock && is_current t y && not (is_held_up t y)) (sym ended)
    ∙ ap (λ n. is_to_wait x && not (has_ended x) && nat_le n t.clock && is_current t y && not (is_held_up t y)) (sym time)
    ∙ ap (λ b. is_to_wait x && not (has_ended x) && nat_le x.raise_at t.clock && b && not (is_held_up t y))
    (current t x y s)
    ∙ ap (λ b. is_to_wait x && not (has_ended x) && nat_le x.raise_at t.clock && is_current t x && not b) (held t x y s))

pub goes_alike : (x y : Task) → StandAlike x y → is_kept x ≡ is_kept y → AlikeFor goes x y
goes_alike x y s kept =
    by-test is_gone (λ x. duty.Gone x.id) x y s
    (λ t. ap (λ k. not (has_row service_id k t.services) && is_kept y) s.service
    ∙ ap (λ b. not (has_service t x) && b) (sym kept))

pub olds_alike : (x y : Task) → StandAlike x y → is_kept x ≡ is_kept y → AlikeFor olds x y
olds_alike x y s kept =
    by-test is_old (λ x. duty.Old x.id) x y s
    (λ t. ap (λ k. is_row_and service_id (is_old_of y) t.services k) s.service
    ∙ ap (λ i. is_row_and service_id (λ s. is_job s.spec.mode && nat_lt i s.iteration && is_kept y) t.services x.service)
    s.iteration
    ∙ ap (λ b. is_row_and service_id (λ s. is_job s.spec.mode && nat_lt x.iteration s.iteration && b) t.services x.service)
    (sym kept))

pub there_alike : {X : Type 0} (a b : X) → AlikeThere a b
there_alike a b = record {}

pub counting_alike : (a b : Service) → a.id ≡ b.id → is_job a.spec.mode ≡ is_job b.spec.mode → a.iteration ≡ b.iteration
    → AlikeCounting a b
counting_alike a b id job iteration = record {
  counts = λ x.
      ap (λ k. x.service == k && (not (is_job b.spec.mode) || x.iteration == b.iteration)) (sym id)
      ∙ ap (λ j. x.service == a.id && (not j || x.iteration == b.iteration)) (sym job)
      ∙ ap (λ i. x.service == a.id && (not (is_job a.spec.mode) || x.iteration == i)) (sym iteration);
}

pub olds_of_alike : (a b : Service) → is_job a.spec.mode ≡ is_job b.spec.mode → a.iteration ≡ b.iteration
    → AlikeOlds a b
olds_of_alike a b job iteration = record {
  old = λ x.
      ap (λ j. j && nat_lt x.iteration b.iteration && is_kept x) (sym job)
      ∙ ap (λ i. is_job a.spec.mode && nat_lt x.iteration i && is_kept x) (sym iteration);
}

pub valid_alike : (a b : Node) → is_valid_node a ≡ is_valid_node b → AlikeValid a b
valid_alike a b valid = record { valid = sym valid }

pub down_alike : (a b : Node) → is_down a.state ≡ is_down b.state → a.down_since ≡ b.down_since → AlikeDown a b
down_alike a b down since = record {
  down = λ t.
      ap (λ d. d && nat_le (b.down_since + t.settings.orphan) t.clock) (sym down)
      ∙ ap (λ n. is_down a.state && nat_le (n + t.settings.orphan) t.clock) (sym since);
}

-- the ports without a number
abbrev unnumbered : List Port → List PortNumber → List Port
unnumbered ports numbers = filter (λ p. is_none p.number && not (list_any (gives_number p) numbers)) ports

pub ports_alike : (a b : Service) → a.spec.ports ≡ b.spec.ports → a.numbers ≡ b.numbers → AlikePorts a b
ports_alike a b ports numbers = record {
  ports = ap (λ ps. unnumbered ps b.numbers) (sym ports) ∙ ap (unnumbered a.spec.ports) (sym numbers);
}

abbrev all-numbered : List Port → List PortNumber → Bool
all-numbered ports numbers = not (list_any (λ p. is_none p.number && not (list_any (gives_number p) numbers)) ports)

pub numbered_alike : (a b : Service) → a.spec.ports ≡ b.spec.ports → a.numbers ≡ b.numbers → AlikeNumbered a b
numbered_alike a b ports numbers = record {
  numbered = ap (λ ps. all-numbered ps b.numbers) (sym ports) ∙ ap (all-numbered a.spec.ports) (sym numbers);
}

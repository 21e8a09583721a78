-- A task has its service's goal, and a place of its service's kind, in every world of a legal history.
use Rattle.std.proofs.Common.{List, [], ap, arith, inl, inr, refl, subst, sym, ℕ, ◌++◌, ◌∙◌, ◌∷◌, ◌≡◌}
use Rattle.swarm_model.proofs.Laws.Kept.{InOrder, IsNewOf, IsPlaceOf, Keeps, Lightens, Runs}
use Rattle.swarm_model.proofs.Laws.KeptCalls.{kept-replay}
use Rattle.swarm_model.proofs.Laws.Prefixes.{each-prefix}
use Rattle.swarm_model.proofs.Laws.OneEach.{IsAlike, OneEach, alike-by, from-becomes, mode_number, one-each-empty, one-each-keeps, previous-kind}
use Rattle.swarm_model.proofs.Laws.Timely.{each-becomes, each-changed, each-pushed}
use Rattle.swarm_model.proofs.Laws.Within.{within-lightens}
use Rattle.swarm_model.proofs.Moves.Duties.{addressed-moves}
use Rattle.swarm_model.proofs.Moves.Placing.{placed-moves}
use Rattle.swarm_model.proofs.Moves.Rows.{becomes-where, between-one}
use Rattle.swarm_model.proofs.Moves.Tables.{moves-in_state, rank-most}
use Rattle.swarm_model.proofs.Moves.Worlds.{TaskMoves, task-same}
use Rattle.swarm_model.specs.Calls.Nodes.{is_left_behind, tables_without_node}
use Rattle.swarm_model.specs.Calls.Services.{new_service}
use Rattle.swarm_model.specs.History.{IsLegal, replay}
use Rattle.swarm_model.specs.Laws.OfService.{AreOfServices, IsOfService, OfServiceLaw}
use Rattle.swarm_objects.specs.Changes.{in_state, placed}
use Rattle.swarm_objects.specs.Loops.Allocator.{port_number, with_addresses, with_port}
use Rattle.swarm_objects.specs.Rows.{Has, change_row, service_id, task_id}
use Rattle.swarm_objects.specs.Tasks.New.{goal_of}
use Rattle.swarm_objects.specs.Tasks.Places.{place_at}
use Rattle.swarm_objects.specs.World.{Tables}
use Rattle.swarm_objects.specs.declared.calls.Entry.{Entry}
use Rattle.swarm_objects.specs.declared.services.Draft.{Draft}
use Rattle.swarm_objects.specs.declared.services.Mode.TheVariants as mode
use Rattle.swarm_objects.specs.declared.services.Mode.{Mode}
use Rattle.swarm_objects.specs.declared.services.Service.{Service}
use Rattle.swarm_objects.specs.declared.services.ServiceSpec.{ServiceSpec}
use Rattle.swarm_objects.specs.declared.tasks.Place.{Place}
use Rattle.swarm_objects.specs.declared.tasks.Task.{Task}
use Rattle.swarm_objects.specs.declared.tasks.TaskState.TheVariants as state

pub record OfServices (t : Tables) : Type 0 where
  pub one : OneEach t
  pub of : AreOfServices t

goal-alike : (a b : Mode) → IsAlike a b → goal_of a ≡ goal_of b
goal-alike (mode.Replicated a) (mode.Replicated b) e = refl
goal-alike mode.Global mode.Global e = refl
goal-alike (mode.Job a b) (mode.Job c d) e = refl
goal-alike (mode.Replicated a) mode.Global e = absurd cc
goal-alike (mode.Replicated a) (mode.Job c d) e = absurd cc
goal-alike mode.Global (mode.Replicated b) e = absurd cc
goal-alike mode.Global (mode.Job c d) e = absurd cc
goal-alike (mode.Job a b) (mode.Replicated c) e = absurd cc
goal-alike (mode.Job a b) mode.Global e = absurd cc

place-alike : (a b : Mode) (k : ℕ) → IsAlike a b → place_at a k ≡ place_at b k
place-alike (mode.Replicated a) (mode.Replicated b) k e = refl
place-alike mode.Global mode.Global k e = refl
place-alike (mode.Job a b) (mode.Job c d) k e = refl
place-alike (mode.Replicated a) mode.Global k e = absurd cc
place-alike (mode.Replicated a) (mode.Job c d) k e = refl
place-alike mode.Global (mode.Replicated b) k e = absurd cc
place-alike mode.Global (mode.Job c d) k e = absurd cc
place-alike (mode.Job a b) (mode.Replicated c) k e = refl
place-alike (mode.Job a b) mode.Global k e = absurd cc

-- Changes.

tasks-of : (t u : Tables) → ((y : Task) → Has u.tasks y → (x : Task) × Has t.tasks x × TaskMoves x y) →
    u.services ≡ t.services →
    OfServices t → (y : Task) (s : Service) → Has u.tasks y → Has u.services s → y.service ≡ s.id → IsOfService y s
tasks-of t u from services is y s h k e =
    let r = from y h in
    let old = is.of r.0 s r.1 (subst (λ xs. Has xs s) services k) (sym r.2.rises.making.service ∙ e) in
    record {
      goal = r.2.rises.making.goal ∙ old.goal;
      place = (old.place.0, r.2.rises.making.place ∙ old.place.1);
    }

-- the services keep their kinds
services-of : (t u : Tables) → u.tasks ≡ t.tasks →
    ((y : Service) → Has u.services y → (x : Service) × Has t.services x ×
    (y.id ≡ x.id) × IsAlike y.spec.mode x.spec.mode) →
    OfServices t → (x : Task) (s : Service) → Has u.tasks x → Has u.services s → x.service ≡ s.id → IsOfService x s
services-of t u tasks from is x s h k e =
    let r = from s k in
    let old = is.of x r.0 (subst (λ xs. Has xs x) tasks h) r.1 (e ∙ r.2) in
    record {
      goal = old.goal ∙ sym (goal-alike s.spec.mode r.0.spec.mode r.3);
      place = (old.place.0, old.place.1 ∙ sym (place-alike s.spec.mode r.0.spec.mode old.place.0 r.3));
    }

same-of : (t u : Tables) → OneEach u → u.tasks ≡ t.tasks → u.services ≡ t.services → OfServices t → OfServices u
same-of t u one tasks services is = record {
  one = one;
  of = λ x s h k e. is.of x s (subst (λ xs. Has xs x) tasks h) (subst (λ xs. Has xs s) services k) e;
}

with-tasks-of : (t u : Tables) → OneEach u → ((y : Task) → Has u.tasks y → (x : Task) × Has t.tasks x × TaskMoves x y) →
    u.services ≡ t.services → OfServices t → OfServices u
with-tasks-of t u one from services is = record { one = one; of = tasks-of t u from services is }

with-services-of : (t u : Tables) → OneEach u → u.tasks ≡ t.tasks →
    ((y : Service) → Has u.services y → (x : Service) × Has t.services x ×
    (y.id ≡ x.id) × IsAlike y.spec.mode x.spec.mode) →
    OfServices t → OfServices u
with-services-of t u one tasks from is = record { one = one; of = services-of t u tasks from is }

-- one service is changed
one-of : (t : Tables) (id : ℕ) (f : Service → Service) →
    ((s : Service) → Has t.services s → s.id ≡ id → (x : Service) × Has t.services x × ((f s).id ≡ x.id) × IsAlike
    (f s).spec.mode x.spec.mode) →
    (y : Service) → Has (change_row service_id id f t.services) y →
    (x : Service) × Has t.services x × (y.id ≡ x.id) × IsAlike y.spec.mode x.spec.mode
one-of t id f each =
    each-changed (λ y. (x : Service) × Has t.services x ×
    (y.id ≡ x.id) × IsAlike y.spec.mode x.spec.mode) service_id id f t.services
    (λ s h. (s, h, refl, refl)) each

moved-task : (t : Tables) (x : Task) (f : Task → Task) → InOrder t → Has t.tasks x → TaskMoves x (f x) → (y : Task) →
    Has (change_row task_id x.id f t.tasks) y → (z : Task) × Has t.tasks z × TaskMoves z y
moved-task t x f order there m =
    each-changed (λ y. (z : Task) × Has t.tasks z × TaskMoves z y) task_id x.id f t.tasks (λ z h. (z, h, task-same z))
    (λ z h e.
    let same = between-one task_id 1 t.next_id t.tasks x z order.tasks there h (sym e) in
    (z, h, subst (λ (v : Task). TaskMoves v (f v)) same m))

place-of : (t : Tables) (s : Service) (p : Place) → OfServices t → Has t.services s → IsPlaceOf t s p → (k : ℕ) ×
    (p ≡ place_at s.spec.mode k)
place-of t s p is there (inl k) = k
place-of t s p is there (inr y) =
    let old = is.of y.0 s y.1 there y.2 in (old.place.0, y.3 ∙ old.place.1)

comes-of : (t : Tables) (s : Service) (x : Task) → InOrder t → OfServices t → Has t.services s → IsNewOf t s x →
    (y : Task) (v : Service) →
    Has (t.tasks ++ x ∷ []) y → Has t.services v → y.service ≡ v.id → IsOfService y v
comes-of t s x order is there new y v h k e =
    each-pushed (λ (z : Task). z.service ≡ v.id → IsOfService z v) t.tasks x (λ z j. is.of z v j k)
    (λ same.
    let one = between-one service_id 1 t.next_id t.services s v order.services there k (sym new.service ∙ same) in
    let at = place-of t s x.place is there new.place in
    subst (IsOfService x) one (record { goal = new.goal; place = at })) y h e

service-comes-of : (version : ℕ) (t : Tables) (name : List ℕ) (d : Draft) → OfServices t → (x : Task) (s : Service) →
    Has t.tasks x →
    Has (t.services ++ new_service version t name d ∷ []) s → x.service ≡ s.id → IsOfService x s
service-comes-of version t name d is x s h k e =
    each-pushed (λ (v : Service). x.service ≡ v.id → IsOfService x v) t.services (new_service version t name d)
    (λ v j. is.of x v h j) (λ same. absurd (omega (arith, same, is.one.below x h))) s k e

left-tasks : (version : ℕ) (t : Tables) (id : ℕ) (y : Task) → Has (tables_without_node version t id).tasks y →
    (x : Task) × Has t.tasks x × TaskMoves x y
left-tasks version t id =
    from-becomes TaskMoves (λ x y m. m) t.tasks _
    (becomes-where TaskMoves (is_left_behind id) (in_state version t.clock state.Orphaned) t.tasks task-same
    (λ x h e. moves-in_state version t.clock state.Orphaned x (rank-most x.state)))

pub of-services-keep : Keeps OfServices
of-services-keep = record {
  tasks = λ t new order is rows.
      with-tasks-of t _ (one-each-keeps.tasks t new order is.one rows)
      (from-becomes (Lightens t.clock) (λ x y l. l.moves) t.tasks new rows) refl is;
  address = λ version t x order is there e.
      with-tasks-of t _ (one-each-keeps.address version t x order is.one there e)
      (moved-task t x (with_addresses version t) order there (addressed-moves version t x e)) refl is;
  place = λ version t x m order is there e best.
      with-tasks-of t _ (one-each-keeps.place version t x m order is.one there e best)
      (moved-task t x (placed version t.clock m.id) order there
      (placed-moves version t m.id x (order.good x there) (e, m, best, refl))) refl is;
  comes = λ t s x order is there new.
      record { one = one-each-keeps.comes t s x order is.one there new; of = comes-of t s x order is there new };
  runs = λ t new order is rows.
      with-services-of t _ (one-each-keeps.runs t new order is.one rows) refl
      (each-becomes (λ (y : Service). (x : Service) × Has t.services x ×
      (y.id ≡ x.id) × IsAlike y.spec.mode x.spec.mode)
      (Runs t.clock) t.services new rows
      (λ x y h r. (x, h, r.id, ap (λ (q : ServiceSpec). mode_number q.mode) r.spec))) is;
  port = λ version t s target udp number order is e.
      with-services-of t _ (one-each-keeps.port version t s target udp number order is.one e) refl
      (one-of t s (with_port version (port_number target udp number)) (λ v h same. (v, h, refl, refl))) is;
  fails = λ version t s spec order is there e.
      with-services-of t _ (one-each-keeps.fails version t s spec order is.one there e) refl
      (one-of t s.id _ (λ v h same. (s, there, refl, previous-kind s spec (is.one.kinds s there) e))) is;
  updates = λ version t s d order is there same taken.
      with-services-of t _ (one-each-keeps.updates version t s d order is.one there same taken) refl
      (one-of t s.id _ (λ v h k. (s, there, refl, alike-by d.spec.mode s.spec.mode same))) is;
  rolls_back = λ version t s spec order is there e.
      with-services-of t _ (one-each-keeps.rolls_back version t s spec order is.one there e) refl
      (one-of t s.id _ (λ v h k. (s, there, refl, previous-kind s spec (is.one.kinds s there) e))) is;
  service_comes = λ version t name d order is taken. record {
    one = one-each-keeps.service_comes version t name d order is.one taken;
    of = service-comes-of version t name d is;
  };
  attempts = λ t new is each. same-of t _ (one-each-keeps.attempts t new is.one each) refl refl is;
  nodes = λ t f order is each. same-of t _ (one-each-keeps.nodes t f order is.one each) refl refl is;
  node_comes = λ t n order is id since. same-of t _ (one-each-keeps.node_comes t n order is.one id since) refl refl is;
  node_goes = λ version t id order is.
      with-tasks-of t _ (one-each-keeps.node_goes version t id order is.one) (left-tasks version t id) refl is;
  begins = λ version t n cpu mem order is there.
      with-tasks-of t _ (one-each-keeps.begins version t n cpu mem order is.one there)
      (from-becomes (Lightens t.clock) (λ x y l. l.moves) t.tasks _
      (within-lightens version t.clock n.id cpu mem t.tasks)) refl is;
  registers = λ version t node order is. same-of t _
      (one-each-keeps.registers version t node order is.one) refl refl is;
  beats = λ t node is. same-of t _ (one-each-keeps.beats t node is.one) refl refl is;
  networks = λ t new is. same-of t _ (one-each-keeps.networks t new is.one) refl refl is;
  ids = λ t order is. same-of t _ (one-each-keeps.ids t order is.one) refl refl is;
  ticks = λ t ms is. same-of t _ (one-each-keeps.ticks t ms is.one) refl refl is;
  settings = λ t s e is. same-of t _ (one-each-keeps.settings t s e is.one) refl refl is;
}

pub of-services-replay : (h : List Entry) → IsLegal h → OfServices (replay h).tables
of-services-replay h legal =
    kept-replay OfServices of-services-keep (record { one = one-each-empty; of = λ x s j k e. absurd j }) h legal

-- so it is in each of its worlds
pub of-services : OfServiceLaw
of-services h legal = each-prefix (λ w. AreOfServices w.tables) (λ g is. (of-services-replay g is).of) h legal

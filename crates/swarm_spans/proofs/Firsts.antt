-- The first duty of a line, by its span.
use Rattle.std.proofs.Common.{◌≡◌, ◌-◌, ◌<◌, cond, List, [], ◌∷◌, Some, None, refl, sym, true, ap, ◌∙◌}
use Rattle.std.specs.Prelude.{find, flat_map, is_some, nat_le, ◌++◌}
use Rattle.swarm_objects.specs.Rows.{first_of, node_id, service_id, task_id}
use Rattle.swarm_objects.specs.Usable.{IsUsable}
use Rattle.swarm_objects.specs.World.{Tables}
use Rattle.swarm_objects.specs.declared.duties.Duty.{Duty}
use Rattle.swarm_objects.specs.declared.nodes.Node.{Node}
use Rattle.swarm_objects.specs.declared.services.Service.{Service}
use Rattle.swarm_objects.specs.declared.tasks.Task.{Task}
use Rattle.swarm_spans.proofs.InSpans.{first-found, first-none, less-left, none-left, none-over, passed}
use Rattle.swarm_spans.specs.Spans.{beyond, Covers, empty, has_duty, is_in}
use Rattle.swarm_spans.specs.declared.span.Span.{Span}

pub flat-found : {X Y : Type 0} (f : X → List Y) (rows : List X) (x : X) (d : Y)
    → find (λ x. is_some (first_of (f x))) rows ≡ Some x → first_of (f x) ≡ Some d
    → first_of (flat_map f rows) ≡ Some d
flat-found f [] x d e k = cc
flat-found {X} {Y} f (y ∷ rows) x d e k = go (f y) refl (flat-found f rows x d) e
  where
    go : (list : List Y) → f y ≡ list
        → (find (λ x. is_some (first_of (f x))) rows ≡ Some x → first_of (f x) ≡ Some d
        → first_of (flat_map f rows) ≡ Some d)
        → cond (is_some (first_of list)) (Some y) (find (λ x. is_some (first_of (f x))) rows) ≡ Some x
        → first_of (list ++ flat_map f rows) ≡ Some d
    go [] same below e = below e k
    go (a ∷ list) same below e =
        let which : y ≡ x = cc in
        let first : first_of (f y) ≡ Some d = ap (λ z. first_of (f z)) which ∙ k in
        let head : first_of (f y) ≡ Some a = ap first_of same in
        sym head ∙ first

pub flat-none : {X Y : Type 0} (f : X → List Y) (rows : List X) → find (λ x. is_some (first_of (f x))) rows ≡ None
    → first_of (flat_map f rows) ≡ None
flat-none f [] e = refl
flat-none {X} {Y} f (y ∷ rows) e = go (f y) (flat-none f rows) e
  where
    go : (list : List Y)
        → (find (λ x. is_some (first_of (f x))) rows ≡ None → first_of (flat_map f rows) ≡ None)
        → cond (is_some (first_of list)) (Some y) (find (λ x. is_some (first_of (f x))) rows) ≡ None
        → first_of (list ++ flat_map f rows) ≡ None
    go [] below e = below e
    go (a ∷ list) below e = absurd cc

pub task_duty : (duties : Task → List Duty) (t : Tables) (span : Span) (x : Task) (d : Duty)
    → Covers task_id (has_duty duties) span t.tasks → Some x ≡ find (λ y. is_in span y.id) t.tasks
    → Some d ≡ first_of (duties x) → Some d ≡ first_of (flat_map duties t.tasks)
task_duty duties t span x d c e k =
    sym (flat-found duties t.tasks x d
    (first-found task_id (has_duty duties) span t.tasks x c (sym e) (sym (ap is_some k))) (sym k))

pub no_task_duty : (duties : Task → List Duty) (t : Tables) (span : Span) → Covers task_id (has_duty duties) span t.tasks
    → None ≡ find (λ y. is_in span y.id) t.tasks → None ≡ first_of (flat_map duties t.tasks)
no_task_duty duties t span c e =
    sym (flat-none duties t.tasks (first-none task_id (has_duty duties) span t.tasks c (sym e)))

pub no_task_left : (duties : Task → List Duty) (t : Tables) (span : Span) → Covers task_id (has_duty duties) span t.tasks
    → None ≡ find (λ y. is_in span y.id) t.tasks → Covers task_id (has_duty duties) empty t.tasks
no_task_left duties t span c e = none-left task_id (has_duty duties) span t.tasks c (sym e)

pub task_passes : (duties : Task → List Duty) (t : Tables) (span : Span) (x : Task) → IsUsable t
    → Covers task_id (has_duty duties) span t.tasks → Some x ≡ find (λ y. is_in span y.id) t.tasks
    → None ≡ first_of (duties x) → Covers task_id (has_duty duties) (beyond span x.id) t.tasks
task_passes duties t span x usable c e k = record {
  has = passed task_id (has_duty duties) span 0 t.tasks x usable.sound.ordered.tasks c (sym e) (sym (ap is_some k));
}

pub less_tasks : (t : Tables) (span left : Span) (x : Task) → Some x ≡ find (λ y. is_in span y.id) t.tasks
    → left ≡ beyond span x.id → left.high - left.after < span.high - span.after
less_tasks t span left x e is = less-left task_id span left t.tasks x (sym e) is

pub tasks_over : (duties : Task → List Duty) (t : Tables) (span : Span) → Covers task_id (has_duty duties) span t.tasks
    → true ≡ nat_le span.high span.after → None ≡ first_of (flat_map duties t.tasks)
tasks_over duties t span c over = no_task_duty duties t span c (sym (none-over task_id span t.tasks over))

pub ruleset tasks = (task_duty, tasks_over, no_task_duty, no_task_left, task_passes)

pub service_duty : (duties : Service → List Duty) (t : Tables) (span : Span) (x : Service) (d : Duty)
    → Covers service_id (has_duty duties) span t.services → Some x ≡ find (λ y. is_in span y.id) t.services
    → Some d ≡ first_of (duties x) → Some d ≡ first_of (flat_map duties t.services)
service_duty duties t span x d c e k =
    sym (flat-found duties t.services x d
    (first-found service_id (has_duty duties) span t.services x c (sym e) (sym (ap is_some k))) (sym k))

pub no_service_duty : (duties : Service → List Duty) (t : Tables) (span : Span) → Covers service_id (has_duty duties) span t.services
    → None ≡ find (λ y. is_in span y.id) t.services → None ≡ first_of (flat_map duties t.services)
no_service_duty duties t span c e =
    sym (flat-none duties t.services (first-none service_id (has_duty duties) span t.services c (sym e)))

pub no_service_left : (duties : Service → List Duty) (t : Tables) (span : Span) → Covers service_id (has_duty duties) span t.services
    → None ≡ find (λ y. is_in span y.id) t.services → Covers service_id (has_duty duties) empty t.services
no_service_left duties t span c e = none-left service_id (has_duty duties) span t.services c (sym e)

pub service_passes : (duties : Service → List Duty) (t : Tables) (span : Span) (x : Service) → IsUsable t
    → Covers service_id (has_duty duties) span t.services → Some x ≡ find (λ y. is_in span y.id) t.services
    → None ≡ first_of (duties x) → Covers service_id (has_duty duties) (beyond span x.id) t.services
service_passes duties t span x usable c e k = record {
  has = passed service_id (has_duty duties) span 0 t.services x usable.sound.ordered.services c (sym e) (sym (ap is_some k));
}

pub less_services : (t : Tables) (span left : Span) (x : Service) → Some x ≡ find (λ y. is_in span y.id) t.services
    → left ≡ beyond span x.id → left.high - left.after < span.high - span.after
less_services t span left x e is = less-left service_id span left t.services x (sym e) is

pub services_over : (duties : Service → List Duty) (t : Tables) (span : Span) → Covers service_id (has_duty duties) span t.services
    → true ≡ nat_le span.high span.after → None ≡ first_of (flat_map duties t.services)
services_over duties t span c over = no_service_duty duties t span c (sym (none-over service_id span t.services over))

pub ruleset services = (service_duty, services_over, no_service_duty, no_service_left, service_passes)

pub node_duty : (duties : Node → List Duty) (t : Tables) (span : Span) (x : Node) (d : Duty)
    → Covers node_id (has_duty duties) span t.nodes → Some x ≡ find (λ y. is_in span y.id) t.nodes
    → Some d ≡ first_of (duties x) → Some d ≡ first_of (flat_map duties t.nodes)
node_duty duties t span x d c e k =
    sym (flat-found duties t.nodes x d
    (first-found node_id (has_duty duties) span t.nodes x c (sym e) (sym (ap is_some k))) (sym k))

pub no_node_duty : (duties : Node → List Duty) (t : Tables) (span : Span) → Covers node_id (has_duty duties) span t.nodes
    → None ≡ find (λ y. is_in span y.id) t.nodes → None ≡ first_of (flat_map duties t.nodes)
no_node_duty duties t span c e =
    sym (flat-none duties t.nodes (first-none node_id (has_duty duties) span t.nodes c (sym e)))

pub no_node_left : (duties : Node → List Duty) (t : Tables) (span : Span) → Covers node_id (has_duty duties) span t.nodes
    → None ≡ find (λ y. is_in span y.id) t.nodes → Covers node_id (has_duty duties) empty t.nodes
no_node_left duties t span c e = none-left node_id (has_duty duties) span t.nodes c (sym e)

pub node_passes : (duties : Node → List Duty) (t : Tables) (span : Span) (x : Node) → IsUsable t
    → Covers node_id (has_duty duties) span t.nodes → Some x ≡ find (λ y. is_in span y.id) t.nodes
    → None ≡ first_of (duties x) → Covers node_id (has_duty duties) (beyond span x.id) t.nodes
node_passes duties t span x usable c e k = record {
  has = passed node_id (has_duty duties) span 0 t.nodes x usable.sound.ordered.nodes c (sym e) (sym (ap is_some k));
}

pub less_nodes : (t : Tables) (span left : Span) (x : Node) → Some x ≡ find (λ y. is_in span y.id) t.nodes
    → left ≡ beyond span x.id → left.high - left.after < span.high - span.after
less_nodes t span left x e is = less-left node_id span left t.nodes x (sym e) is

pub nodes_over : (duties : Node → List Duty) (t : Tables) (span : Span) → Covers node_id (has_duty duties) span t.nodes
    → true ≡ nat_le span.high span.after → None ≡ first_of (flat_map duties t.nodes)
nodes_over duties t span c over = no_node_duty duties t span c (sym (none-over node_id span t.nodes over))

pub ruleset nodes = (node_duty, nodes_over, no_node_duty, no_node_left, node_passes)

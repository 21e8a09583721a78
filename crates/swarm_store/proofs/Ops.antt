-- What the code makes of the rows is what each operation makes of them.
use Rattle.std.proofs.Common.{◌≡◌, ℕ, ◌+◌, ◌<◌, Bool, true, false, List, [], ◌∷◌, length, Option, Some, None, Ok, sym, ap, ◌∙◌, subst}
use Rattle.std.specs.Prelude.{◌&&◌, filter, find, is_some, not}
use Rattle.std.specs.Option.{option_map}
use Rattle.swarm_model.specs.Calls.Networks.{new_network, remove_network, with_network}
use Rattle.swarm_model.specs.Calls.Nodes.{broken_node, is_left_behind, remove_node, update_node, with_node, without_node}
use Rattle.swarm_objects.specs.NewRows.{new_node, respecified_node}
use Rattle.swarm_model.specs.Calls.Operations.{apply_op}
use Rattle.swarm_model.specs.Calls.Refusals.{bad_spec, conflict, found, has_name, in_use, missing_network, name_taken, network_by, node_by, node_name, port_taken, service_by, service_name, too_many}
use Rattle.swarm_objects.specs.Refusals.{first_refusal, refuse, unless}
use Rattle.swarm_model.specs.Calls.Services.{broken_draft, filled, is_attempt_of, new_service, remove_service, with_service}
use Rattle.swarm_objects.specs.NewRows.{respecified}
use Rattle.swarm_objects.proofs.RowLemmas.{number_above, row_at-Some}
use Rattle.swarm_objects.specs.Changes.{change_node, change_where, in_state, with_tables}
use Rattle.swarm_objects.specs.Limits.{most_networks, most_nodes, most_services}
use Rattle.swarm_objects.specs.Nodes.Words.{is_down}
use Rattle.swarm_objects.specs.Rows.{RisesFrom, drop_row, has_row, network_id, node_id, put_row, service_id, with_row}
use Rattle.swarm_objects.specs.Rules.Networks.{subnet_breaks, subnet_rules}
use Rattle.swarm_objects.specs.World.{Tables}
use Rattle.swarm_objects.specs.declared.calls.Op.TheVariants as op
use Rattle.swarm_objects.specs.declared.ids.Kind.TheVariants as kind
use Rattle.swarm_objects.specs.declared.networks.Network.{Network}
use Rattle.swarm_objects.specs.declared.nodes.Availability.{Availability}
use Rattle.swarm_objects.specs.declared.nodes.Node.{Node}
use Rattle.swarm_objects.specs.declared.nodes.NodeDraft.{NodeDraft}
use Rattle.swarm_objects.specs.declared.nodes.NodeRole.{NodeRole}
use Rattle.swarm_objects.specs.declared.replies.Refusal.TheVariants as refusal
use Rattle.swarm_objects.specs.declared.replies.Wanted.TheVariants as wanted_by
use Rattle.swarm_objects.specs.declared.services.Draft.{Draft}
use Rattle.swarm_objects.specs.declared.services.Service.{Service}
use Rattle.swarm_objects.specs.declared.services.ServiceSpec.{ServiceSpec}
use Rattle.swarm_objects.specs.declared.tasks.Attempt.{Attempt}
use Rattle.swarm_objects.specs.declared.tasks.TaskState.TheVariants as state
use Rattle.swarm_objects.proofs.RowLemmas.{has-found}
use Rattle.swarm_model.proofs.Base.Updates.{rolled-back, updated}
use Rattle.swarm_model.specs.Calls.Services.{update_refusal}
use Rattle.swarm_objects.specs.Effects.{world_with}
use Rattle.swarm_store.proofs.ByKey.{with-last, with-put}
use Rattle.swarm_store.specs.Inside.Done.{made}
use Rattle.swarm_store.specs.Inside.State.{Stands}
use Rattle.swarm_store.specs.Stored.{without_sessions}

-- a row that was found is there by its id
pub found-there : {X : Type 0} (key : X → ℕ) (p : X → Bool) (rows : List X) (x : X) → RisesFrom key 0 rows → find p rows ≡ Some x →
    has_row key (key x) rows ≡ true
found-there key p rows x r e = ap is_some (row_at-Some key 0 rows x r (has-found p rows x e))

pub found-above : {X : Type 0} (key : X → ℕ) (p : X → Bool) (rows : List X) (x : X) → RisesFrom key 0 rows → find p rows ≡ Some x →
    0 < key x
found-above key p rows x r e = number_above key 0 rows x r (has-found p rows x e)

pub node-created : (version : ℕ) (t : Tables) (name : List ℕ) (draft : NodeDraft) (n : Node) (rows : List Node) (next : ℕ) → Stands t →
    next ≡ t.next_id + 1 → n ≡ new_node version t.next_id name draft →
    first_refusal (
    broken_node n
    ∷ name_taken (option_map node_id (node_by t n.name))
    ∷ too_many kind.Node most_nodes (length t.nodes)
    ∷ []) ≡ None →
    rows ≡ with_row node_id n t.nodes →
    made (apply_op version (world_with t) (op.CreateNode name draft)) ≡
    Ok (record (without_sessions t) { next_id = next; nodes = rows }, t.next_id)
node-created version t name draft n rows next stands more is none put =
    let new = new_node version t.next_id name draft in
    ap (λ r. made (unless r (with_node (world_with t) new, new.id)))
    (subst (λ x. first_refusal (
    broken_node x
    ∷ name_taken (option_map node_id (node_by t x.name))
    ∷ too_many kind.Node most_nodes (length t.nodes)
    ∷ []) ≡ None) is none)
    ∙ ap (λ xs. Ok (record (without_sessions t) { next_id = t.next_id + 1; nodes = xs }, t.next_id))
    (sym (put ∙ ap (λ x. with_row node_id x t.nodes) is ∙ with-last node_id new t.nodes stands.below.nodes))
    ∙ ap (λ k. Ok (record (without_sessions t) { next_id = k; nodes = rows }, t.next_id)) (sym more)

pub node-updated : (version : ℕ) (t : Tables) (name : List ℕ) (asked : Option ℕ) (labels : List (List ℕ × List ℕ)) (r : NodeRole)
    (a : Availability) (n new : Node) (rows : List Node) → Stands t → node_by t name ≡ Some n →
    new ≡ respecified_node version labels r a n → first_refusal (conflict asked n.version ∷ broken_node new ∷ []) ≡ None →
    rows ≡ with_row node_id new t.nodes →
    made (apply_op version (world_with t) (op.UpdateNode name asked labels r a)) ≡ Ok (record (without_sessions t) { nodes = rows }, n.id)
node-updated version t name asked labels r a n new rows stands there is none put =
    let w = world_with t in
    let to = respecified_node version labels r a n in
    let has = found-there node_id (has_name node_name name) t.nodes n stands.ordered.nodes there in
    ap (λ row. made (found kind.Node (wanted_by.Name name) row (λ x. update_node w asked x (respecified_node version labels r a x)))) there
    ∙ ap (λ q. made (unless q (with_tables w (change_node n.id (λ x. to) t), n.id)))
    (subst (λ x. first_refusal (conflict asked n.version ∷ broken_node x ∷ []) ≡ None) is none)
    ∙ ap (λ xs. Ok (record (without_sessions t) { nodes = xs }, n.id))
    (sym (put ∙ ap (λ x. with_row node_id x t.nodes) is ∙ with-put node_id 0 to t.nodes stands.ordered.nodes has))

pub node-removed : (version : ℕ) (t u : Tables) (name : List ℕ) (force : Bool) (n : Node) (nodes : List Node) → t.sessions ≡ [] →
    node_by t name ≡ Some n → refuse (not force && not (is_down n.state)) (refusal.NodeNotDown n.state) ≡ None →
    u ≡ change_where (is_left_behind n.id) (in_state version t.clock state.Orphaned) t → nodes ≡ drop_row node_id n.id u.nodes →
    made (apply_op version (world_with t) (op.RemoveNode name force)) ≡ Ok (record u { nodes = nodes }, n.id)
node-removed version t u name force n nodes nobody there none is gone =
    let w = world_with t in
    let orphans = change_where (is_left_behind n.id) (in_state version t.clock state.Orphaned) t in
    ap (λ row. made (found kind.Node (wanted_by.Name name) row (remove_node version w force))) there
    ∙ ap (λ q. made (unless q (without_node version w n.id, n.id))) none
    ∙ ap (λ ss. Ok (record orphans { nodes = drop_row node_id n.id t.nodes; sessions = ss }, n.id)) (sym nobody)
    ∙ ap (λ (v : Tables). Ok (record v { nodes = drop_row node_id n.id v.nodes }, n.id)) (sym is)
    ∙ ap (λ xs. Ok (record u { nodes = xs }, n.id)) (sym gone)

pub service-created : (version : ℕ) (t : Tables) (name : List ℕ) (d : Draft) (s : Service) (rows : List Service) (next : ℕ) → Stands t →
    next ≡ t.next_id + 1 → s ≡ new_service version t name d →
    first_refusal (
    broken_draft d
    ∷ name_taken (option_map service_id (service_by t name))
    ∷ missing_network t d.networks
    ∷ port_taken t None d.spec.ports
    ∷ too_many kind.Service most_services (length t.services)
    ∷ []) ≡ None →
    rows ≡ with_row service_id s t.services →
    made (apply_op version (world_with t) (op.CreateService name d)) ≡
    Ok (record (without_sessions t) { next_id = next; services = rows }, t.next_id)
service-created version t name d s rows next stands more is none put =
    let new = new_service version t name d in
    ap (λ r. made (unless r (with_tables (world_with t) (with_service t new), t.next_id))) none
    ∙ ap (λ xs. Ok (record (without_sessions t) { next_id = t.next_id + 1; services = xs }, t.next_id))
    (sym (put ∙ ap (λ x. with_row service_id x t.services) is ∙ with-last service_id new t.services stands.below.services))
    ∙ ap (λ k. Ok (record (without_sessions t) { next_id = k; services = rows }, t.next_id)) (sym more)

service-rows : (t : Tables) (name : List ℕ) (s new : Service) (rows : List Service) → Stands t → service_by t name ≡ Some s →
    new.id ≡ s.id → rows ≡ with_row service_id new t.services → rows ≡ put_row service_id new t.services
service-rows t name s new rows stands there same put =
    let has = found-there service_id (has_name service_name name) t.services s stands.ordered.services there in
    put
    ∙ with-put service_id 0 new t.services stands.ordered.services
    (subst (λ k. has_row service_id k t.services ≡ true) (sym same) has)

pub service-updated : (version : ℕ) (t : Tables) (name : List ℕ) (asked : Option ℕ) (d : Draft) (s new : Service) (spec : ServiceSpec)
    (rows : List Service) → Stands t → service_by t name ≡ Some s → update_refusal t asked d s ≡ None →
    spec ≡ filled t d → new ≡ respecified version false spec s → rows ≡ with_row service_id new t.services →
    made (apply_op version (world_with t) (op.UpdateService name asked d)) ≡ Ok (record (without_sessions t) { services = rows }, s.id)
service-updated version t name asked d s new spec rows stands there none filled' is put =
    ap made
    (updated version (world_with t) name asked d s new spec rows there none filled' is
    (service-rows t name s new rows stands there (ap service_id is) put))

pub service-rolled-back : (version : ℕ) (t : Tables) (name : List ℕ) (asked : Option ℕ) (s new : Service) (spec before : ServiceSpec)
    (rows : List Service) → Stands t → service_by t name ≡ Some s → conflict asked s.version ≡ None → s.previous ≡ Some before →
    spec ≡ before → new ≡ respecified version true spec s → rows ≡ with_row service_id new t.services →
    made (apply_op version (world_with t) (op.RollbackService name asked)) ≡ Ok (record (without_sessions t) { services = rows }, s.id)
service-rolled-back version t name asked s new spec before rows stands there none had same is put =
    ap made
    (rolled-back version (world_with t) name asked s new spec before rows there none had same is
    (service-rows t name s new rows stands there (ap service_id is) put))

pub service-removed : (version : ℕ) (t : Tables) (name : List ℕ) (s : Service) (rows : List Service) (attempts : List Attempt) →
    service_by t name ≡ Some s → rows ≡ drop_row service_id s.id t.services →
    attempts ≡ filter (λ a. not (is_attempt_of s.id a)) t.attempts →
    made (apply_op version (world_with t) (op.RemoveService name)) ≡
    Ok (record (without_sessions t) { services = rows; attempts = attempts }, s.id)
service-removed version t name s rows attempts there gone left =
    ap (λ row. made (found kind.Service (wanted_by.Name name) row (remove_service (world_with t)))) there
    ∙ ap (λ xs. Ok (record (without_sessions t) { services = xs; attempts = filter (λ a. not (is_attempt_of s.id a)) t.attempts }, s.id))
    (sym gone)
    ∙ ap (λ as'. Ok (record (without_sessions t) { services = rows; attempts = as' }, s.id)) (sym left)

pub network-created : (version : ℕ) (t : Tables) (name : List ℕ) (base bits : ℕ) (n : Network) (rows : List Network) (next : ℕ) → Stands t →
    next ≡ t.next_id + 1 → n ≡ new_network version t.next_id name base bits →
    first_refusal (
    bad_spec (find (subnet_breaks base bits) subnet_rules)
    ∷ name_taken (option_map network_id (network_by t name))
    ∷ too_many kind.Network most_networks (length t.networks)
    ∷ []) ≡ None →
    rows ≡ with_row network_id n t.networks →
    made (apply_op version (world_with t) (op.CreateNetwork name base bits)) ≡
    Ok (record (without_sessions t) { next_id = next; networks = rows }, t.next_id)
network-created version t name base bits n rows next stands more is none put =
    let new = new_network version t.next_id name base bits in
    ap (λ r. made (unless r (with_tables (world_with t) (with_network t new), new.id))) none
    ∙ ap (λ xs. Ok (record (without_sessions t) { next_id = t.next_id + 1; networks = xs }, t.next_id))
    (sym (put ∙ ap (λ x. with_row network_id x t.networks) is ∙ with-last network_id new t.networks stands.below.networks))
    ∙ ap (λ k. Ok (record (without_sessions t) { next_id = k; networks = rows }, t.next_id)) (sym more)

pub network-removed : (version : ℕ) (t : Tables) (name : List ℕ) (n : Network) (rows : List Network) →
    network_by t name ≡ Some n → in_use t n.id ≡ None → rows ≡ drop_row network_id n.id t.networks →
    made (apply_op version (world_with t) (op.RemoveNetwork name)) ≡ Ok (record (without_sessions t) { networks = rows }, n.id)
network-removed version t name n rows there none gone =
    let w = world_with t in
    ap (λ row. made (found kind.Network (wanted_by.Name name) row (remove_network w))) there
    ∙ ap (λ q. made (unless q (with_tables w (record t { networks = drop_row network_id n.id t.networks }), n.id))) none
    ∙ ap (λ xs. Ok (record (without_sessions t) { networks = xs }, n.id)) (sym gone)

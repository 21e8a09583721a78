use Rattle.std.proofs.Common.{◌≡◌, ◌++◌, subst}
use Rattle.swarm_model.proofs.Watching.Changes.{network_events, node_events, service_events, task_events}
use Rattle.swarm_model.proofs.Watching.Content.{Decides-same_network, Decides-same_node, Decides-same_service, Decides-same_task}
use Rattle.swarm_model.specs.Changed.{events_of}
use Rattle.swarm_model.specs.Content.{same_network, same_node, same_service, same_task}
use Rattle.swarm_objects.specs.Rows.{service_id}
use Rattle.swarm_objects.specs.declared.ids.Kind.TheVariants as kind
use Rattle.swarm_objects.specs.declared.services.Service.{Service}
use Rattle.swarm_store.proofs.Told.{four-told}
use Rattle.swarm_store.proofs.state.State.put_events.Goals as goal
use Rattle.swarm_store.specs.Inside.Span.{Track}
use Rattle.swarm_store.specs.Inside.State.{tables_now, tables_start}

pub returns-clause-items : goal.returns-clause-items
returns-clause-items c =
    let n = c.args.version in
    let old = tables_start c.args.self.now in
    let new = tables_now c.args.self.now in
    let before = c.put_events.new.events.items in
    let services : c.put_events-2.new.events.items ≡ before ++ service_events n old new =
    subst (λ (t : Track Service). c.put_events-2.new.events.items ≡ before ++ events_of n kind.Service service_id same_service t.start t.rows)
    c.rows.ensures (c.put_events-2.ensures.items same_service Decides-same_service) in
    four-told c.args.events.now.items c.put_events.new.events.items c.put_events-2.new.events.items c.put_events-3.new.events.items
    c.put_events-4.new.events.items (node_events n old new) (service_events n old new) (task_events n old new)
    (network_events n old new) c.requires.empty (c.put_events.ensures.items same_node Decides-same_node)
    services (c.put_events-3.ensures.items same_task Decides-same_task)
    (c.put_events-4.ensures.items same_network Decides-same_network)

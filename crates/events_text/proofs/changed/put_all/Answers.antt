use Rattle.swarm_model.proofs.Base.Answers.{on-ok}
use Rattle.swarm_model.proofs.Watching.Changes.{network_events, node_events, service_events, task_events}
use Rattle.swarm_model.proofs.Watching.Content.{Decides-same_network, Decides-same_node, Decides-same_service, Decides-same_task}
use Rattle.swarm_model.specs.Content.{same_network, same_node, same_service, same_task}
use Rattle.swarm_objects.specs.Rows.{network_id, node_id, service_id, task_id}
use Rattle.swarm_objects.specs.declared.ids.Kind.TheVariants as kind
use Rattle.swarm_plain.specs.Plain.{tables_of}
use Rattle.events_text.proofs.Merged.{all-put, put-kind}
use Rattle.events_text.proofs.changed.put_all.Goals as goal

pub returns : goal.returns
returns c =
    let n = c.args.entry in
    let old = c.args.old.now in
    let new = c.args.new.now in
    let t = tables_of old in
    let u = tables_of new in
    let nodes =
    put-kind n kind.Node node_id same_node old.nodes new.nodes _ _ c.args.events.now c.put_changes.new.events
    c.as_slice.ensures c.as_slice-2.ensures (c.in_ok-put_changes.ensures same_node Decides-same_node) in
    let services =
    put-kind n kind.Service service_id same_service old.services new.services _ _ c.put_changes.new.events
    c.put_changes-2.new.events c.as_slice-3.ensures c.as_slice-4.ensures
    (c.in_ok-put_changes-2.ensures same_service Decides-same_service) in
    let tasks =
    put-kind n kind.Task task_id same_task old.tasks new.tasks _ _ c.put_changes-2.new.events c.put_changes-3.new.events
    c.as_slice-5.ensures c.as_slice-6.ensures (c.in_ok-put_changes-3.ensures same_task Decides-same_task) in
    on-ok c.put_changes-4.result
    (λ put.
    all-put (node_events n t u) (service_events n t u) (task_events n t u) (network_events n t u) c.args.events.now
    c.put_changes.new.events c.put_changes-2.new.events c.put_changes-3.new.events c.put_changes-4.new.events nodes services
    tasks
    (put-kind n kind.Network network_id same_network old.networks new.networks _ _ c.put_changes-3.new.events
    c.put_changes-4.new.events c.as_slice-7.ensures c.as_slice-8.ensures put))
    (c.put_changes-4.ensures same_network Decides-same_network)

-- Calls of the examples, and small worlds made by calls.
use Rattle.std.specs.Prelude.{List, None, Option, [], false, map, true, ℕ, ◌∷◌}
use Rattle.swarm_model.proofs.Examples.Usual.{draft}
use Rattle.swarm_model.specs.Calls.{outcome}
use Rattle.swarm_model.specs.History.{replay}
use Rattle.swarm_model.specs.Script.{own_call}
use Rattle.swarm_objects.specs.Defaults.{usual_node, usual_spec, usual_template}
use Rattle.swarm_objects.specs.World.{World}
use Rattle.swarm_objects.specs.declared.calls.Call.{Call}
use Rattle.swarm_objects.specs.declared.calls.Call.TheVariants as call
use Rattle.swarm_objects.specs.declared.calls.Op.{Op}
use Rattle.swarm_objects.specs.declared.calls.Op.TheVariants as op
use Rattle.swarm_objects.specs.declared.nodes.NodeDraft.{NodeDraft}
use Rattle.swarm_objects.specs.declared.replies.Reply.{Reply}
use Rattle.swarm_objects.specs.declared.services.Draft.{Draft}
use Rattle.swarm_objects.specs.declared.services.Mode.{Mode}
use Rattle.swarm_objects.specs.declared.services.Mode.TheVariants as mode
use Rattle.swarm_objects.specs.declared.services.ServiceSpec.{ServiceSpec}
use Rattle.swarm_objects.specs.declared.templates.Port.{Port}
use Rattle.swarm_objects.specs.declared.templates.Template.{Template}
use Rattle.swarm_objects.specs.declared.watches.Filter.{Filter}

abbrev pub world_after : List Call → World
world_after calls = replay (map own_call calls)

-- what a call is answered after others
abbrev pub says : List Call → Call → Reply
says before c = (outcome (world_after before) c).reply

-- the world after a call that comes after others
abbrev pub leaves : List Call → Call → World
leaves before c = (outcome (world_after before) c).after

abbrev pub one : Op → Call
one o = call.Txn (o ∷ [])

abbrev pub plain_node : NodeDraft
plain_node = record usual_node { cpu = 1000; mem = 0 }

abbrev pub remote_draft : NodeDraft
remote_draft = record plain_node { remote = true }

abbrev pub join : List ℕ → Call
join name = one (op.CreateNode name plain_node)

abbrev pub join_remote : List ℕ → Call
join_remote name = one (op.CreateNode name remote_draft)

abbrev pub plain_template : Template
plain_template = record usual_template { cpu = 100 }

abbrev pub plain_spec : Mode → ServiceSpec
plain_spec m = record usual_spec { mode = m; template = plain_template }

abbrev pub draft_of : Mode → Draft
draft_of m = draft (plain_spec m)

abbrev pub plain_draft : Draft
plain_draft = draft_of (mode.Replicated 1)

abbrev pub with_template : Template → Draft
with_template x = draft (record (plain_spec (mode.Replicated 1)) { template = x })

abbrev pub with_ports : List Port → Draft
with_ports ports = draft (record (plain_spec (mode.Replicated 1)) { ports = ports })

abbrev pub on_networks : List (List ℕ) → Draft
on_networks names = record plain_draft { networks = names }

abbrev pub port : ℕ → Option ℕ → Port
port target number = record { target = target; number = number; udp = false }

abbrev pub create : List ℕ → Draft → Call
create name d = one (op.CreateService name d)

abbrev pub update : List ℕ → Option ℕ → Draft → Call
update name asked d = one (op.UpdateService name asked d)

-- the network 10.0.1.0/29
abbrev pub add_network : List ℕ → Call
add_network name = one (op.CreateNetwork name 167772416 29)

abbrev pub all_events : Filter
all_events = record { kind = None; id = None }

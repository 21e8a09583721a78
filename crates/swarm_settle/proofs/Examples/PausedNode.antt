-- A node goes on PAUSE, and keeps its task of a global service.
use Rattle.std.specs.Prelude.{None, [], refl, List, ◌∷◌, codes}
use Rattle.swarm_model.proofs.Examples.Audit.{IsPlayed, Told, asked, did, entries_of, played}
use Rattle.swarm_model.proofs.Examples.Usual.{draft, made, ticks}
use Rattle.swarm_model.proofs.Examples.Words.{one}
use Rattle.swarm_model.specs.History.{replay}
use Rattle.swarm_objects.specs.Defaults.{usual_node, usual_spec}
use Rattle.swarm_objects.specs.World.{empty_world}
use Rattle.swarm_objects.specs.declared.calls.Call.TheVariants as call
use Rattle.swarm_objects.specs.declared.calls.Entry.{Entry}
use Rattle.swarm_objects.specs.declared.calls.Op.TheVariants as op
use Rattle.swarm_objects.specs.declared.duties.Duty.TheVariants as duty
use Rattle.swarm_objects.specs.declared.duties.Settle.TheVariants as settle
use Rattle.swarm_objects.specs.declared.nodes.Availability.TheVariants as availability
use Rattle.swarm_objects.specs.declared.nodes.NodeRole.TheVariants as node_role
use Rattle.swarm_objects.specs.declared.replies.Reply.TheVariants as reply
use Rattle.swarm_objects.specs.declared.services.Mode.TheVariants as mode

abbrev pub journal : List Told
journal =
    asked 0 (one (op.CreateNode (codes "n1") usual_node)) (made 1)
    ∷ did 0 (duty.Register 1)
    ∷ did 0 (duty.Pull 1)
    ∷ did 0 (duty.Apply 1)
    ∷ asked 0 (call.Settle 100000) (reply.Settle 100000 settle.Settled)
    ∷ asked 0 (one (op.CreateService (codes "agent") (draft (record usual_spec { mode = mode.Global })))) (made 3)
    ∷ did 0 (duty.GlobalCreate 3 1)
    ∷ did 0 (duty.Address 4)
    ∷ did 0 (duty.Place 4 1)
    ∷ did 0 (duty.Pull 1)
    ∷ did 0 (duty.Apply 1)
    ∷ did 0 (duty.Exec 1 4)
    ∷ did 0 (duty.Report 1 4)
    ∷ ticks 1
    ∷ did 0 (duty.Exec 1 4)
    ∷ did 0 (duty.Exec 1 4)
    ∷ did 0 (duty.Report 1 4)
    ∷ ticks 1
    ∷ did 0 (duty.Exec 1 4)
    ∷ did 0 (duty.Report 1 4)
    ∷ ticks 8
    ∷ asked 0 (one (op.UpdateNode (codes "n1") None [] node_role.Worker availability.Pause)) (made 1)
    ∷ asked 0 (call.Settle 100000) (reply.Settle 100000 settle.Settled)
    ∷ []

abbrev pub history : List Entry
history = entries_of journal

it_goes_so : IsPlayed empty_world journal (replay history)
it_goes_so = played empty_world journal (replay history) refl

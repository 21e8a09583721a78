-- A service without a node: its task says that there is none.
use Rattle.std.specs.Prelude.{[], refl, List, ◌∷◌, codes}
use Rattle.swarm_model.proofs.Examples.Audit.{IsPlayed, Told, asked, did, entries_of, played}
use Rattle.swarm_model.proofs.Examples.Usual.{draft, made}
use Rattle.swarm_model.proofs.Examples.Words.{one}
use Rattle.swarm_model.specs.History.{replay}
use Rattle.swarm_objects.specs.Defaults.{usual_spec}
use Rattle.swarm_objects.specs.World.{empty_world}
use Rattle.swarm_objects.specs.declared.calls.Call.TheVariants as call
use Rattle.swarm_objects.specs.declared.calls.Entry.{Entry}
use Rattle.swarm_objects.specs.declared.calls.Op.TheVariants as op
use Rattle.swarm_objects.specs.declared.duties.Duty.TheVariants as duty
use Rattle.swarm_objects.specs.declared.duties.Settle.TheVariants as settle
use Rattle.swarm_objects.specs.declared.replies.Reply.TheVariants as reply

abbrev pub journal : List Told
journal =
    asked 0 (one (op.CreateService (codes "web") (draft usual_spec))) (made 1)
    ∷ did 0 (duty.ReplicatedCreate 1 1)
    ∷ did 0 (duty.Address 2)
    ∷ did 0 (duty.Explain 2)
    ∷ asked 0 (call.Settle 72000) (reply.Settle 72000 settle.Settled)
    ∷ []

abbrev pub history : List Entry
history = entries_of journal

it_goes_so : IsPlayed empty_world journal (replay history)
it_goes_so = played empty_world journal (replay history) refl

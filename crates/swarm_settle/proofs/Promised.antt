-- Where no control loop has a duty and all is settled, what runs matches the specifications.
use Rattle.std.proofs.Common.{List, None, Option, Some, refl, sym, ◌∙◌, ◌≡◌}
use Rattle.swarm_model.specs.History.{IsLegal, replay}
use Rattle.swarm_model.specs.Laws.Matches.{Matches}
use Rattle.swarm_model.specs.Settle.{idle_answer, settle_answer}
use Rattle.swarm_objects.specs.Duties.{first_duty}
use Rattle.swarm_objects.specs.Kinds.{roles}
use Rattle.swarm_objects.specs.World.{Tables, World}
use Rattle.swarm_objects.specs.declared.agents.NodeAgent.{NodeAgent}
use Rattle.swarm_objects.specs.declared.calls.Entry.{Entry}
use Rattle.swarm_objects.specs.declared.duties.Duty.{Duty}
use Rattle.swarm_objects.specs.declared.duties.Settle.TheVariants as settle
use Rattle.swarm_objects.specs.declared.duties.Settle.{Settle}
use Rattle.swarm_sessions.specs.OnRecord.{OnRecord}
use Rattle.swarm_settle.proofs.Matched.{settled-matches}
use Rattle.swarm_settle.specs.Rest.{IsAtRest}
use Rattle.swarm_settle.specs.Standing.{StandFor}

-- where no role has a duty, the settle test answers as it does there
at_rest : (w : World) → IsAtRest w → settle_answer w ≡ idle_answer w
at_rest w rest = go (first_duty w roles) rest
  where
    go : (o : Option Duty) → o ≡ None →
        ◌≡◌ {A = Settle} (elim o [ Some d ↦ settle.Busy d | None ↦ idle_answer w ]) (idle_answer w)
    go None e = refl
    go (Some d) e = absurd cc

pub promised : (t : Tables) (s : OnRecord) (agents : List NodeAgent) (answer : Settle) →
    ((w : World) → StandFor t s agents w → answer ≡ idle_answer w) → answer ≡ settle.Settled → (h : List Entry) → IsLegal h →
    StandFor t s agents (replay h) → IsAtRest (replay h) → Matches h
promised t s agents answer says settled h legal stand rest =
    settled-matches h legal (at_rest (replay h) rest ∙ sym (says (replay h) stand) ∙ settled)

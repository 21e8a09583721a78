-- While the time stands, what is new since a moment stays calm.
use Rattle.std.proofs.Common.{subst, sym, ℕ, ◌+◌}
use Rattle.swarm_settle.proofs.Bound.Calm.Duties.{duty-calm}
use Rattle.swarm_settle.proofs.Bound.Calm.Executors.{duty-begun, tells-little}
use Rattle.swarm_settle.proofs.Bound.Calm.World.{IsBegun, IsCalm}
use Rattle.swarm_settle.proofs.Bound.Counting.{MayCome}
use Rattle.swarm_settle.proofs.Bound.Messages.World.{Known, known-stays}
use Rattle.swarm_model.proofs.Base.FromLists.{IsDuty-due}
use Rattle.swarm_model.proofs.Base.Histories.{room_duty}
use Rattle.swarm_model.proofs.Base.IsDuty.{IsDuty}
use Rattle.swarm_model.proofs.Following.Clock.{duty-clock}
use Rattle.swarm_model.specs.History.{effect}
use Rattle.swarm_objects.specs.Duties.{effect_by}
use Rattle.swarm_objects.specs.Rows.{Has}
use Rattle.swarm_objects.specs.World.{World}
use Rattle.swarm_objects.specs.declared.agents.NodeAgent.{NodeAgent}
use Rattle.swarm_objects.specs.declared.duties.Duty.{Duty}

pub calm-effect : (m : ℕ) (w : World) (d : Duty) → Known w → IsDuty w d → IsCalm m w → IsCalm m (effect w d)
calm-effect m w d known of is =
    let n = w.entries + 1 in
    let little = tells-little m w known.orderly known.gives known.steps known.ranks is.agents in
    let begun = duty-begun m n w d known.orderly known.gives known.ranks known.timed of is.agents in
    let tables = duty-calm m n w d known.orderly known.gives known.proper.heartbeat little of is.tables in
    record {
      tables = record { made = tables.made; early = tables.early; placed = tables.placed };
      agents = subst (λ (clock : ℕ). (a : NodeAgent) → Has (effect_by n w d).agents a → IsBegun m clock a)
          (sym (duty-clock w d)) begun;
    }

-- beside what is known of each world
pub calm-stays : (m : ℕ) (w : World) (d : Duty) → Known w × IsCalm m w → MayCome w d →
    Known (effect w d) × IsCalm m (effect w d)
calm-stays m w d is may =
    (known-stays w d is.0 may, calm-effect m w d is.0 (IsDuty-due w d (room_duty w d may).2) is.1)

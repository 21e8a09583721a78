-- What a world that a call may be handed has, and that of a legal history too.
use Rattle.std.proofs.Common.{sym, subst}
use Rattle.swarm_duties.specs.Reached.{IsReached}
use Rattle.swarm_model.proofs.Laws.GivesOutReplay.{IsOrderedBeside-replay, IsSound-replay}
use Rattle.swarm_model.proofs.Laws.Orderly.{orderly-replay}
use Rattle.swarm_model.proofs.Laws.Small.{IsSmall-replay}
use Rattle.swarm_model.proofs.Moves.Worlds.{IsOrderly}
use Rattle.swarm_objects.specs.Bounds.{IsSmall}
use Rattle.swarm_objects.specs.Rows.{network_id, node_id, service_id, task_id}
use Rattle.swarm_objects.specs.Sound.{IsOrderedBeside, IsSound}
use Rattle.swarm_objects.specs.Usable.{IsUsableWorld}
use Rattle.swarm_objects.specs.World.{World}
use Rattle.swarm_objects.proofs.RowChanges.{rising_from}
use Rattle.swarm_plain.specs.Entries.{HasOrder}

pub order : (w : World) → IsUsableWorld w → HasOrder w.tables
order w is = record {
  nodes = rising_from node_id 0 w.tables.nodes is.sound.ordered.nodes;
  services = rising_from service_id 0 w.tables.services is.sound.ordered.services;
  tasks = rising_from task_id 0 w.tables.tasks is.sound.ordered.tasks;
  networks = rising_from network_id 0 w.tables.networks is.sound.ordered.networks;
  below = is.sound.below;
}

-- Worlds that are reached.

pub usable : (w : World) → IsReached w → IsUsableWorld w
usable w is = record {
  sound = subst (λ (v : World). IsSound v.tables) (sym is.world) (IsSound-replay is.history is.legal);
  beside = subst IsOrderedBeside (sym is.world) (IsOrderedBeside-replay is.history is.legal);
  small = subst IsSmall (sym is.world) (IsSmall-replay is.history is.legal);
}

pub orderly : (w : World) → IsReached w → IsOrderly w
orderly w is = subst IsOrderly (sym is.world) (orderly-replay is.history is.legal)

-- What a duty leaves of the events that wait and of the order of rows, for its entry.
use Rattle.std.proofs.Common.{◌≡◌, ℕ, ◌+◌, [], refl, true, Option, Some, None}
use Rattle.swarm_model.proofs.Base.FromLists.{IsDuty-due}
use Rattle.swarm_model.proofs.Laws.Sound.{rows-below, rows-rise}
use Rattle.swarm_model.proofs.Moves.EachDuty.{effect-moves}
use Rattle.swarm_model.proofs.Moves.Worlds.{IsOrderly, orderly-moves}
use Rattle.swarm_model.proofs.Watching.Watchers.{duty-watchers, same-sees}
use Rattle.swarm_model.specs.History.{effect}
use Rattle.swarm_objects.proofs.RowChanges.{rising_from}
use Rattle.swarm_objects.specs.Agents.Messages.{message_for}
use Rattle.swarm_objects.specs.Duties.{effect_by, is_due}
use Rattle.swarm_objects.specs.Loops.Agents.{after_pull}
use Rattle.swarm_objects.specs.Rows.{network_id, node_id, service_id, task_id}
use Rattle.swarm_objects.specs.World.{World}
use Rattle.swarm_objects.specs.declared.duties.Duty.{Duty}
use Rattle.swarm_objects.specs.declared.duties.Duty.TheVariants as duty
use Rattle.swarm_objects.specs.declared.messages.Message.{Message}
use Rattle.swarm_plain.proofs.EntryLemmas.{kept-unseen_by}
use Rattle.swarm_plain.specs.Entries.{HasOrder, entered_unseen}

-- Order.

pub order-of : (w : World) → IsOrderly w → HasOrder w.tables
order-of w is =
    let rows = rows-rise w is in
    record {
      nodes = rising_from node_id 0 w.tables.nodes rows.nodes;
      services = rising_from service_id 0 w.tables.services rows.services;
      tasks = rising_from task_id 0 w.tables.tasks rows.tasks;
      networks = rising_from network_id 0 w.tables.networks rows.networks;
      below = rows-below w is;
    }

pub order-duty : (w : World) (d : Duty) → IsOrderly w → is_due w d ≡ true → HasOrder (effect_by (w.entries + 1) w d).tables
order-duty w d is due = order-of (effect w d) (orderly-moves w (effect w d) is (effect-moves w d is (IsDuty-due w d due)))

-- Events.

pull-events : (w : World) (node : ℕ) (m : Option Message) → (after_pull w node m).events ≡ w.events
pull-events w node None = refl
pull-events w node (Some m) = refl

pub events-duty : (version : ℕ) (w : World) (d : Duty) → (effect_by version w d).events ≡ w.events
events-duty version w (duty.Pull n) = pull-events w n (message_for w n)
events-duty version w _ = refl

-- where nobody watches, the entry only counts
pub unwatched-duty : (w : World) (d : Duty) → w.watchers ≡ [] →
    effect w d ≡ entered_unseen (w.entries + 1) (effect_by (w.entries + 1) w d)
unwatched-duty w d none =
    let v = effect_by (w.entries + 1) w d in
    kept-unseen_by w v none (same-sees w v (duty-watchers (w.entries + 1) w d)) (events-duty (w.entries + 1) w d)

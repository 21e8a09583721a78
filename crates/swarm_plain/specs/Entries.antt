-- The entry that a call becomes.
use Rattle.std.specs.Prelude.{ℕ, Bool, Err, ◌≡◌, ◌⊎◌, false, filter, true}
use Rattle.swarm_model.specs.Calls.{answered}
use Rattle.swarm_model.specs.Calls.Watches.{is_waited_for}
use Rattle.swarm_model.specs.Outcome.{Gives}
use Rattle.swarm_objects.specs.Rows.{IsRising, network_id, node_id, service_id, task_id}
use Rattle.swarm_objects.specs.Sound.{IsBelowNext}
use Rattle.swarm_objects.specs.World.{Tables, World}
use Rattle.swarm_objects.specs.declared.calls.Call.{Call}
use Rattle.swarm_objects.specs.declared.calls.Call.TheVariants as call
use Rattle.swarm_objects.specs.declared.replies.Refusal.{Refusal}
use Rattle.swarm_objects.specs.declared.replies.Refusal.TheVariants as refusal
use Rattle.swarm_objects.specs.declared.replies.Reply.{Reply}
use Rattle.swarm_objects.specs.declared.replies.Reply.TheVariants as reply

-- the rows whose changes are told stand by rising id, below the next one
pub record HasOrder (t : Tables) : Type 0 where
  pub nodes : IsRising node_id t.nodes
  pub services : IsRising service_id t.services
  pub tasks : IsRising task_id t.tasks
  pub networks : IsRising network_id t.networks
  pub below : IsBelowNext t

-- a call that changes no row of which changes are told
abbrev pub keeps_rows : Call → Bool
keeps_rows (call.View asked) = true
keeps_rows (call.WatchBegin f) = true
keeps_rows (call.WatchPoll id) = true
keeps_rows (call.WatchFinish id) = true
keeps_rows (call.Tick ms) = true
keeps_rows call.Halt = true
keeps_rows _ = false

-- a refused call is an entry that changes nothing else; where memory was wanting it is none
abbrev pub Refuses : World → Refusal → Reply → World → Type 0
Refuses before why told after =
    ((why ≡ refusal.NoMemory) × (told ≡ reply.Refused refusal.NoMemory) × (after ≡ before))
    ⊎ ((why ≡ refusal.NoMemory → ⊥) × Gives (answered before (Err why)) told after)

-- the entry with this number made this world, and nobody waits for a change of it
abbrev pub entered_unseen : ℕ → World → World
entered_unseen entry w = record w { entries = entry; events = filter (is_waited_for w.watchers) w.events }

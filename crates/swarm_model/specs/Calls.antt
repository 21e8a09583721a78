pub mod Beside
pub mod Cluster
pub mod Faults
pub mod Networks
pub mod Nodes
pub mod Operations
pub mod Refusals
pub mod Remote
pub mod Services
pub mod Views
pub mod Watches
-- What a call is answered in a world, and the world after it.
use Rattle.std.specs.Prelude.{◌+◌, Err, Ok, List, Result, ℕ, [], if◌then◌else◌, length, nat_lt, not, true, Bool, nat_le, ◌&&◌, None, Option, Some}
use Rattle.swarm_objects.specs.Agents.NodeAgents.{failed_agent, in_mode, mode_after_start, mode_after_stop, started_agent}
use Rattle.swarm_model.specs.Calls.Faults.{on_agent}
use Rattle.swarm_model.specs.Calls.Operations.{apply_ops}
use Rattle.swarm_objects.specs.Refusals.{refuse, unless}
use Rattle.swarm_model.specs.Calls.Remote.{remote_beat, remote_begin, remote_pull, remote_status}
use Rattle.swarm_model.specs.Calls.Views.{View, shows}
use Rattle.swarm_model.specs.Calls.Watches.{kept_events, watch_begin, watch_finish, watch_poll}
use Rattle.swarm_model.specs.Outcome.{Answered, Outcome}
use Rattle.swarm_model.specs.Settle.{settle_answer}
use Rattle.swarm_objects.specs.CallWords.{is_halt}
use Rattle.swarm_objects.specs.Changes.{with_tables}
use Rattle.swarm_objects.specs.Limits.{most_ops, is_tick, most_entries}
use Rattle.swarm_objects.specs.Rows.{watcher_id, row_at}
use Rattle.swarm_objects.specs.World.{World}
use Rattle.swarm_objects.specs.declared.calls.Call.{Call}
use Rattle.swarm_objects.specs.declared.calls.Call.TheVariants as call
use Rattle.swarm_objects.specs.declared.calls.Op.{Op}
use Rattle.swarm_objects.specs.declared.replies.Refusal.{Refusal}
use Rattle.swarm_objects.specs.declared.replies.Refusal.TheVariants as refusal
use Rattle.swarm_objects.specs.declared.replies.Reply.TheVariants as reply

-- the new world, with one entry more than the old one, and the events that are waited for
abbrev pub entered : World → World → World
entered old new = record new { entries = old.entries + 1; events = kept_events old new new.watchers }

-- a call that is refused changes nothing but the number of entries
abbrev pub answered : World → Answered → Outcome
answered w (Ok done) = record { reply = done.0; after = entered w done.1 }
answered w (Err r) = record { reply = reply.Refused r; after = record w { entries = w.entries + 1 } }

-- a transaction does all of its operations, or none
abbrev pub txn_answer : Result (World × List ℕ) Refusal → Answered
txn_answer (Ok done) = Ok (reply.Txn done.1, done.0)
txn_answer (Err r) = Err r

abbrev pub txn : ℕ → World → List Op → Answered
txn version w ops =
    if nat_lt most_ops (length ops) then Err (refusal.TooManyOps (length ops))
    else txn_answer (apply_ops version ops w [])

-- a query changes nothing
abbrev pub viewed : World → View → Answered
viewed w (Ok v) = Ok (reply.View v, w)
viewed w (Err r) = Err r

abbrev pub ticked : World → ℕ → World
ticked w ms = with_tables w (record w.tables { clock = w.tables.clock + ms })

abbrev pub tick : World → ℕ → Answered
tick w ms = unless (refuse (not (is_tick ms)) (refusal.BadTick ms)) (reply.Ticked, ticked w ms)

abbrev pub halted : World → World
halted w = record w { halted = true }

-- the answer to a call that is the entry with this number
abbrev pub answer : ℕ → World → Call → Answered
answer version w (call.Txn ops) = txn version w ops
answer version w (call.View asked) = viewed w (shows w.tables asked)
answer version w (call.WatchBegin f) = watch_begin version w f
answer version w (call.WatchPoll id) = watch_poll version w id (row_at watcher_id id w.watchers)
answer version w (call.WatchFinish id) = watch_finish w id (row_at watcher_id id w.watchers)
answer version w (call.Tick ms) = tick w ms
answer version w (call.Settle budget) = Ok (reply.Settle budget (settle_answer w), w)
answer version w (call.NodeFail name) = on_agent w name (failed_agent w.tables.clock)
answer version w (call.NodeStart name) = on_agent w name started_agent
answer version w (call.AgentStop name) = on_agent w name (in_mode mode_after_stop)
answer version w (call.AgentStart name) = on_agent w name (in_mode mode_after_start)
answer version w (call.RemoteBegin name cpu mem) = remote_begin version w name cpu mem
answer version w (call.RemoteBeat name session) = remote_beat w name session
answer version w (call.RemotePull name session) = remote_pull w name session
answer version w (call.RemoteStatus name session task s) = remote_status version w name session task s
answer version w call.Halt = Ok (reply.HaltDone, halted w)

-- what a call that becomes an entry is answered, and the world after it
abbrev pub call_outcome : World → Call → Outcome
call_outcome w c = answered w (answer (w.entries + 1) w c)

-- the history has no room for the call; there is always room for Halt
abbrev pub is_full : World → Call → Bool
is_full w c = not (is_halt c) && nat_le most_entries w.entries

-- the call becomes an entry
abbrev pub is_admitted : World → Call → Bool
is_admitted w c = not w.halted && not (is_full w c)

abbrev pub no_entry : World → Refusal → Outcome
no_entry w r = record { reply = reply.Refused r; after = w }

-- why a call becomes no entry, if it doesn't
abbrev pub refusal_of : World → Call → Option Refusal
refusal_of w c = if w.halted then Some refusal.Halted else if is_full w c then Some (refusal.Full w.entries) else None

-- a call that is refused so is no entry
abbrev pub unless_refused : Option Refusal → World → Outcome → Outcome
unless_refused None w done = done
unless_refused (Some r) w done = no_entry w r

-- what any call is answered, and the world after it; a call that is no entry changes nothing
abbrev pub outcome : World → Call → Outcome
outcome w c = unless_refused (refusal_of w c) w (call_outcome w c)

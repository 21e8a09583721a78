-- The parts of the world, and the worlds that they stand for.
use Rattle.std.specs.Prelude.{◌≡◌, ◌+◌, ◌⊎◌, Bool, false, true, ℕ, List, Result, Ok, Err, OnOk, length, map}
use Rattle.swarm_agent.specs.Times.{seen_agent}
use Rattle.swarm_model.specs.Calls.{answer}
use Rattle.swarm_model.specs.Changed.{changes_between}
use Rattle.swarm_model.specs.History.{IsLegal, replay, step}
use Rattle.swarm_objects.specs.Duties.{is_due}
use Rattle.swarm_objects.specs.World.{World}
use Rattle.swarm_objects.specs.declared.calls.Call.{Call}
use Rattle.swarm_objects.specs.declared.calls.Call.TheVariants as call
use Rattle.swarm_objects.specs.declared.calls.Entry.{Entry}
use Rattle.swarm_objects.specs.declared.calls.What.{What}
use Rattle.swarm_objects.specs.declared.duties.Duty.{Duty}
use Rattle.swarm_objects.specs.declared.replies.Refusal.{Refusal}
use Rattle.swarm_objects.specs.declared.replies.Refusal.TheVariants as refusal
use Rattle.swarm_objects.specs.declared.replies.Reply.{Reply}
use Rattle.swarm_objects.specs.declared.replies.Reply.TheVariants as reply
use Rattle.swarm_watch.specs.Calls.{hears}
use Rattle.swarm_watch.specs.Worlds.{StandsFor as Watch}
use Rattle.swarm_world.specs.Inside.Records.{HasRecords}
use Rattle.swarm_world.specs.declared.parts.Parts.{Parts}

-- but for the watches, each part is that of the world: rows, sessions, what was sent and whether it is halted are
-- equal, and the agents are its agents but for times that no step looks at
pub record HasParts (p : Parts) (w : World) : Type 0 where
  pub records : HasRecords p.records w
  pub sent : p.sent ≡ w.sent
  pub agents : p.agents ≡ map seen_agent w.agents
  pub halted : p.halted ≡ w.halted

-- and the watches stand for its watchers and what waits for them
pub record StandsFor (p : Parts) (w : World) : Type 0 where
  pub has : HasParts p w
  pub watches : Watch p.watches w

-- they stand for the world of this legal history, and the next entry has this number
pub record IsAt (version : ℕ) (p : Parts) (h : List Entry) : Type 0 where
  pub legal : IsLegal h
  pub number : version ≡ length h + 1
  pub stands : StandsFor p (replay h)

-- they stand for the world of some legal history
pub record HasHistory (p : Parts) : Type 0 where
  pub history : List Entry
  pub legal : IsLegal history
  pub stands : StandsFor p (replay history)

-- in whose world this duty is due
pub record HasDuty (d : Duty) (p : Parts) : Type 0 where
  pub history : List Entry
  pub legal : IsLegal history
  pub stands : StandsFor p (replay history)
  pub due : is_due (replay history) d ≡ true

-- Entries.

-- the three calls that come to, ask or leave a watcher
abbrev pub is_watch_call : Call → Bool
is_watch_call (call.WatchBegin f) = true
is_watch_call (call.WatchPoll id) = true
is_watch_call (call.WatchFinish id) = true
is_watch_call _ = false

-- they stand for the world after the entry; or memory was wanting, and they stand for the one before it
abbrev pub Enters : {X E : Type 0} → List Entry → What → Result X E → Parts → Type 0
Enters h e (Ok done) after = StandsFor after (step (replay h) e).after
Enters h e (Err wanting) after = StandsFor after (replay h)

-- and the entry has this reply
abbrev pub Replies : {E : Type 0} → List Entry → What → Result Reply E → Parts → Type 0
Replies h e (Ok reply) after =
    (reply ≡ (step (replay h) e).reply) × StandsFor after (step (replay h) e).after
Replies h e (Err wanting) after = StandsFor after (replay h)

-- Answers of calls, before they are counted.

-- the parts have what the call makes of the world, and the watchers heard of it
pub record IsAnswered (version : ℕ) (h : List Entry) (c : Call) (before : Parts) (reply : Reply) (after : Parts) :
    Type 0 where
  pub world : World
  pub answer_is : answer version (replay h) c ≡ Ok (reply, world)
  pub has : HasParts after world
  pub heard : after.watches.watchers
      ≡ map (hears (changes_between version (replay h).tables world.tables)) before.watches.watchers

-- it was answered so; or refused so, or memory was wanting, and nothing changed
abbrev pub Answers : ℕ → List Entry → Call → Parts → Result Reply Refusal → Parts → Type 0
Answers version h c before (Ok reply) after = IsAnswered version h c before reply after
Answers version h c before (Err r) after =
    ((r ≡ refusal.NoMemory) ⊎ (answer version (replay h) c ≡ Err r)) × StandsFor after (replay h)

-- the refusal is told, unless it says that memory was wanting
abbrev pub Tells : {E : Type 0} → Refusal → Result Reply E → Type 0
Tells r result =
    ((r ≡ refusal.NoMemory) × OnOk result ⊥) ⊎ ((r ≡ refusal.NoMemory → ⊥) × (result ≡ Ok (reply.Refused r)))

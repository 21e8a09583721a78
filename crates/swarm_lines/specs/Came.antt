-- What came since caller 0 saw a history: its calls, looks and steps, whatever others append.
use Rattle.std.specs.Prelude.{◌≡◌, ◌⊎◌, List, [], ◌∷◌, ◌++◌, None, Some, true}
use Rattle.swarm_model.specs.History.{replay, step_reply}
use Rattle.swarm_model.specs.Own.{Step, own_from, step_at}
use Rattle.swarm_model.specs.Script.{is_busy, own_call, own_duty}
use Rattle.swarm_model.specs.Settle.{settle_answer}
use Rattle.swarm_objects.specs.Duties.{duties}
use Rattle.swarm_objects.specs.Kinds.{duty_named, role_of}
use Rattle.swarm_objects.specs.Rows.{first_of}
use Rattle.swarm_objects.specs.declared.calls.Call.{Call}
use Rattle.swarm_objects.specs.declared.calls.Call.TheVariants.{Halt}
use Rattle.swarm_objects.specs.declared.calls.Entry.{Entry}
use Rattle.swarm_objects.specs.declared.duties.Duty.{Duty}
use Rattle.swarm_objects.specs.declared.loops.Role.{Role}
use Rattle.swarm_objects.specs.declared.replies.Reply.{Reply}
use Rattle.swarm_cluster.specs.Looks.{Shows}
use Rattle.swarm_cluster.specs.declared.works.Look.{Look}
use Rattle.swarm_world.specs.Work.{IsFull, IsHalted}
use Rattle.swarm_lines.specs.declared.unanswered.Unanswered.{Unanswered}
use Rattle.swarm_lines.specs.declared.unanswered.Unanswered.TheVariants.{Full, NoMemory}

-- the history went on from what was seen, with these entries of caller 0
pub record Came (old new : List Entry) (part : List Step) : Type 0 where
  pub rest : List Entry
  pub history : new ≡ old ++ rest
  pub steps : own_from 0 old rest ≡ part

-- with none of its own
abbrev pub Stays : List Entry → List Entry → Type 0
Stays old new = Came old new []

-- one of its own came last, and others before it
pub record Appended (old new : List Entry) (e : Entry) : Type 0 where
  pub before : List Entry
  pub others : Stays old before
  pub history : new ≡ before ++ e ∷ []
  pub came : Came old new (step_at before e ∷ [])

pub record Answered (old new : List Entry) (call : Call) (reply : Reply) : Type 0 where
  pub one : Appended old new (own_call call)
  pub reply_is : reply ≡ step_reply (replay one.before) (own_call call)

-- a turn of the control loop did its first duty
pub record Turned (old new : List Entry) (role : Role) : Type 0 where
  pub duty : Duty
  pub one : Appended old new (own_duty duty)
  pub first : first_of (duties role (replay one.before)) ≡ Some duty

-- the duty that the settle test named was done
pub record Advanced (old new : List Entry) : Type 0 where
  pub looked : List Entry
  pub others : Stays old looked
  pub named : Duty
  pub busy : duty_named (settle_answer (replay looked)) ≡ Some named
  pub turned : Turned looked new (role_of named)

-- the settle test names none, as the look tells
pub record IsIdle (look : Look) (old new : List Entry) : Type 0 where
  pub others : Stays old new
  pub shows : Shows look (replay new)
  pub none : duty_named (settle_answer (replay new)) ≡ None

-- none of its own came, and this is why
abbrev pub StaysBy : Unanswered → List Entry → List Entry → Type 0
StaysBy Full old new = Stays old new × IsFull new
StaysBy NoMemory old new = Stays old new

-- Halt came, or stood there before
abbrev pub Halts : List Entry → List Entry → Type 0
Halts old new = Appended old new (own_call Halt) ⊎ (Stays old new × IsHalted new)

-- the same of a duty that the settle test named
abbrev pub StaysBusy : Unanswered → List Entry → List Entry → Type 0
StaysBusy Full old new = Stays old new × IsFull new × (is_busy (replay new) ≡ true)
StaysBusy NoMemory old new = Stays old new

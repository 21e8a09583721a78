-- What is known of the whole history once all passes have come back, and what it has to do with what caller 0 kept.
use Rattle.std.specs.Prelude.{◌≡◌, ℕ, ◌+◌, ◌<◌, ◌≤◌, List, [], ◌∷◌, ◌++◌, true}
use Rattle.std.specs.List.{list_all}
use Rattle.script_grammar.specs.HasText.{call_has_text}
use Rattle.swarm_input.specs.Streams.{Stream}
use Rattle.swarm_lines.specs.Came.{Halts, Stays}
use Rattle.swarm_lines.specs.Lengths.{is_short}
use Rattle.swarm_lines.specs.ScriptSteps.{IsRead}
use Rattle.swarm_lines.specs.declared.endings.Ending.{Ending}
use Rattle.swarm_model.specs.Script.{is_of_a_caller, own_call, share}
use Rattle.swarm_objects.specs.Kinds.{role_of}
use Rattle.swarm_objects.specs.Rows.{Has}
use Rattle.swarm_objects.specs.declared.calls.Call.TheVariants.{Halt}
use Rattle.swarm_objects.specs.declared.calls.Call.{Call}
use Rattle.swarm_objects.specs.declared.calls.Entry.{Entry}
use Rattle.swarm_objects.specs.declared.calls.What.TheVariants.{Call as Called, Duty as Done}
use Rattle.swarm_objects.specs.declared.duties.Duty.{Duty}
use Rattle.swarm_objects.specs.declared.loops.Role.{Role}
use Rattle.turn_cell.specs.Entries.{mine_of}

-- the entry is a duty of one of these control loops
abbrev pub IsDutyOf : List Role → Entry → Type 0
IsDutyOf rs e = (d : Duty) × (e.what ≡ Done d) × Has rs (role_of d)

-- callers above the workers have nothing, and each worker has duties of its share
pub record AreShared (workers : ℕ) (H : List Entry) : Type 0 where
  pub none : (n : ℕ) → workers + 1 ≤ n → mine_of (λ e. e.by) n H ≡ []
  pub shares : (n : ℕ) → 0 < n → n ≤ workers → (m : ℕ × Entry) → Has (mine_of (λ e. e.by) n H) m →
      IsDutyOf (share n workers) m.1

-- a script was read, with Halt behind it, and the whole history has no more of caller 0 than it has seen
pub record AreBack (workers : ℕ) (ending : Ending) (script out : Stream) (H : List Entry) : Type 0 where
  pub now : List Entry
  pub read : IsRead ending script out now
  pub last : List Entry
  pub halts : Halts now last
  pub stays : Stays last H
  pub shared : AreShared workers H

-- Halt ends the history, before which caller 0 saw what it kept
pub record IsClosed (workers : ℕ) (ending : Ending) (script out : Stream) (H : List Entry) : Type 0 where
  pub now : List Entry
  pub read : IsRead ending script out now
  pub start : List Entry
  pub stays : Stays now start
  pub ends : H ≡ start ++ own_call Halt ∷ []
  pub callers : list_all (is_of_a_caller workers) H ≡ true

-- a journal can have the entry, if it is a call; each duty has a text
pub record IsWritable (e : Entry) : Type 0 where
  pub few : e.by ≤ 16
  pub call : (c : Call) → e.what ≡ Called c → (call_has_text c ≡ true) × (is_short e ≡ true)

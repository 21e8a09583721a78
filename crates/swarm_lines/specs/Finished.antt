-- What a finished history has to do with the script and with what was put, with workers and without.
use Rattle.std.specs.Prelude.{◌≡◌, ℕ, List}
use Rattle.swarm_input.specs.Streams.{Stream}
use Rattle.swarm_lines.specs.Callers.{FollowsScript, PutsOf, PutsOwnReplies}
use Rattle.swarm_lines.specs.OfScript.{IsOfScript, PutsUpToLast}
use Rattle.swarm_lines.specs.ScriptSteps.{KeepsScript, PutsToLast}
use Rattle.swarm_lines.specs.declared.endings.Ending.{Ending}
use Rattle.swarm_model.specs.History.{replies}
use Rattle.swarm_model.specs.Own.{own_replies}
use Rattle.swarm_objects.specs.declared.calls.Entry.{Entry}

-- what was kept of the script, and what was put, by the way that the run ends
pub record Stands (ending : Ending) (script out : Stream) (now : List Entry) : Type 0 where
  pub lines : KeepsScript ending script.before script.after now
  pub answers : PutsOf ending out (own_replies 0 now) (PutsToLast out now)

pub record IsFinished (workers : ℕ) (ending : Ending) (script out : Stream) (H : List Entry) : Type 0 where
  pub follows : FollowsScript workers ending script.before script.after H
  pub own_answers : PutsOwnReplies ending out H
  -- without workers it is the one history that a single caller makes
  pub lines : workers ≡ 0 → IsOfScript ending script.before script.after H
  pub answers : workers ≡ 0 → PutsOf ending out (replies H) (PutsUpToLast out H)

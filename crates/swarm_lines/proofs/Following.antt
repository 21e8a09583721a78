-- What caller 0 kept makes the whole history follow the script, with any number of workers.
use Rattle.std.proofs.Common.{◌≡◌, ℕ, List, [], ◌∷◌, ◌++◌, map, true, Option, Some, None, sym, subst}
use Rattle.std.specs.List.{list_all}
use Rattle.script_grammar.specs.declared.lines.Line.{Line}
use Rattle.swarm_input.specs.Script.{Reading, reading}
use Rattle.swarm_input.specs.Streams.{PutsThenPrefix, Stream}
use Rattle.swarm_lines.proofs.Joining.{last_done, last_still, some_still, stop_still}
use Rattle.swarm_lines.specs.Callers.{FollowsScript, PutsOwnUpToLast, output}
use Rattle.swarm_lines.specs.Came.{Stays}
use Rattle.swarm_lines.specs.Putting.{part_out}
use Rattle.swarm_lines.specs.ScriptSteps.{KeepsAllLines, KeepsDone, KeepsLast, KeepsScript, KeepsStop, PutsToLast, next_asked}
use Rattle.swarm_lines.specs.Serial.{asked}
use Rattle.swarm_lines.specs.declared.endings.Ending.{Ending}
use Rattle.swarm_lines.specs.declared.endings.Ending.TheVariants.{Done, Refused, ReadFault, OutFault, JournalFault, NoMemory, NoMemoryAt, BadLine, Full}
use Rattle.swarm_model.proofs.Following.Kept.{kept-law}
use Rattle.swarm_model.proofs.Following.KeptLast.{kept-last-law, kept-undone-law}
use Rattle.swarm_model.specs.Follows.{FollowsPart}
use Rattle.swarm_model.specs.History.{IsLegal}
use Rattle.swarm_model.specs.Kept.{KeepsCut}
use Rattle.swarm_model.specs.Own.{Step}
use Rattle.swarm_model.specs.Script.{is_of_a_caller, own_call}
use Rattle.swarm_model.specs.Undone.{FollowsUndone}
use Rattle.swarm_objects.specs.declared.calls.Call.TheVariants.{Halt}
use Rattle.swarm_objects.specs.declared.calls.Entry.{Entry}

-- Others may append before Halt.

done_still : (done : List Line) (now start : List Entry) → Stays now start → KeepsDone done now → KeepsDone done start
done_still done now start s keeps = some_still (map asked done) None now start s keeps

all_still : (script : Reading) (now start : List Entry) → Stays now start → KeepsAllLines script now →
    KeepsAllLines script start
all_still script now start s keeps = (keeps.0, done_still script.said now start s keeps.1)

pub script_still : (e : Ending) (a b : Option (List ℕ)) (now start : List Entry) → Stays now start →
    KeepsScript e a b now → KeepsScript e a b start
script_still e None b now start s keeps = tt
script_still e (Some input) None now start s keeps = absurd keeps
script_still Done (Some input) (Some left) now start s keeps = all_still (reading input) now start s keeps
script_still Refused (Some input) (Some left) now start s keeps = all_still (reading input) now start s keeps
script_still JournalFault (Some input) (Some left) now start s keeps = all_still (reading input) now start s keeps
script_still (BadLine number fault) (Some input) (Some left) now start s keeps =
    (keeps.0, done_still (reading input).said now start s keeps.1)
script_still (NoMemoryAt number fault) (Some input) (Some left) now start s keeps =
    (keeps.0, done_still (reading input).said now start s keeps.1)
script_still ReadFault (Some input) (Some left) now start s keeps =
    record { taken = keeps.taken; bytes = keeps.bytes; lines = all_still _ now start s keeps.lines }
script_still Full (Some input) (Some left) now start s keeps = record {
  done = keeps.done;
  next = keeps.next;
  left = keeps.left;
  lines = keeps.lines;
  keeps = stop_still keeps.done keeps.next now start s keeps.keeps;
}
script_still OutFault (Some input) (Some left) now start s keeps = record {
  done = keeps.done;
  last = keeps.last;
  left = keeps.left;
  lines = keeps.lines;
  earlier = keeps.earlier;
  later = keeps.later;
  keeps = last_still keeps.done keeps.last keeps.earlier keeps.later now start s keeps.keeps;
}
script_still NoMemory (Some input) (Some left) now start s keeps = record {
  done = keeps.done;
  left = keeps.left;
  lines = keeps.lines;
  keeps = some_still (map asked keeps.done) (next_asked keeps.left) now start s keeps.keeps;
}

pub put_still : (out : Stream) (now start : List Entry) → Stays now start → PutsToLast out now → PutsToLast out start
put_still out now start s puts = record {
  done = puts.done;
  last = puts.last;
  earlier = puts.earlier;
  later = puts.later;
  keeps = last_still puts.done puts.last puts.earlier puts.later now start s puts.keeps;
  puts = puts.puts;
}

-- The history follows the lines.

-- the history ends with Halt, is legal, and has no other callers
pub record Ends (workers : ℕ) (start : List Entry) : Type 0 where
  pub legal : IsLegal (start ++ own_call Halt ∷ [])
  pub callers : list_all (is_of_a_caller workers) (start ++ own_call Halt ∷ []) ≡ true

abbrev pub halted : List Entry → List Entry
halted start = start ++ own_call Halt ∷ []

follows_done : (workers : ℕ) (done : List Line) (start : List Entry) → Ends workers start → KeepsDone done start →
    FollowsPart (halted start) (map asked done) None workers
follows_done workers done start ends keeps =
    kept-law workers (map asked done) None start ends.legal ends.callers keeps

follows_stop : (workers : ℕ) (done : List Line) (next : Line) (start : List Entry) → Ends workers start →
    KeepsStop done next start → FollowsUndone (halted start) (map asked done) (Some (asked next)) workers
follows_stop workers done next start ends k =
    kept-undone-law workers (map asked done) (Some (asked next)) k.earlier k.later start ends.legal ends.callers k.steps
    k.keeps k.undone

pub follows_script : (workers : ℕ) (e : Ending) (a b : Option (List ℕ)) (start : List Entry) → Ends workers start →
    KeepsScript e a b start → FollowsScript workers e a b (halted start)
follows_script workers e None b start ends keeps = tt
follows_script workers e (Some input) None start ends keeps = absurd keeps
follows_script workers Done (Some input) (Some left) start ends keeps =
    (keeps.0, follows_done workers (reading input).said start ends keeps.1)
follows_script workers Refused (Some input) (Some left) start ends keeps =
    (keeps.0, follows_done workers (reading input).said start ends keeps.1)
follows_script workers JournalFault (Some input) (Some left) start ends keeps =
    (keeps.0, follows_done workers (reading input).said start ends keeps.1)
follows_script workers (BadLine number fault) (Some input) (Some left) start ends keeps =
    (keeps.0, follows_done workers (reading input).said start ends keeps.1)
follows_script workers (NoMemoryAt number fault) (Some input) (Some left) start ends keeps =
    (keeps.0, follows_done workers (reading input).said start ends keeps.1)
follows_script workers ReadFault (Some input) (Some left) start ends keeps = record {
  taken = keeps.taken;
  bytes = keeps.bytes;
  lines = (keeps.lines.0, follows_done workers _ start ends keeps.lines.1);
}
follows_script workers Full (Some input) (Some left) start ends keeps = record {
  done = keeps.done;
  next = keeps.next;
  left = keeps.left;
  lines = keeps.lines;
  follows = follows_stop workers keeps.done keeps.next start ends keeps.keeps;
}
follows_script workers OutFault (Some input) (Some left) start ends keeps = record {
  done = keeps.done;
  last = keeps.last;
  left = keeps.left;
  lines = keeps.lines;
  follows = follows_done workers (keeps.done ++ keeps.last ∷ []) start ends
      (last_done keeps.done keeps.last keeps.earlier keeps.later start keeps.keeps);
}
follows_script workers NoMemory (Some input) (Some left) start ends keeps = record {
  done = keeps.done;
  left = keeps.left;
  lines = keeps.lines;
  follows = kept-law workers (map asked keeps.done) (next_asked keeps.left) start ends.legal ends.callers keeps.keeps;
}

-- What was put before its sink failed.

pub last_cut : (workers : ℕ) (done : List Line) (last : Line) (earlier later : List Step) (start : List Entry) →
    Ends workers start → KeepsLast done last earlier later start →
    KeepsCut (halted start) (map asked done) (asked last) earlier later
last_cut workers done last earlier later start ends k =
    kept-last-law workers (map asked done) (asked last) earlier later start ends.legal ends.callers k.steps k.keeps k.made

pub own_cut : (workers : ℕ) (out : Stream) (start : List Entry) → Ends workers start → PutsToLast out start →
    PutsOwnUpToLast out (halted start)
own_cut workers out start ends puts =
    let k = last_cut workers puts.done puts.last puts.earlier puts.later start ends puts.keeps in
    record {
      before = k.cut.before;
      last = puts.last;
      part = k.cut.part;
      rest = k.cut.rest;
      history_is = k.cut.entries;
      made = k.cut.last_is;
      ended = k.cut.end_is;
      puts = subst (λ (l : List Step). PutsThenPrefix out (output k.cut.before) (part_out l)) (sym k.later_are)
          (subst (λ (l : List Step). PutsThenPrefix out (part_out l) (part_out puts.later)) (sym k.earlier_are) puts.puts);
    }

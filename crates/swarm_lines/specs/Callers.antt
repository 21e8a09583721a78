-- What a run promises of a history, whoever else had a part in it: what it has to do with the script's lines, and what
-- was put of the replies to caller 0.
use Rattle.std.specs.Prelude.{ℕ, ◌≡◌, List, [], ◌∷◌, ◌++◌, map, true, false, Option, Some, None, ⊤}
use Rattle.std.specs.List.{list_any}
use Rattle.swarm_model.specs.Follows.{Follows, FollowsPart, IsEnd, IsLine}
use Rattle.swarm_model.specs.History.{replay}
use Rattle.swarm_model.specs.Own.{own_replies, own_replies_from}
use Rattle.swarm_model.specs.Undone.{FollowsUndone}
use Rattle.swarm_objects.specs.declared.calls.Entry.{Entry}
use Rattle.swarm_objects.specs.declared.replies.Reply.{Reply}
use Rattle.script_grammar.specs.declared.lines.Line.{Line}
use Rattle.swarm_input.specs.Lines.{whole_lines}
use Rattle.swarm_input.specs.Script.{Reading, reading, reading_of, bad_line}
use Rattle.swarm_lines.specs.Putting.{texts_of}
use Rattle.swarm_lines.specs.ScriptSteps.{next_asked}
use Rattle.swarm_lines.specs.Serial.{asked, is_refused}
use Rattle.swarm_input.specs.Streams.{Stream, Puts, PutsPrefix, PutsThenPrefix, PutsBoth}
use Rattle.swarm_input.specs.declared.faults.Fault.{Fault}
use Rattle.swarm_lines.specs.declared.endings.Ending.{Ending}
use Rattle.swarm_lines.specs.declared.endings.Ending.TheVariants.{Done, Refused, ReadFault, OutFault, JournalFault, NoMemory, NoMemoryAt, BadLine, Full}

-- The history and the script's bytes.

-- the history follows these lines
abbrev pub FollowsLines : ℕ → List Line → List Entry → Type 0
FollowsLines workers lines history = Follows history (map asked lines) workers

-- all lines are in the grammar, and the history follows them
abbrev pub FollowsAllLines : ℕ → Reading → List Entry → Type 0
FollowsAllLines workers script history = (script.bad ≡ None) × FollowsLines workers script.said history

-- it follows the lines before the first one outside the grammar
abbrev pub FollowsGoodLines : ℕ → ℕ → Fault → Reading → List Entry → Type 0
FollowsGoodLines workers number fault script history =
    (script.bad ≡ Some (number, fault)) × FollowsLines workers script.said history

-- it follows some first lines, and has what was done of the next one
pub record FollowsFirstLines (workers : ℕ) (script : Reading) (history : List Entry) : Type 0 where
  pub done : List Line
  pub left : List Line
  pub lines : script.said ≡ done ++ left
  pub follows : FollowsPart history (map asked done) (next_asked left) workers

-- it follows some first lines, and the next one isn't done
pub record FollowsFullHistory (workers : ℕ) (script : Reading) (history : List Entry) : Type 0 where
  pub done : List Line
  pub next : Line
  pub left : List Line
  pub lines : script.said ≡ done ++ next ∷ left
  pub follows : FollowsUndone history (map asked done) (Some (asked next)) workers

-- it follows some first lines, one at least, and no further one was begun
pub record FollowsToLast (workers : ℕ) (script : Reading) (history : List Entry) : Type 0 where
  pub done : List Line
  pub last : Line
  pub left : List Line
  pub lines : script.said ≡ done ++ last ∷ left
  pub follows : FollowsLines workers (done ++ last ∷ []) history

-- it follows the lines whose newline stands in the bytes that were taken
pub record FollowsTakenLines (workers : ℕ) (input left : List ℕ) (history : List Entry) : Type 0 where
  pub taken : List ℕ
  pub bytes : input ≡ taken ++ left
  pub lines : FollowsAllLines workers (reading_of (whole_lines taken)) history

abbrev pub FollowsInput : ℕ → Ending → List ℕ → List ℕ → List Entry → Type 0
FollowsInput workers Done input left history = FollowsAllLines workers (reading input) history
FollowsInput workers Refused input left history = FollowsAllLines workers (reading input) history
FollowsInput workers JournalFault input left history = FollowsAllLines workers (reading input) history
FollowsInput workers (BadLine number fault) input left history =
    FollowsGoodLines workers number fault (reading input) history
FollowsInput workers (NoMemoryAt number fault) input left history =
    FollowsGoodLines workers number fault (reading input) history
FollowsInput workers ReadFault input left history = FollowsTakenLines workers input left history
FollowsInput workers Full input left history = FollowsFullHistory workers (reading input) history
FollowsInput workers OutFault input left history = FollowsToLast workers (reading input) history
FollowsInput workers NoMemory input left history = FollowsFirstLines workers (reading input) history

-- the same of a source, which may not tell its bytes
abbrev pub FollowsScript : ℕ → Ending → Option (List ℕ) → Option (List ℕ) → List Entry → Type 0
FollowsScript workers ending None left history = ⊤
FollowsScript workers ending (Some input) None history = ⊥
FollowsScript workers ending (Some input) (Some left) history = FollowsInput workers ending input left history

-- The history and what was put.

-- the texts of the replies to caller 0
abbrev pub output : List Entry → List ℕ
output history = texts_of (own_replies 0 history)

-- what was put of the replies; where the sink failed, what was put before it failed is said by the last argument
abbrev pub PutsOf : Ending → Stream → List Reply → Type 0 → Type 0
PutsOf Done out replies cut = Puts out (texts_of replies) × (list_any is_refused replies ≡ false)
PutsOf Refused out replies cut = Puts out (texts_of replies) × (list_any is_refused replies ≡ true)
PutsOf ReadFault out replies cut = Puts out (texts_of replies)
PutsOf JournalFault out replies cut = Puts out (texts_of replies)
PutsOf Full out replies cut = Puts out (texts_of replies)
PutsOf (BadLine number fault) out replies cut = PutsBoth out (texts_of replies) (bad_line number fault)
PutsOf OutFault out replies cut = cut
PutsOf NoMemory out replies cut = PutsPrefix out (texts_of replies)
PutsOf (NoMemoryAt number fault) out replies cut = PutsThenPrefix out (texts_of replies) (bad_line number fault)

-- all earlier replies to caller 0 were put, and of those to its entries of the last line a prefix
pub record PutsOwnUpToLast (out : Stream) (history : List Entry) : Type 0 where
  pub before : List Entry
  pub last : Line
  pub part : List Entry
  pub rest : List Entry
  pub history_is : history ≡ before ++ (part ++ rest)
  pub made : IsLine (replay before) (asked last) part rest
  pub ended : IsEnd (replay (before ++ part)) None rest
  pub puts : PutsThenPrefix out (output before) (texts_of (own_replies_from 0 before part))

-- what was put of the replies to caller 0
abbrev pub PutsOwnReplies : Ending → Stream → List Entry → Type 0
PutsOwnReplies ending out history = PutsOf ending out (own_replies 0 history) (PutsOwnUpToLast out history)

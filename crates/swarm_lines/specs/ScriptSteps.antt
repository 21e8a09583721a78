-- How far a script is read, and how the reading ends: what caller 0 keeps of its lines, whatever others append.
use Rattle.std.specs.Prelude.{ℕ, ◌≡◌, ◌+◌, List, ◌++◌, ◌≤◌, [], length, map, true, false, None, Option, Some, ⊤, ◌∷◌}
use Rattle.script_grammar.specs.declared.lines.Line.{Line}
use Rattle.swarm_input.specs.LineBuffer.{LineBuffer}
use Rattle.swarm_input.specs.Lines.{IsWhole, whole_lines}
use Rattle.swarm_input.specs.Script.{Reading, most_bytes, reading, reading_of}
use Rattle.swarm_input.specs.Streams.{HasFailed, HasRisen, Puts, PutsPrefix, PutsThenPrefix, Stream}
use Rattle.swarm_input.specs.declared.faults.Fault.{Fault}
use Rattle.swarm_lines.specs.Fitting.{AreFit}
use Rattle.swarm_lines.specs.OfScript.{TakesAtMostAScript}
use Rattle.swarm_lines.specs.Putting.{part_out, part_refused}
use Rattle.swarm_lines.specs.Serial.{asked}
use Rattle.swarm_lines.specs.declared.endings.Ending.{Ending}
use Rattle.swarm_lines.specs.declared.endings.Ending.TheVariants.{Done, Refused, ReadFault, OutFault, JournalFault, NoMemory, NoMemoryAt, BadLine, Full}
use Rattle.swarm_model.specs.Kept.{KeepsLine, KeepsLines, KeepsUndone, before_next}
use Rattle.swarm_model.specs.Own.{Step, own}
use Rattle.swarm_model.specs.Script.{Asked}
use Rattle.swarm_objects.specs.declared.calls.Entry.{Entry}
use Rattle.swarm_world.specs.Work.{IsFull}

-- Lines.

abbrev pub next_asked : List Line → Option Asked
next_asked [] = None
next_asked (line ∷ lines) = Some (asked line)

-- all of these lines were done, and nothing more
abbrev pub KeepsDone : List Line → List Entry → Type 0
KeepsDone done now = KeepsLines (map asked done) None (own 0 now) now

-- these, and of the next one a part
abbrev pub KeepsSome : List Line → List Line → List Entry → Type 0
KeepsSome done left now = KeepsLines (map asked done) (next_asked left) (own 0 now) now

-- these, and a last one, with its steps behind theirs
pub record KeepsLast (done : List Line) (last : Line) (earlier later : List Step) (now : List Entry) : Type 0 where
  pub steps : own 0 now ≡ earlier ++ later
  pub keeps : KeepsLines (map asked done) None earlier (before_next later now)
  pub made : KeepsLine (asked last) later now

-- these, and of the next one, which isn't done, a part
pub record KeepsStop (done : List Line) (next : Line) (now : List Entry) : Type 0 where
  pub earlier : List Step
  pub later : List Step
  pub steps : own 0 now ≡ earlier ++ later
  pub keeps : KeepsLines (map asked done) None earlier (before_next later now)
  pub undone : KeepsUndone now (Some (asked next)) later

-- How far a script is read.

-- the script's first bytes are read, and this is what their lines say, which are all in the grammar
pub record Reached (input : List ℕ) (said : List Line) (number : ℕ) (held : LineBuffer) (left : List ℕ) : Type 0 where
  pub read : List ℕ
  pub bytes : input ≡ read ++ (held.bytes ++ left)
  pub size : length read ≡ held.read
  pub few : held.read + length held.bytes ≤ most_bytes + 1
  pub reading_is : reading read ≡ record { said = said; bad = None }
  pub count : length said ≡ number
  pub unfinished : held.finished ≡ false → IsWhole read
  pub finished : held.finished ≡ true → held.bytes ++ left ≡ []

-- the same of a source, which may not tell its bytes
abbrev pub ReachedBy : Option (List ℕ) → List Line → ℕ → LineBuffer → Option (List ℕ) → Type 0
ReachedBy None said number held left = ⊤
ReachedBy (Some input) said number held None = ⊥
ReachedBy (Some input) said number held (Some left) = Reached input said number held left

-- so far the lines are read, and what they say was done
pub record IsReading (input : Option (List ℕ)) (now : List Entry) (number : ℕ) (held : LineBuffer)
    (left : Option (List ℕ)) : Type 0 where
  pub said : List Line
  pub reached : ReachedBy input said number held left
  pub keeps : KeepsDone said now

-- The end of the reading.

abbrev pub KeepsAllLines : Reading → List Entry → Type 0
KeepsAllLines script now = (script.bad ≡ None) × KeepsDone script.said now

abbrev pub KeepsGoodLines : ℕ → Fault → Reading → List Entry → Type 0
KeepsGoodLines number fault script now = (script.bad ≡ Some (number, fault)) × KeepsDone script.said now

-- the lines whose newline stands in the bytes that were taken
pub record KeepsTakenLines (input left : List ℕ) (now : List Entry) : Type 0 where
  pub taken : List ℕ
  pub bytes : input ≡ taken ++ left
  pub lines : KeepsAllLines (reading_of (whole_lines taken)) now

pub record KeepsFirstLines (script : Reading) (now : List Entry) : Type 0 where
  pub done : List Line
  pub left : List Line
  pub lines : script.said ≡ done ++ left
  pub keeps : KeepsSome done left now

pub record KeepsToLast (script : Reading) (now : List Entry) : Type 0 where
  pub done : List Line
  pub last : Line
  pub left : List Line
  pub lines : script.said ≡ done ++ last ∷ left
  pub earlier : List Step
  pub later : List Step
  pub keeps : KeepsLast done last earlier later now

pub record KeepsFull (script : Reading) (now : List Entry) : Type 0 where
  pub done : List Line
  pub next : Line
  pub left : List Line
  pub lines : script.said ≡ done ++ next ∷ left
  pub keeps : KeepsStop done next now

abbrev pub KeepsInput : Ending → List ℕ → List ℕ → List Entry → Type 0
KeepsInput Done input left now = KeepsAllLines (reading input) now
KeepsInput Refused input left now = KeepsAllLines (reading input) now
KeepsInput JournalFault input left now = KeepsAllLines (reading input) now
KeepsInput (BadLine number fault) input left now = KeepsGoodLines number fault (reading input) now
KeepsInput (NoMemoryAt number fault) input left now = KeepsGoodLines number fault (reading input) now
KeepsInput ReadFault input left now = KeepsTakenLines input left now
KeepsInput Full input left now = KeepsFull (reading input) now
KeepsInput OutFault input left now = KeepsToLast (reading input) now
KeepsInput NoMemory input left now = KeepsFirstLines (reading input) now

-- the same of a source, which may not tell its bytes
abbrev pub KeepsScript : Ending → Option (List ℕ) → Option (List ℕ) → List Entry → Type 0
KeepsScript ending None left now = ⊤
KeepsScript ending (Some input) None now = ⊥
KeepsScript ending (Some input) (Some left) now = KeepsInput ending input left now

abbrev pub KeepsFirstLinesOfScript : Option (List ℕ) → List Entry → Type 0
KeepsFirstLinesOfScript None now = ⊤
KeepsFirstLinesOfScript (Some input) now = KeepsFirstLines (reading input) now

-- all earlier replies were put, and of those to the last line's entries a prefix
pub record PutsToLast (out : Stream) (now : List Entry) : Type 0 where
  pub done : List Line
  pub last : Line
  pub earlier : List Step
  pub later : List Step
  pub keeps : KeepsLast done last earlier later now
  pub puts : PutsThenPrefix out (part_out earlier) (part_out later)

-- what was put before anything is put of how the reading ended
abbrev pub PutsReadReplies : Ending → Stream → List Entry → Type 0
PutsReadReplies Done out now = Puts out (part_out (own 0 now)) × (part_refused (own 0 now) ≡ false)
PutsReadReplies Refused out now = Puts out (part_out (own 0 now)) × (part_refused (own 0 now) ≡ true)
PutsReadReplies ReadFault out now = Puts out (part_out (own 0 now))
PutsReadReplies Full out now = Puts out (part_out (own 0 now))
PutsReadReplies (BadLine number fault) out now = Puts out (part_out (own 0 now))
PutsReadReplies OutFault out now = PutsToLast out now × HasFailed out
PutsReadReplies NoMemory out now = PutsPrefix out (part_out (own 0 now))
PutsReadReplies JournalFault out now = ⊥
PutsReadReplies (NoMemoryAt number fault) out now = ⊥

-- a script was read, and its lines were called and answered
pub record IsRead (ending : Ending) (script out : Stream) (now : List Entry) : Type 0 where
  pub lines : KeepsScript ending script.before script.after now
  pub some : KeepsFirstLinesOfScript script.before now
  pub fit : AreFit (own 0 now)
  pub answers : PutsReadReplies ending out now
  pub takes : TakesAtMostAScript script
  pub cause : ending ≡ ReadFault → HasFailed script
  pub later : out.faults_before ≤ out.faults_after
  pub full : ending ≡ Full → IsFull now
  pub script_risen : HasRisen script → ending ≡ ReadFault
  pub out_risen : HasRisen out → ending ≡ OutFault

-- The words that the program takes.
use Rattle.std.specs.Prelude.{ℕ, ◌≡◌, nat_le, List, [], ◌∷◌, take, drop, codes, Bool, false, ◌&&◌, if◌then◌else◌, Option, Some, None, option_map, Result, Ok, Err, ⊤}
use Rattle.std.specs.Option.{option_or}
use Rattle.std.specs.Str.{bytes_eq}
use Rattle.script_grammar.specs.Words.{number_of, ◌>>=◌}
use Rattle.script_maker.specs.Script.{most_number}
use Rattle.swarm_command.specs.declared.forms.Form.{Form}
use Rattle.swarm_command.specs.declared.forms.Form.TheVariants.{Run, Replay, Make, MakeRun}
use Rattle.swarm_command.specs.declared.forms.WordFault.{WordFault}
use Rattle.swarm_command.specs.declared.forms.WordFault.TheVariants.{Other, NoMemory}

-- the most workers, and how many there are where no number is given
abbrev pub most_workers : ℕ
most_workers = 16

abbrev pub usual_workers : ℕ
usual_workers = 4

-- a number of workers, as it is printed
abbrev pub workers_number : List ℕ → Option ℕ
workers_number word = number_of word >>= λ n. if nat_le n most_workers then Some n else None

-- the one behind `--workers=`
abbrev pub joined_workers : List ℕ → Option ℕ
joined_workers option =
    if bytes_eq (take 10 option) (codes "--workers=") then workers_number (drop 10 option) else None

-- `run`, `run --workers=K` or `run --workers K`: how many workers they ask for
abbrev pub run_workers : List (List ℕ) → Option ℕ
run_workers [] = None
run_workers (run ∷ []) = if bytes_eq run (codes "run") then Some usual_workers else None
run_workers (run ∷ option ∷ []) = if bytes_eq run (codes "run") then joined_workers option else None
run_workers (run ∷ option ∷ number ∷ []) =
    if bytes_eq run (codes "run") && bytes_eq option (codes "--workers") then workers_number number else None
run_workers (a ∷ b ∷ c ∷ d ∷ more) = None

-- `replay`
abbrev pub is_replay : List (List ℕ) → Bool
is_replay [] = false
is_replay (replay ∷ []) = bytes_eq replay (codes "replay")
is_replay (a ∷ b ∷ more) = false

-- the number of a script, as it is printed
abbrev pub script_number : List ℕ → Option ℕ
script_number word = number_of word >>= λ n. if nat_le n most_number then Some n else None

-- `make N`
abbrev pub made_number : List (List ℕ) → Option ℕ
made_number [] = None
made_number (a ∷ []) = None
made_number (make ∷ number ∷ []) = if bytes_eq make (codes "make") then script_number number else None
made_number (a ∷ b ∷ c ∷ more) = None

-- the number of two words of which the other is `--run`
abbrev pub number_beside_run : List ℕ → List ℕ → Option ℕ
number_beside_run first second =
    if bytes_eq second (codes "--run") then script_number first
    else (if bytes_eq first (codes "--run") then script_number second else None)

-- `make N --run` or `make --run N`
abbrev pub run_number : List (List ℕ) → Option ℕ
run_number [] = None
run_number (a ∷ []) = None
run_number (a ∷ b ∷ []) = None
run_number (make ∷ first ∷ second ∷ []) =
    if bytes_eq make (codes "make") then number_beside_run first second else None
run_number (a ∷ b ∷ c ∷ d ∷ more) = None

-- the line that answers other words
abbrev pub usage : List ℕ
usage = codes "usage: swarm run [--workers K] | swarm replay | swarm make N [--run]\n"

-- what the words ask for
abbrev pub form_of : List (List ℕ) → Option Form
form_of words =
    option_or (option_map Run (run_workers words))
    (if is_replay words then Some Replay
    else option_or (option_map Make (made_number words)) (option_map MakeRun (run_number words)))

-- the form that the words have, and `Other` exactly where they have none, also where memory is wanting
abbrev pub IsReading : Option Form → Result Form WordFault → Type 0
IsReading (Some form) (Ok read) = read ≡ form
IsReading (Some form) (Err NoMemory) = ⊤
IsReading (Some form) (Err Other) = ⊥
IsReading None (Ok read) = ⊥
IsReading None (Err NoMemory) = ⊥
IsReading None (Err Other) = ⊤

-- What `make` promises: a number's script, or the line that sums up its run.
use Rattle.std.specs.Prelude.{ℕ, ◌≡◌, ◌⊎◌, nat_lt, if◌then◌else◌, List, [], length}
use Rattle.script_maker.specs.Script.{script_text}
use Rattle.swarm_input.specs.Script.{Reading, reading}
use Rattle.swarm_input.specs.Streams.{Stream, HasFailed, HasRisen, Puts, PutsPrefix}
use Rattle.swarm_model.specs.History.{replay}
use Rattle.swarm_objects.specs.Limits.{most_entries}
use Rattle.swarm_lines.specs.Serial.{entries, has_refusal, serial}
use Rattle.swarm_top.specs.Summary.{summary}

-- where the sink failed or memory was wanting, a prefix of the text is put
pub record IsPut (text : List ℕ) (out : Stream) (status : ℕ) : Type 0 where
  pub failed : status ≡ 4 → HasFailed out × PutsPrefix out text
  pub wanting : status ≡ 5 → PutsPrefix out text
  pub risen : HasRisen out → status ≡ 4

-- `make N`
pub record IsMake (number : ℕ) (out : Stream) (status : ℕ) : Type 0 where
  pub put : IsPut (script_text number) out status
  pub done : status ≡ 0 → Puts out (script_text number)
  pub statuses : (status ≡ 0) ⊎ ((status ≡ 4) ⊎ (status ≡ 5))

-- the line that sums up the last world of the serial history of a script's lines
abbrev pub run_summary : Reading → List ℕ
run_summary script = summary (replay (serial script.said))

-- the status where the sink doesn't fail and memory is there: 7 where the history doesn't hold all that the lines make
abbrev pub run_status : Reading → ℕ
run_status script =
    if nat_lt most_entries (length (entries script.said)) then 7
    else (if has_refusal (entries script.said) then 1 else 0)

-- a script without a bad line is run, and what came of it is summed up
pub record IsSummed (script : Reading) (out : Stream) (status : ℕ) : Type 0 where
  pub put : IsPut (run_summary script) out status
  pub done : (status ≡ 0) ⊎ (status ≡ 1) → Puts out (run_summary script)
  pub full : status ≡ 7 → Puts out []
  pub statuses : (status ≡ run_status script) ⊎ ((status ≡ 4) ⊎ (status ≡ 5))

-- `make N --run`
abbrev pub IsMakeRun : ℕ → Stream → ℕ → Type 0
IsMakeRun number = IsSummed (reading (script_text number))

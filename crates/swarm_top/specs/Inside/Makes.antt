-- How a text is put, and whether a reading came to the script's end.
use Rattle.std.specs.Prelude.{ℕ, ◌≡◌, ◌⊎◌, List, Bool, true, false, Result, Ok, Err}
use Rattle.swarm_input.specs.Streams.{Stream, HasFailed, Puts, PutsPrefix}
use Rattle.swarm_lines.specs.declared.endings.Ending.{Ending}
use Rattle.swarm_lines.specs.declared.endings.Ending.TheVariants.{Done, Refused, ReadFault, OutFault, JournalFault, NoMemory, NoMemoryAt, BadLine, Full}

abbrev pub is_whole : Ending → Bool
is_whole Done = true
is_whole Refused = true
is_whole ReadFault = false
is_whole OutFault = false
is_whole JournalFault = false
is_whole NoMemory = false
is_whole (NoMemoryAt number fault) = false
is_whole (BadLine number fault) = false
is_whole Full = false

-- the status of putting a text where this would be that of a success
abbrev pub put_status : {T E : Type 0} → Result T E → ℕ → ℕ
put_status (Ok put) done = done
put_status (Err failed) done = 4

-- all of the text is put, with this status
pub record IsAllPut (text : List ℕ) (done : ℕ) (out : Stream) (status : ℕ) : Type 0 where
  pub status_is : status ≡ done
  pub put : Puts out text
  pub kept : out.faults_after ≡ out.faults_before

-- the sink failed, and took a prefix
pub record IsPartPut (text : List ℕ) (out : Stream) (status : ℕ) : Type 0 where
  pub status_is : status ≡ 4
  pub put : PutsPrefix out text
  pub failed : HasFailed out

-- memory was wanting, and nothing is put
pub record IsNonePut (out : Stream) (status : ℕ) : Type 0 where
  pub status_is : status ≡ 5
  pub same : out.after ≡ out.before
  pub kept : out.faults_after ≡ out.faults_before

abbrev pub PutsAs : List ℕ → ℕ → Stream → ℕ → Type 0
PutsAs text done out status = IsAllPut text done out status ⊎ (IsPartPut text out status ⊎ IsNonePut out status)

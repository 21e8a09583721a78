-- From what was read to a constraint or a fault.
use Rattle.std.proofs.Common.{◌≡◌, ℕ, suc, ◌+◌, ◌<◌, List, [], ◌∷◌, ◌++◌, length, take, Some, None, sym, ap, ◌∙◌, arith}
use Rattle.std.specs.Prelude.{slice_index}
use Rattle.std.proofs.Math.Seq.{take-suc, take-length}
use Rattle.swarm_filters.specs.Grammar.{IsConstraint, IsFault}
use Rattle.swarm_filters.specs.Machine.{Progress, start, byte_step, goes_on, run_bytes, whole_of}
use Rattle.swarm_filters.specs.Inside.States.{PartsRead, PartsFit, key_at, whole_at}
use Rattle.swarm_filters.specs.declared.state.Parts.{Parts}
use Rattle.swarm_filters.proofs.Runs.{IsConstraint-read}
use Rattle.swarm_filters.proofs.Wholes.{run_bytes-append}
use Rattle.swarm_filters.proofs.Written.{key_has_text-IsKey}
use Rattle.swarm_filters.proofs.FaultLemmas.{IsFault-there, IsFault-cut}

take-next : (text : List ℕ) (place : ℕ) → place < length text → take (place + 1) text ≡ take place text ++ slice_index text place ∷ []
take-next text place below =
    let one : place + 1 ≡ suc place = omega arith in
    ap (λ n. take n text) one ∙ take-suc text place 0 below

-- a byte more was read
pub read_more : (text : List ℕ) (place : ℕ) (s next : Progress) → place < length text → run_bytes start (take place text) ≡ Some s → byte_step s (slice_index text place) ≡ Some next → run_bytes start (take (place + 1) text) ≡ Some next
read_more text place s next below read goes =
    ap (λ x. run_bytes start x) (take-next text place below)
    ∙ run_bytes-append (take place text) start (slice_index text place ∷ [])
    ∙ ap (λ o. goes_on o (λ q. run_bytes q (slice_index text place ∷ []))) read
    ∙ ap (λ o. goes_on o (λ q. run_bytes q [])) goes

-- a byte that has no step
pub fault_there : (text : List ℕ) (place : ℕ) (s : Progress) → place < length text → run_bytes start (take place text) ≡ Some s → byte_step s (slice_index text place) ≡ None → IsFault text place
fault_there text place s below read none = IsFault-there text place (slice_index text place) s below (take-next text place below) read none

all_read : (text : List ℕ) (s : Progress) → run_bytes start (take (length text) text) ≡ Some s → run_bytes start text ≡ Some s
all_read text s read = ap (λ x. run_bytes start x) (sym (take-length text)) ∙ read

-- a text that ends too early
pub fault_cut : (text : List ℕ) (s : Progress) → run_bytes start (take (length text) text) ≡ Some s → whole_of s ≡ None → IsFault text (length text)
fault_cut text s read none = IsFault-cut text s (all_read text s read) none

-- a text that is whole
pub parts_read : (text : List ℕ) (s : Progress) (p : Parts) → run_bytes start (take (length text) text) ≡ Some s → whole_of s ≡ Some (whole_at text p) → PartsFit (length text) p → PartsRead text p
parts_read text s p read whole fits =
    let is : IsConstraint text (whole_at text p) = IsConstraint-read text s (whole_at text p) (all_read text s read) whole in
    record { fits = fits; is = is; named = key_has_text-IsKey is.key_text (key_at text p.found) is.is_key; valued = is.valued }

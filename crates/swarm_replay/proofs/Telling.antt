-- The line that tells a verdict, and the status.
use Rattle.std.proofs.Common.{◌≡◌, ◌≢◌, sym, ◌∙◌, ℕ, ◌<◌, List, [], refl, Option, Result, Ok, Err, inl, inr, ◌⊎◌, arith}
use Rattle.swarm_replay.specs.Replay.{IsPutStatus, TellsVerdict, verdict_text}
use Rattle.swarm_input.specs.Streams.{stream_of}
use Rattle.swarm_replay.specs.Inside.ReplaySteps.{PutsText, told_status}
use Rattle.swarm_input.specs.declared.faults.WriteFault.{WriteFault}
use Rattle.swarm_input.specs.declared.faults.WriteFault.TheVariants.{Failed, NoMemory as NoSpace}
use Rattle.swarm_replay.specs.declared.verdicts.Verdict.{Verdict}
use Rattle.swarm_replay.specs.declared.verdicts.Verdict.TheVariants.{Legal, Illegal, BadLine, ReadFault, NoMemory}

-- the line was put, or why it was not
pub tells : (v : Verdict) (told : Result (Unit {0}) WriteFault) (x y : Option (List ℕ)) (k l : ℕ) → (v ≡ ReadFault → ⊥) → (v ≡ NoMemory → ⊥) →
    PutsText told (stream_of x y k l) (verdict_text v) → TellsVerdict v (stream_of x y k l) (told_status v told)
tells (Legal n) (Ok done) x y k l other lacking puts = inl (refl, puts)
tells (Legal n) (Err Failed) x y k l other lacking puts = inr (inl (refl, puts.0, puts.1))
tells (Legal n) (Err NoSpace) x y k l other lacking puts = inr (inr (refl, puts))
tells (Illegal n) (Ok done) x y k l other lacking puts = inl (refl, inl puts)
tells (Illegal n) (Err Failed) x y k l other lacking puts = inl (refl, inr puts)
tells (Illegal n) (Err NoSpace) x y k l other lacking puts = inr (refl, puts)
tells (BadLine n fault) (Ok done) x y k l other lacking puts = inl (refl, inl puts)
tells (BadLine n fault) (Err Failed) x y k l other lacking puts = inl (refl, inr puts)
tells (BadLine n fault) (Err NoSpace) x y k l other lacking puts = inr (refl, puts)
tells ReadFault told x y k l other lacking puts = absurd (other refl)
tells NoMemory told x y k l other lacking puts = absurd (lacking refl)

-- the statuses that stand where it couldn't be put
pub put_status : (v : Verdict) → (v ≡ ReadFault → ⊥) → (v ≡ NoMemory → ⊥) → IsPutStatus (told_status v (Err Failed))
put_status (Legal n) other lacking = inl refl
put_status (Illegal n) other lacking = inr (inr refl)
put_status (BadLine n fault) other lacking = inr (inl refl)
put_status ReadFault other lacking = absurd (other refl)
put_status NoMemory other lacking = absurd (lacking refl)

-- no verdict has the status of wrong words

other_number : (status n : ℕ) → status ≡ n → (n ≡ 2 → ⊥) → status ≢ 2
other_number status n is other same = other (sym is ∙ same)

pub other_words : (v : Verdict) (x y : Option (List ℕ)) (k l status : ℕ) → TellsVerdict v (stream_of x y k l) status → status ≢ 2
other_words (Legal n) x y k l status tells = elim tells [
  | inl whole ↦ other_number status 0 whole.0 (λ e. omega (arith, e))
  | inr part ↦ elim part [
    | inl fault ↦ other_number status 4 fault.0 (λ e. omega (arith, e))
    | inr lacking ↦ other_number status 5 lacking.0 (λ e. omega (arith, e))
  ]
]
other_words (Illegal n) x y k l status tells = elim tells [
  | inl whole ↦ other_number status 8 whole.0 (λ e. omega (arith, e))
  | inr lacking ↦ other_number status 5 lacking.0 (λ e. omega (arith, e))
]
other_words (BadLine n fault) x y k l status tells = elim tells [
  | inl whole ↦ other_number status 6 whole.0 (λ e. omega (arith, e))
  | inr lacking ↦ other_number status 5 lacking.0 (λ e. omega (arith, e))
]
other_words ReadFault x y k l status tells = other_number status 3 tells.0 (λ e. omega (arith, e))
other_words NoMemory x y k l status tells = other_number status 5 tells.0 (λ e. omega (arith, e))

-- The whole: what was found, what was put for it, and the status.
use Rattle.std.proofs.Common.{◌≡◌, ◌⊎◌, inl, inr, ℕ, ◌<◌, List, [], true, false, Option, None, Result, Ok, Err, refl, sym, subst, arith}
use Rattle.events_top.specs.Endings.{ending_status, ending_text, why_not}
use Rattle.events_top.specs.Events.{HasCauseOf, IsEvents, TellsEnding}
use Rattle.events_top.specs.Inside.Steps.{IsBehind, PutsEnding, TellsJournal, is_fault, told_status}
use Rattle.events_top.specs.declared.endings.Ending.{Ending}
use Rattle.events_top.specs.declared.endings.Ending.TheVariants.{Judged, OutFault}
use Rattle.swarm_input.proofs.Prefixes.{appends_none}
use Rattle.swarm_input.specs.Streams.{HasFailed, Stream, stream_of}
use Rattle.swarm_input.specs.declared.faults.WriteFault.{WriteFault}
use Rattle.swarm_input.specs.declared.faults.WriteFault.TheVariants.{Failed as SinkFailed, NoMemory as NoSpace}
use Rattle.swarm_model.specs.History.{replay}
use Rattle.swarm_objects.specs.World.{World}
use Rattle.swarm_objects.specs.declared.calls.Entry.{Entry}
use Rattle.swarm_replay.proofs.Expected.{replayed}
use Rattle.swarm_replay.specs.Inside.ReplaySteps.{IsJudgedOn}
use Rattle.swarm_replay.specs.Replay.{IsExpectedVerdict, TellsVerdict, verdict_status}
use Rattle.swarm_replay.specs.declared.verdicts.EntryFault.{EntryFault}
use Rattle.swarm_replay.specs.declared.verdicts.Verdict.{Verdict}
use Rattle.swarm_replay.specs.declared.verdicts.Verdict.TheVariants.{Legal, Illegal, BadLine, ReadFault, NoMemory}

-- What tells the ending.

illegal_told : (number : ℕ) (w : World) (told : Result (Unit {0}) WriteFault) (x y : Option (List ℕ)) (k l : ℕ) →
    PutsEnding told (stream_of x y k l) (ending_text (Judged (Illegal number)) (why_not w)) →
    TellsEnding (Judged (Illegal number)) w (stream_of x y k l) (told_status (Judged (Illegal number)) told)
illegal_told number w (Ok u) x y k l puts = inl (refl, inl puts)
illegal_told number w (Err SinkFailed) x y k l puts = inl (refl, inr puts)
illegal_told number w (Err NoSpace) x y k l puts = inr (refl, puts)

bad_told : (number : ℕ) (fault : EntryFault) (w : World) (told : Result (Unit {0}) WriteFault) (x y : Option (List ℕ))
    (k l : ℕ) → PutsEnding told (stream_of x y k l) (ending_text (Judged (BadLine number fault)) []) →
    TellsEnding (Judged (BadLine number fault)) w (stream_of x y k l) (told_status (Judged (BadLine number fault)) told)
bad_told number fault w (Ok u) x y k l puts = inl (refl, inl puts)
bad_told number fault w (Err SinkFailed) x y k l puts = inl (refl, inr puts)
bad_told number fault w (Err NoSpace) x y k l puts = inr (refl, puts)

-- the statuses that stand where it couldn't be put
pub fault_status : (ending : Ending) → is_fault ending ≡ true → (ending_status ending ≡ 6) ⊎ (ending_status ending ≡ 8)
fault_status (Judged (Illegal number)) is = inr refl
fault_status (Judged (BadLine number fault)) is = inl refl
fault_status (Judged (Legal count)) is = cc
fault_status (Judged ReadFault) is = cc
fault_status (Judged NoMemory) is = cc
fault_status OutFault is = cc

-- nothing is put
pub tells_none : (ending : Ending) (x : Option (List ℕ)) (k : ℕ) → is_fault ending ≡ false → (w : World) →
    TellsEnding ending w (stream_of x x k k) (ending_status ending)
tells_none (Judged (Illegal number)) x k none w = cc
tells_none (Judged (BadLine number fault)) x k none w = cc
tells_none (Judged (Legal count)) x k none w = (refl, appends_none x)
tells_none (Judged ReadFault) x k none w = (refl, appends_none x)
tells_none (Judged NoMemory) x k none w = (refl, appends_none x)
tells_none OutFault x k none w = (refl, appends_none x)

-- it was put, or why it was not
pub tells_fault : (ending : Ending) (why : List ℕ) (told : Result (Unit {0}) WriteFault) (x y : Option (List ℕ)) (k l : ℕ) →
    is_fault ending ≡ true → PutsEnding told (stream_of x y k l) (ending_text ending why) →
    (w : World) → why ≡ why_not w → TellsEnding ending w (stream_of x y k l) (told_status ending told)
tells_fault (Judged (Illegal number)) why told x y k l is puts w because =
    illegal_told number w told x y k l
    (subst (λ (t : List ℕ). PutsEnding told (stream_of x y k l) (ending_text (Judged (Illegal number)) t)) because puts)
tells_fault (Judged (BadLine number fault)) why told x y k l is puts w because = bad_told number fault w told x y k l puts
tells_fault (Judged (Legal count)) why told x y k l is puts w because = cc
tells_fault (Judged ReadFault) why told x y k l is puts w because = cc
tells_fault (Judged NoMemory) why told x y k l is puts w because = cc
tells_fault OutFault why told x y k l is puts w because = cc

-- The status by the input.

-- a verdict was told in full to a sink that tells no bytes
told_unseen : (verdict : Verdict) → TellsVerdict verdict (stream_of None None 0 0) (verdict_status verdict)
told_unseen (Legal count) = inl (refl, tt)
told_unseen (Illegal number) = inl (refl, inl tt)
told_unseen (BadLine number fault) = inl (refl, inl tt)
told_unseen ReadFault = (refl, tt)
told_unseen NoMemory = (refl, tt)

expected : (verdict : Verdict) (H : List Entry) (input after : Option (List ℕ)) (k l : ℕ) →
    IsJudgedOn verdict H (stream_of input after k l) → (HasFailed (stream_of input after k l) → ⊥) →
    (verdict_status verdict ≡ 5) ⊎ IsExpectedVerdict input (verdict_status verdict)
expected verdict H input after k l on sound =
    let found = replayed verdict input after None None k l 0 0 (verdict_status verdict) (H, on) (told_unseen verdict)
    (λ h. absurd (omega (arith, h))) in
    found.complete sound (λ h. absurd (omega (arith, h)))

-- The whole.

-- an ending is told by the world of the entries that were done
tells_behind : (verdict : Verdict) (w : World) (H : List Entry) (err : Stream) (status : ℕ) → IsBehind verdict w H →
    TellsEnding (Judged verdict) w err status → TellsEnding (Judged verdict) (replay H) err status
tells_behind (Illegal number) w H err status is tells =
    subst (λ (u : World). TellsEnding (Judged (Illegal number)) u err status) is tells
tells_behind (BadLine number fault) w H err status is tells = tells
tells_behind (Legal count) w H err status is tells = tells
tells_behind ReadFault w H err status is tells = tells
tells_behind NoMemory w H err status is tells = tells

cause_of : (verdict : Verdict) (input out : Stream) → (verdict ≡ ReadFault → HasFailed input) →
    HasCauseOf (Judged verdict) input out
cause_of ReadFault input out cause = cause refl
cause_of (Legal count) input out cause = tt
cause_of (Illegal number) input out cause = tt
cause_of (BadLine number fault) input out cause = tt
cause_of NoMemory input out cause = tt

-- the status is the verdict's, or memory was wanting to tell it
status_of : (verdict : Verdict) (w : World) (err : Stream) (status : ℕ) → TellsEnding (Judged verdict) w err status →
    (status ≡ verdict_status verdict) ⊎ (status ≡ 5)
status_of (Illegal number) w err status tells = elim tells [ inl whole ↦ inl whole.0 | inr lacking ↦ inr lacking.0 ]
status_of (BadLine number fault) w err status tells = elim tells [ inl whole ↦ inl whole.0 | inr lacking ↦ inr lacking.0 ]
status_of (Legal count) w err status tells = inl tells.0
status_of ReadFault w err status tells = inl tells.0
status_of NoMemory w err status tells = inl tells.0

read_status : (verdict : Verdict) (w : World) (err : Stream) (status : ℕ) → TellsEnding (Judged verdict) w err status →
    verdict ≡ ReadFault → status ≡ 3
read_status ReadFault w err status tells e = tells.0
read_status (Illegal number) w err status tells e = cc
read_status (BadLine number fault) w err status tells e = cc
read_status (Legal count) w err status tells e = cc
read_status NoMemory w err status tells e = cc

at_status : (status n : ℕ) (input : Option (List ℕ)) → status ≡ n → (n ≡ 5) ⊎ IsExpectedVerdict input n →
    (status ≡ 5) ⊎ IsExpectedVerdict input status
at_status status n input is is_expected = subst (λ (m : ℕ). (m ≡ 5) ⊎ IsExpectedVerdict input m) (sym is) is_expected

complete : (verdict : Verdict) (H : List Entry) (w : World) (input after : Option (List ℕ)) (k l : ℕ) (err : Stream)
    (status : ℕ) → IsJudgedOn verdict H (stream_of input after k l) → TellsEnding (Judged verdict) w err status →
    (HasFailed (stream_of input after k l) → ⊥) → (status ≡ 5) ⊎ IsExpectedVerdict input status
complete verdict H w input after k l err status on tells sound = elim (status_of verdict w err status tells) [
  | inl is ↦ at_status status (verdict_status verdict) input is (expected verdict H input after k l on sound)
  | inr five ↦ inl five
]

pub whole : (ending : Ending) (w : World) (input after a b x y : Option (List ℕ)) (k l m n p q status : ℕ) →
    TellsJournal ending (stream_of input after k l) (stream_of a b m n) w →
    (m < n → ending ≡ OutFault) → ((u : World) → why_not w ≡ why_not u → TellsEnding ending u (stream_of x y p q) status) →
    (p < q → (status ≡ 6) ⊎ (status ≡ 8)) →
    IsEvents (stream_of input after k l) (stream_of a b m n) (stream_of x y p q) status
whole (Judged verdict) w input after a b x y k l m n p q status journal risen tells fails =
    let H = journal.0 in
    let on = journal.1 in
    let told = tells_behind verdict w H (stream_of x y p q) status journal.3 (tells w refl) in
    record {
      history = H;
      legal = on.legal;
      texts = on.texts;
      ending = Judged verdict;
      judges = on.judges;
      lines = on.lines;
      takes = on.takes;
      puts = journal.2;
      tells = told;
      cause = cause_of verdict (stream_of input after k l) (stream_of a b m n) on.cause;
      input_failed = λ h. read_status verdict (replay H) (stream_of x y p q) status told (on.risen h);
      out_failed = λ h. absurd (not_out verdict (risen h));
      err_failed = fails;
      complete = λ sound good. complete verdict H (replay H) input after k l (stream_of x y p q) status on told sound;
    }
  where
    not_out : (v : Verdict) → Judged v ≡ OutFault → ⊥
    not_out v e = cc
whole OutFault w input after a b x y k l m n p q status journal risen tells fails =
    let on = journal.1 in
    let told = tells w refl in
    record {
      history = journal.0;
      legal = on.legal;
      texts = on.texts;
      ending = OutFault;
      judges = on.judges;
      lines = on.lines;
      takes = on.takes;
      puts = journal.3;
      tells = told;
      cause = journal.2;
      input_failed = λ h. absurd (not_read (on.risen h));
      out_failed = λ h. told.0;
      err_failed = fails;
      complete = λ sound good. absurd (good journal.2);
    }
  where
    not_read : NoMemory ≡ ReadFault → ⊥
    not_read e = cc

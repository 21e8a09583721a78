-- The verdict by the input alone, and the whole of a replay.
use Rattle.std.proofs.Common.{◌≡◌, ℕ, ◌+◌, ◌<◌, List, [], ◌∷◌, ◌++◌, length, Bool, true, false, cond, refl, Option, Some, None, inl, inr, ◌⊎◌, sym, ◌∙◌, ap, subst, arith}
use Rattle.std.proofs.lemmas.List.{append-nil}
use Rattle.swarm_model.specs.History.{IsLegal, IsLegalFrom, replay, replay_from, step_world}
use Rattle.swarm_objects.specs.Outside.{Rose}
use Rattle.swarm_objects.specs.World.{World, empty_world}
use Rattle.swarm_objects.specs.declared.calls.Entry.{Entry}
use Rattle.swarm_replay.specs.Journal.{journal_reading}
use Rattle.swarm_replay.specs.Replay.{IsExpectedVerdict, IsPutStatus, IsReplay, IsVerdictOf, IsVerdictOn, Judges, TellsVerdict, judge, verdict_on, verdict_status}
use Rattle.swarm_input.specs.Streams.{stream_of}
use Rattle.swarm_replay.specs.Inside.ReplaySteps.{IsJudged}
use Rattle.swarm_replay.specs.declared.verdicts.EntryFault.{EntryFault}
use Rattle.swarm_replay.specs.declared.verdicts.Verdict.{Verdict}
use Rattle.swarm_replay.specs.declared.verdicts.Verdict.TheVariants.{Legal, Illegal, BadLine, ReadFault, NoMemory}

plus_zero : (n : ℕ) → n ≡ n + 0
plus_zero n = omega arith

plus_one : (n : ℕ) (e : Entry) (es : List Entry) → (n + 1) + length es ≡ n + length (e ∷ es)
plus_one n e es = omega arith

-- legal entries decide nothing
judge_legal : (w : World) (H more : List Entry) (bad : Option (ℕ × EntryFault)) (done : ℕ) → IsLegalFrom w H →
    judge w done (H ++ more) bad ≡ judge (replay_from w H) (done + length H) more bad
judge_legal w [] more bad done legal = ap (λ k. judge w k more bad) (plus_zero done)
judge_legal w (e ∷ H) more bad done legal =
    ap (λ (b : Bool). cond b (judge (step_world w e) (done + 1) (H ++ more) bad) (Illegal (done + 1))) legal.0
    ∙ judge_legal (step_world w e) H more bad (done + 1) legal.1
    ∙ ap (λ k. judge (replay_from (step_world w e) H) k more bad) (plus_one done e H)

-- legal entries alone
judge_all : (H : List Entry) (bad : Option (ℕ × EntryFault)) → IsLegal H →
    judge empty_world 0 H bad ≡ judge (replay H) (0 + length H) [] bad
judge_all H bad legal = ap (λ (es : List Entry). judge empty_world 0 es bad) (sym (append-nil H)) ∙ judge_legal empty_world H [] bad 0 legal

-- a verdict on a whole input is the expected one
expected : (verdict : Verdict) (input rest : List ℕ) (H : List Entry) → IsLegal H → Judges verdict H →
    IsVerdictOn verdict input rest H → (verdict ≡ ReadFault → ⊥) → (verdict ≡ NoMemory → ⊥) →
    verdict_on (journal_reading input) ≡ verdict
expected (Legal count) input rest H legal judges says other lacking =
    let same : 0 + length H ≡ count = omega (arith, judges) in
    ap verdict_on says.0 ∙ judge_all H None legal ∙ ap Legal same
expected (Illegal number) input rest H legal judges says other lacking =
    let bad = (journal_reading input).bad in
    let same : (0 + length H) + 1 ≡ number = omega (arith, judges.0) in
    ap (λ (es : List Entry). judge empty_world 0 es bad) says.entries
    ∙ judge_legal empty_world H (says.entry ∷ says.more) bad 0 legal
    ∙ ap (λ (b : Bool). cond b (judge (step_world (replay H) says.entry) ((0 + length H) + 1) says.more bad) (Illegal ((0 + length H) + 1))) says.breaks
    ∙ ap Illegal same
expected (BadLine number fault) input rest H legal judges says other lacking =
    ap verdict_on says ∙ judge_all H (Some (number, fault)) legal
expected ReadFault input rest H legal judges says other lacking = absurd (other refl)
expected NoMemory input rest H legal judges says other lacking = absurd (lacking refl)

expected_of : (verdict : Verdict) (input after : Option (List ℕ)) (H : List Entry) (status : ℕ) → IsLegal H → Judges verdict H →
    IsVerdictOf verdict input after H → (verdict ≡ ReadFault → ⊥) → (verdict ≡ NoMemory → ⊥) →
    status ≡ verdict_status verdict → IsExpectedVerdict input status
expected_of verdict None after H status legal judges says other lacking is = tt
expected_of verdict (Some input) None H status legal judges says other lacking is = absurd says
expected_of verdict (Some input) (Some rest) H status legal judges says other lacking is =
    is ∙ ap verdict_status (sym (expected verdict input rest H legal judges says other lacking))

complete : (verdict : Verdict) (input after x y : Option (List ℕ)) (m n k l : ℕ) (H : List Entry) (status : ℕ) → IsLegal H →
    Judges verdict H → IsVerdictOf verdict input after H → (verdict ≡ ReadFault → Rose m n) →
    TellsVerdict verdict (stream_of x y k l) status → (Rose m n → ⊥) → (Rose k l → ⊥) →
    (status ≡ 5) ⊎ IsExpectedVerdict input status
complete (Legal count) input after x y m n k l H status legal judges says cause tells sound sink = elim tells [
  | inl whole ↦ inr (expected_of (Legal count) input after H status legal judges says (λ e. cc) (λ e. cc) whole.0)
  | inr part ↦ elim part [ inl fault ↦ absurd (sink fault.1) | inr lacking ↦ inl lacking.0 ]
]
complete (Illegal number) input after x y m n k l H status legal judges says cause tells sound sink = elim tells [
  | inl whole ↦ inr (expected_of (Illegal number) input after H status legal judges says (λ e. cc) (λ e. cc) whole.0)
  | inr lacking ↦ inl lacking.0
]
complete (BadLine number fault) input after x y m n k l H status legal judges says cause tells sound sink = elim tells [
  | inl whole ↦ inr (expected_of (BadLine number fault) input after H status legal judges says (λ e. cc) (λ e. cc) whole.0)
  | inr lacking ↦ inl lacking.0
]
complete ReadFault input after x y m n k l H status legal judges says cause tells sound sink = absurd (sound (cause refl))
complete NoMemory input after x y m n k l H status legal judges says cause tells sound sink = inl tells.0

read_status : (verdict : Verdict) (x y : Option (List ℕ)) (k l status : ℕ) → verdict ≡ ReadFault →
    TellsVerdict verdict (stream_of x y k l) status → status ≡ 3
read_status ReadFault x y k l status e tells = tells.0
read_status (Legal count) x y k l status e tells = cc
read_status (Illegal number) x y k l status e tells = cc
read_status (BadLine number fault) x y k l status e tells = cc
read_status NoMemory x y k l status e tells = cc

-- what was found and how it was told make the whole
pub replayed : (verdict : Verdict) (input after x y : Option (List ℕ)) (m n k l status : ℕ) →
    IsJudged verdict (stream_of input after m n) → TellsVerdict verdict (stream_of x y k l) status →
    (k < l → IsPutStatus status) → IsReplay (stream_of input after m n) (stream_of x y k l) status
replayed verdict input after x y m n k l status judged tells risen =
    let history = judged.0 in
    let found = judged.1 in
    record {
      history = history;
      legal = found.legal;
      texts = found.texts;
      verdict = verdict;
      judges = found.judges;
      lines = found.lines;
      tells = tells;
      cause = found.cause;
      takes = found.takes;
      input_failed = λ h. read_status verdict x y k l status (found.risen h) tells;
      out_failed = risen;
      complete = λ sound sink. complete verdict input after x y m n k l history status found.legal found.judges found.lines
          found.cause tells sound sink;
    }

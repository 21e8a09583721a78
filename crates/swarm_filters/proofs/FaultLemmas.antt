-- Where a text leaves the form of constraints.
use Rattle.std.proofs.Common.{◌≡◌, ℕ, ◌+◌, ◌<◌, List, [], ◌∷◌, ◌++◌, length, take, drop, Option, Some, None, sym, ap, ◌∙◌, arith, subst}
use Rattle.std.proofs.lemmas.List.{take-append-drop}
use Rattle.std.proofs.Math.Seq.{take-length}
use Rattle.swarm_objects.specs.declared.templates.Constraint.{Constraint}
use Rattle.swarm_filters.specs.Grammar.{IsConstraint, Continues, IsFault}
use Rattle.swarm_filters.specs.Machine.{Progress, start, byte_step, goes_on, run_bytes, whole_of}
use Rattle.swarm_filters.proofs.Suffixes.{never}
use Rattle.swarm_filters.proofs.Runs.{Continues-read}
use Rattle.swarm_filters.proofs.Wholes.{run_bytes-append, run_bytes-IsConstraint}

no_reading : (o : Option Progress) (more : List ℕ) (s : Progress) → o ≡ None → goes_on o (λ q. run_bytes q more) ≡ Some s → ⊥
no_reading o more s none e = never s (sym (ap (λ x. goes_on x (λ q. run_bytes q more)) none) ∙ e)

-- what can't be read begins no constraint
unread : (text : List ℕ) → run_bytes start text ≡ None → Continues text → ⊥
unread text none going =
    let made : (s : Progress) × ((run_bytes start (text ++ going.0) ≡ Some s) × (whole_of s ≡ Some going.1.0)) = run_bytes-IsConstraint (text ++ going.0) going.1.0 going.1.1 in
    no_reading (run_bytes start text) going.0 made.0 none (sym (run_bytes-append text start going.0) ∙ made.1.0)

stuck : (text : List ℕ) (b : ℕ) (s : Progress) → run_bytes start text ≡ Some s → byte_step s b ≡ None → run_bytes start (text ++ b ∷ []) ≡ None
stuck text b s read none = run_bytes-append text start (b ∷ []) ∙ ap (λ o. goes_on o (λ q. run_bytes q (b ∷ []))) read ∙ ap (λ o. goes_on o (λ q. run_bytes q [])) none

-- the byte there has no step
pub IsFault-there : (text : List ℕ) (i b : ℕ) (s : Progress) → i < length text → take (i + 1) text ≡ take i text ++ b ∷ [] → run_bytes start (take i text) ≡ Some s → byte_step s b ≡ None → IsFault text i
IsFault-there text i b s below next read none = record {
  within = omega arith;
  before = Continues-read (take i text) s read;
  there = λ lt going. unread (take (i + 1) text) (ap (λ x. run_bytes start x) next ∙ stuck (take i text) b s read none) going;
  whole = λ c is. unread (take (i + 1) text) (ap (λ x. run_bytes start x) next ∙ stuck (take i text) b s read none) (drop (i + 1) text, (c, subst (λ x. IsConstraint x c) (sym (take-append-drop (i + 1) text)) is));
}

-- the text ends too early
pub IsFault-cut : (text : List ℕ) (s : Progress) → run_bytes start text ≡ Some s → whole_of s ≡ None → IsFault text (length text)
IsFault-cut text s read none = record {
  within = omega arith;
  before = subst (λ x. Continues x) (sym (take-length text)) (Continues-read text s read);
  there = λ lt going. absurd (omega arith);
  whole = λ c is. not_whole c (run_bytes-IsConstraint text c is);
}
  where
    not_whole : (c : Constraint) → (q : Progress) × ((run_bytes start text ≡ Some q) × (whole_of q ≡ Some c)) → ⊥
    not_whole c made =
        let same_reading : Some s ≡ Some made.0 = sym read ∙ made.1.0 in
        let same_one : s ≡ made.0 = cc in
        let clash : None ≡ Some c = sym none ∙ ap whole_of same_one ∙ made.1.1 in
        absurd (cc)

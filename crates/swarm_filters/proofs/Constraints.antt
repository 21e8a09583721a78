-- The constraint that a text is: the machine makes it, and there is no other.
use Rattle.std.proofs.Common.{◌≡◌, ℕ, List, Option, Some, None, refl, sym, ap, ◌∙◌, subst}
use Rattle.std.specs.Option.{option_and_then}
use Rattle.swarm_objects.specs.declared.templates.Constraint.{Constraint}
use Rattle.swarm_filters.specs.Grammar.{HoldsExactly, IsConstraint, IsFault, IsOnly}
use Rattle.swarm_filters.specs.Machine.{Progress, start, run_bytes, whole_of, constraint_of}
use Rattle.swarm_filters.proofs.Runs.{IsConstraint-read}
use Rattle.swarm_filters.proofs.Wholes.{run_bytes-IsConstraint}

pub constraint_of-complete : (text : List ℕ) (c : Constraint) → IsConstraint text c → constraint_of text ≡ Some c
constraint_of-complete text c is =
    let made : (s : Progress) × ((run_bytes start text ≡ Some s) × (whole_of s ≡ Some c)) = run_bytes-IsConstraint text c is in
    ap (λ o. option_and_then whole_of o) made.1.0 ∙ made.1.1

pub constraint_of-sound : (text : List ℕ) (c : Constraint) → constraint_of text ≡ Some c → IsConstraint text c
constraint_of-sound text c is = go (run_bytes start text) refl is
  where
    go : (o : Option Progress) → run_bytes start text ≡ o → option_and_then whole_of o ≡ Some c → IsConstraint text c
    go None e h = absurd (cc)
    go (Some s) e h = IsConstraint-read text s c e h

pub constraint_of-exact : (text : List ℕ) → HoldsExactly (IsConstraint text) (constraint_of text)
constraint_of-exact text c = (constraint_of-sound text c, constraint_of-complete text c)

-- what equals the one that is computed is it
pub exact_constraint : (text : List ℕ) (held : Option Constraint) → held ≡ constraint_of text → HoldsExactly (IsConstraint text) held
exact_constraint text held is = subst (λ o. HoldsExactly (IsConstraint text) o) (sym is) (constraint_of-exact text)

-- a text is at most one constraint
pub one_constraint : (text : List ℕ) (c d : Constraint) → IsConstraint text c → IsConstraint text d → c ≡ d
one_constraint text c d is other =
    let one : constraint_of text ≡ Some c = constraint_of-complete text c is in
    let two : constraint_of text ≡ Some d = constraint_of-complete text d other in
    cc

pub only : (text : List ℕ) (c : Constraint) → IsConstraint text c → IsOnly text c
only text c is other also = one_constraint text other c also is

-- a text that leaves the form is none
pub constraint_of-fault : (text : List ℕ) (place : ℕ) → IsFault text place → constraint_of text ≡ None
constraint_of-fault text place fault = go (constraint_of text) refl
  where
    go : (o : Option Constraint) → constraint_of text ≡ o → constraint_of text ≡ None
    go None e = e
    go (Some c) e = absurd (fault.whole c (constraint_of-sound text c e))

-- The closing of a task under a further entry; and what holds of every legal history, by its last entry.
use Rattle.std.proofs.Common.{List, None, Option, Some, [], refl, subst, sym, true, ℕ, ◌++◌, ◌+◌, ◌∷◌, ◌≡◌}
use Rattle.swarm_settle.proofs.ShapeDuties.{set_at}
use Rattle.swarm_settle.proofs.Shapes.{IsLater}
use Rattle.std.proofs.Common.{Bool, arith, ap, cond, ◌∙◌}
use Rattle.std.proofs.lemmas.Bool.Decides.{nat_tests}
use Rattle.std.specs.Prelude.{◌==◌}
use Rattle.swarm_model.proofs.Base.Histories.{IsLegalFrom-snoc, replay-snoc}
use Rattle.swarm_model.specs.Closing.{Closing, cause_set, closing, closing_from, later}
use Rattle.swarm_model.specs.History.{IsLegal, IsLegalFrom, may_follow, replay, replay_from, step_world}
use Rattle.swarm_objects.proofs.Tests.{false_from_ne_true}
use Rattle.swarm_objects.specs.World.{World, empty_world}
use Rattle.swarm_objects.specs.declared.calls.Entry.{Entry}
use Rattle.swarm_objects.specs.declared.tasks.Closed.{Closed}

closing_from-snoc : (id : ℕ) (w : World) (before : Option Closing) (es : List Entry) (e : Entry) →
    closing_from id w before (es ++ e ∷ [])
    ≡ later (closing_from id w before es) ((replay_from w es).entries + 1) (cause_set (replay_from w es) id e.what)
closing_from-snoc id w before [] e = refl
closing_from-snoc id w before (x ∷ es) e =
    closing_from-snoc id (step_world w x) (later before (w.entries + 1) (cause_set w id x.what)) es e

pub closing-snoc : (id : ℕ) (h : List Entry) (e : Entry) →
    closing (h ++ e ∷ []) id ≡ later (closing h id) ((replay h).entries + 1) (cause_set (replay h) id e.what)
closing-snoc id h e = closing_from-snoc id empty_world None h e

-- the entry sets just these causes
pub is-later : (n : ℕ) (set : Option (ℕ × Closed)) (c d : ℕ → Option Closing) (causes : ℕ → Option Closed) →
    ((id : ℕ) → set_at set id ≡ causes id) → ((id : ℕ) → d id ≡ later (c id) n (causes id)) → IsLater n set c d
is-later n None c d causes sets next = λ id. next id ∙ ap (later (c id) n) (sym (sets id))
is-later n (Some set) c d causes sets next = (
  next set.0 ∙ ap (later (c set.0) n) (sym (sets set.0))
      ∙ ap (λ (b : Bool). later (c set.0) n (cond b (Some set.1) None)) (same set.0),
  λ id other.
      next id ∙ ap (later (c id) n) (sym (sets id))
      ∙ ap (λ (b : Bool). later (c id) n (cond b (Some set.1) None))
      (false_from_ne_true (set.0 == id) (λ e. other (sym (is set.0 id e)))),
)
  where
    same : (k : ℕ) → (k == k) ≡ true
    same k = grind (arith, nat_tests)

    is : (k j : ℕ) → (k == j) ≡ true → k ≡ j
    is k j e = grind (arith, nat_tests, e)

regroup : (g : List Entry) (e : Entry) (h : List Entry) → (g ++ e ∷ []) ++ h ≡ g ++ e ∷ h
regroup [] e h = refl
regroup (x ∷ g) e h = ap (λ (es : List Entry). x ∷ es) (regroup g e h)

append-none : (g : List Entry) → g ++ [] ≡ g
append-none [] = refl
append-none (x ∷ g) = ap (λ (es : List Entry). x ∷ es) (append-none g)

from-there : (P : List Entry → Type 0) →
    ((h : List Entry) (e : Entry) → IsLegal h → may_follow (replay h) e.what ≡ true → P h → P (h ++ e ∷ [])) →
    (g h : List Entry) → IsLegal g → IsLegalFrom (replay g) h → P g → P (g ++ h)
from-there P next g [] legal rest holds = subst P (sym (append-none g)) holds
from-there P next g (e ∷ h) legal rest holds =
    subst P (regroup g e h)
    (from-there P next (g ++ e ∷ []) h (IsLegalFrom-snoc empty_world g e legal rest.0)
    (subst (λ (w : World). IsLegalFrom w h) (sym (replay-snoc empty_world g e)) rest.1) (next g e legal rest.0 holds))

-- what a further entry keeps, of the history with it
pub by-last : (P : List Entry → Type 0) → P [] →
    ((h : List Entry) (e : Entry) → IsLegal h → may_follow (replay h) e.what ≡ true → P h → P (h ++ e ∷ [])) →
    (h : List Entry) → IsLegal h → P h
by-last P none next h legal = from-there P next [] h tt legal none

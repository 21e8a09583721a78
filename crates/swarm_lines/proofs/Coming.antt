-- What came since a history was seen, one part after the other.
use Rattle.std.proofs.Common.{◌≡◌, ℕ, ◌+◌, List, [], ◌∷◌, ◌++◌, Bool, true, false, cond, ◌==◌, refl, ap, ◌∙◌, sym, subst, append_assoc, append-nil}
use Rattle.swarm_lines.specs.Came.{Came, Stays}
use Rattle.swarm_model.proofs.Following.Keeping.{sees_on}
use Rattle.swarm_model.proofs.Following.Own.{own-append}
use Rattle.swarm_model.specs.History.{replay}
use Rattle.swarm_model.specs.Own.{Step, own, own_from, step_at}
use Rattle.swarm_model.specs.Undone.{Sees, SeesBusy}
use Rattle.swarm_objects.specs.World.{World}
use Rattle.swarm_objects.specs.declared.calls.Entry.{Entry}
use Rattle.turn_cell.specs.Entries.{StartsWith, mine_from, mine_of}

-- Parts.

pub came_none : (old : List Entry) → Stays old old
came_none old = record { rest = []; history = sym (append-nil old); steps = refl }

steps_joined : (old rest more : List Entry) (first second : List Step) → own_from 0 old rest ≡ first →
    own_from 0 (old ++ rest) more ≡ second → own_from 0 old (rest ++ more) ≡ first ++ second
steps_joined old rest more first second e f =
    own-append 0 old rest more
    ∙ ap (λ (l : List Step). l ++ own_from 0 (old ++ rest) more) e
    ∙ ap (λ (l : List Step). first ++ l) f

pub came_then : (old mid new : List Entry) (first second : List Step) → Came old mid first → Came mid new second →
    Came old new (first ++ second)
came_then old mid new first second a b = record {
  rest = a.rest ++ b.rest;
  history =
      b.history ∙ ap (λ (l : List Entry). l ++ b.rest) a.history ∙ append_assoc old a.rest b.rest;
  steps = steps_joined old a.rest b.rest first second a.steps
      (ap (λ (l : List Entry). own_from 0 l b.rest) (sym a.history) ∙ b.steps);
}

-- where none came at the end, or at the start
pub came_stays : (old mid new : List Entry) (part : List Step) → Came old mid part → Stays mid new → Came old new part
came_stays old mid new part a b =
    subst (Came old new) (append-nil part) (came_then old mid new part [] a b)

pub stays_came : (old mid new : List Entry) (part : List Step) → Stays old mid → Came mid new part → Came old new part
stays_came old mid new part a b = came_then old mid new [] part a b

-- all of caller 0's entries
pub own_came : (old new : List Entry) (part : List Step) → Came old new part → own 0 new ≡ own 0 old ++ part
own_came old new part c =
    ap (own 0) c.history ∙ own-append 0 [] old c.rest ∙ ap (λ (l : List Step). own 0 old ++ l) c.steps

-- Looks.

pub sees_then : (old new : List Entry) (w : World) → Stays old new → Sees old w → Sees new w
sees_then old new w c s =
    subst (λ (l : List Entry). Sees l w) (sym c.history) (sees_on old c.rest w c.steps s)

pub busy_then : (old new : List Entry) → Stays old new → SeesBusy old → SeesBusy new
busy_then old new c s = record { world = s.world; sees = sees_then old new s.world c s.sees; busy = s.busy }

pub saw : (old new : List Entry) → Stays old new → Sees new (replay old)
saw old new c = record { seen = old; others = c.rest; history = c.history; none = c.steps; world = refl }

-- Where a caller's numbered entries are the same, others alone appended.

abbrev by_of : Entry → ℕ
by_of e = e.by

chosen : {X : Type 0} (c : Bool) (x : X) (l m : List X) → cond c (x ∷ (l ++ m)) (l ++ m) ≡ cond c (x ∷ l) l ++ m
chosen true x l m = refl
chosen false x l m = refl

chosen_one : {X : Type 0} (c : Bool) (x : X) → c ≡ true → cond c (x ∷ []) [] ≡ x ∷ []
chosen_one true x e = refl
chosen_one false x e = absurd cc

mine_parts : (n k : ℕ) (xs ys : List Entry) →
    (j : ℕ) × (mine_from by_of n k (xs ++ ys) ≡ mine_from by_of n k xs ++ mine_from by_of n j ys)
mine_parts n k [] ys = (k, refl)
mine_parts n k (x ∷ xs) ys =
    let rest = mine_parts n (k + 1) xs ys in (
      rest.0,
      ap (λ (l : List (ℕ × Entry)). cond (x.by == n) ((k, x) ∷ l) l) rest.1
          ∙ chosen (x.by == n) (k, x) (mine_from by_of n (k + 1) xs) (mine_from by_of n rest.0 ys),
    )

neither : {X Y : Type 0} (b : Bool) (x : X) (xs : List X) (y : Y) (ys : List Y) → cond b (x ∷ xs) xs ≡ [] →
    (xs ≡ [] → ys ≡ []) → cond b (y ∷ ys) ys ≡ []
neither true x xs y ys e rest = absurd cc
neither false x xs y ys e rest = rest e

no_own : (j : ℕ) (before ys : List Entry) → mine_from by_of 0 j ys ≡ [] → own_from 0 before ys ≡ []
no_own j before [] e = refl
no_own j before (y ∷ ys) e =
    neither (y.by == 0) (j, y) (mine_from by_of 0 (j + 1) ys) (step_at before y) (own_from 0 (before ++ y ∷ []) ys) e
    (no_own (j + 1) (before ++ y ∷ []) ys)

none_more : {X : Type 0} (xs ys : List X) → xs ++ ys ≡ xs → ys ≡ []
none_more [] ys e = e
none_more (x ∷ xs) ys e = none_more xs ys cc

-- caller n, which is 0, found a history that goes on from what it had seen, with nothing of its own more
abbrev pub Finds : ℕ → List Entry → List Entry → Type 0
Finds n old before = (n ≡ 0) × StartsWith before old × (mine_of (λ e. e.by) n before ≡ mine_of (λ e. e.by) n old)

none_between : (n : ℕ) (old before : List Entry) (f : Finds n old before) → own_from 0 old f.1.0 ≡ []
none_between n old before f =
    let parts = mine_parts n 1 old f.1.0 in
    no_own parts.0 old f.1.0
    (subst (λ (m : ℕ). mine_from by_of m parts.0 f.1.0 ≡ []) f.0
    (none_more (mine_from by_of n 1 old) (mine_from by_of n parts.0 f.1.0)
    (sym parts.1 ∙ ap (mine_of by_of n) (sym f.1.1) ∙ f.2)))

pub found : (n : ℕ) (old before : List Entry) → Finds n old before → Stays old before
found n old before f = record { rest = f.1.0; history = f.1.1; steps = none_between n old before f }

one_came : (before new : List Entry) (e : Entry) → (e.by == 0) ≡ true → new ≡ before ++ e ∷ [] →
    Came before new (step_at before e ∷ [])
one_came before new e by is =
    record { rest = e ∷ []; history = is; steps = chosen_one (e.by == 0) (step_at before e) by }

pub came_one : (old before new : List Entry) (e : Entry) → Stays old before → (e.by == 0) ≡ true →
    new ≡ before ++ e ∷ [] → Came old new (step_at before e ∷ [])
came_one old before new e others by is =
    stays_came old before new (step_at before e ∷ []) others (one_came before new e by is)

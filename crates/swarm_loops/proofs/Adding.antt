-- A worker's entries grow by turns of its control loops.
use Rattle.std.proofs.Common.{◌≡◌, ◌<◌, ◌⊎◌, ℕ, zero, suc, List, [], ◌∷◌, ◌++◌, length, get_or, inl, inr, refl, sym, ap, ◌∙◌, subst, append_assoc, append-nil, Some, arith}
use Rattle.std.proofs.lemmas.List.{append_cancel_left}
use Rattle.swarm_loops.specs.Turns.{AddsTurns, IsTurn}
use Rattle.swarm_model.proofs.Base.FromLists.{role_of-Has}
use Rattle.swarm_model.specs.History.{replay}
use Rattle.swarm_objects.proofs.RowLemmas.{Has-append_cases}
use Rattle.swarm_objects.specs.Duties.{duties}
use Rattle.swarm_objects.specs.Kinds.{role_of}
use Rattle.swarm_objects.specs.Rows.{Has, first_of}
use Rattle.swarm_objects.specs.declared.calls.Entry.{Entry}
use Rattle.swarm_objects.specs.declared.duties.Duty.{Duty}
use Rattle.swarm_objects.specs.declared.loops.Role.{Role}
use Rattle.swarm_world.specs.Work.{Turns, duty_by}
use Rattle.swarm_world.specs.declared.turns.Turn.{Turn}
use Rattle.swarm_world.specs.declared.turns.Turn.TheVariants.{Did, Idle, Halted, Full, NoMemory}
use Rattle.turn_cell.specs.Entries.{StartsWith}

-- What was seen goes on.

pub starts_then : {I : Type 0} (xs ys zs : List I) → StartsWith ys xs → StartsWith zs ys → StartsWith zs xs
starts_then xs ys zs a b = (a.0 ++ b.0, b.1 ∙ ap (λ l. l ++ b.0) a.1 ∙ append_assoc xs a.0 b.0)

-- a turn stays one while the history goes on
turn_stays : (rs : List Role) (history longer : List Entry) (m : ℕ × Entry) → StartsWith longer history →
    IsTurn rs history m → IsTurn rs longer m
turn_stays rs history longer m on t = record {
  duty = t.duty;
  is_duty = t.is_duty;
  shared = t.shared;
  before = t.before;
  stands = starts_then (t.before ++ m.1 ∷ []) history longer t.stands on;
  number = t.number;
  first = t.first;
}

pub adds_none : (rs : List Role) (ms : List (ℕ × Entry)) (history : List Entry) → AddsTurns rs ms ms history
adds_none rs ms history = record { turns = []; adds = sym (append-nil ms); are_turns = λ m h. absurd h }

pub adds_then : (rs : List Role) (ms ns os : List (ℕ × Entry)) (history longer : List Entry) → StartsWith longer history →
    AddsTurns rs ms ns history → AddsTurns rs ns os longer → AddsTurns rs ms os longer
adds_then rs ms ns os history longer on a b = record {
  turns = a.turns ++ b.turns;
  adds = b.adds ∙ ap (λ l. l ++ b.turns) a.adds ∙ append_assoc ms a.turns b.turns;
  are_turns =
      λ m h. elim (Has-append_cases a.turns b.turns m h) [
        | inl k ↦ turn_stays rs history longer m on (a.are_turns m k)
        | inr k ↦ b.are_turns m k
      ];
}

-- the same where nothing came
pub adds_moved : (rs : List Role) (ms ns ns' : List (ℕ × Entry)) (history history' : List Entry) → ns ≡ ns' →
    history ≡ history' → AddsTurns rs ms ns history → AddsTurns rs ms ns' history'
adds_moved rs ms ns ns' history history' same stays a =
    subst (AddsTurns rs ms ns') stays (subst (λ l. AddsTurns rs ms l history) same a)

-- What one turn appends.

first_has : (ds : List Duty) (d : Duty) → first_of ds ≡ Some d → Has ds d
first_has [] d e = absurd cc
first_has (x ∷ ds) d e = inl cc

one_more : (xs : List Entry) (x : Entry) → xs ++ x ∷ [] ≡ xs → ⊥
one_more xs x e = none (append_cancel_left xs (x ∷ []) [] (e ∙ sym (append-nil xs)))
  where
    none : x ∷ [] ≡ [] → ⊥
    none e = cc

same_last : (xs : List Entry) (x y : Entry) → xs ++ x ∷ [] ≡ xs ++ y ∷ [] → x ≡ y
same_last xs x y e = head (append_cancel_left xs (x ∷ []) (y ∷ []) e)
  where
    head : x ∷ [] ≡ y ∷ [] → x ≡ y
    head e = cc

is_turn : (by : ℕ) (rs : List Role) (r : Role) (before after : List Entry) (turn : Turn) → Has rs r →
    Turns by r before after turn → (x : Entry) → after ≡ before ++ x ∷ [] → IsTurn rs after (length after, x)
is_turn by rs r before after (Did d) there h x e =
    let has_role : role_of d ≡ r = role_of-Has r (replay before) d (first_has (duties r (replay before)) d h.1) in record {
      duty = d;
      is_duty = ap (λ y. y.what) (same_last before x (duty_by by d) (sym e ∙ h.0));
      shared = subst (Has rs) (sym has_role) there;
      before = before;
      stands = ([], e ∙ sym (append-nil (before ++ x ∷ [])));
      number = ap length e;
      first = subst (λ role. first_of (duties role (replay before)) ≡ Some d) (sym has_role) h.1;
    }
is_turn by rs r before after Idle there h x e = absurd (one_more before x (sym e ∙ h.0))
is_turn by rs r before after Halted there h x e = absurd (one_more before x (sym e ∙ h.0))
is_turn by rs r before after (Full n) there h x e = absurd (one_more before x (sym e ∙ h.0))
is_turn by rs r before after NoMemory there h x e = absurd (one_more before x (sym e ∙ h.0))

only : (rs : List Role) (history : List Entry) (n m : ℕ × Entry) → IsTurn rs history n → Has (n ∷ []) m → IsTurn rs history m
only rs history n m t (inl e) = subst (IsTurn rs history) e t
only rs history n m t (inr k) = absurd k

-- what the turn cell says that the caller's entries became
abbrev Grew : ℕ → (before after : List Entry) (ms ns : List (ℕ × Entry)) → Type 0
Grew by before after ms ns =
    ((after ≡ before) × (ns ≡ ms))
    ⊎ ((x : Entry) × (x.by ≡ by) × (after ≡ before ++ x ∷ []) × (ns ≡ ms ++ (length after, x) ∷ []))

adds_turn : (by : ℕ) (rs : List Role) (r : Role) (before after : List Entry) (turn : Turn) (ms ns : List (ℕ × Entry)) →
    Has rs r → Turns by r before after turn → Grew by before after ms ns → AddsTurns rs ms ns after
adds_turn by rs r before after turn ms ns there turns (inl same) =
    subst (λ l. AddsTurns rs ms l after) (sym same.1) (adds_none rs ms after)
adds_turn by rs r before after turn ms ns there turns (inr grew) =
    let x = grew.0 in record {
      turns = (length after, x) ∷ [];
      adds = grew.3;
      are_turns =
          λ m h. only rs after (length after, x) m (is_turn by rs r before after turn there turns x grew.2) h;
    }

at_place : {X : Type 0} (xs : List X) (k : ℕ) (d : X) → k < length xs → Has xs (get_or xs k d)
at_place [] k d l = absurd (omega arith)
at_place (x ∷ xs) zero d l = inl refl
at_place (x ∷ xs) (suc k) d l = inr (at_place xs k d (omega arith))

-- a turn of the loop at this place of the list
pub adds_at : (by k : ℕ) (rs : List Role) (r d : Role) (before after : List Entry) (turn : Turn) (ms ns : List (ℕ × Entry)) →
    k < length rs → r ≡ get_or rs k d → Turns by r before after turn → Grew by before after ms ns →
    AddsTurns rs ms ns after
adds_at by k rs r d before after turn ms ns below is turns grew =
    adds_turn by rs r before after turn ms ns (subst (Has rs) (sym is) (at_place rs k d below)) turns grew

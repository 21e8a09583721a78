-- The length of the next message, as a count of numbers: the message itself is looked at here alone.
use Rattle.std.proofs.Common.{Bool, List, None, Option, Some, [], ap, arith, cond, eqb, false, inl, inr, length, not, refl, subst, sym, true, ℕ, ◌++◌, ◌<◌, ◌∙◌, ◌∷◌, ◌≡◌, ◌≤◌}
use Rattle.std.proofs.lemmas.Bool.Decides.{nat_tests}
use Rattle.std.proofs.lemmas.List.{length-append}
use Rattle.std.specs.Prelude.{filter, flat_map, is_some, map, ◌&&◌, ◌||◌}
use Rattle.swarm_settle.proofs.Bound.Sending.Numbers.{count-at, count-none, count-same, count_below}
use Rattle.swarm_objects.proofs.Hearing.{has-number, keys-has, rows-left, update-row}
use Rattle.swarm_objects.proofs.Rising.{rising-cases, rising-rises}
use Rattle.swarm_objects.proofs.RowLemmas.{Has-append_cases, Has-map_cases}
use Rattle.swarm_objects.proofs.Tests.{neither_left, neither_right, never-both, or_cases}
use Rattle.swarm_objects.specs.Agents.Messages.{assigned_task, change_of, changes_of, is_sent, tasks_of_either, update_of}
use Rattle.swarm_objects.specs.Kinds.{bit}
use Rattle.swarm_objects.specs.Rows.{Has, IsBelow, IsRising, RisesFrom, has_row, itself, on_row, row_at}
use Rattle.swarm_objects.specs.declared.messages.AssignChange.TheVariants as assign
use Rattle.swarm_objects.specs.declared.messages.AssignChange.{AssignChange}
use Rattle.swarm_objects.specs.declared.messages.Assigned.{Assigned}

-- the task is due and wasn't sent so, or it was sent and isn't due any more
abbrev pub differs : List Assigned → ℕ → Option Assigned → Bool
differs sent task (Some a) = not (is_sent sent a)
differs sent task None = has_row assigned_task task sent

-- of one number

one-change : (sent due : List Assigned) (k : ℕ) → IsRising assigned_task due →
    (has_row assigned_task k sent || has_row assigned_task k due) ≡ true →
    length (change_of sent due k) ≡ bit (differs sent k (row_at assigned_task k due))
one-change sent due k rises there = go (row_at assigned_task k due) refl
  where
    left : List Assigned
    left = filter (λ a. not (is_sent sent a)) due

    as_long : (b : Bool) (a : Assigned) →
        length (on_row [] (λ (a : Assigned). assign.Update a ∷ []) (cond b (Some a) None)) ≡ bit b
    as_long true a = refl
    as_long false a = refl

    go : (o : Option Assigned) → row_at assigned_task k due ≡ o →
        length (change_of sent due k) ≡ bit (differs sent k o)
    go None at =
        let gone : has_row assigned_task k due ≡ false = ap is_some at in
        let was : has_row assigned_task k sent ≡ true =
        elim (or_cases (has_row assigned_task k sent) (has_row assigned_task k due) there) [
          | inl e ↦ e
          | inr e ↦ never-both (has_row assigned_task k due) gone e
        ] in
        ap (λ (b : Bool). length (cond (not b) (assign.Remove k ∷ []) (update_of left k))) gone ∙ sym (ap bit was)
    go (Some a) at =
        let here : has_row assigned_task k due ≡ true = ap is_some at in
        ap (λ (b : Bool). length (cond (not b) (assign.Remove k ∷ []) (update_of left k))) here
        ∙ ap length (update-row k left)
        ∙ ap (λ (o : Option Assigned). length (on_row [] (λ (a : Assigned). assign.Update a ∷ []) o))
        (rows-left (λ a. not (is_sent sent a)) k due rises
        ∙ ap (λ (o : Option Assigned). on_row None (λ (a : Assigned). cond (not (is_sent sent a)) (Some a) None) o) at)
        ∙ as_long (not (is_sent sent a)) a

-- of rising numbers

none-below : (k low : ℕ) (ks : List ℕ) → RisesFrom itself low ks → k ≤ low → has-number k ks ≡ false
none-below k low [] rises under = refl
none-below k low (j ∷ js) rises under =
    let first : eqb j k ≡ false = (let above = rises.0 in grind (arith, nat_tests, above, under)) in
    ap (λ (b : Bool). b || has-number k js) first ∙ none-below k j js rises.1 (omega (arith, rises.0, under))

tail-rises : (k : ℕ) (ks : List ℕ) → RisesFrom itself k ks → IsRising itself ks
tail-rises k [] rises = tt
tail-rises k (j ∷ js) rises = rises.1

all-changes : (f : ℕ → List AssignChange) (p : ℕ → Bool) (n : ℕ) (ks : List ℕ) → IsRising itself ks →
    ((k : ℕ) → Has ks k → k < n) → ((k : ℕ) → Has ks k → length (f k) ≡ bit (p k)) →
    length (flat_map f ks) ≡ count_below (λ k. has-number k ks && p k) n
all-changes f p n [] rises below each = sym (count-none (λ k. false) n (λ k. refl))
all-changes f p n (k ∷ ks) rises below each =
    let rest = all-changes f p n ks (tail-rises k ks rises) (λ j h. below j (inr h)) (λ j h. each j (inr h)) in
    let one = count-at (λ j. has-number j (k ∷ ks) && p j) (λ j. has-number j ks && p j) k n
    (below k (inl refl)) away in
    omega (arith, length-append (f k) (flat_map f ks), rest, one, each k (inl refl), ap bit here, ap bit none)
  where
    away : (j : ℕ) → eqb j k ≡ false → (has-number j (k ∷ ks) && p j) ≡ (has-number j ks && p j)
    away j e =
        let other : eqb k j ≡ false = grind (arith, nat_tests, e) in
        ap (λ (b : Bool). (b || has-number j ks) && p j) other

    here : (has-number k (k ∷ ks) && p k) ≡ p k
    here =
        let same : eqb k k ≡ true = grind (arith, nat_tests) in
        ap (λ (b : Bool). (b || has-number k ks) && p k) same

    none : (has-number k ks && p k) ≡ false
    none = ap (λ (b : Bool). b && p k) (none-below k k ks rises (omega arith))

below-has : {X : Type 0} (key : X → ℕ) (n : ℕ) (rows : List X) (x : X) → IsBelow key n rows → Has rows x → key x < n
below-has key n [] x below h = absurd h
below-has key n (y ∷ ys) x below (inl e) = subst (λ (z : _). key z < n) e below.0
below-has key n (y ∷ ys) x below (inr h) = below-has key n ys x below.1 h

has-numbered : (k : ℕ) (ks : List ℕ) → Has ks k → has-number k ks ≡ true
has-numbered k [] h = absurd h
has-numbered k (j ∷ js) (inl e) =
    let same : eqb j k ≡ true = grind (arith, nat_tests, e) in ap (λ (b : Bool). b || has-number k js) same
has-numbered k (j ∷ js) (inr h) = ap (λ (b : Bool). eqb j k || b) (has-numbered k js h) ∙ go (eqb j k)
  where
    go : (b : Bool) → (b || true) ≡ true
    go true = refl
    go false = refl

-- the changes are as many as the numbers that differ
pub changes-count : (sent due : List Assigned) (n : ℕ) → IsRising assigned_task due →
    IsBelow assigned_task n sent → IsBelow assigned_task n due →
    length (changes_of sent due) ≡ count_below (λ k. differs sent k (row_at assigned_task k due)) n
changes-count sent due n rises old new =
    all-changes (change_of sent due) (λ k. differs sent k (row_at assigned_task k due)) n (tasks_of_either sent due)
    (rising-rises (map assigned_task (sent ++ due))) below
    (λ k h. one-change sent due k rises (sym (keys-has k sent due) ∙ has-numbered k (tasks_of_either sent due) h))
    ∙ count-same _ (λ k. differs sent k (row_at assigned_task k due)) n
    (λ k. go k (has-number k (tasks_of_either sent due)) refl)
  where
    below : (k : ℕ) → Has (tasks_of_either sent due) k → k < n
    below k h =
        let from = Has-map_cases assigned_task (sent ++ due) k (rising-cases (map assigned_task (sent ++ due)) k h) in
        subst (λ (j : ℕ). j < n) from.2
        (elim (Has-append_cases sent due from.0 from.1) [
          | inl a ↦ below-has assigned_task n sent from.0 old a
          | inr b ↦ below-has assigned_task n due from.0 new b
        ])

    neither : (k : ℕ) → has_row assigned_task k sent ≡ false → has_row assigned_task k due ≡ false →
        differs sent k (row_at assigned_task k due) ≡ false
    neither k was is = of (row_at assigned_task k due) refl
      where
        of : (o : Option Assigned) → row_at assigned_task k due ≡ o → differs sent k o ≡ false
        of None at = was
        of (Some a) at = never-both (has_row assigned_task k due) is (ap is_some at)

    go : (k : ℕ) (b : Bool) → has-number k (tasks_of_either sent due) ≡ b →
        (b && differs sent k (row_at assigned_task k due)) ≡ differs sent k (row_at assigned_task k due)
    go k true e = refl
    go k false e =
        let none = sym (keys-has k sent due) ∙ e in
        sym (neither k (neither_left (has_row assigned_task k sent) (has_row assigned_task k due) none)
        (neither_right (has_row assigned_task k sent) (has_row assigned_task k due) none))

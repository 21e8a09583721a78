-- How often a number stands among the ids of a world: a step adds one time to each new id, and to none else.
use Rattle.std.proofs.Common.{Bool, List, [], arith, cond, eqb, false, inl, inr, ltb, true, ℕ, ◌+◌, ◌++◌, ◌<◌, ◌≡◌, ◌≤◌, ◌⊎◌, ◌∷◌, ap, refl}
use Rattle.std.proofs.lemmas.Bool.Decides.{nat_tests}
use Rattle.std.specs.Prelude.{map}
use Rattle.swarm_model.proofs.Moves.Rows.{Becomes}
use Rattle.swarm_model.specs.Laws.Rises.{session_id}
use Rattle.swarm_objects.specs.Rows.{Has, network_id, node_id, service_id, task_id, watcher_id, with_row}
use Rattle.swarm_objects.specs.World.{Tables, World}

abbrev pub one_if : Bool → ℕ
one_if b = cond b 1 0

abbrev pub times : ℕ → List ℕ → ℕ
times k [] = 0
times k (x ∷ xs) = one_if (eqb x k) + times k xs

abbrev pub times_of : {X : Type 0} → (X → ℕ) → ℕ → List X → ℕ
times_of key k rows = times k (map key rows)

abbrev pub in_tables : ℕ → Tables → ℕ
in_tables k t =
    times_of node_id k t.nodes + times_of service_id k t.services + times_of task_id k t.tasks
    + times_of network_id k t.networks + times_of session_id k t.sessions

abbrev pub in_world : ℕ → World → ℕ
in_world k w = in_tables k w.tables + times_of watcher_id k w.watchers

-- it stands no more often, or once more as one of the new ids
abbrev pub Comes : ℕ → ℕ → ℕ → ℕ → ℕ → Type 0
Comes next high k old new = (new ≤ old) ⊎ ((next ≤ k) × (k < high) × (new ≤ old + 1))

pub comes-then : (next mid high k a b c : ℕ) → next ≤ mid → mid ≤ high → Comes next mid k a b → Comes mid high k b c →
    Comes next high k a c
comes-then next mid high k a b c low up (inl h) (inl g) = inl (omega (arith, h, g))
comes-then next mid high k a b c low up (inl h) (inr g) =
    inr (omega (arith, g.0, low), g.1, omega (arith, h, g.2))
comes-then next mid high k a b c low up (inr h) (inl g) =
    inr (h.0, omega (arith, h.1, up), omega (arith, h.2, g))
comes-then next mid high k a b c low up (inr h) (inr g) = absurd (omega (arith, h.1, g.0))

-- beside what stays
pub comes-beside : (next high k old new more : ℕ) → Comes next high k old new → Comes next high k (old + more) (new + more)
comes-beside next high k old new more (inl h) = inl (omega (arith, h))
comes-beside next high k old new more (inr h) = inr (h.0, h.1, omega (arith, h.2))

-- one more, with the next id
pub comes-next : (next k id old new : ℕ) → id ≡ next → new ≤ old + one_if (eqb id k) → Comes next (next + 1) k old new
comes-next next k id old new is most = go (eqb id k) refl most
  where
    go : (b : Bool) → eqb id k ≡ b → new ≤ old + one_if b → Comes next (next + 1) k old new
    go true e h =
        let same : id ≡ k = grind (arith, nat_tests, e) in
        inr (omega (arith, same, is), omega (arith, same, is), h)
    go false e h = inl (omega (arith, h))

-- rows that keep their ids, or go
pub times-becomes : {X : Type 0} (key : X → ℕ) (R : X → X → Type 0) → ((x y : X) → R x y → key y ≡ key x) → (k : ℕ)
    (old new : List X) → Becomes R [] old new → times_of key k new ≤ times_of key k old
times-becomes key R keeps k [] [] b = omega arith
times-becomes key R keeps k [] (y ∷ ys) b = absurd cc
times-becomes key R keeps k (x ∷ xs) [] b = omega arith
times-becomes key R keeps k (x ∷ xs) (y ∷ ys) (inl b) =
    omega (arith, times-becomes key R keeps k xs (y ∷ ys) b)
times-becomes key R keeps k (x ∷ xs) (y ∷ ys) (inr b) =
    omega (arith, times-becomes key R keeps k xs ys b.1, ap (λ (i : ℕ). one_if (eqb i k)) (keeps x y b.0))

pub times-append : (k : ℕ) (xs ys : List ℕ) → times k (xs ++ ys) ≡ times k xs + times k ys
times-append k [] ys = omega arith
times-append k (x ∷ xs) ys = omega (arith, times-append k xs ys)

pub times-has : (xs : List ℕ) (k : ℕ) → Has xs k → 1 ≤ times k xs
times-has [] k h = absurd h
times-has (x ∷ xs) k (inl e) =
    let same : eqb x k ≡ true = grind (arith, nat_tests, e) in
    omega (arith, ap one_if same)
times-has (x ∷ xs) k (inr h) = omega (arith, times-has xs k h)

-- a row more behind them
pub times-push : {X : Type 0} (key : X → ℕ) (k : ℕ) (rows : List X) (x : X) →
    times_of key k (rows ++ x ∷ []) ≡ times_of key k rows + one_if (eqb (key x) k)
times-push key k [] x = omega arith
times-push key k (y ∷ ys) x = omega (arith, times-push key k ys x)

-- a row more among them, by another number
pub times-with_row : {X : Type 0} (by key : X → ℕ) (k : ℕ) (x : X) (rows : List X) →
    times_of key k (with_row by x rows) ≤ times_of key k rows + one_if (eqb (key x) k)
times-with_row by key k x [] = omega arith
times-with_row by key k x (y ∷ ys) =
    go (ltb (by x) (by y)) (eqb (by x) (by y)) (times-with_row by key k x ys)
  where
    go : (less same : Bool) → times_of key k (with_row by x ys) ≤ times_of key k ys + one_if (eqb (key x) k) →
        times_of key k (cond less (x ∷ y ∷ ys) (cond same (x ∷ ys) (y ∷ with_row by x ys)))
        ≤ times_of key k (y ∷ ys) + one_if (eqb (key x) k)
    go true same rest = omega arith
    go false true rest = omega arith
    go false false rest = omega (arith, rest)

-- Control loops dealt out to workers.
use Rattle.std.proofs.Common.{◌≡◌, ◌≤◌, ◌<◌, ◌+◌, ◌-◌, ◌%◌, ◌==◌, ℕ, zero, suc, min, List, [], ◌∷◌, ◌++◌, length, get_or, drop, Bool, true, false, cond, inl, inr, refl, sym, ap, ◌∙◌, append_assoc, append-nil, arith}
use Rattle.std.specs.Prelude.{filter, ⊤}
use Rattle.std.proofs.lemmas.Bool.Decides.{nat_tests}
use Rattle.std.proofs.Math.Nat.{mod-eq_of_lt}
use Rattle.swarm_model.specs.Script.{is_share, role_place, share}
use Rattle.swarm_objects.proofs.RowLemmas.{Has-filter, drop_next}
use Rattle.swarm_objects.specs.Kinds.{roles}
use Rattle.swarm_objects.specs.Rows.{Has}
use Rattle.swarm_objects.specs.declared.loops.Role.{Role}
use Rattle.swarm_objects.specs.declared.loops.Role.TheVariants as role

-- One loop more is dealt out.

dealt : (c : Bool) (x : Role) (rest shared shared' all : List Role) → shared' ≡ cond c (shared ++ x ∷ []) shared →
    shared ++ cond c (x ∷ rest) rest ≡ all → shared' ++ rest ≡ all
dealt true x rest shared shared' all e is = ap (λ l. l ++ rest) e ∙ append_assoc shared (x ∷ []) rest ∙ is
dealt false x rest shared shared' all e is = ap (λ l. l ++ rest) e ∙ is

same_any : (xs : List Role) (i : ℕ) (d e : Role) → i < length xs → get_or xs i d ≡ get_or xs i e
same_any [] i d e l = absurd (omega arith)
same_any (x ∷ xs) zero d e l = refl
same_any (x ∷ xs) (suc i) d e l = same_any xs i d e (omega arith)

pub dealt_at : (test : Role → Bool) (b : Bool) (xs : List Role) (i : ℕ) (shared shared' all : List Role) (d : Role) →
    i < length xs → b ≡ test (get_or xs i d) → shared' ≡ cond b (shared ++ get_or xs i d ∷ []) shared →
    shared ++ filter test (drop i xs) ≡ all → shared' ++ filter test (drop (i + 1) xs) ≡ all
dealt_at test b xs i shared shared' all d below is e so_far =
    let x = get_or xs i d in
    dealt (test x) x (filter test (drop (i + 1) xs)) shared shared' all
    (e ∙ ap (λ c. cond c (shared ++ x ∷ []) shared) is)
    (ap (λ l. shared ++ filter test l) (sym (drop_next xs i x below (same_any xs i d x below))) ∙ so_far)

nothing_left : (xs : List Role) (i : ℕ) → length xs ≤ i → drop i xs ≡ []
nothing_left [] zero l = refl
nothing_left [] (suc i) l = refl
nothing_left (x ∷ xs) zero l = absurd (omega arith)
nothing_left (x ∷ xs) (suc i) l = nothing_left xs i (omega arith)

-- where all were gone over, the share was dealt
pub dealt_all : (test : Role → Bool) (xs : List Role) (i : ℕ) (shared all : List Role) → length xs ≤ i →
    shared ++ filter test (drop i xs) ≡ all → shared ≡ all
dealt_all test xs i shared all end e =
    sym (append-nil shared) ∙ ap (λ l. shared ++ filter test l) (sym (nothing_left xs i end)) ∙ e

-- Each loop is some worker's.

has_role : (r : Role) → Has roles r
has_role role.Dispatcher = inl refl
has_role role.Enforcer = inr (inl refl)
has_role role.Restart = inr (inr (inl refl))
has_role role.Update = inr (inr (inr (inl refl)))
has_role role.Replicated = inr (inr (inr (inr (inl refl))))
has_role role.Global = inr (inr (inr (inr (inr (inl refl)))))
has_role role.Job = inr (inr (inr (inr (inr (inr (inl refl))))))
has_role role.Allocator = inr (inr (inr (inr (inr (inr (inr (inl refl)))))))
has_role role.Scheduler = inr (inr (inr (inr (inr (inr (inr (inr (inl refl))))))))
has_role role.Reaper = inr (inr (inr (inr (inr (inr (inr (inr (inr (inl refl)))))))))
has_role role.Agents = inr (inr (inr (inr (inr (inr (inr (inr (inr (inr (inl refl))))))))))

same_number : (a b : ℕ) → a ≡ b → (a == b) ≡ true
same_number a b e = grind (arith, nat_tests)

remainder_stays : (j m : ℕ) → 0 < m → j % m ≡ ((j % m + 1) - 1) % m
remainder_stays j m some =
    sym (mod-eq_of_lt {n = j % m} {m = m} (omega arith)) ∙ ap (λ n. n % m) (omega arith)

pub is_shared : (workers : ℕ) → 1 ≤ workers → (r : Role) →
    (worker : ℕ) × (1 ≤ worker) × (worker ≤ workers) × Has (share worker workers) r
is_shared workers some r =
    let m = min workers 11 in
    let j = role_place r in
    let positive : 0 < m = omega arith in
    let within : j % m + 1 ≤ workers = omega arith in (
      j % m + 1,
      omega arith,
      within,
      Has-filter (is_share (j % m + 1) workers) roles r (has_role r)
          (same_number (j % m) (((j % m + 1) - 1) % m) (remainder_stays j m positive)),
    )

-- Each worker has some loop.

-- these have the places from k on, one after the other
abbrev CountFrom : ℕ → List Role → Type 0
CountFrom k [] = ⊤
CountFrom k (r ∷ rs) = (role_place r ≡ k) × CountFrom (k + 1) rs

at_place : (k j : ℕ) (rs : List Role) → CountFrom k rs → j < length rs → (r : Role) × (role_place r ≡ k + j) × Has rs r
at_place k j [] c l = absurd (omega arith)
at_place k zero (r ∷ rs) c l = (r, omega (arith, c.0), inl refl)
at_place k (suc j) (r ∷ rs) c l =
    let there = at_place (k + 1) j rs c.1 (omega arith) in
    (there.0, omega (arith, there.1), inr there.2)

in_order : CountFrom 0 roles
in_order = (refl, (refl, (refl, (refl, (refl, (refl, (refl, (refl, (refl, (refl, (refl, tt)))))))))))

not_empty : (rs : List Role) (r : Role) → Has rs r → 0 < length rs
not_empty [] r h = absurd h
not_empty (x ∷ rs) r h = omega arith

pub some_loop : (worker workers : ℕ) → (1 ≤ worker) × (worker ≤ workers) → 0 < length (share worker workers)
some_loop worker workers h =
    let m = min workers 11 in
    let j = (worker - 1) % m in
    let positive : 0 < m = omega (arith, h.0, h.1) in
    let below : j < 11 = omega arith in
    let there = at_place 0 j roles in_order below in
    let r = there.0 in
    let place : role_place r ≡ j = there.1 ∙ omega arith in
    let stays : role_place r % m ≡ j = ap (λ n. n % m) place ∙ mod-eq_of_lt {n = j} {m = m} (omega arith) in
    not_empty (share worker workers) r (Has-filter (is_share worker workers) roles r there.2 (same_number (role_place r % m) j stays))

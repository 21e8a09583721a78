-- The least of what is waited for depends on what there is, whatever the order.
use Rattle.std.proofs.Common.{Bool, List, None, Option, Some, [], ap, arith, cond, false, inl, inr, refl, subst, suc, sym, true, zero, ℕ, ◌∙◌, ◌∷◌, ◌≡◌, ◌≤◌}
use Rattle.std.proofs.lemmas.Bool.Decides.{nat_tests}
use Rattle.std.specs.Ordering.{is_lt, nat_cmp, ordering_then}
use Rattle.swarm_model.specs.Settle.{Wait, cause_number, wait_cmp}
use Rattle.swarm_objects.specs.Rows.{Has, least_by}
use Rattle.swarm_objects.specs.declared.duties.Cause.TheVariants as cause
use Rattle.swarm_objects.specs.declared.duties.Cause.{Cause}
use Rattle.swarm_settle.proofs.Phases.{is_sooner, sooner_ranks}

-- Two waits of which neither comes before the other are one.

abbrev cause_of : ℕ → Cause
cause_of zero = cause.Start
cause_of (suc zero) = cause.Update
cause_of (suc (suc zero)) = cause.Executor
cause_of (suc (suc (suc zero))) = cause.Session
cause_of (suc (suc (suc (suc n)))) = cause.Remote

cause_again : (c : Cause) → cause_of (cause_number c) ≡ c
cause_again cause.Start = refl
cause_again cause.Update = refl
cause_again cause.Executor = refl
cause_again cause.Session = refl
cause_again cause.Remote = refl

same_cause : (a b : Cause) → cause_number a ≡ cause_number b → a ≡ b
same_cause a b e = sym (cause_again a) ∙ ap cause_of e ∙ cause_again b

same_wait : (a b : Wait) → a.time ≡ b.time → a.cause ≡ b.cause → a.id ≡ b.id → a ≡ b
same_wait a b p q r =
    ap (λ (n : ℕ). record { time = n; cause = a.cause; id = a.id }) p
    ∙ ap (λ (c : Cause). record { time = b.time; cause = c; id = a.id }) q
    ∙ ap (λ (n : ℕ). record { time = b.time; cause = b.cause; id = n }) r

-- by three numbers, one after the other
abbrev comes_first : ℕ → ℕ → ℕ → ℕ → ℕ → ℕ → Bool
comes_first a b c x y z = is_lt (ordering_then (nat_cmp a x) (ordering_then (nat_cmp b y) (nat_cmp c z)))

first_le : (a b c x y z : ℕ) → comes_first a b c x y z ≡ false → x ≤ a
first_le a b c x y z p = grind (arith, nat_tests, p)

second_le : (a b c x y z : ℕ) → comes_first a b c x y z ≡ false → a ≡ x → y ≤ b
second_le a b c x y z p e = grind (arith, nat_tests, p, e)

third_le : (a b c x y z : ℕ) → comes_first a b c x y z ≡ false → a ≡ x → b ≡ y → z ≤ c
third_le a b c x y z p e f = grind (arith, nat_tests, p, e, f)

three_are : (a b c x y z : ℕ) → comes_first a b c x y z ≡ false → comes_first x y z a b c ≡ false →
    (a ≡ x) × (b ≡ y) × (c ≡ z)
three_are a b c x y z p q = (one, two, three)
  where
    one : a ≡ x
    one = omega (arith, first_le a b c x y z p, first_le x y z a b c q)

    two : b ≡ y
    two = omega (arith, second_le a b c x y z p one, second_le x y z a b c q (sym one))

    three : c ≡ z
    three = omega (arith, third_le a b c x y z p one two, third_le x y z a b c q (sym one) (sym two))

neither_first : (a b : Wait) → is_sooner a b ≡ false → is_sooner b a ≡ false → a ≡ b
neither_first a b p q =
    let same = three_are a.time (cause_number a.cause) a.id b.time (cause_number b.cause) b.id p q in
    same_wait a b same.0 (same_cause a.cause b.cause same.1) same.2

-- The first of some waits.

record IsFirstWait (waits : List Wait) (x : Wait) : Type 0 where
  there : Has waits x
  least : (y : Wait) → Has waits y → is_sooner y x ≡ false

itself : (a : Wait) → is_sooner a a ≡ false
itself a = go (is_sooner a a) refl
  where
    go : (b : Bool) → is_sooner a a ≡ b → b ≡ false
    go false e = refl
    go true e = let both : true ≡ false = sym e ∙ sooner_ranks.one_way a a e in absurd cc

alone : (b : Wait) → IsFirstWait (b ∷ []) b
alone b = record { there = inl refl; least = none_before }
  where
    none_before : (y : Wait) → Has (b ∷ []) y → is_sooner y b ≡ false
    none_before y (inl e) = subst (λ z. is_sooner z b ≡ false) e (itself b)
    none_before y (inr h) = absurd h

passed : (b t x : Wait) (ts : List Wait) → IsFirstWait (t ∷ ts) x → is_sooner b t ≡ false → IsFirstWait (b ∷ t ∷ ts) x
passed b t x ts first late = record { there = inr first.there; least = none_before }
  where
    none_before : (y : Wait) → Has (b ∷ t ∷ ts) y → is_sooner y x ≡ false
    none_before y (inl e) =
        subst (λ z. is_sooner z x ≡ false) e (sooner_ranks.chain b t x late (first.least t (inl refl)))
    none_before y (inr h) = first.least y h

stays : (b t x : Wait) (ts : List Wait) → IsFirstWait (b ∷ ts) x → is_sooner t b ≡ false → IsFirstWait (b ∷ t ∷ ts) x
stays b t x ts first late = record { there = moved first.there; least = none_before }
  where
    moved : Has (b ∷ ts) x → Has (b ∷ t ∷ ts) x
    moved (inl e) = inl e
    moved (inr h) = inr (inr h)

    none_before : (y : Wait) → Has (b ∷ t ∷ ts) y → is_sooner y x ≡ false
    none_before y (inl e) = first.least y (inl e)
    none_before y (inr (inl e)) =
        subst (λ z. is_sooner z x ≡ false) e (sooner_ranks.chain t b x late (first.least b (inl refl)))
    none_before y (inr (inr h)) = first.least y (inr h)

least_from : (b : Wait) (ts : List Wait) →
    (x : Wait) × (least_by wait_cmp (Some b) ts ≡ Some x) × IsFirstWait (b ∷ ts) x
least_from b [] = (b, refl, alone b)
least_from b (t ∷ ts) = go (is_sooner t b) refl (least_from t ts) (least_from b ts)
  where
    go : (c : Bool) → is_sooner t b ≡ c →
        (x : Wait) × (least_by wait_cmp (Some t) ts ≡ Some x) × IsFirstWait (t ∷ ts) x →
        (x : Wait) × (least_by wait_cmp (Some b) ts ≡ Some x) × IsFirstWait (b ∷ ts) x →
        (x : Wait) × (least_by wait_cmp (cond c (Some t) (Some b)) ts ≡ Some x) × IsFirstWait (b ∷ t ∷ ts) x
    go true e one two = (one.0, one.1, passed b t one.0 ts one.2 (sooner_ranks.one_way t b e))
    go false e one two = (two.0, two.1, stays b t two.0 ts two.2 e)

-- the same waits in any order
least_of : (b c : Wait) (xs ys : List Wait) → ((x : Wait) → Has (b ∷ xs) x → Has (c ∷ ys) x) →
    ((y : Wait) → Has (c ∷ ys) y → Has (b ∷ xs) y) → least_by wait_cmp (Some b) xs ≡ least_by wait_cmp (Some c) ys
least_of b c xs ys to from =
    let one = least_from b xs in
    let two = least_from c ys in
    one.1
    ∙ ap Some (neither_first one.0 two.0 (two.2.least one.0 (to one.0 one.2.there))
    (one.2.least two.0 (from two.0 two.2.there)))
    ∙ sym two.1

pub least_among : (best : Option Wait) (xs ys : List Wait) → ((x : Wait) → Has xs x → Has ys x) →
    ((y : Wait) → Has ys y → Has xs y) → least_by wait_cmp best xs ≡ least_by wait_cmp best ys
least_among None [] [] to from = refl
least_among None [] (y ∷ ys) to from = absurd (from y (inl refl))
least_among None (x ∷ xs) [] to from = absurd (to x (inl refl))
least_among None (x ∷ xs) (y ∷ ys) to from = least_of x y xs ys to from
least_among (Some b) xs ys to from = least_of b b xs ys (more xs ys to) (more ys xs from)
  where
    more : (us vs : List Wait) → ((x : Wait) → Has us x → Has vs x) → (x : Wait) → Has (b ∷ us) x → Has (b ∷ vs) x
    more us vs each x (inl e) = inl e
    more us vs each x (inr h) = inr (each x h)

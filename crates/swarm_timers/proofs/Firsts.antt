-- The first timer, by what is said of each.
use Rattle.std.proofs.Common.{Bool, List, None, Option, Some, [], ap, arith, cond, false, inl, inr, refl, subst, sym, true, ℕ, ◌<◌, ◌≤◌, ◌∙◌, ◌∷◌, ◌≡◌}
use Rattle.std.proofs.lemmas.Bool.Decides.{nat_tests}
use Rattle.std.specs.Option.{option_map}
use Rattle.std.specs.Ordering.{is_lt}
use Rattle.std.specs.Prelude.{filter, nat_le}
use Rattle.swarm_objects.proofs.Filters.{filter_none}
use Rattle.swarm_objects.proofs.RowLemmas.{Has-filter, Has-filter_cases}
use Rattle.swarm_objects.specs.Rows.{Has, least_by}
use Rattle.swarm_timers.specs.Laws.{IsDueOwner, IsFirstTimer, IsNextTime}
use Rattle.swarm_timers.specs.Timers.{Timer, due_owner, first_timer, has_come, next_time, timer_cmp, timer_owner, timer_time}

-- one isn't after another

abbrev pub NotAfter : Timer → Timer → Type 0
NotAfter a b = (a.at ≤ b.at) × (b.at ≡ a.at → a.owner ≤ b.owner)

itself : (a : Timer) → NotAfter a a
itself a = (omega arith, λ _. omega arith)

then-after : (a b c : Timer) → NotAfter a b → NotAfter b c → NotAfter a c
then-after a b c p q = (
  omega (arith, p.0, q.0),
  λ e.
      let first : b.at ≡ a.at = omega (arith, p.0, q.0, e) in
      let second : c.at ≡ b.at = omega (arith, first, e) in
      omega (arith, p.1 first, q.1 second),
)

before : (a b : Timer) → is_lt (timer_cmp a b) ≡ true → NotAfter a b
before a b t = (grind (arith, nat_tests, t), λ e. grind (arith, nat_tests, t, e))

not-before : (a b : Timer) → is_lt (timer_cmp a b) ≡ false → NotAfter b a
not-before a b t = (grind (arith, nat_tests, t), λ e. grind (arith, nat_tests, t, e))

pub first-of : (ts : List Timer) (x : Timer) → Has ts x → ((t : Timer) → Has ts t → NotAfter x t) → IsFirstTimer ts x
first-of ts x there least =
    record { there = there; time = λ t k. (least t k).0; owner = λ t k e. (least t k).1 e }

not-after : (ts : List Timer) (x t : Timer) → IsFirstTimer ts x → Has ts t → NotAfter x t
not-after ts x t h k = (h.time t k, h.owner t k)

pub same-timer : (x y : Timer) → x.owner ≡ y.owner → x.at ≡ y.at → x ≡ y
same-timer x y p q =
    ap (λ (o : ℕ). record { owner = o; at = x.at }) p ∙ ap (λ (a : ℕ). record { owner = y.owner; at = a }) q

one-first : (ts : List Timer) (x y : Timer) → IsFirstTimer ts x → IsFirstTimer ts y → x ≡ y
one-first ts x y h k =
    let a : x.at ≤ y.at = h.time y k.there in
    let b : y.at ≤ x.at = k.time x h.there in
    let times : x.at ≡ y.at = omega (arith, a, b) in
    let c : x.owner ≤ y.owner = h.owner y k.there (sym times) in
    let d : y.owner ≤ x.owner = k.owner x h.there times in
    same-timer x y (omega (arith, c, d)) times

-- going over all

alone : (b : Timer) → IsFirstTimer (b ∷ []) b
alone b = first-of (b ∷ []) b (inl refl) least
  where
    least : (t : Timer) → Has (b ∷ []) t → NotAfter b t
    least t (inl e) = subst (λ (u : Timer). NotAfter b u) e (itself b)
    least t (inr k) = absurd k

-- a former best one is passed
passed : (b t x : Timer) (ts : List Timer) → IsFirstTimer (t ∷ ts) x → NotAfter t b → IsFirstTimer (b ∷ t ∷ ts) x
passed b t x ts h over = first-of (b ∷ t ∷ ts) x (inr h.there) least
  where
    least : (u : Timer) → Has (b ∷ t ∷ ts) u → NotAfter x u
    least u (inl e) =
        subst (λ (v : Timer). NotAfter x v) e
        (then-after x t b (not-after (t ∷ ts) x t h (inl refl)) over)
    least u (inr k) = not-after (t ∷ ts) x u h k

-- it stays
stays : (b t x : Timer) (ts : List Timer) → IsFirstTimer (b ∷ ts) x → NotAfter b t → IsFirstTimer (b ∷ t ∷ ts) x
stays b t x ts h over = first-of (b ∷ t ∷ ts) x (there h.there) least
  where
    there : Has (b ∷ ts) x → Has (b ∷ t ∷ ts) x
    there (inl e) = inl e
    there (inr k) = inr (inr k)

    least : (u : Timer) → Has (b ∷ t ∷ ts) u → NotAfter x u
    least u (inl e) = not-after (b ∷ ts) x u h (inl e)
    least u (inr (inl e)) =
        subst (λ (v : Timer). NotAfter x v) e
        (then-after x b t (not-after (b ∷ ts) x b h (inl refl)) over)
    least u (inr (inr k)) = not-after (b ∷ ts) x u h (inr k)

least-from : (b : Timer) (ts : List Timer) →
    (x : Timer) × (least_by timer_cmp (Some b) ts ≡ Some x) × IsFirstTimer (b ∷ ts) x
least-from b [] = (b, refl, alone b)
least-from b (t ∷ ts) = go (is_lt (timer_cmp t b)) refl (least-from t ts) (least-from b ts)
  where
    go : (c : Bool) → is_lt (timer_cmp t b) ≡ c →
        (x : Timer) × (least_by timer_cmp (Some t) ts ≡ Some x) × IsFirstTimer (t ∷ ts) x →
        (x : Timer) × (least_by timer_cmp (Some b) ts ≡ Some x) × IsFirstTimer (b ∷ ts) x →
        (x : Timer) × (least_by timer_cmp (cond c (Some t) (Some b)) ts ≡ Some x) × IsFirstTimer (b ∷ t ∷ ts) x
    go true e one two = (one.0, one.1, passed b t one.0 ts one.2 (before t b e))
    go false e one two = (two.0, two.1, stays b t two.0 ts two.2 (not-before t b e))

pub first-is : (ts : List Timer) (x : Timer) → IsFirstTimer ts x → first_timer ts ≡ Some x
first-is [] x h = absurd h.there
first-is (t ∷ ts) x h =
    let found = least-from t ts in found.1 ∙ ap Some (one-first (t ∷ ts) found.0 x found.2 h)

-- what is due

abbrev due_of : ℕ → Option Timer → Option ℕ
due_of now None = None
due_of now (Some t) = cond (nat_le t.at now) (Some t.owner) None

due-first : (now : ℕ) (ts : List Timer) (x : Timer) → IsFirstTimer ts x → due_owner now ts ≡ due_of now (Some x)
due-first now ts x h = go (nat_le x.at now) refl
  where
    go : (b : Bool) → nat_le x.at now ≡ b → due_owner now ts ≡ cond b (Some x.owner) None
    go true e =
        ap (option_map timer_owner) (first-is (filter (has_come now) ts) x
        (first-of (filter (has_come now) ts) x (Has-filter (has_come now) ts x h.there e)
        (λ t k. not-after ts x t h (Has-filter_cases (has_come now) ts t k).0)))
    go false e =
        ap (λ (us : List Timer). option_map timer_owner (first_timer us)) (filter_none (has_come now) ts
        (λ t k. let le : x.at ≤ t.at = h.time t k in grind (arith, nat_tests, e, le)))

-- the first one decides
due-is : (now : ℕ) (ts : List Timer) → due_owner now ts ≡ due_of now (first_timer ts)
due-is now [] = refl
due-is now (t ∷ ts) =
    let found = least-from t ts in
    due-first now (t ∷ ts) found.0 found.2 ∙ ap (due_of now) (sym found.1)

pub due-none : (now : ℕ) (ts : List Timer) → None ≡ first_timer ts → None ≡ due_owner now ts
due-none now ts e = ap (due_of now) e ∙ sym (due-is now ts)

pub due-now : (now : ℕ) (ts : List Timer) (t : Timer) → Some t ≡ first_timer ts → t.at ≤ now → Some t.owner ≡ due_owner now ts
due-now now ts t e le =
    let come : nat_le t.at now ≡ true = grind (arith, nat_tests, le) in
    sym (ap (λ (b : Bool). cond b (Some t.owner) None) come) ∙ ap (due_of now) e ∙ sym (due-is now ts)

pub due-later : (now : ℕ) (ts : List Timer) (t : Timer) → Some t ≡ first_timer ts → now < t.at → None ≡ due_owner now ts
due-later now ts t e lt =
    let early : nat_le t.at now ≡ false = grind (arith, nat_tests, lt) in
    sym (ap (λ (b : Bool). cond b (Some t.owner) None) early) ∙ ap (due_of now) e ∙ sym (due-is now ts)

-- the laws

pub next-law : (ts : List Timer) → IsNextTime ts (next_time ts)
next-law [] = refl
next-law (t ∷ ts) =
    let found = least-from t ts in
    subst (λ (o : Option ℕ). IsNextTime (t ∷ ts) o) (sym (ap (option_map timer_time) found.1)) (found.0.owner, found.2)

pub due-law : (now : ℕ) (ts : List Timer) → IsDueOwner now ts (due_owner now ts)
due-law now [] = λ t k. absurd k
due-law now (t ∷ ts) =
    let found = least-from t ts in
    subst (λ (o : Option ℕ). IsDueOwner now (t ∷ ts) o) (sym (due-first now (t ∷ ts) found.0 found.2))
    (go found.0 found.2 (nat_le found.0.at now) refl)
  where
    go : (x : Timer) → IsFirstTimer (t ∷ ts) x → (b : Bool) → nat_le x.at now ≡ b →
        IsDueOwner now (t ∷ ts) (cond b (Some x.owner) None)
    go x h true e = (x.at, grind (arith, nat_tests, e), h)
    go x h false e = λ u k. let le : x.at ≤ u.at = h.time u k in grind (arith, nat_tests, e, le)

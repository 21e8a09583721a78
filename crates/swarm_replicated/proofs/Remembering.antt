-- What one held place more makes of how many are held, and of the least number that isn't.
use Rattle.std.proofs.Common.{Bool, List, None, Option, Some, [], ap, arith, cond, eqb, false, inl, inr, length, ltb}
use Rattle.std.proofs.Common.{refl, subst, suc, sym, true, zero, ℕ, ◌+◌, ◌-◌, ◌<◌, ◌∙◌, ◌∷◌, ◌≡◌, ◌≤◌, ◌⊎◌}
use Rattle.std.proofs.lemmas.Bool.Decides.{nat_tests}
use Rattle.std.specs.List.{list_any}
use Rattle.std.specs.Prelude.{IfSome, filter, fold}
use Rattle.role_words.proofs.Numbers.{number_at, numbers-rising, one_place}
use Rattle.role_words.proofs.Stepping.{rises_from}
use Rattle.swarm_objects.proofs.Gaps.{first_gap-free, first_gap-ge, Has-with_number_keeps, Has-with_row}
use Rattle.swarm_objects.proofs.Gaps.{IsRising-filter, IsRising-with_row}
use Rattle.swarm_objects.proofs.Rising.{gap-free, gap-held, with_number-cases}
use Rattle.swarm_objects.proofs.Newest.{newest_has}
use Rattle.swarm_objects.proofs.RowLemmas.{Has-filter, Has-filter_cases, RisesFrom-filter, number_above}
use Rattle.swarm_objects.proofs.Tests.{any-has, first_so, or_cases, second_so, some-and-cases}
use Rattle.swarm_objects.specs.Rows.{Has, IsRising, RisesFrom, first_gap, is_some_and, itself, with_number}
use Rattle.swarm_objects.specs.Tasks.Places.{closes, counts_for, held_places, is_held_place, is_in_place, newest}
use Rattle.swarm_objects.specs.Tasks.Places.{place_at, place_number, place_numbers, place_tasks}
use Rattle.swarm_objects.specs.Same.{same_place}
use Rattle.swarm_objects.specs.Tasks.Words.{is_live}
use Rattle.swarm_objects.specs.World.{Tables}
use Rattle.swarm_objects.specs.declared.services.Service.{Service}
use Rattle.swarm_objects.specs.declared.tasks.Task.{Task}
use Rattle.swarm_replicated.specs.KnownPlaces.{AreCounted}
use Rattle.swarm_replicated.specs.declared.known_places.Counted.{Counted}

-- The least number that isn't there.

gap-below : (from j : ℕ) (ks : List ℕ) → from ≤ j → j < first_gap from ks → Has ks j
gap-below from j [] le lt = absurd (omega (arith, le, lt))
gap-below from j (k ∷ ks) le lt = go (ltb k from) (eqb k from) refl lt (gap-below from j ks le) (gap-below (from + 1) j ks)
  where
    next : k ≡ from → Has ks j ⊎ (j ≡ from) → Has (k ∷ ks) j
    next same (inl h) = inr h
    next same (inr e) = inl (same ∙ sym e)

    or_here : j < first_gap (from + 1) ks → (from + 1 ≤ j → j < first_gap (from + 1) ks → Has ks j) → (b : Bool) → eqb j from ≡ b → Has ks j ⊎ (j ≡ from)
    or_here lt below true e = inr (grind (arith, nat_tests, e))
    or_here lt below false e = inl (below (grind (arith, nat_tests, e, le)) lt)

    go : (a b : Bool) → eqb k from ≡ b → j < cond a (first_gap from ks) (cond b (first_gap (from + 1) ks) from)
        → (j < first_gap from ks → Has ks j) → (from + 1 ≤ j → j < first_gap (from + 1) ks → Has ks j) → Has (k ∷ ks) j
    go true b e lt here below = inr (here lt)
    go false true e lt here below = next (grind (arith, nat_tests, e)) (or_here lt below (eqb j from) refl)
    go false false e lt here below = absurd (omega (arith, le, lt))

gap-along : (n from : ℕ) (ks : List ℕ) → IsRising itself ks → ((j : ℕ) → from ≤ j → j < from + n → Has ks j)
    → first_gap from ks ≡ first_gap (from + n) ks
gap-along zero from ks r all = ap (λ n. first_gap n ks) (omega arith)
gap-along (suc n) from ks r all =
    gap-held from ks r (all from (omega arith) (omega arith))
    ∙ gap-along n (from + 1) ks r (λ j le lt. all j (omega (arith, le)) (omega (arith, lt)))
    ∙ ap (λ n. first_gap n ks) (omega arith)

with-rising : (k : ℕ) (ks : List ℕ) → IsRising itself ks → IsRising itself (with_number k ks)
with-rising k ks r = IsRising-with_row itself k ks r

-- with one number more it comes no earlier
pub gap-with : (k : ℕ) (ks : List ℕ) → IsRising itself ks →
    first_gap 1 (with_number k ks) ≡ first_gap (first_gap 1 ks) (with_number k ks)
gap-with k ks r =
    let ge : 1 ≤ first_gap 1 ks = first_gap-ge 1 ks in
    let is : 1 + (first_gap 1 ks - 1) ≡ first_gap 1 ks = omega (arith, ge) in
    gap-along (first_gap 1 ks - 1) 1 (with_number k ks) (with-rising k ks r)
    (λ j le lt. Has-with_number_keeps k j ks (gap-below 1 j ks le (omega (arith, lt, is))))
    ∙ ap (λ n. first_gap n (with_number k ks)) is

pub other-gap : (k : ℕ) (ks : List ℕ) → IsRising itself ks → (k ≡ first_gap 1 ks → ⊥) →
    first_gap 1 (with_number k ks) ≡ first_gap 1 ks
other-gap k ks r apart =
    gap-with k ks r
    ∙ gap-free (first_gap 1 ks) (with_number k ks)
    (λ h. elim (with_number-cases k (first_gap 1 ks) ks h) [ inl e ↦ apart e | inr old ↦ first_gap-free 1 ks r old ])

-- A number that is there, or isn't.

pub number-in : (k : ℕ) (ks : List ℕ) → IsRising itself ks → Has ks k → with_number k ks ≡ ks
number-in k [] r h = absurd h
number-in k (j ∷ js) r (inl same) = grind (arith, nat_tests, same)
number-in k (j ∷ js) r (inr h) =
    let above = number_above itself j js k r h in
    let below = number-in k js (rises_from j js r) h in
    grind (arith, nat_tests, above, below)

pub length-with : (k : ℕ) (ks : List ℕ) → (Has ks k → ⊥) → length (with_number k ks) ≡ length ks + 1
length-with k [] none = refl
length-with k (j ∷ js) none = go (ltb k j) (eqb k j) refl (length-with k js (λ h. none (inr h)))
  where
    go : (a b : Bool) → eqb k j ≡ b → length (with_number k js) ≡ length js + 1 →
        length (cond a (k ∷ j ∷ js) (cond b (k ∷ js) (j ∷ with_number k js))) ≡ length (j ∷ js) + 1
    go true b e below = omega arith
    go false true e below = absurd (none (inl (grind (arith, nat_tests, e))))
    go false false e below = omega (arith, below)

number-first : (k : ℕ) (ks : List ℕ) → RisesFrom itself k ks → with_number k ks ≡ k ∷ ks
number-first k [] r = refl
number-first k (j ∷ js) r = grind (arith, nat_tests, r.0)

filter-same : (p q : ℕ → Bool) (ks : List ℕ) → ((j : ℕ) → Has ks j → q j ≡ p j) → filter q ks ≡ filter p ks
filter-same p q [] same = refl
filter-same p q (k ∷ ks) same =
    ap (λ b. cond b (k ∷ filter q ks) (filter q ks)) (same k (inl refl))
    ∙ ap (λ l. cond (p k) (k ∷ l) l) (filter-same p q ks (λ j h. same j (inr h)))

gone-first : (k : ℕ) (ks : List ℕ) (p q : ℕ → Bool) → RisesFrom itself k ks → ((j : ℕ) → (k ≡ j → ⊥) → q j ≡ p j) →
    filter q ks ≡ filter p ks
gone-first k ks p q r away = filter-same p q ks (λ j h. away j (λ e. apart j (number_above itself k ks j r h) e))
  where
    apart : (j : ℕ) → k < j → k ≡ j → ⊥
    apart j lt e = omega (arith, lt, e)

-- where a test passes one number more
pub filter-with : (k : ℕ) (ks : List ℕ) (p q : ℕ → Bool) → IsRising itself ks → q k ≡ true →
    ((j : ℕ) → (k ≡ j → ⊥) → q j ≡ p j) → filter q (with_number k ks) ≡ with_number k (filter p ks)
filter-with k [] p q r here away = ap (λ b. cond b (k ∷ []) []) here
filter-with k (j ∷ js) p q r here away =
    go (ltb k j) refl (eqb k j) refl (filter-with k js p q (rises_from j js r) here away)
  where
    first : RisesFrom itself k js → (k ≡ j) → cond (q k) (k ∷ filter q js) (filter q js) ≡ with_number k (filter p (j ∷ js))
    first above same =
        ap (λ b. cond b (k ∷ filter q js) (filter q js)) here
        ∙ ap (λ l. k ∷ l) (gone-first k js p q above away)
        ∙ sym (shown (p j))
      where
        shown : (b : Bool) → with_number k (cond b (j ∷ filter p js) (filter p js)) ≡ k ∷ filter p js
        shown true = number-in k (j ∷ filter p js) (subst (λ n. RisesFrom itself n (filter p js)) same (RisesFrom-filter itself k p js above)) (inl (sym same)) ∙ ap (λ n. n ∷ filter p js) (sym same)
        shown false = number-first k (filter p js) (RisesFrom-filter itself k p js above)

    go : (a : Bool) → ltb k j ≡ a → (b : Bool) → eqb k j ≡ b → filter q (with_number k js) ≡ with_number k (filter p js) →
        filter q (cond a (k ∷ j ∷ js) (cond b (k ∷ js) (j ∷ with_number k js))) ≡ with_number k (filter p (j ∷ js))
    go true e b f below =
        let lt : k < j = grind (arith, nat_tests, e) in
        let above : RisesFrom itself k (j ∷ js) = (lt, r) in
        ap (λ b. cond b (k ∷ filter q (j ∷ js)) (filter q (j ∷ js))) here
        ∙ ap (λ l. k ∷ l) (gone-first k (j ∷ js) p q above away)
        ∙ sym (number-first k (filter p (j ∷ js)) (RisesFrom-filter itself k p (j ∷ js) above))
    go false e true f below =
        let same : k ≡ j = grind (arith, nat_tests, f) in
        first (subst (λ n. RisesFrom itself n js) (sym same) r) same
    go false e false f below =
        ap (λ b. cond b (j ∷ filter q (with_number k js)) (filter q (with_number k js))) (away j (λ same. differs f same))
        ∙ ap (λ l. cond (p j) (j ∷ l) l) below ∙ shown (p j)
      where
        differs : eqb k j ≡ false → k ≡ j → ⊥
        differs f same = grind (arith, nat_tests, f, same)

        shown : (b : Bool) → cond b (j ∷ with_number k (filter p js)) (with_number k (filter p js))
            ≡ with_number k (cond b (j ∷ filter p js) (filter p js))
        shown true =
            sym (ap (λ a. cond a (k ∷ j ∷ filter p js) (cond (eqb k j) (k ∷ filter p js) (j ∷ with_number k (filter p js)))) e
            ∙ ap (λ b. cond b (k ∷ filter p js) (j ∷ with_number k (filter p js))) f)
        shown false = refl

-- The places.

pub held-rise : (t : Tables) (s : Service) → IsRising itself (held_places t s)
held-rise t s = IsRising-filter itself (is_held_place t s) (place_numbers t s) (numbers-rising s t.tasks)

folded-has : (ks : List ℕ) (tasks : List Task) (k : ℕ) → Has ks k →
    Has (fold (λ ns (x : Task). with_number (place_number x.place) ns) ks tasks) k
folded-has ks [] k h = h
folded-has ks (x ∷ tasks) k h = folded-has (with_number (place_number x.place) ks) tasks k (Has-with_number_keeps (place_number x.place) k ks h)

has-number : (ks : List ℕ) (tasks : List Task) (x : Task) → Has tasks x →
    Has (fold (λ ns (x : Task). with_number (place_number x.place) ns) ks tasks) (place_number x.place)
has-number ks [] x h = absurd h
has-number ks (y ∷ tasks) x (inl e) =
    subst (λ (z : Task). Has (fold (λ ns (x : Task). with_number (place_number x.place) ns) ks (y ∷ tasks)) (place_number z.place)) e
    (folded-has (with_number (place_number y.place) ks) tasks (place_number y.place) (Has-with_row itself (place_number y.place) ks))
has-number ks (y ∷ tasks) x (inr h) = has-number (with_number (place_number y.place) ks) tasks x h

member-number : (t : Tables) (s : Service) (k : ℕ) (x : Task) → Has (place_tasks t s k) x → Has (place_numbers t s) k
member-number t s k x h =
    let p = place_at s.spec.mode k in
    let inside = Has-filter_cases (is_in_place s p) t.tasks x h in
    let counts = first_so (counts_for s x) (same_place x.place p) inside.1 in
    let at = one_place x.place p (second_so (counts_for s x) (same_place x.place p) inside.1) in
    subst (Has (place_numbers t s)) (at ∙ number_at s.spec.mode k)
    (has-number [] (filter (counts_for s) t.tasks) x (Has-filter (counts_for s) t.tasks x inside.0 counts))

pub held-has : (t : Tables) (s : Service) (k : ℕ) → is_held_place t s k ≡ true → Has (held_places t s) k
held-has t s k e = Has-filter (is_held_place t s) (place_numbers t s) k (go (or_cases _ _ e)) e
  where
    go : (list_any is_live (place_tasks t s k) ≡ true) ⊎ (is_some_and closes (newest (place_tasks t s k)) ≡ true) →
        Has (place_numbers t s) k
    go (inl live) = let one = any-has is_live (place_tasks t s k) live in member-number t s k one.0 one.1
    go (inr shut) =
        let last = some-and-cases closes (newest (place_tasks t s k)) shut in
        member-number t s k last.0 (newest_has (place_tasks t s k) last.0 last.1)

pub held-not : (t : Tables) (s : Service) (k : ℕ) → is_held_place t s k ≡ false → Has (held_places t s) k → ⊥
held-not t s k e h = let is = (Has-filter_cases (is_held_place t s) (place_numbers t s) k h).1 in differs (sym e ∙ is)
  where
    differs : false ≡ true → ⊥
    differs d = absurd cc

-- The search for the next number.

goes-on : (t : Tables) (s : Service) (gap next : ℕ) → Has (with_number gap (held_places t s)) next →
    first_gap 1 (with_number gap (held_places t s)) ≡ first_gap next (with_number gap (held_places t s)) →
    first_gap 1 (with_number gap (held_places t s)) ≡ first_gap (next + 1) (with_number gap (held_places t s))
goes-on t s gap next h so =
    so ∙ gap-held next (with_number gap (held_places t s)) (with-rising gap (held_places t s) (held-rise t s)) h

-- all from 1 on to this number, which is beyond the gap, are held or the gap
pub record Searches (t : Tables) (s : Service) (gap next : ℕ) : Type 0 where
  pub beyond : gap < next
  pub so : first_gap 1 (with_number gap (held_places t s)) ≡ first_gap next (with_number gap (held_places t s))

pub search-begins : (t : Tables) (s : Service) (gap next : ℕ) → gap ≡ first_gap 1 (held_places t s) → next ≡ gap + 1 →
    Searches t s gap next
search-begins t s gap next is first = record {
  beyond = omega (arith, first);
  so =
      goes-on t s gap gap (Has-with_row itself gap (held_places t s))
      (gap-with gap (held_places t s) (held-rise t s)
      ∙ ap (λ n. first_gap n (with_number gap (held_places t s))) (sym is))
      ∙ ap (λ n. first_gap n (with_number gap (held_places t s))) (sym first);
}

pub search-ends : (t : Tables) (s : Service) (gap next : ℕ) → is_held_place t s next ≡ false → Searches t s gap next →
    next ≡ first_gap 1 (with_number gap (held_places t s))
search-ends t s gap next free searches =
    sym (searches.so ∙ gap-free next (with_number gap (held_places t s)) none)
  where
    apart : gap < next → gap ≡ next → ⊥
    apart lt e = omega (arith, lt, e)

    none : Has (with_number gap (held_places t s)) next → ⊥
    none h = elim (with_number-cases gap next (held_places t s) h) [
      | inl same ↦ apart searches.beyond same
      | inr old ↦ held-not t s next free old
    ]

pub past-held : (t : Tables) (s : Service) (gap next : ℕ) → is_held_place t s next ≡ true → Searches t s gap next →
    Searches t s gap (next + 1)
past-held t s gap next held searches = let beyond = searches.beyond in record {
  beyond = omega (arith, beyond);
  so =
      goes-on t s gap next (Has-with_number_keeps gap next (held_places t s) (held-has t s next held)) searches.so;
}

-- a number that comes before doesn't count
gap-before : (k from : ℕ) (ks : List ℕ) → k < from → first_gap from (k ∷ ks) ≡ first_gap from ks
gap-before k from ks lt =
    let less : ltb k from ≡ true = grind (arith, nat_tests, lt) in
    ap (λ b. cond b (first_gap from ks) (cond (eqb k from) (first_gap (from + 1) ks) from)) less

gap-past : (k from : ℕ) (ks : List ℕ) → k < from → first_gap from (with_number k ks) ≡ first_gap from ks
gap-past k from [] lt = gap-before k from [] lt
gap-past k from (j ∷ js) lt = go (ltb k j) refl (eqb k j) refl (gap-past k from js lt)
  where
    go : (a : Bool) → ltb k j ≡ a → (b : Bool) → eqb k j ≡ b → first_gap from (with_number k js) ≡ first_gap from js →
        first_gap from (cond a (k ∷ j ∷ js) (cond b (k ∷ js) (j ∷ with_number k js))) ≡ first_gap from (j ∷ js)
    go true g b e rest = gap-before k from (j ∷ js) lt
    go false g true e rest =
        gap-before k from js lt ∙ sym (gap-before j from js (grind (arith, nat_tests, e, lt)))
    go false g false e rest =
        let below : j < from = grind (arith, nat_tests, g, e, lt) in
        gap-before j from (with_number k js) below ∙ rest ∙ sym (gap-before j from js below)

-- the first one that isn't held from the end of the search on
pub search-beyond : (t : Tables) (s : Service) (gap next end : ℕ) (o : Option ℕ) → next ≡ end →
    IfSome o (λ k. k ≡ first_gap end (held_places t s)) → Searches t s gap next →
    IfSome o (λ k. k ≡ first_gap 1 (with_number gap (held_places t s)))
search-beyond t s gap next end None at is searches = tt
search-beyond t s gap next end (Some k) at is searches =
    is ∙ ap (λ n. first_gap n (held_places t s)) (sym at)
    ∙ sym (searches.so ∙ gap-past gap next (held_places t s) searches.beyond)

-- One place more.

pub gap-kept : (k : Counted) (held : List ℕ) (number : ℕ) → IsRising itself held → AreCounted k held →
    (number ≡ k.gap → ⊥) → k.gap ≡ first_gap 1 (with_number number held)
gap-kept k held number r counted apart =
    counted.gap ∙ sym (other-gap number held r (λ e. apart (e ∙ sym counted.gap)))

pub with-place : (t : Tables) (s : Service) (k : Counted) (number held gap : ℕ) → AreCounted k (held_places t s) →
    is_held_place t s number ≡ false → held ≡ k.held + 1 → gap ≡ first_gap 1 (with_number number (held_places t s)) →
    AreCounted (record { service = k.service; held = held; gap = gap }) (with_number number (held_places t s))
with-place t s k number held gap counted free is next = record {
  held = is ∙ ap (λ n. n + 1) counted.held ∙ sym (length-with number (held_places t s) (held-not t s number free));
  gap = next;
}

-- One place less.

pub gap-less-none : (gap number : ℕ) (left : List ℕ) → number ≡ 0 → IsRising itself left →
    gap ≡ first_gap 1 (with_number number left) → gap ≡ first_gap 1 left
gap-less-none gap number left zeroth r is = is ∙ other-gap number left r (λ e. apart e (first_gap-ge 1 left))
  where
    apart : number ≡ first_gap 1 left → 1 ≤ first_gap 1 left → ⊥
    apart e ge = omega (arith, zeroth, e, ge)

pub gap-less-kept : (gap number : ℕ) (left : List ℕ) → gap ≤ number → IsRising itself left →
    gap ≡ first_gap 1 (with_number number left) → gap ≡ first_gap 1 left
gap-less-kept gap number left le r is = is ∙ other-gap number left r (λ e. beyond e (first_gap-ge (first_gap 1 left) (with_number number left)))
  where
    beyond : number ≡ first_gap 1 left → first_gap 1 left ≤ first_gap (first_gap 1 left) (with_number number left) → ⊥
    beyond e ge =
        let at : gap ≡ first_gap (first_gap 1 left) (with_number number left) = is ∙ gap-with number left r in
        let here : gap ≡ number = omega (arith, le, e, ge, at) in
        first_gap-free 1 (with_number number left) (with-rising number left r)
        (subst (Has (with_number number left)) (sym here ∙ is) (Has-with_row itself number left))

pub gap-less-new : (gap number : ℕ) (left : List ℕ) → (number ≡ 0 → ⊥) → number < gap → IsRising itself left →
    (Has left number → ⊥) → gap ≡ first_gap 1 (with_number number left) → number ≡ first_gap 1 left
gap-less-new gap number left some lt r none is = go (eqb number (first_gap 1 left)) refl
  where
    before : (number ≡ first_gap 1 left → ⊥) → number ≡ first_gap 1 left
    before apart =
        let same : gap ≡ first_gap 1 left = is ∙ other-gap number left r apart in
        absurd (none (gap-below 1 number left (omega (arith, some)) (omega (arith, lt, same))))

    go : (b : Bool) → eqb number (first_gap 1 left) ≡ b → number ≡ first_gap 1 left
    go true e = grind (arith, nat_tests, e)
    go false e = before (λ same. differs same)
      where
        differs : number ≡ first_gap 1 left → ⊥
        differs same = grind (arith, nat_tests, e, same)

pub without-place : (k : Counted) (number held gap : ℕ) (left : List ℕ) → held ≡ k.held - 1 →
    (k.gap ≡ first_gap 1 (with_number number left) → gap ≡ first_gap 1 left) → (Has left number → ⊥) →
    AreCounted k (with_number number left) → AreCounted (record { service = k.service; held = held; gap = gap }) left
without-place k number held gap left is next none counted = record {
  held =
      let was : k.held ≡ length left + 1 = counted.held ∙ length-with number left none in
      omega (arith, is, was);
  gap = next counted.gap;
}

-- Places of which others than one, or all, are held as before.

rising-same : (xs ys : List ℕ) → IsRising itself xs → IsRising itself ys → ((j : ℕ) → Has xs j → Has ys j) →
    ((j : ℕ) → Has ys j → Has xs j) → xs ≡ ys
rising-same [] [] r s there back = refl
rising-same [] (y ∷ ys) r s there back = absurd (back y (inl refl))
rising-same (x ∷ xs) [] r s there back = absurd (there x (inl refl))
rising-same (x ∷ xs) (y ∷ ys) r s there back =
    ap (λ z. z ∷ xs) first ∙ ap (λ zs. y ∷ zs)
    (rising-same xs ys (rises_from x xs r) (rises_from y ys s) (λ j h. tail x y xs ys r first there j h) (λ j h. tail y x ys xs s (sym first) back j h))
  where
    heads : Has (y ∷ ys) x → Has (x ∷ xs) y → x ≡ y
    heads (inl e) h = sym e
    heads (inr g) (inl e) = e
    heads (inr g) (inr h) =
        let above : y < x = number_above itself y ys x s g in
        let below : x < y = number_above itself x xs y r h in
        absurd (omega (arith, above, below))

    first : x ≡ y
    first = heads (there x (inl refl)) (back y (inl refl))

    tail : (x y : ℕ) (xs ys : List ℕ) → RisesFrom itself x xs → x ≡ y → ((j : ℕ) → Has (x ∷ xs) j → Has (y ∷ ys) j) →
        (j : ℕ) → Has xs j → Has ys j
    tail x y xs ys r e there j h = go (there j (inr h))
      where
        go : Has (y ∷ ys) j → Has ys j
        go (inl same) = let above : x < j = number_above itself x xs j r h in absurd (omega (arith, above, e, same))
        go (inr h) = h

held-is : (t : Tables) (s : Service) (k : ℕ) → Has (held_places t s) k → is_held_place t s k ≡ true
held-is t s k h = (Has-filter_cases (is_held_place t s) (place_numbers t s) k h).1

pub same-places : (t u : Tables) (s : Service) → ((j : ℕ) → is_held_place u s j ≡ is_held_place t s j) →
    held_places u s ≡ held_places t s
same-places t u s same =
    rising-same (held_places u s) (held_places t s) (held-rise u s) (held-rise t s)
    (λ j h. held-has t s j (sym (same j) ∙ held-is u s j h)) (λ j h. held-has u s j (same j ∙ held-is t s j h))

pub more-places : (t u : Tables) (s : Service) (k : ℕ) → is_held_place u s k ≡ true →
    ((j : ℕ) → (k ≡ j → ⊥) → is_held_place u s j ≡ is_held_place t s j) →
    held_places u s ≡ with_number k (held_places t s)
more-places t u s k here away =
    rising-same (held_places u s) (with_number k (held_places t s)) (held-rise u s)
    (with-rising k (held_places t s) (held-rise t s)) (λ j h. there j h (eqb k j) refl) back
  where
    there : (j : ℕ) → Has (held_places u s) j → (b : Bool) → eqb k j ≡ b → Has (with_number k (held_places t s)) j
    there j h true e =
        let same : k ≡ j = grind (arith, nat_tests, e) in
        subst (Has (with_number k (held_places t s))) same (Has-with_row itself k (held_places t s))
    there j h false e =
        Has-with_number_keeps k j (held_places t s) (held-has t s j (sym (away j differs) ∙ held-is u s j h))
      where
        differs : k ≡ j → ⊥
        differs same = grind (arith, nat_tests, e, same)

    other : (j : ℕ) → is_held_place t s j ≡ true → (b : Bool) → eqb k j ≡ b → is_held_place u s j ≡ true
    other j is true e =
        let same : k ≡ j = grind (arith, nat_tests, e) in subst (λ n. is_held_place u s n ≡ true) same here
    other j is false e = away j differs ∙ is
      where
        differs : k ≡ j → ⊥
        differs same = grind (arith, nat_tests, e, same)

    back : (j : ℕ) → Has (with_number k (held_places t s)) j → Has (held_places u s) j
    back j h = elim (with_number-cases k j (held_places t s) h) [
      | inl same ↦ held-has u s j (subst (λ n. is_held_place u s n ≡ true) same here)
      | inr old ↦ held-has u s j (other j (held-is t s j old) (eqb k j) refl)
    ]

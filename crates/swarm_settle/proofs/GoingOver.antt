-- Going over the rows in a span is going over all rows, where those that give something are in the span.
use Rattle.std.proofs.Common.{Bool, List, None, Option, Some, [], ap, arith, cond, false, inl, inr, refl, subst, sym, true, ℕ, ◌++◌, ◌<◌, ◌∙◌, ◌∷◌, ◌≡◌, ◌⊎◌}
use Rattle.std.proofs.lemmas.Bool.Decides.{nat_tests}
use Rattle.std.specs.Prelude.{find, flat_map, is_some, nat_lt, option_to_list}
use Rattle.swarm_model.specs.Settle.{Wait, wait_cmp}
use Rattle.swarm_objects.proofs.RowLemmas.{Has-append_cases, Has-append_left, Has-append_right, Has-filter, Has-filter_cases, Has-flat_map, Has-flat_map_cases, number_above}
use Rattle.swarm_objects.proofs.Tests.{and_fails, both, find_has, first_so, second_so}
use Rattle.swarm_objects.specs.Rows.{Has, RisesFrom, first_of, least_by, rows_above}
use Rattle.swarm_settle.proofs.LeastAmong.{least_among}
use Rattle.swarm_settle.proofs.LeastWaits.{least_append}
use Rattle.swarm_settle.specs.Waiting.{IsGoneOver, gives, gives_above, waits_above}
use Rattle.swarm_spans.proofs.Firsts.{flat-found, flat-none}
use Rattle.swarm_spans.proofs.Grown.{low-end}
use Rattle.swarm_spans.proofs.InSpans.{first-found, first-none, found-in, nothing-passes, passed}
use Rattle.swarm_spans.specs.Spans.{Covers, beyond, is_in}
use Rattle.swarm_spans.specs.declared.span.Span.{Span}

-- What rows give.

has_gives : {X Y : Type 0} (f : X → List Y) (x : X) (y : Y) → Has (f x) y → gives f x ≡ true
has_gives {X} {Y} f x y h = go (f x) h
  where
    go : (list : List Y) → Has list y → is_some (first_of list) ≡ true
    go [] k = absurd k
    go (z ∷ list) k = refl

-- those that give something are covered with all that pass a wider test
pub covers_giving : {X Y : Type 0} (key : X → ℕ) (test : X → Bool) (f : X → List Y) (span : Span) (rows : List X) →
    ((x : X) → gives f x ≡ true → test x ≡ true) → Covers key test span rows → Covers key (gives f) span rows
covers_giving key test f span rows passes c = record { has = λ x h e. c.has x h (passes x e) }

-- Rows above a number.

is_less : (m n : ℕ) → m < n → nat_lt m n ≡ true
is_less m n lt = grind (arith, nat_tests, lt)

less_is : (m n : ℕ) → nat_lt m n ≡ true → m < n
less_is m n e = grind (arith, nat_tests, e)

not_itself : (n : ℕ) → nat_lt n n ≡ false
not_itself n = grind (arith, nat_tests)

above : {X : Type 0} (key : X → ℕ) (f : X → List Wait) (after : ℕ) (rows : List X) (x : X) (w : Wait) → Has rows x →
    after < key x → Has (f x) w → Has (waits_above key f after rows) w
above key f after rows x w h lt k =
    Has-flat_map f (rows_above key after rows) x w
    (Has-filter (λ y. nat_lt after (key y)) rows x h (is_less after (key x) lt)) k

of_above : {X : Type 0} (key : X → ℕ) (f : X → List Wait) (after : ℕ) (rows : List X) (w : Wait) →
    Has (waits_above key f after rows) w → (x : X) × Has rows x × (after < key x) × Has (f x) w
of_above key f after rows w h =
    let from = Has-flat_map_cases f (rows_above key after rows) w h in
    let row = Has-filter_cases (λ y. nat_lt after (key y)) rows from.0 from.1 in
    (from.0, row.0, less_is after (key from.0) row.1, from.2)

gives_there : {X : Type 0} (key : X → ℕ) (f : X → List Wait) (after : ℕ) (x : X) (w : Wait) → after < key x →
    Has (f x) w → gives_above key f after x ≡ true
gives_there key f after x w lt k =
    both (gives f x) (nat_lt after (key x)) (has_gives f x w k) (is_less after (key x) lt)

-- the first row that passes is the least
first_there : {X : Type 0} (key : X → ℕ) (test : X → Bool) (n : ℕ) (rows : List X) (x y : X) → RisesFrom key n rows →
    find test rows ≡ Some x → Has rows y → test y ≡ true → (x ≡ y) ⊎ (key x < key y)
first_there key test n [] x y r e h passes = absurd h
first_there {X} key test n (z ∷ rows) x y r e h passes =
    go (test z) refl e h (λ k there. first_there key test (key z) rows x y r.1 k there passes)
  where
    go : (b : Bool) → test z ≡ b → cond b (Some z) (find test rows) ≡ Some x → ((z ≡ y) ⊎ Has rows y) →
        (find test rows ≡ Some x → Has rows y → (x ≡ y) ⊎ (key x < key y)) → (x ≡ y) ⊎ (key x < key y)
    go true p k (inl same) below = let first : z ≡ x = cc in inl (sym first ∙ same)
    go true p k (inr there) below =
        let first : z ≡ x = cc in
        inr (subst (λ v. key v < key y) first (number_above key (key z) rows y r.1 there))
    go false p k (inl same) below =
        let both : true ≡ false = sym passes ∙ ap test (sym same) ∙ p in
        absurd cc
    go false p k (inr there) below = below k there

-- The least wait.

pub begins : {X : Type 0} (key : X → ℕ) (f : X → List Wait) (rows : List X) (span : Span) (best : Option Wait) →
    Covers key (gives f) span rows → IsGoneOver key f rows best best span
begins {X} key f rows span best c = record {
  covers = record { has = λ x h e. c.has x h (first_so (gives f x) (nat_lt span.after (key x)) e) };
  least = least_among best (waits_above key f span.after rows) (flat_map f rows) to from;
}
  where
    to : (w : Wait) → Has (waits_above key f span.after rows) w → Has (flat_map f rows) w
    to w h = let x = of_above key f span.after rows w h in Has-flat_map f rows x.0 w x.1 x.3

    from : (w : Wait) → Has (flat_map f rows) w → Has (waits_above key f span.after rows) w
    from w h =
        let x = Has-flat_map_cases f rows w h in
        above key f span.after rows x.0 w x.1 (low-end span (key x.0) (c.has x.0 x.1 (has_gives f x.0 w x.2))) x.2

pub goes_on : {X : Type 0} (key : X → ℕ) (f : X → List Wait) (rows : List X) (span left : Span)
    (best least next : Option Wait) (x : X) → RisesFrom key 0 rows → IsGoneOver key f rows best least span →
    Some x ≡ find (λ y. is_in span (key y)) rows → next ≡ least_by wait_cmp least (f x) → left ≡ beyond span (key x) →
    IsGoneOver key f rows best next left
goes_on {X} key f rows span left best least next x rises gone found made is =
    subst (IsGoneOver key f rows best next) (sym is) (record { covers = rest; least = same ∙ gone.least })
  where
    here : Has rows x
    here = (find_has (λ y. is_in span (key y)) rows x (sym found)).0

    low : span.after < key x
    low = low-end span (key x) (found-in key span rows x (sym found))

    gives_yet : (y : X) → gives_above key f (key x) y ≡ true → gives_above key f span.after y ≡ true
    gives_yet y e =
        let lt : key x < key y = less_is (key x) (key y) (second_so (gives f y) (nat_lt (key x) (key y)) e) in
        both (gives f y) (nat_lt span.after (key y)) (first_so (gives f y) (nat_lt (key x) (key y)) e)
        (is_less span.after (key y) (omega (arith, low, lt)))

    rest : Covers key (gives_above key f (key x)) (beyond span (key x)) rows
    rest = record {
      has =
          passed key (gives_above key f (key x)) span 0 rows x rises
          (record { has = λ y h e. gone.covers.has y h (gives_yet y e) }) (sym found)
          (and_fails (gives f x) (nat_lt (key x) (key x)) (not_itself (key x)));
    }

    old : List Wait
    old = waits_above key f span.after rows

    new : List Wait
    new = waits_above key f (key x) rows

    to : (w : Wait) → Has (f x ++ new) w → Has old w
    to w h = go (Has-append_cases (f x) new w h)
      where
        go : (Has (f x) w ⊎ Has new w) → Has old w
        go (inl k) = above key f span.after rows x w here low k
        go (inr k) =
            let y = of_above key f (key x) rows w k in
            above key f span.after rows y.0 w y.1 (omega (arith, low, y.2)) y.3

    from : (w : Wait) → Has old w → Has (f x ++ new) w
    from w h =
        let y = of_above key f span.after rows w h in
        let within : is_in span (key y.0) ≡ true =
        gone.covers.has y.0 y.1 (gives_there key f span.after y.0 w y.2 y.3) in
        go y.0 y.1 y.3 (first_there key (λ z. is_in span (key z)) 0 rows x y.0 rises (sym found) y.1 within)
      where
        go : (y : X) → Has rows y → Has (f y) w → ((x ≡ y) ⊎ (key x < key y)) → Has (f x ++ new) w
        go y there k (inl e) = Has-append_left (f x) new w (subst (λ z. Has (f z) w) (sym e) k)
        go y there k (inr lt) = Has-append_right (f x) new w (above key f (key x) rows y w there lt k)

    same : least_by wait_cmp next new ≡ least_by wait_cmp least old
    same =
        ap (λ o. least_by wait_cmp o new) made
        ∙ sym (least_append wait_cmp least (f x) new)
        ∙ least_among least (f x ++ new) old to from

pub ends : {X : Type 0} (key : X → ℕ) (f : X → List Wait) (rows : List X) (span : Span) (best least : Option Wait) →
    IsGoneOver key f rows best least span → None ≡ find (λ y. is_in span (key y)) rows →
    least ≡ least_by wait_cmp best (flat_map f rows)
ends key f rows span best least gone none =
    sym (least_among least (waits_above key f span.after rows) [] nothing (λ w h. absurd h))
    ∙ gone.least
  where
    nothing : (w : Wait) → Has (waits_above key f span.after rows) w → Has {X = Wait} [] w
    nothing w h =
        let y = of_above key f span.after rows w h in
        let both : true ≡ false =
        sym (gives_there key f span.after y.0 w y.2 y.3)
        ∙ nothing-passes (gives_above key f span.after) rows
        (first-none key (gives_above key f span.after) span rows gone.covers (sym none)) y.0 y.1 in
        absurd cc

-- The first that is given.

pub first_given : {X Y : Type 0} (key : X → ℕ) (f : X → List Y) (rows : List X) (span : Span) (x : X) (o : Option Y) →
    Covers key (gives f) span rows → Some x ≡ find (λ y. is_in span (key y)) rows → option_to_list o ≡ f x →
    is_some o ≡ true → o ≡ first_of (flat_map f rows)
first_given key f rows span x None c found is some = absurd cc
first_given key f rows span x (Some d) c found is some =
    sym (flat-found f rows x d (first-found key (gives f) span rows x c (sym found) (sym (ap (λ l. is_some (first_of l)) is)))
    (sym (ap first_of is)))

pub none_given : {X Y : Type 0} (key : X → ℕ) (f : X → List Y) (rows : List X) (span left : Span) (x : X) (o : Option Y) →
    RisesFrom key 0 rows → Covers key (gives f) span rows → Some x ≡ find (λ y. is_in span (key y)) rows →
    option_to_list o ≡ f x → is_some o ≡ false → left ≡ beyond span (key x) → Covers key (gives f) left rows
none_given key f rows span left x (Some d) rises c found is none at = absurd cc
none_given key f rows span left x None rises c found is none at =
    subst (λ s. Covers key (gives f) s rows) (sym at)
    (record { has = passed key (gives f) span 0 rows x rises c (sym found) (sym (ap (λ l. is_some (first_of l)) is)) })

pub none_left : {X Y : Type 0} (key : X → ℕ) (f : X → List Y) (rows : List X) (span : Span) →
    Covers key (gives f) span rows → None ≡ find (λ y. is_in span (key y)) rows → None ≡ first_of (flat_map f rows)
none_left key f rows span c none = sym (flat-none f rows (first-none key (gives f) span rows c (sym none)))

-- What is kept by owner and what is kept by time say the same, whatever is set or cleared.
use Rattle.std.proofs.Common.{Bool, List, None, Option, Some, [], ap, arith, cond, eqb, false, inl, inr, refl, subst, sym, true, ℕ, ◌∙◌, ◌∷◌, ◌≡◌, ◌&&◌, ◌||◌, ◌⊎◌}
use Rattle.std.proofs.lemmas.Bool.Decides.{nat_tests}
use Rattle.std.specs.BTreeMap.{insert_entry, is_at}
use Rattle.std.specs.BTreeSet.{BTreeSet, contains}
use Rattle.std.specs.Map.{lookup, remove_entry}
use Rattle.std.specs.Option.{option_map}
use Rattle.std.specs.List.{AllByRecursion, list_any}
use Rattle.std.specs.List.Sorted.{IsStrictlySortedBy}
use Rattle.std.specs.Ordering.{is_gt, is_lt, nat_cmp}
use Rattle.std.specs.Prelude.{not, ◌↔◌}
use Rattle.std.specs.declared.cmp.Ordering.TheVariants.{Less}
use Rattle.swarm_objects.proofs.Gaps.{IsRising-with_row}
use Rattle.swarm_objects.proofs.MapEntries.{entries-rise, lookup-entry, put-entry, put-rising, remove-entry, remove-rising}
use Rattle.swarm_objects.proofs.RowChanges.{row_at-with_row}
use Rattle.swarm_objects.proofs.RowLemmas.{Has-from_row_at, number_above, row_at-Some}
use Rattle.swarm_objects.specs.MapEntries.{entry_key}
use Rattle.swarm_objects.specs.Rows.{Has, IsRising, drop_row, is_some_and, row_at}
use Rattle.swarm_timers.proofs.Firsts.{NotAfter, first-is, first-of, same-timer}
use Rattle.swarm_timers.specs.Inside.{AddsTime, AreSame, DropsTime, IsFirstTime, KeepsTimes, LeavesFormer, has_time, is_at_time, is_former, same_time, timer_at, timer_of, timers_of}
use Rattle.swarm_timers.specs.Timers.{AreInOrder, Timer, first_timer, time_cmp, timer_owner, timer_time, with_time, without_time}

abbrev Entries : Type 0
Entries = List (ℕ × ℕ)

abbrev Times : Type 0
Times = BTreeSet (ℕ × ℕ)

-- the owner's row, and whether its time is this one
abbrev row_of : Entries → ℕ → Option Timer
row_of es o = row_at timer_owner o (timers_of es)

abbrev time_is : ℕ → Option Timer → Bool
time_is t row = is_some_and (is_at_time t) row

-- the map's changes are those of the timers

pub set-is : (owner at : ℕ) (es after : Entries) → after ≡ insert_entry nat_cmp es owner at →
    timers_of after ≡ with_time owner at (timers_of es)
set-is owner at es after e = ap timers_of e ∙ put-entry timer_owner timer_of (λ x. refl) owner at es

pub clear-is : (owner : ℕ) (es after : Entries) → IsRising entry_key es →
    after ≡ remove_entry (is_at (nat_cmp owner)) es → timers_of after ≡ without_time owner (timers_of es)
clear-is owner es after r e = ap timers_of e ∙ remove-entry timer_owner timer_of (λ x. refl) owner es r

found : (owner : ℕ) (es : Entries) (former : Option ℕ) → former ≡ lookup (is_at (nat_cmp owner)) es →
    row_of es owner ≡ option_map (λ (a : ℕ). timer_of (owner, a)) former
found owner es former e =
    sym (lookup-entry timer_owner timer_of (λ x. refl) owner es)
    ∙ ap (option_map (λ (a : ℕ). timer_of (owner, a))) (sym e)

-- the set's changes

time-at : (at owner t o : ℕ) → is_at (time_cmp (at, owner)) (t, o) ≡ same_time at owner t o
time-at at owner t o = grind (arith, nat_tests)

pub adds-one : (at owner : ℕ) (old new : Times) →
    ((q : ℕ × ℕ) → contains time_cmp new q ≡ cond (is_at (time_cmp (at, owner)) q) true (contains time_cmp old q)) →
    AddsTime at owner old new
adds-one at owner old new h t o =
    h (t, o) ∙ ap (λ (b : Bool). cond b true (has_time old t o)) (time-at at owner t o) ∙ go (same_time at owner t o)
  where
    go : (b : Bool) → cond b true (has_time old t o) ≡ (b || has_time old t o)
    go true = refl
    go false = refl

pub drops-one : (at owner : ℕ) (old new : Times) →
    ((q : ℕ × ℕ) → contains time_cmp new q ≡ cond (is_at (time_cmp (at, owner)) q) false (contains time_cmp old q)) →
    DropsTime at owner old new
drops-one at owner old new h t o =
    h (t, o) ∙ ap (λ (b : Bool). cond b false (has_time old t o)) (time-at at owner t o) ∙ go (same_time at owner t o)
  where
    go : (b : Bool) → cond b false (has_time old t o) ≡ (not b && has_time old t o)
    go true = refl
    go false = refl

-- nothing is there

pub same-none : (es : Entries) (times : Times) → es ≡ [] → ((t o : ℕ) → has_time times t o ≡ false) → AreSame es times
same-none es times e none = subst (λ (xs : Entries). AreSame xs times) (sym e) (record { rises = tt; same = none })

-- the times stay

pub same-kept : (es after : Entries) (times kept : Times) → AreSame es times → after ≡ es → KeepsTimes times kept → AreSame after kept
same-kept es after times kept s e keeps =
    subst (λ (xs : Entries). AreSame xs kept) (sym e) (record { rises = s.rises; same = λ t o. keeps t o ∙ s.same t o })

-- a time that came goes again

pub same-undone : (owner at : ℕ) (es after : Entries) (times added left : Times) → AreSame es times → after ≡ es →
    lookup (is_at (nat_cmp owner)) es ≡ None → AddsTime at owner times added → DropsTime at owner added left →
    AreSame after left
same-undone owner at es after times added left s e absent adds drops =
    same-kept es after times left s e (λ t o.
    drops t o ∙ ap (λ (b : Bool). not (same_time at owner t o) && b) (adds t o) ∙ go t o (same_time at owner t o) refl)
  where
    none : row_of es owner ≡ None
    none = found owner es None (sym absent)

    go : (t o : ℕ) (b : Bool) → same_time at owner t o ≡ b → (not b && (b || has_time times t o)) ≡ has_time times t o
    go t o true p =
        let is : owner ≡ o = grind (arith, nat_tests, p) in
        sym (s.same t o ∙ ap (λ (k : ℕ). time_is t (row_of es k)) (sym is) ∙ ap (time_is t) none)
    go t o false p = refl

-- an owner's time is set

other-time : (f at t : ℕ) →
    (not (not (eqb f at) && (eqb f t && true)) && ((eqb at t && true) || eqb f t)) ≡ eqb at t
other-time f at t = grind (arith, nat_tests)

only-time : (b : Bool) → ((b && true) || false) ≡ b
only-time true = refl
only-time false = refl

never : (a : Bool) → (a && false) ≡ false
never true = refl
never false = refl

-- the former time of an owner, where the test says that it is this one
abbrev former-test : Option ℕ → ℕ → ℕ → Bool → Bool
former-test None at t b = false
former-test (Some f) at t b = not (eqb f at) && (eqb f t && b)

former-is : (owner at t o : ℕ) (f : Option ℕ) → is_former owner f at t o ≡ former-test f at t (eqb owner o)
former-is owner at t o None = refl
former-is owner at t o (Some f) = refl

set-test : (owner at t : ℕ) (f : Option ℕ) (row : Option Timer) (b : Bool) →
    (b ≡ true → row ≡ option_map (λ (a : ℕ). timer_of (owner, a)) f) →
    (not (former-test f at t b) && ((eqb at t && b) || time_is t row))
    ≡ time_is t (cond b (Some (timer_of (owner, at))) row)
set-test owner at t None row true is =
    ap (λ (r : Option Timer). (eqb at t && true) || time_is t r) (is refl) ∙ only-time (eqb at t)
set-test owner at t (Some f) row true is =
    ap (λ (r : Option Timer). not (not (eqb f at) && (eqb f t && true)) && ((eqb at t && true) || time_is t r)) (is refl)
    ∙ other-time f at t
set-test owner at t None row false is = ap (λ (c : Bool). c || time_is t row) (never (eqb at t))
set-test owner at t (Some f) row false is =
    ap (λ (c : Bool). not (not (eqb f at) && c) && ((eqb at t && false) || time_is t row)) (never (eqb f t))
    ∙ ap (λ (c : Bool). not c && ((eqb at t && false) || time_is t row)) (never (not (eqb f at)))
    ∙ ap (λ (c : Bool). c || time_is t row) (never (eqb at t))

pub same-set : (owner at : ℕ) (former : Option ℕ) (es after : Entries) (times added left : Times) → AreSame es times →
    former ≡ lookup (is_at (nat_cmp owner)) es → after ≡ insert_entry nat_cmp es owner at →
    AddsTime at owner times added → LeavesFormer owner former at added left → AreSame after left
same-set owner at former es after times added left s was e adds leaves = record {
  rises = subst (IsRising entry_key) (sym e) (put-rising owner at es s.rises);
  same = λ t o.
      leaves t o
      ∙ ap (λ (b : Bool). not (is_former owner former at t o) && b)
      (adds t o ∙ ap (λ (b : Bool). same_time at owner t o || b) (s.same t o))
      ∙ ap (λ (b : Bool). not b && (same_time at owner t o || time_is t (row_of es o))) (former-is owner at t o former)
      ∙ set-test owner at t former (row_of es o) (eqb owner o) (own o)
      ∙ sym (ap (time_is t) (ap (row_at timer_owner o) (set-is owner at es after e)
      ∙ row_at-with_row timer_owner o (timer_of (owner, at)) (timers_of es)));
}
  where
    own : (o : ℕ) → eqb owner o ≡ true → row_of es o ≡ option_map (λ (a : ℕ). timer_of (owner, a)) former
    own o p =
        let is : owner ≡ o = grind (arith, nat_tests, p) in
        ap (row_of es) (sym is) ∙ found owner es former was

-- an owner's time is cleared

at-drop : (owner o : ℕ) (ts : List Timer) →
    row_at timer_owner o (drop_row timer_owner owner ts) ≡ cond (eqb owner o) None (row_at timer_owner o ts)
at-drop owner o [] = grind (arith, nat_tests)
at-drop owner o (t ∷ ts) = grind (arith, nat_tests, at-drop owner o ts)

gone-time : (b : Bool) → (not (b && true) && b) ≡ false
gone-time true = refl
gone-time false = refl

clear-test : (owner at t : ℕ) (row : Option Timer) (b : Bool) → (b ≡ true → row ≡ Some (timer_of (owner, at))) →
    (not (eqb at t && b) && time_is t row) ≡ time_is t (cond b None row)
clear-test owner at t row true is =
    ap (λ (r : Option Timer). not (eqb at t && true) && time_is t r) (is refl) ∙ gone-time (eqb at t)
clear-test owner at t row false is = ap (λ (c : Bool). not c && time_is t row) (never (eqb at t))

pub same-cleared : (owner at : ℕ) (es after : Entries) (times left : Times) → AreSame es times →
    Some at ≡ lookup (is_at (nat_cmp owner)) es → after ≡ remove_entry (is_at (nat_cmp owner)) es →
    DropsTime at owner times left → AreSame after left
same-cleared owner at es after times left s was e drops = record {
  rises = subst (IsRising entry_key) (sym e) (remove-rising owner es s.rises);
  same = λ t o.
      drops t o ∙ ap (λ (b : Bool). not (same_time at owner t o) && b) (s.same t o)
      ∙ clear-test owner at t (row_of es o) (eqb owner o) (own o)
      ∙ sym (ap (time_is t) (ap (row_at timer_owner o) (clear-is owner es after s.rises e)
      ∙ at-drop owner o (timers_of es)));
}
  where
    own : (o : ℕ) → eqb owner o ≡ true → row_of es o ≡ Some (timer_of (owner, at))
    own o p =
        let is : owner ≡ o = grind (arith, nat_tests, p) in
        ap (row_of es) (sym is) ∙ found owner es (Some at) was

-- the first time

at-member : (ts : List Timer) (x : Timer) → IsRising timer_owner ts → Has ts x → row_at timer_owner x.owner ts ≡ Some x
at-member [] x r h = absurd h
at-member (t ∷ ts) x r (inl e) = grind (arith, nat_tests, e)
at-member (t ∷ ts) x r (inr h) =
    let above = number_above timer_owner t.owner ts x r h in
    grind (arith, nat_tests, above, row_at-Some timer_owner t.owner ts x r h)

-- a row that is there has its time
has-member : (es : Entries) (times : Times) (x : Timer) → AreSame es times → Has (timers_of es) x → has_time times x.at x.owner ≡ true
has-member es times x s h =
    s.same x.at x.owner
    ∙ ap (time_is x.at) (at-member (timers_of es) x (entries-rise timer_owner timer_of (λ e. refl) es s.rises) h)
    ∙ self x.at
  where
    self : (n : ℕ) → eqb n n ≡ true
    self n = grind (arith, nat_tests)

-- a time that is there has its row
member-has : (es : Entries) (times : Times) (t o : ℕ) → AreSame es times → has_time times t o ≡ true → Has (timers_of es) (timer_at (t, o))
member-has es times t o s h = go (row_of es o) refl (sym (s.same t o) ∙ h)
  where
    go : (r : Option Timer) → row_of es o ≡ r → time_is t r ≡ true → Has (timers_of es) (timer_at (t, o))
    go None at is = let no : false ≡ true = is in absurd cc
    go (Some x) at is =
        let there = Has-from_row_at timer_owner o (timers_of es) x at in
        let time : x.at ≡ t = grind (arith, nat_tests, is) in
        subst (λ (y : Timer). Has (timers_of es) y) (same-timer x (timer_at (t, o)) there.1 time) there.0

not-greater : (p : ℕ × ℕ) (t : Timer) → is_gt (time_cmp p (t.at, t.owner)) ≡ false → NotAfter (timer_at p) t
not-greater p t e = (grind (arith, nat_tests, e), λ same. grind (arith, nat_tests, e, same))

pub first-same : (es : Entries) (times : Times) (first : Option (ℕ × ℕ)) → AreSame es times → IsFirstTime times first →
    option_map timer_at first ≡ first_timer (timers_of es)
first-same [] times None s none = refl
first-same (e ∷ es) times None s none =
    let not-there : has_time times e.1 e.0 ≡ false = none e.1 e.0 in
    let there : has_time times e.1 e.0 ≡ true = has-member (e ∷ es) times (timer_of e) s (inl refl) in
    absurd cc
first-same es times (Some p) s h =
    sym (first-is (timers_of es) (timer_at p) (first-of (timers_of es) (timer_at p) (member-has es times p.0 p.1 s h.0)
    (λ t k. not-greater p t (h.1 t.at t.owner (has-member es times t s k)))))

-- the owners rise

pub owners-rise : (es after : Entries) (times : Times) → AreSame es times → after ≡ es →
    IsRising timer_owner (timers_of after)
owners-rise es after times s e =
    subst (λ (xs : Entries). IsRising timer_owner (timers_of xs)) (sym e)
    (entries-rise timer_owner timer_of (λ x. refl) es s.rises)

pub owners-rise-set : (owner at : ℕ) (es after : Entries) (times : Times) → AreSame es times →
    after ≡ insert_entry nat_cmp es owner at → IsRising timer_owner (timers_of after)
owners-rise-set owner at es after times s e =
    subst (IsRising timer_owner) (sym (set-is owner at es after e))
    (IsRising-with_row timer_owner (timer_of (owner, at)) (timers_of es) (owners-rise es es times s refl))

-- a look-up

pub get-is : (owner : ℕ) (es : Entries) (at : Option ℕ) → at ≡ lookup (is_at (nat_cmp owner)) es →
    at ≡ option_map timer_time (row_of es owner)
get-is owner es at e = time at ∙ ap (option_map timer_time) (sym (found owner es at e))
  where
    time : (o : Option ℕ) → o ≡ option_map timer_time (option_map (λ (a : ℕ). timer_of (owner, a)) o)
    time None = refl
    time (Some a) = refl

-- a walk

any-of : (at owner : ℕ) (ps : List (ℕ × ℕ)) → Has ps (at, owner) → list_any (is_at (time_cmp (at, owner))) ps ≡ true
any-of at owner [] h = absurd h
any-of at owner (p ∷ ps) (inl e) =
    ap (λ (q : ℕ × ℕ). is_at (time_cmp (at, owner)) q || list_any (is_at (time_cmp (at, owner))) ps) e
    ∙ ap (λ b. b || list_any (is_at (time_cmp (at, owner))) ps)
    (let is : is_at (time_cmp (at, owner)) (at, owner) ≡ true = grind (arith, nat_tests) in is)
any-of at owner (p ∷ ps) (inr h) = go (is_at (time_cmp (at, owner)) p) (any-of at owner ps h)
  where
    go : (b : Bool) → list_any (is_at (time_cmp (at, owner))) ps ≡ true →
        (b || list_any (is_at (time_cmp (at, owner))) ps) ≡ true
    go true rest = refl
    go false rest = rest

of-any : (at owner : ℕ) (ps : List (ℕ × ℕ)) → list_any (is_at (time_cmp (at, owner))) ps ≡ true → Has ps (at, owner)
of-any at owner [] e = let no : false ≡ true = e in absurd cc
of-any at owner (p ∷ ps) e = go (is_at (time_cmp (at, owner)) p) refl e (of-any at owner ps)
  where
    pair : (q : ℕ × ℕ) → q.0 ≡ at → q.1 ≡ owner → q ≡ (at, owner)
    pair q a o = ap (λ (x : ℕ). (x, q.1)) a ∙ ap (λ (x : ℕ). (at, x)) o

    go : (b : Bool) → is_at (time_cmp (at, owner)) p ≡ b → (b || list_any (is_at (time_cmp (at, owner))) ps) ≡ true →
        (list_any (is_at (time_cmp (at, owner))) ps ≡ true → Has ps (at, owner)) → (p ≡ (at, owner)) ⊎ Has ps (at, owner)
    go true is or rest = inl (pair p (grind (arith, nat_tests, is)) (grind (arith, nat_tests, is)))
    go false is or rest = inr (rest or)

pub walk-all : (es : Entries) (times : Times) (rest : List (ℕ × ℕ)) (timers : List Timer) → AreSame es times →
    rest ≡ times.keys → timers_of es ≡ timers → (at owner : ℕ) → Has rest (at, owner) ↔ Has timers (timer_at (at, owner))
walk-all es times rest timers s e v at owner = (
  λ h.
      subst (λ list. Has list (timer_at (at, owner))) v
      (member-has es times at owner s (any-of at owner times.keys (subst (λ list. Has list (at, owner)) e h))),
  λ h.
      subst (λ list. Has list (at, owner)) (sym e)
      (of-any at owner times.keys
      (has-member es times (timer_at (at, owner)) s (subst (λ list. Has list (timer_at (at, owner))) (sym v) h))),
)

later : (p q : ℕ × ℕ) (ps : List (ℕ × ℕ)) → AllByRecursion (λ y. time_cmp p y ≡ Less) ps → Has ps q →
    is_lt (time_cmp p q) ≡ true
later p q [] all h = absurd h
later p q (x ∷ ps) all (inl e) = ap is_lt (ap (time_cmp p) (sym e) ∙ all.0)
later p q (x ∷ ps) all (inr h) = later p q ps all.1 h

pub walk-order : (ps : List (ℕ × ℕ)) → IsStrictlySortedBy time_cmp ps → AreInOrder ps
unfolding IsStrictlySortedBy
walk-order [] r = tt
walk-order (p ∷ ps) r = (λ q h. later p q ps r.0 h, walk-order ps r.1)

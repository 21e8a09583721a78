-- A window with one task more shows the tasks with it.
use Rattle.std.proofs.Common.{◌≡◌, ◌≢◌, ◌⊎◌, inl, inr, ℕ, ◌+◌, ◌-◌, ◌<◌, ◌≤◌, ◌^◌, Bool, true, false, cond, eqb, ltb, leb, List, [], ◌∷◌, ◌++◌, Option, None, Some, refl, sym, ap, subst, ◌∙◌, arith, length, get_or, set, max, take}
use Rattle.std.proofs.lemmas.Bool.Decides.{nat_tests}
use Rattle.std.proofs.lemmas.List.{get_or-set_same, get_or-set_other, get_or-replicate, length-set, length-replicate, take_more}
use Rattle.std.specs.Prelude.{not, ◌||◌}
use Rattle.swarm_objects.specs.Tasks.Places.{counts_for, place_number}
use Rattle.swarm_objects.specs.declared.services.Service.{Service}
use Rattle.swarm_objects.specs.declared.tasks.Task.{Task}
use Rattle.role_words.specs.Marks.{mark_of, mark_with}
use Rattle.role_words.specs.Windows.{blank, lesser, mark_at, noted, noted_at, IsFresh, IsFrom, Shows}
use Rattle.role_words.specs.declared.window.Window.{Window}
use Rattle.role_words.specs.declared.window.TheConstants.{WIDTH, BLANK}
use Rattle.role_words.proofs.Numbers.{has_cases, has_keeps, has_new, mark_away, mark_here}

pub shows_none : (s : Service) (first : ℕ) → Shows (blank first) s []
shows_none s first = record {
  wide = length-replicate WIDTH BLANK;
  marks = λ i lt. get_or-replicate WIDTH i BLANK BLANK lt;
  reach = λ i le lt. ap (λ m. m.has_task) (get_or-replicate WIDTH i BLANK BLANK lt);
  beyond = λ k e le. absurd cc;
  behind = λ b e. absurd cc;
  index = omega arith;
  small = λ k e. absurd cc;
}

-- the task stands in no place of the window, nor behind it
unmoved : (w : Window) (s : Service) (x : Task) (tasks : List Task) → place_number x.place < 2 ^ 64
    → ((j : ℕ) → w.first ≤ j → ¬ ((counts_for s x ≡ true) × (place_number x.place ≡ j)))
    → Shows w s tasks → Shows w s (tasks ++ x ∷ [])
unmoved w s x tasks fits apart h = record {
  wide = h.wide;
  marks = λ i lt. h.marks i lt ∙ sym (mark_away s tasks x (w.first + i) (apart (w.first + i) (omega arith)));
  reach = h.reach;
  beyond = λ k e le. elim (has_cases s tasks x k e) [
    | inl both ↦ absurd (apart k (omega (arith, le)) both)
    | inr old ↦ h.beyond k old le
  ];
  behind = λ b e. let there = h.behind b e in (has_keeps s tasks x b there.0, there.1);
  index = h.index;
  small = λ k e. elim (has_cases s tasks x k e) [
    | inl both ↦ subst (λ n. n < 2 ^ 64) both.1 fits
    | inr old ↦ h.small k old
  ];
}

-- it stands in one of the window
within : (w : Window) (s : Service) (x : Task) (tasks : List Task) (i : ℕ) → place_number x.place < 2 ^ 64
    → counts_for s x ≡ true → place_number x.place ≡ w.first + i → i < WIDTH
    → Shows w s tasks → Shows (noted_at s x i w) s (tasks ++ x ∷ [])
within w s x tasks i fits counts is lt h = record {
  wide = length-set w.marks i (mark_with s x (mark_at w i)) ∙ h.wide;
  marks = λ j below. here_or j below (eqb j i) refl;
  reach = λ j le below.
      ap (λ m. m.has_task) (get_or-set_other w.marks i j (mark_with s x (mark_at w i)) BLANK (λ e. apart_reach j le e))
      ∙ h.reach j (above_reach j le) below;
  beyond = λ k e le. elim (has_cases s tasks x k e) [
    | inl both ↦ absurd (too_far k le both.1)
    | inr old ↦ h.beyond k old le
  ];
  behind = λ b e. let there = h.behind b e in (has_keeps s tasks x b there.0, there.1);
  index = h.index;
  small = λ k e. elim (has_cases s tasks x k e) [
    | inl both ↦ subst (λ n. n < 2 ^ 64) both.1 fits
    | inr old ↦ h.small k old
  ];
}
  where
    apart_reach : (j : ℕ) → max w.reach (i + 1) ≤ j → j ≡ i → ⊥
    apart_reach j le e = grind (arith, le, e)

    above_reach : (j : ℕ) → max w.reach (i + 1) ≤ j → w.reach ≤ j
    above_reach j le = grind (arith, le)

    too_far : (k : ℕ) → w.first + WIDTH ≤ k → place_number x.place ≡ k → ⊥
    too_far k le e = omega (arith, le, e, is, lt)

    here_or : (j : ℕ) → j < WIDTH → (b : Bool) → eqb j i ≡ b
        → get_or (set w.marks i (mark_with s x (mark_at w i))) j BLANK ≡ mark_of s (tasks ++ x ∷ []) (w.first + j)
    here_or j below true e =
        let same : i ≡ j = grind (arith, nat_tests) in
        subst (λ n. get_or (set w.marks i (mark_with s x (mark_at w i))) n BLANK ≡ mark_of s (tasks ++ x ∷ []) (w.first + n)) same
        (get_or-set_same w.marks i (mark_with s x (mark_at w i)) BLANK (omega (arith, lt, h.wide))
        ∙ ap (mark_with s x) (h.marks i lt)
        ∙ sym (mark_here s tasks x (w.first + i) counts is))
    here_or j below false e =
        let differ : j ≢ i = grind (arith, nat_tests) in
        get_or-set_other w.marks i j (mark_with s x (mark_at w i)) BLANK differ
        ∙ h.marks j below
        ∙ sym (mark_away s tasks x (w.first + j) (λ both. differ (omega (arith, both.1, is))))

-- it stands in one behind it
IsFrom-new : (o : Option ℕ) (k : ℕ) → IsFrom (lesser o k) k
IsFrom-new None k = omega arith
IsFrom-new (Some b) k = go (leb b k) refl
  where
    go : (c : Bool) → leb b k ≡ c → IsFrom (cond c (Some b) (Some k)) k
    go true e = grind (arith, nat_tests)
    go false e = omega arith

IsFrom-old : (o : Option ℕ) (k j : ℕ) → IsFrom o j → IsFrom (lesser o k) j
IsFrom-old None k j h = absurd h
IsFrom-old (Some b) k j h = go (leb b k) refl
  where
    go : (c : Bool) → leb b k ≡ c → IsFrom (cond c (Some b) (Some k)) j
    go true e = h
    go false e = let lt : k < b = grind (arith, nat_tests) in omega (arith, lt, h)

lesser-cases : (o : Option ℕ) (k b : ℕ) → lesser o k ≡ Some b → (k ≡ b) ⊎ (o ≡ Some b)
lesser-cases None k b e = inl cc
lesser-cases (Some c) k b e = go (leb c k) e
  where
    go : (d : Bool) → cond d (Some c) (Some k) ≡ Some b → (k ≡ b) ⊎ (Some c ≡ Some b)
    go true f = inr f
    go false f = inl cc

past : (w : Window) (s : Service) (x : Task) (tasks : List Task) → place_number x.place < 2 ^ 64
    → counts_for s x ≡ true → w.first + WIDTH ≤ place_number x.place
    → Shows w s tasks → Shows (record w { beyond = lesser w.beyond (place_number x.place) }) s (tasks ++ x ∷ [])
past w s x tasks fits counts far h = record {
  wide = h.wide;
  marks = λ i lt. h.marks i lt ∙ sym (mark_away s tasks x (w.first + i) (λ both. omega (arith, both.1, far, lt)));
  reach = h.reach;
  beyond = λ k e le. elim (has_cases s tasks x k e) [
    | inl both ↦ subst (IsFrom (lesser w.beyond (place_number x.place))) both.1 (IsFrom-new w.beyond (place_number x.place))
    | inr old ↦ IsFrom-old w.beyond (place_number x.place) k (h.beyond k old le)
  ];
  behind = λ b e. elim (lesser-cases w.beyond (place_number x.place) b e) [
    | inl is ↦ (has_new s tasks x b counts is, subst (λ n. w.first + WIDTH ≤ n) is far)
    | inr old ↦ let there = h.behind b old in (has_keeps s tasks x b there.0, there.1)
  ];
  index = h.index;
  small = λ k e. elim (has_cases s tasks x k e) [
    | inl both ↦ subst (λ n. n < 2 ^ 64) both.1 fits
    | inr old ↦ h.small k old
  ];
}

pub shows_more : (w : Window) (s : Service) (x : Task) (tasks : List Task) → place_number x.place < 2 ^ 64
    → Shows w s tasks → Shows (noted s x (place_number x.place) w) s (tasks ++ x ∷ [])
shows_more w s x tasks fits h =
    go (counts_for s x) refl (ltb k w.first) refl (ltb (k - w.first) WIDTH) refl
  where
    k : ℕ
    k = place_number x.place

    go : (a : Bool) → counts_for s x ≡ a → (b : Bool) → ltb k w.first ≡ b → (c : Bool) → ltb (k - w.first) WIDTH ≡ c
        → Shows (cond (not a || b) w
        (cond c (noted_at s x (k - w.first) w) (record w { beyond = lesser w.beyond k }))) s (tasks ++ x ∷ [])
    go false e b f c g = unmoved w s x tasks fits (λ j le both. differs (sym e ∙ both.0)) h
      where
        differs : false ≡ true → ⊥
        differs d = absurd cc
    go true e true f c g =
        let lt : k < w.first = grind (arith, nat_tests) in
        unmoved w s x tasks fits (λ j le both. omega (arith, lt, le, both.1)) h
    go true e false f true g =
        let le : w.first ≤ k = grind (arith, nat_tests) in
        let lt : k - w.first < WIDTH = grind (arith, nat_tests) in
        within w s x tasks (k - w.first) fits e (omega (arith, le)) lt h
    go true e false f false g =
        let le : w.first ≤ k = grind (arith, nat_tests) in
        let ge : WIDTH ≤ k - w.first = grind (arith, nat_tests) in
        past w s x tasks fits e (omega (arith, le, ge)) h

pub stays_fresh : (w : Window) (s : Service) (x : Task) (k first : ℕ) → IsFresh w first → IsFresh (noted s x k w) first
stays_fresh w s x k first h = go (counts_for s x) (ltb k w.first) (ltb (k - w.first) WIDTH)
  where
    go : (a b c : Bool) → IsFresh (cond (not a || b) w
        (cond c (noted_at s x (k - w.first) w) (record w { beyond = lesser w.beyond k }))) first
    go false b c = h
    go true true c = h
    go true false true = h
    go true false false = h

pub shows_next : (w : Window) (s : Service) (tasks : List Task) (i : ℕ) (x : Task) → i < length tasks
    → x ≡ get_or tasks i x → Shows w s (take i tasks ++ x ∷ []) → Shows w s (take (i + 1) tasks)
shows_next w s tasks i x lt is h =
    subst (Shows w s) (sym (take_more tasks i x lt ∙ ap (λ y. take i tasks ++ y ∷ []) (sym is))) h

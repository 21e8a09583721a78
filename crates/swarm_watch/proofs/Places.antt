-- The watcher at a place among the others: it begins, is told, goes.
use Rattle.std.proofs.Common.{◌≡◌, ℕ, ◌<◌, ◌≤◌, suc, Bool, true, cond, List, [], ◌∷◌, ◌++◌, length, get_or, set, take, drop, Some, None, refl, sym, ap, ◌∙◌, subst, arith, append-nil, add-one, inl, inr}
use Rattle.std.specs.Prelude.{filter, ◌==◌}
use Rattle.std.specs.List.{position, remove}
use Rattle.std.specs.Option.{option_map}
use Rattle.std.proofs.Math.Seq.{drop-length}
use Rattle.std.proofs.lemmas.Bool.Decides.{nat_tests}
use Rattle.std.proofs.lemmas.List.{get_or_default, map-append, set_split, take-append-drop}
use Rattle.std.proofs.lemmas.List.Quantifiers.{position-Some}
use Rattle.swarm_objects.specs.Watches.{filter_admits}
use Rattle.swarm_objects.proofs.RowLemmas.{Has-from_row_at, drop_next, instead_is}
use Rattle.swarm_objects.proofs.RowChanges.{change_row-None, drop_row-None}
use Rattle.swarm_objects.specs.Rows.{Has, change_row, drop_row, row_at}
use Rattle.swarm_objects.specs.declared.watches.Event.{Event}
use Rattle.swarm_objects.specs.declared.watches.Filter.{Filter}
use Rattle.swarm_watch.proofs.Missing.{change_split, drop_split, no_place, none_cases, row_at-seen, seen_at}
use Rattle.swarm_watch.proofs.Moving.{distinct_join, distinct_split, waited_before, waited_more, within_join, within_split}
use Rattle.swarm_watch.specs.Calls.{new_watching, without_waiting}
use Rattle.swarm_watch.specs.Inside.Cursors.{AreDistinct, AreWaited, AreWithin, IsSwept, IsTidy, cursor_id, watching_at, watchings}
use Rattle.swarm_watch.specs.Watchings.{Watching, waiting_of, watching_id}
use Rattle.swarm_watch.specs.declared.cursors.Cursor.{Cursor}

-- it is one of the watchers, and those before and after it are other ones
pub record StandsAt (xs : List Cursor) (place id : ℕ) (x : Cursor) : Type 0 where
  pub inside : place < length xs
  pub among : xs ≡ take place xs ++ x ∷ drop (suc place) xs
  pub has_id : x.id ≡ id

pub stands_at : (xs : List Cursor) (place id : ℕ) (x : Cursor) → position (λ y. cursor_id y == id) xs ≡ Some place → x ≡ get_or xs place x →
    StandsAt xs place id x
stands_at xs place id x found is =
    let p : Cursor → Bool = λ y. cursor_id y == id in
    let h = position-Some p xs place x found in
    record {
      inside = h.0;
      among =
          sym (take-append-drop place xs)
          ∙ ap (λ ys. take place xs ++ ys) (drop_next xs place x h.0 is ∙ ap (λ n. x ∷ drop n xs) (add-one place));
      has_id = let same : (cursor_id x == id) ≡ true = ap p is ∙ h.1 in grind (arith, nat_tests);
    }

-- it was found in the same list
pub found_at : (xs seen : List Cursor) (id place : ℕ) (x : Cursor) → seen ≡ xs → position (λ y. cursor_id y == id) seen ≡ Some place →
    x ≡ get_or xs place x → StandsAt xs place id x
found_at xs seen id place x same found is =
    stands_at xs place id x (ap (λ ys. position (λ y. cursor_id y == id) ys) (sym same) ∙ found) is

stands_here : (xs : List Cursor) (place id : ℕ) (d : Cursor) → position (λ y. cursor_id y == id) xs ≡ Some place →
    StandsAt xs place id (get_or xs place d)
stands_here xs place id d found =
    stands_at xs place id (get_or xs place d) found
    (get_or_default xs place d (get_or xs place d) (position-Some (λ y. cursor_id y == id) xs place d found).0)

-- What the others keep.

others : (xs : List Cursor) (kept : List Event) (place id : ℕ) (x : Cursor) → IsTidy xs kept → StandsAt xs place id x →
    AreDistinct (take place xs ++ drop (suc place) xs) × (row_at cursor_id id (take place xs) ≡ None)
    × (row_at cursor_id id (drop (suc place) xs) ≡ None)
others xs kept place id x is at =
    let d = distinct_split (take place xs) x (drop (suc place) xs) (subst AreDistinct at.among is.distinct) in
    (d.0, subst (λ k. row_at cursor_id k (take place xs) ≡ None) at.has_id d.1, subst (λ k. row_at cursor_id k (drop (suc place) xs) ≡ None) at.has_id d.2)

-- it goes
pub swept_without : (xs : List Cursor) (kept : List Event) (place id : ℕ) (x : Cursor) → IsTidy xs kept → StandsAt xs place id x →
    IsSwept (remove xs place) kept x.from
swept_without xs kept place id x is at = record {
  distinct = (others xs kept place id x is at).0;
  within = (within_split (length kept) (take place xs) x (drop (suc place) xs) (subst (AreWithin (length kept)) at.among is.within)).0;
  waited =
      waited_before (take place xs) x (drop (suc place) xs) 0 kept x.from (omega arith)
      (subst (λ ys. AreWaited ys 0 kept) at.among is.waited);
}

watchings_split : (kept : List Event) (a : List Cursor) (x : Cursor) (b : List Cursor) →
    watchings kept (a ++ x ∷ b) ≡ watchings kept a ++ watching_at kept x ∷ watchings kept b
watchings_split kept a x b = map-append (watching_at kept) a (x ∷ b)

none_seen : (kept : List Event) (id : ℕ) (xs : List Cursor) → row_at cursor_id id xs ≡ None → row_at watching_id id (watchings kept xs) ≡ None
none_seen kept id xs e = row_at-seen cursor_id watching_id (watching_at kept) id xs (λ x. refl) e

pub gone_is : (xs : List Cursor) (kept : List Event) (place id : ℕ) (x : Cursor) → IsTidy xs kept → StandsAt xs place id x →
    watchings kept (remove xs place) ≡ drop_row watching_id id (watchings kept xs)
gone_is xs kept place id x is at =
    let a = take place xs in
    let b = drop (suc place) xs in
    let d = others xs kept place id x is at in
    map-append (watching_at kept) a b
    ∙ sym (drop_split watching_id id (watchings kept a) (watching_at kept x) (watchings kept b) (none_seen kept id a d.1) (none_seen kept id b d.2) at.has_id)
    ∙ ap (drop_row watching_id id) (sym (ap (watchings kept) at.among ∙ watchings_split kept a x b))

-- it was told all
abbrev pub at_end : List Event → Cursor → Cursor
at_end kept x = record x { from = length kept }

pub swept_at_end : (xs : List Cursor) (kept : List Event) (place id : ℕ) (x : Cursor) → IsTidy xs kept → StandsAt xs place id x →
    IsSwept (set xs place (at_end kept x)) kept x.from
swept_at_end xs kept place id x is at =
    let a = take place xs in
    let b = drop (suc place) xs in
    let d = others xs kept place id x is at in
    let s = swept_without xs kept place id x is at in
    subst (λ ys. IsSwept ys kept x.from) (sym (set_split xs place (at_end kept x) at.inside))
    (record {
      distinct =
          distinct_join a (at_end kept x) b d.0 (subst (λ k. row_at cursor_id k a ≡ None) (sym at.has_id) d.1)
          (subst (λ k. row_at cursor_id k b ≡ None) (sym at.has_id) d.2);
      within = within_join (length kept) a (at_end kept x) b s.within (omega arith);
      waited = waited_more a (at_end kept x) b 0 (take x.from kept) s.waited;
    })

nothing_waits : (kept : List Event) (x : Cursor) → watching_at kept (at_end kept x) ≡ without_waiting (watching_at kept x)
nothing_waits kept x =
    let seen : List Event → Watching = λ es. record { id = x.id; filter = x.filter; waiting = waiting_of es } in
    ap (λ es. seen (filter (filter_admits x.filter) es)) (drop-length kept)

pub told_is : (xs : List Cursor) (kept : List Event) (place id : ℕ) (x : Cursor) → IsTidy xs kept → StandsAt xs place id x →
    watchings kept (set xs place (at_end kept x)) ≡ change_row watching_id id without_waiting (watchings kept xs)
told_is xs kept place id x is at =
    let a = take place xs in
    let b = drop (suc place) xs in
    let d = others xs kept place id x is at in
    ap (watchings kept) (set_split xs place (at_end kept x) at.inside)
    ∙ watchings_split kept a (at_end kept x) b
    ∙ ap (λ w. watchings kept a ++ w ∷ watchings kept b) (nothing_waits kept x)
    ∙ sym (change_split watching_id id without_waiting (watchings kept a) (watching_at kept x) (watchings kept b) (none_seen kept id a d.1) (none_seen kept id b d.2)
    at.has_id)
    ∙ ap (change_row watching_id id without_waiting) (sym (ap (watchings kept) at.among ∙ watchings_split kept a x b))

pub place_within : (xs : List Cursor) (kept : List Event) (place id : ℕ) (x : Cursor) → IsTidy xs kept → StandsAt xs place id x → x.from ≤ length kept
place_within xs kept place id x is at =
    (within_split (length kept) (take place xs) x (drop (suc place) xs) (subst (AreWithin (length kept)) at.among is.within)).1

pub tell_within : (xs : List Cursor) (kept : List Event) (place id n : ℕ) (d : Cursor) → IsTidy xs kept →
    position (λ y. cursor_id y == id) xs ≡ Some place → length kept ≡ n → (get_or xs place d).from ≤ n
tell_within xs kept place id n d is found count =
    let le = place_within xs kept place id (get_or xs place d) is (stands_here xs place id d found) in omega arith

pub tell_swept : (xs : List Cursor) (kept : List Event) (place id n : ℕ) (d : Cursor) → IsTidy xs kept →
    position (λ y. cursor_id y == id) xs ≡ Some place → n ≡ length kept →
    IsSwept (set xs place (record (get_or xs place d) { from = n })) kept (get_or xs place d).from
tell_swept xs kept place id n d is found end =
    subst (λ m. IsSwept (set xs place (record (get_or xs place d) { from = m })) kept (get_or xs place d).from) (sym end)
    (swept_at_end xs kept place id (get_or xs place d) is (stands_here xs place id d found))

pub tell_told : (xs : List Cursor) (kept : List Event) (place id n : ℕ) (d : Cursor) → IsTidy xs kept →
    position (λ y. cursor_id y == id) xs ≡ Some place → n ≡ length kept →
    watchings kept (set xs place (record (get_or xs place d) { from = n })) ≡ change_row watching_id id without_waiting (watchings kept xs)
tell_told xs kept place id n d is found end =
    ap (λ m. watchings kept (set xs place (record (get_or xs place d) { from = m }))) end
    ∙ told_is xs kept place id (get_or xs place d) is (stands_here xs place id d found)

-- nobody has the id
pub nobody_told : (xs : List Cursor) (kept : List Event) (id : ℕ) → position (λ y. cursor_id y == id) xs ≡ None →
    watchings kept xs ≡ change_row watching_id id without_waiting (watchings kept xs)
nobody_told xs kept id none =
    sym (change_row-None watching_id id without_waiting (watchings kept xs) (none_seen kept id xs (no_place cursor_id id xs none)))

pub nobody_gone : (xs : List Cursor) (kept : List Event) (id : ℕ) → position (λ y. cursor_id y == id) xs ≡ None →
    watchings kept xs ≡ drop_row watching_id id (watchings kept xs)
nobody_gone xs kept id none =
    sym (drop_row-None watching_id id (watchings kept xs) (none_seen kept id xs (no_place cursor_id id xs none)))

-- A watcher begins.

-- who is seen so is there
seen_none : (kept : List Event) (id : ℕ) (xs : List Cursor) → row_at watching_id id (watchings kept xs) ≡ None → row_at cursor_id id xs ≡ None
seen_none kept id [] e = refl
seen_none kept id (x ∷ xs) e =
    let h = none_cases (x.id == id) (watching_at kept x) (row_at watching_id id (watchings kept xs)) e in
    ap (λ b. cond b (Some x) (row_at cursor_id id xs)) h.0 ∙ seen_none kept id xs h.1

pub tidy_begun : (xs : List Cursor) (kept : List Event) (x : Cursor) → IsTidy xs kept → row_at watching_id x.id (watchings kept xs) ≡ None →
    x.from ≤ length kept → IsTidy (xs ++ x ∷ []) kept
tidy_begun xs kept x is free le =
    let e = append-nil xs in
    record {
      distinct = distinct_join xs x [] (subst AreDistinct (sym e) is.distinct) (seen_none kept x.id xs free) refl;
      within = within_join (length kept) xs x [] (subst (AreWithin (length kept)) (sym e) is.within) le;
      waited = waited_more xs x [] 0 kept (subst (λ ys. AreWaited ys 0 kept) (sym e) is.waited);
    }

pub begun_is : (xs : List Cursor) (kept : List Event) (id : ℕ) (f : Filter) →
    watchings kept (xs ++ record { id = id; filter = f; from = length kept } ∷ []) ≡ watchings kept xs ++ new_watching id f ∷ []
begun_is xs kept id f =
    map-append (watching_at kept) xs (record { id = id; filter = f; from = length kept } ∷ [])
    ∙ ap (λ es. watchings kept xs ++ record { id = id; filter = f; waiting = waiting_of (filter (filter_admits f) es) } ∷ []) (drop-length kept)

-- Who has the id is found among those who are seen.

pub found_is : (xs : List Cursor) (kept : List Event) (id : ℕ) → row_at watching_id id (watchings kept xs) ≡ option_map (watching_at kept) (row_at cursor_id id xs)
found_is xs kept id = seen_at cursor_id watching_id (watching_at kept) id xs (λ x. refl)

all_within : (n : ℕ) (xs : List Cursor) (x : Cursor) → AreWithin n xs → Has xs x → x.from ≤ n
all_within n [] x within h = absurd h
all_within n (y ∷ xs) x within (inl same) = subst (λ z. z.from ≤ n) same within.0
all_within n (y ∷ xs) x within (inr h) = all_within n xs x within.1 h

pub found_within : (xs : List Cursor) (kept : List Event) (id : ℕ) (x : Cursor) → IsTidy xs kept → row_at cursor_id id xs ≡ Some x → x.from ≤ length kept
found_within xs kept id x is found = all_within (length kept) xs x is.within (Has-from_row_at cursor_id id xs x found).0

-- a list that was lent has as many items after it
pub refilled : {X : Type 0} (n : ℕ) (old new : List X) → length new ≡ length old → length old ≡ n → take n (new ++ drop (length new) old) ≡ new
refilled n old new same all = ap (λ k. take k (new ++ drop (length new) old)) (sym all) ∙ instead_is old new same

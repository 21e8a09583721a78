-- Places whose tasks are noted anew.
use Rattle.std.proofs.Common.{ap, arith, Bool, eqb, false, get_or, List, max, not, refl, set, subst, sym, true, ℕ, ◌+◌, ◌++◌, ◌<◌, ◌≡◌, ◌≢◌, ◌∙◌, ◌∷◌, []}
use Rattle.std.proofs.lemmas.Bool.Decides.{nat_tests}
use Rattle.std.proofs.lemmas.List.{append_assoc, append-nil, get_or-set_other, get_or-set_same, length-set}
use Rattle.std.specs.Prelude.{fold, nat_le, ◌&&◌}
use Rattle.role_words.specs.Marks.{has_number, tasks_at}
use Rattle.swarm_objects.specs.World.{Tables}
use Rattle.swarm_objects.specs.declared.services.Service.{Service}
use Rattle.swarm_objects.specs.declared.tasks.Task.{Task}
use Rattle.swarm_update.specs.KnownSurvey.{ShowsOthers, with_mark}
use Rattle.swarm_update.specs.Marks.{mark_of, mark_with, ShowsPlaces}
use Rattle.swarm_update.specs.StalePlaces.{is_stale, is_stale_from}
use Rattle.swarm_update.specs.declared.marks.Mark.{Mark}
use Rattle.swarm_update.specs.declared.marks.Places.{Places}
use Rattle.swarm_update.specs.declared.marks.TheConstants.{UNMARKED, WIDTH}
use Rattle.swarm_update.specs.declared.stale_places.StalePlaces.{StalePlaces}
use Rattle.swarm_update.proofs.Marking.{mark_more}

-- the mark with a task more
abbrev pub marked : Tables → Service → Mark → Task → Mark
marked t s m x = mark_with t s x m

mark_fold : (t : Tables) (s : Service) (done left : List Task)
    → fold (marked t s) (mark_of t s done) left ≡ mark_of t s (done ++ left)
mark_fold t s done [] = ap (mark_of t s) (sym (append-nil done))
mark_fold t s done (x ∷ left) =
    ap (λ m. fold (marked t s) m left) (sym (mark_more t s done x))
    ∙ mark_fold t s (done ++ x ∷ []) left
    ∙ ap (mark_of t s) (append_assoc done (x ∷ []) left)

-- all tasks of a place, one after the other
pub mark_all : (t : Tables) (s : Service) (tasks : List Task)
    → fold (marked t s) UNMARKED tasks ≡ mark_of t s tasks
mark_all t s tasks = mark_fold t s [] tasks

-- One stale place less.

renoted : (v : Places) (t : Tables) (s : Service) (j : ℕ) (stale : ℕ → Bool) → j < WIDTH → ShowsOthers v t s stale
    → ShowsOthers (with_mark j (mark_of t s (tasks_at s t.tasks j)) v) t s (λ k. not (eqb k j) && stale k)
renoted v t s j stale lt h = record {
  wide = length-set v.marks j m ∙ h.wide;
  marks = λ k below out. marks k below (eqb k j) refl out;
  reach = λ k e below out. reach k e below (eqb k j) refl out;
  far = h.far;
}
  where
    m : Mark
    m = mark_of t s (tasks_at s t.tasks j)

    marks : (k : ℕ) → k < WIDTH → (b : Bool) → eqb k j ≡ b → (not b && stale k) ≡ false
        → get_or (set v.marks j m) k UNMARKED ≡ mark_of t s (tasks_at s t.tasks k)
    marks k below true e out =
        let same : j ≡ k = grind (arith, nat_tests) in
        subst (λ n. get_or (set v.marks j m) n UNMARKED ≡ mark_of t s (tasks_at s t.tasks n)) same
        (get_or-set_same v.marks j m UNMARKED (omega (arith, lt, h.wide)))
    marks k below false e out =
        let differ : k ≢ j = grind (arith, nat_tests) in
        get_or-set_other v.marks j k m UNMARKED differ ∙ h.marks k below out

    reach : (k : ℕ) → has_number s t.tasks k ≡ true → k < WIDTH → (b : Bool) → eqb k j ≡ b → (not b && stale k) ≡ false
        → k < max v.reach (j + 1)
    reach k has below true e out =
        let same : j ≡ k = grind (arith, nat_tests) in
        grind (arith, same)
    reach k has below false e out =
        let lower : k < v.reach = h.reach k has below out in
        grind (arith, lower)

-- where no more are stale
fewer : (v : Places) (t : Tables) (s : Service) (p q : ℕ → Bool) → ((k : ℕ) → k < WIDTH → q k ≡ false → p k ≡ false)
    → ShowsOthers v t s p → ShowsOthers v t s q
fewer v t s p q less h = record {
  wide = h.wide;
  marks = λ k below out. h.marks k below (less k below out);
  reach = λ k e below out. h.reach k e below (less k below out);
  far = h.far;
}

-- Stale places from one number on.

from_later : (first next : ℕ) (stale : StalePlaces) (k : ℕ) → is_stale_from next stale k ≡ false
    → (k < next → is_stale_from first stale k ≡ false) → is_stale_from first stale k ≡ false
from_later first next stale k out below = go (nat_le next k) refl out
  where
    stands : (b : Bool) → is_stale stale k ≡ false → (b && is_stale stale k) ≡ false
    stands true f = f
    stands false f = refl

    go : (b : Bool) → nat_le next k ≡ b → (b && is_stale stale k) ≡ false → is_stale_from first stale k ≡ false
    go true e f = stands (nat_le first k) f
    go false e f = below (grind (arith, nat_tests, e))

not_from : (first : ℕ) (stale : StalePlaces) (k : ℕ) → k < first → is_stale_from first stale k ≡ false
not_from first stale k lt =
    let below : nat_le first k ≡ false = grind (arith, nat_tests, lt) in
    ap (λ b. b && is_stale stale k) below

not_stale : (first : ℕ) (stale : StalePlaces) (k : ℕ) → is_stale stale k ≡ false → is_stale_from first stale k ≡ false
not_stale first stale k off = go (nat_le first k)
  where
    go : (b : Bool) → (b && is_stale stale k) ≡ false
    go true = off
    go false = refl

-- where a stale place was noted anew, or the next number is of none
pub number_noted : (v w : Places) (t : Tables) (s : Service) (stale : StalePlaces) (n : ℕ) → n < WIDTH
    → w ≡ with_mark n (mark_of t s (tasks_at s t.tasks n)) v → ShowsOthers v t s (is_stale_from n stale)
    → ShowsOthers w t s (is_stale_from (n + 1) stale)
number_noted v w t s stale n lt is h =
    subst (λ z. ShowsOthers z t s (is_stale_from (n + 1) stale)) (sym is)
    (fewer (with_mark n (mark_of t s (tasks_at s t.tasks n)) v) t s
    (λ k. not (eqb k n) && is_stale_from n stale k) (is_stale_from (n + 1) stale)
    (λ k below out. go k out (eqb k n) refl)
    (renoted v t s n (is_stale_from n stale) lt h))
  where
    go : (k : ℕ) → is_stale_from (n + 1) stale k ≡ false → (b : Bool) → eqb k n ≡ b
        → (not b && is_stale_from n stale k) ≡ false
    go k out true e = refl
    go k out false e =
        from_later n (n + 1) stale k out (λ lower. not_from n stale k (grind (arith, nat_tests, lower, e)))

pub number_passed : (v : Places) (t : Tables) (s : Service) (stale : StalePlaces) (n : ℕ) → is_stale stale n ≡ false
    → ShowsOthers v t s (is_stale_from n stale) → ShowsOthers v t s (is_stale_from (n + 1) stale)
number_passed v t s stale n off =
    fewer v t s (is_stale_from n stale) (is_stale_from (n + 1) stale)
    (λ k below out. from_later n (n + 1) stale k out (λ lower. go k lower (eqb k n) refl))
  where
    go : (k : ℕ) → k < n + 1 → (b : Bool) → eqb k n ≡ b → is_stale_from n stale k ≡ false
    go k lower true e =
        let same : n ≡ k = grind (arith, nat_tests, e) in
        not_stale n stale k (subst (λ m. is_stale stale m ≡ false) same off)
    go k lower false e = not_from n stale k (grind (arith, nat_tests, lower, e))

pub shows_others : (v : Places) (t : Tables) (s : Service) (stale : ℕ → Bool) → ShowsPlaces v t s t.tasks
    → ShowsOthers v t s stale
shows_others v t s stale h = record {
  wide = h.wide;
  marks = λ k below out. h.marks k below;
  reach = λ k e below out. h.reach k e below;
  far = h.far;
}

-- What the tests of rows tell of what is seen of them.
use Rattle.std.proofs.Common.{Bool, None, Some, ap, cond, false, refl, sym, true, ℕ, arith, ◌∙◌, ◌≡◌}
use Rattle.std.proofs.lemmas.Bool.Decides.{nat_tests}
use Rattle.std.specs.Prelude.{is_some, not, ◌&&◌, ◌==◌, ◌||◌}
use Rattle.swarm_objects.proofs.SameLemmas.{Decides-same_place}
use Rattle.swarm_objects.proofs.Tests.{both_are, same_bool_is}
use Rattle.swarm_objects.specs.Loops.Reaper.{is_past}
use Rattle.swarm_objects.specs.Rows.{is_some_and, row_at, service_id}
use Rattle.swarm_objects.specs.Same.{same_bool, same_place}
use Rattle.swarm_objects.specs.Services.Runs.{counts_as_failure, has_open_run}
use Rattle.swarm_objects.specs.Services.Words.{is_job}
use Rattle.swarm_objects.specs.Tasks.Words.{is_below_running, is_kept, is_live, is_running}
use Rattle.swarm_objects.specs.World.{Tables}
use Rattle.swarm_objects.specs.declared.services.Service.{Service}
use Rattle.swarm_objects.specs.declared.tasks.Task.{Task}
use Rattle.swarm_spans.specs.Services.Standings.{bounds, bounds_alike, course, goes_alike, is_updated, progress, remains, remains_alike, standing, stands_alike}

numbers-are : (a b : ℕ) → (a == b) ≡ true → a ≡ b
numbers-are a b e = grind (arith, nat_tests, e)

pub stand_so : (x y : Task) → stands_alike x y ≡ true → standing x ≡ standing y
stand_so x y e =
    let closed =
    both_are (x.service == y.service && same_place x.place y.place && x.iteration == y.iteration
    && same_bool (is_live x) (is_live y) && same_bool (is_kept x) (is_kept y))
    (same_bool (is_some x.closed) (is_some y.closed)) e in
    let kept =
    both_are (x.service == y.service && same_place x.place y.place && x.iteration == y.iteration
    && same_bool (is_live x) (is_live y)) (same_bool (is_kept x) (is_kept y)) closed.0 in
    let live =
    both_are (x.service == y.service && same_place x.place y.place && x.iteration == y.iteration)
    (same_bool (is_live x) (is_live y)) kept.0 in
    let iteration =
    both_are (x.service == y.service && same_place x.place y.place) (x.iteration == y.iteration) live.0 in
    let place = both_are (x.service == y.service) (same_place x.place y.place) iteration.0 in
    let s = numbers-are x.service y.service place.0 in
    let p = (Decides-same_place x.place y.place).0 place.1 in
    let n = numbers-are x.iteration y.iteration iteration.1 in
    let l = same_bool_is (is_live x) (is_live y) live.1 in
    let k = same_bool_is (is_kept x) (is_kept y) kept.1 in
    let c = same_bool_is (is_some x.closed) (is_some y.closed) closed.1 in
    λ i. record { service = s i; place = p i; iteration = n i; live = l i; kept = k i; closed = c i }

updated-as : (t : Tables) (x y : Task) → stands_alike x y ≡ true → is_updated t x ≡ is_updated t y
updated-as t x y stand = let s = stand_so x y stand in
    (λ i. is_some_and has_open_run (row_at service_id (s i).service t.services))

no-course : (t : Tables) (x : Task) → is_updated t x ≡ false → cond (is_updated t x) (Some (course x)) None ≡ None
no-course t x e = ap (λ b. cond b (Some (course x)) None) e

pub go_so : (t : Tables) (x y : Task) → stands_alike x y ≡ true → is_updated t y ≡ false → x.template ≡ y.template
    → progress t x ≡ progress t y
go_so t x y stand still template =
    let s = stand_so x y stand in
    let none = no-course t x (updated-as t x y stand ∙ still) ∙ sym (no-course t y still) in
    λ i. record { standing = s i; template = template i; course = none i }

-- the time of a state that both are in, or neither
time-so : (a b c : Bool) (m n : ℕ) → a ≡ b → (m == n || not c) ≡ true → (b ≡ true → c ≡ true)
    → cond a (Some m) None ≡ cond b (Some n) None
time-so true true true m n same e in-state = let k : m ≡ n = grind (arith, nat_tests, e) in ap Some k
time-so true true false m n same e in-state = let k = in-state refl in absurd cc
time-so false false c m n same e in-state = refl
time-so true false c m n same e in-state = absurd cc
time-so false true c m n same e in-state = absurd cc

or-left : (a b : Bool) → a ≡ true → (a || b) ≡ true
or-left true b e = refl
or-left false b e = absurd cc

or-right : (a b : Bool) → b ≡ true → (a || b) ≡ true
or-right true b e = refl
or-right false b e = e

course-so : (x y : Task) → goes_alike x y ≡ true → course x ≡ course y
course-so x y e =
    let since =
    both_are (x.born == y.born && x.created == y.created && same_bool (is_below_running x) (is_below_running y)
    && same_bool (is_running x) (is_running y) && same_bool (counts_as_failure x.state) (counts_as_failure y.state))
    (x.since == y.since || not (is_running y || counts_as_failure y.state)) e in
    let failed =
    both_are (x.born == y.born && x.created == y.created && same_bool (is_below_running x) (is_below_running y)
    && same_bool (is_running x) (is_running y)) (same_bool (counts_as_failure x.state) (counts_as_failure y.state))
    since.0 in
    let runs =
    both_are (x.born == y.born && x.created == y.created && same_bool (is_below_running x) (is_below_running y))
    (same_bool (is_running x) (is_running y)) failed.0 in
    let below =
    both_are (x.born == y.born && x.created == y.created) (same_bool (is_below_running x) (is_below_running y)) runs.0
    in
    let created = both_are (x.born == y.born) (x.created == y.created) below.0 in
    let b = numbers-are x.born y.born created.0 in
    let c = numbers-are x.created y.created created.1 in
    let l = same_bool_is (is_below_running x) (is_below_running y) below.1 in
    let r = same_bool_is (is_running x) (is_running y) runs.1 in
    let f = same_bool_is (counts_as_failure x.state) (counts_as_failure y.state) failed.1 in
    let known = is_running y || counts_as_failure y.state in
    let m =
    time-so (is_running x) (is_running y) known x.since y.since r since.1
    (or-left (is_running y) (counts_as_failure y.state)) in
    let n =
    time-so (counts_as_failure x.state) (counts_as_failure y.state) known x.since y.since f since.1
    (or-right (is_running y) (counts_as_failure y.state)) in
    λ i. record { born = b i; created = c i; below = l i; runs = m i; failed = n i }

pub course_so : (t : Tables) (x y : Task) → stands_alike x y ≡ true → goes_alike x y ≡ true → x.template ≡ y.template
    → progress t x ≡ progress t y
course_so t x y stand alike template =
    let s = stand_so x y stand in
    let updated = updated-as t x y stand in
    let one = course-so x y alike in
    λ i. record { standing = s i; template = template i; course = cond (updated i) (Some (one i)) None }

pub ruleset go_steps = (go_so, course_so)

pub remain_so : (x y : Task) → x.id ≡ y.id → remains_alike x y ≡ true → remains x ≡ remains y
remain_so x y id e =
    let past =
    both_are (x.service == y.service && same_place x.place y.place && x.iteration == y.iteration)
    (same_bool (is_past x) (is_past y)) e in
    let iteration =
    both_are (x.service == y.service && same_place x.place y.place) (x.iteration == y.iteration) past.0 in
    let place = both_are (x.service == y.service) (same_place x.place y.place) iteration.0 in
    let s = numbers-are x.service y.service place.0 in
    let p = (Decides-same_place x.place y.place).0 place.1 in
    let n = numbers-are x.iteration y.iteration iteration.1 in
    let r = same_bool_is (is_past x) (is_past y) past.1 in
    λ i. record { id = id i; service = s i; place = p i; iteration = n i; past = r i }

pub bound_so : (r s : Service) → r.id ≡ s.id → bounds_alike r s ≡ true → bounds r ≡ bounds s
bound_so r s id e =
    let runs =
    both_are (same_bool (is_job r.spec.mode) (is_job s.spec.mode) && r.iteration == s.iteration)
    (same_bool (has_open_run r) (has_open_run s)) e in
    let iteration = both_are (same_bool (is_job r.spec.mode) (is_job s.spec.mode)) (r.iteration == s.iteration) runs.0 in
    let j = same_bool_is (is_job r.spec.mode) (is_job s.spec.mode) iteration.0 in
    let n = numbers-are r.iteration s.iteration iteration.1 in
    let u = same_bool_is (has_open_run r) (has_open_run s) runs.1 in
    λ i. record { id = id i; job = j i; iteration = n i; updated = u i }

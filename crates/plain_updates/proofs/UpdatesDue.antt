-- A duty on an update is due exactly where a service wants it.
use Rattle.std.proofs.Common.{◌≡◌, ℕ, Bool, true, false, cond, eqb, inl, inr, List, [], ◌∷◌, Option, Some, None, refl, sym, ap, ◌∙◌, subst, arith}
use Rattle.std.specs.Prelude.{◌||◌, ◌&&◌, not}
use Rattle.std.specs.List.{list_any}
use Rattle.std.proofs.lemmas.Bool.Decides.{nat_tests}
use Rattle.swarm_plain.proofs.AnyOf.{any_more}
use Rattle.swarm_plain.proofs.Numbers.{held_number}
use Rattle.plain_updates.specs.Inside.Updating.{open_run, wants_fail, wants_finish, wants_replace, wants_start, wants_swap, while_open}
use Rattle.swarm_model.proofs.Base.FromLists.{IsDuty-due}
use Rattle.swarm_model.proofs.Base.IsDuty.{OfRow}
use Rattle.swarm_model.proofs.Base.ToLists.{due-IsDuty}
use Rattle.swarm_objects.proofs.Tests.{both, first_so, or_right, same_test, second_so}
use Rattle.swarm_objects.specs.Duties.{is_due}
use Rattle.swarm_objects.specs.Loops.Update.{is_to_finish, is_to_replace, is_to_start, is_to_swap, lets_replace}
use Rattle.swarm_objects.specs.Rows.{Has, is_some_and, service_id}
use Rattle.swarm_objects.specs.Services.Runs.{fails, is_of_version, is_under_way}
use Rattle.swarm_objects.specs.Services.Words.{is_dirty, is_job, is_live_dirty}
use Rattle.swarm_objects.specs.Tasks.Places.{closes, closes_dirty, has_clean, has_live, is_dirty_place, is_held_place, newest, place_numbers, place_tasks}
use Rattle.swarm_objects.specs.Tasks.Words.{is_live}
use Rattle.swarm_objects.specs.World.{Tables, World}
use Rattle.swarm_objects.specs.declared.duties.Duty.{Duty}
use Rattle.swarm_objects.specs.declared.duties.Duty.TheVariants as duty
use Rattle.swarm_objects.specs.declared.services.Service.{Service}
use Rattle.swarm_objects.specs.declared.services.UpdateRun.{UpdateRun}
use Rattle.swarm_objects.specs.declared.tasks.Task.{Task}

-- Tests.

not_true : (a : Bool) → not a ≡ true → a ≡ false
not_true true e = absurd cc
not_true false e = refl

equal_number : (k j : ℕ) → eqb k j ≡ true → k ≡ j
equal_number k j e = grind (arith, nat_tests)

number_equal : (k j : ℕ) → k ≡ j → eqb k j ≡ true
number_equal k j e = grind (arith, nat_tests)

-- Rows.

-- a row that is this one and passes
any_row : (rows : List Service) (id : ℕ) (test : Service → Bool) → list_any (λ s. eqb s.id id && test s) rows ≡ true →
    OfRow rows service_id id (λ s. test s ≡ true)
any_row [] id test e = absurd cc
any_row (s ∷ rows) id test e = go (eqb s.id id && test s) refl (any_row rows id test) e
  where
    go : (b : Bool) → (eqb s.id id && test s) ≡ b
        → (list_any (λ v. eqb v.id id && test v) rows ≡ true → OfRow rows service_id id (λ v. test v ≡ true))
        → (b || list_any (λ v. eqb v.id id && test v) rows) ≡ true → OfRow (s ∷ rows) service_id id (λ v. test v ≡ true)
    go true is rest h = record {
      row = s;
      there = inl refl;
      id_is = equal_number s.id id (first_so (eqb s.id id) (test s) is);
      fact = second_so (eqb s.id id) (test s) is;
    }
    go false is rest h = let of = rest h in record {
      row = of.row;
      there = inr of.there;
      id_is = of.id_is;
      fact =
          of.fact;
    }

row_any : (rows : List Service) (id : ℕ) (test : Service → Bool) (s : Service) → Has rows s → s.id ≡ id →
    test s ≡ true →
    list_any (λ v. eqb v.id id && test v) rows ≡ true
row_any [] id test s there is passes = absurd there
row_any (v ∷ rows) id test s (inl same) is passes =
    let here : (eqb v.id id && test v) ≡ true =
    subst (λ x. (eqb x.id id && test x) ≡ true) (sym same) (both (eqb s.id id) (test s) (number_equal s.id id is)
    passes) in
    ap (λ b. b || list_any (λ x. eqb x.id id && test x) rows) here
row_any (v ∷ rows) id test s (inr there) is passes = go (eqb v.id id && test v) (row_any rows id test s there is passes)
  where
    go : (b : Bool) → list_any (λ x. eqb x.id id && test x) rows ≡ true →
        (b || list_any (λ x. eqb x.id id && test x) rows) ≡ true
    go true e = refl
    go false e = e

any_number : (ks : List ℕ) (k : ℕ) → list_any (eqb k) ks ≡ true → Has ks k
any_number [] k e = absurd cc
any_number (j ∷ ks) k e = go (eqb k j) refl (any_number ks k) e
  where
    go : (b : Bool) → eqb k j ≡ b → (list_any (eqb k) ks ≡ true → Has ks k) → (b || list_any (eqb k) ks) ≡ true →
        Has (j ∷ ks) k
    go true is rest h = inl (sym (equal_number k j is))
    go false is rest h = inr (rest h)

-- Runs.

abbrev Open : Service → (UpdateRun → Bool) → Type 0
Open s test =
    (is_job s.spec.mode ≡ false)
    × ((run : UpdateRun) × (s.run ≡ Some run) × (is_under_way run ≡ true) × (test run ≡ true))

to_open : (s : Service) (test : UpdateRun → Bool) → is_some_and test (open_run s) ≡ true → Open s test
to_open s test e = go (is_job s.spec.mode) s.run e
  where
    under_way : (run : UpdateRun) (b : Bool) → is_under_way run ≡ b → is_some_and test (cond b (Some run) None) ≡ true →
        (r : UpdateRun) × (Some run ≡ Some r) × (is_under_way r ≡ true) × (test r ≡ true)
    under_way run true is h = (run, refl, is, h)
    under_way run false is h = absurd cc

    go : (b : Bool) (o : Option UpdateRun) → is_some_and test (cond b None (while_open o)) ≡ true →
        (b ≡ false) × ((run : UpdateRun) × (o ≡ Some run) × (is_under_way run ≡ true) × (test run ≡ true))
    go true o h = absurd cc
    go false None h = absurd cc
    go false (Some run) h = (refl, under_way run (is_under_way run) refl h)

from_open : (s : Service) (test : UpdateRun → Bool) (run : UpdateRun) → is_job s.spec.mode ≡ false → s.run ≡ Some run →
    is_under_way run ≡ true → test run ≡ true → is_some_and test (open_run s) ≡ true
from_open s test run no_job is open' passes = go (is_job s.spec.mode) s.run no_job is
  where
    here : is_some_and test (while_open (Some run)) ≡ true
    here = ap (λ b. is_some_and test (cond b (Some run) None)) open' ∙ passes

    go : (b : Bool) (o : Option UpdateRun) → b ≡ false → o ≡ Some run →
        is_some_and test (cond b None (while_open o)) ≡ true
    go true o e f = absurd cc
    go false o e f = ap (λ q. is_some_and test (while_open q)) f ∙ here

-- Places that are to change have a number.

live_held : (t : Tables) (s : Service) (k : ℕ) → list_any (is_live_dirty s) (place_tasks t s k) ≡ true →
    is_held_place t s k ≡ true
live_held t s k e =
    ap (λ b. b || is_some_and closes (newest (place_tasks t s k)))
    (any_more (is_live_dirty s) is_live (place_tasks t s k) (λ x h. first_so (is_live x) (is_dirty s x) h) e)

closing : (s : Service) (o : Option Task) → is_some_and (closes_dirty s) o ≡ true → is_some_and closes o ≡ true
closing s None e = absurd cc
closing s (Some x) e = first_so (closes x) (is_dirty s x) e

dirty_held : (t : Tables) (s : Service) (k : ℕ) → is_dirty_place t s k ≡ true → is_held_place t s k ≡ true
dirty_held t s k e = go (list_any (is_live_dirty s) (place_tasks t s k)) refl e
  where
    last : Bool
    last = is_some_and (closes_dirty s) (newest (place_tasks t s k))

    go : (b : Bool) → list_any (is_live_dirty s) (place_tasks t s k) ≡ b →
        (b || (not (has_live t s k) && last)) ≡ true → is_held_place t s k ≡ true
    go true is h = live_held t s k is
    go false is h =
        or_right (list_any is_live (place_tasks t s k)) (is_some_and closes (newest (place_tasks t s k)))
        (closing s (newest (place_tasks t s k)) (second_so (not (has_live t s k)) last h))

numbered : (t : Tables) (s : Service) (k : ℕ) → is_held_place t s k ≡ true → Has (place_numbers t s) k
numbered t s k e = any_number (place_numbers t s) k (held_number t s k e)

swap_numbered : (t : Tables) (s : Service) (k : ℕ) → is_to_swap t s k ≡ true → Has (place_numbers t s) k
swap_numbered t s k e = numbered t s k (live_held t s k (second_so _ (list_any (is_live_dirty s) (place_tasks t s
    k)) e))

replace_numbered : (t : Tables) (s : Service) (k : ℕ) → is_to_replace t s k ≡ true → Has (place_numbers t s) k
replace_numbered t s k e = numbered t s k (dirty_held t s k (first_so (is_dirty_place t s k) (not (has_clean t s
    k)) e))

-- The duties.

abbrev of_id : ℕ → (Service → Bool) → Service → Bool
of_id id test s = eqb s.id id && test s

pub start_due : (w : World) (id : ℕ) →
    list_any (λ s. eqb s.id id && wants_start w.tables s) w.tables.services ≡ is_due w (duty.Start id)
start_due w id = same_test (list_any (of_id id test) t.services) (is_due w d) there back
  where
    t : Tables
    t = w.tables

    d : Duty
    d = duty.Start id

    test : Service → Bool
    test = wants_start t

    there : list_any (of_id id test) t.services ≡ true → is_due w d ≡ true
    there e = let of = any_row t.services id test e in
        let no_job = first_so (not (is_job of.row.spec.mode)) (is_to_start t of.row) of.fact in
        due-IsDuty w d (record {
          row = of.row;
          there = of.there;
          id_is = of.id_is;
          fact = (
            not_true (is_job of.row.spec.mode) no_job,
            second_so (not (is_job of.row.spec.mode))
                (is_to_start t of.row) of.fact,
          );
        })

    back : is_due w d ≡ true → list_any (of_id id test) t.services ≡ true
    back e = let of = IsDuty-due w d e in
        row_any t.services id test of.row of.there of.id_is
        (both (not (is_job of.row.spec.mode)) (is_to_start t of.row) (ap not of.fact.0) of.fact.1)

pub fail_due : (w : World) (id : ℕ) →
    list_any (λ s. eqb s.id id && wants_fail w.tables s) w.tables.services ≡ is_due w (duty.Fail id)
fail_due w id = same_test (list_any (of_id id test) t.services) (is_due w d) there back
  where
    t : Tables
    t = w.tables

    d : Duty
    d = duty.Fail id

    test : Service → Bool
    test = wants_fail t

    there : list_any (of_id id test) t.services ≡ true → is_due w d ≡ true
    there e = let of = any_row t.services id test e in
        due-IsDuty w d (record {
          row = of.row;
          there = of.there;
          id_is = of.id_is;
          fact = to_open of.row (fails t
              of.row) of.fact;
        })

    back : is_due w d ≡ true → list_any (of_id id test) t.services ≡ true
    back e = let of = IsDuty-due w d e in
        row_any t.services id test of.row of.there of.id_is
        (from_open of.row (fails t of.row) of.fact.1.0 of.fact.0 of.fact.1.1 of.fact.1.2 of.fact.1.3)

pub finish_due : (w : World) (id : ℕ) →
    list_any (λ s. eqb s.id id && wants_finish w.tables s) w.tables.services ≡ is_due w (duty.Finish id)
finish_due w id = same_test (list_any (of_id id test) t.services) (is_due w d) there back
  where
    t : Tables
    t = w.tables

    d : Duty
    d = duty.Finish id

    test : Service → Bool
    test = wants_finish t

    there : list_any (of_id id test) t.services ≡ true → is_due w d ≡ true
    there e = let of = any_row t.services id test e in
        due-IsDuty w d (record {
          row = of.row;
          there = of.there;
          id_is = of.id_is;
          fact = to_open of.row
              (is_to_finish t of.row) of.fact;
        })

    back : is_due w d ≡ true → list_any (of_id id test) t.services ≡ true
    back e = let of = IsDuty-due w d e in
        row_any t.services id test of.row of.there of.id_is
        (from_open of.row (is_to_finish t of.row) of.fact.1.0 of.fact.0 of.fact.1.1 of.fact.1.2 of.fact.1.3)

pub swap_due : (w : World) (id k : ℕ) →
    list_any (λ s. eqb s.id id && wants_swap w.tables k s) w.tables.services ≡ is_due w (duty.Swap id k)
swap_due w id k = same_test (list_any (of_id id test) t.services) (is_due w d) there back
  where
    t : Tables
    t = w.tables

    d : Duty
    d = duty.Swap id k

    test : Service → Bool
    test = wants_swap t k

    each : Service → UpdateRun → Bool
    each s run = is_of_version s run && is_to_swap t s k

    there : list_any (of_id id test) t.services ≡ true → is_due w d ≡ true
    there e = let of = any_row t.services id test e in
        let found = to_open of.row (each of.row) of.fact in
        let run = found.1.0 in
        let passes : is_to_swap t of.row k ≡ true = second_so (is_of_version of.row run) (is_to_swap t of.row k)
        found.1.3 in
        due-IsDuty w d (record {
          row = of.row;
          there = of.there;
          id_is = of.id_is;
          fact = (
            found.0,
            (
              run,
              found.1.1,
              found.1.2,
              (
                first_so (is_of_version of.row run) (is_to_swap t of.row
                    k) found.1.3,
                (swap_numbered t of.row k passes, passes),
              ),
            ),
          );
        })

    back : is_due w d ≡ true → list_any (of_id id test) t.services ≡ true
    back e = let of = IsDuty-due w d e in
        let run = of.fact.1.0 in
        row_any t.services id test of.row of.there of.id_is
        (from_open of.row (each of.row) run of.fact.0 of.fact.1.1 of.fact.1.2
        (both (is_of_version of.row run) (is_to_swap t of.row k) of.fact.1.3.0 of.fact.1.3.1.1))

pub replace_due : (w : World) (id k : ℕ) →
    list_any (λ s. eqb s.id id && wants_replace w.tables k s) w.tables.services ≡ is_due w (duty.Replace id k)
replace_due w id k = same_test (list_any (of_id id test) t.services) (is_due w d) there back
  where
    t : Tables
    t = w.tables

    d : Duty
    d = duty.Replace id k

    test : Service → Bool
    test = wants_replace t k

    may : Service → UpdateRun → Bool
    may s run = is_of_version s run && lets_replace t s run

    each : Service → UpdateRun → Bool
    each s run = may s run && is_to_replace t s k

    there : list_any (of_id id test) t.services ≡ true → is_due w d ≡ true
    there e = let of = any_row t.services id test e in
        let found = to_open of.row (each of.row) of.fact in
        let run = found.1.0 in
        let passes : is_to_replace t of.row k ≡ true = second_so (may of.row run) (is_to_replace t of.row k)
        found.1.3 in
        due-IsDuty w d (record {
          row = of.row;
          there = of.there;
          id_is = of.id_is;
          fact = (
            found.0,
            (
              run,
              found.1.1,
              found.1.2,
              (
                first_so (may of.row run) (is_to_replace t of.row k)
                    found.1.3,
                (replace_numbered t of.row k passes, passes),
              ),
            ),
          );
        })

    back : is_due w d ≡ true → list_any (of_id id test) t.services ≡ true
    back e = let of = IsDuty-due w d e in
        let run = of.fact.1.0 in
        row_any t.services id test of.row of.there of.id_is
        (from_open of.row (each of.row) run of.fact.0 of.fact.1.1 of.fact.1.2
        (both (may of.row run) (is_to_replace t of.row k) of.fact.1.3.0 of.fact.1.3.1.1))

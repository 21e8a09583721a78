-- The numbers of a small world, row by row.
use Rattle.std.proofs.Common.{◌≡◌, ℕ, ◌+◌, ◌<◌, ◌^◌, Bool, true, false, cond, List, [], ◌∷◌, length, get_or, Option, Some, None, refl, sym, ap, ◌∙◌, arith}
use Rattle.std.specs.Prelude.{filter, ◌&&◌}
use Rattle.std.specs.List.{list_all}
use Rattle.std.proofs.lemmas.Bool.Decides.{nat_tests}
use Rattle.std.proofs.lemmas.List.Folds.{list_all_at}
use Rattle.swarm_settle.proofs.LeastWaits.{row_is}
use Rattle.swarm_objects.proofs.Tests.{both, first_so, second_so}
use Rattle.swarm_objects.specs.Bounds.{is_near, is_near_run, is_near_service, is_near_spec, is_near_task, is_near_template}
use Rattle.swarm_objects.specs.Rows.{on_row}
use Rattle.swarm_objects.specs.declared.services.Replaced.{Replaced}
use Rattle.swarm_objects.specs.declared.services.Service.{Service}
use Rattle.swarm_objects.specs.declared.services.UpdateRun.{UpdateRun}
use Rattle.swarm_objects.specs.declared.tasks.Task.{Task}

-- what passes of all passes of each
pub all_at : {X : Type 0} (p : X → Bool) (xs : List X) (i : ℕ) (x : X) → list_all p xs ≡ true → i < length xs
    → x ≡ get_or xs i x → p x ≡ true
all_at p xs i x all lt is = go (p (get_or xs i x)) refl
  where
    go : (b : Bool) → p (get_or xs i x) ≡ b → p x ≡ true
    go true e = ap p is ∙ e
    go false e = let no' = list_all_at p xs i x lt e in absurd cc

-- of the rows that are left, the next one and the rest

pub all_here : {X : Type 0} (p : X → Bool) (left rest : List X) (x : X) → left ≡ x ∷ rest → list_all p left ≡ true → p x ≡ true
all_here p left rest x is all = first_so (p x) (list_all p rest) (sym (ap (list_all p) is) ∙ all)

pub all_rest : {X : Type 0} (p : X → Bool) (left rest : List X) (x : X) → left ≡ x ∷ rest → list_all p left ≡ true
    → list_all p rest ≡ true
all_rest p left rest x is all = second_so (p x) (list_all p rest) (sym (ap (list_all p) is) ∙ all)

pub all_filter : {X : Type 0} (p q : X → Bool) (xs : List X) → list_all p xs ≡ true → list_all p (filter q xs) ≡ true
all_filter p q [] all = refl
all_filter p q (x ∷ xs) all =
    go (q x) (first_so (p x) (list_all p xs) all) (all_filter p q xs (second_so (p x) (list_all p xs) all))
  where
    go : (b : Bool) → p x ≡ true → list_all p (filter q xs) ≡ true → list_all p (cond b (x ∷ filter q xs) (filter q xs)) ≡ true
    go true here rest = both (p x) (list_all p (filter q xs)) here rest
    go false here rest = rest

near_some : (r : Option UpdateRun) (run : UpdateRun) → r ≡ Some run → on_row true is_near_run r ≡ true
    → is_near_run run ≡ true
near_some None run is e = absurd cc
near_some (Some r) run is e = let same : r ≡ run = cc in ap is_near_run (sym same) ∙ e

pub near_run : (s : Service) (run : UpdateRun) → s.run ≡ Some run → is_near_service s ≡ true → is_near_run run ≡ true
near_run s run is e =
    near_some s.run run is
    (second_so (is_near_spec s.spec && on_row true is_near_spec s.previous) (on_row true is_near_run s.run) e)

near_spec : (s : Service) → is_near_service s ≡ true → is_near_spec s.spec ≡ true
near_spec s e =
    first_so (is_near_spec s.spec) (on_row true is_near_spec s.previous)
    (first_so (is_near_spec s.spec && on_row true is_near_spec s.previous) (on_row true is_near_run s.run) e)

near_delay : (s : Service) → is_near_service s ≡ true → is_near s.spec.update.delay ≡ true
near_delay s e =
    second_so (is_near_template s.spec.template) (is_near s.spec.update.delay)
    (first_so (is_near_template s.spec.template && is_near s.spec.update.delay) (is_near s.spec.update.monitor) (near_spec s e))

near_monitor : (s : Service) → is_near_service s ≡ true → is_near s.spec.update.monitor ≡ true
near_monitor s e =
    second_so (is_near_template s.spec.template && is_near s.spec.update.delay) (is_near s.spec.update.monitor) (near_spec s e)

near_since : (x : Task) → is_near_task x ≡ true → is_near x.since ≡ true
near_since x e =
    second_so (is_near_template x.template) (is_near x.since)
    (first_so (is_near_template x.template && is_near x.since) (is_near x.created)
    (first_so (is_near_template x.template && is_near x.since && is_near x.created) (is_near x.raise_at) e))

sum_fits : (m n : ℕ) → is_near m ≡ true → is_near n ≡ true → m + n < 2 ^ 64
sum_fits m n a b = grind (arith, nat_tests)

-- the end of a task's flight is a number of its type
pub flight_fits : (s : Service) (x : Task) → is_near_service s ≡ true → is_near_task x ≡ true
    → x.since + s.spec.update.delay < 2 ^ 64
flight_fits s x near task = sum_fits x.since s.spec.update.delay (near_since x task) (near_delay s near)

-- and so is the end of a new task's watching
pub watch_fits : (s : Service) (run : UpdateRun) (items : List Replaced) (i : ℕ) (other : Replaced)
    → is_near_service s ≡ true → is_near_run run ≡ true → items ≡ run.replaced → i < length items
    → (get_or items i other).created + s.spec.update.monitor < 2 ^ 64
watch_fits s run items i other near all same lt =
    sum_fits (get_or items i other).created s.spec.update.monitor
    (all_at (λ (i : Replaced). is_near i.created) items i (get_or items i other) (ap (list_all (λ (i : Replaced). is_near i.created)) same ∙ all) lt (row_is items i other lt))
    (near_monitor s near)

-- A service that goes back to its previous specification: no more can come of it, and fewer of its ports lack a number.
use Rattle.std.proofs.Common.{Bool, List, None, Option, Some, [], ap, arith, cond, false, refl, sym, true, ℕ, ◌+◌, ◌*◌, ◌-◌, ◌∙◌, ◌∷◌, ◌≡◌, ◌≤◌}
use Rattle.std.proofs.lemmas.Bool.Decides.{nat_tests}
use Rattle.std.proofs.lemmas.List.Sums.{count_by-le-length, length-filter, sum_by-cons}
use Rattle.std.specs.List.{list_any}
use Rattle.std.specs.Prelude.{filter, is_none, is_some, length, not, sum_by, ◌&&◌, ◌==◌, ◌||◌}
use Rattle.swarm_settle.proofs.Bound.PlaceSpans.{ends, held-counted, lost-counted, one_each, places_end, where_held, where_not}
use Rattle.swarm_settle.proofs.Bound.Spans.{span, span-join, span-le, span-none, span-rises, span-same}
use Rattle.swarm_settle.proofs.Bound.Sums.{count-le, sum-fall}
use Rattle.swarm_settle.specs.Bound.Coming.{coming_by_mode, coming_of, coming_on, goes_back, is_renewed, places_held, places_lost, replicas_before, replicas_in, waiting_places}
use Rattle.swarm_model.proofs.Laws.OneEach.{IsAlike, job-alike}
use Rattle.swarm_objects.proofs.RowLemmas.{Has-filter}
use Rattle.swarm_objects.proofs.Tests.{any-has, both, first_so, has-any, never-both, or_left, second_so}
use Rattle.swarm_objects.specs.Kinds.{bit}
use Rattle.swarm_objects.specs.Loops.Global.{wants_here}
use Rattle.swarm_objects.specs.Loops.Update.{back_at, with_run}
use Rattle.swarm_objects.specs.Rows.{Has, has_row, is_some_and, node_id, on_row, row_at}
use Rattle.swarm_objects.specs.Services.Ports.{gives_number, is_open_in, is_unnumbered, kept_numbers}
use Rattle.swarm_objects.specs.Services.Words.{is_job}
use Rattle.swarm_objects.specs.Tasks.Places.{closes, held_places, is_held_place, newest, place_at, tasks_of_place}
use Rattle.swarm_objects.specs.Tasks.Words.{is_live}
use Rattle.swarm_objects.specs.World.{Tables}
use Rattle.swarm_objects.specs.declared.nodes.Node.{Node}
use Rattle.swarm_objects.specs.declared.services.Mode.TheVariants as mode
use Rattle.swarm_objects.specs.declared.services.Mode.{Mode}
use Rattle.swarm_objects.specs.declared.services.PortNumber.{PortNumber}
use Rattle.swarm_objects.specs.declared.services.Service.{Service}
use Rattle.swarm_objects.specs.declared.services.ServiceSpec.{ServiceSpec}
use Rattle.swarm_objects.specs.declared.services.UpdateRun.{UpdateRun}
use Rattle.swarm_objects.specs.declared.tasks.Place.{Place}
use Rattle.swarm_objects.specs.declared.tasks.Task.{Task}
use Rattle.swarm_objects.specs.declared.templates.Port.{Port}
use Rattle.swarm_settle.proofs.PlaceLists.{SamePlaces, same-places}

-- Held places are those of nodes that are gone, and of nodes that are there.

abbrev pub on_nodes : (ℕ → ℕ) → List Node → ℕ → ℕ
on_nodes f xs k = cond (has_row node_id k xs) (f k) 0

-- a number that a node has is counted there
pub nodes-span : (f : ℕ → ℕ) (low n : ℕ) (xs : List Node) → span (on_nodes f xs) low n ≤ sum_by (λ (x : Node). f x.id) xs
nodes-span f low n [] = omega (arith, span-none (on_nodes f []) low n (λ k. refl))
nodes-span f low n (x ∷ xs) =
    omega (
      arith,
      sum_by-cons (λ (y : Node). f y.id) x xs,
      span-rises (on_nodes f (x ∷ xs)) (on_nodes f xs) (f x.id) low n x.id (here (has_row node_id x.id (x ∷ xs)))
          (λ j off. omega (arith, ap (λ (b : Bool). cond {A = ℕ} b (f j) 0) (off-row j off))),
      nodes-span f low n xs,
    )
  where
    here : (b : Bool) → cond {A = ℕ} b (f x.id) 0 ≤ on_nodes f xs x.id + f x.id
    here true = omega arith
    here false = omega arith

    off-row : (j : ℕ) → ¬ (j ≡ x.id) → has_row node_id j (x ∷ xs) ≡ has_row node_id j xs
    off-row j off =
        let apart : (x.id == j) ≡ false = grind (arith, nat_tests, off) in
        ap (λ (b : Bool). is_some (cond b (Some x) (row_at node_id j xs))) apart

pub held-nodes : (t : Tables) (s : Service) →
    places_held t s ≤ places_lost t s + sum_by (λ (n : Node). where_held t s one_each n.id) t.nodes
held-nodes t s =
    let b = places_end t.tasks in
    let lost = where_held t s (where_not (λ k. has_row node_id k t.nodes)) in
    let kept = on_nodes (where_held t s one_each) t.nodes in
    omega (
      arith,
      held-counted t s b (ends t.tasks),
      lost-counted t s b (ends t.tasks),
      span-le (where_held t s one_each) (λ k. lost k + kept k) 0 b
          (λ k. go (is_held_place t s k) (has_row node_id k t.nodes)),
      span-join lost kept 0 b,
      nodes-span (where_held t s one_each) 0 b t.nodes,
    )
  where
    go : (a b : Bool) →
        ◌≤◌ (cond {A = ℕ} a 1 0) (cond {A = ℕ} a (cond {A = ℕ} (not b) 1 0) 0 + cond {A = ℕ} b (cond {A = ℕ} a 1 0) 0)
    go true true = omega arith
    go true false = omega arith
    go false true = omega arith
    go false false = omega arith

-- The same places are held.

held-of : (t : Tables) (s v : Service) (a b : Mode) → SamePlaces s v → v.spec.mode ≡ a → s.spec.mode ≡ b →
    IsAlike a b → (k : ℕ) → is_held_place t v k ≡ is_held_place t s k
held-of t s v a b same va sb alike k =
    ap (λ (p : Place). list_any is_live (tasks_of_place v p t.tasks)
    || is_some_and closes (newest (tasks_of_place v p t.tasks)))
    (ap (λ (x : Mode). place_at x k) va ∙ at a b alike ∙ sym (ap (λ (x : Mode). place_at x k) sb))
    ∙ ap (λ (ys : List Task). list_any is_live ys || is_some_and closes (newest ys))
    (same-places s v same (place_at s.spec.mode k) t.tasks)
  where
    at : (a b : Mode) → IsAlike a b → place_at a k ≡ place_at b k
    at (mode.Replicated x) (mode.Replicated y) e = refl
    at mode.Global mode.Global e = refl
    at (mode.Job x y) (mode.Job z u) e = refl
    at (mode.Replicated x) mode.Global e = absurd cc
    at (mode.Replicated x) (mode.Job z u) e = absurd cc
    at mode.Global (mode.Replicated y) e = absurd cc
    at mode.Global (mode.Job z u) e = absurd cc
    at (mode.Job x y) (mode.Replicated z) e = absurd cc
    at (mode.Job x y) mode.Global e = absurd cc

-- What comes.

pub coming-back : (m version : ℕ) (run : UpdateRun) (t : Tables) (s : Service) (spec : ServiceSpec) →
    s.previous ≡ Some spec → is_job s.spec.mode ≡ false → IsAlike spec.mode s.spec.mode →
    coming_of m t (with_run version run (back_at version spec s)) ≤ coming_of m t s
coming-back m version run t s spec previous no_job alike =
    by spec.mode s.spec.mode refl refl alike
  where
    v : Service
    v = with_run version run (back_at version spec s)

    same : SamePlaces s (with_run version run (back_at version spec s))
    same = record { id = refl; job = job-alike spec.mode s.spec.mode alike; now = λ e. refl }

    -- once
    was : goes_back s ≡ 1
    was =
        ap (λ (b : Bool). bit (not b && is_some s.previous)) no_job
        ∙ ap (λ (o : Option ServiceSpec). bit (is_some o)) previous

    is : goes_back (with_run version run (back_at version spec s)) ≡ 0
    is = ap bit (go (not (is_job spec.mode)))
      where
        go : (b : Bool) → (b && false) ≡ false
        go true = refl
        go false = refl

    each : (k : ℕ) → is_held_place t v k ≡ is_held_place t s k
    each k = held-of t s v spec.mode s.spec.mode same refl refl alike k

    held : places_held t v ≡ places_held t s
    held =
        let b = places_end t.tasks in
        held-counted t v b (ends t.tasks)
        ∙ span-same (where_held t v one_each) (where_held t s one_each) 0 b
        (λ k. ap (λ (c : Bool). cond {A = ℕ} c 1 0) (each k))
        ∙ sym (held-counted t s b (ends t.tasks))

    waits : waiting_places m t v ≤ places_held t s
    waits = omega (arith, count_by-le-length (λ k. not (is_renewed m t v k)) (held_places t v), held)

    -- a node that holds a place lacks none
    on : (n : Node) → coming_on t v n + where_held t s one_each n.id ≤ coming_on t s n
    on n =
        omega (
          arith,
          was,
          is,
          ap (λ (c : Bool). bit (wants_here v n && not c)) (each n.id),
          go (wants_here v n) (is_held_place t s n.id),
        )
      where
        go : (a b : Bool) → bit (a && not b) + cond {A = ℕ} b 1 0 ≤ 1
        go true true = omega arith
        go true false = omega arith
        go false true = omega arith
        go false false = omega arith

    by : (a b : Mode) → spec.mode ≡ a → s.spec.mode ≡ b → IsAlike a b →
        waiting_places m t v + coming_by_mode t v spec.mode ≤ waiting_places m t s + coming_by_mode t s s.spec.mode
    by (mode.Replicated q) (mode.Replicated r) va sb e =
        omega (
          arith,
          waits,
          ap (coming_by_mode t v) va,
          ap (coming_by_mode t s) sb,
          ap (λ (g : ℕ). (q - places_held t v) * (1 + g) + g * (places_held t v + replicas_before v)) is,
          ap (λ (g : ℕ). (r - places_held t s) * (1 + g) + g * (places_held t s + replicas_before s)) was,
          ap (on_row 0 (λ (p : ServiceSpec). replicas_in p.mode)) previous,
          ap replicas_in va,
        )
    by mode.Global mode.Global va sb e =
        omega (
          arith,
          waits,
          ap (coming_by_mode t v) va,
          ap (coming_by_mode t s) sb,
          ap (λ (g : ℕ). sum_by (coming_on t v) t.nodes + g * places_lost t v) is,
          ap (λ (g : ℕ). sum_by (coming_on t s) t.nodes + g * places_lost t s) was,
          held-nodes t s,
          sum-fall (coming_on t v) (coming_on t s) (λ (n : Node). where_held t s one_each n.id) t.nodes (λ n h. on n),
        )
    by (mode.Job x y) b va sb e =
        absurd (never-both (is_job s.spec.mode) no_job (sym (job-alike spec.mode s.spec.mode alike) ∙ ap is_job va))
    by a (mode.Job x y) va sb e = absurd (never-both (is_job s.spec.mode) no_job (ap is_job sb))
    by (mode.Replicated q) mode.Global va sb e = absurd cc
    by mode.Global (mode.Replicated r) va sb e = absurd cc

-- Ports.

-- an open port keeps its number
kept-gives : (p : Port) (numbers : List PortNumber) (spec : ServiceSpec) → Has spec.ports p →
    is_none p.number ≡ true → list_any (gives_number p) numbers ≡ true →
    list_any (gives_number p) (kept_numbers numbers spec None) ≡ true
kept-gives p numbers spec there bare gives =
    let n = any-has (gives_number p) numbers gives in
    has-any (gives_number p) (kept_numbers numbers spec None) n.0
    (Has-filter (λ i. is_open_in spec.ports i || is_open_in [] i) numbers n.0 n.1
    (or_left (is_open_in spec.ports n.0) (is_open_in [] n.0)
    (has-any (λ q. is_none q.number && gives_number q n.0) spec.ports p there
    (both (is_none p.number) (gives_number p n.0) bare n.2)))) n.2

-- a port without a number had none before
pub unnumbered-back : (version : ℕ) (run : UpdateRun) (s : Service) (spec : ServiceSpec) (p : Port) → Has spec.ports p →
    is_unnumbered (with_run version run (back_at version spec s)) p ≡ true → is_unnumbered s p ≡ true
unnumbered-back version run s spec p there e =
    let bare = first_so (is_none p.number) _ e in
    both (is_none p.number) _ bare
    (go (list_any (gives_number p) s.numbers) refl bare (second_so (is_none p.number) _ e))
  where
    go : (b : Bool) → list_any (gives_number p) s.numbers ≡ b → is_none p.number ≡ true →
        not (list_any (gives_number p) (kept_numbers s.numbers spec None)) ≡ true → not b ≡ true
    go true some bare none =
        never-both (not (list_any (gives_number p) (kept_numbers s.numbers spec None)))
        (ap not (kept-gives p s.numbers spec there bare some)) none
    go false some bare none = refl

-- no more ports of the specification lack a number
pub ports-back : (version : ℕ) (run : UpdateRun) (s : Service) (spec : ServiceSpec) →
    length (filter (is_unnumbered (with_run version run (back_at version spec s))) spec.ports)
    ≤ length (filter (is_unnumbered s) spec.ports)
ports-back version run s spec =
    let v = with_run version run (back_at version spec s) in
    omega (
      arith,
      length-filter (is_unnumbered v) spec.ports,
      length-filter (is_unnumbered s) spec.ports,
      count-le (is_unnumbered v) (is_unnumbered s) spec.ports (λ p h e. unnumbered-back version run s spec p h e),
    )

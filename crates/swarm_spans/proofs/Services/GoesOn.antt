-- Spans of services go on covering a line over a step.
use Rattle.std.proofs.Common.{Bool, List, None, Option, Some, [], ap, cond, false, inl, inr, refl, subst, sym, true, ℕ, arith, ◌<◌, ◌∙◌, ◌∷◌, ◌≡◌, ◌⊎◌}
use Rattle.std.proofs.lemmas.Bool.Decides.{nat_tests}
use Rattle.std.specs.Option.{option_map}
use Rattle.std.specs.Prelude.{filter, is_some, map, ◌==◌}
use Rattle.swarm_objects.proofs.RowLemmas.{Has-from_row_at, RisesFrom-filter, number_above, row_at-Some}
use Rattle.swarm_objects.proofs.Tests.{never-both}
use Rattle.swarm_objects.specs.Loops.Allocator.{has_free_port, port_duties}
use Rattle.swarm_objects.specs.Rows.{Has, first_of, row_at, service_id, task_id}
use Rattle.swarm_objects.specs.Services.Ports.{unnumbered_ports}
use Rattle.swarm_objects.specs.Tasks.Words.{is_of}
use Rattle.swarm_objects.specs.World.{Tables}
use Rattle.swarm_objects.specs.declared.duties.Duty.{Duty}
use Rattle.swarm_objects.specs.declared.duties.Duty.TheVariants as duty
use Rattle.swarm_objects.specs.declared.services.Service.{Service}
use Rattle.swarm_objects.specs.declared.tasks.Task.{Task}
use Rattle.swarm_objects.specs.declared.templates.Port.{Port}
use Rattle.swarm_spans.proofs.Services.Alike.{Reads, keep, row_at-filter, shown-rows}
use Rattle.swarm_spans.proofs.Services.Held.{come-same, create-same, down-same, leave-same, next-same, own}
use Rattle.swarm_spans.specs.Services.Lines.{AreRising, MovedLaw, PlacedLaw, PortLaw, comes, creates, downs, leaves, job_creates}
use Rattle.swarm_spans.specs.Services.Standings.{Standing, standing}
use Rattle.swarm_spans.specs.Services.Steps.{HadFreePort, HasChanged, HasServiceOf, ShowsAgain}
use Rattle.swarm_spans.specs.Spans.{CoversServices, has_duty, is_in}
use Rattle.swarm_spans.specs.declared.span.Span.{Span}

-- A service that the span hasn't: its tasks show the same as before.

pub keep-shown : {X S : Type 0} (show : X → S) (p : X → Bool) (o q : Option X) → Reads show p
    → option_map show o ≡ option_map show q → option_map show (keep p o) ≡ option_map show (keep p q)
keep-shown show p None None same e = refl
keep-shown show p None (Some y) same e = absurd cc
keep-shown show p (Some x) None same e = absurd cc
keep-shown {X} {S} show p (Some x) (Some y) same e =
    let one : show x ≡ show y = cc in go (p x) (p y) (same x y one) one
  where
    go : (a b : Bool) → a ≡ b → show x ≡ show y
        → option_map show (cond a (Some x) None) ≡ option_map show (cond b (Some y) None)
    go true true q h = ap Some h
    go false false q h = refl
    go true false q h = absurd cc
    go false true q h = absurd cc

pub outside : (span : Span) (s : Service) (o : Option Task) → 0 < s.id → is_in span s.id ≡ false → HasServiceOf span o
    → keep (is_of s.id) o ≡ None
outside span s None positive out has = refl
outside span s (Some x) positive out has = go (is_of s.id x) refl
  where
    go : (b : Bool) → is_of s.id x ≡ b → cond b (Some x) None ≡ None
    go false e = refl
    go true e =
        let same : x.service ≡ s.id = grind (arith, nat_tests, e) in
        never-both (is_in span s.id) out
        (subst (λ k. is_in span k ≡ true) same (has.of x refl (subst (λ k. 0 < k) (sym same) positive)))

own-shown : {S : Type 0} (show : Task → S) (t u : Tables) (span : Span) (s : Service) → Reads show (λ x. x.service)
    → AreRising t u → ShowsAgain show span t u → 0 < s.id → is_in span s.id ≡ false
    → map show (own u s) ≡ map show (own t s)
own-shown show t u span s service rising again positive out =
    shown-rows task_id show 0 0 (own u s) (own t s) (RisesFrom-filter task_id 0 (is_of s.id) u.tasks rising.after)
    (RisesFrom-filter task_id 0 (is_of s.id) t.tasks rising.before)
    (λ id.
    ap (option_map show) (row_at-filter task_id 0 id (is_of s.id) u.tasks rising.after)
    ∙ each id (again id)
    ∙ sym (ap (option_map show) (row_at-filter task_id 0 id (is_of s.id) t.tasks rising.before)))
  where
    of-read : Reads show (is_of s.id)
    of-read x y e = ap (λ k. k == s.id) (service x y e)

    each : (id : ℕ)
        → (option_map show (row_at task_id id u.tasks) ≡ option_map show (row_at task_id id t.tasks))
        ⊎ (HasServiceOf span (row_at task_id id t.tasks) × HasServiceOf span (row_at task_id id u.tasks))
        → option_map show (keep (is_of s.id) (row_at task_id id u.tasks))
        ≡ option_map show (keep (is_of s.id) (row_at task_id id t.tasks))
    each id (inl same) =
        keep-shown show (is_of s.id) (row_at task_id id u.tasks) (row_at task_id id t.tasks) of-read same
    each id (inr two) =
        ap (option_map show)
        (outside span s (row_at task_id id u.tasks) positive out two.1
        ∙ sym (outside span s (row_at task_id id t.tasks) positive out two.0))

-- One step of any line over services: one that the span hasn't has no duty that it hadn't before.

pub covers-by : (line : Tables → Service → List Duty) (t u : Tables) (span : Span) → AreRising t u → HasChanged span t u
    → ((s : Service) → row_at service_id s.id t.services ≡ Some s → 0 < s.id → is_in span s.id ≡ false
    → has_duty (line u) s ≡ true → has_duty (line t) s ≡ true)
    → CoversServices line t span → CoversServices line u span
covers-by line t u span rising changed had c = record { has = λ s h passes. go s h passes (is_in span s.id) refl }
  where
    go : (s : Service) → Has u.services s → has_duty (line u) s ≡ true → (b : Bool) → is_in span s.id ≡ b
        → is_in span s.id ≡ true
    go s h passes true e = e
    go s h passes false e =
        let positive : 0 < s.id = number_above service_id 0 u.services s rising.services h in
        elim (changed.rows s.id) [
          | inr has ↦ has positive
          | inl row ↦
              let here : row_at service_id s.id t.services ≡ Some s =
              sym row ∙ row_at-Some service_id 0 u.services s rising.services h in
              let there = (Has-from_row_at service_id s.id t.services s here).0 in
              c.has s there (had s here positive e passes)
        ]

-- so of a line that reads no more of its tasks than they show
pub goes-on : {S : Type 0} (show : Task → S) (line : Tables → Service → List Duty) (t u : Tables) (span : Span)
    → Reads show (λ x. x.service) → AreRising t u → HasChanged span t u → ShowsAgain show span t u
    → ((s : Service) → row_at service_id s.id t.services ≡ Some s → map show (own u s) ≡ map show (own t s)
    → has_duty (line u) s ≡ has_duty (line t) s)
    → CoversServices line t span → CoversServices line u span
goes-on show line t u span service rising changed again same c =
    covers-by line t u span rising changed
    (λ s row positive out passes.
    sym (same s row (own-shown show t u span s service rising again positive out)) ∙ passes)
    c

-- Line by line.

service-read : Reads standing (λ x. x.service)
service-read x y e = ap (λ (k : Standing). k.service) e

pub create_goes_on : MovedLaw creates
create_goes_on t u span rising moved c =
    goes-on standing creates t u span service-read rising moved.services moved.tasks
    (λ s row e. create-same t u s e) c

pub down_goes_on : MovedLaw downs
down_goes_on t u span rising moved c =
    goes-on standing downs t u span service-read rising moved.services moved.tasks
    (λ s row e. down-same t u s e) c

pub next_goes_on : MovedLaw job_creates
next_goes_on t u span rising moved c =
    goes-on standing job_creates t u span service-read rising moved.services moved.tasks
    (λ s row e. next-same t u s e) c

pub leave_goes_on : PlacedLaw leaves
leave_goes_on t u span rising moved placed c =
    elim placed.nodes [
      | inr all ↦ record { has = λ s h passes. all s h }
      | inl nodes ↦
          goes-on standing leaves t u span service-read rising moved.services moved.tasks
          (λ s row e. leave-same t u s nodes e) c
    ]

pub come_goes_on : PlacedLaw comes
come_goes_on t u span rising moved placed c =
    elim placed.nodes [
      | inr all ↦ record { has = λ s h passes. all s h }
      | inl nodes ↦
          goes-on standing comes t u span service-read rising moved.services moved.tasks
          (λ s row e. come-same t u s nodes e) c
    ]

-- what has an item that passes the one test has one that passes the other
first-too : {X Y : Type 0} (p q : X → Bool) (f : X → Y) (xs : List X) → ((x : X) → p x ≡ true → q x ≡ true)
    → is_some (first_of (map f (filter p xs))) ≡ true → is_some (first_of (map f (filter q xs))) ≡ true
first-too p q f [] implies e = e
first-too p q f (x ∷ xs) implies e = go (p x) (q x) (implies x) (first-too p q f xs implies) e
  where
    go : (a b : Bool) → (a ≡ true → b ≡ true)
        → (is_some (first_of (map f (filter p xs))) ≡ true → is_some (first_of (map f (filter q xs))) ≡ true)
        → is_some (first_of (map f (cond a (x ∷ filter p xs) (filter p xs)))) ≡ true
        → is_some (first_of (map f (cond b (x ∷ filter q xs) (filter q xs)))) ≡ true
    go a true i rest k = refl
    go true false i rest k = let none : false ≡ true = i refl in absurd cc
    go false false i rest k = rest k

pub port_goes_on : PortLaw
port_goes_on t u span ports c = record { has = λ s h passes. go s passes (ports.services s h) }
  where
    go : (s : Service) → has_duty (port_duties u) s ≡ true
        → (is_in span s.id ≡ true) ⊎ (Has t.services s × HadFreePort t u) → is_in span s.id ≡ true
    go s passes (inl e) = e
    go s passes (inr two) =
        c.has s two.0
        (first-too (λ (p : Port). has_free_port u p.udp) (λ (p : Port). has_free_port t p.udp)
        (λ (p : Port). duty.Port s.id p.target p.udp) (unnumbered_ports s) (λ p. two.1 p.udp) passes)

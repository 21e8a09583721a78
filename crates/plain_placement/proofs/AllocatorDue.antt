-- A duty of the allocator is due exactly where its row wants it.
use Rattle.std.proofs.Common.{◌≡◌, ◌∙◌, Bool, List, eqb, false, refl, true, ℕ}
use Rattle.std.proofs.lemmas.Bool.{eq-eqb, eqb-true}
use Rattle.std.specs.List.{list_any}
use Rattle.std.specs.Prelude.{◌&&◌}
use Rattle.swarm_model.proofs.Base.FromLists.{IsDuty-due}
use Rattle.swarm_model.proofs.Base.IsDuty.{IsOpenPort, Passes}
use Rattle.swarm_model.proofs.Base.ToLists.{due-IsDuty}
use Rattle.swarm_objects.proofs.RowLemmas.{Has-filter, Has-filter_cases}
use Rattle.swarm_objects.proofs.Tests.{any-has, both, first_so, has-any, same_bool_is, same_test, second_so}
use Rattle.swarm_objects.specs.Duties.{is_due}
use Rattle.swarm_objects.specs.Loops.Allocator.{gets_address, has_free_port, wants_note}
use Rattle.swarm_objects.specs.Rows.{service_id, task_id}
use Rattle.swarm_objects.specs.Same.{same_bool}
use Rattle.swarm_objects.specs.Services.Ports.{is_unnumbered}
use Rattle.swarm_objects.specs.World.{Tables, World}
use Rattle.swarm_objects.specs.declared.duties.Duty.TheVariants as duty
use Rattle.swarm_objects.specs.declared.services.Service.{Service}
use Rattle.swarm_objects.specs.declared.tasks.Task.{Task}
use Rattle.plain_placement.specs.Allocating.{gets_number, is_open_port}

protocol_same : (a b : Bool) → a ≡ b → same_bool a b ≡ true
protocol_same true true e = refl
protocol_same true false e = cc
protocol_same false true e = cc
protocol_same false false e = refl

passing : {X : Type 0} (rows : List X) (key : X → ℕ) (test : X → Bool) (id : ℕ) →
    list_any (λ x. eqb (key x) id && test x) rows ≡ true → Passes rows key test id
passing rows key test id e =
    let found = any-has (λ x. eqb (key x) id && test x) rows e in
    record {
      row = found.0;
      there = found.1;
      id_is = eqb-true (key found.0) id (first_so (eqb (key found.0) id) (test found.0) found.2);
      fact = second_so (eqb (key found.0) id) (test found.0) found.2;
    }

passed : {X : Type 0} (rows : List X) (key : X → ℕ) (test : X → Bool) (id : ℕ) →
    Passes rows key test id → list_any (λ x. eqb (key x) id && test x) rows ≡ true
passed rows key test id of =
    has-any (λ x. eqb (key x) id && test x) rows of.row of.there
    (both (eqb (key of.row) id) (test of.row) (eq-eqb (key of.row) id of.id_is) of.fact)

pub address_due : (w : World) (id : ℕ) (found : Bool) →
    found ≡ list_any (λ (x : Task). eqb x.id id && gets_address w.tables x) w.tables.tasks →
    found ≡ is_due w (duty.Address id)
address_due w id found is =
    is ∙ same_test (list_any (λ (x : Task). eqb x.id id && gets_address w.tables x) w.tables.tasks)
    (is_due w (duty.Address id))
    (λ e. due-IsDuty w (duty.Address id) (passing w.tables.tasks task_id (gets_address w.tables) id e))
    (λ e. passed w.tables.tasks task_id (gets_address w.tables) id (IsDuty-due w (duty.Address id) e))

pub note_due : (w : World) (id : ℕ) (found : Bool) →
    found ≡ list_any (λ (x : Task). eqb x.id id && wants_note w.tables x) w.tables.tasks →
    found ≡ is_due w (duty.Note id)
note_due w id found is =
    is
    ∙ same_test (list_any (λ (x : Task). eqb x.id id && wants_note w.tables x) w.tables.tasks)
    (is_due w (duty.Note id))
    (λ e. due-IsDuty w (duty.Note id) (passing w.tables.tasks task_id (wants_note w.tables) id e))
    (λ e. passed w.tables.tasks task_id (wants_note w.tables) id (IsDuty-due w (duty.Note id) e))

-- Ports.

-- a port of the service has this target and protocol, and can get a number
abbrev pub has_open_port : Tables → ℕ → Bool → Service → Bool
has_open_port t target udp s = list_any (is_open_port t target udp s) s.spec.ports

open-IsOpen : (t : Tables) (target : ℕ) (udp : Bool) (s : Service) → has_open_port t target udp s ≡ true →
    IsOpenPort t target udp s
open-IsOpen t target udp s e =
    let found = any-has (is_open_port t target udp s) s.spec.ports e in
    let p = found.0 in
    let named = first_so (eqb p.target target && same_bool p.udp udp) (gets_number t s p) found.2 in
    let gets = second_so (eqb p.target target && same_bool p.udp udp) (gets_number t s p) found.2 in (
      p,
      Has-filter (is_unnumbered s) s.spec.ports p found.1 (first_so (is_unnumbered s p) (has_free_port t p.udp) gets),
      second_so (is_unnumbered s p) (has_free_port t p.udp) gets,
      eqb-true p.target target (first_so (eqb p.target target) (same_bool p.udp udp) named),
      same_bool_is p.udp udp (second_so (eqb p.target target) (same_bool p.udp udp) named),
    )

IsOpen-open : (t : Tables) (target : ℕ) (udp : Bool) (s : Service) → IsOpenPort t target udp s →
    has_open_port t target udp s ≡ true
IsOpen-open t target udp s of =
    let p = of.0 in
    let there = Has-filter_cases (is_unnumbered s) s.spec.ports p of.1 in
    has-any (is_open_port t target udp s) s.spec.ports p there.0
    (both (eqb p.target target && same_bool p.udp udp) (gets_number t s p)
    (both (eqb p.target target) (same_bool p.udp udp) (eq-eqb p.target target of.3) (protocol_same p.udp udp of.4))
    (both (is_unnumbered s p) (has_free_port t p.udp) there.1 of.2))

pub port_due : (w : World) (id target : ℕ) (udp : Bool) (found : Bool) →
    found ≡ list_any (λ (s : Service). eqb s.id id && has_open_port w.tables target udp s) w.tables.services →
    found ≡ is_due w (duty.Port id target udp)
port_due w id target udp found is =
    let t = w.tables in
    let rows = t.services in
    is ∙ same_test (list_any (λ (s : Service). eqb s.id id && has_open_port t target udp s) rows)
    (is_due w (duty.Port id target udp))
    (λ e. (let of = passing rows service_id (has_open_port t target udp) id e in
    due-IsDuty w (duty.Port id target udp) (record {
      row = of.row;
      there = of.there;
      id_is = of.id_is;
      fact = open-IsOpen t target udp of.row of.fact;
    })))
    (λ e. (let of = IsDuty-due w (duty.Port id target udp) e in
    passed rows service_id (has_open_port t target udp) id (record {
      row = of.row;
      there = of.there;
      id_is = of.id_is;
      fact = IsOpen-open t target udp of.row of.fact;
    })))

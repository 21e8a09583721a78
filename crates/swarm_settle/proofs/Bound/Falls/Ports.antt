-- A port that gets its number makes the measure smaller.
use Rattle.std.proofs.Common.{Bool, List, None, Option, Some, [], ap, arith, cond, false, inl, refl, subst, sym, true, ℕ, ◌++◌, ◌+◌, ◌∙◌, ◌∷◌, ◌≡◌, ◌≤◌}
use Rattle.std.proofs.lemmas.Bool.Decides.{nat_tests}
use Rattle.std.proofs.lemmas.List.Sums.{length-filter}
use Rattle.std.specs.List.{list_any}
use Rattle.std.specs.Prelude.{count_by, is_none, is_some, not, ◌&&◌, ◌==◌}
use Rattle.swarm_settle.proofs.Bound.Falls.Services.{Settles, falls-settle}
use Rattle.swarm_settle.proofs.Bound.Sums.{bit-le, count-le, sum-falls}
use Rattle.swarm_settle.specs.Bound.Measure.{measure}
use Rattle.swarm_model.proofs.Base.IsDuty.{IsDuty}
use Rattle.swarm_model.proofs.Moves.Rows.{RisesBetween}
use Rattle.swarm_objects.proofs.RowLemmas.{Has-append_left, Has-append_right, Has-filter_cases}
use Rattle.swarm_objects.proofs.Tests.{any-has, both, first_so, has-any, never-both, second_so}
use Rattle.swarm_objects.specs.Changes.{change_service, with_tables}
use Rattle.swarm_objects.specs.Loops.Allocator.{after_port, give_port, has_free_port, port_number, with_port}
use Rattle.swarm_objects.specs.Rows.{Has, service_id}
use Rattle.swarm_objects.specs.Same.{same_bool}
use Rattle.swarm_objects.specs.Services.Ports.{free_port, gives_number, is_unnumbered, ports_of, unnumbered_ports}
use Rattle.swarm_objects.specs.World.{World}
use Rattle.swarm_objects.specs.declared.duties.Duty.TheVariants as duty
use Rattle.swarm_objects.specs.declared.services.PortNumber.{PortNumber}
use Rattle.swarm_objects.specs.declared.services.Service.{Service}
use Rattle.swarm_objects.specs.declared.templates.Port.{Port}

-- one item fewer passes
count-falls : {X : Type 0} (p q : X → Bool) (xs : List X) (x : X) → Has xs x → p x ≡ false → q x ≡ true →
    ((y : X) → p y ≡ true → q y ≡ true) → count_by p xs + 1 ≤ count_by q xs
count-falls p q xs x there out passes up =
    sum-falls (λ y. cond {A = ℕ} (p y) 1 0) (λ y. cond {A = ℕ} (q y) 1 0) 1 xs x there
    (omega (arith, ap (λ (b : Bool). cond {A = ℕ} b 1 0) out, ap (λ (b : Bool). cond {A = ℕ} b 1 0) passes))
    (λ y h. bit-le (p y) (q y) (up y))

any-more : (p : PortNumber → Bool) (xs : List PortNumber) (n : PortNumber) → list_any p xs ≡ true →
    list_any p (xs ++ n ∷ []) ≡ true
any-more p xs n e =
    let x = any-has p xs e in has-any p (xs ++ n ∷ []) x.0 (Has-append_left xs (n ∷ []) x.0 x.1) x.2

-- a port without a number had none before
still-unnumbered : (version : ℕ) (n : PortNumber) (s : Service) (p : Port) →
    is_unnumbered (with_port version n s) p ≡ true → is_unnumbered s p ≡ true
still-unnumbered version n s p e =
    both (is_none p.number) _ (first_so (is_none p.number) _ e)
    (go (list_any (gives_number p) s.numbers) refl (second_so (is_none p.number) _ e))
  where
    go : (b : Bool) → list_any (gives_number p) s.numbers ≡ b →
        not (list_any (gives_number p) (s.numbers ++ n ∷ [])) ≡ true → not b ≡ true
    go true some none =
        never-both (not (list_any (gives_number p) (s.numbers ++ n ∷ [])))
        (ap not (any-more (gives_number p) s.numbers n some)) none
    go false some none = refl

same-is : (b : Bool) → same_bool b b ≡ true
same-is true = refl
same-is false = refl

-- the port has one now
numbered : (version number : ℕ) (s : Service) (p : Port) →
    is_unnumbered (with_port version (port_number p.target p.udp number) s) p ≡ false
numbered version number s p =
    ap (λ (b : Bool). is_none p.number && not b)
    (has-any (gives_number p) (s.numbers ++ port_number p.target p.udp number ∷ []) (port_number p.target p.udp number)
    (Has-append_right s.numbers (port_number p.target p.udp number ∷ []) (port_number p.target p.udp number) (inl refl))
    (both (p.target == p.target) (same_bool p.udp p.udp) (same-target p.target) (same-is p.udp)))
    ∙ none (is_none p.number)
  where
    same-target : (n : ℕ) → (n == n) ≡ true
    same-target n = grind (arith, nat_tests)

    none : (b : Bool) → (b && false) ≡ false
    none true = refl
    none false = refl

numbers-settle : (m version number : ℕ) (s : Service) (p : Port) → Has (unnumbered_ports s) p →
    Settles m s (with_port version (port_number p.target p.udp number) s)
numbers-settle m version number s p there =
    let v = with_port version (port_number p.target p.udp number) s in
    let at = Has-filter_cases (is_unnumbered s) s.spec.ports p there in
    record {
      coming = λ t. omega arith;
      less = omega (
        arith,
        length-filter (is_unnumbered v) s.spec.ports,
        length-filter (is_unnumbered s) s.spec.ports,
        length-filter (is_unnumbered v) (ports_of s.previous),
        length-filter (is_unnumbered s) (ports_of s.previous),
        count-falls (is_unnumbered v) (is_unnumbered s) s.spec.ports p at.0 (numbered version number s p) at.1
            (λ q e. still-unnumbered version (port_number p.target p.udp number) s q e),
        count-le (is_unnumbered v) (is_unnumbered s) (ports_of s.previous)
            (λ q h e. still-unnumbered version (port_number p.target p.udp number) s q e),
      );
    }

pub falls-port : (m version : ℕ) (w : World) (id target : ℕ) (udp : Bool) →
    RisesBetween service_id 1 w.tables.next_id w.tables.services → IsDuty w (duty.Port id target udp) →
    measure m (with_tables w (after_port version w.tables id target udp)) + 1 ≤ measure m w
falls-port m version w id target udp rises of =
    let p = of.fact.0 in
    let free : is_some (free_port w.tables udp) ≡ true =
    ap (has_free_port w.tables) (sym of.fact.4) ∙ of.fact.2 in
    go (free_port w.tables udp) free
  where
    go : (o : Option ℕ) → is_some o ≡ true →
        measure m (with_tables w (give_port version w.tables id target udp o)) + 1 ≤ measure m w
    go None e = absurd cc
    go (Some number) e =
        let p = of.fact.0 in
        subst (λ (k : ℕ). measure m (with_tables w (change_service k (with_port version (port_number target udp number))
        w.tables)) + 1 ≤ measure m w) of.id_is
        (falls-settle m w of.row (with_port version (port_number target udp number)) rises of.there
        (subst (λ (b : Bool). Settles m of.row (with_port version (port_number target b number) of.row)) of.fact.4
        (subst (λ (k : ℕ). Settles m of.row (with_port version (port_number k p.udp number) of.row)) of.fact.3
        (numbers-settle m version number of.row p of.fact.1))))

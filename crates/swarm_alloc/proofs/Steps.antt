-- First duties, and changes of no row.
use Rattle.std.proofs.Common.{◌≡◌, ◌+◌, ◌<◌, ℕ, zero, suc, Bool, true, false, cond, List, [], ◌∷◌, drop, get_or, length, Option, Some, add-one, refl, sym, ap, ◌∙◌, arith}
use Rattle.std.specs.Prelude.{◌&&◌, filter}
use Rattle.swarm_alloc.specs.Allocating.{gets_number}
use Rattle.swarm_objects.specs.Loops.Allocator.{has_free_port}
use Rattle.swarm_objects.specs.Loops.Words.{duty_where}
use Rattle.swarm_objects.specs.Rows.{first_of}
use Rattle.swarm_objects.specs.Services.Ports.{is_unnumbered}
use Rattle.swarm_objects.specs.World.{Tables}
use Rattle.swarm_objects.specs.declared.duties.Duty.{Duty}
use Rattle.swarm_objects.specs.declared.duties.Duty.TheVariants as duty
use Rattle.swarm_objects.specs.declared.services.Service.{Service}
use Rattle.swarm_objects.specs.declared.templates.Port.{Port}
use Rattle.swarm_objects.proofs.WalkLemmas.{first_left, first_right}

pub ruleset first_steps = (first_left, first_right)

next_item : {X : Type 0} (xs : List X) (i : ℕ) (d : X) → i < length xs → drop i xs ≡ get_or xs i d ∷ drop (i + 1) xs
next_item [] i d lt = absurd (omega arith)
next_item (y ∷ xs) zero d lt = refl
next_item (y ∷ xs) (suc i) d lt =
    rw add-one (next_item xs i d (omega arith) ∙ ap (λ n. get_or xs i d ∷ drop n xs) (add-one i))

-- the port duties of these ports of the service
abbrev pub duties_of_ports : Tables → Service → List Port → List Duty
duties_of_ports t s ports =
    duty_where (λ (p : Port). has_free_port t p.udp) (λ (p : Port). duty.Port s.id p.target p.udp)
    (filter (is_unnumbered s) ports)

first_item : (t : Tables) (s : Service) (p : Port) (ports : List Port) → gets_number t s p ≡ true →
    first_of (duties_of_ports t s (p ∷ ports)) ≡ Some (duty.Port s.id p.target p.udp)
first_item t s p ports e = go (is_unnumbered s p) (has_free_port t p.udp) refl e
  where
    go : (a b : Bool) → has_free_port t p.udp ≡ b → (a && b) ≡ true →
        first_of (duty_where (λ (q : Port). has_free_port t q.udp) (λ (q : Port). duty.Port s.id q.target q.udp)
        (cond a (p ∷ filter (is_unnumbered s) ports) (filter (is_unnumbered s) ports)))
        ≡ Some (duty.Port s.id p.target p.udp)
    go true true free both = rw free refl
    go true false free both = absurd cc
    go false b free both = absurd cc

-- the port at the loop's index gets a number
pub port_given : (t : Tables) (s : Service) (items : List Port) (i : ℕ) (d : Port) (yes' : Bool) (whole : Option Duty) →
    i < length items → yes' ≡ gets_number t s (get_or items i d) → yes' ≡ true →
    first_of (duties_of_ports t s (drop i items)) ≡ whole →
    Some (duty.Port s.id (get_or items i d).target (get_or items i d).udp) ≡ whole
port_given t s items i d yes' whole lt is e left =
    sym (first_item t s (get_or items i d) (drop (i + 1) items) (sym is ∙ e))
    ∙ sym (ap (λ ports. first_of (duties_of_ports t s ports)) (next_item items i d lt)) ∙ left

-- A loop over all services: each of them is the row with its id.
use Rattle.std.proofs.Common.{◌≡◌, ◌∷◌, List, Some, inl, inr, refl, subst, sym}
use Rattle.swarm_objects.proofs.RowLemmas.{row_at-Some}
use Rattle.swarm_objects.specs.Rows.{Has, row_at, service_id}
use Rattle.swarm_objects.specs.Usable.{IsUsable}
use Rattle.swarm_objects.specs.World.{Tables}
use Rattle.swarm_objects.specs.declared.services.Service.{Service}

-- those that are left are rows
pub record AreRows (t : Tables) (left : List Service) : Type 0 where
  pub each : (s : Service) → Has left s → Has t.services s

pub rows_first : (t : Tables) → AreRows t t.services
rows_first t = record { each = λ s h. h }

pub rows_next : (t : Tables) (left rest : List Service) (s : Service) → left ≡ s ∷ rest → AreRows t left → AreRows t rest
rows_next t left rest s is h = record { each = λ z has. h.each z (subst (λ l. Has l z) (sym is) (inr has)) }

pub row_is : (t : Tables) (left rest : List Service) (s : Service) → left ≡ s ∷ rest → AreRows t left → IsUsable t
    → row_at service_id s.id t.services ≡ Some s
row_is t left rest s is h usable =
    row_at-Some service_id 0 t.services s usable.sound.ordered.services
    (h.each s (subst (λ l. Has l s) (sym is) (inl refl)))

pub ruleset row_steps = (rows_first, rows_next)

-- The services that are left of a walk over all are rows.
use Rattle.std.proofs.Common.{List, Some, inl, inr, refl, subst, sym, ◌∷◌, ◌≡◌}
use Rattle.swarm_objects.proofs.RowLemmas.{row_at-Some}
use Rattle.swarm_objects.specs.Rows.{Has, row_at, service_id}
use Rattle.swarm_objects.specs.Usable.{IsUsable}
use Rattle.swarm_objects.specs.World.{Tables}
use Rattle.swarm_objects.specs.declared.services.Service.{Service}

pub record AreRows (t : Tables) (left : List Service) : Type 0 where
  pub each : (s : Service) → Has left s → row_at service_id s.id t.services ≡ Some s

pub all-rows : (t : Tables) (left : List Service) → IsUsable t → left ≡ t.services → AreRows t left
all-rows t left usable is =
    subst (AreRows t) (sym is) (record {
      each = λ s h. row_at-Some service_id 0 t.services s usable.sound.ordered.services h;
    })

pub first-row : (t : Tables) (left rest : List Service) (s : Service) → left ≡ s ∷ rest → AreRows t left →
    row_at service_id s.id t.services ≡ Some s
first-row t left rest s is rows = rows.each s (subst (λ l. Has l s) (sym is) (inl refl))

pub rest-rows : (t : Tables) (left rest : List Service) (s : Service) → left ≡ s ∷ rest → AreRows t left → AreRows t rest
rest-rows t left rest s is rows = record { each = λ v h. rows.each v (subst (λ l. Has l v) (sym is) (inr h)) }

pub ruleset row_steps = (all-rows, first-row, rest-rows)

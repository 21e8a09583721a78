-- The operations on services.
use Rattle.swarm_objects.specs.NewRows.{first_service, respecified, same_mode}
use Rattle.std.specs.Prelude.{ℕ, List, Option, Some, [], ◌∷◌, not, flat_map, option_to_list, find, None, false, ◌++◌, length, Bool, Err, Ok, true, ◌==◌, filter}
use Rattle.swarm_model.specs.Calls.Refusals.{conflict, missing_network, port_taken, network_by, bad_spec, name_taken, service_by, too_many, Done}
use Rattle.swarm_objects.specs.Refusals.{first_refusal, refuse, unless}
use Rattle.swarm_objects.specs.World.{Tables, World}
use Rattle.swarm_objects.specs.declared.replies.Refusal.{Refusal}
use Rattle.swarm_objects.specs.declared.replies.Refusal.TheVariants as refusal
use Rattle.swarm_objects.specs.declared.services.Draft.{Draft}
use Rattle.swarm_objects.specs.declared.services.Service.{Service}
use Rattle.std.specs.Option.{option_map}
use Rattle.swarm_objects.specs.Agents.Messages.{names}
use Rattle.swarm_objects.specs.Changes.{id_taken, with_tables, change_service}
use Rattle.swarm_objects.specs.Limits.{most_services}
use Rattle.swarm_objects.specs.Rows.{network_id, service_id, drop_row}
use Rattle.swarm_objects.specs.Rules.Services.{service_breaks, service_rules}
use Rattle.swarm_objects.specs.declared.ids.Kind.TheVariants as kind
use Rattle.swarm_objects.specs.declared.services.ServiceSpec.{ServiceSpec}
use Rattle.swarm_objects.specs.declared.tasks.Attempt.{Attempt}

-- Services.

-- the ids of the named networks, in order
abbrev pub network_ids : Tables → List (List ℕ) → List ℕ
network_ids t names = flat_map (λ name. option_to_list (option_map network_id (network_by t name))) names

-- the draft's specification, with the ids of the networks that it names
abbrev pub filled : Tables → Draft → ServiceSpec
filled t d = record d.spec { template = record d.spec.template { networks = network_ids t d.networks } }

abbrev pub broken_draft : Draft → Option Refusal
broken_draft d = bad_spec (find (service_breaks d) service_rules)

abbrev pub new_service : ℕ → Tables → List ℕ → Draft → Service
new_service version t name d = first_service version t.next_id name (filled t d)

abbrev pub with_service : Tables → Service → Tables
with_service t s = record (id_taken t) { services = t.services ++ s ∷ [] }

abbrev pub create_service : ℕ → World → List ℕ → Draft → Done
create_service version w name d =
    unless (first_refusal (
    broken_draft d
    ∷ name_taken (option_map service_id (service_by w.tables name))
    ∷ missing_network w.tables d.networks
    ∷ port_taken w.tables None d.spec.ports
    ∷ too_many kind.Service most_services (length w.tables.services)
    ∷ []))
    (with_tables w (with_service w.tables (new_service version w.tables name d)), w.tables.next_id)

abbrev pub put_service : World → Service → World
put_service w s = with_tables w (change_service s.id (λ old. s) w.tables)

-- why a service doesn't get the draft's specification
abbrev pub update_refusal : Tables → Option ℕ → Draft → Service → Option Refusal
update_refusal t asked d s =
    first_refusal (
    conflict asked s.version
    ∷ broken_draft d
    ∷ refuse (not (same_mode d.spec.mode s.spec.mode)) refusal.ModeChange
    ∷ missing_network t d.networks
    ∷ port_taken t (Some s.id) d.spec.ports
    ∷ [])

abbrev pub update_service : ℕ → World → Option ℕ → Draft → Service → Done
update_service version w asked d s =
    unless (update_refusal w.tables asked d s)
    (put_service w (respecified version false (filled w.tables d) s), s.id)

abbrev pub go_back : ℕ → World → Service → Option ServiceSpec → Done
go_back version w s None = Err refusal.NoPrevious
go_back version w s (Some spec) = Ok (put_service w (respecified version true spec s), s.id)

abbrev pub rollback_service : ℕ → World → Option ℕ → Service → Done
rollback_service version w asked s =
    elim (conflict asked s.version) [ Some r ↦ Err r | None ↦ go_back version w s s.previous ]

abbrev pub is_attempt_of : ℕ → Attempt → Bool
is_attempt_of service a = a.service == service

abbrev pub without_service : Tables → ℕ → Tables
without_service t id = record t {
  services = drop_row service_id id t.services;
  attempts = filter (λ a. not (is_attempt_of id a)) t.attempts;
}

abbrev pub remove_service : World → Service → Done
remove_service w s = Ok (with_tables w (without_service w.tables s.id), s.id)

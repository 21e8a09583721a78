-- An operation takes at most one id.
use Rattle.std.proofs.Common.{ℕ, ◌+◌, Option, Some, None, arith}
use Rattle.swarm_model.proofs.Base.Answers.{OnDone, given-found, given-unless, given-unless_some}
use Rattle.swarm_model.specs.Calls.Networks.{remove_network}
use Rattle.swarm_model.specs.Calls.Nodes.{remove_node, update_node}
use Rattle.swarm_objects.specs.NewRows.{respecified_node}
use Rattle.swarm_model.specs.Calls.Operations.{apply_op}
use Rattle.swarm_model.specs.Calls.Refusals.{conflict, network_by, node_by, service_by}
use Rattle.swarm_model.specs.Calls.Services.{go_back, remove_service, rollback_service, update_service}
use Rattle.swarm_objects.specs.World.{World}
use Rattle.swarm_objects.specs.declared.calls.Op.{Op}
use Rattle.swarm_objects.specs.declared.calls.Op.TheVariants as op
use Rattle.swarm_objects.specs.declared.ids.Kind.TheVariants as kind
use Rattle.swarm_objects.specs.declared.networks.Network.{Network}
use Rattle.swarm_objects.specs.declared.nodes.Node.{Node}
use Rattle.swarm_objects.specs.declared.replies.Wanted.TheVariants as wanted_by
use Rattle.swarm_objects.specs.declared.services.Service.{Service}
use Rattle.swarm_objects.specs.declared.services.ServiceSpec.{ServiceSpec}
use Rattle.swarm_plain.specs.Operations.{HasRoom}

goes-back : (n version : ℕ) (w : World) (s : Service) (spec : Option ServiceSpec) → HasRoom (n + 1) w.tables →
    OnDone (λ v. HasRoom n v.tables) (go_back version w s spec)
goes-back n version w s None room = tt
goes-back n version w s (Some spec) room = omega (arith, room)

pub room-op : (version n : ℕ) (w : World) (o : Op) → HasRoom (n + 1) w.tables →
    OnDone (λ v. HasRoom n v.tables) (apply_op version w o)
room-op version n w (op.CreateNode name draft) room =
    given-unless (λ (d : World × ℕ). HasRoom n d.0.tables) _ _ (λ e. omega (arith, room))
room-op version n w (op.UpdateNode name asked labels r a) room =
    given-found (λ (d : World × ℕ). HasRoom n d.0.tables) kind.Node (wanted_by.Name name) (node_by w.tables name)
    (λ (x : Node). update_node w asked x (respecified_node version labels r a x))
    (λ (x : Node) e. given-unless (λ (d : World × ℕ). HasRoom n d.0.tables) _ _ (λ ok. omega (arith, room)))
room-op version n w (op.RemoveNode name force) room =
    given-found (λ (d : World × ℕ). HasRoom n d.0.tables) kind.Node (wanted_by.Name name) (node_by w.tables name)
    (remove_node version w force)
    (λ (x : Node) e. given-unless (λ (d : World × ℕ). HasRoom n d.0.tables) _ _ (λ ok. omega (arith, room)))
room-op version n w (op.CreateService name d) room =
    given-unless (λ (d : World × ℕ). HasRoom n d.0.tables) _ _ (λ e. omega (arith, room))
room-op version n w (op.UpdateService name asked d) room =
    given-found (λ (d : World × ℕ). HasRoom n d.0.tables) kind.Service (wanted_by.Name name) (service_by w.tables name)
    (update_service version w asked d)
    (λ (s : Service) e. given-unless (λ (d : World × ℕ). HasRoom n d.0.tables) _ _ (λ ok. omega (arith, room)))
room-op version n w (op.RemoveService name) room =
    given-found (λ (d : World × ℕ). HasRoom n d.0.tables) kind.Service (wanted_by.Name name) (service_by w.tables name)
    (remove_service w) (λ (s : Service) e. omega (arith, room))
room-op version n w (op.RollbackService name asked) room =
    given-found (λ (d : World × ℕ). HasRoom n d.0.tables) kind.Service (wanted_by.Name name) (service_by w.tables name)
    (rollback_service version w asked)
    (λ (s : Service) e. given-unless_some (λ (d : World × ℕ). HasRoom n d.0.tables) (conflict asked s.version) _
    (λ ok. goes-back n version w s s.previous room))
room-op version n w (op.CreateNetwork name base bits) room =
    given-unless (λ (d : World × ℕ). HasRoom n d.0.tables) _ _ (λ e. omega (arith, room))
room-op version n w (op.RemoveNetwork name) room =
    given-found (λ (d : World × ℕ). HasRoom n d.0.tables) kind.Network (wanted_by.Name name) (network_by w.tables name)
    (remove_network w)
    (λ (x : Network) e. given-unless (λ (d : World × ℕ). HasRoom n d.0.tables) _ _ (λ ok. omega (arith, room)))
room-op version n w (op.SetCluster settings) room =
    given-unless (λ (d : World × ℕ). HasRoom n d.0.tables) _ _ (λ e. omega (arith, room))

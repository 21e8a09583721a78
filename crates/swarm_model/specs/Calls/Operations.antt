-- The operations of a transaction, one after the other.
use Rattle.std.specs.Prelude.{Result, ℕ, Err, List, Ok, [], ◌++◌, ◌∷◌}
use Rattle.swarm_model.specs.Calls.Cluster.{set_cluster}
use Rattle.swarm_model.specs.Calls.Networks.{new_network, remove_network, create_network}
use Rattle.swarm_objects.specs.NewRows.{respecified_node, new_node}
use Rattle.swarm_model.specs.Calls.Nodes.{create_node, update_node, remove_node}
use Rattle.swarm_model.specs.Calls.Refusals.{Done, on_network_by, on_node, on_service_by}
use Rattle.swarm_model.specs.Calls.Services.{remove_service, update_service, rollback_service, create_service}
use Rattle.swarm_objects.specs.World.{World}
use Rattle.swarm_objects.specs.declared.calls.Op.{Op}
use Rattle.swarm_objects.specs.declared.calls.Op.TheVariants as op
use Rattle.swarm_objects.specs.declared.replies.Refusal.{Refusal}

-- Any of them.

-- an operation of the entry with this number
abbrev pub apply_op : ℕ → World → Op → Done
apply_op version w (op.CreateNode name draft) = create_node version w (new_node version w.tables.next_id name draft)
apply_op version w (op.UpdateNode name asked labels r a) =
    on_node w.tables name (λ n. update_node w asked n (respecified_node version labels r a n))
apply_op version w (op.RemoveNode name force) = on_node w.tables name (remove_node version w force)
apply_op version w (op.CreateService name d) = create_service version w name d
apply_op version w (op.UpdateService name asked d) = on_service_by w.tables name (update_service version w asked d)
apply_op version w (op.RemoveService name) = on_service_by w.tables name (remove_service w)
apply_op version w (op.RollbackService name asked) = on_service_by w.tables name (rollback_service version w asked)
apply_op version w (op.CreateNetwork name base bits) =
    create_network w (new_network version w.tables.next_id name base bits)
apply_op version w (op.RemoveNetwork name) = on_network_by w.tables name (remove_network w)
apply_op version w (op.SetCluster settings) = set_cluster w settings

-- operations from the first to the last, each in the world that the earlier ones leave, after these ids
abbrev pub apply_ops : ℕ → List Op → World → List ℕ → Result (World × List ℕ) Refusal
apply_ops version [] w ids = Ok (w, ids)
apply_ops version (o ∷ ops) w ids =
    elim (apply_op version w o) [ Ok done ↦ apply_ops version ops done.0 (ids ++ done.1 ∷ []) | Err r ↦ Err r ]

-- An operation answers by what a store holds of a world, and makes the same of it in every such world.
use Rattle.std.proofs.Common.{◌≡◌, ℕ, List, [], ◌∷◌, ◌++◌, Option, Some, None, Ok, Err, refl, sym, ap, ◌∙◌}
use Rattle.swarm_model.specs.Calls.Networks.{remove_network}
use Rattle.swarm_model.specs.Calls.Nodes.{remove_node, update_node}
use Rattle.swarm_objects.specs.NewRows.{respecified_node}
use Rattle.swarm_model.specs.Calls.Operations.{apply_op, apply_ops}
use Rattle.swarm_model.specs.Calls.Refusals.{Done, conflict, found, network_by, node_by, service_by}
use Rattle.swarm_objects.specs.Refusals.{unless}
use Rattle.swarm_model.specs.Calls.Services.{go_back, remove_service, rollback_service, update_service}
use Rattle.swarm_objects.specs.World.{Tables, World}
use Rattle.swarm_objects.specs.declared.calls.Op.{Op}
use Rattle.swarm_objects.specs.declared.calls.Op.TheVariants as op
use Rattle.swarm_objects.specs.declared.ids.Kind.{Kind}
use Rattle.swarm_objects.specs.declared.ids.Kind.TheVariants as kind
use Rattle.swarm_objects.specs.declared.networks.Network.{Network}
use Rattle.swarm_objects.specs.declared.nodes.Node.{Node}
use Rattle.swarm_objects.specs.declared.replies.Refusal.{Refusal}
use Rattle.swarm_objects.specs.declared.replies.Wanted.{Wanted}
use Rattle.swarm_objects.specs.declared.replies.Wanted.TheVariants as wanted_by
use Rattle.swarm_objects.specs.declared.services.Service.{Service}
use Rattle.swarm_objects.specs.declared.services.ServiceSpec.{ServiceSpec}
use Rattle.swarm_store.specs.Inside.Done.{made, made_all}
use Rattle.swarm_store.specs.Stored.{without_sessions}
use Rattle.swarm_objects.specs.Effects.{world_with}

-- a world with what a store holds of this one
abbrev pub bare : World → World
bare w = world_with (without_sessions w.tables)

made-unless : (r : Option Refusal) (d e : World × ℕ) → without_sessions d.0.tables ≡ without_sessions e.0.tables → d.1 ≡ e.1 →
    made (unless r d) ≡ made (unless r e)
made-unless None d e tables id = ap (λ t. Ok (t, d.1)) tables ∙ ap (λ i. Ok (without_sessions e.0.tables, i)) id
made-unless (Some r) d e tables id = refl

made-found : {X : Type 0} (k : Kind) (asked : Wanted) (row : Option X) (f g : X → Done) → ((x : X) → made (f x) ≡ made (g x)) →
    made (found k asked row f) ≡ made (found k asked row g)
made-found k asked None f g same = refl
made-found k asked (Some x) f g same = same x

made-conflict : (r : Option Refusal) (d e : Done) → made d ≡ made e →
    made (elim r [ Some q ↦ Err q | None ↦ d ]) ≡ made (elim r [ Some q ↦ Err q | None ↦ e ])
made-conflict None d e same = same
made-conflict (Some r) d e same = refl

made-back : (version : ℕ) (w : World) (s : Service) (spec : Option ServiceSpec) →
    made (go_back version w s spec) ≡ made (go_back version (bare w) s spec)
made-back version w s None = refl
made-back version w s (Some spec) = refl

pub bare-op : (version : ℕ) (w : World) (o : Op) → made (apply_op version w o) ≡ made (apply_op version (bare w) o)
bare-op version w (op.CreateNode name draft) = made-unless _ _ _ refl refl
bare-op version w (op.UpdateNode name asked labels r a) =
    made-found kind.Node (wanted_by.Name name) (node_by w.tables name)
    (λ n. update_node w asked n (respecified_node version labels r a n))
    (λ n. update_node (bare w) asked n (respecified_node version labels r a n))
    (λ (n : Node). made-unless _ _ _ refl refl)
bare-op version w (op.RemoveNode name force) =
    made-found kind.Node (wanted_by.Name name) (node_by w.tables name) (remove_node version w force)
    (remove_node version (bare w) force) (λ (n : Node). made-unless _ _ _ refl refl)
bare-op version w (op.CreateService name d) = made-unless _ _ _ refl refl
bare-op version w (op.UpdateService name asked d) =
    made-found kind.Service (wanted_by.Name name) (service_by w.tables name) (update_service version w asked d)
    (update_service version (bare w) asked d) (λ (s : Service). made-unless _ _ _ refl refl)
bare-op version w (op.RemoveService name) =
    made-found kind.Service (wanted_by.Name name) (service_by w.tables name) (remove_service w) (remove_service (bare w))
    (λ (s : Service). refl)
bare-op version w (op.RollbackService name asked) =
    made-found kind.Service (wanted_by.Name name) (service_by w.tables name) (rollback_service version w asked)
    (rollback_service version (bare w) asked)
    (λ (s : Service). made-conflict (conflict asked s.version) _ _ (made-back version w s s.previous))
bare-op version w (op.CreateNetwork name base bits) = made-unless _ _ _ refl refl
bare-op version w (op.RemoveNetwork name) =
    made-found kind.Network (wanted_by.Name name) (network_by w.tables name) (remove_network w) (remove_network (bare w))
    (λ (n : Network). made-unless _ _ _ refl refl)
bare-op version w (op.SetCluster settings) = made-unless _ _ _ refl refl

pub same-op : (version : ℕ) (w v : World) (o : Op) → without_sessions w.tables ≡ without_sessions v.tables →
    made (apply_op version w o) ≡ made (apply_op version v o)
same-op version w v o same =
    bare-op version w o ∙ ap (λ t. made (apply_op version (world_with t) o)) same ∙ sym (bare-op version v o)

pub same-ops : (version : ℕ) (ops : List Op) (w v : World) (ids : List ℕ) → without_sessions w.tables ≡ without_sessions v.tables →
    made_all (apply_ops version ops w ids) ≡ made_all (apply_ops version ops v ids)
same-ops version [] w v ids same = ap (λ t. Ok (t, ids)) same
same-ops version (o ∷ ops) w v ids same =
    go (apply_op version w o) (apply_op version v o) (same-op version w v o same) (λ x y is e. same-ops version ops x y is e)
  where
    go : (d e : Done) → made d ≡ made e →
        ((x y : World) (is : List ℕ) → without_sessions x.tables ≡ without_sessions y.tables →
        made_all (apply_ops version ops x is) ≡ made_all (apply_ops version ops y is)) →
        made_all (elim d [ Ok done ↦ apply_ops version ops done.0 (ids ++ done.1 ∷ []) | Err r ↦ Err r ]) ≡
        made_all (elim e [ Ok done ↦ apply_ops version ops done.0 (ids ++ done.1 ∷ []) | Err r ↦ Err r ])
    go (Ok d) (Ok e) is below =
        let both : (without_sessions d.0.tables, d.1) ≡ (without_sessions e.0.tables, e.1) = cc in
        let tables = ap (λ (p : Tables × ℕ). p.0) both in
        let id = ap (λ (p : Tables × ℕ). p.1) both in
        below d.0 e.0 (ids ++ d.1 ∷ []) tables
        ∙ ap (λ i. made_all (apply_ops version ops e.0 (ids ++ i ∷ []))) id
    go (Ok d) (Err r) is below = absurd cc
    go (Err r) (Ok e) is below = absurd cc
    go (Err r) (Err q) is below = let one : r ≡ q = cc in ap (λ x. Err x) one

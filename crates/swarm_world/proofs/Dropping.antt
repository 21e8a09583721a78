-- What removed nodes had, operation by operation.
use Rattle.std.proofs.Common.{◌≡◌, ◌∷◌, ◌∙◌, ℕ, Bool, true, false, cond, not, List, [], ap, refl, sym}
use Rattle.std.specs.Prelude.{◌==◌, map}
use Rattle.swarm_agent.specs.Times.{seen_agent}
use Rattle.swarm_objects.specs.Rows.{agent_node, drop_row}
use Rattle.swarm_objects.specs.declared.agents.NodeAgent.{NodeAgent}
use Rattle.swarm_objects.specs.declared.calls.Op.{Op}
use Rattle.swarm_objects.specs.declared.calls.Op.TheVariants as op
use Rattle.swarm_world.proofs.BesideOps.{drops-step}
use Rattle.swarm_world.specs.Inside.BesideOps.{drop_one, drops}

drops-none : {X : Type 0} (key : X → ℕ) (ops : List Op) (rows : List X) → drops key ops [] rows ≡ rows
drops-none key [] rows = refl
drops-none key (o ∷ ops) rows = refl

drop-seen : (id : ℕ) (agents : List NodeAgent) →
    drop_row agent_node id (map seen_agent agents) ≡ map seen_agent (drop_row agent_node id agents)
drop-seen id [] = refl
drop-seen id (a ∷ agents) = go (agent_node a == id) (drop-seen id agents)
  where
    go : (b : Bool) →
        drop_row agent_node id (map seen_agent agents) ≡ map seen_agent (drop_row agent_node id agents) →
        cond (not b) (seen_agent a ∷ drop_row agent_node id (map seen_agent agents))
        (drop_row agent_node id (map seen_agent agents))
        ≡ map seen_agent (cond (not b) (a ∷ drop_row agent_node id agents) (drop_row agent_node id agents))
    go true same = same
    go false same = ap (λ (all : List NodeAgent). seen_agent a ∷ all) same

one-seen : (o : Op) (id : ℕ) (agents : List NodeAgent) →
    drop_one agent_node o id (map seen_agent agents) ≡ map seen_agent (drop_one agent_node o id agents)
one-seen (op.CreateNode name draft) id agents = refl
one-seen (op.UpdateNode name asked labels r a) id agents = refl
one-seen (op.RemoveNode name force) id agents = drop-seen id agents
one-seen (op.CreateService name d) id agents = refl
one-seen (op.UpdateService name asked d) id agents = refl
one-seen (op.RemoveService name) id agents = refl
one-seen (op.RollbackService name asked) id agents = refl
one-seen (op.CreateNetwork name base bits) id agents = refl
one-seen (op.RemoveNetwork name) id agents = refl
one-seen (op.SetCluster settings) id agents = refl

pub drops-seen : (ops : List Op) (ids : List ℕ) (agents : List NodeAgent) →
    drops agent_node ops ids (map seen_agent agents) ≡ map seen_agent (drops agent_node ops ids agents)
drops-seen [] ids agents = refl
drops-seen (o ∷ ops) [] agents =
    drops-none agent_node (o ∷ ops) (map seen_agent agents)
    ∙ sym (ap (map seen_agent) (drops-none agent_node (o ∷ ops) agents))
drops-seen (o ∷ ops) (id ∷ ids) agents =
    drops-step agent_node o ops id ids (map seen_agent agents)
    ∙ ap (drops agent_node ops ids) (one-seen o id agents)
    ∙ drops-seen ops ids (drop_one agent_node o id agents)
    ∙ sym (ap (map seen_agent) (drops-step agent_node o ops id ids agents))

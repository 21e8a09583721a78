-- What stands beside the world after the operations of a transaction.
use Rattle.std.proofs.Common.{◌≡◌, ◌<◌, ◌+◌, ◌++◌, ◌∷◌, ℕ, Bool, true, false, cond, eqb, not, List, [], Ok, Err, Result, Option, Some, None, refl, sym, ap, ◌∙◌, arith, append-nil, append_assoc}
use Rattle.std.proofs.lemmas.Bool.Decides.{nat_tests}
use Rattle.std.proofs.lemmas.List.Elements.{filter-append}
use Rattle.std.specs.Prelude.{⊤, ◌==◌}
use Rattle.swarm_model.proofs.Base.Answers.{OnGiven, given-found, given-unless, given-unless_some}
use Rattle.swarm_model.proofs.Moves.Calls.{find-has}
use Rattle.swarm_model.proofs.Moves.Opening.{regroup}
use Rattle.swarm_model.proofs.Moves.Operations.{op-moves}
use Rattle.swarm_model.proofs.Moves.Rows.{between-has}
use Rattle.swarm_model.proofs.Moves.Worlds.{IsOrderly, Moves, orderly-moves}
use Rattle.swarm_model.specs.Calls.Networks.{remove_network}
use Rattle.swarm_model.specs.Calls.Nodes.{remove_node, update_node, with_agent_if}
use Rattle.swarm_objects.specs.Agents.NodeAgents.{new_agent}
use Rattle.swarm_objects.specs.NewRows.{respecified_node}
use Rattle.swarm_model.specs.Calls.Operations.{apply_op, apply_ops}
use Rattle.swarm_model.specs.Calls.Refusals.{Done, conflict, has_name, network_by, node_by, node_name, service_by}
use Rattle.swarm_model.specs.Calls.Services.{go_back, remove_service, rollback_service, update_service}
use Rattle.swarm_objects.specs.Rows.{agent_node, drop_row, node_id, sent_node, session_node}
use Rattle.swarm_objects.specs.World.{World}
use Rattle.swarm_objects.specs.declared.agents.NodeAgent.{NodeAgent}
use Rattle.swarm_objects.specs.declared.calls.Op.{Op}
use Rattle.swarm_objects.specs.declared.calls.Op.TheVariants as op
use Rattle.swarm_objects.specs.declared.ids.Kind.TheVariants as kind
use Rattle.swarm_objects.specs.declared.networks.Network.{Network}
use Rattle.swarm_objects.specs.declared.nodes.Node.{Node}
use Rattle.swarm_objects.specs.declared.replies.Refusal.{Refusal}
use Rattle.swarm_objects.specs.declared.replies.Wanted.TheVariants as wanted_by
use Rattle.swarm_objects.specs.declared.services.Service.{Service}
use Rattle.swarm_objects.specs.declared.services.ServiceSpec.{ServiceSpec}
use Rattle.swarm_world.specs.Inside.BesideOps.{IsBeside, drop_one, drops, new_agents, next_after}

-- One operation.

abbrev agents_one : Op → ℕ → List NodeAgent → List NodeAgent
agents_one (op.CreateNode name draft) n agents = with_agent_if (not draft.remote) n agents
agents_one _ n agents = agents

-- the id of a removed node was given
abbrev WasGiven : Op → ℕ → ℕ → Type 0
WasGiven (op.RemoveNode name force) id n = id < n
WasGiven _ id n = ⊤

record Makes (w : World) (o : Op) (d : World × ℕ) : Type 0 where
  pub next : d.0.tables.next_id ≡ next_after o w.tables.next_id
  pub sessions : d.0.tables.sessions ≡ drop_one session_node o d.1 w.tables.sessions
  pub sent : d.0.sent ≡ drop_one sent_node o d.1 w.sent
  pub agents : d.0.agents ≡ agents_one o w.tables.next_id (drop_one agent_node o d.1 w.agents)
  pub halted : d.0.halted ≡ w.halted
  pub given : WasGiven o d.1 w.tables.next_id

back-makes : (version : ℕ) (w : World) (name : List ℕ) (asked : Option ℕ) (s : Service) (spec : Option ServiceSpec) →
    OnGiven (Makes w (op.RollbackService name asked)) (go_back version w s spec)
back-makes version w name asked s None = tt
back-makes version w name asked s (Some spec) =
    record { next = refl; sessions = refl; sent = refl; agents = refl; halted = refl; given = tt }

makes : (version : ℕ) (w : World) (o : Op) → IsOrderly w → OnGiven (Makes w o) (apply_op version w o)
makes version w (op.CreateNode name draft) is =
    given-unless (Makes w (op.CreateNode name draft)) _ _
    (λ e. record { next = refl; sessions = refl; sent = refl; agents = refl; halted = refl; given = tt })
makes version w (op.UpdateNode name asked labels r a) is =
    given-found (Makes w (op.UpdateNode name asked labels r a)) kind.Node (wanted_by.Name name) (node_by w.tables name)
    (λ n. update_node w asked n (respecified_node version labels r a n))
    (λ (n : Node) e. given-unless (Makes w (op.UpdateNode name asked labels r a)) _ _
    (λ ok. record { next = refl; sessions = refl; sent = refl; agents = refl; halted = refl; given = tt }))
makes version w (op.RemoveNode name force) is =
    given-found (Makes w (op.RemoveNode name force)) kind.Node (wanted_by.Name name) (node_by w.tables name)
    (remove_node version w force)
    (λ (n : Node) e. given-unless (Makes w (op.RemoveNode name force)) _ _
    (λ ok. record {
      next = refl;
      sessions = refl;
      sent = refl;
      agents = refl;
      halted = refl;
      given =
          (between-has node_id 1 w.tables.next_id w.tables.nodes n is.nodes
          (find-has (has_name node_name name) w.tables.nodes n e)).1;
    }))
makes version w (op.CreateService name d) is =
    given-unless (Makes w (op.CreateService name d)) _ _
    (λ e. record { next = refl; sessions = refl; sent = refl; agents = refl; halted = refl; given = tt })
makes version w (op.UpdateService name asked d) is =
    given-found (Makes w (op.UpdateService name asked d)) kind.Service (wanted_by.Name name) (service_by w.tables name)
    (update_service version w asked d)
    (λ (s : Service) e. given-unless (Makes w (op.UpdateService name asked d)) _ _
    (λ ok. record { next = refl; sessions = refl; sent = refl; agents = refl; halted = refl; given = tt }))
makes version w (op.RemoveService name) is =
    given-found (Makes w (op.RemoveService name)) kind.Service (wanted_by.Name name) (service_by w.tables name)
    (remove_service w)
    (λ (s : Service) e. record { next = refl; sessions = refl; sent = refl; agents = refl; halted = refl; given = tt })
makes version w (op.RollbackService name asked) is =
    given-found (Makes w (op.RollbackService name asked)) kind.Service (wanted_by.Name name) (service_by w.tables name)
    (rollback_service version w asked)
    (λ (s : Service) e. given-unless_some (Makes w (op.RollbackService name asked)) (conflict asked s.version) _
    (λ ok. back-makes version w name asked s s.previous))
makes version w (op.CreateNetwork name base bits) is =
    given-unless (Makes w (op.CreateNetwork name base bits)) _ _
    (λ e. record { next = refl; sessions = refl; sent = refl; agents = refl; halted = refl; given = tt })
makes version w (op.RemoveNetwork name) is =
    given-found (Makes w (op.RemoveNetwork name)) kind.Network (wanted_by.Name name) (network_by w.tables name)
    (remove_network w)
    (λ (n : Network) e. given-unless (Makes w (op.RemoveNetwork name)) _ _
    (λ ok. record { next = refl; sessions = refl; sent = refl; agents = refl; halted = refl; given = tt }))
makes version w (op.SetCluster settings) is =
    given-unless (Makes w (op.SetCluster settings)) _ _
    (λ e. record { next = refl; sessions = refl; sent = refl; agents = refl; halted = refl; given = tt })

-- All of them, with the agents of new nodes put in beforehand.

pub drops-step : {X : Type 0} (key : X → ℕ) (o : Op) (ops : List Op) (id : ℕ) (ids : List ℕ) (rows : List X) →
    drops key (o ∷ ops) (id ∷ ids) rows ≡ drops key ops ids (drop_one key o id rows)
drops-step key (op.CreateNode name draft) ops id ids rows = refl
drops-step key (op.UpdateNode name asked labels r a) ops id ids rows = refl
drops-step key (op.RemoveNode name force) ops id ids rows = refl
drops-step key (op.CreateService name d) ops id ids rows = refl
drops-step key (op.UpdateService name asked d) ops id ids rows = refl
drops-step key (op.RemoveService name) ops id ids rows = refl
drops-step key (op.RollbackService name asked) ops id ids rows = refl
drops-step key (op.CreateNetwork name base bits) ops id ids rows = refl
drops-step key (op.RemoveNetwork name) ops id ids rows = refl
drops-step key (op.SetCluster settings) ops id ids rows = refl

other-agent : (id n : ℕ) (rest : List NodeAgent) (b : Bool) → id < n → drop_row agent_node id rest ≡ rest →
    drop_row agent_node id (with_agent_if b n [] ++ rest) ≡ with_agent_if b n [] ++ rest
other-agent id n rest true lt same =
    let other : eqb n id ≡ false = grind (arith, nat_tests, lt) in
    ap (λ (b : Bool). cond (not b) (new_agent n ∷ drop_row agent_node id rest) (drop_row agent_node id rest)) other
    ∙ ap (λ (all : List NodeAgent). new_agent n ∷ all) same
other-agent id n rest false lt same = same

-- an id that was given is no new agent's
later : (id n : ℕ) (ops : List Op) → id < n → drop_row agent_node id (new_agents n ops) ≡ new_agents n ops
later id n [] lt = refl
later id n (op.CreateNode name draft ∷ ops) lt =
    other-agent id n (new_agents (n + 1) ops) (not draft.remote) lt (later id (n + 1) ops (omega (arith, lt)))
later id n (op.UpdateNode name asked labels r a ∷ ops) lt = later id n ops lt
later id n (op.RemoveNode name force ∷ ops) lt = later id n ops lt
later id n (op.CreateService name d ∷ ops) lt = later id (n + 1) ops (omega (arith, lt))
later id n (op.UpdateService name asked d ∷ ops) lt = later id n ops lt
later id n (op.RemoveService name ∷ ops) lt = later id n ops lt
later id n (op.RollbackService name asked ∷ ops) lt = later id n ops lt
later id n (op.CreateNetwork name base bits ∷ ops) lt = later id (n + 1) ops (omega (arith, lt))
later id n (op.RemoveNetwork name ∷ ops) lt = later id n ops lt
later id n (op.SetCluster settings ∷ ops) lt = later id n ops lt

comes : (agents rest : List NodeAgent) (b : Bool) (n : ℕ) →
    agents ++ (with_agent_if b n [] ++ rest) ≡ with_agent_if b n agents ++ rest
comes agents rest true n = sym (append_assoc agents (new_agent n ∷ []) rest)
comes agents rest false n = refl

-- first in, then dropped; or as the operation goes
agents-step : (o : Op) (ops : List Op) (id n : ℕ) (agents : List NodeAgent) → WasGiven o id n →
    drop_one agent_node o id (agents ++ new_agents n (o ∷ ops))
    ≡ agents_one o n (drop_one agent_node o id agents) ++ new_agents (next_after o n) ops
agents-step (op.CreateNode name draft) ops id n agents given = comes agents (new_agents (n + 1) ops) (not draft.remote) n
agents-step (op.UpdateNode name asked labels r a) ops id n agents given = refl
agents-step (op.RemoveNode name force) ops id n agents given =
    filter-append (λ a. not (agent_node a == id)) agents (new_agents n ops)
    ∙ ap (λ (all : List NodeAgent). drop_row agent_node id agents ++ all) (later id n ops given)
agents-step (op.CreateService name d) ops id n agents given = refl
agents-step (op.UpdateService name asked d) ops id n agents given = refl
agents-step (op.RemoveService name) ops id n agents given = refl
agents-step (op.RollbackService name asked) ops id n agents given = refl
agents-step (op.CreateNetwork name base bits) ops id n agents given = refl
agents-step (op.RemoveNetwork name) ops id n agents given = refl
agents-step (op.SetCluster settings) ops id n agents given = refl

abbrev After : World → List Op → List ℕ → World × List ℕ → Type 0
After w ops ids d = (more : List ℕ) × (d.1 ≡ ids ++ more) × IsBeside w d.0 ops more

joined : (w : World) (o : Op) (ops : List Op) (ids : List ℕ) (one : World × ℕ) (d : World × List ℕ) → Makes w o one →
    After one.0 ops (ids ++ one.1 ∷ []) d → After w (o ∷ ops) ids d
joined w o ops ids one d first rest =
    let more = rest.0 in
    let is = rest.2 in (
      one.1 ∷ more,
      rest.1 ∙ regroup ids one.1 more,
      record {
        sessions =
            is.sessions ∙ ap (drops session_node ops more) first.sessions
            ∙ sym (drops-step session_node o ops one.1 more w.tables.sessions);
        sent =
            is.sent ∙ ap (drops sent_node ops more) first.sent ∙ sym (drops-step sent_node o ops one.1 more w.sent);
        agents =
            is.agents
            ∙ ap (λ (all : List NodeAgent). drops agent_node ops more (all ++ new_agents one.0.tables.next_id ops)) first.agents
            ∙ ap (λ n. drops agent_node ops more (agents_one o w.tables.next_id (drop_one agent_node o one.1 w.agents)
            ++ new_agents n ops)) first.next
            ∙ ap (drops agent_node ops more)
            (sym (agents-step o ops one.1 w.tables.next_id w.agents first.given))
            ∙ sym (drops-step agent_node o ops one.1 more (w.agents ++ new_agents w.tables.next_id (o ∷ ops)));
        halted = is.halted ∙ first.halted;
      },
    )

pub beside-ops : (version : ℕ) (ops : List Op) (w : World) (ids : List ℕ) → IsOrderly w →
    OnGiven (After w ops ids) (apply_ops version ops w ids)
beside-ops version [] w ids is =
    ([], sym (append-nil ids), record { sessions = refl; sent = refl; agents = sym (append-nil w.agents); halted = refl })
beside-ops version (o ∷ ops) w ids is =
    go (apply_op version w o) (makes version w o is) (op-moves version w o is)
    (λ v more orderly. beside-ops version ops v more orderly)
  where
    all : (one : World × ℕ) (given : Result (World × List ℕ) Refusal) → Makes w o one →
        OnGiven (After one.0 ops (ids ++ one.1 ∷ [])) given → OnGiven (After w (o ∷ ops) ids) given
    all one (Ok d) first rest = joined w o ops ids one d first rest
    all one (Err r) first rest = tt

    go : (done : Done) → OnGiven (Makes w o) done → OnGiven (λ (d : World × ℕ). Moves w d.0) done →
        ((v : World) (more : List ℕ) → IsOrderly v → OnGiven (After v ops more) (apply_ops version ops v more)) →
        OnGiven (After w (o ∷ ops) ids)
        (elim done [ Ok one ↦ apply_ops version ops one.0 (ids ++ one.1 ∷ []) | Err r ↦ Err r ])
    go (Ok one) first moves rest =
        all one _ first (rest one.0 (ids ++ one.1 ∷ []) (orderly-moves w one.0 is moves))
    go (Err r) first moves rest = tt

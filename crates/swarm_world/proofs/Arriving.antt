-- The agents of nodes that operations create come one by one, and go again.
use Rattle.std.proofs.Common.{◌≡◌, ◌≤◌, ◌+◌, ◌++◌, ◌∷◌, ◌∙◌, ℕ, Bool, true, false, cond, List, [], Ok, Err, Result, ap, append-nil, append_assoc, arith, length, ltb, refl, subst, sym}
use Rattle.std.proofs.lemmas.Bool.Decides.{nat_tests}
use Rattle.std.proofs.lemmas.List.Elements.{filter-append}
use Rattle.std.proofs.lemmas.List.{map-append}
use Rattle.std.specs.Prelude.{OnOk, map, nat_lt, not}
use Rattle.swarm_agent.specs.Agents.{agents_below}
use Rattle.swarm_agent.specs.Times.{seen_agent}
use Rattle.swarm_model.specs.Calls.Nodes.{with_agent_if}
use Rattle.swarm_objects.specs.Agents.NodeAgents.{new_agent}
use Rattle.swarm_objects.proofs.RowChanges.{with_row_last}
use Rattle.swarm_objects.specs.Rows.{IsBelow, agent_node, with_row}
use Rattle.swarm_objects.specs.declared.agents.NodeAgent.{NodeAgent}
use Rattle.swarm_objects.specs.declared.calls.Op.{Op}
use Rattle.swarm_objects.specs.declared.calls.Op.TheVariants as op
use Rattle.swarm_world.specs.Inside.BesideOps.{creates_agent, new_agents, next_after}

-- One operation.

-- those of all operations are those of the first, and of the others
one-new : (n : ℕ) (o : Op) (ops : List Op) →
    new_agents n (o ∷ ops) ≡ with_agent_if (creates_agent o) n [] ++ new_agents (next_after o n) ops
one-new n (op.CreateNode name draft) ops = refl
one-new n (op.UpdateNode name asked labels r a) ops = refl
one-new n (op.RemoveNode name force) ops = refl
one-new n (op.CreateService name d) ops = refl
one-new n (op.UpdateService name asked d) ops = refl
one-new n (op.RemoveService name) ops = refl
one-new n (op.RollbackService name asked) ops = refl
one-new n (op.CreateNetwork name base bits) ops = refl
one-new n (op.RemoveNetwork name) ops = refl
one-new n (op.SetCluster settings) ops = refl

joined : (b : Bool) (n : ℕ) (agents rest : List NodeAgent) →
    with_agent_if b n agents ++ rest ≡ agents ++ (with_agent_if b n [] ++ rest)
joined true n agents rest = append_assoc agents (new_agent n ∷ []) rest
joined false n agents rest = refl

pub came : (n : ℕ) (o : Op) (ops : List Op) (agents : List NodeAgent) →
    with_agent_if (creates_agent o) n agents ++ new_agents (next_after o n) ops ≡ agents ++ new_agents n (o ∷ ops)
came n o ops agents =
    joined (creates_agent o) n agents (new_agents (next_after o n) ops)
    ∙ ap (λ (new : List NodeAgent). agents ++ new) (sym (one-new n o ops))

-- The next id.

pub goes-on : (o : Op) (n : ℕ) → n ≤ next_after o n
goes-on (op.CreateNode name draft) n = omega arith
goes-on (op.UpdateNode name asked labels r a) n = omega arith
goes-on (op.RemoveNode name force) n = omega arith
goes-on (op.CreateService name d) n = omega arith
goes-on (op.UpdateService name asked d) n = omega arith
goes-on (op.RemoveService name) n = omega arith
goes-on (op.RollbackService name asked) n = omega arith
goes-on (op.CreateNetwork name base bits) n = omega arith
goes-on (op.RemoveNetwork name) n = omega arith
goes-on (op.SetCluster settings) n = omega arith

pub by-one : (o : Op) (n : ℕ) → next_after o n ≤ n + 1
by-one (op.CreateNode name draft) n = omega arith
by-one (op.UpdateNode name asked labels r a) n = omega arith
by-one (op.RemoveNode name force) n = omega arith
by-one (op.CreateService name d) n = omega arith
by-one (op.UpdateService name asked d) n = omega arith
by-one (op.RemoveService name) n = omega arith
by-one (op.RollbackService name asked) n = omega arith
by-one (op.CreateNetwork name base bits) n = omega arith
by-one (op.RemoveNetwork name) n = omega arith
by-one (op.SetCluster settings) n = omega arith

below-more : (m n : ℕ) (agents : List NodeAgent) → m ≤ n → IsBelow agent_node m agents → IsBelow agent_node n agents
below-more m n [] le below = tt
below-more m n (a ∷ agents) le below = (omega (arith, le, below.0), below-more m n agents le below.1)

below-new : (n : ℕ) (agents : List NodeAgent) → IsBelow agent_node n agents →
    IsBelow agent_node (n + 1) (agents ++ new_agent n ∷ [])
below-new n [] below = (omega arith, tt)
below-new n (a ∷ agents) below = (omega (arith, below.0), below-new n agents below.1)

pub still-below : (o : Op) (n : ℕ) (agents : List NodeAgent) → IsBelow agent_node n agents →
    IsBelow agent_node (next_after o n) (with_agent_if (creates_agent o) n agents)
still-below (op.CreateNode name draft) n agents below = go (not draft.remote)
  where
    go : (b : Bool) → IsBelow agent_node (n + 1) (with_agent_if b n agents)
    go true = below-new n agents below
    go false = below-more n (n + 1) agents (omega arith) below
still-below (op.UpdateNode name asked labels r a) n agents below = below
still-below (op.RemoveNode name force) n agents below = below
still-below (op.CreateService name d) n agents below = below-more n (n + 1) agents (omega arith) below
still-below (op.UpdateService name asked d) n agents below = below
still-below (op.RemoveService name) n agents below = below
still-below (op.RollbackService name asked) n agents below = below
still-below (op.CreateNetwork name base bits) n agents below = below-more n (n + 1) agents (omega arith) below
still-below (op.RemoveNetwork name) n agents below = below
still-below (op.SetCluster settings) n agents below = below

-- Cutting them off again.

pub below-all : (next : ℕ) (agents : List NodeAgent) → IsBelow agent_node next agents → agents_below next agents ≡ agents
below-all next [] below = refl
below-all next (a ∷ agents) below =
    let less : ltb (agent_node a) next ≡ true = (let is = below.0 in grind (arith, nat_tests, is)) in
    ap (λ (b : Bool). cond b (a ∷ agents_below next agents) (agents_below next agents)) less
    ∙ ap (λ (rest : List NodeAgent). a ∷ rest) (below-all next agents below.1)

above-one : (next n : ℕ) (b : Bool) → next ≤ n → agents_below next (with_agent_if b n []) ≡ []
above-one next n true le =
    let less : ltb n next ≡ false = grind (arith, nat_tests, le) in
    ap (λ (b : Bool). cond b (new_agent n ∷ []) []) less
above-one next n false le = refl

pub cut-one : (next n : ℕ) (b : Bool) (agents : List NodeAgent) → next ≤ n →
    agents_below next (with_agent_if b n agents) ≡ agents_below next agents
cut-one next n true agents le =
    filter-append (λ (a : NodeAgent). nat_lt (agent_node a) next) agents (new_agent n ∷ [])
    ∙ ap (λ (rest : List NodeAgent). agents_below next agents ++ rest) (above-one next n true le)
    ∙ append-nil (agents_below next agents)
cut-one next n false agents le = refl

above-all : (next n : ℕ) (ops : List Op) → next ≤ n → agents_below next (new_agents n ops) ≡ []
above-all next n [] le = refl
above-all next n (o ∷ ops) le =
    ap (agents_below next) (one-new n o ops)
    ∙ filter-append (λ (a : NodeAgent). nat_lt (agent_node a) next) (with_agent_if (creates_agent o) n [])
    (new_agents (next_after o n) ops)
    ∙ ap (λ (first : List NodeAgent). first ++ agents_below next (new_agents (next_after o n) ops))
    (above-one next n (creates_agent o) le)
    ∙ above-all next (next_after o n) ops (let on = goes-on o n in omega (arith, le, on))

pub cut-all : (next : ℕ) (ops : List Op) (agents : List NodeAgent) → IsBelow agent_node next agents →
    agents_below next (agents ++ new_agents next ops) ≡ agents
cut-all next ops agents below =
    filter-append (λ (a : NodeAgent). nat_lt (agent_node a) next) agents (new_agents next ops)
    ∙ ap (λ (rest : List NodeAgent). agents_below next agents ++ rest) (above-all next next ops (omega arith))
    ∙ append-nil (agents_below next agents)
    ∙ below-all next agents below

-- As they are seen.

one-seen : (b : Bool) (n : ℕ) → map seen_agent (with_agent_if b n []) ≡ with_agent_if b n []
one-seen true n = refl
one-seen false n = refl

pub new-seen : (n : ℕ) (ops : List Op) → map seen_agent (new_agents n ops) ≡ new_agents n ops
new-seen n [] = refl
new-seen n (o ∷ ops) =
    ap (map seen_agent) (one-new n o ops)
    ∙ map-append seen_agent (with_agent_if (creates_agent o) n []) (new_agents (next_after o n) ops)
    ∙ ap (λ (first : List NodeAgent). first ++ map seen_agent (new_agents (next_after o n) ops))
    (one-seen (creates_agent o) n)
    ∙ ap (λ (rest : List NodeAgent). with_agent_if (creates_agent o) n [] ++ rest) (new-seen (next_after o n) ops)
    ∙ sym (one-new n o ops)

-- One agent more.

pub comes-last : {X E : Type 0} (id : ℕ) (a : NodeAgent) (b : Bool) (agents new : List NodeAgent) (result : Result X E) →
    a ≡ new_agent id → b ≡ true → IsBelow agent_node id agents →
    OnOk result (new ≡ with_row agent_node (seen_agent a) agents) → OnOk result (new ≡ with_agent_if b id agents)
comes-last id a b agents new (Err e) is creates below came = tt
comes-last id a b agents new (Ok x) is creates below came =
    came
    ∙ ap (λ (x : NodeAgent). with_row agent_node (seen_agent x) agents) is
    ∙ with_row_last agent_node (new_agent id) agents below
    ∙ ap (λ (b : Bool). with_agent_if b id agents) (sym creates)

-- Operation by operation.

pub record AreComing (next id : ℕ) (rest ops : List Op) (agents first : List NodeAgent) : Type 0 where
  pub left : agents ++ new_agents id rest ≡ first ++ new_agents next ops
  pub below : IsBelow agent_node id agents
  pub back : agents_below next agents ≡ first
  pub from : next ≤ id
  pub ids : id + length rest ≤ next + length ops

pub coming-first : (next : ℕ) (ops : List Op) (first : List NodeAgent) → IsBelow agent_node next first →
    AreComing next next ops ops first first
coming-first next ops first below = record {
  left = refl;
  below = below;
  back = below-all next first below;
  from = omega arith;
  ids = omega arith;
}

coming-one : (next id : ℕ) (o : Op) (more ops : List Op) (agents first : List NodeAgent) →
    AreComing next id (o ∷ more) ops agents first →
    AreComing next (next_after o id) more ops (with_agent_if (creates_agent o) id agents) first
coming-one next id o more ops agents first are = record {
  left = came id o more agents ∙ are.left;
  below = still-below o id agents are.below;
  back = cut-one next id (creates_agent o) agents are.from ∙ are.back;
  from = (let on = goes-on o id in omega (arith, on, are.from));
  ids = (let one = by-one o id in omega (arith, one, are.ids));
}

pub coming-next : (next id later : ℕ) (o : Op) (rest more ops : List Op) (agents new first : List NodeAgent) →
    rest ≡ o ∷ more → new ≡ with_agent_if (creates_agent o) id agents → later ≡ next_after o id →
    AreComing next id rest ops agents first → AreComing next later more ops new first
coming-next next id later o rest more ops agents new first is came number are =
    subst (λ k. AreComing next k more ops new first) (sym number)
    (subst (λ (all : List NodeAgent). AreComing next (next_after o id) more ops all first) (sym came)
    (coming-one next id o more ops agents first
    (subst (λ (left : List Op). AreComing next id left ops agents first) is are)))

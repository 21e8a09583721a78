-- The agents are those of the modelled nodes, in order.
use Rattle.std.proofs.Common.{Bool, List, [], ap, arith, cond, eqb, false, inl, inr, not, refl, sym, true, ℕ, ◌++◌, ◌∙◌, ◌∷◌, ◌≡◌}
use Rattle.std.proofs.lemmas.Bool.Decides.{nat_tests}
use Rattle.std.specs.Prelude.{filter, map}
use Rattle.swarm_settle.specs.Sent.{inside_numbers, is_inside}
use Rattle.swarm_objects.specs.Agents.NodeAgents.{new_agent}
use Rattle.swarm_model.specs.Calls.Nodes.{with_agent_if}
use Rattle.swarm_objects.specs.Rows.{Has, agent_node, change_row, drop_row, itself, node_id}
use Rattle.swarm_objects.specs.declared.agents.NodeAgent.{NodeAgent}
use Rattle.swarm_objects.specs.declared.nodes.Node.{Node}

-- The numbers of nodes.

abbrev pub unless_remote : Bool → ℕ → List ℕ → List ℕ
unless_remote true k ks = ks
unless_remote false k ks = k ∷ ks

first-number : (n : Node) (ns : List Node) → inside_numbers (n ∷ ns) ≡ unless_remote n.remote n.id (inside_numbers ns)
first-number n ns = go n.remote
  where
    go : (b : Bool) →
        map node_id (cond (not b) (n ∷ filter is_inside ns) (filter is_inside ns))
        ≡ unless_remote b n.id (inside_numbers ns)
    go true = refl
    go false = refl

abbrev pub KeepsPlace : Node → Node → Type 0
KeepsPlace n m = (m.id ≡ n.id) × (m.remote ≡ n.remote)

pub numbers-map : (g : Node → Node) (ns : List Node) → ((n : Node) → Has ns n → KeepsPlace n (g n)) →
    inside_numbers (map g ns) ≡ inside_numbers ns
numbers-map g [] each = refl
numbers-map g (n ∷ ns) each =
    let one = each n (inl refl) in
    first-number (g n) (map g ns) ∙ ap (λ (k : ℕ). unless_remote (g n).remote k (inside_numbers (map g ns))) one.0
    ∙ ap (λ (b : Bool). unless_remote b n.id (inside_numbers (map g ns))) one.1
    ∙ ap (unless_remote n.remote n.id) (numbers-map g ns (λ m h. each m (inr h)))
    ∙ sym (first-number n ns)

pub numbers-change : (id : ℕ) (f : Node → Node) (ns : List Node) →
    ((n : Node) → Has ns n → n.id ≡ id → KeepsPlace n (f n)) →
    inside_numbers (change_row node_id id f ns) ≡ inside_numbers ns
numbers-change id f ns each =
    numbers-map (λ n. cond (eqb n.id id) (f n) n) ns (λ n h. go n h (eqb n.id id) refl)
  where
    go : (n : Node) → Has ns n → (b : Bool) → eqb n.id id ≡ b → KeepsPlace n (cond b (f n) n)
    go n h true e = each n h (grind (arith, nat_tests, e))
    go n h false e = (refl, refl)

pub numbers-drop : (k : ℕ) (ns : List Node) →
    inside_numbers (drop_row node_id k ns) ≡ drop_row itself k (inside_numbers ns)
numbers-drop k [] = refl
numbers-drop k (n ∷ ns) =
    left (not (eqb n.id k))
    ∙ ap (λ (ks : List ℕ). cond (not (eqb n.id k)) (unless_remote n.remote n.id ks) ks) (numbers-drop k ns)
    ∙ right n.remote ∙ sym (ap (drop_row itself k) (first-number n ns))
  where
    left : (b : Bool) →
        inside_numbers (cond b (n ∷ drop_row node_id k ns) (drop_row node_id k ns))
        ≡ cond b (unless_remote n.remote n.id (inside_numbers (drop_row node_id k ns)))
        (inside_numbers (drop_row node_id k ns))
    left true = first-number n (drop_row node_id k ns)
    left false = refl

    same : (b : Bool) (ks : List ℕ) → cond b ks ks ≡ ks
    same true ks = refl
    same false ks = refl

    right : (r : Bool) →
        cond (not (eqb n.id k)) (unless_remote r n.id (drop_row itself k (inside_numbers ns)))
        (drop_row itself k (inside_numbers ns))
        ≡ drop_row itself k (unless_remote r n.id (inside_numbers ns))
    right true = same (not (eqb n.id k)) (drop_row itself k (inside_numbers ns))
    right false = refl

pub numbers-push : (n : Node) (ns : List Node) →
    inside_numbers (ns ++ n ∷ []) ≡ inside_numbers ns ++ unless_remote n.remote n.id []
numbers-push n [] = first-number n []
numbers-push n (m ∷ ns) =
    first-number m (ns ++ n ∷ []) ∙ ap (unless_remote m.remote m.id) (numbers-push n ns)
    ∙ go m.remote ∙ sym (ap (λ (ks : List ℕ). ks ++ unless_remote n.remote n.id []) (first-number m ns))
  where
    go : (b : Bool) →
        unless_remote b m.id (inside_numbers ns ++ unless_remote n.remote n.id [])
        ≡ unless_remote b m.id (inside_numbers ns) ++ unless_remote n.remote n.id []
    go true = refl
    go false = refl

-- The nodes of agents.

pub agents-map : (g : NodeAgent → NodeAgent) (agents : List NodeAgent) → ((a : NodeAgent) → (g a).node ≡ a.node) →
    map agent_node (map g agents) ≡ map agent_node agents
agents-map g [] same = refl
agents-map g (a ∷ rest) same =
    ap (λ (k : ℕ). k ∷ map agent_node (map g rest)) (same a)
    ∙ ap (λ (ks : List ℕ). a.node ∷ ks) (agents-map g rest same)

pub agents-change : (id : ℕ) (f : NodeAgent → NodeAgent) (agents : List NodeAgent) →
    ((a : NodeAgent) → (f a).node ≡ a.node) →
    map agent_node (change_row agent_node id f agents) ≡ map agent_node agents
agents-change id f agents same = agents-map (λ a. cond (eqb a.node id) (f a) a) agents (λ a. go a (eqb a.node id))
  where
    go : (a : NodeAgent) (b : Bool) → (cond b (f a) a).node ≡ a.node
    go a true = same a
    go a false = refl

pub agents-drop : (k : ℕ) (agents : List NodeAgent) →
    map agent_node (drop_row agent_node k agents) ≡ drop_row itself k (map agent_node agents)
agents-drop k [] = refl
agents-drop k (a ∷ rest) = go (not (eqb a.node k)) (agents-drop k rest)
  where
    go : (b : Bool) → map agent_node (drop_row agent_node k rest) ≡ drop_row itself k (map agent_node rest) →
        map agent_node (cond b (a ∷ drop_row agent_node k rest) (drop_row agent_node k rest))
        ≡ cond b (a.node ∷ drop_row itself k (map agent_node rest)) (drop_row itself k (map agent_node rest))
    go true ih = ap (λ (ks : List ℕ). a.node ∷ ks) ih
    go false ih = ih

pub agents-push : (n : Node) (agents : List NodeAgent) →
    map agent_node (with_agent_if (not n.remote) n.id agents) ≡ map agent_node agents ++ unless_remote n.remote n.id []
agents-push n agents = go n.remote
  where
    pushed : (agents : List NodeAgent) →
        map agent_node (agents ++ new_agent n.id ∷ []) ≡ map agent_node agents ++ n.id ∷ []
    pushed [] = refl
    pushed (a ∷ rest) = ap (λ (ks : List ℕ). a.node ∷ ks) (pushed rest)

    none : (ks : List ℕ) → ks ≡ ks ++ []
    none [] = refl
    none (k ∷ ks) = ap (λ (js : List ℕ). k ∷ js) (none ks)

    go : (b : Bool) →
        map agent_node (with_agent_if (not b) n.id agents) ≡ map agent_node agents ++ unless_remote b n.id []
    go true = none (map agent_node agents)
    go false = pushed agents

-- What a wake leaves of the agents' spans as time goes by, and whose session may have ended by then.
use Rattle.std.proofs.Common.{[], Bool, List, Option, ap, arith, cond, false, inl, inr, not, refl, subst, sym, true, ℕ, ◌-◌, ◌<◌, ◌^◌, ◌∙◌, ◌≡◌, ◌≤◌, ◌⊎◌}
use Rattle.std.proofs.lemmas.Bool.Decides.{nat_tests}
use Rattle.std.specs.Prelude.{filter, is_some, map, max, nat_le, ◌||◌}
use Rattle.swarm_objects.proofs.RowLemmas.{Has-filter, Has-map, Has-map_cases}
use Rattle.swarm_objects.proofs.Tests.{both, both_are}
use Rattle.swarm_objects.specs.Loops.Agents.{duties_on, is_mode_on}
use Rattle.swarm_objects.specs.Loops.Dispatcher.{is_expired}
use Rattle.swarm_objects.specs.Nodes.Sessions.{is_before_deadline, is_session_live}
use Rattle.swarm_objects.specs.Nodes.Words.{is_ready}
use Rattle.swarm_objects.specs.Rows.{Has, agent_node, first_of, node_id, row_at, session_node}
use Rattle.swarm_objects.specs.World.{Tables, World}
use Rattle.swarm_objects.specs.declared.agents.NodeAgent.{NodeAgent}
use Rattle.swarm_objects.specs.declared.nodes.Node.{Node}
use Rattle.swarm_objects.specs.declared.sessions.NodeSession.{NodeSession}
use Rattle.swarm_settle.specs.Asked.{may_wait}
use Rattle.swarm_settle.specs.Sent.{HasOwners}
use Rattle.swarm_spans.specs.Spans.{Covers, IsWider, is_in}
use Rattle.swarm_spans.specs.TasksCovered.{at_time}
use Rattle.swarm_spans.specs.Wakes.{wake_at}
use Rattle.swarm_spans.specs.declared.span.Span.{Span}
use Rattle.swarm_spans.specs.declared.wakes.Wakes.{Wakes}
use Rattle.swarm_world.proofs.AgentsShown.{is_busy}
use Rattle.swarm_world.proofs.Restless.{busy-later, live-before}
use Rattle.swarm_model.specs.Settle.{executor_wait}
use Rattle.swarm_world.specs.Inside.Looks.{at_clock, is_restless}

-- each number whose time has come by then joined the span, and each other one keeps its time
pub record Wakens (until : ℕ) (wakes later : Wakes) (span wide : Span) : Type 0 where
  pub wider : IsWider wide span
  pub woken : (node : ℕ) → 0 < node → node < 2 ^ 64 → wake_at wakes node ≤ until → is_in wide node ≡ true
  pub others : (node : ℕ) → 0 < node → node < 2 ^ 64 →
      (is_in wide node ≡ true) ⊎ (wake_at later node ≡ wake_at wakes node)

-- the numbers of agents are those of rows
pub record AreNear (agents : List NodeAgent) : Type 0 where
  pub above : (a : NodeAgent) → Has agents a → 0 < a.node
  pub below : (a : NodeAgent) → Has agents a → a.node < 2 ^ 64

module _ (w : World) (wakes later : Wakes) (span wide : Span) (until clock : ℕ) (agents : List NodeAgent)
    (wakens : Wakens until wakes later span wide) (near : AreNear agents) (after : w.tables.clock ≤ clock)
    (by : clock ≤ until) (covers : Covers agent_node (is_restless wakes w) span agents) where
  -- an agent that is in for something before it is woken was in the span
  in-before : (a : NodeAgent) → Has agents a → nat_le (wake_at wakes a.node) until ≡ false →
      is_busy (at_clock (max w.tables.clock (wake_at wakes a.node - 1)) w) a ≡ true → is_in wide a.node ≡ true
  in-before a there asleep busy = wakens.wider.has a.node (covers.has a there busy)

  woke : (a : NodeAgent) → Has agents a → nat_le (wake_at wakes a.node) until ≡ true → is_in wide a.node ≡ true
  woke a there come =
      wakens.woken a.node (near.above a there) (near.below a there) (grind (arith, nat_tests, come))

  -- an agent with a duty then is in the span
  pub woken-covers : Covers agent_node (is_busy (at_clock clock w)) wide agents
  woken-covers = record { has = λ a there busy. go a there busy (nat_le (wake_at wakes a.node) until) refl }
    where
      go : (a : NodeAgent) → Has agents a → is_busy (at_clock clock w) a ≡ true → (b : Bool) →
          nat_le (wake_at wakes a.node) until ≡ b → is_in wide a.node ≡ true
      go a there busy true come = woke a there come
      go a there busy false asleep =
          let lt : until < wake_at wakes a.node = grind (arith, nat_tests, asleep) in
          in-before a there asleep
          (busy-later w a clock (max w.tables.clock (wake_at wakes a.node - 1)) (omega (arith, lt, by)) busy)

  -- and so is one that will have one before it is woken
  pub sleeping-covers : Covers agent_node (is_restless later (at_clock clock w)) wide agents
  sleeping-covers = record { has = λ a there restless. go a there restless (nat_le (wake_at wakes a.node) until) refl }
    where
      kept : (a : NodeAgent) → Has agents a → is_restless later (at_clock clock w) a ≡ true →
          nat_le (wake_at wakes a.node) until ≡ false → wake_at later a.node ≡ wake_at wakes a.node →
          is_in wide a.node ≡ true
      kept a there restless asleep same =
          let lt : until < wake_at wakes a.node = grind (arith, nat_tests, asleep) in
          let at : max clock (wake_at later a.node - 1) ≡ max w.tables.clock (wake_at wakes a.node - 1) =
          ap (λ time. max clock (time - 1)) same ∙ omega (arith, lt, by, after) in
          in-before a there asleep (subst (λ c. is_busy (at_clock c w) a ≡ true) at restless)

      go : (a : NodeAgent) → Has agents a → is_restless later (at_clock clock w) a ≡ true → (b : Bool) →
          nat_le (wake_at wakes a.node) until ≡ b → is_in wide a.node ≡ true
      go a there restless true come = woke a there come
      go a there restless false asleep =
          elim (wakens.others a.node (near.above a there) (near.below a there)) [
            | inl is ↦ is
            | inr same ↦ kept a there restless asleep same
          ]

-- Whose session may have ended.

-- an agent that is on registers where its session isn't live
lost-busy : (w : World) (a : NodeAgent) → is_mode_on a.mode ≡ true → is_session_live w.tables a.node ≡ false →
    is_busy w a ≡ true
lost-busy w a on lost =
    ap (λ b. is_some (first_of (cond b (duties_on w a (is_session_live w.tables a.node)) []))) on
    ∙ ap (λ live. is_some (first_of (duties_on w a live))) lost

off-waits : (a : NodeAgent) → is_mode_on a.mode ≡ false → may_wait a ≡ true
off-waits a off = ap (λ b. not b || is_some (first_of (executor_wait a))) off

-- each node that isn't remote has an agent
agent-of : (w : World) (n : Node) → HasOwners w → Has w.tables.nodes n → n.remote ≡ false →
    (a : NodeAgent) × Has w.agents a × (a.node ≡ n.id)
agent-of w n owners there inside =
    let number : Has (map node_id (filter (λ m. not m.remote) w.tables.nodes)) n.id =
    Has-map node_id (filter (λ m. not m.remote) w.tables.nodes) n
    (Has-filter (λ m. not m.remote) w.tables.nodes n there (ap not inside)) in
    let of = Has-map_cases agent_node w.agents n.id (subst (λ ns. Has ns n.id) (sym owners) number) in
    (of.0, of.1, of.2)

not-is : (b : Bool) → not b ≡ true → b ≡ false
not-is true is = absurd cc
not-is false is = refl

-- a READY node without a live session at this time had none now, or its agent wakes, or isn't on, or it is remote
pub ended_within : (w : World) (duties waits remotes ends expired : Span) (clock : ℕ) → HasOwners w →
    Covers agent_node (is_busy (at_clock clock w)) duties w.agents → Covers agent_node may_wait waits w.agents →
    Covers node_id (λ n. n.remote) remotes w.tables.nodes → IsWider ends duties → IsWider ends waits →
    IsWider ends remotes → (n : Node) → Has w.tables.nodes n → is_expired (at_time clock w.tables) n ≡ true →
    is_in ends n.id ≡ true
ended_within w duties waits remotes ends expired clock owners busy off far wide-duties wide-waits wide-remotes n there is =
    go n.remote refl
  where
    lost : is_session_live (at_clock clock w).tables n.id ≡ false
    lost =
        not-is (is_session_live (at_time clock w.tables) n.id)
        (both_are (is_ready n.state) (not (is_session_live (at_time clock w.tables) n.id)) is).1

    go : (b : Bool) → n.remote ≡ b → is_in ends n.id ≡ true
    go true remote = wide-remotes.has n.id (far.has n there remote)
    go false inside =
        let a = agent-of w n owners there inside in
        mode a.0 a.1 a.2 (is_mode_on a.0.mode) refl
      where
        mode : (a : NodeAgent) → Has w.agents a → a.node ≡ n.id → (b : Bool) → is_mode_on a.mode ≡ b →
            is_in ends n.id ≡ true
        mode a at same true on =
            subst (λ k. is_in ends k ≡ true) same
            (wide-duties.has a.node
            (busy.has a at
            (lost-busy (at_clock clock w) a on
            (subst (λ k. is_session_live (at_clock clock w).tables k ≡ false) (sym same) lost))))
        mode a at same false isnt =
            subst (λ k. is_in ends k ≡ true) same (wide-waits.has a.node (off.has a at (off-waits a isnt)))

-- one that has none at an earlier time has none now
pub ended-before : (t : Tables) (clock : ℕ) (n : Node) → clock ≤ t.clock → is_expired (at_time clock t) n ≡ true →
    is_expired t n ≡ true
ended-before t clock n le is =
    let parts = both_are (is_ready n.state) (not (is_session_live (at_time clock t) n.id)) is in
    both (is_ready n.state) (not (is_session_live t n.id)) parts.0
    (go (is_before_deadline t.clock o) (is_before_deadline clock o) refl refl parts.1)
  where
    o : Option NodeSession
    o = row_at session_node n.id t.sessions

    go : (now before : Bool) → is_before_deadline t.clock o ≡ now → is_before_deadline clock o ≡ before →
        not before ≡ true → not now ≡ true
    go false before live was none = refl
    go true false live was none =
        absurd (let wrong : false ≡ true = sym was ∙ live-before clock t.clock o le live in cc)
    go true true live was none = absurd cc

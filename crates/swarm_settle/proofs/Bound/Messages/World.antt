-- What every world of a legal history has of its messages, beside rows in order; each duty keeps it.
use Rattle.std.proofs.Common.{Err, List, Ok, Option, ap, inl, inr, subst, sym, true, ℕ, ◌+◌, ◌∙◌, ◌≡◌, ◌⊎◌}
use Rattle.std.specs.Prelude.{filter}
use Rattle.swarm_settle.proofs.Bound.Counting.{MayCome}
use Rattle.swarm_settle.proofs.Bound.Messages.Agents.{AgentsCome, IsBare, KeepsAgent, call-come}
use Rattle.swarm_settle.proofs.Bound.Messages.Once.{AllOnce, come-once, duty-once}
use Rattle.swarm_settle.proofs.Bound.Messages.RankDuties.{AgentInRank, AllInRank, duty-rank, ranks-kept}
use Rattle.swarm_settle.proofs.Bound.Messages.Ranks.{InRank, rank-moves, rank-new}
use Rattle.swarm_settle.proofs.Bound.Messages.Work.{AllTimed, TasksTimed, come-timed, duty-timed}
use Rattle.swarm_settle.proofs.Bound.Proper.{Proper, proper-keeps, proper-replay}
use Rattle.swarm_model.proofs.Base.Answers.{OnGiven}
use Rattle.swarm_model.proofs.Base.FromLists.{IsDuty-due}
use Rattle.swarm_model.proofs.Base.Histories.{replay-snoc, room_duty}
use Rattle.swarm_model.proofs.Base.IsDuty.{IsDuty}
use Rattle.swarm_model.proofs.Laws.GivesOut.{GivesOut, duty-gives}
use Rattle.swarm_model.proofs.Laws.GivesOutReplay.{whole-replay}
use Rattle.swarm_model.proofs.Laws.KeptDuties.{duty-keeps}
use Rattle.swarm_model.proofs.Laws.Orderly.{step-moves}
use Rattle.swarm_model.proofs.Moves.EachDuty.{duty-moves}
use Rattle.swarm_model.proofs.Moves.Worlds.{IsOrderly, TablesMove, orderly-moves}
use Rattle.swarm_model.specs.Calls.{answer, answered}
use Rattle.swarm_model.specs.History.{IsLegal, effect, may_follow, replay, step}
use Rattle.swarm_model.specs.Outcome.{Answered}
use Rattle.swarm_objects.proofs.RowLemmas.{Has-filter_cases, Has-map, Has-map_cases}
use Rattle.swarm_objects.specs.Agents.Messages.{assigned_task, due_set}
use Rattle.swarm_objects.specs.Duties.{effect_by}
use Rattle.swarm_objects.specs.Rows.{Has, IsRising, agent_node, node_id}
use Rattle.swarm_objects.specs.World.{Tables, World, empty_world}
use Rattle.swarm_objects.specs.declared.agents.Executor.{Executor}
use Rattle.swarm_objects.specs.declared.agents.NodeAgent.{NodeAgent}
use Rattle.swarm_objects.specs.declared.calls.Entry.{Entry}
use Rattle.swarm_objects.specs.declared.calls.What.TheVariants as what
use Rattle.swarm_objects.specs.declared.calls.What.{What}
use Rattle.swarm_objects.specs.declared.duties.Duty.{Duty}
use Rattle.swarm_objects.specs.declared.messages.Message.{Message}
use Rattle.swarm_objects.specs.declared.nodes.Node.{Node}
use Rattle.swarm_objects.specs.declared.replies.Reply.{Reply}
use Rattle.swarm_settle.proofs.AimSteps.{aims-map}
use Rattle.swarm_settle.proofs.Aims.{aim_at}
use Rattle.swarm_settle.proofs.Closings.{by-last}
use Rattle.swarm_settle.proofs.DutyOwners.{duty-agents, duty-numbers}
use Rattle.swarm_settle.proofs.Together.{AllInStep, any-rising, due-rising, duty-in}
use Rattle.swarm_settle.proofs.TogetherCalls.{together-replay}
use Rattle.swarm_settle.specs.Sent.{HasOwners, is_inside}

pub record Known (w : World) : Type 0 where
  pub orderly : IsOrderly w
  -- executors, inboxes and what was sent are of tasks of the node
  pub gives : GivesOut w
  -- workloads and heartbeats take some time, ports are few
  pub proper : Proper w.tables
  -- what was sent will have its executors
  pub steps : AllInStep w.tables w.sent w.agents
  -- what is wanted of an executor, in its inbox and of its row stands in order
  pub ranks : AllInRank w.tables w.agents
  -- each executor, and each update, takes some time to prepare
  pub timed : AllTimed w.agents
  -- an inbox updates each task once
  pub once : AllOnce w.agents
  -- each modelled node has one agent
  pub owners : HasOwners w

tasks-timed : (t : Tables) → Proper t → TasksTimed t
tasks-timed t proper x h = proper.tasks x h

due-rises-all : (w : World) → IsOrderly w → (n : ℕ) → IsRising assigned_task (due_set w.tables n)
due-rises-all w orderly n = any-rising 0 (due_set w.tables n) (due-rising w.tables n orderly.tasks)

-- Duties.

pub known-effect : (w : World) (d : Duty) → Known w → IsDuty w d → Known (effect w d)
known-effect w d known of =
    let n = w.entries + 1 in
    let moves = duty-moves n w d known.orderly of in
    let orderly = orderly-moves w (effect_by n w d) known.orderly moves in
    let gives = duty-gives n w d known.orderly of known.gives in
    record {
      orderly = record {
        next = orderly.next;
        nodes = orderly.nodes;
        services = orderly.services;
        tasks = orderly.tasks;
        networks = orderly.networks;
        sessions = orderly.sessions;
        watchers = orderly.watchers;
        sent = orderly.sent;
        agents = orderly.agents;
        ids = orderly.ids;
        good = orderly.good;
        subnets = orderly.subnets;
      };
      gives = record { sent = gives.sent; agents = gives.agents };
      proper = duty-keeps Proper proper-keeps n w d known.orderly known.gives of known.proper;
      steps = duty-in n w d known.orderly known.gives of moves known.steps;
      ranks = duty-rank n w d known.orderly known.gives known.steps of moves known.ranks;
      timed = duty-timed n w d known.orderly known.gives of (tasks-timed w.tables known.proper) known.timed;
      once = duty-once n w d (due-rises-all w known.orderly) known.once;
      owners = duty-agents n w d ∙ known.owners ∙ sym (duty-numbers n w d);
    }

pub known-stays : (w : World) (d : Duty) → Known w → MayCome w d → Known (effect w d)
known-stays w d known may = known-effect w d known (IsDuty-due w d (room_duty w d may).2)

-- Calls.

come-rank : (w v : World) → AgentsCome w v → TablesMove w.tables v.tables → AllInRank w.tables w.agents →
    AllInRank v.tables v.agents
come-rank w v come moves is b h = go (come b h)
  where
    go : ((a : NodeAgent) × Has w.agents a × KeepsAgent a b) ⊎ IsBare b → AgentInRank v.tables b
    go (inl r) =
        ranks-kept v.tables r.0 b r.2.inbox
        (λ x. ap (λ (es : List Executor). aim_at es x) r.2.executors ∙ aims-map r.2.change r.0.executors x r.2.aims)
        (rank-moves w.tables v.tables r.0.inbox (aim_at r.0.executors) moves (is r.0 r.1))
    go (inr bare) =
        subst (λ (o : Option Message). InRank v.tables o (aim_at b.executors)) (sym bare.inbox)
        (rank-new v.tables (aim_at b.executors) (λ x. ap (λ (es : List Executor). aim_at es x) bare.executors))

abbrev IsRanked : World → Type 0
IsRanked w = AllInRank w.tables w.agents × AllTimed w.agents × AllOnce w.agents

answered-ranked : (w : World) (given : Answered) → TablesMove w.tables (answered w given).after.tables →
    OnGiven (λ (d : Reply × World). AgentsCome w d.1) given → IsRanked w → IsRanked (answered w given).after
answered-ranked w (Ok d) moves come is = (come-rank w d.1 come moves is.0, come-timed w d.1 come is.1, come-once w d.1 come is.2)
answered-ranked w (Err r) moves come is = is

step-ranked : (w : World) (e : What) → IsOrderly w → GivesOut w → Proper w.tables →
    AllInStep w.tables w.sent w.agents → may_follow w e ≡ true → IsRanked w → IsRanked (step w e).after
step-ranked w (what.Call c) orderly gives proper steps may is =
    answered-ranked w (answer (w.entries + 1) w c) (step-moves w (what.Call c) orderly may).tables
    (call-come (w.entries + 1) w c) is
step-ranked w (what.Duty d) orderly gives proper steps may is =
    let n = w.entries + 1 in
    let of = IsDuty-due w d (room_duty w d may).2 in (
      duty-rank n w d orderly gives steps of (duty-moves n w d orderly of) is.0,
      duty-timed n w d orderly gives of (tasks-timed w.tables proper) is.1,
      duty-once n w d (due-rises-all w orderly) is.2,
    )

ranked-replay : (h : List Entry) → IsLegal h → IsRanked (replay h)
ranked-replay h legal =
    by-last (λ g. IsRanked (replay g)) (λ a k. absurd k, λ a k. absurd k, λ a k. absurd k)
    (λ g e ok may is.
    let whole = whole-replay g ok in
    subst IsRanked (sym (replay-snoc empty_world g e))
    (step-ranked (replay g) e.what whole.0 whole.1 (proper-replay g ok) (together-replay g ok).1 may is))
    h legal

pub known-replay : (h : List Entry) → IsLegal h → Known (replay h)
known-replay h legal =
    let whole = whole-replay h legal in
    let ranked = ranked-replay h legal in
    record {
      orderly = whole.0;
      gives = whole.1;
      proper = proper-replay h legal;
      steps = (together-replay h legal).1;
      ranks = ranked.0;
      timed = ranked.1;
      once = ranked.2;
      owners = (together-replay h legal).0;
    }

-- The node of an agent.

pub its-node : (w : World) (a : NodeAgent) → Known w → Has w.agents a → (r : Node) × Has w.tables.nodes r × (r.id ≡ a.node)
its-node w a known h =
    let from = Has-map_cases node_id (filter is_inside w.tables.nodes) a.node
    (subst (λ (ks : List ℕ). Has ks a.node) known.owners (Has-map agent_node w.agents a h)) in
    let at = Has-filter_cases is_inside w.tables.nodes from.0 from.1 in
    (from.0, at.0, from.2)

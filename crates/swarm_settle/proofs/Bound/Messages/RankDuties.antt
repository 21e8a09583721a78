-- Each duty keeps what is wanted of executors, of inboxes and of tasks in order.
use Rattle.std.proofs.Common.{List, None, Option, Some, ap, refl, subst, sym, true, ℕ, ◌∙◌, ◌≡◌}
use Rattle.std.specs.Option.{option_map}
use Rattle.swarm_settle.proofs.Bound.Messages.Ranks.{InRank, due-rows, rank-applied, rank-as, rank-begun, rank-left, rank-moves, rank-pulled}
use Rattle.swarm_settle.proofs.Bound.Messages.Updates.{no-update, will-stay}
use Rattle.swarm_model.proofs.Base.IsDuty.{IsDuty}
use Rattle.swarm_model.proofs.Laws.GivesOut.{GivesOut}
use Rattle.swarm_model.proofs.Laws.Timely.{each-changed}
use Rattle.swarm_model.proofs.Moves.Rows.{between-one}
use Rattle.swarm_model.proofs.Moves.Worlds.{IsOrderly, Moves, TablesMove}
use Rattle.swarm_objects.proofs.Aims.{aim, stepped-aim}
use Rattle.swarm_objects.proofs.Tests.{first_so}
use Rattle.swarm_objects.specs.Agents.Messages.{change_executor, due_set, message_for, sent_of}
use Rattle.swarm_objects.specs.Duties.{effect_by}
use Rattle.swarm_objects.specs.Loops.Agents.{after_pull, begun, is_forgotten, received, stepped, take_in, told}
use Rattle.swarm_objects.specs.Rows.{Has, agent_node, drop_row, executor_task, row_at, sent_node}
use Rattle.swarm_objects.specs.World.{Tables, World}
use Rattle.swarm_objects.specs.declared.agents.Executor.{Executor}
use Rattle.swarm_objects.specs.declared.agents.NodeAgent.{NodeAgent}
use Rattle.swarm_objects.specs.declared.duties.Duty.TheVariants as duty
use Rattle.swarm_objects.specs.declared.duties.Duty.{Duty}
use Rattle.swarm_objects.specs.declared.messages.Message.{Message}
use Rattle.swarm_settle.proofs.AimSteps.{aims-change, row_at-drop_other, row_at-drop_same}
use Rattle.swarm_settle.proofs.Aims.{aim_at, applied-aims, is_gone}
use Rattle.swarm_settle.proofs.ShapeDuties.{found}
use Rattle.swarm_settle.proofs.Together.{AllInStep, any-rising, due-rising}

abbrev pub AgentInRank : Tables → NodeAgent → Type 0
AgentInRank t a = InRank t a.inbox (aim_at a.executors)

abbrev pub AllInRank : Tables → List NodeAgent → Type 0
AllInRank t agents = (a : NodeAgent) → Has agents a → AgentInRank t a

pub all-rank-moves : (t u : Tables) (agents : List NodeAgent) → TablesMove t u → AllInRank t agents →
    AllInRank u agents
all-rank-moves t u agents m is a h = rank-moves t u a.inbox (aim_at a.executors) m (is a h)

-- one agent's executors change and keep their aims
pub ranks-kept : (t : Tables) (a b : NodeAgent) → b.inbox ≡ a.inbox →
    ((x : ℕ) → aim_at b.executors x ≡ aim_at a.executors x) → AgentInRank t a → AgentInRank t b
ranks-kept t a b inbox aims is =
    subst (λ (o : Option Message). InRank t o (aim_at b.executors)) (sym inbox)
    (rank-as t a.inbox (aim_at a.executors) (aim_at b.executors) aims is)

take-rank : (t : Tables) (clock : ℕ) (o : Option Message) (a : NodeAgent) → a.inbox ≡ o → AgentInRank t a →
    AgentInRank t (take_in clock o a)
take-rank t clock None a at is = is
take-rank t clock (Some m) a at is =
    rank-applied t (Some m) (aim_at a.executors) _ (λ x. applied-aims clock x m a.executors)
    (subst (λ (o : Option Message). InRank t o (aim_at a.executors)) at is)

forget-rank : (w : World) (m x : ℕ) → IsOrderly w → GivesOut w → IsDuty w (duty.Forget m x) →
    AllInStep w.tables w.sent w.agents → (a : NodeAgent) → Has w.agents a → a.node ≡ m → AgentInRank w.tables a →
    AgentInRank w.tables (record a { executors = drop_row executor_task x a.executors })
forget-rank w m x orderly gives of steps a h e is =
    rank-left w.tables a.inbox (aim_at a.executors) (aim_at (drop_row executor_task x a.executors)) x
    (no-update w.tables (row_at sent_node a.node w.sent) a.inbox (aim_at a.executors) x (steps a h) dead)
    (ap (option_map aim) (row_at-drop_same executor_task x a.executors))
    (λ y away. ap (option_map aim) (row_at-drop_other executor_task x y a.executors away)) is
  where
    its : of.row ≡ a
    its = between-one agent_node 1 w.tables.next_id w.agents of.row a orderly.agents of.there h (of.id_is ∙ sym e)

    here : row_at executor_task x of.row.executors ≡ Some of.fact.1.row
    here =
        found executor_task w.tables.next_id x of.row.executors (λ f. is_forgotten f ≡ true)
        (gives.agents of.row of.there).executors.rises of.fact.1

    gone : is_gone (aim_at of.row.executors x) ≡ true
    gone =
        subst (λ (o : Option Executor). is_gone (option_map aim o) ≡ true) (sym here)
        (first_so of.fact.1.row.gone _ of.fact.1.fact)

    dead : is_gone (aim_at a.executors x) ≡ true
    dead = subst (λ (b : NodeAgent). is_gone (aim_at b.executors x) ≡ true) its gone

pull-rank : (w : World) (m : ℕ) → IsOrderly w → IsDuty w (duty.Pull m) → AllInRank w.tables w.agents →
    (o : Option Message) → message_for w m ≡ o → AllInRank (after_pull w m o).tables (after_pull w m o).agents
pull-rank w m orderly of is None at = is
pull-rank w m orderly of is (Some message) at =
    each-changed (AgentInRank w.tables) agent_node m (received message) w.agents is
    (λ a h e.
    rank-pulled w.tables (sent_of w m) (due_set w.tables m) message a.executors orderly.tasks
    (any-rising 0 (due_set w.tables m) (due-rising w.tables m orderly.tasks)) (due-rows w.tables m) at
    (subst (λ (o : Option Message). InRank w.tables o (aim_at a.executors)) (empty a h e) (is a h)))
  where
    empty : (a : NodeAgent) → Has w.agents a → a.node ≡ m → a.inbox ≡ None
    empty a h e =
        let same = between-one agent_node 1 w.tables.next_id w.agents of.row a orderly.agents of.there h
        (of.id_is ∙ sym e) in
        subst (λ (b : NodeAgent). ◌≡◌ {A = Option Message} b.inbox None) same of.fact.1.1.0

pub duty-rank : (n : ℕ) (w : World) (d : Duty) → IsOrderly w → GivesOut w → AllInStep w.tables w.sent w.agents →
    IsDuty w d → Moves w (effect_by n w d) → AllInRank w.tables w.agents →
    AllInRank (effect_by n w d).tables (effect_by n w d).agents
duty-rank n w (duty.Register m) orderly gives steps of moves is =
    each-changed (AgentInRank (effect_by n w (duty.Register m)).tables) agent_node m begun w.agents
    (all-rank-moves w.tables _ w.agents moves.tables is)
    (λ a h e.
    rank-begun _ a.inbox (aim_at a.executors) (λ x p at. will-stay x a.inbox a.executors p at)
    (rank-moves w.tables _ a.inbox (aim_at a.executors) moves.tables (is a h)))
duty-rank n w (duty.Apply m) orderly gives steps of moves is =
    each-changed (AgentInRank w.tables) agent_node m (λ a. take_in w.tables.clock a.inbox a) w.agents is
    (λ a h e. take-rank w.tables w.tables.clock a.inbox a refl (is a h))
duty-rank n w (duty.Pull m) orderly gives steps of moves is = pull-rank w m orderly of is (message_for w m) refl
duty-rank n w (duty.Exec m x) orderly gives steps of moves is =
    each-changed (AgentInRank w.tables) agent_node m
    (λ a. record a { executors = change_executor x (stepped w.tables.clock) a.executors }) w.agents is
    (λ a h e.
    ranks-kept w.tables a
    (record a { executors = change_executor x (stepped w.tables.clock) a.executors }) refl
    (λ y. aims-change x (stepped w.tables.clock) a.executors y (stepped-aim w.tables.clock)) (is a h))
duty-rank n w (duty.Report m x) orderly gives steps of moves is =
    each-changed (AgentInRank (effect_by n w (duty.Report m x)).tables) agent_node m
    (λ a. record a { executors = change_executor x told a.executors }) w.agents
    (all-rank-moves w.tables _ w.agents moves.tables is)
    (λ a h e.
    ranks-kept (effect_by n w (duty.Report m x)).tables a
    (record a { executors = change_executor x told a.executors }) refl
    (λ y. aims-change x told a.executors y (λ f. (refl, refl)))
    (rank-moves w.tables _ a.inbox (aim_at a.executors) moves.tables (is a h)))
duty-rank n w (duty.Forget m x) orderly gives steps of moves is =
    each-changed (AgentInRank w.tables) agent_node m
    (λ a. record a { executors = drop_row executor_task x a.executors }) w.agents is
    (λ a h e. forget-rank w m x orderly gives of steps a h e (is a h))
duty-rank n w d orderly gives steps of moves is = all-rank-moves w.tables _ w.agents moves.tables is

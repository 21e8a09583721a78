-- The agent of a node changes in the map as it does in each world that has these agents.
use Rattle.std.proofs.Common.{Bool, Bor, List, None, Option, Some, [], ap, cond, eqb, false, ltb, refl, subst, sym, true, ℕ, ◌∙◌, ◌∷◌, ◌≡◌}
use Rattle.std.proofs.lemmas.Map.Steps.{set_value_same}
use Rattle.std.specs.BTreeMap.{insert_entry, is_at}
use Rattle.std.specs.BTreeMap.Range.{entries_between}
use Rattle.std.specs.Map.{lookup, set_value}
use Rattle.std.specs.Map.Iter.{TakesFirst, deref_pair}
use Rattle.std.specs.Option.{option_map}
use Rattle.std.specs.Ordering.{is_lt, nat_cmp}
use Rattle.std.specs.Prelude.{Err, Ok, OnErr, OnOk, map, ◌&&◌}
use Rattle.std.specs.declared.ops.Bound.TheVariants.{Excluded, Unbounded}
use Rattle.std.specs.declared.result.Result.{Result}
use Rattle.std.specs.declared.cmp.Ordering.TheVariants.{Equal, Greater, Less}
use Rattle.swarm_agent.proofs.Seen.{times}
use Rattle.swarm_agent.specs.Agent.{AgentState, Applies, at_node, changed, executor_state, has_stale}
use Rattle.swarm_agent.specs.Agents.{AppliesOn, Changes, agent_applied, agent_row, executor_on, has_stale_on}
use Rattle.swarm_agent.specs.Times.{on_executors, seen, seen_agent}
use Rattle.swarm_agent.specs.declared.agent.ApplyFault.TheVariants as fault
use Rattle.swarm_agent.specs.declared.agent.ApplyFault.{ApplyFault}
use Rattle.swarm_objects.specs.Agents.Messages.{is_stale}
use Rattle.swarm_objects.specs.Agents.NodeAgents.{failed_agent, in_mode, started_agent}
use Rattle.swarm_objects.proofs.MapEntries.{entries-rise, lookup-entry, put-rising, set-entry, set-rising}
use Rattle.swarm_objects.proofs.RowChanges.{change_row-None, same_change}
use Rattle.swarm_objects.proofs.RowLemmas.{row_at-map}
use Rattle.swarm_objects.specs.Agents.Messages.{change_executor}
use Rattle.swarm_objects.specs.Loops.Agents.{begun, received, stepped, take_in, told}
use Rattle.swarm_objects.specs.MapEntries.{entry_key}
use Rattle.swarm_objects.specs.Rows.{IsRising, agent_node, change_row, drop_row, executor_task, first_of, is_some_and, on_row, row_above, row_at}
use Rattle.swarm_objects.specs.declared.agents.AgentMode.{AgentMode}
use Rattle.swarm_objects.specs.declared.agents.Executor.{Executor}
use Rattle.swarm_objects.specs.declared.agents.NodeAgent.{NodeAgent}
use Rattle.swarm_objects.specs.declared.messages.Message.{Message}
use Rattle.swarm_objects.specs.declared.tasks.TaskState.{TaskState}

pub found-row : (node : ℕ) (es : List (ℕ × AgentState)) →
    option_map (λ (a : AgentState). agent_row (node, a)) (lookup (is_at (nat_cmp node)) es)
    ≡ row_at agent_node node (map agent_row es)
found-row node es = lookup-entry agent_node agent_row (λ e. refl) node es

past : (k j : ℕ) → (is_lt (nat_cmp k j) && true) ≡ ltb k j
past k j = go (ltb k j) refl (eqb k j)
  where
    go : (a : Bool) → ltb k j ≡ a → (b : Bool) → (is_lt (cond a Less (cond b Equal Greater)) && true) ≡ a
    go true p b = refl
    go false p true = refl
    go false p false = refl

-- the first above a node is the first of the entries that lie above it
first-above : (k : ℕ) (es : List (ℕ × AgentState)) →
    option_map agent_row (first_of (entries_between nat_cmp (Excluded k) Unbounded es))
    ≡ row_above agent_node k (map agent_row es)
first-above k [] = refl
first-above k (e ∷ es) = go (ltb k e.0) (past k e.0) (first-above k es)
  where
    later : List (ℕ × AgentState)
    later = entries_between nat_cmp (Excluded k) Unbounded es

    go : (b : Bool) → (is_lt (nat_cmp k e.0) && true) ≡ b →
        option_map agent_row (first_of later) ≡ row_above agent_node k (map agent_row es) →
        option_map agent_row (first_of (cond (is_lt (nat_cmp k e.0) && true) (e ∷ later) later))
        ≡ cond b (Some (agent_row e)) (row_above agent_node k (map agent_row es))
    go true p rest = ap (λ (b : Bool). option_map agent_row (first_of (cond b (e ∷ later) later))) p
    go false p rest = ap (λ (b : Bool). option_map agent_row (first_of (cond b (e ∷ later) later))) p ∙ rest

pub next-above : (k : ℕ) (es from left : List (ℕ × AgentState)) (o : Option (Bor ℕ × Bor AgentState)) →
    from ≡ entries_between nat_cmp (Excluded k) Unbounded es → TakesFirst deref_pair from o left →
    option_map (λ p. seen_agent (at_node p.0.now p.1.now)) o ≡ row_above agent_node k (map agent_row es)
next-above k es from left None is taken =
    ap (λ (zs : List (ℕ × AgentState)). option_map agent_row (first_of zs)) (sym taken.0 ∙ is) ∙ first-above k es
next-above k es from left (Some p) is taken =
    ap (λ (zs : List (ℕ × AgentState)). option_map agent_row (first_of zs)) (sym taken ∙ is) ∙ first-above k es

none-row : (node : ℕ) (es : List (ℕ × AgentState)) → None ≡ lookup (is_at (nat_cmp node)) es →
    row_at agent_node node (map agent_row es) ≡ None
none-row node es at = sym (found-row node es) ∙ ap (option_map (λ (b : AgentState). agent_row (node, b))) (sym at)

-- the change depends on an agent as it is seen
abbrev pub Looks : (NodeAgent → NodeAgent) → (NodeAgent → NodeAgent) → Type 0
Looks change seen_change = (a : NodeAgent) → seen_agent (change a) ≡ seen_change (seen_agent a)

seen-changed : (node : ℕ) (f h : NodeAgent → NodeAgent) (agents : List NodeAgent) → Looks f h →
    change_row agent_node node h (map seen_agent agents) ≡ map seen_agent (change_row agent_node node f agents)
seen-changed node f h [] looks = refl
seen-changed node f h (a ∷ agents) looks =
    ap (λ (b : NodeAgent). b ∷ change_row agent_node node h (map seen_agent agents)) (go (eqb a.node node))
    ∙ ap (λ (bs : List NodeAgent). seen_agent (cond (eqb a.node node) (f a) a) ∷ bs) (seen-changed node f h agents looks)
  where
    go : (b : Bool) → cond b (h (seen_agent a)) (seen_agent a) ≡ seen_agent (cond b (f a) a)
    go true = sym (looks a)
    go false = refl

-- the agent that is there, as the call leaves it
pub changes-at : (node : ℕ) (f g h : NodeAgent → NodeAgent) (es new : List (ℕ × AgentState)) (before : List NodeAgent)
    (a after : AgentState) → map agent_row es ≡ before → IsRising entry_key es →
    Some a ≡ lookup (is_at (nat_cmp node)) es → new ≡ set_value (is_at (nat_cmp node)) es after →
    at_node node after ≡ g (at_node node a) → Looks g h → Looks f h → Changes node f before (map agent_row new)
changes-at node f g h es new before a after view rises at set is own world agents seen =
    let rows = map agent_row es in
    let there : row_at agent_node node rows ≡ Some (agent_row (node, a)) =
    sym (found-row node es) ∙ ap (option_map (λ (b : AgentState). agent_row (node, b))) (sym at) in
    let made : agent_row (node, after) ≡ h (agent_row (node, a)) = ap seen_agent is ∙ own (at_node node a) in
    ap (map agent_row) set
    ∙ set-entry agent_node agent_row (λ e. refl) node after es rises
    ∙ same_change agent_node node (λ _. agent_row (node, after)) h rows (agent_row (node, a))
    (entries-rise agent_node agent_row (λ e. refl) es rises) there made
    ∙ ap (change_row agent_node node h) (view ∙ seen) ∙ seen-changed node f h agents world

pub changes-none : (node : ℕ) (f h : NodeAgent → NodeAgent) (es : List (ℕ × AgentState)) (before : List NodeAgent) →
    map agent_row es ≡ before → None ≡ lookup (is_at (nat_cmp node)) es → Looks f h →
    Changes node f before (map agent_row es)
changes-none node f h es before view at world agents seen =
    sym (change_row-None agent_node node h (map agent_row es) (none-row node es at))
    ∙ ap (change_row agent_node node h) (view ∙ seen) ∙ seen-changed node f h agents world

-- the map goes on rising
pub set-rises : (node : ℕ) (es new : List (ℕ × AgentState)) (after : AgentState) → IsRising entry_key es →
    new ≡ set_value (is_at (nat_cmp node)) es after → IsRising entry_key new
set-rises node es new after rises set = subst (IsRising entry_key) (sym set) (set-rising node after es rises)

pub put-rises : {A B : Type 0} (node : ℕ) (es new : List (ℕ × AgentState)) (a : AgentState) (o : Result A B) →
    IsRising entry_key es → OnOk o (new ≡ insert_entry nat_cmp es node a) → OnErr o (new ≡ es) → IsRising entry_key new
put-rises node es new a (Ok done) rises put same = subst (IsRising entry_key) (sym put) (put-rising node a es rises)
put-rises node es new a (Err e) rises put same = subst (IsRising entry_key) (sym same) rises

-- The changes.

pub looks-begun : Looks begun begun
looks-begun a = refl

pub looks-received : (m : Message) → Looks (received m) (received m)
looks-received m a = refl

pub looks-taken : (clock : ℕ) → Looks (λ a. take_in clock a.inbox a) (λ a. take_in 0 a.inbox a)
looks-taken clock a = times.apply clock a

pub looks-stepped : (clock task : ℕ) →
    Looks (on_executors (change_executor task (stepped clock)))
    (λ a. seen_agent (on_executors (change_executor task (stepped clock)) a))
looks-stepped clock task a = sym (times.exec clock task a)

pub looks-told : (task : ℕ) →
    Looks (on_executors (change_executor task told)) (λ a. seen_agent (on_executors (change_executor task told) a))
looks-told task a = sym (times.tell task a)

pub looks-forgotten : (task : ℕ) →
    Looks (on_executors (drop_row executor_task task)) (on_executors (drop_row executor_task task))
looks-forgotten task a = times.forget task a

pub looks-failed : (clock : ℕ) → Looks (failed_agent clock) (failed_agent 0)
looks-failed clock a = times.fail clock a

pub looks-started : Looks started_agent started_agent
looks-started a = refl

pub looks-mode : (change : AgentMode → AgentMode) → Looks (in_mode change) (in_mode change)
looks-mode change a = refl

-- A message is applied, or refused.

stale-on : (node : ℕ) (before : List NodeAgent) (a : AgentState) →
    row_at agent_node node before ≡ Some (agent_row (node, a)) → has_stale_on node before ≡ has_stale a
stale-on node before a at = ap (is_some_and (λ (b : NodeAgent). is_some_and (is_stale b.applied) b.inbox)) at

taken-at : (node : ℕ) (a : AgentState) (o : Option Message) →
    at_node node (changed (take_in 0 o) a) ≡ take_in 0 o (at_node node a)
taken-at node a None = refl
taken-at node a (Some m) = refl

pub applies-at : (node : ℕ) (es new : List (ℕ × AgentState)) (before : List NodeAgent) (a after : AgentState)
    (result : Result Unit ApplyFault) → map agent_row es ≡ before → IsRising entry_key es →
    Some a ≡ lookup (is_at (nat_cmp node)) es → new ≡ set_value (is_at (nat_cmp node)) es after →
    Applies a result after → AppliesOn node before result (map agent_row new)
applies-at node es new before a after result view rises at set applies = go result applies
  where
    row : row_at agent_node node before ≡ Some (agent_row (node, a))
    row =
        ap (row_at agent_node node) (sym view)
        ∙ sym (found-row node es) ∙ ap (option_map (λ (b : AgentState). agent_row (node, b))) (sym at)

    same : after ≡ a → map agent_row new ≡ before
    same is =
        ap (map agent_row) (set ∙ ap (set_value (is_at (nat_cmp node)) es) is
        ∙ set_value_same (is_at (nat_cmp node)) es a (sym at))
        ∙ view

    go : (r : Result Unit ApplyFault) → Applies a r after → AppliesOn node before r (map agent_row new)
    go (Ok done) is = (
      stale-on node before a row ∙ is.0,
      λ clock.
          changes-at node (λ b. take_in clock b.inbox b) (λ b. take_in 0 b.inbox b) (λ b. take_in 0 b.inbox b) es new before a
          after view rises at set (ap (at_node node) is.1 ∙ taken-at node a a.inbox) (looks-taken 0) (looks-taken clock),
    )
    go (Err (fault.Stale n)) is =
        (stale-on node before a row ∙ is.0, ap (option_map agent_applied) row ∙ ap (λ (k : ℕ). Some k) (sym is.1), same is.2)
    go (Err fault.NoMemory) is = (stale-on node before a row ∙ is.0, same is.1)

pub applies-none : (node : ℕ) (es : List (ℕ × AgentState)) (before : List NodeAgent) → map agent_row es ≡ before →
    None ≡ lookup (is_at (nat_cmp node)) es → AppliesOn node before (Ok tt) (map agent_row es)
applies-none node es before view at = (
  ap (is_some_and (λ (b : NodeAgent). is_some_and (is_stale b.applied) b.inbox))
      (ap (row_at agent_node node) (sym view) ∙ none-row node es at),
  λ clock.
      changes-none node (λ b. take_in clock b.inbox b) (λ b. take_in 0 b.inbox b) es before view at (looks-taken clock),
)

-- The state of an executor.

seen-state : (task : ℕ) (es : List Executor) →
    option_map executor_state (row_at executor_task task (map seen es)) ≡ option_map executor_state (row_at executor_task task es)
seen-state task es = ap (option_map executor_state) (times.found task es) ∙ go (row_at executor_task task es)
  where
    go : (o : Option Executor) → option_map executor_state (option_map seen o) ≡ option_map executor_state o
    go None = refl
    go (Some e) = ap (λ (s : TaskState). Some s) (times.state e)

pub state-at : (node task : ℕ) (es : List (ℕ × AgentState)) (a : AgentState) (agents : List NodeAgent) →
    map agent_row es ≡ map seen_agent agents → Some a ≡ lookup (is_at (nat_cmp node)) es →
    option_map executor_state (row_at executor_task task a.executors)
    ≡ option_map executor_state (executor_on node task agents)
state-at node task es a agents seen at = go (row_at agent_node node agents) row
  where
    row : Some (agent_row (node, a)) ≡ option_map seen_agent (row_at agent_node node agents)
    row =
        ap (option_map (λ (b : AgentState). agent_row (node, b))) at ∙ found-row node es
        ∙ ap (row_at agent_node node) seen ∙ row_at-map agent_node node seen_agent agents (λ b. refl)

    go : (o : Option NodeAgent) → Some (agent_row (node, a)) ≡ option_map seen_agent o →
        option_map executor_state (row_at executor_task task a.executors)
        ≡ option_map executor_state (on_row None (λ b. row_at executor_task task b.executors) o)
    go None is = absurd cc
    go (Some b) is =
        let same : agent_row (node, a) ≡ seen_agent b = cc in
        sym (seen-state task a.executors)
        ∙ ap (λ (x : NodeAgent). option_map executor_state (row_at executor_task task x.executors)) same
        ∙ seen-state task b.executors

pub state-none : (node task : ℕ) (es : List (ℕ × AgentState)) (agents : List NodeAgent) →
    map agent_row es ≡ map seen_agent agents → None ≡ lookup (is_at (nat_cmp node)) es →
    ◌≡◌ {A = Option TaskState} None (option_map executor_state (executor_on node task agents))
state-none node task es agents seen at = go (row_at agent_node node agents) row
  where
    row : ◌≡◌ {A = Option NodeAgent} None (option_map seen_agent (row_at agent_node node agents))
    row =
        sym (none-row node es at) ∙ ap (row_at agent_node node) seen
        ∙ row_at-map agent_node node seen_agent agents (λ b. refl)

    go : (o : Option NodeAgent) → ◌≡◌ {A = Option NodeAgent} None (option_map seen_agent o) →
        ◌≡◌ {A = Option TaskState} None (option_map executor_state (on_row None (λ b. row_at executor_task task b.executors) o))
    go None is = refl
    go (Some b) is = absurd cc

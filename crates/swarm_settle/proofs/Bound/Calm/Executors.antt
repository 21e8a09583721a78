-- Executors of new tasks come no further than PREPARING while the time stands, under each duty.
use Rattle.std.proofs.Common.{Bool, List, None, Option, Some, ap, arith, cond, eqb, false, inl, inr, refl, subst, sym, true, ℕ, ◌+◌, ◌∙◌, ◌≡◌, ◌≤◌, ◌⊎◌}
use Rattle.std.proofs.lemmas.Bool.Decides.{nat_tests}
use Rattle.std.specs.Option.{option_map}
use Rattle.std.specs.Prelude.{nat_le, not, ◌||◌}
use Rattle.swarm_settle.proofs.Bound.Calm.Duties.{TellsLittle}
use Rattle.swarm_settle.proofs.Bound.Calm.World.{IsBegun, is_at_start, is_no_further}
use Rattle.swarm_settle.proofs.Bound.Messages.RankDuties.{AgentInRank, AllInRank}
use Rattle.swarm_settle.proofs.Bound.Messages.Ranks.{InRank}
use Rattle.swarm_settle.proofs.Bound.Messages.Updates.{IsMadeBy, SameProgress, applied-from, will-stay}
use Rattle.swarm_settle.proofs.Bound.Messages.Work.{AllTimed, IsTimed, taken-rises}
use Rattle.swarm_settle.proofs.Bound.Sending.Worlds.{rises-from}
use Rattle.swarm_model.proofs.Base.IsDuty.{IsDuty}
use Rattle.swarm_model.proofs.Laws.GivesOut.{GivesOut}
use Rattle.swarm_model.proofs.Laws.Timely.{each-changed}
use Rattle.swarm_model.proofs.Moves.Worlds.{IsOrderly}
use Rattle.swarm_objects.proofs.Aims.{Aim, aim, stepped-aim}
use Rattle.swarm_objects.proofs.RowLemmas.{Has-filter_cases, Has-from_row_at, row_at-Some}
use Rattle.swarm_objects.proofs.Tests.{or_cases, or_left, or_right}
use Rattle.swarm_objects.specs.Agents.Executors.{early_step, moved, prepared, wants_to_stop}
use Rattle.swarm_objects.specs.Agents.Messages.{applied, change_executor, message_for}
use Rattle.swarm_objects.specs.Duties.{effect_by}
use Rattle.swarm_objects.specs.Loops.Agents.{after_pull, begun, received, stepped, take_in, told}
use Rattle.swarm_objects.specs.Rows.{Has, RisesFrom, agent_node, drop_row, executor_task, on_row, row_at}
use Rattle.swarm_objects.specs.Values.Ranks.{desired_rank, rank}
use Rattle.swarm_objects.specs.World.{Tables, World}
use Rattle.swarm_objects.specs.declared.agents.Executor.{Executor}
use Rattle.swarm_objects.specs.declared.agents.NodeAgent.{NodeAgent}
use Rattle.swarm_objects.specs.declared.duties.Duty.TheVariants as duty
use Rattle.swarm_objects.specs.declared.duties.Duty.{Duty}
use Rattle.swarm_objects.specs.declared.messages.AssignChange.TheVariants as assign
use Rattle.swarm_objects.specs.declared.messages.Assigned.{Assigned}
use Rattle.swarm_objects.specs.declared.messages.Message.{Message}
use Rattle.swarm_objects.specs.declared.tasks.Desired.TheVariants as desired
use Rattle.swarm_objects.specs.declared.tasks.TaskState.TheVariants as state
use Rattle.swarm_objects.specs.declared.tasks.TaskState.{TaskState}
use Rattle.swarm_settle.proofs.Aims.{aim_at, applied-aims, is_gone, stays-gone, will}
use Rattle.swarm_settle.proofs.Together.{AllInStep}

-- Wanting to stop is told by the aim.

abbrev stops : Aim → Bool
stops p = p.1 || nat_le (desired_rank desired.Shutdown) (desired_rank p.0)

-- who wants to stop goes on wanting it, as what is wanted rises
stops-on : (p q : Aim) → (p.1 ≡ true → q.1 ≡ true) → desired_rank p.0 ≤ desired_rank q.0 → stops p ≡ true →
    stops q ≡ true
stops-on p q gone up is =
    elim (or_cases p.1 (nat_le (desired_rank desired.Shutdown) (desired_rank p.0)) is) [
      | inl e ↦ or_left q.1 (nat_le (desired_rank desired.Shutdown) (desired_rank q.0)) (gone e)
      | inr e ↦ or_right q.1 (nat_le (desired_rank desired.Shutdown) (desired_rank q.0)) (higher e)
    ]
  where
    higher : nat_le (desired_rank desired.Shutdown) (desired_rank p.0) ≡ true →
        nat_le (desired_rank desired.Shutdown) (desired_rank q.0) ≡ true
    higher e = grind (arith, nat_tests, e, up)

-- A step.

start-step : (clock : ℕ) (e : Executor) (s : TaskState) → IsTimed e.workload → wants_to_stop e ≡ false →
    is_at_start clock e.since s ≡ true → is_no_further clock (stepped clock (record e { state = s })) ≡ true
start-step clock e state.Accepted timed goes at =
    ap (λ (b : Bool). is_no_further clock (on_row (record e { state = state.Accepted }) (λ after. after)
    (cond b (Some (moved clock state.Shutdown (record e { state = state.Accepted })))
    (Some (moved clock state.Preparing (record e { state = state.Accepted })))))) goes
    ∙ or_right (wants_to_stop e) (eqb clock clock) (grind (arith, nat_tests))
start-step clock e state.Preparing timed goes at =
    ap (λ (b : Bool). is_no_further clock (on_row (record e { state = state.Preparing }) (λ after. after)
    (cond b (Some (moved clock state.Shutdown (record e { state = state.Preparing })))
    (early_step clock (record e { state = state.Preparing }) state.Preparing)))) goes
    ∙ ap (λ (b : Bool). is_no_further clock (on_row (record e { state = state.Preparing }) (λ after. after)
    (cond b (Some (moved clock (prepared e.workload.end) (record e { state = state.Preparing }))) None))) early
    ∙ or_right (wants_to_stop e) (eqb e.since clock) at
  where
    early : nat_le (e.since + e.workload.prepare) clock ≡ false
    early = grind (arith, nat_tests, timed, at)
start-step clock e _ timed goes at = absurd cc

step-begun : (clock : ℕ) (e : Executor) → IsTimed e.workload → is_no_further clock e ≡ true →
    is_no_further clock (stepped clock e) ≡ true
step-begun clock e timed is = go (wants_to_stop e) refl is
  where
    go : (b : Bool) → wants_to_stop e ≡ b → (b || is_at_start clock e.since e.state) ≡ true →
        is_no_further clock (stepped clock e) ≡ true
    go true wants k =
        or_left (wants_to_stop (stepped clock e)) _ (ap stops (stepped-aim clock e).1 ∙ wants)
    go false wants k = start-step clock e e.state timed wants k

-- A message.

its-aim : (es : List Executor) (x : ℕ) (e : Executor) → row_at executor_task x es ≡ Some e → aim_at es x ≡ Some (aim e)
its-aim es x e at = ap (option_map aim) at

aim-gone : (p : Aim) → is_gone (Some p) ≡ p.1
aim-gone p = refl

take-begun : (m clock : ℕ) (t : Tables) (o : Option Message) (a : NodeAgent) → a.inbox ≡ o →
    RisesFrom executor_task 0 (take_in clock o a).executors → AgentInRank t a → IsBegun m clock a →
    IsBegun m clock (take_in clock o a)
take-begun m clock t None a at rises ranks is f h new = is f h new
take-begun m clock t (Some message) a at rises ranks is f h new =
    go (applied-from clock f.task message a.executors f row)
  where
    row : row_at executor_task f.task (applied clock message a.executors) ≡ Some f
    row = row_at-Some executor_task 0 (applied clock message a.executors) f rises h

    next : will f.task (Some message) (aim_at a.executors f.task) ≡ Some (aim f)
    next = sym (applied-aims clock f.task message a.executors) ∙ its-aim (applied clock message a.executors) f.task f row

    from_old : (e : Executor) → row_at executor_task f.task a.executors ≡ Some e → SameProgress e f →
        is_no_further clock e ≡ true → is_no_further clock f ≡ true
    from_old e there same k =
        elim (or_cases (wants_to_stop e) (is_at_start clock e.since e.state) k) [
          | inl wants ↦ or_left (wants_to_stop f) (is_at_start clock f.since f.state) (still wants)
          | inr starts ↦ or_right (wants_to_stop f) (is_at_start clock f.since f.state)
              (ap (λ (s : TaskState). is_at_start clock f.since s) same.state
              ∙ ap (λ (k : ℕ). is_at_start clock k e.state) same.since ∙ starts)
        ]
      where
        was : aim_at a.executors f.task ≡ Some (aim e)
        was = its-aim a.executors f.task e there

        gone : e.gone ≡ true → f.gone ≡ true
        gone g =
            let dead : is_gone (aim_at a.executors f.task) ≡ true = ap is_gone was ∙ g in
            sym (ap is_gone next) ∙ stays-gone f.task (Some message) (aim_at a.executors f.task) dead

        still : wants_to_stop e ≡ true → wants_to_stop f ≡ true
        still wants =
            stops-on (aim e) (aim f) gone
            ((subst (λ (o : Option Message). InRank t o (aim_at a.executors)) at ranks).grows f.task (aim e) (aim f)
            was next) wants

    go : ((e : Executor) × (row_at executor_task f.task a.executors ≡ Some e) × SameProgress e f)
        ⊎ ((i : Assigned) × Has message.changes (assign.Update i) × (i.task ≡ f.task) × IsMadeBy i f) →
        is_no_further clock f ≡ true
    go (inl k) =
        let there = Has-from_row_at executor_task f.task a.executors k.0 k.1 in
        from_old k.0 k.1 k.2 (is k.0 there.0 (omega (arith, new, there.1)))
    go (inr k) =
        or_right (wants_to_stop f) (is_at_start clock f.since f.state)
        (ap (λ (s : TaskState). is_at_start clock f.since s) k.3.state)

-- Duties.

abbrev AllBegun : ℕ → ℕ → List NodeAgent → Type 0
AllBegun m clock agents = (a : NodeAgent) → Has agents a → IsBegun m clock a

pull-begun : (m : ℕ) (w : World) (n : ℕ) (o : Option Message) → AllBegun m w.tables.clock w.agents →
    AllBegun m w.tables.clock (after_pull w n o).agents
pull-begun m w n None is = is
pull-begun m w n (Some message) is =
    each-changed (IsBegun m w.tables.clock) agent_node n (received message) w.agents is (λ a h e. is a h)

pub duty-begun : (m version : ℕ) (w : World) (d : Duty) → IsOrderly w → GivesOut w → AllInRank w.tables w.agents →
    AllTimed w.agents → IsDuty w d → AllBegun m w.tables.clock w.agents →
    AllBegun m w.tables.clock (effect_by version w d).agents
duty-begun m version w (duty.Register n) orderly gives ranks timed of is =
    each-changed (IsBegun m w.tables.clock) agent_node n begun w.agents is (λ a h e. is a h)
duty-begun m version w (duty.Apply n) orderly gives ranks timed of is =
    each-changed (IsBegun m w.tables.clock) agent_node n (λ a. take_in w.tables.clock a.inbox a) w.agents is
    (λ a h e.
    take-begun m w.tables.clock w.tables a.inbox a refl (taken-rises version w n orderly gives of a h e)
    (ranks a h) (is a h))
duty-begun m version w (duty.Pull n) orderly gives ranks timed of is = pull-begun m w n (message_for w n) is
duty-begun m version w (duty.Exec n x) orderly gives ranks timed of is =
    each-changed (IsBegun m w.tables.clock) agent_node n
    (λ a. record a { executors = change_executor x (stepped w.tables.clock) a.executors }) w.agents is
    (λ a h e.
    each-changed (λ (f : Executor). m ≤ f.task → is_no_further w.tables.clock f ≡ true) executor_task x
    (stepped w.tables.clock) a.executors (is a h)
    (λ f k same new.
    step-begun w.tables.clock f ((timed a h).executors f k)
    (is a h f k (subst (λ (j : ℕ). m ≤ j) (stepped-aim w.tables.clock f).0 new))))
duty-begun m version w (duty.Report n x) orderly gives ranks timed of is =
    each-changed (IsBegun m w.tables.clock) agent_node n
    (λ a. record a { executors = change_executor x told a.executors }) w.agents is
    (λ a h e.
    each-changed (λ (f : Executor). m ≤ f.task → is_no_further w.tables.clock f ≡ true) executor_task x told
    a.executors (is a h) (λ f k same new. is a h f k new))
duty-begun m version w (duty.Forget n x) orderly gives ranks timed of is =
    each-changed (IsBegun m w.tables.clock) agent_node n
    (λ a. record a { executors = drop_row executor_task x a.executors }) w.agents is
    (λ a h e f k new.
    is a h f (Has-filter_cases (λ g. not (eqb (executor_task g) x)) a.executors f k).0 new)
duty-begun m version w d orderly gives ranks timed of is = is

-- Reports of new live tasks.

start-early : (clock since : ℕ) (s : TaskState) → is_at_start clock since s ≡ true → rank s ≤ rank state.Preparing
start-early clock since state.Accepted e = omega arith
start-early clock since state.Preparing e = omega arith
start-early clock since _ e = absurd cc

pub tells-little : (m : ℕ) (w : World) → IsOrderly w → GivesOut w → AllInStep w.tables w.sent w.agents →
    AllInRank w.tables w.agents → AllBegun m w.tables.clock w.agents → TellsLittle m w
tells-little m w orderly gives steps ranks is a e x ha he hx same new live =
    elim (or_cases (wants_to_stop e) (is_at_start w.tables.clock e.since e.state)
    (is a ha e he (omega (arith, new, same)))) [
      | inl wants ↦ absurd (never wants)
      | inr starts ↦ start-early w.tables.clock e.since e.state starts
    ]
  where
    row : row_at executor_task e.task a.executors ≡ Some e
    row =
        row_at-Some executor_task 0 a.executors e
        (rises-from executor_task 1 w.tables.next_id 0 a.executors (omega arith) (gives.agents a ha).executors.rises) he

    was : aim_at a.executors e.task ≡ Some (aim e)
    was = its-aim a.executors e.task e row

    not_gone : e.gone ≡ true → ⊥
    not_gone g =
        ((steps a ha).gone e.task (stays-gone e.task a.inbox (aim_at a.executors e.task) (ap is_gone was ∙ g))).away x hx
        same

    not_over : nat_le (desired_rank desired.Shutdown) (desired_rank e.desired) ≡ true → ⊥
    not_over high =
        let q = will-stay e.task a.inbox a.executors (aim e) was in
        let low = (ranks a ha).grows e.task (aim e) q.0 was q.1 in
        let most = (ranks a ha).rows x q.0 hx
        (subst (λ (k : ℕ). will k a.inbox (aim_at a.executors k) ≡ Some q.0) (sym same) q.1) in
        let goal = (orderly.good x hx).goal in
        let up : desired_rank desired.Shutdown ≤ desired_rank e.desired = grind (arith, nat_tests, high) in
        let wish : desired_rank x.desired ≤ desired_rank x.goal = grind (arith, nat_tests, live) in
        absurd (omega (arith, up, low, most, wish, goal))

    never : wants_to_stop e ≡ true → ⊥
    never wants =
        elim (or_cases e.gone (nat_le (desired_rank desired.Shutdown) (desired_rank e.desired)) wants) [
          | inl g ↦ not_gone g
          | inr high ↦ not_over high
        ]

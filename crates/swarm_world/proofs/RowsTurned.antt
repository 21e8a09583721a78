-- A duty of a loop over the rows: the spans of the agents' loop cover on where its changes touch them, and which nodes
-- these are.
use Rattle.std.proofs.Common.{◌≡◌, ◌+◌, ◌∙◌, ◌<◌, ◌⊎◌, ℕ, Bool, true, false, cond, List, Option, Some, None, ap, arith, inl, inr, refl, subst, sym}
use Rattle.swarm_model.proofs.Base.FromLists.{IsDuty-due}
use Rattle.swarm_model.proofs.Laws.GivesOutReplay.{whole-replay}
use Rattle.swarm_model.proofs.Laws.Sound.{rises-between}
use Rattle.swarm_model.proofs.Moves.EachDuty.{effect-moves}
use Rattle.swarm_model.proofs.Moves.Worlds.{orderly-moves}
use Rattle.swarm_model.specs.History.{IsLegal, effect, replay, step}
use Rattle.swarm_objects.proofs.EffectLaws.{tables_law}
use Rattle.swarm_objects.specs.Agents.Messages.{assigned, is_assigned_on}
use Rattle.swarm_objects.specs.ChangeLists.{Makes}
use Rattle.swarm_objects.specs.Duties.{is_due}
use Rattle.swarm_objects.specs.Effects.{after_duty, is_agents}
use Rattle.swarm_objects.specs.Kinds.{role_of}
use Rattle.swarm_objects.specs.Rows.{agent_node, row_at, task_id}
use Rattle.swarm_objects.specs.World.{Tables, World}
use Rattle.swarm_objects.specs.declared.calls.Entry.{Entry}
use Rattle.swarm_objects.specs.declared.calls.What.TheVariants as what
use Rattle.swarm_objects.specs.declared.duties.Duty.{Duty}
use Rattle.swarm_objects.specs.declared.messages.Assigned.{Assigned}
use Rattle.swarm_objects.specs.declared.rows.Change.{Change}
use Rattle.swarm_objects.specs.declared.tasks.Task.{Task}
use Rattle.swarm_spans.specs.Spans.{is_in}
use Rattle.swarm_spans.specs.declared.span.Span.{Span}
use Rattle.swarm_world.proofs.AgentsTouched.{spans-touched}
use Rattle.swarm_world.specs.Inside.Looks.{AreSpanned}
use Rattle.swarm_world.specs.Inside.Touches.{AreTouched, HasNodeOf, TellsSame, told_on}
use Rattle.swarm_world.specs.declared.agent_spans.AgentSpans.{AgentSpans}

-- The turn.

pub covers-rows : (h : List Entry) (d : Duty) (version : ℕ) (cs : List Change) (spans wide : AgentSpans) → IsLegal h →
    is_agents (role_of d) ≡ false → is_due (replay h) d ≡ true → version ≡ (replay h).entries + 1 →
    Makes (replay h).tables cs (after_duty version (replay h).tables d) → AreTouched (replay h).tables spans wide cs →
    AreSpanned (replay h) spans (replay h).agents →
    AreSpanned (step (replay h) (what.Duty d)).after wide (step (replay h) (what.Duty d)).after.agents
covers-rows h d version cs spans wide legal other due number makes are covers =
    let w = replay h in
    let v = effect w d in
    let whole = whole-replay h legal in
    let after = orderly-moves w v whole.0 (effect-moves w d whole.0 (IsDuty-due w d due)) in
    let law = tables_law (w.entries + 1) w d other in
    let tables : after_duty version w.tables d ≡ v.tables =
    ap (λ n. after_duty n w.tables d) number ∙ sym (ap (λ (x : World). x.tables) law) in
    spans-touched w v cs spans wide whole.1
    (rises-between agent_node 0 1 w.tables.next_id w.agents (omega arith) whole.0.agents)
    (rises-between task_id 0 1 w.tables.next_id w.tables.tasks (omega arith) whole.0.tasks)
    (rises-between task_id 0 1 v.tables.next_id v.tables.tasks (omega arith) after.tasks)
    (subst (λ (u : Tables). Makes w.tables cs u) tables makes) (ap (λ (x : World). x.sent) law)
    (ap (λ (x : World). x.agents) law) are covers

-- What is enough.

told-out : (wide : Span) (node : ℕ) (o : Option Task) → 0 < node → is_in wide node ≡ false → HasNodeOf wide o →
    told_on node o ≡ None
told-out wide node None above out on = refl
told-out wide node (Some x) above out on = go (is_assigned_on node x) refl
  where
    go : (b : Bool) → is_assigned_on node x ≡ b → cond b (Some (assigned x)) None ≡ None
    go true is = absurd (let e : false ≡ true = sym out ∙ on.has x node refl above is in cc)
    go false is = refl

-- the nodes of the task as it is put, and as it was, where it is at least ASSIGNED, are in the span
pub both-touched : (t : Tables) (wide : Span) (id : ℕ) (after : Option Task) → HasNodeOf wide after →
    HasNodeOf wide (row_at task_id id t.tasks) → TellsSame t wide id after
both-touched t wide id after now before node above = go (is_in wide node) refl
  where
    go : (b : Bool) → is_in wide node ≡ b →
        (is_in wide node ≡ true) ⊎ (told_on node after ≡ told_on node (row_at task_id id t.tasks))
    go true is = inl is
    go false out =
        inr (told-out wide node after above out now
        ∙ sym (told-out wide node (row_at task_id id t.tasks) above out before))

-- or nothing of what a node is told changed
pub alike-untouched : (t : Tables) (wide : Span) (x y : Task) → row_at task_id y.id t.tasks ≡ Some x →
    ((node : ℕ) → is_assigned_on node y ≡ is_assigned_on node x) → assigned y ≡ assigned x →
    TellsSame t wide y.id (Some y)
alike-untouched t wide x y was on same node above =
    inr (ap (λ b. cond b (Some (assigned y)) None) (on node)
    ∙ ap (λ (s : Assigned). cond (is_assigned_on node x) (Some s) None) same ∙ ap (told_on node) (sym was))

use Rattle.std.proofs.Common.{List, ap, arith, inl, refl, subst, sym, true, ℕ, ◌∙◌, ◌≡◌}
use Rattle.std.proofs.lemmas.Bool.Decides.{nat_tests}
use Rattle.std.specs.Prelude.{length, map, nat_lt}
use Rattle.swarm_model.specs.History.{replay}
use Rattle.swarm_agent.specs.Agents.{agents_below}
use Rattle.swarm_objects.specs.Limits.{most_ops}
use Rattle.swarm_objects.specs.Rows.{IsBelow, agent_node, sent_node, session_node}
use Rattle.swarm_objects.specs.declared.agents.NodeAgent.{NodeAgent}
use Rattle.swarm_store.specs.Stored.{Stored}
use Rattle.swarm_watch.specs.Calls.{hears}
use Rattle.swarm_world.proofs.Arriving.{cut-all}
use Rattle.swarm_world.proofs.Transacting.{agents_below_next, few_ids, next-is, still, too_many_ops, transacted}
use Rattle.swarm_world.specs.Inside.BesideOps.{drops}
use Rattle.swarm_world.proofs.parts.Parts.transact.Goals as goal

pub returns-then-count-gt-MOST_OPS : goal.returns-then-count-gt-MOST_OPS
returns-then-count-gt-MOST_OPS c = λ h is.
    let more = c.if-count-gt-MOST_OPS.true in
    let many : nat_lt most_ops (length c.args.ops.now) ≡ true = grind (arith, nat_tests, more) in
    too_many_ops c.args.version h c.args.ops.now c.args.self.now is.stands many

pub most_events-most-requires-clause-next : goal.most_events-most-requires-clause-next
most_events-most-requires-clause-next c = few_ids c.args.self.now c.requires.at

pub put_new_agents-requires-clause-below : goal.put_new_agents-requires-clause-below
put_new_agents-requires-clause-below c =
    subst (λ n. IsBelow agent_node n c.args.self.now.agents) (sym c.next_id-next.ensures)
    (agents_below_next c.args.self.now c.requires.at)

pub put_new_agents-requires-clause-ids : goal.put_new_agents-requires-clause-ids
put_new_agents-requires-clause-ids c =
    let few = few_ids c.args.self.now c.requires.at in
    omega (arith, few, c.next_id-next.ensures, c.if-count-gt-MOST_OPS.false)

pub returns-in_default-put_new_agents : goal.returns-in_default-put_new_agents
returns-in_default-put_new_agents c = λ h is. (
  inl refl,
  still c.args.self.now _ (replay h) is.stands refl refl c.in-Ok.ensures.watchers refl
      c.in_default-put_new_agents.ensures.err refl,
)

pub tell-requires : goal.tell-requires
tell-requires c = record {
  room =
      c.in-Ok.ensures.ok c.txn.new.self.changes
      (omega (arith, c.in-Ok-txn.ensures.few, c.most_events-most.ensures));
}

pub returns-in-Ok-txn : goal.returns-in-Ok-txn
returns-in-Ok-txn c = λ h is.
    let ops = c.args.ops.now in
    let p = c.args.self.now in
    let d = c.in-Ok-txn.ensures.done (replay h) is.stands.has.records.store in
    transacted c.args.version h ops c.in-Ok-txn.ids c.txn.new.self.changes p _ c.next_id-next.result d.0 is
    (c.next_id-next.ensures ∙ next-is p (replay h) is.stands.has) d.1 d.2 d.3
    (c.drop_removed.ensures.sessions
    ∙ ap (λ (js : List ℕ). drops session_node ops js p.records.sessions.rows) c.as_slice.ensures)
    (c.drop_removed.ensures.sent ∙ ap (λ (js : List ℕ). drops sent_node ops js p.sent) c.as_slice.ensures)
    (c.drop_removed.ensures.agents
    ∙ ap (λ (js : List ℕ). drops agent_node ops js c.put_new_agents.new.agents) c.as_slice.ensures
    ∙ ap (λ (all : List NodeAgent). drops agent_node ops c.in-Ok-txn.ids all) c.in-Ok-put_new_agents.ensures.ok)
    refl (c.tell.ensures ∙ ap (map (hears c.txn.new.self.changes)) c.in-Ok.ensures.watchers)

pub returns-in-Err : goal.returns-in-Err
returns-in-Err c = λ h is.
    let ops = c.args.ops.now in
    let p = c.args.self.now in
    let d = c.in-Err.ensures.done (replay h) is.stands.has.records.store in
    let below =
    subst (λ n. IsBelow agent_node n p.agents) (sym c.next_id-next.ensures) (agents_below_next p c.requires.at) in (
      d.0,
      still p _ (replay h) is.stands (ap (λ (s : Stored). s.tables) d.1) refl c.in-Ok.ensures.watchers refl
          (c.cut.ensures ∙ ap (agents_below c.next_id-next.result) c.in-Ok-put_new_agents.ensures.ok
          ∙ cut-all c.next_id-next.result ops p.agents below) refl,
    )

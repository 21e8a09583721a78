use Rattle.std.proofs.Common.{◌∙◌, arith, sym}
use Rattle.swarm_objects.proofs.Few.{few_nodes}
use Rattle.swarm_sched.proofs.Refusing.{at_first, at_last, few, refused, untested}
use Rattle.swarm_sched.proofs.Remembering.{all_among, front_among, rest_among}
use Rattle.swarm_sched.proofs.refused.counts_with.Goals as goal

pub loop-node-init : goal.loop-node-init
loop-node-init g c =
    record {
      refused =
          at_first (g.R.Rows.tables c.args.rows.now) c.args.task.now c.into_iter-node-iterator.result
          (c.into_iter-node-iterator.ensures.into_iter_gives ∙ c.nodes-node-items.ensures);
      among =
          all_among (g.R.Rows.tables c.args.rows.now) c.into_iter-node-iterator.result
          (c.into_iter-node-iterator.ensures.into_iter_gives ∙ c.nodes-node-items.ensures);
      knows = c.requires.knows;
      own = c.requires.own;
    }

pub loop-node-preserved-then-not-is_tested_on : goal.loop-node-preserved-then-not-is_tested_on
loop-node-preserved-then-not-is_tested_on g c =
    record {
      refused =
          untested (g.R.Rows.tables c.args.rows.now) c.args.task.now c.loop-node.counts c.in-Some.node.now
          c.loop-node.node-iterator c.next.new.self c.in-Some.ensures.steps
          (sym c.is_tested_on.ensures ∙ c.if-not-is_tested_on.true) c.loop-node.invariant.refused;
      among =
          rest_among (g.R.Rows.tables c.args.rows.now) c.in-Some.node.now c.loop-node.node-iterator c.next.new.self
          c.in-Some.ensures.steps c.loop-node.invariant.among;
      knows = c.loop-node.invariant.knows;
      own = c.loop-node.invariant.own;
    }

pub overflow_add-counts : goal.overflow_add-counts
overflow_add-counts g c =
    let t = g.R.Rows.tables c.args.rows.now in
    let bound =
    few t c.args.task.now c.loop-node.counts c.loop-node.node-iterator c.in-Some-first_refusal_in.filter
    c.loop-node.invariant.refused in
    omega (arith, bound, few_nodes t c.requires.usable)

pub loop-node-preserved : goal.loop-node-preserved
loop-node-preserved g c =
    record {
      refused =
          refused (g.R.Rows.tables c.args.rows.now) c.args.task.now c.loop-node.counts c.in-Some.node.now
          c.loop-node.node-iterator c.next.new.self c.in-Some-first_refusal_in.filter c.in-Some.ensures.steps
          (sym c.is_tested_on.ensures ∙ c.if-not-is_tested_on.false) c.in-Some-first_refusal_in.ensures.first
          c.loop-node.invariant.refused;
      among =
          rest_among (g.R.Rows.tables c.args.rows.now) c.in-Some.node.now c.loop-node.node-iterator c.next.new.self
          c.in-Some.ensures.steps c.loop-node.invariant.among;
      knows = c.first_refusal_in.ensures.knows;
      own = c.first_refusal_in.ensures.own;
    }

pub returns-clause-counts : goal.returns-clause-counts
returns-clause-counts g c =
    at_last (g.R.Rows.tables c.args.rows.now) c.args.task.now c.loop-node.counts c.loop-node.node-iterator
    c.in-None.ensures.steps.0 c.loop-node.invariant.refused

pub first_refusal_in-requires-clause-row : goal.first_refusal_in-requires-clause-row
first_refusal_in-requires-clause-row g c =
    front_among (g.R.Rows.tables c.args.rows.now) c.in-Some.node.now c.loop-node.node-iterator c.next.new.self
    c.in-Some.ensures.steps c.loop-node.invariant.among

use Rattle.std.specs.Option.{option_copied}
use Rattle.swarm_sched.proofs.ClassSearching.{lead_held, searching_ends, searching_first, searching_found}
use Rattle.swarm_sched.proofs.ClassSearching.{searching_none}
use Rattle.swarm_sched.proofs.class_search.best_of_class.Goals as goal
use Rattle.swarm_sched.specs.declared.class_search.Leader.{Leader}

pub loop-entry-init : goal.loop-entry-init
loop-entry-init g c = record {
  searching =
      searching_first (g.R.Rows.tables c.args.rows.now) c.args.task.now c.args.ranked.now c.args.standing.spread
      (option_copied c.args.best) c.iter-entry-items.result c.into_iter-entry-iterator.result
      c.into_iter-entry-iterator.ensures.into_iter_gives c.requires.current c.iter-entry-items.ensures.all
      c.iter-entry-items.ensures.order;
  held = tt;
  knows = c.requires.knows;
  own = c.requires.own;
}

pub better_node-requires-clause-held : goal.better_node-requires-clause-held
better_node-requires-clause-held g c =
    let first : Leader = record { node = c.args.best; held = c.args.held; standing = c.args.standing } in
    lead_held (g.R.Rows.tables c.args.rows.now) c.args.task.now.service first c.after-leader.result c.loop-entry.found
    c.after-leader.ensures c.requires.held c.loop-entry.invariant.held

pub loop-entry-preserved-in-Some-better_node : goal.loop-entry-preserved-in-Some-better_node
loop-entry-preserved-in-Some-better_node g c =
    let first : Leader = record { node = c.args.best; held = c.args.held; standing = c.args.standing } in
    record {
      searching =
          searching_found (g.R.Rows.tables c.args.rows.now) c.args.task.now c.args.ranked.now first
          c.after-leader.result c.loop-entry.found c.loop-entry.entry-iterator c.next.new.self c.in-Some.entry.now
          c.in-Some-better_node.better.0.now c.in-Some.ensures.steps c.after-leader.ensures
          c.in-Some-better_node.ensures.better c.loop-entry.invariant.searching;
      held = c.in-Some-better_node.ensures.load;
      knows = c.better_node.ensures.knows;
      own = c.better_node.ensures.own;
    }

pub loop-entry-preserved : goal.loop-entry-preserved
loop-entry-preserved g c =
    let first : Leader = record { node = c.args.best; held = c.args.held; standing = c.args.standing } in
    record {
      searching =
          searching_none (g.R.Rows.tables c.args.rows.now) c.args.task.now c.args.ranked.now first
          c.after-leader.result c.loop-entry.found c.loop-entry.entry-iterator c.next.new.self c.in-Some.entry.now
          c.in-Some.ensures.steps c.after-leader.ensures (c.better_node.ensures.none c.in_default.is)
          c.loop-entry.invariant.searching;
      held = c.loop-entry.invariant.held;
      knows = c.better_node.ensures.knows;
      own = c.better_node.ensures.own;
    }

pub returns-then-is_ahead_of-clause-found : goal.returns-then-is_ahead_of-clause-found
returns-then-is_ahead_of-clause-found g c =
    let first : Leader = record { node = c.args.best; held = c.args.held; standing = c.args.standing } in
    searching_ends (g.R.Rows.tables c.args.rows.now) c.args.task.now c.args.ranked.now first c.after-leader.result
    c.loop-entry.found c.loop-entry.entry-iterator c.next.new.self c.in-Some.entry.now c.in-Some.ensures.steps
    c.after-leader.ensures (c.is_ahead_of.ensures c.if-is_ahead_of.true)
    (lead_held (g.R.Rows.tables c.args.rows.now) c.args.task.now.service first c.after-leader.result c.loop-entry.found
    c.after-leader.ensures c.requires.held c.loop-entry.invariant.held)
    c.loop-entry.invariant.searching

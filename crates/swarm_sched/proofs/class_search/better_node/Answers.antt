use Rattle.std.proofs.Common.{ap, sym, ◌∙◌}
use Rattle.std.specs.Option.{option_copied}
use Rattle.std.specs.Prelude.{is_some}
use Rattle.swarm_objects.proofs.RowLemmas.{Has-from_row_at}
use Rattle.swarm_objects.specs.Rows.{node_id}
use Rattle.swarm_sched.proofs.ClassSearching.{better_is, passed_nowhere, passed_refused, passed_worse}
use Rattle.swarm_sched.proofs.LastRefusing.{if_there}
use Rattle.swarm_sched.proofs.class_search.better_node.Goals as goal

pub returns-then-is_refused-clause-none : goal.returns-then-is_refused-clause-none
returns-then-is_refused-clause-none g c = λ none.
    passed_refused (g.R.Rows.tables c.args.rows.now) c.args.task.now c.args.leader.standing.spread
    (option_copied c.args.leader.node) c.args.node c.args.group.now c.requires.own
    (c.is_refused.ensures c.if-is_refused.true)

pub returns-in_default-clause-none : goal.returns-in_default-clause-none
returns-in_default-clause-none g c = λ none.
    passed_nowhere (g.R.Rows.tables c.args.rows.now) c.args.task.now c.args.leader.standing.spread
    (option_copied c.args.leader.node) c.args.node c.requires.usable.sound.ordered.nodes
    (sym c.node.ensures ∙ ap option_copied c.in_default.is)

pub if_better-requires-clause-row : goal.if_better-requires-clause-row
if_better-requires-clause-row g c =
    if_there c.args.group.now
    (Has-from_row_at node_id c.args.node (g.R.Rows.tables c.args.rows.now).nodes c.in-Some.node.now
    (sym c.node.ensures ∙ ap option_copied c.in-Some.is)).0

pub if_better-requires-clause-none : goal.if_better-requires-clause-none
if_better-requires-clause-none g c = λ none.
    let from = Has-from_row_at node_id c.args.node (g.R.Rows.tables c.args.rows.now).nodes c.in-Some.node.now
    (sym c.node.ensures ∙ ap option_copied c.in-Some.is) in
    c.requires.none none c.in-Some.node.now from.0 from.1

pub returns-in-Some-if_better-clause-better : goal.returns-in-Some-if_better-clause-better
returns-in-Some-if_better-clause-better g c =
    better_is (g.R.Rows.tables c.args.rows.now) c.args.task.now c.args.leader.standing.spread
    (option_copied c.args.leader.node) c.args.node c.in-Some.node.now
    (sym c.node.ensures ∙ ap option_copied c.in-Some.is)
    (sym c.if_better.ensures.better ∙ ap is_some c.in-Some-if_better.is)

pub returns-in-None-clause-none : goal.returns-in-None-clause-none
returns-in-None-clause-none g c = λ none.
    passed_worse (g.R.Rows.tables c.args.rows.now) c.args.task.now c.args.leader.standing.spread
    (option_copied c.args.leader.node) c.args.node c.in-Some.node.now c.requires.usable.sound.ordered.nodes
    (sym c.node.ensures ∙ ap option_copied c.in-Some.is)
    (sym c.if_better.ensures.better ∙ ap is_some c.in-None.is)

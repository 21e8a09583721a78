use Rattle.std.proofs.Common.{None, ap, refl, sym, ◌∙◌}
use Rattle.std.specs.Option.{option_copied}
use Rattle.swarm_sched.proofs.Ranking.{drop_entered, drop_left, new_entered, new_left, put_entered, put_left}
use Rattle.swarm_sched.proofs.ranks.moved_nodes.Goals as goal

pub returns-in-Some-clause-left : goal.returns-in-Some-clause-left
returns-in-Some-clause-left g c =
    put_left (g.R.Rows.tables c.args.rows.now) c.in-PutTask.task c.in-Some.former.now c.args.change.now
    c.left_node.result c.requires c.in-PutTask.is (sym (sym c.task.ensures ∙ ap option_copied c.in-Some.is))
    c.left_node.ensures

pub returns-in-Some-clause-entered : goal.returns-in-Some-clause-entered
returns-in-Some-clause-entered g c =
    put_entered (g.R.Rows.tables c.args.rows.now) c.in-PutTask.task c.in-Some.former.now c.args.change.now
    c.left_node-in-Some.result c.requires c.in-PutTask.is (sym (sym c.task.ensures ∙ ap option_copied c.in-Some.is))
    c.left_node-in-Some.ensures

pub returns-in-None-clause-left : goal.returns-in-None-clause-left
returns-in-None-clause-left g c =
    new_left (g.R.Rows.tables c.args.rows.now) c.in-PutTask.task c.args.change.now None c.in-PutTask.is
    (sym (sym c.task.ensures ∙ ap option_copied c.in-None.is))

pub returns-in-None-clause-entered : goal.returns-in-None-clause-entered
returns-in-None-clause-entered g c =
    new_entered (g.R.Rows.tables c.args.rows.now) c.in-PutTask.task c.args.change.now c.in-PutTask.task.node
    c.in-PutTask.is (sym (sym c.task.ensures ∙ ap option_copied c.in-None.is)) refl

pub returns-in-DropTask-clause-left : goal.returns-in-DropTask-clause-left
returns-in-DropTask-clause-left g c =
    drop_left (g.R.Rows.tables c.args.rows.now) c.in-DropTask.id c.args.change.now c.former_node.result c.requires
    c.in-DropTask.is c.former_node.ensures

pub returns-in-DropTask-clause-entered : goal.returns-in-DropTask-clause-entered
returns-in-DropTask-clause-entered g c =
    drop_entered (g.R.Rows.tables c.args.rows.now) c.in-DropTask.id c.args.change.now None c.in-DropTask.is

use Rattle.std.proofs.Common.{◌≡◌, arith, eqb, false}
use Rattle.std.proofs.lemmas.Bool.Decides.{nat_tests}
use Rattle.swarm_assign.proofs.DueSets.{due_rises}
use Rattle.swarm_assign.proofs.Messages.{due-is}
use Rattle.swarm_objects.specs.Agents.Messages.{due_set}
use Rattle.swarm_assign.proofs.sent.Sent.is_due.Goals as goal

pub returns-else-self-eq0 : goal.returns-else-self-eq0
returns-else-self-eq0 g c =
    let later : eqb c.self.inside.count 0 ≡ false = grind (arith, nat_tests, c.if-self-eq0.false) in
    let t = g.R.Rows.tables c.args.rows.now in
    due-is c.self.inside.count c.self.inside.tasks c.args.self.now c.as_slice.result.now c.args.node
    (due_set t c.args.node) c.is_all_sent.result c.self.view_is later c.self.invariant
    (due_rises t c.args.node c.requires) c.as_slice.ensures c.is_all_sent.ensures

use Rattle.std.proofs.Common.{◌≡◌, arith, eqb, false, subst}
use Rattle.std.proofs.lemmas.Bool.Decides.{nat_tests}
use Rattle.std.specs.Prelude.{IfOk}
use Rattle.swarm_assign.proofs.Messages.{later-none}
use Rattle.swarm_objects.specs.Agents.Messages.{changes_of, message_with}
use Rattle.swarm_assign.proofs.sent.Sent.next.Goals as goal

pub returns-clause-none : goal.returns-clause-none
returns-clause-none c =
    let later : eqb c.self.inside.count 0 ≡ false = grind (arith, nat_tests, c.if-self-eq0.false) in
    later-none c.self.inside.count c.self.inside.tasks c.args.self.now c.args.due.now c.difference_message.result
    c.self.view_is later c.self.invariant c.requires.rises
    (subst (λ xs. IfOk c.difference_message.result
    (λ m. m ≡ message_with c.self.inside.count (changes_of xs c.args.due.now))) c.as_slice.ensures
    c.difference_message.ensures)

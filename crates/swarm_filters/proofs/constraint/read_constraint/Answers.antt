use Rattle.std.proofs.Common.{rules, Some, None, sym}
use Rattle.swarm_filters.specs.Grammar.{IsConstraint}
use Rattle.swarm_filters.proofs.Constraints.{constraint_of-complete, constraint_of-fault, exact_constraint}
use Rattle.swarm_filters.proofs.constraint.read_constraint.Goals as goal

pub returns-in_ok-made-in-Ok-clause-form : goal.returns-in_ok-made-in-Ok-clause-form
returns-in_ok-made-in-Ok-clause-form c =
    let read : IsConstraint c.args.word.now c.in_ok-made-in-Ok.field-0 = search rules in
    exact_constraint c.args.word.now (Some c.in_ok-made-in-Ok.field-0) (sym (constraint_of-complete c.args.word.now c.in_ok-made-in-Ok.field-0 read))

pub returns-in_ok-made-in-Ok-clause-meaning : goal.returns-in_ok-made-in-Ok-clause-meaning
returns-in_ok-made-in-Ok-clause-meaning c =
    let read : IsConstraint c.args.word.now c.in_ok-made-in-Ok.field-0 = search rules in
    sym (constraint_of-complete c.args.word.now c.in_ok-made-in-Ok.field-0 read)

pub returns-in-Err-clause-form : goal.returns-in-Err-clause-form
returns-in-Err-clause-form c = exact_constraint c.args.word.now None (sym (constraint_of-fault c.args.word.now c.in-Err.field-0 c.in-Err.ensures.place))

pub returns-in-Err-clause-meaning : goal.returns-in-Err-clause-meaning
returns-in-Err-clause-meaning c = sym (constraint_of-fault c.args.word.now c.in-Err.field-0 c.in-Err.ensures.place)

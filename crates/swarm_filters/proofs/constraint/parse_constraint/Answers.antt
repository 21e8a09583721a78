use Rattle.std.proofs.Common.{rules, ap, ◌∙◌, sym}
use Rattle.swarm_filters.specs.Grammar.{IsConstraint}
use Rattle.swarm_filters.specs.Machine.{constraint_of}
use Rattle.swarm_filters.proofs.Constraints.{only, constraint_of-complete, constraint_of-fault}
use Rattle.swarm_filters.proofs.constraint.parse_constraint.Goals as goal

pub returns-in_ok-made-in-Ok-clause-one : goal.returns-in_ok-made-in-Ok-clause-one
returns-in_ok-made-in-Ok-clause-one c =
    let read : IsConstraint c.args.text.now c.in_ok-made-in-Ok.field-0 = search rules in
    only c.args.text.now c.in_ok-made-in-Ok.field-0 read

pub returns-in_ok-made-in-Ok-clause-meaning : goal.returns-in_ok-made-in-Ok-clause-meaning
returns-in_ok-made-in-Ok-clause-meaning c =
    let read : IsConstraint c.args.text.now c.in_ok-made-in-Ok.field-0 = search rules in
    constraint_of-complete c.args.text.now c.in_ok-made-in-Ok.field-0 read

pub returns-in-Err-clause-meaning : goal.returns-in-Err-clause-meaning
returns-in-Err-clause-meaning c = ap constraint_of (sym c.as_bytes-bytes.ensures.value) ∙ constraint_of-fault c.as_bytes-bytes.result.now c.in-Err.place c.in-Err.ensures.place

use Rattle.std.proofs.Common.{ap, ◌∙◌}
use Rattle.std.specs.Prelude.{[], if◌then◌else◌}
use Rattle.swarm_assign.proofs.Messages.{asked-rises, before-rises, confirmed-has, confirmed-rises}
use Rattle.swarm_assign.specs.Told.{Told}
use Rattle.swarm_assign.proofs.sent.Sent.confirm.Goals as goal

pub changed-requires-clause-changes : goal.changed-requires-clause-changes
changed-requires-clause-changes c =
    asked-rises c.args.self.now c.args.message.now c.self.inside.tasks c.as_slice-2.result.now c.requires
    c.self.invariant (ap (λ (t : Told). t.tasks) c.self.view_is) c.as_slice-2.ensures

pub changed-requires-clause-told : goal.changed-requires-clause-told
changed-requires-clause-told c =
    before-rises c.args.message.now.complete c.self.inside.tasks c.told_before-told.result.now c.self.invariant
    (c.told_before-told.ensures ∙ ap (λ xs. if c.args.message.now.complete then [] else xs) c.as_slice.ensures)

pub invariant_of-self : goal.invariant_of-self
invariant_of-self c =
    confirmed-rises c.args.self.now c.args.message.now c.self.inside.tasks c.as_slice-2.result.now
    c.told_before-told.result.now c.in_ok-self-inside.field-0 c.self.invariant (ap (λ (t : Told). t.tasks) c.self.view_is)
    c.as_slice-2.ensures
    (c.told_before-told.ensures ∙ ap (λ xs. if c.args.message.now.complete then [] else xs) c.as_slice.ensures)
    c.in_ok-self-inside.ensures c.requires

pub returns-clause-ok : goal.returns-clause-ok
returns-clause-ok c =
    confirmed-has c.args.self.now c.args.message.now c.self.inside.tasks c.as_slice-2.result.now
    c.told_before-told.result.now c.in_ok-self-inside.field-0 c.self.invariant (ap (λ (t : Told). t.tasks) c.self.view_is)
    c.as_slice-2.ensures
    (c.told_before-told.ensures ∙ ap (λ xs. if c.args.message.now.complete then [] else xs) c.as_slice.ensures)
    c.in_ok-self-inside.ensures

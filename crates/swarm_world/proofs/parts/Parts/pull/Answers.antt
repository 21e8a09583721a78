use Rattle.std.proofs.Common.{refl, subst, sym, ◌∙◌}
use Rattle.swarm_objects.specs.Agents.Messages.{assigned_task}
use Rattle.swarm_objects.specs.Rows.{IsRising}
use Rattle.swarm_world.proofs.Entering.{are_usable}
use Rattle.swarm_world.proofs.Pulling.{few_sent, near_message, pulled_none, pulled_some}
use Rattle.swarm_world.proofs.Recorded.{usable_rows}
use Rattle.swarm_world.proofs.parts.Parts.pull.Goals as goal

pub due_set-requires : goal.due_set-requires
due_set-requires c = usable_rows c.args.self.now.records (are_usable c.args.self.now c.requires.at)

pub pull-requires-clause-count : goal.pull-requires-clause-count
pull-requires-clause-count c = few_sent c.args.self.now c.requires.at c.args.node

pub pull-requires-clause-rises : goal.pull-requires-clause-rises
pull-requires-clause-rises c = subst (IsRising assigned_task) (sym c.as_slice.ensures) c.in-Ok.ensures.rises

pub receive-requires : goal.receive-requires
receive-requires c =
    let some = c.in-Ok-Some in
    record {
      near =
          near_message c.args.self.now c.requires.at c.args.node c.as_slice.result.now some.field-0 some.message
          some.field-0-is (c.as_slice.ensures ∙ c.in-Ok.ensures.set) some.ensures.message;
    }

pub returns-in-Ok-Some-clause-enters : goal.returns-in-Ok-Some-clause-enters
returns-in-Ok-Some-clause-enters c = λ h stands.
    let some = c.in-Ok-Some in
    pulled_some c.entries_are_noted.ensures h c.args.node some.field-0 some.message c.args.self.now _
    c.as_slice.result.now some.field-0-is stands (c.as_slice.ensures ∙ c.in-Ok.ensures.set) some.ensures.message
    some.ensures.sent c.receive.ensures refl refl refl

pub returns-in-Ok-None-clause-enters : goal.returns-in-Ok-None-clause-enters
returns-in-Ok-None-clause-enters c = λ h stands.
    let none = c.in-Ok-None in
    pulled_none c.entries_are_noted.ensures h c.args.node none.field-0 c.args.self.now _ c.as_slice.result.now
    none.field-0-is stands (c.as_slice.ensures ∙ c.in-Ok.ensures.set) none.ensures.message none.ensures.sent refl refl
    refl refl

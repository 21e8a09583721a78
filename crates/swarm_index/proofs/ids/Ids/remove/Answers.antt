use Rattle.swarm_index.proofs.IdLemmas.{gone_has, gone_rises, none_goes}
use Rattle.swarm_index.proofs.ids.Ids.remove.Goals as goal

pub invariant_of-self : goal.invariant_of-self
invariant_of-self c = gone_rises _ _ _ c.args.id c.in-Ok.at c.as_slice.ensures.value c.self.view_is c.self.invariant _ c.remove.ensures.items

pub returns-in-Ok : goal.returns-in-Ok
returns-in-Ok c = gone_has _ _ _ c.args.id c.in-Ok.at c.as_slice.ensures.value c.self.view_is c.self.invariant _ c.in-Ok.ensures.position c.remove.ensures.items

pub returns-in_default : goal.returns-in_default
returns-in_default c = none_goes _ _ _ c.args.id c.in_default.field-0 c.as_slice.ensures.value c.self.view_is c.self.invariant c.in_default.ensures.position

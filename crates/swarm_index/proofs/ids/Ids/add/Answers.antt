use Rattle.std.proofs.Common.{subst, sym}
use Rattle.swarm_objects.specs.Rows.{IsRising, itself}
use Rattle.swarm_index.proofs.IdLemmas.{come_has, come_rises, there_stays}
use Rattle.swarm_index.proofs.ids.Ids.add.Goals as goal

pub returns-in_default-clause-ok : goal.returns-in_default-clause-ok
returns-in_default-clause-ok c = there_stays _ _ _ c.args.id c.in_default.field-0 c.as_slice.ensures.value c.self.view_is c.self.invariant c.in_default.ensures.position

pub invariant_of-self : goal.invariant_of-self
invariant_of-self c = subst (λ l. IsRising itself l) (sym c.in_default-insert.ensures.items) c.self.invariant

pub invariant_of-self-2 : goal.invariant_of-self-2
invariant_of-self-2 c = come_rises _ _ _ c.args.id c.in-Err.at c.as_slice.ensures.value c.self.view_is c.self.invariant _ c.in-Err.ensures.position c.in-Ok.ensures.items

pub returns-clause-ok : goal.returns-clause-ok
returns-clause-ok c = come_has _ _ _ c.args.id c.in-Err.at c.as_slice.ensures.value c.self.view_is c.self.invariant _ c.in-Ok.ensures.items

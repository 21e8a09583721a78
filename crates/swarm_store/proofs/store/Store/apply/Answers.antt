use Rattle.std.proofs.Common.{ap, subst, sym}
use Rattle.swarm_objects.specs.ChangeLists.{CanApplyAll}
use Rattle.swarm_store.proofs.Standing.{applied-any}
use Rattle.swarm_store.proofs.store.Store.apply.Goals as goal
use Rattle.swarm_store.specs.Inside.State.{tables_now}
use Rattle.swarm_store.specs.Stored.{Stored}

pub apply-requires-clause-can : goal.apply-requires-clause-can
apply-requires-clause-can c =
    subst (λ t. CanApplyAll t c.args.changes) (sym (ap (λ (s : Stored). s.tables) c.self.view_is)) c.requires

pub returns-clause-applied : goal.returns-clause-applied
returns-clause-applied c = λ w stands.
    applied-any c.args.version c.args.changes w c.args.self.now (tables_now c.self.inside.state) (tables_now c.apply.new.self)
    c.self.inside.changes.items c.apply.new.events.items c.apply.result c.self.view_is stands c.apply.ensures.ok c.apply.ensures.err

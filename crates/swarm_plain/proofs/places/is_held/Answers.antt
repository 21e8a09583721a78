use Rattle.std.proofs.Common.{false, true, sym, refl, ◌∙◌, None, Some}
use Rattle.swarm_plain.proofs.HeldPlaces.{held}
use Rattle.swarm_plain.proofs.places.is_held.Goals as goal

pub returns-then-has_live : goal.returns-then-has_live
returns-then-has_live c =
    held c.args.service.now c.args.place c.args.tasks.now true _ (sym c.if-has_live.true ∙ c.has_live.ensures) refl

pub returns-in-Some : goal.returns-in-Some
returns-in-Some c =
    c.closes.ensures
    ∙ held c.args.service.now c.args.place c.args.tasks.now false (Some c.in-Some.task.now)
    (sym c.if-has_live.false ∙ c.has_live.ensures) c.in-Some.ensures

pub returns-in-None : goal.returns-in-None
returns-in-None c =
    held c.args.service.now c.args.place c.args.tasks.now false None
    (sym c.if-has_live.false ∙ c.has_live.ensures) c.in-None.ensures

use Rattle.std.proofs.Common.{sym, ap, ◌∙◌, subst}
use Rattle.tests_beside.proofs.Bare.{can_bare}
use Rattle.tests_beside.proofs.stores.apply_both.Goals as goal
use Rattle.swarm_plain.specs.Plain.{tables_of, world_of}
use Rattle.swarm_objects.specs.ChangeLists.{CanApplyAll, apply_changes}
use Rattle.swarm_store.specs.Stored.{without_sessions}

pub apply-requires : goal.apply-requires
apply-requires c =
    let t = tables_of c.args.copy.now in
    let can = subst (CanApplyAll t) c.as_slice.ensures c.in-Ok.ensures.can in
    subst (λ u. CanApplyAll u c.args.changes) (sym c.requires) (can_bare c.args.changes t can)

pub returns-in_ok-note-in-Ok : goal.returns-in_ok-note-in-Ok
returns-in_ok-note-in-Ok c =
    let t = tables_of c.args.copy.now in
    let made = c.in-Ok.ensures.made ∙ ap (apply_changes t) c.as_slice.ensures in
    (c.in_ok-apply-in-Ok.ensures.applied (world_of c.args.copy.now) c.requires).0 ∙ ap without_sessions (sym made)

use Rattle.std.proofs.Common.{ap, arith, refl, ◌∙◌}
use Rattle.std.specs.Prelude.{map}
use Rattle.swarm_model.specs.Changed.{changes_between}
use Rattle.swarm_objects.specs.ChangeLists.{apply_changes}
use Rattle.swarm_watch.specs.Calls.{hears}
use Rattle.swarm_world.proofs.Committing.{can_apply, records_after, unchanged}
use Rattle.swarm_world.proofs.commits.commit.Goals as goal

pub apply-requires : goal.apply-requires
apply-requires c = can_apply c.args.records.now c.args.changes c.requires.usable c.requires.can

pub returns-in_default-apply : goal.returns-in_default-apply
returns-in_default-apply c = (
  λ w has. unchanged c.args.records.now c.apply.new.self w has (c.in_default-apply.ensures.applied w has.store),
  c.in-Ok.ensures.watchers,
)

pub tell-requires : goal.tell-requires
tell-requires c = record {
  room = c.in-Ok.ensures.ok c.apply.new.self.changes (omega (arith, c.in-Ok-apply.ensures.few, c.len.ensures));
}

pub returns : goal.returns
returns c = λ w has.
    let did = c.in-Ok-apply.ensures.applied w has.store in (
      records_after c.args.records.now c.apply.new.self c.args.changes w has did.0,
      c.tell.ensures ∙ ap (λ es. map (hears es) c.make_room.new.watches.watchers) did.1
          ∙ ap (map (hears (changes_between c.args.version w.tables (apply_changes w.tables c.args.changes))))
          c.in-Ok.ensures.watchers,
      refl,
    )

use Rattle.std.proofs.Common.{rules, ◌∙◌, ◌++◌, ◌<◌, length, arith}
use Rattle.std.specs.Prelude.{flat_map}
use Rattle.std.specs.Option.{option_copied}
use Rattle.swarm_store.proofs.Told.{told-next}
use Rattle.swarm_store.proofs.tracked.put_all_events.Goals as goal
use Rattle.swarm_store.specs.Inside.Tracking.{image_events}

pub loop-image-preserved : goal.loop-image-preserved
loop-image-preserved g c =
    let key = g.R.Row.id_of in
    let rows = c.args.rows.now.rows in
    let before = c.args.before.now in
    let i = c.loop-image.image-index in
    let below : i < length before = search rules in
    record {
      left = λ same decides.
          told-next c.args.version c.args.kind key same rows before i c.image-item.result (option_copied c.get.result)
          c.verb_of-verb.result c.loop-image.events.items c.put_event.new.events.items
          (c.args.events.now.items ++ flat_map (image_events c.args.version c.args.kind key same rows) before) decides
          c.requires.tracked.images below c.image-item.is c.get.ensures.value (c.verb_of-verb.ensures same)
          c.put_event.ensures.items (c.loop-image.invariant.left same decides);
      most = (let was = c.loop-image.invariant.most in let put = c.put_event.ensures.most in omega (arith, was, put));
      places = c.put_event.ensures.places ∙ c.loop-image.invariant.places;
    }

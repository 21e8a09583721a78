use Rattle.std.proofs.Common.{refl, subst}
use Rattle.swarm_store.proofs.Tracking.{counted-last, image-last, next-back, others-back, popped-tracked}
use Rattle.swarm_store.proofs.tracked.put_last_back.Goals as goal
use Rattle.swarm_store.specs.Inside.Tracking.{AreImages, restored}

pub put_back-row-requires-clause-image : goal.put_back-row-requires-clause-image
put_back-row-requires-clause-image g c =
    let key = g.R.Row.id_of in
    image-last key c.pop.new.self.items c.in-Some.image (subst (AreImages key) c.in-Some.ensures.items c.requires.tracked.images)

pub returns-clause-kept : goal.returns-clause-kept
returns-clause-kept g c =
    let key = g.R.Row.id_of in
    let all = c.args.before.now.items in
    let left = c.pop.new.self.items in
    let b = c.in-Some.image in
    let rows = c.args.rows.now in
    let now = c.put_back-row.new.rows in (
      popped-tracked key all left b rows now c.requires.tracked c.in-Some.ensures.items c.put_back-row.ensures.rows
          c.put_back-row.ensures.room,
      next-back key all left b rows.rows now.rows (restored key all rows.rows) c.in-Some.ensures.items
          c.put_back-row.ensures.rows refl,
    )

pub returns-clause-counted : goal.returns-clause-counted
returns-clause-counted g c =
    let key = g.R.Row.id_of in
    let is =
    image-last key c.pop.new.self.items c.in-Some.image (subst (AreImages key) c.in-Some.ensures.items c.requires.tracked.images) in
    counted-last key c.in-Some.image c.put_back-row.result c.is_some.result c.is_some-was_there.result c.args.count.now
    c.count_back.result c.args.rows.now.rows c.put_back-row.new.rows.rows c.requires.tracked.rising is c.put_back-row.ensures.value
    c.is_some.ensures c.is_some-was_there.ensures c.requires.counted c.count_back.ensures.count c.put_back-row.ensures.rows

pub returns-clause-others : goal.returns-clause-others
returns-clause-others g c =
    let key = g.R.Row.id_of in
    let is =
    image-last key c.pop.new.self.items c.in-Some.image (subst (AreImages key) c.in-Some.ensures.items c.requires.tracked.images) in
    others-back key c.in-Some.image c.args.rows.now.rows c.put_back-row.new.rows.rows is c.put_back-row.ensures.rows

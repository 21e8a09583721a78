use Rattle.std.proofs.Common.{rules, ◌≡◌, ◌<◌, ◌∷◌, ◌++◌, [], length, ◌∙◌}
use Rattle.swarm_store.proofs.Transacting.{next-stands, ops-next}
use Rattle.swarm_store.proofs.state.State.apply_ops.Goals as goal
use Rattle.swarm_store.specs.Inside.State.{tables_now}

pub loop-op-preserved : goal.loop-op-preserved
loop-op-preserved c =
    let t = tables_now c.loop-op.self in
    let u = tables_now c.apply_op.new.self in
    let id = c.in_ok-id.id in
    let ops = c.args.ops.now in
    let i = c.loop-op.op-index in
    let op = c.op-item.result in
    let below : i < length ops = search rules in
    let more : c.push.new.self ≡ c.loop-op.ids ++ id ∷ [] = search rules in
    record {
      left = c.loop-op.invariant.left
          ∙ ops-next c.args.version ops i op t u c.loop-op.ids c.push.new.self id below c.op-item.is c.in_ok-id.ensures.done more;
      stands = next-stands c.args.version t u op id c.loop-op.invariant.stands c.in_ok-id.ensures.done;
      start = c.apply_op.ensures.start ∙ c.loop-op.invariant.start;
    }

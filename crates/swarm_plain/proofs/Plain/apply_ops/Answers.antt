use Rattle.std.proofs.Common.{rules, ◌≡◌, ◌<◌, ◌∷◌, ◌++◌, [], Ok, length, ◌∙◌}
use Rattle.swarm_model.specs.Calls.Operations.{apply_op}
use Rattle.swarm_model.proofs.Base.Updates.{next-done}
use Rattle.swarm_plain.proofs.OpSteps.{room-next, room-rest}
use Rattle.swarm_plain.proofs.Plain.apply_ops.Goals as goal
use Rattle.swarm_plain.specs.Plain.{tables_of, world_of}

pub apply_op-requires : goal.apply_op-requires
apply_op-requires c =
    let ops = c.args.ops.now in
    let i = c.loop-op.op-index in
    let below : i < length ops = search rules in
    room-next ops i (tables_of c.loop-op.self) below c.loop-op.invariant.room

pub loop-op-preserved : goal.loop-op-preserved
loop-op-preserved c =
    let old = world_of c.loop-op.self in
    let new = world_of c.apply_op.new.self in
    let id = c.in_ok-id.id in
    let ops = c.args.ops.now in
    let i = c.loop-op.op-index in
    let op = c.op-item.result in
    let below : i < length ops = search rules in
    let done : apply_op c.args.version old op ≡ Ok (new, id) = c.in_ok-id.ensures.0 in
    let more : c.push.new.self ≡ c.loop-op.ids ++ id ∷ [] = search rules in
    record {
      left = c.loop-op.invariant.left
          ∙ next-done c.args.version ops i op old new c.loop-op.ids c.push.new.self id below c.op-item.is done more;
      room = room-rest c.args.version ops i op old new id below done c.loop-op.invariant.room;
    }

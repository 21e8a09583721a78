use Rattle.tests_beside.proofs.stores.transact.Goals as goal
use Rattle.swarm_objects.specs.declared.replies.Reply.TheVariants as reply
use Rattle.swarm_plain.specs.Plain.{world_of}

pub returns-in_ok-note-in-Ok : goal.returns-in_ok-note-in-Ok
returns-in_ok-note-in-Ok c w stands =
    let made = c.in-Ok.ensures.done w stands in
    record { reply = reply.Txn c.in-Ok.ids; made = made.0; does = made.1; stands = made.2 }

pub returns-in_ok-push_refusal-in-Err : goal.returns-in_ok-push_refusal-in-Err
returns-in_ok-push_refusal-in-Err c = (c.in-Err.ensures.done (world_of c.args.copy.now) c.requires).1

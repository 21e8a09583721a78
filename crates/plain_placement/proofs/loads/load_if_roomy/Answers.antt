use Rattle.std.proofs.Common.{sym, ◌∙◌}
use Rattle.swarm_plain.specs.Plain.{tables_of}
use Rattle.plain_placement.proofs.Loading.{opens, too_full}
use Rattle.plain_placement.proofs.loads.load_if_roomy.Goals as goal

pub returns-then-has_room : goal.returns-then-has_room
returns-then-has_room c =
    let t = tables_of c.args.plain.now in (
      opens t c.args.task.now c.args.node.now c.node_load-load.result c.node_load-load.ensures c.requires
          (sym c.has_room.ensures ∙ c.if-has_room.true),
      c.node_load-load.ensures,
    )

pub returns-else-has_room : goal.returns-else-has_room
returns-else-has_room c =
    too_full (tables_of c.args.plain.now) c.args.task.now c.args.node.now c.node_load-load.result
    c.node_load-load.ensures (sym c.has_room.ensures ∙ c.if-has_room.false)

use Rattle.std.proofs.Common.{◌∙◌, ap}
use Rattle.serde_json.specs.Written.{has_float}
use Rattle.events_text.proofs.NoFloats.{no_float-entry}
use Rattle.swarm_plain.specs.Plain.{world_of}
use Rattle.events_text.proofs.lines.entry_line.Goals as goal

pub json_text-requires : goal.json_text-requires
json_text-requires c =
    ap has_float c.in_ok-value.ensures
    ∙ no_float-entry (world_of c.args.old.now) (world_of c.args.new.now) c.args.entry.now c.args.reply.now

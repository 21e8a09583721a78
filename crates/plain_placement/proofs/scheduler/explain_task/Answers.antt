use Rattle.std.proofs.Common.{sym, ap, ◌∙◌}
use Rattle.std.specs.Option.{option_copied}
use Rattle.swarm_plain.specs.Plain.{world_of}
use Rattle.plain_placement.proofs.Scheduling.{explains, explains_none}
use Rattle.plain_placement.proofs.scheduler.explain_task.Goals as goal

pub returns-in-Some : goal.returns-in-Some
returns-in-Some c =
    c.note_task.ensures
    ∙ explains (world_of c.args.plain.now) c.args.version c.args.task c.in-Some.waiting.now
    c.refusal_counts-counts.result c.requires.tasks (sym c.task.ensures ∙ ap option_copied c.in-Some.is) c.refusal_counts-counts.ensures

pub returns-in_default : goal.returns-in_default
returns-in_default c =
    explains_none (world_of c.args.plain.now) c.args.version c.args.task
    (sym c.task.ensures ∙ ap option_copied c.in_default.is)

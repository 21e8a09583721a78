use Rattle.script_writer.proofs.Fronts.{again}
use Rattle.script_writer.proofs.entries.write_entry.Goals as goal

pub returns-clause-again : goal.returns-clause-again
returns-clause-again c = again c.line_of.result c.args.entry.now c.requires c.line_of.ensures

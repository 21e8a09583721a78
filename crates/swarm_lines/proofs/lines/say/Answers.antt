use Rattle.swarm_lines.proofs.Short.{said_short}
use Rattle.swarm_lines.proofs.lines.say.Goals as goal

pub returns-in-Ok-clause-fit : goal.returns-in-Ok-clause-fit
returns-in-Ok-clause-fit c = record {
  text = c.in-Ok.ensures.text;
  short = said_short c.args.line.now c.in-Ok.said c.in-Ok.ensures.meaning;
  runs = c.in-Ok.ensures.runs;
}

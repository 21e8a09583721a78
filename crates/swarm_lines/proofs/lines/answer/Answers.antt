use Rattle.swarm_lines.proofs.Doing.{call_line}
use Rattle.swarm_lines.proofs.lines.answer.Goals as goal

pub returns-clause-line : goal.returns-clause-line
returns-clause-line g c =
    call_line c.args.call c.call-answered.result c.put_answer-put.result _ _ _ _ c.call-answered.ensures.ok
    c.call-answered.ensures.err c.put_answer-put.ensures.puts

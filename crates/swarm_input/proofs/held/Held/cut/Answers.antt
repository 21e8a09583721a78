use Rattle.std.proofs.Common.{arith}
use Rattle.swarm_input.proofs.HeldLines.{cuts_at}
use Rattle.swarm_input.proofs.held.Held.cut.Goals as goal

pub returns-clause-cuts : goal.returns-clause-cuts
returns-clause-cuts c =
    cuts_at c.args.self.now c.advance.new.self c.args.place c.in_ok-line.line c.len.result c.line_size-count.result c.is_none.result
    c.requires.line c.requires.last c.len.ensures c.line_size-count.ensures (omega (arith, c.if-count-eq0.false)) c.in_ok-line.ensures
    c.advance.ensures.bytes c.advance.ensures.finished c.is_none.ensures

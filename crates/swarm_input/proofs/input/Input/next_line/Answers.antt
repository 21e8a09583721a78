use Rattle.std.proofs.Common.{ap, sym, ◌∙◌}
use Rattle.swarm_input.specs.LineBuffer.{LineBuffer}
use Rattle.swarm_input.proofs.Cutting.{gives}
use Rattle.swarm_input.proofs.input.Input.next_line.Goals as goal

pub returns-in-Ok-cut-clause-line : goal.returns-in-Ok-cut-clause-line
returns-in-Ok-cut-clause-line g c =
    gives c.args.self.now c.fill.new.self c.cut.new.self _ _ c.in-Ok.place c.in-Ok-cut.line (ap (λ (h : LineBuffer). h.finished) (sym c.self.view_is) ∙ sym c.is_finished.ensures ∙ c.if-is_finished.false) c.in-Ok.ensures.takes c.in-Ok.ensures.found
    c.in-Ok-cut.ensures.cuts

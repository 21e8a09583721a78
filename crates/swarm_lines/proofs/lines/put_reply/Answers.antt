use Rattle.std.proofs.Common.{List, ℕ, refl, subst, ◌∙◌}
use Rattle.swarm_objects.specs.Outside.{AppendsPrefix}
use Rattle.swarm_lines.proofs.lines.put_reply.Goals as goal

pub returns-clause-puts : goal.returns-clause-puts
returns-clause-puts g c =
    subst (λ (t : List ℕ). AppendsPrefix (g.O.Sink.written c.args.out.now) (g.O.Sink.written c.put_text.new.out) t)
    (c.as_slice.ensures ∙ c.in-Ok.ensures) c.in-Err-put_text.ensures.bytes

pub returns-clause-kept : goal.returns-clause-kept
returns-clause-kept g c = tt

pub returns-clause-risen : goal.returns-clause-risen
returns-clause-risen g c = λ h. refl

use Rattle.swarm_replicated.proofs.Remembering.{gap-less-kept, gap-less-new, gap-less-none}
use Rattle.swarm_replicated.proofs.known_places.Counted.gap_without.Goals as goal

pub returns-then-number-eq0 : goal.returns-then-number-eq0
returns-then-number-eq0 c left rises none is = gap-less-none c.args.self.gap c.args.number left c.if-number-eq0.true rises is

pub returns-then-self-number : goal.returns-then-self-number
returns-then-self-number c left rises none is = gap-less-kept c.args.self.gap c.args.number left c.if-self-number.true rises is

pub returns : goal.returns
returns c left rises none is =
    gap-less-new c.args.self.gap c.args.number left c.if-number-eq0.false c.if-self-number.false rises none is

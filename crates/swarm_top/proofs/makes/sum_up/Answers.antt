use Rattle.std.proofs.Common.{string_bytes}
use Rattle.swarm_world.proofs.Entering.{usable-replay}
use Rattle.swarm_top.proofs.Summing.{sums_up}
use Rattle.swarm_top.proofs.makes.sum_up.Goals as goal

pub summary_of-text-requires : goal.summary_of-text-requires
summary_of-text-requires c = usable-replay c.args.world c.requires.legal

pub returns : goal.returns
returns c =
    sums_up (λ t. string_bytes t) c.summary_of-text.result c.args.world c.args.entries c.requires.entries
    c.summary_of-text.ensures

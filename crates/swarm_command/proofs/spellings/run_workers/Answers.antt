use Rattle.std.proofs.Common.{rules}
use Rattle.swarm_command.proofs.Two.{of_two}
use Rattle.swarm_command.proofs.spellings.run_workers.Goals as goal

pub returns-in-len2 : goal.returns-in-len2
returns-in-len2 c =
    rw (of_two c.args.words.now c.run-item-then-words-lt3.result c.option-item.result c.in-len2.len_at_least c.in-len2.len_below c.run-item-then-words-lt3.is c.option-item.is)
    (search rules)

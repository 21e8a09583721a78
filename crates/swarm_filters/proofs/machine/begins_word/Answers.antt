use Rattle.std.proofs.Common.{◌∙◌}
use Rattle.swarm_filters.proofs.Places.{starts_with-small}
use Rattle.swarm_filters.proofs.machine.begins_word.Goals as goal

pub returns-then-bytes-word : goal.returns-then-bytes-word
returns-then-bytes-word c = c.is_same_text.ensures ∙ starts_with-small c.args.word.now c.args.bytes.now c.requires

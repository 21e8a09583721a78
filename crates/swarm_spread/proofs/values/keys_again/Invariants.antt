use Rattle.std.proofs.Common.{◌≡◌, take}
use Rattle.swarm_spread.proofs.values.keys_again.Given as goal

abbrev pub invariant-loop-key : goal.invariant-loop-key
invariant-loop-key l = l.again ≡ take l.key-index l.keys

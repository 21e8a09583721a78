use Rattle.std.proofs.Common.{◌≡◌, fold, take}
use Rattle.swarm_index.specs.Inside.Marks.{mix}
use Rattle.swarm_index.proofs.keys.text_digest.Given as goal

abbrev pub invariant-loop-byte : goal.invariant-loop-byte
invariant-loop-byte l = l.digest ≡ fold mix 0 (take l.byte-index l.bytes)

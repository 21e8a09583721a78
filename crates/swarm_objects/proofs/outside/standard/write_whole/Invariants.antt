use Rattle.std.proofs.Common.{◌≡◌, ◌-◌, ◌≤◌, length, take, drop}
use Rattle.std.specs.Io.KnownBytes.{Appends}
use Rattle.swarm_objects.proofs.outside.standard.write_whole.Given as goal

-- what isn't left was written
abbrev pub invariant-loop-rest : goal.invariant-loop-rest
invariant-loop-rest g l =
    (length l.rest ≤ length l.piece) ×
    (l.rest ≡ drop (length l.piece - length l.rest) l.piece) ×
    Appends (g.W.Write.contents l.initial.writer) (g.W.Write.contents l.writer) (take (length l.piece - length l.rest) l.piece)

abbrev pub decreases-loop-rest : goal.decreases-loop-rest
decreases-loop-rest g l = length l.rest

use Rattle.std.proofs.Common.{ℕ, ◌<◌, ◌≡◌}
use Rattle.swarm_index.specs.Inside.Marks.{digest_at}
use Rattle.swarm_index.proofs.marks.keeps_digests.Given as goal

-- so far both rows have the same digests
abbrev pub invariant-loop-which : goal.invariant-loop-which
invariant-loop-which g l = (w : ℕ) → w < l.which → digest_at g.R.Row.key_of w l.row ≡ digest_at g.R.Row.key_of w l.old

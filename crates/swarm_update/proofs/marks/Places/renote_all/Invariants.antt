use Rattle.std.proofs.Common.{◌*◌}
use Rattle.swarm_update.specs.KnownSurvey.{ShowsOthers}
use Rattle.swarm_update.specs.StalePlaces.{is_stale_from}
use Rattle.swarm_update.proofs.marks.Places.renote_all.Given as goal

abbrev pub invariant-loop-word : goal.invariant-loop-word
invariant-loop-word g l =
    ShowsOthers l.self (g.R.Rows.tables l.rows) l.service (is_stale_from (l.word * 64) l.stale)

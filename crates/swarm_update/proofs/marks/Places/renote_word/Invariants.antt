use Rattle.swarm_update.specs.KnownSurvey.{ShowsOthers}
use Rattle.swarm_update.specs.StalePlaces.{is_stale_from}
use Rattle.swarm_update.proofs.marks.Places.renote_word.Given as goal

abbrev pub invariant-loop-number : goal.invariant-loop-number
invariant-loop-number g l =
    ShowsOthers l.self (g.R.Rows.tables l.rows) l.service (is_stale_from l.number l.stale)

use Rattle.std.proofs.Common.{ap, ◌∙◌}
use Rattle.std.specs.Prelude.{slice_get}
use Rattle.swarm_sessions.proofs.Placing.{found_early, found_there}
use Rattle.swarm_sessions.specs.OnRecord.{if_has}
use Rattle.swarm_sessions.proofs.searching.find.Goals as goal

pub returns-in-Some : goal.returns-in-Some
returns-in-Some c =
    found_early c.args.node c.likely_place.result c.args.rows.now c.in-Some.row c.requires c.in-Some.ensures

pub returns-in-None : goal.returns-in-None
returns-in-None c =
    c.session_at-in-None.ensures
    ∙ ap (λ n. if_has c.args.node (slice_get c.args.rows.now n)) c.lesser.ensures.count
    ∙ found_there c.args.node c.args.rows.now c.requires

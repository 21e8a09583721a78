use Rattle.swarm_update.proofs.Passing.{later_known, later_stands}
use Rattle.swarm_update.proofs.known_survey.Kept.pass_time.Goals as goal

pub returns-clause-later : goal.returns-clause-later
returns-clause-later c =
    later_known c.args.self.now.survey c.args.self.now.subject c.in-Some.subject c.without_flying.result c.in-Some.is
    c.without_flying.ensures.less c.without_flying.ensures.stale

pub returns-clause-stands : goal.returns-clause-stands
returns-clause-stands c =
    later_stands c.args.self.now.subject c.in-Some.subject c.without_flying.result c.in-Some.is
    c.without_flying.ensures.less

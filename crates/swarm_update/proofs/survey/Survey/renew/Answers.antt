use Rattle.std.proofs.Common.{◌∙◌}
use Rattle.swarm_update.proofs.Failures.{failures_of_service}
use Rattle.swarm_update.proofs.survey.Survey.renew.Goals as goal

pub returns-then-not-is_counted : goal.returns-then-not-is_counted
returns-then-not-is_counted g c =
    record {
      places = c.renote_all.ensures;
      failures =
          c.count_failures-self.ensures
          ∙ failures_of_service (g.R.Rows.tables c.args.rows.now) c.args.service.now c.args.run.now;
    }

use Rattle.swarm_spans.proofs.PutAnew.{services_put, services_stay}
use Rattle.swarm_spans.proofs.service_spans.ServiceSpans.touch_service.Goals as goal

pub returns-clause-stays : goal.returns-clause-stays
returns-clause-stays g c =
    services_stay (g.R.Rows.tables c.args.rows.now) c.args.self.now c.args.service c.add.new.self c.add-2.new.self
    c.add-3.new.self c.add-4.new.self c.add-5.new.self c.add_ports_of.new.span c.add-6.new.self c.add_tasks_of.new.span
    c.add.ensures c.add-2.ensures c.add-3.ensures c.add-4.ensures c.add-5.ensures c.add_ports_of.ensures.wider
    c.add-6.ensures c.add_tasks_of.ensures.wider

pub returns-clause-goes_on : goal.returns-clause-goes_on
returns-clause-goes_on g c =
    services_put (g.R.Rows.tables c.args.rows.now) c.args.self.now c.args.service c.add.new.self c.add-2.new.self
    c.add-3.new.self c.add-4.new.self c.add-5.new.self c.add_ports_of.new.span c.add-6.new.self c.add_tasks_of.new.span
    c.requires c.add.ensures c.add-2.ensures c.add-3.ensures c.add-4.ensures c.add-5.ensures
    c.add_ports_of.ensures.wider c.add_ports_of.ensures.has c.add-6.ensures c.add_tasks_of.ensures.wider c.add_tasks_of.ensures.has

use Rattle.std.proofs.Common.{ap, ◌∙◌}
use Rattle.std.specs.Option.{option_map}
use Rattle.swarm_objects.specs.Rows.{node_id}
use Rattle.swarm_spread.specs.Counts.{Counts}
use Rattle.swarm_spread.proofs.BestPlaces.{best_missing, best_read, filtered_best, scan_is}
use Rattle.swarm_spread.proofs.tree.SpreadTree.best_by.Goals as goal

pub returns-in-Some-clause-tested : goal.returns-in-Some-clause-tested
returns-in-Some-clause-tested g c =
    best_read (g.R.Rows.tables c.args.rows.now) c.args.task.now (λ n. g.A.Admits.test c.args.test.now n c.args.task.now)
    c.args.self.now c.best_place.result c.as_slice.result.now c.in-Some.place (scan_is (g.R.Rows.tables c.args.rows.now) c.args.task.now c.args.self.now c.requires.stands c.requires.own) c.best_place.ensures.value
    (c.as_slice.ensures ∙ ap (λ (d : Counts). d.nodes) c.self.view_is) c.in-Some.is

pub returns-in-Some-clause-filtered : goal.returns-in-Some-clause-filtered
returns-in-Some-clause-filtered g c = λ each.
    returns-in-Some-clause-tested g c
    ∙ ap (option_map node_id) (filtered_best (g.R.Rows.tables c.args.rows.now) c.args.task.now
    (λ n. g.A.Admits.test c.args.test.now n c.args.task.now) each)

pub returns-in-None-clause-tested : goal.returns-in-None-clause-tested
returns-in-None-clause-tested g c =
    best_missing (g.R.Rows.tables c.args.rows.now) c.args.task.now (λ n. g.A.Admits.test c.args.test.now n c.args.task.now)
    c.args.self.now c.best_place.result (scan_is (g.R.Rows.tables c.args.rows.now) c.args.task.now c.args.self.now c.requires.stands c.requires.own) c.best_place.ensures.value c.in-None.is

pub returns-in-None-clause-filtered : goal.returns-in-None-clause-filtered
returns-in-None-clause-filtered g c = λ each.
    returns-in-None-clause-tested g c
    ∙ ap (option_map node_id) (filtered_best (g.R.Rows.tables c.args.rows.now) c.args.task.now
    (λ n. g.A.Admits.test c.args.test.now n c.args.task.now) each)

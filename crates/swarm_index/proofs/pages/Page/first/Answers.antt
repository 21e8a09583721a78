use Rattle.std.proofs.Common.{Some, ap, length, rules, ◌<◌, ◌∙◌}
use Rattle.swarm_index.proofs.InPage.{finds, goes_on}
use Rattle.swarm_index.specs.Inside.Boxes.{first_from}
use Rattle.swarm_index.proofs.pages.Page.first.Goals as goal

pub returns-in-Some : goal.returns-in-Some
returns-in-Some g c =
    let lt : c.loop-at.at < length c.self.inside.places.items = search rules in
    ap Some c.deref.ensures ∙ finds c.self.inside.places.items c.loop-at.at c.index.result.now c.in-Some.row (first_from c.args.from c.args.self.now) lt c.index.ensures c.in-Some.is c.loop-at.invariant

pub loop-at-preserved : goal.loop-at-preserved
loop-at-preserved g c =
    let lt : c.loop-at.at < length c.self.inside.places.items = search rules in
    goes_on c.self.inside.places.items c.loop-at.at c.index.result.now (first_from c.args.from c.args.self.now) lt c.index.ensures c.in_default.is c.loop-at.invariant

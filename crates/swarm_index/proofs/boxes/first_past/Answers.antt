use Rattle.std.proofs.Common.{drop, length, rules, ◌<◌}
use Rattle.swarm_index.proofs.PageSteps.{finds, goes_on}
use Rattle.swarm_index.specs.Inside.Boxes.{all_places, first_in}
use Rattle.swarm_index.proofs.boxes.first_past.Goals as goal

pub returns-in-Some : goal.returns-in-Some
returns-in-Some g c =
    let lt : c.loop-key.key < length c.args.pages.now.items = search rules in
    finds c.args.pages.now.items c.loop-key.key c.in-Some.row.now (first_in (all_places (drop c.args.from c.args.pages.now.items))) lt c.in-Some.ensures c.loop-key.invariant

pub loop-key-preserved : goal.loop-key-preserved
loop-key-preserved g c =
    let lt : c.loop-key.key < length c.args.pages.now.items = search rules in
    goes_on c.args.pages.now.items c.loop-key.key (first_in (all_places (drop c.args.from c.args.pages.now.items))) lt c.in_default.ensures c.loop-key.invariant

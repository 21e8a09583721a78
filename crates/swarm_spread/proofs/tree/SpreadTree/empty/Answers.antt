use Rattle.std.proofs.Common.{rules, ◌≡◌, length, subst, sym}
use Rattle.std.specs.Prelude.{map}
use Rattle.swarm_spread.specs.Counts.{path_of}
use Rattle.swarm_spread.specs.Sums.{HasDepth}
use Rattle.swarm_spread.proofs.PlaceLemmas.{deep_paths, empty_kept}
use Rattle.swarm_spread.proofs.tree.SpreadTree.empty.Goals as goal

pub empty_levels-requires-clause-deep : goal.empty_levels-requires-clause-deep
empty_levels-requires-clause-deep g c =
    let t = g.R.Rows.tables c.args.rows.now in
    let all : c.as_slice.result.now ≡ map (path_of c.args.keys.now) t.nodes = search rules in
    subst (HasDepth (length c.args.keys.now)) (sym all) (deep_paths c.args.keys.now t.nodes)

pub invariant_of-result : goal.invariant_of-result
invariant_of-result g c =
    let t = g.R.Rows.tables c.args.rows.now in
    empty_kept c.args.keys.now t.nodes c.in_ok-nodes.nodes c.in_ok-paths.paths c.in_ok-here.here.items c.in_ok-levels.levels
    (search rules) (search rules) (search rules) c.requires.sound.ordered.nodes (search rules) (search rules) (search rules)

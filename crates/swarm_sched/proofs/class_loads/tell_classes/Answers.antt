use Rattle.std.proofs.Common.{ap, arith, subst, sym, ◌∙◌, ◌≡◌}
use Rattle.std.specs.Option.{option_copied}
use Rattle.std.specs.Prelude.{get_or}
use Rattle.swarm_objects.specs.Nodes.BestNode.{branch_load}
use Rattle.swarm_sched.proofs.ClassLoading.{place_few, told_at}
use Rattle.swarm_sched.proofs.class_loads.tell_classes.Goals as goal
use Rattle.swarm_sched.specs.Inside.Branches.{Preferences}
use Rattle.swarm_sched.specs.declared.classes.ClassedNode.{ClassedNode}

pub tell-requires : goal.tell-requires
tell-requires g c =
    let t = g.R.Rows.tables c.args.rows.now in
    let d : ClassedNode = record { id = 0; class = 0 } in
    let p = c.args.branches.now in
    let entry = get_or c.args.sorted.now c.loop-entry.entry-index d in
    subst (λ (q : Preferences). get_or c.args.loads.now entry.class 0 ≡ branch_load q.tables q.service q.keys
    c.in-Some.node.now)
    (sym c.loop-entry.invariant.same)
    (told_at t p c.args.sorted.now c.args.loads.now c.loop-entry.entry-index d c.in-Some.node.now
    c.requires.usable
    c.requires.same c.requires.sorted c.requires.some c.requires.loads c.loop-entry-test.true
    (sym c.node.ensures ∙ ap option_copied c.in-Some.is))

pub bounds-is_told-entry : goal.bounds-is_told-entry
bounds-is_told-entry g c =
    place_few (g.R.Rows.tables c.args.rows.now).nodes c.args.branches.now.keys c.args.sorted.now
    c.loop-entry.entry-index
    (record { id = 0; class = 0 }) c.requires.sorted c.loop-entry-test.true

pub bounds-is_told-entry-in-loop-entry : goal.bounds-is_told-entry-in-loop-entry
bounds-is_told-entry-in-loop-entry g c =
    place_few (g.R.Rows.tables c.args.rows.now).nodes c.args.branches.now.keys c.args.sorted.now
    c.loop-entry.entry-index
    (record { id = 0; class = 0 }) c.requires.sorted c.loop-entry-test.true

pub bounds-loads-entry : goal.bounds-loads-entry
bounds-loads-entry g c =
    let few =
    place_few (g.R.Rows.tables c.args.rows.now).nodes c.args.branches.now.keys c.args.sorted.now
    c.loop-entry.entry-index
    (record { id = 0; class = 0 }) c.requires.sorted c.loop-entry-test.true in
    omega (arith, few, c.requires.loads.all)

pub offset_bounds-loads-entry : goal.offset_bounds-loads-entry
offset_bounds-loads-entry g c =
    let few =
    place_few (g.R.Rows.tables c.args.rows.now).nodes c.args.branches.now.keys c.args.sorted.now
    c.loop-entry.entry-index
    (record { id = 0; class = 0 }) c.requires.sorted c.loop-entry-test.true in
    omega (arith, few)

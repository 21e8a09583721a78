use Rattle.std.proofs.Common.{subst, take, ◌≡◌}
use Rattle.swarm_sched.proofs.Branching.{known_at, remembered_is}
use Rattle.swarm_sched.proofs.branches.Branches.remembered.Goals as goal
use Rattle.swarm_sched.specs.Inside.Branches.{HasText, Preferences, load_at}

pub is_one-requires-clause-own : goal.is_one-requires-clause-own
is_one-requires-clause-own g c =
    let b = c.self.inside in
    let seen : Preferences = record { tables = g.R.Rows.tables b.rows.now; service = b.service; keys = b.keys.now } in
    let known = known_at seen b.known c.loop-known.known-index c.known-item.result c.in-Some.known c.self.invariant.1
    c.loop-known-test.true c.known-item.is c.in-Some.is in
    subst (λ d. HasText (take d b.keys.now) c.in-Some.known.node.now c.in-Some.known.text.now) c.if-known-depth.true known.text

pub returns-then-is_one : goal.returns-then-is_one
returns-then-is_one g c =
    let b = c.self.inside in
    let seen : Preferences = record { tables = g.R.Rows.tables b.rows.now; service = b.service; keys = b.keys.now } in
    let known = known_at seen b.known c.loop-known.known-index c.known-item.result c.in-Some.known c.self.invariant.1
    c.loop-known-test.true c.known-item.is c.in-Some.is in
    subst (λ p. c.in-Some.known.load ≡ load_at p c.args.depth c.args.node.now) c.self.view_is
    (remembered_is seen c.args.depth c.in-Some.known c.args.node.now known c.if-known-depth.true (c.is_one.ensures c.if-is_one.true))

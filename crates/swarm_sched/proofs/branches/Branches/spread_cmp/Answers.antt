use Rattle.std.proofs.Common.{drop, subst, sym, take, [], ◌+◌, ◌∙◌, ◌≡◌}
use Rattle.std.specs.Cmp.Lexicographic.{slice_cmp}
use Rattle.std.specs.Ordering.{nat_cmp}
use Rattle.std.specs.declared.cmp.Ordering.TheVariants.{Equal}
use Rattle.swarm_objects.specs.Nodes.BestNode.{spread_cmp}
use Rattle.swarm_objects.specs.Nodes.Constraints.{key_value}
use Rattle.swarm_sched.proofs.Preferring.{agree_more, goes_on, is_equal}
use Rattle.swarm_sched.proofs.branches.Branches.spread_cmp.Goals as goal
use Rattle.swarm_sched.specs.Inside.Branches.{Preferences}

pub loop-place-preserved : goal.loop-place-preserved
loop-place-preserved g c =
    let i = c.self.inside in
    let seen : Preferences = record { tables = g.R.Rows.tables i.rows.now; service = i.service; keys = i.keys.now } in
    let a = c.args.a.now in
    let b = c.args.b.now in
    let place = c.loop-place.place in
    let k = c.index-keys-place.result in
    let before = c.loop-place.invariant in
    let same_view : c.loop-place.self ≡ seen = before.same ∙ sym c.self.view_is in
    let equal : slice_cmp nat_cmp (key_value a k) (key_value b k) ≡ Equal = sym c.value_cmp-value.ensures ∙ is_equal c.value_cmp-value.result c.ne.result c.ne.ensures c.if-ne.false in
    let alike = agree_more seen.keys place k k a b c.loop-place-test.true c.index-keys-place.is before.alike equal in
    record { same = before.same; alike = alike; order = subst (λ p. spread_cmp p.tables p.service (take (place + 1) seen.keys) (drop (place + 1) seen.keys) a b ≡ spread_cmp p.tables p.service [] seen.keys a b) (sym same_view) (goes_on seen place k k a b c.loop-place-test.true c.index-keys-place.is alike equal ∙ subst (λ p. spread_cmp p.tables p.service (take place seen.keys) (drop place seen.keys) a b ≡ spread_cmp p.tables p.service [] seen.keys a b) same_view before.order) }

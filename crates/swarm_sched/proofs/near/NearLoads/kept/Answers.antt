use Rattle.std.proofs.Common.{Ok, Some, get_or, subst, sym, ◌≡◌}
use Rattle.swarm_objects.specs.Rows.{IsRising, row_at}
use Rattle.swarm_sched.proofs.Nearing.{kept_totals, totals_rise}
use Rattle.swarm_sched.proofs.near.NearLoads.kept.Goals as goal
use Rattle.swarm_sched.specs.Inside.Nearing.{IsPlace, totals_node}
use Rattle.swarm_sched.specs.Inside.Totals.{AreTotals}

pub place_of-requires : goal.place_of-requires
place_of-requires g c =
    let t = g.R.Rows.tables c.self.inside.rows.now in
    subst (IsRising totals_node) (sym c.as_slice-all.ensures)
    (totals_rise t c.self.inside.near.now c.self.invariant.0 c.self.invariant.1)

pub returns-in-Ok : goal.returns-in-Ok
returns-in-Ok g c =
    let t = g.R.Rows.tables c.self.inside.rows.now in
    let all = c.as_slice-all.result.now in
    let kept = get_or all c.in-Ok.place (0, 0, 0, 0) in
    let place : IsPlace totals_node c.args.node all (Ok c.in-Ok.place) =
    subst (IsPlace totals_node c.args.node all) c.in-Ok.is c.place_of.ensures in
    let found : row_at totals_node c.args.node c.self.inside.near.now.totals ≡ Some kept =
    subst (λ l. row_at totals_node c.args.node l ≡ Some kept) c.as_slice-all.ensures (place.1 (0, 0, 0, 0)) in
    subst (λ u. AreTotals u c.args.node (record { cpu = kept.1; mem = kept.2; load = kept.3 })) c.self.view_is
    (kept_totals t c.self.inside.near.now c.args.node kept c.self.invariant.1 found)

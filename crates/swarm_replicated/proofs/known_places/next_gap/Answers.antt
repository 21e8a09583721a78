use Rattle.std.proofs.Common.{arith, sym, ◌∙◌}
use Rattle.swarm_replicated.proofs.Remembering.{past-held, search-begins, search-beyond, search-ends}
use Rattle.swarm_replicated.proofs.known_places.next_gap.Goals as goal

pub loop-next-init : goal.loop-next-init
loop-next-init g c =
    record {
      within = omega (arith, c.in_ok-end.ensures.1);
      searches =
          search-begins (g.R.Rows.tables c.args.rows.now) c.args.service.now c.args.gap c.in_ok-first.first
          c.requires.gap c.in_ok-first.ensures.1;
    }

pub returns-then-not-is_held_place : goal.returns-then-not-is_held_place
returns-then-not-is_held_place g c =
    search-ends (g.R.Rows.tables c.args.rows.now) c.args.service.now c.args.gap c.loop-next.next
    (sym c.is_held_place.ensures ∙ c.if-not-is_held_place.true) c.loop-next.invariant.searches

pub loop-next-preserved : goal.loop-next-preserved
loop-next-preserved g c =
    record {
      within = omega (arith, c.loop-next-test.true);
      searches =
          past-held (g.R.Rows.tables c.args.rows.now) c.args.service.now c.args.gap c.loop-next.next
          (sym c.is_held_place.ensures ∙ c.if-not-is_held_place.false) c.loop-next.invariant.searches;
    }

pub returns : goal.returns
returns g c =
    search-beyond (g.R.Rows.tables c.args.rows.now) c.args.service.now c.args.gap c.loop-next.next c.in_ok-end.end
    c.gap_from.result (omega (arith, c.loop-next-test.false, c.loop-next.invariant.within)) c.gap_from.ensures
    c.loop-next.invariant.searches

use Rattle.std.proofs.Common.{arith, refl, sym, ◌∙◌, ◌<◌, ◌≤◌, length}
use Rattle.swarm_watch.proofs.Sweeping.{sweeps_drop, sweeps_keep, sweeps_same, sweeps_start, sweeps_tidy}
use Rattle.swarm_watch.proofs.cursors.give_up.Goals as goal
use Rattle.swarm_watch.proofs.cursors.give_up.Goals.{then-is_waited_at, else-is_waited_at}

pub loop-place-init : goal.loop-place-init
loop-place-init c = record {
  sweeps =
      let inside : c.args.start ≤ length c.args.kept.now.items = omega (arith, c.requires.start, c.args.kept.now.ok.0) in
      sweeps_start c.args.cursors.now c.args.kept.now.items c.args.start inside c.requires.swept;
  capacity = refl;
  count = refl;
}

pub loop-place-preserved : goal.loop-place-preserved
loop-place-preserved c =
    let inside : c.loop-place.place < length c.loop-place.kept.items = omega (arith, c.loop-place.kept.ok.0) in
    elim c.if-is_waited_at.branch [
      | then-is_waited_at w ↦
          rw (w.cursors-is, w.kept-is, w.end-is)
          (record {
            sweeps = sweeps_keep _ _ _ _ _ _ _ c.loop-place.invariant.sweeps inside c.index.ensures (sym c.is_waited_at.ensures ∙ w.if-is_waited_at.true);
            capacity = c.loop-place.invariant.capacity;
            count = c.loop-place.invariant.count;
          })
      | else-is_waited_at w ↦
          rw (w.cursors-is, w.kept-is, w.end-is, w.step_back.ensures)
          (record {
            sweeps = sweeps_drop _ _ _ _ _ _ _ c.loop-place.invariant.sweeps inside c.index.ensures (sym c.is_waited_at.ensures ∙ w.if-is_waited_at.false);
            capacity = c.loop-place.invariant.capacity;
            count = c.loop-place.invariant.count;
          })
    ]

pub returns : goal.returns
returns c =
    let all : length c.loop-place.kept.items ≤ c.loop-place.place =
    omega (arith, c.loop-place.kept.ok.0, c.loop-place.invariant.count, c.len-place-end.ensures, c.loop-place-test.false) in
    record {
      tidy = rw c.truncate.ensures.items (sweeps_tidy _ _ _ _ _ _ c.loop-place.invariant.sweeps all);
      same = rw c.truncate.ensures.items (sweeps_same _ _ _ _ _ _ c.loop-place.invariant.sweeps all);
      capacity = c.truncate.ensures.capacity ∙ c.loop-place.invariant.capacity;
      fewer = omega (arith, c.truncate.ensures.len, c.loop-place.invariant.count);
    }

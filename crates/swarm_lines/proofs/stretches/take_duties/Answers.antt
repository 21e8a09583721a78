use Rattle.std.proofs.Common.{Ok, ap, arith, ◌+◌, ◌<◌, ◌∙◌, ◌≡◌, ◌≤◌}
use Rattle.swarm_lines.proofs.Stretching.{took_all, took_idle, took_none, took_part, took_step}
use Rattle.swarm_lines.proofs.stretches.take_duties.Goals as goal
use Rattle.turn_cell.specs.Passes.{seen}

pub loop-count-init : goal.loop-count-init
loop-count-init g c =
    (c.requires.pass.0, c.requires.pass.1, omega arith, took_none c.args.budget (seen c.args.pass.now))

pub loop-count-preserved : goal.loop-count-preserved
loop-count-preserved g c =
    let i = c.loop-count.invariant in
    let e = c.advance.ensures in
    let below : c.loop-count.count < c.args.budget = c.loop-count-test.true in
    let more : c.loop-count.count + 1 ≤ c.args.budget = omega (arith, below) in (
      e.pass.0,
      e.pass.1,
      more,
      took_step c.args.budget c.loop-count.count (seen c.args.pass.now) (seen c.loop-count.pass)
          (seen c.advance.new.pass) i.3 below (e.did (c.in-Ok-None.is ∙ ap Ok c.in-Ok-None.field-0-is)),
    )

pub returns-in-Ok-Some-clause-ok : goal.returns-in-Ok-Some-clause-ok
returns-in-Ok-Some-clause-ok g c =
    let idle = c.advance.ensures.idle c.in-Ok-Some.look (c.in-Ok-Some.is ∙ ap Ok c.in-Ok-Some.field-0-is) in
    took_idle c.args.budget c.loop-count.count (seen c.args.pass.now) (seen c.loop-count.pass)
    (seen c.advance.new.pass) c.loop-count.invariant.3 idle.others idle.none

pub returns-in-Err-clause-err : goal.returns-in-Err-clause-err
returns-in-Err-clause-err g c =
    took_part c.in-Err.cause c.args.budget c.loop-count.count (seen c.args.pass.now) (seen c.loop-count.pass)
    (seen c.advance.new.pass) c.loop-count.invariant.3 c.loop-count-test.true c.in-Err.ensures.err

pub returns-clause-ok : goal.returns-clause-ok
returns-clause-ok g c =
    let all : c.loop-count.count ≡ c.args.budget =
    (let most = c.loop-count.invariant.2 in let over = c.loop-count-test.false in omega arith) in
    took_all c.args.budget c.loop-count.count (seen c.args.pass.now) (seen c.loop-count.pass) (seen c.look.new.pass)
    c.loop-count.invariant.3 c.look.ensures.stays all

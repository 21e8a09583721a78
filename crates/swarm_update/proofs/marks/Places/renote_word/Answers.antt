use Rattle.std.proofs.Common.{arith, subst, sym, ◌+◌, ◌<◌, ◌∙◌}
use Rattle.swarm_update.proofs.Renoting.{number_noted, number_passed}
use Rattle.swarm_update.proofs.marks.Places.renote_word.Goals as goal
use Rattle.swarm_update.proofs.marks.Places.renote_word.Goals.{else-has, then-has}
use Rattle.swarm_update.specs.KnownSurvey.{ShowsOthers}
use Rattle.swarm_update.specs.StalePlaces.{is_stale_from}

pub loop-number-preserved : goal.loop-number-preserved
loop-number-preserved g c =
    let t = g.R.Rows.tables c.args.rows.now in
    let s = c.args.service.now in
    let n = c.loop-number.number in
    let within : n < 1024 = omega (arith, c.loop-number-test.true, c.requires.word) in
    elim c.if-has.branch [
      | then-has w ↦
          subst (λ v. ShowsOthers v t s (is_stale_from (n + 1) c.args.stale.now)) (sym w.self-is)
          (number_noted c.loop-number.self w.renote.new.self t s c.args.stale.now n within w.renote.ensures
          c.loop-number.invariant)
      | else-has w ↦
          subst (λ v. ShowsOthers v t s (is_stale_from (n + 1) c.args.stale.now)) (sym w.self-is)
          (number_passed c.loop-number.self t s c.args.stale.now n (sym c.has.ensures ∙ w.if-has.false)
          c.loop-number.invariant)
    ]

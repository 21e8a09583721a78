use Rattle.std.proofs.Common.{◌<◌, ◌≤◌, ◌∙◌, refl, subst, sym}
use Rattle.swarm_top.proofs.Backing.{are_back, every_number, lent_run}
use Rattle.swarm_top.proofs.runs.run_beside.Goals as goal

pub close-requires-clause-all : goal.close-requires-clause-all
close-requires-clause-all g c = λ n below.
    let ran = c.run_all-ending.ensures.ran in
    let seats = c.in-Ok.ensures.seats in
    every_number _ c.args.workers c.run_all-ending.result _ _ _
    (lent_run _ c.args.workers c.run_all-ending.result _ _ _ _ _ (ran.count ∙ sym seats.1) ran) n
    (subst (λ k. n < k) seats.0 below)

pub returns-clause-back : goal.returns-clause-back
returns-clause-back g c =
    let ran = c.run_all-ending.ensures.ran in
    let seats = c.in-Ok.ensures.seats in
    are_back _ c.args.workers c.run_all-ending.result _ _ _ _
    (lent_run _ c.args.workers c.run_all-ending.result _ _ _ _ _ (ran.count ∙ sym seats.1) ran)
    c.close.ensures.passes (λ n more. c.close.ensures.others n (subst (λ k. k ≤ n) (sym seats.0) more)) refl

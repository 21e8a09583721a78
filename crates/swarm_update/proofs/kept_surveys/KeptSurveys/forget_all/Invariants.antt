use Rattle.std.proofs.Common.{None, get_or, ◌<◌, ◌≡◌, ℕ}
use Rattle.std.specs.Prelude.{IfSome}
use Rattle.swarm_update.proofs.kept_surveys.KeptSurveys.forget_all.Given as goal

abbrev pub invariant-loop-slot : goal.invariant-loop-slot
invariant-loop-slot l =
    (slot : ℕ) → slot < l.slot → IfSome (get_or l.self.slots slot None) (λ box. box.value.subject ≡ None)

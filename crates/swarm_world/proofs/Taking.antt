-- The duties of the agents' loop.
use Rattle.std.proofs.Common.{◌≡◌, ℕ, refl, true}
use Rattle.swarm_objects.specs.Effects.{is_agents}
use Rattle.swarm_objects.specs.Kinds.{role_of}
use Rattle.swarm_objects.specs.declared.duties.Duty.{Duty}
use Rattle.swarm_objects.specs.declared.duties.Duty.TheVariants as duty

-- there are seven kinds of them
pub seven_kinds : (d : Duty) → is_agents (role_of d) ≡ true → ((n : ℕ) → d ≡ duty.Register n → ⊥) →
    ((n : ℕ) → d ≡ duty.Beat n → ⊥) → ((n : ℕ) → d ≡ duty.Apply n → ⊥) → ((n : ℕ) → d ≡ duty.Pull n → ⊥) →
    ((n x : ℕ) → d ≡ duty.Exec n x → ⊥) → ((n x : ℕ) → d ≡ duty.Report n x → ⊥) →
    ((n x : ℕ) → d ≡ duty.Forget n x → ⊥) → ⊥
seven_kinds (duty.Register n) is register beat apply pull exec report forget = register n refl
seven_kinds (duty.Beat n) is register beat apply pull exec report forget = beat n refl
seven_kinds (duty.Apply n) is register beat apply pull exec report forget = apply n refl
seven_kinds (duty.Pull n) is register beat apply pull exec report forget = pull n refl
seven_kinds (duty.Exec n x) is register beat apply pull exec report forget = exec n x refl
seven_kinds (duty.Report n x) is register beat apply pull exec report forget = report n x refl
seven_kinds (duty.Forget n x) is register beat apply pull exec report forget = forget n x refl
seven_kinds d is register beat apply pull exec report forget = cc

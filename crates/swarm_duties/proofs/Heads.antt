-- The first duty of the loops, loop by loop, and what the settle test answers by it.
use Rattle.std.proofs.Common.{◌≡◌, ◌<◌, ◌+◌, ℕ, true, false, List, length, get_or, drop, Option, Some, None, ap, sym, ◌∙◌}
use Rattle.std.specs.Prelude.{is_some}
use Rattle.std.proofs.lemmas.Option.{slice_get-get_or}
use Rattle.swarm_model.specs.Settle.{idle_answer, settle_answer}
use Rattle.swarm_objects.proofs.RowLemmas.{drop_next}
use Rattle.swarm_objects.specs.Duties.{duties, first_duty}
use Rattle.swarm_objects.specs.Kinds.{roles}
use Rattle.swarm_objects.specs.Rows.{first_of}
use Rattle.swarm_objects.specs.World.{World}
use Rattle.swarm_objects.specs.declared.duties.Duty.{Duty}
use Rattle.swarm_objects.specs.declared.duties.Settle.TheVariants as settle
use Rattle.swarm_objects.specs.declared.duties.Settle.{Settle}
use Rattle.swarm_objects.specs.declared.loops.Role.{Role}

same_any : (rs : List Role) (i : ℕ) (d e : Role) → i < length rs → get_or rs i d ≡ get_or rs i e
same_any rs i d e below =
    let is : Some (get_or rs i d) ≡ Some (get_or rs i e) =
    sym (slice_get-get_or rs i d below) ∙ slice_get-get_or rs i e below in cc

abbrev or_first : Option Duty → World → List Role → Option Duty
or_first found w rs = elim found [ Some x ↦ Some x | None ↦ first_duty w rs ]

-- the loop at this place has no duty, so those behind it are left
pub passed_at : (w : World) (rs : List Role) (i : ℕ) (d : Role) (found whole : Option Duty) → i < length rs →
    found ≡ first_of (duties (get_or rs i d) w) → is_some found ≡ false →
    first_duty w (drop i rs) ≡ whole → first_duty w (drop (i + 1) rs) ≡ whole
passed_at w rs i d (Some x) whole below is none e = absurd cc
passed_at w rs i d None whole below is none e =
    let r = get_or rs i d in
    ap (λ o. or_first o w (drop (i + 1) rs)) is
    ∙ sym (ap (first_duty w) (drop_next rs i r below (same_any rs i d r below))) ∙ e

abbrev answer_of : Option Duty → World → Settle
answer_of found w = elim found [ Some x ↦ settle.Busy x | None ↦ idle_answer w ]

-- no loop has one
pub idle_is : (w : World) → None ≡ first_duty w roles → idle_answer w ≡ settle_answer w
idle_is w none = ap (λ o. answer_of o w) none

-- The status where nothing fails, whoever else had a part in the history.
use Rattle.std.proofs.Common.{◌≡◌, ◌⊎◌, inl, inr, ℕ, List, Bool, true, false, cond, refl, Option, Some, None, sym, ◌∙◌, ap}
use Rattle.std.specs.Prelude.{is_some}
use Rattle.std.specs.List.{list_any}
use Rattle.swarm_model.specs.Own.{own_replies}
use Rattle.swarm_objects.specs.declared.calls.Entry.{Entry}
use Rattle.swarm_objects.specs.declared.replies.Reply.{Reply}
use Rattle.swarm_input.specs.Script.{Reading, reading}
use Rattle.swarm_input.specs.Streams.{Stream}
use Rattle.swarm_lines.specs.Endings.{exit_status}
use Rattle.swarm_lines.specs.Serial.{is_refused}
use Rattle.swarm_lines.specs.declared.endings.Ending.{Ending}
use Rattle.swarm_lines.specs.declared.endings.Ending.TheVariants.{Done, Refused, ReadFault, OutFault, JournalFault, NoMemory, NoMemoryAt, BadLine, Full}
use Rattle.swarm_lines.specs.Callers.{FollowsScript, PutsOwnReplies}
use Rattle.swarm_top.specs.Theorem.{HasCauseOf, IsDecidedStatus, NoneFails}

by_script : (script : Reading) (replies : List Reply) (bad refused : Bool) → is_some script.bad ≡ bad →
    list_any is_refused replies ≡ refused →
    ◌≡◌ {A = ℕ} (cond (is_some script.bad) 6 (cond (list_any is_refused replies) 1 0)) (cond bad 6 (cond refused 1 0))
by_script script replies bad refused e f =
    ap {B = ℕ} (λ (b : Bool). cond b 6 (cond (list_any is_refused replies) 1 0)) e
    ∙ ap {B = ℕ} (λ (b : Bool). cond bad 6 (cond b 1 0)) f

-- the script and what caller 0 was answered decide it
pub decided : (workers : ℕ) (e : Ending) (script out journal : Stream) (h : List Entry) →
    FollowsScript workers e script.before script.after h → PutsOwnReplies e out h → HasCauseOf e script out journal →
    NoneFails script out journal → (exit_status e ≡ 5) ⊎ IsDecidedStatus e script.before h (exit_status e)
decided workers e script out journal h follows answers cause none =
    by_source e script.before script.after follows answers cause
  where
    by_source : (e : Ending) (a b : Option (List ℕ)) → FollowsScript workers e a b h → PutsOwnReplies e out h →
        HasCauseOf e script out journal → (exit_status e ≡ 5) ⊎ IsDecidedStatus e a h (exit_status e)
    by_source e None b follows answers cause = inr tt
    by_source e (Some input) None follows answers cause = absurd follows
    by_source Done (Some input) (Some left) follows answers cause =
        inr (sym (by_script (reading input) (own_replies 0 h) false false (ap is_some follows.0) answers.1))
    by_source Refused (Some input) (Some left) follows answers cause =
        inr (sym (by_script (reading input) (own_replies 0 h) false true (ap is_some follows.0) answers.1))
    by_source (BadLine number fault) (Some input) (Some left) follows answers cause =
        inr (sym (by_script (reading input) (own_replies 0 h) true (list_any is_refused (own_replies 0 h))
        (ap is_some follows.0) refl))
    by_source Full (Some input) (Some left) follows answers cause = inr refl
    by_source NoMemory (Some input) (Some left) follows answers cause = inl refl
    by_source (NoMemoryAt number fault) (Some input) (Some left) follows answers cause = inl refl
    by_source ReadFault (Some input) (Some left) follows answers cause = absurd (none.0 cause)
    by_source OutFault (Some input) (Some left) follows answers cause = absurd (none.1 cause)
    by_source JournalFault (Some input) (Some left) follows answers cause = absurd (none.2 cause)

-- A caller's entries: what others append changes nothing of them.
use Rattle.std.proofs.Common.{◌≡◌, ℕ, List, [], ◌∷◌, ◌++◌, Bool, true, false, cond, ◌==◌, refl, sym, ◌∙◌, ap, map, append_assoc, append-nil}
use Rattle.std.specs.List.{list_all}
use Rattle.swarm_model.proofs.Base.Histories.{replay-snoc}
use Rattle.swarm_model.proofs.Following.Alone.{AreOwn, both, is_own, own_all}
use Rattle.swarm_model.specs.History.{replay, replies_from, step_reply}
use Rattle.swarm_model.specs.OneCaller.{RepliesLaw}
use Rattle.swarm_model.specs.Own.{Step, own_from, own_replies_from, reply_to, step_at}
use Rattle.swarm_objects.specs.World.{World, empty_world}
use Rattle.swarm_objects.specs.declared.calls.Entry.{Entry}
use Rattle.swarm_objects.specs.declared.replies.Reply.{Reply}

chosen_append : {X : Type 0} (c : Bool) (x : X) (l m : List X) → cond c (x ∷ (l ++ m)) (l ++ m) ≡ cond c (x ∷ l) l ++ m
chosen_append true x l m = refl
chosen_append false x l m = refl

pub own-append : (by : ℕ) (before es fs : List Entry) →
    own_from by before (es ++ fs) ≡ own_from by before es ++ own_from by (before ++ es) fs
own-append by before [] fs = ap (λ (l : List Entry). own_from by l fs) (sym (append-nil before))
own-append by before (e ∷ es) fs =
    ap (λ (l : List Step). cond (e.by == by) (step_at before e ∷ l) l)
    (own-append by (before ++ e ∷ []) es fs
    ∙ ap (λ (l : List Entry). own_from by (before ++ e ∷ []) es ++ own_from by l fs) (append_assoc before (e ∷ []) es))
    ∙ chosen_append (e.by == by) (step_at before e) (own_from by (before ++ e ∷ []) es)
    (own_from by (before ++ e ∷ es) fs)

chosen : {X : Type 0} (c : Bool) (x : X) (l : List X) → c ≡ true → cond c (x ∷ l) l ≡ x ∷ l
chosen true x l e = refl
chosen false x l e = absurd cc

-- of caller 0's entries alone the replies are all of them
pub replies_own : (before es : List Entry) → AreOwn es →
    own_replies_from 0 before es ≡ replies_from (replay before) es
replies_own before [] own = refl
replies_own before (e ∷ es) own =
    let parts = both (is_own e) (list_all is_own es) own in
    ap (map reply_to) (chosen (e.by == 0) (step_at before e) (own_from 0 (before ++ e ∷ []) es) parts.0)
    ∙ ap (λ (l : List Reply). step_reply (replay before) e ∷ l)
    (replies_own (before ++ e ∷ []) es parts.1
    ∙ ap (λ (w : World). replies_from w es) (replay-snoc empty_world before e))

pub replies-law : RepliesLaw
replies-law h callers = replies_own [] h (own_all h callers)

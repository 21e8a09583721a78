-- Where nothing is to be done, no duty may follow: nothing comes between a look that names no duty and caller 0's next
-- entry, which is a call.
use Rattle.std.proofs.Common.{◌≡◌, ℕ, inl, inr, List, [], ◌∷◌, ◌++◌, Bool, true, false, cond, ◌==◌, ◌&&◌, ◌||◌, refl, Option, Some, None, sym, ◌∙◌, ap, subst, append-nil}
use Rattle.std.specs.List.{list_all, list_any}
use Rattle.swarm_model.proofs.Base.Histories.{IsLegalFrom-append, room_duty}
use Rattle.swarm_model.proofs.Following.Alone.{both}
use Rattle.swarm_model.proofs.SettleLaws.{nothing_first}
use Rattle.swarm_model.specs.History.{IsLegal, IsLegalFrom, may_follow, replay}
use Rattle.swarm_model.specs.Kept.{SeesIdle}
use Rattle.swarm_model.specs.Undone.{Sees}
use Rattle.swarm_model.specs.Own.{own_from, step_at}
use Rattle.swarm_model.specs.Script.{is_busy, is_duty_entry, is_of_a_caller, is_shared}
use Rattle.swarm_model.specs.Settle.{idle_answer}
use Rattle.swarm_objects.specs.Duties.{first_duty, is_due}
use Rattle.swarm_objects.specs.Kinds.{duty_named, role_of, roles, same_duty}
use Rattle.swarm_objects.specs.Rows.{Has}
use Rattle.swarm_objects.specs.World.{World, empty_world}
use Rattle.swarm_objects.specs.declared.calls.Entry.{Entry}
use Rattle.swarm_objects.specs.declared.calls.What.{What}
use Rattle.swarm_objects.specs.declared.calls.What.TheVariants as what
use Rattle.swarm_objects.specs.declared.duties.Duty.{Duty}
use Rattle.swarm_objects.specs.declared.duties.Settle.TheVariants as settle
use Rattle.swarm_objects.specs.declared.loops.Role.{Role}
use Rattle.swarm_objects.specs.declared.loops.Role.TheVariants as role
use Rattle.std.specs.Prelude.{is_some}

pub unequal : (b : Bool) → b ≡ true → b ≡ false → ⊥
unequal true e f = cc
unequal false e f = cc

-- No duty is due.

has_role : (r : Role) → Has roles r
has_role role.Dispatcher = inl refl
has_role role.Enforcer = inr (inl refl)
has_role role.Restart = inr (inr (inl refl))
has_role role.Update = inr (inr (inr (inl refl)))
has_role role.Replicated = inr (inr (inr (inr (inl refl))))
has_role role.Global = inr (inr (inr (inr (inr (inl refl)))))
has_role role.Job = inr (inr (inr (inr (inr (inr (inl refl))))))
has_role role.Allocator = inr (inr (inr (inr (inr (inr (inr (inl refl)))))))
has_role role.Scheduler = inr (inr (inr (inr (inr (inr (inr (inr (inl refl))))))))
has_role role.Reaper = inr (inr (inr (inr (inr (inr (inr (inr (inr (inl refl)))))))))
has_role role.Agents = inr (inr (inr (inr (inr (inr (inr (inr (inr (inr (inl refl))))))))))

idle_first : (w : World) → is_busy w ≡ false → first_duty w roles ≡ None
idle_first w idle = go (first_duty w roles) refl
  where
    go : (o : Option Duty) → first_duty w roles ≡ o → o ≡ None
    go None is = refl
    go (Some d) is =
        let busy : is_busy w ≡ true = ap (λ (o : Option Duty). is_some
        (duty_named (elim o [ Some x ↦ settle.Busy x | None ↦ idle_answer w ]))) is in
        absurd (unequal (is_busy w) busy idle)

none_due : (w : World) (d : Duty) → is_busy w ≡ false → is_due w d ≡ false
none_due w d idle =
    ap (list_any (same_duty d)) (nothing_first w roles (role_of d) (idle_first w idle) (has_role (role_of d)))

pub no_duty_follows : (w : World) (e : What) → is_busy w ≡ false → may_follow w e ≡ true → is_duty_entry e ≡ false
no_duty_follows w (what.Call c) idle may = refl
no_duty_follows w (what.Duty d) idle may =
    absurd (unequal (is_due w d) (room_duty w d may).2 (none_due w d idle))

-- Entries of others.

or_false : (b : Bool) → (b || false) ≡ true → b ≡ true
or_false true e = refl
or_false false e = absurd cc

pub other_duty : (workers : ℕ) (e : Entry) → is_of_a_caller workers e ≡ true → (e.by == 0) ≡ false →
    is_duty_entry e.what ≡ true
other_duty workers e is other = go e.what is
  where
    go : (w : What) → (e.by == 0 || is_shared e.by workers w) ≡ true → is_duty_entry w ≡ true
    go (what.Call c) h = absurd (unequal (e.by == 0) (or_false (e.by == 0) h) other)
    go (what.Duty d) h = refl

pub unchosen : {X : Type 0} (c : Bool) (x : X) (l : List X) → cond c (x ∷ l) l ≡ [] → (c ≡ false) × (l ≡ [])
unchosen true x l e = absurd cc
unchosen false x l e = (refl, e)

abbrev pub AreOfCallers : ℕ → List Entry → Type 0
AreOfCallers workers es = list_all (is_of_a_caller workers) es ≡ true

-- what comes behind a world in which nothing is to be done, without an entry of caller 0, is nothing
none_between : (workers : ℕ) (seen es : List Entry) → is_busy (replay seen) ≡ false → IsLegalFrom (replay seen) es →
    AreOfCallers workers es → own_from 0 seen es ≡ [] → es ≡ []
none_between workers seen [] idle legal callers none = refl
none_between workers seen (e ∷ es) idle legal callers none =
    let other = (unchosen (e.by == 0) (step_at seen e) (own_from 0 (seen ++ e ∷ []) es) none).0 in
    let one = (both (is_of_a_caller workers e) (list_all (is_of_a_caller workers) es) callers).0 in
    absurd (unequal (is_duty_entry e.what) (other_duty workers e one other)
    (no_duty_follows (replay seen) e.what idle legal.0))

pub callers_append : (workers : ℕ) (es fs : List Entry) → AreOfCallers workers (es ++ fs) →
    AreOfCallers workers es × AreOfCallers workers fs
callers_append workers [] fs callers = (refl, callers)
callers_append workers (e ∷ es) fs callers =
    let parts = both (is_of_a_caller workers e) (list_all (is_of_a_caller workers) (es ++ fs)) callers in
    let rest = callers_append workers es fs parts.1 in
    (ap (λ (b : Bool). b && list_all (is_of_a_caller workers) es) parts.0 ∙ rest.0, rest.1)

-- the law: what caller 0 saw at a look that named no duty is the world just before its next entry
pub idle_until : (workers : ℕ) (before : List Entry) → IsLegal before → AreOfCallers workers before →
    SeesIdle before → is_busy (replay before) ≡ false
idle_until workers before legal callers s =
    let seen = s.sees.seen in
    let others = s.sees.others in
    let is = s.sees.history in
    let now : is_busy (replay seen) ≡ false = ap is_busy (sym s.sees.world) ∙ s.idle in
    let none = none_between workers seen others now
    (IsLegalFrom-append empty_world seen others (subst IsLegal is legal)).1
    (callers_append workers seen others (subst (AreOfCallers workers) is callers)).1 s.sees.none in
    ap (λ (l : List Entry). is_busy (replay l)) (is ∙ ap (λ (l : List Entry). seen ++ l) none ∙ append-nil seen) ∙ now

-- the same of a look, and of the world that it gave
pub seen_until : (workers : ℕ) (before : List Entry) (w : World) → IsLegal before → AreOfCallers workers before →
    Sees before w → is_busy w ≡ false → w ≡ replay before
seen_until workers before w legal callers s idle =
    let is = s.history in
    let now : is_busy (replay s.seen) ≡ false = ap is_busy (sym s.world) ∙ idle in
    let none = none_between workers s.seen s.others now
    (IsLegalFrom-append empty_world s.seen s.others (subst IsLegal is legal)).1
    (callers_append workers s.seen s.others (subst (AreOfCallers workers) is callers)).1 s.none in
    s.world ∙ sym (ap replay (is ∙ ap (λ (l : List Entry). s.seen ++ l) none ∙ append-nil s.seen))

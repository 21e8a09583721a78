-- A single caller's entries: its duties are those that the settle test names, and its wait lines go on by that test.
use Rattle.std.proofs.Common.{◌≡◌, ℕ, zero, suc, ◌+◌, ◌-◌, ◌≤◌, ◌<◌, List, [], ◌∷◌, ◌++◌, Bool, true, false, cond, ◌&&◌, ◌||◌, ◌==◌, refl, Option, Some, None, sym, ◌∙◌, ap, subst, append_assoc, arith}
use Rattle.std.specs.Prelude.{nat_le, nat_lt}
use Rattle.std.specs.List.{list_all}
use Rattle.std.proofs.lemmas.Bool.Decides.{nat_tests}
use Rattle.std.proofs.lemmas.List.Folds.{list_all-append}
use Rattle.std.proofs.lemmas.List.Sums.{sum_by-cons}
use Rattle.swarm_model.proofs.Base.Histories.{replay-append}
use Rattle.swarm_model.proofs.Following.Named.{busy_step, count-cons, idle_step, none_named}
use Rattle.swarm_model.proofs.Following.Strides.{stretch, stride_clock, tick_of, wait_over, wait_step, wait_stride}
use Rattle.swarm_model.specs.Follows.{AreDuties, AreStrides, IsStretch, Stride, entries_of_stride, entries_of_strides, left_after}
use Rattle.swarm_model.specs.History.{replay_from, step_world}
use Rattle.swarm_model.specs.Laws.Steps.{EachStep}
use Rattle.swarm_model.specs.OneCaller.{AreNextTicks, EndsIdle, IsNamed}
use Rattle.swarm_model.specs.Script.{Asked, Asks, Nothing, Settles, Waits, full_stretch, is_busy, is_duty_entry, is_of_a_caller, is_own_duty, is_share, is_shared, next_tick, own_call, own_duties, own_duty}
use Rattle.swarm_model.specs.Serial.{asked_entries, next_stride, settle_entries, wait_entries}
use Rattle.swarm_model.specs.Settle.{settle_answer}
use Rattle.swarm_objects.specs.Kinds.{duty_named, role_of}
use Rattle.swarm_objects.specs.World.{World}
use Rattle.swarm_objects.specs.declared.calls.Call.{Call}
use Rattle.swarm_objects.specs.declared.calls.Call.TheVariants as call
use Rattle.swarm_objects.specs.declared.calls.Entry.{Entry}
use Rattle.swarm_objects.specs.declared.calls.What.{What}
use Rattle.swarm_objects.specs.declared.calls.What.TheVariants as what
use Rattle.swarm_objects.specs.declared.duties.Duty.{Duty}

abbrev pub is_own : Entry → Bool
is_own e = e.by == 0

abbrev pub AreOwn : List Entry → Type 0
AreOwn es = list_all is_own es ≡ true

abbrev AreNamed : World → List Entry → Type 0
AreNamed w es = EachStep IsNamed w es

pub both : (a b : Bool) → (a && b) ≡ true → (a ≡ true) × (b ≡ true)
both true b e = (refl, e)
both false b e = absurd cc

pub joined : (a b : Bool) → a ≡ true → b ≡ true → (a && b) ≡ true
joined true b e f = f
joined false b e f = absurd cc

pub own_append : (es fs : List Entry) → AreOwn (es ++ fs) → AreOwn es × AreOwn fs
own_append es fs own = both (list_all is_own es) (list_all is_own fs) (sym (list_all-append is_own es fs) ∙ own)

pub own_join : (es fs : List Entry) → AreOwn es → AreOwn fs → AreOwn (es ++ fs)
own_join es fs first rest = list_all-append is_own es fs ∙ joined (list_all is_own es) (list_all is_own fs) first rest

pub named_append : (w : World) (es fs : List Entry) → AreNamed w (es ++ fs) → AreNamed w es × AreNamed (replay_from w es) fs
named_append w [] fs named = (tt, named)
named_append w (e ∷ es) fs named =
    let rest = named_append (step_world w e) es fs named.1 in
    ((named.0, rest.0), rest.1)

named_join : (w : World) (es fs : List Entry) → AreNamed w es → AreNamed (replay_from w es) fs → AreNamed w (es ++ fs)
named_join w [] fs first rest = rest
named_join w (e ∷ es) fs first rest = (first.0, named_join (step_world w e) es fs first.1 rest)

-- what a part of a list is, where the list is all that
pub record AreAlone (w : World) (es : List Entry) : Type 0 where
  pub own : AreOwn es
  pub named : AreNamed w es

pub alone_first : (w : World) (es fs : List Entry) → AreAlone w (es ++ fs) → AreAlone w es
alone_first w es fs all = record { own = (own_append es fs all.own).0; named = (named_append w es fs all.named).0 }

pub alone_rest : (w : World) (es fs : List Entry) → AreAlone w (es ++ fs) → AreAlone (replay_from w es) fs
alone_rest w es fs all = record { own = (own_append es fs all.own).1; named = (named_append w es fs all.named).1 }

pub alone_join : (w : World) (es fs : List Entry) → AreAlone w es → AreAlone (replay_from w es) fs →
    AreAlone w (es ++ fs)
alone_join w es fs first rest =
    record { own = own_join es fs first.own rest.own; named = named_join w es fs first.named rest.named }

-- Duties.

by_first : (n : ℕ) → (n == 0) ≡ true → n ≡ 0
by_first n e = grind (arith, nat_tests)

pub duty_is : (by : ℕ) (w : What) → (by == 0) ≡ true → is_duty_entry w ≡ true →
    (d : Duty) × (◌≡◌ {A = Entry} (record { by = by; what = w }) (own_duty d))
duty_is by (what.Call c) own is = absurd cc
duty_is by (what.Duty d) own is =
    (d, ap (λ (n : ℕ). record { by = n; what = what.Duty d }) (by_first by own))

pub none_left : (es : List Entry) → AreOwn es → AreDuties es → own_duties es ≡ 0 → es ≡ []
none_left [] own are none = refl
none_left (e ∷ es) own are none =
    let first = duty_is e.by e.what (both (is_own e) (list_all is_own es) own).0
    (both (is_duty_entry e.what) (list_all (λ x. is_duty_entry x.what) es) are).0 in
    let one : is_own_duty e ≡ true = ap is_own_duty first.1 in
    absurd (omega (arith, count-cons e es, ap {B = ℕ} (λ (b : Bool). cond b 1 0) one, none))

named_more : (n : ℕ) (w : World) (e : Entry) (es : List Entry) (d : Duty) → e ≡ own_duty d →
    IsNamed w e.what (step_world w e) →
    (es ≡ settle_entries n (step_world w e)) → e ∷ es ≡ settle_entries (suc n) w
named_more n w e es d is named rest =
    ap (λ (l : List Entry). e ∷ l) rest
    ∙ ap (λ (x : Entry). x ∷ settle_entries n (step_world w x)) is
    ∙ sym (busy_step w n d (subst (λ (x : Entry). IsNamed w x.what (step_world w x)) is named))

pub named_are : (n : ℕ) (w : World) (es : List Entry) → AreAlone w es → AreDuties es → own_duties es ≤ n →
    (own_duties es < n → is_busy (replay_from w es) ≡ false) → es ≡ settle_entries n w
named_are zero w [] all are most idle = refl
named_are (suc n) w [] all are most idle = sym (none_named w (suc n) (idle (omega arith)))
named_are n w (e ∷ es) all are most idle = go n most idle (λ k. named_are k (step_world w e) es)
  where
    own : (is_own e ≡ true) × AreOwn es
    own = both (is_own e) (list_all is_own es) all.own

    duties : (is_duty_entry e.what ≡ true) × AreDuties es
    duties = both (is_duty_entry e.what) (list_all (λ x. is_duty_entry x.what) es) are

    first : (d : Duty) × (◌≡◌ {A = Entry} e (own_duty d))
    first = duty_is e.by e.what own.0 duties.0

    count : own_duties (e ∷ es) ≡ 1 + own_duties es
    count = count-cons e es ∙ ap (λ (x : Entry). cond (is_own_duty x) 1 0 + own_duties es) first.1

    go : (n : ℕ) → own_duties (e ∷ es) ≤ n →
        (own_duties (e ∷ es) < n → is_busy (replay_from (step_world w e) es) ≡ false) →
        ((k : ℕ) → AreAlone (step_world w e) es → AreDuties es → own_duties es ≤ k →
        (own_duties es < k → is_busy (replay_from (step_world w e) es) ≡ false) →
        es ≡ settle_entries k (step_world w e)) →
        e ∷ es ≡ settle_entries n w
    go zero most idle rest = absurd (omega (arith, count, most))
    go (suc n) most idle rest =
        named_more n w e es first.0 first.1 all.named.0
        (rest n (record { own = own.1; named = all.named.1 }) duties.1 (omega (arith, count, most))
        (λ less. idle (omega (arith, count, less))))

-- Wait lines.

pub stretch_is : (w : World) (es : List Entry) → AreAlone w es → IsStretch es →
    (own_duties es < full_stretch → is_busy (replay_from w es) ≡ false) → es ≡ stretch w
stretch_is w es all is idle = named_are full_stretch w es all is.0 is.1 idle

pub stride_is : (w : World) (left : ℕ) (s : Stride) → s.stretch ≡ stretch w →
    s.ms ≡ next_tick (replay_from w s.stretch) left → entries_of_stride s ≡ next_stride w left
stride_is w left s is tick =
    ap (λ (k : ℕ). s.stretch ++ own_call (call.Tick k) ∷ []) tick
    ∙ ap (λ (es : List Entry). es ++ own_call (call.Tick (next_tick (replay_from w es) left)) ∷ []) is

-- a stride, and what the rest is
waited_more : (n : ℕ) (w : World) (left time : ℕ) (s : Stride) (es : List Entry) → w.tables.clock + left ≡ time →
    0 < left → entries_of_stride s ≡ next_stride w left →
    es ≡ wait_entries n (replay_from w (entries_of_stride s)) time →
    entries_of_stride s ++ es ≡ wait_entries (suc n) w time
waited_more n w left time s es is some first rest =
    ap (λ (l : List Entry). entries_of_stride s ++ l) rest
    ∙ ap (λ (l : List Entry). l ++ wait_entries n (replay_from w l) time) first
    ∙ sym (wait_stride n w left time is some)

-- the time that is left after a stride
pub time_left : (w : World) (left time : ℕ) (s : Stride) → w.tables.clock + left ≡ time → 0 < left →
    entries_of_stride s ≡ next_stride w left → s.ms ≡ tick_of w left → s.ms ≤ left →
    (replay_from w (entries_of_stride s)).tables.clock + (left - s.ms) ≡ time
time_left w left time s is some first tick within =
    let clock = ap (λ (es : List Entry). (replay_from w es).tables.clock) first ∙ stride_clock w left some in
    omega (arith, clock, is, tick, within)

pub waited_is : (n : ℕ) (w : World) (left time : ℕ) (strides : List Stride) (tail : List Entry) →
    AreAlone w (entries_of_strides strides ++ tail) → AreStrides w left strides → AreNextTicks w left strides →
    left_after left strides ≡ 0 → IsStretch tail → EndsIdle (replay_from w (entries_of_strides strides)) tail →
    w.tables.clock + left ≡ time → left ≤ n → entries_of_strides strides ++ tail ≡ wait_entries n w time
waited_is n w left time [] tail all are next done is idle at enough =
    let none : left ≡ 0 = omega (arith, done) in
    stretch_is w tail all is idle
    ∙ sym (wait_over n w time (omega (arith, at, none)))
waited_is zero w left time (s ∷ strides) tail all are next done is idle at enough =
    absurd {0} (omega (arith, enough, are.0.some, are.0.in_line))
waited_is (suc n) w left time (s ∷ strides) tail all are next done is idle at enough =
    let es = entries_of_stride s in
    let more = entries_of_strides strides in
    let assoc = append_assoc es more tail in
    let each : AreAlone w (es ++ (more ++ tail)) = subst (AreAlone w) assoc all in
    let first = alone_first w es (more ++ tail) each in
    let some : 0 < left = omega (arith, are.0.some, are.0.in_line) in
    let stretched = stretch_is w s.stretch (alone_first w s.stretch
    (own_call (call.Tick s.ms) ∷ []) first) are.0.stretch
    (λ less. (are.0.rule less).0) in
    let stride = stride_is w left s stretched next.0 in
    let tick : s.ms ≡ tick_of w left = next.0 ∙ ap (λ (l : List Entry). next_tick (replay_from w l) left) stretched in
    assoc
    ∙ waited_more n w left time s (more ++ tail) at some stride
    (waited_is n (replay_from w es) (left - s.ms) time strides tail (alone_rest w es (more ++ tail) each) are.1 next.1
    (omega (arith, done, sum_by-cons (λ (x : Stride). x.ms) s strides))
    is (subst (λ (v : World). EndsIdle v tail) (replay-append w es more) idle)
    (time_left w left time s at some stride tick are.0.in_line) (omega (arith, enough, are.0.some)))

-- No caller but 0.

shared_none : (by : ℕ) (w : What) → (by == 0 || is_shared by 0 w) ≡ true → (by == 0) ≡ true
shared_none by (what.Call c) e = or_none (by == 0) e
  where
    or_none : (b : Bool) → (b || false) ≡ true → b ≡ true
    or_none true e = refl
    or_none false e = absurd cc
shared_none by (what.Duty d) e = go (by == 0) (nat_le by 0) (is_share by 0 (role_of d)) (zero_is by) e
  where
    zero_is : (n : ℕ) → nat_le n 0 ≡ (n == 0)
    zero_is n = grind (arith, nat_tests)

    go : (a b c : Bool) → b ≡ a → (a || (b && c)) ≡ true → a ≡ true
    go true b c is h = refl
    go false true c is h = absurd cc
    go false false c is h = absurd cc

pub own_all : (es : List Entry) → list_all (is_of_a_caller 0) es ≡ true → AreOwn es
own_all [] e = refl
own_all (x ∷ es) e =
    let parts = both (is_of_a_caller 0 x) (list_all (is_of_a_caller 0) es) e in
    joined (is_own x) (list_all is_own es) (shared_none x.by x.what parts.0) (own_all es parts.1)

-- caller 0 is one, however many workers there are
pub of_callers : (workers : ℕ) (es : List Entry) → AreOwn es → list_all (is_of_a_caller workers) es ≡ true
of_callers workers [] own = refl
of_callers workers (x ∷ es) own =
    let parts = both (is_own x) (list_all is_own es) own in
    joined (is_of_a_caller workers x) (list_all (is_of_a_caller workers) es) (go (is_own x) parts.0)
    (of_callers workers es parts.1)
  where
    go : (b : Bool) → b ≡ true → (b || is_shared x.by workers x.what) ≡ true
    go true e = refl
    go false e = absurd cc

-- What a single caller makes of lines.

pub one_call : (w : World) (c : Call) → AreAlone w (own_call c ∷ [])
one_call w c = record { own = refl; named = (tt, tt) }

settle_next : (n : ℕ) (w : World) (named : Option Duty) → duty_named (settle_answer w) ≡ named →
    ((v : World) → AreAlone v (settle_entries n v)) → AreAlone w (settle_entries (suc n) w)
settle_next n w (Some d) e rest =
    let others = rest (step_world w (own_duty d)) in
    subst (AreAlone w) (sym (busy_step w n d e)) (record { own = others.own; named = (e, others.named) })
settle_next n w None e rest = subst (AreAlone w) (sym (idle_step w (suc n) e)) (record { own = refl; named = tt })

settle_alone : (n : ℕ) (w : World) → AreAlone w (settle_entries n w)
settle_alone zero w = record { own = refl; named = tt }
settle_alone (suc n) w = settle_next n w (duty_named (settle_answer w)) refl (λ v. settle_alone n v)

stride_alone : (w : World) (left : ℕ) → AreAlone w (next_stride w left)
stride_alone w left =
    let es = settle_entries full_stretch w in
    let tick = next_tick (replay_from w es) left in
    alone_join w es (own_call (call.Tick tick) ∷ []) (settle_alone full_stretch w)
    (one_call (replay_from w es) (call.Tick tick))

wait_next : (n : ℕ) (w : World) (time : ℕ) (b : Bool) → nat_lt w.tables.clock time ≡ b →
    ((v : World) → AreAlone v (wait_entries n v time)) → AreAlone w (wait_entries (suc n) w time)
wait_next n w time true e rest =
    let es = next_stride w (time - w.tables.clock) in
    subst (AreAlone w) (sym (wait_step n w time true e))
    (alone_join w es (wait_entries n (replay_from w es) time) (stride_alone w (time - w.tables.clock))
    (rest (replay_from w es)))
wait_next n w time false e rest = subst (AreAlone w) (sym (wait_step n w time false e)) (settle_alone full_stretch w)

wait_alone : (n : ℕ) (w : World) (time : ℕ) → AreAlone w (wait_entries n w time)
wait_alone zero w time = settle_alone full_stretch w
wait_alone (suc n) w time = wait_next n w time (nat_lt w.tables.clock time) refl (λ v. wait_alone n v time)

pub line_alone : (w : World) (line : Asked) → AreAlone w (asked_entries w line)
line_alone w Nothing = record { own = refl; named = tt }
line_alone w (Asks c) = one_call w c
line_alone w (Settles budget) =
    let es = settle_entries budget w in
    alone_join w es (own_call (call.Settle budget) ∷ []) (settle_alone budget w)
    (one_call (replay_from w es) (call.Settle budget))
line_alone w (Waits ms) = wait_alone ms w (w.tables.clock + ms)

-- What a single caller did of a line that isn't done is a beginning of what the line makes.
use Rattle.std.proofs.Common.{◌≡◌, ℕ, zero, suc, ◌+◌, ◌-◌, ◌≤◌, ◌<◌, List, [], ◌∷◌, ◌++◌, take, length, true, false, cond, refl, ◌⊎◌, inl, inr, sym, ◌∙◌, ap, subst, append_assoc, arith}
use Rattle.std.specs.List.{list_all}
use Rattle.std.proofs.lemmas.List.{length-append, take-append-le, take_all}
use Rattle.std.proofs.lemmas.List.Sums.{sum_by-cons}
use Rattle.swarm_model.proofs.Base.Histories.{replay-append}
use Rattle.swarm_model.proofs.Following.Alone.{AreAlone, AreOwn, alone_first, alone_rest, both, duty_is, is_own, stretch_is, stride_is, time_left}
use Rattle.swarm_model.proofs.Following.Named.{busy_idle, busy_step, count-cons, settles}
use Rattle.swarm_model.proofs.Following.Strides.{stretch, tick_of, wait_over, wait_stride}
use Rattle.swarm_model.specs.Follows.{AreDuties, AreStrides, IsStretch, Stride, entries_of_stride, entries_of_strides, left_after}
use Rattle.swarm_model.specs.History.{replay_from, step_world}
use Rattle.swarm_model.specs.OneCaller.{AreNextTicks, IsNamed}
use Rattle.swarm_model.specs.Script.{full_stretch, is_busy, is_duty_entry, is_own_duty, next_tick, own_call, own_duties, own_duty}
use Rattle.swarm_model.specs.Serial.{next_stride, settle_entries, wait_entries}
use Rattle.swarm_objects.specs.World.{World}
use Rattle.swarm_objects.specs.declared.calls.Call.TheVariants as call
use Rattle.swarm_objects.specs.declared.calls.Entry.{Entry}
use Rattle.swarm_objects.specs.declared.duties.Duty.{Duty}

-- Beginnings.

pub record Begins (es all : List Entry) : Type 0 where
  pub count : ℕ
  pub within : count ≤ length all
  pub is : es ≡ take count all

take_none : (l : List Entry) → take 0 l ≡ []
take_none [] = refl
take_none (x ∷ l) = refl

begins_none : (l : List Entry) → Begins [] l
begins_none l = record { count = 0; within = omega arith; is = sym (take_none l) }

begins_cons : (e : Entry) (es l : List Entry) → Begins es l → Begins (e ∷ es) (e ∷ l)
begins_cons e es l b =
    let within = b.within in
    record { count = suc b.count; within = omega arith; is = ap (λ (k : List Entry). e ∷ k) b.is }

-- others behind change nothing
pub begins_more : (es l more : List Entry) → Begins es l → Begins es (l ++ more)
begins_more es l more b = record {
  count = b.count;
  within = omega (arith, b.within, length-append l more);
  is = b.is ∙ sym (take-append-le b.count l more b.within);
}

-- all of a list, and a beginning of the next one
begins_behind : (first es l : List Entry) → Begins es l → Begins (first ++ es) (first ++ l)
begins_behind [] es l b = b
begins_behind (x ∷ first) es l b = begins_cons x (first ++ es) (first ++ l) (begins_behind first es l b)

-- A beginning that isn't all.
pub record Stops (es all : List Entry) : Type 0 where
  pub count : ℕ
  pub less : count < length all
  pub is : es ≡ take count all

stops_cons : (e : Entry) (es l : List Entry) → Stops es l → Stops (e ∷ es) (e ∷ l)
stops_cons e es l b =
    let less = b.less in
    record { count = suc b.count; less = omega arith; is = ap (λ (k : List Entry). e ∷ k) b.is }

-- something is behind
pub stops_before : (es l more : List Entry) → 0 < length more → Begins es l → Stops es (l ++ more)
stops_before es l more some b = record {
  count = b.count;
  less = omega (arith, b.within, length-append l more, some);
  is = b.is ∙ sym (take-append-le b.count l more b.within);
}

stops_more : (es l more : List Entry) → Stops es l → Stops es (l ++ more)
stops_more es l more b = record {
  count = b.count;
  less = omega (arith, b.less, length-append l more);
  is = b.is ∙ sym (take-append-le b.count l more (omega (arith, b.less)));
}

stops_behind : (first es l : List Entry) → Stops es l → Stops (first ++ es) (first ++ l)
stops_behind [] es l b = b
stops_behind (x ∷ first) es l b = stops_cons x (first ++ es) (first ++ l) (stops_behind first es l b)

less_or_all : (n m : ℕ) → (n < m) ⊎ (m ≤ n)
less_or_all zero zero = inr (omega arith)
less_or_all zero (suc m) = inl (omega arith)
less_or_all (suc n) zero = inr (omega arith)
less_or_all (suc n) (suc m) = go (less_or_all n m)
  where
    go : (n < m) ⊎ (m ≤ n) → (suc n < suc m) ⊎ (suc m ≤ suc n)
    go (inl k) = inl (omega (arith, k))
    go (inr k) = inr (omega (arith, k))

stops_unless : (es all : List Entry) → Begins es all → (es ≡ all → ⊥) → Stops es all
stops_unless es all b other = go (less_or_all b.count (length all))
  where
    go : (b.count < length all) ⊎ (length all ≤ b.count) → Stops es all
    go (inl less) = record { count = b.count; less = less; is = b.is }
    go (inr whole) = absurd (other (b.is ∙ take_all b.count all whole))

-- Duties.

pub named_part : (n : ℕ) (w : World) (es : List Entry) → AreAlone w es → AreDuties es → own_duties es ≤ n →
    Begins es (settle_entries n w)
named_part n w [] all are most = begins_none (settle_entries n w)
named_part n w (e ∷ es) all are most = go n most (λ k. named_part k (step_world w e) es)
  where
    own : (is_own e ≡ true) × AreOwn es
    own = both (is_own e) (list_all is_own es) all.own

    duties : (is_duty_entry e.what ≡ true) × AreDuties es
    duties = both (is_duty_entry e.what) (list_all (λ x. is_duty_entry x.what) es) are

    first : (d : Duty) × (◌≡◌ {A = Entry} e (own_duty d))
    first = duty_is e.by e.what own.0 duties.0

    count : own_duties (e ∷ es) ≡ 1 + own_duties es
    count = count-cons e es ∙ ap (λ (x : Entry). cond (is_own_duty x) 1 0 + own_duties es) first.1

    named : IsNamed w (own_duty first.0).what (step_world w (own_duty first.0))
    named = subst (λ (x : Entry). IsNamed w x.what (step_world w x)) first.1 all.named.0

    go : (n : ℕ) → own_duties (e ∷ es) ≤ n →
        ((k : ℕ) → AreAlone (step_world w e) es → AreDuties es → own_duties es ≤ k →
        Begins es (settle_entries k (step_world w e))) →
        Begins (e ∷ es) (settle_entries n w)
    go zero most rest = absurd (omega (arith, count, most))
    go (suc n) most rest =
        subst (Begins (e ∷ es))
        (ap (λ (x : Entry). x ∷ settle_entries n (step_world w x)) first.1 ∙ sym (busy_step w n first.0 named))
        (begins_cons e es (settle_entries n (step_world w e))
        (rest n (record { own = own.1; named = all.named.1 }) duties.1 (omega (arith, count, most))))

-- where one more is named, these aren't all
pub named_stops : (n : ℕ) (w : World) (es : List Entry) → AreAlone w es → AreDuties es → own_duties es < n →
    is_busy (replay_from w es) ≡ true → Stops es (settle_entries n w)
named_stops n w es all are less busy =
    stops_unless es (settle_entries n w) (named_part n w es all are (omega (arith, less)))
    (λ is. busy_idle (is_busy (replay_from w es)) busy
    (subst (λ (l : List Entry). own_duties l < n → is_busy (replay_from w l) ≡ false) (sym is) (settles n w).idle less))

-- Wait lines.

-- all strides, and the duties after them
waited_by : (R : List Entry → List Entry → Type 0) →
    ((first es l : List Entry) → R es l → R (first ++ es) (first ++ l)) →
    (n : ℕ) (w : World) (left time : ℕ) (strides : List Stride) (tail : List Entry) →
    AreAlone w (entries_of_strides strides ++ tail) → AreStrides w left strides → AreNextTicks w left strides →
    w.tables.clock + left ≡ time → left ≤ n →
    ((m : ℕ) (v : World) → v ≡ replay_from w (entries_of_strides strides) → AreAlone v tail →
    v.tables.clock + left_after left strides ≡ time → left_after left strides ≤ m → R tail (wait_entries m v time)) →
    R (entries_of_strides strides ++ tail) (wait_entries n w time)
waited_by R behind n w left time [] tail all are next at enough last =
    last n w refl all (omega (arith, at)) (omega (arith, enough))
waited_by R behind zero w left time (s ∷ strides) tail all are next at enough last =
    absurd {0} (omega (arith, enough, are.0.some, are.0.in_line))
waited_by R behind (suc n) w left time (s ∷ strides) tail all are next at enough last =
    let es = entries_of_stride s in
    let more = entries_of_strides strides in
    let assoc = append_assoc es more tail in
    let each : AreAlone w (es ++ (more ++ tail)) = subst (AreAlone w) assoc all in
    let first = alone_first w es (more ++ tail) each in
    let some : 0 < left = omega (arith, are.0.some, are.0.in_line) in
    let stretched = stretch_is w s.stretch (alone_first w s.stretch
    (own_call (call.Tick s.ms) ∷ []) first) are.0.stretch
    (λ less. (are.0.rule less).0) in
    let stride = stride_is w left s stretched next.0 in
    let tick : s.ms ≡ tick_of w left = next.0 ∙ ap (λ (l : List Entry). next_tick (replay_from w l) left) stretched in
    let sum = sum_by-cons (λ (x : Stride). x.ms) s strides in
    let rest = waited_by R behind n (replay_from w es) (left - s.ms) time strides tail
    (alone_rest w es (more ++ tail) each) are.1 next.1
    (time_left w left time s at some stride tick are.0.in_line) (omega (arith, enough, are.0.some))
    (λ m v is alone on within. last m v (is ∙ sym (replay-append w es more)) alone (omega (arith, on, sum))
    (omega (arith, within, sum))) in
    subst (λ (l : List Entry). R l (wait_entries (suc n) w time)) (sym assoc)
    (subst (R (es ++ (more ++ tail)))
    (ap (λ (l : List Entry). l ++ wait_entries n (replay_from w l) time) stride
    ∙ sym (wait_stride n w left time at some))
    (behind es (more ++ tail) (wait_entries n (replay_from w es) time) rest))

-- the last stretch, of which so much time is left
last_begins : (n : ℕ) (w : World) (left time : ℕ) (tail : List Entry) → AreAlone w tail → IsStretch tail →
    w.tables.clock + left ≡ time → left ≤ n → Begins tail (wait_entries n w time)
last_begins n w zero time tail all is at enough =
    subst (Begins tail) (sym (wait_over n w time at)) (named_part full_stretch w tail all is.0 is.1)
last_begins zero w (suc left) time tail all is at enough = absurd {0} (omega (arith, enough))
last_begins (suc n) w (suc left) time tail all is at enough =
    let tick = own_call (call.Tick (next_tick (replay_from w (stretch w)) (suc left))) ∷ [] in
    let later = wait_entries n (replay_from w (next_stride w (suc left))) time in
    subst (Begins tail) (sym (wait_stride n w (suc left) time at (omega arith)))
    (begins_more tail (stretch w ++ tick) later
    (begins_more tail (stretch w) tick (named_part full_stretch w tail all is.0 is.1)))

-- time is left, or one more is named
last_stops : (n : ℕ) (w : World) (left time : ℕ) (tail : List Entry) → AreAlone w tail → IsStretch tail →
    (0 < left) ⊎ ((own_duties tail < full_stretch) × (is_busy (replay_from w tail) ≡ true)) →
    w.tables.clock + left ≡ time → left ≤ n → Stops tail (wait_entries n w time)
last_stops n w zero time tail all is (inl some) at enough = absurd {0} (omega (arith, some))
last_stops n w zero time tail all is (inr busy) at enough =
    subst (Stops tail) (sym (wait_over n w time at)) (named_stops full_stretch w tail all is.0 busy.0 busy.1)
last_stops zero w (suc left) time tail all is more at enough = absurd {0} (omega (arith, enough))
last_stops (suc n) w (suc left) time tail all is more at enough =
    let tick = own_call (call.Tick (next_tick (replay_from w (stretch w)) (suc left))) ∷ [] in
    let later = wait_entries n (replay_from w (next_stride w (suc left))) time in
    subst (Stops tail) (sym (wait_stride n w (suc left) time at (omega arith)))
    (stops_more tail (stretch w ++ tick) later
    (stops_before tail (stretch w) tick (omega arith) (named_part full_stretch w tail all is.0 is.1)))

pub waited_part : (ms : ℕ) (w : World) (strides : List Stride) (tail : List Entry) →
    AreAlone w (entries_of_strides strides ++ tail) → AreStrides w ms strides → AreNextTicks w ms strides →
    IsStretch tail → Begins (entries_of_strides strides ++ tail) (wait_entries ms w (w.tables.clock + ms))
waited_part ms w strides tail all are next is =
    let time = w.tables.clock + ms in
    waited_by Begins begins_behind ms w ms time strides tail all are next refl (omega arith)
    (λ m v same alone at enough. last_begins m v (left_after ms strides) time tail alone is at enough)

pub waited_stops : (ms : ℕ) (w : World) (strides : List Stride) (tail : List Entry) →
    AreAlone w (entries_of_strides strides ++ tail) → AreStrides w ms strides → AreNextTicks w ms strides →
    IsStretch tail →
    (0 < left_after ms strides)
    ⊎ ((own_duties tail < full_stretch) × (is_busy (replay_from w (entries_of_strides strides ++ tail)) ≡ true)) →
    Stops (entries_of_strides strides ++ tail) (wait_entries ms w (w.tables.clock + ms))
waited_stops ms w strides tail all are next is more =
    let time = w.tables.clock + ms in
    waited_by Stops stops_behind ms w ms time strides tail all are next refl (omega arith)
    (λ m v same alone at enough. last_stops m v (left_after ms strides) time tail alone is (on v same more) at enough)
  where
    on : (v : World) → v ≡ replay_from w (entries_of_strides strides) →
        (0 < left_after ms strides)
        ⊎ ((own_duties tail < full_stretch) × (is_busy (replay_from w (entries_of_strides strides ++ tail)) ≡ true)) →
        (0 < left_after ms strides) ⊎ ((own_duties tail < full_stretch) × (is_busy (replay_from v tail) ≡ true))
    on v same (inl some) = inl some
    on v same (inr busy) = inr (
      busy.0,
      ap (λ (u : World). is_busy (replay_from u tail)) same
          ∙ ap is_busy (sym (replay-append w (entries_of_strides strides) tail))
          ∙ busy.1,
    )

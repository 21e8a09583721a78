-- The strides of a wait line, and the duties at its end.
use Rattle.std.proofs.Common.{◌≡◌, ℕ, zero, suc, ◌+◌, ◌-◌, ◌≤◌, ◌<◌, List, [], ◌∷◌, ◌++◌, min, Bool, true, false, not, refl, Option, Some, None, sym, ◌∙◌, ap, subst, append_assoc, arith, nat_lt}
use Rattle.std.proofs.lemmas.Bool.Decides.{nat_tests}
use Rattle.std.proofs.lemmas.List.Sums.{sum_by-cons}
use Rattle.swarm_model.proofs.Base.Histories.{replay-append, replay-snoc}
use Rattle.swarm_model.proofs.Following.Clock.{duty-clock}
use Rattle.swarm_model.proofs.Following.Named.{busy_step, idle_step, settles}
use Rattle.swarm_model.proofs.SettleLaws.{waiting_after}
use Rattle.swarm_model.specs.Calls.{answered, call_outcome, entered, ticked}
use Rattle.swarm_objects.specs.Refusals.{refuse, unless}
use Rattle.swarm_model.specs.Follows.{AreStrides, Stride, entries_of_strides, left_after}
use Rattle.swarm_model.specs.History.{replay_from, replies_from, step_world}
use Rattle.swarm_model.specs.OneCaller.{AreNextTicks}
use Rattle.swarm_model.specs.Outcome.{Outcome}
use Rattle.swarm_model.specs.Script.{full_stretch, next_tick, own_call, own_duty, time_till}
use Rattle.swarm_model.specs.Serial.{next_stride, settle_entries, wait_entries}
use Rattle.swarm_model.specs.Settle.{settle_answer}
use Rattle.swarm_objects.specs.Kinds.{duty_named}
use Rattle.swarm_objects.specs.Limits.{is_tick}
use Rattle.swarm_objects.specs.World.{World}
use Rattle.swarm_objects.specs.declared.calls.Call.TheVariants as call
use Rattle.swarm_objects.specs.declared.calls.Entry.{Entry}
use Rattle.swarm_objects.specs.declared.duties.Cause.{Cause}
use Rattle.swarm_objects.specs.declared.duties.Duty.{Duty}
use Rattle.swarm_objects.specs.declared.duties.Settle.{Settle}
use Rattle.swarm_objects.specs.declared.duties.Settle.TheVariants as settle
use Rattle.swarm_objects.specs.declared.replies.Refusal.TheVariants as refusal
use Rattle.swarm_objects.specs.declared.replies.Reply.TheVariants as reply

-- The clock stands while duties are done.

settle_clock_next : (n : ℕ) (w : World) (named : Option Duty) → duty_named (settle_answer w) ≡ named →
    ((v : World) → (replay_from v (settle_entries n v)).tables.clock ≡ v.tables.clock) →
    (replay_from w (settle_entries (suc n) w)).tables.clock ≡ w.tables.clock
settle_clock_next n w (Some d) e rest =
    ap (λ (es : List Entry). (replay_from w es).tables.clock) (busy_step w n d e)
    ∙ rest (step_world w (own_duty d)) ∙ duty-clock w d
settle_clock_next n w None e rest =
    ap (λ (es : List Entry). (replay_from w es).tables.clock) (idle_step w (suc n) e)

pub settle_clock : (n : ℕ) (w : World) → (replay_from w (settle_entries n w)).tables.clock ≡ w.tables.clock
settle_clock zero w = refl
settle_clock (suc n) w = settle_clock_next n w (duty_named (settle_answer w)) refl (λ v. settle_clock n v)

-- The next tick is one.

-- at least 1, at most 1,000 and at most what is left
pub record IsNextTick (left ms : ℕ) : Type 0 where
  pub some : 1 ≤ ms
  pub most : ms ≤ 1000
  pub within : ms ≤ left

tick_by : (clock left : ℕ) (answer : Settle) → 0 < left →
    ((t : ℕ) (c : Cause) (i : ℕ) → answer ≡ settle.Waiting t c i → clock < t) →
    IsNextTick left (time_till clock answer (min 1000 left))
tick_by clock left (settle.Waiting t c i) some after =
    let later = after t c i refl in
    record { some = grind (arith, nat_tests); most = grind (arith, nat_tests); within = grind (arith, nat_tests) }
tick_by clock left (settle.Busy d) some after =
    record { some = grind (arith, nat_tests); most = grind (arith, nat_tests); within = grind (arith, nat_tests) }
tick_by clock left settle.Settled some after =
    record { some = grind (arith, nat_tests); most = grind (arith, nat_tests); within = grind (arith, nat_tests) }
tick_by clock left (settle.Held s x) some after =
    record { some = grind (arith, nat_tests); most = grind (arith, nat_tests); within = grind (arith, nat_tests) }
tick_by clock left (settle.Paused s) some after =
    record { some = grind (arith, nat_tests); most = grind (arith, nat_tests); within = grind (arith, nat_tests) }

pub tick_is : (w : World) (left : ℕ) → 0 < left → IsNextTick left (next_tick w left)
tick_is w left some = tick_by w.tables.clock left (settle_answer w) some (waiting_after w)

pub is_tick_by : (ms : ℕ) → 1 ≤ ms → ms ≤ 1000 → is_tick ms ≡ true
is_tick_by ms some most = grind (arith, nat_tests)

ticked_by : (b : Bool) (w : World) (ms : ℕ) → b ≡ true →
    answered w (unless (refuse (not b) (refusal.BadTick ms)) (reply.Ticked, ticked w ms))
    ≡ record { reply = reply.Ticked; after = entered w (ticked w ms) }
ticked_by true w ms e = refl
ticked_by false w ms e = absurd cc

tick_goes : (w : World) (ms : ℕ) → is_tick ms ≡ true →
    call_outcome w (call.Tick ms) ≡ record { reply = reply.Ticked; after = entered w (ticked w ms) }
tick_goes w ms e = ticked_by (is_tick ms) w ms e

pub tick_clock : (w : World) (ms : ℕ) → is_tick ms ≡ true →
    (step_world w (own_call (call.Tick ms))).tables.clock ≡ w.tables.clock + ms
tick_clock w ms e = ap (λ (o : Outcome). o.after.tables.clock) (tick_goes w ms e)

pub tick_says : (w : World) (ms : ℕ) → is_tick ms ≡ true →
    replies_from w (own_call (call.Tick ms) ∷ []) ≡ reply.Ticked ∷ []
tick_says w ms e = ap (λ (o : Outcome). o.reply ∷ []) (tick_goes w ms e)

-- A stride.

abbrev pub stretch : World → List Entry
stretch w = settle_entries full_stretch w

abbrev pub tick_of : World → ℕ → ℕ
tick_of w left = next_tick (replay_from w (stretch w)) left

pub stride_clock : (w : World) (left : ℕ) → 0 < left →
    (replay_from w (next_stride w left)).tables.clock ≡ w.tables.clock + tick_of w left
stride_clock w left some =
    let is = tick_is (replay_from w (stretch w)) left some in
    ap (λ (v : World). v.tables.clock) (replay-snoc w (stretch w) (own_call (call.Tick (tick_of w left))))
    ∙ tick_clock (replay_from w (stretch w)) (tick_of w left) (is_tick_by (tick_of w left) is.some is.most)
    ∙ ap (λ (k : ℕ). k + tick_of w left) (settle_clock full_stretch w)

-- The line.

pub wait_step : (n : ℕ) (w : World) (time : ℕ) (b : Bool) → nat_lt w.tables.clock time ≡ b →
    wait_entries (suc n) w time
    ≡ elim b [
      | true ↦ next_stride w (time - w.tables.clock)
          ++ wait_entries n (replay_from w (next_stride w (time - w.tables.clock))) time
      | false ↦ settle_entries full_stretch w
    ]
wait_step n w time b e =
    ap (λ (c : Bool). elim c [
      | true ↦ next_stride w (time - w.tables.clock)
          ++ wait_entries n (replay_from w (next_stride w (time - w.tables.clock))) time
      | false ↦ settle_entries full_stretch w
    ]) e

is_before : (clock left time : ℕ) → clock + left ≡ time → 0 < left → nat_lt clock time ≡ true
is_before clock left time is some = grind (arith, nat_tests)

is_over : (clock time : ℕ) → clock + 0 ≡ time → nat_lt clock time ≡ false
is_over clock time is = grind (arith, nat_tests)

-- a stride, and the rest
pub wait_stride : (n : ℕ) (w : World) (left time : ℕ) → w.tables.clock + left ≡ time → 0 < left →
    wait_entries (suc n) w time ≡ next_stride w left ++ wait_entries n (replay_from w (next_stride w left)) time
wait_stride n w left time is some =
    let same : time - w.tables.clock ≡ left = omega (arith, is) in
    wait_step n w time true (is_before w.tables.clock left time is some)
    ∙ ap (λ (k : ℕ). next_stride w k ++ wait_entries n (replay_from w (next_stride w k)) time) same

pub wait_over : (n : ℕ) (w : World) (time : ℕ) → w.tables.clock + 0 ≡ time → wait_entries n w time ≡ stretch w
wait_over zero w time is = refl
wait_over (suc n) w time is = wait_step n w time false (is_over w.tables.clock time is)

-- All strides that a time takes, and the duties at the end.
pub record Strided (w : World) (left : ℕ) (es : List Entry) : Type 0 where
  pub strides : List Stride
  pub tail : List Entry
  pub entries : es ≡ entries_of_strides strides ++ tail
  pub ticks : AreStrides w left strides
  pub next : AreNextTicks w left strides
  pub all : left_after left strides ≡ 0
  pub tail_is : tail ≡ stretch (replay_from w (entries_of_strides strides))

strided_none : (w : World) → Strided w 0 (stretch w)
strided_none w = record {
  strides = [];
  tail = stretch w;
  entries = refl;
  ticks = tt;
  next = tt;
  all =
      refl;
  tail_is = refl;
}

strided_more : (w : World) (left : ℕ) (es : List Entry) → 0 < left →
    Strided (replay_from w (next_stride w left)) (left - tick_of w left) es → Strided w left (next_stride w left ++ es)
strided_more w left es some rest =
    let made = settles full_stretch w in
    let tick = tick_is (replay_from w (stretch w)) left some in
    let s : Stride = record { stretch = stretch w; ms = tick_of w left } in
    record {
      strides = s ∷ rest.strides;
      tail = rest.tail;
      entries =
          ap (λ (l : List Entry). next_stride w left ++ l) rest.entries
          ∙ sym (append_assoc (next_stride w left) (entries_of_strides rest.strides) rest.tail);
      ticks = (
        record {
          stretch = (made.are_duties, made.most);
          some = tick.some;
          most = tick.most;
          in_line = tick.within;
          rule = λ less. (made.idle less, refl);
        },
        rest.ticks,
      );
      next = (refl, rest.next);
      all = omega (arith, sum_by-cons (λ (x : Stride). x.ms) s rest.strides, rest.all);
      tail_is =
          rest.tail_is
          ∙ ap stretch (sym (replay-append w (next_stride w left) (entries_of_strides rest.strides)));
    }

pub strided : (n : ℕ) (w : World) (left time : ℕ) → w.tables.clock + left ≡ time → left ≤ n →
    Strided w left (wait_entries n w time)
strided zero w zero time is enough = strided_none w
strided zero w (suc left) time is enough = absurd (omega (arith, enough))
strided (suc n) w zero time is enough =
    subst (Strided w 0) (sym (wait_over (suc n) w time is)) (strided_none w)
strided (suc n) w (suc left) time is enough =
    let some : 0 < suc left = omega arith in
    let clock = stride_clock w (suc left) some in
    let tick = tick_is (replay_from w (stretch w)) (suc left) some in
    let after = replay_from w (next_stride w (suc left)) in
    subst (Strided w (suc left)) (sym (wait_stride n w (suc left) time is some))
    (strided_more w (suc left) (wait_entries n after time) some
    (strided n after (suc left - tick_of w (suc left)) time
    (omega (arith, is, clock, tick.within)) (omega (arith, enough, tick.some, tick.within))))

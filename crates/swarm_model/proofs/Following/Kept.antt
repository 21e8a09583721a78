-- What caller 0 knows of its entries makes the whole history follow the lines.
use Rattle.std.proofs.Common.{◌≡◌, ℕ, ◌+◌, ◌-◌, ◌<◌, List, [], ◌∷◌, ◌++◌, length, Bool, true, false, not, ◌==◌, ◌&&◌, ◌⊎◌, inl, inr, refl, Option, Some, None, sym, ◌∙◌, ap, subst, append_assoc, append-nil, arith}
use Rattle.std.specs.Prelude.{if◌then◌else◌, sum_by}
use Rattle.std.specs.List.{list_all}
use Rattle.std.proofs.lemmas.List.Sums.{sum_by-cons}
use Rattle.swarm_model.proofs.Base.Histories.{IsLegalFrom-append, replay-append}
use Rattle.swarm_model.proofs.Following.Alone.{AreOwn, both, is_own, own_append}
use Rattle.swarm_model.proofs.Following.Idle.{AreOfCallers, callers_append, idle_until, no_duty_follows, seen_until, unchosen, unequal}
use Rattle.swarm_model.proofs.Following.Lines.{same}
use Rattle.swarm_model.specs.Follows.{AreDuties, AreStrides, FollowsFrom, IsLine, IsPart, IsWaitedPart, Stride, entries_of_strides, left_after, quiet_at_next_call}
use Rattle.swarm_model.specs.History.{IsLegal, replay, replay_from, step_world}
use Rattle.swarm_model.specs.Kept.{AreTurns, KeepsBegun, KeepsLine, KeepsLines, KeepsPart, KeepsSettled, KeepsTick, KeepsTicks, KeepsUndone, KeepsWaited, KeptLaw, SeesIdle, Stretch, before_next}
use Rattle.swarm_model.specs.Undone.{IsUndone, Sees, SeesBusy}
use Rattle.swarm_model.specs.OneCaller.{AreLinesAlone, AreNextTicks, IsLineAlone, IsPartAlone}
use Rattle.swarm_model.specs.Own.{Step, own, own_from, step_at}
use Rattle.swarm_model.specs.Script.{Asked, Asks, Nothing, Settles, Waits, full_stretch, is_busy, is_duty_entry, is_own_call, next_tick, own_call, own_duties}
use Rattle.swarm_objects.specs.World.{World, empty_world}
use Rattle.swarm_objects.specs.declared.calls.Call.{Call}
use Rattle.swarm_objects.specs.declared.calls.Call.TheVariants as call
use Rattle.swarm_objects.specs.declared.calls.Entry.{Entry}
use Rattle.swarm_model.proofs.Following.Turns.{Called, IsWhole, called, callers_of, count_join, duties_join, gap_duties, idle_at, next_own, turned, turned_all, whole_first}

-- Lines.

-- what a line made, and what comes after it
pub record Made (line : Asked) (before es : List Entry) (rest : List Step) : Type 0 where
  pub part : List Entry
  pub more : List Entry
  pub es_is : es ≡ part ++ more
  pub is : IsLine (replay before) line part (more ++ own_call call.Halt ∷ [])
  pub rest_is : own_from 0 (before ++ part) more ≡ rest
  pub alone : AreOwn (before ++ es) → IsLineAlone (replay before) line part (more ++ own_call call.Halt ∷ []) is

pub made_nothing : (before es : List Entry) (rest : List Step) → own_from 0 before es ≡ rest → Made Nothing before es rest
made_nothing before es rest e = record {
  part = [];
  more = es;
  es_is = refl;
  is = refl;
  rest_is = ap (λ (l : List Entry). own_from 0 l es) (append-nil before) ∙ e;
  alone = λ own. tt;
}

pub made_call : (workers : ℕ) (c : Call) (at before es : List Entry) (rest : List Step) → AreOfCallers workers es →
    own_from 0 before es ≡ step_at at (own_call c) ∷ rest → Made (Asks c) before es rest
made_call workers c at before es rest callers e =
    let n = called workers [] rest (step_at at (own_call c)) before es callers (λ s h. absurd h) e in
    record {
      part = n.took ++ own_call c ∷ [];
      more = n.more;
      es_is = n.es_is;
      is = record { others = n.took; entries = refl; are_others = (n.are_duties, n.count) };
      rest_is = n.rest_is;
      alone = λ own. tt;
    }

pub made_settle : (workers budget : ℕ) (before es : List Entry) (part rest : List Step) → IsWhole workers (before ++ es) →
    KeepsSettled budget part → own_from 0 before es ≡ part ++ rest → Made (Settles budget) before es rest
made_settle workers budget before es part rest whole keeps e =
    let asks = own_call (call.Settle budget) in
    let s = step_at keeps.before asks in
    let callers = (callers_append workers before es whole.callers).1 in
    let n = called workers keeps.turns rest s before es callers keeps.are_turns
    (e ∙ ap (λ (l : List Step). l ++ rest) keeps.steps ∙ append_assoc keeps.turns (s ∷ []) rest) in
    let at : before ++ es ≡ keeps.before ++ (asks ∷ n.more) =
    ap (λ (l : List Entry). before ++ l) (n.es_is ∙ append_assoc n.took (asks ∷ []) n.more)
    ∙ sym (append_assoc before n.took (asks ∷ n.more))
    ∙ ap (λ (l : List Entry). l ++ asks ∷ n.more) (sym n.before_is) in
    let world : replay keeps.before ≡ replay_from (replay before) n.took =
    ap replay n.before_is ∙ replay-append empty_world before n.took in
    record {
      part = n.took ++ asks ∷ [];
      more = n.more;
      es_is = n.es_is;
      is = record {
        duties = n.took;
        entries = refl;
        are_duties = n.are_duties;
        most = omega (arith, n.count, keeps.most);
        busy = λ busy. same (own_duties n.took) budget (omega (arith, n.count, keeps.most))
            (λ less. unequal (is_busy (replay_from (replay before) n.took)) busy
            (ap is_busy (sym world)
            ∙ idle_at workers (before ++ es) keeps.before (asks ∷ n.more) at whole
            (keeps.idle (omega (arith, n.count, less)))));
      };
      rest_is = n.rest_is;
      alone = λ own. tt;
    }

-- Of a single caller.

pub own_on : (before es part more : List Entry) → es ≡ part ++ more → AreOwn (before ++ es) →
    AreOwn ((before ++ part) ++ more)
own_on before es part more is own =
    subst AreOwn (ap (λ (l : List Entry). before ++ l) is ∙ sym (append_assoc before part more)) own

pub none_own : (before es : List Entry) → AreOwn es → own_from 0 before es ≡ [] → es ≡ []
none_own before [] own none = refl
none_own before (e ∷ es) own none =
    let other = (unchosen (e.by == 0) (step_at before e) (own_from 0 (before ++ e ∷ []) es) none).0 in
    absurd (unequal (e.by == 0) (both (is_own e) (list_all is_own es) own).0 other)

-- what it saw last is the world just before
pub seen_alone : (before : List Entry) (w : World) → AreOwn before → Sees before w → w ≡ replay before
seen_alone before w own sees =
    let none = none_own sees.seen sees.others (own_append sees.seen sees.others
    (subst AreOwn sees.history own)).1 sees.none in
    sees.world
    ∙ sym (ap replay (sees.history ∙ ap (λ (l : List Entry). sees.seen ++ l) none ∙ append-nil sees.seen))

-- nothing was to be done before its next entry
pub idle_alone : (workers : ℕ) (before more : List Entry) (rest : List Step) → IsWhole workers (before ++ more) →
    AreOwn more → own_from 0 before more ≡ rest → SeesIdle (before_next rest (before ++ more)) →
    is_busy (replay before) ≡ false
idle_alone workers before more [] whole own none sees =
    let same_now : before ++ more ≡ before = ap (λ (l : List Entry). before ++ l) (none_own before more own none)
    ∙ append-nil before in
    ap (λ (l : List Entry). is_busy (replay l)) (sym same_now)
    ∙ idle_until workers (before ++ more) whole.legal whole.callers sees
idle_alone workers before more (s ∷ rest) whole own e sees =
    let n = next_own before more s rest e in
    let gap = none_own before n.gap (own_append n.gap (s.entry ∷ n.more) (subst AreOwn n.es_is own)).0 n.none in
    let at : before ++ more ≡ s.before ++ (s.entry ∷ n.more) =
    ap (λ (l : List Entry). before ++ l) n.es_is
    ∙ sym (append_assoc before n.gap (s.entry ∷ n.more))
    ∙ ap (λ (l : List Entry). l ++ s.entry ∷ n.more) (sym n.before_is) in
    let same_now : s.before ≡ before = n.before_is ∙ ap (λ (l : List Entry). before ++ l) gap ∙ append-nil before in
    ap (λ (l : List Entry). is_busy (replay l)) (sym same_now)
    ∙ idle_at workers (before ++ more) s.before (s.entry ∷ n.more) at whole sees

-- Wait lines.

-- stretches with their ticks, and turns after the last tick
pub record Ticked (left : ℕ) (before es : List Entry) (stretches : List Stretch) (last rest : List Step) : Type 0 where
  pub strides : List Stride
  pub tail : List Entry
  pub more : List Entry
  pub es_is : es ≡ (entries_of_strides strides ++ tail) ++ more
  pub ticks : AreStrides (replay before) left strides
  pub time : sum_by (λ (s : Stride). s.ms) strides ≡ sum_by (λ (s : Stretch). s.ms) stretches
  pub are_duties : AreDuties tail
  pub count : own_duties tail ≡ length last
  pub rest_is : own_from 0 (before ++ (entries_of_strides strides ++ tail)) more ≡ rest
  pub next : AreOwn (before ++ es) → AreNextTicks (replay before) left strides

pub ticked_none : (workers left : ℕ) (before es : List Entry) (last rest : List Step) → AreOfCallers workers es →
    AreTurns last → own_from 0 before es ≡ last ++ rest → Ticked left before es [] last rest
ticked_none workers left before es last rest callers are e =
    let t = turned workers last rest before es callers are e in
    record {
      strides = [];
      tail = t.took;
      more = t.more;
      es_is = t.es_is;
      ticks = tt;
      time = refl;
      are_duties = t.are_duties;
      count = t.count;
      rest_is = t.rest_is;
      next = λ own. tt;
    }

abbrev pub tick_at : Stretch → Step
tick_at s = step_at s.before (own_call (call.Tick s.ms))

-- a stretch and its tick, and the rest
pub ticked_more : (workers left : ℕ) (before es : List Entry) (s : Stretch) (stretches : List Stretch)
    (last part rest : List Step) →
    IsWhole workers (before ++ es) → KeepsTick left s → (n : Called before es s.turns (part ++ rest) (tick_at s)) →
    Ticked (left - s.ms) (before ++ (n.took ++ (tick_at s).entry ∷ [])) n.more stretches last rest →
    Ticked left before es (s ∷ stretches) last rest
ticked_more workers left before es s stretches last part rest whole keeps n others =
    let tick = own_call (call.Tick s.ms) in
    let stride : Stride = record { stretch = n.took; ms = s.ms } in
    let all = n.took ++ tick ∷ [] in
    let more = entries_of_strides others.strides in
    let at : before ++ es ≡ s.before ++ (tick ∷ n.more) =
    ap (λ (l : List Entry). before ++ l) (n.es_is ∙ append_assoc n.took (tick ∷ []) n.more)
    ∙ sym (append_assoc before n.took (tick ∷ n.more))
    ∙ ap (λ (l : List Entry). l ++ tick ∷ n.more) (sym n.before_is) in
    let first = whole_first workers (before ++ es) s.before (tick ∷ n.more) at whole in
    let world : replay s.before ≡ replay_from (replay before) n.took =
    ap replay n.before_is ∙ replay-append empty_world before n.took in
    let seen : own_duties n.took < full_stretch → keeps.world ≡ replay_from (replay before) n.took =
    λ less. seen_until workers s.before keeps.world first.legal first.callers keeps.sees
    (keeps.idle (omega (arith, n.count, less))) ∙ world in
    record {
      strides = stride ∷ others.strides;
      tail = others.tail;
      more = others.more;
      es_is =
          n.es_is ∙ ap (λ (l : List Entry). all ++ l) others.es_is
          ∙ sym (append_assoc all (more ++ others.tail) others.more)
          ∙ ap (λ (l : List Entry). l ++ others.more) (sym (append_assoc all more others.tail));
      ticks = (
        record {
          stretch = (n.are_duties, omega (arith, n.count, keeps.few));
          some = keeps.some;
          most = keeps.most;
          in_line = keeps.in_line;
          rule = λ less. (
            ap is_busy (sym (seen less)) ∙ keeps.idle (omega (arith, n.count, less)),
            keeps.tick ∙ ap (λ (w : World). next_tick w left) (seen less),
          );
        },
        subst (λ (w : World). AreStrides w (left - s.ms) others.strides)
            (replay-append empty_world before all) others.ticks,
      );
      time =
          sum_by-cons (λ (x : Stride). x.ms) stride others.strides
          ∙ ap (λ (k : ℕ). s.ms + k) others.time
          ∙ sym (sum_by-cons (λ (x : Stretch). x.ms) s stretches);
      are_duties = others.are_duties;
      count = others.count;
      rest_is =
          ap (λ (l : List Entry). own_from 0 l others.more)
          (ap (λ (l : List Entry). before ++ l) (append_assoc all more others.tail)
          ∙ sym (append_assoc before all (more ++ others.tail)))
          ∙ others.rest_is;
      next = λ own. (
        keeps.tick ∙ ap (λ (w : World). next_tick w left)
            (seen_alone s.before keeps.world (own_append s.before (tick ∷ n.more) (subst AreOwn at own)).0 keeps.sees
            ∙ world),
        subst (λ (w : World). AreNextTicks w (left - s.ms) others.strides) (replay-append empty_world before all)
            (others.next (own_on before es all n.more n.es_is own)),
      );
    }

pub whole_on : (workers : ℕ) (before es part more : List Entry) → es ≡ part ++ more → IsWhole workers (before ++ es) →
    IsWhole workers ((before ++ part) ++ more)
whole_on workers before es part more is whole =
    subst (IsWhole workers) (ap (λ (l : List Entry). before ++ l) is ∙ sym (append_assoc before part more)) whole

pub ticked : (workers : ℕ) (stretches : List Stretch) (left : ℕ) (before es : List Entry) (last part rest : List Step) →
    IsWhole workers (before ++ es) → AreTurns last → KeepsTicks left stretches last part →
    own_from 0 before es ≡ part ++ rest → Ticked left before es stretches last rest
ticked workers [] left before es last part rest whole are keeps e =
    ticked_none workers left before es last rest (callers_append workers before es whole.callers).1 are
    (e ∙ ap (λ (l : List Step). l ++ rest) keeps)
ticked workers (s ∷ stretches) left before es last part rest whole are keeps e =
    let n = called workers s.turns (keeps.0 ++ rest) (tick_at s) before es
    (callers_append workers before es whole.callers).1
    keeps.2.are_turns
    (e ∙ ap (λ (l : List Step). l ++ rest) keeps.1 ∙ append_assoc s.turns (tick_at s ∷ keeps.0) rest) in
    let all = n.took ++ (tick_at s).entry ∷ [] in
    ticked_more workers left before es s stretches last keeps.0 rest whole keeps.2 n
    (ticked workers stretches (left - s.ms) (before ++ all) n.more last keeps.0 rest
    (whole_on workers before es all n.more n.es_is whole) are keeps.3 n.rest_is)

-- The next call finds nothing to be done.

pub choose_no : {X : Type 0} (b : Bool) (x y : X) → b ≡ false → (if b then x else y) ≡ y
choose_no true x y e = absurd cc
choose_no false x y e = refl

pub choose_yes : {X : Type 0} (b : Bool) (x y : X) → b ≡ true → (if b then x else y) ≡ x
choose_yes true x y e = refl
choose_yes false x y e = absurd cc

pub no_own_call : (own is_duty : Bool) → is_duty ≡ true → (own && not is_duty) ≡ false
no_own_call true true e = refl
no_own_call false true e = refl
no_own_call own false e = absurd cc

pub an_own_call : (own is_duty : Bool) → own ≡ true → is_duty ≡ false → (own && not is_duty) ≡ true
an_own_call true false e f = refl
an_own_call true true e f = absurd cc
an_own_call false is_duty e f = absurd cc

pub quiet_gap : (w : World) (gap rest : List Entry) → AreDuties gap →
    quiet_at_next_call w (gap ++ rest) ≡ quiet_at_next_call (replay_from w gap) rest
quiet_gap w [] rest are = refl
quiet_gap w (e ∷ gap) rest are =
    let parts = both (is_duty_entry e.what) (list_all (λ (x : Entry). is_duty_entry x.what) gap) are in
    choose_no (is_own_call e) (not (is_busy w)) (quiet_at_next_call (step_world w e) (gap ++ rest))
    (no_own_call (e.by == 0) (is_duty_entry e.what) parts.0)
    ∙ quiet_gap (step_world w e) gap rest parts.1

abbrev pub halt : List Entry
halt = own_call call.Halt ∷ []

pub next_quiet : (workers : ℕ) (before more : List Entry) (rest : List Step) → IsWhole workers (before ++ more) →
    own_from 0 before more ≡ rest → SeesIdle (before_next rest (before ++ more)) →
    quiet_at_next_call (replay before) (more ++ halt) ≡ true
next_quiet workers before more [] whole none sees =
    let others = gap_duties workers before more none (callers_append workers before more whole.callers).1 in
    quiet_gap (replay before) more halt others.are_duties
    ∙ ap not (ap is_busy (sym (replay-append empty_world before more))
    ∙ idle_until workers (before ++ more) whole.legal whole.callers sees)
next_quiet workers before more (s ∷ rest) whole e sees =
    let n = next_own before more s rest e in
    let at : before ++ more ≡ s.before ++ (s.entry ∷ n.more) =
    ap (λ (l : List Entry). before ++ l) n.es_is
    ∙ sym (append_assoc before n.gap (s.entry ∷ n.more))
    ∙ ap (λ (l : List Entry). l ++ s.entry ∷ n.more) (sym n.before_is) in
    let idle = idle_at workers (before ++ more) s.before (s.entry ∷ n.more) at whole sees in
    let callers = callers_of workers more n.gap (s.entry ∷ n.more) n.es_is
    (callers_append workers before more whole.callers).1 in
    let others = gap_duties workers before n.gap n.none callers.0 in
    let world : replay_from (replay before) n.gap ≡ replay s.before =
    sym (ap replay n.before_is ∙ replay-append empty_world before n.gap) in
    let may = (IsLegalFrom-append empty_world s.before (s.entry ∷ n.more) (subst IsLegal at whole.legal)).1.0 in
    let not_duty = no_duty_follows (replay s.before) s.entry.what idle may in
    ap (λ (l : List Entry). quiet_at_next_call (replay before) (l ++ halt)) n.es_is
    ∙ ap (quiet_at_next_call (replay before)) (append_assoc n.gap (s.entry ∷ n.more) halt)
    ∙ quiet_gap (replay before) n.gap ((s.entry ∷ n.more) ++ halt) others.are_duties
    ∙ ap (λ (w : World). quiet_at_next_call w ((s.entry ∷ n.more) ++ halt)) world
    ∙ choose_yes (is_own_call s.entry) (not (is_busy (replay s.before)))
    (quiet_at_next_call (step_world (replay s.before) s.entry) (n.more ++ halt))
    (an_own_call (s.entry.by == 0) (is_duty_entry s.entry.what) n.own not_duty)
    ∙ ap not idle

pub made_wait : (workers ms : ℕ) (before es : List Entry) (part rest : List Step) → IsWhole workers (before ++ es) →
    KeepsWaited ms part (before_next rest (before ++ es)) → own_from 0 before es ≡ part ++ rest →
    Made (Waits ms) before es rest
made_wait workers ms before es part rest whole keeps e =
    let begun = keeps.begun in
    let t = ticked workers begun.stretches ms before es begun.last part rest whole begun.are_turns begun.ticks e in
    let all = entries_of_strides t.strides in
    let first = all ++ t.tail in
    let on = whole_on workers before es first t.more t.es_is whole in
    let now : before ++ es ≡ (before ++ first) ++ t.more =
    ap (λ (l : List Entry). before ++ l) t.es_is ∙ sym (append_assoc before first t.more) in
    let world : replay (before ++ first) ≡ replay_from (replay_from (replay before) all) t.tail =
    replay-append empty_world before first ∙ replay-append (replay before) all t.tail in
    record {
      part = first;
      more = t.more;
      es_is = t.es_is;
      is = record {
        strides = t.strides;
        tail = t.tail;
        entries = refl;
        ticks = t.ticks;
        all = omega (arith, keeps.all, t.time);
        tail_is = (
          (t.are_duties, omega (arith, t.count, begun.few)),
          λ less. ap (λ (w : World). quiet_at_next_call w (t.more ++ halt)) (sym world)
              ∙ next_quiet workers (before ++ first) t.more rest on t.rest_is
              (subst (λ (l : List Entry). SeesIdle (before_next rest l)) now
              (keeps.idle (omega (arith, t.count, less)))),
        );
      };
      rest_is = t.rest_is;
      alone = λ own. (
        t.next own,
        λ less. ap is_busy (sym world)
            ∙ idle_alone workers (before ++ first) t.more rest on
            (own_append (before ++ first) t.more (own_on before es first t.more t.es_is own)).1 t.rest_is
            (subst (λ (l : List Entry). SeesIdle (before_next rest l)) now (keeps.idle (omega (arith, t.count, less)))),
      );
    }

pub made : (workers : ℕ) (line : Asked) (before es : List Entry) (part rest : List Step) → IsWhole workers (before ++ es) →
    KeepsLine line part (before_next rest (before ++ es)) → own_from 0 before es ≡ part ++ rest →
    Made line before es rest
made workers Nothing before es part rest whole keeps e =
    made_nothing before es rest (e ∙ ap (λ (l : List Step). l ++ rest) keeps)
made workers (Asks c) before es part rest whole keeps e =
    made_call workers c keeps.0 before es rest (callers_append workers before es whole.callers).1
    (e ∙ ap (λ (l : List Step). l ++ rest) keeps.1)
made workers (Settles budget) before es part rest whole keeps e =
    made_settle workers budget before es part rest whole keeps e
made workers (Waits ms) before es part rest whole keeps e = made_wait workers ms before es part rest whole keeps e

-- The end.

pub part_none : (workers : ℕ) (before es : List Entry) → IsWhole workers (before ++ es) → own_from 0 before es ≡ [] →
    AreDuties es × (own_duties es ≡ 0)
part_none workers before es whole none =
    let others = gap_duties workers before es none (callers_append workers before es whole.callers).1 in
    (others.are_duties, others.none)

-- a wait line's part, with as many ticks and duties as were kept
pub record MadePart (ms : ℕ) (before es : List Entry) (begun : KeepsBegun ms (own_from 0 before es)) : Type 0 where
  pub is : IsWaitedPart (replay before) ms es
  pub time : sum_by (λ (s : Stride). s.ms) is.strides ≡ sum_by (λ (s : Stretch). s.ms) begun.stretches
  pub count : own_duties is.tail ≡ length begun.last
  pub next : AreOwn (before ++ es) → AreNextTicks (replay before) ms is.strides

pub part_wait : (workers ms : ℕ) (before es : List Entry) → IsWhole workers (before ++ es) →
    (begun : KeepsBegun ms (own_from 0 before es)) → MadePart ms before es begun
part_wait workers ms before es whole begun =
    let t = ticked workers begun.stretches ms before es begun.last
    (own_from 0 before es) [] whole begun.are_turns begun.ticks
    (sym (append-nil (own_from 0 before es))) in
    let all = entries_of_strides t.strides in
    let first = all ++ t.tail in
    let callers = callers_of workers es first t.more t.es_is (callers_append workers before es whole.callers).1 in
    let others = gap_duties workers (before ++ first) t.more t.rest_is callers.1 in
    let count : own_duties (t.tail ++ t.more) ≡ length begun.last =
    omega (arith, count_join t.tail t.more, t.count, others.none) in
    record {
      is = record {
        strides = t.strides;
        tail = t.tail ++ t.more;
        entries = t.es_is ∙ append_assoc all t.tail t.more;
        ticks = t.ticks;
        tail_is = (
          duties_join t.tail t.more t.are_duties others.are_duties,
          omega (arith, count, begun.few),
        );
      };
      time = t.time;
      count = count;
      next = t.next;
    }

-- what was done of the next line; alone it goes on by the settle test
pub record KeptPart (next : Option Asked) (before es : List Entry) : Type 0 where
  pub is : IsPart (replay before) next es
  pub alone : AreOwn (before ++ es) → IsPartAlone (replay before) next es is

pub part_is : (workers : ℕ) (next : Option Asked) (before es : List Entry) → IsWhole workers (before ++ es) →
    KeepsPart next (own_from 0 before es) → KeptPart next before es
part_is workers None before es whole keeps =
    record { is = part_none workers before es whole keeps; alone = λ own. tt }
part_is workers (Some Nothing) before es whole keeps =
    record { is = part_none workers before es whole keeps; alone = λ own. tt }
part_is workers (Some (Asks c)) before es whole keeps =
    record { is = part_none workers before es whole keeps; alone = λ own. tt }
part_is workers (Some (Settles budget)) before es whole keeps =
    let turns = turned_all workers (own_from 0 before es) before es
    (callers_append workers before es whole.callers).1 keeps.0 refl in
    record { is = (turns.0, omega (arith, turns.1, keeps.1)); alone = λ own. tt }
part_is workers (Some (Waits ms)) before es whole keeps =
    let made = part_wait workers ms before es whole keeps in
    record { is = made.is; alone = made.next }

-- a part of a line that isn't done
pub record UndonePart (next : Option Asked) (before es : List Entry) : Type 0 where
  pub is : IsPart (replay before) next es
  pub undone : IsUndone (before ++ es) (replay before) next es is
  pub alone : AreOwn (before ++ es) → IsPartAlone (replay before) next es is

pub part_undone : (workers : ℕ) (next : Option Asked) (before es : List Entry) → IsWhole workers (before ++ es) →
    KeepsUndone (before ++ es) next (own_from 0 before es) → UndonePart next before es
part_undone workers None before es whole keeps = absurd keeps
part_undone workers (Some Nothing) before es whole keeps = absurd keeps
part_undone workers (Some (Asks c)) before es whole keeps =
    record { is = part_none workers before es whole keeps; undone = tt; alone = λ own. tt }
part_undone workers (Some (Settles budget)) before es whole keeps =
    record { is = (part_is workers (Some (Settles budget)) before es whole keeps).is; undone = tt; alone = λ own. tt }
part_undone workers (Some (Waits ms)) before es whole keeps =
    let made = part_wait workers ms before es whole keeps.begun in
    record {
      is = made.is;
      undone = more made.is.strides made.is.tail made.time made.count keeps.more;
      alone = made.next;
    }
  where
    more : (strides : List Stride) (tail : List Entry) →
        sum_by (λ (s : Stride). s.ms) strides ≡ sum_by (λ (s : Stretch). s.ms) keeps.begun.stretches →
        own_duties tail ≡ length keeps.begun.last →
        (0 < ms - sum_by (λ (s : Stretch). s.ms) keeps.begun.stretches)
        ⊎ ((length keeps.begun.last < full_stretch) × SeesBusy (before ++ es)) →
        (0 < left_after ms strides) ⊎ ((own_duties tail < full_stretch) × SeesBusy (before ++ es))
    more strides tail time count (inl some) = inl (omega (arith, time, some))
    more strides tail time count (inr busy) = inr (omega (arith, count, busy.0), busy.1)

-- All lines.

pub record KeptLines (w : World) (lines : List Asked) (next : Option Asked) (before es : List Entry) : Type 0 where
  pub are : FollowsFrom w lines next (es ++ halt)
  pub alone : AreOwn (before ++ es) → AreLinesAlone w lines next (es ++ halt) are

pub kept_more : (line : Asked) (lines : List Asked) (next : Option Asked) (before es : List Entry) (rest : List Step) →
    (m : Made line before es rest) → KeptLines (replay_from (replay before) m.part) lines next
    (before ++ m.part) m.more →
    KeptLines (replay before) (line ∷ lines) next before es
kept_more line lines next before es rest m others = record {
  are = (
    m.part,
    m.more ++ halt,
    ap (λ (l : List Entry). l ++ halt) m.es_is ∙ append_assoc m.part m.more halt,
    m.is,
    others.are,
  );
  alone = λ own. (m.alone own, others.alone (own_on before es m.part m.more m.es_is own));
}

pub keeps_follow : (workers : ℕ) (lines : List Asked) (next : Option Asked) (before es : List Entry) →
    IsWhole workers (before ++ es) → KeepsLines lines next (own_from 0 before es) (before ++ es) →
    KeptLines (replay before) lines next before es
keeps_follow workers [] next before es whole keeps =
    let made = part_is workers next before es whole keeps in
    record { are = record { part = es; entries = refl; part_is = made.is }; alone = made.alone }
keeps_follow workers (line ∷ lines) next before es whole keeps =
    let m = made workers line before es keeps.0 keeps.1 whole keeps.3 keeps.2 in
    let now : before ++ es ≡ (before ++ m.part) ++ m.more =
    ap (λ (l : List Entry). before ++ l) m.es_is ∙ sym (append_assoc before m.part m.more) in
    let rest = keeps_follow workers lines next (before ++ m.part) m.more
    (whole_on workers before es m.part m.more m.es_is whole)
    (subst (λ (l : List Step). KeepsLines lines next l ((before ++ m.part) ++ m.more)) (sym m.rest_is)
    (subst (KeepsLines lines next keeps.1) now keeps.4)) in
    kept_more line lines next before es keeps.1 m
    (subst (λ (w : World). KeptLines w lines next (before ++ m.part) m.more)
    (replay-append empty_world before m.part) rest)

pub kept_lines : (workers : ℕ) (lines : List Asked) (next : Option Asked) (start : List Entry) →
    IsWhole workers (start ++ halt) → KeepsLines lines next (own 0 start) start →
    KeptLines empty_world lines next [] start
kept_lines workers lines next start whole keeps =
    keeps_follow workers lines next [] start (whole_first workers (start ++ halt) start halt refl whole) keeps

pub kept-law : KeptLaw
kept-law workers lines next start legal callers keeps = record {
  callers = callers;
  lines_are = (kept_lines workers lines next start (record { legal = legal; callers = callers }) keeps).are;
}

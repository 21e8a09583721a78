-- A stretch of turns, and a wait line.
use Rattle.std.proofs.Common.{◌≡◌, ℕ, ◌+◌, ◌-◌, ◌<◌, inl, inr, List, [], ◌∷◌, ◌++◌, refl, ap, ◌∙◌, sym, subst, append_assoc, arith, Some, None, length-append}
use Rattle.std.specs.Prelude.{is_some, sum_by}
use Rattle.std.proofs.lemmas.List.Sums.{sum_by-cons}
use Rattle.swarm_lines.proofs.Coming.{came_none, came_stays, came_then, saw, stays_came}
use Rattle.swarm_lines.specs.Came.{Advanced, Answered, Stays, StaysBusy, StaysBy, Turned}
use Rattle.swarm_lines.specs.Stretches.{BeganWait, HasNoRoom, Settled, Settling, StoppedWait, StopsTurns, StopsWait, Took, Waited, Waiting}
use Rattle.swarm_lines.specs.declared.unanswered.Unanswered.{Unanswered}
use Rattle.swarm_lines.specs.declared.unanswered.Unanswered.TheVariants.{Full, NoMemory}
use Rattle.swarm_model.proofs.Following.Keeping.{sees_now}
use Rattle.swarm_model.proofs.Following.Strides.{IsNextTick, tick_is}
use Rattle.swarm_model.specs.History.{replay}
use Rattle.swarm_model.specs.Kept.{IsTurn, KeepsTick, KeepsTicks, Stretch}
use Rattle.swarm_model.specs.Own.{Step, step_at}
use Rattle.swarm_model.specs.Script.{full_stretch, next_tick, own_call, own_duty}
use Rattle.swarm_model.specs.Settle.{settle_answer}
use Rattle.swarm_objects.proofs.RowLemmas.{Has-append_cases}
use Rattle.swarm_objects.specs.Kinds.{duty_named, role_of}
use Rattle.swarm_objects.specs.Rows.{Has}
use Rattle.swarm_objects.specs.World.{World}
use Rattle.swarm_objects.specs.declared.calls.Call.TheVariants.{Tick}
use Rattle.swarm_objects.specs.declared.calls.Entry.{Entry}
use Rattle.swarm_objects.specs.declared.duties.Duty.{Duty}
use Rattle.swarm_objects.specs.declared.replies.Reply.{Reply}
use Rattle.swarm_world.specs.Work.{IsFull}

-- Turns.

pub took_none : (n : ℕ) (old : List Entry) → Took n 0 old old
took_none n old = record {
  some = record { turns = []; came = came_none old; are_turns = λ s h. absurd h; few = omega arith };
  count_is = refl;
}

looked_for : (looked new : List Entry) (d : Duty) → duty_named (settle_answer (replay looked)) ≡ Some d →
    (t : Turned looked new (role_of d)) → IsTurn (step_at t.one.before (own_duty t.duty))
looked_for looked new d busy t = record {
  world = replay looked;
  sees = saw looked t.one.before t.one.others;
  named = d;
  busy = busy;
  duty = t.duty;
  first = t.first;
  entry = refl;
}

took_more : (n count : ℕ) (old now looked new : List Entry) (d : Duty) → Took n count old now → count < n →
    Stays now looked → duty_named (settle_answer (replay looked)) ≡ Some d → Turned looked new (role_of d) →
    Took n (count + 1) old new
took_more n count old now looked new d took below same busy t =
    let s = step_at t.one.before (own_duty t.duty) in
    let turns = took.some.turns in
    let long = length-append turns (s ∷ []) in
    let is = took.count_is in
    record {
      some = record {
        turns = turns ++ s ∷ [];
        came =
            came_then old now new turns (s ∷ []) took.some.came (stays_came now looked new (s ∷ []) same t.one.came);
        are_turns = λ z h. elim (Has-append_cases turns (s ∷ []) z h) [
          | inl k ↦ took.some.are_turns z k
          | inr k ↦ last z k
        ];
        few = omega arith;
      };
      count_is = omega arith;
    }
  where
    last : (z : Step) → Has (step_at t.one.before (own_duty t.duty) ∷ []) z → IsTurn z
    last z (inl e) = subst IsTurn e (looked_for looked new d busy t)
    last z (inr k) = absurd k

took_kept : (n count : ℕ) (old now new : List Entry) → Took n count old now → Stays now new → Took n count old new
took_kept n count old now new took same = record {
  some = record {
    turns = took.some.turns;
    came = came_stays old now new took.some.turns took.some.came same;
    are_turns = took.some.are_turns;
    few = took.some.few;
  };
  count_is = took.count_is;
}

pub took_idle : (n count : ℕ) (old now looked : List Entry) → Took n count old now → Stays now looked →
    duty_named (settle_answer (replay looked)) ≡ None → Settled n old looked
unfolding took_kept
took_idle n count old now looked took same idle =
    record { some = (took_kept n count old now looked took same).some; idle = λ less. ap is_some idle }

pub took_all : (n count : ℕ) (old now looked : List Entry) → Took n count old now → Stays now looked → count ≡ n →
    Settled n old looked
unfolding took_kept
took_all n count old now looked took same all = record {
  some = (took_kept n count old now looked took same).some;
  idle = λ less. absurd {0} (let is = took.count_is in omega arith);
}

-- a step more
pub took_step : (n count : ℕ) (old now new : List Entry) → Took n count old now → count < n → Advanced now new →
    Took n (count + 1) old new
took_step n count old now new took below a =
    took_more n count old now a.looked new a.named took below a.others a.busy a.turned

-- the history had no room for the duty that was named
pub took_full : (n count : ℕ) (old now new : List Entry) → Took n count old now → count < n → StaysBusy Full now new →
    HasNoRoom n old new
unfolding took_kept
took_full n count old now new took below stops =
    let is = took.count_is in
    record {
      some = (took_kept n count old now new took stops.0).some;
      less = omega arith;
      busy = record { world = replay new; sees = sees_now new; busy = stops.2 };
      full = stops.1;
    }

-- none is done for whatever reason
pub took_part : (cause : Unanswered) (n count : ℕ) (old now new : List Entry) → Took n count old now → count < n →
    StaysBusy cause now new → StopsTurns cause n old new
unfolding took_kept
took_part Full n count old now new took below stops = took_full n count old now new took below stops
took_part NoMemory n count old now new took below stops = (took_kept n count old now new took stops).some

-- Stretches of a wait line.

ticks_last : (ss : List Stretch) (left : ℕ) (part last : List Step) → KeepsTicks left ss [] part →
    KeepsTicks left ss last (part ++ last)
ticks_last [] left part last keeps = ap (λ (l : List Step). l ++ last) keeps
ticks_last (s ∷ ss) left part last keeps = (
  keeps.0 ++ last,
  ap (λ (l : List Step). l ++ last) keeps.1
      ∙ append_assoc s.turns (step_at s.before (own_call (Tick s.ms)) ∷ keeps.0) last,
  keeps.2,
  ticks_last ss (left - s.ms) keeps.0 last keeps.3,
)

abbrev sum_ms : List Stretch → ℕ
sum_ms ss = sum_by (λ s. s.ms) ss

less_none : (left : ℕ) → left - sum_ms [] ≡ left
less_none left = omega arith

less_both : (left : ℕ) (z : Stretch) (ss : List Stretch) → left - sum_ms (z ∷ ss) ≡ (left - z.ms) - sum_ms ss
less_both left z ss = omega (arith, sum_by-cons (λ (x : Stretch). x.ms) z ss)

ticks_more : (ss : List Stretch) (left : ℕ) (part : List Step) (s : Stretch) → KeepsTicks left ss [] part →
    KeepsTick (left - sum_ms ss) s →
    KeepsTicks left (ss ++ s ∷ []) [] (part ++ (s.turns ++ step_at s.before (own_call (Tick s.ms)) ∷ []))
ticks_more [] left part s keeps one = (
  [],
  ap (λ (l : List Step). l ++ (s.turns ++ step_at s.before (own_call (Tick s.ms)) ∷ [])) keeps,
  subst (λ (k : ℕ). KeepsTick k s) (less_none left) one,
  refl,
)
ticks_more (z ∷ ss) left part s keeps one =
    let more = s.turns ++ step_at s.before (own_call (Tick s.ms)) ∷ [] in (
      keeps.0 ++ more,
      ap (λ (l : List Step). l ++ more) keeps.1
          ∙ append_assoc z.turns (step_at z.before (own_call (Tick z.ms)) ∷ keeps.0) more,
      keeps.2,
      ticks_more ss (left - z.ms) keeps.0 s keeps.3
          (subst (λ (k : ℕ). KeepsTick k s) (less_both left z ss) one),
    )

sum_more : (ss : List Stretch) (s : Stretch) → sum_ms (ss ++ s ∷ []) ≡ sum_ms ss + s.ms
sum_more [] s = omega (arith, sum_by-cons (λ (x : Stretch). x.ms) s [])
sum_more (z ∷ ss) s =
    omega (
      arith,
      sum_more ss s,
      sum_by-cons (λ (x : Stretch). x.ms) z ss,
      sum_by-cons (λ (x : Stretch). x.ms) z (ss ++ s ∷ []),
    )

pub waiting_none : (ms : ℕ) (old : List Entry) → Waiting ms ms old old
waiting_none ms old =
    record { stretches = []; part = []; came = came_none old; ticks = refl; time = omega arith }

pub is_less : (w : World) (left tick : ℕ) → 0 < left → tick ≡ next_tick w left → left - tick < left
is_less w left tick some is = let next = tick_is w left some in omega (arith, next.some, next.within, is)

-- one stretch more, with its tick
pub waiting_more : (ms left tick : ℕ) (start old mid new : List Entry) (reply : Reply) → 0 < left →
    Waiting ms left start old → Settled full_stretch old mid → tick ≡ next_tick (replay mid) left →
    Answered mid new (Tick tick) reply → Waiting ms (left - tick) start new
waiting_more ms left tick start old mid new reply some w settled is a =
    let next = subst (λ (k : ℕ). IsNextTick left k) (sym is) (tick_is (replay mid) left some) in
    let turns = settled.some.turns in
    let last = step_at a.one.before (own_call (Tick tick)) in
    let s : Stretch = record { turns = turns; before = a.one.before; ms = tick } in
    let keeps : KeepsTick left s = record {
      are_turns = settled.some.are_turns;
      few = settled.some.few;
      some = next.some;
      most = next.most;
      in_line = next.within;
      world = replay mid;
      sees = saw mid a.one.before a.one.others;
      tick = is;
      idle = settled.idle;
    } in
    record {
      stretches = w.stretches ++ s ∷ [];
      part = w.part ++ (turns ++ last ∷ []);
      came =
          came_then start old new w.part (turns ++ last ∷ []) w.came
          (came_then old mid new turns (last ∷ []) settled.some.came a.one.came);
      ticks = ticks_more w.stretches ms w.part s w.ticks (subst (λ (k : ℕ). KeepsTick k s) w.time keeps);
      time =
          let sum = sum_more w.stretches s in
          let time = w.time in
          omega arith;
    }

-- it ends within a stretch
pub began : (ms left : ℕ) (start old new : List Entry) → Waiting ms left start old → Settling full_stretch old new →
    BeganWait ms start new
began ms left start old new w settling = record {
  part = w.part ++ settling.turns;
  came = came_then start old new w.part settling.turns w.came settling.came;
  keeps = record {
    stretches = w.stretches;
    last = settling.turns;
    ticks = ticks_last w.stretches ms w.part settling.turns w.ticks;
    are_turns = settling.are_turns;
    few = settling.few;
  };
}

-- the history had no room for a duty
pub stopped : (ms left : ℕ) (start old new : List Entry) → Waiting ms left start old → HasNoRoom full_stretch old new →
    StoppedWait ms start new
unfolding began
stopped ms left start old new w h =
    let b = began ms left start old new w h.some in
    record {
      part = b.part;
      came = b.came;
      keeps = record { begun = b.keeps; more = inr (h.less, h.busy) };
      full = h.full;
    }

pub stops_turns : (cause : Unanswered) (ms left : ℕ) (start old new : List Entry) → Waiting ms left start old →
    StopsTurns cause full_stretch old new → StopsWait cause ms start new
stops_turns Full ms left start old new w h = stopped ms left start old new w h
stops_turns NoMemory ms left start old new w h = began ms left start old new w h

still : (n : ℕ) (old mid new : List Entry) → Settling n old mid → Stays mid new → Settling n old new
still n old mid new s same = record {
  turns = s.turns;
  came = came_stays old mid new s.turns s.came same;
  are_turns = s.are_turns;
  few = s.few;
}

-- or for the tick, of which time is left
no_tick : (ms left : ℕ) (start old mid new : List Entry) → 0 < left → Waiting ms left start old →
    Settled full_stretch old mid → Stays mid new × IsFull new → StoppedWait ms start new
unfolding began still
no_tick ms left start old mid new some w s h =
    let b = began ms left start old new w (still full_stretch old mid new s.some h.0) in
    record {
      part = b.part;
      came = b.came;
      keeps = record { begun = b.keeps; more = inl (subst (λ (k : ℕ). 0 < k) w.time some) };
      full = h.1;
    }

pub stops_tick : (cause : Unanswered) (ms left : ℕ) (start old mid new : List Entry) → 0 < left →
    Waiting ms left start old → Settled full_stretch old mid → StaysBy cause mid new → StopsWait cause ms start new
stops_tick Full ms left start old mid new some w s h = no_tick ms left start old mid new some w s h
stops_tick NoMemory ms left start old mid new some w s h =
    began ms left start old new w (still full_stretch old mid new s.some h)

-- all of it is done
pub waited : (ms left : ℕ) (start old new : List Entry) → Waiting ms left start old → left ≡ 0 →
    Settled full_stretch old new → Waited ms start new
unfolding began
waited ms left start old new w over s =
    let b = began ms left start old new w s.some in
    record {
      part = b.part;
      came = b.came;
      keeps = record {
        begun = b.keeps;
        all = sym w.time ∙ over;
        idle = λ less. record { world = replay new; sees = sees_now new; idle = s.idle less };
      };
    }

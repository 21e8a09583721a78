-- What a single caller makes of lines follows them.
use Rattle.std.proofs.Common.{◌≡◌, ℕ, zero, suc, ◌+◌, ◌-◌, ◌≤◌, ◌<◌, ◌⊎◌, inl, inr, List, [], ◌∷◌, ◌++◌, length, take, true, false, not, refl, Option, Some, None, sym, ◌∙◌, ap, subst, append_assoc, append-nil, arith}
use Rattle.std.proofs.lemmas.List.{length-append, take-append-le}
use Rattle.std.proofs.lemmas.List.Sums.{sum_by-cons}
use Rattle.swarm_model.proofs.Base.Histories.{replay-append}
use Rattle.swarm_model.proofs.Following.Named.{busy_idle, count_take, duties_take, none_named, settle_cut, settles}
use Rattle.swarm_model.proofs.Following.Strides.{strided, stretch, wait_stride}
use Rattle.swarm_model.specs.Follows.{AreStrides, FollowsFrom, IsLine, IsPart, IsStretch, IsTail, IsWaitedPart, Stride, entries_of_stride, entries_of_strides, left_after, quiet_at_next_call}
use Rattle.swarm_model.specs.History.{replay, replay_from}
use Rattle.swarm_model.specs.OneCaller.{AreLinesAlone, AreNextTicks, EndsIdle, IsLineAlone, IsPartAlone}
use Rattle.swarm_model.specs.Script.{Asked, Asks, Nothing, Settles, Waits, full_stretch, is_busy, next_tick, own_call, own_duties}
use Rattle.swarm_model.specs.Serial.{asked_entries, entries_from, settle_entries, wait_entries}
use Rattle.swarm_model.specs.Undone.{IsUndone, IsUndoneFrom, SeesBusy}
use Rattle.swarm_objects.specs.World.{World}
use Rattle.swarm_objects.specs.declared.calls.Call.{Call}
use Rattle.swarm_objects.specs.declared.calls.Call.TheVariants as call
use Rattle.swarm_objects.specs.declared.calls.Entry.{Entry}

-- The next call finds nothing to be done.

begins_idle : (w : World) (c : Call) (es : List Entry) → is_busy w ≡ false →
    quiet_at_next_call w (own_call c ∷ es) ≡ true
begins_idle w c es idle = ap not idle

-- none, or a call first
abbrev pub BeginsWithCall : List Entry → Type 0
BeginsWithCall es = (es ≡ []) ⊎ ((c : Call) × (rest : List Entry) × (es ≡ own_call c ∷ rest))

idle_wait : (ms : ℕ) (w : World) → is_busy w ≡ false → BeginsWithCall (wait_entries ms w (w.tables.clock + ms))
idle_wait zero w idle = inl (none_named w full_stretch idle)
idle_wait (suc n) w idle =
    let k = suc n in
    inr (
      call.Tick (next_tick w k),
      wait_entries n (replay_from w (own_call (call.Tick (next_tick w k)) ∷ [])) (w.tables.clock + k),
      wait_stride n w k (w.tables.clock + k) refl (omega arith)
          ∙ ap (λ (l : List Entry).
          (l ++ own_call (call.Tick (next_tick (replay_from w l) k)) ∷ [])
          ++ wait_entries n (replay_from w (l ++ own_call (call.Tick (next_tick (replay_from w l) k)) ∷ []))
          (w.tables.clock + k))
          (none_named w full_stretch idle),
    )

-- where nothing is to be done, a line begins with its call
idle_line : (w : World) (line : Asked) → is_busy w ≡ false → BeginsWithCall (asked_entries w line)
idle_line w Nothing idle = inl refl
idle_line w (Asks c) idle = inr (c, [], refl)
idle_line w (Settles budget) idle =
    inr (
      call.Settle budget,
      [],
      ap (λ (l : List Entry). l ++ own_call (call.Settle budget) ∷ []) (none_named w budget idle),
    )
idle_line w (Waits ms) idle = idle_wait ms w idle

-- the lines one after the other, and an end
abbrev pub run_from : World → List Asked → (World → List Entry) → List Entry
run_from w [] end = end w
run_from w (line ∷ lines) end =
    asked_entries w line ++ run_from (replay_from w (asked_entries w line)) lines end

abbrev pub world_after : World → List Asked → World
world_after w [] = w
world_after w (line ∷ lines) = world_after (replay_from w (asked_entries w line)) lines

abbrev pub BeginsIdle : (World → List Entry) → Type 0
BeginsIdle end = (w : World) → is_busy w ≡ false → quiet_at_next_call w (end w) ≡ true

idle_run : (lines : List Asked) (end : World → List Entry) (w : World) → BeginsIdle end → is_busy w ≡ false →
    quiet_at_next_call w (run_from w lines end) ≡ true
idle_run [] end w ends idle = ends w idle
idle_run (line ∷ lines) end w ends idle = go (asked_entries w line) (idle_line w line idle)
    (idle_run lines end w ends idle)
  where
    go : (es : List Entry) → BeginsWithCall es → quiet_at_next_call w (run_from w lines end) ≡ true →
        quiet_at_next_call w (es ++ run_from (replay_from w es) lines end) ≡ true
    go es (inl none) rest = ap (λ (l : List Entry). quiet_at_next_call w
        (l ++ run_from (replay_from w l) lines end)) none ∙ rest
    go es (inr first) rest =
        ap (λ (l : List Entry). quiet_at_next_call w (l ++ run_from (replay_from w es) lines end)) first.2
        ∙ begins_idle w first.0 (first.1 ++ run_from (replay_from w es) lines end) idle

-- A line.

pub same : (m n : ℕ) → m ≤ n → (m < n → ⊥) → m ≡ n
same zero zero l other = refl
same zero (suc n) l other = absurd (other (omega arith))
same (suc m) zero l other = absurd (omega (arith, l))
same (suc m) (suc n) l other = ap suc (same m n (omega (arith, l)) (λ h. other (omega (arith, h))))

abbrev pub QuietBefore : World → List Entry → Type 0
QuietBefore w rest = is_busy w ≡ false → quiet_at_next_call w rest ≡ true

tail_follows : (w : World) (tail rest : List Entry) → tail ≡ stretch w → QuietBefore (replay_from w tail) rest →
    IsTail w tail rest
tail_follows w tail rest is quiet =
    let made = settles full_stretch w in (
      subst IsStretch (sym is) (made.are_duties, made.most),
      λ less. quiet (subst (λ (l : List Entry). own_duties l < full_stretch → is_busy (replay_from w l) ≡ false)
          (sym is) made.idle less),
    )

-- a line, which goes on by the settle test
pub record FollowsLine (w : World) (line : Asked) (part rest : List Entry) : Type 0 where
  pub is : IsLine w line part rest
  pub alone : IsLineAlone w line part rest is

pub line_follows : (w : World) (line : Asked) (rest : List Entry) →
    QuietBefore (replay_from w (asked_entries w line)) rest → FollowsLine w line (asked_entries w line) rest
line_follows w Nothing rest quiet = record { is = refl; alone = tt }
line_follows w (Asks c) rest quiet =
    record { is = record { others = []; entries = refl; are_others = (refl, refl) }; alone = tt }
line_follows w (Settles budget) rest quiet =
    let es = settle_entries budget w in
    let made = settles budget w in
    record {
      is = record {
        duties = es;
        entries = refl;
        are_duties = made.are_duties;
        most = made.most;
        busy = λ busy. same (own_duties es) budget made.most
            (λ less. busy_idle (is_busy (replay_from w es)) busy (made.idle less));
      };
      alone = tt;
    }
line_follows w (Waits ms) rest quiet =
    let made = strided ms w ms (w.tables.clock + ms) refl (omega arith) in
    let all = entries_of_strides made.strides in
    let after = ap (replay_from w) made.entries ∙ replay-append w all made.tail in
    record {
      is = record {
        strides = made.strides;
        tail = made.tail;
        entries = made.entries;
        ticks = made.ticks;
        all = made.all;
        tail_is = tail_follows (replay_from w all) made.tail rest made.tail_is
            (subst (λ (v : World). QuietBefore v rest) after quiet);
      };
      alone = (
        made.next,
        subst (EndsIdle (replay_from w all)) (sym made.tail_is) (settles full_stretch (replay_from w all)).idle,
      );
    }

-- line by line, and then the end
pub record FollowsLines (w : World) (lines : List Asked) (next : Option Asked) (h : List Entry) : Type 0 where
  pub are : FollowsFrom w lines next h
  pub alone : AreLinesAlone w lines next h are

pub run_follows : (lines : List Asked) (next : Option Asked) (end : World → List Entry) (w : World) → BeginsIdle end →
    FollowsLines (world_after w lines) [] next (end (world_after w lines)) → FollowsLines w lines next (run_from w lines end)
run_follows [] next end w begins ends = ends
run_follows (line ∷ lines) next end w begins ends =
    let after = replay_from w (asked_entries w line) in
    let rest = run_from after lines end in
    let first = line_follows w line rest (λ idle. idle_run lines end after begins idle) in
    let others = run_follows lines next end after begins ends in
    record { are = (asked_entries w line, rest, refl, first.is, others.are); alone = (first.alone, others.alone) }

-- where the end isn't all of the next line
pub run_undone : (start : List Entry) (lines : List Asked) (next : Option Asked) (end : World → List Entry) (w : World)
    (begins : BeginsIdle end) (ends : FollowsLines (world_after w lines) [] next (end (world_after w lines))) →
    IsUndoneFrom start (world_after w lines) [] next (end (world_after w lines)) ends.are →
    IsUndoneFrom start w lines next (run_from w lines end) (run_follows lines next end w begins ends).are
unfolding run_follows
run_undone start [] next end w begins ends undone = undone
run_undone start (line ∷ lines) next end w begins ends undone =
    run_undone start lines next end (replay_from w (asked_entries w line)) begins ends undone

-- the lines' entries, and then the end
pub lines_run : (w : World) (lines : List Asked) (end : World → List Entry) →
    entries_from w lines ++ end (replay_from w (entries_from w lines)) ≡ run_from w lines end
lines_run w [] end = refl
lines_run w (line ∷ lines) end =
    let es = asked_entries w line in
    let v = replay_from w es in
    append_assoc es (entries_from v lines) (end (replay_from w (es ++ entries_from v lines)))
    ∙ ap (λ (u : World). es ++ (entries_from v lines ++ end u)) (replay-append w es (entries_from v lines))
    ∙ ap (λ (l : List Entry). es ++ l) (lines_run v lines end)

pub lines_after : (w : World) (lines : List Asked) → replay_from w (entries_from w lines) ≡ world_after w lines
lines_after w [] = refl
lines_after w (line ∷ lines) =
    let es = asked_entries w line in
    let v = replay_from w es in
    replay-append w es (entries_from v lines) ∙ lines_after v lines

-- The end.

abbrev pub halt_alone : World → List Entry
halt_alone w = own_call call.Halt ∷ []

pub halt_begins : BeginsIdle halt_alone
halt_begins w idle = begins_idle w call.Halt [] idle

-- a part of a line, which goes on by the settle test
pub record FollowsNext (w : World) (next : Option Asked) (part : List Entry) : Type 0 where
  pub is : IsPart w next part
  pub alone : IsPartAlone w next part is

-- nothing was done of the next line
nothing_follows : (w : World) (next : Option Asked) → FollowsNext w next []
nothing_follows w None = record { is = (refl, refl); alone = tt }
nothing_follows w (Some Nothing) = record { is = (refl, refl); alone = tt }
nothing_follows w (Some (Asks c)) = record { is = (refl, refl); alone = tt }
nothing_follows w (Some (Settles budget)) = record { is = (refl, omega arith); alone = tt }
nothing_follows w (Some (Waits ms)) = record {
  is = record { strides = []; tail = []; entries = refl; ticks = tt; tail_is = (refl, omega arith) };
  alone = tt;
}

next_ends : (w : World) (next : Option Asked) (part : List Entry) → FollowsNext w next part →
    FollowsLines w [] next (part ++ own_call call.Halt ∷ [])
next_ends w next part follows =
    record { are = record { part = part; entries = refl; part_is = follows.is }; alone = follows.alone }

pub halt_ends : (w : World) (next : Option Asked) → FollowsLines w [] next (halt_alone w)
halt_ends w next = next_ends w next [] (nothing_follows w next)

-- the first entries of a line, and Halt
abbrev pub part_and_halt : Asked → ℕ → World → List Entry
part_and_halt line n w = take n (asked_entries w line) ++ own_call call.Halt ∷ []

pub part_begins : (line : Asked) (n : ℕ) → BeginsIdle (part_and_halt line n)
part_begins line n w idle = go n (asked_entries w line) (idle_line w line idle)
  where
    go : (n : ℕ) (es : List Entry) → BeginsWithCall es →
        quiet_at_next_call w (take n es ++ own_call call.Halt ∷ []) ≡ true
    go zero es begins = begins_idle w call.Halt [] idle
    go (suc n) es (inl none) =
        ap (λ (l : List Entry). quiet_at_next_call w (take (suc n) l ++ own_call call.Halt ∷ [])) none
        ∙ begins_idle w call.Halt [] idle
    go (suc n) es (inr first) =
        ap (λ (l : List Entry). quiet_at_next_call w (take (suc n) l ++ own_call call.Halt ∷ [])) first.2
        ∙ begins_idle w first.0 (take n first.1 ++ own_call call.Halt ∷ []) idle

-- a wait line, cut after any entry

le_or_more : (m n : ℕ) → (m ≤ n) ⊎ (n + 1 ≤ m)
le_or_more zero n = inl (omega arith)
le_or_more (suc m) zero = inr (omega arith)
le_or_more (suc m) (suc n) = go (le_or_more m n)
  where
    go : (m ≤ n) ⊎ (n + 1 ≤ m) → (suc m ≤ suc n) ⊎ (suc n + 1 ≤ suc m)
    go (inl k) = inl (omega (arith, k))
    go (inr k) = inr (omega (arith, k))

stretch_take : (k : ℕ) (es : List Entry) → IsStretch es → IsStretch (take k es)
stretch_take k es is = (duties_take k es is.0, omega (arith, count_take k es, is.1))

take_on : (es fs : List Entry) (n k : ℕ) → k ≡ length es + n → take k (es ++ fs) ≡ es ++ take n fs
take_on [] fs n k is = ap (λ (i : ℕ). take i fs) (is ∙ zero_more n)
  where
    zero_more : (n : ℕ) → 0 + n ≡ n
    zero_more n = omega arith
take_on (e ∷ es) fs n zero is = absurd (omega (arith, is))
take_on (e ∷ es) fs n (suc k) is = ap (λ (l : List Entry). e ∷ l) (take_on es fs n k (omega (arith, is)))

-- a part of a wait line, which isn't all of it
record Cut (w : World) (left : ℕ) (part : List Entry) : Type 0 where
  pub is : IsWaitedPart w left part
  pub next : AreNextTicks w left is.strides
  pub more :
      (0 < left_after left is.strides)
      ⊎ ((own_duties is.tail < full_stretch) × (is_busy (replay_from w part) ≡ true))

cut_tail : (w : World) (left k : ℕ) → k < length (stretch w) → Cut w left (take k (stretch w))
cut_tail w left k inside =
    let made = settles full_stretch w in
    record {
      is = record {
        strides = [];
        tail = take k (stretch w);
        entries = refl;
        ticks = tt;
        tail_is = stretch_take k (stretch w) (made.are_duties, made.most);
      };
      next = tt;
      more = inr (settle_cut full_stretch w k inside);
    }

more_left : {A B C : Type 0} (s : Stride) (left : ℕ) (strides : List Stride) → (B → C) →
    (0 < left_after (left - s.ms) strides) ⊎ (A × B) → (0 < left_after left (s ∷ strides)) ⊎ (A × C)
more_left s left strides on (inl some) = inl (omega (arith, some, sum_by-cons (λ (x : Stride). x.ms) s strides))
more_left s left strides on (inr busy) = inr (busy.0, on busy.1)

cut : (w : World) (left : ℕ) (strides : List Stride) (tail : List Entry) (k : ℕ) → AreStrides w left strides →
    AreNextTicks w left strides → tail ≡ stretch (replay_from w (entries_of_strides strides)) →
    k < length (entries_of_strides strides ++ tail) → Cut w left (take k (entries_of_strides strides ++ tail))
cut w left [] tail k ticks next is inside =
    subst (λ (l : List Entry). Cut w left (take k l)) (sym is)
    (cut_tail w left k (subst (λ (l : List Entry). k < length l) is inside))
cut w left (s ∷ strides) tail k ticks next is inside = go (le_or_more k (length s.stretch))
    (λ n. cut (replay_from w (entries_of_stride s)) (left - s.ms) strides tail n ticks.1 next.1
    (is ∙ ap stretch (replay-append w (entries_of_stride s) (entries_of_strides strides))))
  where
    more : List Entry
    more = entries_of_strides strides

    go : (k ≤ length s.stretch) ⊎ (length s.stretch + 1 ≤ k) →
        ((n : ℕ) → n < length (entries_of_strides strides ++ tail) →
        Cut (replay_from w (entries_of_stride s)) (left - s.ms) (take n (entries_of_strides strides ++ tail))) →
        Cut w left (take k ((entries_of_stride s ++ entries_of_strides strides) ++ tail))
    go (inl few) rest = record {
      is = record {
        strides = [];
        tail = take k s.stretch;
        entries =
            ap (take k) (append_assoc (entries_of_stride s) (entries_of_strides strides) tail
            ∙ append_assoc s.stretch (own_call (call.Tick s.ms) ∷ []) (entries_of_strides strides ++ tail))
            ∙ take-append-le k s.stretch (own_call (call.Tick s.ms) ∷ (entries_of_strides strides ++ tail)) few;
        ticks = tt;
        tail_is = stretch_take k s.stretch ticks.0.stretch;
      };
      next = tt;
      more = inl (omega (arith, ticks.0.some, ticks.0.in_line));
    }
    go (inr many) rest =
        let es = entries_of_stride s in
        let later = entries_of_strides strides ++ tail in
        let size = length-append s.stretch (own_call (call.Tick s.ms) ∷ []) in
        let assoc = append_assoc es (entries_of_strides strides) tail in
        let n = k - length es in
        let part = rest n (omega (
          arith,
          inside,
          size,
          many,
          ap {B = ℕ} (λ (l : List Entry). length l) assoc,
          length-append es later,
        )) in
        let whole : take k ((es ++ entries_of_strides strides) ++ tail) ≡ es ++ take n later =
        ap (take k) assoc ∙ take_on es later n k (omega (arith, size, many)) in
        record {
          is = record {
            strides = s ∷ part.is.strides;
            tail = part.is.tail;
            entries =
                whole
                ∙ ap (λ (l : List Entry). es ++ l) part.is.entries
                ∙ sym (append_assoc es (entries_of_strides part.is.strides) part.is.tail);
            ticks = (ticks.0, part.is.ticks);
            tail_is = part.is.tail_is;
          };
          next = (next.0, part.next);
          more = more_left s left part.is.strides
              (subst (λ (v : World). is_busy v ≡ true)
              (sym (ap (replay_from w) whole ∙ replay-append w es (take n later)))) part.more;
        }

-- less than all of a line is a part of it, and the line isn't done
pub record StopsIn (w : World) (next : Option Asked) (part : List Entry) : Type 0 where
  pub follows : FollowsNext w next part
  pub undone : (start : List Entry) → replay start ≡ replay_from w part → IsUndone start w next part follows.is

busy_now : (start : List Entry) → is_busy (replay start) ≡ true → SeesBusy start
busy_now start busy = record {
  world = replay start;
  sees = record { seen = start; others = []; history = sym (append-nil start); none = refl; world = refl };
  busy = busy;
}

cut_stops : (w : World) (ms : ℕ) (part : List Entry) → Cut w ms part → StopsIn w (Some (Waits ms)) part
cut_stops w ms part c = record {
  follows = record { is = c.is; alone = c.next };
  undone = λ start same. go start same c.more;
}
  where
    go : (start : List Entry) → replay start ≡ replay_from w part →
        (0 < left_after ms c.is.strides) ⊎ ((own_duties c.is.tail < full_stretch) × (is_busy (replay_from w part) ≡ true)) →
        (0 < left_after ms c.is.strides) ⊎ ((own_duties c.is.tail < full_stretch) × SeesBusy start)
    go start same (inl some) = inl some
    go start same (inr busy) = inr (busy.0, busy_now start (ap is_busy same ∙ busy.1))

pub part_follows : (w : World) (line : Asked) (n : ℕ) → n < length (asked_entries w line) →
    StopsIn w (Some line) (take n (asked_entries w line))
part_follows w Nothing n inside = absurd (omega (arith, inside))
part_follows w (Asks c) zero inside =
    record { follows = record { is = (refl, refl); alone = tt }; undone = λ start same. tt }
part_follows w (Asks c) (suc n) inside = absurd (omega (arith, inside))
part_follows w (Settles budget) n inside =
    let es = settle_entries budget w in
    let made = settles budget w in
    let within : n ≤ length es = omega (arith, inside, length-append es (own_call (call.Settle budget) ∷ [])) in
    subst (StopsIn w (Some (Settles budget))) (sym (take-append-le n es (own_call (call.Settle budget) ∷ []) within))
    (record {
      follows = record {
        is = (duties_take n es made.are_duties, omega (arith, count_take n es, made.most));
        alone = tt;
      };
      undone = λ start same. tt;
    })
part_follows w (Waits ms) n inside =
    let made = strided ms w ms (w.tables.clock + ms) refl (omega arith) in
    subst (λ (l : List Entry). StopsIn w (Some (Waits ms)) (take n l)) (sym made.entries)
    (cut_stops w ms (take n (entries_of_strides made.strides ++ made.tail))
    (cut w ms made.strides made.tail n made.ticks made.next made.tail_is
    (subst (λ (l : List Entry). n < length l) made.entries inside)))

pub part_ends : (w : World) (line : Asked) (n : ℕ) → n < length (asked_entries w line) →
    FollowsLines w [] (Some line) (part_and_halt line n w)
part_ends w line n inside =
    next_ends w (Some line) (take n (asked_entries w line)) (part_follows w line n inside).follows

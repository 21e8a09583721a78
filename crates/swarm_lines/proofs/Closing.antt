-- The whole history, from what all passes know of it.
use Rattle.std.proofs.Common.{◌≡◌, ℕ, inl, inr, ◌+◌, ◌≤◌, ◌<◌, List, [], ◌∷◌, ◌++◌, Bool, true, false, cond, ◌&&◌, ◌||◌, refl, ap, ◌∙◌, sym, subst, append-nil, arith, eq-eqb, ◌==◌}
use Rattle.std.proofs.lemmas.Bool.Decides.{nat_tests}
use Rattle.std.specs.List.{list_all}
use Rattle.std.specs.Prelude.{nat_le}
use Rattle.swarm_input.specs.Streams.{Stream}
use Rattle.swarm_lines.proofs.Coming.{own_came}
use Rattle.swarm_lines.specs.Came.{Halts, Stays}
use Rattle.swarm_lines.specs.Closing.{AreBack, AreShared, IsClosed, IsDutyOf}
use Rattle.swarm_lines.specs.Fitting.{AreFit, IsFit}
use Rattle.swarm_lines.specs.declared.endings.Ending.{Ending}
use Rattle.swarm_model.proofs.Base.Halting.{halted-call, halted-duty}
use Rattle.swarm_model.proofs.Base.Histories.{IsLegalFrom-append, replay-snoc, room_admitted, room_duty}
use Rattle.swarm_model.specs.History.{IsLegal, may_follow, replay, replay_from, step, step_world}
use Rattle.swarm_model.specs.Own.{Step, own, own_from, step_at}
use Rattle.swarm_model.specs.Script.{is_of_a_caller, is_share, is_shared, own_call, share}
use Rattle.swarm_objects.proofs.RowLemmas.{Has-append_left, Has-filter_cases}
use Rattle.swarm_objects.specs.CallWords.{is_halt}
use Rattle.swarm_objects.specs.Kinds.{role_of, roles}
use Rattle.swarm_objects.specs.Rows.{Has}
use Rattle.swarm_objects.specs.World.{World, empty_world}
use Rattle.swarm_objects.specs.declared.calls.Call.TheVariants.{Halt}
use Rattle.swarm_objects.specs.declared.calls.Call.{Call}
use Rattle.swarm_objects.specs.declared.calls.Entry.{Entry}
use Rattle.swarm_objects.specs.declared.calls.What.TheVariants.{Call as Called, Duty as Done}
use Rattle.swarm_objects.specs.declared.calls.What.{What}
use Rattle.swarm_world.specs.Work.{IsHalted}
use Rattle.turn_cell.specs.Entries.{mine_from, mine_of}

apart : (b : Bool) → b ≡ true → b ≡ false → ⊥
apart b x y = cc

-- Nothing comes behind Halt.

none_behind : (w : World) (what : What) → w.halted ≡ true → may_follow w what ≡ true → ⊥
none_behind w (Called call) halted may = apart w.halted halted (room_admitted w call may).0
none_behind w (Done d) halted may = apart w.halted halted (room_duty w d may).0

is_whole : (H S : List Entry) → IsLegal H → Stays S H → IsHalted S → H ≡ S
is_whole H S legal stays halted = go stays.rest stays.history
  where
    go : (rest : List Entry) → H ≡ S ++ rest → H ≡ S
    go [] e = e ∙ append-nil S
    go (x ∷ rest) e =
        absurd (none_behind (replay S) x.what halted
        (IsLegalFrom-append empty_world S (x ∷ rest) (subst IsLegal e legal)).1.0)

-- Each entry is some caller's.

has_mine : (n k : ℕ) (H : List Entry) (e : Entry) → Has H e → e.by ≡ n →
    (j : ℕ) × Has (mine_from (λ x. x.by) n k H) (j, e)
has_mine n k [] e h is = absurd h
has_mine n k (x ∷ H) e (inl same) is =
    (k, first (x.by == n) (eq-eqb x.by n (ap (λ (y : Entry). y.by) same ∙ is)))
  where
    first : (b : Bool) → b ≡ true →
        Has (cond b ((k, x) ∷ mine_from (λ x. x.by) n (k + 1) H) (mine_from (λ x. x.by) n (k + 1) H)) (k, e)
    first true t = inl (ap (λ (y : Entry). (k, y)) same)
    first false t = cc
has_mine n k (x ∷ H) e (inr h) is = let r = has_mine n (k + 1) H e h is in (r.0, later (x.by == n) r.0 r.1)
  where
    later : (b : Bool) (j : ℕ) → Has (mine_from (λ x. x.by) n (k + 1) H) (j, e) →
        Has (cond b ((k, x) ∷ mine_from (λ x. x.by) n (k + 1) H) (mine_from (λ x. x.by) n (k + 1) H)) (j, e)
    later true j t = inr t
    later false j t = t

has_none : {X : Type 0} (xs : List X) (x : X) → xs ≡ [] → Has xs x → ⊥
has_none [] x is h = h
has_none (y ∷ xs) x is h = cc

is_above : (n : ℕ) → (n == 0) ≡ false → 0 < n
is_above n e = grind (arith, nat_tests)

is_few : (a b : ℕ) (c : Bool) → nat_le a b ≡ c → (b + 1 ≤ a → ⊥) → nat_le a b ≡ true
is_few a b true e h = e
is_few a b false e h = absurd (h (grind (arith, nat_tests)))

pub le_is : (a b : ℕ) → nat_le a b ≡ true → a ≤ b
le_is a b e = grind (arith, nat_tests)

is_caller : (by workers : ℕ) (what : What) → ((by == 0) ≡ false → is_shared by workers what ≡ true) →
    (by == 0 || is_shared by workers what) ≡ true
is_caller by workers what h = go (by == 0) h
  where
    go : (b : Bool) → (b ≡ false → is_shared by workers what ≡ true) → (b || is_shared by workers what) ≡ true
    go true h = refl
    go false h = h refl

is_shared_by : (by workers : ℕ) (e : Entry) → nat_le by workers ≡ true → IsDutyOf (share by workers) e →
    is_shared by workers e.what ≡ true
is_shared_by by workers e few is =
    ap (is_shared by workers) is.1
    ∙ ap (λ (b : Bool). b && is_share by workers (role_of is.0)) few
    ∙ (Has-filter_cases (is_share by workers) roles (role_of is.0) is.2).1

one_caller : (workers : ℕ) (H : List Entry) (e : Entry) → AreShared workers H → Has H e →
    is_of_a_caller workers e ≡ true
one_caller workers H e all h =
    is_caller e.by workers e.what
    (λ other.
    let there = has_mine e.by 1 H e h refl in
    let few = is_few e.by workers (nat_le e.by workers) refl
    (λ more. has_none (mine_of (λ x. x.by) e.by H) (there.0, e) (all.none e.by more) there.1) in
    is_shared_by e.by workers e few
    (all.shares e.by (is_above e.by other) (le_is e.by workers few) (there.0, e) there.1))

each_one : (test : Entry → Bool) (H : List Entry) → ((e : Entry) → Has H e → test e ≡ true) → list_all test H ≡ true
each_one test [] h = refl
each_one test (e ∷ H) h = go (test e) (h e (inl refl)) (each_one test H (λ x k. h x (inr k)))
  where
    go : (b : Bool) → b ≡ true → list_all test H ≡ true → (b && list_all test H) ≡ true
    go true t rest = rest
    go false t rest = absurd cc

all_callers : (workers : ℕ) (H : List Entry) → AreShared workers H → list_all (is_of_a_caller workers) H ≡ true
all_callers workers H all = each_one (is_of_a_caller workers) H (λ e h. one_caller workers H e all h)

-- Where a history has halted, Halt stands in it.

halt_is : (call : Call) (b : Bool) → is_halt call ≡ b → b ≡ true → Called call ≡ Called Halt
halt_is Halt b e t = refl
halt_is _ b e t = cc

halt_step : (w : World) (what : What) → w.halted ≡ false → (step w what).after.halted ≡ true → what ≡ Called Halt
halt_step w (Called call) running h = go (is_halt call) refl
  where
    go : (b : Bool) → is_halt call ≡ b → Called call ≡ Called Halt
    go true e = halt_is call true e refl
    go false e = absurd (apart (step w (Called call)).after.halted h (halted-call w call e ∙ running))
halt_step w (Done d) running h =
    absurd (apart (step w (Done d)).after.halted h (halted-duty w d ∙ running))

halt_stands : (w : World) (H : List Entry) → w.halted ≡ false → (replay_from w H).halted ≡ true →
    (e : Entry) × Has H e × (e.what ≡ Called Halt)
halt_stands w [] running h = absurd (apart w.halted h running)
halt_stands w (e ∷ H) running h = go (step_world w e).halted refl (halt_stands (step_world w e) H)
  where
    go : (b : Bool) → (step_world w e).halted ≡ b →
        ((step_world w e).halted ≡ false → (replay_from (step_world w e) H).halted ≡ true →
        (x : Entry) × Has H x × (x.what ≡ Called Halt)) →
        (x : Entry) × Has (e ∷ H) x × (x.what ≡ Called Halt)
    go true is later = (e, inl refl, halt_step w e.what running is)
    go false is later = let r = later is h in (r.0, inr r.1, r.2)

-- It is caller 0's, which makes none by a line.

-- caller 0's entry is among its steps
pub has_own : (before H : List Entry) (e : Entry) → Has H e → (e.by == 0) ≡ true →
    (s : Step) × Has (own_from 0 before H) s × (s.entry ≡ e)
has_own before [] e h own = absurd h
has_own before (x ∷ H) e (inl same) own =
    (step_at before x, first (x.by == 0) (ap (λ (y : Entry). y.by == 0) same ∙ own), same)
  where
    first : (b : Bool) → b ≡ true →
        Has (cond b (step_at before x ∷ own_from 0 (before ++ x ∷ []) H) (own_from 0 (before ++ x ∷ []) H))
        (step_at before x)
    first true t = inl refl
    first false t = cc
has_own before (x ∷ H) e (inr h) own =
    let r = has_own (before ++ x ∷ []) H e h own in (r.0, later (x.by == 0) r.0 r.1, r.2)
  where
    later : (b : Bool) (s : Step) → Has (own_from 0 (before ++ x ∷ []) H) s →
        Has (cond b (step_at before x ∷ own_from 0 (before ++ x ∷ []) H) (own_from 0 (before ++ x ∷ []) H)) s
    later true s t = inr t
    later false s t = t

halt_own : (workers : ℕ) (e : Entry) → is_of_a_caller workers e ≡ true → e.what ≡ Called Halt → (e.by == 0) ≡ true
halt_own workers e is halt = go (e.by == 0) refl
  where
    go : (b : Bool) → (e.by == 0) ≡ b → (e.by == 0) ≡ true
    go true t = t
    go false t =
        absurd (apart (e.by == 0 || is_shared e.by workers e.what) is
        (ap (λ (w : What). e.by == 0 || is_shared e.by workers w) halt ∙ ap (λ (b : Bool). b || false) t))

not_halt : (what : What) → IsFit what → what ≡ Called Halt → ⊥
not_halt what fit halt = apart (is_halt Halt) refl (subst IsFit halt fit).runs

never_halted : (workers : ℕ) (S H : List Entry) → AreShared workers H → Stays S H → AreFit (own 0 S) → IsHalted S → ⊥
never_halted workers S H shared stays fit halted =
    let there = halt_stands empty_world S refl halted in
    let in_H : Has H there.0 =
    subst (λ (l : List Entry). Has l there.0) (sym stays.history) (Has-append_left S stays.rest there.0 there.1) in
    let mine = halt_own workers there.0 (one_caller workers H there.0 shared in_H) there.2 in
    let step = has_own [] S there.0 there.1 mine in
    not_halt step.0.entry.what (fit step.0 step.1) (ap (λ (e : Entry). e.what) step.2 ∙ there.2)

-- Closed.

halted_by : (before last : List Entry) → last ≡ before ++ own_call Halt ∷ [] → IsHalted last
halted_by before last is =
    ap (λ (h : List Entry). (replay h).halted) is
    ∙ ap (λ (w : World). w.halted) (replay-snoc empty_world before (own_call Halt))

closed_by : (workers : ℕ) (ending : Ending) (script out : Stream) (H : List Entry) (b : AreBack workers ending script out H) →
    IsLegal H → Halts b.now b.last → IsClosed workers ending script out H
closed_by workers ending script out H b legal (inl one) = record {
  now = b.now;
  read = b.read;
  start = one.before;
  stays = one.others;
  ends = is_whole H b.last legal b.stays (halted_by one.before b.last one.history) ∙ one.history;
  callers = all_callers workers H b.shared;
}
closed_by workers ending script out H b legal (inr h) =
    absurd (never_halted workers b.last H b.shared b.stays
    (subst AreFit (sym (own_came b.now b.last [] h.0 ∙ append-nil (own 0 b.now))) b.read.fit) h.1)

pub closed : (workers : ℕ) (ending : Ending) (script out : Stream) (H : List Entry) → AreBack workers ending script out H →
    IsLegal H → IsClosed workers ending script out H
closed workers ending script out H b legal = closed_by workers ending script out H b legal b.halts

-- Caller 0's turns and calls in a history, and what others appended between them.
use Rattle.std.proofs.Common.{◌≡◌, ℕ, ◌+◌, List, [], ◌∷◌, ◌++◌, length, Bool, true, false, cond, ◌==◌, ◌&&◌, inl, inr, refl, sym, ◌∙◌, ap, subst, append_assoc, append-nil, arith}
use Rattle.std.specs.List.{list_all}
use Rattle.std.proofs.lemmas.List.Folds.{list_all-append}
use Rattle.std.proofs.lemmas.List.Sums.{sum_by-append}
use Rattle.swarm_model.proofs.Base.Histories.{IsLegalFrom-append}
use Rattle.swarm_model.proofs.Following.Alone.{both, joined}
use Rattle.swarm_model.proofs.Following.Idle.{AreOfCallers, callers_append, idle_until, other_duty, unchosen}
use Rattle.swarm_model.proofs.Following.Named.{count-cons}
use Rattle.swarm_model.specs.Follows.{AreDuties}
use Rattle.swarm_model.specs.History.{IsLegal, replay}
use Rattle.swarm_model.specs.Kept.{AreTurns, SeesIdle}
use Rattle.swarm_model.specs.Own.{Step, own, own_from, step_at}
use Rattle.swarm_model.specs.Script.{is_busy, is_duty_entry, is_of_a_caller, is_own_duty, own_duties}
use Rattle.swarm_objects.specs.World.{empty_world}
use Rattle.swarm_objects.specs.declared.calls.Entry.{Entry}

-- Caller 0's next entry, and what others appended before it.

pub record Next (before es : List Entry) (s : Step) (rest : List Step) : Type 0 where
  pub gap : List Entry
  pub more : List Entry
  pub es_is : es ≡ gap ++ s.entry ∷ more
  pub before_is : s.before ≡ before ++ gap
  pub none : own_from 0 before gap ≡ []
  pub own : (s.entry.by == 0) ≡ true
  pub rest_is : own_from 0 (s.before ++ s.entry ∷ []) more ≡ rest

pub next_here : (before : List Entry) (x : Entry) (es : List Entry) (s : Step) (rest : List Step) → step_at before x ≡ s →
    own_from 0 (before ++ x ∷ []) es ≡ rest → (x.by == 0) ≡ true → Next before (x ∷ es) s rest
next_here before x es s rest is others own =
    subst (λ (t : Step). Next before (x ∷ es) t rest) is
    (record {
      gap = [];
      more = es;
      es_is = refl;
      before_is = sym (append-nil before);
      none = refl;
      own = own;
      rest_is = others;
    })

pub next_later : (before : List Entry) (x : Entry) (es : List Entry) (s : Step) (rest : List Step) → (x.by == 0) ≡ false →
    Next (before ++ x ∷ []) es s rest → Next before (x ∷ es) s rest
next_later before x es s rest other n = record {
  gap = x ∷ n.gap;
  more = n.more;
  es_is = ap (λ (l : List Entry). x ∷ l) n.es_is;
  before_is = n.before_is ∙ append_assoc before (x ∷ []) n.gap;
  none =
      ap (λ (b : Bool). cond b (step_at before x ∷ own_from 0 (before ++ x ∷ []) n.gap)
      (own_from 0 (before ++ x ∷ []) n.gap)) other
      ∙ n.none;
  own = n.own;
  rest_is = n.rest_is;
}

pub head_is : (s t : Step) (xs ys : List Step) → s ∷ xs ≡ t ∷ ys → s ≡ t
head_is s t xs ys e = cc

pub tail_is : (s t : Step) (xs ys : List Step) → s ∷ xs ≡ t ∷ ys → xs ≡ ys
tail_is s t xs ys e = cc

pub no_step : (s : Step) (rest : List Step) → [] ≡ s ∷ rest → ⊥
no_step s rest e = cc

pub next_own : (before es : List Entry) (s : Step) (rest : List Step) → own_from 0 before es ≡ s ∷ rest →
    Next before es s rest
next_own before [] s rest e = absurd (no_step s rest e)
next_own before (x ∷ es) s rest e = go (x.by == 0) refl e (next_own (before ++ x ∷ []) es s rest)
  where
    go : (b : Bool) → (x.by == 0) ≡ b →
        cond b (step_at before x ∷ own_from 0 (before ++ x ∷ []) es) (own_from 0 (before ++ x ∷ []) es) ≡ s ∷ rest →
        (own_from 0 (before ++ x ∷ []) es ≡ s ∷ rest → Next (before ++ x ∷ []) es s rest) → Next before (x ∷ es) s rest
    go true is h later =
        next_here before x es s rest (head_is (step_at before x) s (own_from 0 (before ++ x ∷ []) es) rest h)
        (tail_is (step_at before x) s (own_from 0 (before ++ x ∷ []) es) rest h) is
    go false is h later = next_later before x es s rest is (later h)

-- Duties.

pub duties_join : (es fs : List Entry) → AreDuties es → AreDuties fs → AreDuties (es ++ fs)
duties_join es fs first rest =
    list_all-append (λ (e : Entry). is_duty_entry e.what) es fs
    ∙ joined (list_all (λ (e : Entry). is_duty_entry e.what) es)
    (list_all (λ (e : Entry). is_duty_entry e.what) fs) first rest

pub count_join : (es fs : List Entry) → own_duties (es ++ fs) ≡ own_duties es + own_duties fs
count_join es fs = sum_by-append (λ (e : Entry). cond (is_own_duty e) 1 0) es fs

-- what others append are duties, and none of caller 0
pub record AreOfOthers (es : List Entry) : Type 0 where
  pub are_duties : AreDuties es
  pub none : own_duties es ≡ 0

pub gap_duties : (workers : ℕ) (before gap : List Entry) → own_from 0 before gap ≡ [] → AreOfCallers workers gap →
    AreOfOthers gap
gap_duties workers before [] none callers = record { are_duties = refl; none = refl }
gap_duties workers before (e ∷ gap) none callers =
    let first = unchosen (e.by == 0) (step_at before e) (own_from 0 (before ++ e ∷ []) gap) none in
    let parts = both (is_of_a_caller workers e) (list_all (is_of_a_caller workers) gap) callers in
    let rest = gap_duties workers (before ++ e ∷ []) gap first.1 parts.1 in
    let not_own : cond (is_own_duty e) 1 0 ≡ 0 = ap {B = ℕ}
    (λ (b : Bool). cond (b && is_duty_entry e.what) 1 0) first.0 in
    record {
      are_duties = joined (is_duty_entry e.what) (list_all (λ (x : Entry). is_duty_entry x.what) gap)
          (other_duty workers e parts.0 first.0) rest.are_duties;
      none = omega (arith, count-cons e gap, not_own, rest.none);
    }

-- Turns, and what others did between them.

pub record Turned (before es : List Entry) (turns rest : List Step) : Type 0 where
  pub took : List Entry
  pub more : List Entry
  pub es_is : es ≡ took ++ more
  pub are_duties : AreDuties took
  pub count : own_duties took ≡ length turns
  pub rest_is : own_from 0 (before ++ took) more ≡ rest

pub history_of : (before gap now : List Entry) (x : Entry) (es : List Entry) → now ≡ before ++ gap →
    before ++ (gap ++ x ∷ es) ≡ (now ++ x ∷ []) ++ es
history_of before gap now x es is =
    sym (append_assoc before gap (x ∷ es))
    ∙ ap (λ (l : List Entry). l ++ x ∷ es) (sym is)
    ∙ sym (append_assoc now (x ∷ []) es)

pub callers_of : (workers : ℕ) (es first rest : List Entry) → es ≡ first ++ rest → AreOfCallers workers es →
    AreOfCallers workers first × AreOfCallers workers rest
callers_of workers es first rest is callers = callers_append workers first rest
    (subst (AreOfCallers workers) is callers)

pub turned : (workers : ℕ) (turns rest : List Step) (before es : List Entry) → AreOfCallers workers es → AreTurns turns →
    own_from 0 before es ≡ turns ++ rest → Turned before es turns rest
turned workers [] rest before es callers are e = record {
  took = [];
  more = es;
  es_is = refl;
  are_duties = refl;
  count = refl;
  rest_is = ap (λ (l : List Entry). own_from 0 l es) (append-nil before) ∙ e;
}
turned workers (s ∷ turns) rest before es callers are e =
    let n = next_own before es s (turns ++ rest) e in
    let turn = are s (inl refl) in
    let parts = callers_of workers es n.gap (s.entry ∷ n.more) n.es_is callers in
    let others = gap_duties workers before n.gap n.none parts.0 in
    let t = turned workers turns rest (s.before ++ s.entry ∷ []) n.more
    (callers_append workers (s.entry ∷ []) n.more parts.1).1
    (λ z h. are z (inr h)) n.rest_is in
    let one : cond (is_own_duty s.entry) 1 0 ≡ 1 = ap {B = ℕ} (λ (x : Entry). cond (is_own_duty x) 1 0) turn.entry in
    record {
      took = n.gap ++ s.entry ∷ t.took;
      more = t.more;
      es_is =
          n.es_is ∙ ap (λ (l : List Entry). n.gap ++ s.entry ∷ l) t.es_is
          ∙ sym (append_assoc n.gap (s.entry ∷ t.took) t.more);
      are_duties = duties_join n.gap (s.entry ∷ t.took) others.are_duties
          (ap (λ (x : Entry). is_duty_entry x.what && list_all (λ (y : Entry). is_duty_entry y.what) t.took) turn.entry
          ∙ t.are_duties);
      count = omega (arith, count_join n.gap (s.entry ∷ t.took), count-cons s.entry t.took, one, others.none, t.count);
      rest_is =
          ap (λ (l : List Entry). own_from 0 l t.more) (history_of before n.gap s.before s.entry t.took n.before_is)
          ∙ t.rest_is;
    }

-- turns alone
pub turned_all : (workers : ℕ) (turns : List Step) (before es : List Entry) → AreOfCallers workers es → AreTurns turns →
    own_from 0 before es ≡ turns → AreDuties es × (own_duties es ≡ length turns)
turned_all workers turns before es callers are e =
    let t = turned workers turns [] before es callers are (e ∙ sym (append-nil turns)) in
    let parts = callers_of workers es t.took t.more t.es_is callers in
    let others = gap_duties workers (before ++ t.took) t.more t.rest_is parts.1 in (
      ap (list_all (λ (x : Entry). is_duty_entry x.what)) t.es_is
          ∙ duties_join t.took t.more t.are_duties others.are_duties,
      omega (arith, ap {B = ℕ} own_duties t.es_is, count_join t.took t.more, t.count, others.none),
    )

-- A history that is legal, and has no callers but these.

pub record IsWhole (workers : ℕ) (h : List Entry) : Type 0 where
  pub legal : IsLegal h
  pub callers : AreOfCallers workers h

pub whole_first : (workers : ℕ) (h before rest : List Entry) → h ≡ before ++ rest → IsWhole workers h →
    IsWhole workers before
whole_first workers h before rest is whole = record {
  legal = (IsLegalFrom-append empty_world before rest (subst IsLegal is whole.legal)).0;
  callers = (callers_of workers h before rest is whole.callers).0;
}

-- nothing is to be done at a beginning of it
pub idle_at : (workers : ℕ) (h before rest : List Entry) → h ≡ before ++ rest → IsWhole workers h → SeesIdle before →
    is_busy (replay before) ≡ false
idle_at workers h before rest is whole sees =
    let first = whole_first workers h before rest is whole in
    idle_until workers before first.legal first.callers sees

-- The entry after some turns.

pub record Called (before es : List Entry) (turns rest : List Step) (s : Step) : Type 0 where
  pub took : List Entry
  pub more : List Entry
  pub es_is : es ≡ (took ++ s.entry ∷ []) ++ more
  pub are_duties : AreDuties took
  pub count : own_duties took ≡ length turns
  pub before_is : s.before ≡ before ++ took
  pub rest_is : own_from 0 (before ++ (took ++ s.entry ∷ [])) more ≡ rest

pub called : (workers : ℕ) (turns rest : List Step) (s : Step) (before es : List Entry) → AreOfCallers workers es →
    AreTurns turns → own_from 0 before es ≡ turns ++ s ∷ rest → Called before es turns rest s
called workers turns rest s before es callers are e =
    let t = turned workers turns (s ∷ rest) before es callers are e in
    let n = next_own (before ++ t.took) t.more s rest t.rest_is in
    let parts = callers_of workers t.more n.gap (s.entry ∷ n.more) n.es_is
    (callers_of workers es t.took t.more t.es_is callers).1 in
    let others = gap_duties workers (before ++ t.took) n.gap n.none parts.0 in
    let at : s.before ≡ before ++ (t.took ++ n.gap) = n.before_is ∙ append_assoc before t.took n.gap in
    record {
      took = t.took ++ n.gap;
      more = n.more;
      es_is =
          t.es_is ∙ ap (λ (l : List Entry). t.took ++ l) n.es_is
          ∙ sym (append_assoc t.took n.gap (s.entry ∷ n.more))
          ∙ sym (append_assoc (t.took ++ n.gap) (s.entry ∷ []) n.more);
      are_duties = duties_join t.took n.gap t.are_duties others.are_duties;
      count = omega (arith, count_join t.took n.gap, t.count, others.none);
      before_is = at;
      rest_is =
          ap (λ (l : List Entry). own_from 0 l n.more)
          (sym (append_assoc before (t.took ++ n.gap) (s.entry ∷ []))
          ∙ ap (λ (l : List Entry). l ++ s.entry ∷ []) (sym at))
          ∙ n.rest_is;
    }

-- Caller 0's calls and turns.
use Rattle.std.proofs.Common.{◌≡◌, ℕ, inl, inr, List, [], ◌∷◌, ◌++◌, Bool, true, false, ◌==◌, refl, ap, ◌∙◌, sym, subst, None, Some}
use Rattle.std.specs.Prelude.{is_some}
use Rattle.swarm_cluster.specs.Looks.{Steps}
use Rattle.swarm_cluster.specs.declared.works.Advance.TheVariants.{Idle, Turned}
use Rattle.swarm_cluster.specs.declared.works.Look.{Look}
use Rattle.swarm_lines.proofs.Coming.{Finds, came_none, came_one, found}
use Rattle.swarm_lines.specs.Came.{Advanced, Answered, Appended, Halts, IsIdle, Stays, StaysBusy, StaysBy}
use Rattle.swarm_lines.specs.declared.unanswered.Unanswered.{Unanswered}
use Rattle.swarm_lines.specs.declared.unanswered.Unanswered.TheVariants.{Full, NoMemory}
use Rattle.swarm_model.proofs.ReplyLaws.{call_is_entry}
use Rattle.swarm_model.specs.History.{replay, step_reply}
use Rattle.swarm_model.proofs.Following.First.{first_of_named}
use Rattle.swarm_model.specs.Script.{is_busy, own_call, own_duty}
use Rattle.swarm_model.specs.Settle.{settle_answer}
use Rattle.swarm_objects.specs.Duties.{duties}
use Rattle.swarm_objects.specs.Kinds.{duty_named, role_of}
use Rattle.swarm_objects.specs.Rows.{first_of}
use Rattle.swarm_objects.specs.CallWords.{is_entry}
use Rattle.swarm_objects.specs.declared.calls.Call.{Call}
use Rattle.swarm_objects.specs.declared.calls.Call.TheVariants.{Halt}
use Rattle.swarm_objects.specs.declared.calls.Entry.{Entry}
use Rattle.swarm_objects.specs.declared.duties.Duty.{Duty}
use Rattle.swarm_objects.specs.declared.replies.Refusal.TheVariants.{Full as FullRefusal}
use Rattle.swarm_objects.specs.declared.replies.Reply.{Reply}
use Rattle.swarm_objects.specs.declared.replies.Reply.TheVariants.{Refused}
use Rattle.swarm_world.specs.Work.{Calls, IsFull, IsHalted, IsUnanswered, call_by, duty_by}
use Rattle.swarm_world.specs.declared.turns.Turn.TheVariants.{Did, Idle as TurnIdle, Halted as TurnHalted, Full as TurnFull, NoMemory as TurnNoMemory}
use Rattle.turn_cell.specs.Entries.{StartsWith, mine_of}

apart : (b : Bool) → b ≡ true → b ≡ false → ⊥
apart b x y = cc

-- nothing came behind what was found
unmoved : (n : ℕ) (old before new : List Entry) → Finds n old before → new ≡ before → Stays old new
unmoved n old before new f same = subst (Stays old) (sym same) (found n old before f)

-- A call.

one : (n : ℕ) (old before new : List Entry) (e : Entry) → Finds n old before → (e.by == 0) ≡ true →
    new ≡ before ++ e ∷ [] → Appended old new e
one n old before new e f by is = record {
  before = before;
  others = found n old before f;
  history = is;
  came = came_one old before new e (found n old before f) by is;
}

pub answered : (n : ℕ) (old before new : List Entry) (call : Call) (reply : Reply) → Finds n old before →
    Calls n call before new reply → is_entry reply ≡ true → Answered old new call reply
unfolding one
answered n old before new call reply f (inl h) entry = record {
  one = one n old before new (own_call call) f refl (h.0 ∙ ap (λ (m : ℕ). before ++ call_by m call ∷ []) f.0);
  reply_is = h.1 ∙ ap (λ (m : ℕ). step_reply (replay before) (call_by m call)) f.0;
}
answered n old before new call reply f (inr h) entry = absurd (never h.1)
  where
    never : IsUnanswered call before reply → ⊥
    never (inl k) = apart (is_entry reply) entry (ap is_entry k.0)
    never (inr (inl k)) = apart (is_entry reply) entry (ap is_entry k.0)
    never (inr (inr k)) = apart (is_entry reply) entry (ap is_entry k.0)

is_full : (cause : Unanswered) (call : Call) (before : List Entry) (reply : Reply) →
    (cause ≡ Full → (k : ℕ) × (reply ≡ Refused (FullRefusal k))) → cause ≡ Full → IsUnanswered call before reply →
    IsFull before
is_full cause call before reply says is (inl k) = absurd (let s = (says is).1 in let t = k.0 in cc)
is_full cause call before reply says is (inr (inl k)) = k.1
is_full cause call before reply says is (inr (inr k)) = absurd (let s = (says is).1 in let t = k.0 in cc)

stays_by : (cause : Unanswered) (old new : List Entry) → Stays old new → (cause ≡ Full → IsFull new) →
    StaysBy cause old new
stays_by Full old new same full = (same, full refl)
stays_by NoMemory old new same full = same

pub unanswered : (n : ℕ) (old before new : List Entry) (call : Call) (reply : Reply) (cause : Unanswered) →
    Finds n old before → Calls n call before new reply → is_entry reply ≡ false →
    (cause ≡ Full → (k : ℕ) × (reply ≡ Refused (FullRefusal k))) → StaysBy cause old new
unanswered n old before new call reply cause f (inl h) none says =
    absurd (apart (is_entry reply) (ap is_entry h.1 ∙ call_is_entry (replay before) call) none)
unanswered n old before new call reply cause f (inr h) none says =
    stays_by cause old new (unmoved n old before new f h.0)
    (λ is. subst IsFull (sym h.0) (is_full cause call before reply says is h.1))

halted : (before : List Entry) (reply : Reply) → IsUnanswered Halt before reply → IsHalted before
halted before reply (inl k) = k.1
halted before reply (inr (inl k)) = absurd (let s = k.2 in cc)
halted before reply (inr (inr k)) = absurd (let s = k.2 in cc)

pub halts : (n : ℕ) (old before new : List Entry) (reply : Reply) → Finds n old before →
    Calls n Halt before new reply → Halts old new
halts n old before new reply f (inl h) =
    inl (one n old before new (own_call Halt) f refl (h.0 ∙ ap (λ (m : ℕ). before ++ call_by m Halt ∷ []) f.0))
halts n old before new reply f (inr h) =
    inr (unmoved n old before new f h.0, subst IsHalted (sym h.0) (halted before reply h.1))

-- A step of a stretch.

pub advanced : (n : ℕ) (old before new : List Entry) (duty : Duty) → Finds n old before →
    Steps n before new (Turned (Did duty)) → Advanced old new
advanced n old before new duty f h =
    let is : new ≡ before ++ own_duty duty ∷ [] =
    h.2.0 ∙ ap (λ (m : ℕ). before ++ duty_by m duty ∷ []) f.0 in
    record {
      looked = before;
      others = found n old before f;
      named = h.0;
      busy = h.1;
      turned = record {
        duty = duty;
        one = record {
          before = before;
          others = came_none before;
          history = is;
          came = came_one before before new (own_duty duty) (came_none before) refl is;
        };
        first = h.2.1;
      };
    }

pub rested : (n : ℕ) (old before new : List Entry) (look : Look) → Finds n old before →
    Steps n before new (Idle look) → IsIdle look old new
rested n old before new look f h = record {
  others = unmoved n old before new f h.0.0;
  shows = h.1;
  none = subst (λ (l : List Entry). duty_named (settle_answer (replay l)) ≡ None) (sym h.0.0) h.0.1;
}

pub full_step : (n k : ℕ) (old before new : List Entry) → Finds n old before →
    Steps n before new (Turned (TurnFull k)) → StaysBusy Full old new
full_step n k old before new f h = (
  unmoved n old before new f h.2.0,
  subst IsFull (sym h.2.0) h.2.1,
  subst (λ (l : List Entry). is_busy (replay l) ≡ true) (sym h.2.0) (ap is_some h.1),
)

pub halted_step : (n : ℕ) (old before new : List Entry) → Finds n old before →
    Steps n before new (Turned TurnHalted) → Stays old new
halted_step n old before new f h = unmoved n old before new f h.2.0

pub unmade_step : (n : ℕ) (old before new : List Entry) → Finds n old before →
    Steps n before new (Turned TurnNoMemory) → Stays old new
unmade_step n old before new f h = unmoved n old before new f h.2.0

-- the loop of a duty that is named has one
pub never_idle : (n : ℕ) (before new : List Entry) → Steps n before new (Turned TurnIdle) → ⊥
never_idle n before new h =
    let first : first_of (duties (role_of h.0) (replay before)) ≡ Some h.0 = first_of_named (replay before) h.0 h.1 in
    let none : first_of (duties (role_of h.0) (replay before)) ≡ None = ap first_of h.2.2 in
    apart_none h.0 (sym none ∙ first)
  where
    apart_none : (d : Duty) → None ≡ Some d → ⊥
    apart_none d e = cc

-- a look
pub looked : (n m : ℕ) (old new : List Entry) → n ≡ 0 → StartsWith new old →
    mine_of (λ e. e.by) m new ≡ mine_of (λ e. e.by) n old → m ≡ n → Stays old new
looked n m old new is starts same names =
    found n old new
    (is, starts, subst (λ (k : ℕ). mine_of (λ e. e.by) k new ≡ mine_of (λ e. e.by) n old) names same)

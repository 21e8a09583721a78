-- After a session's messages in order an agent has what is due.
use Rattle.std.proofs.Common.{Bool, List, None, Option, Some, [], ap, arith, cond, eqb, false, inl, inr, not, refl, subst, sym, true, ℕ, ◌++◌, ◌∙◌, ◌∷◌, ◌≡◌}
use Rattle.std.proofs.lemmas.Bool.Decides.{nat_tests}
use Rattle.std.specs.List.{list_any}
use Rattle.std.specs.Option.{option_map}
use Rattle.std.specs.Prelude.{filter, is_some, ◌||◌, ⊤}
use Rattle.swarm_objects.specs.Agents.Messages.{is_stale}
use Rattle.swarm_agent.specs.Hearing.{AreRising, HasDue, Hears, HearingLaw, are_fresh, hear, is_due_once, is_never_due, may_be_due, messages_of, never_returns, sent_after}
use Rattle.swarm_objects.proofs.Hearing.{keys-has, message-tells, rows-left, update-row}
use Rattle.swarm_objects.proofs.Aims.{same-aim}
use Rattle.swarm_objects.specs.Agents.Hearing.{aimed_or_new, executor_after, is_sent_so, may_have}
use Rattle.swarm_objects.proofs.Empty.{flat_map_empty}
use Rattle.swarm_objects.proofs.RowLemmas.{Has-from_row_at, number_above, row_at-Some}
use Rattle.swarm_objects.proofs.Tests.{any-has, both, false_from_ne_true, never-both, or_left, or_right}
use Rattle.swarm_objects.specs.Agents.Messages.{applied, assigned_task, change_of, changes_of, complete_message, difference_message, gone_executor, is_sent, message_with, next_message, same_assigned, tasks_of_either, update_of}
use Rattle.swarm_objects.specs.Loops.Agents.{begun}
use Rattle.swarm_objects.specs.Rows.{Has, IsRising, executor_task, has_row, on_row, row_at}
use Rattle.swarm_objects.specs.declared.agents.Executor.{Executor}
use Rattle.swarm_objects.specs.declared.agents.NodeAgent.{NodeAgent}
use Rattle.swarm_objects.specs.declared.messages.AssignChange.{AssignChange}
use Rattle.swarm_objects.specs.declared.messages.AssignChange.TheVariants as assign
use Rattle.swarm_objects.specs.declared.messages.Assigned.{Assigned}
use Rattle.swarm_objects.specs.declared.messages.Message.{Message}
use Rattle.swarm_objects.specs.declared.messages.NodeSent.{NodeSent}

abbrev Dues : Type 0
Dues = List (List Assigned)

-- Tasks that are due once.

neither : (a b : Bool) → not (a || b) ≡ true → (a ≡ false) × (not b ≡ true)
neither true b e = absurd cc
neither false b e = (refl, e)

never-head : (x : ℕ) (due : List Assigned) (dues : Dues) → is_never_due x (due ∷ dues) ≡ true →
    has_row assigned_task x due ≡ false
never-head x due dues e = (neither (has_row assigned_task x due) (list_any (has_row assigned_task x) dues) e).0

never-tail : (x : ℕ) (due : List Assigned) (dues : Dues) → is_never_due x (due ∷ dues) ≡ true →
    is_never_due x dues ≡ true
never-tail x due dues e = (neither (has_row assigned_task x due) (list_any (has_row assigned_task x) dues) e).1

returns-out : (x : ℕ) (due : List Assigned) (dues : Dues) → never_returns x (due ∷ dues) ≡ true →
    has_row assigned_task x due ≡ false → is_never_due x dues ≡ true
returns-out x due dues e out = sym (ap (λ (b : Bool). cond b (never_returns x dues) (is_never_due x dues)) out) ∙ e

once-in : (x : ℕ) (due : List Assigned) (dues : Dues) → is_due_once x (due ∷ dues) ≡ true →
    has_row assigned_task x due ≡ true → never_returns x dues ≡ true
once-in x due dues e there = sym (ap (λ (b : Bool). cond b (never_returns x dues) (is_due_once x dues)) there) ∙ e

never-once : (x : ℕ) (dues : Dues) → is_never_due x dues ≡ true → is_due_once x dues ≡ true
never-once x [] e = refl
never-once x (due ∷ dues) e =
    ap (λ (b : Bool). cond b (never_returns x dues) (is_due_once x dues)) (never-head x due dues e)
    ∙ never-once x dues (never-tail x due dues e)

returns-once : (x : ℕ) (dues : Dues) → never_returns x dues ≡ true → is_due_once x dues ≡ true
returns-once x [] e = refl
returns-once x (due ∷ dues) e = go (has_row assigned_task x due) e
  where
    go : (b : Bool) → cond b (never_returns x dues) (is_never_due x dues) ≡ true →
        cond b (never_returns x dues) (is_due_once x dues) ≡ true
    go true e = e
    go false e = never-once x dues e

once-tail : (x : ℕ) (due : List Assigned) (dues : Dues) → is_due_once x (due ∷ dues) ≡ true →
    is_due_once x dues ≡ true
once-tail x due dues e = go (has_row assigned_task x due) e
  where
    go : (b : Bool) → cond b (never_returns x dues) (is_due_once x dues) ≡ true → is_due_once x dues ≡ true
    go true e = returns-once x dues e
    go false e = e

-- Rows.

found : (due : List Assigned) (a : Assigned) → IsRising assigned_task due → Has due a →
    row_at assigned_task a.task due ≡ Some a
found [] a r h = absurd h
found (y ∷ due) a r (inl same) =
    let is : eqb y.task a.task ≡ true = (let e = ap assigned_task same in grind (arith, nat_tests, e)) in
    ap (λ (b : Bool). cond b (Some y) (row_at assigned_task a.task due)) is ∙ ap (λ (z : Assigned). Some z) same
found (y ∷ due) a r (inr h) =
    let above = number_above assigned_task y.task due a r h in
    let is : eqb y.task a.task ≡ false = grind (arith, nat_tests, above) in
    ap (λ (b : Bool). cond b (Some y) (row_at assigned_task a.task due)) is
    ∙ row_at-Some assigned_task y.task due a r h

there : {X : Type 0} (o : Option X) (x : X) → o ≡ Some x → is_some o ≡ true
there o x e = ap is_some e

nothing : {X : Type 0} (o : Option X) → is_some o ≡ false → o ≡ None
nothing None e = refl
nothing (Some x) e = absurd cc

something : {X : Type 0} (o : Option X) → is_some o ≡ true → (x : X) × (o ≡ Some x)
something None e = absurd cc
something (Some x) e = (x, refl)

one : {X : Type 0} (o : Option X) (x y : X) → o ≡ Some x → o ≡ Some y → x ≡ y
one o x y e f = let both-are : Some x ≡ Some y = sym e ∙ f in cc

-- What holds from message to message.

abbrev AreReady : Dues → List Executor → Type 0
AreReady dues es = (x : ℕ) (e : Executor) → row_at executor_task x es ≡ Some e → may_be_due e dues ≡ true

abbrev AreOnce : Dues → Type 0
AreOnce dues = (x : ℕ) → is_due_once x dues ≡ true

abbrev HasSent : Option NodeSent → List Executor → Type 0
HasSent None es = ⊤
HasSent (Some s) es = HasDue s.tasks es

abbrev IsAt : Option NodeSent → ℕ → Type 0
IsAt None count = ⊤
IsAt (Some s) count = count ≡ s.count

-- each executor of a task that isn't due was there before
abbrev WasThere : List Assigned → List Executor → List Executor → Type 0
WasThere due es after =
    (x : ℕ) (e : Executor) → has_row assigned_task x due ≡ false → row_at executor_task x after ≡ Some e →
    (f : Executor) × (row_at executor_task x es ≡ Some f)

gone-never : (e : Executor) (x : ℕ) (dues : Dues) → e.task ≡ x → may_be_due e dues ≡ true → e.gone ≡ true →
    is_never_due x dues ≡ true
gone-never e x dues same ready gone =
    subst (λ (k : ℕ). is_never_due k dues ≡ true) same
    (sym (ap (λ (b : Bool). cond b (is_never_due e.task dues) (never_returns e.task dues)) gone) ∙ ready)

kept-returns : (e : Executor) (x : ℕ) (dues : Dues) → e.task ≡ x → may_be_due e dues ≡ true → e.gone ≡ false →
    never_returns x dues ≡ true
kept-returns e x dues same ready kept =
    subst (λ (k : ℕ). never_returns k dues ≡ true) same
    (sym (ap (λ (b : Bool). cond b (is_never_due e.task dues) (never_returns e.task dues)) kept) ∙ ready)

ready-next : (due : List Assigned) (dues : Dues) (es after : List Executor) → AreReady (due ∷ dues) es →
    AreOnce (due ∷ dues) → HasDue due after → WasThere due es after → AreReady dues after
ready-next due dues es after ready once has was x e at = go (has_row assigned_task x due) refl
  where
    own : e.task ≡ x
    own = (Has-from_row_at executor_task x after e at).1

    cases : (f : Executor) → row_at executor_task x es ≡ Some f → (c : Bool) → f.gone ≡ c →
        has_row assigned_task x due ≡ false → is_never_due x dues ≡ true
    cases f row true gone off =
        let task = (Has-from_row_at executor_task x es f row).1 in
        never-tail x due dues (gone-never f x (due ∷ dues) task (ready x f row) gone)
    cases f row false kept off =
        let task = (Has-from_row_at executor_task x es f row).1 in
        returns-out x due dues (kept-returns f x (due ∷ dues) task (ready x f row) kept) off

    out : has_row assigned_task x due ≡ false → is_never_due x dues ≡ true
    out off = let f = was x e off at in cases f.0 f.1 f.0.gone refl off

    go : (b : Bool) → has_row assigned_task x due ≡ b → may_be_due e dues ≡ true
    go true on =
        let row = something (row_at assigned_task x due) on in
        let from = Has-from_row_at assigned_task x due row.0 row.1 in
        let f = has.items row.0 from.0 in
        let same : f.0 ≡ e =
        one (row_at executor_task x after) f.0 e
        (subst (λ (k : ℕ). row_at executor_task k after ≡ Some f.0) from.1 f.1) at in
        let kept : e.gone ≡ false = subst (λ (z : Executor). z.gone ≡ false) same f.3 in
        ap (λ (b : Bool). cond b (is_never_due e.task dues) (never_returns e.task dues)) kept
        ∙ subst (λ (k : ℕ). never_returns k dues ≡ true) (sym own) (once-in x due dues (once x) on)
    go false off =
        ap (λ (b : Bool). cond b (is_never_due e.task dues) (never_returns e.task dues)) (has.others x e at off)
        ∙ subst (λ (k : ℕ). is_never_due k dues ≡ true) (sym own) (out off)

-- A message.

module _ (clock : ℕ) (sent : Option NodeSent) (due : List Assigned) (m : Message) (es : List Executor)
    (rises : IsRising assigned_task due) (next : next_message sent due ≡ Some m) where
  tells : (x : ℕ) (o : Option Assigned) → row_at assigned_task x due ≡ o →
      row_at executor_task x (applied clock m es) ≡ executor_after clock sent o x (row_at executor_task x es)
  tells x o at =
      message-tells clock sent due m es x rises next
      ∙ ap (λ (p : Option Assigned). executor_after clock sent p x (row_at executor_task x es)) at

  was-there : WasThere due es (applied clock m es)
  was-there x e off at =
      go (may_have sent x) (row_at executor_task x es)
      (sym (tells x None (nothing (row_at assigned_task x due) off)) ∙ at)
    where
      go : (b : Bool) (o : Option Executor) → cond b (option_map gone_executor o) o ≡ Some e →
          (f : Executor) × (o ≡ Some f)
      go true None q = absurd cc
      go true (Some f) q = (f, refl)
      go false None q = absurd cc
      go false (Some f) q = (f, refl)

  had : (s : Option NodeSent) → HasSent s es → (x : ℕ) (e : Executor) → (b : Bool) → may_have s x ≡ b →
      cond b (option_map gone_executor (row_at executor_task x es)) (row_at executor_task x es) ≡ Some e → e.gone ≡ true
  had s has x e true may q = go (row_at executor_task x es) q
    where
      go : (o : Option Executor) → option_map gone_executor o ≡ Some e → e.gone ≡ true
      go None q = absurd cc
      go (Some f) q = let is : gone_executor f ≡ e = cc in sym (ap (λ (z : Executor). z.gone) is)
  had None has x e false may q = absurd (let wrong : true ≡ false = may in cc)
  had (Some s) has x e false may q = has.others x e q may

  sent-so : (s : Option NodeSent) → HasSent s es → (a : Assigned) → is_sent_so s a ≡ true →
      (e : Executor) × (row_at executor_task a.task es ≡ Some e) × (e.desired ≡ a.desired) × (e.gone ≡ false)
  sent-so None has a q = absurd (let wrong : false ≡ true = q in cc)
  sent-so (Some s) has a q =
      let from = any-has (same_assigned a) s.tasks q in
      let same = same-aim a from.0 from.2 in
      let f = has.items from.0 from.1 in
      (f.0, subst (λ (k : ℕ). row_at executor_task k es ≡ Some f.0) same.0 f.1, f.2 ∙ same.1, f.3)

  has-due : (dues : Dues) → HasSent sent es → AreReady (due ∷ dues) es → HasDue due (applied clock m es)
  has-due dues has ready = record {
    items = λ a h. go a h (is_sent_so sent a) refl (row_at executor_task a.task es) refl (tells a.task (Some a) (found due a rises h));
    others = λ x e at off.
        had sent has x e (may_have sent x) refl (sym (tells x None (nothing (row_at assigned_task x due) off)) ∙ at);
  }
    where
      -- one that is due isn't gone
      alive : (a : Assigned) → Has due a → (e : Executor) → row_at executor_task a.task es ≡ Some e → e.gone ≡ false
      alive a h e at =
          false_from_ne_true e.gone (λ gone.
          let task = (Has-from_row_at executor_task a.task es e at).1 in
          let off = never-head a.task due dues (gone-never e a.task (due ∷ dues) task (ready a.task e at) gone) in
          never-both (has_row assigned_task a.task due) off
          (there (row_at assigned_task a.task due) a (found due a rises h)))

      go : (a : Assigned) → Has due a → (b : Bool) → is_sent_so sent a ≡ b → (o : Option Executor) →
          row_at executor_task a.task es ≡ o →
          row_at executor_task a.task (applied clock m es)
          ≡ cond (is_sent_so sent a) (row_at executor_task a.task es)
          (Some (aimed_or_new clock a (row_at executor_task a.task es))) →
          (e : Executor) × (row_at executor_task a.task (applied clock m es) ≡ Some e) × (e.desired ≡ a.desired)
          × (e.gone ≡ false)
      go a h true q o at after =
          let f = sent-so sent has a q in (
            f.0,
            after
                ∙ ap (λ (b : Bool). cond b (row_at executor_task a.task es)
                (Some (aimed_or_new clock a (row_at executor_task a.task es)))) q
                ∙ f.1,
            f.2,
            f.3,
          )
      go a h false q None at after = (
        aimed_or_new clock a None,
        after
            ∙ ap (λ (b : Bool). cond b (row_at executor_task a.task es)
            (Some (aimed_or_new clock a (row_at executor_task a.task es)))) q
            ∙ ap (λ (p : Option Executor). Some (aimed_or_new clock a p)) at,
        refl,
        refl,
      )
      go a h false q (Some f) at after = (
        aimed_or_new clock a (Some f),
        after
            ∙ ap (λ (b : Bool). cond b (row_at executor_task a.task es)
            (Some (aimed_or_new clock a (row_at executor_task a.task es)))) q
            ∙ ap (λ (p : Option Executor). Some (aimed_or_new clock a p)) at,
        refl,
        alive a h f at,
      )

-- No message: what was sent is what is due.

no-change : (count : ℕ) (cs : List AssignChange) → message_with count cs ≡ None → cs ≡ []
no-change count [] e = refl
no-change count (c ∷ cs) e = absurd cc

module _ (s : NodeSent) (due : List Assigned) (rises : IsRising assigned_task due)
    (none : changes_of s.tasks due ≡ []) where
  abbrev left : List Assigned
  left = filter (λ a. not (is_sent s.tasks a)) due

  same-task : (x : ℕ) → (has_row assigned_task x s.tasks || has_row assigned_task x due) ≡ true →
      change_of s.tasks due x ≡ []
  same-task x either =
      let k = any-has (λ (k : ℕ). eqb k x) (tasks_of_either s.tasks due) (keys-has x s.tasks due ∙ either) in
      let is : k.0 ≡ x = (let q = k.2 in grind (arith, nat_tests, q)) in
      subst (λ (j : ℕ). change_of s.tasks due j ≡ []) is
      (flat_map_empty (change_of s.tasks due) (tasks_of_either s.tasks due) k.0 none k.1)

  -- it is due, and was sent so
  still : (x : ℕ) → change_of s.tasks due x ≡ [] →
      (a : Assigned) × (row_at assigned_task x due ≡ Some a) × (is_sent s.tasks a ≡ true)
  still x e = go (row_at assigned_task x due) refl
    where
      go : (o : Option Assigned) → row_at assigned_task x due ≡ o →
          (a : Assigned) × (row_at assigned_task x due ≡ Some a) × (is_sent s.tasks a ≡ true)
      go None at =
          absurd (let wrong : assign.Remove x ∷ [] ≡ [] =
          sym (ap (λ (o : Option Assigned). cond (not (is_some o)) (assign.Remove x ∷ []) (update_of left x)) at) ∙ e in
          cc)
      go (Some a) at =
          (a, at, by (is_sent s.tasks a) refl)
        where
          empty : on_row [] (λ (d : Assigned). assign.Update d ∷ []) (cond (not (is_sent s.tasks a)) (Some a) None) ≡ []
          empty =
              sym (ap (λ (o : Option Assigned). on_row [] (λ (d : Assigned). assign.Update d ∷ []) o)
              (rows-left (λ d. not (is_sent s.tasks d)) x due rises
              ∙ ap (λ (o : Option Assigned).
              on_row None (λ (d : Assigned). cond (not (is_sent s.tasks d)) (Some d) None) o) at))
              ∙ sym (update-row x left)
              ∙ sym (ap (λ (o : Option Assigned). cond (not (is_some o)) (assign.Remove x ∷ []) (update_of left x)) at)
              ∙ e

          by : (b : Bool) → is_sent s.tasks a ≡ b → is_sent s.tasks a ≡ true
          by true q = q
          by false q =
              absurd (let wrong : assign.Update a ∷ [] ≡ [] =
              sym (ap (λ (b : Bool). on_row [] (λ (d : Assigned). assign.Update d ∷ []) (cond (not b) (Some a) None)) q)
              ∙ empty in cc)

  has-still : (es : List Executor) → HasDue s.tasks es → HasDue due es
  has-still es has = record {
    items = λ a h. item a h;
    others = λ x e at off.
        has.others x e at
        (false_from_ne_true (has_row assigned_task x s.tasks) (λ on.
        let row = still x (same-task x (or_left (has_row assigned_task x s.tasks) (has_row assigned_task x due) on)) in
        never-both (has_row assigned_task x due) off (there (row_at assigned_task x due) row.0 row.1)));
  }
    where
      item : (a : Assigned) → Has due a →
          (e : Executor) × (row_at executor_task a.task es ≡ Some e) × (e.desired ≡ a.desired) × (e.gone ≡ false)
      item a h =
          let here = found due a rises h in
          let row =
          still a.task (same-task a.task (or_right (has_row assigned_task a.task s.tasks)
          (has_row assigned_task a.task due) (there (row_at assigned_task a.task due) a here))) in
          let is : row.0 ≡ a = one (row_at assigned_task a.task due) row.0 a row.1 here in
          let sent : is_sent s.tasks a ≡ true = subst (λ (z : Assigned). is_sent s.tasks z ≡ true) is row.2 in
          let from = any-has (same_assigned a) s.tasks sent in
          let same = same-aim a from.0 from.2 in
          let f = has.items from.0 from.1 in
          (f.0, subst (λ (k : ℕ). row_at executor_task k es ≡ Some f.0) same.0 f.1, f.2 ∙ same.1, f.3)

quiet : (sent : Option NodeSent) (due : List Assigned) (es : List Executor) → IsRising assigned_task due →
    next_message sent due ≡ None → HasSent sent es → HasDue due es
quiet None due es rises e has = absurd (let wrong : Some (complete_message due) ≡ None = e in cc)
quiet (Some s) due es rises e has = has-still s due rises (no-change s.count (changes_of s.tasks due) e) es has

-- Freshness.

fresh-next : (sent : Option NodeSent) (due : List Assigned) (m : Message) (count : ℕ) →
    next_message sent due ≡ Some m → IsAt sent count → is_stale count m ≡ false
fresh-next None due m count e at =
    let is : complete_message due ≡ m = (let f : Some (complete_message due) ≡ Some m = e in cc) in
    subst (λ (z : Message). is_stale count z ≡ false) is refl
fresh-next (Some s) due m count e at = go (changes_of s.tasks due) e
  where
    own : (k : ℕ) → eqb k k ≡ true
    own k = grind (arith, nat_tests)

    go : (cs : List AssignChange) → message_with s.count cs ≡ Some m → is_stale count m ≡ false
    go [] q = absurd cc
    go (c ∷ cs) q =
        let is : difference_message s.count (c ∷ cs) ≡ m = cc in
        subst (λ (z : Message). is_stale count z ≡ false) is
        (ap (λ (k : ℕ). not (eqb s.count k)) at ∙ ap not (own s.count))

-- One due set after the other.

abbrev Rest : (ℕ → ℕ) → ℕ → Dues → List Assigned → Dues → Type 0
Rest clock node later last dues =
    (b : NodeAgent) (s : Option NodeSent) → AreReady later b.executors → HasSent s b.executors → IsAt s b.applied →
    Hears clock b last (messages_of node s dues)

same-executors : (es : List Executor) (due : List Assigned) → WasThere due es es
same-executors es due x e off at = (e, at)

run : (clock : ℕ → ℕ) (node : ℕ) (a : NodeAgent) (sent : Option NodeSent) (dues : Dues) (last : List Assigned) →
    AreRising (dues ++ last ∷ []) → AreOnce (dues ++ last ∷ []) → AreReady (dues ++ last ∷ []) a.executors →
    HasSent sent a.executors → IsAt sent a.applied → Hears clock a last (messages_of node sent (dues ++ last ∷ []))
run clock node a sent [] last rising once ready has at = go (next_message sent last) refl
  where
    rises : IsRising assigned_task last
    rises = rising last (inl refl)

    go : (o : Option Message) → next_message sent last ≡ o →
        Hears clock a last (elim o [ None ↦ [] | Some m ↦ m ∷ [] ])
    go None e = record { fresh = refl; has = quiet sent last a.executors rises e has }
    go (Some m) e = record {
      fresh = both (not (is_stale a.applied m)) true (ap not (fresh-next sent last m a.applied e at)) refl;
      has = has-due (clock m.results_in) sent last m a.executors rises e [] has ready;
    }
run clock node a sent (due ∷ dues) last rising once ready has at =
    go (next_message sent due) refl (λ b s r h t.
    run clock node b s dues last (λ d k. rising d (inr k)) (λ x. once-tail x due (dues ++ last ∷ []) (once x)) r h t)
  where
    rises : IsRising assigned_task due
    rises = rising due (inl refl)

    go : (o : Option Message) → next_message sent due ≡ o → Rest clock node (dues ++ last ∷ []) last (dues ++ last ∷ []) →
        Hears clock a last (elim o [
          | None ↦ messages_of node sent (dues ++ last ∷ [])
          | Some m ↦ m ∷ messages_of node (Some (sent_after node m due)) (dues ++ last ∷ [])
        ])
    go None e rest =
        let here = quiet sent due a.executors rises e has in
        rest a sent (ready-next due (dues ++ last ∷ []) a.executors a.executors ready once here (same-executors a.executors due)) has at
    go (Some m) e rest =
        let after = applied (clock m.results_in) m a.executors in
        let here = has-due (clock m.results_in) sent due m a.executors rises e (dues ++ last ∷ []) has ready in
        let were = was-there (clock m.results_in) sent due m a.executors rises e in
        let r =
        rest (hear clock a m) (Some (sent_after node m due)) (ready-next due (dues ++ last ∷ []) a.executors after ready once here were)
        here refl in record {
          fresh = both (not (is_stale a.applied m)) (are_fresh clock (hear clock a m) (messages_of node (Some (sent_after node m due)) (dues ++ last ∷ [])))
              (ap not (fresh-next sent due m a.applied e at)) r.fresh;
          has = r.has;
        }

pub hearing : HearingLaw
hearing clock a dues last rising none =
    run clock a.node (begun a) None dues last rising none.tasks none.had tt tt

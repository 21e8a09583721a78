-- Spans that get what changes touch.
use Rattle.std.proofs.Common.{Bool, List, None, Option, Some, [], ap, false, inl, inr, length, refl, subst, sym, true, ℕ, arith, ◌∙◌, ◌∷◌, ◌≡◌, ◌⊎◌}
use Rattle.std.specs.Option.{option_map}
use Rattle.swarm_objects.specs.ChangeLists.{apply_changes}
use Rattle.swarm_objects.specs.Rows.{Has, is_some_and, row_at, service_id, task_id}
use Rattle.swarm_objects.specs.World.{Tables}
use Rattle.swarm_objects.specs.declared.nodes.Node.{Node}
use Rattle.swarm_objects.specs.declared.rows.Change.{Change}
use Rattle.swarm_objects.specs.declared.rows.Change.TheVariants as change
use Rattle.swarm_objects.specs.declared.services.Service.{Service}
use Rattle.swarm_objects.specs.declared.tasks.Attempt.{Attempt}
use Rattle.swarm_objects.specs.declared.tasks.Task.{Task}
use Rattle.swarm_spans.proofs.Grown.{in-with, own-with}
use Rattle.swarm_spans.proofs.Services.Outcomes.{ServiceTurns, TaskTurns, service-turns, task-turns}
use Rattle.swarm_spans.specs.Services.Steps.{HasNumber, HasServiceOf, HasShifted, HasShiftedBut, ShowsSo, Turns}
use Rattle.swarm_spans.specs.Services.Touches.{HasPut, HasTouched, Touching}
use Rattle.swarm_spans.specs.Spans.{IsWider, is_in, with_id}
use Rattle.swarm_spans.specs.declared.span.Span.{Span}

-- Spans that grow.

pub wider_not : (span : Span) → IsWider span span
wider_not span = record { has = λ k h. h }

pub wider_one : (id : ℕ) (span one : Span) → one ≡ with_id span id → IsWider one span
wider_one id span one is = record {
  has = λ k h. subst (λ s. is_in s k ≡ true) (sym is) (in-with span id k h);
}

pub wider_two : (a b : ℕ) (span one two : Span) → one ≡ with_id span a → two ≡ with_id one b → IsWider two span
wider_two a b span one two is and-is = record {
  has = λ k h. (wider_one b one two and-is).has k ((wider_one a span one is).has k h);
}

pub number-of : (id : ℕ) (span one : Span) → one ≡ with_id span id → HasNumber one id
number-of id span one is positive = subst (λ s. is_in s id ≡ true) (sym is) (own-with span id positive)

pub number-wider : (id : ℕ) (span wide : Span) → IsWider wide span → HasNumber span id → HasNumber wide id
number-wider id span wide w has positive = w.has id (has positive)

service_of-own : (x : Task) (span : Span) → HasNumber span x.service → HasServiceOf span (Some x)
service_of-own x span has = record {
  of = λ z e. let same : x ≡ z = cc in subst (λ y. HasNumber span y.service) same has;
}

-- A task that is put.

pub put_alike : {S : Type 0} (quiet : Task → Bool) (show : Task → S) (t : Tables) (x old : Task) (span : Span)
    → Some old ≡ row_at task_id x.id t.tasks → show old ≡ show x → HasPut quiet show t x span
put_alike quiet show t x old span row same = record {
  shown = inl (inl (sym (ap (option_map show) (sym row) ∙ ap Some same)));
}

pub put_other : {S : Type 0} (quiet : Task → Bool) (show : Task → S) (t : Tables) (x old : Task) (span one two : Span)
    → Some old ≡ row_at task_id x.id t.tasks → one ≡ with_id span old.service → two ≡ with_id one x.service
    → HasPut quiet show t x two
put_other quiet show t x old span one two row is and-is = record {
  shown =
      inl (inr (
        record { of = λ z e. former z (row ∙ e) },
        service_of-own x two (number-of x.service one two and-is),
      ));
}
  where
    former : (z : Task) → Some old ≡ Some z → HasNumber two z.service
    former z e =
        let same : old ≡ z = cc in
        subst (λ y. HasNumber two y.service) same
        (number-wider old.service one two (wider_one x.service one two and-is) (number-of old.service span one is))

pub put_new : {S : Type 0} (quiet : Task → Bool) (show : Task → S) (t : Tables) (x : Task) (span one : Span)
    → None ≡ row_at task_id x.id t.tasks → one ≡ with_id span x.service → HasPut quiet show t x one
put_new quiet show t x span one row is = record {
  shown = inl (inr (record { of = λ z e. none z (row ∙ e) }, service_of-own x one (number-of x.service span one is)));
}
  where
    none : (z : Task) → None ≡ Some z → HasNumber one z.service
    none z e = absurd cc

pub put_quiet : {S : Type 0} (quiet : Task → Bool) (show : Task → S) (t : Tables) (x : Task) (span : Span)
    → None ≡ row_at task_id x.id t.tasks → true ≡ quiet x → HasPut quiet show t x span
put_quiet quiet show t x span row is = record { shown = inr (record { none = sym row; new = sym is }) }

pub ruleset put_steps = (wider_not, wider_one, wider_two, put_alike, put_quiet)

-- A task that goes.

pub drop_some : (t : Tables) (id : ℕ) (old : Task) (span one : Span) → Some old ≡ row_at task_id id t.tasks
    → one ≡ with_id span old.service → HasServiceOf one (row_at task_id id t.tasks)
drop_some t id old span one row is = record { of = λ z e. former z (row ∙ e) }
  where
    former : (z : Task) → Some old ≡ Some z → HasNumber one z.service
    former z e =
        let same : old ≡ z = cc in
        subst (λ y. HasNumber one y.service) same (number-of old.service span one is)

pub drop_none : (t : Tables) (id : ℕ) (span : Span) → None ≡ row_at task_id id t.tasks
    → HasServiceOf span (row_at task_id id t.tasks)
drop_none t id span row = record { of = λ z e. none z (row ∙ e) }
  where
    none : (z : Task) → None ≡ Some z → HasNumber span z.service
    none z e = absurd cc

pub ruleset drop_steps = (wider_not, wider_one, drop_some, drop_none)

-- One change.

pub by_service : {S : Type 0} (quiet : Task → Bool) (show : Task → S) (t : Tables) (c : Change) (s : Service)
    (span one : Span) → c ≡ change.PutService s → one ≡ with_id span s.id → HasTouched quiet show t c one
by_service quiet show t c s span one is with-it = record {
  service = λ z e. let same : s ≡ z = cc in subst (λ y. HasNumber one y.id) same (number-of s.id span one with-it);
  put = λ z e. absurd (ne z (sym is ∙ e));
  dropped = λ id e. absurd (nf id (sym is ∙ e));
}
  where
    ne : (z : Task) → change.PutService s ≡ change.PutTask z → ⊥
    ne z e = cc

    nf : (id : ℕ) → change.PutService s ≡ change.DropTask id → ⊥
    nf id e = cc

pub by_task : {S : Type 0} (quiet : Task → Bool) (show : Task → S) (t : Tables) (c : Change) (x : Task) (span : Span)
    → c ≡ change.PutTask x → HasPut quiet show t x span → HasTouched quiet show t c span
by_task quiet show t c x span is has = record {
  service = λ z e. absurd (ne z (sym is ∙ e));
  put = λ z e. let same : x ≡ z = cc in subst (λ y. HasPut quiet show t y span) same has;
  dropped = λ id e. absurd (nf id (sym is ∙ e));
}
  where
    ne : (z : Service) → change.PutTask x ≡ change.PutService z → ⊥
    ne z e = cc

    nf : (id : ℕ) → change.PutTask x ≡ change.DropTask id → ⊥
    nf id e = cc

pub by_drop : {S : Type 0} (quiet : Task → Bool) (show : Task → S) (t : Tables) (c : Change) (gone : ℕ) (span : Span)
    → c ≡ change.DropTask gone → HasServiceOf span (row_at task_id gone t.tasks) → HasTouched quiet show t c span
by_drop quiet show t c gone span is has = record {
  service = λ z e. absurd (ne z (sym is ∙ e));
  put = λ z e. absurd (nf z (sym is ∙ e));
  dropped = λ id e.
      let same : gone ≡ id = cc in subst (λ k. HasServiceOf span (row_at task_id k t.tasks)) same has;
}
  where
    ne : (z : Service) → change.DropTask gone ≡ change.PutService z → ⊥
    ne z e = cc

    nf : (z : Task) → change.DropTask gone ≡ change.PutTask z → ⊥
    nf z e = cc

pub by_node : {S : Type 0} (quiet : Task → Bool) (show : Task → S) (t : Tables) (c : Change) (n : Node) (span : Span)
    → c ≡ change.PutNode n → HasTouched quiet show t c span
by_node quiet show t c n span is = record {
  service = λ z e. absurd (ne z (sym is ∙ e));
  put = λ z e. absurd (nf z (sym is ∙ e));
  dropped = λ id e. absurd (ng id (sym is ∙ e));
}
  where
    ne : (z : Service) → change.PutNode n ≡ change.PutService z → ⊥
    ne z e = cc

    nf : (z : Task) → change.PutNode n ≡ change.PutTask z → ⊥
    nf z e = cc

    ng : (id : ℕ) → change.PutNode n ≡ change.DropTask id → ⊥
    ng id e = cc

pub by_attempt : {S : Type 0} (quiet : Task → Bool) (show : Task → S) (t : Tables) (c : Change) (a : Attempt)
    (span : Span) → c ≡ change.Keep a → HasTouched quiet show t c span
by_attempt quiet show t c a span is = record {
  service = λ z e. absurd (ne z (sym is ∙ e));
  put = λ z e. absurd (nf z (sym is ∙ e));
  dropped = λ id e. absurd (ng id (sym is ∙ e));
}
  where
    ne : (z : Service) → change.Keep a ≡ change.PutService z → ⊥
    ne z e = cc

    nf : (z : Task) → change.Keep a ≡ change.PutTask z → ⊥
    nf z e = cc

    ng : (id : ℕ) → change.Keep a ≡ change.DropTask id → ⊥
    ng id e = cc

pub ruleset change_steps = (wider_not, wider_one, by_service, by_task, by_drop, by_node, by_attempt)

-- All changes.

pub service_of-wider : (row : Option Task) (span wide : Span) → IsWider wide span → HasServiceOf span row
    → HasServiceOf wide row
service_of-wider row span wide w has = record { of = λ x e. number-wider x.service span wide w (has.of x e) }

turns-wider : {S : Type 0} (quiet : Task → Bool) (show : Task → S) (before after : Option Task) (span wide : Span)
    → IsWider wide span → Turns quiet show span before after → Turns quiet show wide before after
turns-wider quiet show before after span wide w (inr added) = inr added
turns-wider quiet show before after span wide w (inl (inl same)) = inl (inl same)
turns-wider quiet show before after span wide w (inl (inr two)) =
    inl (inr (service_of-wider before span wide w two.0, service_of-wider after span wide w two.1))

touched-wider : {S : Type 0} (quiet : Task → Bool) (show : Task → S) (t : Tables) (c : Change) (span wide : Span)
    → IsWider wide span → HasTouched quiet show t c span → HasTouched quiet show t c wide
touched-wider quiet show t c span wide w has = record {
  service = λ s e. number-wider s.id span wide w (has.service s e);
  put = λ x e. record {
    shown = turns-wider quiet show (row_at task_id x.id t.tasks) (Some x) span wide w (has.put x e).shown;
  };
  dropped = λ id e. service_of-wider (row_at task_id id t.tasks) span wide w (has.dropped id e);
}

pub touching_next : {X : Type 0} {part : X → Span → Type 0} (all left rest : List X) (first span wide : Span) (c : X)
    → ((d : X) → part d span → part d wide) → Touching part all left first span → left ≡ c ∷ rest
    → IsWider wide span → part c wide → Touching part all rest first wide
touching_next {X} {part} all left rest first span wide c widens a step w has = record {
  wider = record { has = λ id h. w.has id (a.wider.has id h) };
  each = λ x h.
      elim (a.each x h) [
        | inl done ↦ inl (widens x done)
        | inr there ↦ now x (subst (λ list. Has list x) step there)
      ];
}
  where
    now : (x : X) → ((c ≡ x) ⊎ Has rest x) → part x wide ⊎ Has rest x
    now x (inl same) = inl (subst (λ z. part z wide) same has)
    now x (inr h) = inr h

is-empty : {X : Type 0} (left : List X) → length left ≡ 0 → left ≡ []
is-empty [] e = refl
is-empty (x ∷ left) e = absurd (omega (arith, e))

pub touched-all : {X : Type 0} {part : X → Span → Type 0} (all left : List X) (first span : Span)
    → Touching part all left first span → length left ≡ 0 → (c : X) → Has all c → part c span
touched-all all left first span a none c h =
    elim (a.each c h) [
      | inl has ↦ has
      | inr there ↦ absurd (subst (λ list. Has list c) (is-empty left none) there)
    ]

pub touching_begins : {S : Type 0} (quiet : Task → Bool) (show : Task → S) (t : Tables) (all : List Change)
    (span : Span) → Touching (HasTouched quiet show t) all all span span
touching_begins quiet show t all span = record { wider = wider_not span; each = λ c h. inr h }

pub touching_goes_on : {S : Type 0} (quiet : Task → Bool) (show : Task → S) (t : Tables) (all left rest : List Change)
    (first span wide : Span) (c : Change) → Touching (HasTouched quiet show t) all left first span → left ≡ c ∷ rest
    → IsWider wide span → HasTouched quiet show t c wide → Touching (HasTouched quiet show t) all rest first wide
touching_goes_on quiet show t all left rest first span wide c a step w has =
    touching_next all left rest first span wide c (λ d. touched-wider quiet show t d span wide w) a step w has

pub touching_ends : {S : Type 0} (quiet : Task → Bool) (show : Task → S) (t : Tables) (all left : List Change)
    (first span : Span) → Touching (HasTouched quiet show t) all left first span → length left ≡ 0
    → HasShiftedBut quiet show span t (apply_changes t all)
touching_ends quiet show t all left first span a none = record {
  services = record { rows = λ id. service id (row_at service_id id (apply_changes t all).services) (service-turns t all id) };
  tasks = λ id. task id (row_at task_id id (apply_changes t all).tasks) (task-turns t all id);
}
  where
    service : (id : ℕ) (o : Option Service) → ServiceTurns t all id o
        → (o ≡ row_at service_id id t.services) ⊎ HasNumber span id
    service id o (inl same) = inl same
    service id o (inr put) =
        inr (subst (HasNumber span) put.2
        ((touched-all all left first span a none (change.PutService put.0) put.1).service put.0 refl))

    task : (id : ℕ) (o : Option Task) → TaskTurns t all id o → Turns quiet show span (row_at task_id id t.tasks) o
    task id o (inl same) = inl (inl (ap (option_map show) same))
    task id o (inr (inl put)) =
        subst (λ k. Turns quiet show span (row_at task_id k t.tasks) o) put.2
        (subst (Turns quiet show span (row_at task_id put.0.id t.tasks)) (sym put.3)
        ((touched-all all left first span a none (change.PutTask put.0) put.1).put put.0 refl).shown)
    task id o (inr (inr gone)) =
        inl (inr (
          (touched-all all left first span a none (change.DropTask id) gone.0).dropped id refl,
          record { of = λ z e. none-left z (sym gone.1 ∙ e) },
        ))
      where
        none-left : (z : Task) → None ≡ Some z → HasNumber span z.service
        none-left z e = absurd cc

-- where none is quiet
pub shifted-all : {S : Type 0} (show : Task → S) (span : Span) (t u : Tables) → HasShiftedBut (λ x. false) show span t u
    → HasShifted show span t u
shifted-all {S} show span t u has = record {
  services = has.services;
  tasks = λ id. go (row_at task_id id t.tasks) (row_at task_id id u.tasks) (has.tasks id);
}
  where
    never : (o : Option Task) → is_some_and (λ x. false) o ≡ true → ⊥
    never None e = absurd cc
    never (Some x) e = absurd cc

    go : (before after : Option Task) → Turns (λ x. false) show span before after → ShowsSo show span before after
    go before after (inl so) = so
    go before after (inr added) = absurd (never after added.new)

pub touching_wider : {S : Type 0} (quiet : Task → Bool) (show : Task → S) (t : Tables) (all left : List Change)
    (first span : Span) → Touching (HasTouched quiet show t) all left first span → IsWider span first
touching_wider quiet show t all left first span a = a.wider

pub ruleset all_steps = (touching_begins, touching_goes_on, touching_ends, touching_wider)

-- Spans that get what changes touch of old tasks.
use Rattle.std.proofs.Common.{List, None, Option, Some, [], ap, false, inl, inr, length, refl, subst, sym, true, ℕ, arith, ◌∙◌, ◌∷◌, ◌≡◌, ◌⊎◌}
use Rattle.std.proofs.lemmas.Bool.Decides.{nat_tests}
use Rattle.std.specs.Option.{option_map}
use Rattle.std.specs.Prelude.{filter, ◌==◌}
use Rattle.swarm_objects.proofs.RowLemmas.{Has-filter, Has-from_row_at, number_above}
use Rattle.swarm_objects.proofs.SameLemmas.{Decides-same_place}
use Rattle.swarm_objects.proofs.Tests.{both, both_are, never-both}
use Rattle.swarm_objects.specs.ChangeLists.{apply_changes}
use Rattle.swarm_objects.specs.Loops.Reaper.{is_past}
use Rattle.swarm_objects.specs.Rows.{Has, row_at, service_id, task_id}
use Rattle.swarm_objects.specs.Same.{same_place}
use Rattle.swarm_objects.specs.Tasks.Words.{is_at, is_beside, is_of}
use Rattle.swarm_objects.specs.Usable.{IsUsable}
use Rattle.swarm_objects.specs.World.{Tables}
use Rattle.swarm_objects.specs.declared.nodes.Node.{Node}
use Rattle.swarm_objects.specs.declared.rows.Change.{Change}
use Rattle.swarm_objects.specs.declared.rows.Change.TheVariants as change
use Rattle.swarm_objects.specs.declared.services.Service.{Service}
use Rattle.swarm_objects.specs.declared.tasks.Attempt.{Attempt}
use Rattle.swarm_objects.specs.declared.tasks.Task.{Task}
use Rattle.swarm_spans.proofs.Services.Outcomes.{ServiceTurns, TaskTurns, service-turns, task-turns}
use Rattle.swarm_spans.proofs.Services.Tests.{bound_so, remain_so}
use Rattle.swarm_spans.proofs.Services.Touching.{number-of, number-wider, touched-all, touching_next, wider_not, wider_one}
use Rattle.swarm_spans.specs.Services.Standings.{bounds, bounds_alike, remains, remains_alike}
use Rattle.swarm_spans.specs.Services.Steps.{HasBesideOf, HasItself, HasNumber, HasRemains, HasTasksOf}
use Rattle.swarm_spans.specs.Services.Touches.{AddsNew, AddsPast, AddsOther, HasBounded, HasPlaces, HasTask, HasTrimmed, Touching}
use Rattle.swarm_spans.specs.Spans.{IsWider, is_in, with_id}
use Rattle.swarm_spans.specs.declared.span.Span.{Span}

pub wider_yet : (span one two : Span) → IsWider one span → IsWider two one → IsWider two span
wider_yet span one two w v = record { has = λ k h. v.has k (w.has k h) }

-- One past task.

pub past_added : (z : Task) (span one : Span) → one ≡ with_id span z.id → AddsPast z one
past_added z span one is = record { past = λ p. number-of z.id span one is }

pub not_past : (z : Task) (span : Span) → false ≡ is_past z → AddsPast z span
not_past z span no-one = record { past = λ p. never-both (is_past z) (sym no-one) p }

pub ruleset past_steps = (wider_not, wider_one, past_added, not_past)

-- All of them.

all_there : (t : Tables) (service : ℕ) (z : Task) → Has t.tasks z → z.service ≡ service
    → Has (filter (is_of service) t.tasks) z
all_there t service z h same = Has-filter (is_of service) t.tasks z h (grind (arith, nat_tests, same))

all_at : (t : Tables) (x z : Task) → Has t.tasks z → is_beside z x ≡ true → Has (filter (is_at x.service x.place) t.tasks) z
all_at t x z h beside =
    let two = both_are (x.service == z.service) (same_place x.place z.place) beside in
    let service : x.service ≡ z.service = grind (arith, nat_tests, two.0) in
    let own : (z.service == x.service) ≡ true = grind (arith, nat_tests, service) in
    let place : x.place ≡ z.place = (Decides-same_place x.place z.place).0 two.1 in
    let turned : same_place z.place x.place ≡ true = (Decides-same_place z.place x.place).1 (sym place) in
    Has-filter (is_at x.service x.place) t.tasks z h
    (both (z.service == x.service) (same_place z.place x.place) own turned)

pub all_beside : (t : Tables) (x : Task) (items : List Task) (first span : Span) → IsUsable t
    → Touching HasTask (filter (is_at x.service x.place) t.tasks) items first span → items ≡ []
    → HasBesideOf span t (Some x)
all_beside t x items first span usable a none = record { beside = λ y z is h e p. of y z is h e p }
  where
    of : (y z : Task) → Some x ≡ Some y → Has t.tasks z → is_beside z y ≡ true → is_past z ≡ true → is_in span z.id ≡ true
    of y z is h e p =
        let same : x ≡ y = cc in
        touched-all (filter (is_at x.service x.place) t.tasks) items first span a (ap length none) z
        (all_at t x z h (ap (is_beside z) same ∙ e)) p (number_above task_id 0 t.tasks z usable.sound.ordered.tasks h)

pub none_of : (all : List Task) (span : Span) → Touching HasTask all all span span
none_of all span = record { wider = wider_not span; each = λ z h. inr h }

pub one_of : (all items rest : List Task) (first span wide : Span) (z : Task)
    → Touching HasTask all items first span → items ≡ z ∷ rest → IsWider wide span → AddsPast z wide
    → Touching HasTask all rest first wide
one_of all items rest first span wide z a step w has =
    touching_next all items rest first span wide z (λ y part p. number-wider y.id span wide w (part p)) a step w
    has.past

pub all_of : (t : Tables) (service : ℕ) (items : List Task) (first span : Span) → IsUsable t
    → Touching HasTask (filter (is_of service) t.tasks) items first span → items ≡ [] → HasTasksOf span t service
all_of t service items first span usable a none = record {
  tasks = λ z h e p.
      touched-all (filter (is_of service) t.tasks) items first span a (ap length none) z (all_there t service z h e) p
      (number_above task_id 0 t.tasks z usable.sound.ordered.tasks h);
}

pub of_wider : (all items : List Task) (first span : Span) → Touching HasTask all items first span
    → IsWider span first
of_wider all items first span a = a.wider

pub ruleset all_of_steps = (none_of, of_wider)

-- A task that is put.

beside-wider : (t : Tables) (o : Option Task) (span wide : Span) → IsWider wide span → HasBesideOf span t o
    → HasBesideOf wide t o
beside-wider t o span wide w has = record { beside = λ x z e h b p. w.has z.id (has.beside x z e h b p) }

beside-of : (t : Tables) (o : Option Task) (x : Task) (span : Span) → Some x ≡ o → HasBesideOf span t (Some x)
    → HasBesideOf span t o
beside-of t o x span row has = subst (HasBesideOf span t) row has

beside-none : (t : Tables) (o : Option Task) (span : Span) → None ≡ o → HasBesideOf span t o
beside-none t o span row = record { beside = λ x z e h b p. none x (row ∙ e) }
  where
    none : {A : Type 0} (x : Task) → None ≡ Some x → A
    none x e = absurd cc

itself : (x : Task) (span : Span) → AddsPast x span → HasItself span (Some x)
itself x span has = record { own = λ y e. of y e }
  where
    of : (y : Task) → Some x ≡ Some y → HasTask y span
    of y e = let same : x ≡ y = cc in subst (λ z. HasTask z span) same has.past

pub is_new : (t : Tables) (x : Task) (one two : Span) → HasBesideOf one t (Some x) → IsWider two one → AddsPast x two
    → AddsNew t x two
is_new t x one two has w past = record {
  beside = beside-wider t (Some x) one two w has;
  own = itself x two past;
}

pub ruleset new_steps = (wider_yet, is_new)

pub is_alike : (t : Tables) (old x : Task) (span : Span) → true ≡ remains_alike old x → AddsOther t old x span
is_alike t old x span same = record { shown = inl (λ id. remain_so old x id (sym same)) }

pub is_other : (t : Tables) (old x : Task) (one two : Span) → HasBesideOf one t (Some old) → IsWider two one
    → AddsNew t x two → AddsOther t old x two
is_other t old x one two before w after = record { shown = inr (beside-wider t (Some old) one two w before, after) }

pub ruleset other_steps = (wider_not, wider_yet, is_alike, is_other)

pub places_other : (t : Tables) (x old : Task) (span : Span) → Some old ≡ row_at task_id x.id t.tasks
    → AddsOther t old x span → HasPlaces t x span
places_other t x old span row has =
    elim has.shown [
      | inl same ↦
          let id : old.id ≡ x.id = (Has-from_row_at task_id x.id t.tasks old (sym row)).1 in
          record { shown = inl (ap (option_map remains) (sym row) ∙ ap Some (same id)) }
      | inr two ↦
          record {
            shown = inr (beside-of t (row_at task_id x.id t.tasks) old span row two.0, two.1.beside, two.1.own);
          }
    ]

pub places_new : (t : Tables) (x : Task) (span : Span) → None ≡ row_at task_id x.id t.tasks → AddsNew t x span
    → HasPlaces t x span
places_new t x span row has = record {
  shown = inr (beside-none t (row_at task_id x.id t.tasks) span row, has.beside, has.own);
}

pub ruleset put_steps = (places_other, places_new)

-- A task that goes.

pub gone_some : (t : Tables) (id : ℕ) (old : Task) (span : Span) → Some old ≡ row_at task_id id t.tasks
    → HasBesideOf span t (Some old) → HasBesideOf span t (row_at task_id id t.tasks)
gone_some t id old span row has = beside-of t (row_at task_id id t.tasks) old span row has

pub gone_none : (t : Tables) (id : ℕ) (span : Span) → None ≡ row_at task_id id t.tasks
    → HasBesideOf span t (row_at task_id id t.tasks)
gone_none t id span row = beside-none t (row_at task_id id t.tasks) span row

pub ruleset drop_steps = (wider_not, gone_some, gone_none)

-- A service that is put.

pub bounds_same : (t : Tables) (s old : Service) (span : Span) → Some old ≡ row_at service_id s.id t.services
    → true ≡ bounds_alike old s → HasBounded t s span
bounds_same t s old span row same =
    let id : old.id ≡ s.id = (Has-from_row_at service_id s.id t.services old (sym row)).1 in
    record { shown = inl (ap (option_map bounds) (sym row) ∙ ap Some (bound_so old s id (sym same))) }

pub bounds_other : (t : Tables) (s : Service) (span : Span) → HasTasksOf span t s.id → HasBounded t s span
bounds_other t s span has = record { shown = inr has }

pub ruleset bound_steps = (wider_not, bounds_same, bounds_other)

-- One change.

pub by_service : (t : Tables) (c : Change) (s : Service) (span : Span) → c ≡ change.PutService s
    → HasBounded t s span → HasTrimmed t c span
by_service t c s span is has = record {
  service = λ z e. let same : s ≡ z = cc in subst (λ y. HasBounded t y span) same has;
  put = λ z e. absurd (ne z (sym is ∙ e));
  dropped = λ id e. absurd (nf id (sym is ∙ e));
}
  where
    ne : (z : Task) → change.PutService s ≡ change.PutTask z → ⊥
    ne z e = cc

    nf : (id : ℕ) → change.PutService s ≡ change.DropTask id → ⊥
    nf id e = cc

pub by_task : (t : Tables) (c : Change) (x : Task) (span : Span) → c ≡ change.PutTask x → HasPlaces t x span
    → HasTrimmed t c span
by_task t c x span is has = record {
  service = λ z e. absurd (ne z (sym is ∙ e));
  put = λ z e. let same : x ≡ z = cc in subst (λ y. HasPlaces t y span) same has;
  dropped = λ id e. absurd (nf id (sym is ∙ e));
}
  where
    ne : (z : Service) → change.PutTask x ≡ change.PutService z → ⊥
    ne z e = cc

    nf : (id : ℕ) → change.PutTask x ≡ change.DropTask id → ⊥
    nf id e = cc

pub by_drop : (t : Tables) (c : Change) (gone : ℕ) (span : Span) → c ≡ change.DropTask gone
    → HasBesideOf span t (row_at task_id gone t.tasks) → HasTrimmed t c span
by_drop t c gone span is has = record {
  service = λ z e. absurd (ne z (sym is ∙ e));
  put = λ z e. absurd (nf z (sym is ∙ e));
  dropped = λ id e.
      let same : gone ≡ id = cc in subst (λ k. HasBesideOf span t (row_at task_id k t.tasks)) same has;
}
  where
    ne : (z : Service) → change.DropTask gone ≡ change.PutService z → ⊥
    ne z e = cc

    nf : (z : Task) → change.DropTask gone ≡ change.PutTask z → ⊥
    nf z e = cc

pub by_node : (t : Tables) (c : Change) (n : Node) (span : Span) → c ≡ change.PutNode n → HasTrimmed t c span
by_node t c n span is = record {
  service = λ z e. absurd (ne z (sym is ∙ e));
  put = λ z e. absurd (nf z (sym is ∙ e));
  dropped = λ id e. absurd (ng id (sym is ∙ e));
}
  where
    ne : (z : Service) → change.PutNode n ≡ change.PutService z → ⊥
    ne z e = cc

    nf : (z : Task) → change.PutNode n ≡ change.PutTask z → ⊥
    nf z e = cc

    ng : (id : ℕ) → change.PutNode n ≡ change.DropTask id → ⊥
    ng id e = cc

pub by_attempt : (t : Tables) (c : Change) (a : Attempt) (span : Span) → c ≡ change.Keep a → HasTrimmed t c span
by_attempt t c a span is = record {
  service = λ z e. absurd (ne z (sym is ∙ e));
  put = λ z e. absurd (nf z (sym is ∙ e));
  dropped = λ id e. absurd (ng id (sym is ∙ e));
}
  where
    ne : (z : Service) → change.Keep a ≡ change.PutService z → ⊥
    ne z e = cc

    nf : (z : Task) → change.Keep a ≡ change.PutTask z → ⊥
    nf z e = cc

    ng : (id : ℕ) → change.Keep a ≡ change.DropTask id → ⊥
    ng id e = cc

pub ruleset change_steps = (wider_not, by_service, by_task, by_drop, by_node, by_attempt)

-- All changes.

trimmed-wider : (t : Tables) (c : Change) (span wide : Span) → IsWider wide span → HasTrimmed t c span
    → HasTrimmed t c wide
trimmed-wider t c span wide w has = record {
  service = λ s e. record {
    shown = elim ((has.service s e).shown) [
      | inl same ↦ inl same
      | inr tasks ↦ inr (record { tasks = λ z h k p. w.has z.id (tasks.tasks z h k p) })
    ];
  };
  put = λ x e. record {
    shown = elim ((has.put x e).shown) [
      | inl same ↦ inl same
      | inr three ↦
          inr (
            beside-wider t (row_at task_id x.id t.tasks) span wide w three.0,
            beside-wider t (Some x) span wide w three.1,
            record { own = λ y k p. number-wider y.id span wide w (three.2.own y k p) },
          )
    ];
  };
  dropped = λ id e. beside-wider t (row_at task_id id t.tasks) span wide w (has.dropped id e);
}

pub touching_begins : (t : Tables) (all : List Change) (span : Span) → Touching (HasTrimmed t) all all span span
touching_begins t all span = record { wider = wider_not span; each = λ c h. inr h }

pub touching_goes_on : (t : Tables) (all left rest : List Change) (first span wide : Span) (c : Change)
    → Touching (HasTrimmed t) all left first span → left ≡ c ∷ rest → IsWider wide span → HasTrimmed t c wide
    → Touching (HasTrimmed t) all rest first wide
touching_goes_on t all left rest first span wide c a step w has =
    touching_next all left rest first span wide c (λ d. trimmed-wider t d span wide w) a step w has

pub touching_wider : (t : Tables) (all left : List Change) (first span : Span)
    → Touching (HasTrimmed t) all left first span → IsWider span first
touching_wider t all left first span a = a.wider

pub touching_ends : (t : Tables) (all left : List Change) (first span : Span)
    → Touching (HasTrimmed t) all left first span → length left ≡ 0 → HasRemains span t (apply_changes t all)
touching_ends t all left first span a none = record {
  services = λ id. service id (row_at service_id id (apply_changes t all).services) (service-turns t all id);
  tasks = λ id. task id (row_at task_id id (apply_changes t all).tasks) (task-turns t all id);
}
  where
    bound : (s : Service) (o : Option Service) → o ≡ Some s → HasBounded t s span
        → (option_map bounds o ≡ option_map bounds (row_at service_id s.id t.services)) ⊎ HasTasksOf span t s.id
    bound s o is has =
        elim has.shown [
          | inl same ↦ inl (ap (option_map bounds) is ∙ sym same)
          | inr tasks ↦ inr tasks
        ]

    service : (id : ℕ) (o : Option Service) → ServiceTurns t all id o
        → (option_map bounds o ≡ option_map bounds (row_at service_id id t.services)) ⊎ HasTasksOf span t id
    service id o (inl same) = inl (ap (option_map bounds) same)
    service id o (inr put) =
        subst (λ k. (option_map bounds o ≡ option_map bounds (row_at service_id k t.services)) ⊎ HasTasksOf span t k)
        put.2
        (bound put.0 o put.3
        ((touched-all all left first span a none (change.PutService put.0) put.1).service put.0 refl))

    shows : (x : Task) (o : Option Task) → o ≡ Some x → HasPlaces t x span
        → (option_map remains o ≡ option_map remains (row_at task_id x.id t.tasks))
        ⊎ (HasBesideOf span t (row_at task_id x.id t.tasks) × HasBesideOf span t o × HasItself span o)
    shows x o is has =
        elim has.shown [
          | inl same ↦ inl (ap (option_map remains) is ∙ sym same)
          | inr three ↦
              inr (three.0, subst (HasBesideOf span t) (sym is) three.1, subst (HasItself span) (sym is) three.2)
        ]

    task : (id : ℕ) (o : Option Task) → TaskTurns t all id o
        → (option_map remains o ≡ option_map remains (row_at task_id id t.tasks))
        ⊎ (HasBesideOf span t (row_at task_id id t.tasks) × HasBesideOf span t o × HasItself span o)
    task id o (inl same) = inl (ap (option_map remains) same)
    task id o (inr (inl put)) =
        subst (λ k. (option_map remains o ≡ option_map remains (row_at task_id k t.tasks))
        ⊎ (HasBesideOf span t (row_at task_id k t.tasks) × HasBesideOf span t o × HasItself span o)) put.2
        (shows put.0 o put.3 ((touched-all all left first span a none (change.PutTask put.0) put.1).put put.0 refl))
    task id o (inr (inr gone)) =
        inr (
          (touched-all all left first span a none (change.DropTask id) gone.0).dropped id refl,
          beside-none t o span (sym gone.1),
          record { own = λ z e p. lost z (sym gone.1 ∙ e) },
        )
      where
        lost : (z : Task) → None ≡ Some z → HasNumber span z.id
        lost z e = absurd cc

pub ruleset all_steps = (touching_begins, touching_goes_on, touching_wider)

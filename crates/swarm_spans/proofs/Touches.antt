-- What changes touch.
use Rattle.std.proofs.Common.{◌≡◌, ℕ, Bool, true, false, ◌⊎◌, inl, inr, List, [], ◌∷◌, Some, None, refl, sym, ap, ◌∙◌, subst, length, arith}
use Rattle.swarm_objects.specs.Nodes.Words.{is_ready}
use Rattle.swarm_objects.specs.Rows.{Has, node_id, row_at, service_id, task_id}
use Rattle.swarm_objects.specs.World.{Tables}
use Rattle.swarm_objects.specs.declared.nodes.Node.{Node}
use Rattle.swarm_objects.specs.declared.rows.Change.{Change}
use Rattle.swarm_objects.specs.declared.rows.Change.TheVariants as change
use Rattle.swarm_objects.specs.declared.services.Service.{Service}
use Rattle.swarm_objects.specs.declared.tasks.Attempt.{Attempt}
use Rattle.swarm_objects.specs.declared.tasks.Task.{Task}
use Rattle.swarm_spans.proofs.Grown.{own-with, wider_itself, wider_with, wider_yet}
use Rattle.swarm_spans.specs.Spans.{is_in, IsWider, with_id}
use Rattle.swarm_spans.specs.Touched.{HasTasksOf, HasTasksOn, Touches, TouchesAll, TouchesAllReady, TouchesNode, TouchesReady, TouchesService, TouchesTask, Touching}
use Rattle.swarm_spans.specs.declared.span.Span.{Span}

-- One row.

pub may_not : (may : Task → Bool) (Alike : Task → Task → Type 0) (t : Tables) (span : Span) (y : Task) → false ≡ may y
    → TouchesTask may Alike t span y
may_not may Alike t span y e =
    record { own = λ above m. let both : false ≡ true = e ∙ m in absurd cc }

pub is_like : (may : Task → Bool) (Alike : Task → Task → Type 0) (t : Tables) (span : Span) (x y : Task)
    → Some x ≡ row_at task_id y.id t.tasks → Alike x y → TouchesTask may Alike t span y
is_like may Alike t span x y e alike =
    record { own = λ above m. inr (inr (x, y, sym e, refl, alike)) }

pub is_added : (may : Task → Bool) (Alike : Task → Task → Type 0) (t : Tables) (span wide : Span) (y : Task)
    → wide ≡ with_id span y.id → TouchesTask may Alike t wide y
is_added may Alike t span wide y is =
    record { own = λ above m. inl (subst (λ s. is_in s y.id ≡ true) (sym is) (own-with span y.id above)) }

pub ruleset task_steps = (may_not, is_like, is_added, wider_with, wider_itself)

pub no_service : (Alike : Service → Service → Type 0) (t : Tables) (span : Span) (s : Service)
    → None ≡ row_at service_id s.id t.services → TouchesService Alike t span s
no_service Alike t span s e = record { of = λ a x was. let both : None ≡ Some a = e ∙ was in absurd cc }

pub service_like : (Alike : Service → Service → Type 0) (t : Tables) (span : Span) (a s : Service)
    → Some a ≡ row_at service_id s.id t.services → Alike a s → TouchesService Alike t span s
service_like Alike t span a s e alike = record {
  of = λ b x was h of.
      let one : Some a ≡ Some b = e ∙ was in
      let same : a ≡ b = cc in
      inr (subst (λ z. Alike z s) same alike);
}

pub service_tasks : (Alike : Service → Service → Type 0) (t : Tables) (span : Span) (s : Service)
    → HasTasksOf s.id t span → TouchesService Alike t span s
service_tasks Alike t span s has = record { of = λ a x was h of. inl (has.tasks x h of) }

pub ruleset service_steps = (no_service, service_like, service_tasks, wider_itself)

pub no_node : (Alike : Node → Node → Type 0) (t : Tables) (span : Span) (n : Node)
    → None ≡ row_at node_id n.id t.nodes → TouchesNode Alike t span n
no_node Alike t span n e = record { on = λ a x was. let both : None ≡ Some a = e ∙ was in absurd cc }

pub node_like : (Alike : Node → Node → Type 0) (t : Tables) (span : Span) (a n : Node)
    → Some a ≡ row_at node_id n.id t.nodes → Alike a n → TouchesNode Alike t span n
node_like Alike t span a n e alike = record {
  on = λ b x was h on.
      let one : Some a ≡ Some b = e ∙ was in
      let same : a ≡ b = cc in
      inr (subst (λ z. Alike z n) same alike);
}

pub node_tasks : (Alike : Node → Node → Type 0) (t : Tables) (span : Span) (n : Node)
    → HasTasksOn n.id t span → TouchesNode Alike t span n
node_tasks Alike t span n has = record { on = λ a x was h on. inl (has.tasks x h on) }

pub ruleset node_steps = (no_node, node_like, node_tasks, wider_itself)

-- One change.

pub by_task : (may : Task → Bool) (AlikeTask : Task → Task → Type 0) (AlikeService : Service → Service → Type 0)
    (AlikeNode : Node → Node → Type 0) (t : Tables) (wide : Span) (c : Change) (y : Task) → c ≡ change.PutTask y
    → TouchesTask may AlikeTask t wide y → Touches may AlikeTask AlikeService AlikeNode t wide c
by_task may AlikeTask AlikeService AlikeNode t wide c y is has = record {
  task = λ z e.
      let one : change.PutTask y ≡ change.PutTask z = sym is ∙ e in
      let same : y ≡ z = cc in
      subst (TouchesTask may AlikeTask t wide) same has;
  service = λ s e. let other : change.PutTask y ≡ change.PutService s = sym is ∙ e in absurd cc;
  node = λ n e. let other : change.PutTask y ≡ change.PutNode n = sym is ∙ e in absurd cc;
}

pub by_service_put : (may : Task → Bool) (AlikeTask : Task → Task → Type 0) (AlikeService : Service → Service → Type 0)
    (AlikeNode : Node → Node → Type 0) (t : Tables) (wide : Span) (c : Change) (s : Service) → c ≡ change.PutService s
    → TouchesService AlikeService t wide s → Touches may AlikeTask AlikeService AlikeNode t wide c
by_service_put may AlikeTask AlikeService AlikeNode t wide c s is has = record {
  task = λ y e. let other : change.PutService s ≡ change.PutTask y = sym is ∙ e in absurd cc;
  service = λ z e.
      let one : change.PutService s ≡ change.PutService z = sym is ∙ e in
      let same : s ≡ z = cc in
      subst (TouchesService AlikeService t wide) same has;
  node = λ n e. let other : change.PutService s ≡ change.PutNode n = sym is ∙ e in absurd cc;
}

pub by_node_put : (may : Task → Bool) (AlikeTask : Task → Task → Type 0) (AlikeService : Service → Service → Type 0)
    (AlikeNode : Node → Node → Type 0) (t : Tables) (wide : Span) (c : Change) (n : Node) → c ≡ change.PutNode n
    → TouchesNode AlikeNode t wide n → Touches may AlikeTask AlikeService AlikeNode t wide c
by_node_put may AlikeTask AlikeService AlikeNode t wide c n is has = record {
  task = λ y e. let other : change.PutNode n ≡ change.PutTask y = sym is ∙ e in absurd cc;
  service = λ s e. let other : change.PutNode n ≡ change.PutService s = sym is ∙ e in absurd cc;
  node = λ z e.
      let one : change.PutNode n ≡ change.PutNode z = sym is ∙ e in
      let same : n ≡ z = cc in
      subst (TouchesNode AlikeNode t wide) same has;
}

pub by_drop : (may : Task → Bool) (AlikeTask : Task → Task → Type 0) (AlikeService : Service → Service → Type 0)
    (AlikeNode : Node → Node → Type 0) (t : Tables) (wide : Span) (c : Change) (id : ℕ) → c ≡ change.DropTask id
    → Touches may AlikeTask AlikeService AlikeNode t wide c
by_drop may AlikeTask AlikeService AlikeNode t wide c id is = record {
  task = λ y e. let other : change.DropTask id ≡ change.PutTask y = sym is ∙ e in absurd cc;
  service = λ s e. let other : change.DropTask id ≡ change.PutService s = sym is ∙ e in absurd cc;
  node = λ n e. let other : change.DropTask id ≡ change.PutNode n = sym is ∙ e in absurd cc;
}

pub by_keep : (may : Task → Bool) (AlikeTask : Task → Task → Type 0) (AlikeService : Service → Service → Type 0)
    (AlikeNode : Node → Node → Type 0) (t : Tables) (wide : Span) (c : Change) (a : Attempt) → c ≡ change.Keep a
    → Touches may AlikeTask AlikeService AlikeNode t wide c
by_keep may AlikeTask AlikeService AlikeNode t wide c a is = record {
  task = λ y e. let other : change.Keep a ≡ change.PutTask y = sym is ∙ e in absurd cc;
  service = λ s e. let other : change.Keep a ≡ change.PutService s = sym is ∙ e in absurd cc;
  node = λ n e. let other : change.Keep a ≡ change.PutNode n = sym is ∙ e in absurd cc;
}

pub ruleset change_steps = (by_task, by_service_put, by_node_put, by_drop, by_keep, wider_itself)

-- All changes.

pub touches-wider : (may : Task → Bool) (AlikeTask : Task → Task → Type 0) (AlikeService : Service → Service → Type 0)
    (AlikeNode : Node → Node → Type 0) (t : Tables) (span wide : Span) (c : Change) → IsWider wide span
    → Touches may AlikeTask AlikeService AlikeNode t span c → Touches may AlikeTask AlikeService AlikeNode t wide c
touches-wider may AlikeTask AlikeService AlikeNode t span wide c w has = record {
  task = λ y e. record {
    own = λ above m. elim ((has.task y e).own above m) [ inl i ↦ inl (w.has y.id i) | inr alike ↦ inr alike ];
  };
  service = λ s e. record {
    of = λ a x was h of.
        elim ((has.service s e).of a x was h of) [ inl i ↦ inl (w.has x.id i) | inr alike ↦ inr alike ];
  };
  node = λ n e. record {
    on = λ a x was h on.
        elim ((has.node n e).on a x was h on) [ inl i ↦ inl (w.has x.id i) | inr alike ↦ inr alike ];
  };
}

pub none-touched : (P : Change → Span → Type 0) (all : List Change) (span : Span) → Touching P all all span span
none-touched P all span = record { wider = wider_itself span; each = λ c h. inr h }

pub one-touched : (P : Change → Span → Type 0) → ((c : Change) (span wide : Span) → IsWider wide span → P c span → P c wide)
    → (all left rest : List Change) (first span wide : Span) (c : Change) → Touching P all left first span
    → left ≡ c ∷ rest → IsWider wide span → P c wide → Touching P all rest first wide
one-touched P grows all left rest first span wide c a step w has = record {
  wider = wider_yet first span wide a.wider w;
  each = λ x h.
      elim (a.each x h) [
        | inl done ↦ inl (grows x span wide w done)
        | inr there ↦ now x (subst (λ list. Has list x) step there)
      ];
}
  where
    now : (x : Change) → ((c ≡ x) ⊎ Has rest x) → P x wide ⊎ Has rest x
    now x (inl same) = inl (subst (λ z. P z wide) same has)
    now x (inr h) = inr h

pub is-empty : (left : List Change) → length left ≡ 0 → left ≡ []
is-empty [] e = refl
is-empty (x ∷ left) e = absurd (omega (arith, e))

pub all-touched : (P : Change → Span → Type 0) (all left : List Change) (first span : Span)
    → Touching P all left first span → length left ≡ 0 → (c : Change) → Has all c → P c span
all-touched P all left first span a none c h =
    elim (a.each c h) [ inl has ↦ has | inr there ↦ absurd (subst (λ list. Has list c) (is-empty left none) there) ]

pub none_touched : (may : Task → Bool) (AlikeTask : Task → Task → Type 0) (AlikeService : Service → Service → Type 0)
    (AlikeNode : Node → Node → Type 0) (t : Tables) (all : List Change) (span : Span)
    → Touching (λ c s. Touches may AlikeTask AlikeService AlikeNode t s c) all all span span
none_touched may AlikeTask AlikeService AlikeNode t all span =
    none-touched (λ c s. Touches may AlikeTask AlikeService AlikeNode t s c) all span

pub one_touched : (may : Task → Bool) (AlikeTask : Task → Task → Type 0) (AlikeService : Service → Service → Type 0)
    (AlikeNode : Node → Node → Type 0) (t : Tables) (all left rest : List Change) (first span wide : Span) (c : Change)
    → Touching (λ c s. Touches may AlikeTask AlikeService AlikeNode t s c) all left first span → left ≡ c ∷ rest
    → IsWider wide span → Touches may AlikeTask AlikeService AlikeNode t wide c
    → Touching (λ c s. Touches may AlikeTask AlikeService AlikeNode t s c) all rest first wide
one_touched may AlikeTask AlikeService AlikeNode t all left rest first span wide c =
    one-touched (λ c s. Touches may AlikeTask AlikeService AlikeNode t s c)
    (λ c span wide. touches-wider may AlikeTask AlikeService AlikeNode t span wide c) all left rest first span wide c

pub all_touched : (may : Task → Bool) (AlikeTask : Task → Task → Type 0) (AlikeService : Service → Service → Type 0)
    (AlikeNode : Node → Node → Type 0) (t : Tables) (all left : List Change) (first span : Span)
    → Touching (λ c s. Touches may AlikeTask AlikeService AlikeNode t s c) all left first span → length left ≡ 0
    → TouchesAll may AlikeTask AlikeService AlikeNode t span all
all_touched may AlikeTask AlikeService AlikeNode t all left first span a none =
    record { each = all-touched (λ c s. Touches may AlikeTask AlikeService AlikeNode t s c) all left first span a none }

pub touched_wider : (P : Change → Span → Type 0) (all left : List Change) (first span : Span)
    → Touching P all left first span → IsWider span first
touched_wider P all left first span a = a.wider

pub ruleset all_steps = (none_touched, one_touched, all_touched, touched_wider)

-- Nodes that are READY.

pub ready_added : (span wide : Span) (c : Change) (m : Node) → c ≡ change.PutNode m → wide ≡ with_id span m.id
    → TouchesReady wide c
ready_added span wide c m is e = record {
  node = λ n k above ready.
      let one : change.PutNode m ≡ change.PutNode n = sym is ∙ k in
      let same : n ≡ m = cc in
      subst (λ s. is_in s n.id ≡ true) (sym e)
      (subst (λ i. is_in (with_id span i) n.id ≡ true) (ap node_id same) (own-with span n.id above));
}

pub not_ready : (wide : Span) (c : Change) (m : Node) → c ≡ change.PutNode m → false ≡ is_ready m.state
    → TouchesReady wide c
not_ready wide c m is e = record {
  node = λ n k above ready.
      let one : change.PutNode m ≡ change.PutNode n = sym is ∙ k in
      let same : n ≡ m = cc in
      let both : false ≡ true = e ∙ ap (λ n. is_ready n.state) (sym same) ∙ ready in
      absurd cc;
}

pub ready_task : (wide : Span) (c : Change) (y : Task) → c ≡ change.PutTask y → TouchesReady wide c
ready_task wide c y is =
    record { node = λ n k. let other : change.PutTask y ≡ change.PutNode n = sym is ∙ k in absurd cc }

pub ready_service : (wide : Span) (c : Change) (s : Service) → c ≡ change.PutService s → TouchesReady wide c
ready_service wide c s is =
    record { node = λ n k. let other : change.PutService s ≡ change.PutNode n = sym is ∙ k in absurd cc }

pub ready_drop : (wide : Span) (c : Change) (id : ℕ) → c ≡ change.DropTask id → TouchesReady wide c
ready_drop wide c id is =
    record { node = λ n k. let other : change.DropTask id ≡ change.PutNode n = sym is ∙ k in absurd cc }

pub ready_keep : (wide : Span) (c : Change) (a : Attempt) → c ≡ change.Keep a → TouchesReady wide c
ready_keep wide c a is =
    record { node = λ n k. let other : change.Keep a ≡ change.PutNode n = sym is ∙ k in absurd cc }

pub ruleset ready_steps =
    (ready_added, not_ready, ready_task, ready_service, ready_drop, ready_keep, wider_with, wider_itself)

pub none_ready : (all : List Change) (span : Span) → Touching (λ c s. TouchesReady s c) all all span span
none_ready all span = none-touched (λ c s. TouchesReady s c) all span

pub one_ready : (all left rest : List Change) (first span wide : Span) (c : Change)
    → Touching (λ c s. TouchesReady s c) all left first span → left ≡ c ∷ rest → IsWider wide span
    → TouchesReady wide c → Touching (λ c s. TouchesReady s c) all rest first wide
one_ready =
    one-touched (λ c s. TouchesReady s c)
    (λ c span wide w has. record { node = λ m e above ready. w.has m.id (has.node m e above ready) })

pub all_ready : (all left : List Change) (first span : Span) → Touching (λ c s. TouchesReady s c) all left first span
    → length left ≡ 0 → TouchesAllReady span all
all_ready all left first span a none =
    record { each = all-touched (λ c s. TouchesReady s c) all left first span a none }

pub ruleset all_ready_steps = (none_ready, one_ready, all_ready, touched_wider)

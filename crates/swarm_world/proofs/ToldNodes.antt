-- Which nodes changes of rows touch, one change after the other.
use Rattle.std.proofs.Common.{◌≡◌, ◌∙◌, ◌∷◌, ℕ, true, List, Option, Some, None, ap, arith, inl, inr, length, nat_le, subst, sym}
use Rattle.std.proofs.lemmas.Bool.Decides.{nat_tests}
use Rattle.std.specs.Prelude.{nat_lt}
use Rattle.swarm_model.proofs.Laws.GivesOut.{on-is}
use Rattle.swarm_objects.proofs.Tests.{both_are}
use Rattle.swarm_objects.specs.Rows.{row_at, task_id}
use Rattle.swarm_objects.specs.Tasks.Words.{is_below_assigned, is_on}
use Rattle.swarm_objects.specs.Values.Ranks.{rank}
use Rattle.swarm_objects.specs.World.{Tables}
use Rattle.swarm_objects.specs.declared.nodes.Node.{Node}
use Rattle.swarm_objects.specs.declared.rows.Change.{Change}
use Rattle.swarm_objects.specs.declared.rows.Change.TheVariants as change
use Rattle.swarm_objects.specs.declared.tasks.Attempt.{Attempt}
use Rattle.swarm_objects.specs.declared.services.Service.{Service}
use Rattle.swarm_objects.specs.declared.tasks.Task.{Task}
use Rattle.swarm_objects.specs.declared.tasks.TaskState.TheVariants as state
use Rattle.swarm_spans.proofs.Grown.{own-with, wider_itself, wider_with, wider_yet}
use Rattle.swarm_spans.proofs.Touches.{all-touched, none-touched, one-touched}
use Rattle.swarm_spans.specs.Spans.{IsWider, is_in, with_id}
use Rattle.swarm_spans.specs.Touched.{Touching}
use Rattle.swarm_spans.specs.declared.span.Span.{Span}
use Rattle.swarm_world.proofs.RowsTurned.{both-touched}
use Rattle.swarm_world.specs.Inside.Touches.{AreTouched, HasNodeOf, IsToldAlike, TellsSame, TouchesAllTold, TouchesTold}
use Rattle.swarm_world.specs.declared.agent_spans.AgentSpans.{AgentSpans}

-- The node of a task.

not-both : (a b : ℕ) → nat_le a b ≡ true → nat_lt b a ≡ true → ⊥
not-both a b le lt = absurd (grind (arith, nat_tests, le, lt))

some-is : (x y : Task) → Some x ≡ Some y → x ≡ y
some-is x y e = cc

pub below_has : (wide : Span) (x : Task) → true ≡ is_below_assigned x → HasNodeOf wide (Some x)
below_has wide x below = record {
  has = λ y node e above on.
      let same = some-is x y e in
      let up = (both_are (nat_le (rank state.Assigned) (rank y.state)) (is_on node y) on).0 in
      absurd (not-both (rank state.Assigned) (rank y.state) up (ap is_below_assigned (sym same) ∙ sym below));
}

pub no_node_has : (wide : Span) (x : Task) → x.node ≡ None → HasNodeOf wide (Some x)
no_node_has wide x none = record {
  has = λ y node e above on.
      let same = some-is x y e in
      let is = on-is y.node node (both_are (nat_le (rank state.Assigned) (rank y.state)) (is_on node y) on).1 in
      let both : None ≡ Some node = sym none ∙ ap (λ (z : Task). z.node) same ∙ is in
      absurd cc;
}

pub added_has : (span wide : Span) (x : Task) (n : ℕ) → x.node ≡ Some n → wide ≡ with_id span n → HasNodeOf wide (Some x)
added_has span wide x n at is = record {
  has = λ y node e above on.
      let same = some-is x y e in
      let on = on-is y.node node (both_are (nat_le (rank state.Assigned) (rank y.state)) (is_on node y) on).1 in
      let one : Some n ≡ Some node = sym at ∙ ap (λ (z : Task). z.node) same ∙ on in
      let number : n ≡ node = cc in
      subst (λ s. is_in s node ≡ true) (sym is)
      (subst (λ k. is_in (with_id span k) node ≡ true) (sym number) (own-with span node above));
}

pub ruleset node_steps = (below_has, no_node_has, added_has, wider_itself, wider_with)

pub none_former : (wide : Span) (t : Tables) (id : ℕ) → None ≡ row_at task_id id t.tasks →
    HasNodeOf wide (row_at task_id id t.tasks)
none_former wide t id none = record {
  has = λ x node e above on. let both : None ≡ Some x = none ∙ e in absurd cc;
}

pub some_former : (wide : Span) (t : Tables) (id : ℕ) (x : Task) → Some x ≡ row_at task_id id t.tasks →
    HasNodeOf wide (Some x) → HasNodeOf wide (row_at task_id id t.tasks)
some_former wide t id x is has = subst (HasNodeOf wide) is has

pub ruleset former_steps = (none_former, some_former, wider_itself)

-- One change.

has-wider : (span wide : Span) (o : Option Task) → IsWider wide span → HasNodeOf span o → HasNodeOf wide o
has-wider span wide o wider has = record { has = λ x node e above on. wider.has node (has.has x node e above on) }

none-has : (wide : Span) → HasNodeOf wide None
none-has wide = record { has = λ x node e above on. absurd cc }

pub put_told : (t : Tables) (span wide : Span) (c : Change) (y : Task) → c ≡ change.PutTask y → HasNodeOf span (Some y) →
    IsWider wide span → HasNodeOf wide (row_at task_id y.id t.tasks) → TouchesTold t wide c
put_told t span wide c y is now wider before = record {
  put = λ z e.
      let one : change.PutTask y ≡ change.PutTask z = sym is ∙ e in
      let same : y ≡ z = cc in
      subst (λ (x : Task). TellsSame t wide x.id (Some x)) same
      (both-touched t wide y.id (Some y) (has-wider span wide (Some y) wider now) before);
  drop = λ id e. let other : change.PutTask y ≡ change.DropTask id = sym is ∙ e in absurd cc;
}

pub alike_told : (t : Tables) (wide : Span) (c : Change) (y : Task) → c ≡ change.PutTask y →
    IsToldAlike y (row_at task_id y.id t.tasks) → TouchesTold t wide c
alike_told t wide c y is alike = record {
  put = λ z e.
      let one : change.PutTask y ≡ change.PutTask z = sym is ∙ e in
      let same : y ≡ z = cc in
      subst (λ (x : Task). TellsSame t wide x.id (Some x)) same (λ node above. inr (alike node));
  drop = λ id e. let other : change.PutTask y ≡ change.DropTask id = sym is ∙ e in absurd cc;
}

pub drop_told : (t : Tables) (wide : Span) (c : Change) (id : ℕ) → c ≡ change.DropTask id →
    HasNodeOf wide (row_at task_id id t.tasks) → TouchesTold t wide c
drop_told t wide c id is before = record {
  put = λ z e. let other : change.DropTask id ≡ change.PutTask z = sym is ∙ e in absurd cc;
  drop = λ k e.
      let one : change.DropTask id ≡ change.DropTask k = sym is ∙ e in
      let same : id ≡ k = cc in
      subst (λ n. TellsSame t wide n None) same (both-touched t wide id None (none-has wide) before);
}

pub node_told : (t : Tables) (wide : Span) (c : Change) (n : Node) → c ≡ change.PutNode n → TouchesTold t wide c
node_told t wide c n is = record {
  put = λ z e. let other : change.PutNode n ≡ change.PutTask z = sym is ∙ e in absurd cc;
  drop = λ k e. let other : change.PutNode n ≡ change.DropTask k = sym is ∙ e in absurd cc;
}

pub service_told : (t : Tables) (wide : Span) (c : Change) (s : Service) → c ≡ change.PutService s → TouchesTold t wide c
service_told t wide c s is = record {
  put = λ z e. let other : change.PutService s ≡ change.PutTask z = sym is ∙ e in absurd cc;
  drop = λ k e. let other : change.PutService s ≡ change.DropTask k = sym is ∙ e in absurd cc;
}

pub keep_told : (t : Tables) (wide : Span) (c : Change) (a : Attempt) → c ≡ change.Keep a → TouchesTold t wide c
keep_told t wide c a is = record {
  put = λ z e. let other : change.Keep a ≡ change.PutTask z = sym is ∙ e in absurd cc;
  drop = λ k e. let other : change.Keep a ≡ change.DropTask k = sym is ∙ e in absurd cc;
}

pub ruleset change_steps = (put_told, alike_told, drop_told, node_told, service_told, keep_told, wider_itself, wider_yet)

-- All changes.

same-wider : (t : Tables) (span wide : Span) (id : ℕ) (o : Option Task) → IsWider wide span → TellsSame t span id o →
    TellsSame t wide id o
same-wider t span wide id o wider same node above =
    elim (same node above) [ inl i ↦ inl (wider.has node i) | inr e ↦ inr e ]

told-wider : (t : Tables) (c : Change) (span wide : Span) → IsWider wide span → TouchesTold t span c → TouchesTold t wide c
told-wider t c span wide wider has = record {
  put = λ y e. same-wider t span wide y.id (Some y) wider (has.put y e);
  drop = λ id e. same-wider t span wide id None wider (has.drop id e);
}

pub told_none : (t : Tables) (all : List Change) (span : Span) → Touching (λ c s. TouchesTold t s c) all all span span
told_none t all span = none-touched (λ c s. TouchesTold t s c) all span

pub told_one : (t : Tables) (all left rest : List Change) (first span wide : Span) (c : Change) →
    Touching (λ c s. TouchesTold t s c) all left first span → left ≡ c ∷ rest → IsWider wide span →
    TouchesTold t wide c → Touching (λ c s. TouchesTold t s c) all rest first wide
told_one t all left rest first span wide c =
    one-touched (λ c s. TouchesTold t s c) (told-wider t) all left rest first span wide c

pub told_all : (t : Tables) (all left : List Change) (first span : Span) →
    Touching (λ c s. TouchesTold t s c) all left first span → length left ≡ 0 → TouchesAllTold t span all
told_all t all left first span a none = record { each = all-touched (λ c s. TouchesTold t s c) all left first span a none }

pub ruleset all_steps = (told_none, told_one, told_all)

-- Both spans.

pub told_joined : (t : Tables) (cs : List Change) (nodes : Span) (spans wide : AgentSpans) → TouchesAllTold t nodes cs →
    IsWider wide.duties spans.duties → IsWider wide.duties nodes → IsWider wide.tells spans.tells →
    IsWider wide.tells nodes → wide.news ≡ spans.news → wide.waits ≡ spans.waits → wide.steps ≡ spans.steps →
    wide.wakes ≡ spans.wakes → AreTouched t spans wide cs
told_joined t cs nodes spans wide touches duties all-duties tells all-tells same waits steps wakes = record {
  duties = record { wider = duties; touches = both wide.duties all-duties };
  tells = record { wider = tells; touches = both wide.tells all-tells };
  news = same;
  waits = waits;
  wakes = wakes;
  steps = steps;
}
  where
    both : (span : Span) → IsWider span nodes → TouchesAllTold t span cs
    both span wider = record { each = λ c h. told-wider t c nodes span wider (touches.each c h) }

pub ruleset join_steps = (told_joined)

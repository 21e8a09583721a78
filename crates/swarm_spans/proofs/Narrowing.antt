-- A span narrowed from both ends: rows that pass a test are in the narrow one, or in what is left of the wide one.
use Rattle.std.proofs.Common.{◌≡◌, ◌<◌, ◌∙◌, ℕ, Bool, List, None, Option, Some, ap, false, refl, subst, sym, true}
use Rattle.std.specs.Prelude.{find, is_some, not, ◌&&◌}
use Rattle.swarm_objects.proofs.RowLemmas.{number_above}
use Rattle.swarm_objects.proofs.Tests.{both_are, find_has}
use Rattle.swarm_objects.specs.Rows.{Has, RisesFrom, first_of, task_id}
use Rattle.swarm_objects.specs.Usable.{IsUsable}
use Rattle.swarm_objects.specs.World.{Tables}
use Rattle.swarm_objects.specs.declared.duties.Duty.{Duty}
use Rattle.swarm_objects.specs.declared.tasks.Task.{Task}
use Rattle.swarm_spans.proofs.Grown.{own-with, wider_itself, wider_with}
use Rattle.swarm_spans.proofs.InSpans.{first-none, nothing-passes, passed}
use Rattle.swarm_spans.specs.Spans.{Covers, HasDutyOf, IsWider, beyond, has_duty, is_in, is_left_out, with_id}
use Rattle.swarm_spans.specs.declared.span.Span.{Span}

-- One task.

pub duty_added : (duties : Task → List Duty) (x : Task) (span wide : Span) → wide ≡ with_id span x.id
    → HasDutyOf duties x span wide
duty_added duties x span wide is = record {
  wider = wider_with span wide x.id is;
  own = λ positive d. subst (λ s. is_in s x.id ≡ true) (sym is) (own-with span x.id positive);
}

pub no_duty : (duties : Task → List Duty) (x : Task) (span : Span) (o : Option Duty) → o ≡ first_of (duties x)
    → false ≡ is_some o → HasDutyOf duties x span span
no_duty duties x span o is none = record {
  wider = wider_itself span;
  own = λ positive d. let both : false ≡ true = none ∙ ap is_some is ∙ d in absurd cc;
}

pub ruleset duty_steps = (duty_added, no_duty)

-- All rows.

pub narrow_begins : {X : Type 0} (key : X → ℕ) (test : X → Bool) (narrow span : Span) (rows : List X)
    → Covers key test span rows → Covers key (is_left_out key test narrow) span rows
narrow_begins key test narrow span rows c = record {
  has = λ x h e. c.has x h (both_are (test x) (not (is_in narrow (key x))) e).0;
}

pub narrow_passes : {X : Type 0} (key : X → ℕ) (test : X → Bool) (rows : List X) (narrow wide left : Span) (x : X)
    → RisesFrom key 0 rows → Covers key (is_left_out key test narrow) left rows
    → find (λ y. is_in left (key y)) rows ≡ Some x → IsWider wide narrow
    → (0 < key x → test x ≡ true → is_in wide (key x) ≡ true)
    → Covers key (is_left_out key test wide) (beyond left (key x)) rows
narrow_passes {X} key test rows narrow wide left x rises c found wider own = record {
  has =
      passed key (is_left_out key test wide) left 0 rows x rises (record { has = λ y h e. c.has y h (was y e) }) found
      (fails (test x) refl (is_in wide (key x)) refl);
}
  where
    was : (y : X) → is_left_out key test wide y ≡ true → is_left_out key test narrow y ≡ true
    was y e =
        let two = both_are (test y) (not (is_in wide (key y))) e in
        go (is_in narrow (key y)) refl two.0 two.1
      where
        go : (b : Bool) → is_in narrow (key y) ≡ b → test y ≡ true → not (is_in wide (key y)) ≡ true
            → (test y && not b) ≡ true
        go true i d out =
            let both : false ≡ true = sym (ap not (wider.has (key y) i)) ∙ out in
            absurd cc
        go false i d out = ap (λ b. b && true) d

    fails : (d : Bool) → test x ≡ d → (i : Bool) → is_in wide (key x) ≡ i → (d && not i) ≡ false
    fails false d i e = refl
    fails true d true e = refl
    fails true d false e =
        let there : Has rows x = (find_has (λ y. is_in left (key y)) rows x found).0 in
        let positive : 0 < key x = number_above key 0 rows x rises there in
        let both : true ≡ false = sym (own positive d) ∙ e in
        absurd cc

pub narrow_goes_on : (duties : Task → List Duty) (t : Tables) (narrow wide left : Span) (x : Task) → IsUsable t
    → Covers task_id (is_left_out task_id (has_duty duties) narrow) left t.tasks
    → Some x ≡ find (λ y. is_in left y.id) t.tasks → HasDutyOf duties x narrow wide
    → Covers task_id (is_left_out task_id (has_duty duties) wide) (beyond left x.id) t.tasks
narrow_goes_on duties t narrow wide left x usable c found has =
    narrow_passes task_id (has_duty duties) t.tasks narrow wide left x usable.sound.ordered.tasks c (sym found) has.wider
    has.own

pub narrow_ends : {X : Type 0} (key : X → ℕ) (test : X → Bool) (narrow left : Span) (rows : List X)
    → Covers key (is_left_out key test narrow) left rows → None ≡ find (λ y. is_in left (key y)) rows
    → Covers key test narrow rows
narrow_ends {X} key test narrow left rows c none = record {
  has = λ x h passes.
      go x passes (is_in narrow (key x)) refl
      (nothing-passes (is_left_out key test narrow) rows
      (first-none key (is_left_out key test narrow) left rows c (sym none)) x h);
}
  where
    go : (x : X) → test x ≡ true → (b : Bool) → is_in narrow (key x) ≡ b
        → (test x && not (is_in narrow (key x))) ≡ false → b ≡ true
    go x passes true i out = refl
    go x passes false i out =
        let both : true ≡ false = sym (ap (λ b. test x && not b) i ∙ ap (λ b. b && true) passes) ∙ out in
        absurd cc

-- Spans that get rows.
use Rattle.std.proofs.Common.{◌≡◌, ℕ, ◌<◌, ◌≤◌, Bool, false, true, ◌⊎◌, inl, inr, List, [], ◌∷◌, Some, refl, sym, ap, ◌∙◌, subst, arith}
use Rattle.std.proofs.lemmas.Bool.Decides.{nat_tests}
use Rattle.std.specs.Option.{option_eq}
use Rattle.std.specs.Prelude.{◌==◌, ◌&&◌, ◌^◌, filter, max, min, nat_le, nat_lt}
use Rattle.swarm_objects.proofs.RowLemmas.{Has-filter, Has-filter_cases, number_above}
use Rattle.swarm_objects.proofs.Tests.{both_are}
use Rattle.swarm_objects.specs.Rows.{Has, task_id}
use Rattle.swarm_objects.specs.Same.{same_number}
use Rattle.swarm_objects.specs.Tasks.Words.{is_of, is_on}
use Rattle.swarm_objects.specs.Usable.{IsUsable}
use Rattle.swarm_objects.specs.World.{Tables}
use Rattle.swarm_objects.specs.declared.tasks.Task.{Task}
use Rattle.swarm_spans.specs.Bits.{has_bit}
use Rattle.swarm_spans.proofs.HasBits.{all_have, more_bits, own_bit}
use Rattle.swarm_spans.specs.Grown.{Adding}
use Rattle.swarm_spans.specs.Spans.{full, is_in, IsWider, onwards, with_id}
use Rattle.swarm_spans.specs.Touched.{HasTasksOf, HasTasksOn}
use Rattle.swarm_spans.specs.declared.span.Span.{Span}

pub wider_itself : (span : Span) → IsWider span span
wider_itself span = record { has = λ id h. h }

pub wider_yet : (a b c : Span) → IsWider b a → IsWider c b → IsWider c a
wider_yet a b c f g = record { has = λ id h. g.has id (f.has id h) }

-- Numbers in a span are between its ends, and their bits are set.

pub bit-of : (span : Span) (id : ℕ) → is_in span id ≡ true → has_bit span.bits id ≡ true
bit-of span id i = (both_are (nat_lt span.after id && nat_le id span.high) (has_bit span.bits id) i).1

pub is-between : (span : Span) (id : ℕ) → span.after < id → id ≤ span.high → has_bit span.bits id ≡ true → is_in span id ≡ true
is-between span id after high bit = grind (arith, nat_tests, after, high, bit)

pub low-end : (span : Span) (id : ℕ) → is_in span id ≡ true → span.after < id
low-end span id i = grind (arith, nat_tests, i)

pub high-end : (span : Span) (id : ℕ) → is_in span id ≡ true → id ≤ span.high
high-end span id i = grind (arith, nat_tests, i)

pub in-full : (id : ℕ) → 0 < id → id < 2 ^ 60 → is_in full id ≡ true
in-full id above below = is-between full id above (omega (arith, below)) (all_have id)

pub in-onwards : (first id bound : ℕ) → first ≤ id → id < bound → bound < 2 ^ 60 → 0 < id → is_in (onwards first) id ≡ true
in-onwards first id bound from below near positive =
    is-between (onwards first) id (omega (arith, from, positive)) (omega (arith, below, near)) (all_have id)

-- one that is over has nothing that another hasn't
pub wider_over : (wide span : Span) → true ≡ nat_le span.high span.after → IsWider wide span
wider_over wide span over = record {
  has = λ id i.
      let le : span.high ≤ span.after = grind (arith, nat_tests, over) in
      absurd (omega (arith, le, low-end span id i, high-end span id i));
}

pub ruleset over_steps = (wider_itself, wider_over)

pub over_holds : (wide span : Span) (test : Bool) → true ≡ nat_le span.high span.after → test ≡ true → IsWider wide span
over_holds wide span test over e = wider_over wide span over

pub none_holds : (wide span : Span) (test : Bool) → false ≡ test → test ≡ true → IsWider wide span
none_holds wide span test none e = absurd (let both : false ≡ true = none ∙ e in cc)

pub ruleset waiting_steps = (wider_itself, over_holds, none_holds)

pub in-with : (span : Span) (id k : ℕ) → is_in span k ≡ true → is_in (with_id span id) k ≡ true
in-with span id k h =
    is-between (with_id span id) k (omega (arith, low-end span k h)) (omega (arith, high-end span k h))
    (more_bits span.bits id k (bit-of span k h))

pub own-with : (span : Span) (id : ℕ) → 0 < id → is_in (with_id span id) id ≡ true
own-with span id above = is-between (with_id span id) id (omega (arith, above)) (omega arith) (own_bit span.bits id)

pub wider_with : (span wide : Span) (id : ℕ) → wide ≡ with_id span id → IsWider wide span
wider_with span wide id is =
    record { has = λ k h. subst (λ s. is_in s k ≡ true) (sym is) (in-with span id k h) }

-- before the first row
pub nothing_added : (all : List Task) (span : Span) → Adding all all span span
nothing_added all span = record { wider = wider_itself span; each = λ y h. inr h; fewer = λ y h. h }

-- one row more
pub one_added : (p : Task → Bool) (t : Tables) (items rest : List Task) (first span wide : Span) (x : Task) → IsUsable t
    → Adding (filter p t.tasks) items first span → items ≡ x ∷ rest → wide ≡ with_id span x.id
    → Adding (filter p t.tasks) rest first wide
one_added p t items rest first span wide x usable a step is = record {
  wider = wider_yet first span wide a.wider (wider_with span wide x.id is);
  each = λ y h.
      elim (a.each y h) [
        | inl i ↦ inl (subst (λ s. is_in s y.id ≡ true) (sym is) (in-with span x.id y.id i))
        | inr left ↦ now y (subst (λ list. Has list y) step left)
      ];
  fewer = λ y h. a.fewer y (subst (λ list. Has list y) (sym step) (inr h));
}
  where
    there : Has t.tasks x
    there = (Has-filter_cases p t.tasks x (a.fewer x (subst (λ list. Has list x) (sym step) (inl refl)))).0

    now : (y : Task) → ((x ≡ y) ⊎ Has rest y) → (is_in wide y.id ≡ true) ⊎ Has rest y
    now y (inl same) =
        let own : is_in (with_id span x.id) x.id ≡ true =
        own-with span x.id (number_above task_id 0 t.tasks x usable.sound.ordered.tasks there) in
        inl (subst (λ s. is_in s y.id ≡ true) (sym is) (subst (λ z. is_in (with_id span x.id) z.id ≡ true) same own))
    now y (inr h) = inr h

-- all rows
pub all_added : (service : ℕ) (t : Tables) (items : List Task) (first span : Span)
    → Adding (filter (is_of service) t.tasks) items first span → items ≡ [] → HasTasksOf service t span
all_added service t items first span a none = record {
  tasks = λ y h e.
      let of : is_of service y ≡ true = grind (arith, nat_tests, e) in
      elim (a.each y (Has-filter (is_of service) t.tasks y h of)) [
        | inl i ↦ i
        | inr left ↦ absurd (subst (λ list. Has list y) none left)
      ];
}

pub all_added_on : (node : ℕ) (t : Tables) (items : List Task) (first span : Span)
    → Adding (filter (is_on node) t.tasks) items first span → items ≡ [] → HasTasksOn node t span
all_added_on node t items first span a none = record {
  tasks = λ y h e.
      let self : (node == node) ≡ true = grind (arith, nat_tests) in
      let on : is_on node y ≡ true = ap (λ o. option_eq same_number o (Some node)) e ∙ self in
      elim (a.each y (Has-filter (is_on node) t.tasks y h on)) [
        | inl i ↦ i
        | inr left ↦ absurd (subst (λ list. Has list y) none left)
      ];
}

pub is_wider : (all items : List Task) (first span : Span) → Adding all items first span → IsWider span first
is_wider all items first span a = a.wider

pub ruleset adding_steps = (nothing_added, one_added, all_added, is_wider)

-- both of two
has-all : (b c : Span) → ((id : ℕ) → has_bit b.bits id ≡ true → has_bit c.bits id ≡ true) → b.high ≤ c.high
    → c.after ≤ b.after → IsWider c b
has-all b c bits most least = record {
  has = λ id h.
      is-between c id (omega (arith, least, low-end b id h)) (omega (arith, most, high-end b id h))
      (bits id (bit-of b id h));
}

pub joined_left : (a b c : Span) → c.after ≡ min a.after b.after → c.high ≡ max a.high b.high
    → ((id : ℕ) → has_bit a.bits id ≡ true → has_bit c.bits id ≡ true) → IsWider c a
joined_left a b c after high bits = has-all a c bits (omega (arith, high)) (omega (arith, after))

pub joined_right : (a b c : Span) → c.after ≡ min a.after b.after → c.high ≡ max a.high b.high
    → ((id : ℕ) → has_bit b.bits id ≡ true → has_bit c.bits id ≡ true) → IsWider c b
joined_right a b c after high bits = has-all b c bits (omega (arith, high)) (omega (arith, after))

pub ruleset join_steps = (joined_left, joined_right)

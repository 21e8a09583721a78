-- Words whose time has come.
use Rattle.std.proofs.Common.{◌≡◌, ◌≢◌, ◌∙◌, ◌<◌, ◌≤◌, ◌^◌, ◌==◌, ◌⊎◌, ◌+◌, ◌-◌, Bool, ap, arith, false, get_or, inl, inr, refl, set, subst, sym, true, ℕ}
use Rattle.std.proofs.lemmas.Bool.Decides.{nat_tests}
use Rattle.std.proofs.lemmas.List.{get_or-set_other}
use Rattle.swarm_spans.proofs.Grown.{is-between, wider_yet}
use Rattle.swarm_spans.proofs.HasBits.{own_word}
use Rattle.swarm_spans.specs.Bits.{no_bits, word_of}
use Rattle.swarm_spans.specs.Spans.{all_of_word, is_in, IsWider}
use Rattle.swarm_spans.specs.Wakes.{wake_at}
use Rattle.swarm_spans.specs.declared.span.Span.{Span}
use Rattle.swarm_spans.specs.declared.wakes.Wakes.{Wakes}

-- A span with a word.

pub word_all : (wide word : Span) (n : ℕ) → word ≡ all_of_word n → IsWider wide word → (id : ℕ) → word_of id ≡ n
    → 0 < id → id < 2 ^ 64 → is_in wide id ≡ true
word_all wide word n is more id of positive near =
    more.has id
    (subst (λ s. is_in s id ≡ true) (sym is)
    (is-between (all_of_word n) id positive (omega (arith, near)) (own_word no_bits id n of)))

-- Words below the place: their numbers are in the span, or their time is as before and hasn't come.

pub record AreWoken (now place : ℕ) (first w : Wakes) (narrow span : Span) : Type 0 where
  pub wider : IsWider span narrow
  pub below : (id : ℕ) → word_of id < place → 0 < id → id < 2 ^ 64
      → (is_in span id ≡ true) ⊎ ((now < wake_at first id) × (wake_at w id ≡ wake_at first id))
  pub rest : (id : ℕ) → place ≤ word_of id → wake_at w id ≡ wake_at first id

pub word_woken : (now place : ℕ) (first w : Wakes) (narrow span wide : Span) → AreWoken now place first w narrow span
    → IsWider wide span → ((id : ℕ) → word_of id ≡ place → 0 < id → id < 2 ^ 64 → is_in wide id ≡ true)
    → AreWoken now (place + 1) first (record { times = set w.times place (2 ^ 64 - 1) }) narrow wide
word_woken now place first w narrow span wide a more all = record {
  wider = wider_yet narrow span wide a.wider more;
  below = λ id lt positive near. below id lt positive near (word_of id == place) refl;
  rest = λ id le.
      let differ : word_of id ≢ place = λ e. absurd (omega (arith, e, le)) in
      get_or-set_other w.times place (word_of id) (2 ^ 64 - 1) 0 differ ∙ a.rest id (omega (arith, le));
}
  where
    below : (id : ℕ) → word_of id < place + 1 → 0 < id → id < 2 ^ 64 → (b : Bool) → (word_of id == place) ≡ b
        → (is_in wide id ≡ true)
        ⊎ ((now < wake_at first id)
        × (wake_at (record { times = set w.times place (2 ^ 64 - 1) }) id ≡ wake_at first id))
    below id lt positive near true e =
        let same : word_of id ≡ place = grind (arith, nat_tests, e) in
        inl (all id same positive near)
    below id lt positive near false e =
        let differ : word_of id ≢ place = grind (arith, nat_tests, e) in
        elim (a.below id (omega (arith, lt, differ)) positive near) [
          | inl has ↦ inl (more.has id has)
          | inr sleeps ↦
              inr (sleeps.0, get_or-set_other w.times place (word_of id) (2 ^ 64 - 1) 0 differ ∙ sleeps.1)
        ]

pub word_sleeps : (now place : ℕ) (first w : Wakes) (narrow span : Span) → AreWoken now place first w narrow span
    → now < get_or w.times place 0 → AreWoken now (place + 1) first w narrow span
word_sleeps now place first w narrow span a later = record {
  wider = a.wider;
  below = λ id lt positive near. below id lt positive near (word_of id == place) refl;
  rest = λ id le. a.rest id (omega (arith, le));
}
  where
    below : (id : ℕ) → word_of id < place + 1 → 0 < id → id < 2 ^ 64 → (b : Bool) → (word_of id == place) ≡ b
        → (is_in span id ≡ true) ⊎ ((now < wake_at first id) × (wake_at w id ≡ wake_at first id))
    below id lt positive near true e =
        let same : word_of id ≡ place = grind (arith, nat_tests, e) in
        let is : wake_at w id ≡ wake_at first id = a.rest id (omega (arith, same)) in
        let at : wake_at w id ≡ get_or w.times place 0 = ap (λ n. get_or w.times n 0) same in
        inr (omega (arith, later, is, at), is)
    below id lt positive near false e =
        let differ : word_of id ≢ place = grind (arith, nat_tests, e) in
        a.below id (omega (arith, lt, differ)) positive near

-- The test that a field has a word, and what it says.
use Rattle.std.proofs.Common.{◌≡◌, ℕ, ◌^◌, List, [], ◌∷◌, map, Bool, true, false, refl, Option, Some, None}
use Rattle.std.specs.List.{AllByRecursion, filter_map, cons_option, list_all}
use Rattle.std.specs.Prelude.{unwrap_or}
use Rattle.swarm_objects.proofs.Tests.{both, both_are}
use Rattle.swarm_objects.specs.declared.services.Mode.TheVariants as mode
use Rattle.swarm_objects.specs.declared.templates.End.TheVariants as end
use Rattle.swarm_objects.specs.declared.templates.Port.{Port}
use Rattle.script_grammar.specs.declared.fields.Field.{Field}
use Rattle.script_grammar.specs.declared.fields.Field.TheVariants as field
use Rattle.script_grammar.specs.Drafts.{named_or}
use Rattle.swarm_filters.specs.Grammar.{is_name}
use Rattle.script_grammar.specs.HasText.{has_number, has_word, is_byte, is_number, is_port, port_has_text, where_some}
use Rattle.script_grammar.proofs.AllSpelled.{IsPort, IsPortNumber, IsSomeNumber, IsSpellable}
use Rattle.script_grammar.proofs.Numbers.{below_only, below_yes}

-- ## From the test

port_number_is : (o : Option ℕ) → where_some is_port o ≡ true → IsPortNumber o
port_number_is None h = tt
port_number_is (Some n) h = below_only n 65536 h

port_is : (p : Port) → port_has_text p ≡ true → IsPort p
port_is p h =
    let b = both_are (is_port p.target) (where_some is_port p.number) h in
    (below_only p.target 65536 b.0, port_number_is p.number b.1)

some_is : (o : Option ℕ) → (elim o [ Some n ↦ true | None ↦ false ]) ≡ true → IsSomeNumber o
some_is (Some n) h = tt
some_is None h = cc

pub spellable : (f : Field) → has_word f ≡ true → IsSpellable f
spellable (field.Number w n) h = below_only n (2 ^ 64) h
spellable (field.Mode (mode.Replicated n)) h = below_only n (2 ^ 64) h
spellable (field.Mode mode.Global) h = tt
spellable (field.Mode (mode.Job c t)) h = let b = both_are (is_number c) (is_number t) h in (below_only c (2 ^ 64) b.0, below_only t (2 ^ 64) b.1)
spellable (field.End end.Never) h = cc
spellable (field.End (end.Exit ms code)) h = let b = both_are (is_number ms) (is_byte code) h in (below_only ms (2 ^ 64) b.0, below_only code 256 b.1)
spellable (field.End end.Reject) h = tt
spellable (field.Label k v) h = both_are (is_name k) (is_name v) h
spellable (field.Engine k v) h = both_are (is_name k) (is_name v) h
spellable (field.Platform p) h = both_are (is_name p.os) (is_name p.arch) h
spellable (field.Os n) h = h
spellable (field.Arch n) h = h
spellable (field.Net n) h = h
spellable (field.Spread k) h = h
spellable (field.Constraint c) h = h
spellable (field.Port p) h = port_is p h
spellable (field.Host p) h = let b = both_are (port_has_text p) (has_number p) h in (port_is p b.0, some_is p.number b.1)
spellable (field.Role x) h = tt
spellable (field.Availability x) h = tt
spellable field.Remote h = tt
spellable (field.Restart x) h = tt
spellable (field.Failure x) h = tt
spellable (field.Order x) h = tt

pub all_spellable : (fs : List Field) → AllByRecursion (λ f. has_word f ≡ true) fs → AllByRecursion IsSpellable fs
all_spellable [] h = tt
all_spellable (f ∷ fs) h = (spellable f h.0, all_spellable fs h.1)

-- ## To the test

port_number_yes : (o : Option ℕ) → IsPortNumber o → where_some is_port o ≡ true
port_number_yes None h = refl
port_number_yes (Some n) h = below_yes n 65536 h

port_yes : (p : Port) → IsPort p → port_has_text p ≡ true
port_yes p h = both _ _ (below_yes p.target 65536 h.0) (port_number_yes p.number h.1)

some_yes : (o : Option ℕ) → IsSomeNumber o → (elim o [ Some n ↦ true | None ↦ false ]) ≡ true
some_yes (Some n) h = refl
some_yes None h = absurd h

pub wordy : (f : Field) → IsSpellable f → has_word f ≡ true
wordy (field.Number w n) h = below_yes n (2 ^ 64) h
wordy (field.Mode (mode.Replicated n)) h = below_yes n (2 ^ 64) h
wordy (field.Mode mode.Global) h = refl
wordy (field.Mode (mode.Job c t)) h = both _ _ (below_yes c (2 ^ 64) h.0) (below_yes t (2 ^ 64) h.1)
wordy (field.End end.Never) h = absurd h
wordy (field.End (end.Exit ms code)) h = both _ _ (below_yes ms (2 ^ 64) h.0) (below_yes code 256 h.1)
wordy (field.End end.Reject) h = refl
wordy (field.Label k v) h = both _ _ h.0 h.1
wordy (field.Engine k v) h = both _ _ h.0 h.1
wordy (field.Platform p) h = both _ _ h.0 h.1
wordy (field.Os n) h = h
wordy (field.Arch n) h = h
wordy (field.Net n) h = h
wordy (field.Spread k) h = h
wordy (field.Constraint c) h = h
wordy (field.Port p) h = port_yes p h
wordy (field.Host p) h = both _ _ (port_yes p h.0) (some_yes p.number h.1)
wordy (field.Role x) h = refl
wordy (field.Availability x) h = refl
wordy field.Remote h = refl
wordy (field.Restart x) h = refl
wordy (field.Failure x) h = refl
wordy (field.Order x) h = refl

-- ## Lists

pub of_all : {A : Type 0} (p : A → Bool) (xs : List A) → AllByRecursion (λ x. p x ≡ true) xs → list_all p xs ≡ true
of_all p [] h = refl
of_all p (x ∷ xs) h = both (p x) (list_all p xs) h.0 (of_all p xs h.1)

-- each field of the list has a word
abbrev pub Wordy : List Field → Type 0
Wordy = AllByRecursion (λ f. has_word f ≡ true)

-- the fields that a look-up's value writes have words, where those that it looks at have
pub once_wordy : {A : Type 0} (p : Field → Option A) (piece : A → List Field) (d : A) → Wordy (piece d) →
    ((f : Field) (v : A) → p f ≡ Some v → has_word f ≡ true → Wordy (piece v)) → (fs : List Field) → Wordy fs → Wordy (piece (named_or p d fs))
once_wordy p piece d none one [] h = none
once_wordy {A} p piece d none one (f ∷ fs) h = go (p f) refl (once_wordy p piece d none one fs h.1) where
  go : (o : Option A) → p f ≡ o → Wordy (piece (named_or p d fs)) → Wordy (piece (unwrap_or o (named_or p d fs)))
  go None e ih = ih
  go (Some v) e ih = one f v e h.0

pub many_wordy : {A : Type 0} (p : Field → Option A) (make : A → Field) → ((f : Field) (v : A) → p f ≡ Some v → has_word f ≡ true → has_word (make v) ≡ true) →
    (fs : List Field) → Wordy fs → Wordy (map make (filter_map p fs))
many_wordy p make one [] h = tt
many_wordy {A} p make one (f ∷ fs) h = go (p f) refl (many_wordy p make one fs h.1) where
  go : (o : Option A) → p f ≡ o → Wordy (map make (filter_map p fs)) → Wordy (map make (cons_option o (filter_map p fs)))
  go None e ih = ih
  go (Some v) e ih = (one f v e h.0, ih)

-- One byte more, between the places of a text.
use Rattle.std.proofs.Common.{◌≡◌, ℕ, ◌+◌, ◌<◌, ◌≤◌, List, [], ◌∷◌, ◌++◌, length, Bool, true, false, cond, Some, None, refl, sym, ap, ◌∙◌}
use Rattle.std.specs.Prelude.{slice_index, ◌==◌}
use Rattle.std.proofs.lemmas.Bool.Decides.{Decides-eqb}
use Rattle.swarm_objects.specs.declared.templates.Key.{Key}
use Rattle.swarm_objects.specs.Names.{is_name, is_value}
use Rattle.swarm_filters.specs.Machine.{in_label, in_value, finished, label_key, constraint_with, behind_key, byte_step}
use Rattle.swarm_filters.specs.Inside.States.{part}
use Rattle.swarm_filters.proofs.Places.{part-next}

pub unequal : (a b : ℕ) → (a ≡ b → ⊥) → (a == b) ≡ false
unequal a b never = go (a == b) refl
  where
    go : (x : Bool) → (a == b) ≡ x → x ≡ false
    go false e = refl
    go true e = absurd (never ((Decides-eqb a b).0 e))

-- a label

label_with : (x y : Bool) (text : List ℕ) (from place : ℕ) (g : Bool) → is_name (part text from place ++ slice_index text place ∷ []) ≡ x → is_name (part text from place) ≡ y → byte_step (in_label g (part text from place)) (slice_index text place) ≡ cond x (Some (in_label g (part text from place ++ slice_index text place ∷ []))) (cond y (behind_key (label_key g (part text from place)) (slice_index text place)) None)
label_with x y text from place g longer named =
    ap (λ z. cond z (Some (in_label g (part text from place ++ slice_index text place ∷ []))) (cond (is_name (part text from place)) (behind_key (label_key g (part text from place)) (slice_index text place)) None)) longer
    ∙ ap (λ z. cond x (Some (in_label g (part text from place ++ slice_index text place ∷ []))) (cond z (behind_key (label_key g (part text from place)) (slice_index text place)) None)) named

pub label_goes_on : (text : List ℕ) (from place : ℕ) (g : Bool) → from ≤ place → place < length text → is_name (part text from (place + 1)) ≡ true → Some (in_label g (part text from (place + 1))) ≡ byte_step (in_label g (part text from place)) (slice_index text place)
label_goes_on text from place g order below longer =
    let next : part text from (place + 1) ≡ part text from place ++ slice_index text place ∷ [] = part-next text from place order below in
    ap (λ w. Some (in_label g w)) next ∙ sym (label_with true (is_name (part text from place)) text from place g (ap is_name (sym next) ∙ longer) refl)

pub label_fails : (text : List ℕ) (from place : ℕ) (g : Bool) → from ≤ place → place < length text → is_name (part text from (place + 1)) ≡ false → is_name (part text from place) ≡ false → None ≡ byte_step (in_label g (part text from place)) (slice_index text place)
label_fails text from place g order below longer named =
    sym (label_with false false text from place g (ap is_name (sym (part-next text from place order below)) ∙ longer) named)

pub label_ends : (text : List ℕ) (from place : ℕ) (g : Bool) → from ≤ place → place < length text → is_name (part text from (place + 1)) ≡ false → is_name (part text from place) ≡ true → behind_key (label_key g (part text from place)) (slice_index text place) ≡ byte_step (in_label g (part text from place)) (slice_index text place)
label_ends text from place g order below longer named =
    sym (label_with false true text from place g (ap is_name (sym (part-next text from place order below)) ∙ longer) named)

-- a value

value_with : (x y : Bool) (text : List ℕ) (from place : ℕ) (k : Key) (e : Bool) → (slice_index text place == 32) ≡ x → is_value (part text from place ++ slice_index text place ∷ []) ≡ y → byte_step (in_value k e (part text from place)) (slice_index text place) ≡ cond x (Some (finished (constraint_with k e (part text from place)))) (cond y (Some (in_value k e (part text from place ++ slice_index text place ∷ []))) None)
value_with x y text from place k e space longer =
    ap (λ z. cond z (Some (finished (constraint_with k e (part text from place)))) (cond (is_value (part text from place ++ slice_index text place ∷ [])) (Some (in_value k e (part text from place ++ slice_index text place ∷ []))) None)) space
    ∙ ap (λ z. cond x (Some (finished (constraint_with k e (part text from place)))) (cond z (Some (in_value k e (part text from place ++ slice_index text place ∷ []))) None)) longer

pub value_goes_on : (text : List ℕ) (from place : ℕ) (k : Key) (e : Bool) → from ≤ place → place < length text → (slice_index text place == 32) ≡ false → is_value (part text from (place + 1)) ≡ true → Some (in_value k e (part text from (place + 1))) ≡ byte_step (in_value k e (part text from place)) (slice_index text place)
value_goes_on text from place k e order below space longer =
    let next : part text from (place + 1) ≡ part text from place ++ slice_index text place ∷ [] = part-next text from place order below in
    ap (λ w. Some (in_value k e w)) next ∙ sym (value_with false true text from place k e space (ap is_value (sym next) ∙ longer))

pub value_fails : (text : List ℕ) (from place : ℕ) (k : Key) (e : Bool) → from ≤ place → place < length text → (slice_index text place == 32) ≡ false → is_value (part text from (place + 1)) ≡ false → None ≡ byte_step (in_value k e (part text from place)) (slice_index text place)
value_fails text from place k e order below space longer =
    sym (value_with false false text from place k e space (ap is_value (sym (part-next text from place order below)) ∙ longer))

-- What is written of a key or a constraint is read as it, and what is read can be written.
use Rattle.std.proofs.Common.{◌≡◌, List, ℕ, [], ◌++◌, codes, Some, refl, sym, ap, ◌∙◌}
use Rattle.std.specs.Prelude.{◌&&◌, IsTrue}
use Rattle.std.proofs.lemmas.List.{append-nil}
use Rattle.swarm_objects.specs.declared.templates.Key.{Key}
use Rattle.swarm_objects.specs.declared.templates.Key.TheVariants as key
use Rattle.swarm_objects.specs.declared.templates.Constraint.{Constraint}
use Rattle.swarm_filters.specs.Grammar.{sign_of, IsKey, IsConstraint}
use Rattle.swarm_objects.specs.Names.{is_value}
use Rattle.swarm_filters.specs.Machine.{constraint_of}
use Rattle.swarm_filters.specs.Keys.{key_of}
use Rattle.swarm_filters.specs.Spellings.{key_text, constraint_text, key_has_text, constraint_has_text}
use Rattle.swarm_filters.proofs.Constraints.{constraint_of-complete, constraint_of-sound}
use Rattle.swarm_filters.proofs.KeyTexts.{key_of-complete, key_of-sound}
use Rattle.swarm_filters.proofs.Wholes.{first_true, second_true}

-- keys

pub IsKey-text : (k : Key) → IsTrue (key_has_text k) → IsKey (key_text k) k
IsKey-text key.NodeId has = refl
IsKey-text key.Hostname has = refl
IsKey-text key.Role has = refl
IsKey-text key.Os has = refl
IsKey-text key.Arch has = refl
IsKey-text (key.Label name) has = (codes "node.labels.", (refl, (refl, has)))
IsKey-text (key.Engine name) has = (codes "engine.labels.", (refl, (refl, has)))

pub key_has_text-IsKey : (text : List ℕ) (k : Key) → IsKey text k → IsTrue (key_has_text k)
key_has_text-IsKey text key.NodeId is = refl
key_has_text-IsKey text key.Hostname is = refl
key_has_text-IsKey text key.Role is = refl
key_has_text-IsKey text key.Os is = refl
key_has_text-IsKey text key.Arch is = refl
key_has_text-IsKey text (key.Label name) is = is.1.1.1
key_has_text-IsKey text (key.Engine name) is = is.1.1.1

pub key_of-text : (k : Key) → IsTrue (key_has_text k) → key_of (key_text k) ≡ Some k
key_of-text k has = key_of-complete (key_text k) k (IsKey-text k has)

pub key_of-has_text : (text : List ℕ) (k : Key) → key_of text ≡ Some k → IsTrue (key_has_text k)
key_of-has_text text k is = key_has_text-IsKey text k (key_of-sound text k is)

-- constraints

pub IsConstraint-text : (c : Constraint) → IsTrue (constraint_has_text c) → IsConstraint (constraint_text c) c
IsConstraint-text c has = record {
  first = [];
  key_text = key_text c.key;
  second = [];
  third = [];
  fourth = [];
  whole = ap (λ value. key_text c.key ++ (sign_of c.equal ++ value)) (sym (append-nil c.value));
  first_spaces = refl;
  is_key = IsKey-text c.key (first_true (key_has_text c.key) (is_value c.value) has);
  second_spaces = refl;
  third_spaces = refl;
  valued = second_true (key_has_text c.key) (is_value c.value) has;
  fourth_spaces = refl;
}

pub constraint_has_text-IsConstraint : (text : List ℕ) (c : Constraint) → IsConstraint text c → IsTrue (constraint_has_text c)
constraint_has_text-IsConstraint text c is = ap (λ b. b && is_value c.value) (key_has_text-IsKey is.key_text c.key is.is_key) ∙ is.valued

pub constraint_of-text : (c : Constraint) → IsTrue (constraint_has_text c) → constraint_of (constraint_text c) ≡ Some c
constraint_of-text c has = constraint_of-complete (constraint_text c) c (IsConstraint-text c has)

pub constraint_of-has_text : (text : List ℕ) (c : Constraint) → constraint_of text ≡ Some c → IsTrue (constraint_has_text c)
constraint_of-has_text text c is = constraint_has_text-IsConstraint text c (constraint_of-sound text c is)

-- What a word is read as has a text.
use Rattle.std.proofs.Common.{◌≡◌, ℕ, ◌<◌, ◌^◌, List, codes, Bool, true, false, cond, refl, sym, subst, Option, Some, None}
use Rattle.std.specs.Str.{bytes_eq}
use Rattle.std.proofs.lemmas.Option.{some_pair_parts, same_Some}
use Rattle.swarm_objects.specs.declared.services.Mode.TheVariants as mode
use Rattle.swarm_objects.specs.declared.templates.End.TheVariants as end
use Rattle.swarm_objects.specs.declared.templates.Key.{Key}
use Rattle.swarm_objects.specs.declared.templates.Constraint.{Constraint}
use Rattle.swarm_objects.specs.declared.templates.Port.{Port}
use Rattle.script_grammar.specs.declared.fields.Field.{Field}
use Rattle.script_grammar.specs.declared.fields.Field.TheVariants as field
use Rattle.script_grammar.specs.declared.fields.NumberField.{NumberField}
use Rattle.script_grammar.proofs.AllSpelled.{IsPort, IsSomeNumber, IsSpellable}
use Rattle.script_grammar.proofs.Inversions.{bound, either}
use Rattle.script_grammar.proofs.Numbers.{number_only, test_some}
use Rattle.script_grammar.proofs.Spelled.{IsKey}
use Rattle.swarm_filters.proofs.Written.{constraint_of-has_text, key_of-has_text}
use Rattle.swarm_filters.specs.Spellings.{constraint_has_text}
use Rattle.swarm_filters.specs.Grammar.{is_name}
use Rattle.swarm_filters.specs.Keys.{key_of}
use Rattle.swarm_filters.specs.Machine.{constraint_of}
use Rattle.script_grammar.specs.Fields.{platform_field, exit_of, field_of, flat_field, host_of, job_of, keyed_field, named, names_of, number_field, other_field, port_of, port_with, two_names}
use Rattle.script_grammar.specs.Words.{byte_number, name_of, number_of, port_number, split_at, ◌>>=◌}

right : (g f : Field) → IsSpellable g → Some g ≡ Some f → IsSpellable f
right g f h e = subst IsSpellable (same_Some g f e) h

pub name_only : (w x : List ℕ) → name_of w ≡ Some x → is_name x ≡ true
name_only w x e = let t = test_some (is_name w) w x e in subst (λ y. is_name y ≡ true) t.1 t.0

named_right : (make : List ℕ → Field) → ((n : List ℕ) → is_name n ≡ true → IsSpellable (make n)) → (v : List ℕ) (f : Field) → named make v ≡ Some f → IsSpellable f
named_right make h v f e =
    let b = bound (name_of v) (λ n. Some (make n)) f e in
    right (make b.0) f (h b.0 (name_only v b.0 b.1)) b.2

two_right : (sep : ℕ) (v : List ℕ) (p : List ℕ × List ℕ) → two_names sep v ≡ Some p → (is_name p.0 ≡ true) × (is_name p.1 ≡ true)
two_right sep v p e =
    let a = bound (split_at sep v) (λ parts. name_of parts.0 >>= λ l. name_of parts.1 >>= λ r. Some (l, r)) p e in
    let b = bound (name_of a.0.0) (λ l. name_of a.0.1 >>= λ r. Some (l, r)) p a.2 in
    let c = bound (name_of a.0.1) (λ r. Some (b.0, r)) p b.2 in
    let k = some_pair_parts b.0 p.0 c.0 p.1 c.2 in
    (subst (λ x. is_name x ≡ true) k.0 (name_only a.0.0 b.0 b.1), subst (λ x. is_name x ≡ true) k.1 (name_only a.0.1 c.0 c.1))

names_right : (sep : ℕ) (make : List ℕ → List ℕ → Field) → ((l r : List ℕ) → is_name l ≡ true → is_name r ≡ true → IsSpellable (make l r)) →
    (v : List ℕ) (f : Field) → names_of sep make v ≡ Some f → IsSpellable f
names_right sep make h v f e =
    let b = bound (two_names sep v) (λ names. Some (make names.0 names.1)) f e in
    let k = two_right sep v b.0 b.1 in
    right (make b.0.0 b.0.1) f (h b.0.0 b.0.1 k.0 k.1) b.2

job_right : (v : List ℕ) (f : Field) → job_of v ≡ Some f → IsSpellable f
job_right v f e =
    let a = bound (split_at 47 v) (λ parts. number_of parts.0 >>= λ c. number_of parts.1 >>= λ t. Some (field.Mode (mode.Job c t))) f e in
    let b = bound (number_of a.0.0) (λ c. number_of a.0.1 >>= λ t. Some (field.Mode (mode.Job c t))) f a.2 in
    let c = bound (number_of a.0.1) (λ t. Some (field.Mode (mode.Job b.0 t))) f b.2 in
    right (field.Mode (mode.Job b.0 c.0)) f ((number_only (2 ^ 64) b.0 a.0.0 b.1).1, (number_only (2 ^ 64) c.0 a.0.1 c.1).1) c.2

exit_right : (v : List ℕ) (f : Field) → exit_of v ≡ Some f → IsSpellable f
exit_right v f e =
    let a = bound (split_at 58 v) (λ parts. number_of parts.0 >>= λ c. byte_number parts.1 >>= λ t. Some (field.End (end.Exit c t))) f e in
    let b = bound (number_of a.0.0) (λ c. byte_number a.0.1 >>= λ t. Some (field.End (end.Exit c t))) f a.2 in
    let c = bound (byte_number a.0.1) (λ t. Some (field.End (end.Exit b.0 t))) f b.2 in
    right (field.End (end.Exit b.0 c.0)) f ((number_only (2 ^ 64) b.0 a.0.0 b.1).1, (number_only 256 c.0 a.0.1 c.1).1) c.2

port_only : (v : List ℕ) (n : ℕ) → port_number v ≡ Some n → n < 65536
port_only v n e = (number_only 65536 n v e).1

port_with_right : (u : Bool) (v : List ℕ) (p : Port) → port_with u v ≡ Some p → IsPort p
port_with_right u v p e = go (split_at 58 v) e where
  go : (o : Option (List ℕ × List ℕ)) →
      (elim o [
        | None ↦ port_number v >>= λ t. Some (record { target = t; number = None; udp = u })
        | Some parts ↦ port_number parts.0 >>= λ t. port_number parts.1 >>= λ n. Some (record { target = t; number = Some n; udp = u })
      ]) ≡ Some p → IsPort p
  go None d =
      let b = bound (port_number v) (λ t. Some (record { target = t; number = None; udp = u })) p d in
      subst IsPort (same_Some _ p b.2) (port_only v b.0 b.1, tt)
  go (Some parts) d =
      let b = bound (port_number parts.0) (λ t. port_number parts.1 >>= λ n. Some (record { target = t; number = Some n; udp = u })) p d in
      let c = bound (port_number parts.1) (λ n. Some (record { target = b.0; number = Some n; udp = u })) p b.2 in
      subst IsPort (same_Some _ p c.2) (port_only parts.0 b.0 b.1, port_only parts.1 c.0 c.1)

port_right : (v : List ℕ) (p : Port) → port_of v ≡ Some p → IsPort p
port_right v p e = go (split_at 47 v) e where
  go : (o : Option (List ℕ × List ℕ)) →
      (elim o [ None ↦ port_with false v | Some parts ↦ cond (bytes_eq parts.1 (codes "udp")) (port_with true parts.0) None ]) ≡ Some p → IsPort p
  go None d = port_with_right false v p d
  go (Some parts) d = either (bytes_eq parts.1 (codes "udp")) (port_with true parts.0) None p d (port_with_right true parts.0 p) (λ x. cc)

host_right : (p : Port) (f : Field) → IsPort p → host_of p ≡ Some f → IsSpellable f
host_right p f h e = go p.number refl e where
  go : (o : Option ℕ) → p.number ≡ o → (elim o [ Some n ↦ Some (field.Host p) | None ↦ None ]) ≡ Some f → IsSpellable f
  go None k d = cc
  go (Some n) k d = right (field.Host p) f (h, subst IsSomeNumber (sym k) tt) d

key_right : (v : List ℕ) (k : Key) → key_of v ≡ Some k → IsKey k
key_right v k e = key_of-has_text v k e

flat_right : (k v : List ℕ) (f : Field) → flat_field k v ≡ Some f → IsSpellable f
flat_right k v f e =
    either (bytes_eq k (codes "replicas")) _ _ f e (λ d. let b = bound (number_of v) (λ n. Some (field.Mode (mode.Replicated n))) f d in right (field.Mode (mode.Replicated b.0)) f (number_only (2 ^ 64) b.0 v b.1).1 b.2) (λ e.
    either (bytes_eq k (codes "job")) _ _ f e (job_right v f) (λ e.
    either (bytes_eq k (codes "exit")) _ _ f e (exit_right v f) (λ e.
    either (bytes_eq k (codes "role")) _ _ f e (λ d. either (bytes_eq v (codes "worker")) _ _ f d (right _ f tt) (λ d. either (bytes_eq v (codes "manager")) _ _ f d (right _ f tt) (λ x. cc))) (λ e.
    either (bytes_eq k (codes "availability")) _ _ f e (λ d. either (bytes_eq v (codes "active")) _ _ f d (right _ f tt) (λ d. either (bytes_eq v (codes "pause")) _ _ f d (right _ f tt) (λ d. either (bytes_eq v (codes "drain")) _ _ f d (right _ f tt) (λ x. cc)))) (λ e.
    either (bytes_eq k (codes "restart")) _ _ f e (λ d. either (bytes_eq v (codes "none")) _ _ f d (right _ f tt) (λ d. either (bytes_eq v (codes "on-failure")) _ _ f d (right _ f tt) (λ d. either (bytes_eq v (codes "any")) _ _ f d (right _ f tt) (λ x. cc)))) (λ e.
    either (bytes_eq k (codes "port")) _ _ f e (λ d. let b = bound (port_of v) (λ p. Some (field.Port p)) f d in right (field.Port b.0) f (port_right v b.0 b.1) b.2) (λ e.
    either (bytes_eq k (codes "host")) _ _ f e (λ d. let b = bound (port_of v) host_of f d in host_right b.0 f (port_right v b.0 b.1) b.2) (λ e.
    either (bytes_eq k (codes "failure")) _ _ f e (λ d. either (bytes_eq v (codes "pause")) _ _ f d (right _ f tt) (λ d. either (bytes_eq v (codes "continue")) _ _ f d (right _ f tt) (λ d. either (bytes_eq v (codes "rollback")) _ _ f d (right _ f tt) (λ x. cc)))) (λ e.
    either (bytes_eq k (codes "order")) _ _ f e (λ d. either (bytes_eq v (codes "stop-first")) _ _ f d (right _ f tt) (λ d. either (bytes_eq v (codes "start-first")) _ _ f d (right _ f tt) (λ x. cc))) (λ x. cc))))))))))

constraint_right : (v : List ℕ) (c : Constraint) → constraint_of v ≡ Some c → constraint_has_text c ≡ true
constraint_right v c e = constraint_of-has_text v c e

other_right : (k v : List ℕ) (f : Field) → other_field k v ≡ Some f → IsSpellable f
other_right k v f e =
    either (bytes_eq k (codes "label")) _ _ f e (names_right 58 field.Label (λ l r h g. (h, g)) v f) (λ e.
    either (bytes_eq k (codes "os")) _ _ f e (named_right field.Os (λ n h. h) v f) (λ e.
    either (bytes_eq k (codes "arch")) _ _ f e (named_right field.Arch (λ n h. h) v f) (λ e.
    either (bytes_eq k (codes "engine")) _ _ f e (names_right 58 field.Engine (λ l r h g. (h, g)) v f) (λ e.
    either (bytes_eq k (codes "constraint")) _ _ f e (λ d. let b = bound (constraint_of v) (λ c. Some (field.Constraint c)) f d in right (field.Constraint b.0) f (constraint_right v b.0 b.1) b.2) (λ e.
    either (bytes_eq k (codes "spread")) _ _ f e (λ d. let b = bound (key_of v) (λ s. Some (field.Spread s)) f d in right (field.Spread b.0) f (key_right v b.0 b.1) b.2) (λ e.
    either (bytes_eq k (codes "platform")) _ _ f e (names_right 47 platform_field (λ l r h g. (h, g)) v f) (λ e.
    either (bytes_eq k (codes "net")) _ _ f e (named_right field.Net (λ n h. h) v f) (flat_right k v f))))))))

keyed_right : (k v : List ℕ) (f : Field) → keyed_field k v ≡ Some f → IsSpellable f
keyed_right k v f e = go (number_field k) e where
  go : (o : Option NumberField) → (elim o [ Some which ↦ number_of v >>= λ n. Some (field.Number which n) | None ↦ other_field k v ]) ≡ Some f → IsSpellable f
  go (Some w) d = let b = bound (number_of v) (λ n. Some (field.Number w n)) f d in right (field.Number w b.0) f (number_only (2 ^ 64) b.0 v b.1).1 b.2
  go None d = other_right k v f d

-- what a word is read as has a text
pub field_right : (w : List ℕ) (f : Field) → field_of w ≡ Some f → IsSpellable f
field_right w f e =
    either (bytes_eq w (codes "global")) _ _ f e (right _ f tt) (λ e.
    either (bytes_eq w (codes "reject")) _ _ f e (right _ f tt) (λ e.
    either (bytes_eq w (codes "remote")) _ _ f e (right _ f tt) (λ e.
    let a = bound (split_at 61 w) (λ parts. keyed_field parts.0 parts.1) f e in keyed_right a.0.0 a.0.1 f a.2)))

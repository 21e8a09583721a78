-- A field is written in no more bytes than the word that it was read from.
use Rattle.std.proofs.Common.{◌≡◌, ℕ, ◌≤◌, ◌+◌, ◌^◌, List, ◌∷◌, ◌++◌, length, codes, decimal, Bool, true, false, cond, refl, sym, ◌∙◌, ap, subst, Option, Some, None, append-nil, append_assoc, arith}
use Rattle.std.specs.Char.{to_ascii_lowercase}
use Rattle.std.specs.Str.{bytes_eq}
use Rattle.std.proofs.lemmas.List.{length-append, length-map}
use Rattle.std.proofs.lemmas.Option.{some_pair_parts, same_Some}
use Rattle.swarm_objects.specs.declared.nodes.Availability.TheVariants as availability
use Rattle.swarm_objects.specs.declared.nodes.NodeRole.TheVariants as role
use Rattle.swarm_objects.specs.declared.services.FailureAction.TheVariants as action
use Rattle.swarm_objects.specs.declared.services.Mode.TheVariants as mode
use Rattle.swarm_objects.specs.declared.services.UpdateOrder.TheVariants as order
use Rattle.swarm_objects.specs.declared.templates.Constraint.{Constraint}
use Rattle.swarm_objects.specs.declared.templates.End.TheVariants as end
use Rattle.swarm_objects.specs.declared.templates.Key.{Key}
use Rattle.swarm_objects.specs.declared.templates.Key.TheVariants as key
use Rattle.swarm_objects.specs.declared.templates.Port.{Port}
use Rattle.swarm_objects.specs.declared.templates.RestartCondition.TheVariants as condition
use Rattle.script_grammar.specs.declared.fields.Field.{Field}
use Rattle.script_grammar.specs.declared.fields.Field.TheVariants as field
use Rattle.script_grammar.specs.declared.fields.NumberField.{NumberField}
use Rattle.script_grammar.proofs.Inversions.{bound, found, named_only, same, tested}
use Rattle.script_grammar.proofs.Numbers.{number_only}
use Rattle.script_grammar.proofs.Subnets.{split_only}
use Rattle.swarm_filters.proofs.Constraints.{constraint_of-sound}
use Rattle.swarm_filters.proofs.KeyTexts.{key_of-sound}
use Rattle.swarm_filters.specs.Grammar.{IsConstraint, IsKey, Spells, SpellsLabel, sign_of}
use Rattle.swarm_filters.specs.Keys.{key_of}
use Rattle.swarm_filters.specs.Machine.{constraint_of}
use Rattle.swarm_filters.specs.Spellings.{constraint_text, key_text}
use Rattle.script_grammar.specs.Fields.{availability_of, condition_of, constraint_field, exit_of, failure_of, field_of, field_text, flat_field, host_of, job_of, keyed_field, named, names_of, number_field, number_fields, number_word, order_of, other_field, platform_field, port_of, port_text, port_with, role_of, spread_field, two_names, udp_text}
use Rattle.script_grammar.specs.Words.{byte_number, name_of, number_of, port_number, split_at, ◌>>=◌}

-- a test of a word, and the two ways
chosen : {A Q : Type 0} (k lit : List ℕ) (x y : Option A) (z : A) → cond (bytes_eq k lit) x y ≡ Some z → (k ≡ lit → x ≡ Some z → Q) → (y ≡ Some z → Q) → Q
chosen {A} {Q} k lit x y z e f g = go (bytes_eq k lit) refl e where
  go : (b : Bool) → bytes_eq k lit ≡ b → cond b x y ≡ Some z → Q
  go true t d = f (same k lit t) d
  go false t d = g d

-- ## Keys and constraints

spelled : (text word : List ℕ) → Spells text word → length word ≤ length text
spelled text word e = omega (arith, ap length (sym e), length-map text to_ascii_lowercase)

label_length : (text prefix name : List ℕ) → SpellsLabel text prefix name → length (prefix ++ name) ≤ length text
label_length text prefix name e =
    omega (arith, spelled e.0 prefix e.1.0, ap length e.1.1.0, length-append e.0 name, length-append prefix name)

key_length : (text : List ℕ) (k : Key) → IsKey text k → length (key_text k) ≤ length text
key_length text key.NodeId e = spelled text (codes "node.id") e
key_length text key.Hostname e = spelled text (codes "node.hostname") e
key_length text key.Role e = spelled text (codes "node.role") e
key_length text key.Os e = spelled text (codes "node.platform.os") e
key_length text key.Arch e = spelled text (codes "node.platform.arch") e
key_length text (key.Label name) e = label_length text (codes "node.labels.") name e
key_length text (key.Engine name) e = label_length text (codes "engine.labels.") name e

constraint_length : (text : List ℕ) (c : Constraint) → IsConstraint text c → length (constraint_text c) ≤ length text
constraint_length text c is =
    let sign = sign_of c.equal in
    let behind = is.third ++ (c.value ++ is.fourth) in
    omega (
      arith,
      ap length is.whole,
      key_length is.key_text c.key is.is_key,
      length-append is.first (is.key_text ++ (is.second ++ (sign ++ behind))),
      length-append is.key_text (is.second ++ (sign ++ behind)),
      length-append is.second (sign ++ behind),
      length-append sign behind,
      length-append is.third (c.value ++ is.fourth),
      length-append c.value is.fourth,
      length-append (key_text c.key) (sign ++ c.value),
      length-append sign c.value,
    )

-- ## Values behind a sign of equality

-- the field is written in no more bytes than the word's front and this value
abbrev Behind : List ℕ → List ℕ → Field → Type 0
Behind front v f = length (field_text f) ≤ length front + length v

-- the field is written as the word's front and this value
as_it_is : (front v : List ℕ) (g f : Field) → field_text g ≡ front ++ v → Some g ≡ Some f → Behind front v f
as_it_is front v g f e k = subst (Behind front v) (same_Some g f k) (omega (arith, ap length e, length-append front v))

in_two : (sep : ℕ) (v : List ℕ) (parts : List ℕ × List ℕ) (x y : List ℕ) → split_at sep v ≡ Some parts → parts.0 ≡ x → parts.1 ≡ y → x ++ sep ∷ y ≡ v
in_two sep v parts x y e f g =
    ap (λ z. z ++ sep ∷ y) (sym f) ∙ ap (λ z. parts.0 ++ sep ∷ z) (sym g) ∙ sym (split_only sep v parts.0 parts.1 e)

named_length : (front : List ℕ) (make : List ℕ → Field) → ((n : List ℕ) → field_text (make n) ≡ front ++ n) → (v : List ℕ) (f : Field) → named make v ≡ Some f → Behind front v f
named_length front make h v f e =
    let b = bound (name_of v) (λ n. Some (make n)) f e in
    as_it_is front v (make b.0) f (h b.0 ∙ ap (λ n. front ++ n) (sym (named_only v b.0 b.1))) b.2

two_only : (sep : ℕ) (v : List ℕ) (p : List ℕ × List ℕ) → two_names sep v ≡ Some p → p.0 ++ sep ∷ p.1 ≡ v
two_only sep v p e =
    let a = bound (split_at sep v) (λ parts. name_of parts.0 >>= λ l. name_of parts.1 >>= λ r. Some (l, r)) p e in
    let b = bound (name_of a.0.0) (λ l. name_of a.0.1 >>= λ r. Some (l, r)) p a.2 in
    let c = bound (name_of a.0.1) (λ r. Some (b.0, r)) p b.2 in
    let k = some_pair_parts b.0 p.0 c.0 p.1 c.2 in
    in_two sep v a.0 p.0 p.1 a.1 (named_only a.0.0 b.0 b.1 ∙ k.0) (named_only a.0.1 c.0 c.1 ∙ k.1)

names_length : (front : List ℕ) (sep : ℕ) (make : List ℕ → List ℕ → Field) → ((l r : List ℕ) → field_text (make l r) ≡ front ++ (l ++ sep ∷ r)) →
    (v : List ℕ) (f : Field) → names_of sep make v ≡ Some f → Behind front v f
names_length front sep make h v f e =
    let b = bound (two_names sep v) (λ names. Some (make names.0 names.1)) f e in
    as_it_is front v (make b.0.0 b.0.1) f (h b.0.0 b.0.1 ∙ ap (λ n. front ++ n) (two_only sep v b.0 b.1)) b.2

job_length : (v : List ℕ) (f : Field) → job_of v ≡ Some f → Behind (codes "job=") v f
job_length v f e =
    let a = bound (split_at 47 v) (λ parts. number_of parts.0 >>= λ c. number_of parts.1 >>= λ t. Some (field.Mode (mode.Job c t))) f e in
    let b = bound (number_of a.0.0) (λ c. number_of a.0.1 >>= λ t. Some (field.Mode (mode.Job c t))) f a.2 in
    let c = bound (number_of a.0.1) (λ t. Some (field.Mode (mode.Job b.0 t))) f b.2 in
    as_it_is (codes "job=") v (field.Mode (mode.Job b.0 c.0)) f
    (ap (λ n. codes "job=" ++ n) (in_two 47 v a.0 (decimal b.0) (decimal c.0) a.1 (number_only (2 ^ 64) b.0 a.0.0 b.1).0 (number_only (2 ^ 64) c.0 a.0.1 c.1).0)) c.2

exit_length : (v : List ℕ) (f : Field) → exit_of v ≡ Some f → Behind (codes "exit=") v f
exit_length v f e =
    let a = bound (split_at 58 v) (λ parts. number_of parts.0 >>= λ c. byte_number parts.1 >>= λ t. Some (field.End (end.Exit c t))) f e in
    let b = bound (number_of a.0.0) (λ c. byte_number a.0.1 >>= λ t. Some (field.End (end.Exit c t))) f a.2 in
    let c = bound (byte_number a.0.1) (λ t. Some (field.End (end.Exit b.0 t))) f b.2 in
    as_it_is (codes "exit=") v (field.End (end.Exit b.0 c.0)) f
    (ap (λ n. codes "exit=" ++ n) (in_two 58 v a.0 (decimal b.0) (decimal c.0) a.1 (number_only (2 ^ 64) b.0 a.0.0 b.1).0 (number_only 256 c.0 a.0.1 c.1).0)) c.2

port_with_only : (u : Bool) (v : List ℕ) (p : Port) → port_with u v ≡ Some p → port_text p ≡ v ++ udp_text u
port_with_only u v p e = go (split_at 58 v) refl e where
  read : List ℕ × List ℕ → Option Port
  read parts = port_number parts.0 >>= λ t. port_number parts.1 >>= λ n. Some (record { target = t; number = Some n; udp = u })

  go : (o : Option (List ℕ × List ℕ)) → split_at 58 v ≡ o →
      (elim o [
        | None ↦ port_number v >>= λ t. Some (record { target = t; number = None; udp = u })
        | Some parts ↦ port_number parts.0 >>= λ t. port_number parts.1 >>= λ n. Some (record { target = t; number = Some n; udp = u })
      ]) ≡ Some p → port_text p ≡ v ++ udp_text u
  go None k d =
      let b = bound (port_number v) (λ t. Some (record { target = t; number = None; udp = u })) p d in
      sym (ap port_text (same_Some _ p b.2)) ∙ ap (λ n. n ++ udp_text u) (sym (number_only 65536 b.0 v b.1).0)
  go (Some parts) k d =
      let b = bound (port_number parts.0) (λ t. port_number parts.1 >>= λ n. Some (record { target = t; number = Some n; udp = u })) p d in
      let c = bound (port_number parts.1) (λ n. Some (record { target = b.0; number = Some n; udp = u })) p b.2 in
      let w = in_two 58 v parts (decimal b.0) (decimal c.0) k (number_only 65536 b.0 parts.0 b.1).0 (number_only 65536 c.0 parts.1 c.1).0 in
      sym (ap port_text (same_Some _ p c.2)) ∙ sym (append_assoc (decimal b.0) (58 ∷ decimal c.0) (udp_text u)) ∙ ap (λ n. n ++ udp_text u) w

port_only : (v : List ℕ) (p : Port) → port_of v ≡ Some p → port_text p ≡ v
port_only v p e = go (split_at 47 v) refl e where
  go : (o : Option (List ℕ × List ℕ)) → split_at 47 v ≡ o →
      (elim o [ None ↦ port_with false v | Some parts ↦ cond (bytes_eq parts.1 (codes "udp")) (port_with true parts.0) None ]) ≡ Some p → port_text p ≡ v
  go None k d = port_with_only false v p d ∙ append-nil v
  go (Some parts) k d =
      let t = tested (bytes_eq parts.1 (codes "udp")) (port_with true parts.0) p d in
      port_with_only true parts.0 p t.1 ∙ in_two 47 v parts parts.0 (codes "udp") k refl (same parts.1 (codes "udp") t.0)

port_length : (v : List ℕ) (f : Field) → (port_of v >>= λ p. Some (field.Port p)) ≡ Some f → Behind (codes "port=") v f
port_length v f e =
    let b = bound (port_of v) (λ p. Some (field.Port p)) f e in
    as_it_is (codes "port=") v (field.Port b.0) f (ap (λ n. codes "port=" ++ n) (port_only v b.0 b.1)) b.2

host_only : (p : Port) (f : Field) → host_of p ≡ Some f → Some (field.Host p) ≡ Some f
host_only p f e = go p.number e where
  go : (o : Option ℕ) → (elim o [ Some n ↦ Some (field.Host p) | None ↦ None ]) ≡ Some f → Some (field.Host p) ≡ Some f
  go None d = cc
  go (Some n) d = d

host_length : (v : List ℕ) (f : Field) → (port_of v >>= host_of) ≡ Some f → Behind (codes "host=") v f
host_length v f e =
    let b = bound (port_of v) host_of f e in
    as_it_is (codes "host=") v (field.Host b.0) f (ap (λ n. codes "host=" ++ n) (port_only v b.0 b.1)) (host_only b.0 f b.2)

-- ## Values of words

-- one of the values that are words, and the others
word_or : (front v lit : List ℕ) (g : Field) (y : Option Field) (f : Field) → field_text g ≡ front ++ lit →
    (y ≡ Some f → Behind front v f) → cond (bytes_eq v lit) (Some g) y ≡ Some f → Behind front v f
word_or front v lit g y f h rest e = chosen v lit (Some g) y f e (λ t d. as_it_is front v g f (h ∙ ap (λ x. front ++ x) (sym t)) d) rest

no_word : (front v : List ℕ) (f : Field) → None ≡ Some f → Behind front v f
no_word front v f e = cc

role_length : (v : List ℕ) (f : Field) → role_of v ≡ Some f → Behind (codes "role=") v f
role_length v f =
    word_or (codes "role=") v (codes "worker") (field.Role role.Worker) _ f refl (
    word_or (codes "role=") v (codes "manager") (field.Role role.Manager) None f refl (no_word (codes "role=") v f))

availability_length : (v : List ℕ) (f : Field) → availability_of v ≡ Some f → Behind (codes "availability=") v f
availability_length v f =
    word_or (codes "availability=") v (codes "active") (field.Availability availability.Active) _ f refl (
    word_or (codes "availability=") v (codes "pause") (field.Availability availability.Pause) _ f refl (
    word_or (codes "availability=") v (codes "drain") (field.Availability availability.Drain) None f refl (no_word (codes "availability=") v f)))

condition_length : (v : List ℕ) (f : Field) → condition_of v ≡ Some f → Behind (codes "restart=") v f
condition_length v f =
    word_or (codes "restart=") v (codes "none") (field.Restart condition.Never) _ f refl (
    word_or (codes "restart=") v (codes "on-failure") (field.Restart condition.OnFailure) _ f refl (
    word_or (codes "restart=") v (codes "any") (field.Restart condition.Any) None f refl (no_word (codes "restart=") v f)))

failure_length : (v : List ℕ) (f : Field) → failure_of v ≡ Some f → Behind (codes "failure=") v f
failure_length v f =
    word_or (codes "failure=") v (codes "pause") (field.Failure action.Pause) _ f refl (
    word_or (codes "failure=") v (codes "continue") (field.Failure action.Continue) _ f refl (
    word_or (codes "failure=") v (codes "rollback") (field.Failure action.Rollback) None f refl (no_word (codes "failure=") v f)))

order_length : (v : List ℕ) (f : Field) → order_of v ≡ Some f → Behind (codes "order=") v f
order_length v f =
    word_or (codes "order=") v (codes "stop-first") (field.Order order.StopFirst) _ f refl (
    word_or (codes "order=") v (codes "start-first") (field.Order order.StartFirst) None f refl (no_word (codes "order=") v f))

-- ## Fields

-- a field's name is the front without its sign of equality
abbrev Keyed : List ℕ → List ℕ → Field → Type 0
Keyed k v f = length (field_text f) ≤ length k + 1 + length v

-- the field of one name, and those of others
key_or : (k v lit front : List ℕ) (x y : Option Field) (f : Field) → length front ≡ length lit + 1 → (x ≡ Some f → Behind front v f) →
    (y ≡ Some f → Keyed k v f) → cond (bytes_eq k lit) x y ≡ Some f → Keyed k v f
key_or k v lit front x y f long one rest e = chosen k lit x y f e (λ t d. let h : Behind front v f = one d in omega (arith, h, long, ap length t)) rest

no_key : (k v : List ℕ) (f : Field) → None ≡ Some f → Keyed k v f
no_key k v f e = cc

replicas_length : (v : List ℕ) (f : Field) → (number_of v >>= λ n. Some (field.Mode (mode.Replicated n))) ≡ Some f → Behind (codes "replicas=") v f
replicas_length v f e =
    let b = bound (number_of v) (λ n. Some (field.Mode (mode.Replicated n))) f e in
    as_it_is (codes "replicas=") v (field.Mode (mode.Replicated b.0)) f (ap (λ n. codes "replicas=" ++ n) (sym (number_only (2 ^ 64) b.0 v b.1).0)) b.2

flat_length : (k v : List ℕ) (f : Field) → flat_field k v ≡ Some f → Keyed k v f
flat_length k v f =
    key_or k v (codes "replicas") (codes "replicas=") _ _ f refl (replicas_length v f) (
    key_or k v (codes "job") (codes "job=") _ _ f refl (job_length v f) (
    key_or k v (codes "exit") (codes "exit=") _ _ f refl (exit_length v f) (
    key_or k v (codes "role") (codes "role=") _ _ f refl (role_length v f) (
    key_or k v (codes "availability") (codes "availability=") _ _ f refl (availability_length v f) (
    key_or k v (codes "restart") (codes "restart=") _ _ f refl (condition_length v f) (
    key_or k v (codes "port") (codes "port=") _ _ f refl (port_length v f) (
    key_or k v (codes "host") (codes "host=") _ _ f refl (host_length v f) (
    key_or k v (codes "failure") (codes "failure=") _ _ f refl (failure_length v f) (
    key_or k v (codes "order") (codes "order=") _ None f refl (order_length v f) (no_key k v f))))))))))

constraint_behind : (v : List ℕ) (f : Field) → constraint_field v ≡ Some f → Behind (codes "constraint=") v f
constraint_behind v f e =
    let b = bound (constraint_of v) (λ c. Some (field.Constraint c)) f e in
    subst (Behind (codes "constraint=") v) (same_Some _ f b.2)
    (omega (arith, constraint_length v b.0 (constraint_of-sound v b.0 b.1), length-append (codes "constraint=") (constraint_text b.0)))

spread_behind : (v : List ℕ) (f : Field) → spread_field v ≡ Some f → Behind (codes "spread=") v f
spread_behind v f e =
    let b = bound (key_of v) (λ s. Some (field.Spread s)) f e in
    subst (Behind (codes "spread=") v) (same_Some _ f b.2)
    (omega (arith, key_length v b.0 (key_of-sound v b.0 b.1), length-append (codes "spread=") (key_text b.0)))

other_length : (k v : List ℕ) (f : Field) → other_field k v ≡ Some f → Keyed k v f
other_length k v f =
    key_or k v (codes "label") (codes "label=") _ _ f refl (names_length (codes "label=") 58 field.Label (λ l r. refl) v f) (
    key_or k v (codes "os") (codes "os=") _ _ f refl (named_length (codes "os=") field.Os (λ n. refl) v f) (
    key_or k v (codes "arch") (codes "arch=") _ _ f refl (named_length (codes "arch=") field.Arch (λ n. refl) v f) (
    key_or k v (codes "engine") (codes "engine=") _ _ f refl (names_length (codes "engine=") 58 field.Engine (λ l r. refl) v f) (
    key_or k v (codes "constraint") (codes "constraint=") _ _ f refl (constraint_behind v f) (
    key_or k v (codes "spread") (codes "spread=") _ _ f refl (spread_behind v f) (
    key_or k v (codes "platform") (codes "platform=") _ _ f refl (names_length (codes "platform=") 47 platform_field (λ l r. refl) v f) (
    key_or k v (codes "net") (codes "net=") _ _ f refl (named_length (codes "net=") field.Net (λ n. refl) v f) (flat_length k v f))))))))

numbered_length : (k v : List ℕ) (w : NumberField) (n : ℕ) → number_word w ≡ k → v ≡ decimal n → Keyed k v (field.Number w n)
numbered_length k v w n e f = omega (arith, length-append (number_word w) (61 ∷ decimal n), ap length e, ap length f)

keyed_length : (k v : List ℕ) (f : Field) → keyed_field k v ≡ Some f → Keyed k v f
keyed_length k v f e = go (number_field k) refl e where
  go : (o : Option NumberField) → number_field k ≡ o → (elim o [ Some which ↦ number_of v >>= λ n. Some (field.Number which n) | None ↦ other_field k v ]) ≡ Some f → Keyed k v f
  go (Some w) t d =
      let b = bound (number_of v) (λ n. Some (field.Number w n)) f d in
      let is = same (number_word w) k (found (λ x. bytes_eq (number_word x) k) number_fields w t) in
      subst (Keyed k v) (same_Some _ f b.2) (numbered_length k v w b.0 is (number_only (2 ^ 64) b.0 v b.1).0)
  go None t d = other_length k v f d

-- the field is written in no more bytes than the word
abbrev Within : List ℕ → Field → Type 0
Within w f = length (field_text f) ≤ length w

whole_word : (w lit : List ℕ) (g f : Field) → field_text g ≡ lit → w ≡ lit → Some g ≡ Some f → Within w f
whole_word w lit g f h t e = subst (Within w) (same_Some g f e) (omega (arith, ap length h, ap length t))

pub field_length : (w : List ℕ) (f : Field) → field_of w ≡ Some f → length (field_text f) ≤ length w
field_length w f e =
    chosen w (codes "global") _ _ f e (whole_word w (codes "global") (field.Mode mode.Global) f refl) (λ e.
    chosen w (codes "reject") _ _ f e (whole_word w (codes "reject") (field.End end.Reject) f refl) (λ e.
    chosen w (codes "remote") _ _ f e (whole_word w (codes "remote") field.Remote f refl) (λ e.
    let a = bound (split_at 61 w) (λ parts. keyed_field parts.0 parts.1) f e in
    let k : Keyed a.0.0 a.0.1 f = keyed_length a.0.0 a.0.1 f a.2 in
    omega (arith, k, ap length (split_only 61 w a.0.0 a.0.1 a.1), length-append a.0.0 (61 ∷ a.0.1)))))

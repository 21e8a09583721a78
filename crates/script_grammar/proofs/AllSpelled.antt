-- Every field that has a text is read from it.
use Rattle.std.proofs.Common.{◌≡◌, ℕ, ◌<◌, ◌^◌, List, [], ◌∷◌, ◌++◌, codes, decimal, Bool, true, false, cond, refl, sym, ◌∙◌, ap, Option, Some, None, arith, lit≤, append-nil, append_assoc}
use Rattle.std.specs.Str.{bytes_eq}
use Rattle.swarm_objects.specs.declared.services.Mode.TheVariants as mode
use Rattle.swarm_objects.specs.declared.templates.End.TheVariants as end
use Rattle.swarm_objects.specs.declared.templates.Key.{Key}
use Rattle.swarm_objects.specs.declared.templates.Constraint.{Constraint}
use Rattle.swarm_objects.specs.declared.templates.Port.{Port}
use Rattle.swarm_objects.specs.declared.templates.RestartCondition.TheVariants as condition
use Rattle.swarm_objects.specs.declared.services.FailureAction.TheVariants as action
use Rattle.swarm_objects.specs.declared.services.UpdateOrder.TheVariants as order
use Rattle.swarm_objects.specs.declared.nodes.NodeRole.TheVariants as role
use Rattle.swarm_objects.specs.declared.nodes.Availability.TheVariants as availability
use Rattle.script_grammar.specs.declared.fields.Field.{Field}
use Rattle.script_grammar.specs.declared.fields.Field.TheVariants as field
use Rattle.script_grammar.proofs.Canonical.{IsSpelled}
use Rattle.script_grammar.proofs.Numbers.{number_yes}
use Rattle.script_grammar.proofs.Spelled.{Clean, IsKey, clean_number, job_spelled, key_back, label_spelled, name_yes, net_spelled, number_spelled, replicas_spelled, split_clean, two_back}
use Rattle.swarm_filters.specs.Grammar.{is_name}
use Rattle.swarm_filters.specs.Spellings.{constraint_has_text}
use Rattle.swarm_filters.proofs.Written.{constraint_of-text}
use Rattle.script_grammar.specs.Fields.{platform_field, host_of, port_of, port_text, port_with}
use Rattle.script_grammar.specs.Words.{byte_number, number_of, port_number, split_at, with_first, ◌>>=◌}
use Rattle.std.specs.Prelude.{if◌then◌else◌}

none_split : (sep : ℕ) (xs : List ℕ) → Clean sep xs → split_at sep xs ≡ None
none_split sep [] c = refl
none_split sep (x ∷ xs) c = ap (λ b. cond b (Some ([], xs)) (with_first x (split_at sep xs))) c.0 ∙ ap (with_first x) (none_split sep xs c.1)

clean_append : (sep : ℕ) (xs ys : List ℕ) → Clean sep xs → Clean sep ys → Clean sep (xs ++ ys)
clean_append sep [] ys c d = d
clean_append sep (x ∷ xs) ys c d = (c.0, clean_append sep xs ys c.1 d)

-- ## Ports

abbrev made : ℕ → Option ℕ → Bool → Port
made t n u = record { target = t; number = n; udp = u }

small_yes : (n : ℕ) → n < 65536 → port_number (decimal n) ≡ Some n
small_yes n h = number_yes 65536 n h (omega (arith, h))

abbrev alone : Bool → Option ℕ → Option Port
alone u o = o >>= λ t. Some (made t None u)

abbrev second_part : Bool → ℕ → Option ℕ → Option Port
second_part u t o = o >>= λ n. Some (made t (Some n) u)

abbrev with_parts : Bool → List ℕ → Option (List ℕ × List ℕ) → Option Port
with_parts u text o = elim o [
  | None ↦ alone u (port_number text)
  | Some parts ↦ port_number parts.0 >>= λ t. second_part u t (port_number parts.1)
]

open_back : (t : ℕ) (u : Bool) → t < 65536 → port_with u (decimal t) ≡ Some (made t None u)
open_back t u h =
    ap (with_parts u (decimal t)) (none_split 58 (decimal t) (clean_number 58 t (lit≤ tt) (omega (arith, h)))) ∙ ap (alone u) (small_yes t h)

fixed_back : (t n : ℕ) (u : Bool) → t < 65536 → n < 65536 → port_with u (decimal t ++ 58 ∷ decimal n) ≡ Some (made t (Some n) u)
fixed_back t n u h k =
    ap (with_parts u (decimal t ++ 58 ∷ decimal n)) (split_clean 58 (decimal t) (decimal n) refl (clean_number 58 t (lit≤ tt) (omega (arith, h))))
    ∙ ap (λ (o : Option ℕ). o >>= λ x. second_part u x (port_number (decimal n))) (small_yes t h)
    ∙ ap (second_part u t) (small_yes n k)

abbrev by_slash : List ℕ → Option (List ℕ × List ℕ) → Option Port
by_slash text o = elim o [
  | None ↦ port_with false text
  | Some parts ↦ if bytes_eq parts.1 (codes "udp") then port_with true parts.0 else None
]

slashed : (text : List ℕ) (p : Port) → Clean 47 text → port_with true text ≡ Some p → port_of (text ++ codes "/udp") ≡ Some p
slashed text p c e = ap (by_slash (text ++ codes "/udp")) (split_clean 47 text (codes "udp") refl c) ∙ e

plain : (text : List ℕ) (p : Port) → Clean 47 text → port_with false text ≡ Some p → port_of text ≡ Some p
plain text p c e = ap (by_slash text) (none_split 47 text c) ∙ e

clean_port : (t n : ℕ) → t < 65536 → n < 65536 → Clean 47 (decimal t ++ 58 ∷ decimal n)
clean_port t n h k = clean_append 47 (decimal t) (58 ∷ decimal n) (clean_number 47 t (lit≤ tt) (omega (arith, h))) (refl, clean_number 47 n (lit≤ tt) (omega (arith, k)))

abbrev pub IsPortNumber : Option ℕ → Type 0
IsPortNumber None = Unit {0}
IsPortNumber (Some n) = n < 65536

pub port_back : (t : ℕ) (o : Option ℕ) (u : Bool) → t < 65536 → IsPortNumber o → port_of (port_text (made t o u)) ≡ Some (made t o u)
port_back t None true h k = slashed (decimal t) (made t None true) (clean_number 47 t (lit≤ tt) (omega (arith, h))) (open_back t true h)
port_back t None false h k =
    ap port_of (append-nil (decimal t)) ∙ plain (decimal t) (made t None false) (clean_number 47 t (lit≤ tt) (omega (arith, h))) (open_back t false h)
port_back t (Some n) true h k =
    ap port_of (sym (append_assoc (decimal t) (58 ∷ decimal n) (codes "/udp"))) ∙ slashed (decimal t ++ 58 ∷ decimal n) (made t (Some n) true) (clean_port t n h k) (fixed_back t n true h k)
port_back t (Some n) false h k =
    ap (λ x. port_of (decimal t ++ 58 ∷ x)) (append-nil (decimal n)) ∙ plain (decimal t ++ 58 ∷ decimal n) (made t (Some n) false) (clean_port t n h k) (fixed_back t n false h k)

-- ## All fields

abbrev pub IsPort : Port → Type 0
IsPort p = (p.target < 65536) × IsPortNumber p.number

abbrev pub IsSomeNumber : Option ℕ → Type 0
IsSomeNumber None = ⊥
IsSomeNumber (Some n) = Unit {0}

abbrev pub IsSpellable : Field → Type 0
IsSpellable (field.Number w n) = n < 2 ^ 64
IsSpellable (field.Mode (mode.Replicated n)) = n < 2 ^ 64
IsSpellable (field.Mode mode.Global) = Unit {0}
IsSpellable (field.Mode (mode.Job c t)) = (c < 2 ^ 64) × (t < 2 ^ 64)
IsSpellable (field.End end.Never) = ⊥
IsSpellable (field.End (end.Exit ms code)) = (ms < 2 ^ 64) × (code < 256)
IsSpellable (field.End end.Reject) = Unit {0}
IsSpellable (field.Label k v) = (is_name k ≡ true) × (is_name v ≡ true)
IsSpellable (field.Engine k v) = (is_name k ≡ true) × (is_name v ≡ true)
IsSpellable (field.Platform p) = (is_name p.os ≡ true) × (is_name p.arch ≡ true)
IsSpellable (field.Os n) = is_name n ≡ true
IsSpellable (field.Arch n) = is_name n ≡ true
IsSpellable (field.Net n) = is_name n ≡ true
IsSpellable (field.Spread k) = IsKey k
IsSpellable (field.Constraint c) = constraint_has_text c ≡ true
IsSpellable (field.Port p) = IsPort p
IsSpellable (field.Host p) = IsPort p × IsSomeNumber p.number
IsSpellable f = Unit {0}

exit_spelled : (ms code : ℕ) → ms < 2 ^ 64 → code < 256 → IsSpelled (field.End (end.Exit ms code))
exit_spelled ms code h k = record {
  back =
      ap (λ o. o >>= λ parts. number_of parts.0 >>= λ x. byte_number parts.1 >>= λ y. Some (field.End (end.Exit x y))) (split_clean 58 (decimal ms) (decimal code) refl (clean_number 58 ms (lit≤ tt) h))
      ∙ ap (λ o. o >>= λ x. byte_number (decimal code) >>= λ y. Some (field.End (end.Exit x y))) (number_yes (2 ^ 64) ms h h)
      ∙ ap (λ o. o >>= λ y. Some (field.End (end.Exit ms y))) (number_yes 256 code k (omega (arith, k)));
  no_end = refl;
  no_version = refl;
}

host_yes : (t : ℕ) (o : Option ℕ) (u : Bool) → IsSomeNumber o → host_of (made t o u) ≡ Some (field.Host (made t o u))
host_yes t (Some n) u h = refl
host_yes t None u h = absurd h

pub spelled : (f : Field) → IsSpellable f → IsSpelled f
spelled (field.Number w n) h = number_spelled w n h
spelled (field.Mode (mode.Replicated n)) h = replicas_spelled n h
spelled (field.Mode mode.Global) h = record { back = refl; no_end = refl; no_version = refl }
spelled (field.Mode (mode.Job c t)) h = job_spelled c t h.0 h.1
spelled (field.End end.Never) h = absurd h
spelled (field.End (end.Exit ms code)) h = exit_spelled ms code h.0 h.1
spelled (field.End end.Reject) h = record { back = refl; no_end = refl; no_version = refl }
spelled (field.Label k v) h = label_spelled k v h.0 h.1
spelled (field.Engine k v) h = record {
  back = ap (λ (o : Option (List ℕ × List ℕ)). o >>= λ names. Some (field.Engine names.0 names.1)) (two_back 58 refl refl k v h.0 h.1);
  no_end = refl;
  no_version = refl;
}
spelled (field.Platform p) h = record {
  back = ap (λ (o : Option (List ℕ × List ℕ)). o >>= λ names. Some (platform_field names.0 names.1)) (two_back 47 refl refl p.os p.arch h.0 h.1);
  no_end = refl;
  no_version = refl;
}
spelled (field.Os w) h = record { back = ap (λ (o : Option (List ℕ)). o >>= λ n. Some (field.Os n)) (name_yes w h); no_end = refl; no_version = refl }
spelled (field.Arch w) h = record { back = ap (λ (o : Option (List ℕ)). o >>= λ n. Some (field.Arch n)) (name_yes w h); no_end = refl; no_version = refl }
spelled (field.Net w) h = net_spelled w h
spelled (field.Spread k) h = record { back = ap (λ (o : Option Key). o >>= λ x. Some (field.Spread x)) (key_back k h); no_end = refl; no_version = refl }
spelled (field.Constraint c) h = record { back = ap (λ (o : Option Constraint). o >>= λ x. Some (field.Constraint x)) (constraint_of-text c h); no_end = refl; no_version = refl }
spelled (field.Port p) h = record { back = ap (λ (o : Option Port). o >>= λ x. Some (field.Port x)) (port_back p.target p.number p.udp h.0 h.1); no_end = refl; no_version = refl }
spelled (field.Host p) h = record {
  back = ap (λ (o : Option Port). o >>= host_of) (port_back p.target p.number p.udp h.0.0 h.0.1) ∙ host_yes p.target p.number p.udp h.1;
  no_end = refl;
  no_version = refl;
}
spelled (field.Role role.Worker) h = record { back = refl; no_end = refl; no_version = refl }
spelled (field.Role role.Manager) h = record { back = refl; no_end = refl; no_version = refl }
spelled (field.Availability availability.Active) h = record { back = refl; no_end = refl; no_version = refl }
spelled (field.Availability availability.Pause) h = record { back = refl; no_end = refl; no_version = refl }
spelled (field.Availability availability.Drain) h = record { back = refl; no_end = refl; no_version = refl }
spelled field.Remote h = record { back = refl; no_end = refl; no_version = refl }
spelled (field.Restart condition.Never) h = record { back = refl; no_end = refl; no_version = refl }
spelled (field.Restart condition.OnFailure) h = record { back = refl; no_end = refl; no_version = refl }
spelled (field.Restart condition.Any) h = record { back = refl; no_end = refl; no_version = refl }
spelled (field.Failure action.Pause) h = record { back = refl; no_end = refl; no_version = refl }
spelled (field.Failure action.Continue) h = record { back = refl; no_end = refl; no_version = refl }
spelled (field.Failure action.Rollback) h = record { back = refl; no_end = refl; no_version = refl }
spelled (field.Order order.StopFirst) h = record { back = refl; no_end = refl; no_version = refl }
spelled (field.Order order.StartFirst) h = record { back = refl; no_end = refl; no_version = refl }

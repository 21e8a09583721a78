-- What fields say together has a text, where each has a word and no key stands twice.
use Rattle.std.proofs.Common.{◌≡◌, ℕ, List, [], ◌∷◌, ◌++◌, take, drop, map, zero, suc, Bool, true, false, cond, ◌&&◌, refl, subst, Option, Some, None, nat_eq}
use Rattle.std.specs.List.{AllByRecursion, filter_map, list_all}
use Rattle.std.proofs.lemmas.Option.{same_Some}
use Rattle.std.specs.Option.{option_or}
use Rattle.swarm_objects.proofs.Tests.{both}
use Rattle.swarm_objects.specs.declared.nodes.Availability.{Availability}
use Rattle.swarm_objects.specs.declared.nodes.Availability.TheVariants as availability
use Rattle.swarm_objects.specs.declared.nodes.NodeRole.{NodeRole}
use Rattle.swarm_objects.specs.declared.nodes.NodeRole.TheVariants as role
use Rattle.swarm_objects.specs.declared.services.FailureAction.{FailureAction}
use Rattle.swarm_objects.specs.declared.services.FailureAction.TheVariants as action
use Rattle.swarm_objects.specs.declared.services.Mode.{Mode}
use Rattle.swarm_objects.specs.declared.services.Mode.TheVariants as mode
use Rattle.swarm_objects.specs.declared.services.UpdateOrder.{UpdateOrder}
use Rattle.swarm_objects.specs.declared.services.UpdateOrder.TheVariants as order
use Rattle.swarm_objects.specs.declared.templates.End.{End}
use Rattle.swarm_objects.specs.declared.templates.End.TheVariants as end
use Rattle.swarm_objects.specs.declared.templates.RestartCondition.{RestartCondition}
use Rattle.swarm_objects.specs.declared.templates.RestartCondition.TheVariants as condition
use Rattle.script_grammar.specs.declared.fields.Field.{Field}
use Rattle.script_grammar.specs.declared.fields.Field.TheVariants as field
use Rattle.script_grammar.specs.declared.fields.Head.{Head}
use Rattle.script_grammar.specs.declared.fields.Head.TheVariants as head
use Rattle.script_grammar.specs.declared.fields.NumberField.{NumberField}
use Rattle.script_grammar.specs.declared.fields.NumberField.TheVariants as number
use Rattle.script_grammar.specs.declared.fields.Table.{Table}
use Rattle.script_grammar.specs.declared.fields.Table.TheVariants as table
use Rattle.script_grammar.specs.Calls.{op_of}
use Rattle.script_grammar.specs.Drafts.{arch_in, availability_in, constraint_in, draft_of, end_in, engine_in, failure_in, host_in, label_in, label_place, labels_of, labels_onto, mode_in, net_in, node_draft_of, number_given, number_in, number_named, order_in, os_in, platform_in, port_in, remote_in, restart_in, role_in, settings_of, spread_in, with_label}
use Rattle.swarm_filters.specs.Grammar.{is_name}
use Rattle.script_grammar.specs.HasText.{has_word, is_number, op_has_text, where_some}
use Rattle.script_grammar.specs.Pieces.{arch_piece, availability_piece, condition_piece, end_piece, engine_field, failure_piece, given_piece, joined, label_field, mode_piece, node_pieces, number_piece, old_node_pieces, order_piece, os_piece, remote_piece, role_piece, service_pieces, session_pieces, settings_pieces}
use Rattle.script_grammar.specs.Tables.{number_default, number_row}
use Rattle.script_grammar.proofs.Canonical.{all_append}
use Rattle.script_grammar.proofs.HasWord.{Wordy, many_wordy, of_all, once_wordy}
use Rattle.script_grammar.proofs.Nodes.{Labels}
use Rattle.script_grammar.proofs.Rising.{Apart, keys_rise_yes, labels_rising}

-- fields of which each has a word, and no two labels one key
pub record HasFields (fs : List Field) : Type 0 where
  pub words : Wordy fs
  pub labels : Apart (filter_map label_in fs)
  pub engines : Apart (filter_map engine_in fs)

-- ## Each row

either_wordy : (b : Bool) (f : Field) → has_word f ≡ true → Wordy (cond b [] (f ∷ []))
either_wordy true f h = tt
either_wordy false f h = (h, tt)

mode_wordy : (f : Field) (m : Mode) → mode_in f ≡ Some m → has_word f ≡ true → Wordy (mode_piece m)
mode_wordy (field.Mode (mode.Replicated n)) m e h = subst (λ x. Wordy (mode_piece x)) (same_Some _ m e) (either_wordy (nat_eq n 1) (field.Mode (mode.Replicated n)) h)
mode_wordy (field.Mode mode.Global) m e h = subst (λ x. Wordy (mode_piece x)) (same_Some _ m e) (h, tt)
mode_wordy (field.Mode (mode.Job c t)) m e h = subst (λ x. Wordy (mode_piece x)) (same_Some _ m e) (h, tt)
mode_wordy f m e h = cc

end_wordy : (f : Field) (x : End) → end_in f ≡ Some x → has_word f ≡ true → Wordy (end_piece x)
end_wordy (field.End end.Never) x e h = cc
end_wordy (field.End (end.Exit ms code)) x e h = subst (λ y. Wordy (end_piece y)) (same_Some _ x e) (h, tt)
end_wordy (field.End end.Reject) x e h = subst (λ y. Wordy (end_piece y)) (same_Some _ x e) (h, tt)
end_wordy f x e h = cc

number_wordy : (t : Table) (w : NumberField) (f : Field) (n : ℕ) → number_in w f ≡ Some n → has_word f ≡ true → Wordy (number_piece t w n)
number_wordy t w (field.Number v m) n e h = go (nat_eq (number_row v) (number_row w)) e where
  go : (b : Bool) → cond b (Some m) None ≡ Some n → Wordy (number_piece t w n)
  go true d = either_wordy (nat_eq n (number_default t w)) (field.Number w n) (subst (λ k. is_number k ≡ true) (same_Some m n d) h)
  go false d = cc
number_wordy t w f n e h = cc

condition_wordy : (f : Field) (c : RestartCondition) → restart_in f ≡ Some c → has_word f ≡ true → Wordy (condition_piece c)
condition_wordy f condition.Never e h = (refl, tt)
condition_wordy f condition.OnFailure e h = (refl, tt)
condition_wordy f condition.Any e h = tt

failure_wordy : (f : Field) (a : FailureAction) → failure_in f ≡ Some a → has_word f ≡ true → Wordy (failure_piece a)
failure_wordy f action.Pause e h = tt
failure_wordy f action.Continue e h = (refl, tt)
failure_wordy f action.Rollback e h = (refl, tt)

order_wordy : (f : Field) (o : UpdateOrder) → order_in f ≡ Some o → has_word f ≡ true → Wordy (order_piece o)
order_wordy f order.StopFirst e h = tt
order_wordy f order.StartFirst e h = (refl, tt)

role_wordy : (f : Field) (r : NodeRole) → role_in f ≡ Some r → has_word f ≡ true → Wordy (role_piece r)
role_wordy f role.Worker e h = tt
role_wordy f role.Manager e h = (refl, tt)

availability_wordy : (f : Field) (a : Availability) → availability_in f ≡ Some a → has_word f ≡ true → Wordy (availability_piece a)
availability_wordy f availability.Active e h = tt
availability_wordy f availability.Pause e h = (refl, tt)
availability_wordy f availability.Drain e h = (refl, tt)

remote_wordy : (f : Field) (b : Bool) → remote_in f ≡ Some b → has_word f ≡ true → Wordy (remote_piece b)
remote_wordy f false e h = tt
remote_wordy f true e h = (refl, tt)

os_wordy : (f : Field) (n : List ℕ) → os_in f ≡ Some n → has_word f ≡ true → Wordy (os_piece n)
os_wordy (field.Os m) n e h = either_wordy _ (field.Os n) (subst (λ x. is_name x ≡ true) (same_Some m n e) h)
os_wordy f n e h = cc

arch_wordy : (f : Field) (n : List ℕ) → arch_in f ≡ Some n → has_word f ≡ true → Wordy (arch_piece n)
arch_wordy (field.Arch m) n e h = either_wordy _ (field.Arch n) (subst (λ x. is_name x ≡ true) (same_Some m n e) h)
arch_wordy f n e h = cc

-- a row whose items are kept as they are
kept_constraint : (f : Field) (x : _) → constraint_in f ≡ Some x → has_word f ≡ true → has_word (field.Constraint x) ≡ true
kept_constraint (field.Constraint y) x e h = subst (λ z. has_word (field.Constraint z) ≡ true) (same_Some y x e) h
kept_constraint f x e h = cc

kept_spread : (f : Field) (x : _) → spread_in f ≡ Some x → has_word f ≡ true → has_word (field.Spread x) ≡ true
kept_spread (field.Spread y) x e h = subst (λ z. has_word (field.Spread z) ≡ true) (same_Some y x e) h
kept_spread f x e h = cc

kept_platform : (f : Field) (x : _) → platform_in f ≡ Some x → has_word f ≡ true → has_word (field.Platform x) ≡ true
kept_platform (field.Platform y) x e h = subst (λ z. has_word (field.Platform z) ≡ true) (same_Some y x e) h
kept_platform f x e h = cc

kept_net : (f : Field) (x : _) → net_in f ≡ Some x → has_word f ≡ true → has_word (field.Net x) ≡ true
kept_net (field.Net y) x e h = subst (λ z. has_word (field.Net z) ≡ true) (same_Some y x e) h
kept_net f x e h = cc

kept_port : (f : Field) (x : _) → port_in f ≡ Some x → has_word f ≡ true → has_word (field.Port x) ≡ true
kept_port (field.Port y) x e h = subst (λ z. has_word (field.Port z) ≡ true) (same_Some y x e) h
kept_port f x e h = cc

kept_host : (f : Field) (x : _) → host_in f ≡ Some x → has_word f ≡ true → has_word (field.Host x) ≡ true
kept_host (field.Host y) x e h = subst (λ z. has_word (field.Host z) ≡ true) (same_Some y x e) h
kept_host f x e h = cc

-- ## Labels

abbrev Named : Labels → Type 0
Named = AllByRecursion (λ l. (is_name l.0 && is_name l.1) ≡ true)

with_named : (l : List ℕ × List ℕ) (ms : Labels) → (is_name l.0 && is_name l.1) ≡ true → Named ms → Named (with_label l ms)
with_named l ms e h = go (label_place l.0 ms) ms h where
  go : (n : ℕ) (ms : Labels) → Named ms → Named (take n ms ++ l ∷ drop n ms)
  go zero ms h = (e, h)
  go (suc n) [] h = (e, tt)
  go (suc n) (m ∷ ms) h = (h.0, go n ms h.1)

onto_named : (ls ms : Labels) → Named ls → Named ms → Named (labels_onto ms ls)
onto_named [] ms h k = k
onto_named (l ∷ ls) ms h k = onto_named ls (with_label l ms) h.1 (with_named l ms h.0 k)

labels_named : (fs : List Field) → Wordy fs → Named (filter_map label_in fs)
labels_named [] h = tt
labels_named (field.Label k v ∷ fs) h = (h.0, labels_named fs h.1)
labels_named (f ∷ fs) h = labels_named fs h.1

engines_named : (fs : List Field) → Wordy fs → Named (filter_map engine_in fs)
engines_named [] h = tt
engines_named (field.Engine k v ∷ fs) h = (h.0, engines_named fs h.1)
engines_named (f ∷ fs) h = engines_named fs h.1

label_words : (ls : Labels) → Named ls → Wordy (map label_field ls)
label_words [] h = tt
label_words (l ∷ ls) h = (h.0, label_words ls h.1)

engine_words : (ls : Labels) → Named ls → Wordy (map engine_field ls)
engine_words [] h = tt
engine_words (l ∷ ls) h = (h.0, engine_words ls h.1)

labels_wordy : (fs : List Field) → Wordy fs → Wordy (map label_field (labels_of (filter_map label_in fs)))
labels_wordy fs h = label_words (labels_of (filter_map label_in fs)) (onto_named (filter_map label_in fs) [] (labels_named fs h) tt)

engines_wordy : (fs : List Field) → Wordy fs → Wordy (map engine_field (labels_of (filter_map engine_in fs)))
engines_wordy fs h = engine_words (labels_of (filter_map engine_in fs)) (onto_named (filter_map engine_in fs) [] (engines_named fs h) tt)

-- ## Drafts

next : (ps qs : List Field) → Wordy ps → Wordy qs → Wordy (ps ++ qs)
next ps qs h k = all_append (λ f. has_word f ≡ true) ps qs h k

usual_number : (t : Table) (w : NumberField) → is_number (number_default t w) ≡ true → Wordy (number_piece t w (number_default t w))
usual_number t w h = either_wordy (nat_eq (number_default t w) (number_default t w)) (field.Number w (number_default t w)) h

numbers_wordy : (t : Table) (w : NumberField) → is_number (number_default t w) ≡ true → (fs : List Field) → Wordy fs → Wordy (number_piece t w (number_named t w fs))
numbers_wordy t w u fs h = once_wordy (number_in w) (number_piece t w) (number_default t w) (usual_number t w u) (number_wordy t w) fs h

pub service_wordy : (fs : List Field) → Wordy fs → Wordy (joined (service_pieces (draft_of fs)))
service_wordy fs h =
    next _ _ (once_wordy mode_in mode_piece (mode.Replicated 1) tt mode_wordy fs h) (
    next _ _ (once_wordy end_in end_piece end.Never tt end_wordy fs h) (
    next _ _ (numbers_wordy table.Service number.Prepare refl fs h) (
    next _ _ (numbers_wordy table.Service number.Start refl fs h) (
    next _ _ (numbers_wordy table.Service number.Stop refl fs h) (
    next _ _ (numbers_wordy table.Service number.Cpu refl fs h) (
    next _ _ (numbers_wordy table.Service number.Mem refl fs h) (
    next _ _ (many_wordy constraint_in field.Constraint kept_constraint fs h) (
    next _ _ (many_wordy spread_in field.Spread kept_spread fs h) (
    next _ _ (many_wordy platform_in field.Platform kept_platform fs h) (
    next _ _ (numbers_wordy table.Service number.MaxReplicas refl fs h) (
    next _ _ (many_wordy net_in field.Net kept_net fs h) (
    next _ _ (once_wordy restart_in condition_piece condition.Any tt condition_wordy fs h) (
    next _ _ (numbers_wordy table.Service number.RestartDelay refl fs h) (
    next _ _ (numbers_wordy table.Service number.RestartMax refl fs h) (
    next _ _ (numbers_wordy table.Service number.RestartWindow refl fs h) (
    next _ _ (many_wordy port_in field.Port kept_port fs h) (
    next _ _ (many_wordy host_in field.Host kept_host fs h) (
    next _ _ (numbers_wordy table.Service number.Parallelism refl fs h) (
    next _ _ (numbers_wordy table.Service number.UpdateDelay refl fs h) (
    next _ _ (numbers_wordy table.Service number.Monitor refl fs h) (
    next _ _ (once_wordy failure_in failure_piece action.Pause tt failure_wordy fs h) (
    next _ _ (numbers_wordy table.Service number.Ratio refl fs h) (
    next _ _ (once_wordy order_in order_piece order.StopFirst tt order_wordy fs h) (
    tt))))))))))))))))))))))))

pub node_wordy : (fs : List Field) → Wordy fs → Wordy (joined (node_pieces (node_draft_of fs)))
node_wordy fs h =
    next _ _ (labels_wordy fs h) (
    next _ _ (once_wordy role_in role_piece role.Worker tt role_wordy fs h) (
    next _ _ (once_wordy availability_in availability_piece availability.Active tt availability_wordy fs h) (
    next _ _ (numbers_wordy table.NewNode number.Cpu refl fs h) (
    next _ _ (numbers_wordy table.NewNode number.Mem refl fs h) (
    next _ _ (once_wordy os_in os_piece _ tt os_wordy fs h) (
    next _ _ (once_wordy arch_in arch_piece _ tt arch_wordy fs h) (
    next _ _ (engines_wordy fs h) (
    next _ _ (once_wordy remote_in remote_piece false tt remote_wordy fs h) (
    tt)))))))))

pub old_wordy : (fs : List Field) → Wordy fs → Wordy (joined (old_node_pieces (node_draft_of fs).labels (node_draft_of fs).role (node_draft_of fs).availability))
old_wordy fs h =
    next _ _ (labels_wordy fs h) (
    next _ _ (once_wordy role_in role_piece role.Worker tt role_wordy fs h) (
    next _ _ (once_wordy availability_in availability_piece availability.Active tt availability_wordy fs h) (
    tt)))

pub settings_wordy : (fs : List Field) → Wordy fs → Wordy (joined (settings_pieces (settings_of fs)))
settings_wordy fs h =
    next _ _ (numbers_wordy table.Cluster number.Heartbeat refl fs h) (
    next _ _ (numbers_wordy table.Cluster number.Orphan refl fs h) (
    next _ _ (numbers_wordy table.Cluster number.History refl fs h) (
    tt)))

given_wordy : (w : NumberField) (fs : List Field) → Wordy fs → Wordy (given_piece w (number_given w fs))
given_wordy w [] h = tt
given_wordy w (f ∷ fs) h = go (number_in w f) refl (given_wordy w fs h.1) where
  one : (f : Field) (n : ℕ) → number_in w f ≡ Some n → has_word f ≡ true → is_number n ≡ true
  one (field.Number v m) n e h = pick (nat_eq (number_row v) (number_row w)) e where
    pick : (b : Bool) → cond b (Some m) None ≡ Some n → is_number n ≡ true
    pick true d = subst (λ k. is_number k ≡ true) (same_Some m n d) h
    pick false d = cc
  one f n e h = cc

  go : (o : Option ℕ) → number_in w f ≡ o → Wordy (given_piece w (number_given w fs)) → Wordy (given_piece w (option_or o (number_given w fs)))
  go None e ih = ih
  go (Some n) e ih = (one f n e h.0, tt)

pub session_wordy : (fs : List Field) → Wordy fs → Wordy (joined (session_pieces (number_given number.Cpu fs) (number_given number.Mem fs)))
session_wordy fs h = next _ _ (given_wordy number.Cpu fs h) (next _ _ (given_wordy number.Mem fs h) tt)

-- ## Operations

-- the names and versions of a head
abbrev pub HasHead : Head → Type 0
HasHead (head.CreateNode n) = is_name n ≡ true
HasHead (head.UpdateNode n v) = (is_name n ≡ true) × (where_some is_number v ≡ true)
HasHead (head.CreateService n) = is_name n ≡ true
HasHead (head.UpdateService n v) = (is_name n ≡ true) × (where_some is_number v ≡ true)
HasHead head.SetCluster = Unit {0}

have : (fs : List Field) → Wordy fs → list_all has_word fs ≡ true
have fs h = of_all has_word fs h

pub op_of_has : (h : Head) (fs : List Field) → HasHead h → HasFields fs → op_has_text (op_of h fs) ≡ true
op_of_has (head.CreateNode n) fs k h =
    both _ _ k (both _ _ (have _ (node_wordy fs h.words)) (both _ _ (keys_rise_yes _ (labels_rising _ h.labels)) (keys_rise_yes _ (labels_rising _ h.engines))))
op_of_has (head.UpdateNode n v) fs k h =
    both _ _ k.0 (both _ _ k.1 (both _ _ (have _ (old_wordy fs h.words)) (keys_rise_yes _ (labels_rising _ h.labels))))
op_of_has (head.CreateService n) fs k h = both _ _ k (both _ _ (have _ (service_wordy fs h.words)) refl)
op_of_has (head.UpdateService n v) fs k h = both _ _ k.0 (both _ _ k.1 (both _ _ (have _ (service_wordy fs h.words)) refl))
op_of_has head.SetCluster fs k h = have _ (settings_wordy fs h.words)

-- The events between two worlds, put row by row and kind by kind.
use Rattle.std.proofs.Common.{◌≡◌, ℕ, List, ◌++◌, Bool, ap, sym, ◌∙◌, Option, Some, None, append-nil, append_assoc, map}
use Rattle.std.specs.Option.{option_to_list}
use Rattle.events_text.specs.Inside.Events.{events_at}
use Rattle.swarm_model.specs.Changed.{event, events_of, verb_of}
use Rattle.swarm_objects.specs.Rows.{IsRising}
use Rattle.swarm_objects.specs.declared.ids.Kind.{Kind}
use Rattle.swarm_objects.specs.declared.watches.Event.{Event}
use Rattle.swarm_objects.specs.declared.watches.Verb.{Verb}
use Rattle.swarm_plain.proofs.Merging.{next-events, no-events}
use Rattle.swarm_plain.specs.Inside.Merging.{head_at, least_key, rest_at}

-- what was put so far and what the rows that are left tell are all that was to be put
pub put-next : {X : Type 0} (n : ℕ) (k : Kind) (key : X → ℕ) (same : X → X → Bool) (id : ℕ) (old new olds news : List X)
    (before after : List Event) (happened : Option Verb) → IsRising key old → IsRising key new →
    least_key key old new ≡ Some id →
    option_to_list happened ≡ verb_of same (head_at key id old) (head_at key id new) →
    after ≡ before ++ events_at n k id happened → olds ≡ rest_at key id old → news ≡ rest_at key id new →
    after ++ events_of n k key same olds news ≡ before ++ events_of n k key same old new
put-next n k key same id old new olds news before after happened r q e is put first second =
    ap (λ xs. after ++ events_of n k key same xs news) first
    ∙ ap (λ xs. after ++ events_of n k key same (rest_at key id old) xs) second
    ∙ ap (λ es. es ++ rest) (put ∙ ap (λ vs. before ++ map (event n k id) vs) is)
    ∙ append_assoc before here' rest
    ∙ ap (λ es. before ++ es) (sym (next-events n k key same id old new r q e))
  where
    rest : List Event
    rest = events_of n k key same (rest_at key id old) (rest_at key id new)

    here' : List Event
    here' = map (event n k id) (verb_of same (head_at key id old) (head_at key id new))

pub put-end : {X : Type 0} (n : ℕ) (k : Kind) (key : X → ℕ) (same : X → X → Bool) (old new : List X)
    (before all : List Event) → least_key key old new ≡ None → before ++ events_of n k key same old new ≡ all →
    before ≡ all
put-end n k key same old new before all e is =
    sym (append-nil before) ∙ ap (λ es. before ++ es) (sym (no-events n k key same old new e)) ∙ is

pub put-kind : {X : Type 0} (n : ℕ) (k : Kind) (key : X → ℕ) (same : X → X → Bool) (old new os ns : List X)
    (before after : List Event) → os ≡ old → ns ≡ new → after ≡ before ++ events_of n k key same os ns →
    after ≡ before ++ events_of n k key same old new
put-kind n k key same old new os ns before after o e put =
    put
    ∙ ap (λ z. before ++ events_of n k key same z ns) o
    ∙ ap (λ z. before ++ events_of n k key same old z) e

four-appended : (e a b c d : List Event) → (((e ++ a) ++ b) ++ c) ++ d ≡ e ++ (a ++ b ++ c ++ d)
four-appended e a b c d =
    ap (λ es. (es ++ c) ++ d) (append_assoc e a b)
    ∙ ap (λ es. es ++ d) (append_assoc e (a ++ b) c)
    ∙ append_assoc e (a ++ b ++ c) d

pub all-put : (a b c d e0 e1 e2 e3 e4 : List Event) → e1 ≡ e0 ++ a → e2 ≡ e1 ++ b → e3 ≡ e2 ++ c → e4 ≡ e3 ++ d →
    e4 ≡ e0 ++ (a ++ b ++ c ++ d)
all-put a b c d e0 e1 e2 e3 e4 first second third fourth =
    fourth
    ∙ ap (λ es. es ++ d) (third ∙ ap (λ es. es ++ c) (second ∙ ap (λ es. es ++ b) first))
    ∙ four-appended e0 a b c d

-- A call is written in no more bytes than the words of a script that say it.
use Rattle.std.proofs.Common.{◌≡◌, ℕ, ◌≤◌, ◌+◌, ◌^◌, List, [], ◌∷◌, ◌++◌, length, codes, decimal, map, Bool, true, false, cond, refl, ◌∙◌, ap, subst, Option, Some, None, arith, nat_eq}
use Rattle.std.specs.Str.{bytes_eq}
use Rattle.std.proofs.lemmas.Option.{same_Some}
use Rattle.swarm_objects.specs.declared.calls.Call.{Call}
use Rattle.swarm_objects.specs.declared.calls.Call.TheVariants as call
use Rattle.swarm_objects.specs.declared.calls.Op.{Op}
use Rattle.script_grammar.specs.declared.fields.Field.{Field}
use Rattle.script_grammar.specs.declared.fields.Head.{Head}
use Rattle.script_grammar.specs.declared.fields.Table.{Table}
use Rattle.script_grammar.specs.declared.fields.Table.TheVariants as table
use Rattle.script_grammar.specs.declared.states.Form.TheVariants as form
use Rattle.script_grammar.specs.declared.states.Noun.{Noun}
use Rattle.script_grammar.specs.declared.states.State.{State}
use Rattle.script_grammar.specs.declared.states.State.TheVariants as state
use Rattle.script_grammar.proofs.Inversions.{bound, same}
use Rattle.script_grammar.proofs.LengthsDrafts.{op_size, room, room-append, room-size, session_size, size, size-append}
use Rattle.script_grammar.proofs.LengthsWords.{field_length}
use Rattle.script_grammar.proofs.Numbers.{number_only, test_some}
use Rattle.script_grammar.proofs.OneSpelling.{Grows, before_ops, before_snoc, head_words, open_words, ops_snoc, step_grows, written}
use Rattle.swarm_objects.specs.Limits.{largest_budget}
use Rattle.script_grammar.specs.Calls.{begins_version, budget_of, call_grammar, call_opening, in_fields, is_budget, is_empty, next_field, noun_of, op_of, opening, step, table_of, versioned, whole}
use Rattle.script_grammar.specs.Fields.{field_of, field_text}
use Rattle.script_grammar.specs.Machines.{IsSaid, run}
use Rattle.script_grammar.specs.Tables.{may_stand}
use Rattle.script_grammar.specs.Texts.{call_words, op_words}
use Rattle.script_grammar.specs.Words.{number_of, ◌>>=◌}

-- one word more is written in no more bytes
abbrev Within : State → List ℕ → State → Type 0
Within s w next = room (written next) ≤ room (written s) + (length w + 1)

as_grown : (s : State) (w : List ℕ) (next : State) → Grows s w next → Within s w next
as_grown s w next g = omega (arith, ap room g.words, room-append (written s) (w ∷ []))

-- ## First words: a script has all that a journal has, but halt

still : {A : Type 0} (b : Bool) (x y z : Option A) (n : A) → (y ≡ Some n → z ≡ Some n) → cond b x y ≡ Some n → cond b x z ≡ Some n
still true x y z n f e = e
still false x y z n f e = f e

call_opens : (w : List ℕ) (next : State) → call_opening form.Script w ≡ Some next → call_opening form.Journal w ≡ Some next
call_opens w next =
    still (bytes_eq w (codes "list")) _ _ _ next (
    still (bytes_eq w (codes "inspect")) _ _ _ next (
    still (bytes_eq w (codes "watch")) _ _ _ next (
    still (bytes_eq w (codes "agent")) _ _ _ next (
    still (bytes_eq w (codes "remote")) _ _ _ next (
    still (bytes_eq w (codes "clock")) _ _ _ next (
    still (bytes_eq w (codes "tick")) _ _ _ next (
    still (bytes_eq w (codes "settle")) (Some state.Settle) None (cond (bytes_eq w (codes "halt")) (Some (state.Done call.Halt)) None) next (λ e. cc))))))))

opens : (ops : List Op) (w : List ℕ) (next : State) → opening form.Script ops w ≡ Some next → opening form.Journal ops w ≡ Some next
opens ops w next = go (noun_of w) (is_empty ops) where
  go : (o : Option Noun) (b : Bool) → (elim o [ Some n ↦ Some (state.Noun ops n) | None ↦ cond b (call_opening form.Script w) None ]) ≡ Some next →
      (elim o [ Some n ↦ Some (state.Noun ops n) | None ↦ cond b (call_opening form.Journal w) None ]) ≡ Some next
  go (Some n) b e = e
  go None true e = call_opens w next e
  go None false e = e

-- ## Fields

field_more : (t : Table) (fs : List Field) (w : List ℕ) (gs : List Field) → next_field form.Script t fs w ≡ Some gs → size gs ≤ size fs + (length w + 1)
field_more t fs w gs e =
    let b = bound (field_of w) (λ g. cond (may_stand form.Script t fs g w) (Some (fs ++ g ∷ [])) None) gs e in
    let u = test_some (may_stand form.Script t fs b.0 w) (fs ++ b.0 ∷ []) gs b.2 in
    omega (arith, field_length w b.0 b.1, ap size u.1, size-append fs (b.0 ∷ []))

in_fields_room : (ops : List Op) (h : Head) (fs : List Field) → room (written (state.Fields ops h fs)) ≡ room (before_ops ops) + (room (head_words h) + size fs)
in_fields_room ops h fs =
    omega (arith, room-append (before_ops ops) (head_words h ++ map field_text fs), room-append (head_words h) (map field_text fs), room-size fs)

ended_room : (ops : List Op) (h : Head) (fs : List Field) (w : List ℕ) → w ≡ codes ";" → Within (state.Fields ops h fs) w (state.Opening (ops ++ op_of h fs ∷ []))
ended_room ops h fs w e = omega (
  arith,
  ap length e,
  in_fields_room ops h fs,
  op_size h fs,
  ap room (before_snoc ops (op_of h fs)),
  room-append (before_ops ops) (op_words (op_of h fs) ++ codes ";" ∷ []),
  room-append (op_words (op_of h fs)) (codes ";" ∷ []),
)

-- a version is a journal's too
versioned_room : (ops : List Op) (h : Head) (fs : List Field) (w : List ℕ) (next : State) → bytes_eq w (codes ";") ≡ false → begins_version w ≡ true →
    versioned ops h fs w ≡ Some next → Within (state.Fields ops h fs) w next
versioned_room ops h (f ∷ fs) w next n v e = cc
versioned_room ops h [] w next n v e =
    as_grown (state.Fields ops h []) w next (step_grows (state.Fields ops h []) w next (record { belong = tt; named = tt; sorted = tt }) (
    ap (λ b. cond b (Some (state.Opening (ops ++ op_of h [] ∷ []))) (cond (begins_version w) (versioned ops h [] w) (next_field form.Journal (table_of h) [] w >>= λ gs. Some (state.Fields ops h gs)))) n
    ∙ ap (λ b. cond b (versioned ops h [] w) (next_field form.Journal (table_of h) [] w >>= λ gs. Some (state.Fields ops h gs))) v
    ∙ e))

fields_room : (ops : List Op) (h : Head) (fs : List Field) (w : List ℕ) (next : State) → in_fields form.Script ops h fs w ≡ Some next → Within (state.Fields ops h fs) w next
fields_room ops h fs w next e = go (bytes_eq w (codes ";")) (begins_version w) refl refl e where
  go : (a b : Bool) → bytes_eq w (codes ";") ≡ a → begins_version w ≡ b →
      cond a (Some (state.Opening (ops ++ op_of h fs ∷ []))) (cond b (versioned ops h fs w) (next_field form.Script (table_of h) fs w >>= λ gs. Some (state.Fields ops h gs))) ≡ Some next →
      Within (state.Fields ops h fs) w next
  go true b x y d = subst (Within (state.Fields ops h fs) w) (same_Some _ next d) (ended_room ops h fs w (same w (codes ";") x))
  go false true x y d = versioned_room ops h fs w next x y d
  go false false x y d =
      let g = bound (next_field form.Script (table_of h) fs w) (λ gs. Some (state.Fields ops h gs)) next d in
      subst (Within (state.Fields ops h fs) w) (same_Some _ next g.2) (omega (arith, field_more (table_of h) fs w g.0 g.1, in_fields_room ops h fs, in_fields_room ops h g.0))

session_room : (n : List ℕ) (fs : List Field) → room (written (state.SessionFields n fs)) ≡ room (open_words n) + size fs
session_room n fs = omega (arith, room-append (open_words n) (map field_text fs), room-size fs)

session_field_room : (n : List ℕ) (fs : List Field) (w : List ℕ) (next : State) → step form.Script (state.SessionFields n fs) w ≡ Some next → Within (state.SessionFields n fs) w next
session_field_room n fs w next e =
    let g = bound (next_field form.Script table.Session fs w) (λ gs. Some (state.SessionFields n gs)) next e in
    subst (Within (state.SessionFields n fs) w) (same_Some _ next g.2) (omega (arith, field_more table.Session fs w g.0 g.1, session_room n fs, session_room n g.0))

-- ## The budget of a settle line

settle_room : (w : List ℕ) (next : State) → step form.Script state.Settle w ≡ Some next → Within state.Settle w next
settle_room w next e =
    let b = bound (budget_of form.Script w) (λ n. Some (state.Done (call.Settle n))) next e in
    let d = bound (number_of w) (λ n. cond (is_budget n) (Some n) None) b.0 b.1 in
    let t = test_some (is_budget d.0) d.0 b.0 d.2 in
    subst (Within state.Settle w) (ap (λ n. state.Done (call.Settle n)) t.1 ∙ same_Some _ next b.2) (told d.0 (number_only (2 ^ 64) d.0 w d.1).0)
  where
    told : (n : ℕ) → w ≡ decimal n → Within state.Settle w (state.Done (call.Settle n))
    told n k = go (nat_eq n largest_budget) where
      go : (b : Bool) → room (codes "settle" ∷ cond b [] (decimal n ∷ [])) ≤ room (codes "settle" ∷ []) + (length w + 1)
      go true = omega arith
      go false = omega (arith, ap length k)

-- ## All words

step_room : (s : State) (w : List ℕ) (next : State) → step form.Script s w ≡ Some next → Within s w next
step_room (state.Opening ops) w next e = as_grown (state.Opening ops) w next (step_grows (state.Opening ops) w next tt (opens ops w next e))
step_room (state.Noun ops n) w next e = as_grown (state.Noun ops n) w next (step_grows (state.Noun ops n) w next tt e)
step_room (state.Verb ops v) w next e = as_grown (state.Verb ops v) w next (step_grows (state.Verb ops v) w next tt e)
step_room (state.Fields ops h fs) w next e = fields_room ops h fs w next e
step_room (state.Subnet ops n) w next e = as_grown (state.Subnet ops n) w next (step_grows (state.Subnet ops n) w next tt e)
step_room (state.Operation ops o) w next e = as_grown (state.Operation ops o) w next (step_grows (state.Operation ops o) w next tt e)
step_room (state.CallNoun n) w next e = as_grown (state.CallNoun n) w next (step_grows (state.CallNoun n) w next tt e)
step_room (state.CallVerb v) w next e = as_grown (state.CallVerb v) w next (step_grows (state.CallVerb v) w next tt e)
step_room (state.Number v) w next e = as_grown (state.Number v) w next (step_grows (state.Number v) w next tt e)
step_room state.WatchOpen w next e = as_grown state.WatchOpen w next (step_grows state.WatchOpen w next tt e)
step_room (state.SessionFields n fs) w next e = session_field_room n fs w next e
step_room (state.Session v name) w next e = as_grown (state.Session v name) w next (step_grows (state.Session v name) w next tt e)
step_room (state.StatusTask name s) w next e = as_grown (state.StatusTask name s) w next (step_grows (state.StatusTask name s) w next tt e)
step_room (state.StatusState name s t) w next e = as_grown (state.StatusState name s t) w next (step_grows (state.StatusState name s t) w next tt e)
step_room state.Settle w next e = settle_room w next e
step_room (state.Done c) w next e = as_grown (state.Done c) w next (step_grows (state.Done c) w next tt e)

run_room : (ws : List (List ℕ)) (s t : State) → run (call_grammar form.Script) s ws ≡ Some t → room (written t) ≤ room (written s) + room ws
run_room [] s t e = omega (arith, ap (λ u. room (written u)) (same_Some s t e))
run_room (w ∷ ws) s t e =
    let b = bound (step form.Script s w) (λ u. run (call_grammar form.Script) u ws) t e in
    omega (arith, step_room s w b.0 b.1, run_room ws b.0 t b.2)

whole_room : (s : State) (c : Call) → whole s ≡ Some c → room (call_words c) ≤ room (written s)
whole_room (state.Fields ops h fs) c e = omega (
  arith,
  ap (λ x. room (call_words x)) (same_Some _ c e),
  ap room (ops_snoc ops (op_of h fs)),
  room-append (before_ops ops) (op_words (op_of h fs)),
  op_size h fs,
  in_fields_room ops h fs,
)
whole_room (state.Operation ops o) c e = omega (arith, ap (λ x. room (call_words x)) (same_Some _ c e), ap room (ops_snoc ops o))
whole_room (state.SessionFields n fs) c e = omega (arith, ap (λ x. room (call_words x)) (same_Some _ c e), session_size fs, session_room n fs)
whole_room state.Settle c e = omega (arith, ap (λ x. room (call_words x)) (same_Some _ c e))
whole_room (state.Done d) c e = omega (arith, ap (λ x. room (call_words x)) (same_Some d c e))
whole_room s c e = cc

pub call_room : (ws : List (List ℕ)) (c : Call) → IsSaid (call_grammar form.Script) ws c → room (call_words c) ≤ room ws
call_room ws c h =
    let b = bound (run (call_grammar form.Script) (state.Opening []) ws) whole c h in
    omega (arith, run_room ws (state.Opening []) b.0 b.1, whole_room b.0 c b.2)

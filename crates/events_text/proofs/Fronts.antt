-- The text of an entry behind its caller.
use Rattle.std.proofs.Common.{◌≡◌, ◌+◌, ◌-◌, ◌<◌, ℕ, List, [], ◌∷◌, ◌++◌, length, take, decimal, codes, true, false, Bool, refl, ap, ap₂, sym, ◌∙◌, append_assoc, arith, ◌&&◌}
use Rattle.std.proofs.Math.Seq.{drop-append-add, take-append_seam}
use Rattle.std.proofs.lemmas.List.{length-append}
use Rattle.events_text.specs.Inside.Cuts.{inner}
use Rattle.events_text.specs.Lines.{what_text}
use Rattle.script_grammar.specs.HasText.{call_has_text, has_text, is_number, what_has_text}
use Rattle.script_grammar.specs.Texts.{call_words, entry_text, op_words, ops_words, query_words, what_words}
use Rattle.swarm_objects.specs.DutyTexts.{spaced}
use Rattle.swarm_objects.specs.declared.calls.Call.{Call}
use Rattle.swarm_objects.specs.declared.calls.Call.TheVariants as call
use Rattle.swarm_objects.specs.declared.calls.Entry.{Entry}
use Rattle.swarm_objects.specs.declared.calls.Op.{Op}
use Rattle.swarm_objects.specs.declared.calls.Op.TheVariants as op
use Rattle.swarm_objects.specs.declared.calls.Query.{Query}
use Rattle.swarm_objects.specs.declared.calls.Query.TheVariants as query
use Rattle.swarm_objects.specs.declared.calls.What.{What}
use Rattle.swarm_objects.specs.declared.calls.What.TheVariants as what

-- there is a first word
record Begins (words : List (List ℕ)) : Type 0 where
  first : List ℕ
  more : List (List ℕ)
  is : words ≡ first ∷ more

begins-op : (o : Op) → Begins (op_words o)
begins-op (op.CreateNode n d) = record { first = _; more = _; is = refl }
begins-op (op.UpdateNode n v ls r a) = record { first = _; more = _; is = refl }
begins-op (op.RemoveNode n force) = record { first = _; more = _; is = refl }
begins-op (op.CreateService n d) = record { first = _; more = _; is = refl }
begins-op (op.UpdateService n v d) = record { first = _; more = _; is = refl }
begins-op (op.RemoveService n) = record { first = _; more = _; is = refl }
begins-op (op.RollbackService n v) = record { first = _; more = _; is = refl }
begins-op (op.CreateNetwork n base length) = record { first = _; more = _; is = refl }
begins-op (op.RemoveNetwork n) = record { first = _; more = _; is = refl }
begins-op (op.SetCluster s) = record { first = _; more = _; is = refl }

begins-append : (words others : List (List ℕ)) → Begins words → Begins (words ++ others)
begins-append words others b =
    record { first = b.first; more = b.more ++ others; is = ap (λ (ws : List (List ℕ)). ws ++ others) b.is }

begins-query : (q : Query) → Begins (query_words q)
begins-query query.ListNodes = record { first = _; more = _; is = refl }
begins-query query.ListServices = record { first = _; more = _; is = refl }
begins-query query.ListNetworks = record { first = _; more = _; is = refl }
begins-query (query.ListTasks service) = record { first = _; more = _; is = refl }
begins-query (query.InspectNode n) = record { first = _; more = _; is = refl }
begins-query (query.InspectService n) = record { first = _; more = _; is = refl }
begins-query (query.InspectNetwork n) = record { first = _; more = _; is = refl }
begins-query (query.InspectTask id) = record { first = _; more = _; is = refl }
begins-query query.Clock = record { first = _; more = _; is = refl }

begins-call : (c : Call) → call_has_text c ≡ true → Begins (call_words c)
begins-call (call.Txn []) has = cc
begins-call (call.Txn (o ∷ [])) has = begins-op o
begins-call (call.Txn (o ∷ p ∷ ops)) has = begins-append (op_words o) (codes ";" ∷ ops_words (p ∷ ops)) (begins-op o)
begins-call (call.View q) has = begins-query q
begins-call (call.WatchBegin f) has = record { first = _; more = _; is = refl }
begins-call (call.WatchPoll id) has = record { first = _; more = _; is = refl }
begins-call (call.WatchFinish id) has = record { first = _; more = _; is = refl }
begins-call (call.Tick n) has = record { first = _; more = _; is = refl }
begins-call (call.Settle n) has = record { first = _; more = _; is = refl }
begins-call (call.NodeFail n) has = record { first = _; more = _; is = refl }
begins-call (call.NodeStart n) has = record { first = _; more = _; is = refl }
begins-call (call.AgentStop n) has = record { first = _; more = _; is = refl }
begins-call (call.AgentStart n) has = record { first = _; more = _; is = refl }
begins-call (call.RemoteBegin n cpu mem) has = record { first = _; more = _; is = refl }
begins-call (call.RemoteBeat n session) has = record { first = _; more = _; is = refl }
begins-call (call.RemotePull n session) has = record { first = _; more = _; is = refl }
begins-call (call.RemoteStatus n session task s) has = record { first = _; more = _; is = refl }
begins-call call.Halt has = record { first = _; more = _; is = refl }

begins-what : (x : What) → what_has_text x ≡ true → Begins (what_words x)
begins-what (what.Call c) has = begins-call c has
begins-what (what.Duty d) has = record { first = _; more = _; is = refl }

both : (a b : Bool) → (a && b) ≡ true → b ≡ true
both true b e = e
both false b e = cc

-- the caller, a space, the entry's text and a newline
pub in-line : (e : Entry) → has_text e ≡ true →
    entry_text e ≡ decimal e.by ++ 32 ∷ (what_text e ++ codes "\n")
in-line e has =
    let b = begins-what e.what (both (is_number e.by) (what_has_text e.what) has) in
    ap (λ (ws : List (List ℕ)). spaced (decimal e.by ∷ ws) ++ codes "\n") b.is
    ∙ append_assoc (decimal e.by) (32 ∷ spaced (b.first ∷ b.more)) (codes "\n")
    ∙ ap (λ (ws : List (List ℕ)). decimal e.by ++ 32 ∷ (spaced ws ++ codes "\n")) (sym b.is)

-- a text behind so many bytes and a space, before a newline
cut : (a t : List ℕ) → inner (length a + 1) (a ++ 32 ∷ (t ++ 10 ∷ [])) ≡ t
cut a t =
    let size : length (a ++ 32 ∷ (t ++ 10 ∷ [])) - 1 - (length a + 1) ≡ length t =
    omega (arith, length-append a (32 ∷ (t ++ 10 ∷ [])), length-append t (10 ∷ [])) in
    ap₂ take size (drop-append-add a (32 ∷ (t ++ 10 ∷ [])) 1) ∙ take-append_seam t (10 ∷ [])

pub cuts : (e : Entry) (line by : List ℕ) → has_text e ≡ true → line ≡ entry_text e → by ≡ decimal e.by →
    inner (length by + 1) line ≡ what_text e
cuts e line by has line_is by_is =
    ap₂ (λ (b l : List ℕ). inner (length b + 1) l) by_is (line_is ∙ in-line e has) ∙ cut (decimal e.by) (what_text e)

pub inside : (e : Entry) (line by : List ℕ) → has_text e ≡ true → line ≡ entry_text e → by ≡ decimal e.by →
    length by + 1 < length line
inside e line by has line_is by_is =
    let t = what_text e in
    omega (
      arith,
      ap length by_is,
      ap length (line_is ∙ in-line e has),
      length-append (decimal e.by) (32 ∷ (t ++ 10 ∷ [])),
      length-append t (10 ∷ []),
    )

-- The whole history's entries, for a journal.
use Rattle.std.proofs.Common.{◌≡◌, ℕ, ◌≤◌, ◌⊎◌, inl, inr, List, [], ◌∷◌, ◌++◌, Bool, true, false, ◌==◌, ◌&&◌, ◌||◌, refl, ap, ◌∙◌, sym, subst, arith}
use Rattle.std.proofs.lemmas.Bool.Decides.{nat_tests}
use Rattle.std.specs.List.{list_all}
use Rattle.std.specs.Prelude.{nat_le}
use Rattle.script_grammar.specs.HasText.{call_has_text}
use Rattle.swarm_input.specs.Streams.{Stream}
use Rattle.swarm_lines.proofs.Closing.{has_own, le_is}
use Rattle.swarm_lines.proofs.Short.{halt_short}
use Rattle.swarm_lines.proofs.Telling.{own_halted}
use Rattle.swarm_lines.specs.Closing.{IsClosed, IsWritable}
use Rattle.swarm_lines.specs.Fitting.{AreFit, IsFit}
use Rattle.swarm_lines.specs.Lengths.{is_short}
use Rattle.swarm_lines.specs.declared.endings.Ending.{Ending}
use Rattle.swarm_model.proofs.Following.Alone.{both}
use Rattle.swarm_model.specs.Own.{Step, own, step_at}
use Rattle.swarm_model.specs.Script.{is_of_a_caller, is_share, is_shared, own_call}
use Rattle.swarm_objects.proofs.RowLemmas.{Has-append_cases}
use Rattle.swarm_objects.specs.Kinds.{role_of}
use Rattle.swarm_objects.specs.Rows.{Has}
use Rattle.swarm_objects.specs.declared.calls.Call.TheVariants.{Halt}
use Rattle.swarm_objects.specs.declared.calls.Call.{Call}
use Rattle.swarm_objects.specs.declared.calls.Entry.{Entry}
use Rattle.swarm_objects.specs.declared.calls.What.TheVariants.{Call as Called, Duty as Done}
use Rattle.swarm_objects.specs.declared.calls.What.{What}

zero_is : (n : ℕ) → (n == 0) ≡ true → n ≡ 0
zero_is n e = grind (arith, nat_tests)

of_what : (by : ℕ) (what : What) (c : Call) → by ≡ 0 → what ≡ Called c → is_short (own_call c) ≡ true →
    is_short (record { by = by; what = what }) ≡ true
of_what by what c own is short =
    ap (λ (n : ℕ). is_short (record { by = n; what = what })) own
    ∙ ap (λ (w : What). is_short (record { by = 0; what = w })) is ∙ short

-- caller 0's
own_writable : (e : Entry) → e.by ≡ 0 → ((c : Call) → e.what ≡ Called c → (call_has_text c ≡ true) × (is_short (own_call c) ≡ true)) →
    IsWritable e
own_writable e own fit = record {
  few = omega (arith, own);
  call = λ c is. let f = fit c is in (f.0, of_what e.by e.what c own is f.1);
}

fit_call : (what : What) (c : Call) → IsFit what → what ≡ Called c → (call_has_text c ≡ true) × (is_short (own_call c) ≡ true)
fit_call what c fit is = let f = subst IsFit is fit in (f.text, f.short)

halt_call : (c : Call) → Called Halt ≡ Called c → (call_has_text c ≡ true) × (is_short (own_call c) ≡ true)
halt_call c is =
    subst (λ (x : Call). (call_has_text x ≡ true) × (is_short (own_call x) ≡ true)) (same Halt c is) (refl, halt_short)
  where
    same : (x y : Call) → Called x ≡ Called y → x ≡ y
    same x y e = cc

-- a worker's
few_by : (by workers : ℕ) (what : What) → workers ≤ 16 → (by == 0) ≡ false → (by == 0 || is_shared by workers what) ≡ true →
    (by ≤ 16) × ((c : Call) → what ≡ Called c → ⊥)
few_by by workers (Called c) few other is = absurd (apart (by == 0 || false) is (ap (λ (b : Bool). b || false) other))
  where
    apart : (b : Bool) → b ≡ true → b ≡ false → ⊥
    apart b x y = cc
few_by by workers (Done d) few other is =
    let shared : (nat_le by workers && is_share by workers (role_of d)) ≡ true =
    sym (ap (λ (b : Bool). b || (nat_le by workers && is_share by workers (role_of d))) other) ∙ is in
    let within = le_is by workers (both (nat_le by workers) (is_share by workers (role_of d)) shared).0 in
    (omega (arith, within, few), λ c e. cc)

worker_writable : (workers : ℕ) (e : Entry) → workers ≤ 16 → (e.by == 0) ≡ false → is_of_a_caller workers e ≡ true →
    IsWritable e
worker_writable workers e few other is =
    let by = few_by e.by workers e.what few other is in
    record { few = by.0; call = λ c same. absurd (by.1 c same) }

each_of : (test : Entry → Bool) (H : List Entry) (e : Entry) → list_all test H ≡ true → Has H e → test e ≡ true
each_of test [] e all h = absurd h
each_of test (x ∷ H) e all (inl same) = ap test (sym same) ∙ (both (test x) (list_all test H) all).0
each_of test (x ∷ H) e all (inr h) = each_of test H e (both (test x) (list_all test H) all).1 h

own_steps : (workers : ℕ) (ending : Ending) (script out : Stream) (H : List Entry) (c : IsClosed workers ending script out H) →
    own 0 H ≡ own 0 c.now ++ step_at c.start (own_call Halt) ∷ []
own_steps workers ending script out H c = ap (own 0) c.ends ∙ own_halted c.now c.start c.stays

step_writable : (now : List Step) (start : List Entry) (s : Step) → AreFit now →
    Has now s ⊎ Has (step_at start (own_call Halt) ∷ []) s → (c : Call) → s.entry.what ≡ Called c →
    (call_has_text c ≡ true) × (is_short (own_call c) ≡ true)
step_writable now start s fit (inl h) c is = fit_call s.entry.what c (fit s h) is
step_writable now start s fit (inr (inl e)) c is = halt_call c (ap (λ (z : Step). z.entry.what) e ∙ is)
step_writable now start s fit (inr (inr h)) c is = absurd h

pub writable : (workers : ℕ) (ending : Ending) (script out : Stream) (H : List Entry) →
    IsClosed workers ending script out H → workers ≤ 16 → (e : Entry) → Has H e → IsWritable e
writable workers ending script out H c few e h = go (e.by == 0) refl
  where
    go : (b : Bool) → (e.by == 0) ≡ b → IsWritable e
    go true mine =
        let step = has_own [] H e h mine in
        let there = Has-append_cases (own 0 c.now) (step_at c.start (own_call Halt) ∷ []) step.0
        (subst (λ (l : List Step). Has l step.0) (own_steps workers ending script out H c) step.1) in
        own_writable e (zero_is e.by mine)
        (λ call is.
        step_writable (own 0 c.now) c.start step.0 c.read.fit there call
        (ap (λ (x : Entry). x.what) step.2 ∙ is))
    go false other = worker_writable workers e few other (each_of (is_of_a_caller workers) H e c.callers h)

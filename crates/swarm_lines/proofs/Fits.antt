-- What a script's lines make is fit for a journal, and isn't Halt.
use Rattle.std.proofs.Common.{◌≡◌, ℕ, ◌-◌, ◌≤◌, inl, inr, List, [], ◌∷◌, ◌++◌, Bool, true, false, not, refl, sym, subst, arith, Option, Some, Result, Ok, Err}
use Rattle.std.proofs.lemmas.Bool.Decides.{nat_tests}
use Rattle.script_grammar.specs.HasText.{is_number}
use Rattle.script_grammar.specs.declared.lines.Line.{Line}
use Rattle.script_grammar.specs.declared.lines.Line.TheVariants.{Blank, Call as CallLine, Settle as SettleLine, Wait}
use Rattle.swarm_lines.proofs.Coming.{own_came}
use Rattle.swarm_lines.proofs.Short.{tick_short}
use Rattle.swarm_lines.specs.Came.{Came}
use Rattle.swarm_lines.specs.Fitting.{AreFit, IsFit, IsFitCall, IsFitLine}
use Rattle.swarm_lines.specs.Inside.LineSteps.{DoesLine}
use Rattle.swarm_lines.specs.Serial.{asked}
use Rattle.swarm_lines.specs.declared.endings.Ending.{Ending}
use Rattle.swarm_lines.specs.declared.endings.Ending.TheVariants.{Done, Refused, ReadFault, OutFault, JournalFault, NoMemory, NoMemoryAt, BadLine, Full}
use Rattle.swarm_model.specs.Kept.{AreTurns, IsTurn, KeepsLine, KeepsPart, KeepsTick, KeepsTicks, KeepsUndone, Stretch}
use Rattle.swarm_model.specs.Own.{Step, own, step_at}
use Rattle.swarm_model.specs.Script.{own_call}
use Rattle.swarm_objects.proofs.RowLemmas.{Has-append_cases}
use Rattle.swarm_objects.specs.CallWords.{is_halt}
use Rattle.swarm_objects.specs.Rows.{Has}
use Rattle.swarm_objects.specs.declared.calls.Call.TheVariants.{Settle, Tick}
use Rattle.swarm_objects.specs.declared.calls.Entry.{Entry}

-- Lists of steps.

pub fit_none : (part : List Step) → part ≡ [] → AreFit part
fit_none part none s h = absurd (subst (λ (l : List Step). Has l s) none h)

fit_append : (first rest : List Step) → AreFit first → AreFit rest → AreFit (first ++ rest)
fit_append first rest a b s h = elim (Has-append_cases first rest s h) [
  | inl k ↦ a s k
  | inr k ↦ b s k
]

fit_cons : (x : Step) (rest : List Step) → IsFit x.entry.what → AreFit rest → AreFit (x ∷ rest)
fit_cons x rest a b s (inl e) = subst (λ (z : Step). IsFit z.entry.what) e a
fit_cons x rest a b s (inr h) = b s h

fit_turn : (s : Step) → IsTurn s → IsFit s.entry.what
fit_turn s t = subst (λ (e : Entry). IsFit e.what) (sym t.entry) tt

fit_turns : (turns : List Step) → AreTurns turns → AreFit turns
fit_turns turns are s h = fit_turn s (are s h)

-- Ticks.

few_number : (ms : ℕ) → ms ≤ 1000 → is_number ms ≡ true
few_number ms few = grind (arith, nat_tests)

fit_tick : (left : ℕ) (s : Stretch) → KeepsTick left s → IsFitCall (Tick s.ms)
fit_tick left s keeps =
    let most = keeps.most in
    record { text = few_number s.ms most; short = tick_short s.ms (omega arith); runs = refl }

fit_stretch : (left : ℕ) (s : Stretch) (rest : List Step) → KeepsTick left s → AreFit rest →
    AreFit (s.turns ++ step_at s.before (own_call (Tick s.ms)) ∷ rest)
fit_stretch left s rest keeps later =
    fit_append s.turns (step_at s.before (own_call (Tick s.ms)) ∷ rest) (fit_turns s.turns keeps.are_turns)
    (fit_cons (step_at s.before (own_call (Tick s.ms))) rest (fit_tick left s keeps) later)

fit_ticks : (ss : List Stretch) (left : ℕ) (last part : List Step) → KeepsTicks left ss last part → AreTurns last →
    AreFit part
fit_ticks [] left last part keeps are = subst AreFit (sym keeps) (fit_turns last are)
fit_ticks (s ∷ ss) left last part keeps are =
    subst AreFit (sym keeps.1)
    (fit_stretch left s keeps.0 keeps.2 (fit_ticks ss (left - s.ms) last keeps.0 keeps.3 are))

-- Lines.

none_true : (b : Bool) → not b ≡ true → b ≡ false
none_true true e = absurd cc
none_true false e = refl

pub fit_line : (line : Line) (part : List Step) (now : List Entry) → IsFitLine line → KeepsLine (asked line) part now →
    AreFit part
fit_line Blank part now fit keeps = fit_none part keeps
fit_line (CallLine c) part now fit keeps =
    subst AreFit (sym keeps.1)
    (fit_cons (step_at keeps.0 (own_call c)) []
    (record { text = fit.text; short = fit.short; runs = none_true (is_halt c) fit.runs }) (λ s h. absurd h))
fit_line (SettleLine n) part now fit keeps =
    subst AreFit (sym keeps.steps)
    (fit_append keeps.turns (step_at keeps.before (own_call (Settle n)) ∷ []) (fit_turns keeps.turns keeps.are_turns)
    (fit_cons (step_at keeps.before (own_call (Settle n))) []
    (record { text = fit.text; short = fit.short; runs = refl }) (λ s h. absurd h)))
fit_line (Wait ms) part now fit keeps =
    fit_ticks keeps.begun.stretches ms keeps.begun.last part keeps.begun.ticks keeps.begun.are_turns

pub fit_part : (line : Line) (part : List Step) → KeepsPart (Some (asked line)) part → AreFit part
fit_part Blank part keeps = fit_none part keeps
fit_part (CallLine c) part keeps = fit_none part keeps
fit_part (SettleLine n) part keeps = fit_turns part keeps.0
fit_part (Wait ms) part keeps = fit_ticks keeps.stretches ms keeps.last part keeps.ticks keeps.are_turns

pub fit_undone : (line : Line) (part : List Step) (now : List Entry) → KeepsUndone now (Some (asked line)) part →
    AreFit part
fit_undone Blank part now keeps = absurd keeps
fit_undone (CallLine c) part now keeps = fit_none part keeps
fit_undone (SettleLine n) part now keeps = fit_turns part keeps.0
fit_undone (Wait ms) part now keeps =
    fit_ticks keeps.begun.stretches ms keeps.begun.last part keeps.begun.ticks keeps.begun.are_turns

pub fit_more : (old new : List Entry) (part : List Step) → Came old new part → AreFit (own 0 old) → AreFit part →
    AreFit (own 0 new)
fit_more old new part c earlier later =
    subst AreFit (sym (own_came old new part c)) (fit_append (own 0 old) part earlier later)

-- however the line ends
pub does_fit : (r : Result Bool Ending) (line : Line) (old new : List Entry) (out out_after : Option (List ℕ)) →
    IsFitLine line → DoesLine r line old new out out_after → AreFit (own 0 old) → AreFit (own 0 new)
does_fit (Ok refused) line old new out out_after fit does earlier =
    fit_more old new does.0 does.1.came earlier (fit_line line does.0 new fit does.1.keeps)
does_fit (Err OutFault) line old new out out_after fit does earlier =
    fit_more old new does.0 does.1.came earlier (fit_line line does.0 new fit does.1.keeps)
does_fit (Err NoMemory) line old new out out_after fit does earlier =
    fit_more old new does.0 does.1 earlier
    (elim does.2 [
      | inl whole ↦ fit_line line does.0 new fit whole
      | inr part ↦ fit_part line does.0 part
    ])
does_fit (Err Full) line old new out out_after fit does earlier =
    fit_more old new does.0 does.1 earlier (fit_undone line does.0 new does.2)
does_fit (Err Done) line old new out out_after fit does earlier = absurd does
does_fit (Err Refused) line old new out out_after fit does earlier = absurd does
does_fit (Err ReadFault) line old new out out_after fit does earlier = absurd does
does_fit (Err JournalFault) line old new out out_after fit does earlier = absurd does
does_fit (Err (NoMemoryAt number fault)) line old new out out_after fit does earlier = absurd does
does_fit (Err (BadLine number fault)) line old new out out_after fit does earlier = absurd does

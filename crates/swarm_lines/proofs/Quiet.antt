-- Duties and the ticks of wait lines put nothing out, and none is refused.
use Rattle.std.proofs.Common.{◌≡◌, ℕ, ◌-◌, inl, inr, List, [], ◌∷◌, ◌++◌, map, Bool, false, ◌||◌, true, refl, sym, ◌∙◌, ap, subst, Option, Some, None}
use Rattle.std.specs.List.{flat_map, list_any}
use Rattle.std.proofs.lemmas.Grind.{flat_map-append}
use Rattle.std.proofs.lemmas.List.{map-append}
use Rattle.std.proofs.lemmas.List.Folds.{list_any-append}
use Rattle.swarm_lines.specs.Putting.{part_out, part_refused, texts_of}
use Rattle.swarm_lines.specs.Serial.{is_refused}
use Rattle.swarm_model.proofs.Following.Strides.{is_tick_by, tick_says}
use Rattle.swarm_model.specs.History.{replay, step_reply}
use Rattle.swarm_model.specs.Kept.{AreTurns, IsTurn, KeepsTick, KeepsTicks, KeepsUndone, Stretch}
use Rattle.swarm_model.specs.Own.{Step, reply_to, step_at}
use Rattle.swarm_model.specs.Script.{Asked, Asks, Nothing, Settles, Waits, own_call}
use Rattle.swarm_objects.specs.declared.calls.Call.TheVariants.{Tick}
use Rattle.swarm_objects.specs.declared.calls.Entry.{Entry}
use Rattle.swarm_print.specs.Texts.{reply_text}

pub out_append : (first rest : List Step) → part_out (first ++ rest) ≡ part_out first ++ part_out rest
out_append first rest =
    ap texts_of (map-append reply_to first rest) ∙ flat_map-append reply_text (map reply_to first) (map reply_to rest)

pub refused_append : (first rest : List Step) → part_refused (first ++ rest) ≡ (part_refused first || part_refused rest)
refused_append first rest =
    ap (list_any is_refused) (map-append reply_to first rest)
    ∙ list_any-append is_refused (map reply_to first) (map reply_to rest)

pub record AnswersNothing (part : List Step) : Type 0 where
  pub says : part_out part ≡ []
  pub goes : part_refused part ≡ false

neither : (a b : Bool) → a ≡ false → b ≡ false → (a || b) ≡ false
neither true b e f = absurd cc
neither false b e f = f

joined : (xs ys : List ℕ) → xs ≡ [] → ys ≡ [] → xs ++ ys ≡ []
joined xs ys e f = ap (λ (l : List ℕ). l ++ ys) e ∙ f

pub quiet_append : (first rest : List Step) → AnswersNothing first → AnswersNothing rest →
    AnswersNothing (first ++ rest)
quiet_append first rest a b = record {
  says = out_append first rest ∙ joined (part_out first) (part_out rest) a.says b.says;
  goes = refused_append first rest ∙ neither (part_refused first) (part_refused rest) a.goes b.goes;
}

quiet_none : AnswersNothing []
quiet_none = record { says = refl; goes = refl }

-- Duties.

turn_text : (s : Step) → IsTurn s → reply_text (reply_to s) ≡ []
turn_text s t = ap (λ (e : Entry). reply_text (step_reply (replay s.before) e)) t.entry

turn_goes : (s : Step) → IsTurn s → is_refused (reply_to s) ≡ false
turn_goes s t = ap (λ (e : Entry). is_refused (step_reply (replay s.before) e)) t.entry

pub quiet_turns : (turns : List Step) → AreTurns turns → AnswersNothing turns
quiet_turns [] are = quiet_none
quiet_turns (s ∷ turns) are =
    let rest = quiet_turns turns (λ z k. are z (inr k)) in
    let turn = are s (inl refl) in
    record {
      says = joined (reply_text (reply_to s)) (part_out turns) (turn_text s turn) rest.says;
      goes = neither (is_refused (reply_to s)) (part_refused turns) (turn_goes s turn) rest.goes;
    }

-- Ticks.

quiet_tick : (left : ℕ) (s : Stretch) → KeepsTick left s →
    AnswersNothing (step_at s.before (own_call (Tick s.ms)) ∷ [])
quiet_tick left s keeps =
    let told = tick_says (replay s.before) s.ms (is_tick_by s.ms keeps.some keeps.most) in
    record { says = ap (flat_map reply_text) told; goes = ap (list_any is_refused) told }

quiet_stretch : (left : ℕ) (s : Stretch) (rest : List Step) → KeepsTick left s → AnswersNothing rest →
    AnswersNothing (s.turns ++ step_at s.before (own_call (Tick s.ms)) ∷ rest)
quiet_stretch left s rest keeps later =
    quiet_append s.turns (step_at s.before (own_call (Tick s.ms)) ∷ rest) (quiet_turns s.turns keeps.are_turns)
    (quiet_append (step_at s.before (own_call (Tick s.ms)) ∷ []) rest (quiet_tick left s keeps) later)

pub quiet_ticks : (ss : List Stretch) (left : ℕ) (last part : List Step) → KeepsTicks left ss last part →
    AreTurns last → AnswersNothing part
quiet_ticks [] left last part keeps are = subst AnswersNothing (sym keeps) (quiet_turns last are)
quiet_ticks (s ∷ ss) left last part keeps are =
    subst AnswersNothing (sym keeps.1)
    (quiet_stretch left s keeps.0 keeps.2 (quiet_ticks ss (left - s.ms) last keeps.0 keeps.3 are))

-- what was done of a line that isn't done
pub quiet_undone : (now : List Entry) (next : Option Asked) (part : List Step) → KeepsUndone now next part →
    part_out part ≡ []
quiet_undone now None part keeps = absurd keeps
quiet_undone now (Some Nothing) part keeps = absurd keeps
quiet_undone now (Some (Asks c)) part keeps = ap part_out keeps
quiet_undone now (Some (Settles budget)) part keeps = (quiet_turns part keeps.0).says
quiet_undone now (Some (Waits ms)) part keeps =
    (quiet_ticks keeps.begun.stretches ms keeps.begun.last part keeps.begun.ticks keeps.begun.are_turns).says

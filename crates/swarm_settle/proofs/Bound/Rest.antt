-- The law: at one time and without a call no more duties follow than the size of the world allows.
use Rattle.std.proofs.Common.{List, [], ap, arith, length, map, refl, subst, sym, true, ℕ, ◌*◌, ◌+◌, ◌++◌, ◌∙◌, ◌∷◌, ◌≡◌, ◌≤◌}
use Rattle.std.proofs.lemmas.Nat.{mul-le}
use Rattle.swarm_settle.proofs.Bound.Calm.Keeping.{calm-effect}
use Rattle.swarm_settle.proofs.Bound.Calm.World.{IsCalm, calm-begins}
use Rattle.swarm_settle.proofs.Bound.Counting.{Bounds, MayCome, bounded}
use Rattle.swarm_settle.proofs.Bound.Falling.{Facts, each-falls}
use Rattle.swarm_settle.proofs.Bound.Falls.Restarting.{AreWhole}
use Rattle.swarm_settle.proofs.Bound.Falls.States.{stays-explain, stays-note}
use Rattle.swarm_settle.proofs.Bound.Few.{few-notes}
use Rattle.swarm_settle.proofs.Bound.Messages.World.{Known, known-replay}
use Rattle.swarm_settle.proofs.Bound.Notes.Fewer.{fewer-explain, fewer-note}
use Rattle.swarm_settle.proofs.Bound.Start.Size.{measure-most}
use Rattle.swarm_settle.proofs.Bound.Whole.{whole-places}
use Rattle.swarm_settle.specs.Bound.Measure.{measure, notes_due}
use Rattle.swarm_model.proofs.Base.FromLists.{IsDuty-due}
use Rattle.swarm_model.proofs.Base.Histories.{IsLegalFrom-append, IsLegalFrom-snoc, replay-snoc, room_duty}
use Rattle.swarm_model.proofs.Base.IsDuty.{IsDuty}
use Rattle.swarm_model.proofs.Laws.OfService.{OfServices, of-services-replay}
use Rattle.swarm_model.proofs.Moves.EachDuty.{duty-moves}
use Rattle.swarm_model.specs.History.{IsLegal, effect, may_follow, replay, step_world}
use Rattle.swarm_model.specs.Laws.Size.{BoundLaw, by_caller, is_silent_duty, size}
use Rattle.swarm_objects.specs.World.{World, empty_world}
use Rattle.swarm_objects.specs.declared.calls.Entry.{Entry}
use Rattle.swarm_objects.specs.declared.calls.What.TheVariants as what
use Rattle.swarm_objects.specs.declared.duties.Duty.TheVariants as duty
use Rattle.swarm_objects.specs.declared.duties.Duty.{Duty}

-- a world of a legal history, since the number was the next one at this time
pub record Stands (m : ℕ) (w : World) : Type 0 where
  pub history : List Entry
  pub legal : IsLegal history
  pub there : replay history ≡ w
  pub later : m ≤ w.tables.next_id
  pub calm : IsCalm m w

known-of : (m : ℕ) (w : World) → Stands m w → Known w
known-of m w is = subst Known is.there (known-replay is.history is.legal)

facts : (m : ℕ) (w : World) → Stands m w → Facts m w
facts m w is = record {
  known = known-of m w is;
  services = subst (λ (v : World). OfServices v.tables) is.there (of-services-replay is.history is.legal);
  whole = subst (λ (v : World). AreWhole v.tables) is.there (whole-places is.history is.legal);
  calm = is.calm;
  later = is.later;
}

due-of : (w : World) (d : Duty) → MayCome w d → IsDuty w d
due-of w d may = IsDuty-due w d (room_duty w d may).2

stands-on : (m : ℕ) (w : World) (d : Duty) → Stands m w → MayCome w d → Stands m (effect w d)
stands-on m w d is may =
    let known = known-of m w is in
    let of = due-of w d may in
    record {
      history = is.history ++ by_caller 0 d ∷ [];
      legal = IsLegalFrom-snoc empty_world is.history (by_caller 0 d) is.legal
          (subst (λ (v : World). may_follow v (what.Duty d) ≡ true) (sym is.there) may);
      there = replay-snoc empty_world is.history (by_caller 0 d)
          ∙ ap (λ (v : World). step_world v (by_caller 0 d)) is.there;
      later = omega (arith, is.later, (duty-moves (w.entries + 1) w d known.orderly of).tables.next);
      calm = calm-effect m w d known of is.calm;
    }

is-silent : (m : ℕ) (w : World) (d : Duty) → Stands m w → IsDuty w d → is_silent_duty d ≡ true →
    (measure m (effect w d) ≤ measure m w) × (notes_due (effect w d).tables + 1 ≤ notes_due w.tables)
is-silent m w (duty.Explain x) is of e =
    (stays-explain m (w.entries + 1) w x, fewer-explain (w.entries + 1) w x (known-of m w is).orderly.tasks of)
is-silent m w (duty.Note x) is of e =
    (stays-note m (w.entries + 1) w x, fewer-note (w.entries + 1) w x (known-of m w is).orderly.tasks of)
is-silent m w _ is of e = absurd cc

bounds : (m : ℕ) → Bounds (Stands m) (measure m) (λ w. notes_due w.tables)
bounds m = record {
  stays = λ w d is may. stands-on m w d is may;
  falls = λ w d is may loud. each-falls m w d (facts m w is) (due-of w d may) loud;
  silent = λ w d is may e. is-silent m w d is (due-of w d may) e;
  few = λ w is. few-notes m w;
}

-- a measure of at most 142 times the size
within : (size measure notes n : ℕ) → 1 ≤ size → measure ≤ 142 * size → 23 * notes ≤ measure →
    23 * n ≤ measure * (measure + 23) + 23 * notes → n ≤ 2000 * size * size
within size measure notes n some most few all =
    let product = mul-le measure (measure + 23) (142 * size) (142 * size + 23) most (omega (arith, most)) in
    let square = mul-le 1 size size size some (omega arith) in
    omega (arith, product, square, most, few, all)

pub bound-law : BoundLaw
bound-law h ds legal =
    let parts = IsLegalFrom-append empty_world h (map (by_caller 0) ds) legal in
    let w = replay h in
    let known = known-replay h parts.0 in
    let stands : Stands w.tables.next_id w =
    record {
      history = h;
      legal = parts.0;
      there = refl;
      later = omega arith;
      calm = calm-begins w known.orderly known.gives;
    } in
    let is = bounded (Stands w.tables.next_id) (measure w.tables.next_id) (λ v. notes_due v.tables)
    (bounds w.tables.next_id) 0 ds w stands parts.1 in
    let most = measure-most w.tables.next_id h parts.0 in (
      within (size w) (measure w.tables.next_id w) (notes_due w.tables) (length ds) (omega arith) most
          (few-notes w.tables.next_id w) is.all,
      omega (arith, is.loud, most),
    )

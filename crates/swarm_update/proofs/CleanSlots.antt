-- What changes leave of services without a task that may make a place dirty, slot by slot.
use Rattle.std.proofs.Common.{◌%◌, ◌<◌, ◌≡◌, ◌∙◌, ℕ, Bool, List, None, Option, Some, [], ap, eqb, false, get_or, refl, subst, sym, true}
use Rattle.std.specs.Prelude.{IfSome, ◌&&◌}
use Rattle.role_words.proofs.Numbers.{number_equal, same_number}
use Rattle.role_words.specs.Suspects.{is_suspect}
use Rattle.swarm_objects.specs.ChangeLists.{apply_changes}
use Rattle.swarm_objects.specs.Rows.{is_row_and, is_some_and, service_id}
use Rattle.swarm_objects.specs.Tasks.Words.{is_of}
use Rattle.swarm_objects.specs.World.{Tables}
use Rattle.swarm_objects.specs.declared.rows.Change.TheVariants as change
use Rattle.swarm_objects.specs.declared.rows.Change.{Change}
use Rattle.swarm_update.proofs.Clearing.{clean_on}
use Rattle.swarm_update.proofs.Leaving.{if_some_then}
use Rattle.swarm_update.proofs.Marking.{true_false}
use Rattle.swarm_update.specs.KnownSurvey.{AllStayClean, AreClean, SlotsAreLeft, IsClean, SlotIsLeft, StaysClean, has_service, service_of}
use Rattle.swarm_update.specs.declared.clean.CleanServices.{CleanServices}
use Rattle.swarm_update.specs.declared.clean.TheConstants.{SLOTS}

-- One change: of other services it gives none such a task.

others_stay : (t : Tables) (id : ℕ) (c : Change) → (service_of c ≡ Some id → ⊥) → StaysClean t id c
others_stay t id (change.PutNode n) apart = tt
others_stay t id (change.PutService s) apart = λ own. absurd (apart (ap Some own))
others_stay t id (change.PutTask x) apart = go (is_of id x) refl
  where
    go : (b : Bool) → is_of id x ≡ b → (b && is_row_and service_id (λ s. is_suspect s x) t.services id) ≡ false
    go true e = absurd (apart (ap Some (same_number x.service id e)))
    go false e = refl
others_stay t id (change.DropTask i) apart = tt
others_stay t id (change.Keep a) apart = tt

-- where each that is there stays clean
all_left : (t : Tables) (c : Change) (clean : CleanServices)
    → ((slot id : ℕ) → get_or clean.services slot None ≡ Some id → id % SLOTS ≡ slot → StaysClean t id c)
    → SlotsAreLeft t c clean clean
all_left t c clean stays = record { each = λ slot lt. one slot (get_or clean.services slot None) refl }
  where
    one : (slot : ℕ) (o : Option ℕ) → get_or clean.services slot None ≡ o → IfSome o (SlotIsLeft t c clean slot)
    one slot None e = tt
    one slot (Some id) e = record { was = e; stays = stays slot id e }

same_service : (c : Change) (service id : ℕ) → service_of c ≡ Some service → service_of c ≡ Some id → service ≡ id
same_service c service id is f =
    let both : Some service ≡ Some id = sym is ∙ f in
    cc

pub left_unknown : (t : Tables) (c : Change) (clean : CleanServices) (service : ℕ) → service_of c ≡ Some service
    → has_service clean service ≡ false → SlotsAreLeft t c clean clean
left_unknown t c clean service is off =
    all_left t c clean (λ slot id e own. others_stay t id c (apart slot id e own))
  where
    apart : (slot id : ℕ) → get_or clean.services slot None ≡ Some id → id % SLOTS ≡ slot → service_of c ≡ Some id → ⊥
    apart slot id e own f =
        let same : service ≡ id = same_service c service id is f in
        absurd (true_false (has_service clean id)
        (ap (λ n. is_some_and (λ k. eqb k id) (get_or clean.services n None)) own
        ∙ ap (is_some_and (λ k. eqb k id)) e ∙ number_equal id id refl)
        (subst (λ n. has_service clean n ≡ false) same off))

-- A loop over changes: where those that are left give what a slot still has none, all give it none.

pub record PassesSlot (t : Tables) (left all : List Change) (slot id : ℕ) : Type 0 where
  pub is : IsClean t slot id
  pub goes_on : AllStayClean t id left → AllStayClean t id all

pub record PassSlots (t : Tables) (left all : List Change) (clean : CleanServices) : Type 0 where
  pub each : (slot : ℕ) → slot < SLOTS → IfSome (get_or clean.services slot None) (PassesSlot t left all slot)

pub slots_end : (t : Tables) (left all : List Change) (clean : CleanServices) → left ≡ [] → PassSlots t left all clean
    → AreClean (apply_changes t all) clean
slots_end t left all clean is h = record {
  each = λ slot lt.
      if_some_then (get_or clean.services slot None) (h.each slot lt)
      (λ id p. record {
        none = clean_on t id all p.is.none (p.goes_on (subst (AllStayClean t id) (sym is) tt));
        stands = p.is.stands;
      });
}

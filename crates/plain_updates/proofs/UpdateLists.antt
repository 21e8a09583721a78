-- Lists of duties on updates, part by part.
use Rattle.std.proofs.Common.{◌≡◌, ℕ, Bool, true, cond, List, [], ◌++◌, append_assoc, sym, ap, ◌∙◌, Some}
use Rattle.std.specs.Prelude.{OnOk, Result, Ok, Err, ◌&&◌}
use Rattle.swarm_objects.specs.Loops.Update.{is_to_finish, is_to_replace, is_to_swap, lets_replace, open_duties, run_duties}
use Rattle.swarm_objects.specs.Loops.Words.{places_where, when}
use Rattle.swarm_objects.specs.Services.Runs.{fails, is_of_version, is_under_way}
use Rattle.swarm_objects.specs.Tasks.Places.{place_numbers}
use Rattle.swarm_objects.specs.World.{Tables}
use Rattle.swarm_objects.specs.declared.duties.Duty.{Duty}
use Rattle.swarm_objects.specs.declared.duties.Duty.TheVariants as duty
use Rattle.swarm_objects.specs.declared.services.Service.{Service}
use Rattle.swarm_objects.specs.declared.services.UpdateRun.{UpdateRun}

pub on_ok : {T E P Q : Type 0} (r : Result T E) → (P → Q) → OnOk r P → OnOk r Q
on_ok (Ok x) f p = f p
on_ok (Err e) f p = tt

-- four parts one behind the other
four : (old a b c d one two three all : List Duty) → one ≡ old ++ a → two ≡ one ++ b → three ≡ two ++ c →
    all ≡ three ++ d →
    all ≡ old ++ (((a ++ b) ++ c) ++ d)
four old a b c d one two three all first second third last =
    last
    ∙ ap (λ ds. ds ++ d)
    (third ∙ ap (λ ds. ds ++ c) (second ∙ ap (λ ds. ds ++ b) first ∙ append_assoc old a b)
    ∙ append_assoc old (a ++ b) c)
    ∙ append_assoc old ((a ++ b) ++ c) d

-- the duties of a run under way
pub all_open : (t : Tables) (s : Service) (run : UpdateRun) (old one two three all : List Duty) →
    is_under_way run ≡ true →
    one ≡ old ++ when (fails t s run) (duty.Fail s.id) →
    two ≡ one ++ places_where (is_of_version s run) (is_to_swap t s) (duty.Swap s.id) (place_numbers t s) →
    three
    ≡ two
    ++ places_where (is_of_version s run && lets_replace t s run) (is_to_replace t s) (duty.Replace s.id)
    (place_numbers t s) →
    all ≡ three ++ when (is_to_finish t s run) (duty.Finish s.id) → all ≡ old ++ run_duties t s (Some run)
all_open t s run old one two three all open' first second third last =
    four old (when (fails t s run) (duty.Fail s.id))
    (places_where (is_of_version s run) (is_to_swap t s) (duty.Swap s.id) (place_numbers t s))
    (places_where (is_of_version s run && lets_replace t s run) (is_to_replace t s) (duty.Replace s.id)
    (place_numbers t s))
    (when (is_to_finish t s run) (duty.Finish s.id)) one two three all first second third last
    ∙ ap (λ b. old ++ cond b (open_duties t s run) []) (sym open')

-- the same, of what the parts were put with
pub all_put : (t : Tables) (s : Service) (run : UpdateRun) (failed complete : Bool) (numbers first_numbers
    second_numbers : List ℕ)
    (old one two three all : List Duty) → is_under_way run ≡ true → failed ≡ fails t s run →
    complete ≡ is_to_finish t s run →
    numbers ≡ place_numbers t s → first_numbers ≡ numbers → second_numbers ≡ numbers →
    one ≡ old ++ when failed (duty.Fail s.id) →
    two ≡ one ++ places_where (is_of_version s run) (is_to_swap t s) (duty.Swap s.id) first_numbers →
    three
    ≡ two
    ++ places_where (is_of_version s run && lets_replace t s run) (is_to_replace t s) (duty.Replace s.id)
    second_numbers →
    all ≡ three ++ when complete (duty.Finish s.id) → all ≡ old ++ run_duties t s (Some run)
all_put t s run failed complete numbers first_numbers second_numbers old one two three all open' fails' ends is
    one_is two_is
    first second third last =
    let may = is_of_version s run && lets_replace t s run in
    all_open t s run old one two three all open'
    (first ∙ ap (λ (b : Bool). old ++ when b (duty.Fail s.id)) fails')
    (second
    ∙ ap (λ (ks : List ℕ). one ++ places_where (is_of_version s run) (is_to_swap t s) (duty.Swap s.id) ks) (one_is
    ∙ is))
    (third ∙ ap (λ (ks : List ℕ). two ++ places_where may (is_to_replace t s) (duty.Replace s.id) ks) (two_is ∙ is))
    (last ∙ ap (λ (b : Bool). three ++ when b (duty.Finish s.id)) ends)

-- The number that was read is the one that the words have.
use Rattle.std.proofs.Common.{◌≡◌, ◌≤◌, ◌∙◌, refl, ap, sym, subst, ℕ, List, Option, Some, None, Ok, Err}
use Rattle.script_maker.specs.Script.{most_number}
use Rattle.swarm_command.specs.CommandLine.{IsReading, form_of, made_number, most_workers, run_number, run_workers}
use Rattle.swarm_command.specs.declared.forms.Form.{Form}
use Rattle.swarm_command.specs.declared.forms.Form.TheVariants.{Make, MakeRun, Replay, Run}
use Rattle.swarm_command.specs.declared.forms.WordFault.{WordFault}
use Rattle.swarm_command.specs.declared.forms.WordFault.TheVariants.{NoMemory, Other}
use Rattle.swarm_command.proofs.Spelled.{asks_make, asks_make_run, asks_run, made_within, ran_within, workers_within}
use Rattle.swarm_input.specs.Streams.{Stream}
use Rattle.swarm_top.specs.Make.{IsMake, IsMakeRun}
use Rattle.swarm_top.specs.Theorem.{IsRun}

form_is : (asked : Option Form) (found form wanted : Form) → IsReading asked (Ok found) → found ≡ form → asked ≡ Some wanted → form ≡ wanted
form_is (Some f) found form wanted read is asked = let same : f ≡ wanted = cc asked in sym is ∙ read ∙ same
form_is None found form wanted read is asked = absurd read

pub makes_run : (words : List (List ℕ)) (found : Form) (n : ℕ) (out : Stream) (status : ℕ) → IsReading (form_of words) (Ok found) →
    found ≡ MakeRun n → IsMakeRun n out status → (number : ℕ) → run_number words ≡ Some number → IsMakeRun number out status
makes_run words found n out status read is ran number e =
    let form = form_is (form_of words) found (MakeRun n) (MakeRun number) read is (asks_make_run number words e) in
    let same : n ≡ number = cc form in
    subst (λ (m : ℕ). IsMakeRun m out status) same ran

pub runs_beside : (words : List (List ℕ)) (found : Form) (n : ℕ) (script out journal : Stream) (status : ℕ) → IsReading (form_of words) (Ok found) →
    found ≡ Run n → IsRun n script out journal status → (workers : ℕ) → run_workers words ≡ Some workers → IsRun workers script out journal status
runs_beside words found n script out journal status read is ran workers e =
    let form = form_is (form_of words) found (Run n) (Run workers) read is (asks_run workers words e) in
    let same : n ≡ workers = cc form in
    subst (λ (k : ℕ). IsRun k script out journal status) same ran

-- What the words ask for by what was read.

pub reads_as : (asked : Option Form) (found form : Form) → IsReading asked (Ok found) → found ≡ form → asked ≡ Some form
reads_as (Some f) found form read is = ap (λ (x : Form). Some x) (sym read ∙ is)
reads_as None found form read is = absurd read

pub reads_none : (asked : Option Form) (fault : WordFault) → IsReading asked (Err fault) → fault ≡ Other → asked ≡ None
reads_none None fault read is = refl
reads_none (Some f) Other read is = absurd read
reads_none (Some f) NoMemory read is = absurd (cc is)

abbrev pub kind : Form → ℕ
kind (Run workers) = 0
kind Replay = 1
kind (Make number) = 2
kind (MakeRun number) = 3

one_kind : (asked : Option Form) (f g : Form) → asked ≡ Some f → asked ≡ Some g → kind f ≡ kind g
one_kind asked f g is other = let same : f ≡ g = cc (is, other) in ap kind same

pub no_make : (words : List (List ℕ)) (f : Form) → form_of words ≡ Some f → (kind f ≡ 2 → ⊥) → (n : ℕ) → made_number words ≡ Some n → ⊥
no_make words f is other n e = other (one_kind (form_of words) f (Make n) is (asks_make n words e))

pub no_make_run : (words : List (List ℕ)) (f : Form) → form_of words ≡ Some f → (kind f ≡ 3 → ⊥) → (n : ℕ) → run_number words ≡ Some n → ⊥
no_make_run words f is other n e = other (one_kind (form_of words) f (MakeRun n) is (asks_make_run n words e))

none_asked : (asked : Option Form) (f : Form) → asked ≡ None → asked ≡ Some f → ⊥
none_asked asked f none some = cc (none, some)

pub none_made : (words : List (List ℕ)) → form_of words ≡ None → (n : ℕ) → made_number words ≡ Some n → ⊥
none_made words none n e = none_asked (form_of words) (Make n) none (asks_make n words e)

pub none_ran : (words : List (List ℕ)) → form_of words ≡ None → (n : ℕ) → run_number words ≡ Some n → ⊥
none_ran words none n e = none_asked (form_of words) (MakeRun n) none (asks_make_run n words e)

pub makes_it : (words : List (List ℕ)) (found : Form) (n : ℕ) (out : Stream) (status : ℕ) → IsReading (form_of words) (Ok found) →
    found ≡ Make n → IsMake n out status → (number : ℕ) → made_number words ≡ Some number → IsMake number out status
makes_it words found n out status read is made number e =
    let form = form_is (form_of words) found (Make n) (Make number) read is (asks_make number words e) in
    let same : n ≡ number = cc form in
    subst (λ (m : ℕ). IsMake m out status) same made

-- Numbers that are asked for are within their bounds.

pub few_asked : (words : List (List ℕ)) (found : Form) (n : ℕ) → IsReading (form_of words) (Ok found) → found ≡ Run n → n ≤ most_workers
few_asked words found n read is = workers_within n words (reads_as (form_of words) found (Run n) read is)

pub made_asked : (words : List (List ℕ)) (found : Form) (n : ℕ) → IsReading (form_of words) (Ok found) → found ≡ Make n → n ≤ most_number
made_asked words found n read is = made_within n words (reads_as (form_of words) found (Make n) read is)

pub ran_asked : (words : List (List ℕ)) (found : Form) (n : ℕ) → IsReading (form_of words) (Ok found) → found ≡ MakeRun n → n ≤ most_number
ran_asked words found n read is = ran_within n words (reads_as (form_of words) found (MakeRun n) read is)

-- Words of a form have one of few shapes, and of each clap finds that form.
use Rattle.std.proofs.Common.{◌≡◌, ◌∙◌, ◌&&◌, ◌||◌, ◌⊎◌, inl, inr, ap, sym, subst, refl, ℕ, ◌≤◌, Bool, true, false, List, [], ◌∷◌, ◌++◌, take, drop, codes, Option, Some, None, Ok, Err, option_map, arith}
use Rattle.std.proofs.lemmas.List.{take-append-drop}
use Rattle.std.specs.Option.{option_eq, option_or}
use Rattle.script_maker.specs.Script.{most_number}
use Rattle.swarm_objects.specs.Same.{same_number}
use Rattle.swarm_objects.proofs.SameLemmas.{Decides-option_eq, Decides-same_number}
use Rattle.swarm_command.proofs.Numbered.{TakesNumber, are_few_workers, first_digit, is_script_number, takes_digit, workers_digit}
use Rattle.std.proofs.lemmas.Slice.Eq.{bytes_eq-Decides}
use Rattle.std.specs.Prelude.{if◌then◌else◌, is_some}
use Rattle.std.specs.Str.{bytes_eq}
use Rattle.clap.specs.Words.{App, HasMatchesOf, Row, Text, first_of, first_value, found_of, is_simple, rows_of, subcommand_name_of, subcommand_of, subcommand_rows_of, takes}
use Rattle.clap.specs.declared.parser.ArgMatches.{ArgMatches}
use Rattle.clap.specs.declared.parser.ArgMatches.TheViews.{out-ArgMatches}
use Rattle.clap.proofs.OnLiterals.{clap_on_literals}
use Rattle.clap.proofs.WalkLemmas.{first_value-rows}
use Rattle.swarm_command.specs.CommandLine.{IsReading, form_of, is_replay, joined_workers, made_number, most_workers, number_beside_run, run_number, run_workers, script_number, usual_workers, workers_number}
use Rattle.swarm_command.specs.Inside.Clap.{found_form, made_form, named_form, spells, swarm_app}
use Rattle.swarm_command.specs.declared.forms.Form.{Form}
use Rattle.swarm_command.specs.declared.forms.WordFault.TheVariants.{Other, NoMemory}
use Rattle.swarm_command.specs.declared.forms.Form.TheVariants.{Run, Replay, Make, MakeRun}

-- clap takes the words, and finds the form
pub record Reads (form : Form) (words : List Text) : Type 0 where
  pub taken : takes swarm_app words ≡ true
  pub found : found_form (subcommand_of swarm_app words) ≡ Some form

reads_run : Reads (Run usual_workers) (codes "run" ∷ [])
unfolding clap_on_literals
reads_run = record { taken = refl; found = refl }

reads_replay : Reads Replay (codes "replay" ∷ [])
unfolding clap_on_literals
reads_replay = record { taken = refl; found = refl }

and_true : (a b : Bool) → (a && b) ≡ true → (a ≡ true) × (b ≡ true)
and_true true b e = (refl, e)
and_true false b e = cc

-- the shapes

is_one_replay : (words : List Text) → is_replay words ≡ true → words ≡ codes "replay" ∷ []
is_one_replay [] e = absurd (cc e)
is_one_replay (a ∷ []) e = ap (λ (x : Text). x ∷ []) ((bytes_eq-Decides a (codes "replay")).0 e)
is_one_replay (a ∷ b ∷ more) e = absurd (cc e)

if_some : (t : Bool) (o : Option ℕ) (n : ℕ) → (if t then o else None) ≡ Some n → (t ≡ true) × (o ≡ Some n)
if_some true o n e = (refl, e)
if_some false o n e = absurd (cc e)

-- `run`, with a number of workers or without

takes_workers : (word : Text) (n : ℕ) → workers_number word ≡ Some n → TakesNumber word
takes_workers word n e =
    let b = workers_digit word n e in
    subst TakesNumber (sym b.is) (takes_digit b.digit b.rest b.inside.0 b.inside.1)

reads_joined : (word : Text) (n : ℕ) → workers_number word ≡ Some n → Reads (Run n) (codes "run" ∷ (codes "--workers=" ++ word) ∷ [])
reads_joined word n e =
    let t = takes_workers word n e in
    record { taken = t.joined; found = t.joined_found ∙ ap (λ (o : Option ℕ). option_map Run o) e }

reads_spaced : (word : Text) (n : ℕ) → workers_number word ≡ Some n → Reads (Run n) (codes "run" ∷ codes "--workers" ∷ word ∷ [])
reads_spaced word n e =
    let t = takes_workers word n e in
    record { taken = t.spaced; found = t.spaced_found ∙ ap (λ (o : Option ℕ). option_map Run o) e }

-- the number stands behind `--workers=`
record IsJoined (option : Text) (n : ℕ) : Type 0 where
  pub number : workers_number (drop 10 option) ≡ Some n
  pub is : option ≡ codes "--workers=" ++ drop 10 option

is_joined : (option : Text) (n : ℕ) → joined_workers option ≡ Some n → IsJoined option n
is_joined option n e =
    let p = if_some (bytes_eq (take 10 option) (codes "--workers=")) (workers_number (drop 10 option)) n e in
    record {
      number = p.1;
      is = sym (take-append-drop 10 option)
          ∙ ap (λ l. l ++ drop 10 option) ((bytes_eq-Decides (take 10 option) (codes "--workers=")).0 p.0);
    }

run_reads : (words : List Text) (n : ℕ) → run_workers words ≡ Some n → Reads (Run n) words
run_reads [] n e = absurd (cc e)
run_reads (a ∷ []) n e =
    let p = if_some (bytes_eq a (codes "run")) (Some usual_workers) n e in
    let same : usual_workers ≡ n = cc p.1 in
    subst (λ (k : ℕ). Reads (Run k) (a ∷ [])) same
    (subst (λ x. Reads (Run usual_workers) (x ∷ [])) (sym ((bytes_eq-Decides a (codes "run")).0 p.0)) reads_run)
run_reads (a ∷ b ∷ []) n e =
    let p = if_some (bytes_eq a (codes "run")) (joined_workers b) n e in
    let joined = is_joined b n p.1 in
    subst (λ x. Reads (Run n) (x ∷ b ∷ [])) (sym ((bytes_eq-Decides a (codes "run")).0 p.0))
    (subst (λ x. Reads (Run n) (codes "run" ∷ x ∷ [])) (sym joined.is) (reads_joined (drop 10 b) n joined.number))
run_reads (a ∷ b ∷ c ∷ []) n e =
    let p = if_some (bytes_eq a (codes "run") && bytes_eq b (codes "--workers")) (workers_number c) n e in
    let q = and_true (bytes_eq a (codes "run")) (bytes_eq b (codes "--workers")) p.0 in
    subst (λ x. Reads (Run n) (x ∷ b ∷ c ∷ [])) (sym ((bytes_eq-Decides a (codes "run")).0 q.0))
    (subst (λ x. Reads (Run n) (codes "run" ∷ x ∷ c ∷ [])) (sym ((bytes_eq-Decides b (codes "--workers")).0 q.1))
    (reads_spaced c n p.1))
run_reads (a ∷ b ∷ c ∷ d ∷ more) n e = absurd (cc e)

-- no more than there may be
pub few_ran : (words : List Text) (n : ℕ) → run_workers words ≡ Some n → n ≤ most_workers
few_ran [] n e = absurd (cc e)
few_ran (a ∷ []) n e =
    let p = if_some (bytes_eq a (codes "run")) (Some usual_workers) n e in
    let same : usual_workers ≡ n = cc p.1 in
    subst (λ (k : ℕ). k ≤ most_workers) same (omega arith)
few_ran (a ∷ b ∷ []) n e =
    are_few_workers (drop 10 b) n (is_joined b n (if_some (bytes_eq a (codes "run")) (joined_workers b) n e).1).number
few_ran (a ∷ b ∷ c ∷ []) n e =
    are_few_workers c n
    (if_some (bytes_eq a (codes "run") && bytes_eq b (codes "--workers")) (workers_number c) n e).1
few_ran (a ∷ b ∷ c ∷ d ∷ more) n e = absurd (cc e)

-- `make` with a number

-- two words, the second a script's number
record IsMade (words : List Text) (n : ℕ) : Type 0 where
  pub word : Text
  pub words_are : words ≡ codes "make" ∷ word ∷ []
  pub number : script_number word ≡ Some n

is_made : (words : List Text) (n : ℕ) → made_number words ≡ Some n → IsMade words n
is_made [] n e = absurd (cc e)
is_made (a ∷ []) n e = absurd (cc e)
is_made (a ∷ b ∷ []) n e =
    let p = if_some (bytes_eq a (codes "make")) (script_number b) n e in
    record { word = b; words_are = ap (λ (x : Text). x ∷ b ∷ []) ((bytes_eq-Decides a (codes "make")).0 p.0); number = p.1 }
is_made (a ∷ b ∷ c ∷ more) n e = absurd (cc e)

-- three words
record IsMadeRun (words : List Text) (n : ℕ) : Type 0 where
  pub first : Text
  pub second : Text
  pub words_are : words ≡ codes "make" ∷ first ∷ second ∷ []
  pub number : number_beside_run first second ≡ Some n

is_made_run : (words : List Text) (n : ℕ) → run_number words ≡ Some n → IsMadeRun words n
is_made_run [] n e = absurd (cc e)
is_made_run (a ∷ []) n e = absurd (cc e)
is_made_run (a ∷ b ∷ []) n e = absurd (cc e)
is_made_run (a ∷ b ∷ c ∷ []) n e =
    let p = if_some (bytes_eq a (codes "make")) (number_beside_run b c) n e in
    record { first = b; second = c; words_are = ap (λ (x : Text). x ∷ b ∷ c ∷ []) ((bytes_eq-Decides a (codes "make")).0 p.0); number = p.1 }
is_made_run (a ∷ b ∷ c ∷ d ∷ more) n e = absurd (cc e)

takes_number : (word : Text) (n : ℕ) → script_number word ≡ Some n → TakesNumber word
takes_number word n e =
    let b = first_digit word n e in
    subst TakesNumber (sym b.is) (takes_digit b.digit b.rest b.inside.0 b.inside.1)

reads_made : (word : Text) (n : ℕ) → script_number word ≡ Some n → Reads (Make n) (codes "make" ∷ word ∷ [])
reads_made word n e =
    let t = takes_number word n e in
    record { taken = t.alone; found = t.alone_found ∙ ap (λ o. made_form o (Some (codes "false"))) e }

reads_behind : (word : Text) (n : ℕ) → script_number word ≡ Some n → Reads (MakeRun n) (codes "make" ∷ word ∷ codes "--run" ∷ [])
reads_behind word n e =
    let t = takes_number word n e in
    record { taken = t.behind; found = t.behind_found ∙ ap (λ o. made_form o (Some (codes "true"))) e }

reads_before : (word : Text) (n : ℕ) → script_number word ≡ Some n → Reads (MakeRun n) (codes "make" ∷ codes "--run" ∷ word ∷ [])
reads_before word n e =
    let t = takes_number word n e in
    record { taken = t.before; found = t.before_found ∙ ap (λ o. made_form o (Some (codes "true"))) e }

either : (s f : Bool) (p q : Option ℕ) (n : ℕ) → (if s then p else (if f then q else None)) ≡ Some n
    → ((s ≡ true) × (p ≡ Some n)) ⊎ ((f ≡ true) × (q ≡ Some n))
either true f p q n e = inl (refl, e)
either false f p q n e = inr (if_some f q n e)

reads_beside : (first second : Text) (n : ℕ) → number_beside_run first second ≡ Some n → Reads (MakeRun n) (codes "make" ∷ first ∷ second ∷ [])
reads_beside first second n e =
    elim (either (bytes_eq second (codes "--run")) (bytes_eq first (codes "--run")) (script_number first) (script_number second) n e) [
      | inl h ↦ subst (λ (x : Text). Reads (MakeRun n) (codes "make" ∷ first ∷ x ∷ [])) (sym ((bytes_eq-Decides second (codes "--run")).0 h.0)) (reads_behind first n h.1)
      | inr h ↦ subst (λ (x : Text). Reads (MakeRun n) (codes "make" ∷ x ∷ second ∷ [])) (sym ((bytes_eq-Decides first (codes "--run")).0 h.0)) (reads_before second n h.1)
    ]

number_is : (o : Option ℕ) (n : ℕ) → option_eq same_number o (Some n) ≡ true → o ≡ Some n
number_is o n e = (Decides-option_eq same_number Decides-same_number o (Some n)).0 e

is_number : (o : Option ℕ) (n : ℕ) → o ≡ Some n → option_eq same_number o (Some n) ≡ true
is_number o n e = (Decides-option_eq same_number Decides-same_number o (Some n)).1 e

-- what clap makes of a spelling of a form
pub reads : (form : Form) (words : List Text) → spells form words ≡ true → Reads form words
reads (Run n) words e = run_reads words n (number_is (run_workers words) n e)
reads Replay words e = subst (Reads Replay) (sym (is_one_replay words e)) reads_replay
reads (Make n) words e =
    let m = is_made words n (number_is (made_number words) n e) in
    subst (Reads (Make n)) (sym m.words_are) (reads_made m.word n m.number)
reads (MakeRun n) words e =
    let m = is_made_run words n (number_is (run_number words) n e) in
    subst (Reads (MakeRun n)) (sym m.words_are) (reads_beside m.first m.second n m.number)

-- what words ask for is the form that they spell

same_form : (g f : Form) (words : List Text) → spells g words ≡ true → Some g ≡ Some f → spells f words ≡ true
same_form g f words h e = let same : g ≡ f = cc e in subst (λ (x : Form). spells x words ≡ true) same h

pub is_spelled : (form : Form) (words : List Text) → form_of words ≡ Some form → spells form words ≡ true
is_spelled form words e =
    go (run_workers words) refl (is_replay words) refl (made_number words) refl (run_number words) refl e where
      go : (workers : Option ℕ) → run_workers words ≡ workers → (replay : Bool) → is_replay words ≡ replay → (made : Option ℕ) → made_number words ≡ made
          → (ran : Option ℕ) → run_number words ≡ ran
          → option_or (option_map Run workers) (if replay then Some Replay else option_or (option_map Make made) (option_map MakeRun ran)) ≡ Some form
          → spells form words ≡ true
      go (Some k) is replay other made m ran r e = same_form (Run k) form words (is_number (run_workers words) k is) e
      go None is true other made m ran r e = same_form Replay form words other e
      go None is false other (Some n) m ran r e = same_form (Make n) form words (is_number (made_number words) n m) e
      go None is false other None m (Some n) r e = same_form (MakeRun n) form words (is_number (run_number words) n r) e
      go None is false other None m None r e = absurd (cc e)

pub asks_for : (form : Form) (words : List Text) → spells form words ≡ true → form_of words ≡ Some form
asks_for (Run n) words e =
    ap {B = Option Form} (λ (o : Option ℕ). option_or (option_map Run o)
    (if is_replay words then Some Replay else option_or (option_map Make (made_number words)) (option_map MakeRun (run_number words))))
    (number_is (run_workers words) n e)
asks_for Replay words e = subst (λ ws. form_of ws ≡ Some Replay) (sym (is_one_replay words e)) refl
asks_for (Make n) words e =
    let m = is_made words n (number_is (made_number words) n e) in
    subst (λ ws. form_of ws ≡ Some (Make n)) (sym m.words_are)
    (ap (λ (o : Option ℕ). option_or (option_map Make o) None) m.number)
asks_for (MakeRun n) words e =
    let m = is_made_run words n (number_is (run_number words) n e) in
    subst (λ ws. form_of ws ≡ Some (MakeRun n)) (sym m.words_are)
    (ap (λ (o : Option ℕ). option_map MakeRun o) m.number)

-- words with a number, and what they ask for

pub asks_run : (n : ℕ) (words : List Text) → run_workers words ≡ Some n → form_of words ≡ Some (Run n)
asks_run n words e = asks_for (Run n) words (is_number (run_workers words) n e)

pub asks_make : (n : ℕ) (words : List Text) → made_number words ≡ Some n → form_of words ≡ Some (Make n)
asks_make n words e = asks_for (Make n) words (is_number (made_number words) n e)

pub asks_make_run : (n : ℕ) (words : List Text) → run_number words ≡ Some n → form_of words ≡ Some (MakeRun n)
asks_make_run n words e = asks_for (MakeRun n) words (is_number (run_number words) n e)

number_beside : (s f : Bool) (first second : Text) (n : ℕ) → (if s then script_number first else (if f then script_number second else None)) ≡ Some n → n ≤ most_number
number_beside true f first second n e = is_script_number first n e
number_beside false true first second n e = is_script_number second n e
number_beside false false first second n e = absurd (cc e)

pub workers_within : (n : ℕ) (words : List Text) → form_of words ≡ Some (Run n) → n ≤ most_workers
workers_within n words e = few_ran words n (number_is (run_workers words) n (is_spelled (Run n) words e))

pub made_within : (n : ℕ) (words : List Text) → form_of words ≡ Some (Make n) → n ≤ most_number
made_within n words e =
    let m = is_made words n (number_is (made_number words) n (is_spelled (Make n) words e)) in
    is_script_number m.word n m.number

pub ran_within : (n : ℕ) (words : List Text) → form_of words ≡ Some (MakeRun n) → n ≤ most_number
ran_within n words e =
    let m = is_made_run words n (number_is (run_number words) n (is_spelled (MakeRun n) words e)) in
    number_beside (bytes_eq m.second (codes "--run")) (bytes_eq m.first (codes "--run")) m.first m.second n m.number

-- some form is asked for, where a test says so
pub any_asked : (workers : Option ℕ) (replay : Bool) (made ran : Option ℕ)
    → (is_some workers || (replay || (is_some made || is_some ran)))
    ≡ is_some (option_or (option_map Run workers) (if replay then Some Replay else option_or (option_map Make made) (option_map MakeRun ran)))
any_asked (Some k) replay made ran = refl
any_asked None true made ran = refl
any_asked None false (Some n) ran = refl
any_asked None false None (Some n) = refl
any_asked None false None None = refl

-- reading that wants memory
pub unread_some : (a : Option Form) → is_some a ≡ true → IsReading a (Err NoMemory)
unread_some (Some f) e = tt
unread_some None e = absurd (cc e)

pub unread_none : (a : Option Form) → is_some a ≡ false → IsReading a (Err Other)
unread_none (Some f) e = absurd (cc e)
unread_none None e = tt

simple : is_simple swarm_app ≡ true
unfolding clap_on_literals
simple = refl

-- a parse that succeeds found the form
pub finds : (a : App) → a ≡ swarm_app → (words : List Text) (m : ArgMatches) → HasMatchesOf a words m
    → (form : Form) → spells form words ≡ true → found_form (subcommand_rows_of m) ≡ Some form
finds a e words m h form is =
    ap found_form ((h (ap is_simple e ∙ simple)).1 ∙ ap (λ (x : App). subcommand_of x words) e) ∙ (reads form words is).found

-- and of a spelling it fails only for want of memory
pub takes_it : (a : App) → a ≡ swarm_app → (words : List Text) (form : Form) → spells form words ≡ true → takes a words ≡ true
takes_it a e words form is = ap (λ (x : App). takes x words) e ∙ (reads form words is).taken

-- How reading ends.

pub none_asked : (a : Option Form) (words : List Text) → form_of words ≡ a → ((f : Form) → spells f words ≡ true → ⊥) → form_of words ≡ None
none_asked None words e never = e
none_asked (Some f) words e never = absurd (never f (is_spelled f words e))

pub reads_form : (form : Form) (words : List Text) → spells form words ≡ true → IsReading (form_of words) (Ok form)
reads_form form words e = rw (asks_for form words e) refl

pub reads_other : (words : List Text) → ((f : Form) → spells f words ≡ true → ⊥) → IsReading (form_of words) (Err Other)
reads_other words never = rw (none_asked (form_of words) words refl never) tt

-- The form in what clap found.

map_both : {T U V : Type 0} (f : U → V) (g : T → U) (o : Option T) → option_map (λ x. f (g x)) o ≡ option_map f (option_map g o)
map_both f g None = refl
map_both f g (Some x) = refl

both_parts : (o : Option (Text × List Row)) (name : Text) (rows : List Row) → Some name ≡ option_map (λ p. p.0) o → Some rows ≡ option_map (λ p. p.1) o → o ≡ Some (name, rows)
both_parts None name rows a b = absurd (cc a)
both_parts (Some (n, r)) name rows a b = let is_name : name ≡ n = cc a in let is_rows : rows ≡ r = cc b in cc (is_name, is_rows)

pub found_named : (name : Text) (m inner : ArgMatches) → Some name ≡ subcommand_name_of m
    → Some (rows_of (found_of inner)) ≡ option_map (λ p. p.1) (subcommand_rows_of m)
    → named_form name (first_value (found_of inner) (codes "workers")) (first_value (found_of inner) (codes "number")) (first_value (found_of inner) (codes "run"))
    ≡ found_form (subcommand_rows_of m)
found_named name m inner named rows =
    let f = found_of inner in
    ap (λ o. named_form name o (first_value f (codes "number")) (first_value f (codes "run"))) (first_value-rows f (codes "workers"))
    ∙ ap (λ o. named_form name (first_of (codes "workers") (rows_of f)) o (first_value f (codes "run"))) (first_value-rows f (codes "number"))
    ∙ ap (λ o. named_form name (first_of (codes "workers") (rows_of f)) (first_of (codes "number") (rows_of f)) o) (first_value-rows f (codes "run"))
    ∙ ap found_form (sym (both_parts (subcommand_rows_of m) name (rows_of f) (named ∙ map_both _ _ (out-ArgMatches m).subcommand) rows))

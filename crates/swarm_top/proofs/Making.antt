-- What is put of a number's script, and of its run.
use Rattle.std.proofs.Common.{◌≡◌, ◌⊎◌, inl, inr, ℕ, ◌≤◌, ◌<◌, List, [], length, Bool, true, false, cond, refl, Option, Some, None, Result, Ok, Err, sym, ◌∙◌, ap, subst, arith, nat_lt}
use Rattle.std.specs.Io.KnownBytes.{Appends}
use Rattle.std.proofs.lemmas.List.{append-nil}
use Rattle.swarm_objects.specs.Limits.{most_entries}
use Rattle.swarm_objects.specs.Outside.{AppendsPrefix, HasCause, PutsPiece}
use Rattle.swarm_objects.specs.declared.calls.Entry.{Entry}
use Rattle.swarm_model.specs.History.{IsLegal, replay}
use Rattle.script_maker.specs.Script.{script_text}
use Rattle.script_maker.proofs.Reading.{script_is_read}
use Rattle.swarm_input.specs.Script.{Reading, reading}
use Rattle.swarm_input.specs.Streams.{Stream, stream_of}
use Rattle.swarm_input.proofs.Prefixes.{prefix_none}
use Rattle.swarm_lines.proofs.Closing.{closed}
use Rattle.swarm_lines.proofs.Finishing.{finished}
use Rattle.swarm_lines.proofs.Telling.{told}
use Rattle.swarm_lines.specs.Closing.{AreBack}
use Rattle.swarm_lines.specs.Endings.{TellsEnding, exit_status}
use Rattle.swarm_lines.specs.Finished.{IsFinished}
use Rattle.swarm_lines.specs.Serial.{entries, has_refusal, serial}
use Rattle.swarm_lines.specs.declared.endings.Ending.{Ending}
use Rattle.swarm_lines.specs.declared.endings.Ending.TheVariants.{Done, Refused, ReadFault, OutFault, JournalFault, NoMemory, NoMemoryAt, BadLine, Full}
use Rattle.swarm_top.specs.Inside.Makes.{PutsAs, is_whole, put_status}
use Rattle.swarm_top.specs.Make.{IsMake, IsMakeRun, IsPut, IsSummed, run_status, run_summary}
use Rattle.swarm_top.specs.Summary.{summary}
use Rattle.swarm_top.proofs.Serials.{few_said, many_said, refused_said}

-- A text that is put.

pub put_as : {T E : Type 0} (r : Result T E) (x y : Option (List ℕ)) (k l : ℕ) (text : List ℕ) (done status : ℕ) →
    PutsPiece x y text r → HasCause k l r → status ≡ put_status r done → PutsAs text done (stream_of x y k l) status
put_as (Ok u) x y k l text done status puts cause is = inl (record { status_is = is; put = puts; kept = cause.kept })
put_as (Err f) x y k l text done status puts cause is = inr (inl (record { status_is = is; put = puts; failed = cause.failed }))

pub none_put : (x : Option (List ℕ)) (k : ℕ) (text : List ℕ) (done status : ℕ) → status ≡ 5 → PutsAs text done (stream_of x x k k) status
none_put x k text done status is = inr (inr (record { status_is = is; same = refl; kept = refl }))

is_put : (x y : Option (List ℕ)) (k l : ℕ) (text : List ℕ) (done status : ℕ) → done ≤ 1 → PutsAs text done (stream_of x y k l) status →
    IsPut text (stream_of x y k l) status
is_put x y k l text done status small (inl all) = record {
  failed = λ e. absurd (omega (arith, small, all.status_is, e));
  wanting = λ e. absurd (omega (arith, small, all.status_is, e));
  risen = λ h. absurd (omega (arith, h, all.kept));
}
is_put x y k l text done status small (inr (inl part)) = record {
  failed = λ e. (part.failed, part.put);
  wanting = λ e. absurd (omega (arith, part.status_is, e));
  risen = λ h. part.status_is;
}
is_put x y k l text done status small (inr (inr none)) = record {
  failed = λ e. absurd (omega (arith, none.status_is, e));
  wanting = λ e. subst (λ z. AppendsPrefix x z text) (sym none.same) (prefix_none x text);
  risen = λ h. absurd (omega (arith, h, none.kept));
}

all_put : (x y : Option (List ℕ)) (k l : ℕ) (text : List ℕ) (done status : ℕ) → status ≤ 1 → PutsAs text done (stream_of x y k l) status →
    Appends x y text
all_put x y k l text done status small (inl all) = all.put
all_put x y k l text done status small (inr (inl part)) = absurd (omega (arith, small, part.status_is))
all_put x y k l text done status small (inr (inr none)) = absurd (omega (arith, small, none.status_is))

status_put : (x y : Option (List ℕ)) (k l : ℕ) (text : List ℕ) (done status : ℕ) → PutsAs text done (stream_of x y k l) status →
    (status ≡ done) ⊎ ((status ≡ 4) ⊎ (status ≡ 5))
status_put x y k l text done status (inl all) = inl all.status_is
status_put x y k l text done status (inr (inl part)) = inr (inl part.status_is)
status_put x y k l text done status (inr (inr none)) = inr (inr none.status_is)

-- The script.

pub made : (number : ℕ) (x y : Option (List ℕ)) (k l status : ℕ) (text : List ℕ) → text ≡ script_text number →
    PutsAs text 0 (stream_of x y k l) status → IsMake number (stream_of x y k l) status
made number x y k l status text is puts = record {
  put = subst (λ t. IsPut t (stream_of x y k l) status) is (is_put x y k l text 0 status (omega arith) puts);
  done = λ e. subst (λ t. Appends x y t) is (all_put x y k l text 0 status (omega (arith, e)) puts);
  statuses = status_put x y k l text 0 status puts;
}

pub unmade : (number : ℕ) (x : Option (List ℕ)) (k status : ℕ) → status ≡ 5 → IsMake number (stream_of x x k k) status
unmade number x k status is = made number x x k k status (script_text number) refl (none_put x k (script_text number) 0 status is)

one_of : (status : ℕ) → (status ≡ 0) ⊎ ((status ≡ 4) ⊎ (status ≡ 5)) → status ≡ 2 → ⊥
one_of status (inl e) h = omega (arith, e, h)
one_of status (inr (inl e)) h = omega (arith, e, h)
one_of status (inr (inr e)) h = omega (arith, e, h)

pub make_not_usage : (number : ℕ) (out : Stream) (status : ℕ) → IsMake number out status → status ≡ 2 → ⊥
make_not_usage number out status made e = one_of status made.statuses e

-- Its run.

small_whole : (e : Ending) → is_whole e ≡ true → exit_status e ≤ 1
small_whole Done w = omega arith
small_whole Refused w = omega arith
small_whole ReadFault w = absurd (cc w)
small_whole OutFault w = absurd (cc w)
small_whole JournalFault w = absurd (cc w)
small_whole NoMemory w = absurd (cc w)
small_whole (NoMemoryAt number fault) w = absurd (cc w)
small_whole (BadLine number fault) w = absurd (cc w)
small_whole Full w = absurd (cc w)

-- the history is the serial one, and the replies decide the status
record Comes (e : Ending) (s : Reading) (W : List Entry) : Type 0 where
  pub history : W ≡ serial s.said
  pub status : cond (has_refusal (entries s.said)) 1 0 ≡ exit_status e

-- the script was read from a source of these bytes without workers, and its replies went to a sink that tells nothing
abbrev pub IsAlone : Ending → List ℕ → Option (List ℕ) → List Entry → Type 0
IsAlone e input left W = AreBack 0 e (stream_of (Some input) left 0 0) (stream_of None None 0 0) W

-- the closed history is the serial one
alone : (e : Ending) (input : List ℕ) (left : Option (List ℕ)) (W : List Entry) → IsAlone e input left W → IsLegal W →
    TellsEnding e e (stream_of None None 0 0) → IsFinished 0 e (stream_of (Some input) left 0 0) (stream_of None None 0 0) W
alone e input left W back legal tells =
    let c = closed 0 e (stream_of (Some input) left 0 0) (stream_of None None 0 0) W back legal in
    let by = told e e (Some input) left 0 0 None None None 0 0 0 c.now c.read tells in
    finished 0 e e (stream_of (Some input) left 0 0) (stream_of None None 0 0) (stream_of None None 0 0) W legal c by.full
    (record { lines = by.lines; answers = by.answers })

comes : (e : Ending) (input : List ℕ) (left : Option (List ℕ)) (W : List Entry) → IsAlone e input left W → IsLegal W →
    is_whole e ≡ true → Comes e (reading input) W
comes Done input None W back legal w = absurd ((alone Done input None W back legal (refl, refl, refl)).lines refl)
comes Done input (Some l) W back legal w =
    let f = alone Done input (Some l) W back legal (refl, refl, refl) in
    let lines = f.lines refl in
    let answers = f.answers refl in
    record {
      history = lines.1;
      status = ap (λ (b : Bool). cond b 1 0) (refused_said (reading input) W false lines.1 answers.1);
    }
comes Refused input None W back legal w = absurd ((alone Refused input None W back legal (refl, refl, refl)).lines refl)
comes Refused input (Some l) W back legal w =
    let f = alone Refused input (Some l) W back legal (refl, refl, refl) in
    let lines = f.lines refl in
    let answers = f.answers refl in
    record {
      history = lines.1;
      status = ap (λ (b : Bool). cond b 1 0) (refused_said (reading input) W true lines.1 answers.1);
    }
comes ReadFault input left W back legal w = absurd (cc w)
comes OutFault input left W back legal w = absurd (cc w)
comes JournalFault input left W back legal w = absurd (cc w)
comes NoMemory input left W back legal w = absurd (cc w)
comes (NoMemoryAt number fault) input left W back legal w = absurd (cc w)
comes (BadLine number fault) input left W back legal w = absurd (cc w)
comes Full input left W back legal w = absurd (cc w)

at_most_one : (status : ℕ) → (status ≡ 0) ⊎ (status ≡ 1) → status ≤ 1
at_most_one status (inl e) = omega (arith, e)
at_most_one status (inr e) = omega (arith, e)

not_full : (done status : ℕ) → done ≤ 1 → (status ≡ done) ⊎ ((status ≡ 4) ⊎ (status ≡ 5)) → status ≡ 7 → ⊥
not_full done status small (inl e) h = omega (arith, small, e, h)
not_full done status small (inr (inl e)) h = omega (arith, e, h)
not_full done status small (inr (inr e)) h = omega (arith, e, h)

other_status : (a b status : ℕ) → a ≡ b → (status ≡ a) ⊎ ((status ≡ 4) ⊎ (status ≡ 5)) → (status ≡ b) ⊎ ((status ≡ 4) ⊎ (status ≡ 5))
other_status a b status same (inl e) = inl (e ∙ same)
other_status a b status same (inr e) = inr e

pub summed : (e : Ending) (input : List ℕ) (left : Option (List ℕ)) (W : List Entry) (x y : Option (List ℕ)) (k l status : ℕ) →
    IsAlone e input left W → is_whole e ≡ true → IsLegal W →
    PutsAs (summary (replay W)) (exit_status e) (stream_of x y k l) status → IsSummed (reading input) (stream_of x y k l) status
summed e input left W x y k l status back whole legal puts =
    let s = reading input in
    let by = comes e input left W back legal whole in
    let small = small_whole e whole in
    let text = summary (replay W) in
    let is : text ≡ run_summary s = ap (λ (h : List Entry). summary (replay h)) by.history in
    let few : nat_lt most_entries (length (entries s.said)) ≡ false = few_said s W legal by.history in
    let decided : exit_status e ≡ run_status s =
    sym by.status ∙ sym (ap (λ (b : Bool). cond b 7 (cond (has_refusal (entries s.said)) 1 0)) few) in
    let statuses = status_put x y k l text (exit_status e) status puts in
    record {
      put = subst (λ t. IsPut t (stream_of x y k l) status) is (is_put x y k l text (exit_status e) status small puts);
      done = λ h. subst (λ t. Appends x y t) is (all_put x y k l text (exit_status e) status (at_most_one status h) puts);
      full = λ h. absurd (not_full (exit_status e) status small statuses h);
      statuses = other_status (exit_status e) (run_status s) status decided statuses;
    }

appends_none : (x : Option (List ℕ)) → Appends x x []
appends_none None = tt
appends_none (Some xs) = sym (append-nil xs)

-- nothing is put, with a status after 4
nothing : (s : Reading) (x : Option (List ℕ)) (k status : ℕ) → 4 < status → (status ≡ run_status s) ⊎ (status ≡ 5) → IsSummed s (stream_of x x k k) status
nothing s x k status late is = record {
  put = record {
    failed = λ e. absurd (omega (arith, late, e));
    wanting = λ e. prefix_none x (run_summary s);
    risen = λ h. absurd (omega (arith, h));
  };
  done = λ h. absurd (omega (arith, late, at_most_one status h));
  full = λ e. appends_none x;
  statuses = other_end is;
} where
  other_end : (status ≡ run_status s) ⊎ (status ≡ 5) → (status ≡ run_status s) ⊎ ((status ≡ 4) ⊎ (status ≡ 5))
  other_end (inl e) = inl e
  other_end (inr e) = inr (inr e)

pub unsummed : (s : Reading) (x : Option (List ℕ)) (k status : ℕ) → status ≡ 5 → IsSummed s (stream_of x x k k) status
unsummed s x k status is = nothing s x k status (omega (arith, is)) (inr is)

pub stopped : (e : Ending) (input : List ℕ) (left : Option (List ℕ)) (W : List Entry) (x : Option (List ℕ)) (k status : ℕ) →
    IsAlone e input left W → IsLegal W → is_whole e ≡ false → (reading input).bad ≡ None → status ≡ exit_status e →
    IsSummed (reading input) (stream_of x x k k) status
stopped Done input left W x k status back legal part good is = absurd (cc part)
stopped Refused input left W x k status back legal part good is = absurd (cc part)
stopped ReadFault input left W x k status back legal part good is = absurd (omega (arith, back.read.cause refl))
stopped OutFault input left W x k status back legal part good is = absurd (omega (arith, back.read.answers.1))
stopped JournalFault input left W x k status back legal part good is = absurd back.read.answers
stopped NoMemory input left W x k status back legal part good is = unsummed (reading input) x k status is
stopped (NoMemoryAt number fault) input left W x k status back legal part good is = absurd back.read.answers
stopped (BadLine number fault) input None W x k status back legal part good is = absurd back.read.lines
stopped (BadLine number fault) input (Some l) W x k status back legal part good is =
    let both = sym good ∙ back.read.lines.0 in
    absurd (cc both)
stopped Full input None W x k status back legal part good is = absurd back.read.lines
stopped Full input (Some l) W x k status back legal part good is =
    let s = reading input in
    let f = alone Full input (Some l) W back legal (refl, refl, refl) in
    let many : nat_lt most_entries (length (entries s.said)) ≡ true = many_said s W (f.lines refl) in
    let seven : run_status s ≡ 7 = ap (λ (b : Bool). cond b 7 (cond (has_refusal (entries s.said)) 1 0)) many in
    nothing s x k status (omega (arith, is)) (inl (is ∙ sym seven))

status_of_run : (many refused : Bool) → ◌≡◌ {A = ℕ} (cond many 7 (cond refused 1 0)) 2 → ⊥
status_of_run true refused e = omega (arith, e)
status_of_run false true e = omega (arith, e)
status_of_run false false e = omega (arith, e)

no_usage : (s : Reading) (status : ℕ) → (status ≡ run_status s) ⊎ ((status ≡ 4) ⊎ (status ≡ 5)) → status ≡ 2 → ⊥
no_usage s status (inl e) h = status_of_run (nat_lt most_entries (length (entries s.said))) (has_refusal (entries s.said)) (sym e ∙ h)
no_usage s status (inr (inl e)) h = omega (arith, e, h)
no_usage s status (inr (inr e)) h = omega (arith, e, h)

pub summed_not_usage : (s : Reading) (out : Stream) (status : ℕ) → IsSummed s out status → status ≡ 2 → ⊥
summed_not_usage s out status made e = no_usage s status made.statuses e

-- that of a number's script, which has no bad line
pub made_run : (number : ℕ) (out : Stream) (status : ℕ) (text : List ℕ) → text ≡ script_text number →
    ((reading text).bad ≡ None → IsSummed (reading text) out status) → IsMakeRun number out status
made_run number out status text is runs =
    subst (λ (t : List ℕ). IsSummed (reading t) out status) is (runs (ap (λ (t : List ℕ). (reading t).bad) is ∙ script_is_read number))

-- The same of another name for the text.

pub same_text : (s t : List ℕ) (done : ℕ) (out : Stream) (status : ℕ) → s ≡ t → PutsAs s done out status → PutsAs t done out status
same_text s t done out status is puts = subst (λ (u : List ℕ). PutsAs u done out status) is puts

pub same_input : (s t : List ℕ) (out : Stream) (status : ℕ) → s ≡ t → IsSummed (reading s) out status → IsSummed (reading t) out status
same_input s t out status is sums = subst (λ (u : List ℕ). IsSummed (reading u) out status) is sums

-- A journal's entry has one text, and is read from it.
use Rattle.std.proofs.Common.{◌≡◌, ℕ, zero, suc, ◌≤◌, ◌+◌, ◌-◌, ◌^◌, List, [], ◌∷◌, ◌++◌, length, take, drop, codes, decimal, Bool, true, false, cond, not, refl, sym, ◌∙◌, ap, subst, Option, Some, None, Ok, Err, arith, nat_lt, length-append}
use Rattle.std.specs.Option.{option_map}
use Rattle.std.specs.Prelude.{Result}
use Rattle.std.specs.Str.{bytes_eq}
use Rattle.std.proofs.lemmas.Bool.Decides.{nat_tests}
use Rattle.std.proofs.lemmas.Option.{same_Some}
use Rattle.std.proofs.Math.Seq.{take-append_seam}
use Rattle.swarm_objects.proofs.Tests.{both, both_are}
use Rattle.swarm_objects.specs.Limits.{longest_entry}
use Rattle.swarm_objects.specs.DutyTexts.{duty_words, spaced}
use Rattle.swarm_objects.specs.declared.calls.Call.{Call}
use Rattle.swarm_objects.specs.declared.calls.Call.TheVariants as call
use Rattle.swarm_objects.specs.declared.calls.Entry.{Entry}
use Rattle.swarm_objects.specs.declared.calls.What.{What}
use Rattle.swarm_objects.specs.declared.calls.What.TheVariants as what
use Rattle.script_grammar.specs.declared.duties.DutyState.TheVariants as duty_state
use Rattle.script_grammar.specs.declared.lines.EntryState.{EntryState}
use Rattle.script_grammar.specs.declared.lines.EntryState.TheVariants as entry_state
use Rattle.script_grammar.specs.declared.lines.Line.{Line}
use Rattle.script_grammar.specs.declared.lines.Line.TheVariants as line
use Rattle.script_grammar.specs.declared.lines.LineFault.{LineFault}
use Rattle.script_grammar.specs.declared.lines.LineFault.TheVariants as fault
use Rattle.script_grammar.specs.declared.lines.LineState.{LineState}
use Rattle.script_grammar.specs.declared.lines.LineState.TheVariants as line_state
use Rattle.script_grammar.specs.declared.states.Form.TheVariants as form
use Rattle.script_grammar.specs.declared.states.State.{State}
use Rattle.script_grammar.specs.declared.states.State.TheVariants as state
use Rattle.script_grammar.specs.Words.{number_of, words_of, ◌>>=◌}
use Rattle.script_grammar.specs.Calls.{call_grammar, step, whole}
use Rattle.script_grammar.specs.Duties.{duty_grammar}
use Rattle.script_grammar.specs.Entries.{before_newline, call_entry, closed, duty_entry, ends_line, entry_meaning, is_long_entry, journal_grammar}
use Rattle.script_grammar.specs.HasText.{call_has_text, has_text, is_number, line_has_text, what_has_text}
use Rattle.script_grammar.specs.Lines.{is_blank, is_long, is_printable, line_of, meaning_of, script_grammar, wait_of}
use Rattle.script_grammar.specs.Machines.{IsSaid, Machine, Says, ended, meaning, reads, run}
use Rattle.script_grammar.specs.Texts.{call_words, entry_text, entry_words, what_words}
use Rattle.script_grammar.proofs.CallHas.{call_has}
use Rattle.script_grammar.proofs.CallRead.{call_read}
use Rattle.script_grammar.proofs.Completes.{Holds, run-held}
use Rattle.script_grammar.proofs.DutyLaws.{duty_read, duty_spelling}
use Rattle.script_grammar.proofs.EntryWords.{entry_graphic}
use Rattle.script_grammar.proofs.Inversions.{mapped, same}
use Rattle.script_grammar.proofs.LineLaws.{says_entry, says_line}
use Rattle.script_grammar.proofs.Numbers.{below_only, below_yes, number_only, number_yes}
use Rattle.script_grammar.proofs.OneSpelling.{call_spelling}
use Rattle.script_grammar.proofs.SaysLaw.{onto}
use Rattle.script_grammar.proofs.Spaces.{graphic_clean, spaced_printable, spaced_words, words_back, words_clean}

-- ## Reading what is said

pub said_reads : {S R : Type 0} (m : Machine S R) (k : ℕ) (s : S) (ws : List (List ℕ)) (r : R) → (run m s ws >>= m.whole) ≡ Some r → reads m k s ws ≡ Ok r
said_reads {S} {R} m k s [] r e = go (m.whole s) e where
  go : (o : Option R) → o ≡ Some r → ended o ≡ Ok r
  go None d = cc
  go (Some x) d = ap Ok (same_Some x r d)
said_reads {S} {R} m k s (w ∷ ws) r e = go (m.step s w) e (λ t. said_reads m (k + 1) t ws r) where
  go : (o : Option S) → ((o >>= λ t. run m t ws) >>= m.whole) ≡ Some r → ((t : S) → (run m t ws >>= m.whole) ≡ Some r → reads m (k + 1) t ws ≡ Ok r) →
      onto m k ws o ≡ Ok r
  go None d ih = cc
  go (Some t) d ih = ih t d

-- what an outer machine says from a state that holds an inner one's is made of what the inner one says
pub held_said : {S T R Q : Type 0} (inner : Machine S R) (outer : Machine T Q) (hold : S → T) (made : R → Q) → Holds inner outer hold →
    ((s : S) → outer.whole (hold s) ≡ option_map made (inner.whole s)) → (s : S) (ws : List (List ℕ)) (q : Q) →
    (run outer (hold s) ws >>= outer.whole) ≡ Some q → (r : R) × ((run inner s ws >>= inner.whole) ≡ Some r) × (made r ≡ q)
held_said {S} {T} {R} {Q} inner outer hold made h w s ws q e =
    go (run inner s ws) (sym (ap (λ (o : Option T). o >>= outer.whole) (run-held inner outer hold h s ws)) ∙ e)
  where
    go : (o : Option S) → ((o >>= λ t. Some (hold t)) >>= outer.whole) ≡ Some q → (r : R) × ((o >>= inner.whole) ≡ Some r) × (made r ≡ q)
    go None d = cc
    go (Some t) d = mapped made (inner.whole t) q (sym (w t) ∙ d)

pub said_held : {S T R Q : Type 0} (inner : Machine S R) (outer : Machine T Q) (hold : S → T) (made : R → Q) → Holds inner outer hold →
    ((s : S) → outer.whole (hold s) ≡ option_map made (inner.whole s)) → (s : S) (ws : List (List ℕ)) (r : R) →
    (run inner s ws >>= inner.whole) ≡ Some r → (run outer (hold s) ws >>= outer.whole) ≡ Some (made r)
said_held {S} {T} {R} {Q} inner outer hold made h w s ws r e =
    ap (λ (o : Option T). o >>= outer.whole) (run-held inner outer hold h s ws) ∙ go (run inner s ws) e
  where
    go : (o : Option S) → (o >>= inner.whole) ≡ Some r → ((o >>= λ t. Some (hold t)) >>= outer.whole) ≡ Some (made r)
    go None d = cc
    go (Some t) d = w t ∙ ap (option_map made) d

-- ## Words of entries

-- a word that is no call's first
no_call : (x : List ℕ) → step form.Journal (state.Opening []) x ≡ None → (ws : List (List ℕ)) (c : Call) → IsSaid (call_grammar form.Journal) (x ∷ ws) c → ⊥
no_call x e ws c h =
    let f : None ≡ Some c = sym (ap (λ (o : Option State). (o >>= λ s. run (call_grammar form.Journal) s ws) >>= whole) e) ∙ h in
    cc

-- behind the caller, the words of a call
abbrev from_caller : ℕ → List (List ℕ) → Option Entry
from_caller by ws = run journal_grammar (entry_state.Caller by) ws >>= journal_grammar.whole

first_held : {A B C : Type 0} (o : Option A) (hold : A → B) (f : B → Option C) → ((o >>= λ a. Some (hold a)) >>= f) ≡ (o >>= λ a. f (hold a))
first_held None hold f = refl
first_held (Some a) hold f = refl

abbrev from_call : ℕ → List (List ℕ) → Option EntryState → Option Entry
from_call by ws o = (o >>= λ t. run journal_grammar t ws) >>= journal_grammar.whole

call_from : (by : ℕ) (x : List ℕ) (ws : List (List ℕ)) → bytes_eq x (codes "duty") ≡ false →
    from_caller by (x ∷ ws) ≡ (run journal_grammar (entry_state.Call by (state.Opening [])) (x ∷ ws) >>= journal_grammar.whole)
call_from by x ws e =
    ap (λ b. from_call by ws (cond b (Some (entry_state.Duty by duty_state.Opening)) (step form.Journal (state.Opening []) x >>= λ s. Some (entry_state.Call by s)))) e

duty_from : (by : ℕ) (x : List ℕ) (ws : List (List ℕ)) → bytes_eq x (codes "duty") ≡ true →
    from_caller by (x ∷ ws) ≡ (run journal_grammar (entry_state.Duty by duty_state.Opening) ws >>= journal_grammar.whole)
duty_from by x ws e =
    ap (λ b. from_call by ws (cond b (Some (entry_state.Duty by duty_state.Opening)) (step form.Journal (state.Opening []) x >>= λ s. Some (entry_state.Call by s)))) e

-- the words of an entry, and that it has a text
pub record OneEntry (ws : List (List ℕ)) (e : Entry) : Type 0 where
  pub words : ws ≡ entry_words e
  pub has : has_text e ≡ true

behind_caller : (by : ℕ) → is_number by ≡ true → (ws : List (List ℕ)) (e : Entry) → from_caller by ws ≡ Some e → OneEntry (decimal by ∷ ws) e
behind_caller by h [] e d = cc
behind_caller by h (x ∷ ws) e d = go (bytes_eq x (codes "duty")) refl where
  go : (b : Bool) → bytes_eq x (codes "duty") ≡ b → OneEntry (decimal by ∷ x ∷ ws) e
  go true t =
      let k = held_said duty_grammar journal_grammar (entry_state.Duty by) (duty_entry by) (λ s word. refl) (λ s. refl) duty_state.Opening ws e (sym (duty_from by x ws t) ∙ d) in
      let s = duty_spelling ws k.0 k.1 in
      subst (OneEntry (decimal by ∷ x ∷ ws)) k.2 (record {
        words = ap (λ y. decimal by ∷ y ∷ ws) (same x (codes "duty") t) ∙ ap (λ ys. decimal by ∷ codes "duty" ∷ ys) s.0;
        has = both _ _ h s.1;
      })
  go false t =
      let k = held_said (call_grammar form.Journal) journal_grammar (entry_state.Call by) (call_entry by) (λ s word. refl) (λ s. refl) (state.Opening []) (x ∷ ws) e (sym (call_from by x ws t) ∙ d) in
      subst (OneEntry (decimal by ∷ x ∷ ws)) k.2 (record {
        words = ap (λ ys. decimal by ∷ ys) (call_spelling (x ∷ ws) k.0 k.1);
        has = both _ _ h (call_has form.Journal (x ∷ ws) k.0 k.1);
      })

pub one_entry : (ws : List (List ℕ)) (e : Entry) → IsSaid journal_grammar ws e → OneEntry ws e
one_entry [] e d = cc
one_entry (w ∷ ws) e d = go (number_of w) refl d where
  go : (o : Option ℕ) → number_of w ≡ o → from_call 0 ws (o >>= λ by. Some (entry_state.Caller by)) ≡ Some e → OneEntry (w ∷ ws) e
  go None k f = cc
  go (Some by) k f =
      let n = number_only (2 ^ 64) by w k in
      subst (λ v. OneEntry (v ∷ ws) e) (sym n.0) (behind_caller by (below_yes by (2 ^ 64) n.1) ws e f)

-- the words of an entry that has a text say it
pub entry_read : (e : Entry) → has_text e ≡ true → IsSaid journal_grammar (entry_words e) e
entry_read e h = caller ∙ said e.what b.1 where
  b : (is_number e.by ≡ true) × (what_has_text e.what ≡ true)
  b = both_are (is_number e.by) (what_has_text e.what) h

  caller : (run journal_grammar entry_state.Opening (entry_words e) >>= journal_grammar.whole) ≡ from_caller e.by (what_words e.what)
  caller =
      let k = below_only e.by (2 ^ 64) b.0 in
      ap (λ (o : Option ℕ). from_call 0 (what_words e.what) (o >>= λ by. Some (entry_state.Caller by))) (number_yes (2 ^ 64) e.by k k)

  call_said : (c : Call) (ws : List (List ℕ)) → IsSaid (call_grammar form.Journal) ws c → from_caller e.by ws ≡ Some (call_entry e.by c)
  call_said c [] f = cc
  call_said c (x ∷ ws) f = go (bytes_eq x (codes "duty")) refl where
    go : (t : Bool) → bytes_eq x (codes "duty") ≡ t → from_caller e.by (x ∷ ws) ≡ Some (call_entry e.by c)
    go true t = absurd (no_call x (ap (step form.Journal (state.Opening [])) (same x (codes "duty") t)) ws c f)
    go false t =
        call_from e.by x ws t
        ∙ said_held (call_grammar form.Journal) journal_grammar (entry_state.Call e.by) (call_entry e.by) (λ s word. refl) (λ s. refl) (state.Opening []) (x ∷ ws) c f

  said : (w : What) → what_has_text w ≡ true → from_caller e.by (what_words w) ≡ Some (record { by = e.by; what = w })
  said (what.Call c) g = call_said c (call_words c) (call_read c g)
  said (what.Duty d) g =
      said_held duty_grammar journal_grammar (entry_state.Duty e.by) (duty_entry e.by) (λ s word. refl) (λ s. refl) duty_state.Opening (duty_words d) d (duty_read d g)

-- ## Lines of entries

-- an entry that was read
record IsRead (line : List ℕ) (e : Entry) : Type 0 where
  newline : ends_line line ≡ true
  said : IsSaid journal_grammar (words_of (before_newline line)) e

read_only : (line : List ℕ) (e : Entry) → entry_meaning line ≡ Ok e → IsRead line e
read_only line e h = go (is_long_entry line) (not (is_printable (before_newline line))) (ends_line line) refl h where
  words : List (List ℕ)
  words = words_of (before_newline line)

  said : (r : Result Entry LineFault) → Says journal_grammar words r → r ≡ Ok e → IsSaid journal_grammar words e
  said r s k = subst (Says journal_grammar words) k s

  cut : (r : Result Entry LineFault) → closed false r ≡ Ok e → ⊥
  cut (Ok x) k = cc
  cut (Err f) k = cc

  go : (long printed newline : Bool) → ends_line line ≡ newline → cond long (Err fault.Long) (cond printed (Err fault.Byte) (closed newline (meaning journal_grammar words))) ≡ Ok e → IsRead line e
  go true printed newline t k = cc
  go false true newline t k = cc
  go false false true t k = record { newline = t; said = said (meaning journal_grammar words) (says_entry words) k }
  go false false false t k = absurd (cut (meaning journal_grammar words) k)

-- a line that ends so is its front and a newline
with_newline : (line : List ℕ) → ends_line line ≡ true → line ≡ before_newline line ++ codes "\n"
with_newline line t =
    sym (take_drop (length line - 1) line) ∙ ap (λ xs. take (length line - 1) line ++ xs) (same _ _ t)
    ∙ ap (λ b. cond b (take (length line - 1) line) line ++ codes "\n") (sym t)
  where
    take_drop : (n : ℕ) (xs : List ℕ) → take n xs ++ drop n xs ≡ xs
    take_drop zero xs = refl
    take_drop (suc n) [] = refl
    take_drop (suc n) (x ∷ xs) = ap (λ ys. x ∷ ys) (take_drop n xs)

-- what was read from a line has that line as its text, so that two texts of one entry are equal
pub one_text : (line : List ℕ) (e : Entry) → entry_meaning line ≡ Ok e → line ≡ entry_text e
one_text line e h =
    let r = read_only line e h in
    let o = one_entry (words_of (before_newline line)) e r.said in
    with_newline line r.newline ∙ ap (λ xs. xs ++ codes "\n") (sym (spaced_words (before_newline line)) ∙ ap spaced o.words)

-- what was read has a text
pub entry_has : (line : List ℕ) (e : Entry) → entry_meaning line ≡ Ok e → has_text e ≡ true
entry_has line e h = (one_entry (words_of (before_newline line)) e (read_only line e h).said).has

drop_front : (xs ys : List ℕ) → drop (length xs) (xs ++ ys) ≡ ys
drop_front [] ys = refl
drop_front (x ∷ xs) ys = drop_front xs ys

newline_at : (xs : List ℕ) → length (xs ++ codes "\n") - 1 ≡ length xs
newline_at xs = omega (arith, length-append xs (codes "\n"))

ends_so : (xs : List ℕ) → ends_line (xs ++ codes "\n") ≡ true
ends_so xs = ap (λ n. bytes_eq (drop n (xs ++ codes "\n")) (codes "\n")) (newline_at xs) ∙ ap (λ ys. bytes_eq ys (codes "\n")) (drop_front xs (codes "\n"))

front_of : (xs : List ℕ) → before_newline (xs ++ codes "\n") ≡ xs
front_of xs =
    ap (λ b. cond b (take (length (xs ++ codes "\n") - 1) (xs ++ codes "\n")) (xs ++ codes "\n")) (ends_so xs)
    ∙ ap (λ n. take n (xs ++ codes "\n")) (newline_at xs) ∙ take-append_seam xs (codes "\n")

-- what was written is read back
pub read_back : (e : Entry) → has_text e ≡ true → length (entry_text e) ≤ longest_entry → entry_meaning (entry_text e) ≡ Ok e
read_back e h short =
    let g = entry_graphic e h in
    let text = spaced (entry_words e) in
    let words : words_of text ≡ entry_words e = words_back (decimal e.by) (what_words e.what) (graphic_clean _ g.0) (words_clean _ g.1) in
    let long : is_long_entry (entry_text e) ≡ false = not_long (length (entry_text e)) short in
    let printed : not (is_printable (before_newline (entry_text e))) ≡ false = ap not (ap is_printable (front_of text) ∙ spaced_printable (entry_words e) g) in
    let said : meaning journal_grammar (words_of (before_newline (entry_text e))) ≡ Ok e =
    ap (meaning journal_grammar) (ap words_of (front_of text) ∙ words) ∙ said_reads journal_grammar 1 entry_state.Opening (entry_words e) e (entry_read e h) in
    ap (λ b. cond b (Err fault.Long) (cond (not (is_printable (before_newline (entry_text e)))) (Err fault.Byte) (closed (ends_line (entry_text e)) (meaning journal_grammar (words_of (before_newline (entry_text e))))))) long
    ∙ ap (λ b. cond b (Err fault.Byte) (closed (ends_line (entry_text e)) (meaning journal_grammar (words_of (before_newline (entry_text e)))))) printed
    ∙ ap (λ b. closed b (meaning journal_grammar (words_of (before_newline (entry_text e))))) (ends_so text)
    ∙ said
  where
    not_long : (n : ℕ) → n ≤ longest_entry → nat_lt longest_entry n ≡ false
    not_long n k = grind (arith, nat_tests)

-- ## Lines of scripts

call_line : (c : Call) → call_has_text c ≡ true → line_has_text (line_of c) ≡ true
call_line (call.Settle n) h = h
call_line (call.Txn x) h = h
call_line (call.View x) h = h
call_line (call.WatchBegin x) h = h
call_line (call.WatchPoll x) h = h
call_line (call.WatchFinish x) h = h
call_line (call.Tick x) h = h
call_line (call.NodeFail x) h = h
call_line (call.NodeStart x) h = h
call_line (call.AgentStop x) h = h
call_line (call.AgentStart x) h = h
call_line (call.RemoteBegin x y z) h = h
call_line (call.RemoteBeat x y) h = h
call_line (call.RemotePull x y) h = h
call_line (call.RemoteStatus x y z w) h = h
call_line call.Halt h = h

abbrev from_line : List (List ℕ) → Option LineState → Option Line
from_line ws o = (o >>= λ t. run script_grammar t ws) >>= script_grammar.whole

said_call : (ws : List (List ℕ)) (l : Line) → (run script_grammar (line_state.Call (state.Opening [])) ws >>= script_grammar.whole) ≡ Some l → line_has_text l ≡ true
said_call ws l d =
    let k = held_said (call_grammar form.Script) script_grammar line_state.Call line_of (λ s word. refl) (λ s. refl) (state.Opening []) ws l d in
    subst (λ x. line_has_text x ≡ true) k.2 (call_line k.0 (call_has form.Script ws k.0 k.1))

waited : (n : ℕ) (ws : List (List ℕ)) (l : Line) → (run script_grammar (line_state.Waited n) ws >>= script_grammar.whole) ≡ Some l → line_has_text l ≡ true
waited n [] l d = subst (λ x. line_has_text x ≡ true) (same_Some (line.Wait n) l d) refl
waited n (w ∷ ws) l d = cc

wait_said : (ws : List (List ℕ)) (l : Line) → (run script_grammar line_state.Wait ws >>= script_grammar.whole) ≡ Some l → line_has_text l ≡ true
wait_said [] l d = cc
wait_said (w ∷ ws) l d = go (wait_of w) d where
  go : (o : Option ℕ) → from_line ws (o >>= λ n. Some (line_state.Waited n)) ≡ Some l → line_has_text l ≡ true
  go None k = cc
  go (Some n) k = waited n ws l k

pub line_said : (ws : List (List ℕ)) (l : Line) → IsSaid script_grammar ws l → line_has_text l ≡ true
line_said [] l d = cc
line_said (w ∷ ws) l d = go (bytes_eq w (codes "wait")) refl where
  from : (b : Bool) → bytes_eq w (codes "wait") ≡ b → from_line ws (cond b (Some line_state.Wait) (step form.Script (state.Opening []) w >>= λ s. Some (line_state.Call s))) ≡ Some l
  from b t = sym (ap (λ c. from_line ws (cond c (Some line_state.Wait) (step form.Script (state.Opening []) w >>= λ s. Some (line_state.Call s)))) t) ∙ d

  go : (b : Bool) → bytes_eq w (codes "wait") ≡ b → line_has_text l ≡ true
  go true t = wait_said ws l (from true t)
  go false t = said_call (w ∷ ws) l (from false t)

-- every call that a script's line gives has a text
pub line_has : (text : List ℕ) (l : Line) → meaning_of text ≡ Ok l → line_has_text l ≡ true
line_has text l h = go (is_long text) (not (is_printable text)) (is_blank text) h where
  go : (long printed blank : Bool) → cond long (Err fault.Long) (cond printed (Err fault.Byte) (cond blank (Ok line.Blank) (meaning script_grammar (words_of text)))) ≡ Ok l → line_has_text l ≡ true
  go true printed blank k = cc
  go false true blank k = cc
  go false false true k = let e : line.Blank ≡ l = cc in subst (λ x. line_has_text x ≡ true) e refl
  go false false false k = line_said (words_of text) l (subst (Says script_grammar (words_of text)) k (says_line (words_of text)))

-- Every line of a journal is short enough to be read back.
use Rattle.std.proofs.Common.{◌≡◌, ℕ, ◌≤◌, ◌<◌, ◌+◌, ◌*◌, ◌^◌, List, [], ◌∷◌, length, codes, decimal, map, Bool, true, false, cond, not, refl, sym, ◌∙◌, ap, subst, Option, Some, None, Ok, Err, arith}
use Rattle.std.specs.Fmt.{digits}
use Rattle.std.specs.List.{AllByRecursion, list_all}
use Rattle.std.specs.Str.{bytes_eq}
use Rattle.std.proofs.lemmas.Bool.Decides.{nat_tests}
use Rattle.std.proofs.lemmas.Fmt.{length-decimal-le}
use Rattle.std.proofs.lemmas.List.{length-append}
use Rattle.std.proofs.lemmas.Option.{same_Some}
use Rattle.swarm_objects.proofs.Tests.{both_are}
use Rattle.swarm_objects.specs.DutyTexts.{duty_kind, duty_words, loop_word, spaced}
use Rattle.swarm_objects.specs.Kinds.{bit, duty_numbers, role_of}
use Rattle.swarm_objects.specs.declared.calls.Call.{Call}
use Rattle.swarm_objects.specs.declared.calls.Call.TheVariants as call
use Rattle.swarm_objects.specs.declared.duties.Duty.{Duty}
use Rattle.swarm_objects.specs.declared.duties.Duty.TheVariants as duty
use Rattle.swarm_objects.specs.declared.loops.Role.{Role}
use Rattle.swarm_objects.specs.declared.loops.Role.TheVariants as role
use Rattle.script_grammar.specs.declared.lines.Line.{Line}
use Rattle.script_grammar.specs.declared.lines.Line.TheVariants as line
use Rattle.script_grammar.specs.declared.lines.LineFault.TheVariants as fault
use Rattle.script_grammar.specs.declared.lines.LineState.{LineState}
use Rattle.script_grammar.specs.declared.lines.LineState.TheVariants as line_state
use Rattle.script_grammar.specs.declared.states.Form.TheVariants as form
use Rattle.script_grammar.specs.declared.states.State.TheVariants as state
use Rattle.script_grammar.proofs.EntryLaws.{held_said}
use Rattle.script_grammar.proofs.LengthsCalls.{call_room}
use Rattle.script_grammar.proofs.LengthsDrafts.{room}
use Rattle.script_grammar.proofs.Numbers.{below_only}
use Rattle.script_grammar.proofs.LineLaws.{says_line}
use Rattle.script_grammar.proofs.Spaces.{spaced_words}
use Rattle.script_grammar.specs.Calls.{call_grammar, step}
use Rattle.script_grammar.specs.Entries.{call_entry, duty_entry}
use Rattle.script_grammar.specs.HasText.{duty_has_text, is_number, is_port}
use Rattle.script_grammar.specs.Lines.{is_blank, is_long, is_printable, line_of, meaning_of, script_grammar, wait_of}
use Rattle.script_grammar.specs.Machines.{IsSaid, Says, meaning, run}
use Rattle.script_grammar.specs.Texts.{call_words, entry_text}
use Rattle.script_grammar.specs.Words.{words_of, ◌>>=◌}

-- ## A line of words

spaced_room : (w : List ℕ) (ws : List (List ℕ)) → length (spaced (w ∷ ws)) + 1 ≡ room (w ∷ ws)
spaced_room w [] = omega arith
spaced_room w (v ∷ ws) = omega (arith, spaced_room v ws, length-append w (32 ∷ spaced (v ∷ ws)))

-- the line of an entry is as long as its words with a space behind each
entry_length : (by : ℕ) (c : Call) → length (entry_text (call_entry by c)) ≡ length (decimal by) + 1 + room (call_words c)
entry_length by c =
    omega (arith, spaced_room (decimal by) (call_words c), length-append (spaced (decimal by ∷ call_words c)) (codes "\n"))

one_digit : length (decimal 0) ≡ 1
unfolding digits
one_digit = refl

-- ## Lines of scripts

-- what the line says is written with its caller and its newline in three bytes more
abbrev pub ShortLine : ℕ → Line → Type 0
ShortLine n (line.Call c) = length (entry_text (call_entry 0 c)) ≤ n + 3
ShortLine n (line.Settle b) = length (entry_text (call_entry 0 (call.Settle b))) ≤ n + 3
ShortLine n l = Unit {0}

short_call : (n : ℕ) (c : Call) → room (call_words c) ≤ n + 1 → ShortLine n (line_of c)
short_call n c h = made (line_of c) refl where
  long : length (entry_text (call_entry 0 c)) ≤ n + 3
  long = omega (arith, entry_length 0 c, one_digit, h)

  made : (l : Line) → line_of c ≡ l → ShortLine n l
  made line.Blank e = tt
  made (line.Wait m) e = tt
  made (line.Call d) e = subst (λ x. length (entry_text (call_entry 0 x)) ≤ n + 3) (of_call c d e) long where
    of_call : (c d : Call) → line_of c ≡ line.Call d → c ≡ d
    of_call (call.Settle b) d e = cc
    of_call c d e = cc
  made (line.Settle b) e = subst (λ x. length (entry_text (call_entry 0 x)) ≤ n + 3) (of_settle c b e) long where
    of_settle : (c : Call) (b : ℕ) → line_of c ≡ line.Settle b → c ≡ call.Settle b
    of_settle (call.Settle a) b e = cc
    of_settle c b e = cc

abbrev from_line : List (List ℕ) → Option LineState → Option Line
from_line ws o = (o >>= λ t. run script_grammar t ws) >>= script_grammar.whole

call_short : (n : ℕ) (ws : List (List ℕ)) (l : Line) → room ws ≤ n + 1 → (run script_grammar (line_state.Call (state.Opening [])) ws >>= script_grammar.whole) ≡ Some l → ShortLine n l
call_short n ws l h d =
    let k = held_said (call_grammar form.Script) script_grammar line_state.Call line_of (λ s word. refl) (λ s. refl) (state.Opening []) ws l d in
    subst (ShortLine n) k.2 (short_call n k.0 (omega (arith, h, call_room ws k.0 k.1)))

waited_short : (n m : ℕ) (ws : List (List ℕ)) (l : Line) → (run script_grammar (line_state.Waited m) ws >>= script_grammar.whole) ≡ Some l → ShortLine n l
waited_short n m [] l d = subst (ShortLine n) (same_Some (line.Wait m) l d) tt
waited_short n m (w ∷ ws) l d = cc

wait_short : (n : ℕ) (ws : List (List ℕ)) (l : Line) → (run script_grammar line_state.Wait ws >>= script_grammar.whole) ≡ Some l → ShortLine n l
wait_short n [] l d = cc
wait_short n (w ∷ ws) l d = go (wait_of w) d where
  go : (o : Option ℕ) → from_line ws (o >>= λ m. Some (line_state.Waited m)) ≡ Some l → ShortLine n l
  go None k = cc
  go (Some m) k = waited_short n m ws l k

words_short : (n : ℕ) (ws : List (List ℕ)) (l : Line) → room ws ≤ n + 1 → IsSaid script_grammar ws l → ShortLine n l
words_short n [] l h d = cc
words_short n (w ∷ ws) l h d = go (bytes_eq w (codes "wait")) refl where
  from : (b : Bool) → bytes_eq w (codes "wait") ≡ b → from_line ws (cond b (Some line_state.Wait) (step form.Script (state.Opening []) w >>= λ s. Some (line_state.Call s))) ≡ Some l
  from b t = sym (ap (λ c. from_line ws (cond c (Some line_state.Wait) (step form.Script (state.Opening []) w >>= λ s. Some (line_state.Call s)))) t) ∙ d

  go : (b : Bool) → bytes_eq w (codes "wait") ≡ b → ShortLine n l
  go true t = wait_short n ws l (from true t)
  go false t = call_short n (w ∷ ws) l h (from false t)

words_room : (text : List ℕ) → room (words_of text) ≤ length text + 1
words_room text = go (words_of text) (spaced_words text) where
  go : (ws : List (List ℕ)) → spaced ws ≡ text → room ws ≤ length text + 1
  go [] e = omega arith
  go (w ∷ ws) e = omega (arith, spaced_room w ws, ap length e)

-- what a script's line says is written in three bytes more than the line has
pub line_short : (text : List ℕ) (l : Line) → meaning_of text ≡ Ok l → ShortLine (length text) l
line_short text l h = go (is_long text) (not (is_printable text)) (is_blank text) h where
  go : (long printed blank : Bool) → cond long (Err fault.Long) (cond printed (Err fault.Byte) (cond blank (Ok line.Blank) (meaning script_grammar (words_of text)))) ≡ Ok l → ShortLine (length text) l
  go true printed blank k = cc
  go false true blank k = cc
  go false false true k = let e : line.Blank ≡ l = cc in subst (ShortLine (length text)) e tt
  go false false false k = words_short (length text) (words_of text) l (words_room text) (subst (Says script_grammar (words_of text)) k (says_line (words_of text)))

-- a line that says something isn't long
pub not_long : (text : List ℕ) (l : Line) → meaning_of text ≡ Ok l → length text ≤ 8192
not_long text l h = go (is_long text) refl h where
  go : (long : Bool) → is_long text ≡ long → cond long (Err fault.Long) (cond (not (is_printable text)) (Err fault.Byte) (cond (is_blank text) (Ok line.Blank) (meaning script_grammar (words_of text)))) ≡ Ok l → length text ≤ 8192
  go true e k = cc
  go false e k = grind (arith, nat_tests)

-- what a script's line says has a line in the journal that can be read back
abbrev pub FitsEntry : Line → Type 0
FitsEntry (line.Call c) = length (entry_text (call_entry 0 c)) ≤ 8224
FitsEntry (line.Settle b) = length (entry_text (call_entry 0 (call.Settle b))) ≤ 8224
FitsEntry l = Unit {0}

pub line_fits : (text : List ℕ) (l : Line) → meaning_of text ≡ Ok l → FitsEntry l
line_fits text l h = go l (line_short text l h) (not_long text l h) where
  go : (l : Line) → ShortLine (length text) l → length text ≤ 8192 → FitsEntry l
  go line.Blank s k = tt
  go (line.Wait m) s k = tt
  go (line.Call c) s k = omega (arith, s, k)
  go (line.Settle b) s k = omega (arith, s, k)

-- ## Halt

pub halt_length : length (entry_text (call_entry 0 call.Halt)) ≡ 7
halt_length = omega (arith, entry_length 0 call.Halt, one_digit)

-- ## Duties

decimal_short : (n : ℕ) → n < 2 ^ 64 → length (decimal n) ≤ 20
decimal_short n h = length-decimal-le 20 n (omega arith) (omega (arith, h)) h

-- numbers, each of 20 digits at most
numbers_short : (ns : List ℕ) → AllByRecursion (λ n. n < 2 ^ 64) ns → room (map decimal ns) ≤ 21 * length ns
numbers_short [] h = omega arith
numbers_short (n ∷ ns) h = omega (arith, decimal_short n h.0, numbers_short ns h.1)

loop_short : (r : Role) → length (loop_word r) ≤ 10
loop_short role.Dispatcher = omega arith
loop_short role.Enforcer = omega arith
loop_short role.Restart = omega arith
loop_short role.Update = omega arith
loop_short role.Replicated = omega arith
loop_short role.Global = omega arith
loop_short role.Job = omega arith
loop_short role.Allocator = omega arith
loop_short role.Scheduler = omega arith
loop_short role.Reaper = omega arith
loop_short role.Agents = omega arith

kind_short : (d : Duty) → length (duty_kind d) ≤ 8
kind_short (duty.Expire n) = omega arith
kind_short _ = omega arith

few_numbers : (d : Duty) → length (duty_numbers d) ≤ 3
few_numbers (duty.Port s target udp) = omega arith
few_numbers _ = omega arith

all_fit : (ns : List ℕ) → list_all is_number ns ≡ true → AllByRecursion (λ n. n < 2 ^ 64) ns
all_fit [] h = tt
all_fit (n ∷ ns) h = let b = both_are (is_number n) (list_all is_number ns) h in (below_only n (2 ^ 64) b.0, all_fit ns b.1)

port_fits : (n : ℕ) → is_port n ≡ true → n < 2 ^ 64
port_fits n h = omega (arith, below_only n 65536 h)

bit_fits : (b : Bool) → bit b < 2 ^ 64
bit_fits true = omega arith
bit_fits false = omega arith

duty_fits : (d : Duty) → duty_has_text d ≡ true → AllByRecursion (λ n. n < 2 ^ 64) (duty_numbers d)
duty_fits (duty.Port s target udp) h =
    let b = both_are (is_number s) (is_port target) h in (below_only s (2 ^ 64) b.0, (port_fits target b.1, (bit_fits udp, tt)))
duty_fits d h = all_fit (duty_numbers d) h

-- a tick's line is short
pub tick_length : (ms : ℕ) → ms < 2 ^ 64 → length (entry_text (call_entry 0 (call.Tick ms))) ≤ 40
tick_length ms h = omega (arith, entry_length 0 (call.Tick ms), one_digit, decimal_short ms h)

-- a duty's line is short, whoever takes it
pub duty_length : (by : ℕ) (d : Duty) → is_number by ≡ true → duty_has_text d ≡ true → length (entry_text (duty_entry by d)) ≤ 109
duty_length by d h k =
    let words = duty_words d in
    omega (
      arith,
      spaced_room (decimal by) (codes "duty" ∷ words),
      length-append (spaced (decimal by ∷ codes "duty" ∷ words)) (codes "\n"),
      decimal_short by (below_only by (2 ^ 64) h),
      loop_short (role_of d),
      kind_short d,
      few_numbers d,
      numbers_short (duty_numbers d) (duty_fits d k),
    )

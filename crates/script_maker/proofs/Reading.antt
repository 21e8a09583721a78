-- Each line of a script is in the grammar, whatever is drawn for it, so a reader comes to the script's end.
use Rattle.std.proofs.Common.{◌≡◌, ◌∙◌, refl, sym, ap, subst, arith, ℕ, zero, suc, ◌+◌, ◌-◌, ◌*◌, ◌<◌, ◌≤◌, ◌%◌, List, [], ◌∷◌, ◌++◌, Bool, true, false, not, ◌&&◌, Result, Ok, Err, None, length, take, nat_le, nat_lt, codes, append_assoc}
use Rattle.std.specs.Prelude.{is_ok}
use Rattle.std.specs.Fmt.{digits}
use Rattle.std.specs.Str.{bytes_eq}
use Rattle.std.proofs.Math.Nat.{mod-lt}
use Rattle.std.proofs.lemmas.Bool.Decides.{nat_tests}
use Rattle.std.proofs.lemmas.List.{append-nil, length-append}
use Rattle.std.proofs.lemmas.Slice.Eq.{bytes_eq-Decides}
use Rattle.swarm_objects.proofs.Tests.{both_are}
use Rattle.script_grammar.specs.Lines.{meaning_of}
use Rattle.script_grammar.specs.declared.lines.Line.{Line}
use Rattle.script_grammar.specs.declared.lines.LineFault.{LineFault}
use Rattle.swarm_input.specs.Held.{has_newline_in}
use Rattle.swarm_input.specs.Lines.{bytes_of, lines_of}
use Rattle.swarm_input.specs.Script.{in_text, meaning_at, most_bytes, read_on, reading, reading_at}
use Rattle.swarm_input.specs.declared.input.ScriptLine.{ScriptLine}
use Rattle.swarm_input.proofs.LinesOf.{lines_closed, meaning_within}
use Rattle.script_maker.specs.Draws.{draw, given, next_state, state_after}
use Rattle.script_maker.specs.Script.{by_zone, changed, drawn_line, drawn_lines, fail_line, failure, node_line, script_text, service_line, settle_line, sizes, update_line, wait_line}
use Rattle.script_maker.proofs.Drawing.{lines_more}

-- Texts that a reader comes through.

-- so many lines, none longer than 100 bytes; behind them the reading goes on
pub record IsRead (text : List ℕ) (lines : ℕ) : Type 0 where
  pub size : length text ≤ 100 * lines
  pub goes_on : (number before : ℕ) (more : List ℕ) → before + length text ≤ most_bytes →
      (reading_at number before (lines_of (text ++ more))).bad ≡ (reading_at (number + lines) (before + length text) (lines_of more)).bad

goes_on_by : (number before : ℕ) (line : ScriptLine) (more : List ScriptLine) (said : Result Line LineFault) → meaning_at before line ≡ in_text said →
    is_ok said ≡ true → (reading_at number before (line ∷ more)).bad ≡ (reading_at (number + 1) (before + length (bytes_of line)) more).bad
goes_on_by number before line more (Ok said) is ok =
    ap (λ m. (read_on number m (reading_at (number + 1) (before + length (bytes_of line)) more)).bad) is
goes_on_by number before line more (Err fault) is ok = absurd (cc ok)

one_line : (body : List ℕ) → has_newline_in body ≡ false → is_ok (meaning_of body) ≡ true → length (body ++ 10 ∷ []) ≤ 100 → IsRead (body ++ 10 ∷ []) 1
one_line body none ok size = record {
  size = omega (arith, size);
  goes_on = λ number before more within.
      let line : ScriptLine = record { text = body; newline = true } in
      ap (λ l. (reading_at number before (lines_of l)).bad) (append_assoc body (10 ∷ []) more)
      ∙ ap (λ ls. (reading_at number before ls).bad) (lines_closed body more none)
      ∙ goes_on_by number before line (lines_of more) (meaning_of body)
      (meaning_within before line (omega (arith, size, length-append body (10 ∷ []))) within) ok;
}

abbrev pub body_of : List ℕ → List ℕ
body_of text = take (length text - 1) text

-- a line with its newline, short and in the grammar
abbrev pub is_good : List ℕ → Bool
is_good text =
    bytes_eq text (body_of text ++ 10 ∷ [])
    && (not (has_newline_in (body_of text)) && (is_ok (meaning_of (body_of text)) && nat_le (length text) 100))

is_not : (b : Bool) → not b ≡ true → b ≡ false
is_not true e = absurd (cc e)
is_not false e = refl

one : (text : List ℕ) → is_good text ≡ true → IsRead text 1
one text e =
    let body = body_of text in
    let p = both_are (bytes_eq text (body ++ 10 ∷ [])) (not (has_newline_in body) && (is_ok (meaning_of body) && nat_le (length text) 100)) e in
    let q = both_are (not (has_newline_in body)) (is_ok (meaning_of body) && nat_le (length text) 100) p.1 in
    let r = both_are (is_ok (meaning_of body)) (nat_le (length text) 100) q.1 in
    let is : text ≡ body ++ 10 ∷ [] = (bytes_eq-Decides text (body ++ 10 ∷ [])).0 p.0 in
    let short : length text ≤ 100 = grind (arith, nat_tests, r.1) in
    subst (λ t. IsRead t 1) (sym is)
    (one_line body (is_not (has_newline_in body) q.0) r.0 (subst (λ (t : List ℕ). length t ≤ 100) is short))

two : (first second : List ℕ) (m n : ℕ) → IsRead first m → IsRead second n → IsRead (first ++ second) (m + n)
two first second m n a b =
    let sum : length (first ++ second) ≡ length first + length second = length-append first second in
    record {
      size = omega (arith, a.size, b.size, sum);
      goes_on = λ number before more within.
          let near : before + length first ≤ most_bytes = omega (arith, within, sum) in
          let whole : before + length first + length second ≤ most_bytes = omega (arith, within, sum) in
          let lines : number + m + n ≡ number + (m + n) = omega arith in
          let bytes : before + length first + length second ≡ before + length (first ++ second) = omega (arith, sum) in
          ap (λ l. (reading_at number before (lines_of l)).bad) (append_assoc first second more)
          ∙ a.goes_on number before (second ++ more) near
          ∙ b.goes_on (number + m) (before + length first) more whole
          ∙ ap (λ k. (reading_at k (before + length first + length second) (lines_of more)).bad) lines
          ∙ ap (λ k. (reading_at (number + (m + n)) k (lines_of more)).bad) bytes;
    }

none_yet : IsRead [] 0
none_yet = record {
  size = omega arith;
  goes_on = λ number before more within.
      let lines : number ≡ number + 0 = omega arith in
      let bytes : before ≡ before + 0 = omega arith in
      ap (λ k. (reading_at k before (lines_of more)).bad) lines ∙ ap (λ k. (reading_at (number + 0) k (lines_of more)).bad) bytes;
}

read_whole : (text : List ℕ) (lines : ℕ) → IsRead text lines → 100 * lines ≤ most_bytes → (reading text).bad ≡ None
read_whole text lines h few =
    ap (λ l. (reading l).bad) (sym (append-nil text)) ∙ h.goes_on 1 0 [] (omega (arith, h.size, few))

-- Whatever is drawn.

abbrev pub all_below : (ℕ → Bool) → ℕ → Bool
all_below p zero = true
all_below p (suc n) = p n && all_below p n

below_next : (p : ℕ → Bool) (n v : ℕ) → p n ≡ true → (v < n → p v ≡ true) → v < suc n → (less : Bool) → nat_lt v n ≡ less → p v ≡ true
below_next p n v top below h true is = below (grind (arith, nat_tests, is))
below_next p n v top below h false is =
    let same : n ≡ v = grind (arith, nat_tests, is, h) in
    subst (λ m. p m ≡ true) same top

of_below : (p : ℕ → Bool) (n v : ℕ) → all_below p n ≡ true → v < n → p v ≡ true
of_below p zero v e h = absurd (omega (arith, h))
of_below p (suc n) v e h =
    let parts = both_are (p n) (all_below p n) e in
    below_next p n v parts.0 (of_below p n v parts.1) h (nat_lt v n) refl

-- so many lines of a kind, with all that may be drawn for them
abbrev pub all_good : (ℕ → ℕ → ℕ → List ℕ) → ℕ → ℕ → ℕ → Bool
all_good line a b count = all_below (λ i. all_below (λ x. all_below (λ y. is_good (line (suc i) x y)) b) a) count

drawn : (line : ℕ → ℕ → ℕ → List ℕ) (a b x : ℕ) → 0 < a → 0 < b → (count : ℕ) → all_good line a b count ≡ true → IsRead (drawn_lines line a b x count) count
unfolding drawn_lines
drawn line a b x some_a some_b zero e = none_yet
drawn line a b x some_a some_b (suc k) e =
    let test = λ (i : ℕ). all_below (λ y. all_below (λ z. is_good (line (suc i) y z)) b) a in
    let parts = both_are (test k) (all_below test k) e in
    let v = draw x (2 * suc k - 1) a in
    let w = draw x (2 * suc k) b in
    let good : is_good (line (suc k) v w) ≡ true =
    of_below (λ z. is_good (line (suc k) v z)) b w
    (of_below (λ y. all_below (λ z. is_good (line (suc k) y z)) b) a v parts.0 (mod-lt _ some_a)) (mod-lt _ some_b) in
    let count : k + 1 ≡ suc k = omega arith in
    subst (λ t. IsRead t (suc k)) (sym (lines_more line a b x k))
    (subst (λ n. IsRead (drawn_lines line a b x k ++ drawn_line line a b x (suc k)) n) count
    (two (drawn_lines line a b x k) (drawn_line line a b x (suc k)) k 1 (drawn line a b x some_a some_b k parts.1) (one (line (suc k) v w) good)))

nodes_good : all_good node_line 7 4 20 ≡ true
unfolding digits
nodes_good = refl

services_good : all_good service_line 5 6 50 ≡ true
unfolding digits by_zone sizes
services_good = refl

updates_good : all_good update_line 5 6 10 ≡ true
unfolding digits by_zone changed sizes
updates_good = refl

fails_good : all_below (λ node. is_good (fail_line node)) 20 ≡ true
unfolding digits
fails_good = refl

short_wait : is_good (wait_line 1000) ≡ true
unfolding digits wait_line
short_wait = refl

long_wait : is_good (wait_line 30000) ≡ true
unfolding digits wait_line
long_wait = refl

settle_good : is_good settle_line ≡ true
unfolding settle_line
settle_good = refl

list_good : is_good (codes "list services\n") ≡ true
list_good = refl

fails : (node : ℕ) → node < 20 → IsRead (failure node) 5
fails node h =
    let first = wait_line 30000 in
    let second = first ++ fail_line node in
    let third = second ++ wait_line 30000 in
    let fourth = third ++ settle_line in
    two fourth (codes "list services\n") 4 1
    (two third settle_line 3 1
    (two second (wait_line 30000) 2 1
    (two first (fail_line node) 1 1 (one first long_wait) (one (fail_line node) (of_below (λ n. is_good (fail_line n)) 20 node fails_good h)))
    (one first long_wait))
    (one settle_line settle_good))
    (one (codes "list services\n") list_good)

-- a script is read to its end
pub script_is_read : (number : ℕ) → (reading (script_text number)).bad ≡ None
script_is_read number =
    let after = state_after 40 number in
    let late = state_after 100 after in
    let last = state_after 20 late in
    let node = given (next_state last) 20 in
    let nodes = drawn_lines node_line 7 4 number 20 in
    let services = drawn_lines service_line 5 6 after 50 in
    let updates = drawn_lines update_line 5 6 late 10 in
    let first = nodes ++ settle_line in
    let second = first ++ services in
    let third = second ++ wait_line 1000 in
    let fourth = third ++ updates in
    let one_part : IsRead first 21 =
    two nodes settle_line 20 1 (drawn node_line 7 4 number (omega arith) (omega arith) 20 nodes_good) (one settle_line settle_good) in
    let two_parts : IsRead second 71 =
    two first services 21 50 one_part (drawn service_line 5 6 after (omega arith) (omega arith) 50 services_good) in
    let three_parts : IsRead third 72 = two second (wait_line 1000) 71 1 two_parts (one (wait_line 1000) short_wait) in
    let four_parts : IsRead fourth 82 =
    two third updates 72 10 three_parts (drawn update_line 5 6 late (omega arith) (omega arith) 10 updates_good) in
    read_whole (script_text number) 87 (two fourth (failure node) 82 5 four_parts (fails node (mod-lt _ (omega arith)))) (omega arith)

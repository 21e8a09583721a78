-- What is seen of the next line in the held bytes.
use Rattle.std.proofs.Common.{◌≡◌, ℕ, zero, suc, ◌+◌, ◌<◌, ◌≤◌, List, [], ◌∷◌, ◌++◌, length, take, drop, Bool, true, false, cond, not, ◌||◌, refl, Option, Some, None, Err, arith, append_assoc, ◌∙◌, ap, sym, subst, nat_lt}
use Rattle.std.specs.List.{position, position_or_len}
use Rattle.std.specs.Io.KnownBytes.{prepend_known}
use Rattle.std.proofs.lemmas.Bool.Decides.{nat_tests}
use Rattle.std.proofs.lemmas.List.{take_all, take-append-drop, length-take, length-append}
use Rattle.script_grammar.specs.declared.lines.LineFault.TheVariants.{Long}
use Rattle.swarm_input.specs.Lines.{is_newline, lines_of, bytes_of}
use Rattle.swarm_input.specs.Script.{meaning_at}
use Rattle.swarm_input.specs.Held.{IsNewlineAt, has_newline_in}
use Rattle.swarm_input.specs.LineBuffer.{BeginsBad, IsBadNext, IsLineAt}
use Rattle.swarm_input.specs.declared.faults.Fault.{Fault}
use Rattle.swarm_input.specs.declared.faults.Fault.TheVariants.{Size, Text}
use Rattle.swarm_input.proofs.LinesOf.{lines_closed, begins_long, BeginsLong, meaning_long, meaning_beyond, text_in_bytes}

-- Where the first newline stands.

one_more : (n : ℕ) → suc n ≡ 1 + n
one_more n = omega arith

none_after_one : (b n : ℕ) (bytes : List ℕ) (t : Bool) → is_newline b ≡ t → has_newline_in (take n bytes) ≡ false → has_newline_in (take (cond (not t) (1 + n) 0) (b ∷ bytes)) ≡ false
none_after_one b n bytes true e h = refl
none_after_one b n bytes false e h = subst (λ m. has_newline_in (take m (b ∷ bytes)) ≡ false) (one_more n) (ap (λ (t : Bool). t || has_newline_in (take n bytes)) e ∙ h)

none_before : (bytes : List ℕ) → has_newline_in (take (position_or_len is_newline bytes) bytes) ≡ false
none_before [] = refl
none_before (b ∷ bytes) = none_after_one b (position_or_len is_newline bytes) bytes (is_newline b) refl (none_before bytes)

ten : (b : ℕ) → is_newline b ≡ true → b ≡ 10
ten b e = grind (arith, nat_tests)

there_after_one : (b n : ℕ) (bytes : List ℕ) (t : Bool) → is_newline b ≡ t → (n < length bytes → bytes ≡ take n bytes ++ 10 ∷ drop (suc n) bytes) → cond (not t) (1 + n) 0 < length (b ∷ bytes) →
    b ∷ bytes ≡ take (cond (not t) (1 + n) 0) (b ∷ bytes) ++ 10 ∷ drop (suc (cond (not t) (1 + n) 0)) (b ∷ bytes)
there_after_one b n bytes true e h inside = ap (λ c. c ∷ bytes) (ten b e)
there_after_one b n bytes false e h inside = subst (λ m. b ∷ bytes ≡ take m (b ∷ bytes) ++ 10 ∷ drop (suc m) (b ∷ bytes)) (one_more n) (ap (λ cs. b ∷ cs) (h (omega arith)))

there : (bytes : List ℕ) → position_or_len is_newline bytes < length bytes →
    bytes ≡ take (position_or_len is_newline bytes) bytes ++ 10 ∷ drop (suc (position_or_len is_newline bytes)) bytes
there [] inside = absurd (omega arith)
there (b ∷ bytes) inside = there_after_one b (position_or_len is_newline bytes) bytes (is_newline b) refl (there bytes) inside

same_after_one : (m n k : ℕ) (t : Bool) → (n < k → m ≡ n) → cond (not t) (1 + n) 0 < suc k → cond (not t) (1 + m) 0 ≡ cond (not t) (1 + n) 0
same_after_one m n k true h inside = refl
same_after_one m n k false h inside = ap (λ i. 1 + i) (h (omega arith))

-- the first newline of some first bytes is that of all bytes
same_place : (n : ℕ) (bytes : List ℕ) → position_or_len is_newline (take n bytes) < length (take n bytes) → position_or_len is_newline bytes ≡ position_or_len is_newline (take n bytes)
same_place zero bytes inside = absurd (omega arith)
same_place (suc n) [] inside = refl
same_place (suc n) (b ∷ bytes) inside =
    same_after_one (position_or_len is_newline bytes) (position_or_len is_newline (take n bytes)) (length (take n bytes)) (is_newline b) (same_place n bytes) inside

some_place : (t : Bool) (n i : ℕ) → cond t (Some n) None ≡ Some i → (t ≡ true) × (n ≡ i)
some_place true n i e = (refl, cc)
some_place false n i e = cc

no_place : (t : Bool) (n : ℕ) → cond t (Some n) None ≡ None → t ≡ false
no_place true n e = cc
no_place false n e = refl

-- no newline is seen
pub unseen : (bytes : List ℕ) → position is_newline bytes ≡ None → has_newline_in bytes ≡ false
unseen bytes e =
    let out = no_place (nat_lt (position_or_len is_newline bytes) (length bytes)) (position_or_len is_newline bytes) e in
    let past : length bytes ≤ position_or_len is_newline bytes = grind (arith, nat_tests, out) in
    subst (λ l. has_newline_in l ≡ false) (take_all (position_or_len is_newline bytes) bytes past) (none_before bytes)

record SeenAt (n at : ℕ) (bytes : List ℕ) : Type 0 where
  inside : at < length bytes
  short : at < n
  place : position_or_len is_newline bytes ≡ at

seen_at : (n at : ℕ) (bytes : List ℕ) → position is_newline (take n bytes) ≡ Some at → SeenAt n at bytes
seen_at n at bytes e =
    let front = take n bytes in
    let found = some_place (nat_lt (position_or_len is_newline front) (length front)) (position_or_len is_newline front) at e in
    let inside : position_or_len is_newline front < length front = grind (arith, nat_tests, found.0) in
    record {
      inside = omega (arith, length-take n bytes, found.1, inside);
      short = omega (arith, length-take n bytes, found.1, inside);
      place = same_place n bytes inside ∙ found.1;
    }

newline_where : (at : ℕ) (bytes : List ℕ) → position_or_len is_newline bytes ≡ at → at < length bytes → IsNewlineAt bytes at
newline_where at bytes place inside =
    let next : suc at ≡ at + 1 = omega arith in
    record {
      inside = inside;
      newline = subst (λ n. bytes ≡ take at bytes ++ 10 ∷ drop n bytes) next (subst (λ n. bytes ≡ take n bytes ++ 10 ∷ drop (suc n) bytes) place (there bytes (omega (arith, place, inside))));
      one = subst (λ n. has_newline_in (take n bytes) ≡ false) place (none_before bytes);
    }

-- a newline is seen
pub newline_at : (at : ℕ) (bytes : List ℕ) → position is_newline bytes ≡ Some at → IsNewlineAt bytes at
newline_at at bytes e =
    let place = position_or_len is_newline bytes in
    let found = some_place (nat_lt place (length bytes)) place at e in
    let inside : place < length bytes = grind (arith, nat_tests, found.0) in
    newline_where at bytes found.1 (omega (arith, found.1, inside))

-- a newline is seen that ends a line within the limits
pub seen : (read at : ℕ) (bytes : List ℕ) → position is_newline (take 8193 bytes) ≡ Some at → read + at < 16777216 → IsLineAt (record { bytes = bytes; read = read; finished = false }) at
seen read at bytes e within =
    let found = seen_at 8193 at bytes e in
    record {
      ends = newline_where at bytes found.place found.inside;
      short = omega (arith, found.short);
      within = omega arith;
    }

-- What is outside the grammar.

pub closed_size : (text : List ℕ) → length (bytes_of (record { text = text; newline = true })) ≡ length text + 1
closed_size text = omega (arith, length-append text (10 ∷ []))

-- the line up to the first newline, and the others
pub lines_at : (at : ℕ) (bytes more : List ℕ) → IsNewlineAt bytes at →
    lines_of (bytes ++ more) ≡ record { text = take at bytes; newline = true } ∷ lines_of (drop (at + 1) bytes ++ more)
lines_at at bytes more ends =
    let text = take at bytes in
    ap (λ (l : List ℕ). lines_of (l ++ more)) ends.newline ∙ ap lines_of (append_assoc text (10 ∷ drop (at + 1) bytes) more) ∙ lines_closed text (drop (at + 1) bytes ++ more) ends.one

-- a newline is seen, of a line beyond the script's limit
beyond_closed : (read at : ℕ) (bytes more : List ℕ) → IsLineAt (record { bytes = bytes; read = 0; finished = false }) at → 16777216 ≤ read + at → IsBadNext read (bytes ++ more) Size
beyond_closed read at bytes more line far =
    let text = take at bytes in
    let size : length text ≡ at = omega (arith, length-take at bytes, line.ends.inside) in
    record {
      line = record { text = text; newline = true };
      more = lines_of (drop (at + 1) bytes ++ more);
      lines = lines_at at bytes more line.ends;
      meaning = meaning_beyond read (record { text = text; newline = true }) (λ h. omega (arith, size, line.short)) (omega (arith, closed_size text, size));
    }

pub beyond_seen : (read at : ℕ) (bytes : List ℕ) → position is_newline (take 8193 bytes) ≡ Some at → 16777216 ≤ read + at → (left : Option (List ℕ)) →
    BeginsBad read (prepend_known bytes left) Size
beyond_seen read at bytes e far None = tt
beyond_seen read at bytes e far (Some more) = beyond_closed read at bytes more (seen 0 at bytes e (omega (arith, (seen_at 8193 at bytes e).short))) far

-- the held bytes begin with a text without newline, by which their line is outside the grammar
bad_open : (read : ℕ) (bytes front rest more : List ℕ) (fault : Fault) → bytes ≡ front ++ rest → (long : BeginsLong (length front) (front ++ (rest ++ more))) → meaning_at read long.line ≡ Err fault →
    IsBadNext read (bytes ++ more) fault
bad_open read bytes front rest more fault parts long meaning = record {
  line = long.line;
  more = long.more;
  lines = ap (λ (l : List ℕ). lines_of (l ++ more)) parts ∙ ap lines_of (append_assoc front rest more) ∙ long.lines;
  meaning = meaning;
}

-- the line is too long
pub long_held : (read : ℕ) (bytes front rest : List ℕ) → bytes ≡ front ++ rest → has_newline_in front ≡ false → 8193 ≤ length front → read + 8193 ≤ 16777217 → (left : Option (List ℕ)) →
    BeginsBad read (prepend_known bytes left) (Text Long)
long_held read bytes front rest parts none long near None = tt
long_held read bytes front rest parts none long near (Some more) =
    let line = begins_long front (rest ++ more) none (omega arith) in
    bad_open read bytes front rest more (Text Long) parts line (meaning_long read line.line (omega (arith, line.size)) near)

-- the line goes beyond the script's limit
pub beyond_held : (read : ℕ) (bytes front rest : List ℕ) → bytes ≡ front ++ rest → has_newline_in front ≡ false → read ≤ 16777216 → 16777216 < read + length front → 16777217 < read + 8193 → (left : Option (List ℕ)) →
    BeginsBad read (prepend_known bytes left) Size
beyond_held read bytes front rest parts none some beyond far None = tt
beyond_held read bytes front rest parts none some beyond far (Some more) =
    let line = begins_long front (rest ++ more) none (omega arith) in
    bad_open read bytes front rest more Size parts line (meaning_beyond read line.line (λ h. far) (omega (arith, line.size, text_in_bytes line.line)))

-- The bytes of a whole are its first ones and the others.
pub parts_at : (n : ℕ) (bytes : List ℕ) → bytes ≡ take n bytes ++ drop n bytes
parts_at n bytes = sym (take-append-drop n bytes)

pub front_size : (n : ℕ) (bytes : List ℕ) → n ≤ length bytes → length (take n bytes) ≡ n
front_size n bytes h = omega (arith, length-take n bytes)

pub front_all : (n : ℕ) (bytes : List ℕ) → length bytes ≤ n → has_newline_in (take n bytes) ≡ false → has_newline_in bytes ≡ false
front_all n bytes h none = subst (λ l. has_newline_in l ≡ false) (take_all n bytes h) none

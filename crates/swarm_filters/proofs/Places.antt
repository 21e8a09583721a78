-- The bytes between two places.
use Rattle.std.proofs.Common.{◌≡◌, ℕ, suc, ◌+◌, ◌-◌, ◌<◌, ◌≤◌, List, [], ◌∷◌, ◌++◌, length, get_or, take, drop, sym, ap, ◌∙◌, arith, length-drop}
use Rattle.std.specs.Prelude.{slice_index, nat_eq}
use Rattle.std.specs.Char.{to_ascii_lowercase}
use Rattle.std.specs.List.{starts_with}
use Rattle.std.specs.Str.{bytes_eq, str_to_ascii_lowercase}
use Rattle.std.proofs.Math.Seq.{take-suc}
use Rattle.std.proofs.lemmas.List.{get_or-drop, map-append, length-map, take-map}
use Rattle.swarm_filters.specs.Inside.States.{part}

pub part-next : (text : List ℕ) (from end : ℕ) → from ≤ end → end < length text → part text from (end + 1) ≡ part text from end ++ slice_index text end ∷ []
part-next text from end order below =
    let size : end + 1 - from ≡ suc (end - from) = omega arith in
    let place : from + (end - from) ≡ end = omega arith in
    let rest : length (drop from text) ≡ length text - from = length-drop from text in
    let here : end - from < length (drop from text) = omega arith in
    ap (λ n. take n (drop from text)) size
    ∙ take-suc (drop from text) (end - from) 0 here
    ∙ ap (λ b. take (end - from) (drop from text) ++ b ∷ []) (get_or-drop from text (end - from) 0 ∙ ap (λ n. get_or text n 0) place)

pub lower_part-next : (text : List ℕ) (from end : ℕ) → from ≤ end → end < length text → str_to_ascii_lowercase (part text from (end + 1)) ≡ str_to_ascii_lowercase (part text from end) ++ to_ascii_lowercase (slice_index text end) ∷ []
lower_part-next text from end order below =
    ap str_to_ascii_lowercase (part-next text from end order below) ∙ map-append to_ascii_lowercase (part text from end) (slice_index text end ∷ [])

pub part-none : (text : List ℕ) (end : ℕ) → part text end end ≡ []
part-none text end =
    let none : end - end ≡ 0 = omega arith in
    ap (λ n. take n (drop end text)) none

pub part-one : (text : List ℕ) (end : ℕ) → end < length text → part text end (end + 1) ≡ slice_index text end ∷ []
part-one text end below =
    let order : end ≤ end = omega arith in
    part-next text end end order below ∙ ap (λ x. x ++ slice_index text end ∷ []) (part-none text end)

pub ruleset place_steps = (part-next, lower_part-next, part-none, part-one)

-- whether a word in small letters begins with the bytes
pub starts_with-small : (word bytes : List ℕ) → str_to_ascii_lowercase word ≡ word → bytes_eq (str_to_ascii_lowercase bytes) (str_to_ascii_lowercase (take (length bytes) word)) ≡ starts_with nat_eq word (str_to_ascii_lowercase bytes)
starts_with-small word bytes small =
    ap (λ x. bytes_eq (str_to_ascii_lowercase bytes) x) (sym (take-map to_ascii_lowercase (length bytes) word) ∙ ap (λ w. take (length bytes) w) small ∙ ap (λ n. take n word) (sym (length-map bytes to_ascii_lowercase)))

-- A text that stands between a front and a newline.
use Rattle.std.specs.Prelude.{ℕ, ◌-◌, List, length, take, drop}

-- without so many bytes at the front, and without the last one
abbrev pub inner : ℕ → List ℕ → List ℕ
inner front line = take (length line - 1 - front) (drop front line)

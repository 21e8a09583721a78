use Rattle.std.proofs.Common.{◌≡◌, ◌++◌, drop, string_bytes}
use Rattle.script_writer.specs.Behind.{number_rows, rows_text}
use Rattle.script_writer.proofs.rows.put_numbers.Given as goal

abbrev pub invariant-loop-row : goal.invariant-loop-row
invariant-loop-row l =
    string_bytes l.text ++ rows_text (number_rows l.table (drop l.row-index l.numbers)) ≡ string_bytes l.initial.text ++ rows_text (number_rows l.table l.numbers)

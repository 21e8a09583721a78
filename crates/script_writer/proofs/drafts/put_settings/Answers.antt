use Rattle.std.proofs.Common.{◌++◌, ◌∙◌, List, ℕ, ap, string_bytes, sym}
use Rattle.script_grammar.specs.Pieces.{settings_pieces}
use Rattle.script_writer.proofs.Fronts.{ok_then, rows_behind}
use Rattle.script_writer.proofs.drafts.put_settings.Goals as goal

pub returns : goal.returns
returns c =
    let t0 : List ℕ = string_bytes c.args.text.now in
    ok_then c.put_numbers.result c.put_numbers.ensures (λ e.
    e ∙ ap (λ t. t0 ++ t) (sym (rows_behind (settings_pieces c.args.settings.now))))

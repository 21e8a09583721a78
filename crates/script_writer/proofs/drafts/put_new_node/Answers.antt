use Rattle.std.proofs.Common.{◌++◌, ◌∙◌, List, ℕ, ap, string_bytes, sym}
use Rattle.script_grammar.specs.Pieces.{old_node_pieces}
use Rattle.script_writer.specs.Behind.{rows_text}
use Rattle.script_writer.proofs.Fronts.{front, node_behind, ok_then}
use Rattle.script_writer.proofs.drafts.put_new_node.Goals as goal

pub returns : goal.returns
returns c =
    let t0 : List ℕ = string_bytes c.args.text.now in
    let t1 : List ℕ = string_bytes c.put_status.new.text in
    ok_then c.put_machine.result c.put_machine.ensures (λ e.
    e
    ∙ front t0 t1 _ _ (c.in_ok-put_status.ensures ∙ ap (λ (ls : List (List ℕ × List ℕ)). t0 ++ rows_text (old_node_pieces ls c.args.draft.now.role c.args.draft.now.availability)) c.as_slice.ensures)
    ∙ ap (λ t. t0 ++ t) (sym (node_behind c.args.draft.now)))

use Rattle.std.proofs.Common.{◌++◌, ◌∷◌, List, ℕ, ap, codes, refl, string_bytes, sym}
use Rattle.script_grammar.specs.Pieces.{old_node_pieces}
use Rattle.script_grammar.specs.Texts.{pieces_words, version_words}
use Rattle.script_writer.proofs.Fronts.{ok_then, then_named, then_words}
use Rattle.script_writer.proofs.operations.put_node_update.Goals as goal

pub returns : goal.returns
returns c =
    let t0 : List ℕ = string_bytes c.args.text.now in
    let t1 : List ℕ = string_bytes c.put_words.new.text in
    let t2 : List ℕ = string_bytes c.put_version.new.text in
    let t3 : List ℕ = string_bytes c.put_old_node.new.text in
    let version : List (List ℕ) = version_words c.args.version in
    let fields : List (List ℕ) = pieces_words (old_node_pieces c.as_slice.result.now c.args.role c.args.availability) in
    let labels = ap (λ ls. codes "node" ∷ codes "update" ∷ c.args.name.now ∷ (version ++ pieces_words (old_node_pieces ls c.args.role c.args.availability))) (sym c.as_slice.ensures) in
    ok_then c.put_old_node.result c.put_old_node.ensures (λ d.
    then_named t0 t1 t3 (codes "node") (codes "update") c.as_str.result.now c.args.name.now (version ++ fields) _
    c.in_ok-put_words.ensures c.as_str.ensures labels
    (then_words t1 t2 t3 version fields (version ++ fields) c.in_ok-put_version.ensures refl d))

use Rattle.std.proofs.Common.{◌∷◌, [], ap, codes, string_bytes}
use Rattle.script_grammar.specs.Pieces.{service_pieces, settings_pieces}
use Rattle.script_grammar.specs.Texts.{force_words, op_words, pieces_words, version_words}
use Rattle.script_writer.proofs.Fronts.{ok_then, then_named, then_words}
use Rattle.script_writer.proofs.operations.put_op.Goals as goal

pub returns-in_ok-put_words-in-RemoveNode : goal.returns-in_ok-put_words-in-RemoveNode
returns-in_ok-put_words-in-RemoveNode c = ok_then c.put_force.result c.put_force.ensures (λ d.
    then_named (string_bytes c.args.text.now) (string_bytes c.put_words-in-RemoveNode.new.text) (string_bytes c.put_force.new.text) (codes "node") (codes "remove") c.as_str-in-RemoveNode.result.now c.in-RemoveNode.name
    (force_words c.in-RemoveNode.force) (op_words c.args.op.now) c.in_ok-put_words-in-RemoveNode.ensures c.as_str-in-RemoveNode.ensures (ap op_words c.in-RemoveNode.is) d)

pub returns-in_ok-put_words-in-CreateService : goal.returns-in_ok-put_words-in-CreateService
returns-in_ok-put_words-in-CreateService c = ok_then c.put_service.result c.put_service.ensures (λ d.
    then_named (string_bytes c.args.text.now) (string_bytes c.put_words-in-CreateService.new.text) (string_bytes c.put_service.new.text) (codes "service") (codes "create") c.as_str-in-CreateService.result.now c.in-CreateService.name
    (pieces_words (service_pieces c.in-CreateService.draft)) (op_words c.args.op.now) c.in_ok-put_words-in-CreateService.ensures c.as_str-in-CreateService.ensures (ap op_words c.in-CreateService.is) d)

pub returns-in_ok-put_words-in-RollbackService : goal.returns-in_ok-put_words-in-RollbackService
returns-in_ok-put_words-in-RollbackService c = ok_then c.put_version.result c.put_version.ensures (λ d.
    then_named (string_bytes c.args.text.now) (string_bytes c.put_words-in-RollbackService.new.text) (string_bytes c.put_version.new.text) (codes "service") (codes "rollback") c.as_str-in-RollbackService.result.now c.in-RollbackService.name
    (version_words c.in-RollbackService.version) (op_words c.args.op.now) c.in_ok-put_words-in-RollbackService.ensures c.as_str-in-RollbackService.ensures (ap op_words c.in-RollbackService.is) d)

pub returns-in_ok-put_words-in-SetCluster : goal.returns-in_ok-put_words-in-SetCluster
returns-in_ok-put_words-in-SetCluster c = ok_then c.put_settings.result c.put_settings.ensures (λ d.
    then_words (string_bytes c.args.text.now) (string_bytes c.put_words-in-SetCluster.new.text) (string_bytes c.put_settings.new.text) (codes "cluster" ∷ codes "set" ∷ [])
    (pieces_words (settings_pieces c.in-SetCluster.settings)) (op_words c.args.op.now) c.in_ok-put_words-in-SetCluster.ensures (ap op_words c.in-SetCluster.is) d)

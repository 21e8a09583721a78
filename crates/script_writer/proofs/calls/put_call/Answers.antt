use Rattle.std.proofs.Common.{◌++◌, ◌∷◌, [], ◌∙◌, ap, codes, decimal, string_bytes, sym}
use Rattle.swarm_objects.specs.Values.Texts.{state_text}
use Rattle.script_grammar.specs.Pieces.{session_pieces}
use Rattle.script_grammar.specs.Texts.{call_words, filter_text, id_words, pieces_words}
use Rattle.script_writer.specs.Behind.{behind, ops_text}
use Rattle.script_writer.proofs.Fronts.{ok_then, ops_behind, then_named}
use Rattle.script_writer.proofs.calls.put_call.Goals as goal

pub returns-in-Txn : goal.returns-in-Txn
returns-in-Txn c = ok_then c.put_ops.result c.put_ops.ensures (λ d.
    d ∙ ap (λ os. string_bytes c.args.text.now ++ ops_text os) c.as_slice.ensures
    ∙ ap (λ t. string_bytes c.args.text.now ++ t) (ops_behind c.in-Txn.ops ∙ sym (ap (λ x. behind (call_words x)) c.in-Txn.is)))

pub returns-in_ok-put_words-in-WatchBegin : goal.returns-in_ok-put_words-in-WatchBegin
returns-in_ok-put_words-in-WatchBegin c = ok_then c.put_id.result c.put_id.ensures (λ d.
    then_named (string_bytes c.args.text.now) (string_bytes c.put_words.new.text) (string_bytes c.put_id.new.text) (codes "watch") (codes "open") c.filter_text.result.now (filter_text c.in-WatchBegin.filter.kind)
    (id_words c.in-WatchBegin.filter.id) (call_words c.args.call.now) c.in_ok-put_words-in-WatchBegin.ensures c.filter_text.ensures (ap call_words c.in-WatchBegin.is) d)

pub returns-in_ok-put_words-in-RemoteBegin : goal.returns-in_ok-put_words-in-RemoteBegin
returns-in_ok-put_words-in-RemoteBegin c = ok_then c.put_resources.result c.put_resources.ensures (λ d.
    then_named (string_bytes c.args.text.now) (string_bytes c.put_words-in-RemoteBegin.new.text) (string_bytes c.put_resources.new.text) (codes "remote") (codes "open") c.as_str-in-RemoteBegin.result.now c.in-RemoteBegin.name
    (pieces_words (session_pieces c.in-RemoteBegin.cpu c.in-RemoteBegin.mem)) (call_words c.args.call.now) c.in_ok-put_words-in-RemoteBegin.ensures c.as_str-in-RemoteBegin.ensures (ap call_words c.in-RemoteBegin.is) d)

pub returns-in_ok-put_words-in-RemoteStatus : goal.returns-in_ok-put_words-in-RemoteStatus
returns-in_ok-put_words-in-RemoteStatus c = ok_then c.put_report.result c.put_report.ensures (λ d.
    then_named (string_bytes c.args.text.now) (string_bytes c.put_words-in-RemoteStatus.new.text) (string_bytes c.put_report.new.text) (codes "remote") (codes "status") c.as_str-in-RemoteStatus.result.now c.in-RemoteStatus.name
    (decimal c.in-RemoteStatus.session ∷ decimal c.in-RemoteStatus.task ∷ state_text c.in-RemoteStatus.state ∷ []) (call_words c.args.call.now) c.in_ok-put_words-in-RemoteStatus.ensures c.as_str-in-RemoteStatus.ensures (ap call_words c.in-RemoteStatus.is) d)

use Rattle.std.proofs.Common.{◌++◌, ◌∙◌, ap, decimal, string_bytes}
use Rattle.script_writer.proofs.Fronts.{line_whole}
use Rattle.script_writer.proofs.entries.line_of.Goals as goal

pub returns : goal.returns
returns c =
    c.from_vec.ensures ∙ ap (λ v. v.items) c.into_bytes.ensures.value
    ∙ line_whole c.args.entry.now (string_bytes c.write.new.self) (string_bytes c.put_what.new.text) (string_bytes c.push_str.new.self)
    (c.in_ok-write.ensures.bytes ∙ ap (λ t. t ++ decimal c.args.entry.now.by) c.in_ok-text.ensures.bytes)
    c.in_ok-put_what.ensures c.in_ok-push_str.ensures.bytes

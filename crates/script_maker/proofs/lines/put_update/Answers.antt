use Rattle.std.proofs.Common.{◌++◌, codes, decimal, string_bytes}
use Rattle.script_maker.specs.Script.{changed, sizes}
use Rattle.script_maker.proofs.Drawing.{behind}
use Rattle.script_maker.proofs.lines.put_update.Goals as goal

pub returns : goal.returns
returns c =
    behind c.put_changed.result (string_bytes c.args.text.now) (string_bytes c.put_updated.new.text) (string_bytes c.put_sizes.new.text)
    (string_bytes c.put_changed.new.text) (codes "service update s" ++ decimal c.args.i) (sizes c.args.more c.args.size) changed
    c.in_ok-put_updated.ensures c.in_ok-put_sizes.ensures c.put_changed.ensures

use Rattle.std.proofs.Common.{ap, length, rules, ◌+◌, ◌∙◌, ◌≡◌}
use Rattle.std.specs.Result.{is_ok}
use Rattle.swarm_index.proofs.PageSteps.{pushed_pages, pushed_rows}
use Rattle.swarm_index.specs.Inside.Boxes.{unpaged}
use Rattle.swarm_index.proofs.boxes.lengthen.Goals as goal

pub loop-key-preserved : goal.loop-key-preserved
loop-key-preserved g c =
    let long : length c.push.new.self.items ≡ c.loop-key.key + 1 = search rules in (
      long,
      pushed_rows c.loop-key.pages.items c.push.new.self.items (is_ok c.push.result) c.push.ensures.items ∙ c.loop-key.invariant.1,
      λ are. pushed_pages c.loop-key.pages.items c.push.new.self.items (is_ok c.push.result) c.push.ensures.items (c.loop-key.invariant.2 are),
    )

pub returns-then-is_err-2-clause-rows : goal.returns-then-is_err-2-clause-rows
returns-then-is_err-2-clause-rows g c = pushed_rows c.loop-key.pages.items c.push.new.self.items (is_ok c.push.result) c.push.ensures.items ∙ c.loop-key.invariant.1 ∙ ap unpaged c.reserve.ensures.items

pub returns-then-is_err-2-clause-whole : goal.returns-then-is_err-2-clause-whole
returns-then-is_err-2-clause-whole g c = λ are. pushed_pages c.loop-key.pages.items c.push.new.self.items (is_ok c.push.result) c.push.ensures.items (c.loop-key.invariant.2 (rw c.reserve.ensures.items are))

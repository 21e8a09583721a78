use Rattle.std.proofs.Common.{◌≡◌, ◌∙◌, ◌*◌, ◌++◌, ap, subst, arith, string_bytes}
use Rattle.script_maker.specs.Draws.{state_after}
use Rattle.script_maker.specs.Script.{drawn_lines, service_line}
use Rattle.script_maker.proofs.Drawing.{drawn_more, lines_none, state_more, state_none}
use Rattle.script_maker.proofs.lines.put_services.Goals as goal

pub loop-done-preserved : goal.loop-done-preserved
loop-done-preserved c = record {
  puts = drawn_more service_line 5 6 c.args.state.now c.loop-done.done c.loop-done.state (string_bytes c.args.text.now)
      (string_bytes c.loop-done.text) (string_bytes c.add_service.new.text) c.loop-done.invariant.puts c.loop-done.invariant.state
      c.in_ok-add_service.ensures.puts;
  state = c.add_service.ensures.draws ∙ state_more c.args.state.now c.loop-done.done c.loop-done.state c.loop-done.invariant.state;
  bound = c.add_service.ensures.bound;
}

pub loop-done-init : goal.loop-done-init
loop-done-init c = record {
  puts = lines_none service_line 5 6 c.args.state.now (string_bytes c.args.text.now);
  state = state_none c.args.state.now;
  bound = c.requires;
}

pub returns-clause-puts : goal.returns-clause-puts
returns-clause-puts c =
    let end : c.loop-done.done ≡ 50 = omega arith in
    subst (λ n. string_bytes c.loop-done.text ≡ string_bytes c.args.text.now ++ drawn_lines service_line 5 6 c.args.state.now n) end
    c.loop-done.invariant.puts

pub returns-clause-draws : goal.returns-clause-draws
returns-clause-draws c =
    let end : 2 * c.loop-done.done ≡ 100 = omega arith in
    c.loop-done.invariant.state ∙ ap (λ n. state_after n c.args.state.now) end

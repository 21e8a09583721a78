use Rattle.std.proofs.Common.{◌≡◌, ◌+◌, length, take, Some, sym, ap, ◌∙◌, subst, arith}
use Rattle.swarm_filters.specs.Machine.{start, run_bytes, whole_of}
use Rattle.swarm_filters.specs.Inside.States.{OptionFits, OptionPartsFit, option_shown, option_whole, shown, whole_at}
use Rattle.swarm_filters.proofs.Texts.{read_more, fault_there, fault_cut, parts_read}
use Rattle.swarm_filters.proofs.constraint.read.Goals as goal

pub returns-in-None-clause-place : goal.returns-in-None-clause-place
returns-in-None-clause-place c =
    fault_there c.args.text.now c.loop-place.place (shown c.args.text.now c.loop-place.place c.loop-place.state) c.loop-place-test.true c.loop-place.invariant.reads
    (sym c.byte_step.ensures.shows ∙ ap (λ o. option_shown c.args.text.now (c.loop-place.place + 1) o) c.in-None.is)

pub loop-place-preserved : goal.loop-place-preserved
loop-place-preserved c = record {
  reads = read_more c.args.text.now c.loop-place.place (shown c.args.text.now c.loop-place.place c.loop-place.state) (shown c.args.text.now (c.loop-place.place + 1) c.in-Some.next) c.loop-place-test.true c.loop-place.invariant.reads
      (sym c.byte_step.ensures.shows ∙ ap (λ o. option_shown c.args.text.now (c.loop-place.place + 1) o) c.in-Some.is);
  fits = subst (λ o. OptionFits (c.loop-place.place + 1) o) c.in-Some.is c.byte_step.ensures.fits;
}

pub returns-in-Some-whole-clause-parts : goal.returns-in-Some-whole-clause-parts
returns-in-Some-whole-clause-parts c =
    let end : c.loop-place.place ≡ length c.args.text.now = omega arith in
    let reads : run_bytes start (take (length c.args.text.now) c.args.text.now) ≡ Some (shown c.args.text.now (length c.args.text.now) c.loop-place.state) = subst (λ n. run_bytes start (take n c.args.text.now) ≡ Some (shown c.args.text.now n c.loop-place.state)) end c.loop-place.invariant.reads in
    let whole : whole_of (shown c.args.text.now (length c.args.text.now) c.loop-place.state) ≡ Some (whole_at c.args.text.now c.in-Some-whole.parts) = sym c.whole.ensures.shows ∙ ap (λ o. option_whole c.args.text.now o) c.in-Some-whole.is in
    parts_read c.args.text.now (shown c.args.text.now (length c.args.text.now) c.loop-place.state) c.in-Some-whole.parts reads whole (subst (λ o. OptionPartsFit (length c.args.text.now) o) c.in-Some-whole.is c.whole.ensures.fits)

pub returns-in-None-whole-clause-place : goal.returns-in-None-whole-clause-place
returns-in-None-whole-clause-place c =
    let end : c.loop-place.place ≡ length c.args.text.now = omega arith in
    let reads : run_bytes start (take (length c.args.text.now) c.args.text.now) ≡ Some (shown c.args.text.now (length c.args.text.now) c.loop-place.state) = subst (λ n. run_bytes start (take n c.args.text.now) ≡ Some (shown c.args.text.now n c.loop-place.state)) end c.loop-place.invariant.reads in
    fault_cut c.args.text.now (shown c.args.text.now (length c.args.text.now) c.loop-place.state) reads (sym c.whole.ensures.shows ∙ ap (λ o. option_whole c.args.text.now o) c.in-None-whole.is)

use Rattle.std.proofs.Common.{arith}
use Rattle.swarm_lines.specs.Lengths.{is_short}
use Rattle.swarm_script.specs.HasText.{has_text}
use Rattle.swarm_top.proofs.Fits.{all_more, all_taken, has_at}
use Rattle.swarm_top.proofs.journals.all_fit.Goals as goal

pub fits_entry-requires : goal.fits_entry-requires
fits_entry-requires c =
    c.requires c.entry-item.result (has_at c.args.history.now c.loop-entry.entry-index c.entry-item.result c.loop-entry-test.true c.entry-item.is)

pub loop-entry-preserved : goal.loop-entry-preserved
loop-entry-preserved c = record {
  texts = all_more has_text c.args.history.now c.loop-entry.entry-index c.entry-item.result c.loop-entry-test.true c.entry-item.is
      c.loop-entry.invariant.texts c.fits_entry.ensures.text;
  lengths = all_more is_short c.args.history.now c.loop-entry.entry-index c.entry-item.result c.loop-entry-test.true c.entry-item.is
      c.loop-entry.invariant.lengths c.fits_entry.ensures.short;
}

pub returns-clause-texts : goal.returns-clause-texts
returns-clause-texts c = all_taken has_text c.args.history.now c.loop-entry.entry-index (omega arith) c.loop-entry.invariant.texts

pub returns-clause-lengths : goal.returns-clause-lengths
returns-clause-lengths c = all_taken is_short c.args.history.now c.loop-entry.entry-index (omega arith) c.loop-entry.invariant.lengths

use Rattle.swarm_top.proofs.Fits.{call_fits, duty_fits}
use Rattle.swarm_top.proofs.journals.fits_entry.Goals as goal

pub returns-in-Call-clause-text : goal.returns-in-Call-clause-text
returns-in-Call-clause-text c = (call_fits c.args.entry.now _ c.in-Call.is c.requires).0

pub returns-in-Call-clause-short : goal.returns-in-Call-clause-short
returns-in-Call-clause-short c = (call_fits c.args.entry.now _ c.in-Call.is c.requires).1

pub returns-in-Duty-clause-text : goal.returns-in-Duty-clause-text
returns-in-Duty-clause-text c = (duty_fits c.args.entry.now _ c.in-Duty.is c.requires c.fits.ensures).0

pub returns-in-Duty-clause-short : goal.returns-in-Duty-clause-short
returns-in-Duty-clause-short c = (duty_fits c.args.entry.now _ c.in-Duty.is c.requires c.fits.ensures).1

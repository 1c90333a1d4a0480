use Rattle.std.proofs.Common.{refl}
use Rattle.trace_defs.specs.Entered.{entered_all}
use Rattle.race_run.proofs.AloneLemmas.{may_run_there, alone_more}
use Rattle.race_run.proofs.one_thread.OneThreadRunsPhases.run.Goals as goal

pub run_records-requires : goal.run_records-requires
run_records-requires g c =
    let fits = c.requires.fits in record {
      place = may_run_there g.A.Authenticator.stands g.A.Authenticator.made c.args.self.now c.in-Some.alone fits.0 fits.1 fits.2 (entered_all c.args.records.now) c.in-Some.is fits.3 fits.4;
    }

pub returns-clause-ran : goal.returns-clause-ran
returns-clause-ran g c = λ config phases was ran.
    alone_more g.A.Authenticator.stands g.A.Authenticator.made c.run_records.result c.in-Some.alone c.run_records.new.self c.args.self.now _ c.args.records.now c.args.text.now.items c.run_records.new.text.items config phases was c.in-Some.is refl ran c.run_records.ensures.blocks

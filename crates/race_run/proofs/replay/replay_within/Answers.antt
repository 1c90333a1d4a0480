use Rattle.switch_event.specs.Config.{empty}
use Rattle.history_defs.specs.Output.{IsPlain}
use Rattle.race_run.specs.Runners.{HasRunAlone}
use Rattle.race_run.proofs.AloneLemmas.{alone_plain}
use Rattle.race_run.proofs.FateLemmas.{RunEnds-as}
use Rattle.race_run.proofs.replay.replay_within.Goals as goal

pub returns-clause-ends : goal.returns-clause-ends
returns-clause-ends g c =
    RunEnds-as IsPlain IsPlain (HasRunAlone g.A.Authenticator.stands g.A.Authenticator.made c.run_within.new.runner) IsPlain (λ config phases text h. h)
    (λ config phases text h. alone_plain g.A.Authenticator.stands g.A.Authenticator.made c.run_within.new.runner.alone config phases text h) c.args.limit c.args.room empty _ _ _ _ c.run_within.result c.run_within.ensures.ends

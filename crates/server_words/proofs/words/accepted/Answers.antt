use Rattle.radius_packet.specs.Views.{value_in}
use Rattle.aaa_defs.specs.Said.{accepted}
use Rattle.std.proofs.Common.{subst}
use Rattle.server_words.specs.Words.{Means}
use Rattle.server_words.proofs.words.accepted.Goals as goal

-- src/words.rt:78:1
pub returns-in-Ok-clause-says : goal.returns-in-Ok-clause-says
returns-in-Ok-clause-says c = λ times id k.
    subst (λ g. Means c.granted.result (accepted g times id (value_in c.args.eap) k) times id k) c.in-Ok.ensures.value (c.granted.ensures.says times id k)

-- src/words.rt:78:1
pub returns-in-Err-clause-says : goal.returns-in-Err-clause-says
returns-in-Err-clause-says c = λ times id k.
    subst (λ g. Means c.rejected.result (accepted g times id (value_in c.args.eap) k) times id k) c.in-Err.ensures.value (c.rejected.ensures.says times id k)

use Rattle.std.proofs.Common.{refl}
use Rattle.host_sessions.proofs.Holding.{holds_none}
use Rattle.host_sessions.proofs.sessions.Sessions.open.Goals as goal

pub returns : goal.returns
returns c = λ d. holds_none d _ c.in_ok-slots.ensures c.in_ok-waits.ensures refl refl

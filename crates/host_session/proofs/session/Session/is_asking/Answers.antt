use Rattle.host_session.proofs.Marks.{not_server}
use Rattle.host_session.proofs.session.Session.is_asking.Goals as goal

pub returns-in_default : goal.returns-in_default
returns-in_default c = λ x s. not_server s.stands c.in_default.not-Server

use Rattle.typed_session.proofs.Caring.{told_cares_of}
use Rattle.typed_session.proofs.Shapes.{follows_word}
use Rattle.typed_session.proofs.host.Host.on_server.Goals as goal

pub returns-clause-follows : goal.returns-clause-follows
returns-clause-follows c = follows_word c.args.v.now c.args.self.now _ c.args.tray.now _ c.requires.told c.tell.ensures.host c.tell.ensures.sent

pub returns-clause-cares : goal.returns-clause-cares
returns-clause-cares c = told_cares_of c.args.v.now c.args.self.now _ c.tell.ensures.host

use Rattle.std.proofs.Common.{sym, ap, subst, ◌∙◌, OnOk, IfErr}
use Rattle.outside_link.specs.Link.{Grows}
use Rattle.serve_defs.specs.Posted.{all_posted}
use Rattle.serve_loop.specs.Homes.{AreHomes}
use Rattle.serve_loop.specs.Post.{SendsFirst}
use Rattle.serve_loop.proofs.server.Server.send.Goals as goal

pub returns-in-Event-clause-ok : goal.returns-in-Event-clause-ok
returns-in-Event-clause-ok g c = λ homes sent table to_send.
    let sends = rw c.in-Event.is at to_send in
    subst (λ ts. OnOk c.send_all.result (Grows (g.L.Link.sent c.args.link.now) (g.L.Link.sent c.send_all.new.link) (all_posted c.args.self.now.config homes ts))) (ap (λ t. t.items) c.tray.ensures ∙ ap (λ s. s.core.tray.items) c.self.view_is ∙ sym sends)
    (c.send_all.ensures.ok c.args.self.now.config homes (ap (λ s. s.config.server) (sym c.self.view_is)) (subst (λ s. AreHomes s.homes.table homes) (sym c.self.view_is) table))

pub returns-in-Event-clause-err : goal.returns-in-Event-clause-err
returns-in-Event-clause-err g c = λ homes sent table to_send.
    let sends = rw c.in-Event.is at to_send in
    subst (λ ts. IfErr c.send_all.result (λ e. SendsFirst (g.L.Link.sent c.args.link.now) (g.L.Link.sent c.send_all.new.link) (all_posted c.args.self.now.config homes ts))) (ap (λ t. t.items) c.tray.ensures ∙ ap (λ s. s.core.tray.items) c.self.view_is ∙ sym sends)
    (c.send_all.ensures.err c.args.self.now.config homes (ap (λ s. s.config.server) (sym c.self.view_is)) (subst (λ s. AreHomes s.homes.table homes) (sym c.self.view_is) table))

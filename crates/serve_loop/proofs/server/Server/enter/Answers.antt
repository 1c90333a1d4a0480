use Rattle.std.proofs.Common.{ap, sym, refl, subst, ◌∙◌, []}
use Rattle.history_defs.specs.Output.{next_place}
use Rattle.sequential.specs.Records.{Stands}
use Rattle.trace_print.specs.Printing.{line_text}
use Rattle.serve_defs.specs.Posted.{all_homes, homes_after, sent_at}
use Rattle.serve_loop.specs.Arrived.{arrival_of, entry_of}
use Rattle.serve_loop.specs.Homes.{AreHomes}
use Rattle.serve_loop.specs.Run.{place_of, EnterHalts, IsToSend}
use Rattle.serve_loop.proofs.Entering.{fails, not_run, not_logged, not_posted, entered, logged_is, same_sound}
use Rattle.serve_loop.proofs.server.Server.enter.Goals as goal

pub returns-in_err-line-clause-err : goal.returns-in_err-line-clause-err
returns-in_err-line-clause-err g c = λ origin first came at.
    fails c.from_residual.result c.in_err-line.field-0.0 (λ e. EnterHalts c.args.room c.args.self.now.config (arrival_of c.args.arrived) origin _ first _ came e) c.from_residual.ensures.0 c.from_residual.ensures.1
    (not_run g.A.Authenticator.stands g.A.Authenticator.made c.args.room (arrival_of c.args.arrived) origin _ first _ c.args.self.now came c.in_err-line.field-0.0 c.requires.sound c.in_err-line.ensures.not at)

pub returns-in_err-log-clause-err : goal.returns-in_err-log-clause-err
returns-in_err-log-clause-err g c = λ origin first came at.
    let place = place_of c.args.self.now.config came in
    let ran = c.in_ok-line.ensures.runs place at.standing in
    let text = logged_is place (entry_of c.args.arrived.entry) (line_text c.in_ok-line.line) _ c.run.new.self.block.items c.in_ok-line.ensures.line.text ran.0 refl in
    fails c.from_residual-in_err-log.result c.in_err-log.field-0.0 (λ e. EnterHalts c.args.room c.args.self.now.config (arrival_of c.args.arrived) origin _ first _ came e)
    c.from_residual-in_err-log.ensures.0 c.from_residual-in_err-log.ensures.1
    (not_logged g.A.Authenticator.stands g.A.Authenticator.made c.args.room (arrival_of c.args.arrived) origin _ _ first _ c.args.self.now came _ c.in_err-log.field-0.0 at text c.in_err-log.ensures.written)

pub returns-in-Err-clause-err : goal.returns-in-Err-clause-err
returns-in-Err-clause-err g c = λ origin first came at.
    let a = arrival_of c.args.arrived in
    let old = c.args.self.now in
    let place = place_of old.config came in
    let ran = c.in_ok-line.ensures.runs place at.standing in
    let sends = c.in_ok-line.ensures.sends place at.standing in
    let text = logged_is place (entry_of c.args.arrived.entry) (line_text c.in_ok-line.line) _ c.run.new.self.block.items c.in_ok-line.ensures.line.text ran.0 refl in
    let before = subst (λ h. AreHomes h.table (all_homes [] came)) (sym (ap (λ s. s.homes) c.run.ensures.same)) at.homes in
    let homes = subst (λ h. AreHomes h.table (homes_after (all_homes [] came) a)) (sym (ap (λ s. s.homes) c.log.ensures.same)) (c.note_arrival.ensures (all_homes [] came) before) in
    let to_send = subst (λ k. IsToSend c.args.arrived.entry k.tray.items (sent_at place a.entry)) (sym (ap (λ s. s.core) c.log.ensures.same)) sends in
    not_posted g.A.Authenticator.stands g.A.Authenticator.made a origin _ _ first _ _ old c.log.new.self.config came _ (sent_at place a.entry) at c.requires.may
    (ap (λ s. s.config) c.log.ensures.same ∙ ap (λ s. s.config) c.run.ensures.same) c.in_ok-log.ensures.written text refl
    (c.in-Err.ensures.err (homes_after (all_homes [] came) a) (sent_at place a.entry) homes to_send)

pub returns-clause-ok : goal.returns-clause-ok
returns-clause-ok g c = λ origin first came at.
    let a = arrival_of c.args.arrived in
    let old = c.args.self.now in
    let place = place_of old.config came in
    let ran = c.in_ok-line.ensures.runs place at.standing in
    let sends = c.in_ok-line.ensures.sends place at.standing in
    let text = logged_is place (entry_of c.args.arrived.entry) (line_text c.in_ok-line.line) _ c.run.new.self.block.items c.in_ok-line.ensures.line.text ran.0 refl in
    let before = subst (λ h. AreHomes h.table (all_homes [] came)) (sym (ap (λ s. s.homes) c.run.ensures.same)) at.homes in
    let homes = subst (λ h. AreHomes h.table (homes_after (all_homes [] came) a)) (sym (ap (λ s. s.homes) c.log.ensures.same)) (c.note_arrival.ensures (all_homes [] came) before) in
    let to_send = subst (λ k. IsToSend c.args.arrived.entry k.tray.items (sent_at place a.entry)) (sym (ap (λ s. s.core) c.log.ensures.same)) sends in
    let standing = subst (λ k. Stands g.A.Authenticator.stands g.A.Authenticator.made k (next_place place a.entry)) (sym (ap (λ s. s.core) c.log.ensures.same)) ran.1 in
    entered g.A.Authenticator.stands g.A.Authenticator.made a origin _ _ first _ _ old c.log.new.self came _ (sent_at place a.entry) at c.requires.may
    (ap (λ s. s.config) c.log.ensures.same ∙ ap (λ s. s.config) c.run.ensures.same) standing homes c.in_ok-log.ensures.written text refl
    (c.in-Ok.ensures.ok (homes_after (all_homes [] came) a) (sent_at place a.entry) homes to_send)

pub returns-clause-sound : goal.returns-clause-sound
returns-clause-sound g c =
    same_sound g.A.Authenticator.stands g.A.Authenticator.made c.args.room c.run.new.self c.log.new.self (ap (λ s. s.core) c.log.ensures.same) (ap (λ s. s.config) c.log.ensures.same) c.in_ok-line.ensures.sound

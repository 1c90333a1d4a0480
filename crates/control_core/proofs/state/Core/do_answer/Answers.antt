use Rattle.std.proofs.Common.{◌∙◌, sym, ap}
use Rattle.aaa_client.specs.Meaning.{meaning, taking}
use Rattle.control_core.proofs.Answering.{holds_same, may_tell, turns_dropped, turns_told}
use Rattle.control_core.proofs.state.Core.do_answer.Goals as goal

pub returns-in-Err-clause-turns : goal.returns-in-Err-clause-turns
returns-in-Err-clause-turns c = λ s m.
    let h = m.stands.holds in
    turns_dropped s c.args.socket c.args.octets.now c.in-Err.drop _ c.args.tray.now c.args.items.now.items (sym (c.answer.ensures.answered s h.sessions (sym h.config)) ∙ ap meaning c.in-Err.is)
    (holds_same c.args.self.now c.answer.new.self s h c.in-Err.ensures.dropped)

pub be_told-requires-clause-may : goal.be_told-requires-clause-may
be_told-requires-clause-may c =
    let s = c.requires.may.0 in
    let m = c.requires.may.1 in
    let h = m.stands.holds in
    let r = may_tell c.args.self.now c.answer.new.self s c.args.socket c.args.octets.now (taking c.in-Ok.taken) m (sym (c.answer.ensures.answered s h.sessions (sym h.config)) ∙ ap meaning c.in-Ok.is) (c.in-Ok.ensures.taken s h.sessions) in
    (r.0, s, r.1)

pub returns-in-Ok-clause-turns : goal.returns-in-Ok-clause-turns
returns-in-Ok-clause-turns c = λ s m.
    let h = m.stands.holds in
    let e = sym (c.answer.ensures.answered s h.sessions (sym h.config)) ∙ ap meaning c.in-Ok.is in
    let r = may_tell c.args.self.now c.answer.new.self s c.args.socket c.args.octets.now (taking c.in-Ok.taken) m e (c.in-Ok.ensures.taken s h.sessions) in
    turns_told s c.args.socket c.args.octets.now (taking c.in-Ok.taken) r.0 _ c.args.tray.now c.be_told.new.tray c.args.items.now.items c.be_told.new.items.items e r.1.named (c.be_told.ensures.does r.0 s r.1)

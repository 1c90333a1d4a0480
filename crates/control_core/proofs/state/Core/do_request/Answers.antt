use Rattle.std.proofs.Common.{refl}
use Rattle.switch_event.specs.declared.event.Outcome.TheVariants.{Acked, Again, Naked}
use Rattle.dynauth_defs.specs.Judge as word
use Rattle.switch_defs.specs.Switch.{State}
use Rattle.switch_defs.specs.Dynamic.{act}
use Rattle.switch_defs.proofs.Soundness.{sound_is_between}
use Rattle.control_core.proofs.Acting.{may_act}
use Rattle.control_core.proofs.Replying.{nothing_sent}
use Rattle.control_core.proofs.Requesting.{acked, answered_after, naked, stands_judged, turns_so}
use Rattle.control_core.proofs.state.Core.do_request.Goals as goal

pub invariant_of-roster : goal.invariant_of-roster
invariant_of-roster c =
    let core = c.args.self.now in
    let s : State = c.requires.may.0 in
    let stands = c.requires.may.1.stands in
    record {
      between = ∣ record {
        state = s;
        holds = stands.holds.sessions;
        between = sound_is_between core.made s stands.sound;
      } ∣₁;
    }

pub act-requires-clause-may : goal.act-requires-clause-may
act-requires-clause-may c =
    let core = c.args.self.now in
    let s : State = c.requires.may.0 in
    let stands = c.requires.may.1.stands in
    let e = stands_judged core s c.args.from c.args.octets.now (word.Ack c.in-Ack.action) stands c.as_slice.result.now c.as_slice.ensures.value c.in-Ack.ensures.line in
    (s, stands, may_act core.made s c.args.from c.args.octets.now c.in-Ack.action stands.sound e)

pub reply-requires-in-Ack-clause-answered : goal.reply-requires-in-Ack-clause-answered
reply-requires-in-Ack-clause-answered c =
    let core = c.args.self.now in
    let s : State = c.requires.may.0 in
    let stands = c.requires.may.1.stands in
    let a = c.in-Ack.action in
    let e = stands_judged core s c.args.from c.args.octets.now (word.Ack a) stands c.as_slice.result.now c.as_slice.ensures.value c.in-Ack.ensures.line in
    let did = c.act.ensures.does s stands (may_act core.made s c.args.from c.args.octets.now a stands.sound e) in
    answered_after core c.act.new.self s a c.args.from c.args.octets.now c.as_slice.result.now c.as_slice.ensures.value stands.holds did.holds (c.in-Ack.ensures.request tt)

pub returns-in-Drop-clause-turns : goal.returns-in-Drop-clause-turns
returns-in-Drop-clause-turns c = λ s may.
    let core = c.args.self.now in
    let e = stands_judged core s c.args.from c.args.octets.now (word.Drop c.in-Drop.reason) may.stands c.as_slice.result.now c.as_slice.ensures.value c.in-Drop.ensures.line in
    turns_so s c.args.from c.args.octets.now (word.Drop c.in-Drop.reason) core _ c.args.tray.now c.args.tray.now c.args.items.now.items c.args.items.now.items e (record {
      holds = may.stands.holds;
      became = refl;
      sent = nothing_sent c.args.tray.now;
      told = λ start told. told;
    })

pub returns-in-Again-clause-turns : goal.returns-in-Again-clause-turns
returns-in-Again-clause-turns c = λ s may.
    let core = c.args.self.now in
    let again = c.in-Again.reply.now in
    let e = stands_judged core s c.args.from c.args.octets.now (word.Again again) may.stands c.as_slice.result.now c.as_slice.ensures.value c.in-Again.ensures.line in
    turns_so s c.args.from c.args.octets.now (word.Again again) core Again c.args.tray.now c.put.new.self c.args.items.now.items c.args.items.now.items e (record {
      holds = may.stands.holds;
      became = refl;
      sent = c.put.ensures.items;
      told = λ start told. told;
    })

pub returns-in-Nak-clause-turns : goal.returns-in-Nak-clause-turns
returns-in-Nak-clause-turns c = λ s may.
    let core = c.args.self.now in
    let e = stands_judged core s c.args.from c.args.octets.now (word.Nak c.in-Nak.cause) may.stands c.as_slice.result.now c.as_slice.ensures.value c.in-Nak.ensures.line in
    turns_so s c.args.from c.args.octets.now (word.Nak c.in-Nak.cause) c.reply.new.self (Naked c.in-Nak.cause) c.args.tray.now c.reply.new.tray c.args.items.now.items c.args.items.now.items e
    (naked s c.args.from c.args.octets.now c.in-Nak.cause c.reply.new.self c.args.tray.now c.reply.new.tray c.args.items.now.items (c.reply.ensures.holds s may.stands.holds) (c.reply.ensures.sent s may.stands.holds))

pub returns-in-Ack-clause-turns : goal.returns-in-Ack-clause-turns
returns-in-Ack-clause-turns c = λ s may.
    let core = c.args.self.now in
    let a = c.in-Ack.action in
    let e = stands_judged core s c.args.from c.args.octets.now (word.Ack a) may.stands c.as_slice.result.now c.as_slice.ensures.value c.in-Ack.ensures.line in
    let did = c.act.ensures.does s may.stands (may_act core.made s c.args.from c.args.octets.now a may.stands.sound e) in
    let t : State = (act a s).state in
    turns_so s c.args.from c.args.octets.now (word.Ack a) c.reply-in-Ack.new.self Acked c.args.tray.now c.reply-in-Ack.new.tray c.args.items.now.items c.act.new.items.items e
    (acked s c.args.from c.args.octets.now a c.act.new.self c.reply-in-Ack.new.self c.args.tray.now c.act.new.tray c.reply-in-Ack.new.tray c.args.items.now.items c.act.new.items.items did (c.reply-in-Ack.ensures.holds t did.holds) (c.reply-in-Ack.ensures.sent t did.holds))

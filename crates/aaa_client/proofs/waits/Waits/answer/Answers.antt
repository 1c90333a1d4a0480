use Rattle.std.proofs.Common.{◌≡◌, ◌∙◌, ℕ, Bool, List, Option, Some, None, Ok, ap, sym}
use Rattle.radius_defs.specs.Packet.{Packet}
use Rattle.switch_event.specs.declared.drop.AaaDrop.{AaaDrop}
use Rattle.aaa_defs.specs.Waits.{Pending, Waits, name_of, pending_under}
use Rattle.aaa_defs.specs.Answer.{answered, answered_in, answered_by, taken_from, checks, first_failed, eap_carried}
use Rattle.radius_defs.proofs.ParsedLemmas.{packet-of-some, packet-of-none}
use Rattle.aaa_client.proofs.waits.Waits.answer.Goals as goal

pub returns-in_default-clause-answered : goal.returns-in_default-clause-answered
returns-in_default-clause-answered c =
    sym (ap (λ (o : Option Packet). answered_in o c.args.self.now c.args.socket c.args.secret.now c.args.require) (packet-of-none c.args.b.now c.in_default.field-0 c.in_default.ensures.exact))

pub returns-in_default-under-clause-answered : goal.returns-in_default-under-clause-answered
returns-in_default-under-clause-answered c =
    let p : Packet = c.in-Ok.packet in
    let none : pending_under (name_of c.args.socket p.identifier) c.args.self.now ≡ None =
    ap (λ (k : ℕ). pending_under (name_of c.args.socket k) c.args.self.now) (ap (λ (q : Packet). q.identifier) (sym c.packet.view_is)) ∙ sym c.in_default-under.ensures in
    sym (ap (λ (o : Option Packet). answered_in o c.args.self.now c.args.socket c.args.secret.now c.args.require) (packet-of-some c.args.b.now p c.in-Ok.ensures.exact)
    ∙ ap (λ (o : Option Pending). answered_by p o c.args.secret.now c.args.require) none)

-- the answer by what the checks say
by-checks : (w : Waits) (socket : ℕ) (octets secret : List ℕ) (require : Bool) (p : Packet) (r : Pending) (failed : Option AaaDrop) (auth : List ℕ)
    → answered w socket octets secret require ≡ answered_by p (Some r) secret require → auth ≡ r.auth → first_failed (checks p auth secret require) ≡ failed → answered w socket octets secret require ≡ taken_from p r failed
by-checks w socket octets secret require p r failed auth is same first = is ∙ ap (λ (a : List ℕ). taken_from p r (first_failed (checks p a secret require))) (sym same) ∙ ap (taken_from p r) first

pub returns-in-Ok-checked-clause-answered : goal.returns-in-Ok-checked-clause-answered
returns-in-Ok-checked-clause-answered c =
    let p : Packet = c.in-Ok.packet in
    let r : Pending = c.in-Some.request.now in
    let pending : pending_under (name_of c.args.socket p.identifier) c.args.self.now ≡ Some r =
    ap (λ (k : ℕ). pending_under (name_of c.args.socket k) c.args.self.now) (ap (λ (q : Packet). q.identifier) (sym c.packet.view_is)) ∙ sym c.in-Some.ensures in
    let is : answered c.args.self.now c.args.socket c.args.b.now c.args.secret.now c.args.require ≡ answered_by p (Some r) c.args.secret.now c.args.require =
    ap (λ (o : Option Packet). answered_in o c.args.self.now c.args.socket c.args.secret.now c.args.require) (packet-of-some c.args.b.now p c.in-Ok.ensures.exact)
    ∙ ap (λ (o : Option Pending). answered_by p o c.args.secret.now c.args.require) pending in
    let auth : c.request.inside.auth ≡ r.auth = ap (λ (q : Pending). q.auth) c.request.view_is in
    sym (by-checks c.args.self.now c.args.socket c.args.b.now c.args.secret.now c.args.require p r None c.request.inside.auth is auth c.in-Ok-checked.ensures.passed
    ∙ ap (λ (n : ℕ). Ok (record { session = n; packet = p; eap = eap_carried p })) (sym c.session-session.ensures)
    ∙ ap (λ (e : Option (List ℕ)). Ok (record { session = c.session-session.result; packet = p; eap = e })) (sym c.in-Ok-checked.ensures.eap))

pub returns-in-Err-clause-answered : goal.returns-in-Err-clause-answered
returns-in-Err-clause-answered c =
    let p : Packet = c.in-Ok.packet in
    let r : Pending = c.in-Some.request.now in
    let pending : pending_under (name_of c.args.socket p.identifier) c.args.self.now ≡ Some r =
    ap (λ (k : ℕ). pending_under (name_of c.args.socket k) c.args.self.now) (ap (λ (q : Packet). q.identifier) (sym c.packet.view_is)) ∙ sym c.in-Some.ensures in
    let is : answered c.args.self.now c.args.socket c.args.b.now c.args.secret.now c.args.require ≡ answered_by p (Some r) c.args.secret.now c.args.require =
    ap (λ (o : Option Packet). answered_in o c.args.self.now c.args.socket c.args.secret.now c.args.require) (packet-of-some c.args.b.now p c.in-Ok.ensures.exact)
    ∙ ap (λ (o : Option Pending). answered_by p o c.args.secret.now c.args.require) pending in
    let auth : c.request.inside.auth ≡ r.auth = ap (λ (q : Pending). q.auth) c.request.view_is in
    sym (by-checks c.args.self.now c.args.socket c.args.b.now c.args.secret.now c.args.require p r (Some c.in-Err.dropped) c.request.inside.auth is auth c.in-Err.ensures.drop)

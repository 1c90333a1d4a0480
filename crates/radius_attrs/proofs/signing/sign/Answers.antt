use Rattle.std.proofs.Common.{◌≡◌, ◌∙◌, ℕ, List, [], length, ap, sym, subst, refl, arith}
use Rattle.radius_defs.specs.declared.attribute.TheConstants.{MESSAGE_AUTHENTICATOR}
use Rattle.radius_defs.specs.Packet.{Packet, Fits, packet_text}
use Rattle.radius_defs.specs.Digest.{zeros, message_auth}
use Rattle.radius_defs.specs.Message.{behind_first, first_place, message_state_of, message_value, signed, with_message}
use Rattle.radius_defs.proofs.SigningLemmas.{signed-right}
use Rattle.radius_attrs.proofs.signing.sign.Goals as goal

pub set_value16-requires : goal.set_value16-requires
set_value16-requires c = record {
  front = [];
  attribute = record { kind = MESSAGE_AUTHENTICATOR; value = zeros 16 };
  rest = (behind_first c.args.packet.now).attributes;
  split = ap (λ (p : Packet). p.attributes) c.requires.first;
  place = refl;
  sixteen = refl;
}

is-signed : (c : goal.After-set_value16) → c.set_value16.new.self ≡ signed (behind_first c.args.packet.now) c.args.auth c.args.secret.now
is-signed c =
    let p : Packet = behind_first c.args.packet.now in
    let made : c.message_auth-value.result ≡ message_value p c.args.auth c.args.secret.now =
    c.message_auth-value.ensures ∙ ap (λ (octets : List ℕ). message_auth octets c.args.auth first_place c.args.secret.now) (c.octets.ensures.text ∙ ap packet_text c.requires.first) in
    c.set_value16.ensures [] p.attributes (record { kind = MESSAGE_AUTHENTICATOR; value = zeros 16 }) (ap (λ (q : Packet). q.attributes) c.requires.first) refl refl
    ∙ ap (with_message p) made

pub returns-clause-packet : goal.returns-clause-packet
returns-clause-packet c = is-signed c

pub returns-clause-right : goal.returns-clause-right
returns-clause-right c =
    let p : Packet = behind_first c.args.packet.now in
    let made : c.message_auth-value.result ≡ message_value p c.args.auth c.args.secret.now =
    c.message_auth-value.ensures ∙ ap (λ (octets : List ℕ). message_auth octets c.args.auth first_place c.args.secret.now) (c.octets.ensures.text ∙ ap packet_text c.requires.first) in
    let sixteen_octets : length c.message_auth-value.result ≡ 16 = omega arith in
    let fits : Fits (with_message p (zeros 16)) = subst Fits c.requires.first c.octets.ensures.fits in
    let auth : length c.args.auth ≡ 16 = omega arith in
    ap (λ (q : Packet). message_state_of q c.args.auth c.args.secret.now) (is-signed c)
    ∙ signed-right p c.args.auth c.args.secret.now fits auth (ap length (sym made) ∙ sixteen_octets) c.requires.only

use Rattle.std.proofs.Common.{◌≡◌, ℕ, List, ◌∷◌, true, ap, sym, ◌∙◌}
use Rattle.std.specs.Str.{bytes_eq}
use Rattle.radius_defs.specs.declared.Ma.TheVariants.{Wrong}
use Rattle.radius_defs.specs.Packet.{Attribute, packet_text, those_of}
use Rattle.radius_defs.specs.Digest.{message_auth}
use Rattle.radius_defs.specs.Message.{message_from, value_place}
use Rattle.radius_attrs.proofs.StateLemmas.{wrong-length, wrong-again, right-alone}
use Rattle.radius_attrs.proofs.message.message_state.Goals as goal
use Rattle.radius_attrs.proofs.message.message_state.Goals.{then-value-ne16-via-then-value-ne16, then-value-ne16-via-else-value-ne16+then-has}

pub returns-then-value-ne16 : goal.returns-then-value-ne16
returns-then-value-ne16 c =
    let stands = c.in-Some.ensures in
    let first : Attribute = record { kind = 80; value = c.in-Some.value.now } in
    let right : List ℕ = message_auth (packet_text c.args.p.now) c.args.auth (value_place 80 c.args.p.now.attributes) c.args.secret.now in
    let wrong : message_from (first ∷ those_of 80 c.in-Some.after) right ≡ Wrong =
    elim c.then-value-ne16.branch [
      | then-value-ne16-via-then-value-ne16 w ↦ wrong-length first _ right w.if-value-ne16.true
      | then-value-ne16-via-else-value-ne16+then-has w ↦ wrong-again 80 first c.in-Some.after right (sym w.has.ensures ∙ w.if-has.true)
    ] in
    sym (ap (λ (those : List Attribute). message_from those right) stands.those ∙ wrong)

pub returns-then-eq : goal.returns-then-eq
returns-then-eq c =
    let stands = c.in-Some.ensures in
    let first : Attribute = record { kind = 80; value = c.in-Some.value.now } in
    let right : List ℕ = message_auth (packet_text c.args.p.now) c.args.auth (value_place 80 c.args.p.now.attributes) c.args.secret.now in
    let made : c.as_slice.result.now ≡ right =
    c.as_slice.ensures ∙ c.message_auth-right.ensures
    ∙ ap (λ (octets : List ℕ). message_auth octets c.args.auth c.in-Some.at c.args.secret.now) c.text.ensures
    ∙ ap (λ (at : ℕ). message_auth (packet_text c.args.p.now) c.args.auth at c.args.secret.now) stands.place in
    let same : bytes_eq c.in-Some.value.now right ≡ true = ap (bytes_eq c.in-Some.value.now) (sym made) ∙ sym c.eq.ensures ∙ c.if-eq.true in
    sym (ap (λ (those : List Attribute). message_from those right) stands.those ∙ right-alone 80 first c.in-Some.after right (sym c.has.ensures ∙ c.if-has.false) c.if-value-ne16.false same)

-- A packet that was signed is right: its value is that of the packet with zeros in the value's place.
use Rattle.std.proofs.Common.{◌≡◌, ℕ, suc, ◌+◌, true, false, eqb, List, [], ◌∷◌, length, take, Some, None, refl, sym, ap, ◌∙◌, arith, inl, inr}
use Rattle.std.proofs.lemmas.Bool.{cases_Bool, eq-eqb}
use Rattle.std.proofs.lemmas.Option.{none-some}
use Rattle.std.specs.Str.{bytes_eq}
use Rattle.radius_defs.specs.declared.Ma.TheVariants.{Right}
use Rattle.radius_defs.specs.declared.attribute.TheConstants.{MESSAGE_AUTHENTICATOR}
use Rattle.radius_defs.specs.Packet.{Attribute, Packet, packet_text, first_value, those_of, Fits, written_over}
use Rattle.radius_defs.specs.Digest.{message_auth, hmac, zeros}
use Rattle.radius_defs.specs.Message.{before_first, first_place, message_from, message_state_of, with_message, message_value, signed}
use Rattle.radius_defs.proofs.WritingLemmas.{text-auth-over, text-value-over, same-length}

pub first-same : (kind : ℕ) (a : Attribute) (rest : List Attribute) → eqb a.kind kind ≡ true → first_value kind (a ∷ rest) ≡ Some a.value
first-same kind a rest same = rw same refl

pub first-other : (kind : ℕ) (a : Attribute) (rest : List Attribute) → eqb a.kind kind ≡ false → first_value kind (a ∷ rest) ≡ first_value kind rest
first-other kind a rest other = rw other refl

pub those-same : (kind : ℕ) (a : Attribute) (rest : List Attribute) → eqb a.kind kind ≡ true → those_of kind (a ∷ rest) ≡ a ∷ those_of kind rest
those-same kind a rest same = rw same refl

pub those-other : (kind : ℕ) (a : Attribute) (rest : List Attribute) → eqb a.kind kind ≡ false → those_of kind (a ∷ rest) ≡ those_of kind rest
those-other kind a rest other = rw other refl

pub before-same : (kind : ℕ) (a : Attribute) (rest : List Attribute) → eqb a.kind kind ≡ true → before_first kind (a ∷ rest) ≡ []
before-same kind a rest same = rw same refl

take-one : (n : ℕ) (a : Attribute) (rest : List Attribute) → take (1 + n) (a ∷ rest) ≡ a ∷ take n rest
take-one n a rest = let e : 1 + n ≡ suc n = omega arith in ap (λ (k : ℕ). take k (a ∷ rest)) e

pub before-other : (kind : ℕ) (a : Attribute) (rest : List Attribute) → eqb a.kind kind ≡ false → before_first kind (a ∷ rest) ≡ a ∷ before_first kind rest
before-other kind a rest other = rw other (take-one _ a rest)

-- whatever 16 octets stand there, zeros are written over them
over-message : (p : Packet) (value auth : List ℕ) → Fits (with_message p value) → length auth ≡ 16 → length value ≡ 16
    → written_over (written_over (packet_text (with_message p value)) 4 auth) first_place (zeros 16) ≡ packet_text (record (with_message p (zeros 16)) { authenticator = auth })
over-message p value auth fits auth-len value-len =
    let with_auth : Packet = record (with_message p value) { authenticator = auth } in
    ap (λ (xs : List ℕ). written_over xs first_place (zeros 16)) (text-auth-over (with_message p value) auth fits auth-len)
    ∙ text-value-over with_auth [] (record { kind = MESSAGE_AUTHENTICATOR; value = value }) p.attributes (zeros 16) first_place (record { authenticator = auth-len; body = fits.body }) refl refl (sym value-len)

bytes_same : (xs : List ℕ) → bytes_eq xs xs ≡ true
bytes_same [] = refl
bytes_same (x ∷ xs) = rw (eq-eqb x x refl) (bytes_same xs)

message-same : (value : List ℕ) → length value ≡ 16 → message_from (record { kind = MESSAGE_AUTHENTICATOR; value = value } ∷ []) value ≡ Right
message-same value len = rw (eq-eqb (length value) 16 len, bytes_same value) refl

those-none : (kind : ℕ) (attributes : List Attribute) → first_value kind attributes ≡ None → those_of kind attributes ≡ []
those-none kind [] none = refl
those-none kind (a ∷ rest) none =
    elim (cases_Bool (eqb a.kind kind)) [
      | inl same ↦ absurd (none-some a.value (sym none ∙ first-same kind a rest same))
      | inr other ↦ those-other kind a rest other ∙ those-none kind rest (sym (first-other kind a rest other) ∙ none)
    ]

-- a packet that was signed passes the check of its Message-Authenticator
pub signed-right : (p : Packet) (auth secret : List ℕ) → Fits (with_message p (zeros 16)) → length auth ≡ 16 → length (message_value p auth secret) ≡ 16 → first_value MESSAGE_AUTHENTICATOR p.attributes ≡ None
    → message_state_of (signed p auth secret) auth secret ≡ Right
signed-right p auth secret fits auth-len value-len none =
    let value : List ℕ = message_value p auth secret in
    let fits_value : Fits (with_message p value) = record { authenticator = fits.authenticator; body = omega (arith, fits.body, same-length [] (record { kind = MESSAGE_AUTHENTICATOR; value = zeros 16 }) p.attributes value value-len) } in
    let those : those_of MESSAGE_AUTHENTICATOR (with_message p value).attributes ≡ record { kind = MESSAGE_AUTHENTICATOR; value = value } ∷ [] =
    ap (λ (xs : List Attribute). record { kind = MESSAGE_AUTHENTICATOR; value = value } ∷ xs) (those-none MESSAGE_AUTHENTICATOR p.attributes none) in
    let right : message_auth (packet_text (with_message p value)) auth first_place secret ≡ value =
    ap (hmac secret) (over-message p value auth fits_value auth-len value-len ∙ sym (over-message p (zeros 16) auth fits auth-len refl)) in
    ap (λ (xs : List Attribute). message_from xs (message_auth (packet_text (with_message p value)) auth first_place secret)) those
    ∙ ap (λ (v : List ℕ). message_from (record { kind = MESSAGE_AUTHENTICATOR; value = value } ∷ []) v) right
    ∙ message-same value value-len

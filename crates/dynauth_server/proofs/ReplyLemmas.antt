-- What the attributes of a reply take of its room.
use Rattle.std.proofs.Common.{◌≡◌, ℕ, eqb, ◌+◌, ◌≤◌, true, false, List, [], ◌∷◌, ◌++◌, length, Some, None, refl, sym, ap, subst, ◌∙◌, arith, inl, inr, append_assoc, append-nil}
use Rattle.std.specs.Prelude.{Option, Result, Ok, Err, is_ok, OnOk}
use Rattle.std.proofs.lemmas.Bool.{cases_Bool, eqb-true}
use Rattle.std.proofs.lemmas.List.{length-append}
use Rattle.std.proofs.lemmas.List.Concat.{flat_map-append}
use Rattle.radius_defs.specs.declared.attribute.TheConstants.{MESSAGE_AUTHENTICATOR, PROXY_STATE}
use Rattle.radius_defs.specs.declared.limit.TheConstants.{MOST_OCTETS}
use Rattle.radius_defs.specs.Packet.{Attribute, Packet, attribute_text, attributes_text, packet_text, size_of, first_value, those_of, Fits}
use Rattle.radius_defs.proofs.SigningLemmas.{first-other, those-same, those-other}
use Rattle.radius_defs.specs.Digest.{zeros}
use Rattle.radius_defs.specs.Message.{with_message, behind_first, AwaitsSigning}
use Rattle.dynauth_defs.specs.Reply.{error_cause, unsigned_reply}
use Rattle.dynauth_server.specs.Replies.{with_all}

pub those-few : (kind : ℕ) (attributes : List Attribute) → length (attributes_text (those_of kind attributes)) ≤ length (attributes_text attributes)
those-few kind [] = omega arith
those-few kind (a ∷ rest) =
    elim (cases_Bool (eqb a.kind kind)) [
      | inl same ↦ omega (arith, ap (λ those. length (attributes_text those)) (those-same kind a rest same), those-few kind rest, length-append a.value (attributes_text (those_of kind rest)), length-append a.value (attributes_text rest))
      | inr other ↦ omega (arith, ap (λ those. length (attributes_text those)) (those-other kind a rest other), those-few kind rest, length-append a.value (attributes_text rest))
    ]

pub text-more : (p : Packet) (more : List Attribute) → length (packet_text (with_all p more)) ≡ length (packet_text p) + length (attributes_text more)
text-more p more =
    let text : attributes_text (p.attributes ++ more) ≡ attributes_text p.attributes ++ attributes_text more = flat_map-append attribute_text p.attributes more in
    omega (
      arith,
      ap length text,
      length-append (attributes_text p.attributes) (attributes_text more),
      length-append p.authenticator (attributes_text (p.attributes ++ more)),
      length-append p.authenticator (attributes_text p.attributes),
    )

pub text-length : (p : Packet) → Fits p → length (packet_text p) ≡ 20 + length (attributes_text p.attributes)
text-length p fits = omega (arith, fits.authenticator, length-append p.authenticator (attributes_text p.attributes))

pub put-twice : (p : Packet) (first second : List Attribute) → with_all (with_all p first) second ≡ with_all p (first ++ second)
put-twice p first second = rw (append_assoc p.attributes first second) refl

-- ---- no Message-Authenticator among Error-Cause and the Proxy-States

no_other : (kind other : ℕ) (attributes : List Attribute) → eqb other kind ≡ false → first_value kind (those_of other attributes) ≡ None
no_other kind other [] apart = refl
no_other kind other (a ∷ rest) apart =
    elim (cases_Bool (eqb a.kind other)) [
      | inl same ↦
          let e : eqb a.kind kind ≡ false = ap (λ k. eqb k kind) (eqb-true a.kind other same) ∙ apart in
          ap (first_value kind) (those-same other a rest same) ∙ first-other kind a (those_of other rest) e ∙ no_other kind other rest apart
      | inr not_same ↦ ap (first_value kind) (those-other other a rest not_same) ∙ no_other kind other rest apart
    ]

no_message : (request : Packet) (cause : Option ℕ) → first_value MESSAGE_AUTHENTICATOR (unsigned_reply request cause).attributes ≡ None
no_message request None = no_other MESSAGE_AUTHENTICATOR PROXY_STATE request.attributes refl
no_message request (Some cause) = no_other MESSAGE_AUTHENTICATOR PROXY_STATE request.attributes refl

pub cause-few : (cause : Option ℕ) → length (attributes_text (error_cause cause)) ≤ 6
cause-few None = omega arith
cause-few (Some cause) = omega arith

-- ---- a walk over the request's attributes, of which those of one type are put

module _ (built start : Packet) (all from left : List Attribute) (a : Attribute) (so_far : with_all built (those_of PROXY_STATE from) ≡ with_all start (those_of PROXY_STATE all)) (next : from ≡ a ∷ left) where
  pub room-left : eqb a.kind PROXY_STATE ≡ true → size_of start + length (attributes_text all) ≤ MOST_OCTETS → size_of built + 2 + length a.value ≤ MOST_OCTETS
  unfolding size_of
  room-left same room =
      let those : those_of PROXY_STATE from ≡ a ∷ those_of PROXY_STATE left = ap (those_of PROXY_STATE) next ∙ those-same PROXY_STATE a left same in
      omega (
        arith,
        ap (λ p. length (packet_text p)) so_far,
        text-more built (those_of PROXY_STATE from),
        text-more start (those_of PROXY_STATE all),
        those-few PROXY_STATE all,
        ap (λ those. length (attributes_text those)) those,
        length-append a.value (attributes_text (those_of PROXY_STATE left)),
        room,
      )

  pub put-state : eqb a.kind PROXY_STATE ≡ true → with_all (with_all built (record { kind = PROXY_STATE; value = a.value } ∷ [])) (those_of PROXY_STATE left) ≡ with_all start (those_of PROXY_STATE all)
  put-state same =
      let kind : a.kind ≡ PROXY_STATE = eqb-true a.kind PROXY_STATE same in
      let one : record { kind = PROXY_STATE; value = a.value } ≡ a = ap (λ (k : ℕ). record a { kind = k }) (sym kind) in
      let those : those_of PROXY_STATE from ≡ a ∷ those_of PROXY_STATE left = ap (those_of PROXY_STATE) next ∙ those-same PROXY_STATE a left same in
      put-twice built (record { kind = PROXY_STATE; value = a.value } ∷ []) (those_of PROXY_STATE left) ∙ ap (λ (b : Attribute). with_all built (b ∷ those_of PROXY_STATE left)) one ∙ ap (with_all built) (sym those) ∙ so_far

  pub pass-other : eqb a.kind PROXY_STATE ≡ false → with_all built (those_of PROXY_STATE left) ≡ with_all start (those_of PROXY_STATE all)
  pass-other other = ap (with_all built) (sym (ap (those_of PROXY_STATE) next ∙ those-other PROXY_STATE a left other)) ∙ so_far

pub all-put : (built start : Packet) (all from : List Attribute) → with_all built (those_of PROXY_STATE from) ≡ with_all start (those_of PROXY_STATE all) → from ≡ [] → built ≡ with_all start (those_of PROXY_STATE all)
all-put built start all from so_far none =
    let whole : with_all built [] ≡ built = ap (λ (attributes : List Attribute). record built { attributes = attributes }) (append-nil built.attributes) in
    sym whole ∙ ap (λ (left : List Attribute). with_all built (those_of PROXY_STATE left)) (sym none) ∙ so_far

pub is-done : {T E P : Type 0} (r : Result T E) → is_ok r ≡ true → OnOk r P → P
is-done (Ok x) ok p = p
is-done (Err e) ok p = cc

-- a reply awaits its signing
pub awaits : (request : Packet) (cause : Option ℕ) (p : Packet) → p ≡ with_message (unsigned_reply request cause) (zeros 16) → AwaitsSigning p
awaits request cause p is =
    let reply = unsigned_reply request cause in
    subst AwaitsSigning (sym is) (record { first = refl; only = no_message request cause })

pub behind-signed : (request : Packet) (cause : Option ℕ) (p : Packet) → p ≡ with_message (unsigned_reply request cause) (zeros 16) → behind_first p ≡ unsigned_reply request cause
behind-signed request cause p is = ap behind_first is

-- A walk over a packet's attributes knows where it stands, and that it passed none of the type.
use Rattle.std.proofs.Common.{◌≡◌, ℕ, ◌+◌, true, false, eqb, List, [], ◌∷◌, length, refl, sym, ap, ◌∙◌, arith}
use Rattle.std.proofs.lemmas.List.{length-append}
use Rattle.std.proofs.lemmas.Bool.{eqb-true}
use Rattle.radius_defs.specs.Packet.{Attribute, Packet, attributes_text, those_of, Fits}
use Rattle.radius_defs.specs.Message.{before_first}
use Rattle.radius_defs.proofs.SigningLemmas.{those-same, those-other, before-same, before-other}
use Rattle.radius_attrs.specs.Places.{StandsAt}

-- the attributes `left` stand from `at` on, and each of the type is among them
pub record Walked (p : Packet) (kind at : ℕ) (left : List Attribute) : Type 0 where
  pub those : those_of kind left ≡ those_of kind p.attributes
  pub before : at + length (attributes_text (before_first kind left)) ≡ 20 + length (attributes_text (before_first kind p.attributes))
  pub all : at + length (attributes_text left) ≡ 20 + length (attributes_text p.attributes)

pub walked-start : (p : Packet) (kind : ℕ) → Walked p kind 20 p.attributes
walked-start p kind = record { those = refl; before = refl; all = refl }

pub walked-next : (p : Packet) (kind at : ℕ) (a : Attribute) (rest : List Attribute) → eqb a.kind kind ≡ false → Walked p kind at (a ∷ rest) → Walked p kind (at + 2 + length a.value) rest
walked-next p kind at a rest other known = record {
  those = sym (those-other kind a rest other) ∙ known.those;
  before = omega (arith, known.before, ap (λ (xs : List Attribute). length (attributes_text xs)) (before-other kind a rest other), length-append a.value (attributes_text (before_first kind rest)));
  all = omega (arith, known.all, length-append a.value (attributes_text rest));
}

pub walked-found : (p : Packet) (kind at : ℕ) (a : Attribute) (rest : List Attribute) → eqb a.kind kind ≡ true → Walked p kind at (a ∷ rest) → Fits p → StandsAt p kind (at + 2) a.value rest
walked-found p kind at a rest same known fits = record {
  those = sym known.those ∙ those-same kind a rest same ∙ ap (λ (k : ℕ). record { kind = k; value = a.value } ∷ those_of kind rest) (eqb-true a.kind kind same);
  place = omega (arith, known.before, ap (λ (xs : List Attribute). length (attributes_text xs)) (before-same kind a rest same));
  within = omega (arith, known.all, fits.authenticator, length-append a.value (attributes_text rest), length-append p.authenticator (attributes_text p.attributes));
}

pub walked-none : (p : Packet) (kind at : ℕ) (left : List Attribute) → left ≡ [] → Walked p kind at left → those_of kind p.attributes ≡ []
walked-none p kind at left none known = sym known.those ∙ ap (those_of kind) none

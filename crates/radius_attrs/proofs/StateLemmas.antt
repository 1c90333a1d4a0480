-- What a packet's Message-Authenticator is, by its first attribute of the type and those behind it.
use Rattle.std.proofs.Common.{◌≡◌, ℕ, Bool, true, false, eqb, ◌==◌, List, [], ◌∷◌, length, refl, sym, ap, ◌∙◌, inl, inr}
use Rattle.std.specs.List.{list_any}
use Rattle.std.specs.Str.{bytes_eq}
use Rattle.std.proofs.lemmas.Bool.{cases_Bool, eq-eqb, ne_eqb}
use Rattle.radius_defs.specs.declared.Ma.TheVariants.{Right, Wrong}
use Rattle.radius_defs.specs.Packet.{Attribute, those_of}
use Rattle.radius_defs.specs.Message.{message_from}
use Rattle.radius_defs.proofs.SigningLemmas.{those-same, those-other}

abbrev has_kind : ℕ → List Attribute → Bool
has_kind kind attributes = list_any (λ a. a.kind == kind) attributes

has-same : (kind : ℕ) (a : Attribute) (rest : List Attribute) → eqb a.kind kind ≡ true → has_kind kind (a ∷ rest) ≡ true
has-same kind a rest same = rw same refl

has-other : (kind : ℕ) (a : Attribute) (rest : List Attribute) → eqb a.kind kind ≡ false → has_kind kind (a ∷ rest) ≡ has_kind kind rest
has-other kind a rest other = rw other refl

pub wrong-length : (a : Attribute) (more : List Attribute) (right : List ℕ) → (length a.value ≡ 16 → ⊥) → message_from (a ∷ more) right ≡ Wrong
wrong-length a [] right other = rw (ne_eqb (length a.value) 16 other) refl
wrong-length a (b ∷ rest) right other = refl

-- another one stands behind it
pub wrong-again : (kind : ℕ) (a : Attribute) (after : List Attribute) (right : List ℕ) → has_kind kind after ≡ true → message_from (a ∷ those_of kind after) right ≡ Wrong
wrong-again kind a [] right some = cc
wrong-again kind a (b ∷ rest) right some =
    elim (cases_Bool (eqb b.kind kind)) [
      | inl same ↦ ap (λ (those : List Attribute). message_from (a ∷ those) right) (those-same kind b rest same)
      | inr other ↦ ap (λ (those : List Attribute). message_from (a ∷ those) right) (those-other kind b rest other) ∙ wrong-again kind a rest right (sym (has-other kind b rest other) ∙ some)
    ]

those-none : (kind : ℕ) (after : List Attribute) → has_kind kind after ≡ false → those_of kind after ≡ []
those-none kind [] none = refl
those-none kind (b ∷ rest) none =
    elim (cases_Bool (eqb b.kind kind)) [
      | inl same ↦ absurd (differ (sym (has-same kind b rest same) ∙ none))
      | inr other ↦ those-other kind b rest other ∙ those-none kind rest (sym (has-other kind b rest other) ∙ none)
    ]
  where
    differ : true ≡ false → ⊥
    differ e = cc

pub right-alone : (kind : ℕ) (a : Attribute) (after : List Attribute) (right : List ℕ) → has_kind kind after ≡ false → length a.value ≡ 16 → bytes_eq a.value right ≡ true → message_from (a ∷ those_of kind after) right ≡ Right
right-alone kind a after right none sixteen same =
    ap (λ (those : List Attribute). message_from (a ∷ those) right) (those-none kind after none) ∙ rw (eq-eqb (length a.value) 16 sixteen, same) refl

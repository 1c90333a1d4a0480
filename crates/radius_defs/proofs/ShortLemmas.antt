-- A length octet holds the length of a short value only.
use Rattle.std.proofs.Common.{ℕ, zero, suc, ◌+◌, ◌≤◌, ◌<◌, true, false, eqb, cond, List, [], ◌∷◌, ◌++◌, length, Option, None, Some, refl, subst, arith}
use Rattle.std.specs.Prelude.{find, slice_get, IfSome}
use Rattle.std.specs.Option.{option_map}
use Rattle.std.specs.List.{All}
use Rattle.std.proofs.lemmas.List.{drop_at}
use Rattle.std.proofs.lemmas.List.Elements.{All-nil, All-cons, All-head, All-tail, All-drop}
use Rattle.radius_defs.specs.declared.limit.TheConstants.{MOST_VALUE}
use Rattle.radius_defs.specs.Packet.{Attribute, attributes_text, first_value}

pub short-values : (attributes : List Attribute) → All (λ (octet : ℕ). octet < 256) (attributes_text attributes) → All (λ (a : Attribute). length a.value ≤ MOST_VALUE) attributes
short-values [] octets = All-nil (λ (a : Attribute). length a.value ≤ MOST_VALUE)
short-values (a ∷ rest) octets =
    let IsOctet : ℕ → Type 0 = λ octet. octet < 256 in
    let behind_kind = All-tail IsOctet a.kind ((length a.value + 2) ∷ (a.value ++ attributes_text rest)) octets in
    let size : length a.value + 2 < 256 = All-head IsOctet (length a.value + 2) (a.value ++ attributes_text rest) behind_kind in
    let behind = All-tail IsOctet (length a.value + 2) (a.value ++ attributes_text rest) behind_kind in
    let others : All IsOctet (attributes_text rest) = subst (All IsOctet) (drop_at a.value (attributes_text rest) (length a.value) refl) (All-drop IsOctet (length a.value) (a.value ++ attributes_text rest) behind) in
    All-cons (λ (b : Attribute). length b.value ≤ MOST_VALUE) a rest (omega arith) (short-values rest others)

-- so does each attribute that is found
pub found-short : (kind : ℕ) (attributes : List Attribute) → All (λ (a : Attribute). length a.value ≤ MOST_VALUE) attributes
    → IfSome (find (λ (a : Attribute). eqb a.kind kind) attributes) (λ a. length a.value ≤ MOST_VALUE)
found-short kind [] short = tt
found-short kind (a ∷ rest) short =
    let IsShort : Attribute → Type 0 = λ a. length a.value ≤ MOST_VALUE in
    elim (eqb a.kind kind) as (λ same. IfSome (cond same (Some a) (find (λ (b : Attribute). eqb b.kind kind) rest)) IsShort) [
      | true ↦ All-head IsShort a rest short
      | false ↦ found-short kind rest (All-tail IsShort a rest short)
    ]

pub value-short : (kind : ℕ) (attributes : List Attribute) → All (λ (a : Attribute). length a.value ≤ MOST_VALUE) attributes
    → IfSome (first_value kind attributes) (λ value. length value ≤ MOST_VALUE)
value-short kind attributes short = of_value (find (λ (a : Attribute). eqb a.kind kind) attributes) (found-short kind attributes short)
  where
    of_value : (found : Option Attribute) → IfSome found (λ a. length a.value ≤ MOST_VALUE) → IfSome (option_map (λ a. a.value) found) (λ value. length value ≤ MOST_VALUE)
    of_value None is = tt
    of_value (Some a) is = is

pub get-short : (attributes : List Attribute) (n : ℕ) → All (λ (a : Attribute). length a.value ≤ MOST_VALUE) attributes
    → IfSome (slice_get attributes n) (λ a. length a.value ≤ MOST_VALUE)
get-short [] n short = tt
get-short (a ∷ rest) zero short = All-head (λ (b : Attribute). length b.value ≤ MOST_VALUE) a rest short
get-short (a ∷ rest) (suc n) short = get-short rest n (All-tail (λ (b : Attribute). length b.value ≤ MOST_VALUE) a rest short)

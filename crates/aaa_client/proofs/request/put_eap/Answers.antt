use Rattle.std.proofs.Common.{◌≡◌, ℕ, min, ◌+◌, ◌*◌, ◌/◌, ◌≤◌, ◌<◌, List, [], ◌∷◌, ◌++◌, length, take, drop, map, sym, ap, ◌∙◌, arith, append_assoc, append-nil, inl, inr}
use Rattle.std.proofs.lemmas.Bool.{cases_lt, eqb-true, eqb-false}
use Rattle.std.proofs.lemmas.List.{take_all, length-take, length-drop, nil_from_length}
use Rattle.radius_defs.specs.Packet.{Attribute, Packet}
use Rattle.radius_defs.specs.declared.attribute.TheConstants.{EAP_MESSAGE}
use Rattle.aaa_defs.specs.Request.{attribute, pieces}
use Rattle.aaa_defs.proofs.Pieces.{pieces-more, pieces-none}
use Rattle.aaa_client.proofs.request.put_eap.Goals as goal

drop_all : (n : ℕ) (xs : List ℕ) → length xs ≤ n → drop n xs ≡ []
drop_all n xs most = nil_from_length (drop n xs) (omega (arith, most, length-drop n xs))

first : (n : ℕ) (xs : List ℕ) → n ≡ min (length xs) 253 → take n xs ≡ take 253 xs
first n xs is =
    elim (cases_lt (length xs) 253) [
      | inl few ↦ take_all n xs (omega (arith, is, few)) ∙ sym (take_all 253 xs (omega (arith, few)))
      | inr many ↦ let e : n ≡ 253 = omega (arith, is, many) in ap (λ k. take k xs) e
    ]

after : (n : ℕ) (xs : List ℕ) → n ≡ min (length xs) 253 → drop n xs ≡ drop 253 xs
after n xs is =
    elim (cases_lt (length xs) 253) [
      | inl few ↦ drop_all n xs (omega (arith, is, few)) ∙ sym (drop_all 253 xs (omega (arith, few)))
      | inr many ↦ let e : n ≡ 253 = omega (arith, is, many) in ap (λ k. drop k xs) e
    ]

one-piece : (rest : List ℕ) (n : ℕ) → 0 < length rest → n ≡ min (length rest) 253 → take n rest ∷ pieces (drop n rest) ≡ pieces rest
one-piece rest n some is = rw (first n rest is, after n rest is) (sym (pieces-more rest some))

-- the octets that are left, and two for each piece
room-left : (rest : List ℕ) (n : ℕ) → 0 < length rest → n ≡ min (length rest) 253
    → 2 + length (take n rest) + length (drop n rest) + 2 * ((length (drop n rest) + 252) / 253) ≤ length rest + 2 * ((length rest + 252) / 253)
room-left rest n some is = omega (arith, some, is, length-take n rest, length-drop n rest)

pub loop-rest-preserved : goal.loop-rest-preserved
loop-rest-preserved c =
    let rest : List ℕ = c.loop-rest.rest.now in
    let n : ℕ = c.min.result in
    let some : 0 < length rest = omega (arith, eqb-false (length rest) 0 (sym c.is_empty.ensures ∙ c.loop-rest-test.true)) in
    let front : List Attribute = c.loop-rest.packet.attributes in
    let piece : c.split_at.result.0.now ≡ take n rest = c.split_at.ensures.front in
    let back : c.split_at.result.1.now ≡ drop n rest = c.split_at.ensures.back in
    let all : (front ++ attribute EAP_MESSAGE c.split_at.result.0.now ∷ []) ++ map (attribute EAP_MESSAGE) (pieces c.split_at.result.1.now) ≡ front ++ map (attribute EAP_MESSAGE) (pieces rest) =
    append_assoc front (attribute EAP_MESSAGE c.split_at.result.0.now ∷ []) (map (attribute EAP_MESSAGE) (pieces c.split_at.result.1.now))
    ∙ ap (λ (p : List ℕ). front ++ attribute EAP_MESSAGE p ∷ map (attribute EAP_MESSAGE) (pieces c.split_at.result.1.now)) piece
    ∙ ap (λ (p : List ℕ). front ++ attribute EAP_MESSAGE (take n rest) ∷ map (attribute EAP_MESSAGE) (pieces p)) back
    ∙ ap (λ (ps : List (List ℕ)). front ++ map (attribute EAP_MESSAGE) ps) (one-piece rest n some c.min.ensures) in (
      ap (λ (q : Packet). record q { attributes = q.attributes ++ map (attribute EAP_MESSAGE) (pieces c.split_at.result.1.now) }) c.add.ensures.added
          ∙ ap (λ (xs : List Attribute). record c.loop-rest.packet { attributes = xs }) all
          ∙ c.loop-rest.invariant.0,
      omega (arith, c.loop-rest.invariant.1, c.add.ensures.size, room-left rest n some c.min.ensures, ap length piece, ap length back),
    )

pub returns-clause-attributes : goal.returns-clause-attributes
returns-clause-attributes c =
    let rest : List ℕ = c.loop-rest.rest.now in
    let none : rest ≡ [] = nil_from_length rest (eqb-true (length rest) 0 (sym c.is_empty.ensures ∙ c.loop-rest-test.false)) in
    let same : c.loop-rest.packet.attributes ++ map (attribute EAP_MESSAGE) (pieces rest) ≡ c.loop-rest.packet.attributes =
    ap (λ (xs : List ℕ). c.loop-rest.packet.attributes ++ map (attribute EAP_MESSAGE) (pieces xs)) none
    ∙ ap (λ (ps : List (List ℕ)). c.loop-rest.packet.attributes ++ map (attribute EAP_MESSAGE) ps) pieces-none
    ∙ append-nil c.loop-rest.packet.attributes in
    ap (λ (xs : List Attribute). record c.loop-rest.packet { attributes = xs }) (sym same) ∙ c.loop-rest.invariant.0

use Rattle.std.proofs.Common.{◌≡◌, ℕ, List, ◌++◌, ◌+◌, ◌∷◌, [], ap, subst, sym, length, arith, append_assoc}
use Rattle.radius_defs.specs.Packet.{Attribute, attribute_text, written_over}
use Rattle.wire_defs.specs.Number.{two_octets}
use Rattle.radius_defs.proofs.WritingLemmas.{Holds, holds-from, holds-put, holds-text, holds-is, with_attribute}
use Rattle.radius_packet.proofs.builder.Builder.put.Goals as goal

abbrev added : (c : goal.After-overwrite) → Attribute
added c = record { kind = c.args.ty; value = c.args.value.now }

made : (c : goal.After-overwrite) → Holds c.overwrite.new.out.items (with_attribute c.args.self.now (added c))
made c =
    let old = holds-from c.self.inside.octets.items c.args.self.now c.self.invariant c.self.view_is in
    let n = c.len.result + 2 + length c.args.value.now in
    let e : c.overwrite.new.out.items ≡ written_over (c.self.inside.octets.items ++ attribute_text (added c)) 2 (two_octets n) =
    rw (c.overwrite.ensures, c.two_octets.ensures, c.append-2.ensures, c.append.ensures) (ap (λ (xs : List ℕ). written_over xs 2 (two_octets n)) (append_assoc c.self.inside.octets.items (c.args.ty ∷ (length c.args.value.now + 2) ∷ []) c.args.value.now)) in
    subst (λ octets. Holds octets (with_attribute c.args.self.now (added c))) (sym e) (holds-put c.self.inside.octets.items c.args.self.now (added c) n old (omega arith) (omega arith))

pub invariant_of-self : goal.invariant_of-self
invariant_of-self c = holds-text _ _ (made c)

pub returns-clause-ok : goal.returns-clause-ok
returns-clause-ok c = holds-is _ _ (made c)

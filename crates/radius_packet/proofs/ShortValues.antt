-- A value that a packet lends is as short as the attribute that it is of.
use Rattle.std.proofs.Common.{◌≡◌, ℕ, ◌≤◌, List, length, Option, Some, None, subst, sym}
use Rattle.std.specs.Prelude.{IfSome}
use Rattle.std.specs.Borrow.{Bor}
use Rattle.std.specs.Option.{option_map}
use Rattle.std.specs.List.{All}
use Rattle.radius_defs.specs.declared.limit.TheConstants.{MOST_VALUE}
use Rattle.radius_defs.specs.Packet.{Attribute, first_value}
use Rattle.radius_defs.proofs.ShortLemmas.{value-short}
use Rattle.radius_packet.specs.Views.{attribute, value_in}

pub lent-attribute : (lent : Option (ℕ × Bor (List ℕ))) (found : Option Attribute) → option_map attribute lent ≡ found → IfSome found (λ a. length a.value ≤ MOST_VALUE)
    → IfSome lent (λ a. length a.1.now ≤ MOST_VALUE)
lent-attribute None found same short = tt
lent-attribute (Some a) found same short = subst (λ (o : Option Attribute). IfSome o (λ b. length b.value ≤ MOST_VALUE)) (sym same) short

lent-value : (lent : Option (Bor (List ℕ))) (found : Option (List ℕ)) → value_in lent ≡ found → IfSome found (λ v. length v ≤ MOST_VALUE)
    → IfSome lent (λ v. length v.now ≤ MOST_VALUE)
lent-value None found same short = tt
lent-value (Some v) found same short = subst (λ (o : Option (List ℕ)). IfSome o (λ w. length w ≤ MOST_VALUE)) (sym same) short

pub lent-first : (lent : Option (Bor (List ℕ))) (kind : ℕ) (attributes : List Attribute) → value_in lent ≡ first_value kind attributes
    → All (λ (a : Attribute). length a.value ≤ MOST_VALUE) attributes → IfSome lent (λ v. length v.now ≤ MOST_VALUE)
lent-first lent kind attributes same short = lent-value lent (first_value kind attributes) same (value-short kind attributes short)

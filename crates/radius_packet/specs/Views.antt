-- An attribute as the code has it: its type, and its value where it lies.
use Rattle.std.specs.Prelude.{ℕ, List, Option}
use Rattle.std.specs.Borrow.{Bor}
use Rattle.std.specs.Option.{option_map}
use Rattle.radius_defs.specs.Packet.{Attribute}

abbrev pub attribute : ℕ × Bor (List ℕ) → Attribute
attribute x = record { kind = x.0; value = x.1.now }

-- a value that may be there
abbrev pub value_in : Option (Bor (List ℕ)) → Option (List ℕ)
value_in value = option_map (λ v. v.now) value

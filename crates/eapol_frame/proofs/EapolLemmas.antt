-- The fields of a packet, read one octet at a time.
use Rattle.std.proofs.Common.{◌≡◌, ℕ, ◌-◌, ◌≤◌, List, [], length, slice_index, drop, take, Ok, ap, ap₂, ◌∙◌, arith}
use Rattle.std.proofs.lemmas.List.{take_rest}
use Rattle.std.proofs.lemmas.Bool.Decides.{nat_tests}
use Rattle.wire_defs.specs.declared.Kind.{Kind}
use Rattle.wire_defs.specs.declared.Kind.TheVariants.{EapPacket, Start, Logoff}
use Rattle.wire_defs.specs.Number.{pair}
use Rattle.wire_defs.specs.Eapol.{eapol_of}

pub packet_read : (octets body : List ℕ) (kind : Kind) (size : ℕ) → 4 ≤ length octets → slice_index octets 1 ≡ 0 → size ≡ pair octets 2 → size ≤ length (take (length octets - 4) (drop 4 octets))
    → kind ≡ EapPacket → body ≡ take size (take (length octets - 4) (drop 4 octets))
    → eapol_of octets ≡ Ok (record { version = slice_index octets 0; kind = kind; body = body })
packet_read octets body kind size there number sized fits is_kind is =
    let whole : take (length octets - 4) (drop 4 octets) ≡ drop 4 octets = take_rest octets 4 in
    let short : pair octets 2 ≤ length (drop 4 octets) = omega (arith, ap length whole) in
    let carried : body ≡ take (pair octets 2) (drop 4 octets) = is ∙ ap₂ take sized whole in
    grind (arith, nat_tests)

pub start_read : (octets body : List ℕ) (kind : Kind) → 4 ≤ length octets → slice_index octets 1 ≡ 1 → kind ≡ Start → body ≡ []
    → eapol_of octets ≡ Ok (record { version = slice_index octets 0; kind = kind; body = body })
start_read octets body kind there number is_kind is = grind (arith, nat_tests)

pub logoff_read : (octets body : List ℕ) (kind : Kind) → 4 ≤ length octets → slice_index octets 1 ≡ 2 → kind ≡ Logoff → body ≡ []
    → eapol_of octets ≡ Ok (record { version = slice_index octets 0; kind = kind; body = body })
logoff_read octets body kind there number is_kind is = grind (arith, nat_tests)

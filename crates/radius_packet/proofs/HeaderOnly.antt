-- Octets that are a header alone.
use Rattle.std.proofs.Common.{◌≡◌, ◌∙◌, ℕ, List, [], ◌∷◌, length, append-nil, subst, sym, ap, arith}
use Rattle.radius_defs.specs.declared.limit.TheConstants.{HEADER_OCTETS}
use Rattle.radius_defs.specs.Packet.{Packet, packet_text, size_of}
use Rattle.radius_defs.specs.Reading.{packet_in, IsText}
use Rattle.radius_defs.proofs.WritingLemmas.{Holds, holds-new, holds-text, holds-is}

abbrev pub bare : ℕ → ℕ → List ℕ → Packet
bare code identifier auth = record { code = code; identifier = identifier; authenticator = auth; attributes = [] }

holds : (octets : List ℕ) (code identifier : ℕ) (auth : List ℕ) → octets ≡ code ∷ identifier ∷ 0 ∷ 20 ∷ auth → length auth ≡ 16 → Holds octets (bare code identifier auth)
holds octets code identifier auth is sixteen = subst (λ xs. Holds xs (bare code identifier auth)) (sym is) (holds-new code identifier auth sixteen)

pub header-text : (octets : List ℕ) (code identifier : ℕ) (auth : List ℕ) → octets ≡ code ∷ identifier ∷ 0 ∷ 20 ∷ auth → length auth ≡ 16 → IsText octets
header-text octets code identifier auth is sixteen = holds-text octets (bare code identifier auth) (holds octets code identifier auth is sixteen)

pub header-packet : (octets : List ℕ) (code identifier : ℕ) (auth : List ℕ) → octets ≡ code ∷ identifier ∷ 0 ∷ 20 ∷ auth → length auth ≡ 16 → packet_in octets ≡ bare code identifier auth
header-packet octets code identifier auth is sixteen = holds-is octets (bare code identifier auth) (holds octets code identifier auth is sixteen)

pub header-size : (octets : List ℕ) (code identifier : ℕ) (auth : List ℕ) → octets ≡ code ∷ identifier ∷ 0 ∷ 20 ∷ auth → length auth ≡ 16 → size_of (packet_in octets) ≡ HEADER_OCTETS
unfolding size_of
header-size octets code identifier auth is sixteen =
    ap (λ (p : Packet). length (packet_text p)) (header-packet octets code identifier auth is sixteen) ∙ omega (arith, sixteen, ap length (append-nil auth))

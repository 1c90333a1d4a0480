-- The digests by which RADIUS packets are told to be true: MD5 (RFC 1321) and HMAC-MD5 of joined octets.
use Rattle.std.specs.Prelude.{ℕ, ◌-◌, nat_lt, if◌then◌else◌, List, ◌++◌, length, map, replicate, bit_xor}
use Rattle.md5.specs.Md5.{md5}
use Rattle.radius_defs.specs.Packet.{written_over}

abbrev pub zeros : ℕ → List ℕ
zeros n = replicate n 0

-- octets with zeros behind them, 64 in all
abbrev pub block_of : List ℕ → List ℕ
block_of octets = octets ++ zeros (64 - length octets)

-- a key as a block of 64 octets: its digest in place of one that is longer (RFC 2104, sections 2 and 3)
abbrev pub key_block : List ℕ → List ℕ
key_block key = if nat_lt 64 (length key) then block_of (md5 key) else block_of key

-- each octet of the key's block changed by the pad
abbrev pub masked : List ℕ → ℕ → List ℕ
masked key pad = map (λ octet. bit_xor octet pad) (key_block key)

-- HMAC-MD5: 5C is the outer pad, 36 the inner one (RFC 2104, section 2)
abbrev pub hmac : List ℕ → List ℕ → List ℕ
hmac key text = md5 (masked key 0x5c ++ md5 (masked key 0x36 ++ text))

-- the authenticator of an answer: the packet with the request's authenticator, and the secret (RFC 2865, section 3)
abbrev pub response_auth : List ℕ → List ℕ → List ℕ → List ℕ
response_auth packet request secret = md5 (written_over packet 4 request ++ secret)

-- the authenticator of a dynamic request: the packet with zeros in its place, and the secret (RFC 5176, section 2.3; RFC 2866, section 3)
abbrev pub request_auth : List ℕ → List ℕ → List ℕ
request_auth packet secret = md5 (written_over packet 4 (zeros 16) ++ secret)

-- Message-Authenticator: HMAC of the packet with this authenticator, and zeros in the 16 octets of the value (RFC 3579, section 3.2)
abbrev pub message_auth : List ℕ → List ℕ → ℕ → List ℕ → List ℕ
message_auth packet auth at secret = hmac secret (written_over (written_over packet 4 auth) at (zeros 16))

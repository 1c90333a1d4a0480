-- The replies that are kept for one client, oldest first, and the one that a request that comes again is given.
use Rattle.std.specs.Prelude.{ℕ, ◌+◌, List, [], ◌∷◌, ◌++◌, Bool, ◌&&◌, ◌==◌, nat_le, Option, Some, None, if◌then◌else◌}
use Rattle.std.specs.Option.{option_or}
use Rattle.std.specs.Str.{bytes_eq}
use Rattle.circular_buffer.specs.Buffer.{keep_last}
use Rattle.kept_defs.specs.declared.TheConstants.{MOST_KEPT, KEPT_SECONDS}

-- a reply that was sent: the second at which it was kept, the source port and the octets of the request, and the octets of the
-- reply
pub record Entry : Type 0 where
  pub moment : ℕ
  pub sport : ℕ
  pub request : List ℕ
  pub reply : List ℕ

-- a request of the client is the kept one come again where it has the same source port and the same octets, and comes within
-- 30 seconds from the moment of the kept one on (RFC 5176, section 2.3; RFC 5080, section 2.2.2)
abbrev pub is_repeat : (sport : ℕ) → (request : List ℕ) → (now : ℕ) → Entry → Bool
is_repeat sport request now e =
    e.sport == sport && nat_le e.moment now && nat_le now (e.moment + KEPT_SECONDS) && bytes_eq e.request request

-- the reply of the newest entry of which the request is come again (RFC 5176, section 2.3)
abbrev pub newest_reply : (sport : ℕ) → (request : List ℕ) → (now : ℕ) → List Entry → Option (List ℕ)
newest_reply sport request now [] = None
newest_reply sport request now (e ∷ newer) =
    option_or (newest_reply sport request now newer) (if is_repeat sport request now e then Some e.reply else None)

-- one more reply is kept, and of all the last 64
abbrev pub with_newest : Entry → List Entry → List Entry
with_newest e entries = keep_last MOST_KEPT (entries ++ e ∷ [])

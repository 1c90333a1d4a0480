-- A request has no Message-Authenticator before it is signed.
use Rattle.std.proofs.Common.{◌≡◌, ℕ, List, [], ◌∷◌, ◌++◌, map, Option, Some, None, refl}
use Rattle.switch_event.specs.Config.{Config}
use Rattle.radius_defs.specs.declared.attribute.TheConstants.{EAP_MESSAGE, MESSAGE_AUTHENTICATOR}
use Rattle.radius_defs.specs.Packet.{first_value}
use Rattle.aaa_defs.specs.Request.{Ask, attribute, pieces, request_attributes, state_attributes}

none-in-pieces : (ps : List (List ℕ)) → first_value MESSAGE_AUTHENTICATOR (map (attribute EAP_MESSAGE) ps) ≡ None
none-in-pieces [] = refl
none-in-pieces (p ∷ rest) = none-in-pieces rest

none-behind : (state : Option (List ℕ)) (ps : List (List ℕ)) → first_value MESSAGE_AUTHENTICATOR (state_attributes state ++ map (attribute EAP_MESSAGE) ps) ≡ None
none-behind None ps = none-in-pieces ps
none-behind (Some value) ps = none-in-pieces ps

pub not-signed : (c : Config) (a : Ask) (session : ℕ) → first_value MESSAGE_AUTHENTICATOR (request_attributes c a session) ≡ None
not-signed c a session = none-behind a.state (pieces a.eap)

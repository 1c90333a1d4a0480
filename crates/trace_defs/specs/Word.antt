-- The words of a line and what they write.
use Rattle.std.specs.Prelude.{ℕ, ◌==◌, ◌&&◌, nat_le, Bool, true, false, if◌then◌else◌, List, [], ◌∷◌, length, Option, Some, None, Result, Ok, Err, codes}
use Rattle.std.specs.List.{slice_split}
use Rattle.std.specs.Str.{bytes_eq}
use Rattle.hex.specs.Hex.{decode_of}
use Rattle.hex.specs.declared.error.FromHexError.{FromHexError}
use Rattle.machine_vars.specs.declared.control.Control.{Control as PortControl}
use Rattle.machine_vars.specs.declared.control.Control.TheVariants.{Auto, ForceAuth, ForceUnauth}
use Rattle.wire_defs.specs.Number.{number_in}
use Rattle.trace_defs.specs.declared.keyword.Keyword.{Keyword}
use Rattle.trace_defs.specs.declared.keyword.Keyword.TheVariants.{Setting, Record, Sync}
use Rattle.trace_defs.specs.declared.keyword.SettingWord.TheVariants.{Bridge, Nas, Server, Client, Port, Restricted, Guest, Set, Clock, Seed, Begin}
use Rattle.trace_defs.specs.declared.keyword.RecordWord.TheVariants.{Frame, Radius, Dyn, Tick, Link, Control}
use Rattle.trace_defs.specs.declared.keyword.Timing.{Timing}
use Rattle.trace_defs.specs.declared.keyword.Timing.TheVariants.{QuietPeriod, ServerTimeout, ReauthMax, ReauthPeriod, Reauth, GuestWait, DynWindow, RequireMa}

-- the first word of a line
abbrev pub setting_of : List ℕ → Option Keyword
setting_of word =
    if bytes_eq word (codes "bridge") then Some (Setting Bridge)
    else if bytes_eq word (codes "nas") then Some (Setting Nas)
    else if bytes_eq word (codes "server") then Some (Setting Server)
    else if bytes_eq word (codes "client") then Some (Setting Client)
    else if bytes_eq word (codes "port") then Some (Setting Port)
    else if bytes_eq word (codes "restricted") then Some (Setting Restricted)
    else if bytes_eq word (codes "guest") then Some (Setting Guest)
    else if bytes_eq word (codes "set") then Some (Setting Set)
    else if bytes_eq word (codes "clock") then Some (Setting Clock)
    else if bytes_eq word (codes "seed") then Some (Setting Seed)
    else if bytes_eq word (codes "begin") then Some (Setting Begin)
    else None

abbrev pub keyword_of : List ℕ → Option Keyword
keyword_of word =
    if bytes_eq word (codes "frame") then Some (Record Frame)
    else if bytes_eq word (codes "radius") then Some (Record Radius)
    else if bytes_eq word (codes "dyn") then Some (Record Dyn)
    else if bytes_eq word (codes "tick") then Some (Record Tick)
    else if bytes_eq word (codes "link") then Some (Record Link)
    else if bytes_eq word (codes "control") then Some (Record Control)
    else if bytes_eq word (codes "sync") then Some Sync
    else setting_of word

-- the word behind `set`
abbrev pub timing_of : List ℕ → Option Timing
timing_of word =
    if bytes_eq word (codes "quiet-period") then Some QuietPeriod
    else if bytes_eq word (codes "server-timeout") then Some ServerTimeout
    else if bytes_eq word (codes "reauth-max") then Some ReauthMax
    else if bytes_eq word (codes "reauth-period") then Some ReauthPeriod
    else if bytes_eq word (codes "reauth") then Some Reauth
    else if bytes_eq word (codes "guest-wait") then Some GuestWait
    else if bytes_eq word (codes "dyn-window") then Some DynWindow
    else if bytes_eq word (codes "require-ma") then Some RequireMa
    else None

-- the lane that a word marks
abbrev pub lane_of : List ℕ → Option ℕ
lane_of word =
    if bytes_eq word (codes "@1") then Some 1
    else if bytes_eq word (codes "@2") then Some 2
    else if bytes_eq word (codes "@3") then Some 3
    else None

-- exactly so many words
abbrev pub one_of : List (List ℕ) → Option (List ℕ)
one_of (word ∷ []) = Some word
one_of rest = None

abbrev pub two_of : List (List ℕ) → Option (List ℕ × List ℕ)
two_of (first ∷ second ∷ []) = Some (first, second)
two_of rest = None

abbrev pub three_of : List (List ℕ) → Option (List ℕ × List ℕ × List ℕ)
three_of (first ∷ second ∷ third ∷ []) = Some (first, second, third)
three_of rest = None

-- the socket and the octets of `radius`, where the first socket may be left out
abbrev pub socket_of : List (List ℕ) → Option (List ℕ × List ℕ)
socket_of (octets ∷ []) = Some (codes "0", octets)
socket_of words = two_of words

-- an address of IPv4: four numbers with dots
abbrev pub four_of : List (List ℕ) → Option (List ℕ)
four_of (a ∷ b ∷ c ∷ d ∷ []) =
    all_of (number_in 0 255 a) (number_in 0 255 b) (number_in 0 255 c) (number_in 0 255 d)
  where
    all_of : Option ℕ → Option ℕ → Option ℕ → Option ℕ → Option (List ℕ)
    all_of (Some a) (Some b) (Some c) (Some d) = Some (a ∷ b ∷ c ∷ d ∷ [])
    all_of a b c d = None
four_of rest = None

abbrev pub address_of : List ℕ → Option (List ℕ)
address_of word = four_of (slice_split (λ octet. octet == 46) word)

abbrev pub decoded : Result (List ℕ) FromHexError → Option (List ℕ)
decoded (Ok octets) = Some octets
decoded (Err e) = None

-- octets as pairs of hexadecimal digits, or none as a dash
abbrev pub hex_of : List ℕ → Option (List ℕ)
hex_of word = if bytes_eq word (codes "-") then Some [] else decoded (decode_of word)

-- where there are so many of them
abbrev pub sized : ℕ → ℕ → Option (List ℕ) → Option (List ℕ)
sized least most None = None
sized least most (Some octets) =
    if nat_le least (length octets) && nat_le (length octets) most then Some octets else None

abbrev pub hex_in : ℕ → ℕ → List ℕ → Option (List ℕ)
hex_in least most word = sized least most (hex_of word)

-- a name of at most 32 octets
abbrev pub name_of : List ℕ → Option (List ℕ)
name_of word = if nat_le (length word) 32 then Some word else None

abbrev pub control_of : List ℕ → Option PortControl
control_of word =
    if bytes_eq word (codes "auto") then Some Auto
    else if bytes_eq word (codes "force-auth") then Some ForceAuth
    else if bytes_eq word (codes "force-unauth") then Some ForceUnauth
    else None

abbrev pub link_of : List ℕ → Option Bool
link_of word =
    if bytes_eq word (codes "up") then Some true
    else if bytes_eq word (codes "down") then Some false
    else None

abbrev pub switch_of : List ℕ → Option Bool
switch_of word =
    if bytes_eq word (codes "on") then Some true
    else if bytes_eq word (codes "off") then Some false
    else None

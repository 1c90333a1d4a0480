-- What a line of a trace means, or the reason to refuse it.
use Rattle.std.specs.Prelude.{ℕ, ◌==◌, ◌&&◌, ◌||◌, ◌^◌, nat_le, nat_lt, Bool, true, false, not, if◌then◌else◌, List, [], ◌∷◌, ◌++◌, map, length, Option, Some, None, Result, Ok, Err, bit_and, bit_or, is_some, is_none}
use Rattle.std.specs.List.{list_all, list_any}
use Rattle.std.specs.Str.Lines.{strip_carriage_return}
use Rattle.machine_vars.specs.declared.control.Times.{Times}
use Rattle.wire_defs.specs.Number.{number_in}
use Rattle.wire_defs.specs.Ethernet.{is_control}
use Rattle.wire_defs.specs.Text.{words}
use Rattle.switch_event.specs.declared.config.PortConf.{PortConf}
use Rattle.switch_event.specs.Config.{Config, Client, has_port, has_client}
use Rattle.switch_event.specs.Event.{Happening, Frame, Radius, Dynamic, Second, Link, SetControl}
use Rattle.trace_defs.specs.declared.keyword.Keyword.{Keyword}
use Rattle.trace_defs.specs.declared.keyword.Keyword.TheVariants.{Setting as IsSetting, Record as IsRecord, Sync as IsSync}
use Rattle.trace_defs.specs.declared.keyword.SettingWord.{SettingWord}
use Rattle.trace_defs.specs.declared.keyword.SettingWord.TheVariants as setting
use Rattle.trace_defs.specs.declared.keyword.OtherVlan.{OtherVlan}
use Rattle.trace_defs.specs.declared.keyword.OtherVlan.TheVariants.{Restricted, Guest}
use Rattle.trace_defs.specs.declared.keyword.RecordWord.{RecordWord}
use Rattle.trace_defs.specs.declared.keyword.RecordWord.TheVariants as entry
use Rattle.trace_defs.specs.declared.keyword.Timing.{Timing}
use Rattle.trace_defs.specs.declared.keyword.Timing.TheVariants.{QuietPeriod, ServerTimeout, ReauthMax, ReauthPeriod, Reauth, GuestWait, DynWindow, RequireMa}
use Rattle.trace_defs.specs.declared.given.TheConstants.{BRIDGE, NAS, SERVER, QUIET_PERIOD, SERVER_TIMEOUT, REAUTH_MAX, REAUTH_PERIOD, REAUTH, DYN_WINDOW, CLOCK, SEED, GUEST_WAIT, REQUIRE_MA}
use Rattle.trace_defs.specs.declared.limit.TheConstants.{MOST_LINE_OCTETS, MOST_FRAME_OCTETS, MOST_DATAGRAM_OCTETS, MOST_CLIENTS}
use Rattle.trace_defs.specs.declared.reason.TheConstants.{LONG, OCTET, LANE, WORD, PLACE, COUNT, NUMBER, HEX, NAME, PORT, LANED, TWICE, MISSING}
use Rattle.trace_defs.specs.Refusal.{◌>>=◌, or_refused, unless}
use Rattle.trace_defs.specs.Word.{keyword_of, timing_of, lane_of, one_of, two_of, three_of, socket_of, address_of, hex_in, name_of, control_of, link_of, switch_of}

-- a control event with its lane, or a data frame with its port
pub data Record : Type 0 where
  Control : (lane : ℕ) → Happening → Record
  Data : (port : ℕ) → (octets : List ℕ) → Record

-- what a line means. A setting gives the settings after it, and the bits of those that were given
pub data Line : Type 0 where
  Blank : Line
  Begin : Line
  Sync : Line
  Setting : Config → (given : ℕ) → Line
  Entry : Record → Line

-- no more words
abbrev pub alone : Result Line ℕ → List (List ℕ) → Result Line ℕ
alone line [] = line
alone line (word ∷ rest) = Err COUNT

-- ---- settings

-- the settings that were given, a bit for each
abbrev pub was_given : ℕ → ℕ → Bool
was_given k given = not (bit_and given (2 ^ k) == 0)

abbrev pub with_given : ℕ → ℕ → ℕ
with_given k given = bit_or given (2 ^ k)

-- all that are given once: the bits from the first to the thirteenth
abbrev pub all_given : ℕ
all_given = 8191

-- a setting that is given once
abbrev pub once : ℕ → ℕ → Config → Result Line ℕ
once k given config =
    unless ((was_given k given, TWICE) ∷ []) (Ok (Setting config (with_given k given)))

-- `bridge ADDRESS`
abbrev pub bridge_line : Config → ℕ → List (List ℕ) → Result Line ℕ
bridge_line config given args = do
  word ← or_refused (one_of args) COUNT
  bridge ← or_refused (hex_in 6 6 word) HEX
  once BRIDGE given (record config { bridge = bridge })

-- `nas IP NAME`
abbrev pub nas_line : Config → ℕ → List (List ℕ) → Result Line ℕ
nas_line config given args = do
  word ← or_refused (two_of args) COUNT
  ip ← or_refused (address_of word.0) NUMBER
  name ← or_refused (name_of word.1) NAME
  once NAS given (record config { nas = record { ip = ip; name = name } })

-- `server IP PORT SECRET`
abbrev pub server_line : Config → ℕ → List (List ℕ) → Result Line ℕ
server_line config given args = do
  word ← or_refused (three_of args) COUNT
  ip ← or_refused (address_of word.0) NUMBER
  port ← or_refused (number_in 1 65535 word.1) NUMBER
  secret ← or_refused (hex_in 1 64 word.2) HEX
  once SERVER given (record config { server = record { ip = ip; port = port }; secret = secret })

-- `client IP SECRET`
abbrev pub client_line : Config → ℕ → List (List ℕ) → Result Line ℕ
client_line config given args = do
  word ← or_refused (two_of args) COUNT
  ip ← or_refused (address_of word.0) NUMBER
  secret ← or_refused (hex_in 1 64 word.1) HEX
  let client : Client = record { ip = ip; secret = secret }
  unless ((has_client ip config || nat_le MOST_CLIENTS (length config.clients), TWICE) ∷ [])
      (Ok (Setting (record config { clients = config.clients ++ client ∷ [] }) given))

-- `port NUMBER VLAN CONTROL`
abbrev pub port_line : Config → ℕ → List (List ℕ) → Result Line ℕ
port_line config given args = do
  word ← or_refused (three_of args) COUNT
  port ← or_refused (number_in 1 60 word.0) NUMBER
  native ← or_refused (number_in 1 4094 word.1) NUMBER
  control ← or_refused (control_of word.2) NAME
  let conf : PortConf =
      record { port = port; native = native; control = control; restricted = 0; guest = 0 }
  unless ((has_port port config, TWICE) ∷ [])
      (Ok (Setting (record config { ports = config.ports ++ conf ∷ [] }) given))

-- a VLAN of a port beside the one of its hosts, 0 where there is none
abbrev pub other_vlan : OtherVlan → PortConf → ℕ
other_vlan Restricted p = p.restricted
other_vlan Guest p = p.guest

abbrev pub with_other_vlan : OtherVlan → ℕ → PortConf → PortConf
with_other_vlan Restricted vlan p = record p { restricted = vlan }
with_other_vlan Guest vlan p = record p { guest = vlan }

abbrev pub has_other_vlan : OtherVlan → ℕ → List PortConf → Bool
has_other_vlan other port ports =
    list_any (λ p. p.port == port && not (other_vlan other p == 0)) ports

-- the ports, where that of a number has another VLAN
abbrev pub change_vlan : OtherVlan → (port vlan : ℕ) → PortConf → PortConf
change_vlan other port vlan p = if p.port == port then with_other_vlan other vlan p else p

abbrev pub give_vlan : OtherVlan → (port vlan : ℕ) → List PortConf → List PortConf
give_vlan other port vlan ports = map (change_vlan other port vlan) ports

-- `restricted NUMBER VLAN` and `guest NUMBER VLAN`
abbrev pub vlan_line : OtherVlan → Config → ℕ → List (List ℕ) → Result Line ℕ
vlan_line other config given args = do
  word ← or_refused (two_of args) COUNT
  port ← or_refused (number_in 1 60 word.0) NUMBER
  vlan ← or_refused (number_in 1 4094 word.1) NUMBER
  unless ((not (has_port port config), PORT) ∷ (has_other_vlan other port config.ports, TWICE) ∷ [])
      (Ok (Setting (record config { ports = give_vlan other port vlan config.ports }) given))

abbrev pub with_times : Config → Times → Config
with_times config times = record config { times = times }

-- `set quiet-period SECONDS` and the like
abbrev pub timing_line : Config → ℕ → Timing → List ℕ → Result Line ℕ
timing_line config given QuietPeriod word = do
  n ← or_refused (number_in 1 65535 word) NUMBER
  once QUIET_PERIOD given (with_times config (record config.times { quiet = n }))
timing_line config given ServerTimeout word = do
  n ← or_refused (number_in 1 65535 word) NUMBER
  once SERVER_TIMEOUT given (with_times config (record config.times { server = n }))
timing_line config given ReauthMax word = do
  n ← or_refused (number_in 1 10 word) NUMBER
  once REAUTH_MAX given (with_times config (record config.times { reauth_max = n }))
timing_line config given ReauthPeriod word = do
  n ← or_refused (number_in 1 4294967295 word) NUMBER
  once REAUTH_PERIOD given (with_times config (record config.times { reauth_period = n }))
timing_line config given Reauth word = do
  on ← or_refused (switch_of word) NAME
  once REAUTH given (with_times config (record config.times { reauth = on }))
timing_line config given GuestWait word = do
  n ← or_refused (number_in 1 65535 word) NUMBER
  once GUEST_WAIT given (record config { guest_wait = n })
timing_line config given DynWindow word = do
  n ← or_refused (number_in 1 86400 word) NUMBER
  once DYN_WINDOW given (record config { window = n })
timing_line config given RequireMa word = do
  on ← or_refused (switch_of word) NAME
  once REQUIRE_MA given (record config { require_ma = on })

abbrev pub set_line : Config → ℕ → List (List ℕ) → Result Line ℕ
set_line config given args = do
  word ← or_refused (two_of args) COUNT
  timing ← or_refused (timing_of word.0) WORD
  timing_line config given timing word.1

-- `clock SECONDS`
abbrev pub clock_line : Config → ℕ → List (List ℕ) → Result Line ℕ
clock_line config given args = do
  word ← or_refused (one_of args) COUNT
  n ← or_refused (number_in 0 4294967295 word) NUMBER
  once CLOCK given (record config { clock = n })

-- `seed OCTETS`
abbrev pub seed_line : Config → ℕ → List (List ℕ) → Result Line ℕ
seed_line config given args = do
  word ← or_refused (one_of args) COUNT
  seed ← or_refused (hex_in 32 32 word) HEX
  once SEED given (record config { seed = seed })

-- `begin`, after `server`
abbrev pub begin_line : ℕ → List (List ℕ) → Result Line ℕ
begin_line given args =
    alone (unless ((not (was_given SERVER given), MISSING) ∷ []) (Ok Begin)) args

-- a setting by its first word and those behind it
abbrev pub setting_line : Config → ℕ → SettingWord → List (List ℕ) → Result Line ℕ
setting_line config given setting.Bridge args = bridge_line config given args
setting_line config given setting.Nas args = nas_line config given args
setting_line config given setting.Server args = server_line config given args
setting_line config given setting.Client args = client_line config given args
setting_line config given setting.Port args = port_line config given args
setting_line config given setting.Restricted args = vlan_line Restricted config given args
setting_line config given setting.Guest args = vlan_line Guest config given args
setting_line config given setting.Set args = set_line config given args
setting_line config given setting.Clock args = clock_line config given args
setting_line config given setting.Seed args = seed_line config given args
setting_line config given setting.Begin args = begin_line given args

-- ---- records

-- the lane of a mark, or lane 1 without one
abbrev pub in_lane : Option ℕ → ℕ
in_lane None = 1
in_lane (Some lane) = lane

-- a control event in its lane
abbrev pub event_line : Option ℕ → Happening → Result Line ℕ
event_line lane event = Ok (Entry (Control (in_lane lane) event))

-- `frame PORT OCTETS`: a frame of the type of EAPOL is a control event, any other is data
abbrev pub frame_line : Config → Option ℕ → List (List ℕ) → Result Line ℕ
frame_line config lane args = do
  word ← or_refused (two_of args) COUNT
  port ← or_refused (number_in 1 60 word.0) NUMBER
  octets ← or_refused (hex_in 0 MOST_FRAME_OCTETS word.1) HEX
  unless
      ((not (has_port port config), PORT) ∷ (not (is_control octets) && is_some lane, LANED) ∷ [])
      (if is_control octets then event_line lane (Frame port octets)
      else Ok (Entry (Data port octets)))

-- `radius OCTETS` for socket 0, and `radius SOCKET OCTETS`
abbrev pub radius_line : Option ℕ → List (List ℕ) → Result Line ℕ
radius_line lane args = do
  word ← or_refused (socket_of args) COUNT
  socket ← or_refused (number_in 0 4 word.0) NUMBER
  octets ← or_refused (hex_in 0 MOST_DATAGRAM_OCTETS word.1) HEX
  event_line lane (Radius socket octets)

-- `dyn IP PORT OCTETS`
abbrev pub dyn_line : Option ℕ → List (List ℕ) → Result Line ℕ
dyn_line lane args = do
  word ← or_refused (three_of args) COUNT
  ip ← or_refused (address_of word.0) NUMBER
  port ← or_refused (number_in 0 65535 word.1) NUMBER
  octets ← or_refused (hex_in 0 MOST_DATAGRAM_OCTETS word.2) HEX
  event_line lane (Dynamic (record { ip = ip; port = port }) octets)

-- an event on a port
abbrev pub port_event : Config → Option ℕ → ℕ → Happening → Result Line ℕ
port_event config lane port event =
    unless ((not (has_port port config), PORT) ∷ []) (event_line lane event)

-- `link PORT up` and `link PORT down`
abbrev pub link_line : Config → Option ℕ → List (List ℕ) → Result Line ℕ
link_line config lane args = do
  word ← or_refused (two_of args) COUNT
  port ← or_refused (number_in 1 60 word.0) NUMBER
  up ← or_refused (link_of word.1) NAME
  port_event config lane port (Link port up)

-- `control PORT CONTROL`
abbrev pub control_line : Config → Option ℕ → List (List ℕ) → Result Line ℕ
control_line config lane args = do
  word ← or_refused (two_of args) COUNT
  port ← or_refused (number_in 1 60 word.0) NUMBER
  control ← or_refused (control_of word.1) NAME
  port_event config lane port (SetControl port control)

-- a record by its first word and those behind it
abbrev pub record_line : Config → Option ℕ → RecordWord → List (List ℕ) → Result Line ℕ
record_line config lane entry.Frame args = frame_line config lane args
record_line config lane entry.Radius args = radius_line lane args
record_line config lane entry.Dyn args = dyn_line lane args
record_line config lane entry.Tick args = alone (event_line lane Second) args
record_line config lane entry.Link args = link_line config lane args
record_line config lane entry.Control args = control_line config lane args

-- ---- a line

-- how a line begins: whether with the mark of a lane, the lane that it marks, and what the word
-- behind it says; and the words behind that
pub record Head : Type 0 where
  pub marked : Bool
  pub lane : Option ℕ
  pub keyword : Option Keyword
  pub args : List (List ℕ)

-- a word that begins with an at sign marks a lane
abbrev pub is_mark : List ℕ → Bool
is_mark [] = false
is_mark (octet ∷ rest) = octet == 64

abbrev pub behind_mark : Option ℕ → List (List ℕ) → Head
behind_mark lane [] = record { marked = true; lane = lane; keyword = None; args = [] }
behind_mark lane (word ∷ args) =
    record { marked = true; lane = lane; keyword = keyword_of word; args = args }

abbrev pub head_of : (first : List ℕ) → (behind : List (List ℕ)) → Head
head_of word rest =
    if is_mark word then behind_mark (lane_of word) rest
    else record { marked = false; lane = None; keyword = keyword_of word; args = rest }

abbrev pub is_record : Option Keyword → Bool
is_record (Some (IsRecord word)) = true
is_record other = false

-- behind the mark of a lane stands the word of a control event; that a frame is one is seen later
abbrev pub has_wrong_lane : Head → Bool
has_wrong_lane head = head.marked && (is_none head.lane || not (is_record head.keyword))

-- `set` alone lacks a word, and has no unknown one
abbrev pub is_unknown_timing : List (List ℕ) → Bool
is_unknown_timing [] = false
is_unknown_timing (word ∷ rest) = is_none (timing_of word)

abbrev pub is_unknown : Option Keyword → List (List ℕ) → Bool
is_unknown None args = true
is_unknown (Some (IsSetting setting.Set)) args = is_unknown_timing args
is_unknown (Some keyword) args = false

-- settings and `begin` stand before `begin`, all else after it
abbrev pub is_misplaced : (begun : Bool) → Option Keyword → Bool
is_misplaced begun (Some (IsSetting word)) = begun
is_misplaced begun other = not begun

-- the octets of a line that is no comment: from the space to the tilde
abbrev pub is_printable : ℕ → Bool
is_printable octet = nat_le 32 octet && nat_le octet 126

-- the reasons that come before the count of words, in the order in which they are looked for
abbrev pub checks : (begun : Bool) → List ℕ → Head → List (Bool × ℕ)
checks begun text head =
    (nat_lt MOST_LINE_OCTETS (length text), LONG)
    ∷ (not (list_all is_printable text), OCTET)
    ∷ (has_wrong_lane head, LANE)
    ∷ (is_unknown head.keyword head.args, WORD)
    ∷ (is_misplaced begun head.keyword, PLACE)
    ∷ []

abbrev pub keyword_line : Config → ℕ → Option ℕ → Option Keyword → List (List ℕ) → Result Line ℕ
keyword_line config given lane (Some (IsSetting word)) args = setting_line config given word args
keyword_line config given lane (Some (IsRecord word)) args = record_line config lane word args
keyword_line config given lane (Some IsSync) args = alone (Ok Sync) args
keyword_line config given lane None args = Err WORD

abbrev pub headed_line : Config → ℕ → (begun : Bool) → List ℕ → Head → Result Line ℕ
headed_line config given begun text head =
    unless (checks begun text head) (keyword_line config given head.lane head.keyword head.args)

-- a line by its octets and its words
abbrev pub words_line : Config → ℕ → (begun : Bool) → List ℕ → List (List ℕ) → Result Line ℕ
words_line config given begun text [] = Ok Blank
words_line config given begun text (word ∷ rest) =
    headed_line config given begun text (head_of word rest)

-- a line that begins with a number sign
abbrev pub is_comment : List ℕ → Bool
is_comment [] = false
is_comment (octet ∷ rest) = octet == 35

abbrev pub stripped_line : Config → ℕ → (begun : Bool) → List ℕ → Result Line ℕ
stripped_line config given begun text =
    if is_comment text then Ok Blank else words_line config given begun text (words text)

-- what a line means, or the reason to refuse it. One carriage return at its end is not looked at
abbrev pub line_of : Config → ℕ → (begun : Bool) → List ℕ → Result Line ℕ
line_of config given begun line = stripped_line config given begun (strip_carriage_return line)

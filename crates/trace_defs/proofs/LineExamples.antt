-- Lines and what they mean, by computation: they test the definitions.
use Rattle.std.proofs.Common.{◌≡◌, ℕ, refl, true, false, List, [], ◌∷◌, ◌++◌, map, codes, replicate, Result, Ok, Err}
use Rattle.std.specs.Fmt.{digits}
use Rattle.hex.proofs.OnLiterals.{hex_on_literals}
use Rattle.machine_vars.specs.declared.control.Control.TheVariants.{Auto, ForceAuth}
use Rattle.switch_event.specs.Config.{Config, empty}
use Rattle.switch_event.specs.Event.Happening.{Link, Second, Frame, Radius, Dynamic, SetControl}
use Rattle.hex.specs.Hex.{encode_with}
use Rattle.trace_defs.specs.declared.given.TheConstants.{BRIDGE, NAS, SERVER, QUIET_PERIOD, SERVER_TIMEOUT, REAUTH_MAX, REAUTH_PERIOD, REAUTH, DYN_WINDOW, CLOCK, SEED, GUEST_WAIT, REQUIRE_MA}
use Rattle.trace_defs.specs.declared.reason.TheConstants.{LONG, OCTET, LANE, WORD, PLACE, COUNT, NUMBER, HEX, NAME, PORT, LANED, TWICE, MISSING}
use Rattle.trace_defs.specs.Text.{config_text, record_text}
use Rattle.trace_defs.specs.Line.{Line, line_of}
use Rattle.trace_defs.specs.Line.Line.{Blank, Begin, Sync, Setting, Entry}
use Rattle.trace_defs.specs.Line.Record.{Control, Data}

-- the bits of the settings that are given once, in the order in which the settings came into the language
bits_rise : BRIDGE ∷ NAS ∷ SERVER ∷ QUIET_PERIOD ∷ SERVER_TIMEOUT ∷ REAUTH_MAX ∷ REAUTH_PERIOD ∷ REAUTH ∷ DYN_WINDOW ∷ CLOCK ∷ SEED ∷ GUEST_WAIT ∷ REQUIRE_MA ∷ []
    ≡ 0 ∷ 1 ∷ 2 ∷ 3 ∷ 4 ∷ 5 ∷ 6 ∷ 7 ∷ 8 ∷ 9 ∷ 10 ∷ 11 ∷ 12 ∷ []
bits_rise = refl

-- port 1 with a restricted VLAN and port 3 with none
abbrev two_ports : Config
two_ports = record empty {
  ports =
      record { port = 1; native = 10; control = Auto; restricted = 99; guest = 0 }
      ∷ record { port = 3; native = 10; control = Auto; restricted = 0; guest = 77 } ∷ [];
}

-- before `begin`, with nothing given, and after it
abbrev before : List ℕ → Result Line ℕ
before text = line_of two_ports 0 false text

abbrev after : List ℕ → Result Line ℕ
after text = line_of two_ports 4 true text

abbrev refused : ℕ → List (Result Line ℕ) → List (Result Line ℕ)
refused why lines = map (λ line. Err why) lines

-- 10,241 octets are too many, whatever they are; one carriage return behind 10,240 does not count
abbrev long_lines : List (Result Line ℕ)
long_lines =
    before (replicate 10241 120) ∷ after (replicate 10241 7) ∷ before (codes "begin" ++ replicate 10236 32)
    ∷ after (replicate 10240 120 ++ 13 ∷ 13 ∷ []) ∷ []

long_refused : long_lines ≡ refused LONG long_lines
long_refused = refl

abbrev just_fitting : List (Result Line ℕ)
just_fitting = before (replicate 10240 120) ∷ after (replicate 10240 120 ++ 13 ∷ []) ∷ []

just_fitting_unknown : just_fitting ≡ refused WORD just_fitting
just_fitting_unknown = refl

-- however long they are, a comment and a line of spaces mean nothing
long_blanks : before (35 ∷ replicate 10241 7) ∷ after (replicate 10241 32) ∷ [] ≡ Ok Blank ∷ Ok Blank ∷ []
long_blanks = refl

abbrev wrong_octets : List (Result Line ℕ)
wrong_octets = before (9 ∷ codes "port") ∷ before (codes "@4" ++ 127 ∷ []) ∷ after (codes "sync" ++ 13 ∷ 13 ∷ []) ∷ before (13 ∷ 13 ∷ []) ∷ []

octets_refused : wrong_octets ≡ refused OCTET wrong_octets
octets_refused = refl

abbrev wrong_lanes : List (Result Line ℕ)
wrong_lanes =
    before (codes "@4 port") ∷ after (codes "@2") ∷ after (codes "@2 sync") ∷ after (codes "@2 port 1 10 auto")
    ∷ before (codes "@1 begin") ∷ before (codes "@0 tick") ∷ after (codes "@1 @2 tick") ∷ after (codes "@3 nothing") ∷ []

lanes_refused : wrong_lanes ≡ refused LANE wrong_lanes
lanes_refused = refl

abbrev unknown_words : List (Result Line ℕ)
unknown_words =
    before (codes "Port 1 10 auto") ∷ after (codes "set slowly 1") ∷ before (codes "set require-mb on") ∷ before (codes "acct 00")
    ∷ before (codes "guests 1 77") ∷ []

words_refused : unknown_words ≡ refused WORD unknown_words
words_refused = refl

abbrev wrong_places : List (Result Line ℕ)
wrong_places =
    before (codes "@1 frame") ∷ after (codes "set") ∷ before (codes "link 1") ∷ after (codes "port") ∷ after (codes "begin now")
    ∷ after (codes "guest 1") ∷ after (codes "set guest-wait 0") ∷ before (codes "sync") ∷ []

places_refused : wrong_places ≡ refused PLACE wrong_places
places_refused = refl

abbrev wrong_counts : List (Result Line ℕ)
wrong_counts =
    before (codes "set") ∷ before (codes "port 1 10") ∷ before (codes "begin now") ∷ after (codes "tick tock") ∷ after (codes "sync 1")
    ∷ before (codes "set reauth-max") ∷ before (codes "restricted 1") ∷ before (codes "guest 3 77 78") ∷ after (codes "radius")
    ∷ after (codes "radius 0 00 00") ∷ before (codes "set require-ma") ∷ before (codes "set guest-wait 1 2") ∷ []

counts_refused : wrong_counts ≡ refused COUNT wrong_counts
unfolding digits
counts_refused = refl

abbrev wrong_numbers : List (Result Line ℕ)
wrong_numbers =
    before (codes "port 61 10 auto") ∷ before (codes "port 1 4095 auot") ∷ before (codes "nas 192.0.2.300 sw1")
    ∷ before (codes "nas 192.0.2.10.1 sw1") ∷ before (codes "clock 4294967296") ∷ before (codes "clock 01")
    ∷ before (codes "set reauth-max 11") ∷ after (codes "link 0 upp") ∷ after (codes "frame 61 0")
    ∷ before (codes "restricted 0 99") ∷ before (codes "restricted 2 4095") ∷ before (codes "guest 3 0") ∷ before (codes "guest 61 1")
    ∷ before (codes "set guest-wait 0") ∷ before (codes "set guest-wait 65536") ∷ after (codes "radius 5 0g")
    ∷ after (codes "radius 00 -") ∷ after (codes "dyn 192.0.2.30 65536 -") ∷ []

numbers_refused : wrong_numbers ≡ refused NUMBER wrong_numbers
unfolding hex_on_literals digits
numbers_refused = refl

abbrev wrong_octet_words : List (Result Line ℕ)
wrong_octet_words =
    before (codes "bridge 0200000101") ∷ before (codes "seed -") ∷ before (codes "client 192.0.2.30 -")
    ∷ before (codes "server 192.0.2.20 1812 7") ∷ after (codes "frame 2 0g") ∷ after (codes "radius 4 0") ∷ after (codes "radius 0g") ∷ []

hex_refused : wrong_octet_words ≡ refused HEX wrong_octet_words
unfolding hex_on_literals digits
hex_refused = refl

abbrev wrong_names : List (Result Line ℕ)
wrong_names =
    before (codes "port 2 10 on") ∷ before (codes "set reauth auto") ∷ before (codes "set require-ma yes")
    ∷ before (codes "nas 192.0.2.10 abcdefghijklmnopqrstuvwxyz0123456") ∷ after (codes "link 2 on") ∷ []

names_refused : wrong_names ≡ refused NAME wrong_names
unfolding hex_on_literals digits
names_refused = refl

abbrev unknown_ports : List (Result Line ℕ)
unknown_ports =
    after (codes "link 2 up") ∷ after (codes "control 2 auto") ∷ after (codes "@1 frame 2 00") ∷ before (codes "restricted 2 99")
    ∷ before (codes "guest 60 4094") ∷ []

ports_refused : unknown_ports ≡ refused PORT unknown_ports
unfolding hex_on_literals digits
ports_refused = refl

abbrev laned_data : List (Result Line ℕ)
laned_data = after (codes "@2 frame 1 ffffffffffff0200000000aa08004500") ∷ after (codes "@1 frame 3 -") ∷ []

lanes_of_data_refused : laned_data ≡ refused LANED laned_data
unfolding hex_on_literals digits
lanes_of_data_refused = refl

abbrev given_twice : List (Result Line ℕ)
given_twice =
    before (codes "port 1 20 auto") ∷ before (codes "restricted 1 99") ∷ before (codes "guest 3 78")
    ∷ line_of two_ports 2048 false (codes "set guest-wait 5") ∷ line_of two_ports 4096 false (codes "set require-ma off")
    ∷ line_of two_ports 1024 false (codes "seed 0000000000000000000000000000000000000000000000000000000000000000") ∷ []

twice_refused : given_twice ≡ refused TWICE given_twice
unfolding hex_on_literals digits
twice_refused = refl

missing_refused : before (codes "begin") ≡ Err MISSING
missing_refused = refl

-- lines that are read
abbrev read : List (Result Line ℕ)
read =
    before [] ∷ before (13 ∷ []) ∷ before (codes "# a comment") ∷ after (codes "   ") ∷
    before (codes "nas 10.0.0.1 -") ∷ before (codes "set reauth on") ∷ before (codes "client 192.0.2.30 64796E") ∷
    after (codes "sync") ∷ after (codes "@2 link 1 up" ++ 13 ∷ []) ∷ after (codes "  frame   1  - ") ∷ line_of two_ports 4 false (codes "begin") ∷ []

abbrev meanings : List (Result Line ℕ)
meanings =
    Ok Blank ∷ Ok Blank ∷ Ok Blank ∷ Ok Blank ∷
    Ok (Setting (record two_ports { nas = record { ip = 10 ∷ 0 ∷ 0 ∷ 1 ∷ []; name = codes "-" } }) 2) ∷
    Ok (Setting (record two_ports { times = record two_ports.times { reauth = true } }) 128) ∷
    Ok (Setting (record two_ports { clients = record { ip = 192 ∷ 0 ∷ 2 ∷ 30 ∷ []; secret = codes "dyn" } ∷ [] }) 0) ∷
    Ok Sync ∷ Ok (Entry (Control 2 (Link 1 true))) ∷ Ok (Entry (Data 1 [])) ∷ Ok Begin ∷ []

read_lines : read ≡ meanings
unfolding hex_on_literals digits
read_lines = refl

-- control events of each kind, with a lane and without one
abbrev events : List (Result Line ℕ)
events =
    after (codes "link 3 down") ∷ after (codes "tick") ∷ after (codes "@1 radius -") ∷ after (codes "radius 0 00") ∷
    after (codes "@2 radius 4 00") ∷ after (codes "dyn 192.0.2.30 0 00") ∷ after (codes "control 1 force-auth") ∷
    after (codes "@3 frame 1 0180c20000030200000000aa888e01010000") ∷ []

abbrev event_meanings : List (Result Line ℕ)
event_meanings =
    Ok (Entry (Control 1 (Link 3 false))) ∷ Ok (Entry (Control 1 Second)) ∷
    Ok (Entry (Control 1 (Radius 0 []))) ∷ Ok (Entry (Control 1 (Radius 0 (0 ∷ [])))) ∷
    Ok (Entry (Control 2 (Radius 4 (0 ∷ [])))) ∷
    Ok (Entry (Control 1 (Dynamic (record { ip = 192 ∷ 0 ∷ 2 ∷ 30 ∷ []; port = 0 }) (0 ∷ [])))) ∷
    Ok (Entry (Control 1 (SetControl 1 ForceAuth))) ∷
    Ok (Entry (Control 3 (Frame 1 (1 ∷ 128 ∷ 194 ∷ 0 ∷ 0 ∷ 3 ∷ 2 ∷ 0 ∷ 0 ∷ 0 ∷ 0 ∷ 170 ∷ 136 ∷ 142 ∷ 1 ∷ 1 ∷ 0 ∷ 0 ∷ [])))) ∷ []

read_events : events ≡ event_meanings
unfolding hex_on_literals digits
read_events = refl

-- the settings that came last
abbrev late_settings : List (Result Line ℕ)
late_settings =
    before (codes "restricted 3 98") ∷ before (codes "guest 1 4094") ∷ before (codes "set guest-wait 5") ∷ before (codes "set require-ma off") ∷ []

abbrev late_meanings : List (Result Line ℕ)
late_meanings =
    Ok (Setting (record two_ports {
      ports =
          record { port = 1; native = 10; control = Auto; restricted = 99; guest = 0 }
          ∷ record { port = 3; native = 10; control = Auto; restricted = 98; guest = 77 } ∷ [];
    }) 0)
    ∷ Ok (Setting (record two_ports {
      ports =
          record { port = 1; native = 10; control = Auto; restricted = 99; guest = 4094 }
          ∷ record { port = 3; native = 10; control = Auto; restricted = 0; guest = 77 } ∷ [];
    }) 0)
    ∷ Ok (Setting (record two_ports { guest_wait = 5 }) 2048)
    ∷ Ok (Setting (record two_ports { require_ma = false }) 4096)
    ∷ []

late_settings_read : late_settings ≡ late_meanings
unfolding hex_on_literals digits
late_settings_read = refl

-- printed lines
settings_printed : config_text (record two_ports { require_ma = false }) ≡
    codes "bridge 020000010100" ++ 10 ∷ codes "nas 192.0.2.10 sw1" ++ 10 ∷ codes "server 0.0.0.0 0 " ++ 10 ∷
    codes "port 1 10 auto" ++ 10 ∷ codes "port 3 10 auto" ++ 10 ∷ codes "restricted 1 99" ++ 10 ∷ codes "guest 3 77" ++ 10 ∷
    codes "set quiet-period 60" ++ 10 ∷ codes "set server-timeout 30" ++ 10 ∷ codes "set reauth-max 2" ++ 10 ∷ codes "set reauth-period 3600" ++ 10 ∷
    codes "set reauth off" ++ 10 ∷ codes "set guest-wait 30" ++ 10 ∷ codes "set dyn-window 300" ++ 10 ∷ codes "set require-ma off" ++ 10 ∷ codes "clock 0" ++ 10 ∷
    codes "seed 0000000000000000000000000000000000000000000000000000000000000000" ++ 10 ∷ codes "begin" ++ 10 ∷ []
unfolding hex_on_literals digits encode_with
settings_printed = refl

records_printed :
    record_text (Control 1 (Link 1 true)) ++ record_text (Control 3 Second) ++ record_text (Data 2 []) ++ record_text (Control 2 (Frame 1 (255 ∷ 0 ∷ []))) ++
    record_text (Control 1 (Radius 0 [])) ++ record_text (Control 1 (Radius 4 (255 ∷ []))) ++
    record_text (Control 1 (Dynamic (record { ip = 192 ∷ 0 ∷ 2 ∷ 30 ∷ []; port = 3799 }) (1 ∷ []))) ≡
    codes "link 1 up" ++ 10 ∷ codes "@3 tick" ++ 10 ∷ codes "frame 2 -" ++ 10 ∷ codes "@2 frame 1 ff00" ++ 10 ∷
    codes "radius -" ++ 10 ∷ codes "radius 4 ff" ++ 10 ∷ codes "dyn 192.0.2.30 3799 01" ++ 10 ∷ []
unfolding hex_on_literals digits encode_with
records_printed = refl

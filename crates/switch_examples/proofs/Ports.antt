-- Worked examples: ports and data frames.
use Rattle.std.proofs.Common.{◌≡◌, refl, [], ◌∷◌, ◌++◌, codes, true, false}
use Rattle.md5.specs.Md5.{md5, digest_bytes, hash_after, compress, rounds, block_words}
use Rattle.rand_core.specs.Steps.{u32_at}
use Rattle.rand_chacha.specs.Block.{block_word, double_rounds, column_round, diagonal_round, quarter_round}
use Rattle.radius_defs.specs.Reading.{attributes_of, run_within, first_attribute}
use Rattle.radius_defs.specs.Parsed.{packet_of}
use Rattle.settle_defs.specs.Settle.{settled}
use Rattle.aaa_defs.specs.Request.{pieces, request_octets, authenticator}
use Rattle.aaa_defs.specs.Waits.{next_name}
use Rattle.machine_vars.specs.declared.control.Control.TheVariants.{Auto, ForceAuth, ForceUnauth}
use Rattle.switch_event.specs.Config.{Config, empty}
use Rattle.switch_event.specs.Event.{Link}
use Rattle.switch_event.specs.declared.event.Outcome.TheVariants.{Done}
use Rattle.switch_event.specs.declared.decision.Decision.TheVariants.{Forward, Drop}
use Rattle.switch_event.specs.declared.decision.Drop9.TheVariants.{Runt, Giant, Reserved, Tagged, GroupSource, Down, Closed, Unauthorised}
use Rattle.switch_event.specs.Sent.{ToHost}
use Rattle.switch_defs.specs.Switch.{opening}
use Rattle.switch_examples.specs.Told.{control, data_, turned, decided, told, octets}

abbrev settings_1 : Config
settings_1 = record empty {
  nas = record { ip = (192 ∷ 0 ∷ 2 ∷ 10 ∷ []); name = codes "sw1" };
  server = record { ip = (192 ∷ 0 ∷ 2 ∷ 20 ∷ []); port = 1812 };
  secret = (115 ∷ 101 ∷ 99 ∷ 114 ∷ 101 ∷ 116 ∷ []);
  clients = record { ip = (192 ∷ 0 ∷ 2 ∷ 30 ∷ []); secret = (100 ∷ 121 ∷ 110 ∷ []) } ∷ [];
  ports =
      record { port = 1; native = 10; control = Auto; restricted = 0; guest = 0 }
      ∷ record { port = 2; native = 20; control = ForceAuth; restricted = 0; guest = 0 }
      ∷ record { port = 3; native = 30; control = ForceUnauth; restricted = 0; guest = 0 }
      ∷ [];
  times = record { quiet = 60; server = 30; reauth_max = 2; reauth_period = 3600; reauth = false };
}

-- a port that comes up asks for the identity, and nobody is authorised
a_port_asks_who_is_there : told (opening settings_1)
    (control (Link 1 true)
    ∷ data_ 1 (octets (codes "ffffffffffff0200000000aa08004500"))
    ∷ [])
    ≡ turned Done (ToHost 1 (octets (codes "0180c2000003020000010101888e020000050100000501")) ∷ [])
    ∷ decided (Drop Unauthorised)
    ∷ []
unfolding settled pieces request_octets next_name packet_of attributes_of run_within first_attribute authenticator u32_at
    block_word double_rounds column_round diagonal_round quarter_round md5 digest_bytes hash_after compress rounds block_words
a_port_asks_who_is_there = refl

-- a forced port is down at first; then it says Success and forwards
a_port_that_is_open_to_all : told (opening settings_1)
    (data_ 2 (octets (codes "ffffffffffff0200000000bb08004500"))
    ∷ control (Link 2 true)
    ∷ data_ 2 (octets (codes "ffffffffffff0200000000bb08004500"))
    ∷ [])
    ≡ decided (Drop Down)
    ∷ turned Done (ToHost 2 (octets (codes "0180c2000003020000010102888e0200000403000004")) ∷ [])
    ∷ decided (Forward 0 20)
    ∷ []
unfolding settled pieces request_octets next_name packet_of attributes_of run_within first_attribute authenticator u32_at
    block_word double_rounds column_round diagonal_round quarter_round md5 digest_bytes hash_after compress rounds block_words
a_port_that_is_open_to_all = refl

-- a port forced shut says Failure, and drops
a_port_that_is_shut : told (opening settings_1)
    (control (Link 3 true)
    ∷ data_ 3 (octets (codes "ffffffffffff0200000000bb08004500"))
    ∷ [])
    ≡ turned Done (ToHost 3 (octets (codes "0180c2000003020000010103888e0200000404000004")) ∷ [])
    ∷ decided (Drop Closed)
    ∷ []
unfolding settled pieces request_octets next_name packet_of attributes_of run_within first_attribute authenticator u32_at
    block_word double_rounds column_round diagonal_round quarter_round md5 digest_bytes hash_after compress rounds block_words
a_port_that_is_shut = refl

-- a frame of 13 octets
thirteen_octets : told (opening settings_1)
    (control (Link 2 true)
    ∷ data_ 2 (octets (codes "ffffffffffff0200000000bb08"))
    ∷ [])
    ≡ turned Done (ToHost 2 (octets (codes "0180c2000003020000010102888e0200000403000004")) ∷ [])
    ∷ decided (Drop Runt)
    ∷ []
unfolding settled pieces request_octets next_name packet_of attributes_of run_within first_attribute authenticator u32_at
    block_word double_rounds column_round diagonal_round quarter_round md5 digest_bytes hash_after compress rounds block_words
thirteen_octets = refl

-- a frame of 14 octets
fourteen_octets : told (opening settings_1)
    (control (Link 2 true)
    ∷ data_ 2 (octets (codes "ffffffffffff0200000000bb0800"))
    ∷ [])
    ≡ turned Done (ToHost 2 (octets (codes "0180c2000003020000010102888e0200000403000004")) ∷ [])
    ∷ decided (Forward 0 20)
    ∷ []
unfolding settled pieces request_octets next_name packet_of attributes_of run_within first_attribute authenticator u32_at
    block_word double_rounds column_round diagonal_round quarter_round md5 digest_bytes hash_after compress rounds block_words
fourteen_octets = refl

-- a frame that is tagged already
a_tagged_frame : told (opening settings_1)
    (control (Link 2 true)
    ∷ data_ 2 (octets (codes "ffffffffffff0200000000bb8100000a0800"))
    ∷ [])
    ≡ turned Done (ToHost 2 (octets (codes "0180c2000003020000010102888e0200000403000004")) ∷ [])
    ∷ decided (Drop Tagged)
    ∷ []
unfolding settled pieces request_octets next_name packet_of attributes_of run_within first_attribute authenticator u32_at
    block_word double_rounds column_round diagonal_round quarter_round md5 digest_bytes hash_after compress rounds block_words
a_tagged_frame = refl

-- a frame to an address that no bridge forwards
a_reserved_address : told (opening settings_1)
    (control (Link 2 true)
    ∷ data_ 2 (octets (codes "0180c200000e0200000000bb08004500"))
    ∷ [])
    ≡ turned Done (ToHost 2 (octets (codes "0180c2000003020000010102888e0200000403000004")) ∷ [])
    ∷ decided (Drop Reserved)
    ∷ []
unfolding settled pieces request_octets next_name packet_of attributes_of run_within first_attribute authenticator u32_at
    block_word double_rounds column_round diagonal_round quarter_round md5 digest_bytes hash_after compress rounds block_words
a_reserved_address = refl

-- a frame from a group address
from_a_group : told (opening settings_1)
    (control (Link 2 true)
    ∷ data_ 2 (octets (codes "ffffffffffff0100000000bb08004500"))
    ∷ [])
    ≡ turned Done (ToHost 2 (octets (codes "0180c2000003020000010102888e0200000403000004")) ∷ [])
    ∷ decided (Drop GroupSource)
    ∷ []
unfolding settled pieces request_octets next_name packet_of attributes_of run_within first_attribute authenticator u32_at
    block_word double_rounds column_round diagonal_round quarter_round md5 digest_bytes hash_after compress rounds block_words
from_a_group = refl

-- a frame of 1,518 octets
the_longest_frame : told (opening settings_1)
    (control (Link 2 true)
    ∷ data_ 2 (octets (codes "ffffffffffff0200000000bb0800abababababababababababababababababababababab"
    ++ codes "abababababababababababababababababababababababababababababababababababab"
    ++ codes "abababababababababababababababababababababababababababababababababababab"
    ++ codes "abababababababababababababababababababababababababababababababababababab"
    ++ codes "abababababababababababababababababababababababababababababababababababab"
    ++ codes "abababababababababababababababababababababababababababababababababababab"
    ++ codes "abababababababababababababababababababababababababababababababababababab"
    ++ codes "abababababababababababababababababababababababababababababababababababab"
    ++ codes "abababababababababababababababababababababababababababababababababababab"
    ++ codes "abababababababababababababababababababababababababababababababababababab"
    ++ codes "abababababababababababababababababababababababababababababababababababab"
    ++ codes "abababababababababababababababababababababababababababababababababababab"
    ++ codes "abababababababababababababababababababababababababababababababababababab"
    ++ codes "abababababababababababababababababababababababababababababababababababab"
    ++ codes "abababababababababababababababababababababababababababababababababababab"
    ++ codes "abababababababababababababababababababababababababababababababababababab"
    ++ codes "abababababababababababababababababababababababababababababababababababab"
    ++ codes "abababababababababababababababababababababababababababababababababababab"
    ++ codes "abababababababababababababababababababababababababababababababababababab"
    ++ codes "abababababababababababababababababababababababababababababababababababab"
    ++ codes "abababababababababababababababababababababababababababababababababababab"
    ++ codes "abababababababababababababababababababababababababababababababababababab"
    ++ codes "abababababababababababababababababababababababababababababababababababab"
    ++ codes "abababababababababababababababababababababababababababababababababababab"
    ++ codes "abababababababababababababababababababababababababababababababababababab"
    ++ codes "abababababababababababababababababababababababababababababababababababab"
    ++ codes "abababababababababababababababababababababababababababababababababababab"
    ++ codes "abababababababababababababababababababababababababababababababababababab"
    ++ codes "abababababababababababababababababababababababababababababababababababab"
    ++ codes "abababababababababababababababababababababababababababababababababababab"
    ++ codes "abababababababababababababababababababababababababababababababababababab"
    ++ codes "abababababababababababababababababababababababababababababababababababab"
    ++ codes "abababababababababababababababababababababababababababababababababababab"
    ++ codes "abababababababababababababababababababababababababababababababababababab"
    ++ codes "abababababababababababababababababababababababababababababababababababab"
    ++ codes "abababababababababababababababababababababababababababababababababababab"
    ++ codes "abababababababababababababababababababababababababababababababababababab"
    ++ codes "abababababababababababababababababababababababababababababababababababab"
    ++ codes "abababababababababababababababababababababababababababababababababababab"
    ++ codes "abababababababababababababababababababababababababababababababababababab"
    ++ codes "abababababababababababababababababababababababababababababababababababab"
    ++ codes "abababababababababababababababababababababababababababababababababababab"
    ++ codes "abababababab"))
    ∷ [])
    ≡ turned Done (ToHost 2 (octets (codes "0180c2000003020000010102888e0200000403000004")) ∷ [])
    ∷ decided (Forward 0 20)
    ∷ []
unfolding settled pieces request_octets next_name packet_of attributes_of run_within first_attribute authenticator u32_at
    block_word double_rounds column_round diagonal_round quarter_round md5 digest_bytes hash_after compress rounds block_words
the_longest_frame = refl

-- a frame of 1,519 octets
too_long_a_frame : told (opening settings_1)
    (control (Link 2 true)
    ∷ data_ 2 (octets (codes "ffffffffffff0200000000bb0800abababababababababababababababababababababab"
    ++ codes "abababababababababababababababababababababababababababababababababababab"
    ++ codes "abababababababababababababababababababababababababababababababababababab"
    ++ codes "abababababababababababababababababababababababababababababababababababab"
    ++ codes "abababababababababababababababababababababababababababababababababababab"
    ++ codes "abababababababababababababababababababababababababababababababababababab"
    ++ codes "abababababababababababababababababababababababababababababababababababab"
    ++ codes "abababababababababababababababababababababababababababababababababababab"
    ++ codes "abababababababababababababababababababababababababababababababababababab"
    ++ codes "abababababababababababababababababababababababababababababababababababab"
    ++ codes "abababababababababababababababababababababababababababababababababababab"
    ++ codes "abababababababababababababababababababababababababababababababababababab"
    ++ codes "abababababababababababababababababababababababababababababababababababab"
    ++ codes "abababababababababababababababababababababababababababababababababababab"
    ++ codes "abababababababababababababababababababababababababababababababababababab"
    ++ codes "abababababababababababababababababababababababababababababababababababab"
    ++ codes "abababababababababababababababababababababababababababababababababababab"
    ++ codes "abababababababababababababababababababababababababababababababababababab"
    ++ codes "abababababababababababababababababababababababababababababababababababab"
    ++ codes "abababababababababababababababababababababababababababababababababababab"
    ++ codes "abababababababababababababababababababababababababababababababababababab"
    ++ codes "abababababababababababababababababababababababababababababababababababab"
    ++ codes "abababababababababababababababababababababababababababababababababababab"
    ++ codes "abababababababababababababababababababababababababababababababababababab"
    ++ codes "abababababababababababababababababababababababababababababababababababab"
    ++ codes "abababababababababababababababababababababababababababababababababababab"
    ++ codes "abababababababababababababababababababababababababababababababababababab"
    ++ codes "abababababababababababababababababababababababababababababababababababab"
    ++ codes "abababababababababababababababababababababababababababababababababababab"
    ++ codes "abababababababababababababababababababababababababababababababababababab"
    ++ codes "abababababababababababababababababababababababababababababababababababab"
    ++ codes "abababababababababababababababababababababababababababababababababababab"
    ++ codes "abababababababababababababababababababababababababababababababababababab"
    ++ codes "abababababababababababababababababababababababababababababababababababab"
    ++ codes "abababababababababababababababababababababababababababababababababababab"
    ++ codes "abababababababababababababababababababababababababababababababababababab"
    ++ codes "abababababababababababababababababababababababababababababababababababab"
    ++ codes "abababababababababababababababababababababababababababababababababababab"
    ++ codes "abababababababababababababababababababababababababababababababababababab"
    ++ codes "abababababababababababababababababababababababababababababababababababab"
    ++ codes "abababababababababababababababababababababababababababababababababababab"
    ++ codes "abababababababababababababababababababababababababababababababababababab"
    ++ codes "ababababababab"))
    ∷ [])
    ≡ turned Done (ToHost 2 (octets (codes "0180c2000003020000010102888e0200000403000004")) ∷ [])
    ∷ decided (Drop Giant)
    ∷ []
unfolding settled pieces request_octets next_name packet_of attributes_of run_within first_attribute authenticator u32_at
    block_word double_rounds column_round diagonal_round quarter_round md5 digest_bytes hash_after compress rounds block_words
too_long_a_frame = refl

-- Worked examples: restricted and guest VLANs.
use Rattle.std.proofs.Common.{◌≡◌, refl, [], ◌∷◌, ◌++◌, codes, true, false}
use Rattle.md5.specs.Md5.{md5, digest_bytes, hash_after, compress, rounds, block_words}
use Rattle.rand_core.specs.Steps.{u32_at}
use Rattle.rand_chacha.specs.Block.{block_word, double_rounds, column_round, diagonal_round, quarter_round}
use Rattle.radius_defs.specs.Reading.{attributes_of, run_within, first_attribute}
use Rattle.radius_defs.specs.Parsed.{packet_of}
use Rattle.settle_defs.specs.Settle.{settled}
use Rattle.aaa_defs.specs.Request.{pieces, request_octets, authenticator}
use Rattle.aaa_defs.specs.Waits.{next_name}
use Rattle.machine_vars.specs.declared.control.Control.TheVariants.{Auto, ForceAuth, ForceUnauth}
use Rattle.switch_event.specs.Config.{Config, empty}
use Rattle.switch_event.specs.Event.{Frame, Radius, Dynamic, Second, Link}
use Rattle.switch_event.specs.declared.event.Outcome.TheVariants.{Done, Naked}
use Rattle.switch_event.specs.declared.decision.Decision.TheVariants.{Forward, Drop}
use Rattle.switch_event.specs.declared.decision.Drop9.TheVariants.{Unauthorised}
use Rattle.switch_event.specs.Sent.{ToHost, ToServer, ToClient}
use Rattle.switch_defs.specs.Switch.{opening}
use Rattle.switch_examples.specs.Told.{control, data_, turned, decided, told, octets}

abbrev settings_1 : Config
settings_1 = record empty {
  nas = record { ip = (192 ∷ 0 ∷ 2 ∷ 10 ∷ []); name = codes "sw1" };
  server = record { ip = (192 ∷ 0 ∷ 2 ∷ 20 ∷ []); port = 1812 };
  secret = (115 ∷ 101 ∷ 99 ∷ 114 ∷ 101 ∷ 116 ∷ []);
  clients = record { ip = (192 ∷ 0 ∷ 2 ∷ 30 ∷ []); secret = (100 ∷ 121 ∷ 110 ∷ []) } ∷ [];
  ports =
      record { port = 1; native = 10; control = Auto; restricted = 99; guest = 0 }
      ∷ record { port = 2; native = 20; control = ForceAuth; restricted = 0; guest = 0 }
      ∷ record { port = 3; native = 30; control = ForceUnauth; restricted = 0; guest = 0 }
      ∷ [];
  times = record { quiet = 60; server = 30; reauth_max = 2; reauth_period = 3600; reauth = false };
}

-- a host that the server rejected is let into the restricted VLAN until it logs off
a_restricted_host : told (opening settings_1)
    (control (Link 1 true)
    ∷ control (Frame 1 (octets (codes "0180c20000030200000000aa888e01010000")))
    ∷ control (Frame 1 (octets (codes "0180c20000030200000000aa888e010000080201000801626f62")))
    ∷ control (Radius 0 (octets (codes "0200003eb64013957e83a77a94bc593426a5f15040060000000d41060000000651063430"
    ++ codes "39354f06030100045012dbe5c45edba977b6fd352659a3b9350d")))
    ∷ data_ 1 (octets (codes "ffffffffffff0200000000aa08004500"))
    ∷ control (Frame 1 (octets (codes "0180c20000030200000000aa888e01020000")))
    ∷ data_ 1 (octets (codes "ffffffffffff0200000000aa08004500"))
    ∷ [])
    ≡ turned Done (ToHost 1 (octets (codes "0180c2000003020000010101888e020000050100000501")) ∷ [])
    ∷ turned Done (ToHost 1 (octets (codes "0200000000aa020000010101888e020000050101000501")) ∷ [])
    ∷ turned Done (ToServer 0 (octets (codes "0100008876b8e0ada0f13d90405d6ae55386bd28501253e57ffb03b625516082c42d3083"
    ++ codes "40f70105626f620406c000020a0506000000010606000000020c06000005d81e1330322d"
    ++ codes "30302d30302d30312d30312d30311f1330322d30302d30302d30302d30302d4141200573"
    ++ codes "77313d060000000f2c0a30303030303030314f0a0201000801626f62")) ∷ [])
    ∷ turned Done (ToHost 1 (octets (codes "0200000000aa020000010101888e0200000404010004")) ∷ [])
    ∷ decided (Forward 1 99)
    ∷ turned Done ([])
    ∷ decided (Drop Unauthorised)
    ∷ []
unfolding settled pieces request_octets next_name packet_of attributes_of run_within first_attribute authenticator u32_at
    block_word double_rounds column_round diagonal_round quarter_round md5 digest_bytes hash_after compress rounds block_words
a_restricted_host = refl

-- its session cannot be changed
a_change_of_a_restricted_host : told (opening settings_1)
    (control (Link 1 true)
    ∷ control (Frame 1 (octets (codes "0180c20000030200000000aa888e01010000")))
    ∷ control (Frame 1 (octets (codes "0180c20000030200000000aa888e010000080201000801626f62")))
    ∷ control (Radius 0 (octets (codes "0200003eb64013957e83a77a94bc593426a5f15040060000000d41060000000651063430"
    ++ codes "39354f06030100045012dbe5c45edba977b6fd352659a3b9350d")))
    ∷ control (Dynamic (record { ip = (192 ∷ 0 ∷ 2 ∷ 30 ∷ []); port = 4000 }) (octets (codes "2b0100407b9995e0d4cb970fb914fb2c1c589a35501224a4c0431af7564078963b8f5e10"
    ++ codes "c8822c0a303030303030303140060000000d41060000000651043433")))
    ∷ [])
    ≡ turned Done (ToHost 1 (octets (codes "0180c2000003020000010101888e020000050100000501")) ∷ [])
    ∷ turned Done (ToHost 1 (octets (codes "0200000000aa020000010101888e020000050101000501")) ∷ [])
    ∷ turned Done (ToServer 0 (octets (codes "0100008876b8e0ada0f13d90405d6ae55386bd28501253e57ffb03b625516082c42d3083"
    ++ codes "40f70105626f620406c000020a0506000000010606000000020c06000005d81e1330322d"
    ++ codes "30302d30302d30312d30312d30311f1330322d30302d30302d30302d30302d4141200573"
    ++ codes "77313d060000000f2c0a30303030303030314f0a0201000801626f62")) ∷ [])
    ∷ turned Done (ToHost 1 (octets (codes "0200000000aa020000010101888e0200000404010004")) ∷ [])
    ∷ turned (Naked 503) (ToClient (record { ip = (192 ∷ 0 ∷ 2 ∷ 30 ∷ []); port = 4000 }) (octets (codes "2d01002ceeda44e67fb264e4c228b5f7aa3cf2fa50124feb581eb3e600501f079fbce006"
    ++ codes "80db6506000001f7")) ∷ [])
    ∷ []
unfolding settled pieces request_octets next_name packet_of attributes_of run_within first_attribute authenticator u32_at
    block_word double_rounds column_round diagonal_round quarter_round md5 digest_bytes hash_after compress rounds block_words
a_change_of_a_restricted_host = refl

abbrev settings_2 : Config
settings_2 = record empty {
  nas = record { ip = (192 ∷ 0 ∷ 2 ∷ 10 ∷ []); name = codes "sw1" };
  server = record { ip = (192 ∷ 0 ∷ 2 ∷ 20 ∷ []); port = 1812 };
  secret = (115 ∷ 101 ∷ 99 ∷ 114 ∷ 101 ∷ 116 ∷ []);
  guest_wait = 5;
  clients = record { ip = (192 ∷ 0 ∷ 2 ∷ 30 ∷ []); secret = (100 ∷ 121 ∷ 110 ∷ []) } ∷ [];
  ports =
      record { port = 1; native = 10; control = Auto; restricted = 0; guest = 77 }
      ∷ record { port = 2; native = 20; control = ForceAuth; restricted = 0; guest = 0 }
      ∷ record { port = 3; native = 30; control = ForceUnauth; restricted = 0; guest = 0 }
      ∷ [];
  times = record { quiet = 60; server = 30; reauth_max = 2; reauth_period = 3600; reauth = false };
}

-- after five seconds in which nobody answers every source is let into the guest VLAN
guests : told (opening settings_2)
    (control (Link 1 true)
    ∷ control (Second)
    ∷ control (Second)
    ∷ control (Second)
    ∷ control (Second)
    ∷ data_ 1 (octets (codes "ffffffffffff0200000000aa08004500"))
    ∷ control (Second)
    ∷ data_ 1 (octets (codes "ffffffffffff0200000000aa08004500"))
    ∷ control (Frame 1 (octets (codes "0180c20000030200000000aa888e01010000")))
    ∷ data_ 1 (octets (codes "ffffffffffff0200000000aa08004500"))
    ∷ [])
    ≡ turned Done (ToHost 1 (octets (codes "0180c2000003020000010101888e020000050100000501")) ∷ [])
    ∷ turned Done ([])
    ∷ turned Done ([])
    ∷ turned Done ([])
    ∷ turned Done ([])
    ∷ decided (Drop Unauthorised)
    ∷ turned Done ([])
    ∷ decided (Forward 0 77)
    ∷ turned Done (ToHost 1 (octets (codes "0200000000aa020000010101888e020000050101000501")) ∷ [])
    ∷ decided (Drop Unauthorised)
    ∷ []
unfolding settled pieces request_octets next_name packet_of attributes_of run_within first_attribute authenticator u32_at
    block_word double_rounds column_round diagonal_round quarter_round md5 digest_bytes hash_after compress rounds block_words
guests = refl

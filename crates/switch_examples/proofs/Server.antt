-- Worked examples: answers of the server.
use Rattle.std.proofs.Common.{◌≡◌, refl, [], ◌∷◌, ◌++◌, codes, true, false}
use Rattle.md5.specs.Md5.{md5, digest_bytes, hash_after, compress, rounds, block_words}
use Rattle.rand_core.specs.Steps.{u32_at}
use Rattle.rand_chacha.specs.Block.{block_word, double_rounds, column_round, diagonal_round, quarter_round}
use Rattle.radius_defs.specs.Reading.{attributes_of, run_within, first_attribute}
use Rattle.radius_defs.specs.Parsed.{packet_of}
use Rattle.settle_defs.specs.Settle.{settled}
use Rattle.aaa_defs.specs.Request.{pieces, request_octets, authenticator}
use Rattle.aaa_defs.specs.Waits.{next_name}
use Rattle.machine_vars.specs.declared.control.Control.TheVariants.{Auto, ForceAuth, ForceUnauth}
use Rattle.switch_event.specs.Config.{Config, empty}
use Rattle.switch_event.specs.Event.{Frame, Radius, Second, Link}
use Rattle.switch_event.specs.declared.drop.AaaDrop.TheVariants as answer
use Rattle.switch_event.specs.declared.event.Outcome.TheVariants.{Done, AnswerDropped}
use Rattle.switch_event.specs.declared.decision.Decision.TheVariants.{Forward, Drop}
use Rattle.switch_event.specs.declared.decision.Drop9.TheVariants.{Unauthorised}
use Rattle.switch_event.specs.Sent.{ToHost, ToServer}
use Rattle.switch_defs.specs.Switch.{opening}
use Rattle.switch_examples.specs.Told.{control, data_, turned, decided, told, octets}

abbrev settings_1 : Config
settings_1 = record empty {
  nas = record { ip = (192 ∷ 0 ∷ 2 ∷ 10 ∷ []); name = codes "sw1" };
  server = record { ip = (192 ∷ 0 ∷ 2 ∷ 20 ∷ []); port = 1812 };
  secret = (115 ∷ 101 ∷ 99 ∷ 114 ∷ 101 ∷ 116 ∷ []);
  clients = record { ip = (192 ∷ 0 ∷ 2 ∷ 30 ∷ []); secret = (100 ∷ 121 ∷ 110 ∷ []) } ∷ [];
  ports =
      record { port = 1; native = 10; control = Auto; restricted = 0; guest = 0 }
      ∷ record { port = 2; native = 20; control = ForceAuth; restricted = 0; guest = 0 }
      ∷ record { port = 3; native = 30; control = ForceUnauth; restricted = 0; guest = 0 }
      ∷ [];
  times = record { quiet = 60; server = 30; reauth_max = 2; reauth_period = 3600; reauth = false };
}

-- an Accept lets the host into VLAN 42
an_accept : told (opening settings_1)
    (control (Link 1 true)
    ∷ control (Frame 1 (octets (codes "0180c20000030200000000aa888e01010000")))
    ∷ control (Frame 1 (octets (codes "0180c20000030200000000aa888e010000080201000801626f62")))
    ∷ control (Radius 0 (octets (codes "0200003ce5d68680a348b38a9bbe4bd35a38d16b40060000000d41060000000651043432"
    ++ codes "4f0603010004501218113a025d7445666e90b6f6742b3cbf")))
    ∷ data_ 1 (octets (codes "ffffffffffff0200000000aa08004500"))
    ∷ [])
    ≡ turned Done (ToHost 1 (octets (codes "0180c2000003020000010101888e020000050100000501")) ∷ [])
    ∷ turned Done (ToHost 1 (octets (codes "0200000000aa020000010101888e020000050101000501")) ∷ [])
    ∷ turned Done (ToServer 0 (octets (codes "0100008876b8e0ada0f13d90405d6ae55386bd28501253e57ffb03b625516082c42d3083"
    ++ codes "40f70105626f620406c000020a0506000000010606000000020c06000005d81e1330322d"
    ++ codes "30302d30302d30312d30312d30311f1330322d30302d30302d30302d30302d4141200573"
    ++ codes "77313d060000000f2c0a30303030303030314f0a0201000801626f62")) ∷ [])
    ∷ turned Done (ToHost 1 (octets (codes "0200000000aa020000010101888e0200000403010004")) ∷ [])
    ∷ decided (Forward 1 42)
    ∷ []
unfolding settled pieces request_octets next_name packet_of attributes_of run_within first_attribute authenticator u32_at
    block_word double_rounds column_round diagonal_round quarter_round md5 digest_bytes hash_after compress rounds block_words
an_accept = refl

-- the same Accept once more answers no request
the_same_accept_again : told (opening settings_1)
    (control (Link 1 true)
    ∷ control (Frame 1 (octets (codes "0180c20000030200000000aa888e01010000")))
    ∷ control (Frame 1 (octets (codes "0180c20000030200000000aa888e010000080201000801626f62")))
    ∷ control (Radius 0 (octets (codes "0200003ce5d68680a348b38a9bbe4bd35a38d16b40060000000d41060000000651043432"
    ++ codes "4f0603010004501218113a025d7445666e90b6f6742b3cbf")))
    ∷ data_ 1 (octets (codes "ffffffffffff0200000000aa08004500"))
    ∷ control (Radius 0 (octets (codes "0200003ce5d68680a348b38a9bbe4bd35a38d16b40060000000d41060000000651043432"
    ++ codes "4f0603010004501218113a025d7445666e90b6f6742b3cbf")))
    ∷ [])
    ≡ turned Done (ToHost 1 (octets (codes "0180c2000003020000010101888e020000050100000501")) ∷ [])
    ∷ turned Done (ToHost 1 (octets (codes "0200000000aa020000010101888e020000050101000501")) ∷ [])
    ∷ turned Done (ToServer 0 (octets (codes "0100008876b8e0ada0f13d90405d6ae55386bd28501253e57ffb03b625516082c42d3083"
    ++ codes "40f70105626f620406c000020a0506000000010606000000020c06000005d81e1330322d"
    ++ codes "30302d30302d30312d30312d30311f1330322d30302d30302d30302d30302d4141200573"
    ++ codes "77313d060000000f2c0a30303030303030314f0a0201000801626f62")) ∷ [])
    ∷ turned Done (ToHost 1 (octets (codes "0200000000aa020000010101888e0200000403010004")) ∷ [])
    ∷ decided (Forward 1 42)
    ∷ turned (AnswerDropped answer.NoRequest) ([])
    ∷ []
unfolding settled pieces request_octets next_name packet_of attributes_of run_within first_attribute authenticator u32_at
    block_word double_rounds column_round diagonal_round quarter_round md5 digest_bytes hash_after compress rounds block_words
the_same_accept_again = refl

-- an Accept with one octet of its authenticator changed is dropped, and the right one is taken
an_octet_is_wrong : told (opening settings_1)
    (control (Link 1 true)
    ∷ control (Frame 1 (octets (codes "0180c20000030200000000aa888e01010000")))
    ∷ control (Frame 1 (octets (codes "0180c20000030200000000aa888e010000080201000801626f62")))
    ∷ control (Radius 0 (octets (codes "0200003ce5d68681a348b38a9bbe4bd35a38d16b40060000000d41060000000651043432"
    ++ codes "4f0603010004501218113a025d7445666e90b6f6742b3cbf")))
    ∷ data_ 1 (octets (codes "ffffffffffff0200000000aa08004500"))
    ∷ control (Radius 0 (octets (codes "0200003ce5d68680a348b38a9bbe4bd35a38d16b40060000000d41060000000651043432"
    ++ codes "4f0603010004501218113a025d7445666e90b6f6742b3cbf")))
    ∷ data_ 1 (octets (codes "ffffffffffff0200000000aa08004500"))
    ∷ [])
    ≡ turned Done (ToHost 1 (octets (codes "0180c2000003020000010101888e020000050100000501")) ∷ [])
    ∷ turned Done (ToHost 1 (octets (codes "0200000000aa020000010101888e020000050101000501")) ∷ [])
    ∷ turned Done (ToServer 0 (octets (codes "0100008876b8e0ada0f13d90405d6ae55386bd28501253e57ffb03b625516082c42d3083"
    ++ codes "40f70105626f620406c000020a0506000000010606000000020c06000005d81e1330322d"
    ++ codes "30302d30302d30312d30312d30311f1330322d30302d30302d30302d30302d4141200573"
    ++ codes "77313d060000000f2c0a30303030303030314f0a0201000801626f62")) ∷ [])
    ∷ turned (AnswerDropped answer.BadAuthenticator) ([])
    ∷ decided (Drop Unauthorised)
    ∷ turned Done (ToHost 1 (octets (codes "0200000000aa020000010101888e0200000403010004")) ∷ [])
    ∷ decided (Forward 1 42)
    ∷ []
unfolding settled pieces request_octets next_name packet_of attributes_of run_within first_attribute authenticator u32_at
    block_word double_rounds column_round diagonal_round quarter_round md5 digest_bytes hash_after compress rounds block_words
an_octet_is_wrong = refl

-- a Challenge goes to the host, and its State comes back to the server
a_challenge : told (opening settings_1)
    (control (Link 1 true)
    ∷ control (Frame 1 (octets (codes "0180c20000030200000000aa888e01010000")))
    ∷ control (Frame 1 (octets (codes "0180c20000030200000000aa888e010000080201000801626f62")))
    ∷ control (Radius 0 (octets (codes "0b000036c815966a5b7bc3ff1d35370e6312da5d180453544f0c0109000a0410aabbccdd"
    ++ codes "5012eefe1be1fad19e17bd5de3b12d2ff988")))
    ∷ control (Frame 1 (octets (codes "0180c20000030200000000aa888e010000080209000804100102")))
    ∷ [])
    ≡ turned Done (ToHost 1 (octets (codes "0180c2000003020000010101888e020000050100000501")) ∷ [])
    ∷ turned Done (ToHost 1 (octets (codes "0200000000aa020000010101888e020000050101000501")) ∷ [])
    ∷ turned Done (ToServer 0 (octets (codes "0100008876b8e0ada0f13d90405d6ae55386bd28501253e57ffb03b625516082c42d3083"
    ++ codes "40f70105626f620406c000020a0506000000010606000000020c06000005d81e1330322d"
    ++ codes "30302d30302d30312d30312d30311f1330322d30302d30302d30302d30302d4141200573"
    ++ codes "77313d060000000f2c0a30303030303030314f0a0201000801626f62")) ∷ [])
    ∷ turned Done (ToHost 1 (octets (codes "0200000000aa020000010101888e0200000a0109000a0410aabbccdd")) ∷ [])
    ∷ turned Done (ToServer 0 (octets (codes "0101008cbdd219b8a08ded1aa836efcc8b770dc75012461059bd86bbdee491506d20c656"
    ++ codes "eb450105626f620406c000020a0506000000010606000000020c06000005d81e1330322d"
    ++ codes "30302d30302d30312d30312d30311f1330322d30302d30302d30302d30302d4141200573"
    ++ codes "77313d060000000f2c0a3030303030303031180453544f0a0209000804100102")) ∷ [])
    ∷ []
unfolding settled pieces request_octets next_name packet_of attributes_of run_within first_attribute authenticator u32_at
    block_word double_rounds column_round diagonal_round quarter_round md5 digest_bytes hash_after compress rounds block_words
a_challenge = refl

-- an Accept with the VLAN 4095 is as a Reject
vlan_4095 : told (opening settings_1)
    (control (Link 1 true)
    ∷ control (Frame 1 (octets (codes "0180c20000030200000000aa888e01010000")))
    ∷ control (Frame 1 (octets (codes "0180c20000030200000000aa888e010000080201000801626f62")))
    ∷ control (Radius 0 (octets (codes "0200003eb64013957e83a77a94bc593426a5f15040060000000d41060000000651063430"
    ++ codes "39354f06030100045012dbe5c45edba977b6fd352659a3b9350d")))
    ∷ data_ 1 (octets (codes "ffffffffffff0200000000aa08004500"))
    ∷ control (Frame 1 (octets (codes "0180c20000030200000000aa888e01010000")))
    ∷ control (Second)
    ∷ control (Second)
    ∷ control (Second)
    ∷ control (Second)
    ∷ control (Second)
    ∷ control (Second)
    ∷ control (Second)
    ∷ control (Second)
    ∷ control (Second)
    ∷ control (Second)
    ∷ control (Second)
    ∷ control (Second)
    ∷ control (Second)
    ∷ control (Second)
    ∷ control (Second)
    ∷ control (Second)
    ∷ control (Second)
    ∷ control (Second)
    ∷ control (Second)
    ∷ control (Second)
    ∷ control (Second)
    ∷ control (Second)
    ∷ control (Second)
    ∷ control (Second)
    ∷ control (Second)
    ∷ control (Second)
    ∷ control (Second)
    ∷ control (Second)
    ∷ control (Second)
    ∷ control (Second)
    ∷ control (Second)
    ∷ control (Second)
    ∷ control (Second)
    ∷ control (Second)
    ∷ control (Second)
    ∷ control (Second)
    ∷ control (Second)
    ∷ control (Second)
    ∷ control (Second)
    ∷ control (Second)
    ∷ control (Second)
    ∷ control (Second)
    ∷ control (Second)
    ∷ control (Second)
    ∷ control (Second)
    ∷ control (Second)
    ∷ control (Second)
    ∷ control (Second)
    ∷ control (Second)
    ∷ control (Second)
    ∷ control (Second)
    ∷ control (Second)
    ∷ control (Second)
    ∷ control (Second)
    ∷ control (Second)
    ∷ control (Second)
    ∷ control (Second)
    ∷ control (Second)
    ∷ control (Second)
    ∷ control (Second)
    ∷ [])
    ≡ turned Done (ToHost 1 (octets (codes "0180c2000003020000010101888e020000050100000501")) ∷ [])
    ∷ turned Done (ToHost 1 (octets (codes "0200000000aa020000010101888e020000050101000501")) ∷ [])
    ∷ turned Done (ToServer 0 (octets (codes "0100008876b8e0ada0f13d90405d6ae55386bd28501253e57ffb03b625516082c42d3083"
    ++ codes "40f70105626f620406c000020a0506000000010606000000020c06000005d81e1330322d"
    ++ codes "30302d30302d30312d30312d30311f1330322d30302d30302d30302d30302d4141200573"
    ++ codes "77313d060000000f2c0a30303030303030314f0a0201000801626f62")) ∷ [])
    ∷ turned Done (ToHost 1 (octets (codes "0200000000aa020000010101888e0200000404010004")) ∷ [])
    ∷ decided (Drop Unauthorised)
    ∷ turned Done ([])
    ∷ turned Done ([])
    ∷ turned Done ([])
    ∷ turned Done ([])
    ∷ turned Done ([])
    ∷ turned Done ([])
    ∷ turned Done ([])
    ∷ turned Done ([])
    ∷ turned Done ([])
    ∷ turned Done ([])
    ∷ turned Done ([])
    ∷ turned Done ([])
    ∷ turned Done ([])
    ∷ turned Done ([])
    ∷ turned Done ([])
    ∷ turned Done ([])
    ∷ turned Done ([])
    ∷ turned Done ([])
    ∷ turned Done ([])
    ∷ turned Done ([])
    ∷ turned Done ([])
    ∷ turned Done ([])
    ∷ turned Done ([])
    ∷ turned Done ([])
    ∷ turned Done ([])
    ∷ turned Done ([])
    ∷ turned Done ([])
    ∷ turned Done ([])
    ∷ turned Done ([])
    ∷ turned Done ([])
    ∷ turned Done ([])
    ∷ turned Done ([])
    ∷ turned Done ([])
    ∷ turned Done ([])
    ∷ turned Done ([])
    ∷ turned Done ([])
    ∷ turned Done ([])
    ∷ turned Done ([])
    ∷ turned Done ([])
    ∷ turned Done ([])
    ∷ turned Done ([])
    ∷ turned Done ([])
    ∷ turned Done ([])
    ∷ turned Done ([])
    ∷ turned Done ([])
    ∷ turned Done ([])
    ∷ turned Done ([])
    ∷ turned Done ([])
    ∷ turned Done ([])
    ∷ turned Done ([])
    ∷ turned Done ([])
    ∷ turned Done ([])
    ∷ turned Done ([])
    ∷ turned Done ([])
    ∷ turned Done ([])
    ∷ turned Done ([])
    ∷ turned Done ([])
    ∷ turned Done ([])
    ∷ turned Done ([])
    ∷ turned Done ([])
    ∷ turned Done (ToHost 1 (octets (codes "0200000000aa020000010101888e020000050102000501")) ∷ [])
    ∷ []
unfolding settled pieces request_octets next_name packet_of attributes_of run_within first_attribute authenticator u32_at
    block_word double_rounds column_round diagonal_round quarter_round md5 digest_bytes hash_after compress rounds block_words
vlan_4095 = refl

-- so is one with a leading zero
vlan_010 : told (opening settings_1)
    (control (Link 1 true)
    ∷ control (Frame 1 (octets (codes "0180c20000030200000000aa888e01010000")))
    ∷ control (Frame 1 (octets (codes "0180c20000030200000000aa888e010000080201000801626f62")))
    ∷ control (Radius 0 (octets (codes "0200003dc1be77d33fb0ffde883a3336a6ba8f0f40060000000d41060000000651053031"
    ++ codes "304f060301000450120d1ac6895b5476dc9aabcf728ed78b8c")))
    ∷ data_ 1 (octets (codes "ffffffffffff0200000000aa08004500"))
    ∷ control (Frame 1 (octets (codes "0180c20000030200000000aa888e01010000")))
    ∷ control (Second)
    ∷ control (Second)
    ∷ control (Second)
    ∷ control (Second)
    ∷ control (Second)
    ∷ control (Second)
    ∷ control (Second)
    ∷ control (Second)
    ∷ control (Second)
    ∷ control (Second)
    ∷ control (Second)
    ∷ control (Second)
    ∷ control (Second)
    ∷ control (Second)
    ∷ control (Second)
    ∷ control (Second)
    ∷ control (Second)
    ∷ control (Second)
    ∷ control (Second)
    ∷ control (Second)
    ∷ control (Second)
    ∷ control (Second)
    ∷ control (Second)
    ∷ control (Second)
    ∷ control (Second)
    ∷ control (Second)
    ∷ control (Second)
    ∷ control (Second)
    ∷ control (Second)
    ∷ control (Second)
    ∷ control (Second)
    ∷ control (Second)
    ∷ control (Second)
    ∷ control (Second)
    ∷ control (Second)
    ∷ control (Second)
    ∷ control (Second)
    ∷ control (Second)
    ∷ control (Second)
    ∷ control (Second)
    ∷ control (Second)
    ∷ control (Second)
    ∷ control (Second)
    ∷ control (Second)
    ∷ control (Second)
    ∷ control (Second)
    ∷ control (Second)
    ∷ control (Second)
    ∷ control (Second)
    ∷ control (Second)
    ∷ control (Second)
    ∷ control (Second)
    ∷ control (Second)
    ∷ control (Second)
    ∷ control (Second)
    ∷ control (Second)
    ∷ control (Second)
    ∷ control (Second)
    ∷ control (Second)
    ∷ control (Second)
    ∷ [])
    ≡ turned Done (ToHost 1 (octets (codes "0180c2000003020000010101888e020000050100000501")) ∷ [])
    ∷ turned Done (ToHost 1 (octets (codes "0200000000aa020000010101888e020000050101000501")) ∷ [])
    ∷ turned Done (ToServer 0 (octets (codes "0100008876b8e0ada0f13d90405d6ae55386bd28501253e57ffb03b625516082c42d3083"
    ++ codes "40f70105626f620406c000020a0506000000010606000000020c06000005d81e1330322d"
    ++ codes "30302d30302d30312d30312d30311f1330322d30302d30302d30302d30302d4141200573"
    ++ codes "77313d060000000f2c0a30303030303030314f0a0201000801626f62")) ∷ [])
    ∷ turned Done (ToHost 1 (octets (codes "0200000000aa020000010101888e0200000404010004")) ∷ [])
    ∷ decided (Drop Unauthorised)
    ∷ turned Done ([])
    ∷ turned Done ([])
    ∷ turned Done ([])
    ∷ turned Done ([])
    ∷ turned Done ([])
    ∷ turned Done ([])
    ∷ turned Done ([])
    ∷ turned Done ([])
    ∷ turned Done ([])
    ∷ turned Done ([])
    ∷ turned Done ([])
    ∷ turned Done ([])
    ∷ turned Done ([])
    ∷ turned Done ([])
    ∷ turned Done ([])
    ∷ turned Done ([])
    ∷ turned Done ([])
    ∷ turned Done ([])
    ∷ turned Done ([])
    ∷ turned Done ([])
    ∷ turned Done ([])
    ∷ turned Done ([])
    ∷ turned Done ([])
    ∷ turned Done ([])
    ∷ turned Done ([])
    ∷ turned Done ([])
    ∷ turned Done ([])
    ∷ turned Done ([])
    ∷ turned Done ([])
    ∷ turned Done ([])
    ∷ turned Done ([])
    ∷ turned Done ([])
    ∷ turned Done ([])
    ∷ turned Done ([])
    ∷ turned Done ([])
    ∷ turned Done ([])
    ∷ turned Done ([])
    ∷ turned Done ([])
    ∷ turned Done ([])
    ∷ turned Done ([])
    ∷ turned Done ([])
    ∷ turned Done ([])
    ∷ turned Done ([])
    ∷ turned Done ([])
    ∷ turned Done ([])
    ∷ turned Done ([])
    ∷ turned Done ([])
    ∷ turned Done ([])
    ∷ turned Done ([])
    ∷ turned Done ([])
    ∷ turned Done ([])
    ∷ turned Done ([])
    ∷ turned Done ([])
    ∷ turned Done ([])
    ∷ turned Done ([])
    ∷ turned Done ([])
    ∷ turned Done ([])
    ∷ turned Done ([])
    ∷ turned Done ([])
    ∷ turned Done ([])
    ∷ turned Done (ToHost 1 (octets (codes "0200000000aa020000010101888e020000050102000501")) ∷ [])
    ∷ []
unfolding settled pieces request_octets next_name packet_of attributes_of run_within first_attribute authenticator u32_at
    block_word double_rounds column_round diagonal_round quarter_round md5 digest_bytes hash_after compress rounds block_words
vlan_010 = refl

-- and one without the group
no_group : told (opening settings_1)
    (control (Link 1 true)
    ∷ control (Frame 1 (octets (codes "0180c20000030200000000aa888e01010000")))
    ∷ control (Frame 1 (octets (codes "0180c20000030200000000aa888e010000080201000801626f62")))
    ∷ control (Radius 0 (octets (codes "020000322704598580a89984c32d68356c09404840060000000d4f06030100045012b31c"
    ++ codes "778612917d1f57c2830b0a7dfef0")))
    ∷ data_ 1 (octets (codes "ffffffffffff0200000000aa08004500"))
    ∷ control (Frame 1 (octets (codes "0180c20000030200000000aa888e01010000")))
    ∷ control (Second)
    ∷ control (Second)
    ∷ control (Second)
    ∷ control (Second)
    ∷ control (Second)
    ∷ control (Second)
    ∷ control (Second)
    ∷ control (Second)
    ∷ control (Second)
    ∷ control (Second)
    ∷ control (Second)
    ∷ control (Second)
    ∷ control (Second)
    ∷ control (Second)
    ∷ control (Second)
    ∷ control (Second)
    ∷ control (Second)
    ∷ control (Second)
    ∷ control (Second)
    ∷ control (Second)
    ∷ control (Second)
    ∷ control (Second)
    ∷ control (Second)
    ∷ control (Second)
    ∷ control (Second)
    ∷ control (Second)
    ∷ control (Second)
    ∷ control (Second)
    ∷ control (Second)
    ∷ control (Second)
    ∷ control (Second)
    ∷ control (Second)
    ∷ control (Second)
    ∷ control (Second)
    ∷ control (Second)
    ∷ control (Second)
    ∷ control (Second)
    ∷ control (Second)
    ∷ control (Second)
    ∷ control (Second)
    ∷ control (Second)
    ∷ control (Second)
    ∷ control (Second)
    ∷ control (Second)
    ∷ control (Second)
    ∷ control (Second)
    ∷ control (Second)
    ∷ control (Second)
    ∷ control (Second)
    ∷ control (Second)
    ∷ control (Second)
    ∷ control (Second)
    ∷ control (Second)
    ∷ control (Second)
    ∷ control (Second)
    ∷ control (Second)
    ∷ control (Second)
    ∷ control (Second)
    ∷ control (Second)
    ∷ control (Second)
    ∷ [])
    ≡ turned Done (ToHost 1 (octets (codes "0180c2000003020000010101888e020000050100000501")) ∷ [])
    ∷ turned Done (ToHost 1 (octets (codes "0200000000aa020000010101888e020000050101000501")) ∷ [])
    ∷ turned Done (ToServer 0 (octets (codes "0100008876b8e0ada0f13d90405d6ae55386bd28501253e57ffb03b625516082c42d3083"
    ++ codes "40f70105626f620406c000020a0506000000010606000000020c06000005d81e1330322d"
    ++ codes "30302d30302d30312d30312d30311f1330322d30302d30302d30302d30302d4141200573"
    ++ codes "77313d060000000f2c0a30303030303030314f0a0201000801626f62")) ∷ [])
    ∷ turned Done (ToHost 1 (octets (codes "0200000000aa020000010101888e0200000404010004")) ∷ [])
    ∷ decided (Drop Unauthorised)
    ∷ turned Done ([])
    ∷ turned Done ([])
    ∷ turned Done ([])
    ∷ turned Done ([])
    ∷ turned Done ([])
    ∷ turned Done ([])
    ∷ turned Done ([])
    ∷ turned Done ([])
    ∷ turned Done ([])
    ∷ turned Done ([])
    ∷ turned Done ([])
    ∷ turned Done ([])
    ∷ turned Done ([])
    ∷ turned Done ([])
    ∷ turned Done ([])
    ∷ turned Done ([])
    ∷ turned Done ([])
    ∷ turned Done ([])
    ∷ turned Done ([])
    ∷ turned Done ([])
    ∷ turned Done ([])
    ∷ turned Done ([])
    ∷ turned Done ([])
    ∷ turned Done ([])
    ∷ turned Done ([])
    ∷ turned Done ([])
    ∷ turned Done ([])
    ∷ turned Done ([])
    ∷ turned Done ([])
    ∷ turned Done ([])
    ∷ turned Done ([])
    ∷ turned Done ([])
    ∷ turned Done ([])
    ∷ turned Done ([])
    ∷ turned Done ([])
    ∷ turned Done ([])
    ∷ turned Done ([])
    ∷ turned Done ([])
    ∷ turned Done ([])
    ∷ turned Done ([])
    ∷ turned Done ([])
    ∷ turned Done ([])
    ∷ turned Done ([])
    ∷ turned Done ([])
    ∷ turned Done ([])
    ∷ turned Done ([])
    ∷ turned Done ([])
    ∷ turned Done ([])
    ∷ turned Done ([])
    ∷ turned Done ([])
    ∷ turned Done ([])
    ∷ turned Done ([])
    ∷ turned Done ([])
    ∷ turned Done ([])
    ∷ turned Done ([])
    ∷ turned Done ([])
    ∷ turned Done ([])
    ∷ turned Done ([])
    ∷ turned Done ([])
    ∷ turned Done ([])
    ∷ turned Done (ToHost 1 (octets (codes "0200000000aa020000010101888e020000050102000501")) ∷ [])
    ∷ []
unfolding settled pieces request_octets next_name packet_of attributes_of run_within first_attribute authenticator u32_at
    block_word double_rounds column_round diagonal_round quarter_round md5 digest_bytes hash_after compress rounds block_words
no_group = refl

-- Session-Timeout with Termination-Action 1: the host is asked again
time_to_ask_again : told (opening settings_1)
    (control (Link 1 true)
    ∷ control (Frame 1 (octets (codes "0180c20000030200000000aa888e01010000")))
    ∷ control (Frame 1 (octets (codes "0180c20000030200000000aa888e010000080201000801626f62")))
    ∷ control (Radius 0 (octets (codes "02000048e93cac58e875a803dc8629665e4c82b440060000000d41060000000651043432"
    ++ codes "4f06030100041b06000000051d06000000015012a5b9e249e1860bd7561f8d6ba0246683")))
    ∷ control (Second)
    ∷ control (Second)
    ∷ control (Second)
    ∷ control (Second)
    ∷ control (Second)
    ∷ data_ 1 (octets (codes "ffffffffffff0200000000aa08004500"))
    ∷ [])
    ≡ turned Done (ToHost 1 (octets (codes "0180c2000003020000010101888e020000050100000501")) ∷ [])
    ∷ turned Done (ToHost 1 (octets (codes "0200000000aa020000010101888e020000050101000501")) ∷ [])
    ∷ turned Done (ToServer 0 (octets (codes "0100008876b8e0ada0f13d90405d6ae55386bd28501253e57ffb03b625516082c42d3083"
    ++ codes "40f70105626f620406c000020a0506000000010606000000020c06000005d81e1330322d"
    ++ codes "30302d30302d30312d30312d30311f1330322d30302d30302d30302d30302d4141200573"
    ++ codes "77313d060000000f2c0a30303030303030314f0a0201000801626f62")) ∷ [])
    ∷ turned Done (ToHost 1 (octets (codes "0200000000aa020000010101888e0200000403010004")) ∷ [])
    ∷ turned Done ([])
    ∷ turned Done ([])
    ∷ turned Done ([])
    ∷ turned Done ([])
    ∷ turned Done (ToHost 1 (octets (codes "0200000000aa020000010101888e020000050102000501")) ∷ [])
    ∷ decided (Forward 1 42)
    ∷ []
unfolding settled pieces request_octets next_name packet_of attributes_of run_within first_attribute authenticator u32_at
    block_word double_rounds column_round diagonal_round quarter_round md5 digest_bytes hash_after compress rounds block_words
time_to_ask_again = refl

-- and without it the session ends
time_to_end : told (opening settings_1)
    (control (Link 1 true)
    ∷ control (Frame 1 (octets (codes "0180c20000030200000000aa888e01010000")))
    ∷ control (Frame 1 (octets (codes "0180c20000030200000000aa888e010000080201000801626f62")))
    ∷ control (Radius 0 (octets (codes "02000042430c812cc8ecd2acc360fad577062fb940060000000d41060000000651043432"
    ++ codes "4f06030100041b06000000055012fd09450a3802326380401c82922a403c")))
    ∷ control (Second)
    ∷ control (Second)
    ∷ control (Second)
    ∷ control (Second)
    ∷ control (Second)
    ∷ data_ 1 (octets (codes "ffffffffffff0200000000aa08004500"))
    ∷ [])
    ≡ turned Done (ToHost 1 (octets (codes "0180c2000003020000010101888e020000050100000501")) ∷ [])
    ∷ turned Done (ToHost 1 (octets (codes "0200000000aa020000010101888e020000050101000501")) ∷ [])
    ∷ turned Done (ToServer 0 (octets (codes "0100008876b8e0ada0f13d90405d6ae55386bd28501253e57ffb03b625516082c42d3083"
    ++ codes "40f70105626f620406c000020a0506000000010606000000020c06000005d81e1330322d"
    ++ codes "30302d30302d30312d30312d30311f1330322d30302d30302d30302d30302d4141200573"
    ++ codes "77313d060000000f2c0a30303030303030314f0a0201000801626f62")) ∷ [])
    ∷ turned Done (ToHost 1 (octets (codes "0200000000aa020000010101888e0200000403010004")) ∷ [])
    ∷ turned Done ([])
    ∷ turned Done ([])
    ∷ turned Done ([])
    ∷ turned Done ([])
    ∷ turned Done (ToHost 1 (octets (codes "0200000000aa020000010101888e0200000404010004")) ∷ [])
    ∷ decided (Drop Unauthorised)
    ∷ []
unfolding settled pieces request_octets next_name packet_of attributes_of run_within first_attribute authenticator u32_at
    block_word double_rounds column_round diagonal_round quarter_round md5 digest_bytes hash_after compress rounds block_words
time_to_end = refl

-- an Accept without a Message-Authenticator is dropped
an_unsigned_accept : told (opening settings_1)
    (control (Link 1 true)
    ∷ control (Frame 1 (octets (codes "0180c20000030200000000aa888e01010000")))
    ∷ control (Frame 1 (octets (codes "0180c20000030200000000aa888e010000080201000801626f62")))
    ∷ control (Radius 0 (octets (codes "02000024e31f9e1b6fda971ce3d33aaefcf3951640060000000d41060000000651043432")))
    ∷ [])
    ≡ turned Done (ToHost 1 (octets (codes "0180c2000003020000010101888e020000050100000501")) ∷ [])
    ∷ turned Done (ToHost 1 (octets (codes "0200000000aa020000010101888e020000050101000501")) ∷ [])
    ∷ turned Done (ToServer 0 (octets (codes "0100008876b8e0ada0f13d90405d6ae55386bd28501253e57ffb03b625516082c42d3083"
    ++ codes "40f70105626f620406c000020a0506000000010606000000020c06000005d81e1330322d"
    ++ codes "30302d30302d30312d30312d30311f1330322d30302d30302d30302d30302d4141200573"
    ++ codes "77313d060000000f2c0a30303030303030314f0a0201000801626f62")) ∷ [])
    ∷ turned (AnswerDropped answer.BadMessageAuth) ([])
    ∷ []
unfolding settled pieces request_octets next_name packet_of attributes_of run_within first_attribute authenticator u32_at
    block_word double_rounds column_round diagonal_round quarter_round md5 digest_bytes hash_after compress rounds block_words
an_unsigned_accept = refl

abbrev settings_2 : Config
settings_2 = record empty {
  nas = record { ip = (192 ∷ 0 ∷ 2 ∷ 10 ∷ []); name = codes "sw1" };
  server = record { ip = (192 ∷ 0 ∷ 2 ∷ 20 ∷ []); port = 1812 };
  secret = (115 ∷ 101 ∷ 99 ∷ 114 ∷ 101 ∷ 116 ∷ []);
  require_ma = false;
  clients = record { ip = (192 ∷ 0 ∷ 2 ∷ 30 ∷ []); secret = (100 ∷ 121 ∷ 110 ∷ []) } ∷ [];
  ports =
      record { port = 1; native = 10; control = Auto; restricted = 0; guest = 0 }
      ∷ record { port = 2; native = 20; control = ForceAuth; restricted = 0; guest = 0 }
      ∷ record { port = 3; native = 30; control = ForceUnauth; restricted = 0; guest = 0 }
      ∷ [];
  times = record { quiet = 60; server = 30; reauth_max = 2; reauth_period = 3600; reauth = false };
}

-- and taken where the settings want none
an_unsigned_accept_is_allowed : told (opening settings_2)
    (control (Link 1 true)
    ∷ control (Frame 1 (octets (codes "0180c20000030200000000aa888e01010000")))
    ∷ control (Frame 1 (octets (codes "0180c20000030200000000aa888e010000080201000801626f62")))
    ∷ control (Radius 0 (octets (codes "02000024e31f9e1b6fda971ce3d33aaefcf3951640060000000d41060000000651043432")))
    ∷ data_ 1 (octets (codes "ffffffffffff0200000000aa08004500"))
    ∷ [])
    ≡ turned Done (ToHost 1 (octets (codes "0180c2000003020000010101888e020000050100000501")) ∷ [])
    ∷ turned Done (ToHost 1 (octets (codes "0200000000aa020000010101888e020000050101000501")) ∷ [])
    ∷ turned Done (ToServer 0 (octets (codes "0100008876b8e0ada0f13d90405d6ae55386bd28501253e57ffb03b625516082c42d3083"
    ++ codes "40f70105626f620406c000020a0506000000010606000000020c06000005d81e1330322d"
    ++ codes "30302d30302d30312d30312d30311f1330322d30302d30302d30302d30302d4141200573"
    ++ codes "77313d060000000f2c0a30303030303030314f0a0201000801626f62")) ∷ [])
    ∷ turned Done (ToHost 1 (octets (codes "0200000000aa020000010101888e0200000403010004")) ∷ [])
    ∷ decided (Forward 1 42)
    ∷ []
unfolding settled pieces request_octets next_name packet_of attributes_of run_within first_attribute authenticator u32_at
    block_word double_rounds column_round diagonal_round quarter_round md5 digest_bytes hash_after compress rounds block_words
an_unsigned_accept_is_allowed = refl

-- an answer to another socket answers no request
another_socket : told (opening settings_1)
    (control (Link 1 true)
    ∷ control (Frame 1 (octets (codes "0180c20000030200000000aa888e01010000")))
    ∷ control (Frame 1 (octets (codes "0180c20000030200000000aa888e010000080201000801626f62")))
    ∷ control (Radius 4 (octets (codes "0200003ce5d68680a348b38a9bbe4bd35a38d16b40060000000d41060000000651043432"
    ++ codes "4f0603010004501218113a025d7445666e90b6f6742b3cbf")))
    ∷ [])
    ≡ turned Done (ToHost 1 (octets (codes "0180c2000003020000010101888e020000050100000501")) ∷ [])
    ∷ turned Done (ToHost 1 (octets (codes "0200000000aa020000010101888e020000050101000501")) ∷ [])
    ∷ turned Done (ToServer 0 (octets (codes "0100008876b8e0ada0f13d90405d6ae55386bd28501253e57ffb03b625516082c42d3083"
    ++ codes "40f70105626f620406c000020a0506000000010606000000020c06000005d81e1330322d"
    ++ codes "30302d30302d30312d30312d30311f1330322d30302d30302d30302d30302d4141200573"
    ++ codes "77313d060000000f2c0a30303030303030314f0a0201000801626f62")) ∷ [])
    ∷ turned (AnswerDropped answer.NoRequest) ([])
    ∷ []
unfolding settled pieces request_octets next_name packet_of attributes_of run_within first_attribute authenticator u32_at
    block_word double_rounds column_round diagonal_round quarter_round md5 digest_bytes hash_after compress rounds block_words
another_socket = refl

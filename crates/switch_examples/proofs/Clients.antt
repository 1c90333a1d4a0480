-- Worked examples: dynamic requests.
use Rattle.std.proofs.Common.{◌≡◌, refl, [], ◌∷◌, ◌++◌, codes, true, false}
use Rattle.md5.specs.Md5.{md5, digest_bytes, hash_after, compress, rounds, block_words}
use Rattle.rand_core.specs.Steps.{u32_at}
use Rattle.rand_chacha.specs.Block.{block_word, double_rounds, column_round, diagonal_round, quarter_round}
use Rattle.radius_defs.specs.Reading.{attributes_of, run_within, first_attribute}
use Rattle.radius_defs.specs.Parsed.{packet_of}
use Rattle.settle_defs.specs.Settle.{settled}
use Rattle.aaa_defs.specs.Request.{pieces, request_octets, authenticator}
use Rattle.aaa_defs.specs.Waits.{next_name}
use Rattle.machine_vars.specs.declared.control.Control.TheVariants.{Auto, ForceAuth, ForceUnauth}
use Rattle.switch_event.specs.Config.{Config, empty}
use Rattle.switch_event.specs.Event.{Frame, Radius, Dynamic, Second, Link}
use Rattle.switch_event.specs.declared.drop.DynDrop.TheVariants as request
use Rattle.switch_event.specs.declared.event.Outcome.TheVariants.{Done, Acked, Naked, Again, RequestDropped}
use Rattle.switch_event.specs.declared.decision.Decision.TheVariants.{Forward}
use Rattle.switch_event.specs.Sent.{ToHost, ToServer, ToClient}
use Rattle.switch_defs.specs.Switch.{opening}
use Rattle.switch_examples.specs.Told.{control, data_, turned, decided, told, octets}

abbrev settings_1 : Config
settings_1 = record empty {
  nas = record { ip = (192 ∷ 0 ∷ 2 ∷ 10 ∷ []); name = codes "sw1" };
  server = record { ip = (192 ∷ 0 ∷ 2 ∷ 20 ∷ []); port = 1812 };
  secret = (115 ∷ 101 ∷ 99 ∷ 114 ∷ 101 ∷ 116 ∷ []);
  clients = record { ip = (192 ∷ 0 ∷ 2 ∷ 30 ∷ []); secret = (100 ∷ 121 ∷ 110 ∷ []) } ∷ [];
  ports =
      record { port = 1; native = 10; control = Auto; restricted = 0; guest = 0 }
      ∷ record { port = 2; native = 20; control = ForceAuth; restricted = 0; guest = 0 }
      ∷ record { port = 3; native = 30; control = ForceUnauth; restricted = 0; guest = 0 }
      ∷ [];
  times = record { quiet = 60; server = 30; reauth_max = 2; reauth_period = 3600; reauth = false };
}

-- a Disconnect lets the host go; within 30 seconds it is answered as before
a_disconnect : told (opening settings_1)
    (control (Link 1 true)
    ∷ control (Frame 1 (octets (codes "0180c20000030200000000aa888e01010000")))
    ∷ control (Frame 1 (octets (codes "0180c20000030200000000aa888e010000080201000801626f62")))
    ∷ control (Radius 0 (octets (codes "0200003ce5d68680a348b38a9bbe4bd35a38d16b40060000000d41060000000651043432"
    ++ codes "4f0603010004501218113a025d7445666e90b6f6742b3cbf")))
    ∷ data_ 1 (octets (codes "ffffffffffff0200000000aa08004500"))
    ∷ control (Dynamic (record { ip = (192 ∷ 0 ∷ 2 ∷ 30 ∷ []); port = 4000 }) (octets (codes "28070030c583563ad757fdb73bd83dd161f9bf395012cd88b8a89b1d4ed8fa71a2d0624f"
    ++ codes "f5de2c0a3030303030303031")))
    ∷ control (Second)
    ∷ control (Second)
    ∷ control (Second)
    ∷ control (Second)
    ∷ control (Second)
    ∷ control (Second)
    ∷ control (Second)
    ∷ control (Second)
    ∷ control (Second)
    ∷ control (Second)
    ∷ control (Second)
    ∷ control (Second)
    ∷ control (Second)
    ∷ control (Second)
    ∷ control (Second)
    ∷ control (Second)
    ∷ control (Second)
    ∷ control (Second)
    ∷ control (Second)
    ∷ control (Second)
    ∷ control (Second)
    ∷ control (Second)
    ∷ control (Second)
    ∷ control (Second)
    ∷ control (Second)
    ∷ control (Second)
    ∷ control (Second)
    ∷ control (Second)
    ∷ control (Second)
    ∷ control (Second)
    ∷ control (Dynamic (record { ip = (192 ∷ 0 ∷ 2 ∷ 30 ∷ []); port = 4000 }) (octets (codes "28070030c583563ad757fdb73bd83dd161f9bf395012cd88b8a89b1d4ed8fa71a2d0624f"
    ++ codes "f5de2c0a3030303030303031")))
    ∷ [])
    ≡ turned Done (ToHost 1 (octets (codes "0180c2000003020000010101888e020000050100000501")) ∷ [])
    ∷ turned Done (ToHost 1 (octets (codes "0200000000aa020000010101888e020000050101000501")) ∷ [])
    ∷ turned Done (ToServer 0 (octets (codes "0100008876b8e0ada0f13d90405d6ae55386bd28501253e57ffb03b625516082c42d3083"
    ++ codes "40f70105626f620406c000020a0506000000010606000000020c06000005d81e1330322d"
    ++ codes "30302d30302d30312d30312d30311f1330322d30302d30302d30302d30302d4141200573"
    ++ codes "77313d060000000f2c0a30303030303030314f0a0201000801626f62")) ∷ [])
    ∷ turned Done (ToHost 1 (octets (codes "0200000000aa020000010101888e0200000403010004")) ∷ [])
    ∷ decided (Forward 1 42)
    ∷ turned Acked (ToHost 1 (octets (codes "0200000000aa020000010101888e0200000404010004")) ∷ ToClient (record { ip = (192 ∷ 0 ∷ 2 ∷ 30 ∷ []); port = 4000 }) (octets (codes "29070026179790a8866af0b528ebc7c3233b45045012740630574bd8153dc47a4c4aa1fd"
    ++ codes "88e5")) ∷ [])
    ∷ turned Done ([])
    ∷ turned Done ([])
    ∷ turned Done ([])
    ∷ turned Done ([])
    ∷ turned Done ([])
    ∷ turned Done ([])
    ∷ turned Done ([])
    ∷ turned Done ([])
    ∷ turned Done ([])
    ∷ turned Done ([])
    ∷ turned Done ([])
    ∷ turned Done ([])
    ∷ turned Done ([])
    ∷ turned Done ([])
    ∷ turned Done ([])
    ∷ turned Done ([])
    ∷ turned Done ([])
    ∷ turned Done ([])
    ∷ turned Done ([])
    ∷ turned Done ([])
    ∷ turned Done ([])
    ∷ turned Done ([])
    ∷ turned Done ([])
    ∷ turned Done ([])
    ∷ turned Done ([])
    ∷ turned Done ([])
    ∷ turned Done ([])
    ∷ turned Done ([])
    ∷ turned Done ([])
    ∷ turned Done ([])
    ∷ turned Again (ToClient (record { ip = (192 ∷ 0 ∷ 2 ∷ 30 ∷ []); port = 4000 }) (octets (codes "29070026179790a8866af0b528ebc7c3233b45045012740630574bd8153dc47a4c4aa1fd"
    ++ codes "88e5")) ∷ [])
    ∷ []
unfolding settled pieces request_octets next_name packet_of attributes_of run_within first_attribute authenticator u32_at
    block_word double_rounds column_round diagonal_round quarter_round md5 digest_bytes hash_after compress rounds block_words
a_disconnect = refl

-- after 31 seconds no session is found
a_disconnect_too_late : told (opening settings_1)
    (control (Link 1 true)
    ∷ control (Frame 1 (octets (codes "0180c20000030200000000aa888e01010000")))
    ∷ control (Frame 1 (octets (codes "0180c20000030200000000aa888e010000080201000801626f62")))
    ∷ control (Radius 0 (octets (codes "0200003ce5d68680a348b38a9bbe4bd35a38d16b40060000000d41060000000651043432"
    ++ codes "4f0603010004501218113a025d7445666e90b6f6742b3cbf")))
    ∷ data_ 1 (octets (codes "ffffffffffff0200000000aa08004500"))
    ∷ control (Dynamic (record { ip = (192 ∷ 0 ∷ 2 ∷ 30 ∷ []); port = 4000 }) (octets (codes "28070030c583563ad757fdb73bd83dd161f9bf395012cd88b8a89b1d4ed8fa71a2d0624f"
    ++ codes "f5de2c0a3030303030303031")))
    ∷ control (Second)
    ∷ control (Second)
    ∷ control (Second)
    ∷ control (Second)
    ∷ control (Second)
    ∷ control (Second)
    ∷ control (Second)
    ∷ control (Second)
    ∷ control (Second)
    ∷ control (Second)
    ∷ control (Second)
    ∷ control (Second)
    ∷ control (Second)
    ∷ control (Second)
    ∷ control (Second)
    ∷ control (Second)
    ∷ control (Second)
    ∷ control (Second)
    ∷ control (Second)
    ∷ control (Second)
    ∷ control (Second)
    ∷ control (Second)
    ∷ control (Second)
    ∷ control (Second)
    ∷ control (Second)
    ∷ control (Second)
    ∷ control (Second)
    ∷ control (Second)
    ∷ control (Second)
    ∷ control (Second)
    ∷ control (Second)
    ∷ control (Dynamic (record { ip = (192 ∷ 0 ∷ 2 ∷ 30 ∷ []); port = 4000 }) (octets (codes "28070030c583563ad757fdb73bd83dd161f9bf395012cd88b8a89b1d4ed8fa71a2d0624f"
    ++ codes "f5de2c0a3030303030303031")))
    ∷ [])
    ≡ turned Done (ToHost 1 (octets (codes "0180c2000003020000010101888e020000050100000501")) ∷ [])
    ∷ turned Done (ToHost 1 (octets (codes "0200000000aa020000010101888e020000050101000501")) ∷ [])
    ∷ turned Done (ToServer 0 (octets (codes "0100008876b8e0ada0f13d90405d6ae55386bd28501253e57ffb03b625516082c42d3083"
    ++ codes "40f70105626f620406c000020a0506000000010606000000020c06000005d81e1330322d"
    ++ codes "30302d30302d30312d30312d30311f1330322d30302d30302d30302d30302d4141200573"
    ++ codes "77313d060000000f2c0a30303030303030314f0a0201000801626f62")) ∷ [])
    ∷ turned Done (ToHost 1 (octets (codes "0200000000aa020000010101888e0200000403010004")) ∷ [])
    ∷ decided (Forward 1 42)
    ∷ turned Acked (ToHost 1 (octets (codes "0200000000aa020000010101888e0200000404010004")) ∷ ToClient (record { ip = (192 ∷ 0 ∷ 2 ∷ 30 ∷ []); port = 4000 }) (octets (codes "29070026179790a8866af0b528ebc7c3233b45045012740630574bd8153dc47a4c4aa1fd"
    ++ codes "88e5")) ∷ [])
    ∷ turned Done ([])
    ∷ turned Done ([])
    ∷ turned Done ([])
    ∷ turned Done ([])
    ∷ turned Done ([])
    ∷ turned Done ([])
    ∷ turned Done ([])
    ∷ turned Done ([])
    ∷ turned Done ([])
    ∷ turned Done ([])
    ∷ turned Done ([])
    ∷ turned Done ([])
    ∷ turned Done ([])
    ∷ turned Done ([])
    ∷ turned Done ([])
    ∷ turned Done ([])
    ∷ turned Done ([])
    ∷ turned Done ([])
    ∷ turned Done ([])
    ∷ turned Done ([])
    ∷ turned Done ([])
    ∷ turned Done ([])
    ∷ turned Done ([])
    ∷ turned Done ([])
    ∷ turned Done ([])
    ∷ turned Done ([])
    ∷ turned Done ([])
    ∷ turned Done ([])
    ∷ turned Done ([])
    ∷ turned Done ([])
    ∷ turned Done ([])
    ∷ turned (Naked 503) (ToClient (record { ip = (192 ∷ 0 ∷ 2 ∷ 30 ∷ []); port = 4000 }) (octets (codes "2a07002cc6052860c2e374ed34a9f02511c9b406501283300c3bf9793e8ebee143568b5f"
    ++ codes "8aae6506000001f7")) ∷ [])
    ∷ []
unfolding settled pieces request_octets next_name packet_of attributes_of run_within first_attribute authenticator u32_at
    block_word double_rounds column_round diagonal_round quarter_round md5 digest_bytes hash_after compress rounds block_words
a_disconnect_too_late = refl

-- two sessions match
two_sessions_match : told (opening settings_1)
    (control (Link 1 true)
    ∷ control (Frame 1 (octets (codes "0180c20000030200000000aa888e01010000")))
    ∷ control (Frame 1 (octets (codes "0180c20000030200000000aa888e010000080201000801626f62")))
    ∷ control (Radius 0 (octets (codes "0200003ce5d68680a348b38a9bbe4bd35a38d16b40060000000d41060000000651043432"
    ++ codes "4f0603010004501218113a025d7445666e90b6f6742b3cbf")))
    ∷ control (Frame 1 (octets (codes "0180c20000030200000000bb888e01010000")))
    ∷ control (Frame 1 (octets (codes "0180c20000030200000000bb888e010000080201000801626f62")))
    ∷ control (Radius 0 (octets (codes "0201003c7339306e29817c1aee77f2b862ab82f240060000000d41060000000651043432"
    ++ codes "4f060301000450125674544949024db958d91691bedaa387")))
    ∷ control (Dynamic (record { ip = (192 ∷ 0 ∷ 2 ∷ 30 ∷ []); port = 4000 }) (octets (codes "2809002b42a32fbaff344c2e40dcc59f269d8d305012b46007918247dc1a4a91c3d0806d"
    ++ codes "263f0105626f62")))
    ∷ data_ 1 (octets (codes "ffffffffffff0200000000aa08004500"))
    ∷ data_ 1 (octets (codes "ffffffffffff0200000000bb08004500"))
    ∷ [])
    ≡ turned Done (ToHost 1 (octets (codes "0180c2000003020000010101888e020000050100000501")) ∷ [])
    ∷ turned Done (ToHost 1 (octets (codes "0200000000aa020000010101888e020000050101000501")) ∷ [])
    ∷ turned Done (ToServer 0 (octets (codes "0100008876b8e0ada0f13d90405d6ae55386bd28501253e57ffb03b625516082c42d3083"
    ++ codes "40f70105626f620406c000020a0506000000010606000000020c06000005d81e1330322d"
    ++ codes "30302d30302d30312d30312d30311f1330322d30302d30302d30302d30302d4141200573"
    ++ codes "77313d060000000f2c0a30303030303030314f0a0201000801626f62")) ∷ [])
    ∷ turned Done (ToHost 1 (octets (codes "0200000000aa020000010101888e0200000403010004")) ∷ [])
    ∷ turned Done (ToHost 1 (octets (codes "0200000000bb020000010101888e020000050101000501")) ∷ [])
    ∷ turned Done (ToServer 0 (octets (codes "01010088bdd219b8a08ded1aa836efcc8b770dc7501297af0e293755a82e7cafeda939cf"
    ++ codes "b11b0105626f620406c000020a0506000000010606000000020c06000005d81e1330322d"
    ++ codes "30302d30302d30312d30312d30311f1330322d30302d30302d30302d30302d4242200573"
    ++ codes "77313d060000000f2c0a30303030303030324f0a0201000801626f62")) ∷ [])
    ∷ turned Done (ToHost 1 (octets (codes "0200000000bb020000010101888e0200000403010004")) ∷ [])
    ∷ turned (Naked 508) (ToClient (record { ip = (192 ∷ 0 ∷ 2 ∷ 30 ∷ []); port = 4000 }) (octets (codes "2a09002c4f11032fb055dffbeac151a1111edca75012cdba60a488b3143d79708fc3181e"
    ++ codes "0cc56506000001fc")) ∷ [])
    ∷ decided (Forward 1 42)
    ∷ decided (Forward 2 42)
    ∷ []
unfolding settled pieces request_octets next_name packet_of attributes_of run_within first_attribute authenticator u32_at
    block_word double_rounds column_round diagonal_round quarter_round md5 digest_bytes hash_after compress rounds block_words
two_sessions_match = refl

-- no session matches
no_session_matches : told (opening settings_1)
    (control (Link 1 true)
    ∷ control (Frame 1 (octets (codes "0180c20000030200000000aa888e01010000")))
    ∷ control (Frame 1 (octets (codes "0180c20000030200000000aa888e010000080201000801626f62")))
    ∷ control (Radius 0 (octets (codes "0200003ce5d68680a348b38a9bbe4bd35a38d16b40060000000d41060000000651043432"
    ++ codes "4f0603010004501218113a025d7445666e90b6f6742b3cbf")))
    ∷ control (Frame 1 (octets (codes "0180c20000030200000000bb888e01010000")))
    ∷ control (Frame 1 (octets (codes "0180c20000030200000000bb888e010000080201000801626f62")))
    ∷ control (Radius 0 (octets (codes "0201003c7339306e29817c1aee77f2b862ab82f240060000000d41060000000651043432"
    ++ codes "4f060301000450125674544949024db958d91691bedaa387")))
    ∷ control (Dynamic (record { ip = (192 ∷ 0 ∷ 2 ∷ 30 ∷ []); port = 4000 }) (octets (codes "2809002c389d3c570e81f7e79650d53afa3d6b475012b6adf9febe14d5a9a996e44fafea"
    ++ codes "03e2050600000002")))
    ∷ data_ 1 (octets (codes "ffffffffffff0200000000aa08004500"))
    ∷ data_ 1 (octets (codes "ffffffffffff0200000000bb08004500"))
    ∷ [])
    ≡ turned Done (ToHost 1 (octets (codes "0180c2000003020000010101888e020000050100000501")) ∷ [])
    ∷ turned Done (ToHost 1 (octets (codes "0200000000aa020000010101888e020000050101000501")) ∷ [])
    ∷ turned Done (ToServer 0 (octets (codes "0100008876b8e0ada0f13d90405d6ae55386bd28501253e57ffb03b625516082c42d3083"
    ++ codes "40f70105626f620406c000020a0506000000010606000000020c06000005d81e1330322d"
    ++ codes "30302d30302d30312d30312d30311f1330322d30302d30302d30302d30302d4141200573"
    ++ codes "77313d060000000f2c0a30303030303030314f0a0201000801626f62")) ∷ [])
    ∷ turned Done (ToHost 1 (octets (codes "0200000000aa020000010101888e0200000403010004")) ∷ [])
    ∷ turned Done (ToHost 1 (octets (codes "0200000000bb020000010101888e020000050101000501")) ∷ [])
    ∷ turned Done (ToServer 0 (octets (codes "01010088bdd219b8a08ded1aa836efcc8b770dc7501297af0e293755a82e7cafeda939cf"
    ++ codes "b11b0105626f620406c000020a0506000000010606000000020c06000005d81e1330322d"
    ++ codes "30302d30302d30312d30312d30311f1330322d30302d30302d30302d30302d4242200573"
    ++ codes "77313d060000000f2c0a30303030303030324f0a0201000801626f62")) ∷ [])
    ∷ turned Done (ToHost 1 (octets (codes "0200000000bb020000010101888e0200000403010004")) ∷ [])
    ∷ turned (Naked 503) (ToClient (record { ip = (192 ∷ 0 ∷ 2 ∷ 30 ∷ []); port = 4000 }) (octets (codes "2a09002c82cd6363a2d56c04d260b4a0b0ed1f76501224fdeef895c7f9ccd9c5a7308b1b"
    ++ codes "c6ee6506000001f7")) ∷ [])
    ∷ decided (Forward 1 42)
    ∷ decided (Forward 2 42)
    ∷ []
unfolding settled pieces request_octets next_name packet_of attributes_of run_within first_attribute authenticator u32_at
    block_word double_rounds column_round diagonal_round quarter_round md5 digest_bytes hash_after compress rounds block_words
no_session_matches = refl

-- no session is named
nothing_is_named : told (opening settings_1)
    (control (Link 1 true)
    ∷ control (Frame 1 (octets (codes "0180c20000030200000000aa888e01010000")))
    ∷ control (Frame 1 (octets (codes "0180c20000030200000000aa888e010000080201000801626f62")))
    ∷ control (Radius 0 (octets (codes "0200003ce5d68680a348b38a9bbe4bd35a38d16b40060000000d41060000000651043432"
    ++ codes "4f0603010004501218113a025d7445666e90b6f6742b3cbf")))
    ∷ control (Frame 1 (octets (codes "0180c20000030200000000bb888e01010000")))
    ∷ control (Frame 1 (octets (codes "0180c20000030200000000bb888e010000080201000801626f62")))
    ∷ control (Radius 0 (octets (codes "0201003c7339306e29817c1aee77f2b862ab82f240060000000d41060000000651043432"
    ++ codes "4f060301000450125674544949024db958d91691bedaa387")))
    ∷ control (Dynamic (record { ip = (192 ∷ 0 ∷ 2 ∷ 30 ∷ []); port = 4000 }) (octets (codes "2809002cbc42e7a1628ddb53258d385cb9d7e58450122007f7aca9531f3aa04fa3a19dab"
    ++ codes "452c370600000000")))
    ∷ data_ 1 (octets (codes "ffffffffffff0200000000aa08004500"))
    ∷ data_ 1 (octets (codes "ffffffffffff0200000000bb08004500"))
    ∷ [])
    ≡ turned Done (ToHost 1 (octets (codes "0180c2000003020000010101888e020000050100000501")) ∷ [])
    ∷ turned Done (ToHost 1 (octets (codes "0200000000aa020000010101888e020000050101000501")) ∷ [])
    ∷ turned Done (ToServer 0 (octets (codes "0100008876b8e0ada0f13d90405d6ae55386bd28501253e57ffb03b625516082c42d3083"
    ++ codes "40f70105626f620406c000020a0506000000010606000000020c06000005d81e1330322d"
    ++ codes "30302d30302d30312d30312d30311f1330322d30302d30302d30302d30302d4141200573"
    ++ codes "77313d060000000f2c0a30303030303030314f0a0201000801626f62")) ∷ [])
    ∷ turned Done (ToHost 1 (octets (codes "0200000000aa020000010101888e0200000403010004")) ∷ [])
    ∷ turned Done (ToHost 1 (octets (codes "0200000000bb020000010101888e020000050101000501")) ∷ [])
    ∷ turned Done (ToServer 0 (octets (codes "01010088bdd219b8a08ded1aa836efcc8b770dc7501297af0e293755a82e7cafeda939cf"
    ++ codes "b11b0105626f620406c000020a0506000000010606000000020c06000005d81e1330322d"
    ++ codes "30302d30302d30312d30312d30311f1330322d30302d30302d30302d30302d4242200573"
    ++ codes "77313d060000000f2c0a30303030303030324f0a0201000801626f62")) ∷ [])
    ∷ turned Done (ToHost 1 (octets (codes "0200000000bb020000010101888e0200000403010004")) ∷ [])
    ∷ turned (Naked 402) (ToClient (record { ip = (192 ∷ 0 ∷ 2 ∷ 30 ∷ []); port = 4000 }) (octets (codes "2a09002c495ad61e7d43f2c23596f89d56e269a25012af17ba2a4bd3b13dfe1ad1bec83e"
    ++ codes "79cd650600000192")) ∷ [])
    ∷ decided (Forward 1 42)
    ∷ decided (Forward 2 42)
    ∷ []
unfolding settled pieces request_octets next_name packet_of attributes_of run_within first_attribute authenticator u32_at
    block_word double_rounds column_round diagonal_round quarter_round md5 digest_bytes hash_after compress rounds block_words
nothing_is_named = refl

-- another access server is named
of_another_server : told (opening settings_1)
    (control (Link 1 true)
    ∷ control (Frame 1 (octets (codes "0180c20000030200000000aa888e01010000")))
    ∷ control (Frame 1 (octets (codes "0180c20000030200000000aa888e010000080201000801626f62")))
    ∷ control (Radius 0 (octets (codes "0200003ce5d68680a348b38a9bbe4bd35a38d16b40060000000d41060000000651043432"
    ++ codes "4f0603010004501218113a025d7445666e90b6f6742b3cbf")))
    ∷ control (Frame 1 (octets (codes "0180c20000030200000000bb888e01010000")))
    ∷ control (Frame 1 (octets (codes "0180c20000030200000000bb888e010000080201000801626f62")))
    ∷ control (Radius 0 (octets (codes "0201003c7339306e29817c1aee77f2b862ab82f240060000000d41060000000651043432"
    ++ codes "4f060301000450125674544949024db958d91691bedaa387")))
    ∷ control (Dynamic (record { ip = (192 ∷ 0 ∷ 2 ∷ 30 ∷ []); port = 4000 }) (octets (codes "2809003e432e0a75e384f95cf528f5fa599f9e15501205f47ac61c3432da1186f975c0f1"
    ++ codes "d1890105626f6220057377321a08000000016162060600000011")))
    ∷ data_ 1 (octets (codes "ffffffffffff0200000000aa08004500"))
    ∷ data_ 1 (octets (codes "ffffffffffff0200000000bb08004500"))
    ∷ [])
    ≡ turned Done (ToHost 1 (octets (codes "0180c2000003020000010101888e020000050100000501")) ∷ [])
    ∷ turned Done (ToHost 1 (octets (codes "0200000000aa020000010101888e020000050101000501")) ∷ [])
    ∷ turned Done (ToServer 0 (octets (codes "0100008876b8e0ada0f13d90405d6ae55386bd28501253e57ffb03b625516082c42d3083"
    ++ codes "40f70105626f620406c000020a0506000000010606000000020c06000005d81e1330322d"
    ++ codes "30302d30302d30312d30312d30311f1330322d30302d30302d30302d30302d4141200573"
    ++ codes "77313d060000000f2c0a30303030303030314f0a0201000801626f62")) ∷ [])
    ∷ turned Done (ToHost 1 (octets (codes "0200000000aa020000010101888e0200000403010004")) ∷ [])
    ∷ turned Done (ToHost 1 (octets (codes "0200000000bb020000010101888e020000050101000501")) ∷ [])
    ∷ turned Done (ToServer 0 (octets (codes "01010088bdd219b8a08ded1aa836efcc8b770dc7501297af0e293755a82e7cafeda939cf"
    ++ codes "b11b0105626f620406c000020a0506000000010606000000020c06000005d81e1330322d"
    ++ codes "30302d30302d30312d30312d30311f1330322d30302d30302d30302d30302d4242200573"
    ++ codes "77313d060000000f2c0a30303030303030324f0a0201000801626f62")) ∷ [])
    ∷ turned Done (ToHost 1 (octets (codes "0200000000bb020000010101888e0200000403010004")) ∷ [])
    ∷ turned (Naked 403) (ToClient (record { ip = (192 ∷ 0 ∷ 2 ∷ 30 ∷ []); port = 4000 }) (octets (codes "2a09002c0582aa03687c778c81040dfe0561fedb50128f13d33bf5ec3c92fd92420b20ad"
    ++ codes "8776650600000193")) ∷ [])
    ∷ decided (Forward 1 42)
    ∷ decided (Forward 2 42)
    ∷ []
unfolding settled pieces request_octets next_name packet_of attributes_of run_within first_attribute authenticator u32_at
    block_word double_rounds column_round diagonal_round quarter_round md5 digest_bytes hash_after compress rounds block_words
of_another_server = refl

-- a Service-Type
a_service_type : told (opening settings_1)
    (control (Link 1 true)
    ∷ control (Frame 1 (octets (codes "0180c20000030200000000aa888e01010000")))
    ∷ control (Frame 1 (octets (codes "0180c20000030200000000aa888e010000080201000801626f62")))
    ∷ control (Radius 0 (octets (codes "0200003ce5d68680a348b38a9bbe4bd35a38d16b40060000000d41060000000651043432"
    ++ codes "4f0603010004501218113a025d7445666e90b6f6742b3cbf")))
    ∷ control (Frame 1 (octets (codes "0180c20000030200000000bb888e01010000")))
    ∷ control (Frame 1 (octets (codes "0180c20000030200000000bb888e010000080201000801626f62")))
    ∷ control (Radius 0 (octets (codes "0201003c7339306e29817c1aee77f2b862ab82f240060000000d41060000000651043432"
    ++ codes "4f060301000450125674544949024db958d91691bedaa387")))
    ∷ control (Dynamic (record { ip = (192 ∷ 0 ∷ 2 ∷ 30 ∷ []); port = 4000 }) (octets (codes "2809003964937a0cb778c5d5f7487267a2b4e9f95012fda4edd14fce93ee8fd7b30edacf"
    ++ codes "55020105626f621a08000000016162060600000011")))
    ∷ data_ 1 (octets (codes "ffffffffffff0200000000aa08004500"))
    ∷ data_ 1 (octets (codes "ffffffffffff0200000000bb08004500"))
    ∷ [])
    ≡ turned Done (ToHost 1 (octets (codes "0180c2000003020000010101888e020000050100000501")) ∷ [])
    ∷ turned Done (ToHost 1 (octets (codes "0200000000aa020000010101888e020000050101000501")) ∷ [])
    ∷ turned Done (ToServer 0 (octets (codes "0100008876b8e0ada0f13d90405d6ae55386bd28501253e57ffb03b625516082c42d3083"
    ++ codes "40f70105626f620406c000020a0506000000010606000000020c06000005d81e1330322d"
    ++ codes "30302d30302d30312d30312d30311f1330322d30302d30302d30302d30302d4141200573"
    ++ codes "77313d060000000f2c0a30303030303030314f0a0201000801626f62")) ∷ [])
    ∷ turned Done (ToHost 1 (octets (codes "0200000000aa020000010101888e0200000403010004")) ∷ [])
    ∷ turned Done (ToHost 1 (octets (codes "0200000000bb020000010101888e020000050101000501")) ∷ [])
    ∷ turned Done (ToServer 0 (octets (codes "01010088bdd219b8a08ded1aa836efcc8b770dc7501297af0e293755a82e7cafeda939cf"
    ++ codes "b11b0105626f620406c000020a0506000000010606000000020c06000005d81e1330322d"
    ++ codes "30302d30302d30312d30312d30311f1330322d30302d30302d30302d30302d4242200573"
    ++ codes "77313d060000000f2c0a30303030303030324f0a0201000801626f62")) ∷ [])
    ∷ turned Done (ToHost 1 (octets (codes "0200000000bb020000010101888e0200000403010004")) ∷ [])
    ∷ turned (Naked 405) (ToClient (record { ip = (192 ∷ 0 ∷ 2 ∷ 30 ∷ []); port = 4000 }) (octets (codes "2a09002ceca4d8735b6fccd7ceac4ca4fd3d71e75012e863f47c20b3c59f649d0b135219"
    ++ codes "fee1650600000195")) ∷ [])
    ∷ decided (Forward 1 42)
    ∷ decided (Forward 2 42)
    ∷ []
unfolding settled pieces request_octets next_name packet_of attributes_of run_within first_attribute authenticator u32_at
    block_word double_rounds column_round diagonal_round quarter_round md5 digest_bytes hash_after compress rounds block_words
a_service_type = refl

-- an attribute that is not allowed
an_attribute_that_is_not_allowed : told (opening settings_1)
    (control (Link 1 true)
    ∷ control (Frame 1 (octets (codes "0180c20000030200000000aa888e01010000")))
    ∷ control (Frame 1 (octets (codes "0180c20000030200000000aa888e010000080201000801626f62")))
    ∷ control (Radius 0 (octets (codes "0200003ce5d68680a348b38a9bbe4bd35a38d16b40060000000d41060000000651043432"
    ++ codes "4f0603010004501218113a025d7445666e90b6f6742b3cbf")))
    ∷ control (Frame 1 (octets (codes "0180c20000030200000000bb888e01010000")))
    ∷ control (Frame 1 (octets (codes "0180c20000030200000000bb888e010000080201000801626f62")))
    ∷ control (Radius 0 (octets (codes "0201003c7339306e29817c1aee77f2b862ab82f240060000000d41060000000651043432"
    ++ codes "4f060301000450125674544949024db958d91691bedaa387")))
    ∷ control (Dynamic (record { ip = (192 ∷ 0 ∷ 2 ∷ 30 ∷ []); port = 4000 }) (octets (codes "280900338bdf15130f7a31ae175865bbddc186585012a1f60a90a66684f5067cd17059f4"
    ++ codes "f6020105626f621a08000000016162")))
    ∷ data_ 1 (octets (codes "ffffffffffff0200000000aa08004500"))
    ∷ data_ 1 (octets (codes "ffffffffffff0200000000bb08004500"))
    ∷ [])
    ≡ turned Done (ToHost 1 (octets (codes "0180c2000003020000010101888e020000050100000501")) ∷ [])
    ∷ turned Done (ToHost 1 (octets (codes "0200000000aa020000010101888e020000050101000501")) ∷ [])
    ∷ turned Done (ToServer 0 (octets (codes "0100008876b8e0ada0f13d90405d6ae55386bd28501253e57ffb03b625516082c42d3083"
    ++ codes "40f70105626f620406c000020a0506000000010606000000020c06000005d81e1330322d"
    ++ codes "30302d30302d30312d30312d30311f1330322d30302d30302d30302d30302d4141200573"
    ++ codes "77313d060000000f2c0a30303030303030314f0a0201000801626f62")) ∷ [])
    ∷ turned Done (ToHost 1 (octets (codes "0200000000aa020000010101888e0200000403010004")) ∷ [])
    ∷ turned Done (ToHost 1 (octets (codes "0200000000bb020000010101888e020000050101000501")) ∷ [])
    ∷ turned Done (ToServer 0 (octets (codes "01010088bdd219b8a08ded1aa836efcc8b770dc7501297af0e293755a82e7cafeda939cf"
    ++ codes "b11b0105626f620406c000020a0506000000010606000000020c06000005d81e1330322d"
    ++ codes "30302d30302d30312d30312d30311f1330322d30302d30302d30302d30302d4242200573"
    ++ codes "77313d060000000f2c0a30303030303030324f0a0201000801626f62")) ∷ [])
    ∷ turned Done (ToHost 1 (octets (codes "0200000000bb020000010101888e0200000403010004")) ∷ [])
    ∷ turned (Naked 401) (ToClient (record { ip = (192 ∷ 0 ∷ 2 ∷ 30 ∷ []); port = 4000 }) (octets (codes "2a09002c388384d28c80e29e313cce98d08f3aba50126de7d52203718f37a03d22735317"
    ++ codes "eed3650600000191")) ∷ [])
    ∷ decided (Forward 1 42)
    ∷ decided (Forward 2 42)
    ∷ []
unfolding settled pieces request_octets next_name packet_of attributes_of run_within first_attribute authenticator u32_at
    block_word double_rounds column_round diagonal_round quarter_round md5 digest_bytes hash_after compress rounds block_words
an_attribute_that_is_not_allowed = refl

-- a change with a wrong time is refused whole; then it is done
a_change_is_done_whole_or_not : told (opening settings_1)
    (control (Link 1 true)
    ∷ control (Frame 1 (octets (codes "0180c20000030200000000aa888e01010000")))
    ∷ control (Frame 1 (octets (codes "0180c20000030200000000aa888e010000080201000801626f62")))
    ∷ control (Radius 0 (octets (codes "0200003ce5d68680a348b38a9bbe4bd35a38d16b40060000000d41060000000651043432"
    ++ codes "4f0603010004501218113a025d7445666e90b6f6742b3cbf")))
    ∷ data_ 1 (octets (codes "ffffffffffff0200000000aa08004500"))
    ∷ control (Dynamic (record { ip = (192 ∷ 0 ∷ 2 ∷ 30 ∷ []); port = 4000 }) (octets (codes "2b010045077b4944798999f3bf8d5e996de4db295012dd0c0b84d0b23e0807132843444c"
    ++ codes "65ce2c0a303030303030303140060000000d410600000006510434331b05000258")))
    ∷ data_ 1 (octets (codes "ffffffffffff0200000000aa08004500"))
    ∷ control (Dynamic (record { ip = (192 ∷ 0 ∷ 2 ∷ 30 ∷ []); port = 4000 }) (octets (codes "2b020046555da2b089f7b861c6922fda9f4a64d9501244413bd205422b987d992b67e466"
    ++ codes "38a12c0a303030303030303140060000000d410600000006510434331b0600000258")))
    ∷ data_ 1 (octets (codes "ffffffffffff0200000000aa08004500"))
    ∷ [])
    ≡ turned Done (ToHost 1 (octets (codes "0180c2000003020000010101888e020000050100000501")) ∷ [])
    ∷ turned Done (ToHost 1 (octets (codes "0200000000aa020000010101888e020000050101000501")) ∷ [])
    ∷ turned Done (ToServer 0 (octets (codes "0100008876b8e0ada0f13d90405d6ae55386bd28501253e57ffb03b625516082c42d3083"
    ++ codes "40f70105626f620406c000020a0506000000010606000000020c06000005d81e1330322d"
    ++ codes "30302d30302d30312d30312d30311f1330322d30302d30302d30302d30302d4141200573"
    ++ codes "77313d060000000f2c0a30303030303030314f0a0201000801626f62")) ∷ [])
    ∷ turned Done (ToHost 1 (octets (codes "0200000000aa020000010101888e0200000403010004")) ∷ [])
    ∷ decided (Forward 1 42)
    ∷ turned (Naked 407) (ToClient (record { ip = (192 ∷ 0 ∷ 2 ∷ 30 ∷ []); port = 4000 }) (octets (codes "2d01002c497d9b6b9496363172ca50cf7f90a4285012ac1491879512113fa3fed868cc62"
    ++ codes "cdfa650600000197")) ∷ [])
    ∷ decided (Forward 1 42)
    ∷ turned Acked (ToClient (record { ip = (192 ∷ 0 ∷ 2 ∷ 30 ∷ []); port = 4000 }) (octets (codes "2c0200261192954131d599ed32946094ab09a1c050129346efc29e7a9aab76381f02dbe0"
    ++ codes "3eec")) ∷ [])
    ∷ decided (Forward 1 43)
    ∷ []
unfolding settled pieces request_octets next_name packet_of attributes_of run_within first_attribute authenticator u32_at
    block_word double_rounds column_round diagonal_round quarter_round md5 digest_bytes hash_after compress rounds block_words
a_change_is_done_whole_or_not = refl

abbrev settings_2 : Config
settings_2 = record empty {
  nas = record { ip = (192 ∷ 0 ∷ 2 ∷ 10 ∷ []); name = codes "sw1" };
  server = record { ip = (192 ∷ 0 ∷ 2 ∷ 20 ∷ []); port = 1812 };
  secret = (115 ∷ 101 ∷ 99 ∷ 114 ∷ 101 ∷ 116 ∷ []);
  clock = 1000;
  clients = record { ip = (192 ∷ 0 ∷ 2 ∷ 30 ∷ []); secret = (100 ∷ 121 ∷ 110 ∷ []) } ∷ [];
  ports =
      record { port = 1; native = 10; control = Auto; restricted = 0; guest = 0 }
      ∷ record { port = 2; native = 20; control = ForceAuth; restricted = 0; guest = 0 }
      ∷ record { port = 3; native = 30; control = ForceUnauth; restricted = 0; guest = 0 }
      ∷ [];
  times = record { quiet = 60; server = 30; reauth_max = 2; reauth_period = 3600; reauth = false };
}

-- an Event-Timestamp of 300 seconds ago
three_hundred_seconds_ago : told (opening settings_2)
    (control (Link 1 true)
    ∷ control (Frame 1 (octets (codes "0180c20000030200000000aa888e01010000")))
    ∷ control (Frame 1 (octets (codes "0180c20000030200000000aa888e010000080201000801626f62")))
    ∷ control (Radius 0 (octets (codes "0200003ce5d68680a348b38a9bbe4bd35a38d16b40060000000d41060000000651043432"
    ++ codes "4f0603010004501218113a025d7445666e90b6f6742b3cbf")))
    ∷ data_ 1 (octets (codes "ffffffffffff0200000000aa08004500"))
    ∷ control (Dynamic (record { ip = (192 ∷ 0 ∷ 2 ∷ 30 ∷ []); port = 4000 }) (octets (codes "280300369937a61ca673cb267da5d7d96a8a98245012a14e14d55116f108b13ca4681e46"
    ++ codes "31fc2c0a30303030303030313706000002bc")))
    ∷ [])
    ≡ turned Done (ToHost 1 (octets (codes "0180c2000003020000010101888e020000050100000501")) ∷ [])
    ∷ turned Done (ToHost 1 (octets (codes "0200000000aa020000010101888e020000050101000501")) ∷ [])
    ∷ turned Done (ToServer 0 (octets (codes "0100008876b8e0ada0f13d90405d6ae55386bd28501253e57ffb03b625516082c42d3083"
    ++ codes "40f70105626f620406c000020a0506000000010606000000020c06000005d81e1330322d"
    ++ codes "30302d30302d30312d30312d30311f1330322d30302d30302d30302d30302d4141200573"
    ++ codes "77313d060000000f2c0a30303030303030314f0a0201000801626f62")) ∷ [])
    ∷ turned Done (ToHost 1 (octets (codes "0200000000aa020000010101888e0200000403010004")) ∷ [])
    ∷ decided (Forward 1 42)
    ∷ turned Acked (ToHost 1 (octets (codes "0200000000aa020000010101888e0200000404010004")) ∷ ToClient (record { ip = (192 ∷ 0 ∷ 2 ∷ 30 ∷ []); port = 4000 }) (octets (codes "29030026d59a2616a50acdffc5deb1743290b72d501232bca25d156f69d3874005e46eff"
    ++ codes "9efa")) ∷ [])
    ∷ []
unfolding settled pieces request_octets next_name packet_of attributes_of run_within first_attribute authenticator u32_at
    block_word double_rounds column_round diagonal_round quarter_round md5 digest_bytes hash_after compress rounds block_words
three_hundred_seconds_ago = refl

-- and of 300 seconds ahead
three_hundred_seconds_ahead : told (opening settings_2)
    (control (Link 1 true)
    ∷ control (Frame 1 (octets (codes "0180c20000030200000000aa888e01010000")))
    ∷ control (Frame 1 (octets (codes "0180c20000030200000000aa888e010000080201000801626f62")))
    ∷ control (Radius 0 (octets (codes "0200003ce5d68680a348b38a9bbe4bd35a38d16b40060000000d41060000000651043432"
    ++ codes "4f0603010004501218113a025d7445666e90b6f6742b3cbf")))
    ∷ data_ 1 (octets (codes "ffffffffffff0200000000aa08004500"))
    ∷ control (Dynamic (record { ip = (192 ∷ 0 ∷ 2 ∷ 30 ∷ []); port = 4000 }) (octets (codes "28030036e8a4b9b69c0615fc6d12a1a7462753b65012d06f97bc75735201f274b88df883"
    ++ codes "568a2c0a3030303030303031370600000514")))
    ∷ [])
    ≡ turned Done (ToHost 1 (octets (codes "0180c2000003020000010101888e020000050100000501")) ∷ [])
    ∷ turned Done (ToHost 1 (octets (codes "0200000000aa020000010101888e020000050101000501")) ∷ [])
    ∷ turned Done (ToServer 0 (octets (codes "0100008876b8e0ada0f13d90405d6ae55386bd28501253e57ffb03b625516082c42d3083"
    ++ codes "40f70105626f620406c000020a0506000000010606000000020c06000005d81e1330322d"
    ++ codes "30302d30302d30312d30312d30311f1330322d30302d30302d30302d30302d4141200573"
    ++ codes "77313d060000000f2c0a30303030303030314f0a0201000801626f62")) ∷ [])
    ∷ turned Done (ToHost 1 (octets (codes "0200000000aa020000010101888e0200000403010004")) ∷ [])
    ∷ decided (Forward 1 42)
    ∷ turned Acked (ToHost 1 (octets (codes "0200000000aa020000010101888e0200000404010004")) ∷ ToClient (record { ip = (192 ∷ 0 ∷ 2 ∷ 30 ∷ []); port = 4000 }) (octets (codes "290300265914996a02287dbb03e50ed2b3c016e450121c7bc2b23404287a93956c3e671f"
    ++ codes "140c")) ∷ [])
    ∷ []
unfolding settled pieces request_octets next_name packet_of attributes_of run_within first_attribute authenticator u32_at
    block_word double_rounds column_round diagonal_round quarter_round md5 digest_bytes hash_after compress rounds block_words
three_hundred_seconds_ahead = refl

-- too old
too_old : told (opening settings_2)
    (control (Link 1 true)
    ∷ control (Frame 1 (octets (codes "0180c20000030200000000aa888e01010000")))
    ∷ control (Frame 1 (octets (codes "0180c20000030200000000aa888e010000080201000801626f62")))
    ∷ control (Radius 0 (octets (codes "0200003ce5d68680a348b38a9bbe4bd35a38d16b40060000000d41060000000651043432"
    ++ codes "4f0603010004501218113a025d7445666e90b6f6742b3cbf")))
    ∷ data_ 1 (octets (codes "ffffffffffff0200000000aa08004500"))
    ∷ control (Dynamic (record { ip = (192 ∷ 0 ∷ 2 ∷ 30 ∷ []); port = 4000 }) (octets (codes "280300360ab3005f7bcfc54ddbd9535744d3fcbc50127717784ddea93c1259857fa8b57c"
    ++ codes "75242c0a30303030303030313706000002bb")))
    ∷ [])
    ≡ turned Done (ToHost 1 (octets (codes "0180c2000003020000010101888e020000050100000501")) ∷ [])
    ∷ turned Done (ToHost 1 (octets (codes "0200000000aa020000010101888e020000050101000501")) ∷ [])
    ∷ turned Done (ToServer 0 (octets (codes "0100008876b8e0ada0f13d90405d6ae55386bd28501253e57ffb03b625516082c42d3083"
    ++ codes "40f70105626f620406c000020a0506000000010606000000020c06000005d81e1330322d"
    ++ codes "30302d30302d30312d30312d30311f1330322d30302d30302d30302d30302d4141200573"
    ++ codes "77313d060000000f2c0a30303030303030314f0a0201000801626f62")) ∷ [])
    ∷ turned Done (ToHost 1 (octets (codes "0200000000aa020000010101888e0200000403010004")) ∷ [])
    ∷ decided (Forward 1 42)
    ∷ turned (RequestDropped request.Stale) ([])
    ∷ []
unfolding settled pieces request_octets next_name packet_of attributes_of run_within first_attribute authenticator u32_at
    block_word double_rounds column_round diagonal_round quarter_round md5 digest_bytes hash_after compress rounds block_words
too_old = refl

-- too new
too_new : told (opening settings_2)
    (control (Link 1 true)
    ∷ control (Frame 1 (octets (codes "0180c20000030200000000aa888e01010000")))
    ∷ control (Frame 1 (octets (codes "0180c20000030200000000aa888e010000080201000801626f62")))
    ∷ control (Radius 0 (octets (codes "0200003ce5d68680a348b38a9bbe4bd35a38d16b40060000000d41060000000651043432"
    ++ codes "4f0603010004501218113a025d7445666e90b6f6742b3cbf")))
    ∷ data_ 1 (octets (codes "ffffffffffff0200000000aa08004500"))
    ∷ control (Dynamic (record { ip = (192 ∷ 0 ∷ 2 ∷ 30 ∷ []); port = 4000 }) (octets (codes "280300363973b0a5095644353d96f93cd66e2a7450126ba526d795f0e95c30b189f0400f"
    ++ codes "15c02c0a3030303030303031370600000515")))
    ∷ [])
    ≡ turned Done (ToHost 1 (octets (codes "0180c2000003020000010101888e020000050100000501")) ∷ [])
    ∷ turned Done (ToHost 1 (octets (codes "0200000000aa020000010101888e020000050101000501")) ∷ [])
    ∷ turned Done (ToServer 0 (octets (codes "0100008876b8e0ada0f13d90405d6ae55386bd28501253e57ffb03b625516082c42d3083"
    ++ codes "40f70105626f620406c000020a0506000000010606000000020c06000005d81e1330322d"
    ++ codes "30302d30302d30312d30312d30311f1330322d30302d30302d30302d30302d4141200573"
    ++ codes "77313d060000000f2c0a30303030303030314f0a0201000801626f62")) ∷ [])
    ∷ turned Done (ToHost 1 (octets (codes "0200000000aa020000010101888e0200000403010004")) ∷ [])
    ∷ decided (Forward 1 42)
    ∷ turned (RequestDropped request.Stale) ([])
    ∷ []
unfolding settled pieces request_octets next_name packet_of attributes_of run_within first_attribute authenticator u32_at
    block_word double_rounds column_round diagonal_round quarter_round md5 digest_bytes hash_after compress rounds block_words
too_new = refl

-- an address that is no client
a_stranger : told (opening settings_2)
    (control (Link 1 true)
    ∷ control (Frame 1 (octets (codes "0180c20000030200000000aa888e01010000")))
    ∷ control (Frame 1 (octets (codes "0180c20000030200000000aa888e010000080201000801626f62")))
    ∷ control (Radius 0 (octets (codes "0200003ce5d68680a348b38a9bbe4bd35a38d16b40060000000d41060000000651043432"
    ++ codes "4f0603010004501218113a025d7445666e90b6f6742b3cbf")))
    ∷ data_ 1 (octets (codes "ffffffffffff0200000000aa08004500"))
    ∷ control (Dynamic (record { ip = (192 ∷ 0 ∷ 2 ∷ 31 ∷ []); port = 4000 }) (octets (codes "28030036b47d91e81dd2f70ebabe6bf8b4b7bf2b501288e85f31652e52f0cd990cabf42f"
    ++ codes "2f6d2c0a30303030303030313706000003e8")))
    ∷ [])
    ≡ turned Done (ToHost 1 (octets (codes "0180c2000003020000010101888e020000050100000501")) ∷ [])
    ∷ turned Done (ToHost 1 (octets (codes "0200000000aa020000010101888e020000050101000501")) ∷ [])
    ∷ turned Done (ToServer 0 (octets (codes "0100008876b8e0ada0f13d90405d6ae55386bd28501253e57ffb03b625516082c42d3083"
    ++ codes "40f70105626f620406c000020a0506000000010606000000020c06000005d81e1330322d"
    ++ codes "30302d30302d30312d30312d30311f1330322d30302d30302d30302d30302d4141200573"
    ++ codes "77313d060000000f2c0a30303030303030314f0a0201000801626f62")) ∷ [])
    ∷ turned Done (ToHost 1 (octets (codes "0200000000aa020000010101888e0200000403010004")) ∷ [])
    ∷ decided (Forward 1 42)
    ∷ turned (RequestDropped request.Stranger) ([])
    ∷ []
unfolding settled pieces request_octets next_name packet_of attributes_of run_within first_attribute authenticator u32_at
    block_word double_rounds column_round diagonal_round quarter_round md5 digest_bytes hash_after compress rounds block_words
a_stranger = refl

-- a Message-Authenticator twice
signed_twice : told (opening settings_2)
    (control (Link 1 true)
    ∷ control (Frame 1 (octets (codes "0180c20000030200000000aa888e01010000")))
    ∷ control (Frame 1 (octets (codes "0180c20000030200000000aa888e010000080201000801626f62")))
    ∷ control (Radius 0 (octets (codes "0200003ce5d68680a348b38a9bbe4bd35a38d16b40060000000d41060000000651043432"
    ++ codes "4f0603010004501218113a025d7445666e90b6f6742b3cbf")))
    ∷ data_ 1 (octets (codes "ffffffffffff0200000000aa08004500"))
    ∷ control (Dynamic (record { ip = (192 ∷ 0 ∷ 2 ∷ 30 ∷ []); port = 4000 }) (octets (codes "280300422b7404291b9bdc820b4cb028e67365ac50122637091e4b104dfb4ce784b0bcf4"
    ++ codes "db342c0a303030303030303150122637091e4b104dfb4ce784b0bcf4db34")))
    ∷ [])
    ≡ turned Done (ToHost 1 (octets (codes "0180c2000003020000010101888e020000050100000501")) ∷ [])
    ∷ turned Done (ToHost 1 (octets (codes "0200000000aa020000010101888e020000050101000501")) ∷ [])
    ∷ turned Done (ToServer 0 (octets (codes "0100008876b8e0ada0f13d90405d6ae55386bd28501253e57ffb03b625516082c42d3083"
    ++ codes "40f70105626f620406c000020a0506000000010606000000020c06000005d81e1330322d"
    ++ codes "30302d30302d30312d30312d30311f1330322d30302d30302d30302d30302d4141200573"
    ++ codes "77313d060000000f2c0a30303030303030314f0a0201000801626f62")) ∷ [])
    ∷ turned Done (ToHost 1 (octets (codes "0200000000aa020000010101888e0200000403010004")) ∷ [])
    ∷ decided (Forward 1 42)
    ∷ turned (RequestDropped request.BadMessageAuth) ([])
    ∷ []
unfolding settled pieces request_octets next_name packet_of attributes_of run_within first_attribute authenticator u32_at
    block_word double_rounds column_round diagonal_round quarter_round md5 digest_bytes hash_after compress rounds block_words
signed_twice = refl

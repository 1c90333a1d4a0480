-- Random traces of another program, with what it answers.
use Rattle.std.proofs.Common.{◌≡◌, refl, [], ◌∷◌, ◌++◌, codes, true, false}
use Rattle.md5.specs.Md5.{md5, digest_bytes, hash_after, compress, rounds, block_words}
use Rattle.rand_core.specs.Steps.{u32_at}
use Rattle.rand_chacha.specs.Block.{block_word, double_rounds, column_round, diagonal_round, quarter_round}
use Rattle.radius_defs.specs.Reading.{attributes_of, run_within, first_attribute}
use Rattle.radius_defs.specs.Parsed.{packet_of}
use Rattle.settle_defs.specs.Settle.{settled}
use Rattle.aaa_defs.specs.Request.{pieces, request_octets, authenticator}
use Rattle.aaa_defs.specs.Waits.{next_name}
use Rattle.machine_vars.specs.declared.control.Control.TheVariants.{Auto, ForceAuth, ForceUnauth}
use Rattle.switch_event.specs.Config.{Config, empty}
use Rattle.switch_event.specs.Event.{Frame, Radius, Dynamic, Second, Link}
use Rattle.switch_event.specs.declared.drop.FrameDrop.TheVariants as frame
use Rattle.switch_event.specs.declared.drop.AaaDrop.TheVariants as answer
use Rattle.switch_event.specs.declared.drop.DynDrop.TheVariants as request
use Rattle.switch_event.specs.declared.event.Outcome.TheVariants.{Done, FrameDropped, AnswerDropped, Acked, Naked, Again, RequestDropped}
use Rattle.switch_event.specs.declared.decision.Decision.TheVariants.{Forward, Drop}
use Rattle.switch_event.specs.declared.decision.Drop9.TheVariants.{Runt, Reserved, Tagged, Down, Closed, Unauthorised}
use Rattle.switch_event.specs.Sent.{ToHost, ToServer, ToClient}
use Rattle.switch_defs.specs.Switch.{opening}
use Rattle.switch_examples.specs.Told.{control, data_, turned, decided, told, octets}

abbrev settings_1 : Config
settings_1 = record empty {
  server = record { ip = (192 ∷ 0 ∷ 2 ∷ 20 ∷ []); port = 1812 };
  secret = (0 ∷ []);
  seed = (86 ∷ 225 ∷ 204 ∷ 133 ∷ 84 ∷ 154 ∷ 206 ∷ 92 ∷ 228 ∷ 199 ∷ 248 ∷ 18 ∷ 241 ∷ 242 ∷ 145 ∷ 161 ∷ 61 ∷ 228 ∷ 131 ∷ 93 ∷ 150 ∷ 174 ∷ 148 ∷ 119 ∷ 212 ∷ 175 ∷ 221 ∷ 45 ∷ 37 ∷ 169 ∷ 67 ∷ 110 ∷ []);
  clock = 4294967290;
  window = 10;
  require_ma = false;
  clients = record { ip = (192 ∷ 0 ∷ 2 ∷ 30 ∷ []); secret = (0 ∷ []) } ∷ [];
  ports =
      record { port = 2; native = 10; control = Auto; restricted = 0; guest = 0 }
      ∷ [];
  times = record { quiet = 1; server = 12; reauth_max = 3; reauth_period = 3600; reauth = true };
}

-- a random trace of another program
trace_3 : told (opening settings_1)
    (control (Link 2 true)
    ∷ data_ 2 (octets (codes "0200000fffff02000000000f0800abababababababababababababababababababababab"
    ++ codes "abababababababababababababababababababababababab"))
    ∷ control (Frame 2 (octets (codes "0180c2000003020000000012888e01010000")))
    ∷ control (Dynamic (record { ip = (192 ∷ 0 ∷ 2 ∷ 30 ∷ []); port = 0 }) (octets (codes "285b003478f24b76bb86ca96088aa4c9f642cc7b5012d0ea3db104e2a37acaeb5c36303b"
    ++ codes "90a42c0a303030303030303118047374")))
    ∷ data_ 2 (octets (codes "0180c200000f0200000000120800ab"))
    ∷ control (Frame 2 (octets (codes "0180c2000003020000000012888e020000050202000501")))
    ∷ control (Second)
    ∷ control (Frame 2 (octets (codes "0180c2000003020000000009888e01010000")))
    ∷ control (Frame 2 (octets (codes "0180c200000302000000000d888e01010000")))
    ∷ control (Frame 2 (octets (codes "0180c2000003020000000009888e01000003000000")))
    ∷ control (Frame 2 (octets (codes "0180c200000302000000000d888e0104000178")))
    ∷ control (Dynamic (record { ip = (192 ∷ 0 ∷ 2 ∷ 30 ∷ []); port = 0 }) (octets (codes "2b4d0030ad639b2015652701f8e955a7b0e3fb035012751c607d7de06793cd83dcd8b256"
    ++ codes "350b2c0a3030303030303033")))
    ∷ control (Second)
    ∷ control (Second)
    ∷ control (Second)
    ∷ control (Second)
    ∷ control (Second)
    ∷ control (Frame 2 (octets (codes "0180c200000302000000000c888e01010000")))
    ∷ data_ 2 (octets (codes "0200000fffff02000000000c88cc"))
    ∷ control (Frame 2 (octets (codes "0180c2000003020000000003888e01010000")))
    ∷ control (Frame 2 (octets (codes "0180c2000003020000000009888e010000080201000801626f6200000000000000000000"
    ++ codes "000000000000000000000000000000000000000000000000")))
    ∷ control (Second)
    ∷ control (Second)
    ∷ control (Second)
    ∷ control (Second)
    ∷ control (Second)
    ∷ control (Second)
    ∷ control (Second)
    ∷ control (Second)
    ∷ control (Second)
    ∷ [])
    ≡ turned Done (ToHost 2 (octets (codes "0180c2000003020000010102888e020000050100000501")) ∷ [])
    ∷ decided (Drop Unauthorised)
    ∷ turned Done (ToHost 2 (octets (codes "020000000012020000010102888e020000050101000501")) ∷ [])
    ∷ turned (Naked 401) (ToClient (record { ip = (192 ∷ 0 ∷ 2 ∷ 30 ∷ []); port = 0 }) (octets (codes "2a5b002cf29b8902ff0f665d36893db7d9f6605f50123368f4908a4bc44fa5130385d0f8"
    ++ codes "bbb8650600000191")) ∷ [])
    ∷ decided (Drop Reserved)
    ∷ turned Done ([])
    ∷ turned Done ([])
    ∷ turned Done (ToHost 2 (octets (codes "020000000009020000010102888e020000050101000501")) ∷ [])
    ∷ turned Done (ToHost 2 (octets (codes "02000000000d020000010102888e020000050101000501")) ∷ [])
    ∷ turned (FrameDropped frame.EapShort) ([])
    ∷ turned (FrameDropped frame.EapolType) ([])
    ∷ turned (RequestDropped request.BadAuthenticator) ([])
    ∷ turned Done ([])
    ∷ turned Done ([])
    ∷ turned Done ([])
    ∷ turned Done ([])
    ∷ turned Done ([])
    ∷ turned Done (ToHost 2 (octets (codes "02000000000c020000010102888e020000050101000501")) ∷ [])
    ∷ decided (Drop Unauthorised)
    ∷ turned Done (ToHost 2 (octets (codes "020000000003020000010102888e020000050101000501")) ∷ [])
    ∷ turned Done (ToServer 0 (octets (codes "010000887e1b03fda9339acf42d4d91cb59dd5df5012aa64e62db805dd2ea33c70c90818"
    ++ codes "4ba70105626f620406c000020a0506000000020606000000020c06000005d81e1330322d"
    ++ codes "30302d30302d30312d30312d30321f1330322d30302d30302d30302d30302d3039200573"
    ++ codes "77313d060000000f2c0a30303030303030324f0a0201000801626f62")) ∷ [])
    ∷ turned Done ([])
    ∷ turned Done ([])
    ∷ turned Done ([])
    ∷ turned Done (ToHost 2 (octets (codes "020000000012020000010102888e020000050101000501")) ∷ [])
    ∷ turned Done (ToServer 0 (octets (codes "010000887e1b03fda9339acf42d4d91cb59dd5df5012aa64e62db805dd2ea33c70c90818"
    ++ codes "4ba70105626f620406c000020a0506000000020606000000020c06000005d81e1330322d"
    ++ codes "30302d30302d30312d30312d30321f1330322d30302d30302d30302d30302d3039200573"
    ++ codes "77313d060000000f2c0a30303030303030324f0a0201000801626f62")) ∷ ToHost 2 (octets (codes "02000000000d020000010102888e020000050101000501")) ∷ [])
    ∷ turned Done ([])
    ∷ turned Done ([])
    ∷ turned Done ([])
    ∷ turned Done ([])
    ∷ []
unfolding settled pieces request_octets next_name packet_of attributes_of run_within first_attribute authenticator u32_at
    block_word double_rounds column_round diagonal_round quarter_round md5 digest_bytes hash_after compress rounds block_words
trace_3 = refl

abbrev settings_2 : Config
settings_2 = record empty {
  server = record { ip = (192 ∷ 0 ∷ 2 ∷ 20 ∷ []); port = 1812 };
  secret = (115 ∷ 101 ∷ 99 ∷ 114 ∷ 101 ∷ 116 ∷ []);
  clock = 1;
  require_ma = true;
  guest_wait = 30;
  clients = [];
  ports =
      record { port = 9; native = 4094; control = Auto; restricted = 0; guest = 4094 }
      ∷ [];
  times = record { quiet = 60; server = 1; reauth_max = 3; reauth_period = 30; reauth = false };
}

-- a random trace of another program
trace_7 : told (opening settings_2)
    (control (Link 9 true)
    ∷ control (Second)
    ∷ control (Second)
    ∷ control (Second)
    ∷ control (Second)
    ∷ control (Second)
    ∷ control (Second)
    ∷ control (Second)
    ∷ control (Frame 9 (octets (codes "0180c2000003020000000006888e01010000")))
    ∷ control (Frame 9 (octets (codes "0180c2000003020000000006888e030000080201000801626f62")))
    ∷ control (Dynamic (record { ip = (10 ∷ 0 ∷ 0 ∷ 1 ∷ []); port = 40327 }) (octets (codes "2801002699060173b46895962ecffc4bc3864cda5012250cdc3d4fd66eab4bb0ba6076be"
    ++ codes "a5f1")))
    ∷ control (Frame 9 (octets (codes "0180c2000003020000000006888e030005dc020205dc047a7a7a7a7a7a7a7a7a7a7a7a7a"
    ++ codes "7a7a7a7a7a7a7a7a7a7a7a7a7a7a7a7a7a7a7a7a7a7a7a7a7a7a7a7a7a7a7a7a7a7a7a7a"
    ++ codes "7a7a7a7a7a7a7a7a7a7a7a7a7a7a7a7a7a7a7a7a7a7a7a7a7a7a7a7a7a7a7a7a7a7a7a7a"
    ++ codes "7a7a7a7a7a7a7a7a7a7a7a7a7a7a7a7a7a7a7a7a7a7a7a7a7a7a7a7a7a7a7a7a7a7a7a7a"
    ++ codes "7a7a7a7a7a7a7a7a7a7a7a7a7a7a7a7a7a7a7a7a7a7a7a7a7a7a7a7a7a7a7a7a7a7a7a7a"
    ++ codes "7a7a7a7a7a7a7a7a7a7a7a7a7a7a7a7a7a7a7a7a7a7a7a7a7a7a7a7a7a7a7a7a7a7a7a7a"
    ++ codes "7a7a7a7a7a7a7a7a7a7a7a7a7a7a7a7a7a7a7a7a7a7a7a7a7a7a7a7a7a7a7a7a7a7a7a7a"
    ++ codes "7a7a7a7a7a7a7a7a7a7a7a7a7a7a7a7a7a7a7a7a7a7a7a7a7a7a7a7a7a7a7a7a7a7a7a7a"
    ++ codes "7a7a7a7a7a7a7a7a7a7a7a7a7a7a7a7a7a7a7a7a7a7a7a7a7a7a7a7a7a7a7a7a7a7a7a7a"
    ++ codes "7a7a7a7a7a7a7a7a7a7a7a7a7a7a7a7a7a7a7a7a7a7a7a7a7a7a7a7a7a7a7a7a7a7a7a7a"
    ++ codes "7a7a7a7a7a7a7a7a7a7a7a7a7a7a7a7a7a7a7a7a7a7a7a7a7a7a7a7a7a7a7a7a7a7a7a7a"
    ++ codes "7a7a7a7a7a7a7a7a7a7a7a7a7a7a7a7a7a7a7a7a7a7a7a7a7a7a7a7a7a7a7a7a7a7a7a7a"
    ++ codes "7a7a7a7a7a7a7a7a7a7a7a7a7a7a7a7a7a7a7a7a7a7a7a7a7a7a7a7a7a7a7a7a7a7a7a7a"
    ++ codes "7a7a7a7a7a7a7a7a7a7a7a7a7a7a7a7a7a7a7a7a7a7a7a7a7a7a7a7a7a7a7a7a7a7a7a7a"
    ++ codes "7a7a7a7a7a7a7a7a7a7a7a7a7a7a7a7a7a7a7a7a7a7a7a7a7a7a7a7a7a7a7a7a7a7a7a7a"
    ++ codes "7a7a7a7a7a7a7a7a7a7a7a7a7a7a7a7a7a7a7a7a7a7a7a7a7a7a7a7a7a7a7a7a7a7a7a7a"
    ++ codes "7a7a7a7a7a7a7a7a7a7a7a7a7a7a7a7a7a7a7a7a7a7a7a7a7a7a7a7a7a7a7a7a7a7a7a7a"
    ++ codes "7a7a7a7a7a7a7a7a7a7a7a7a7a7a7a7a7a7a7a7a7a7a7a7a7a7a7a7a7a7a7a7a7a7a7a7a"
    ++ codes "7a7a7a7a7a7a7a7a7a7a7a7a7a7a7a7a7a7a7a7a7a7a7a7a7a7a7a7a7a7a7a7a7a7a7a7a"
    ++ codes "7a7a7a7a7a7a7a7a7a7a7a7a7a7a7a7a7a7a7a7a7a7a7a7a7a7a7a7a7a7a7a7a7a7a7a7a"
    ++ codes "7a7a7a7a7a7a7a7a7a7a7a7a7a7a7a7a7a7a7a7a7a7a7a7a7a7a7a7a7a7a7a7a7a7a7a7a"
    ++ codes "7a7a7a7a7a7a7a7a7a7a7a7a7a7a7a7a7a7a7a7a7a7a7a7a7a7a7a7a7a7a7a7a7a7a7a7a"
    ++ codes "7a7a7a7a7a7a7a7a7a7a7a7a7a7a7a7a7a7a7a7a7a7a7a7a7a7a7a7a7a7a7a7a7a7a7a7a"
    ++ codes "7a7a7a7a7a7a7a7a7a7a7a7a7a7a7a7a7a7a7a7a7a7a7a7a7a7a7a7a7a7a7a7a7a7a7a7a"
    ++ codes "7a7a7a7a7a7a7a7a7a7a7a7a7a7a7a7a7a7a7a7a7a7a7a7a7a7a7a7a7a7a7a7a7a7a7a7a"
    ++ codes "7a7a7a7a7a7a7a7a7a7a7a7a7a7a7a7a7a7a7a7a7a7a7a7a7a7a7a7a7a7a7a7a7a7a7a7a"
    ++ codes "7a7a7a7a7a7a7a7a7a7a7a7a7a7a7a7a7a7a7a7a7a7a7a7a7a7a7a7a7a7a7a7a7a7a7a7a"
    ++ codes "7a7a7a7a7a7a7a7a7a7a7a7a7a7a7a7a7a7a7a7a7a7a7a7a7a7a7a7a7a7a7a7a7a7a7a7a"
    ++ codes "7a7a7a7a7a7a7a7a7a7a7a7a7a7a7a7a7a7a7a7a7a7a7a7a7a7a7a7a7a7a7a7a7a7a7a7a"
    ++ codes "7a7a7a7a7a7a7a7a7a7a7a7a7a7a7a7a7a7a7a7a7a7a7a7a7a7a7a7a7a7a7a7a7a7a7a7a"
    ++ codes "7a7a7a7a7a7a7a7a7a7a7a7a7a7a7a7a7a7a7a7a7a7a7a7a7a7a7a7a7a7a7a7a7a7a7a7a"
    ++ codes "7a7a7a7a7a7a7a7a7a7a7a7a7a7a7a7a7a7a7a7a7a7a7a7a7a7a7a7a7a7a7a7a7a7a7a7a"
    ++ codes "7a7a7a7a7a7a7a7a7a7a7a7a7a7a7a7a7a7a7a7a7a7a7a7a7a7a7a7a7a7a7a7a7a7a7a7a"
    ++ codes "7a7a7a7a7a7a7a7a7a7a7a7a7a7a7a7a7a7a7a7a7a7a7a7a7a7a7a7a7a7a7a7a7a7a7a7a"
    ++ codes "7a7a7a7a7a7a7a7a7a7a7a7a7a7a7a7a7a7a7a7a7a7a7a7a7a7a7a7a7a7a7a7a7a7a7a7a"
    ++ codes "7a7a7a7a7a7a7a7a7a7a7a7a7a7a7a7a7a7a7a7a7a7a7a7a7a7a7a7a7a7a7a7a7a7a7a7a"
    ++ codes "7a7a7a7a7a7a7a7a7a7a7a7a7a7a7a7a7a7a7a7a7a7a7a7a7a7a7a7a7a7a7a7a7a7a7a7a"
    ++ codes "7a7a7a7a7a7a7a7a7a7a7a7a7a7a7a7a7a7a7a7a7a7a7a7a7a7a7a7a7a7a7a7a7a7a7a7a"
    ++ codes "7a7a7a7a7a7a7a7a7a7a7a7a7a7a7a7a7a7a7a7a7a7a7a7a7a7a7a7a7a7a7a7a7a7a7a7a"
    ++ codes "7a7a7a7a7a7a7a7a7a7a7a7a7a7a7a7a7a7a7a7a7a7a7a7a7a7a7a7a7a7a7a7a7a7a7a7a"
    ++ codes "7a7a7a7a7a7a7a7a7a7a7a7a7a7a7a7a7a7a7a7a7a7a7a7a7a7a7a7a7a7a7a7a7a7a7a7a"
    ++ codes "7a7a7a7a7a7a7a7a7a7a7a7a7a7a7a7a7a7a7a7a7a7a7a7a7a7a7a7a7a7a7a7a7a7a7a7a"
    ++ codes "7a7a7a7a7a7a")))
    ∷ control (Second)
    ∷ control (Second)
    ∷ control (Second)
    ∷ control (Second)
    ∷ control (Second)
    ∷ control (Frame 9 (octets (codes "0180c2000003020000000006888e010000080202000801626f62")))
    ∷ control (Radius 0 (octets (codes "0b0100234363ffbe5341b0e37487a667b2c024c4180675f39ae11b0600000e111d0301dd"
    ++ codes "e0c613")))
    ∷ control (Frame 9 (octets (codes "0180c2000003020000000005888e01010000")))
    ∷ control (Frame 9 (octets (codes "0180c2000003020000000006888e020000080202000801626f62")))
    ∷ control (Frame 9 (octets (codes "0180c2000003020000000006888e0100057d0202057d0379797979797979797979797979"
    ++ codes "797979797979797979797979797979797979797979797979797979797979797979797979"
    ++ codes "797979797979797979797979797979797979797979797979797979797979797979797979"
    ++ codes "797979797979797979797979797979797979797979797979797979797979797979797979"
    ++ codes "797979797979797979797979797979797979797979797979797979797979797979797979"
    ++ codes "797979797979797979797979797979797979797979797979797979797979797979797979"
    ++ codes "797979797979797979797979797979797979797979797979797979797979797979797979"
    ++ codes "797979797979797979797979797979797979797979797979797979797979797979797979"
    ++ codes "797979797979797979797979797979797979797979797979797979797979797979797979"
    ++ codes "797979797979797979797979797979797979797979797979797979797979797979797979"
    ++ codes "797979797979797979797979797979797979797979797979797979797979797979797979"
    ++ codes "797979797979797979797979797979797979797979797979797979797979797979797979"
    ++ codes "797979797979797979797979797979797979797979797979797979797979797979797979"
    ++ codes "797979797979797979797979797979797979797979797979797979797979797979797979"
    ++ codes "797979797979797979797979797979797979797979797979797979797979797979797979"
    ++ codes "797979797979797979797979797979797979797979797979797979797979797979797979"
    ++ codes "797979797979797979797979797979797979797979797979797979797979797979797979"
    ++ codes "797979797979797979797979797979797979797979797979797979797979797979797979"
    ++ codes "797979797979797979797979797979797979797979797979797979797979797979797979"
    ++ codes "797979797979797979797979797979797979797979797979797979797979797979797979"
    ++ codes "797979797979797979797979797979797979797979797979797979797979797979797979"
    ++ codes "797979797979797979797979797979797979797979797979797979797979797979797979"
    ++ codes "797979797979797979797979797979797979797979797979797979797979797979797979"
    ++ codes "797979797979797979797979797979797979797979797979797979797979797979797979"
    ++ codes "797979797979797979797979797979797979797979797979797979797979797979797979"
    ++ codes "797979797979797979797979797979797979797979797979797979797979797979797979"
    ++ codes "797979797979797979797979797979797979797979797979797979797979797979797979"
    ++ codes "797979797979797979797979797979797979797979797979797979797979797979797979"
    ++ codes "797979797979797979797979797979797979797979797979797979797979797979797979"
    ++ codes "797979797979797979797979797979797979797979797979797979797979797979797979"
    ++ codes "797979797979797979797979797979797979797979797979797979797979797979797979"
    ++ codes "797979797979797979797979797979797979797979797979797979797979797979797979"
    ++ codes "797979797979797979797979797979797979797979797979797979797979797979797979"
    ++ codes "797979797979797979797979797979797979797979797979797979797979797979797979"
    ++ codes "797979797979797979797979797979797979797979797979797979797979797979797979"
    ++ codes "797979797979797979797979797979797979797979797979797979797979797979797979"
    ++ codes "797979797979797979797979797979797979797979797979797979797979797979797979"
    ++ codes "797979797979797979797979797979797979797979797979797979797979797979797979"
    ++ codes "797979797979797979797979797979797979797979797979797979797979797979797979"
    ++ codes "79797979797979797979797979797979797979")))
    ∷ control (Second)
    ∷ control (Second)
    ∷ control (Second)
    ∷ control (Second)
    ∷ control (Second)
    ∷ control (Frame 9 (octets (codes "0180c2000003020000000005888e010000110201000801626f62000000000000000000")))
    ∷ control (Frame 9 (octets (codes "0180c2000003020000000006888e020000080203000801657665")))
    ∷ control (Frame 9 (octets (codes "0180c2000003020000000002888e01010000")))
    ∷ [])
    ≡ turned Done (ToHost 9 (octets (codes "0180c2000003020000010109888e020000050100000501")) ∷ [])
    ∷ turned Done ([])
    ∷ turned Done ([])
    ∷ turned Done ([])
    ∷ turned Done ([])
    ∷ turned Done ([])
    ∷ turned Done ([])
    ∷ turned Done ([])
    ∷ turned Done (ToHost 9 (octets (codes "020000000006020000010109888e020000050101000501")) ∷ [])
    ∷ turned Done (ToServer 0 (octets (codes "0100008876b8e0ada0f13d90405d6ae55386bd285012e420c8a0de9f9a7ffdf101342450"
    ++ codes "0d370105626f620406c000020a0506000000090606000000020c06000005d81e1330322d"
    ++ codes "30302d30302d30312d30312d30391f1330322d30302d30302d30302d30302d3036200573"
    ++ codes "77313d060000000f2c0a30303030303030314f0a0201000801626f62")) ∷ [])
    ∷ turned (RequestDropped request.Stranger) ([])
    ∷ turned Done ([])
    ∷ turned Done (ToHost 9 (octets (codes "020000000006020000010109888e020000050102000501")) ∷ [])
    ∷ turned Done ([])
    ∷ turned Done ([])
    ∷ turned Done ([])
    ∷ turned Done ([])
    ∷ turned Done (ToServer 0 (octets (codes "01010088bdd219b8a08ded1aa836efcc8b770dc750128d817703cd9dd47dd0b688d1471a"
    ++ codes "68af0105626f620406c000020a0506000000090606000000020c06000005d81e1330322d"
    ++ codes "30302d30302d30312d30312d30391f1330322d30302d30302d30302d30302d3036200573"
    ++ codes "77313d060000000f2c0a30303030303030314f0a0202000801626f62")) ∷ [])
    ∷ turned (AnswerDropped answer.BadMessageAuth) ([])
    ∷ turned Done (ToHost 9 (octets (codes "020000000005020000010109888e020000050101000501")) ∷ [])
    ∷ turned Done ([])
    ∷ turned Done ([])
    ∷ turned Done (ToHost 9 (octets (codes "020000000006020000010109888e020000050103000501")) ∷ [])
    ∷ turned Done ([])
    ∷ turned Done ([])
    ∷ turned Done ([])
    ∷ turned Done ([])
    ∷ turned Done (ToServer 0 (octets (codes "01020088da41597c5157488d7724e03fb8d84a3750128d17652ca5c5f1ea3f6e45d3cf0d"
    ++ codes "73c70105626f620406c000020a0506000000090606000000020c06000005d81e1330322d"
    ++ codes "30302d30302d30312d30312d30391f1330322d30302d30302d30302d30302d3035200573"
    ++ codes "77313d060000000f2c0a30303030303030324f0a0201000801626f62")) ∷ [])
    ∷ turned Done (ToServer 0 (octets (codes "010300886a43b8f41518a11cc387b669b2ee658650124c830d84f3f7384c1ba525b7dbb2"
    ++ codes "915601056576650406c000020a0506000000090606000000020c06000005d81e1330322d"
    ++ codes "30302d30302d30312d30312d30391f1330322d30302d30302d30302d30302d3036200573"
    ++ codes "77313d060000000f2c0a30303030303030314f0a0203000801657665")) ∷ [])
    ∷ turned Done (ToHost 9 (octets (codes "020000000002020000010109888e020000050101000501")) ∷ [])
    ∷ []
unfolding settled pieces request_octets next_name packet_of attributes_of run_within first_attribute authenticator u32_at
    block_word double_rounds column_round diagonal_round quarter_round md5 digest_bytes hash_after compress rounds block_words
trace_7 = refl

abbrev settings_3 : Config
settings_3 = record empty {
  window = 1;
  bridge = (170 ∷ 187 ∷ 204 ∷ 221 ∷ 238 ∷ 0 ∷ []);
  nas = record { ip = (192 ∷ 0 ∷ 2 ∷ 95 ∷ []); name = codes "x" };
  seed = (220 ∷ 3 ∷ 104 ∷ 101 ∷ 147 ∷ 188 ∷ 133 ∷ 20 ∷ 48 ∷ 27 ∷ 152 ∷ 204 ∷ 186 ∷ 88 ∷ 34 ∷ 6 ∷ 5 ∷ 11 ∷ 70 ∷ 161 ∷ 68 ∷ 71 ∷ 94 ∷ 183 ∷ 84 ∷ 194 ∷ 253 ∷ 32 ∷ 47 ∷ 226 ∷ 198 ∷ 128 ∷ []);
  server = record { ip = (192 ∷ 0 ∷ 2 ∷ 20 ∷ []); port = 1812 };
  secret = (0 ∷ []);
  clock = 4294967295;
  clients = record { ip = (192 ∷ 0 ∷ 2 ∷ 30 ∷ []); secret = (0 ∷ []) } ∷ [];
  ports =
      record { port = 7; native = 20; control = Auto; restricted = 4094; guest = 0 }
      ∷ record { port = 2; native = 10; control = Auto; restricted = 4094; guest = 0 }
      ∷ [];
  times = record { quiet = 1; server = 5; reauth_max = 2; reauth_period = 3600; reauth = true };
}

-- a random trace of another program
trace_11 : told (opening settings_3)
    (control (Link 7 true)
    ∷ control (Link 2 true)
    ∷ control (Frame 7 (octets (codes "0180c2000003020000000004888e01010000")))
    ∷ control (Dynamic (record { ip = (192 ∷ 0 ∷ 2 ∷ 30 ∷ []); port = 0 }) (octets (codes "282e003f2b09be9eb87a2d1ba5a8e97df821724d1f1330322d30302d30302d30302d3030"
    ++ codes "2d30340406c000025f5012333307f4d8e329eca9be3a99bbb91bd0")))
    ∷ control (Radius 0 (octets (codes "027f00268089ee9183bda97943a7ac09ae8b3d125012b2d68e0823443fd4a6972fd77cd5"
    ++ codes "2e38")))
    ∷ control (Dynamic (record { ip = (192 ∷ 0 ∷ 2 ∷ 30 ∷ []); port = 0 }) (octets (codes "282e003f2b09be9eb87a2d1ba5a8e97df821724d1f1330322d30302d30302d30302d3030"
    ++ codes "2d30340406c000025f5012333307f4d8e329eca9be3a99bbb91bd0")))
    ∷ data_ 7 (octets (codes "ffffffffffff0200000000010800abababababababababababababababababababababab"
    ++ codes "abababababababababababababababababababababababab"))
    ∷ control (Second)
    ∷ control (Frame 7 (octets (codes "0180c2000003020000000005888e01010000")))
    ∷ data_ 7 (octets (codes "ffffffffffff0200000000058100"))
    ∷ control (Frame 2 (octets (codes "0180c2000003020000000001888e01010000")))
    ∷ control (Dynamic (record { ip = (192 ∷ 0 ∷ 2 ∷ 30 ∷ []); port = 4000 }) (octets (codes "28d80037739b9aadd81a24b1391d3709d89f820b1f1330322d30302d30302d30302d3030"
    ++ codes "2d303520076f7468657221092c94971719fb23")))
    ∷ control (Frame 2 (octets (codes "0180c2000003020000000006888e01010000")))
    ∷ control (Frame 7 (octets (codes "0180c2000003020000000005888e030000080201000801626f62")))
    ∷ [])
    ≡ turned Done (ToHost 7 (octets (codes "0180c2000003aabbccddee07888e020000050100000501")) ∷ [])
    ∷ turned Done (ToHost 2 (octets (codes "0180c2000003aabbccddee02888e020000050100000501")) ∷ [])
    ∷ turned Done (ToHost 7 (octets (codes "020000000004aabbccddee07888e020000050101000501")) ∷ [])
    ∷ turned Acked (ToHost 7 (octets (codes "020000000004aabbccddee07888e0200000404010004")) ∷ ToClient (record { ip = (192 ∷ 0 ∷ 2 ∷ 30 ∷ []); port = 0 }) (octets (codes "292e0026c141936905927864a566e8994c4e1b73501245272c61ee3e2476f2bf63dea96f"
    ++ codes "3d86")) ∷ [])
    ∷ turned (AnswerDropped answer.NoRequest) ([])
    ∷ turned Again (ToClient (record { ip = (192 ∷ 0 ∷ 2 ∷ 30 ∷ []); port = 0 }) (octets (codes "292e0026c141936905927864a566e8994c4e1b73501245272c61ee3e2476f2bf63dea96f"
    ++ codes "3d86")) ∷ [])
    ∷ decided (Drop Unauthorised)
    ∷ turned Done ([])
    ∷ turned Done (ToHost 7 (octets (codes "020000000005aabbccddee07888e020000050101000501")) ∷ [])
    ∷ decided (Drop Tagged)
    ∷ turned Done (ToHost 2 (octets (codes "020000000001aabbccddee02888e020000050101000501")) ∷ [])
    ∷ turned (RequestDropped request.BadMessageAuth) ([])
    ∷ turned Done (ToHost 2 (octets (codes "020000000006aabbccddee02888e020000050101000501")) ∷ [])
    ∷ turned Done (ToServer 0 (octets (codes "01000086e27f5367ff0699e8a4a90f9b4769315750122ea2a09aeabe5ebbbba8adbb3648"
    ++ codes "f6270105626f620406c000025f0506000000070606000000020c06000005d81e1341412d"
    ++ codes "42422d43432d44442d45452d30371f1330322d30302d30302d30302d30302d3035200378"
    ++ codes "3d060000000f2c0a30303030303030324f0a0201000801626f62")) ∷ [])
    ∷ []
unfolding settled pieces request_octets next_name packet_of attributes_of run_within first_attribute authenticator u32_at
    block_word double_rounds column_round diagonal_round quarter_round md5 digest_bytes hash_after compress rounds block_words
trace_11 = refl

abbrev settings_4 : Config
settings_4 = record empty {
  server = record { ip = (192 ∷ 0 ∷ 2 ∷ 20 ∷ []); port = 1812 };
  secret = (171 ∷ 171 ∷ 171 ∷ 171 ∷ 171 ∷ 171 ∷ 171 ∷ 171 ∷ 171 ∷ 171 ∷ 171 ∷ 171 ∷ 171 ∷ 171 ∷ 171 ∷ 171 ∷ 171 ∷ 171 ∷ 171 ∷ 171 ∷ 171 ∷ 171 ∷ 171 ∷ 171 ∷ 171 ∷ 171 ∷ 171 ∷ 171 ∷ 171 ∷ 171 ∷ 171 ∷ 171 ∷ 171 ∷ 171 ∷ 171 ∷ 171 ∷ 171 ∷ 171 ∷ 171 ∷ 171 ∷ 171 ∷ 171 ∷ 171 ∷ 171 ∷ 171 ∷ 171 ∷ 171 ∷ 171 ∷ 171 ∷ 171 ∷ 171 ∷ 171 ∷ 171 ∷ 171 ∷ 171 ∷ 171 ∷ 171 ∷ 171 ∷ 171 ∷ 171 ∷ 171 ∷ 171 ∷ 171 ∷ 171 ∷ []);
  window = 86400;
  clients = [];
  ports =
      record { port = 1; native = 4094; control = Auto; restricted = 99; guest = 0 }
      ∷ record { port = 9; native = 10; control = Auto; restricted = 4094; guest = 0 }
      ∷ [];
  times = record { quiet = 10; server = 30; reauth_max = 1; reauth_period = 3600; reauth = true };
}

-- a random trace of another program
trace_19 : told (opening settings_4)
    (control (Link 1 true)
    ∷ control (Link 9 true)
    ∷ control (Second)
    ∷ control (Second)
    ∷ control (Second)
    ∷ control (Second)
    ∷ control (Second)
    ∷ control (Second)
    ∷ control (Second)
    ∷ control (Second)
    ∷ control (Second)
    ∷ control (Second)
    ∷ control (Second)
    ∷ control (Second)
    ∷ control (Second)
    ∷ control (Second)
    ∷ control (Second)
    ∷ control (Second)
    ∷ control (Second)
    ∷ control (Second)
    ∷ control (Second)
    ∷ control (Second)
    ∷ control (Second)
    ∷ control (Second)
    ∷ control (Second)
    ∷ control (Second)
    ∷ control (Second)
    ∷ control (Second)
    ∷ control (Second)
    ∷ control (Second)
    ∷ [])
    ≡ turned Done (ToHost 1 (octets (codes "0180c2000003020000010101888e020000050100000501")) ∷ [])
    ∷ turned Done (ToHost 9 (octets (codes "0180c2000003020000010109888e020000050100000501")) ∷ [])
    ∷ turned Done ([])
    ∷ turned Done ([])
    ∷ turned Done ([])
    ∷ turned Done ([])
    ∷ turned Done ([])
    ∷ turned Done ([])
    ∷ turned Done ([])
    ∷ turned Done ([])
    ∷ turned Done ([])
    ∷ turned Done ([])
    ∷ turned Done ([])
    ∷ turned Done ([])
    ∷ turned Done ([])
    ∷ turned Done ([])
    ∷ turned Done ([])
    ∷ turned Done ([])
    ∷ turned Done ([])
    ∷ turned Done ([])
    ∷ turned Done ([])
    ∷ turned Done ([])
    ∷ turned Done ([])
    ∷ turned Done ([])
    ∷ turned Done ([])
    ∷ turned Done ([])
    ∷ turned Done ([])
    ∷ turned Done ([])
    ∷ turned Done ([])
    ∷ turned Done ([])
    ∷ []
unfolding settled pieces request_octets next_name packet_of attributes_of run_within first_attribute authenticator u32_at
    block_word double_rounds column_round diagonal_round quarter_round md5 digest_bytes hash_after compress rounds block_words
trace_19 = refl

abbrev settings_5 : Config
settings_5 = record empty {
  window = 86400;
  clock = 1;
  nas = record { ip = (192 ∷ 0 ∷ 2 ∷ 252 ∷ []); name = codes "nnnnnnnnnnnnnnnnnnnnnnnnnnnnnnnn" };
  server = record { ip = (192 ∷ 0 ∷ 2 ∷ 20 ∷ []); port = 1812 };
  secret = (0 ∷ []);
  bridge = (170 ∷ 187 ∷ 204 ∷ 221 ∷ 238 ∷ 0 ∷ []);
  require_ma = false;
  guest_wait = 1;
  clients = record { ip = (192 ∷ 0 ∷ 2 ∷ 30 ∷ []); secret = (0 ∷ []) } ∷ record { ip = (192 ∷ 0 ∷ 2 ∷ 31 ∷ []); secret = (0 ∷ []) } ∷ [];
  ports =
      record { port = 1; native = 4094; control = Auto; restricted = 0; guest = 77 }
      ∷ [];
  times = record { quiet = 60; server = 15; reauth_max = 3; reauth_period = 3600; reauth = true };
}

-- a random trace of another program
trace_23 : told (opening settings_5)
    (control (Link 1 true)
    ∷ control (Frame 1 (octets (codes "0180c2000003020000000001888e01010000")))
    ∷ control (Frame 1 (octets (codes "0180c2000003020000000002888e01010000")))
    ∷ control (Frame 1 (octets (codes "0180c2000003020000000003888e01010000")))
    ∷ control (Frame 1 (octets (codes "0180c2000003020000000004888e01010000")))
    ∷ control (Frame 1 (octets (codes "0180c2000003020000000005888e01010000")))
    ∷ control (Frame 1 (octets (codes "0180c2000003020000000006888e01010000")))
    ∷ control (Frame 1 (octets (codes "0180c2000003020000000007888e01010000")))
    ∷ control (Frame 1 (octets (codes "0180c2000003020000000008888e01010000")))
    ∷ control (Frame 1 (octets (codes "0180c2000003020000000009888e01010000")))
    ∷ control (Frame 1 (octets (codes "0180c200000302000000000a888e01010000")))
    ∷ control (Frame 1 (octets (codes "0180c200000302000000000b888e01010000")))
    ∷ control (Frame 1 (octets (codes "0180c200000302000000000c888e01010000")))
    ∷ control (Frame 1 (octets (codes "0180c200000302000000000d888e01010000")))
    ∷ control (Frame 1 (octets (codes "0180c200000302000000000e888e01010000")))
    ∷ control (Frame 1 (octets (codes "0180c200000302000000000f888e01010000")))
    ∷ control (Frame 1 (octets (codes "0180c2000003020000000010888e01010000")))
    ∷ data_ 1 (octets (codes "0200000fffff02000000000888ccabababababababababababababababababababababab"
    ++ codes "abababababababababababababababababababababababab"))
    ∷ data_ 1 (octets (codes "0200000fffff02000000000f88ccab"))
    ∷ data_ 1 (octets (codes "0180c20000ff0200000000100800abababababababababababababababababababababab"
    ++ codes "abababababababababababababababababababababababababababababababababababab"
    ++ codes "abababababababababababababababababababababababababababababababababababab"
    ++ codes "abababababab"))
    ∷ control (Frame 1 (octets (codes "0180c2000003020000000002888e01010000")))
    ∷ control (Second)
    ∷ control (Second)
    ∷ control (Second)
    ∷ control (Frame 1 (octets (codes "0180c200000302000000000c888e000000080201000801657665")))
    ∷ control (Second)
    ∷ control (Radius 0 (octets (codes "0282003cf61c5e261ba96764d42a1351d0bbe6905012def10a26faea3b366fff736d0bdd"
    ++ codes "0a711b06ffffffff4f0d0301000470616464696e671d0301")))
    ∷ control (Radius 0 (octets (codes "02000050cbac3d4c3c1cf5b98b992d1e5b2ed05440060000000d5106343039341d060000"
    ++ codes "000218065a8cc9824106000000064f06030100041b0600000e10501276bf7a63a3057c9d"
    ++ codes "41fd782b604880cd")))
    ∷ control (Dynamic (record { ip = (192 ∷ 0 ∷ 2 ∷ 30 ∷ []); port = 0 }) (octets (codes "2831003cc40b5a8768307be4ff206de8e931dbcd50128160779095aeb2aa9219fb66cc80"
    ++ codes "f6e30406c00002fc2c0a3030303041424344060600000011")))
    ∷ control (Dynamic (record { ip = (10 ∷ 0 ∷ 0 ∷ 1 ∷ []); port = 13374 }) (octets (codes "2801002699060173b46895962ecffc4bc3864cda5012250cdc3d4fd66eab4bb0ba6076be"
    ++ codes "a5f1")))
    ∷ [])
    ≡ turned Done (ToHost 1 (octets (codes "0180c2000003aabbccddee01888e020000050100000501")) ∷ [])
    ∷ turned Done (ToHost 1 (octets (codes "020000000001aabbccddee01888e020000050101000501")) ∷ [])
    ∷ turned Done (ToHost 1 (octets (codes "020000000002aabbccddee01888e020000050101000501")) ∷ [])
    ∷ turned Done (ToHost 1 (octets (codes "020000000003aabbccddee01888e020000050101000501")) ∷ [])
    ∷ turned Done (ToHost 1 (octets (codes "020000000004aabbccddee01888e020000050101000501")) ∷ [])
    ∷ turned Done (ToHost 1 (octets (codes "020000000005aabbccddee01888e020000050101000501")) ∷ [])
    ∷ turned Done (ToHost 1 (octets (codes "020000000006aabbccddee01888e020000050101000501")) ∷ [])
    ∷ turned Done (ToHost 1 (octets (codes "020000000007aabbccddee01888e020000050101000501")) ∷ [])
    ∷ turned Done (ToHost 1 (octets (codes "020000000008aabbccddee01888e020000050101000501")) ∷ [])
    ∷ turned Done (ToHost 1 (octets (codes "020000000009aabbccddee01888e020000050101000501")) ∷ [])
    ∷ turned Done (ToHost 1 (octets (codes "02000000000aaabbccddee01888e020000050101000501")) ∷ [])
    ∷ turned Done (ToHost 1 (octets (codes "02000000000baabbccddee01888e020000050101000501")) ∷ [])
    ∷ turned Done (ToHost 1 (octets (codes "02000000000caabbccddee01888e020000050101000501")) ∷ [])
    ∷ turned Done (ToHost 1 (octets (codes "02000000000daabbccddee01888e020000050101000501")) ∷ [])
    ∷ turned Done (ToHost 1 (octets (codes "02000000000eaabbccddee01888e020000050101000501")) ∷ [])
    ∷ turned Done (ToHost 1 (octets (codes "02000000000faabbccddee01888e020000050101000501")) ∷ [])
    ∷ turned Done (ToHost 1 (octets (codes "020000000010aabbccddee01888e020000050101000501")) ∷ [])
    ∷ decided (Drop Unauthorised)
    ∷ decided (Drop Unauthorised)
    ∷ decided (Drop Unauthorised)
    ∷ turned Done (ToHost 1 (octets (codes "020000000002aabbccddee01888e020000050102000501")) ∷ [])
    ∷ turned Done ([])
    ∷ turned Done ([])
    ∷ turned Done ([])
    ∷ turned Done (ToServer 0 (octets (codes "010000a576b8e0ada0f13d90405d6ae55386bd2850126274a95f3c9ee3f06e25db51623a"
    ++ codes "ac1301056576650406c00002fc0506000000010606000000020c06000005d81e1341412d"
    ++ codes "42422d43432d44442d45452d30311f1330322d30302d30302d30302d30302d304320226e"
    ++ codes "6e6e6e6e6e6e6e6e6e6e6e6e6e6e6e6e6e6e6e6e6e6e6e6e6e6e6e6e6e6e6e3d06000000"
    ++ codes "0f2c0a30303030303030434f0a0201000801657665")) ∷ [])
    ∷ turned Done ([])
    ∷ turned (AnswerDropped answer.NoRequest) ([])
    ∷ turned Done (ToHost 1 (octets (codes "02000000000caabbccddee01888e0200000403010004")) ∷ [])
    ∷ turned (Naked 405) (ToClient (record { ip = (192 ∷ 0 ∷ 2 ∷ 30 ∷ []); port = 0 }) (octets (codes "2a31002c5deeb655997a6c1ffc451f3dfeae54c95012e2bcaf3978511b8158114028f6ee"
    ++ codes "bed0650600000195")) ∷ [])
    ∷ turned (RequestDropped request.Stranger) ([])
    ∷ []
unfolding settled pieces request_octets next_name packet_of attributes_of run_within first_attribute authenticator u32_at
    block_word double_rounds column_round diagonal_round quarter_round md5 digest_bytes hash_after compress rounds block_words
trace_23 = refl

abbrev settings_6 : Config
settings_6 = record empty {
  window = 1;
  server = record { ip = (192 ∷ 0 ∷ 2 ∷ 20 ∷ []); port = 1812 };
  secret = (115 ∷ 101 ∷ 99 ∷ 114 ∷ 101 ∷ 116 ∷ []);
  require_ma = false;
  clients = record { ip = (192 ∷ 0 ∷ 2 ∷ 32 ∷ []); secret = (100 ∷ 121 ∷ 110 ∷ []) } ∷ record { ip = (192 ∷ 0 ∷ 2 ∷ 30 ∷ []); secret = (0 ∷ []) } ∷ record { ip = (192 ∷ 0 ∷ 2 ∷ 33 ∷ []); secret = (205 ∷ 205 ∷ 205 ∷ 205 ∷ 205 ∷ 205 ∷ 205 ∷ 205 ∷ 205 ∷ 205 ∷ 205 ∷ 205 ∷ 205 ∷ 205 ∷ 205 ∷ 205 ∷ 205 ∷ 205 ∷ 205 ∷ 205 ∷ 205 ∷ 205 ∷ 205 ∷ 205 ∷ 205 ∷ 205 ∷ 205 ∷ 205 ∷ 205 ∷ 205 ∷ 205 ∷ 205 ∷ 205 ∷ 205 ∷ 205 ∷ 205 ∷ 205 ∷ 205 ∷ 205 ∷ 205 ∷ 205 ∷ 205 ∷ 205 ∷ 205 ∷ 205 ∷ 205 ∷ 205 ∷ 205 ∷ 205 ∷ 205 ∷ 205 ∷ 205 ∷ 205 ∷ 205 ∷ 205 ∷ 205 ∷ 205 ∷ 205 ∷ 205 ∷ 205 ∷ 205 ∷ 205 ∷ 205 ∷ 205 ∷ []) } ∷ record { ip = (192 ∷ 0 ∷ 2 ∷ 31 ∷ []); secret = (0 ∷ []) } ∷ [];
  ports =
      record { port = 9; native = 10; control = ForceUnauth; restricted = 0; guest = 77 }
      ∷ record { port = 7; native = 4094; control = Auto; restricted = 1; guest = 0 }
      ∷ [];
  times = record { quiet = 3; server = 30; reauth_max = 10; reauth_period = 5; reauth = true };
}

-- a random trace of another program
trace_42 : told (opening settings_6)
    (control (Link 7 true)
    ∷ control (Second)
    ∷ control (Second)
    ∷ control (Second)
    ∷ control (Second)
    ∷ control (Second)
    ∷ control (Second)
    ∷ control (Second)
    ∷ control (Second)
    ∷ control (Second)
    ∷ control (Second)
    ∷ control (Second)
    ∷ control (Second)
    ∷ control (Second)
    ∷ control (Second)
    ∷ control (Second)
    ∷ control (Second)
    ∷ control (Second)
    ∷ control (Second)
    ∷ control (Second)
    ∷ control (Second)
    ∷ control (Second)
    ∷ control (Second)
    ∷ control (Second)
    ∷ control (Second)
    ∷ control (Second)
    ∷ control (Second)
    ∷ control (Second)
    ∷ control (Second)
    ∷ control (Second)
    ∷ [])
    ≡ turned Done (ToHost 7 (octets (codes "0180c2000003020000010107888e020000050100000501")) ∷ [])
    ∷ turned Done ([])
    ∷ turned Done ([])
    ∷ turned Done ([])
    ∷ turned Done ([])
    ∷ turned Done ([])
    ∷ turned Done ([])
    ∷ turned Done ([])
    ∷ turned Done ([])
    ∷ turned Done ([])
    ∷ turned Done ([])
    ∷ turned Done ([])
    ∷ turned Done ([])
    ∷ turned Done ([])
    ∷ turned Done ([])
    ∷ turned Done ([])
    ∷ turned Done ([])
    ∷ turned Done ([])
    ∷ turned Done ([])
    ∷ turned Done ([])
    ∷ turned Done ([])
    ∷ turned Done ([])
    ∷ turned Done ([])
    ∷ turned Done ([])
    ∷ turned Done ([])
    ∷ turned Done ([])
    ∷ turned Done ([])
    ∷ turned Done ([])
    ∷ turned Done ([])
    ∷ turned Done ([])
    ∷ []
unfolding settled pieces request_octets next_name packet_of attributes_of run_within first_attribute authenticator u32_at
    block_word double_rounds column_round diagonal_round quarter_round md5 digest_bytes hash_after compress rounds block_words
trace_42 = refl

abbrev settings_7 : Config
settings_7 = record empty {
  bridge = (2 ∷ 0 ∷ 0 ∷ 1 ∷ 1 ∷ 255 ∷ []);
  window = 10;
  clock = 1;
  server = record { ip = (192 ∷ 0 ∷ 2 ∷ 20 ∷ []); port = 1812 };
  secret = (115 ∷ 101 ∷ 99 ∷ 114 ∷ 101 ∷ 116 ∷ []);
  require_ma = false;
  guest_wait = 30;
  clients = record { ip = (192 ∷ 0 ∷ 2 ∷ 30 ∷ []); secret = (100 ∷ 121 ∷ 110 ∷ []) } ∷ [];
  ports =
      record { port = 60; native = 4094; control = ForceAuth; restricted = 0; guest = 0 }
      ∷ record { port = 1; native = 1; control = ForceAuth; restricted = 0; guest = 77 }
      ∷ record { port = 3; native = 10; control = ForceUnauth; restricted = 0; guest = 77 }
      ∷ record { port = 2; native = 20; control = Auto; restricted = 0; guest = 77 }
      ∷ [];
  times = record { quiet = 10; server = 16; reauth_max = 2; reauth_period = 2; reauth = true };
}

-- a random trace of another program
trace_64 : told (opening settings_7)
    (control (Link 60 true)
    ∷ control (Link 1 true)
    ∷ control (Link 3 true)
    ∷ control (Link 2 true)
    ∷ data_ 3 (octets (codes "ffffffffffff0200000000010800abababababababababababababababababababababab"
    ++ codes "abababababababababababababababababababababababababababababababababababab"
    ++ codes "abababababababababababababababababababababababababababababababababababab"
    ++ codes "abababababab"))
    ∷ control (Link 1 true)
    ∷ control (Frame 2 (octets (codes "0180c2000003020000000006888e010300036b6579")))
    ∷ control (Second)
    ∷ control (Second)
    ∷ control (Second)
    ∷ [])
    ≡ turned Done (ToHost 60 (octets (codes "0180c200000302000001013c888e0200000403000004")) ∷ [])
    ∷ turned Done (ToHost 1 (octets (codes "0180c2000003020000010101888e0200000403000004")) ∷ [])
    ∷ turned Done (ToHost 3 (octets (codes "0180c2000003020000010103888e0200000404000004")) ∷ [])
    ∷ turned Done (ToHost 2 (octets (codes "0180c2000003020000010102888e020000050100000501")) ∷ [])
    ∷ decided (Drop Closed)
    ∷ turned Done ([])
    ∷ turned (FrameDropped frame.Key) ([])
    ∷ turned Done ([])
    ∷ turned Done ([])
    ∷ turned Done ([])
    ∷ []
unfolding settled pieces request_octets next_name packet_of attributes_of run_within first_attribute authenticator u32_at
    block_word double_rounds column_round diagonal_round quarter_round md5 digest_bytes hash_after compress rounds block_words
trace_64 = refl

abbrev settings_8 : Config
settings_8 = record empty {
  nas = record { ip = (192 ∷ 0 ∷ 2 ∷ 128 ∷ []); name = codes "nnnnnnnnnnnnnnnnnnnnnnnnnnnnnnnn" };
  clock = 1000;
  server = record { ip = (192 ∷ 0 ∷ 2 ∷ 20 ∷ []); port = 1812 };
  secret = (171 ∷ 171 ∷ 171 ∷ 171 ∷ 171 ∷ 171 ∷ 171 ∷ 171 ∷ 171 ∷ 171 ∷ 171 ∷ 171 ∷ 171 ∷ 171 ∷ 171 ∷ 171 ∷ 171 ∷ 171 ∷ 171 ∷ 171 ∷ 171 ∷ 171 ∷ 171 ∷ 171 ∷ 171 ∷ 171 ∷ 171 ∷ 171 ∷ 171 ∷ 171 ∷ 171 ∷ 171 ∷ 171 ∷ 171 ∷ 171 ∷ 171 ∷ 171 ∷ 171 ∷ 171 ∷ 171 ∷ 171 ∷ 171 ∷ 171 ∷ 171 ∷ 171 ∷ 171 ∷ 171 ∷ 171 ∷ 171 ∷ 171 ∷ 171 ∷ 171 ∷ 171 ∷ 171 ∷ 171 ∷ 171 ∷ 171 ∷ 171 ∷ 171 ∷ 171 ∷ 171 ∷ 171 ∷ 171 ∷ 171 ∷ []);
  require_ma = true;
  guest_wait = 1;
  clients = record { ip = (192 ∷ 0 ∷ 2 ∷ 30 ∷ []); secret = (100 ∷ 121 ∷ 110 ∷ []) } ∷ record { ip = (192 ∷ 0 ∷ 2 ∷ 32 ∷ []); secret = (205 ∷ 205 ∷ 205 ∷ 205 ∷ 205 ∷ 205 ∷ 205 ∷ 205 ∷ 205 ∷ 205 ∷ 205 ∷ 205 ∷ 205 ∷ 205 ∷ 205 ∷ 205 ∷ 205 ∷ 205 ∷ 205 ∷ 205 ∷ 205 ∷ 205 ∷ 205 ∷ 205 ∷ 205 ∷ 205 ∷ 205 ∷ 205 ∷ 205 ∷ 205 ∷ 205 ∷ 205 ∷ 205 ∷ 205 ∷ 205 ∷ 205 ∷ 205 ∷ 205 ∷ 205 ∷ 205 ∷ 205 ∷ 205 ∷ 205 ∷ 205 ∷ 205 ∷ 205 ∷ 205 ∷ 205 ∷ 205 ∷ 205 ∷ 205 ∷ 205 ∷ 205 ∷ 205 ∷ 205 ∷ 205 ∷ 205 ∷ 205 ∷ 205 ∷ 205 ∷ 205 ∷ 205 ∷ 205 ∷ 205 ∷ []) } ∷ record { ip = (192 ∷ 0 ∷ 2 ∷ 31 ∷ []); secret = (205 ∷ 205 ∷ 205 ∷ 205 ∷ 205 ∷ 205 ∷ 205 ∷ 205 ∷ 205 ∷ 205 ∷ 205 ∷ 205 ∷ 205 ∷ 205 ∷ 205 ∷ 205 ∷ 205 ∷ 205 ∷ 205 ∷ 205 ∷ 205 ∷ 205 ∷ 205 ∷ 205 ∷ 205 ∷ 205 ∷ 205 ∷ 205 ∷ 205 ∷ 205 ∷ 205 ∷ 205 ∷ 205 ∷ 205 ∷ 205 ∷ 205 ∷ 205 ∷ 205 ∷ 205 ∷ 205 ∷ 205 ∷ 205 ∷ 205 ∷ 205 ∷ 205 ∷ 205 ∷ 205 ∷ 205 ∷ 205 ∷ 205 ∷ 205 ∷ 205 ∷ 205 ∷ 205 ∷ 205 ∷ 205 ∷ 205 ∷ 205 ∷ 205 ∷ 205 ∷ 205 ∷ 205 ∷ 205 ∷ 205 ∷ []) } ∷ record { ip = (192 ∷ 0 ∷ 2 ∷ 33 ∷ []); secret = (100 ∷ 121 ∷ 110 ∷ []) } ∷ [];
  ports =
      record { port = 1; native = 20; control = Auto; restricted = 99; guest = 1 }
      ∷ record { port = 9; native = 10; control = Auto; restricted = 99; guest = 4094 }
      ∷ [];
  times = record { quiet = 1; server = 20; reauth_max = 2; reauth_period = 2; reauth = false };
}

-- a random trace of another program
trace_90 : told (opening settings_8)
    (control (Link 1 true)
    ∷ control (Link 9 true)
    ∷ control (Second)
    ∷ control (Second)
    ∷ control (Frame 1 (octets (codes "0180c2000003020000000006888e010000080201000801")))
    ∷ data_ 9 (octets (codes "0200000fffff02000000000686ddabababababababababababababababababababababab"
    ++ codes "abababababababababababababababababababababababababababababababababababab"
    ++ codes "abababababababababababababababababababababababababababababababababababab"
    ++ codes "abababababab"))
    ∷ control (Frame 1 (octets (codes "0180c2000003020000000002888e01010000")))
    ∷ control (Second)
    ∷ control (Dynamic (record { ip = (192 ∷ 0 ∷ 2 ∷ 31 ∷ []); port = 4000 }) (octets (codes "287e002c5b4d0ca7cab220311dfdbcdc87c45a1b50126fd9be551790678c757c1b4e66e8"
    ++ codes "2632050600000001")))
    ∷ control (Frame 9 (octets (codes "0180c2000003020000000001888e01010000")))
    ∷ data_ 9 (octets (codes "ffffffffffff02000000000188cc"))
    ∷ control (Frame 1 (octets (codes "0180c2000003020000000002888e0104000178")))
    ∷ control (Second)
    ∷ control (Frame 9 (octets (codes "020000010109020000000001888e010005dc020005dc017a7a7a7a7a7a7a7a7a7a7a7a7a"
    ++ codes "7a7a7a7a7a7a7a7a7a7a7a7a7a7a7a7a7a7a7a7a7a7a7a7a7a7a7a7a7a7a7a7a7a7a7a7a"
    ++ codes "7a7a7a7a7a7a7a7a7a7a7a7a7a7a7a7a7a7a7a7a7a7a7a7a7a7a7a7a7a7a7a7a7a7a7a7a"
    ++ codes "7a7a7a7a7a7a7a7a7a7a7a7a7a7a7a7a7a7a7a7a7a7a7a7a7a7a7a7a7a7a7a7a7a7a7a7a"
    ++ codes "7a7a7a7a7a7a7a7a7a7a7a7a7a7a7a7a7a7a7a7a7a7a7a7a7a7a7a7a7a7a7a7a7a7a7a7a"
    ++ codes "7a7a7a7a7a7a7a7a7a7a7a7a7a7a7a7a7a7a7a7a7a7a7a7a7a7a7a7a7a7a7a7a7a7a7a7a"
    ++ codes "7a7a7a7a7a7a7a7a7a7a7a7a7a7a7a7a7a7a7a7a7a7a7a7a7a7a7a7a7a7a7a7a7a7a7a7a"
    ++ codes "7a7a7a7a7a7a7a7a7a7a7a7a7a7a7a7a7a7a7a7a7a7a7a7a7a7a7a7a7a7a7a7a7a7a7a7a"
    ++ codes "7a7a7a7a7a7a7a7a7a7a7a7a7a7a7a7a7a7a7a7a7a7a7a7a7a7a7a7a7a7a7a7a7a7a7a7a"
    ++ codes "7a7a7a7a7a7a7a7a7a7a7a7a7a7a7a7a7a7a7a7a7a7a7a7a7a7a7a7a7a7a7a7a7a7a7a7a"
    ++ codes "7a7a7a7a7a7a7a7a7a7a7a7a7a7a7a7a7a7a7a7a7a7a7a7a7a7a7a7a7a7a7a7a7a7a7a7a"
    ++ codes "7a7a7a7a7a7a7a7a7a7a7a7a7a7a7a7a7a7a7a7a7a7a7a7a7a7a7a7a7a7a7a7a7a7a7a7a"
    ++ codes "7a7a7a7a7a7a7a7a7a7a7a7a7a7a7a7a7a7a7a7a7a7a7a7a7a7a7a7a7a7a7a7a7a7a7a7a"
    ++ codes "7a7a7a7a7a7a7a7a7a7a7a7a7a7a7a7a7a7a7a7a7a7a7a7a7a7a7a7a7a7a7a7a7a7a7a7a"
    ++ codes "7a7a7a7a7a7a7a7a7a7a7a7a7a7a7a7a7a7a7a7a7a7a7a7a7a7a7a7a7a7a7a7a7a7a7a7a"
    ++ codes "7a7a7a7a7a7a7a7a7a7a7a7a7a7a7a7a7a7a7a7a7a7a7a7a7a7a7a7a7a7a7a7a7a7a7a7a"
    ++ codes "7a7a7a7a7a7a7a7a7a7a7a7a7a7a7a7a7a7a7a7a7a7a7a7a7a7a7a7a7a7a7a7a7a7a7a7a"
    ++ codes "7a7a7a7a7a7a7a7a7a7a7a7a7a7a7a7a7a7a7a7a7a7a7a7a7a7a7a7a7a7a7a7a7a7a7a7a"
    ++ codes "7a7a7a7a7a7a7a7a7a7a7a7a7a7a7a7a7a7a7a7a7a7a7a7a7a7a7a7a7a7a7a7a7a7a7a7a"
    ++ codes "7a7a7a7a7a7a7a7a7a7a7a7a7a7a7a7a7a7a7a7a7a7a7a7a7a7a7a7a7a7a7a7a7a7a7a7a"
    ++ codes "7a7a7a7a7a7a7a7a7a7a7a7a7a7a7a7a7a7a7a7a7a7a7a7a7a7a7a7a7a7a7a7a7a7a7a7a"
    ++ codes "7a7a7a7a7a7a7a7a7a7a7a7a7a7a7a7a7a7a7a7a7a7a7a7a7a7a7a7a7a7a7a7a7a7a7a7a"
    ++ codes "7a7a7a7a7a7a7a7a7a7a7a7a7a7a7a7a7a7a7a7a7a7a7a7a7a7a7a7a7a7a7a7a7a7a7a7a"
    ++ codes "7a7a7a7a7a7a7a7a7a7a7a7a7a7a7a7a7a7a7a7a7a7a7a7a7a7a7a7a7a7a7a7a7a7a7a7a"
    ++ codes "7a7a7a7a7a7a7a7a7a7a7a7a7a7a7a7a7a7a7a7a7a7a7a7a7a7a7a7a7a7a7a7a7a7a7a7a"
    ++ codes "7a7a7a7a7a7a7a7a7a7a7a7a7a7a7a7a7a7a7a7a7a7a7a7a7a7a7a7a7a7a7a7a7a7a7a7a"
    ++ codes "7a7a7a7a7a7a7a7a7a7a7a7a7a7a7a7a7a7a7a7a7a7a7a7a7a7a7a7a7a7a7a7a7a7a7a7a"
    ++ codes "7a7a7a7a7a7a7a7a7a7a7a7a7a7a7a7a7a7a7a7a7a7a7a7a7a7a7a7a7a7a7a7a7a7a7a7a"
    ++ codes "7a7a7a7a7a7a7a7a7a7a7a7a7a7a7a7a7a7a7a7a7a7a7a7a7a7a7a7a7a7a7a7a7a7a7a7a"
    ++ codes "7a7a7a7a7a7a7a7a7a7a7a7a7a7a7a7a7a7a7a7a7a7a7a7a7a7a7a7a7a7a7a7a7a7a7a7a"
    ++ codes "7a7a7a7a7a7a7a7a7a7a7a7a7a7a7a7a7a7a7a7a7a7a7a7a7a7a7a7a7a7a7a7a7a7a7a7a"
    ++ codes "7a7a7a7a7a7a7a7a7a7a7a7a7a7a7a7a7a7a7a7a7a7a7a7a7a7a7a7a7a7a7a7a7a7a7a7a"
    ++ codes "7a7a7a7a7a7a7a7a7a7a7a7a7a7a7a7a7a7a7a7a7a7a7a7a7a7a7a7a7a7a7a7a7a7a7a7a"
    ++ codes "7a7a7a7a7a7a7a7a7a7a7a7a7a7a7a7a7a7a7a7a7a7a7a7a7a7a7a7a7a7a7a7a7a7a7a7a"
    ++ codes "7a7a7a7a7a7a7a7a7a7a7a7a7a7a7a7a7a7a7a7a7a7a7a7a7a7a7a7a7a7a7a7a7a7a7a7a"
    ++ codes "7a7a7a7a7a7a7a7a7a7a7a7a7a7a7a7a7a7a7a7a7a7a7a7a7a7a7a7a7a7a7a7a7a7a7a7a"
    ++ codes "7a7a7a7a7a7a7a7a7a7a7a7a7a7a7a7a7a7a7a7a7a7a7a7a7a7a7a7a7a7a7a7a7a7a7a7a"
    ++ codes "7a7a7a7a7a7a7a7a7a7a7a7a7a7a7a7a7a7a7a7a7a7a7a7a7a7a7a7a7a7a7a7a7a7a7a7a"
    ++ codes "7a7a7a7a7a7a7a7a7a7a7a7a7a7a7a7a7a7a7a7a7a7a7a7a7a7a7a7a7a7a7a7a7a7a7a7a"
    ++ codes "7a7a7a7a7a7a7a7a7a7a7a7a7a7a7a7a7a7a7a7a7a7a7a7a7a7a7a7a7a7a7a7a7a7a7a7a"
    ++ codes "7a7a7a7a7a7a7a7a7a7a7a7a7a7a7a7a7a7a7a7a7a7a7a7a7a7a7a7a7a7a7a7a7a7a7a7a"
    ++ codes "7a7a7a7a7a7a7a7a7a7a7a7a7a7a7a7a7a7a7a7a7a7a7a7a7a7a7a7a7a7a7a7a7a7a7a7a"
    ++ codes "7a7a7a7a7a7a")))
    ∷ control (Second)
    ∷ control (Second)
    ∷ control (Second)
    ∷ data_ 9 (octets (codes "ffffffffffff"))
    ∷ data_ 9 (octets (codes "0200000fffff0200000000010800"))
    ∷ control (Frame 9 (octets (codes "0180c2000003020000000001888e030000080201000801657665")))
    ∷ data_ 9 (octets (codes "ffffffffffff02000000000188ccabababababababababababababababababababababab"
    ++ codes "abababababababababababababababababababababababab"))
    ∷ control (Link 1 true)
    ∷ control (Frame 9 (octets (codes "0180c2000003020000000001888e0200000a0201000a017573657232")))
    ∷ control (Frame 9 (octets (codes "0180c2000003020000000005888e01010000")))
    ∷ control (Radius 0 (octets (codes "03000719a60dc0a6472f7bed53f8f54ea285bb9650127a53d2b47e1ca4e295f9ed43e6d2"
    ++ codes "4cf2210768656c6c6f18ff80f9cd7c1a48373251ca4c8ee35db0b06ef599092840989e17"
    ++ codes "585b4ee1a56bfc2ecf52066860c94388003b75c7d8f701141ee6c5639329363745350aff"
    ++ codes "8357c203ef90cebc01e72b1bce7815d2d1e512ead246415b8fd60146c1cf1d769339a88d"
    ++ codes "b9a889f50bdb9302b687bc44a6e7b7e427a5c524c01a13705f90a551cff544ab9ad41f65"
    ++ codes "b80440fd7040e2d211b55497a24319420beb307463505511caa1b3f7ac5c1c0168e556ae"
    ++ codes "1e084bf713e3691c09a19ebf7f7e813e6a07ad38ce4bdda765918327054774ade0fed61c"
    ++ codes "4fed26e92dc49eb81c2ed161e3ddc42cca410e7735cb1f00d678f86dc283e4c93caa5280"
    ++ codes "9fb04c6e59c5dfea15de0e464fff040105e1040000000000000000000000000000000000"
    ++ codes "000000000000000000000000000000000000000000000000000000000000000000000000"
    ++ codes "000000000000000000000000000000000000000000000000000000000000000000000000"
    ++ codes "000000000000000000000000000000000000000000000000000000000000000000000000"
    ++ codes "000000000000000000000000000000000000000000000000000000000000000000000000"
    ++ codes "000000000000000000000000000000000000000000000000000000000000000000000000"
    ++ codes "000000000000000000000000000000000000000000000000000000000000000000000000"
    ++ codes "0000000000000000000000000000004fff00000000000000000000000000000000000000"
    ++ codes "000000000000000000000000000000000000000000000000000000000000000000000000"
    ++ codes "000000000000000000000000000000000000000000000000000000000000000000000000"
    ++ codes "000000000000000000000000000000000000000000000000000000000000000000000000"
    ++ codes "000000000000000000000000000000000000000000000000000000000000000000000000"
    ++ codes "000000000000000000000000000000000000000000000000000000000000000000000000"
    ++ codes "000000000000000000000000000000000000000000000000000000000000000000000000"
    ++ codes "0000000000000000000000000000000000004fff00000000000000000000000000000000"
    ++ codes "000000000000000000000000000000000000000000000000000000000000000000000000"
    ++ codes "000000000000000000000000000000000000000000000000000000000000000000000000"
    ++ codes "000000000000000000000000000000000000000000000000000000000000000000000000"
    ++ codes "000000000000000000000000000000000000000000000000000000000000000000000000"
    ++ codes "000000000000000000000000000000000000000000000000000000000000000000000000"
    ++ codes "000000000000000000000000000000000000000000000000000000000000000000000000"
    ++ codes "0000000000000000000000000000000000000000004fff00000000000000000000000000"
    ++ codes "000000000000000000000000000000000000000000000000000000000000000000000000"
    ++ codes "000000000000000000000000000000000000000000000000000000000000000000000000"
    ++ codes "000000000000000000000000000000000000000000000000000000000000000000000000"
    ++ codes "000000000000000000000000000000000000000000000000000000000000000000000000"
    ++ codes "000000000000000000000000000000000000000000000000000000000000000000000000"
    ++ codes "000000000000000000000000000000000000000000000000000000000000000000000000"
    ++ codes "0000000000000000000000000000000000000000000000004fff00000000000000000000"
    ++ codes "000000000000000000000000000000000000000000000000000000000000000000000000"
    ++ codes "000000000000000000000000000000000000000000000000000000000000000000000000"
    ++ codes "000000000000000000000000000000000000000000000000000000000000000000000000"
    ++ codes "000000000000000000000000000000000000000000000000000000000000000000000000"
    ++ codes "000000000000000000000000000000000000000000000000000000000000000000000000"
    ++ codes "000000000000000000000000000000000000000000000000000000000000000000000000"
    ++ codes "0000000000000000000000000000000000000000000000000000004ff200000000000000"
    ++ codes "000000000000000000000000000000000000000000000000000000000000000000000000"
    ++ codes "000000000000000000000000000000000000000000000000000000000000000000000000"
    ++ codes "000000000000000000000000000000000000000000000000000000000000000000000000"
    ++ codes "000000000000000000000000000000000000000000000000000000000000000000000000"
    ++ codes "000000000000000000000000000000000000000000000000000000000000000000000000"
    ++ codes "000000000000000000000000000000000000000000000000000000000000000000000000"
    ++ codes "0000000000000000000000000000000000")))
    ∷ control (Frame 9 (octets (codes "0180c2000003020000000001888e010000080202000803626f62")))
    ∷ control (Radius 0 (octets (codes "0b500026c13cd4d6c9069f6fc9e3a77ecc40e7ca501227620524fd22690e3936c6d5dc71"
    ++ codes "e5bc")))
    ∷ control (Radius 0 (octets (codes "0b000036b308dd58888aef69ae96c90f6c75119e4f1501b50013025b7b58b9c15db05634"
    ++ codes "31225f96b41d06000000001b050000015002")))
    ∷ control (Second)
    ∷ control (Second)
    ∷ [])
    ≡ turned Done (ToHost 1 (octets (codes "0180c2000003020000010101888e020000050100000501")) ∷ [])
    ∷ turned Done (ToHost 9 (octets (codes "0180c2000003020000010109888e020000050100000501")) ∷ [])
    ∷ turned Done ([])
    ∷ turned Done ([])
    ∷ turned (FrameDropped frame.BodyShort) ([])
    ∷ decided (Forward 0 4094)
    ∷ turned Done (ToHost 1 (octets (codes "020000000002020000010101888e020000050101000501")) ∷ [])
    ∷ turned Done ([])
    ∷ turned Acked (ToHost 1 (octets (codes "020000000002020000010101888e0200000404010004")) ∷ ToClient (record { ip = (192 ∷ 0 ∷ 2 ∷ 31 ∷ []); port = 4000 }) (octets (codes "297e0026c2e5fe15fe0e01a77fe5abcaa401dc805012482605466b64a0de007521032eba"
    ++ codes "1eed")) ∷ [])
    ∷ turned Done (ToHost 9 (octets (codes "020000000001020000010109888e020000050101000501")) ∷ [])
    ∷ decided (Drop Unauthorised)
    ∷ turned (FrameDropped frame.EapolType) ([])
    ∷ turned Done ([])
    ∷ turned Done ([])
    ∷ turned Done ([])
    ∷ turned Done ([])
    ∷ turned Done ([])
    ∷ decided (Drop Runt)
    ∷ decided (Drop Unauthorised)
    ∷ turned Done (ToServer 0 (octets (codes "010000a576b8e0ada0f13d90405d6ae55386bd28501267244a72f2114a25c28a4af8516c"
    ++ codes "402c01056576650406c00002800506000000090606000000020c06000005d81e1330322d"
    ++ codes "30302d30302d30312d30312d30391f1330322d30302d30302d30302d30302d303120226e"
    ++ codes "6e6e6e6e6e6e6e6e6e6e6e6e6e6e6e6e6e6e6e6e6e6e6e6e6e6e6e6e6e6e6e3d06000000"
    ++ codes "0f2c0a30303030303030324f0a0201000801657665")) ∷ [])
    ∷ decided (Drop Unauthorised)
    ∷ turned Done ([])
    ∷ turned Done ([])
    ∷ turned Done (ToHost 9 (octets (codes "020000000005020000010109888e020000050101000501")) ∷ [])
    ∷ turned (AnswerDropped answer.Oversize) ([])
    ∷ turned Done ([])
    ∷ turned (AnswerDropped answer.NoRequest) ([])
    ∷ turned (AnswerDropped answer.BadMessageAuth) ([])
    ∷ turned Done ([])
    ∷ turned Done ([])
    ∷ []
unfolding settled pieces request_octets next_name packet_of attributes_of run_within first_attribute authenticator u32_at
    block_word double_rounds column_round diagonal_round quarter_round md5 digest_bytes hash_after compress rounds block_words
trace_90 = refl

abbrev settings_9 : Config
settings_9 = record empty {
  server = record { ip = (192 ∷ 0 ∷ 2 ∷ 20 ∷ []); port = 1812 };
  secret = (171 ∷ 171 ∷ 171 ∷ 171 ∷ 171 ∷ 171 ∷ 171 ∷ 171 ∷ 171 ∷ 171 ∷ 171 ∷ 171 ∷ 171 ∷ 171 ∷ 171 ∷ 171 ∷ 171 ∷ 171 ∷ 171 ∷ 171 ∷ 171 ∷ 171 ∷ 171 ∷ 171 ∷ 171 ∷ 171 ∷ 171 ∷ 171 ∷ 171 ∷ 171 ∷ 171 ∷ 171 ∷ 171 ∷ 171 ∷ 171 ∷ 171 ∷ 171 ∷ 171 ∷ 171 ∷ 171 ∷ 171 ∷ 171 ∷ 171 ∷ 171 ∷ 171 ∷ 171 ∷ 171 ∷ 171 ∷ 171 ∷ 171 ∷ 171 ∷ 171 ∷ 171 ∷ 171 ∷ 171 ∷ 171 ∷ 171 ∷ 171 ∷ 171 ∷ 171 ∷ 171 ∷ 171 ∷ 171 ∷ 171 ∷ []);
  bridge = (170 ∷ 187 ∷ 204 ∷ 221 ∷ 238 ∷ 0 ∷ []);
  window = 86400;
  guest_wait = 1;
  clients = record { ip = (192 ∷ 0 ∷ 2 ∷ 30 ∷ []); secret = (205 ∷ 205 ∷ 205 ∷ 205 ∷ 205 ∷ 205 ∷ 205 ∷ 205 ∷ 205 ∷ 205 ∷ 205 ∷ 205 ∷ 205 ∷ 205 ∷ 205 ∷ 205 ∷ 205 ∷ 205 ∷ 205 ∷ 205 ∷ 205 ∷ 205 ∷ 205 ∷ 205 ∷ 205 ∷ 205 ∷ 205 ∷ 205 ∷ 205 ∷ 205 ∷ 205 ∷ 205 ∷ 205 ∷ 205 ∷ 205 ∷ 205 ∷ 205 ∷ 205 ∷ 205 ∷ 205 ∷ 205 ∷ 205 ∷ 205 ∷ 205 ∷ 205 ∷ 205 ∷ 205 ∷ 205 ∷ 205 ∷ 205 ∷ 205 ∷ 205 ∷ 205 ∷ 205 ∷ 205 ∷ 205 ∷ 205 ∷ 205 ∷ 205 ∷ 205 ∷ 205 ∷ 205 ∷ 205 ∷ 205 ∷ []) } ∷ [];
  ports =
      record { port = 1; native = 10; control = ForceUnauth; restricted = 0; guest = 0 }
      ∷ record { port = 7; native = 20; control = Auto; restricted = 99; guest = 1 }
      ∷ [];
  times = record { quiet = 1; server = 20; reauth_max = 1; reauth_period = 4294967295; reauth = true };
}

-- a random trace of another program
trace_101 : told (opening settings_9)
    (control (Link 7 true)
    ∷ control (Dynamic (record { ip = (192 ∷ 0 ∷ 2 ∷ 30 ∷ []); port = 0 }) (octets (codes "2bfc003ca504b0b67233a54f31603b422299acd001086e6f626f64791d06000000021b06"
    ++ codes "0000000104025012ed7b125d73765b5cf2ced8a86fd7e87d")))
    ∷ control (Second)
    ∷ control (Second)
    ∷ control (Second)
    ∷ control (Second)
    ∷ control (Second)
    ∷ control (Second)
    ∷ control (Second)
    ∷ control (Second)
    ∷ control (Second)
    ∷ control (Second)
    ∷ control (Second)
    ∷ control (Second)
    ∷ control (Second)
    ∷ control (Second)
    ∷ control (Second)
    ∷ control (Second)
    ∷ control (Second)
    ∷ control (Second)
    ∷ control (Second)
    ∷ control (Second)
    ∷ control (Second)
    ∷ control (Second)
    ∷ control (Second)
    ∷ control (Second)
    ∷ control (Second)
    ∷ control (Second)
    ∷ control (Second)
    ∷ control (Second)
    ∷ [])
    ≡ turned Done (ToHost 7 (octets (codes "0180c2000003aabbccddee07888e020000050100000501")) ∷ [])
    ∷ turned (Naked 403) (ToClient (record { ip = (192 ∷ 0 ∷ 2 ∷ 30 ∷ []); port = 0 }) (octets (codes "2dfc002c73fbc597a49d1ee519841ded18f4aea95012a369c9e98024e618566eff87db16"
    ++ codes "24ae650600000193")) ∷ [])
    ∷ turned Done ([])
    ∷ turned Done ([])
    ∷ turned Done ([])
    ∷ turned Done ([])
    ∷ turned Done ([])
    ∷ turned Done ([])
    ∷ turned Done ([])
    ∷ turned Done ([])
    ∷ turned Done ([])
    ∷ turned Done ([])
    ∷ turned Done ([])
    ∷ turned Done ([])
    ∷ turned Done ([])
    ∷ turned Done ([])
    ∷ turned Done ([])
    ∷ turned Done ([])
    ∷ turned Done ([])
    ∷ turned Done ([])
    ∷ turned Done ([])
    ∷ turned Done ([])
    ∷ turned Done ([])
    ∷ turned Done ([])
    ∷ turned Done ([])
    ∷ turned Done ([])
    ∷ turned Done ([])
    ∷ turned Done ([])
    ∷ turned Done ([])
    ∷ turned Done ([])
    ∷ []
unfolding settled pieces request_octets next_name packet_of attributes_of run_within first_attribute authenticator u32_at
    block_word double_rounds column_round diagonal_round quarter_round md5 digest_bytes hash_after compress rounds block_words
trace_101 = refl

abbrev settings_10 : Config
settings_10 = record empty {
  server = record { ip = (192 ∷ 0 ∷ 2 ∷ 20 ∷ []); port = 1812 };
  secret = (0 ∷ []);
  seed = (124 ∷ 153 ∷ 187 ∷ 230 ∷ 200 ∷ 3 ∷ 168 ∷ 218 ∷ 13 ∷ 30 ∷ 180 ∷ 135 ∷ 48 ∷ 234 ∷ 137 ∷ 168 ∷ 65 ∷ 13 ∷ 188 ∷ 61 ∷ 36 ∷ 19 ∷ 57 ∷ 12 ∷ 140 ∷ 254 ∷ 180 ∷ 183 ∷ 23 ∷ 84 ∷ 50 ∷ 73 ∷ []);
  bridge = (2 ∷ 0 ∷ 0 ∷ 1 ∷ 1 ∷ 255 ∷ []);
  clients = record { ip = (192 ∷ 0 ∷ 2 ∷ 31 ∷ []); secret = (100 ∷ 121 ∷ 110 ∷ []) } ∷ record { ip = (192 ∷ 0 ∷ 2 ∷ 30 ∷ []); secret = (0 ∷ []) } ∷ [];
  ports =
      record { port = 9; native = 10; control = Auto; restricted = 0; guest = 0 }
      ∷ [];
  times = record { quiet = 2; server = 15; reauth_max = 10; reauth_period = 3600; reauth = true };
}

-- a random trace of another program
trace_117 : told (opening settings_10)
    (control (Frame 9 (octets (codes "0180c2000003020000000010888e01010000")))
    ∷ data_ 9 (octets (codes "0200000fffff02000000001386ddab"))
    ∷ control (Frame 9 (octets (codes "0180c200000302000000000b888e01010000")))
    ∷ control (Second)
    ∷ control (Frame 9 (octets (codes "0180c2000003020000000001888e01010000")))
    ∷ data_ 9 (octets (codes "ffffffffffff0200000000030800abababababababababababababababababababababab"
    ++ codes "abababababababababababababababababababababababababababababababababababab"
    ++ codes "abababababababababababababababababababababababababababababababababababab"
    ++ codes "abababababab"))
    ∷ control (Frame 9 (octets (codes "0180c200000302000000000a888e010000050001000501")))
    ∷ control (Frame 9 (octets (codes "0180c200000302000000000a888e01010000")))
    ∷ control (Second)
    ∷ control (Second)
    ∷ control (Second)
    ∷ control (Second)
    ∷ control (Second)
    ∷ control (Dynamic (record { ip = (192 ∷ 0 ∷ 2 ∷ 31 ∷ []); port = 4000 }) (octets (codes "28e0003430ad39402fd965ea4d791920861f02835012beede46f71ee1e3f002445615de5"
    ++ codes "632220057377312c03310406c000020a")))
    ∷ data_ 9 (octets (codes "ffffffffffff02000000000b86ddabababababababababababababababababababababab"
    ++ codes "abababababababababababababababababababababababab"))
    ∷ data_ 9 (octets (codes "ffffffffffff0200000000100800ab"))
    ∷ control (Second)
    ∷ control (Second)
    ∷ control (Second)
    ∷ control (Second)
    ∷ control (Second)
    ∷ control (Second)
    ∷ control (Second)
    ∷ control (Second)
    ∷ control (Second)
    ∷ control (Second)
    ∷ control (Radius 0 (octets (codes "6f")))
    ∷ control (Dynamic (record { ip = (192 ∷ 0 ∷ 2 ∷ 30 ∷ []); port = 0 }) (octets (codes "282200281e523f7480210fc415de32538357204e01025012d36c23d5d32de112fd07c551"
    ++ codes "5337e13d")))
    ∷ control (Dynamic (record { ip = (192 ∷ 0 ∷ 2 ∷ 30 ∷ []); port = 0 }) (octets (codes "282200281e523f7480210fc415de32538357204e01025012d36c23d5d32de112fd07c551"
    ++ codes "5337e13d")))
    ∷ control (Second)
    ∷ [])
    ≡ turned (FrameDropped frame.Down) ([])
    ∷ decided (Drop Down)
    ∷ turned (FrameDropped frame.Down) ([])
    ∷ turned Done ([])
    ∷ turned (FrameDropped frame.Down) ([])
    ∷ decided (Drop Down)
    ∷ turned (FrameDropped frame.Down) ([])
    ∷ turned (FrameDropped frame.Down) ([])
    ∷ turned Done ([])
    ∷ turned Done ([])
    ∷ turned Done ([])
    ∷ turned Done ([])
    ∷ turned Done ([])
    ∷ turned (Naked 503) (ToClient (record { ip = (192 ∷ 0 ∷ 2 ∷ 31 ∷ []); port = 4000 }) (octets (codes "2ae0002c3535577cb00407fb4af2cdb2097f519150123d7e4d434d6ad2ce64c86bc9ad01"
    ++ codes "8add6506000001f7")) ∷ [])
    ∷ decided (Drop Down)
    ∷ decided (Drop Down)
    ∷ turned Done ([])
    ∷ turned Done ([])
    ∷ turned Done ([])
    ∷ turned Done ([])
    ∷ turned Done ([])
    ∷ turned Done ([])
    ∷ turned Done ([])
    ∷ turned Done ([])
    ∷ turned Done ([])
    ∷ turned Done ([])
    ∷ turned (AnswerDropped answer.Malformed) ([])
    ∷ turned (Naked 503) (ToClient (record { ip = (192 ∷ 0 ∷ 2 ∷ 30 ∷ []); port = 0 }) (octets (codes "2a22002c1bbae8a205e3eb33d547179ced89f6c45012e2f4190a19f9518bd06796018089"
    ++ codes "6b8d6506000001f7")) ∷ [])
    ∷ turned Again (ToClient (record { ip = (192 ∷ 0 ∷ 2 ∷ 30 ∷ []); port = 0 }) (octets (codes "2a22002c1bbae8a205e3eb33d547179ced89f6c45012e2f4190a19f9518bd06796018089"
    ++ codes "6b8d6506000001f7")) ∷ [])
    ∷ turned Done ([])
    ∷ []
unfolding settled pieces request_octets next_name packet_of attributes_of run_within first_attribute authenticator u32_at
    block_word double_rounds column_round diagonal_round quarter_round md5 digest_bytes hash_after compress rounds block_words
trace_117 = refl

abbrev settings_11 : Config
settings_11 = record empty {
  server = record { ip = (192 ∷ 0 ∷ 2 ∷ 20 ∷ []); port = 1812 };
  secret = (171 ∷ 171 ∷ 171 ∷ 171 ∷ 171 ∷ 171 ∷ 171 ∷ 171 ∷ 171 ∷ 171 ∷ 171 ∷ 171 ∷ 171 ∷ 171 ∷ 171 ∷ 171 ∷ 171 ∷ 171 ∷ 171 ∷ 171 ∷ 171 ∷ 171 ∷ 171 ∷ 171 ∷ 171 ∷ 171 ∷ 171 ∷ 171 ∷ 171 ∷ 171 ∷ 171 ∷ 171 ∷ 171 ∷ 171 ∷ 171 ∷ 171 ∷ 171 ∷ 171 ∷ 171 ∷ 171 ∷ 171 ∷ 171 ∷ 171 ∷ 171 ∷ 171 ∷ 171 ∷ 171 ∷ 171 ∷ 171 ∷ 171 ∷ 171 ∷ 171 ∷ 171 ∷ 171 ∷ 171 ∷ 171 ∷ 171 ∷ 171 ∷ 171 ∷ 171 ∷ 171 ∷ 171 ∷ 171 ∷ 171 ∷ []);
  nas = record { ip = (192 ∷ 0 ∷ 2 ∷ 50 ∷ []); name = codes "nnnnnnnnnnnnnnnnnnnnnnnnnnnnnnnn" };
  guest_wait = 30;
  clients = record { ip = (192 ∷ 0 ∷ 2 ∷ 31 ∷ []); secret = (100 ∷ 121 ∷ 110 ∷ []) } ∷ record { ip = (192 ∷ 0 ∷ 2 ∷ 30 ∷ []); secret = (0 ∷ []) } ∷ [];
  ports =
      record { port = 3; native = 20; control = ForceAuth; restricted = 99; guest = 0 }
      ∷ record { port = 2; native = 4094; control = Auto; restricted = 99; guest = 1 }
      ∷ record { port = 7; native = 4094; control = Auto; restricted = 0; guest = 77 }
      ∷ record { port = 60; native = 20; control = ForceUnauth; restricted = 0; guest = 77 }
      ∷ [];
  times = record { quiet = 1; server = 15; reauth_max = 2; reauth_period = 9; reauth = true };
}

-- a random trace of another program
trace_131 : told (opening settings_11)
    (control (Link 3 true)
    ∷ control (Link 7 true)
    ∷ control (Link 60 true)
    ∷ data_ 7 (octets (codes "0200000fffff0200000000010800abababababababababababababababababababababab"
    ++ codes "abababababababababababababababababababababababababababababababababababab"
    ++ codes "abababababababababababababababababababababababababababababababababababab"
    ++ codes "abababababab"))
    ∷ data_ 60 (octets (codes "ffffffffffff0200000000040800"))
    ∷ data_ 2 (octets (codes "ffffffffffff02000000000688cc"))
    ∷ control (Second)
    ∷ control (Frame 2 (octets (codes "0180c2000003020000000003888e")))
    ∷ control (Second)
    ∷ control (Frame 7 (octets (codes "0180c2000003020000000003888e01010000")))
    ∷ control (Second)
    ∷ control (Second)
    ∷ control (Second)
    ∷ control (Second)
    ∷ control (Second)
    ∷ data_ 7 (octets (codes "ffffffffffff02000000000388ccab"))
    ∷ data_ 7 (octets (codes "ffffffffffff02000000000388ccabababababababababababababababababababababab"
    ++ codes "abababababababababababababababababababababababababababababababababababab"
    ++ codes "abababababababababababababababababababababababababababababababababababab"
    ++ codes "abababababab"))
    ∷ control (Frame 7 (octets (codes "020000010107020000000003888e0100000a0201000a017573657231")))
    ∷ control (Second)
    ∷ control (Radius 0 (octets (codes "0b00003f4d13f1a2e1c0b4560c0e167b283d72e75012c6a5eeafe90aa144c368c7e64aff"
    ++ codes "e76e4f190102001704e20923eae83e5f9da22d96ec669332aa640d")))
    ∷ control (Dynamic (record { ip = (192 ∷ 0 ∷ 2 ∷ 31 ∷ []); port = 4000 }) (octets (codes "2b8400677fed4cc08037fbb5acb7cf942682be9320226e6e6e6e6e6e6e6e6e6e6e6e6e6e"
    ++ codes "6e6e6e6e6e6e6e6e6e6e6e6e6e6e6e6e6e6e1f1330322d30302d30302d30302d30302d30"
    ++ codes "3319067465787440060000000d50128878e639a38e94b9a0a30e719eb36cfe")))
    ∷ control (Frame 7 (octets (codes "0180c2000003020000000003888e000000080202000801626f62")))
    ∷ data_ 7 (octets (codes "0200000fffff0200000000030800abababababababababababababababababababababab"
    ++ codes "abababababababababababababababababababababababababababababababababababab"
    ++ codes "abababababababababababababababababababababababababababababababababababab"
    ++ codes "abababababab"))
    ∷ control (Second)
    ∷ control (Second)
    ∷ control (Second)
    ∷ control (Dynamic (record { ip = (192 ∷ 0 ∷ 2 ∷ 30 ∷ []); port = 65535 }) (octets (codes "2bf500788ad0df1ca2977bf0f4ad2af1e3ed7e4a5103311b0600000e101f0a6e6f6e7365"
    ++ codes "6e73650105626f621f1330323a30303a30303a30303a30303a30331d0600000000510378"
    ++ codes "41060000000640060000000d40060000000d0406c00002324106000000065012233c19b2"
    ++ codes "bf41086b8989fa30b35e4892")))
    ∷ control (Frame 7 (octets (codes "0180c2000003020000000003888e02000008020200080dc4450d")))
    ∷ control (Frame 7 (octets (codes "0180c2000003020000000003888e020000050201000504")))
    ∷ data_ 7 (octets (codes "ffffffffffff02000000000388ccab"))
    ∷ [])
    ≡ turned Done (ToHost 3 (octets (codes "0180c2000003020000010103888e0200000403000004")) ∷ [])
    ∷ turned Done (ToHost 7 (octets (codes "0180c2000003020000010107888e020000050100000501")) ∷ [])
    ∷ turned Done (ToHost 60 (octets (codes "0180c200000302000001013c888e0200000404000004")) ∷ [])
    ∷ decided (Drop Unauthorised)
    ∷ decided (Drop Closed)
    ∷ decided (Drop Down)
    ∷ turned Done ([])
    ∷ turned (FrameDropped frame.Down) ([])
    ∷ turned Done ([])
    ∷ turned Done (ToHost 7 (octets (codes "020000000003020000010107888e020000050101000501")) ∷ [])
    ∷ turned Done ([])
    ∷ turned Done ([])
    ∷ turned Done ([])
    ∷ turned Done ([])
    ∷ turned Done ([])
    ∷ decided (Drop Unauthorised)
    ∷ decided (Drop Unauthorised)
    ∷ turned Done (ToServer 0 (octets (codes "010000a976b8e0ada0f13d90405d6ae55386bd2850129511095c6fdb90618f7af7c924cf"
    ++ codes "3c93010775736572310406c00002320506000000070606000000020c06000005d81e1330"
    ++ codes "322d30302d30302d30312d30312d30371f1330322d30302d30302d30302d30302d303320"
    ++ codes "226e6e6e6e6e6e6e6e6e6e6e6e6e6e6e6e6e6e6e6e6e6e6e6e6e6e6e6e6e6e6e6e3d0600"
    ++ codes "00000f2c0a30303030303030314f0c0201000a017573657231")) ∷ [])
    ∷ turned Done ([])
    ∷ turned Done (ToHost 7 (octets (codes "020000000003020000010107888e020000170102001704e20923eae83e5f9da22d96ec66"
    ++ codes "9332aa640d")) ∷ [])
    ∷ turned (Naked 402) (ToClient (record { ip = (192 ∷ 0 ∷ 2 ∷ 31 ∷ []); port = 4000 }) (octets (codes "2d84002cad588646c61546e2920d89fa56456fbe50128272c84d9c451445079a359c4d13"
    ++ codes "ca22650600000192")) ∷ [])
    ∷ turned Done (ToServer 0 (octets (codes "010100a5bdd219b8a08ded1aa836efcc8b770dc750123ce29c5506e8498a02671db35bf1"
    ++ codes "627a0105626f620406c00002320506000000070606000000020c06000005d81e1330322d"
    ++ codes "30302d30302d30312d30312d30371f1330322d30302d30302d30302d30302d303320226e"
    ++ codes "6e6e6e6e6e6e6e6e6e6e6e6e6e6e6e6e6e6e6e6e6e6e6e6e6e6e6e6e6e6e6e3d06000000"
    ++ codes "0f2c0a30303030303030314f0a0202000801626f62")) ∷ [])
    ∷ decided (Drop Unauthorised)
    ∷ turned Done ([])
    ∷ turned Done ([])
    ∷ turned Done ([])
    ∷ turned (Naked 407) (ToClient (record { ip = (192 ∷ 0 ∷ 2 ∷ 30 ∷ []); port = 65535 }) (octets (codes "2df5002c367a467bc0f89c663348958328c8c7fb5012eb5ee1440b3f7d871ec452c6bdbd"
    ++ codes "c704650600000197")) ∷ [])
    ∷ turned Done ([])
    ∷ turned Done ([])
    ∷ decided (Drop Unauthorised)
    ∷ []
unfolding settled pieces request_octets next_name packet_of attributes_of run_within first_attribute authenticator u32_at
    block_word double_rounds column_round diagonal_round quarter_round md5 digest_bytes hash_after compress rounds block_words
trace_131 = refl

abbrev settings_12 : Config
settings_12 = record empty {
  clock = 0;
  server = record { ip = (192 ∷ 0 ∷ 2 ∷ 20 ∷ []); port = 1812 };
  secret = (171 ∷ 171 ∷ 171 ∷ 171 ∷ 171 ∷ 171 ∷ 171 ∷ 171 ∷ 171 ∷ 171 ∷ 171 ∷ 171 ∷ 171 ∷ 171 ∷ 171 ∷ 171 ∷ 171 ∷ 171 ∷ 171 ∷ 171 ∷ 171 ∷ 171 ∷ 171 ∷ 171 ∷ 171 ∷ 171 ∷ 171 ∷ 171 ∷ 171 ∷ 171 ∷ 171 ∷ 171 ∷ 171 ∷ 171 ∷ 171 ∷ 171 ∷ 171 ∷ 171 ∷ 171 ∷ 171 ∷ 171 ∷ 171 ∷ 171 ∷ 171 ∷ 171 ∷ 171 ∷ 171 ∷ 171 ∷ 171 ∷ 171 ∷ 171 ∷ 171 ∷ 171 ∷ 171 ∷ 171 ∷ 171 ∷ 171 ∷ 171 ∷ 171 ∷ 171 ∷ 171 ∷ 171 ∷ 171 ∷ 171 ∷ []);
  clients = [];
  ports =
      record { port = 60; native = 1; control = Auto; restricted = 0; guest = 0 }
      ∷ [];
  times = record { quiet = 5; server = 15; reauth_max = 2; reauth_period = 1; reauth = false };
}

-- a random trace of another program
trace_152 : told (opening settings_12)
    (control (Link 60 true)
    ∷ control (Second)
    ∷ control (Second)
    ∷ control (Second)
    ∷ control (Second)
    ∷ control (Second)
    ∷ data_ 60 (octets (codes "ffffffffffff02000000000486ddab"))
    ∷ control (Frame 60 (octets (codes "0180c2000003020000000003888e01010000")))
    ∷ control (Frame 60 (octets (codes "0180c2000003020000000004888e01010000")))
    ∷ control (Frame 60 (octets (codes "0180c2000003020000000001888e0100000802010008")))
    ∷ control (Second)
    ∷ control (Second)
    ∷ control (Second)
    ∷ control (Dynamic (record { ip = (10 ∷ 0 ∷ 0 ∷ 1 ∷ []); port = 2242 }) (octets (codes "2801002699060173b46895962ecffc4bc3864cda5012250cdc3d4fd66eab4bb0ba6076be"
    ++ codes "a5f1")))
    ∷ control (Frame 60 (octets (codes "0180c2000003020000000004888e0000000a0201000a017573657232")))
    ∷ control (Frame 60 (octets (codes "0180c2000003020000000004888e010000080201000801626f62")))
    ∷ control (Radius 0 (octets (codes "020000332cc50e7653eba00df6fb538187536a3c40060000000d4f060301000451063430"
    ++ codes "3934410600000006210768656c6c6f")))
    ∷ data_ 60 (octets (codes "ffffffffffff02000000000388ccabababababababababababababababababababababab"
    ++ codes "abababababababababababababababababababababababababababababababababababab"
    ++ codes "abababababababababababababababababababababababababababababababababababab"
    ++ codes "abababababab"))
    ∷ control (Frame 60 (octets (codes "0180c2000003020000000003888e01000000")))
    ∷ control (Frame 60 (octets (codes "0180c2000003020000000004888e020000080201000801626f62")))
    ∷ control (Dynamic (record { ip = (10 ∷ 0 ∷ 0 ∷ 1 ∷ []); port = 12874 }) (octets (codes "2801002699060173b46895962ecffc4bc3864cda5012250cdc3d4fd66eab4bb0ba6076be"
    ++ codes "a5f1")))
    ∷ control (Frame 60 (octets (codes "0180c2000003020000000002888e01010000")))
    ∷ control (Dynamic (record { ip = (10 ∷ 0 ∷ 0 ∷ 1 ∷ []); port = 5277 }) (octets (codes "2801002699060173b46895962ecffc4bc3864cda5012250cdc3d4fd66eab4bb0ba6076be"
    ++ codes "a5f1")))
    ∷ control (Radius 0 (octets (codes "02000157c783b6e9f3428fd50819c23f4388138118ff8e1b3389a07ff2fbefd03b86e5c0"
    ++ codes "3e4b037eed95d0fd5b93309836a115fb3c35d9f81e4858ad805e81568f1b166144d4997b"
    ++ codes "32fa75428a27f7662936e4c76833946b7a604c2c0c233bd99c736eec190e3a02e0348e09"
    ++ codes "88a3cf148897da06daa695c3291919c5d03a0872aa5490f585a297ba1206a780cb25a931"
    ++ codes "9c73b993e0ecb603ff36c7448b72899a8448e2ab7aba539a782f3da38cdac688b36d1cc6"
    ++ codes "dc569060eaf13e0bfa7127d869d1b7d56c03fccbd0087f539cc0ff5d5153e60e859943cc"
    ++ codes "6035649cc35bbde0777c6cc381189c48310aa9e7144d64542efe996b1c9d3d8b425d6f99"
    ++ codes "6f0711014c61ff1e206bad6b715377a4f003fe4636408551063430393441060000000619"
    ++ codes "0768656c6c6f41060000000640060000000d510534322040060000000d4f080201000601"
    ++ codes "785012cf8b80d6db45f98ad528e3d80e5171ca")))
    ∷ data_ 60 (octets (codes "ffffffffffff02000000000388cc"))
    ∷ control (Frame 60 (octets (codes "0180c2000003020000000002888e000000080201000801626f62")))
    ∷ control (Dynamic (record { ip = (10 ∷ 0 ∷ 0 ∷ 1 ∷ []); port = 59663 }) (octets (codes "2801002699060173b46895962ecffc4bc3864cda5012250cdc3d4fd66eab4bb0ba6076be"
    ++ codes "a5f1")))
    ∷ data_ 60 (octets (codes "ffffffffffff02000000000486ddabababababababababababababababababababababab"
    ++ codes "abababababababababababababababababababababababab"))
    ∷ control (Second)
    ∷ control (Second)
    ∷ [])
    ≡ turned Done (ToHost 60 (octets (codes "0180c200000302000001013c888e020000050100000501")) ∷ [])
    ∷ turned Done ([])
    ∷ turned Done ([])
    ∷ turned Done ([])
    ∷ turned Done ([])
    ∷ turned Done ([])
    ∷ decided (Drop Unauthorised)
    ∷ turned Done (ToHost 60 (octets (codes "02000000000302000001013c888e020000050101000501")) ∷ [])
    ∷ turned Done (ToHost 60 (octets (codes "02000000000402000001013c888e020000050101000501")) ∷ [])
    ∷ turned (FrameDropped frame.BodyShort) ([])
    ∷ turned Done ([])
    ∷ turned Done ([])
    ∷ turned Done ([])
    ∷ turned (RequestDropped request.Stranger) ([])
    ∷ turned Done (ToServer 0 (octets (codes "0100008c76b8e0ada0f13d90405d6ae55386bd2850127e840a55e5ca7587c5707847cd60"
    ++ codes "092b010775736572320406c000020a05060000003c0606000000020c06000005d81e1330"
    ++ codes "322d30302d30302d30312d30312d33431f1330322d30302d30302d30302d30302d303420"
    ++ codes "057377313d060000000f2c0a30303030303030324f0c0201000a017573657232")) ∷ [])
    ∷ turned Done ([])
    ∷ turned (AnswerDropped answer.BadMessageAuth) ([])
    ∷ decided (Drop Unauthorised)
    ∷ turned (FrameDropped frame.EapShort) ([])
    ∷ turned Done ([])
    ∷ turned (RequestDropped request.Stranger) ([])
    ∷ turned Done (ToHost 60 (octets (codes "02000000000202000001013c888e020000050101000501")) ∷ [])
    ∷ turned (RequestDropped request.Stranger) ([])
    ∷ turned (AnswerDropped answer.BadEap) ([])
    ∷ decided (Drop Unauthorised)
    ∷ turned Done (ToServer 0 (octets (codes "01010088bdd219b8a08ded1aa836efcc8b770dc75012c8074cda8b26017148f74cb6ed90"
    ++ codes "2f390105626f620406c000020a05060000003c0606000000020c06000005d81e1330322d"
    ++ codes "30302d30302d30312d30312d33431f1330322d30302d30302d30302d30302d3032200573"
    ++ codes "77313d060000000f2c0a30303030303030334f0a0201000801626f62")) ∷ [])
    ∷ turned (RequestDropped request.Stranger) ([])
    ∷ decided (Drop Unauthorised)
    ∷ turned Done ([])
    ∷ turned Done ([])
    ∷ []
unfolding settled pieces request_octets next_name packet_of attributes_of run_within first_attribute authenticator u32_at
    block_word double_rounds column_round diagonal_round quarter_round md5 digest_bytes hash_after compress rounds block_words
trace_152 = refl

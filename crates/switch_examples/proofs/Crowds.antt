-- Worked examples: many seconds, and many hosts.
use Rattle.std.proofs.Common.{◌≡◌, ℕ, ◌+◌, ◌/◌, ◌%◌, refl, ap, ◌∙◌, List, [], ◌∷◌, ◌++◌, codes, map, replicate, true, None, Some}
use Rattle.std.specs.List.{range_with_len}
use Rattle.md5.specs.Md5.{md5, digest_bytes, hash_after, compress, rounds, block_words}
use Rattle.rand_core.specs.Steps.{u32_at}
use Rattle.rand_chacha.specs.Block.{block_word, double_rounds, column_round, diagonal_round, quarter_round}
use Rattle.wire_core.specs.declared.address.Addr.{Addr}
use Rattle.radius_defs.specs.Reading.{attributes_of, run_within, first_attribute}
use Rattle.radius_defs.specs.Parsed.{packet_of}
use Rattle.settle_defs.specs.Settle.{settled}
use Rattle.aaa_defs.specs.Request.{Ask, pieces, request_octets, authenticator}
use Rattle.aaa_defs.specs.Waits.{Pending, next_name, socket_of, identifier_of}
use Rattle.machine_vars.specs.declared.control.Control.TheVariants.{Auto}
use Rattle.switch_event.specs.Config.{Config, empty}
use Rattle.switch_event.specs.Event.{Happening, Frame, Radius, Dynamic, Second, Link}
use Rattle.switch_event.specs.declared.event.Outcome.TheVariants.{Done, Acked, Again}
use Rattle.switch_event.specs.declared.decision.Decision.TheVariants.{Forward}
use Rattle.switch_event.specs.Sent.{Sent, ToHost, ToServer, ToClient}
use Rattle.switch_defs.specs.Switch.{State, opening}
use Rattle.switch_defs.specs.Turn.{turn}
use Rattle.switch_examples.specs.Told.{Said, Step, control, data_, turned, decided, told, octets}

abbrev settings : Config
settings = record empty {
  nas = record { ip = (192 ∷ 0 ∷ 2 ∷ 10 ∷ []); name = codes "sw1" };
  server = record { ip = (192 ∷ 0 ∷ 2 ∷ 20 ∷ []); port = 1812 };
  secret = codes "secret";
  clients = record { ip = (192 ∷ 0 ∷ 2 ∷ 30 ∷ []); secret = codes "dyn" } ∷ [];
  ports = record { port = 1; native = 10; control = Auto; restricted = 0; guest = 0 } ∷ [];
}

abbrev client : Addr
client = record { ip = (192 ∷ 0 ∷ 2 ∷ 30 ∷ []); port = 4000 }

-- ---- one host

-- a link comes up, a host starts and gives its identity, and the server lets it in
abbrev login : List Step
login =
    control (Link 1 true)
    ∷ control (Frame 1 (octets (codes "0180c20000030200000000aa888e01010000")))
    ∷ control (Frame 1 (octets (codes "0180c20000030200000000aa888e010000080201000801626f62")))
    ∷ control (Radius 0 (octets (codes "0200003ce5d68680a348b38a9bbe4bd35a38d16b40060000000d41060000000651043432"
    ++ codes "4f0603010004501218113a025d7445666e90b6f6742b3cbf")))
    ∷ []

abbrev data_frame : Step
data_frame = data_ 1 (octets (codes "ffffffffffff0200000000aa08004500"))

abbrev login_said : List Said
login_said =
    turned Done (ToHost 1 (octets (codes "0180c2000003020000010101888e020000050100000501")) ∷ [])
    ∷ turned Done (ToHost 1 (octets (codes "0200000000aa020000010101888e020000050101000501")) ∷ [])
    ∷ turned Done (ToServer 0 (octets (codes "0100008876b8e0ada0f13d90405d6ae55386bd28501253e57ffb03b625516082c42d3083"
    ++ codes "40f70105626f620406c000020a0506000000010606000000020c06000005d81e1330322d"
    ++ codes "30302d30302d30312d30312d30311f1330322d30302d30302d30302d30302d4141200573"
    ++ codes "77313d060000000f2c0a30303030303030314f0a0201000801626f62")) ∷ [])
    ∷ turned Done (ToHost 1 (octets (codes "0200000000aa020000010101888e0200000403010004")) ∷ [])
    ∷ []

-- the host is told that it is let go
abbrev let_go : Sent
let_go = ToHost 1 (octets (codes "0200000000aa020000010101888e0200000404010004"))

abbrev disconnect : Step
disconnect = control (Dynamic client (octets (codes "28070030c583563ad757fdb73bd83dd161f9bf395012cd88b8a89b1d4ed8fa71a2d0624f"
    ++ codes "f5de2c0a3030303030303031")))

abbrev disconnected : Sent
disconnected = ToClient client (octets (codes "29070026179790a8866af0b528ebc7c3233b45045012740630574bd8153dc47a4c4aa1fd"
    ++ codes "88e5"))

-- the same Disconnect once more in the same second is answered as before
a_disconnect_at_once_again : told (opening settings) (login ++ disconnect ∷ disconnect ∷ [])
    ≡ login_said ++ turned Acked (let_go ∷ disconnected ∷ []) ∷ turned Again (disconnected ∷ []) ∷ []
unfolding settled pieces request_octets next_name packet_of attributes_of run_within first_attribute
    authenticator u32_at block_word double_rounds column_round diagonal_round quarter_round
    md5 digest_bytes hash_after compress rounds block_words
a_disconnect_at_once_again = refl

-- another VLAN, and a Session-Timeout of 600 seconds
abbrev change : Step
change = control (Dynamic client (octets (codes "2b020046555da2b089f7b861c6922fda9f4a64d9501244413bd205422b987d992b67e466"
    ++ codes "38a12c0a303030303030303140060000000d410600000006510434331b0600000258")))

abbrev changed : Sent
changed = ToClient client (octets (codes "2c0200261192954131d599ed32946094ab09a1c050129346efc29e7a9aab76381f02dbe0"
    ++ codes "3eec"))

-- in the last of 600 seconds, and not before, the host is let go
a_time_of_600_seconds : told (opening settings)
    (login ++ data_frame ∷ change ∷ data_frame ∷ replicate 600 (control Second))
    ≡ login_said ++ decided (Forward 1 42) ∷ turned Acked (changed ∷ []) ∷ decided (Forward 1 43)
    ∷ (replicate 599 (turned Done []) ++ turned Done (let_go ∷ []) ∷ [])
unfolding settled pieces request_octets next_name packet_of attributes_of run_within first_attribute
    authenticator u32_at block_word double_rounds column_round diagonal_round quarter_round
    md5 digest_bytes hash_after compress rounds block_words
a_time_of_600_seconds = refl

-- ---- many hosts

-- ports 1 to 17
abbrev many_ports : Config
many_ports = record settings {
  ports = map (λ n. record { port = n; native = 1; control = Auto; restricted = 0; guest = 0 }) (range_with_len 1 17);
}

-- sixteen hosts on each of sixteen ports, and one more
abbrev port_of : ℕ → ℕ
port_of n = 1 + n / 16

abbrev address_of : ℕ → List ℕ
address_of n = 2 ∷ 0 ∷ 0 ∷ 0 ∷ (2 + n / 256) ∷ (n % 256) ∷ []

-- an EAPOL frame of a host to its port (IEEE Std 802.1X-2004, 7.5)
abbrev eapol : ℕ → List ℕ → Happening
eapol n body = Frame (port_of n) (1 ∷ 128 ∷ 194 ∷ 0 ∷ 0 ∷ 3 ∷ [] ++ address_of n ++ 136 ∷ 142 ∷ 1 ∷ body)

abbrev start : ℕ → Happening
start n = eapol n (1 ∷ 0 ∷ 0 ∷ [])

abbrev identity : ℕ → Happening
identity n = eapol n (0 ∷ 0 ∷ 6 ∷ 2 ∷ 1 ∷ 0 ∷ 6 ∷ 1 ∷ codes "u")

abbrev after : State → List Happening → State
after s [] = s
after s (e ∷ es) = after (turn s e).state es

-- each of them has started
abbrev crowd : State
crowd =
    after (opening many_ports)
    (map (λ port. Link port true) (range_with_len 1 17) ++ map start (range_with_len 0 257))

-- a request of each but the last waits, named 0 to 255; what they say is left out here
abbrev waits_as : ℕ → Pending
waits_as n = record { session = n + 1; name = n; auth = []; age = 0; octets = [] }

abbrev asked : State
asked = record crowd {
  waits = record { requests = map waits_as (range_with_len 0 256); last = Some 255 };
  asked = 256;
}

-- what the server is asked about the last host
abbrev last_question : Ask
last_question = record {
  port = 17;
  own = 2 ∷ 0 ∷ 0 ∷ 1 ∷ 1 ∷ 17 ∷ [];
  peer = 2 ∷ 0 ∷ 0 ∷ 0 ∷ 3 ∷ 0 ∷ [];
  identity = codes "u";
  state = None;
  eap = 2 ∷ 1 ∷ 0 ∷ 6 ∷ 1 ∷ codes "u";
}

-- the request that is sent under a name
abbrev request_named : ℕ → Sent
request_named name =
    ToServer (socket_of name)
    (request_octets many_ports last_question 257 (identifier_of name) (authenticator many_ports.seed 256))

the_last_is_asked_about : (turn asked (identity 256)).sent ≡ request_named (next_name asked.waits) ∷ []
unfolding settled
the_last_is_asked_about = refl

named_256 : next_name asked.waits ≡ 256
unfolding next_name
named_256 = refl

abbrev last_octets : List ℕ
last_octets = octets (codes "010000841c6f5b28a37a1dad399f8c4f2d2cedd05012bd902b17d3b13a53ae2396a94d06"
    ++ codes "86960103750406c000020a0506000000110606000000020c06000005d81e1330322d3030"
    ++ codes "2d30302d30312d30312d31311f1330322d30302d30302d30302d30332d30302005737731"
    ++ codes "3d060000000f2c0a30303030303130314f08020100060175")

its_octets : request_named 256 ≡ ToServer 1 last_octets
unfolding pieces request_octets authenticator u32_at block_word double_rounds column_round
    diagonal_round quarter_round md5 digest_bytes hash_after compress rounds block_words
its_octets = refl

-- request 257 goes out on socket 1 with identifier 0
the_257th_request : (turn asked (identity 256)).sent ≡ ToServer 1 last_octets ∷ []
the_257th_request =
    the_last_is_asked_about ∙ ap (λ name. request_named name ∷ []) named_256
    ∙ ap (λ sent. sent ∷ []) its_octets

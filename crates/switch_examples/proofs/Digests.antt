-- Worked examples with their digests, by computation: whole turns on the octets that come and go.
use Rattle.std.proofs.Common.{◌≡◌, ℕ, refl, List, [], ◌∷◌, codes, true}
use Rattle.md5.specs.Md5.{md5, digest_bytes, hash_after, compress, rounds, block_words}
use Rattle.rand_core.specs.Steps.{u32_at}
use Rattle.rand_chacha.specs.Block.{block_word, double_rounds, column_round, diagonal_round, quarter_round}
use Rattle.radius_defs.specs.Reading.{attributes_of, run_within, first_attribute}
use Rattle.radius_defs.specs.Parsed.{packet_of}
use Rattle.settle_defs.specs.Settle.{settled}
use Rattle.aaa_defs.specs.Request.{pieces, request_octets, authenticator}
use Rattle.aaa_defs.specs.Waits.{next_name}
use Rattle.switch_event.specs.Config.{Config}
use Rattle.wire_core.specs.declared.address.Addr.{Addr}
use Rattle.switch_event.specs.Event.{Radius, Dynamic, Link}
use Rattle.switch_event.specs.declared.drop.AaaDrop.TheVariants as answer
use Rattle.switch_event.specs.declared.event.Outcome.TheVariants.{AnswerDropped}
use Rattle.switch_event.specs.declared.decision.Decision.TheVariants.{Forward}
use Rattle.switch_event.specs.Sent.{ToServer, ToClient}
use Rattle.switch_defs.specs.Switch.{State, opening}
use Rattle.switch_defs.specs.Turn.{turn}
use Rattle.switch_defs.specs.Decide.{decide}
use Rattle.switch_examples.proofs.Worked.{setting, run, a, start, bob, sent_to, data_a}

-- the server's secret is secret, and that of the client 192.0.2.30 is dyn
abbrev with_secrets : Config
with_secrets = record setting { secret = codes "secret"; clients = record { ip = 192 ∷ 0 ∷ 2 ∷ 30 ∷ []; secret = codes "dyn" } ∷ [] }

abbrev before : State
before = run (opening with_secrets) (Link 1 true ∷ start ∷ [])

abbrev request_of_bob : List ℕ
request_of_bob = 1 ∷ 0 ∷ 0 ∷ 136 ∷ 118 ∷ 184 ∷ 224 ∷ 173 ∷ 160 ∷ 241 ∷ 61 ∷ 144 ∷ 64 ∷ 93 ∷ 106 ∷ 229 ∷ 83 ∷ 134 ∷ 189 ∷ 40 ∷ 80 ∷ 18 ∷ 83 ∷ 229 ∷ 127 ∷ 251 ∷ 3 ∷ 182 ∷ 37 ∷ 81 ∷ 96 ∷ 130 ∷ 196 ∷ 45 ∷ 48 ∷ 131 ∷ 64 ∷ 247 ∷ 1 ∷ 5 ∷ 98 ∷ 111 ∷ 98 ∷ 4 ∷ 6 ∷ 192 ∷ 0 ∷ 2 ∷ 10 ∷ 5 ∷ 6 ∷ 0 ∷ 0 ∷ 0 ∷ 1 ∷ 6 ∷ 6 ∷ 0 ∷ 0 ∷ 0 ∷ 2 ∷ 12 ∷ 6 ∷ 0 ∷ 0 ∷ 5 ∷ 216 ∷ 30 ∷ 19 ∷ 48 ∷ 50 ∷ 45 ∷ 48 ∷ 48 ∷ 45 ∷ 48 ∷ 48 ∷ 45 ∷ 48 ∷ 49 ∷ 45 ∷ 48 ∷ 49 ∷ 45 ∷ 48 ∷ 49 ∷ 31 ∷ 19 ∷ 48 ∷ 50 ∷ 45 ∷ 48 ∷ 48 ∷ 45 ∷ 48 ∷ 48 ∷ 45 ∷ 48 ∷ 48 ∷ 45 ∷ 48 ∷ 48 ∷ 45 ∷ 65 ∷ 65 ∷ 32 ∷ 5 ∷ 115 ∷ 119 ∷ 49 ∷ 61 ∷ 6 ∷ 0 ∷ 0 ∷ 0 ∷ 15 ∷ 44 ∷ 10 ∷ 48 ∷ 48 ∷ 48 ∷ 48 ∷ 48 ∷ 48 ∷ 48 ∷ 49 ∷ 79 ∷ 10 ∷ 2 ∷ 1 ∷ 0 ∷ 8 ∷ 1 ∷ 98 ∷ 111 ∷ 98 ∷ []

the_request : (turn before (bob 1)).sent ≡ ToServer 0 request_of_bob ∷ []
unfolding settled pieces request_octets next_name packet_of attributes_of run_within first_attribute authenticator u32_at block_word double_rounds column_round diagonal_round quarter_round md5 digest_bytes hash_after compress rounds block_words
the_request = refl

abbrev asked : State
asked = (turn before (bob 1)).state

-- an Access-Accept with VLAN 42
abbrev accept : List ℕ
accept = 2 ∷ 0 ∷ 0 ∷ 60 ∷ 229 ∷ 214 ∷ 134 ∷ 128 ∷ 163 ∷ 72 ∷ 179 ∷ 138 ∷ 155 ∷ 190 ∷ 75 ∷ 211 ∷ 90 ∷ 56 ∷ 209 ∷ 107 ∷ 64 ∷ 6 ∷ 0 ∷ 0 ∷ 0 ∷ 13 ∷ 65 ∷ 6 ∷ 0 ∷ 0 ∷ 0 ∷ 6 ∷ 81 ∷ 4 ∷ 52 ∷ 50 ∷ 79 ∷ 6 ∷ 3 ∷ 1 ∷ 0 ∷ 4 ∷ 80 ∷ 18 ∷ 24 ∷ 17 ∷ 58 ∷ 2 ∷ 93 ∷ 116 ∷ 69 ∷ 102 ∷ 110 ∷ 144 ∷ 182 ∷ 246 ∷ 116 ∷ 43 ∷ 60 ∷ 191 ∷ []

the_accept_goes_on : (turn asked (Radius 0 accept)).sent ≡ sent_to a 1 (4 ∷ 3 ∷ 1 ∷ 0 ∷ 4 ∷ []) ∷ []
unfolding settled pieces request_octets next_name packet_of attributes_of run_within first_attribute authenticator u32_at block_word double_rounds column_round diagonal_round quarter_round md5 digest_bytes hash_after compress rounds block_words
the_accept_goes_on = refl

the_accept_authorises : decide (turn asked (Radius 0 accept)).state 1 data_a ≡ Forward 1 42
unfolding settled pieces request_octets next_name packet_of attributes_of run_within first_attribute authenticator u32_at block_word double_rounds column_round diagonal_round quarter_round md5 digest_bytes hash_after compress rounds block_words
the_accept_authorises = refl

-- nothing waits under its name at another socket, nor a second time
at_another_socket : (turn asked (Radius 1 accept)).outcome ≡ AnswerDropped answer.NoRequest
unfolding settled pieces request_octets next_name packet_of attributes_of run_within first_attribute authenticator u32_at block_word double_rounds column_round diagonal_round quarter_round md5 digest_bytes hash_after compress rounds block_words
at_another_socket = refl

a_second_time : (turn (turn asked (Radius 0 accept)).state (Radius 0 accept)).outcome ≡ AnswerDropped answer.NoRequest
unfolding settled pieces request_octets next_name packet_of attributes_of run_within first_attribute authenticator u32_at block_word double_rounds column_round diagonal_round quarter_round md5 digest_bytes hash_after compress rounds block_words
a_second_time = refl

-- one octet of the authenticator is another
with_another_authenticator : (turn asked (Radius 0 (2 ∷ 0 ∷ 0 ∷ 60 ∷ 229 ∷ 215 ∷ 134 ∷ 128 ∷ 163 ∷ 72 ∷ 179 ∷ 138 ∷ 155 ∷ 190 ∷ 75 ∷ 211 ∷ 90 ∷ 56 ∷ 209 ∷ 107 ∷ 64 ∷ 6 ∷ 0 ∷ 0 ∷ 0 ∷ 13 ∷ 65 ∷ 6 ∷ 0 ∷ 0 ∷ 0 ∷ 6 ∷ 81 ∷ 4 ∷ 52 ∷ 50 ∷ 79 ∷ 6 ∷ 3 ∷ 1 ∷ 0 ∷ 4 ∷ 80 ∷ 18 ∷ 24 ∷ 17 ∷ 58 ∷ 2 ∷ 93 ∷ 116 ∷ 69 ∷ 102 ∷ 110 ∷ 144 ∷ 182 ∷ 246 ∷ 116 ∷ 43 ∷ 60 ∷ 191 ∷ []))).outcome ≡ AnswerDropped answer.BadAuthenticator
unfolding settled pieces request_octets next_name packet_of attributes_of run_within first_attribute authenticator u32_at block_word double_rounds column_round diagonal_round quarter_round md5 digest_bytes hash_after compress rounds block_words
with_another_authenticator = refl

-- ---- a Disconnect-Request

abbrev client : Addr
client = record { ip = 192 ∷ 0 ∷ 2 ∷ 30 ∷ []; port = 4000 }

abbrev disconnect : List ℕ
disconnect = 40 ∷ 7 ∷ 0 ∷ 48 ∷ 197 ∷ 131 ∷ 86 ∷ 58 ∷ 215 ∷ 87 ∷ 253 ∷ 183 ∷ 59 ∷ 216 ∷ 61 ∷ 209 ∷ 97 ∷ 249 ∷ 191 ∷ 57 ∷ 80 ∷ 18 ∷ 205 ∷ 136 ∷ 184 ∷ 168 ∷ 155 ∷ 29 ∷ 78 ∷ 216 ∷ 250 ∷ 113 ∷ 162 ∷ 208 ∷ 98 ∷ 79 ∷ 245 ∷ 222 ∷ 44 ∷ 10 ∷ 48 ∷ 48 ∷ 48 ∷ 48 ∷ 48 ∷ 48 ∷ 48 ∷ 49 ∷ []

abbrev ack : List ℕ
ack = 41 ∷ 7 ∷ 0 ∷ 38 ∷ 23 ∷ 151 ∷ 144 ∷ 168 ∷ 134 ∷ 106 ∷ 240 ∷ 181 ∷ 40 ∷ 235 ∷ 199 ∷ 195 ∷ 35 ∷ 59 ∷ 69 ∷ 4 ∷ 80 ∷ 18 ∷ 116 ∷ 6 ∷ 48 ∷ 87 ∷ 75 ∷ 216 ∷ 21 ∷ 61 ∷ 196 ∷ 122 ∷ 76 ∷ 74 ∷ 161 ∷ 253 ∷ 136 ∷ 229 ∷ []

abbrev accepted : State
accepted = (turn asked (Radius 0 accept)).state

the_host_is_let_go : (turn accepted (Dynamic client disconnect)).sent ≡ sent_to a 1 (4 ∷ 4 ∷ 1 ∷ 0 ∷ 4 ∷ []) ∷ ToClient client ack ∷ []
unfolding settled pieces request_octets next_name packet_of attributes_of run_within first_attribute authenticator u32_at block_word double_rounds column_round diagonal_round quarter_round md5 digest_bytes hash_after compress rounds block_words
the_host_is_let_go = refl

the_same_reply_again : (turn (turn accepted (Dynamic client disconnect)).state (Dynamic client disconnect)).sent ≡ ToClient client ack ∷ []
unfolding settled pieces request_octets next_name packet_of attributes_of run_within first_attribute authenticator u32_at block_word double_rounds column_round diagonal_round quarter_round md5 digest_bytes hash_after compress rounds block_words
the_same_reply_again = refl

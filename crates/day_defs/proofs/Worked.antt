-- Worked examples, by computation: the settings are those of a trace, and records of days with few hosts are those of another program,
-- which writes them as a trace.
use Rattle.std.proofs.Common.{◌≡◌, ℕ, refl, List, [], ◌∷◌, ◌++◌, codes, drop, true}
use Rattle.std.specs.List.{flat_map}
use Rattle.std.specs.Fmt.{decimal, digits}
use Rattle.hex.proofs.OnLiterals.{hex_on_literals}
use Rattle.md5.specs.Md5.{md5, digest_bytes, hash_after, compress, rounds, block_words}
use Rattle.rand_core.specs.Steps.{u32_at}
use Rattle.rand_chacha.specs.Block.{block_word, double_rounds, column_round, diagonal_round, quarter_round}
use Rattle.radius_defs.specs.Reading.{attributes_of, run_within, first_attribute}
use Rattle.radius_defs.specs.Parsed.{packet_of}
use Rattle.settle_defs.specs.Settle.{settled}
use Rattle.aaa_defs.specs.Request.{pieces, request_octets, authenticator}
use Rattle.aaa_defs.specs.Waits.{next_name}
use Rattle.switch_event.specs.Config.{empty, is_valid}
use Rattle.switch_event.specs.declared.decision.Decision.TheVariants.{Forward}
use Rattle.trace_defs.specs.Text.{record_text}
use Rattle.trace_defs.specs.Trace.{trace_of, progress_of}
use Rattle.switch_defs.specs.Decide.{decide}
use Rattle.day_defs.specs.Office.{settings, ports, data_frame}
use Rattle.day_defs.specs.Server.{accept_octets}
use Rattle.day_defs.specs.Day.{dawn, links, arrival, seconds, hour, renewal, after_acts, recorded}

abbrev settings_text : List ℕ
settings_text =
    codes "server 192.0.2.20 1812 6c6f6164" ++ 10 ∷ [] ++
    codes "set reauth on" ++ 10 ∷ [] ++
    flat_map (λ port. codes "port " ++ decimal port ++ codes " 1 auto" ++ 10 ∷ []) ports ++
    codes "begin" ++ 10 ∷ []

settings_are_read : (progress_of (trace_of 67108864 1048576 empty settings_text)).config ≡ settings
unfolding settings hex_on_literals digits
settings_are_read = refl

settings_are_valid : is_valid settings ≡ true
unfolding settings
settings_are_valid = refl

-- two hosts log in, behind the links of all ports
two_arrive : flat_map record_text (drop 60 (recorded dawn (arrival 2))) ≡
    codes "frame 1 0180c2000003020000000001888e02010000" ++ 10 ∷ [] ++
    codes "frame 1 0180c2000003020000000001888e0200000a0201000a017573657231" ++ 10 ∷ [] ++
    codes "radius 0200003cd794859a3e45ae3a525c24f37bddfd9550128b09dc5e9ddb6b4df65dbff48d430e3d"
    ++ codes "40060000000d410600000006510431314f0603010004" ++ 10 ∷ [] ++
    codes "frame 2 0180c2000003020000000002888e02010000" ++ 10 ∷ [] ++
    codes "frame 2 0180c2000003020000000002888e0200000a0201000a017573657232" ++ 10 ∷ [] ++
    codes "radius 0201003c79c43384dede4f4033af105a8773f54950129ba3a6020ef27260189f5e448ffa7c25"
    ++ codes "40060000000d410600000006510431324f0603010004" ++ 10 ∷ []
unfolding settings links arrival accept_octets digits hex_on_literals settled pieces request_octets next_name packet_of attributes_of
    run_within first_attribute authenticator u32_at block_word double_rounds column_round diagonal_round quarter_round md5
    digest_bytes hash_after compress rounds block_words
two_arrive = refl

-- from then on the host is forwarded, into the VLAN that it was granted
one_is_forwarded : decide (after_acts dawn (arrival 1)).state 1 (data_frame 1) ≡ Forward 1 11
unfolding settings links arrival accept_octets digits settled pieces request_octets next_name packet_of attributes_of run_within
    first_attribute authenticator u32_at block_word double_rounds column_round diagonal_round quarter_round md5 digest_bytes
    hash_after compress rounds block_words
one_is_forwarded = refl

-- an hour later the host logs in again, and sends a frame
one_logs_in_again : flat_map record_text (recorded (after_acts (after_acts dawn (arrival 1)) (hour 1)) (renewal 1)) ≡
    codes "frame 1 0180c2000003020000000001888e0200000a0202000a017573657231" ++ 10 ∷ [] ++
    codes "radius 0201003c8f7ea780d2afd5ab00a2b9b0a6bd0719501250092cfdb717bddd3e96586943a56cdd"
    ++ codes "40060000000d410600000006510431314f0603020004" ++ 10 ∷ [] ++
    codes "frame 1 0200000fffff0200000000010800"
    ++ codes "00000000000000000000000000000000000000000000000000000000000000000000000000000000000000000000" ++ 10 ∷ []
unfolding settings links arrival seconds hour renewal accept_octets digits hex_on_literals settled pieces request_octets next_name packet_of attributes_of
    run_within first_attribute authenticator u32_at block_word double_rounds column_round diagonal_round quarter_round md5
    digest_bytes hash_after compress rounds block_words
one_logs_in_again = refl

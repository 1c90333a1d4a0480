-- The definitions, computed at octets whose meaning is known.
use Rattle.std.proofs.Common.{◌≡◌, true, false, [], ◌∷◌, refl, codes, Some, None, Ok, Err, replicate}
use Rattle.wire_defs.specs.declared.EthDrop.TheVariants.{Runt, Giant}
use Rattle.wire_defs.specs.declared.EapolDrop.TheVariants.{Short, Key, UnknownType, BodyShort}
use Rattle.wire_defs.specs.declared.EapDrop.TheVariants.{Short as ShortEap, BadCode, BadLength}
use Rattle.wire_defs.specs.declared.Kind.TheVariants.{EapPacket, Start, Logoff}
use Rattle.wire_defs.specs.Number.{two_octets, four_octets, pair_at, quad_at, number_in}
use Rattle.wire_defs.specs.Station.{station_text, station_of}
use Rattle.wire_defs.specs.Ethernet.{eth_of, is_control, plain_text, tagged_text, tagged, pae_group, is_group, is_reserved}
use Rattle.wire_defs.specs.Eapol.{eapol_of, eapol_text}
use Rattle.wire_defs.specs.Eap.{eap_of, identity_request, canned}

-- 0x88-8E, 0x01-02-03-04
eapol_type_is_34958 : two_octets 34958 ≡ 136 ∷ 142 ∷ []
eapol_type_is_34958 = refl

four_octets_of_a_number : four_octets 16909060 ≡ 1 ∷ 2 ∷ 3 ∷ 4 ∷ []
four_octets_of_a_number = refl

a_pair_from_a_place : pair_at (7 ∷ 136 ∷ 142 ∷ []) 1 ≡ Some 34958
a_pair_from_a_place = refl

no_pair_where_one_octet_stands : pair_at (7 ∷ 136 ∷ 142 ∷ []) 2 ≡ None
no_pair_where_one_octet_stands = refl

a_quad_from_a_place : quad_at (1 ∷ 2 ∷ 3 ∷ 4 ∷ []) 0 ≡ Some 16909060
a_quad_from_a_place = refl

no_quad_where_three_octets_stand : quad_at (1 ∷ 2 ∷ 3 ∷ 4 ∷ []) 1 ≡ None
no_quad_where_three_octets_stand = refl

a_number_in_its_range : number_in 1 4094 (codes "4094") ≡ Some 4094
a_number_in_its_range = refl

a_number_above_its_range : number_in 1 4094 (codes "4095") ≡ None
a_number_above_its_range = refl

a_number_with_a_leading_zero : number_in 0 99 (codes "010") ≡ None
a_number_with_a_leading_zero = refl

zero_alone_is_a_number : number_in 0 99 (codes "0") ≡ Some 0
zero_alone_is_a_number = refl

no_digits_are_no_number : number_in 0 99 [] ≡ None
no_digits_are_no_number = refl

an_address_as_text : station_text (0 ∷ 16 ∷ 164 ∷ 35 ∷ 25 ∷ 192 ∷ []) ≡ codes "00-10-A4-23-19-C0"
an_address_as_text = refl

a_text_as_an_address : station_of (codes "00-10-A4-23-19-C0") ≡ Some (0 ∷ 16 ∷ 164 ∷ 35 ∷ 25 ∷ 192 ∷ [])
a_text_as_an_address = refl

separators_stand_anywhere_and_case_is_free : station_of (codes ".0010:a423-19c0") ≡ Some (0 ∷ 16 ∷ 164 ∷ 35 ∷ 25 ∷ 192 ∷ [])
separators_stand_anywhere_and_case_is_free = refl

eleven_digits_are_no_address : station_of (codes "00-10-A4-23-19-C") ≡ None
eleven_digits_are_no_address = refl

another_letter_is_no_digit : station_of (codes "00-10-A4-23-19-CG") ≡ None
another_letter_is_no_digit = refl

-- a host with the address 02-00-00-00-00-AA asks to be authenticated
a_start_frame_has_its_fields : eth_of (0x01 ∷ 0x80 ∷ 0xc2 ∷ 0x00 ∷ 0x00 ∷ 0x03 ∷ 0x02 ∷ 0x00 ∷ 0x00 ∷ 0x00 ∷ 0x00 ∷ 0xaa ∷ 0x88 ∷ 0x8e ∷ 0x01 ∷ 0x01 ∷ 0x00 ∷ 0x00 ∷ []) ≡ Ok (record { to = pae_group; source = 0x02 ∷ 0x00 ∷ 0x00 ∷ 0x00 ∷ 0x00 ∷ 0xaa ∷ []; kind = 0x888e; body = 0x01 ∷ 0x01 ∷ 0x00 ∷ 0x00 ∷ [] })
a_start_frame_has_its_fields = refl

a_start_frame_is_control : is_control (0x01 ∷ 0x80 ∷ 0xc2 ∷ 0x00 ∷ 0x00 ∷ 0x03 ∷ 0x02 ∷ 0x00 ∷ 0x00 ∷ 0x00 ∷ 0x00 ∷ 0xaa ∷ 0x88 ∷ 0x8e ∷ 0x01 ∷ 0x01 ∷ 0x00 ∷ 0x00 ∷ []) ≡ true
a_start_frame_is_control = refl

thirteen_octets_are_a_runt : eth_of (replicate 13 0) ≡ Err Runt
thirteen_octets_are_a_runt = refl

octets_above_1518_are_a_giant : eth_of (replicate 1519 0) ≡ Err Giant
octets_above_1518_are_a_giant = refl

a_frame_behind_a_tag : tagged 20 (0xff ∷ 0xff ∷ 0xff ∷ 0xff ∷ 0xff ∷ 0xff ∷ 0x02 ∷ 0x00 ∷ 0x00 ∷ 0x00 ∷ 0x00 ∷ 0xbb ∷ 0x08 ∷ 0x00 ∷ 0x45 ∷ 0x00 ∷ []) ≡ 0xff ∷ 0xff ∷ 0xff ∷ 0xff ∷ 0xff ∷ 0xff ∷ 0x02 ∷ 0x00 ∷ 0x00 ∷ 0x00 ∷ 0x00 ∷ 0xbb ∷ 0x81 ∷ 0x00 ∷ 0x00 ∷ 0x14 ∷ 0x08 ∷ 0x00 ∷ 0x45 ∷ 0x00 ∷ []
a_frame_behind_a_tag = refl

a_frame_written_with_a_tag : tagged_text 20 (record { to = 0xff ∷ 0xff ∷ 0xff ∷ 0xff ∷ 0xff ∷ 0xff ∷ []; source = 0x02 ∷ 0x00 ∷ 0x00 ∷ 0x00 ∷ 0x00 ∷ 0xbb ∷ []; kind = 0x0800; body = 0x45 ∷ 0x00 ∷ [] }) ≡ 0xff ∷ 0xff ∷ 0xff ∷ 0xff ∷ 0xff ∷ 0xff ∷ 0x02 ∷ 0x00 ∷ 0x00 ∷ 0x00 ∷ 0x00 ∷ 0xbb ∷ 0x81 ∷ 0x00 ∷ 0x00 ∷ 0x14 ∷ 0x08 ∷ 0x00 ∷ 0x45 ∷ 0x00 ∷ []
a_frame_written_with_a_tag = refl

a_frame_written_without_one : plain_text (record { to = pae_group; source = 0x02 ∷ 0x00 ∷ 0x00 ∷ 0x01 ∷ 0x01 ∷ 0x01 ∷ []; kind = 0x888e; body = eapol_text (identity_request 0) }) ≡ 0x01 ∷ 0x80 ∷ 0xc2 ∷ 0x00 ∷ 0x00 ∷ 0x03 ∷ 0x02 ∷ 0x00 ∷ 0x00 ∷ 0x01 ∷ 0x01 ∷ 0x01 ∷ 0x88 ∷ 0x8e ∷ 0x02 ∷ 0x00 ∷ 0x00 ∷ 0x05 ∷ 0x01 ∷ 0x00 ∷ 0x00 ∷ 0x05 ∷ 0x01 ∷ []
a_frame_written_without_one = refl

a_group_and_a_reserved_address : (is_group (0x01 ∷ 0x00 ∷ 0x00 ∷ 0x00 ∷ 0x00 ∷ 0xbb ∷ []) ≡ true) × (is_reserved (0x01 ∷ 0x80 ∷ 0xc2 ∷ 0x00 ∷ 0x00 ∷ 0x0e ∷ []) ≡ true) × (is_reserved (0x01 ∷ 0x80 ∷ 0xc2 ∷ 0x00 ∷ 0x00 ∷ 0x10 ∷ []) ≡ false)
a_group_and_a_reserved_address = (refl, refl, refl)

a_start : eapol_of (0x01 ∷ 0x01 ∷ 0x00 ∷ 0x00 ∷ []) ≡ Ok (record { version = 1; kind = Start; body = [] })
a_start = refl

a_start_with_a_body_that_is_not_there : eapol_of (0x01 ∷ 0x01 ∷ 0xff ∷ 0xff ∷ []) ≡ Ok (record { version = 1; kind = Start; body = [] })
a_start_with_a_body_that_is_not_there = refl

a_logoff : eapol_of (0x01 ∷ 0x02 ∷ 0x00 ∷ 0x00 ∷ []) ≡ Ok (record { version = 1; kind = Logoff; body = [] })
a_logoff = refl

an_eap_packet_and_padding : eapol_of (0x01 ∷ 0x00 ∷ 0x00 ∷ 0x08 ∷ 0x02 ∷ 0x01 ∷ 0x00 ∷ 0x08 ∷ 0x01 ∷ 0x62 ∷ 0x6f ∷ 0x62 ∷ 0x00 ∷ 0x00 ∷ []) ≡ Ok (record { version = 1; kind = EapPacket; body = 0x02 ∷ 0x01 ∷ 0x00 ∷ 0x08 ∷ 0x01 ∷ 0x62 ∷ 0x6f ∷ 0x62 ∷ [] })
an_eap_packet_and_padding = refl

a_body_cut_short : eapol_of (0x01 ∷ 0x00 ∷ 0x00 ∷ 0x08 ∷ 0x02 ∷ 0x01 ∷ 0x00 ∷ 0x08 ∷ 0x01 ∷ 0x62 ∷ 0x6f ∷ []) ≡ Err BodyShort
a_body_cut_short = refl

three_octets_are_no_eapol_packet : eapol_of (0x01 ∷ 0x03 ∷ 0x00 ∷ []) ≡ Err Short
three_octets_are_no_eapol_packet = refl

a_key_has_a_drop_of_its_own : eapol_of (0x01 ∷ 0x03 ∷ 0x00 ∷ 0x00 ∷ []) ≡ Err Key
a_key_has_a_drop_of_its_own = refl

an_alert_is_an_unknown_type : eapol_of (0x01 ∷ 0x04 ∷ 0x00 ∷ 0x00 ∷ []) ≡ Err UnknownType
an_alert_is_an_unknown_type = refl

a_response_and_padding : eap_of (0x02 ∷ 0x01 ∷ 0x00 ∷ 0x08 ∷ 0x01 ∷ 0x62 ∷ 0x6f ∷ 0x62 ∷ 0x00 ∷ []) ≡ Ok (record { code = 2; id = 1; kind = 1; rest = codes "bob"; whole = 0x02 ∷ 0x01 ∷ 0x00 ∷ 0x08 ∷ 0x01 ∷ 0x62 ∷ 0x6f ∷ 0x62 ∷ [] })
a_response_and_padding = refl

a_success : eap_of (canned true 7) ≡ Ok (record { code = 3; id = 7; kind = 0; rest = []; whole = 0x03 ∷ 0x07 ∷ 0x00 ∷ 0x04 ∷ [] })
a_success = refl

a_failure : eap_of (canned false 7) ≡ Ok (record { code = 4; id = 7; kind = 0; rest = []; whole = 0x04 ∷ 0x07 ∷ 0x00 ∷ 0x04 ∷ [] })
a_failure = refl

an_identity_request : eap_of (identity_request 9) ≡ Ok (record { code = 1; id = 9; kind = 1; rest = []; whole = 0x01 ∷ 0x09 ∷ 0x00 ∷ 0x05 ∷ 0x01 ∷ [] })
an_identity_request = refl

three_octets_are_no_eap_packet : eap_of (0x01 ∷ 0x00 ∷ 0x00 ∷ []) ≡ Err ShortEap
three_octets_are_no_eap_packet = refl

codes_are_one_to_four : (eap_of (0x00 ∷ 0x01 ∷ 0x00 ∷ 0x04 ∷ []) ≡ Err BadCode) × (eap_of (0x05 ∷ 0x01 ∷ 0x00 ∷ 0x04 ∷ []) ≡ Err BadCode)
codes_are_one_to_four = (refl, refl)

a_request_has_a_type : eap_of (0x01 ∷ 0x01 ∷ 0x00 ∷ 0x04 ∷ 0x01 ∷ []) ≡ Err BadLength
a_request_has_a_type = refl

a_success_has_no_data : eap_of (0x03 ∷ 0x01 ∷ 0x00 ∷ 0x05 ∷ 0x00 ∷ []) ≡ Err BadLength
a_success_has_no_data = refl

a_length_above_what_is_there : eap_of (0x02 ∷ 0x01 ∷ 0x00 ∷ 0x08 ∷ 0x01 ∷ 0x62 ∷ 0x6f ∷ []) ≡ Err BadLength
a_length_above_what_is_there = refl

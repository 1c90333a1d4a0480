-- What taken answers say, computed at packets whose meaning is known.
use Rattle.std.proofs.Common.{◌≡◌, ℕ, true, false, List, [], ◌∷◌, codes, refl, Some, None, Option}
use Rattle.machine_vars.specs.declared.control.Times.{Times}
use Rattle.radius_defs.specs.Packet.{Attribute}
use Rattle.radius_defs.specs.Digest.{zeros}
use Rattle.aaa_defs.specs.Answer.{Taking}
use Rattle.aaa_defs.specs.Said.{Kept, Challenge, Notice, Accept, Reject, said}

abbrev times : Times
times = record { quiet = 60; server = 30; reauth_max = 2; reauth_period = 3600; reauth = false }

abbrev before : Kept
before = record { vlan = 7; state = Some (9 ∷ []); end_while = 5 }

abbrev answer : ℕ → List Attribute → Option (List ℕ) → Taking
answer code attributes eap = record { session = 1; packet = record { code = code; identifier = 0; authenticator = zeros 16; attributes = attributes }; eap = eap }

abbrev timed : ℕ → Attribute
timed seconds = record { kind = 27; value = 0 ∷ 0 ∷ 14 ∷ seconds ∷ [] }

abbrev again : Attribute
again = record { kind = 29; value = 0 ∷ 0 ∷ 0 ∷ 1 ∷ [] }

-- 3600 seconds at the most: 14 times 256 and 16 more
a_challenge : said (answer 11 (record { kind = 24; value = codes "ST" } ∷ timed 16 ∷ []) (Some (1 ∷ 9 ∷ 0 ∷ 5 ∷ 4 ∷ []))) 10 times 1 before
    ≡ record { word = Challenge (1 ∷ 9 ∷ 0 ∷ 5 ∷ 4 ∷ []) 3600; kept = record before { state = Some (codes "ST") } }
a_challenge = refl

a_challenge_without_state : said (answer 11 (timed 17 ∷ []) (Some (1 ∷ 9 ∷ 0 ∷ 5 ∷ 4 ∷ []))) 10 times 1 before
    ≡ record { word = Challenge (1 ∷ 9 ∷ 0 ∷ 5 ∷ 4 ∷ []) 0; kept = record before { state = None } }
a_challenge_without_state = refl

a_challenge_without_eap : said (answer 11 [] None) 10 times 1 before ≡ record { word = Notice; kept = record before { state = None } }
a_challenge_without_eap = refl

-- the native VLAN, and the times of the settings
a_plain_accept : said (answer 2 [] None) 10 times 1 before ≡ record { word = Accept (3 ∷ 1 ∷ 0 ∷ 4 ∷ []) false 3600; kept = record { vlan = 10; state = None; end_while = 0 } }
a_plain_accept = refl

an_accept_with_an_end : said (answer 2 (timed 16 ∷ []) (Some (3 ∷ 8 ∷ 0 ∷ 4 ∷ []))) 10 times 1 before
    ≡ record { word = Accept (3 ∷ 8 ∷ 0 ∷ 4 ∷ []) false 3600; kept = record { vlan = 10; state = None; end_while = 3600 } }
an_accept_with_an_end = refl

an_accept_to_ask_again : said (answer 2 (timed 0 ∷ again ∷ []) (Some (3 ∷ 8 ∷ 0 ∷ 4 ∷ []))) 10 times 1 before
    ≡ record { word = Accept (3 ∷ 8 ∷ 0 ∷ 4 ∷ []) true 3584; kept = record { vlan = 10; state = None; end_while = 0 } }
an_accept_to_ask_again = refl

-- an accept of some VLAN that is not named: the EAP that came is not given on
an_unfit_accept : said (answer 2 (record { kind = 64; value = 0 ∷ 0 ∷ 0 ∷ 13 ∷ [] } ∷ []) (Some (3 ∷ 8 ∷ 0 ∷ 4 ∷ []))) 10 times 1 before
    ≡ record { word = Reject (4 ∷ 1 ∷ 0 ∷ 4 ∷ []); kept = record before { state = None } }
an_unfit_accept = refl

a_reject_with_a_success : said (answer 3 [] (Some (3 ∷ 8 ∷ 0 ∷ 4 ∷ []))) 10 times 1 before ≡ record { word = Reject (3 ∷ 8 ∷ 0 ∷ 4 ∷ []); kept = record before { state = None } }
a_reject_with_a_success = refl

a_bare_reject : said (answer 3 [] None) 10 times 1 before ≡ record { word = Reject (4 ∷ 1 ∷ 0 ∷ 4 ∷ []); kept = record before { state = None } }
a_bare_reject = refl

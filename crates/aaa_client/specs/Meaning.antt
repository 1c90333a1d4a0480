-- What contracts see of requests and answers.
use Rattle.std.specs.Prelude.{ℕ, List, Option, Result, Ok, Err}
use Rattle.std.specs.Borrow.{Bor}
use Rattle.std.specs.Option.{option_map}
use Rattle.arrayvec.specs.ArrayVec.{ArrayVec}
use Rattle.switch_event.specs.declared.drop.AaaDrop.{AaaDrop}
use Rattle.aaa_defs.specs.Waits.{Pending}
use Rattle.aaa_defs.specs.Answer.{Taking}
use Rattle.aaa_client.specs.declared.answer.Taken.{Taken}

-- a request that may be there
abbrev pub request_in : Option (Bor Pending) → Option Pending
request_in request = option_map (λ r. r.now) request

-- octets that may be there
abbrev pub octets_in : Option (ArrayVec ℕ) → Option (List ℕ)
octets_in octets = option_map (λ o. o.items) octets

abbrev pub taking : Taken → Taking
taking t = record { session = t.session; packet = t.packet; eap = octets_in t.eap }

-- what `answer` answers
abbrev pub meaning : Result Taken AaaDrop → Result Taking AaaDrop
meaning (Ok t) = Ok (taking t)
meaning (Err drop) = Err drop

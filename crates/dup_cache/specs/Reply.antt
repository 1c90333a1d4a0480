-- The octets of a reply that may be there.
use Rattle.std.specs.Prelude.{ℕ, List, Option}
use Rattle.std.specs.Option.{option_map}
use Rattle.std.specs.Borrow.{Bor}

abbrev pub reply_in : Option (Bor (List ℕ)) → Option (List ℕ)
reply_in reply = option_map (λ r. r.now) reply

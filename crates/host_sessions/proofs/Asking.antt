-- The request that the code makes is the one of the definitions.
use Rattle.std.proofs.Common.{◌≡◌, ℕ, refl, List, Option}
use Rattle.aaa_defs.specs.Request as request
use Rattle.aaa_defs.specs.Waits.{Waits, next_name, with_request}
use Rattle.aaa_defs.specs.Asking.{new_request as made}
use Rattle.switch_event.specs.Config.{Config}

pub made_alike : (c d : Config) (a b : request.Ask) (n m : ℕ) (w u : Waits) (x y : List ℕ) → c ≡ d → a ≡ b →
    n ≡ m → w ≡ u → x ≡ y →
    with_request (made c a n (next_name w) x) w ≡ with_request (made d b m (next_name u) y) u
made_alike c d a b n m w u x y e f g h i = rw (e, f, g, h, i) refl

-- what is asked, by its parts
pub asks_alike : (p q : ℕ) (o own r peer : List ℕ) (i : List ℕ) (s : Option (List ℕ)) (eap : List ℕ) → p ≡ q →
    o ≡ own → r ≡ peer →
    let asks : ℕ → List ℕ → List ℕ → request.Ask = λ port o r. record { port = port; own = o; peer = r; identity = i; state = s; eap = eap } in
    asks p o r ≡ asks q own peer
asks_alike p q o own r peer i s eap a b c = rw (a, b, c) refl

-- What is known where a line did not apply, or did.
use Rattle.std.proofs.Common.{◌≡◌, ℕ, Bool, true, false, Ok, Err, refl}
use Rattle.std.specs.Prelude.{if◌then◌else◌}

pub passed_on : (applies : Bool) (cause : ℕ) (done : Unit {0}) → (if applies then Err cause else Ok tt) ≡ Ok done → applies ≡ false
passed_on true cause done h = cc
passed_on false cause done h = refl

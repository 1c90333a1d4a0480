-- What is wanted of the sessions that a request names: the first, and whether there are others.
use Rattle.std.specs.Prelude.{Bool, true, false, List, [], ◌∷◌, Option, Some, None}
use Rattle.dynauth_defs.specs.Session.{Row}
use Rattle.dynauth_server.specs.declared.session.Found.{Found}

abbrev pub found : Row → Found
found y = record { number = y.number; authorised = y.authorised }

abbrev pub first_of_them : List Row → Option Found × Bool
first_of_them [] = (None, false)
first_of_them (y ∷ []) = (Some (found y), false)
first_of_them (y ∷ z ∷ ys) = (Some (found y), true)

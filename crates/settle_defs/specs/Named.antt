-- A session whose host gave its identity, by what is asked of the server for it.
use Rattle.std.specs.Prelude.{◌≡◌, ℕ, ◌≤◌, Bool, true, false, not, List, length}
use Rattle.machine_vars.specs.declared.vars.Vars.{Vars}
use Rattle.machine_vars.specs.declared.states.EapState.{EapState}
use Rattle.machine_vars.specs.declared.states.EapState.TheVariants.{Disabled, AaaRequest, AaaIdle, AaaResponse}

-- the states that speak to the server come after an identity, and so do requests of the server's own;
-- before START there is none
abbrev pub needs_name : EapState → (local : Bool) → Bool
needs_name Disabled local = false
needs_name AaaRequest local = true
needs_name AaaIdle local = true
needs_name AaaResponse local = true
needs_name _ local = not local

-- an identity has 1 to 253 octets (RFC 3748, 5.1; RFC 2865, section 5.1)
abbrev pub IsName : List ℕ → Type 0
IsName identity = (1 ≤ length identity) × (length identity ≤ 253)

abbrev pub IsNamed : Vars → Type 0
IsNamed v = needs_name v.eap v.local ≡ true → IsName v.identity.items

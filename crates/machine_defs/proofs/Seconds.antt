-- What the leaves share: a second that has gone by, and events that cannot come.
use Rattle.std.proofs.Common.{◌≡◌, ℕ, ◌≤◌, Bool, true, false, arith}
use Rattle.machine_vars.specs.declared.vars.Vars.{Vars}
use Rattle.machine_defs.specs.ReauthTable as Re

-- each timer may have any value after the second
abbrev pub after : ℕ → ℕ → ℕ → ℕ → Bool → Vars → Vars
after q a w r late v = record v { quiet_while = q; a_while = a; re_auth_when = w; retrans_while = r; aaa_timeout = late }

-- the reauthentication timer runs out and begins anew
abbrev pub wound : Vars → Vars
wound v = Re.initialize (Re.reauthenticate v)

-- a period of 0, and a greeting on an Auto port
pub none : 1 ≤ 0 → ⊥
none h = omega (arith, h)

pub not_auto : true ≡ false → ⊥
not_auto h = cc

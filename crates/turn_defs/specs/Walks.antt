-- The walk of a turn over the sessions.
use Rattle.std.proofs.Common.{◌≡◌, ℕ, suc, ◌-◌, Bool, true, false, Some}
use Rattle.std.specs.Prelude.{◌==◌, ◌||◌, slice_get, if◌then◌else◌}
use Rattle.aaa_defs.specs.Waits.{pending_of}
use Rattle.aaa_defs.specs.Age.{aged}
use Rattle.machine_defs.specs.Live as live
use Rattle.switch_defs.specs.Switch.{Session, Standing, State}
use Rattle.switch_defs.specs.Session.{close}
use Rattle.switch_defs.specs.Turn.{is_given_up, set_vars}
use Rattle.switch_defs.specs.Sound.{In, there}
use Rattle.turn_defs.specs.Parts.{is_gone}

-- how a session stands a second later, its request aged
abbrev pub later : Session → State → Standing
later y s = set_vars (live.Second (is_given_up (aged (pending_of y.host.number s.waits)))) (record y.standing { end_while = y.standing.end_while - 1 })

abbrev pub is_over : Session → State → Bool
is_over y s = y.standing.end_while == 1 || is_gone (later y s)

-- where the walk is after a session
abbrev pub next_place : Bool → ℕ → ℕ
next_place closed n = if closed then n else suc n

-- the next of them
pub record Next (y : Session) (n : ℕ) (t : State) : Type 0 where
  pub at : slice_get t.sessions n ≡ Some y
  pub there : In y t.sessions

abbrev pub after_closing : Bool → Session → State → State
after_closing true y t = close y.host t
after_closing false y t = t

-- When a request that has no answer is sent again, and when it is given up.
use Rattle.std.specs.Prelude.{ℕ, ◌+◌, ◌==◌, ◌||◌, cond, map, Option, Some, None}
use Rattle.aaa_defs.specs.declared.Aged.{Aged}
use Rattle.aaa_defs.specs.declared.Aged.TheVariants.{Quiet, Resend, GaveUp}
use Rattle.aaa_defs.specs.Waits.{Pending, Waits, pending_of, forgotten}

-- at 5 and 10 seconds it is sent again, at 15 it is given up (RFC 2865, section 2.5; RFC 5080, section 2.2.1)
abbrev pub aged_at : ℕ → Aged
aged_at age = cond (age == 15) GaveUp (cond (age == 5 || age == 10) Resend Quiet)

-- what a second does to a request that may be there
abbrev pub aged : Option Pending → Aged
aged None = Quiet
aged (Some p) = aged_at (p.age + 1)

abbrev pub older : Pending → Pending
older p = record p { age = p.age + 1 }

-- the session's request is a second older
abbrev pub with_older : ℕ → Waits → Waits
with_older session w = record w { requests = map (λ p. cond (p.session == session) (older p) p) w.requests }

-- or it is given up
abbrev pub after_aging : Aged → ℕ → Waits → Waits
after_aging GaveUp session w = forgotten session w
after_aging Resend session w = with_older session w
after_aging Quiet session w = with_older session w

-- the requests after a second of this session
abbrev pub after_second : ℕ → Waits → Waits
after_second session w = after_aging (aged (pending_of session w)) session w

-- what a second leaves of a request that may be there: nothing where it is given up
abbrev pub left_of : Aged → Pending → Option Pending
left_of GaveUp p = None
left_of Resend p = Some (older p)
left_of Quiet p = Some (older p)

abbrev pub aged_request : Option Pending → Option Pending
aged_request None = None
aged_request (Some p) = left_of (aged_at (p.age + 1)) p

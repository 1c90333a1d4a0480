-- Each value that may be settled is so within 48 rows; an event leads to its outcome, and the settled values are those of
-- the forms.
use Rattle.std.proofs.Common.{◌≡◌, ℕ, ◌<◌, ap, List, length, Some, None}
use Rattle.wire_defs.specs.Ethernet.{pae_group}
use Rattle.machine_vars.specs.declared.vars.Vars.{Vars}
use Rattle.machine_vars.specs.declared.control.Times.{Times}
use Rattle.machine_vars.specs.declared.control.Control.{Control}
use Rattle.machine_vars.specs.declared.control.Control.TheVariants.{Auto, ForceAuth, ForceUnauth}
use Rattle.machine_vars.specs.declared.states.Row.{Row}
use Rattle.machine_defs.specs.Table.{Line}
use Rattle.machine_defs.specs.Settling.{next, Settles, rests, takes}
use Rattle.machine_defs.specs.Live.{fresh, InRange, Event, set, cleared, to_all, Live, born, rested, turned, taken, addressed, Ready, still, turns, IsProper}
use Rattle.machine_defs.specs.Outcome.{outcome, begun, silent}
use Rattle.machine_defs.proofs.Forms.{Formed, as_request, as_ignore, as_server, as_gave_up, as_authenticated, as_held, as_open, as_shut, as_end}
use Rattle.machine_defs.proofs.Goes.{goes_end, goes_on, goes_nowhere, Lands, Turns, Ends, stays}
use Rattle.machine_defs.proofs.Turning.{formed_turns, formed_rests}
use Rattle.machine_defs.proofs.Born.{fresh_opens, fresh_turns}

-- ---- what is set back leaves a settled value settled

pub cleared_formed : {v : Vars} → Formed v → Formed (cleared v)
cleared_formed (as_request n c r k e) = as_request n c r k (ap cleared e)
cleared_formed (as_ignore n c r k e) = as_ignore n c r k (ap cleared e)
cleared_formed (as_server n c a h g k e) = as_server n c a h g k (ap cleared e)
cleared_formed (as_gave_up n c a k e) = as_gave_up n c a k (ap cleared e)
cleared_formed (as_authenticated n on w k e) = as_authenticated n on w k (ap cleared e)
cleared_formed (as_held n on w q k e) = as_held n on w q k (ap cleared e)
cleared_formed (as_open k e) = as_open k (ap cleared e)
cleared_formed (as_shut k e) = as_shut k (ap cleared e)
cleared_formed (as_end k e f) = as_end k e (ap cleared f)

pub to_all_formed : {v : Vars} → Formed v → Formed (to_all v)
to_all_formed (as_request n c r k e) = as_request n c r k (ap to_all e)
to_all_formed (as_ignore n c r k e) = as_ignore n c r k (ap to_all e)
to_all_formed (as_server n c a h g k e) = as_server n c a h g k (ap to_all e)
to_all_formed (as_gave_up n c a k e) = as_gave_up n c a k (ap to_all e)
to_all_formed (as_authenticated n on w k e) = as_authenticated n on w k (ap to_all e)
to_all_formed (as_held n on w q k e) = as_held n on w q k (ap to_all e)
to_all_formed (as_open k e) = as_open k (ap to_all e)
to_all_formed (as_shut k e) = as_shut k (ap to_all e)
to_all_formed (as_end k e f) = as_end k e (ap to_all f)

-- ---- the values of sessions and of forced ports

-- the opening value, or of one of the forms
pub data Placed : Vars → Type 0 where
  new : (port : ℕ) (own peer : List ℕ) (control : Control) (t : Times) → InRange t → Placed (fresh port own peer control t)
  old : {v : Vars} → Formed v → Placed v

placed_turns : (e : Event) {v : Vars} → IsProper e v → Placed v → Turns e v
placed_turns e i (new port own peer control t r) = fresh_turns e port own peer control t i r
placed_turns e i (old {v} s) = formed_turns e v i s

placed_ends : {v : Vars} → Placed v → Ends 48 v
placed_ends (new port own peer control t r) =
    let x = fresh port own peer control t in
    goes_on 48 x (Lands (begun x)) (λ w sent. Formed w) (λ w sent p. p.2) (fresh_opens port own peer control t r)
placed_ends (old {v} s) = goes_on 48 v (Lands (silent v)) (λ w sent. Formed w) (λ w sent p. p.2) (stays v (formed_rests v s))

turns_end : (e : Event) (v : Vars) → Turns e v → Ends 48 (set e v)
turns_end e v t = goes_on 48 (set e v) (Lands (outcome e v)) (λ w sent. Formed w) (λ w sent p. p.2) t

placed_cleared : {v : Vars} → Placed v → Placed (cleared v)
placed_cleared (new port own peer control t r) = new port own peer control t r
placed_cleared (old s) = old (cleared_formed s)

placed_to_all : {v : Vars} → Placed v → Placed (to_all v)
placed_to_all (new port own peer control t r) = new port own pae_group control t r
placed_to_all (old s) = old (to_all_formed s)

-- the end of a chain is of one of the forms
pub ends_formed : {v w : Vars} {rows : List Row} {sent : List (List ℕ)} → Settles v rows sent w → (n : ℕ) → Ends n v → Formed w × (length rows < n)
ends_formed s n e = goes_end s n (λ w sent. Formed w) e

pub live_placed : {v : Vars} → Live v → Placed v
live_placed (born port own peer control t r) = new port own peer control t r
live_placed (rested l s) = old (ends_formed s 48 (placed_ends (live_placed l))).0
live_placed (turned {v} e l p s) = old (ends_formed s 48 (turns_end e v (placed_turns e p (live_placed l)))).0
live_placed (taken l) = placed_cleared (live_placed l)
live_placed (addressed l c) = placed_to_all (live_placed l)

-- each event of a value of a session leads to its outcome
pub live_turns : (e : Event) {v : Vars} → IsProper e v → Live v → Turns e v
live_turns e i l = placed_turns e i (live_placed l)

pub ready_ends : {v : Vars} → Ready v → Ends 48 v
ready_ends (still l) = placed_ends (live_placed l)
ready_ends (turns {v} e l p) = turns_end e v (live_turns e p l)

pub ready_live : {v w : Vars} {rows : List Row} {sent : List (List ℕ)} → Ready v → Settles v rows sent w → Live w
ready_live (still l) s = rested l s
ready_live (turns e l p) s = turned e l p s

-- ---- the opening value is not settled, and what has no next is

some_line : {l : Line} → Some l ≡ None → ⊥
some_line h = cc

fresh_moves : (port : ℕ) (own peer : List ℕ) (control : Control) (t : Times) → next (fresh port own peer control t) ≡ None → ⊥
fresh_moves port own peer Auto t h = some_line h
fresh_moves port own peer ForceAuth t h = some_line h
fresh_moves port own peer ForceUnauth t h = some_line h

pub idle_formed : {v : Vars} → Live v → next v ≡ None → Formed v
idle_formed l h = by_place (live_placed l) h
  where
    by_place : {v : Vars} → Placed v → next v ≡ None → Formed v
    by_place (new port own peer control t r) h = absurd (fresh_moves port own peer control t h)
    by_place (old s) h = s

pub formed_idle : (v : Vars) → Formed v → next v ≡ None
formed_idle v s = goes_nowhere v (Lands (silent v)) (formed_rests v s)

-- the end of a chain has no next row
pub settles_idle : {v w : Vars} {rows : List Row} {sent : List (List ℕ)} → Settles v rows sent w → next w ≡ None
settles_idle (rests h) = h
settles_idle (takes l h s) = settles_idle s

-- what an event leads to, and in how many rows
pub turn_ends : (e : Event) {v w : Vars} {rows : List Row} {sent : List (List ℕ)} → IsProper e v → Live v → Settles (set e v) rows sent w →
    (w ≡ (outcome e v).vars) × (sent ≡ (outcome e v).packets) × (length rows < 48)
turn_ends e {v} i l s = let r = goes_end s 48 (Lands (outcome e v)) (live_turns e i l) in (r.0.0, r.0.1, r.1)

pub opening_ends : {w : Vars} {rows : List Row} {sent : List (List ℕ)} (port : ℕ) (own peer : List ℕ) (control : Control) (t : Times) → InRange t →
    Settles (fresh port own peer control t) rows sent w → (w ≡ (begun (fresh port own peer control t)).vars) × (sent ≡ (begun (fresh port own peer control t)).packets)
opening_ends port own peer control t r s =
    let x = fresh port own peer control t in
    let g = goes_end s 48 (Lands (begun x)) (fresh_opens port own peer control t r) in (g.0.0, g.0.1)

-- What holds where the chain of a value ends, of the last value and of what was sent.
use Rattle.std.proofs.Common.{◌≡◌, ℕ, zero, suc, ◌<◌, ◌++◌, List, [], length, Option, Some, None, refl, arith}
use Rattle.machine_vars.specs.declared.vars.Vars.{Vars}
use Rattle.machine_vars.specs.declared.states.Row.{Row}
use Rattle.machine_defs.specs.Table.{Line}
use Rattle.machine_defs.specs.Settling.{next, Settles, rests, takes, Rest}
use Rattle.machine_defs.specs.Live.{Event, set}
use Rattle.machine_defs.specs.Outcome.{outcome, silent}
use Rattle.machine_defs.proofs.Forms.{Formed}

-- fewer than n rows lead from v to a value that has no next, and Q holds of it and of what was sent
abbrev pub Goes : ℕ → Vars → (Vars → List (List ℕ) → Type 0) → Type 0
Goes zero v Q = ⊥
Goes (suc n) v Q = elim (next v) [ None ↦ Q v [] | Some l ↦ Goes n (l.after v) (λ w sent. Q w (l.sends v ++ sent)) ]

-- after a row
abbrev More : ℕ → Vars → (Vars → List (List ℕ) → Type 0) → Line → Type 0
More n v Q l = Goes n (l.after v) (λ w sent. Q w (l.sends v ++ sent))

abbrev Then : ℕ → Vars → (Vars → List (List ℕ) → Type 0) → Option Line → Type 0
Then n v Q o = elim o as (λ _. Type 0) [ None ↦ Q v [] | Some l ↦ More n v Q l ]

-- it holds of the end of each chain, which is shorter than that
pub goes_end : {v w : Vars} {rows : List Row} {sent : List (List ℕ)} → Settles v rows sent w → (n : ℕ) (Q : Vars → List (List ℕ) → Type 0) → Goes n v Q →
    Q w sent × (length rows < n)
goes_end (rests h) zero Q g = absurd g
goes_end (rests h) (suc n) Q g = (rw (h, Goes) at g, omega arith)
goes_end (takes {v} l h s) zero Q g = absurd g
goes_end (takes {v} l h s) (suc n) Q g = let r = goes_end s n (λ w sent. Q w (l.sends v ++ sent)) (rw (h, Goes) at g) in (r.0, omega (arith, r.1))

-- a weaker promise
pub goes_on : (n : ℕ) (v : Vars) (P Q : Vars → List (List ℕ) → Type 0) → ((w : Vars) (sent : List (List ℕ)) → P w sent → Q w sent) → Goes n v P → Goes n v Q
goes_on zero v P Q f g = g
goes_on (suc n) v P Q f g =
    by_next (next v) g (λ l h. goes_on n (l.after v) (λ w sent. P w (l.sends v ++ sent)) (λ w sent. Q w (l.sends v ++ sent)) (λ w sent p. f w (l.sends v ++ sent) p) h)
  where
    by_next : (o : Option Line) → Then n v P o → ((l : Line) → More n v P l → More n v Q l) → Then n v Q o
    by_next None h more = f v [] h
    by_next (Some l) h more = more l h

-- a value that has no next
pub goes_rest : (n : ℕ) (v : Vars) (Q : Vars → List (List ℕ) → Type 0) → next v ≡ None → Q v [] → Goes (suc n) v Q
goes_rest n v Q h q = rw (h, Goes) q

some_none : {l : Line} → Some l ≡ None → ⊥
some_none h = cc

-- and where no row is left to be taken, there is no next
pub goes_nowhere : (v : Vars) (Q : Vars → List (List ℕ) → Type 0) → Goes 1 v Q → next v ≡ None
goes_nowhere v Q g = by_next (next v) refl g
  where
    by_next : (o : Option Line) → next v ≡ o → Then 0 v Q o → next v ≡ None
    by_next None e h = e
    by_next (Some l) e h = absurd h

-- more may be allowed
pub longer : (n : ℕ) (v : Vars) (Q : Vars → List (List ℕ) → Type 0) → Goes 1 v Q → Goes (suc n) v Q
longer n v Q g = by_next (next v) g
  where
    by_next : (o : Option Line) → Then 0 v Q o → Then n v Q o
    by_next None h = h
    by_next (Some l) h = absurd h

-- the chain from v leads to r, which is of one of the forms
abbrev pub Lands : Rest → Vars → List (List ℕ) → Type 0
Lands r w sent = (w ≡ r.vars) × (sent ≡ r.packets) × Formed w

abbrev pub Leads : ℕ → Vars → Rest → Type 0
Leads n v r = Goes n v (Lands r)

-- an event of v leads to its outcome
abbrev pub Turns : Event → Vars → Type 0
Turns e v = Leads 48 (set e v) (outcome e v)

-- where no row is taken, more rows may be allowed
pub stays : (x : Vars) → Leads 1 x (silent x) → Leads 48 x (silent x)
stays x g = longer 47 x (Lands (silent x)) g

-- within n rows from v no row is enabled, and the value is of one of the forms
abbrev pub Ends : ℕ → Vars → Type 0
Ends n v = Goes n v (λ w sent. Formed w)

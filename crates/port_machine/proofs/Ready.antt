-- A value in which an event was set may be settled.
use Rattle.std.proofs.Common.{◌≡◌, subst, sym}
use Rattle.machine_vars.specs.declared.vars.Vars.{Vars}
use Rattle.machine_defs.specs.Live.{Live, Ready, Event, IsProper, set, turns}

pub with_event : (e : Event) (v w : Vars) → Live v → IsProper e v → w ≡ set e v → Ready w
with_event e v w l p h = let P : Vars → Type 0 = λ x. Ready x in subst P (sym h) (turns e l p)

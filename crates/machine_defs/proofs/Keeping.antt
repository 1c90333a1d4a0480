-- What a settling leaves as it was.
use Rattle.std.proofs.Common.{◌≡◌, ℕ, Bool, true, false, List, Some, refl, ◌∙◌}
use Rattle.std.specs.Prelude.{◌&&◌, not}
use Rattle.machine_vars.specs.declared.vars.Vars.{Vars}
use Rattle.machine_vars.specs.declared.states.Row.{Row}
use Rattle.machine_defs.specs.Table.{Line}
use Rattle.machine_defs.specs.Settling.{all_rows, next, Settles, rests, takes}
use Rattle.machine_defs.proofs.Growth.{own_of}
use Rattle.machine_defs.proofs.Laws.{first_has}
use Rattle.machine_defs.proofs.Counts.{grows_next}

both : (a b : Bool) → a && b ≡ true → b ≡ true
both true b h = h
both false b h = cc

-- the condition of the row that is taken holds
pub next_holds : (v : Vars) (l : Line) → next v ≡ Some l → l.condition v ≡ true
next_holds v l h = both (not v.gone) (l.condition v) (first_has all_rows v l h).1

-- whose the variables are, their times, and what the server sent last
pub keeps_own : {v w : Vars} {rows : List Row} {sent : List (List ℕ)} → Settles v rows sent w → own_of w ≡ own_of v
keeps_own (rests h) = refl
keeps_own (takes {v} l h s) = keeps_own s ∙ (grows_next v l h).same v

-- what is no longer wanted of the server is not wanted later
pub keeps_abort : {v w : Vars} {rows : List Row} {sent : List (List ℕ)} → Settles v rows sent w → v.aaa_abort ≡ true → w.aaa_abort ≡ true
keeps_abort (rests h) a = a
keeps_abort (takes {v} l h s) a = keeps_abort s ((grows_next v l h).abort v a)

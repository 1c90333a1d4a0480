-- What a step that takes the first enabled row of a table does.
use Rattle.std.specs.Prelude.{◌≡◌, List, Some, None, false}
use Rattle.machine_vars.specs.declared.vars.Vars.{Vars}
use Rattle.machine_vars.specs.declared.states.Row.{Row}
use Rattle.machine_defs.specs.Table.{Line, Has, TakesFirst, TakesLeast, is_enabled}

-- the row that it answers is the enabled row of least number, with what that row leaves
abbrev pub AnswersLeast : List Line → Type 0
AnswersLeast table = (v w : Vars) (r : Row) → TakesFirst table v (Some r) w → TakesLeast table v r w

-- where it answers none, nothing is changed and no row is enabled
abbrev pub AnswersNone : List Line → Type 0
AnswersNone table =
    (v w : Vars) → TakesFirst table v None w →
    (w ≡ v) × ((l : Line) → Has l table → is_enabled l v ≡ false)

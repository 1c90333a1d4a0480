-- The share of each lane and of each worker in the records of a phase.
use Rattle.std.specs.Prelude.{ℕ, ◌==◌, List, [], ◌∷◌, ◌++◌, if◌then◌else◌}
use Rattle.legal_defs.specs.Runs.{ControlRecord, DataRecord, Numbered, runs_on, served_by}
use Rattle.legal_defs.specs.Runs.Numbered.{Control, Data}
use Rattle.legal_defs.specs.Blocks.{Shown, Line}
use Rattle.legal_defs.specs.Blocks.Line.{Reply, Decision}

abbrev pub control_for : (lanes lane : ℕ) → Numbered → List ControlRecord
control_for lanes l (Control e) = if runs_on lanes e.lane == l then e ∷ [] else []
control_for lanes l (Data x) = []

-- what runs on this lane, in order
abbrev pub controls_of : (lanes lane : ℕ) → List Numbered → List ControlRecord
controls_of lanes l [] = []
controls_of lanes l (r ∷ rs) = control_for lanes l r ++ controls_of lanes l rs

abbrev pub data_for : (workers worker : ℕ) → Numbered → List DataRecord
data_for workers k (Control e) = []
data_for workers k (Data x) = if served_by workers x.port == k then x ∷ [] else []

-- what this worker decides on, in order
abbrev pub datas_of : (workers worker : ℕ) → List Numbered → List DataRecord
datas_of workers k [] = []
datas_of workers k (r ∷ rs) = data_for workers k r ++ datas_of workers k rs

abbrev pub said_for : (lanes lane : ℕ) → Line → List Shown
said_for lanes l (Reply e s) = if runs_on lanes e.lane == l then s ∷ [] else []
said_for lanes l (Decision x d) = []

-- what was printed on this lane, in order
abbrev pub said_on : (lanes lane : ℕ) → List Line → List Shown
said_on lanes l [] = []
said_on lanes l (x ∷ xs) = said_for lanes l x ++ said_on lanes l xs

abbrev pub heard_for : (workers worker : ℕ) → Line → List Shown
heard_for workers k (Reply e s) = []
heard_for workers k (Decision x d) = if served_by workers x.port == k then d ∷ [] else []

-- what this worker printed, in order
abbrev pub heard_on : (workers worker : ℕ) → List Line → List Shown
heard_on workers k [] = []
heard_on workers k (x ∷ xs) = heard_for workers k x ++ heard_on workers k xs

-- The forms of the program's words.
use Rattle.std.specs.Prelude.{◌≤◌, ◌+◌, ◌==◌, ◌&&◌, ℕ, Bool, true, false, not, nat_le, if◌then◌else◌, List, [], ◌∷◌, Option, None, Some, codes}
use Rattle.std.specs.Str.{bytes_eq}
use Rattle.wire_defs.specs.Number.{number_in}
use Rattle.day_defs.specs.declared.TheConstants.{MOST_HOSTS}
use Rattle.switch_top.specs.declared.form.Form.{Form}
use Rattle.switch_top.specs.declared.form.Form.TheVariants.{Check, Replay, Race, Load, Serve}

-- what follows of what is there
infixl 10 ◌>>=◌
abbrev pub ◌>>=◌ : {A B : Type 0} → Option A → (A → Option B) → Option B
None >>= f = None
(Some x) >>= f = f x

-- `check`, `replay`
abbrev pub alone : List ℕ → Option Form
alone word =
    if bytes_eq word (codes "check") then Some Check
    else if bytes_eq word (codes "replay") then Some Replay
    else None

-- the number of hosts
abbrev pub loaded : List ℕ → Option Form
loaded n = do
  hosts ← number_in 1 MOST_HOSTS n
  Some (Load hosts)

-- `load N`
abbrev pub two : List ℕ → List ℕ → Option Form
two word n = if bytes_eq word (codes "load") then loaded n else None

-- the numbers of workers and of lanes
abbrev pub raced : List ℕ → List ℕ → Option Form
raced w l = do
  workers ← number_in 1 8 w
  lanes ← number_in 1 3 l
  Some (Race workers lanes)

-- `race W L`
abbrev pub three : List ℕ → List ℕ → List ℕ → Option Form
three word w l = if bytes_eq word (codes "race") then raced w l else None

-- none of the four ports from this one on
abbrev pub is_outside : (port first : ℕ) → Bool
is_outside port first = not (nat_le first port && nat_le port (first + 3))

-- the six ports of a server are distinct
abbrev pub is_apart : (frames radius dynamic : ℕ) → Bool
is_apart frames radius dynamic =
    not (frames == dynamic) && is_outside frames radius && is_outside dynamic radius

-- where they are, a server's form
abbrev pub serving : (frames radius dynamic turns : ℕ) → Option Form
serving frames radius dynamic turns =
    if is_apart frames radius dynamic then Some (Serve frames radius dynamic turns) else None

-- the ports of frames, of RADIUS and of dynamic requests, and the number of turns
abbrev pub served : List ℕ → List ℕ → List ℕ → List ℕ → Option Form
served a b c t = do
  frames ← number_in 1 65535 a
  radius ← number_in 1 65532 b
  dynamic ← number_in 1 65535 c
  turns ← number_in 1 100000000 t
  serving frames radius dynamic turns

-- `serve A B C T`
abbrev pub five : List ℕ → List ℕ → List ℕ → List ℕ → List ℕ → Option Form
five word a b c t = if bytes_eq word (codes "serve") then served a b c t else None

-- what the words ask for
abbrev pub form_of : List (List ℕ) → Option Form
form_of [] = None
form_of (word ∷ []) = alone word
form_of (word ∷ a ∷ []) = two word a
form_of (word ∷ a ∷ b ∷ []) = three word a b
form_of (word ∷ a ∷ b ∷ c ∷ []) = None
form_of (word ∷ a ∷ b ∷ c ∷ d ∷ []) = five word a b c d
form_of (word ∷ a ∷ b ∷ c ∷ d ∷ e ∷ rest) = None

-- it is a server's form
abbrev pub is_serve : Option Form → Bool
is_serve (Some (Serve frames radius dynamic turns)) = true
is_serve (Some (Race workers lanes)) = false
is_serve (Some (Load hosts)) = false
is_serve (Some Check) = false
is_serve (Some Replay) = false
is_serve None = false

-- it is a form that reads a trace
abbrev pub reads_trace : Option Form → Bool
reads_trace (Some Check) = true
reads_trace (Some Replay) = true
reads_trace (Some (Race workers lanes)) = true
reads_trace (Some (Load hosts)) = false
reads_trace (Some (Serve frames radius dynamic turns)) = false
reads_trace None = false

-- the numbers of a form are in their ranges
abbrev pub IsInRange : Form → Type 0
IsInRange Check = Unit {0}
IsInRange Replay = Unit {0}
IsInRange (Race workers lanes) = (1 ≤ workers) × (workers ≤ 8) × (1 ≤ lanes) × (lanes ≤ 3)
IsInRange (Load hosts) = (1 ≤ hosts) × (hosts ≤ MOST_HOSTS)
IsInRange (Serve frames radius dynamic turns) = radius ≤ 65532

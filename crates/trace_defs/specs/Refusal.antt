-- How a line comes to be refused: for the first reason that applies.
use Rattle.std.specs.Prelude.{ℕ, Bool, if◌then◌else◌, List, [], ◌∷◌, Option, Some, None, Result, Ok, Err}

-- one part of a line after another, up to the first that is refused
infixl 10 ◌>>=◌
abbrev pub ◌>>=◌ : {A B : Type 0} → Result A ℕ → (A → Result B ℕ) → Result B ℕ
(Ok x) >>= f = f x
(Err why) >>= f = Err why

-- a part of a line that has to be there, or the line is refused for this reason
abbrev pub or_refused : {A : Type 0} → Option A → (why : ℕ) → Result A ℕ
or_refused (Some x) why = Ok x
or_refused None why = Err why

-- tests, each with the reason to refuse a line where it holds: the first that holds decides
abbrev pub unless : {A : Type 0} → List (Bool × ℕ) → Result A ℕ → Result A ℕ
unless [] read = read
unless (check ∷ checks) read = if check.0 then Err check.1 else unless checks read

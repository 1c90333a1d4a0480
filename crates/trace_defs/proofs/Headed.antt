-- A line by the checks that come before its words are read.
use Rattle.std.proofs.Common.{◌≡◌, ℕ, ◌<◌, ◌≤◌, Bool, true, false, cond, not, ltb, List, [], ◌∷◌, length, Option, Some, Result, Err, ap, ◌∙◌, arith}
use Rattle.std.specs.List.{list_all}
use Rattle.std.proofs.lemmas.Bool.Decides.{nat_tests}
use Rattle.switch_event.specs.Config.{Config}
use Rattle.trace_defs.specs.declared.reason.TheConstants.{LONG, OCTET, LANE, WORD, PLACE}
use Rattle.trace_defs.specs.Refusal.{◌>>=◌, or_refused, unless}
use Rattle.trace_defs.specs.Line.{Line, Head, has_wrong_lane, is_unknown, is_misplaced, is_printable, keyword_line, headed_line}

-- a part of a line that is there
pub with-some : {A : Type 0} (o : Option A) (x : A) (why : ℕ) (f : A → Result Line ℕ) → o ≡ Some x → (or_refused o why >>= f) ≡ f x
with-some o x why f e = ap (λ o. or_refused o why >>= f) e

-- a check that does not apply
pub unless-next : {A : Type 0} (b : Bool) (why : ℕ) (more : List (Bool × ℕ)) (read : Result A ℕ) → b ≡ false → unless ((b, why) ∷ more) read ≡ unless more read
unless-next b why more read e = ap (λ b. cond b (Err why) (unless more read)) e

-- a line that is short and printable
abbrev pub spoken_line : Config → ℕ → (begun : Bool) → Head → Result Line ℕ
spoken_line config given begun head =
    unless ((has_wrong_lane head, LANE) ∷ (is_unknown head.keyword head.args, WORD) ∷ (is_misplaced begun head.keyword, PLACE) ∷ [])
    (keyword_line config given head.lane head.keyword head.args)

pub headed-short : (config : Config) (given : ℕ) (begun : Bool) (text : List ℕ) (head : Head) → length text ≤ 10240 → list_all is_printable text ≡ true
    → headed_line config given begun text head ≡ spoken_line config given begun head
headed-short config given begun text head short printed =
    ap (λ b. cond b (Err LONG) (cond (not (list_all is_printable text)) (Err OCTET) (spoken_line config given begun head))) (fits (length text) short)
    ∙ ap (λ b. cond (not b) (Err OCTET) (spoken_line config given begun head)) printed
  where
    fits : (n : ℕ) → n ≤ 10240 → ltb 10240 n ≡ false
    fits n h = grind (arith, nat_tests)

pub headed-long : (config : Config) (given : ℕ) (begun : Bool) (text : List ℕ) (head : Head) → 10240 < length text → headed_line config given begun text head ≡ Err LONG
headed-long config given begun text head long =
    ap (λ b. cond b (Err LONG) (cond (not (list_all is_printable text)) (Err OCTET) (spoken_line config given begun head))) (over (length text) long)
  where
    over : (n : ℕ) → 10240 < n → ltb 10240 n ≡ true
    over n h = grind (arith, nat_tests)

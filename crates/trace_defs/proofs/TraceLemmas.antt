-- A trace that is read line by line.
use Rattle.std.proofs.Common.{◌≡◌, ◌≢◌, ℕ, suc, ◌+◌, ◌-◌, ◌<◌, ◌≤◌, true, false, cond, leb, List, [], ◌∷◌, ◌++◌, length, take, refl, sym, ap, ◌∙◌, arith, append_assoc, Result, Ok, Err, length-append}
use Rattle.std.proofs.Math.Seq.{take-append-add, take-append_seam}
use Rattle.std.proofs.lemmas.Bool.Decides.{nat_tests}
use Rattle.wire_defs.specs.Text.{ended_lines, open_line, last_line}
use Rattle.switch_event.specs.Config.{Config}
use Rattle.trace_defs.specs.Trace.{Progress, Stop, read_lines, go_on, after_line, start, counted_lines, trace_of}
use Rattle.trace_defs.specs.Trace.Reading.{Going, Stopped}
use Rattle.trace_defs.specs.Reading.{HasRead}
use Rattle.wire_defs.proofs.TextLemmas.{ended_lines-feed, ended_lines-other, open_line-append, open_line-other}

-- lines that were read, and then more
pub read_lines-append : (room : ℕ) (p q : Progress) (xs ys : List (List ℕ)) → read_lines room p xs ≡ Going q → read_lines room p (xs ++ ys) ≡ read_lines room q ys
read_lines-append room p q [] ys e = ap (λ r. read_lines room r ys) (same p q e)
  where
    same : (p q : Progress) → Going p ≡ Going q → p ≡ q
    same p q e = cc
read_lines-append room p q (x ∷ xs) ys e = step (after_line room p x) (λ next h. read_lines-append room next q xs ys h) e
  where
    step : (r : Result Progress Stop) → ((next : Progress) → read_lines room next xs ≡ Going q → read_lines room next (xs ++ ys) ≡ read_lines room q ys)
        → go_on p r (λ q. read_lines room q xs) ≡ Going q → go_on p r (λ q. read_lines room q (xs ++ ys)) ≡ read_lines room q ys
    step (Ok next) more e = more next e
    step (Err stop) more e = absurd (cc)

-- a line that stops a trace
pub read_lines-stop : (room : ℕ) (p : Progress) (line : List ℕ) (ys : List (List ℕ)) (stop : Stop) → after_line room p line ≡ Err stop → read_lines room p (line ∷ ys) ≡ Stopped p stop
read_lines-stop room p line ys stop e = ap (λ r. go_on p r (λ q. read_lines room q ys)) e

pub read_lines-next : (room : ℕ) (p q : Progress) (line : List ℕ) (ys : List (List ℕ)) → after_line room p line ≡ Ok q → read_lines room p (line ∷ ys) ≡ read_lines room q ys
read_lines-next room p q line ys e = ap (λ r. go_on p r (λ q. read_lines room q ys)) e

-- nothing was read
pub HasRead-none : (room : ℕ) (config : Config) → HasRead room config [] (start config) []
HasRead-none room config = record { lines = refl; line = refl }

-- another octet of a line
pub HasRead-other : (room : ℕ) (config : Config) (given : List ℕ) (p : Progress) (line : List ℕ) (octet : ℕ) → HasRead room config given p line → octet ≢ 10
    → HasRead room config (given ++ octet ∷ []) p (line ++ octet ∷ [])
HasRead-other room config given p line octet h other = record {
  lines = ap (read_lines room (start config)) (ended_lines-other given octet other) ∙ h.lines;
  line = open_line-other given octet other ∙ ap (λ l. l ++ octet ∷ []) h.line;
}

-- the end of a line
pub HasRead-feed : (room : ℕ) (config : Config) (given : List ℕ) (p q : Progress) (line : List ℕ) → HasRead room config given p line → after_line room p line ≡ Ok q
    → HasRead room config (given ++ 10 ∷ []) q []
HasRead-feed room config given p q line h next = record {
  lines = ap (read_lines room (start config)) (ended_lines-feed given []) ∙ read_lines-append room (start config) p (ended_lines given) (open_line given ∷ []) h.lines
      ∙ read_lines-next room p q (open_line given) [] (ap (after_line room p) h.line ∙ next);
  line = open_line-append given (10 ∷ []);
}

-- the lines that count, where a line of the front stops the trace
pub counted_lines-feed : (limit : ℕ) (given rest : List ℕ) → length given < limit
    → (more : List (List ℕ)) × (counted_lines limit (given ++ 10 ∷ rest) ≡ ended_lines given ++ open_line given ∷ more)
counted_lines-feed limit given rest room =
    elim (leb (length (given ++ 10 ∷ rest)) limit) as (λ b. (more : List (List ℕ)) × (cond b (ended_lines (given ++ 10 ∷ rest) ++ last_line (open_line (given ++ 10 ∷ rest))) (ended_lines (take limit (given ++ 10 ∷ rest))) ≡ ended_lines given ++ open_line given ∷ more)) [
      | true ↦ (
        ended_lines rest ++ last_line (open_line (given ++ 10 ∷ rest)),
        ap (λ l. l ++ last_line (open_line (given ++ 10 ∷ rest))) (ended_lines-feed given rest) ∙ append_assoc (ended_lines given) (open_line given ∷ ended_lines rest) _,
      )
      | false ↦ (ended_lines (take (limit - length given - 1) rest), ap ended_lines (take-feed limit given rest room) ∙ ended_lines-feed given _)
    ]
  where
    take-feed : (limit : ℕ) (given rest : List ℕ) → length given < limit → take limit (given ++ 10 ∷ rest) ≡ given ++ 10 ∷ take (limit - length given - 1) rest
    take-feed limit given rest room =
        let n = limit - length given - 1 in
        let e : limit ≡ length given + suc n = omega arith in
        ap (λ k. take k (given ++ 10 ∷ rest)) e ∙ take-append-add given (10 ∷ rest) (suc n)

-- a line that stops the trace, whatever follows
pub trace_of-stop : (limit room : ℕ) (config : Config) (given rest part : List ℕ) (p : Progress) (stop : Stop) → HasRead room config given p part
    → length given < limit → after_line room p part ≡ Err stop → trace_of limit room config (given ++ 10 ∷ rest) ≡ Stopped p stop
trace_of-stop limit room config given rest part p stop h short e =
    let counted = counted_lines-feed limit given rest short in
    ap (read_lines room (start config)) counted.1 ∙ read_lines-append room (start config) p (ended_lines given) (open_line given ∷ counted.0) h.lines
    ∙ read_lines-stop room p (open_line given) counted.0 stop (ap (after_line room p) h.line ∙ e)

-- more octets than the limit, and no line stops the trace before it
pub trace_of-long : (limit room : ℕ) (config : Config) (given rest part : List ℕ) (p : Progress) → HasRead room config given p part
    → length given ≡ limit → 0 < length rest → (trace_of limit room config (given ++ rest) ≡ Going p) × (leb (length (given ++ rest)) limit ≡ false)
trace_of-long limit room config given rest part p h full more =
    let over : leb (length (given ++ rest)) limit ≡ false = grind (arith, length-append given rest, nat_tests) in
    let front : take limit (given ++ rest) ≡ given = ap (λ k. take k (given ++ rest)) (sym full) ∙ take-append_seam given rest in (
      ap (λ b. read_lines room (start config) (cond b (ended_lines (given ++ rest) ++ last_line (open_line (given ++ rest))) (ended_lines (take limit (given ++ rest))))) over
          ∙ ap (λ l. read_lines room (start config) (ended_lines l)) front ∙ h.lines,
      over,
    )

-- a text of at most so many octets, read to its end
pub trace_of-end : (limit room : ℕ) (config : Config) (given part : List ℕ) (p : Progress) → HasRead room config given p part
    → length given ≤ limit → (trace_of limit room config given ≡ read_lines room p (last_line part)) × (leb (length given) limit ≡ true)
trace_of-end limit room config given part p h fits =
    let within : leb (length given) limit ≡ true = grind (arith, nat_tests) in (
      ap (λ b. read_lines room (start config) (cond b (ended_lines given ++ last_line (open_line given)) (ended_lines (take limit given)))) within
          ∙ read_lines-append room (start config) p (ended_lines given) (last_line (open_line given)) h.lines ∙ ap (λ l. read_lines room p (last_line l)) h.line,
      within,
    )

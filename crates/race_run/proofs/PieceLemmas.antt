-- A piece of a line: octets that are no line feed, and at most one line feed behind them.
use Rattle.std.proofs.Common.{◌≡◌, ◌≢◌, ℕ, suc, ◌+◌, ◌<◌, true, false, List, [], ◌∷◌, ◌++◌, length, length-append, take_all, get_or, get_or-take, eqb, Option, Some, None, sym, ap, ◌∙◌, subst, arith, append_assoc, append-nil}
use Rattle.std.specs.List.{before_first}
use Rattle.std.specs.Io.KnownBytes.{Consumes, Keeps}
use Rattle.std.proofs.lemmas.Bool.{eq-eqb}
use Rattle.std.proofs.lemmas.List.{length-take-le}
use Rattle.std.proofs.Math.Seq.{get_or-append_seam}
use Rattle.switch_event.specs.Config.{Config}
use Rattle.outside_core.specs.Lines.{StopsAtFeed}
use Rattle.trace_defs.specs.Alike.{is_line_feed, len_to_feed}
use Rattle.trace_defs.specs.Reading.{HasRead}
use Rattle.trace_defs.specs.Trace.{Progress}
use Rattle.trace_defs.proofs.AlikePieces.{before_is_plain, before_none, before_some}
use Rattle.trace_defs.proofs.TraceLemmas.{HasRead-other}

-- none of the octets is a line feed
abbrev pub IsPlain : List ℕ → Type 0
IsPlain xs = (k : ℕ) → k < length xs → get_or xs k 0 ≢ 10

-- they join the open line
pub HasRead-plain : (room : ℕ) (config : Config) (given : List ℕ) (p : Progress) (part xs : List ℕ) → HasRead room config given p part → IsPlain xs → HasRead room config (given ++ xs) p (part ++ xs)
HasRead-plain room config given p part [] read plain =
    subst (λ l. HasRead room config l p (part ++ [])) (sym (append-nil given)) (subst (HasRead room config given p) (sym (append-nil part)) read)
HasRead-plain room config given p part (x ∷ xs) read plain =
    subst (λ l. HasRead room config l p (part ++ x ∷ xs)) (append_assoc given (x ∷ []) xs)
    (subst (HasRead room config ((given ++ x ∷ []) ++ xs) p) (append_assoc part (x ∷ []) xs)
    (HasRead-plain room config (given ++ x ∷ []) p (part ++ x ∷ []) xs (HasRead-other room config given p part x read (plain 0 (omega arith))) (λ k low. plain (suc k) (omega arith))))

before_plain : (piece : List ℕ) → IsPlain (before_first is_line_feed piece)
before_plain piece = λ k low is. clash (get_or (before_first is_line_feed piece) k 0) is (before_is_plain piece k low)
  where
    clash : (x : ℕ) → x ≡ 10 → eqb x 10 ≡ false → ⊥
    clash x is other = not_both (sym (eq-eqb x 10 is) ∙ other)
      where
        not_both : true ≡ false → ⊥
        not_both e = cc

-- a piece without a line feed
pub no_feeds : (piece : List ℕ) → len_to_feed piece ≡ None → (before_first is_line_feed piece ≡ piece) × IsPlain piece
no_feeds piece none =
    let whole = before_none piece none in
    (whole, subst IsPlain whole (before_plain piece))

-- a piece with one, which is its last octet
pub one_feed : (piece : List ℕ) (n : ℕ) → StopsAtFeed (length piece) piece → len_to_feed piece ≡ Some n → (piece ≡ before_first is_line_feed piece ++ 10 ∷ []) × IsPlain (before_first is_line_feed piece)
one_feed piece n stops some =
    let front = before_first is_line_feed piece in
    let found = before_some piece n some in
    let long : n ≡ length front + 1 = sym (length-take-le n piece found.0) ∙ ap length found.1 ∙ length-append front (10 ∷ []) in
    let there : get_or piece (length front) 0 ≡ 10 =
    sym (get_or-take n piece (length front) 0 (omega arith)) ∙ ap (λ l. get_or l (length front) 0) found.1 ∙ get_or-append_seam front 10 [] 0 in
    let last : length front + 1 ≡ length piece = stops (length front) (omega arith) there in
    (sym (take_all n piece (omega arith)) ∙ found.1, before_plain piece)

-- where no octet was taken, as many are left as before
pub nothing_taken : (left rest : Option (List ℕ)) (piece : List ℕ) → piece ≡ [] → Consumes left rest piece → Keeps left rest
nothing_taken None rest piece none h = tt
nothing_taken (Some xs) None piece none h = h
nothing_taken (Some xs) (Some ys) piece none h = sym (h ∙ ap (λ l. l ++ ys) none)

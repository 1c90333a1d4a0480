-- What is kept of a line is read as the line, however it goes on.
use Rattle.std.proofs.Common.{◌≡◌, ℕ, List, [], ◌∷◌, ◌++◌, length, set, get_or, refl, sym, ap, ◌∙◌, arith, append_assoc, append-nil, length-append, length-set, inl, inr}
use Rattle.std.proofs.lemmas.Bool.{cases_lt}
use Rattle.trace_defs.specs.Line.{line_of}
use Rattle.trace_defs.proofs.Kept.{kept_of}
use Rattle.trace_defs.specs.Alike.{ReadAlike, stand_in_with}
use Rattle.trace_defs.proofs.KeptLemmas.{line_of-kept, kept_of-none, kept_of-nil, kept_of-short, kept_of-more, kept_of-full, kept_of-fits}

one_more : (x y : List ℕ) (octet : ℕ) → kept_of x ≡ kept_of y → kept_of (x ++ octet ∷ []) ≡ kept_of (y ++ octet ∷ [])
one_more x y octet e =
    elim (cases_lt (length (kept_of x)) 10242) [
      | inl room ↦ kept_of-more x octet room ∙ ap (λ l. l ++ octet ∷ []) e ∙ sym (kept_of-more y octet (omega (arith, ap length e)))
      | inr full ↦
          let whole : length (kept_of x) ≡ 10242 = omega (arith, kept_of-fits x) in
          kept_of-full x octet whole ∙ ap (λ l. set l 10241 (stand_in_with (get_or l 10241 0) octet)) e ∙ sym (kept_of-full y octet (sym (ap length e) ∙ whole))
    ]

some_more : (x y more : List ℕ) → kept_of x ≡ kept_of y → kept_of (x ++ more) ≡ kept_of (y ++ more)
some_more x y [] e = ap kept_of (append-nil x) ∙ e ∙ ap kept_of (sym (append-nil y))
some_more x y (octet ∷ more) e =
    ap kept_of (sym (append_assoc x (octet ∷ []) more)) ∙ some_more (x ++ octet ∷ []) (y ++ octet ∷ []) more (one_more x y octet e)
    ∙ ap kept_of (append_assoc y (octet ∷ []) more)

pub ReadAlike-kept : (kept line : List ℕ) → kept_of kept ≡ kept_of line → ReadAlike kept line
ReadAlike-kept kept line e = record {
  alike = λ config given begun more.
      sym (line_of-kept config given begun (kept ++ more)) ∙ ap (line_of config given begun) (some_more kept line more e) ∙ line_of-kept config given begun (line ++ more);
  none = λ h. kept_of-nil line (sym e ∙ ap kept_of h ∙ kept_of-none);
  some = λ h. kept_of-nil kept (e ∙ ap kept_of h ∙ kept_of-none);
}

pub ReadAlike-none : ReadAlike [] []
ReadAlike-none = ReadAlike-kept [] [] refl

pub ReadAlike-trans : (x y z : List ℕ) → ReadAlike x y → ReadAlike y z → ReadAlike x z
ReadAlike-trans x y z h g = record {
  alike = λ config given begun more. h.alike config given begun more ∙ g.alike config given begun more;
  none = λ e. g.none (h.none e);
  some = λ e. h.some (g.some e);
}

-- one more octet, where there is room for it
pub ReadAlike-more : (kept line : List ℕ) (octet : ℕ) → ReadAlike kept line → ReadAlike (kept ++ octet ∷ []) (line ++ octet ∷ [])
ReadAlike-more kept line octet h = record {
  alike = λ config given begun more.
      ap (line_of config given begun) (append_assoc kept (octet ∷ []) more) ∙ h.alike config given begun (octet ∷ more)
      ∙ ap (line_of config given begun) (sym (append_assoc line (octet ∷ []) more));
  none = λ e. absurd (omega (arith, ap length e, length-append kept (octet ∷ [])));
  some = λ e. absurd (omega (arith, ap length e, length-append line (octet ∷ [])));
}

-- and where there is none
pub ReadAlike-full : (kept line : List ℕ) (octet : ℕ) → length kept ≡ 10242 → ReadAlike kept line
    → ReadAlike (set kept 10241 (stand_in_with (get_or kept 10241 0) octet)) (line ++ octet ∷ [])
ReadAlike-full kept line octet full h =
    let new = set kept 10241 (stand_in_with (get_or kept 10241 0) octet) in
    let same : kept_of kept ≡ kept = kept_of-short kept (omega arith) in
    let is : kept_of (kept ++ octet ∷ []) ≡ new =
    kept_of-full kept octet (ap length same ∙ full) ∙ ap (λ l. set l 10241 (stand_in_with (get_or l 10241 0) octet)) same in
    let short : kept_of new ≡ new = kept_of-short new (omega (arith, length-set kept 10241 (stand_in_with (get_or kept 10241 0) octet))) in
    ReadAlike-trans new (kept ++ octet ∷ []) (line ++ octet ∷ []) (ReadAlike-kept new (kept ++ octet ∷ []) (short ∙ sym is)) (ReadAlike-more kept line octet h)

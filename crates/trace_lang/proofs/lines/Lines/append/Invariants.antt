use Rattle.std.proofs.Common.{◌≡◌, ℕ, List, ◌++◌, take}
use Rattle.trace_defs.specs.Alike.{ReadAlike}
use Rattle.trace_lang.proofs.lines.Lines.append.Given as goal

abbrev pub invariant-loop-octet : goal.invariant-loop-octet
invariant-loop-octet l =
    ((line : List ℕ) → ReadAlike l.initial.self.text line → ReadAlike l.self.text (line ++ take l.octet-index l.octets)) × (l.self.ended ≡ l.initial.self.ended)

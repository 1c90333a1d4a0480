-- Settings that were read are valid where they end.
use Rattle.std.proofs.Common.{◌≡◌, ℕ, Bool, false, List, Result, Ok, Err, IfOk, sym, ap, ◌∙◌}
use Rattle.switch_event.specs.Config.{Config, empty, is_valid}
use Rattle.trace_defs.specs.Line.{line_of}
use Rattle.trace_defs.specs.Trace.{Progress, read_lines, start}
use Rattle.trace_defs.specs.Trace.Reading.{Going}
use Rattle.trace_defs.specs.declared.line.Line.{Line}
use Rattle.trace_defs.specs.declared.line.Line.TheVariants.{Blank, Begin, Sync, Setting, Control, Data}
use Rattle.trace_defs.proofs.ConfigBack.{begin_valid}
use Rattle.trace_lang.specs.declared.line.LineErr.{LineErr}
use Rattle.trace_lang.specs.Meaning.{Sets, IsInPlace, IsValidAtBegin}

pub begins_valid : (r : Result Line LineErr) (old new : Config) (given given' : ℕ) (begun : Bool) (line : List ℕ) → Sets (line_of old given begun line) old given new given' r → IfOk r (IsInPlace begun)
    → (room : ℕ) (lines : List (List ℕ)) (p : Progress) → read_lines room (start empty) lines ≡ Going p → p.config ≡ old → p.given ≡ given → IfOk r (IsValidAtBegin new)
begins_valid (Ok Begin) old new given given' begun line h place room lines p read same_config same_given =
    ap is_valid (h.1.same_config ∙ sym same_config)
    ∙ begin_valid room lines p line read (ap (λ config. line_of config p.given false line) same_config ∙ ap (λ g. line_of old g false line) same_given ∙ ap (λ b. line_of old given b line) (sym place) ∙ h.0)
begins_valid (Ok Blank) old new given given' begun line h place room lines p read same_config same_given = tt
begins_valid (Ok Sync) old new given given' begun line h place room lines p read same_config same_given = tt
begins_valid (Ok Setting) old new given given' begun line h place room lines p read same_config same_given = tt
begins_valid (Ok (Control lane what)) old new given given' begun line h place room lines p read same_config same_given = tt
begins_valid (Ok (Data port octets)) old new given given' begun line h place room lines p read same_config same_given = tt
begins_valid (Err e) old new given given' begun line h place room lines p read same_config same_given = tt

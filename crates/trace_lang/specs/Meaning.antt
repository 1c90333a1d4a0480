-- What the types of this crate mean, and what its readers answer.
use Rattle.std.specs.Prelude.{◌≡◌, ℕ, Bool, true, false, List, Option, Some, None, Result, Ok, Err, ⊤}
use Rattle.switch_event.specs.Config.{Config, is_valid}
use Rattle.trace_defs.specs.declared.reason.TheConstants.{HEX, TWICE}
use Rattle.trace_defs.specs.Line.{Line as Meaning, was_given, with_given}
use Rattle.trace_defs.specs.Line.Line.{Blank as IsBlank, Begin as IsBegin, Sync as IsSync, Setting as IsSetting, Entry}
use Rattle.trace_defs.specs.Line.Record.{Control as ControlEntry, Data as DataEntry}
use Rattle.trace_defs.specs.declared.line.Line.{Line}
use Rattle.trace_defs.specs.declared.line.Line.TheVariants.{Blank, Begin, Sync, Setting, Control, Data}
use Rattle.trace_lang.specs.declared.line.LineErr.{LineErr}
use Rattle.trace_lang.specs.declared.line.LineErr.TheVariants.{Bad, NoMemory}
use Rattle.event_record.specs.Record.{event_of}

-- a line, by the settings after it
abbrev pub meaning : Config → ℕ → Line → Meaning
meaning config given Blank = IsBlank
meaning config given Begin = IsBegin
meaning config given Sync = IsSync
meaning config given Setting = IsSetting config given
meaning config given (Control lane what) = Entry (ControlEntry lane (event_of what))
meaning config given (Data port octets) = Entry (DataEntry port octets)

-- a reader that sets nothing answers what the definition gives, but for want of memory
abbrev pub Means : Result Meaning ℕ → Result Line LineErr → Type 0
Means wanted (Ok Setting) = ⊥
Means wanted (Ok Blank) = wanted ≡ Ok IsBlank
Means wanted (Ok Begin) = wanted ≡ Ok IsBegin
Means wanted (Ok Sync) = wanted ≡ Ok IsSync
Means wanted (Ok (Control lane what)) = wanted ≡ Ok (Entry (ControlEntry lane (event_of what)))
Means wanted (Ok (Data port octets)) = wanted ≡ Ok (Entry (DataEntry port octets))
Means wanted (Err (Bad why)) = wanted ≡ Err why
Means wanted (Err NoMemory) = ⊤

-- the settings are as before
pub record AreKept (old : Config) (given : ℕ) (new : Config) (given' : ℕ) : Type 0 where
  pub same_config : new ≡ old
  pub same_given : given' ≡ given

-- a reader of any line: the settings change only where a setting was read
abbrev pub Sets : Result Meaning ℕ → Config → ℕ → Config → ℕ → Result Line LineErr → Type 0
Sets wanted old given new given' (Ok Setting) = wanted ≡ Ok (IsSetting new given')
Sets wanted old given new given' (Ok Blank) = (wanted ≡ Ok IsBlank) × AreKept old given new given'
Sets wanted old given new given' (Ok Begin) = (wanted ≡ Ok IsBegin) × AreKept old given new given'
Sets wanted old given new given' (Ok Sync) = (wanted ≡ Ok IsSync) × AreKept old given new given'
Sets wanted old given new given' (Ok (Control lane what)) =
    (wanted ≡ Ok (Entry (ControlEntry lane (event_of what)))) × AreKept old given new given'
Sets wanted old given new given' (Ok (Data port octets)) =
    (wanted ≡ Ok (Entry (DataEntry port octets))) × AreKept old given new given'
Sets wanted old given new given' (Err (Bad why)) = (wanted ≡ Err why) × AreKept old given new given'
Sets wanted old given new given' (Err NoMemory) = AreKept old given new given'

-- a setting that is given once is noted, or was given before
abbrev pub Notes : ℕ → (old new : ℕ) → Result ⊤ LineErr → Type 0
Notes k old new (Ok done) = (was_given k old ≡ false) × (new ≡ with_given k old)
Notes k old new (Err (Bad why)) = (was_given k old ≡ true) × (why ≡ TWICE) × (new ≡ old)
Notes k old new (Err NoMemory) = ⊥

-- octets that a word writes
abbrev pub Decodes : Option (List ℕ) → Result (List ℕ) LineErr → Type 0
Decodes wanted (Ok octets) = wanted ≡ Some octets
Decodes wanted (Err (Bad why)) = (wanted ≡ None) × (why ≡ HEX)
Decodes wanted (Err NoMemory) = ⊤

-- settings and `begin` stand before `begin`, records and `sync` after it
abbrev pub IsInPlace : (begun : Bool) → Line → Type 0
IsInPlace begun Blank = ⊤
IsInPlace begun Begin = begun ≡ false
IsInPlace begun Setting = begun ≡ false
IsInPlace begun Sync = begun ≡ true
IsInPlace begun (Control lane what) = begun ≡ true
IsInPlace begun (Data port octets) = begun ≡ true

-- the settings are valid where they end
abbrev pub IsValidAtBegin : Config → Line → Type 0
IsValidAtBegin config Begin = is_valid config ≡ true
IsValidAtBegin config line = ⊤

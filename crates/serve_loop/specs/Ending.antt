-- What the ends of a run are to the program.
use Rattle.std.specs.Prelude.{ℕ}
use Rattle.settings_reader.specs.declared.settings_err.SettingsErr.{SettingsErr}
use Rattle.settings_reader.specs.declared.settings_err.SettingsErr.TheVariants as settings
use Rattle.serve_loop.specs.declared.ending.Ending.{Ending}
use Rattle.serve_loop.specs.declared.ending.Ending.TheVariants.{Done, NoMemory, Refused, ReadFault, WriteFault, Full, LinkFault, TooLong}

-- where there are no settings
abbrev pub ending_of : SettingsErr → Ending
ending_of settings.NoMemory = NoMemory
ending_of (settings.Refused line why) = Refused line why
ending_of settings.ReadFault = ReadFault
ending_of settings.TooLong = TooLong

abbrev pub status_of : Ending → ℕ
status_of Done = 0
status_of NoMemory = 1
status_of (Refused line why) = 3
status_of ReadFault = 4
status_of WriteFault = 5
status_of Full = 6
status_of LinkFault = 7
status_of TooLong = 8

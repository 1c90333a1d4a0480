-- A client and the replies that are kept for it, where they lie.
use Rattle.std.specs.Prelude.{List}
use Rattle.std.specs.Borrow.{Bor}
use Rattle.kept_defs.specs.Kept.{Entry}
use Rattle.switch_event.specs.Config.{Client}

abbrev pub known : Bor Client × Bor (List Entry) → Client × List Entry
known k = (k.0.now, k.1.now)

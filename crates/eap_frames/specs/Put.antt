-- A thing at the end of a tray.
use Rattle.std.specs.Prelude.{◌≡◌, [], ◌∷◌, ◌++◌}
use Rattle.switch_event.specs.Sent.{Sent}
use Rattle.out_tray.specs.Tray.{Things}

-- it was appended, and nothing else was changed
abbrev pub IsPut : Sent → (before after : Things) → Type 0
IsPut item before after = after ≡ record before { items = before.items ++ item ∷ [] }

use Rattle.std.proofs.Common.{sym, ◌∙◌}
use Rattle.out_tray.proofs.Append.{count_from}
use Rattle.out_tray.proofs.tray.Tray.len.Goals as goal

pub returns : goal.returns
returns c =
    rw (← c.self.view_is) (c.len.ensures ∙ c.self.inside.entries.ok.0 ∙ sym (count_from 0 c.self.inside.entries.items c.self.inside.octets.items))

use Rattle.std.proofs.Common.{◌∷◌, [], ℕ, List, true, ap, ◌∙◌}
use Rattle.switch_event.specs.declared.config.PortConf.{PortConf}
use Rattle.switch_event.specs.Config.{Config, empty}
use Rattle.day_defs.specs.Office.{settings, ports}
use Rattle.day_defs.specs.Server.{secret}
use Rattle.day_maker.proofs.office.settings.Goals as goal

-- settings with another server, secret and ports, and hosts that authenticate again
abbrev with_office : Config → (secret : List ℕ) → (ports : List PortConf) → Config
with_office c secret ports = record c { server = record { ip = 192 ∷ 0 ∷ 2 ∷ 20 ∷ []; port = 1812 }; secret = secret; ports = ports; times = record c.times { reauth = true } }

pub returns : goal.returns
unfolding settings
returns c =
    ap (λ (before : Config). with_office before c.secret-config-inside.result.items c.ports-config-inside.result.items) (c.config.view_is ∙ c.empty-config.ensures)
    ∙ ap (λ (s : List ℕ). with_office empty s c.ports-config-inside.result.items) c.secret-config-inside.ensures
    ∙ ap (with_office empty secret) c.ports-config-inside.ensures

use Rattle.std.proofs.Common.{◌∙◌, ℕ, ap, refl}
use Rattle.switch_event.specs.Config.{Config}
use Rattle.serve_loop.proofs.Whole.{settings_read, ends_unbound, ends_served}
use Rattle.serve_loop.proofs.top.serve_within.Goals as goal

pub returns-in-Err-bind_all-clause-ends : goal.returns-in-Err-bind_all-clause-ends
returns-in-Err-bind_all-clause-ends g c =
    ends_unbound c.args.limit c.args.room c.args.turns c.args.ports.now _ _ c.in-Ok.config c.in-Ok.ensures.ends refl c.bind_all.ensures.sent c.bind_all.ensures.waits c.in-Err-bind_all.ensures.err refl

pub serve_from-requires-clause-settings : goal.serve_from-requires-clause-settings
serve_from-requires-clause-settings g c =
    settings_read c.args.limit _ _ c.in-Ok.config _ c.now.result c.in-Ok.ensures.ends
    (ap (λ (k : Config). record k { clock = c.min.result }) c.config.view_is ∙ ap (λ (n : ℕ). record c.in-Ok.config { clock = n }) c.min.ensures)

pub returns-clause-ends : goal.returns-clause-ends
returns-clause-ends g c =
    ends_served c.args.limit c.args.room c.args.turns c.args.ports.now _ _ c.in-Ok.config _ c.now.result _ _ _ _ c.serve_from.result c.in-Ok.ensures.ends c.in_default.ensures.ok c.serve_from.ensures.bound c.now.ensures.told c.in_default.ensures.waits c.in_default.ensures.sent
    (ap (λ (k : Config). record k { clock = c.min.result }) c.config.view_is ∙ ap (λ (n : ℕ). record c.in-Ok.config { clock = n }) c.min.ensures) c.serve_from.ensures.ends

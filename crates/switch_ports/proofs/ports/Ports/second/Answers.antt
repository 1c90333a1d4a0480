-- The settings of the ports are as before.
use Rattle.std.proofs.Common.{◌≡◌, ap, subst, sym, drop, length, map, ◌∙◌, refl}
use Rattle.std.proofs.lemmas.List.{length-map}
use Rattle.switch_defs.specs.Turn.{guest_second}
use Rattle.switch_defs.specs.Sound.{confs}
use Rattle.switch_defs.proofs.Keeping.{confs_map}
use Rattle.switch_ports.specs.Index.{IsIndex}
use Rattle.switch_ports.proofs.Rows.{back}
use Rattle.switch_ports.proofs.ports.Ports.second.Goals as goal

pub invariant_of-self : goal.invariant_of-self
invariant_of-self c =
    let done : c.rows_second.new.rows ≡ map guest_second c.self.inside.rows.items = c.rows_second.ensures.rows ∙ ap (map guest_second) c.deref_mut.ensures.value in
    let long : c.self.inside.rows.len ≡ length c.rows_second.new.rows = sym (ap length c.rows_second.ensures.rows ∙ length-map c.deref_mut.result.now guest_second ∙ c.deref_mut.ensures.len) in
    let all = back c.self.inside.rows.len c.rows_second.new.rows (drop (length c.rows_second.new.rows) c.self.inside.rows.items) long in
    subst (IsIndex c.self.inside.places) (sym (ap confs (all ∙ done) ∙ confs_map guest_second (λ p. refl) c.self.inside.rows.items)) c.self.invariant

use Rattle.std.proofs.Common.{◌≡◌, ℕ, ◌≤◌, List, [], length, Option, None, Some, ap, subst, sym, ◌∙◌}
use Rattle.std.specs.Borrow.{Bor}
use Rattle.std.specs.Option.{option_or}
use Rattle.std.specs.List.{All}
use Rattle.radius_defs.specs.declared.limit.TheConstants.{MOST_VALUE}
use Rattle.radius_defs.specs.Packet.{Attribute, first_value}
use Rattle.radius_packet.specs.Views.{value_in}
use Rattle.radius_packet.proofs.ShortValues.{lent-first}
use Rattle.radius_packet.proofs.packet.Packet.first_of_three.Goals as goal

short : (c : goal.In-None) → All (λ (a : Attribute). length a.value ≤ MOST_VALUE) c.args.self.now.attributes
short c = subst (All (λ (a : Attribute). length a.value ≤ MOST_VALUE)) c.attributes-kind-items.ensures.same c.attributes-kind-items.ensures.short

-- what was found when the walk is over
found : (lent : Option (Bor (List ℕ))) (kind : ℕ) (left all : List Attribute) → left ≡ []
    → option_or (value_in lent) (first_value kind left) ≡ first_value kind all → value_in lent ≡ first_value kind all
found None kind left all over is = ap (first_value kind) (sym over) ∙ is
found (Some v) kind left all over is = is

pub returns-clause-short_first : goal.returns-clause-short_first
returns-clause-short_first c =
    lent-first c.loop-kind.first c.args.a c.args.self.now.attributes
    (found c.loop-kind.first c.args.a c.loop-kind.kind-iterator c.args.self.now.attributes c.in-None.ensures.steps.0 c.loop-kind.invariant.first) (short c)

pub returns-clause-short_second : goal.returns-clause-short_second
returns-clause-short_second c =
    lent-first c.loop-kind.second c.args.b c.args.self.now.attributes
    (found c.loop-kind.second c.args.b c.loop-kind.kind-iterator c.args.self.now.attributes c.in-None.ensures.steps.0 c.loop-kind.invariant.second) (short c)

pub returns-clause-short_third : goal.returns-clause-short_third
returns-clause-short_third c =
    lent-first c.loop-kind.third c.args.c c.args.self.now.attributes
    (found c.loop-kind.third c.args.c c.loop-kind.kind-iterator c.args.self.now.attributes c.in-None.ensures.steps.0 c.loop-kind.invariant.third) (short c)

use Rattle.std.proofs.Common.{◌++◌, List, ℕ, length, ap, ◌∙◌}
use Rattle.std.proofs.lemmas.List.{drop-replicate}
use Rattle.radius_auth.proofs.block_of.Goals as goal

pub returns : goal.returns
returns c = c.write_front.ensures ∙ ap (λ (xs : List ℕ). c.args.octets.now ++ xs) (drop-replicate (length c.args.octets.now) 64 0)

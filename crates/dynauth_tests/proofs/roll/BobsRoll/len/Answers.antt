use Rattle.std.proofs.Common.{refl, lit<}
use Rattle.dynauth_tests.proofs.RollLemmas.{is_roll-two}
use Rattle.dynauth_tests.proofs.roll.BobsRoll.len.Goals as goal

pub returns-clause-roll : goal.returns-clause-roll
returns-clause-roll c = is_roll-two c.args.self.now.len _ _ c.args.self.now.few (lit< tt) refl refl

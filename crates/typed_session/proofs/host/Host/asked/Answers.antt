use Rattle.std.proofs.Common.{◌∙◌}
use Rattle.std.proofs.Common.{ℕ, List, ◌≤◌, length, sym, subst}
use Rattle.typed_session.proofs.Caring.{server_named}
use Rattle.typed_session.proofs.Shapes.{same_identity, same_response}
use Rattle.typed_session.proofs.host.Host.asked.Goals as goal

pub returns-clause-identity : goal.returns-clause-identity
returns-clause-identity c = λ v s g. c.identity.ensures.value ∙ same_identity s g

pub returns-clause-response : goal.returns-clause-response
returns-clause-response c = λ v s g e. c.response.ensures.value ∙ same_response s g e

pub returns-clause-named : goal.returns-clause-named
returns-clause-named c = λ n e. (let P : List ℕ → Type 0 = λ xs. 1 ≤ length xs in subst P (sym c.identity.ensures.value) (server_named c.args.self.now n e))

use Rattle.std.proofs.Common.{rules, ◌≡◌, true, ap, ◌∙◌, subst}
use Rattle.switch_event.specs.Config.{is_valid}
use Rattle.switch_defs.specs.Switch.{opening}
use Rattle.table_defs.specs.Table.{opening_table}
use Rattle.switch_book.proofs.Telling.{kept_opened}
use Rattle.switch_book.proofs.book.Book.open.Goals as goal

pub invariant_of-book : goal.invariant_of-book
invariant_of-book g c =
    let A = g.A.Authenticator in
    let published = c.in_ok-publisher.ensures.publisher in
    let same : c.args.config ≡ c.in_ok-settings.settings.value = search rules in
    let table : c.opening-table.result ≡ opening_table c.args.config = c.opening-table.ensures in
    let opens : (core : _) → A.stands core (opening c.args.config) → A.stands core (opening c.in_ok-settings.settings.value) = λ core s. subst (λ k. A.stands core (opening k)) same s in
    kept_opened A.stands A.made c.in_ok-settings.settings.value _ _ _ _ _ _ (subst (λ k. is_valid k ≡ true) same c.requires.valid) c.in_ok-journal.ensures.0 published.1 (published.0 ∙ table ∙ ap opening_table same)
    (opens _ (search rules)) (opens _ (search rules)) (search rules) (search rules)

pub returns-clause-workers : goal.returns-clause-workers
returns-clause-workers g c = λ k d l.
    let p = c.in_ok-publisher.publisher in
    let published = c.in_ok-publisher.ensures.publisher in
    let table : c.opening-table.result ≡ opening_table c.args.config = c.opening-table.ensures in
    let is : _ ≡ p = c.in_ok-publisher.ensures.viewers k d l in (ap (λ f. f.name) is, ap (λ f. f.first) is ∙ published.0 ∙ table, ap (λ f. f.list) is ∙ published.1)

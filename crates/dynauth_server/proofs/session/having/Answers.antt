use Rattle.std.proofs.Common.{◌≡◌, ◌+◌, Some, None, drop, ap, sym, ◌∙◌, arith}
use Rattle.std.specs.Prelude.{slice_get, filter}
use Rattle.std.specs.Option.{option_map}
use Rattle.dynauth_server.specs.Roll.{row_of}
use Rattle.dynauth_server.specs.Sought.{names}
use Rattle.dynauth_server.proofs.SessionLemmas.{after, passed, none_left, none_more, found_again, found_first, at_end}
use Rattle.dynauth_server.proofs.session.having.Goals as goal
use Rattle.dynauth_server.proofs.session.having.Goals.{in-Some+then-names+else-is_some, in-Some+else-names, in_default}

pub returns-then-is_some : goal.returns-then-is_some
returns-then-is_some g c =
    let rows = g.R.Roll.rows c.args.roll.now in
    let there : slice_get rows c.loop-n.n ≡ Some (row_of c.in-Some.row) = sym c.row.ensures ∙ ap (option_map row_of) c.in-Some.is in
    found_again (names c.args.sought.now) rows c.loop-n.n (row_of c.in-Some.row) c.loop-n.found there (sym c.names.ensures ∙ c.if-names.true) (sym c.is_some.ensures ∙ c.if-is_some.true) c.loop-n.invariant

pub loop-n-preserved : goal.loop-n-preserved
loop-n-preserved g c =
    let rows = g.R.Roll.rows c.args.roll.now in
    let test = names c.args.sought.now in
    elim c.match-row.branch [
      | in-Some+then-names+else-is_some w ↦
          let there : slice_get rows c.loop-n.n ≡ Some (row_of w.in-Some.row) = sym c.row.ensures ∙ ap (option_map row_of) w.in-Some.is in
          ap (λ found. after found (filter test (drop (c.loop-n.n + 1) rows))) w.found-is
          ∙ found_first test rows c.loop-n.n (row_of w.in-Some.row) c.loop-n.found there (sym w.names.ensures ∙ w.if-names.true) (sym w.is_some.ensures ∙ w.if-is_some.false)
          ∙ c.loop-n.invariant
      | in-Some+else-names w ↦
          let there : slice_get rows c.loop-n.n ≡ Some (row_of w.in-Some.row) = sym c.row.ensures ∙ ap (option_map row_of) w.in-Some.is in
          ap (λ found. after found (filter test (drop (c.loop-n.n + 1) rows))) w.found-is
          ∙ ap (after c.loop-n.found) (sym (passed test rows c.loop-n.n (row_of w.in-Some.row) there (sym w.names.ensures ∙ w.if-names.false)))
          ∙ c.loop-n.invariant
      | in_default w ↦
          let none : slice_get rows c.loop-n.n ≡ None = sym c.row.ensures ∙ ap (option_map row_of) w.in_default.is in
          ap (λ found. after found (filter test (drop (c.loop-n.n + 1) rows))) w.found-is
          ∙ ap (λ left. after c.loop-n.found (filter test left)) (none_more rows c.loop-n.n none ∙ sym (none_left rows c.loop-n.n none))
          ∙ c.loop-n.invariant
    ]

pub returns : goal.returns
returns g c =
    let rows = g.R.Roll.rows c.args.roll.now in
    sym (at_end (names c.args.sought.now) rows c.loop-n.n c.loop-n.found (omega (arith, c.len-n-end.ensures.count))) ∙ c.loop-n.invariant

use Rattle.std.proofs.Common.{refl, subst, sym, ◌∙◌, ◌++◌}
use Rattle.std.specs.List.{before_first}
use Rattle.trace_defs.specs.Alike.{ReadAlike, is_line_feed}
use Rattle.race_run.specs.Run.{given_by}
use Rattle.race_run.proofs.EndLemmas.{TakesPiece-feed, StopsAtPiece-fed}
use Rattle.race_run.proofs.PieceLemmas.{no_feeds, one_feed, HasRead-plain}
use Rattle.race_run.proofs.StepLemmas.{IsAt-line}
use Rattle.race_run.proofs.run.Run.take_piece.Goals as goal

pub returns-in-None-clause-ok : goal.returns-in-None-clause-ok
returns-in-None-clause-ok g c = λ config origin given p at held.
    let whole = no_feeds c.args.piece.now (sym c.feed.ensures.count ∙ c.in-None.is) in (
      p,
      IsAt-line g.R.RunsPhases.stands (given_by g.R.RunsPhases.numbers g.R.RunsPhases.gave) origin _ c.args.self.now _ c.args.runner.now p refl at,
      record {
        part = held.part ++ c.args.piece.now;
        kept = subst (λ l. ReadAlike c.feed.new.self.text (held.part ++ l)) whole.0 (c.feed.ensures.text held.part held.kept);
        read = HasRead-plain c.args.room config given p held.part c.args.piece.now held.read whole.1;
      },
    )

pub returns-in-Some-clause-ok : goal.returns-in-Some-clause-ok
returns-in-Some-clause-ok g c =
    let feed = one_feed c.args.piece.now c.in-Some.field-0 c.requires.piece (sym c.feed.ensures.count ∙ c.in-Some.is) in
    TakesPiece-feed g.R.RunsPhases.stands (given_by g.R.RunsPhases.numbers g.R.RunsPhases.gave) c.end_line.result c.args.room c.args.piece.now (before_first is_line_feed c.args.piece.now) _ _ c.args.self.now (record c.args.self.now { line = c.feed.new.self }) c.end_line.new.self c.args.runner.now c.end_line.new.runner feed refl
    c.feed.ensures.text c.end_line.ensures.ok c.end_line.ensures.next

pub returns-in-Some-clause-err : goal.returns-in-Some-clause-err
returns-in-Some-clause-err g c =
    let feed = one_feed c.args.piece.now c.in-Some.field-0 c.requires.piece (sym c.feed.ensures.count ∙ c.in-Some.is) in
    StopsAtPiece-fed g.R.RunsPhases.stands (given_by g.R.RunsPhases.numbers g.R.RunsPhases.gave) c.end_line.result c.args.room c.args.piece.now (before_first is_line_feed c.args.piece.now) _ _ c.args.self.now (record c.args.self.now { line = c.feed.new.self }) c.args.runner.now c.end_line.new.runner feed refl
    c.feed.ensures.text c.end_line.ensures.err

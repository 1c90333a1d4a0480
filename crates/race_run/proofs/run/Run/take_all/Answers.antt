use Rattle.std.proofs.Common.{◌≡◌, ◌+◌, ◌<◌, ◌≤◌, [], length, arith, ap, refl, ◌∙◌, length-take}
use Rattle.std.proofs.lemmas.Grind.{common_steps}
use Rattle.std.proofs.lemmas.List.{nil_from_length}
use Rattle.switch_event.specs.Config.{empty}
use Rattle.race_run.specs.Run.{given_by}
use Rattle.race_run.proofs.EndLemmas.{HasReached-none, HasReached-more, RunEnds-end, RunEnds-piece, RunEnds-long, RunEnds-fault}
use Rattle.race_run.proofs.PieceLemmas.{nothing_taken}
use Rattle.race_run.proofs.SoundLemmas.{sound_start}
use Rattle.race_run.proofs.run.Run.take_all.Goals as goal

pub pieces-init : goal.pieces-init
pieces-init g c = record {
  within = omega arith;
  lines = (let none = c.requires.start.lines in omega (arith, none));
  sound = sound_start g.R.RunsPhases.fresh g.R.RunsPhases.stands (given_by g.R.RunsPhases.numbers g.R.RunsPhases.gave) c.args.self.now c.args.runner.now c.requires.start c.requires.fresh;
  line = ap (λ l. l.ended) c.requires.start.line;
  reached = HasReached-none g.R.RunsPhases.stands (given_by g.R.RunsPhases.numbers g.R.RunsPhases.gave) c.args.room _ _ c.args.self.now c.args.runner.now c.requires.start;
  same = refl;
  source_later = omega arith;
  out_later = omega arith;
}

pub returns-in-Err-clause-ends : goal.returns-in-Err-clause-ends
returns-in-Err-clause-ends g c =
    RunEnds-fault g.R.RunsPhases.stands (given_by g.R.RunsPhases.numbers g.R.RunsPhases.gave) c.args.limit c.args.room empty _ _ _ _ _ c.pieces.count c.pieces.self c.pieces.runner c.pieces.invariant.reached c.in-Err.ensures.octets

pub returns-then-is_empty-clause-ends : goal.returns-then-is_empty-clause-ends
returns-then-is_empty-clause-ends g c =
    let none : c.in-Ok.piece.now ≡ [] = nil_from_length _ (grind (arith, common_steps)) in
    RunEnds-end g.R.RunsPhases.stands (given_by g.R.RunsPhases.numbers g.R.RunsPhases.gave) c.args.limit c.args.room empty _ _ _ _ _ _ c.pieces.count c.pieces.self c.pieces.runner c.finish.new.runner c.finish.result c.pieces.invariant.reached c.pieces.invariant.within
    (nothing_taken _ _ c.in-Ok.piece.now none c.in-Ok.ensures.octets.0) (c.in-Ok.ensures.octets.1 none) c.finish.ensures.ends

pub returns-then-count-limit-clause-ends : goal.returns-then-count-limit-clause-ends
returns-then-count-limit-clause-ends g c =
    let some : 0 < length c.in-Ok.piece.now = grind (arith, common_steps) in
    RunEnds-long g.R.RunsPhases.stands (given_by g.R.RunsPhases.numbers g.R.RunsPhases.gave) c.args.limit c.args.room empty _ _ _ _ _ c.pieces.count c.in-Ok.piece.now c.pieces.self c.pieces.runner c.pieces.invariant.reached c.if-count-limit.true some c.in-Ok.ensures.octets.0

pub returns-in-Err-take_piece-clause-ends : goal.returns-in-Err-take_piece-clause-ends
returns-in-Err-take_piece-clause-ends g c =
    let within : c.pieces.count + length c.in-Ok.piece.now ≤ c.args.limit = omega (arith, c.pieces.invariant.within, c.if-count-limit.false, c.in-Ok.ensures.most, c.min.ensures, c.max-most.ensures, length-take c.max-most.result c.pieces.buf) in
    RunEnds-piece g.R.RunsPhases.stands (given_by g.R.RunsPhases.numbers g.R.RunsPhases.gave) c.args.limit c.args.room empty _ _ _ _ _ _ c.pieces.count c.in-Ok.piece.now c.pieces.self c.pieces.runner c.take_piece.new.runner c.in-Err-take_piece.ending c.pieces.invariant.reached
    within c.in-Ok.ensures.octets.0 c.in-Err-take_piece.ensures.err

pub pieces-preserved : goal.pieces-preserved
pieces-preserved g c =
    let within : c.pieces.count + length c.in-Ok.piece.now ≤ c.args.limit = omega (arith, c.pieces.invariant.within, c.if-count-limit.false, c.in-Ok.ensures.most, c.min.ensures, c.max-most.ensures, length-take c.max-most.result c.pieces.buf) in
    let some : 0 < length c.in-Ok.piece.now = grind (arith, common_steps) in
    record {
      within = within;
      lines = omega (arith, c.pieces.invariant.lines, c.in_default.ensures.sound.1, some);
      sound = c.in_default.ensures.sound.0;
      line = c.in_default.ensures.line;
      reached = HasReached-more g.R.RunsPhases.stands (given_by g.R.RunsPhases.numbers g.R.RunsPhases.gave) c.args.room _ _ _ _ _ _ _ c.pieces.count c.in-Ok.piece.now c.pieces.self c.take_piece.new.self c.pieces.runner c.take_piece.new.runner c.pieces.invariant.reached c.in-Ok.ensures.octets.0 c.in_default.ensures.ok;
      same = c.in_default.ensures.same ∙ c.pieces.invariant.same;
      source_later = omega (arith, c.pieces.invariant.source_later, c.in-Ok.ensures.cause.later);
      out_later = omega (arith, c.pieces.invariant.out_later, c.in_default.ensures.cause.later);
    }

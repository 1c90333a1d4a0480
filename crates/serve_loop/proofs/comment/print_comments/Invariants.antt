use Rattle.std.proofs.Common.{◌≡◌, ◌++◌, length}
use Rattle.serve_defs.specs.Log.{commented}
use Rattle.serve_loop.proofs.comment.print_comments.Given as goal

abbrev pub invariant-lines : goal.invariant-lines
invariant-lines l = record {
  written : l.out.items ++ commented l.rest ≡ l.fn.out.items ++ commented l.fn.text;
}

abbrev pub decreases-lines : goal.decreases-lines
decreases-lines l = length l.rest

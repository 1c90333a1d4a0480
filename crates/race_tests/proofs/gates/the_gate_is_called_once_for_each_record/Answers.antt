use Rattle.race_tests.proofs.Simply.{simple_more}
use Rattle.race_tests.proofs.gates.the_gate_is_called_once_for_each_record.Goals as goal

pub run_at-requires-clause-simple : goal.run_at-requires-clause-simple
run_at-requires-clause-simple g c κs =
    simple_more _ _ c.second.ensures
    (simple_more _ _ c.second-2.ensures
    (simple_more _ _ c.in_ok-frame.ensures
    (simple_more _ _ c.second-3.ensures
    (simple_more _ _ c.in_ok-frame-2.ensures
    (simple_more _ _ c.in_ok-frame-3.ensures
    (simple_more _ _ c.second-4.ensures (simple_more _ _ c.in_ok-frame-4.ensures (simple_more _ _ c.second-5.ensures c.in_ok-frame-5.ensures))))))))

use Rattle.std.proofs.Common.{◌≡◌, ◌+◌, ◌-◌, ◌%◌, map}
use Rattle.std.specs.Prelude.{find}
use Rattle.std.specs.List.{range_with_len}
use Rattle.aaa_defs.specs.declared.TheConstants.{NAMES}
use Rattle.aaa_defs.specs.Waits.{is_free, round_from}
use Rattle.aaa_client.proofs.waits.Waits.next_name.Given as goal

-- those of the round before this step are not free
abbrev pub invariant-loop-step : goal.invariant-loop-step
invariant-loop-step l =
    find (is_free l.self) (map (λ step. (l.first + step) % NAMES) (range_with_len l.step (NAMES - l.step))) ≡ find (is_free l.self) (round_from l.first)

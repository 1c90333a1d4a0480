-- Where the port of each number stands. No public clause cites this module.
use Rattle.std.specs.Prelude.{◌≡◌, ◌==◌, ◌<◌, ℕ, true, List, length, slice_index_or, Option, None}
use Rattle.std.specs.List.{position}
use Rattle.switch_event.specs.declared.config.PortConf.{PortConf}
use Rattle.switch_event.specs.Config.{are_ports}

abbrev pub place_of : ℕ → List PortConf → Option ℕ
place_of n confs = position (λ c. c.port == n) confs

-- the ports are 1 to 60, no two are the same, and for each number from 0 to 60 there is the place of its port
pub record IsIndex (places : List (Option ℕ)) (confs : List PortConf) : Type 0 where
  pub size : length places ≡ 61
  pub place : (n : ℕ) → n < 61 → slice_index_or places n None ≡ place_of n confs
  pub ports : are_ports confs ≡ true

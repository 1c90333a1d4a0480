-- Worked examples: texts that may be printed.
use Rattle.std.proofs.Common.{◌≡◌, ℕ, ◌<◌, ◌+◌, refl, true, List, [], ◌∷◌, ◌++◌, codes, arith}
use Rattle.std.proofs.lemmas.Bool.Decides.{nat_tests}
use Rattle.std.specs.Fmt.{digits}
use Rattle.hex.proofs.OnLiterals.{hex_on_literals}
use Rattle.machine_vars.specs.declared.control.Control.TheVariants.{Auto, ForceAuth}
use Rattle.switch_event.specs.Config.{Config, empty}
use Rattle.switch_event.specs.Event.{Link}
use Rattle.trace_defs.specs.Line.{Record}
use Rattle.trace_defs.specs.Line.Record.{Control, Data}
use Rattle.settle_defs.specs.Settle.{settled}
use Rattle.switch_defs.specs.History.{after}
use Rattle.legal_defs.specs.Runs.{ControlRecord, DataRecord}
use Rattle.legal_defs.specs.Blocks.{Shown, block}
use Rattle.legal_defs.specs.Blocks.Line.{Reply, Decision}
use Rattle.legal_defs.specs.Legal.{times, once_below, IsLegal}

abbrev settings : Config
settings = record empty {
  ports =
      record { port = 1; native = 10; control = Auto; restricted = 0; guest = 0 }
      ∷ record { port = 2; native = 20; control = ForceAuth; restricted = 0; guest = 0 }
      ∷ [];
}

abbrev frame : List ℕ
frame = 255 ∷ 255 ∷ 255 ∷ 255 ∷ 255 ∷ 255 ∷ 2 ∷ 0 ∷ 0 ∷ 0 ∷ 0 ∷ 187 ∷ 8 ∷ 0 ∷ 69 ∷ 0 ∷ []

abbrev line : List ℕ → List ℕ
line text = text ++ 10 ∷ []

abbrev shown : (count : ℕ) → List ℕ → (forwards : ℕ) → Shown
shown count text forwards = record { count = count; text = text; forwards = forwards }

abbrev up : (number lane port : ℕ) → ControlRecord
up number lane port = record { number = number; lane = lane; event = Link port true }

abbrev arrival : DataRecord
arrival = record { number = 2; port = 2; octets = frame }

-- two links come up, each on a lane of its own. The second record may come first in the history
abbrev two_links : List (List Record)
two_links = (Control 1 (Link 1 true) ∷ Control 2 (Link 2 true) ∷ []) ∷ []

abbrev first_shown : List ℕ
first_shown = line (codes "c 1 @1 1 ok") ++ line (codes "f 1 0180c2000003020000010101888e020000050100000501")

abbrev second_shown : List ℕ
second_shown = line (codes "c 2 @2 0 ok") ++ line (codes "f 2 0180c2000003020000010102888e0200000403000004")

both_once : (n : ℕ) → times n (shown 1 first_shown 0 ∷ shown 0 second_shown 0 ∷ []) ≡ once_below n 2
both_once n = grind (arith, nat_tests)

the_second_lane_is_first : IsLegal settings 2 1 two_links (first_shown ++ second_shown)
unfolding hex_on_literals digits after settled
the_second_lane_is_first = record {
  history = record { lane = 2; event = Link 2 true } ∷ record { lane = 1; event = Link 1 true } ∷ [];
  blocks =
      block 0 (Reply (up 1 1 1) (shown 1 first_shown 0))
      ∷ block 0 (Reply (up 2 2 2) (shown 0 second_shown 0))
      ∷ [];
  ordered = record {
    each = refl;
    once = both_once;
    order = ((((λ (same : 1 ≡ 2). absurd (omega arith)), (λ (later : 0 < 0). absurd (omega arith))), tt), (tt, tt));
    replies = ((refl, refl), ((refl, refl), tt));
  };
  decisions = (tt, (tt, tt));
  printed = refl;
}

-- a link comes up, and a frame comes in: the worker may decide before it knows of the link, or after
abbrev link_and_frame : List (List Record)
link_and_frame = (Control 1 (Link 2 true) ∷ Data 2 frame ∷ []) ∷ []

abbrev link_shown : List ℕ
link_shown = line (codes "c 1 @1 0 ok") ++ line (codes "f 2 0180c2000003020000010102888e0200000403000004")

link_once : (n : ℕ) → times n (shown 0 link_shown 0 ∷ []) ≡ once_below n 1
link_once n = grind (arith, nat_tests)

abbrev dropped : List ℕ
dropped = line (codes "d 2 0 drop down")

a_front_of_none : IsLegal settings 1 1 link_and_frame (link_shown ++ dropped)
unfolding hex_on_literals digits after settled
a_front_of_none = record {
  history = record { lane = 1; event = Link 2 true } ∷ [];
  blocks =
      block 0 (Reply (up 1 1 2) (shown 0 link_shown 0))
      ∷ block 0 (Decision arrival (shown 0 dropped 0))
      ∷ [];
  ordered = record {
    each = refl;
    once = link_once;
    order = (((λ (later : 0 < 0). absurd (omega arith)), tt), (tt, tt));
    replies = ((refl, refl), (tt, tt));
  };
  decisions = (tt, ((omega arith, refl, refl), tt));
  printed = refl;
}

abbrev forwarded : List ℕ
forwarded = line (codes "d 2 1 forward 0 20 ffffffffffff0200000000bb8100001408004500")

a_front_of_one : IsLegal settings 1 1 link_and_frame (link_shown ++ forwarded)
unfolding hex_on_literals digits after settled
a_front_of_one = record {
  history = record { lane = 1; event = Link 2 true } ∷ [];
  blocks =
      block 0 (Reply (up 1 1 2) (shown 0 link_shown 0))
      ∷ block 0 (Decision arrival (shown 1 forwarded 1))
      ∷ [];
  ordered = record {
    each = refl;
    once = link_once;
    order = (((λ (later : 0 < 0). absurd (omega arith)), tt), (tt, tt));
    replies = ((refl, refl), (tt, tt));
  };
  decisions = (tt, ((omega arith, refl, refl), tt));
  printed = refl;
}

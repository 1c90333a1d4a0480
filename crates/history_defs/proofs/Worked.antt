-- Worked examples, by computation: they test the definitions.
use Rattle.std.proofs.Common.{◌≡◌, ℕ, refl, true, List, [], ◌∷◌, ◌++◌, codes, replicate}
use Rattle.std.specs.Fmt.{digits}
use Rattle.hex.proofs.OnLiterals.{hex_on_literals}
use Rattle.switch_event.specs.Config.{empty}
use Rattle.switch_event.specs.Event.Happening.{Link}
use Rattle.switch_event.specs.declared.decision.Decision.TheVariants.{Forward}
use Rattle.trace_defs.specs.Output.{data_block}
use Rattle.trace_defs.specs.Trace.{trace_of, fate, whole, progress_of}
use Rattle.settle_defs.specs.Settle.{settled}
use Rattle.switch_defs.specs.Switch.{State, opening}
use Rattle.switch_defs.specs.Turn.{turn}
use Rattle.switch_defs.specs.Decide.{decide}
use Rattle.history_defs.specs.Output.{plain, counts_text}

-- one server, and one port of each control
abbrev settings : List ℕ
settings =
    codes "server 192.0.2.20 1812 736563726574" ++ 10 ∷ [] ++
    codes "port 1 10 auto" ++ 10 ∷ [] ++
    codes "port 2 20 force-auth" ++ 10 ∷ [] ++
    codes "port 3 30 force-unauth" ++ 10 ∷ [] ++
    codes "begin" ++ 10 ∷ []

abbrev printed : List ℕ → List ℕ
printed text = plain (progress_of (trace_of 67108864 1048576 empty text)).config (whole 67108864 1048576 empty text)

abbrev nothing_text : List ℕ
nothing_text = settings ++ []

nothing_fate : fate 67108864 1048576 empty nothing_text ≡ 0
unfolding hex_on_literals digits settled
nothing_fate = refl

nothing : printed nothing_text ≡ []
unfolding hex_on_literals digits settled
nothing = refl

abbrev links_and_unauthorised_text : List ℕ
links_and_unauthorised_text = settings ++
    codes "link 1 up" ++ 10 ∷ [] ++
    codes "frame 1 ffffffffffff0200000000aa08004500" ++ 10 ∷ []

links_and_unauthorised_fate : fate 67108864 1048576 empty links_and_unauthorised_text ≡ 0
unfolding hex_on_literals digits settled
links_and_unauthorised_fate = refl

links_and_unauthorised : printed links_and_unauthorised_text ≡
    codes "c 1 @1 0 ok" ++ 10 ∷ [] ++
    codes "f 1 0180c2000003020000010101888e020000050100000501" ++ 10 ∷ [] ++
    codes "d 2 1 drop unauthorised" ++ 10 ∷ []
unfolding hex_on_literals digits settled
links_and_unauthorised = refl

abbrev forwarded_text : List ℕ
forwarded_text = settings ++
    codes "frame 2 ffffffffffff0200000000bb08004500" ++ 10 ∷ [] ++
    codes "link 2 up" ++ 10 ∷ [] ++
    codes "frame 2 ffffffffffff0200000000bb08004500" ++ 10 ∷ []

forwarded_fate : fate 67108864 1048576 empty forwarded_text ≡ 0
unfolding hex_on_literals digits settled
forwarded_fate = refl

forwarded : printed forwarded_text ≡
    codes "d 1 0 drop down" ++ 10 ∷ [] ++
    codes "c 2 @1 0 ok" ++ 10 ∷ [] ++
    codes "f 2 0180c2000003020000010102888e0200000403000004" ++ 10 ∷ [] ++
    codes "d 3 1 forward 0 20 ffffffffffff0200000000bb8100001408004500" ++ 10 ∷ []
unfolding hex_on_literals digits settled
forwarded = refl

abbrev closed_text : List ℕ
closed_text = settings ++
    codes "link 3 up" ++ 10 ∷ [] ++
    codes "frame 3 ffffffffffff0200000000bb08004500" ++ 10 ∷ []

closed_fate : fate 67108864 1048576 empty closed_text ≡ 0
unfolding hex_on_literals digits settled
closed_fate = refl

closed : printed closed_text ≡
    codes "c 1 @1 0 ok" ++ 10 ∷ [] ++
    codes "f 3 0180c2000003020000010103888e0200000404000004" ++ 10 ∷ [] ++
    codes "d 2 1 drop closed" ++ 10 ∷ []
unfolding hex_on_literals digits settled
closed = refl

abbrev drops_text : List ℕ
drops_text = settings ++
    codes "link 2 up" ++ 10 ∷ [] ++
    codes "frame 2 ffffffffffff0200000000bb08" ++ 10 ∷ [] ++
    codes "frame 2 ffffffffffff0200000000bb0800" ++ 10 ∷ [] ++
    codes "frame 2 ffffffffffff0200000000bb8100" ++ 10 ∷ [] ++
    codes "frame 2 0180c200000e0200000000bb0800" ++ 10 ∷ [] ++
    codes "frame 2 ffffffffffff0100000000bb0800" ++ 10 ∷ []

drops_fate : fate 67108864 1048576 empty drops_text ≡ 0
unfolding hex_on_literals digits settled
drops_fate = refl

drops : printed drops_text ≡
    codes "c 1 @1 0 ok" ++ 10 ∷ [] ++
    codes "f 2 0180c2000003020000010102888e0200000403000004" ++ 10 ∷ [] ++
    codes "d 2 1 drop runt" ++ 10 ∷ [] ++
    codes "d 3 1 forward 0 20 ffffffffffff0200000000bb810000140800" ++ 10 ∷ [] ++
    codes "d 4 1 drop tagged" ++ 10 ∷ [] ++
    codes "d 5 1 drop reserved" ++ 10 ∷ [] ++
    codes "d 6 1 drop group-source" ++ 10 ∷ []
unfolding hex_on_literals digits settled
drops = refl

-- the state with the link of port 2 up, and the block of a frame on that port
abbrev two_up : State
two_up = (turn (opening (progress_of (trace_of 67108864 1048576 empty settings)).config) (Link 2 true)).state

abbrev block_of : List ℕ → List ℕ
block_of frame = data_block 4 1 (decide two_up 2 frame) frame

-- six octets of a destination and of a source, and a type
abbrev head : List ℕ
head = 255 ∷ 255 ∷ 255 ∷ 255 ∷ 255 ∷ 255 ∷ 2 ∷ 0 ∷ 0 ∷ 0 ∷ 0 ∷ 187 ∷ 8 ∷ 0 ∷ []

giant : block_of (head ++ replicate 1505 0) ≡ codes "d 4 1 drop giant" ++ 10 ∷ []
unfolding hex_on_literals digits settled
giant = refl

not_giant : decide two_up 2 (head ++ replicate 1504 0) ≡ Forward 0 20
unfolding hex_on_literals digits settled
not_giant = refl

-- a frame of the type of EAPOL is no data in a trace; as data it is dropped, before anything else is looked at
control : block_of (1 ∷ 128 ∷ 194 ∷ 0 ∷ 0 ∷ 3 ∷ 3 ∷ 0 ∷ 0 ∷ 0 ∷ 0 ∷ 187 ∷ 136 ∷ 142 ∷ []) ≡ codes "d 4 1 drop control" ++ 10 ∷ []
unfolding hex_on_literals digits settled
control = refl

-- two records, of which one is a control record
counted : counts_text (whole 67108864 1048576 empty links_and_unauthorised_text) ≡ codes "ok 2 1" ++ 10 ∷ []
unfolding hex_on_literals digits
counted = refl

-- Worked examples of the limits, by computation: which status a text has, and which phases of it stand.
use Rattle.std.proofs.Common.{◌≡◌, ℕ, ◌+◌, ◌-◌, refl, false, List, [], ◌∷◌, ◌++◌, length, codes}
use Rattle.std.specs.Fmt.{digits}
use Rattle.hex.proofs.OnLiterals.{hex_on_literals}
use Rattle.switch_event.specs.Config.{empty}
use Rattle.switch_event.specs.Event.Happening.{Link}
use Rattle.trace_defs.specs.Line.{Record}
use Rattle.trace_defs.specs.Line.Record.{Control}
use Rattle.trace_defs.specs.Trace.{trace_of, fate, whole, reason_of}
use Rattle.history_defs.specs.Status.{status_text}

-- what is said where a limit is passed
full_said : status_text 6 ≡ codes "full: 1048576" ++ 10 ∷ []
unfolding digits
full_said = refl

too_long_said : status_text 8 ≡ codes "too long: 67108864" ++ 10 ∷ []
unfolding digits
too_long_said = refl

abbrev settings : List ℕ
settings = codes "server 192.0.2.20 1812 73" ++ 10 ∷ [] ++ codes "port 3 30 force-unauth" ++ 10 ∷ []

abbrev begun : List ℕ
begun = settings ++ codes "begin" ++ 10 ∷ []

abbrev line : List ℕ
line = codes "link 3 down" ++ 10 ∷ []

abbrev down : Record
down = Control 1 (Link 3 false)

-- two phases of one record each; the second ends with the text
abbrev text : List ℕ
text = begun ++ line ++ codes "sync" ++ 10 ∷ [] ++ line

text_fits : fate (length text) 2 empty text ≡ 0
unfolding hex_on_literals digits
text_fits = refl

text_phases : whole (length text) 2 empty text ≡ (down ∷ []) ∷ (down ∷ []) ∷ []
unfolding hex_on_literals digits
text_phases = refl

-- a comment of one octet too many: the open phase does not stand
abbrev commented : List ℕ
commented = text ++ codes "#"

comment_too_many : fate (length text) 2 empty commented ≡ 8
unfolding hex_on_literals digits
comment_too_many = refl

comment_too_many_phases : whole (length text) 2 empty commented ≡ (down ∷ []) ∷ []
unfolding hex_on_literals digits
comment_too_many_phases = refl

comment_fits : fate (length text + 1) 2 empty commented ≡ 0
unfolding hex_on_literals digits
comment_fits = refl

-- a refused line within the octets that count comes before too many of them, one whose line feed is past them does not
abbrev refused : List ℕ
refused = text ++ codes "link 4 up" ++ 10 ∷ [] ++ codes "#"

refused_before_too_long : fate (length text + 10) 9 empty refused ≡ 3
unfolding hex_on_literals digits
refused_before_too_long = refl

too_long_before_refused : fate (length text + 9) 9 empty refused ≡ 8
unfolding hex_on_literals digits
too_long_before_refused = refl

refused_phases : whole (length text + 10) 9 empty refused ≡ (down ∷ []) ∷ []
unfolding hex_on_literals digits
refused_phases = refl

-- the same of a control record for which the history has no room
full_before_too_long : fate (length text) 1 empty commented ≡ 6
unfolding hex_on_literals digits
full_before_too_long = refl

full_phases : whole (length text) 1 empty commented ≡ (down ∷ []) ∷ []
unfolding hex_on_literals digits
full_phases = refl

too_long_before_full : fate (length text - 1) 1 empty commented ≡ 8
unfolding hex_on_literals digits
too_long_before_full = refl

-- a `sync` whose line feed is past the octets that count ends no phase
cut_sync_phases : whole (length begun + 16) 9 empty text ≡ []
unfolding hex_on_literals digits
cut_sync_phases = refl

whole_sync_phases : whole (length begun + 17) 9 empty text ≡ (down ∷ []) ∷ []
unfolding hex_on_literals digits
whole_sync_phases = refl

-- settings that do not end: too many octets come before `missing`, which comes at the end of the text
unended_too_long : fate (length settings) 9 empty (settings ++ codes "#") ≡ 8
unfolding hex_on_literals digits
unended_too_long = refl

unended_missing : fate (length settings) 9 empty settings ≡ 3
unfolding hex_on_literals digits
unended_missing = refl

unended_reason : reason_of (trace_of (length settings) 9 empty settings) ≡ 13
unfolding hex_on_literals digits
unended_reason = refl

-- a last part without line feed is a line; a `sync` there ends its phase, and the last phase is empty
abbrev unfed : List ℕ
unfed = begun ++ line ++ codes "sync"

unfed_fate : fate (length unfed) 9 empty unfed ≡ 0
unfolding hex_on_literals digits
unfed_fate = refl

unfed_phases : whole (length unfed) 9 empty unfed ≡ (down ∷ []) ∷ [] ∷ []
unfolding hex_on_literals digits
unfed_phases = refl

unfed_refused : fate 9999 9 empty (begun ++ codes "link 4 up") ≡ 3
unfolding hex_on_literals digits
unfed_refused = refl

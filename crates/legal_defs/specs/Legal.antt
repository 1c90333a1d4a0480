-- Legal output: one history of the control records, and each block right by it.
use Rattle.std.specs.Prelude.{◌≡◌, ℕ, ◌+◌, ◌<◌, ◌≤◌, ◌==◌, nat_lt, List, [], ◌∷◌, map, length, take, slice_get, Some, if◌then◌else◌}
use Rattle.switch_event.specs.Config.{Config}
use Rattle.switch_event.specs.declared.decision.Decision.{Decision as Decided}
use Rattle.event_record.specs.Entry.{Entry}
use Rattle.trace_defs.specs.Line.{Record}
use Rattle.trace_defs.specs.Output.{data_block}
use Rattle.legal_defs.specs.Runs.{Place, runs_on, served_by, places}
use Rattle.legal_defs.specs.Blocks.Line.{Reply, Decision}
use Rattle.legal_defs.specs.Blocks.{Shown, Line, Block, place_of, lines_of, text_of, said_in, forwarded_in, forwards_one, entry_on, reply_text, decided_after, decision_text}

-- so it is for each
abbrev pub Each : {A : Type 0} → (A → Type 0) → List A → Type 0
Each P [] = Unit {0}
Each P (x ∷ xs) = P x × Each P xs

-- the relation holds of each earlier one with each later one
abbrev pub InOrder : {A : Type 0} → (A → A → Type 0) → List A → Type 0
InOrder R [] = Unit {0}
InOrder R (x ∷ xs) = Each (R x) xs × InOrder R xs

-- how often a number is shown
abbrev pub times : ℕ → List Shown → ℕ
times n [] = 0
times n (s ∷ ss) = (if s.count == n then 1 else 0) + times n ss

-- 1 where p is below n
abbrev pub once_below : ℕ → ℕ → ℕ
once_below p n = if nat_lt p n then 1 else 0

-- a line and a later one:
--   of one lane the later has the greater serial, and a serial is below those of later phases;
--   a front is above the serials of the phases before;
--   of one worker the later has no smaller front
abbrev pub Follows : (lanes workers phase : ℕ) → Line → (later_phase : ℕ) → Line → Type 0
Follows lanes workers p (Reply e s) q (Reply f t) =
    (runs_on lanes e.lane ≡ runs_on lanes f.lane → s.count < t.count)
    × (p < q → s.count < t.count)
Follows lanes workers p (Reply e s) q (Decision x d) = p < q → s.count < d.count
Follows lanes workers p (Decision x d) q (Reply e s) = Unit {0}
Follows lanes workers p (Decision x d) q (Decision y f) =
    served_by workers x.port ≡ served_by workers y.port → d.count ≤ f.count

abbrev pub Later : (lanes workers : ℕ) → Block → Block → Type 0
Later lanes workers a b = Follows lanes workers a.phase a.line b.phase b.line

-- a control record stands in the history at its serial, with the lane that ran it, and its block is
-- the authenticator's reply there
abbrev pub Replies : Config → List Entry → (lanes : ℕ) → Line → Type 0
Replies c h lanes (Reply e s) =
    (slice_get h s.count ≡ Some (entry_on (runs_on lanes e.lane) e))
    × (s.text ≡ reply_text c (take s.count h) (runs_on lanes e.lane) e s.count)
Replies c h lanes (Decision x d) = Unit {0}

-- the block of a data record shows the decision in the state after as many entries of the history
-- as its front says, which has so many
abbrev pub Decides : Config → List Entry → Line → Type 0
Decides c h (Reply e s) = Unit {0}
Decides c h (Decision x d) =
    (d.count ≤ length h) × (d.text ≡ decision_text c (take d.count h) x d.count)
    × (d.forwards ≡ forwards_one (decided_after c (take d.count h) x))

-- the block of a data record shows some decision
abbrev pub ShowsOne : Line → Type 0
ShowsOne (Reply e s) = Unit {0}
ShowsOne (Decision x d) =
    (made : Decided) × (d.text ≡ data_block x.number d.count made x.octets)
    × (d.forwards ≡ forwards_one made)

-- one block per record, in record order; the serials are those below the number of control records,
-- each once; the orders; the replies
pub record Ordered (c : Config) (lanes workers : ℕ) (places : List Place) (h : List Entry)
    (blocks : List Block) : Type 0 where
  pub each : map place_of blocks ≡ places
  pub once : (n : ℕ) → times n (said_in (lines_of blocks)) ≡ once_below n (length h)
  pub order : InOrder (Later lanes workers) blocks
  pub replies : Each (λ (b : Block). Replies c h lanes b.line) blocks

-- a text that may be printed for these phases under so many lanes and workers
pub record IsLegal (c : Config) (lanes workers : ℕ) (phases : List (List Record))
    (text : List ℕ) : Type 0 where
  pub history : List Entry
  pub blocks : List Block
  pub ordered : Ordered c lanes workers (places phases) history blocks
  pub decisions : Each (λ (b : Block). Decides c history b.line) blocks
  pub printed : text ≡ text_of (lines_of blocks)

-- such a text, by this history, which says that so many frames are forwarded
pub record LegalBy (c : Config) (lanes workers : ℕ) (phases : List (List Record)) (text : List ℕ)
    (history : List Entry) (frames : ℕ) : Type 0 where
  pub legal : IsLegal c lanes workers phases text
  pub history_is : legal.history ≡ history
  pub frames_is : frames ≡ forwarded_in (lines_of legal.blocks)

-- the same but for what was decided, as it may be printed where memory runs out
pub record IsBegun (c : Config) (lanes workers : ℕ) (phases : List (List Record))
    (text : List ℕ) : Type 0 where
  pub history : List Entry
  pub blocks : List Block
  pub ordered : Ordered c lanes workers (places phases) history blocks
  pub shown : Each (λ (b : Block). ShowsOne b.line) blocks
  pub printed : text ≡ text_of (lines_of blocks)

-- Seconds and data frames may come.
use Rattle.std.proofs.Common.{ℕ, zero, suc, ◌≤◌, List, [], ◌∷◌, All, length, arith}
use Rattle.switch_event.specs.Config.{Config}
use Rattle.event_record.specs.declared.record.Record.TheVariants.{Second, Frame, Radius, Dynamic, Link, SetControl}
use Rattle.event_record.specs.declared.trace_record.TraceRecord.{TraceRecord}
use Rattle.event_record.specs.declared.trace_record.TraceRecord.TheVariants.{Control, Data}
use Rattle.trace_defs.specs.Entered.{entered_all}
use Rattle.legal_defs.specs.Runs.{numbered, controls_in}
use Rattle.race_lanes.specs.Lanes.{MayCome}
use Rattle.race_tests.specs.Simple.{AreSimple}

pub simple_come : (c : Config) (n : ℕ) (rs : List TraceRecord) → AreSimple rs → All (MayCome c) (numbered n (entered_all rs))
simple_come c n [] h k d l = absurd (omega arith)
simple_come c n (Control lane Second ∷ rs) h zero d l = tt
simple_come c n (Control lane Second ∷ rs) h (suc k) d l = simple_come c (suc n) rs h k d (omega arith)
simple_come c n (Control lane (Frame port octets) ∷ rs) h k d l = absurd h
simple_come c n (Control lane (Radius socket octets) ∷ rs) h k d l = absurd h
simple_come c n (Control lane (Dynamic from octets) ∷ rs) h k d l = absurd h
simple_come c n (Control lane (Link port up) ∷ rs) h k d l = absurd h
simple_come c n (Control lane (SetControl port control) ∷ rs) h k d l = absurd h
simple_come c n (Data port octets ∷ rs) h zero d l = tt
simple_come c n (Data port octets ∷ rs) h (suc k) d l = simple_come c (suc n) rs h k d (omega arith)

pub few_controls : (n : ℕ) (rs : List TraceRecord) → controls_in (numbered n (entered_all rs)) ≤ length rs
few_controls n [] = omega arith
few_controls n (Control lane what ∷ rs) = let h = few_controls (suc n) rs in omega arith
few_controls n (Data port octets ∷ rs) = let h = few_controls (suc n) rs in omega arith

pub simple_more : (r : TraceRecord) (rs : List TraceRecord) → AreSimple (r ∷ []) → AreSimple rs → AreSimple (r ∷ rs)
simple_more (Control lane Second) rs one more = more
simple_more (Control lane (Frame port octets)) rs one more = one
simple_more (Control lane (Radius socket octets)) rs one more = one
simple_more (Control lane (Dynamic from octets)) rs one more = one
simple_more (Control lane (Link port up)) rs one more = one
simple_more (Control lane (SetControl port control)) rs one more = one
simple_more (Data port octets) rs one more = more

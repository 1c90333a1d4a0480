-- Each change of the ports is one of the port of a number.
use Rattle.std.proofs.Common.{◌≡◌, ℕ, Bool, true, false, List, refl, not, ap, sym, ◌∙◌}
use Rattle.std.specs.Prelude.{if◌then◌else◌, ◌==◌, ◌&&◌}
use Rattle.std.specs.List.{list_any}
use Rattle.machine_vars.specs.declared.vars.Vars.{Vars}
use Rattle.machine_vars.specs.declared.control.Control.{Control}
use Rattle.machine_defs.specs.BackendTable.{is_auto}
use Rattle.switch_defs.specs.Switch.{Port, Session, is_port, on_port}
use Rattle.switch_defs.specs.Session.{armed, unguested}
use Rattle.switch_defs.specs.Turn.{with_control, with_forced, with_link}
use Rattle.switch_ports.proofs.Places.{Spares, Hits}

if_false : {A : Type 0} (b : Bool) (x y : A) → b ≡ false → (if b then x else y) ≡ y
if_false true x y e = cc
if_false false x y e = refl

if_true : {A : Type 0} (b : Bool) (x y : A) → b ≡ true → x ≡ (if b then x else y)
if_true true x y e = refl
if_true false x y e = cc

pub spares_link : (n : ℕ) (up : Bool) → Spares n (with_link n up)
spares_link n up p e = λ i. record p { link = if_false (is_port n p) up p.link e i }

pub hits_link : (n : ℕ) (up : Bool) → Hits n (with_link n up) (λ p. record p { link = up })
hits_link n up p e = λ i. record p { link = if_true (is_port n p) up p.link e i }

pub spares_control : (n : ℕ) (control : Control) → Spares n (with_control n control)
spares_control n control p e = λ i. record p { control = if_false (is_port n p) control p.control e i }

pub hits_control : (n : ℕ) (control : Control) → Hits n (with_control n control) (λ p. record p { control = control })
hits_control n control p e = λ i. record p { control = if_true (is_port n p) control p.control e i }

pub spares_forced : (n : ℕ) (v : Vars) → Spares n (with_forced n v)
spares_forced n v p e = λ i. record p { forced = if_false (is_port n p) v p.forced e i }

pub hits_forced : (n : ℕ) (v : Vars) → Hits n (with_forced n v) (λ p. record p { forced = v })
hits_forced n v p e = λ i. record p { forced = if_true (is_port n p) v p.forced e i }

pub spares_guests : (n : ℕ) → Spares n (unguested n)
spares_guests n p e = λ i. record p { guest_while = if_false (is_port n p) 0 p.guest_while e i; guest_open = if_false (is_port n p) false p.guest_open e i }

pub hits_guests : (n : ℕ) → Hits n (unguested n) (λ p. record p { guest_while = 0; guest_open = false })
hits_guests n p e = λ i. record p { guest_while = if_true (is_port n p) 0 p.guest_while e i; guest_open = if_true (is_port n p) false p.guest_open e i }

-- a port is armed where it has no session
abbrev pub armed_one : Bool → ℕ → Port → Port
armed_one occupied wait p =
    record p { guest_while = if is_auto p.control && p.link && not (p.conf.guest == 0) && not occupied then wait else p.guest_while }

and_false : (a b c d e : Bool) → a ≡ false → a && b && c && d && e ≡ false
and_false true b c d e k = cc
and_false false b c d e k = refl

and_true : (a b c d e : Bool) → a ≡ true → b && c && d && e ≡ a && b && c && d && e
and_true true b c d e k = refl
and_true false b c d e k = cc

pub spares_arm : (n : ℕ) (sessions : List Session) (wait : ℕ) → Spares n (armed n sessions wait)
spares_arm n sessions wait p e = λ i. record p {
  guest_while = if_false (is_port n p && is_auto p.control && p.link && not (p.conf.guest == 0) && not (list_any (on_port n) sessions)) wait p.guest_while (and_false (is_port n p) (is_auto p.control) p.link (not (p.conf.guest == 0)) (not (list_any (on_port n) sessions)) e) i;
}

pub hits_arm : (n : ℕ) (sessions : List Session) (wait : ℕ) (occupied : Bool) → list_any (on_port n) sessions ≡ occupied → Hits n (armed n sessions wait) (armed_one occupied wait)
hits_arm n sessions wait occupied o p e = λ i. record p {
  guest_while = if (same i) then wait else p.guest_while;
}
  where
    same : is_auto p.control && p.link && not (p.conf.guest == 0) && not occupied ≡ is_port n p && is_auto p.control && p.link && not (p.conf.guest == 0) && not (list_any (on_port n) sessions)
    same = ap (λ (b : Bool). is_auto p.control && p.link && not (p.conf.guest == 0) && not b) (sym o) ∙ and_true (is_port n p) (is_auto p.control) p.link (not (p.conf.guest == 0)) (not (list_any (on_port n) sessions)) e

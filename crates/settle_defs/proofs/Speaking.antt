-- A settling sends at most one EAP packet a row, and each fits into a frame.
use Rattle.std.proofs.Common.{ℕ, ◌≤◌, List, [], ◌∷◌, ◌++◌, length, arith}
use Rattle.std.specs.List.{AllByRecursion}
use Rattle.std.proofs.lemmas.List.{length-append}
use Rattle.machine_vars.specs.declared.vars.Vars.{Vars}
use Rattle.machine_defs.specs.Table.{Line}
use Rattle.machine_defs.specs.PaeTable.{pae_table}
use Rattle.machine_defs.specs.BackendTable.{backend_table}
use Rattle.machine_defs.specs.ReauthTable.{reauth_table}
use Rattle.machine_defs.specs.EapTable.{eap_table}
use Rattle.machine_defs.specs.Settling.{all_rows, Settles, rests, takes}
use Rattle.machine_defs.proofs.Growth.{Each, each_of_all, each_first}
use Rattle.settle_defs.specs.Laws.{AreShort, Fit}

record Speaks (l : Line) : Type 0 where
  short : (v : Vars) → AreShort v → AreShort (l.after v)
  sends : (v : Vars) → AreShort v → AllByRecursion Fit (l.sends v)
  few : (v : Vars) → length (l.sends v) ≤ 1

of_pae : Each Speaks pae_table
of_pae = (record { short = λ v s. record { last = s.last; packet = s.packet }; sends = λ v s. tt; few = λ v. omega arith }, (record { short = λ v s. record { last = s.last; packet = s.packet }; sends = λ v s. (omega arith, tt); few = λ v. omega arith }, (record { short = λ v s. record { last = s.last; packet = s.packet }; sends = λ v s. (omega arith, tt); few = λ v. omega arith }, (record { short = λ v s. record { last = s.last; packet = s.packet }; sends = λ v s. tt; few = λ v. omega arith }, (record { short = λ v s. record { last = s.last; packet = s.packet }; sends = λ v s. tt; few = λ v. omega arith }, (record { short = λ v s. record { last = s.last; packet = s.packet }; sends = λ v s. tt; few = λ v. omega arith }, (record { short = λ v s. record { last = s.last; packet = s.packet }; sends = λ v s. tt; few = λ v. omega arith }, (record { short = λ v s. record { last = s.last; packet = s.packet }; sends = λ v s. tt; few = λ v. omega arith }, (record { short = λ v s. record { last = s.last; packet = s.packet }; sends = λ v s. tt; few = λ v. omega arith }, (record { short = λ v s. record { last = s.last; packet = s.packet }; sends = λ v s. tt; few = λ v. omega arith }, (record { short = λ v s. record { last = s.last; packet = s.packet }; sends = λ v s. tt; few = λ v. omega arith }, (record { short = λ v s. record { last = s.last; packet = s.packet }; sends = λ v s. tt; few = λ v. omega arith }, (record { short = λ v s. record { last = s.last; packet = s.packet }; sends = λ v s. tt; few = λ v. omega arith }, (record { short = λ v s. record { last = s.last; packet = s.packet }; sends = λ v s. tt; few = λ v. omega arith }, (record { short = λ v s. record { last = s.last; packet = s.packet }; sends = λ v s. tt; few = λ v. omega arith }, (record { short = λ v s. record { last = s.last; packet = s.packet }; sends = λ v s. tt; few = λ v. omega arith }, (record { short = λ v s. record { last = s.last; packet = s.packet }; sends = λ v s. (omega arith, tt); few = λ v. omega arith }, (record { short = λ v s. record { last = s.last; packet = s.packet }; sends = λ v s. (omega arith, tt); few = λ v. omega arith }, tt))))))))))))))))))

of_backend : Each Speaks backend_table
of_backend = (record { short = λ v s. record { last = s.last; packet = s.packet }; sends = λ v s. tt; few = λ v. omega arith }, (record { short = λ v s. record { last = s.last; packet = s.packet }; sends = λ v s. tt; few = λ v. omega arith }, (record { short = λ v s. record { last = s.last; packet = s.packet }; sends = λ v s. (s.packet, tt); few = λ v. omega arith }, (record { short = λ v s. record { last = s.last; packet = s.packet }; sends = λ v s. (s.last, tt); few = λ v. omega arith }, (record { short = λ v s. record { last = s.last; packet = s.packet }; sends = λ v s. (s.packet, tt); few = λ v. omega arith }, (record { short = λ v s. record { last = s.last; packet = s.packet }; sends = λ v s. tt; few = λ v. omega arith }, (record { short = λ v s. record { last = s.last; packet = s.packet }; sends = λ v s. (s.last, tt); few = λ v. omega arith }, (record { short = λ v s. record { last = s.last; packet = s.packet }; sends = λ v s. tt; few = λ v. omega arith }, (record { short = λ v s. record { last = s.last; packet = s.packet }; sends = λ v s. tt; few = λ v. omega arith }, (record { short = λ v s. record { last = s.last; packet = s.packet }; sends = λ v s. (s.last, tt); few = λ v. omega arith }, (record { short = λ v s. record { last = s.last; packet = s.packet }; sends = λ v s. tt; few = λ v. omega arith }, (record { short = λ v s. record { last = s.last; packet = s.packet }; sends = λ v s. (s.packet, tt); few = λ v. omega arith }, (record { short = λ v s. record { last = s.last; packet = s.packet }; sends = λ v s. (s.packet, tt); few = λ v. omega arith }, (record { short = λ v s. record { last = s.last; packet = s.packet }; sends = λ v s. tt; few = λ v. omega arith }, tt))))))))))))))

of_reauth : Each Speaks reauth_table
of_reauth = (record { short = λ v s. record { last = s.last; packet = s.packet }; sends = λ v s. tt; few = λ v. omega arith }, (record { short = λ v s. record { last = s.last; packet = s.packet }; sends = λ v s. tt; few = λ v. omega arith }, (record { short = λ v s. record { last = s.last; packet = s.packet }; sends = λ v s. tt; few = λ v. omega arith }, tt)))

of_eap : Each Speaks eap_table
of_eap = (record { short = λ v s. record { last = omega arith; packet = s.packet }; sends = λ v s. tt; few = λ v. omega arith }, (record { short = λ v s. record { last = s.last; packet = s.packet }; sends = λ v s. tt; few = λ v. omega arith }, (record { short = λ v s. record { last = s.last; packet = s.packet }; sends = λ v s. tt; few = λ v. omega arith }, (record { short = λ v s. record { last = s.last; packet = s.packet }; sends = λ v s. tt; few = λ v. omega arith }, (record { short = λ v s. record { last = s.last; packet = s.packet }; sends = λ v s. tt; few = λ v. omega arith }, (record { short = λ v s. record { last = s.last; packet = s.packet }; sends = λ v s. tt; few = λ v. omega arith }, (record { short = λ v s. record { last = s.last; packet = s.packet }; sends = λ v s. tt; few = λ v. omega arith }, (record { short = λ v s. record { last = s.last; packet = s.packet }; sends = λ v s. tt; few = λ v. omega arith }, (record { short = λ v s. record { last = s.last; packet = s.packet }; sends = λ v s. tt; few = λ v. omega arith }, (record { short = λ v s. record { last = s.last; packet = s.packet }; sends = λ v s. tt; few = λ v. omega arith }, (record { short = λ v s. record { last = s.last; packet = s.packet }; sends = λ v s. tt; few = λ v. omega arith }, (record { short = λ v s. record { last = s.packet; packet = s.packet }; sends = λ v s. tt; few = λ v. omega arith }, (record { short = λ v s. record { last = s.last; packet = s.packet }; sends = λ v s. tt; few = λ v. omega arith }, (record { short = λ v s. record { last = s.last; packet = s.packet }; sends = λ v s. tt; few = λ v. omega arith }, (record { short = λ v s. record { last = s.last; packet = s.packet }; sends = λ v s. tt; few = λ v. omega arith }, (record { short = λ v s. record { last = s.last; packet = s.packet }; sends = λ v s. tt; few = λ v. omega arith }, (record { short = λ v s. record { last = s.last; packet = s.packet }; sends = λ v s. tt; few = λ v. omega arith }, tt)))))))))))))))))

all_speak : Each Speaks all_rows
all_speak = each_of_all Speaks of_pae of_backend of_reauth of_eap

both : (xs ys : List (List ℕ)) → AllByRecursion Fit xs → AllByRecursion Fit ys → AllByRecursion Fit (xs ++ ys)
both [] ys a b = b
both (x ∷ xs) ys a b = (a.0, both xs ys a.1 b)

pub speaks : {v w : Vars} {rows : _} {sent : _} → Settles v rows sent w → AreShort v → AllByRecursion Fit sent × (length sent ≤ length rows) × AreShort w
speaks (rests h) s = (tt, omega arith, s)
speaks (takes {v = v} {sent = sent} l h c) s =
    let q = each_first Speaks all_rows v l all_speak h in
    let r = speaks c (q.short v s) in
    let one : length (l.sends v) ≤ 1 = q.few v in
    (both (l.sends v) sent (q.sends v s) r.0, simp length-append (omega (arith, one, r.1)), r.2)

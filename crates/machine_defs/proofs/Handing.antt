-- A response is handed to the server by the last row of a settling.
use Rattle.std.proofs.Common.{◌≡◌, ℕ, Bool, true, false, refl, subst, sym, List, ◌++◌, ◌⊎◌, inl, inr, Option, Some, None, ◌∙◌}
use Rattle.machine_vars.specs.declared.vars.Vars.{Vars}
use Rattle.machine_vars.specs.declared.states.Row.{Row}
use Rattle.machine_vars.specs.declared.states.Row.TheVariants.{E}
use Rattle.machine_vars.specs.declared.states.EapState.TheVariants.{AaaIdle, AaaRequest}
use Rattle.machine_defs.specs.Table.{Line, first_enabled}
use Rattle.machine_defs.specs.PaeTable.{pae_table}
use Rattle.machine_defs.specs.BackendTable.{backend_table}
use Rattle.machine_defs.specs.ReauthTable.{reauth_table}
use Rattle.machine_defs.specs.EapTable.{eap_table, aaa_idle, row, at, always}
use Rattle.machine_defs.specs.Settling.{all_rows, next, Settles, rests, takes}
use Rattle.machine_defs.proofs.Growth.{Each, each_of_all, each_append, each_first, first_append_none, first_append_some}
use Rattle.machine_defs.proofs.Turning.{gone_rests}

abbrev before : List Line
before = pae_table ++ backend_table ++ reauth_table

abbrev hands_over : Line
hands_over = row 10 (at AaaRequest) always aaa_idle

-- the machines before EAP do not see it
unseen : (v : Vars) → first_enabled before (aaa_idle v) ≡ first_enabled before v
unseen v = refl

-- nor does EAP, where it does not begin anew
waits : (v : Vars) → v.gone ≡ false → v.eap_restart ≡ false → first_enabled eap_table (aaa_idle v) ≡ None
waits v g h = rw (g, h, first_enabled) refl

-- a row keeps the word to the server or takes it back, or it is the one that hands it over
abbrev Told : Line → Type 0
Told l = ((v : Vars) → (l.after v).aaa_eap_resp ≡ true → v.aaa_eap_resp ≡ true) ⊎ (l ≡ hands_over)

told_all : Each Told all_rows
told_all = each_of_all Told
    (inl (λ v h. h), (inl (λ v h. h), (inl (λ v h. h), (inl (λ v h. h), (inl (λ v h. h), (inl (λ v h. h), (inl (λ v h. h), (inl (λ v h. h), (inl (λ v h. h), (inl (λ v h. h), (inl (λ v h. h), (inl (λ v h. h), (inl (λ v h. h), (inl (λ v h. h), (inl (λ v h. h), (inl (λ v h. h), (inl (λ v h. h), (inl (λ v h. h), tt))))))))))))))))))
    (inl (λ v h. cc), (inl (λ v h. h), (inl (λ v h. h), (inl (λ v h. h), (inl (λ v h. h), (inl (λ v h. h), (inl (λ v h. h), (inl (λ v h. h), (inl (λ v h. h), (inl (λ v h. h), (inl (λ v h. h), (inl (λ v h. h), (inl (λ v h. h), (inl (λ v h. h), tt))))))))))))))
    (inl (λ v h. h), (inl (λ v h. h), (inl (λ v h. h), tt)))
    (inl (λ v h. h), (inl (λ v h. h), (inl (λ v h. h), (inl (λ v h. h), (inl (λ v h. h), (inl (λ v h. h), (inl (λ v h. h), (inl (λ v h. h), (inl (λ v h. h), (inr refl, (inl (λ v h. h), (inl (λ v h. h), (inl (λ v h. h), (inl (λ v h. h), (inl (λ v h. h), (inl (λ v h. h), (inl (λ v h. h), tt)))))))))))))))))

abbrev Other : Line → Type 0
Other l = l.name ≡ E 10 → ⊥

other_before : Each Other before
other_before = each_append Other (pae_table ++ backend_table) reauth_table (each_append Other pae_table backend_table
    (λ h. cc, (λ h. cc, (λ h. cc, (λ h. cc, (λ h. cc, (λ h. cc, (λ h. cc, (λ h. cc, (λ h. cc, (λ h. cc, (λ h. cc, (λ h. cc, (λ h. cc, (λ h. cc, (λ h. cc, (λ h. cc, (λ h. cc, (λ h. cc, tt))))))))))))))))))
    (λ h. cc, (λ h. cc, (λ h. cc, (λ h. cc, (λ h. cc, (λ h. cc, (λ h. cc, (λ h. cc, (λ h. cc, (λ h. cc, (λ h. cc, (λ h. cc, (λ h. cc, (λ h. cc, tt)))))))))))))))
    (λ h. cc, (λ h. cc, (λ h. cc, tt)))

some_same : {x y : Line} → Some x ≡ Some y → x ≡ y
some_same h = cc

none_some : {x : Line} → None ≡ Some x → ⊥
none_some h = cc

-- a row is only taken while the session is not gone
pub next_goes : (v : Vars) (l : Line) → next v ≡ Some l → v.gone ≡ false
next_goes v l h = of v.gone refl
  where
    of : (b : Bool) → v.gone ≡ b → v.gone ≡ false
    of true g = absurd (none_some (sym (gone_rests v g) ∙ h))
    of false g = g

-- where it is the next, EAP does not begin anew and no other machine has a row
is_alone : (v : Vars) → next v ≡ Some hands_over → (first_enabled before v ≡ None) × (v.eap_restart ≡ false)
is_alone v h = by_before (first_enabled before v) refl
  where
    by_restart : first_enabled eap_table v ≡ Some hands_over → (b : Bool) → v.eap_restart ≡ b → v.eap_restart ≡ false
    by_restart k true e =
        let no = rw (next_goes v hands_over h, e, first_enabled) at k in
        absurd (let name : E 1 ≡ E 10 = (let N : Line → Type 0 = λ l. E 1 ≡ l.name in subst N (some_same no) refl) in cc)
    by_restart k false e = e

    by_before : (o : Option Line) → first_enabled before v ≡ o → (first_enabled before v ≡ None) × (v.eap_restart ≡ false)
    by_before None e = (e, by_restart (sym (first_append_none before eap_table v e) ∙ h) v.eap_restart refl)
    by_before (Some x) e =
        let same : x ≡ hands_over = some_same (sym (first_append_some before eap_table v x e) ∙ h) in
        let N : Line → Type 0 = λ l. l.name ≡ E 10 in
        absurd (each_first Other before v x other_before e (subst N (sym same) refl))

pub is_last : (v : Vars) → next v ≡ Some hands_over → next (aaa_idle v) ≡ None
is_last v h =
    let a = is_alone v h in
    first_append_none before eap_table (aaa_idle v) (unseen v ∙ a.0) ∙ waits v (next_goes v hands_over h) a.1

-- where the server is to be asked anew after a settling, EAP waits for it
pub asks_idle : {v w : Vars} {rows : List Row} {sent : List (List ℕ)} → Settles v rows sent w → v.aaa_eap_resp ≡ false → w.aaa_eap_resp ≡ true → w.eap ≡ AaaIdle
asks_idle (rests h) was now = cc
asks_idle (takes {v} {w} l h s) was now = by_row (each_first Told all_rows v l told_all h) (λ n. asks_idle s n now)
  where
    at_end : {x y : Vars} {rows : List Row} {sent : List (List ℕ)} → Settles x rows sent y → next x ≡ None → x.eap ≡ AaaIdle → y.eap ≡ AaaIdle
    at_end (rests k) n e = e
    at_end (takes m k t) n e = absurd (none_some (sym n ∙ k))

    by_row : Told l → ((l.after v).aaa_eap_resp ≡ false → w.eap ≡ AaaIdle) → w.eap ≡ AaaIdle
    by_row (inl keeps) more = more (of_keeps (l.after v).aaa_eap_resp refl)
      where
        of_keeps : (b : Bool) → (l.after v).aaa_eap_resp ≡ b → (l.after v).aaa_eap_resp ≡ false
        of_keeps true e = let bad : true ≡ false = sym (keeps v e) ∙ was in cc
        of_keeps false e = e
    by_row (inr same) more =
        let P : Line → Type 0 = λ m. next v ≡ Some m in
        let here : next v ≡ Some hands_over = subst P same h in
        let Q : Line → Type 0 = λ m. (next (m.after v) ≡ None) × ((m.after v).eap ≡ AaaIdle) in
        let q = subst Q (sym same) (is_last v here, refl) in
        at_end s q.0 q.1

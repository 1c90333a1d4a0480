use Rattle.std.proofs.Common.{◌≡◌, ℕ, ◌∙◌, List, Option, Some, None, Bool, refl, sym, ap, subst}
use Rattle.std.specs.Prelude.{slice_get}
use Rattle.std.specs.Option.{option_copied, option_map}
use Rattle.std.proofs.lemmas.Option.{same_Some, slice_get-map}
use Rattle.session_table.specs.Slots.{Entry, key_of, value_at}
use Rattle.dynauth_defs.specs.Session.{Row}
use Rattle.dynauth_server.specs.Roll as roll
use Rattle.wire_core.specs.declared.address.Mac.{Mac}
use Rattle.switch_defs.specs.Switch as switch
use Rattle.switch_defs.specs.Sound.{IsAtRest}
use Rattle.switch_defs.specs.Dynamic.{row_of}
use Rattle.switch_defs.proofs.Lists.{of_each}
use Rattle.host_session.specs.declared.session.Session.{Session}
use Rattle.host_sessions.specs.Finds.{FindsAt}
use Rattle.host_sessions.proofs.Holding.{none_found, some_found, value_number, value_sits}
use Rattle.host_sessions.proofs.sessions.Sessions.row.Goals as goal

never_none : (e : Entry Session) → None ≡ Some (key_of e) → ⊥
never_none e k = cc

same_row : {n m p q : ℕ} {a b : List ℕ} {i j : Option (List ℕ)} {f g : Bool} → n ≡ m → p ≡ q → a ≡ b → i ≡ j →
    f ≡ g →
    let row : ℕ → ℕ → List ℕ → Option (List ℕ) → Bool → Row =
    λ number port address identity authorised. record { number = number; port = port; address = address; identity = identity; authorised = authorised } in
    row n p a i f ≡ row m q b j g
same_row {n} {m} {p} {q} {a} {b} {i} {j} {f} {g} d e h k l = rw (d, e, h, k, l) refl

pub returns-in_err-at : goal.returns-in_err-at
returns-in_err-at c = λ s holds between.
    let k = c.args.self.now in
    let o : Option switch.Session = slice_get s.sessions c.args.n in
    let P : Option ℕ → Type 0 = λ at. FindsAt at o k s in
    ap (option_map roll.row_of) c.from_residual.ensures
    ∙ sym (slice_get-map row_of s.sessions c.args.n ∙ ap (option_map row_of) (none_found o k s (subst P c.in_err-at.was (c.place_at.ensures s holds))))

pub returns-in_err-port : goal.returns-in_err-port
returns-in_err-port c = λ s holds between.
    let k = c.args.self.now in
    let r = some_found c.in_ok-at.at (slice_get s.sessions c.args.n) k s (c.in_ok-at.ensures s holds) in
    absurd (never_none r.2.entry (sym c.in_err-port.was ∙ c.key.ensures ∙ ap (option_map key_of) r.2.here))

pub returns : goal.returns
returns c = λ s holds between.
    let k = c.args.self.now in
    let at = c.in_ok-at.at in
    let r = some_found at (slice_get s.sessions c.args.n) k s (c.in_ok-at.ensures s holds) in
    let v = c.in_ok-session.session.now in
    let here : Some v ≡ value_at at k.slots = sym (ap option_copied c.in_ok-session.was) ∙ c.get.ensures in
    let rest : IsAtRest s.waits r.0 = of_each (IsAtRest s.waits) between.rests.sessions r.2.there in
    let sits = value_sits k s at r.0 v r.2 here in
    let key : (c.in_ok-port.port, c.in_ok-port.mac) ≡ key_of r.2.entry =
    same_Some _ (key_of r.2.entry) (sym c.in_ok-port.was ∙ c.key.ensures ∙ ap (option_map key_of) r.2.here) in
    ap Some (same_row
    (value_number k s at r.0 v r.2 here)
    (ap (λ (p : ℕ × Mac). p.0) key ∙ r.2.is.port)
    (ap (λ (p : ℕ × Mac). p.1.0) key ∙ r.2.is.address)
    (c.identity.ensures.value r.0.standing sits rest.goes_on)
    (c.authorised.ensures r.0.standing sits))
    ∙ sym (slice_get-map row_of s.sessions c.args.n ∙ ap (option_map row_of) r.1)

-- What the end of a server's run says of the settings that the source tells.
use Rattle.std.proofs.Common.{◌≡◌, ◌⊎◌, ◌<◌, inl, inr, ℕ, List, [], ◌++◌, Option, None, Some, Ok, Err, refl, sym, ap, ◌∙◌, subst, arith}
use Rattle.std.specs.Io.KnownBytes.{Consumes}
use Rattle.switch_event.specs.Config.{Config}
use Rattle.trace_defs.specs.Trace.{progress_of, reason_of}
use Rattle.history_defs.specs.Output.{controls_in}
use Rattle.history_defs.specs.Status.{refusal_text}
use Rattle.outside_text.specs.Streams.{Says}
use Rattle.race_run.specs.Ending.{OfText}
use Rattle.outside_link.specs.Clock.{moment_of, moments_after}
use Rattle.outside_link.specs.Link.{Incoming}
use Rattle.serve_defs.specs.Settings.{settings_of, settings_fate}
use Rattle.serve_defs.specs.Served.{Arrival, all_steps}
use Rattle.serve_defs.specs.Served.{served as served_records}
use Rattle.settings_reader.specs.declared.settings_err.SettingsErr.{SettingsErr}
use Rattle.settings_reader.specs.declared.settings_err.SettingsErr.TheVariants as settings
use Rattle.settings_reader.specs.Settings.{Leaves, RefusesSettings, SettingsEnd}
use Rattle.serve_loop.specs.declared.ending.Ending.{Ending as Served}
use Rattle.serve_loop.specs.declared.ending.Ending.TheVariants.{Done, NoMemory, Refused, ReadFault, WriteFault, Full, LinkFault, TooLong}
use Rattle.serve_loop.specs.Ending.{ending_of, status_of}
use Rattle.serve_loop.specs.Ends.{Ends, IsFirst, IsFull, IsUnsettled, Told, clocked, later_moments}
use Rattle.serve_loop.specs.Run.{outer_of}
use Rattle.switch_top.specs.declared.form.Form.{Form}
use Rattle.switch_top.specs.declared.form.Form.TheVariants.{Check, Replay, Race, Load, Serve}
use Rattle.switch_top.specs.Top.{HasRoom, Serves, TellsSettings, ports_of, served_text, settings_at, settings_refusal}
use Rattle.switch_top.proofs.FormLemmas.{served_so}

-- the octets that were taken and those that are left are the text
whole_of : (P : List ℕ → Type 0) (before left : Option (List ℕ)) (given rest : List ℕ) → Consumes before left given → Leaves left rest → P (given ++ rest) → OfText before P
whole_of P None None given rest c follows h = (given ++ rest, h)
whole_of P None (Some left) given rest c follows h = (given ++ rest, h)
whole_of P (Some b) None given rest c follows h = absurd c
whole_of P (Some b) (Some left) given rest c follows h = subst P (sym (c ∙ ap (λ l. given ++ l) follows)) h

-- what is said of a refused line is said of that of the text
said_of : (limit : ℕ) (text : List ℕ) (line why : ℕ) (old new : Option (List ℕ)) (before now : ℕ) → RefusesSettings limit text line why → Says old new before now (refusal_text line why)
    → Says old new before now (settings_refusal limit text)
said_of limit text line why old new before now refuses said =
    subst (λ n. Says old new before now (refusal_text n (reason_of (settings_of limit text)))) refuses.line_is
    (subst (λ n. Says old new before now (refusal_text line n)) refuses.why_is said)

module _ (limit : ℕ) (left left_new old new : Option (List ℕ)) (before now : ℕ) where
  refused_at : (e : SettingsErr) → SettingsEnd limit left left_new (Err e) → status_of (ending_of e) ≡ 3 → Says old new before now (served_text (ending_of e))
      → OfText left (λ text. Says old new before now (settings_refusal limit text))
  refused_at (settings.Refused line why) end three said =
      whole_of (λ text. Says old new before now (settings_refusal limit text)) left left_new end.given end.rest end.taken end.follows
      (said_of limit (end.given ++ end.rest) line why old new before now end.ends said)
  refused_at settings.NoMemory end three said = absurd (omega (arith, three))
  refused_at settings.ReadFault end three said = absurd (omega (arith, three))
  refused_at settings.TooLong end three said = absurd (omega (arith, three))

-- with settings no line is refused
no_refusal : (limit room turns : ℕ) (ports : List ℕ) (old new : Told) (line why : ℕ) → Ends limit room turns ports old new (Refused line why) → (e : SettingsErr) × IsUnsettled limit old new e (Refused line why)
no_refusal limit room turns ports old new line why (inl h) = h
no_refusal limit room turns ports old new line why (inr (config, end, inl h)) = absurd (other h.ends)
  where
    other : Refused line why ≡ LinkFault → ⊥
    other e = cc
no_refusal limit room turns ports old new line why (inr (config, end, inr (bound, moment, first, inl h))) = absurd h.0
no_refusal limit room turns ports old new line why (inr (config, end, inr (bound, moment, first, inr h))) = absurd h

pub serve_refused : (limit room turns : ℕ) (ports : List ℕ) (old new : Told) (taken after : Option (List ℕ)) (before now : ℕ) (ending : Served) (status : ℕ)
    → Ends limit room turns ports old new ending → Says taken after before now (served_text ending) → status ≡ status_of ending → status ≡ 3
    → OfText old.left (λ text. Says taken after before now (settings_refusal limit text))
serve_refused limit room turns ports old new taken after before now (Refused line why) status ends said is three =
    let h = no_refusal limit room turns ports old new line why ends in
    let same : Refused line why ≡ ending_of h.0 = h.1.ends in
    refused_at limit old.left new.left taken after before now h.0 h.1.reading (ap status_of (sym same)) (subst (λ e. Says taken after before now (served_text e)) same said)
serve_refused limit room turns ports old new taken after before now Done status ends said is three = absurd (omega (arith, is, three))
serve_refused limit room turns ports old new taken after before now NoMemory status ends said is three = absurd (omega (arith, is, three))
serve_refused limit room turns ports old new taken after before now ReadFault status ends said is three = absurd (omega (arith, is, three))
serve_refused limit room turns ports old new taken after before now WriteFault status ends said is three = absurd (omega (arith, is, three))
serve_refused limit room turns ports old new taken after before now Full status ends said is three = absurd (omega (arith, is, three))
serve_refused limit room turns ports old new taken after before now LinkFault status ends said is three = absurd (omega (arith, is, three))
serve_refused limit room turns ports old new taken after before now TooLong status ends said is three = absurd (omega (arith, is, three))

abbrev ports_in : Option Form → List ℕ
ports_in None = []
ports_in (Some Check) = []
ports_in (Some Replay) = []
ports_in (Some (Race workers lanes)) = []
ports_in (Some (Load hosts)) = []
ports_in (Some (Serve frames radius dynamic turns)) = ports_of frames radius dynamic

-- what was done in as many turns, and at the ports, that were asked for
pub serves_so : (form : Option Form) (a b c t frames radius dynamic turns limit room : ℕ) (old new : Told) (ending : Served) (status : ℕ) → form ≡ Some (Serve a b c t) → form ≡ Some (Serve frames radius dynamic turns)
    → Ends limit room turns (ports_of frames radius dynamic) old new ending → status ≡ status_of ending → Serves limit room t (ports_of a b c) old new status
serves_so form a b c t frames radius dynamic turns limit room old new ending status asked is ends at =
    subst (λ ports. Serves limit room t ports old new status) (ap ports_in (sym is ∙ asked))
    (served_so (λ n. Serves limit room n (ports_of frames radius dynamic) old new status) form a b c t frames radius dynamic turns asked is (record { ending = ending; status_is = at; ends = ends }))

-- ---- right settings are served

-- a text that has an end without settings has another status than right settings
unsettled : (limit : ℕ) (left left_new : Option (List ℕ)) (e : SettingsErr) → SettingsEnd limit left left_new (Err e) → (status_of (ending_of e) ≡ 3) ⊎ (status_of (ending_of e) ≡ 8)
    → OfText left (λ text. settings_fate limit text ≡ status_of (ending_of e))
unsettled limit left left_new (settings.Refused line why) end is = whole_of (λ text. settings_fate limit text ≡ 3) left left_new end.given end.rest end.taken end.follows end.ends.fated
unsettled limit left left_new settings.TooLong end is = whole_of (λ text. settings_fate limit text ≡ 8) left left_new end.given end.rest end.taken end.follows end.ends
unsettled limit left left_new settings.NoMemory end is = absurd (grind arith)
unsettled limit left left_new settings.ReadFault end is = absurd (grind arith)

-- no end of a run behind its settings is this one
no_length : (limit room turns : ℕ) (ports : List ℕ) (old new : Told) → Ends limit room turns ports old new TooLong → (e : SettingsErr) × IsUnsettled limit old new e TooLong
no_length limit room turns ports old new (inl h) = h
no_length limit room turns ports old new (inr (config, end, inl h)) = absurd (other h.ends)
  where
    other : TooLong ≡ LinkFault → ⊥
    other e = cc
no_length limit room turns ports old new (inr (config, end, inr (bound, moment, first, inl h))) = absurd h.0
no_length limit room turns ports old new (inr (config, end, inr (bound, moment, first, inr h))) = absurd h

settled : (limit : ℕ) (left : Option (List ℕ)) (status : ℕ) → TellsSettings limit left → OfText left (λ text. settings_fate limit text ≡ status) → status ≡ 0
settled limit None status settles h = absurd settles
settled limit (Some text) status settles h = sym h ∙ settles

-- with right settings none of them comes
no_such : (limit : ℕ) (old new : Told) (ending : Served) (h : (e : SettingsErr) × IsUnsettled limit old new e ending) → (status_of ending ≡ 3) ⊎ (status_of ending ≡ 8)
    → TellsSettings limit old.left → status_of ending ≡ 0
no_such limit old new ending h is settles =
    let same = ap status_of h.1.ends in
    same ∙ settled limit old.left (status_of (ending_of h.0)) settles
    (unsettled limit old.left new.left h.0 h.1.reading (subst (λ s. (s ≡ 3) ⊎ (s ≡ 8)) same is))

module _ (limit room turns : ℕ) (ports : List ℕ) (old new : Told) where
  served_at : (ending : Served) → Ends limit room turns ports old new ending → TellsSettings limit old.left → (ending ≡ ReadFault → ⊥) → (ending ≡ WriteFault → ⊥) → (ending ≡ LinkFault → ⊥)
      → (status_of ending ≡ 0) ⊎ (status_of ending ≡ 1) ⊎ (status_of ending ≡ 6)
  served_at Done ends settles unread unwritten unlinked = inl refl
  served_at NoMemory ends settles unread unwritten unlinked = inr (inl refl)
  served_at Full ends settles unread unwritten unlinked = inr (inr refl)
  served_at ReadFault ends settles unread unwritten unlinked = absurd (unread refl)
  served_at WriteFault ends settles unread unwritten unlinked = absurd (unwritten refl)
  served_at LinkFault ends settles unread unwritten unlinked = absurd (unlinked refl)
  served_at (Refused line why) ends settles unread unwritten unlinked =
      inl (no_such limit old new (Refused line why) (no_refusal limit room turns ports old new line why ends) (inl refl) settles)
  served_at TooLong ends settles unread unwritten unlinked = inl (no_such limit old new TooLong (no_length limit room turns ports old new ends) (inr refl) settles)

  pub serve_done : (ending : Served) (status : ℕ) → Ends limit room turns ports old new ending → status ≡ status_of ending → TellsSettings limit old.left
      → (ending ≡ ReadFault → ⊥) → (ending ≡ WriteFault → ⊥) → (ending ≡ LinkFault → ⊥) → (status ≡ 0) ⊎ (status ≡ 1) ⊎ (status ≡ 6)
  serve_done ending status ends e settles unread unwritten unlinked =
      subst (λ s. (s ≡ 0) ⊎ (s ≡ 1) ⊎ (s ≡ 6)) (sym e) (served_at ending ends settles unread unwritten unlinked)

-- ---- a history has room

-- the settings of a text
given_of : (limit : ℕ) (left left_new : Option (List ℕ)) (config : Config) → SettingsEnd limit left left_new (Ok config) → OfText left (λ text. (progress_of (settings_of limit text)).config ≡ config)
given_of limit left left_new config end =
    whole_of (λ text. (progress_of (settings_of limit text)).config ≡ config) left left_new end.given end.rest end.taken end.follows end.ends.0.settings

-- more came than a history has room for, where that is told
too_many : (limit room turns : ℕ) (left : Option (List ℕ)) (moments : Option (List ℕ)) (waits : Option (List (List Incoming))) (config : Config) (moment : ℕ) (came : List Arrival)
    → OfText left (λ text. (progress_of (settings_of limit text)).config ≡ config) → IsFirst moments moment
    → IsFull room (clocked config moment) (outer_of (clocked config moment).clock (later_moments moments) waits) (all_steps (clocked config moment).ports turns) came
    → HasRoom limit room turns left moments waits → ⊥
too_many limit room turns None moments waits config moment came is first full fits = fits
too_many limit room turns (Some text) None waits config moment came is first full fits = fits
too_many limit room turns (Some text) (Some moments) None config moment came is first full fits = fits
too_many limit room turns (Some text) (Some moments) (Some waits) config moment came is first full fits =
    let more : room < controls_in (served_records (clocked config moment) (moments_after moments) waits turns) = full.more in
    let at : room < controls_in (served_records (settings_at limit text moments) (moments_after moments) waits turns) =
    subst (λ c. room < controls_in (served_records (clocked c (moment_of moments)) (moments_after moments) waits turns)) (sym is)
    (subst (λ m. room < controls_in (served_records (clocked config m) (moments_after moments) waits turns)) first more)
    in
    omega (arith, at, fits)

full_at : (limit room turns : ℕ) (ports : List ℕ) (old new : Told) → Ends limit room turns ports old new Full → HasRoom limit room turns old.left old.moments old.waits → ⊥
full_at limit room turns ports old new (inl h) fits = other h.0 h.1.ends
  where
    other : (e : SettingsErr) → Full ≡ ending_of e → ⊥
    other (settings.Refused line why) e = cc
    other settings.NoMemory e = cc
    other settings.ReadFault e = cc
    other settings.TooLong e = cc
full_at limit room turns ports old new (inr (config, end, inl h)) fits = other h.ends
  where
    other : Full ≡ LinkFault → ⊥
    other e = cc
full_at limit room turns ports old new (inr (config, end, inr (bound, moment, first, inl h))) fits = absurd h.0
full_at limit room turns ports old new (inr (config, end, inr (bound, moment, first, inr h))) fits =
    too_many limit room turns old.left old.moments old.waits config moment h.0 (given_of limit old.left new.left config end) first h.3 fits

not_full : (limit room turns : ℕ) (ports : List ℕ) (old new : Told) (ending : Served) → Ends limit room turns ports old new ending → HasRoom limit room turns old.left old.moments old.waits → status_of ending ≡ 6 → ⊥
not_full limit room turns ports old new Full ends fits six = full_at limit room turns ports old new ends fits
not_full limit room turns ports old new Done ends fits six = omega (arith, six)
not_full limit room turns ports old new NoMemory ends fits six = omega (arith, six)
not_full limit room turns ports old new (Refused line why) ends fits six = omega (arith, six)
not_full limit room turns ports old new ReadFault ends fits six = omega (arith, six)
not_full limit room turns ports old new WriteFault ends fits six = omega (arith, six)
not_full limit room turns ports old new LinkFault ends fits six = omega (arith, six)
not_full limit room turns ports old new TooLong ends fits six = omega (arith, six)

-- in as many turns as were asked for
pub serve_roomy : (form : Option Form) (a b c t frames radius dynamic turns limit room : ℕ) (ports : List ℕ) (old new : Told) (ending : Served) (status : ℕ) → form ≡ Some (Serve a b c t) → form ≡ Some (Serve frames radius dynamic turns)
    → Ends limit room turns ports old new ending → status ≡ status_of ending → HasRoom limit room t old.left old.moments old.waits → status ≡ 6 → ⊥
serve_roomy form a b c t frames radius dynamic turns limit room ports old new ending status asked is ends at =
    served_so (λ n. HasRoom limit room n old.left old.moments old.waits → status ≡ 6 → ⊥) form a b c t frames radius dynamic turns asked is
    (λ fits six. not_full limit room turns ports old new ending ends fits (sym at ∙ six))

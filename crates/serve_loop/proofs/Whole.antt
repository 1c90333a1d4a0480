-- From a run behind its settings to the whole run.
use Rattle.std.proofs.Common.{◌≡◌, ◌⊎◌, inl, inr, Bool, true, false, ℕ, ◌+◌, ◌-◌, ◌<◌, ◌≤◌, min, List, [], ◌∷◌, ◌++◌, length, length-append, length-drop, take, drop, map, slice_index_or, slice_set, append_assoc, Option, None, Some, Ok, Err, refl, sym, ap, ap₂, ◌∙◌, subst, arith}
use Rattle.std.proofs.lemmas.Bool.{cases_lt}
use Rattle.std.proofs.lemmas.List.{drop_more, length-map, length-take-le, map-append, set_at, take_more}
use Rattle.std.specs.Io.KnownBytes.{Keeps, IsAtEnd}
use Rattle.std.proofs.Math.Nat.{min-le_right}
use Rattle.wire_defs.specs.Text.{ended_lines}
use Rattle.wire_defs.proofs.OutsideLemmas.{Keeps-same}
use Rattle.switch_event.specs.Config.{Config, empty}
use Rattle.trace_defs.specs.Trace.{Progress, start}
use Rattle.trace_defs.proofs.TraceLemmas.{read_lines-append, read_lines-next}
use Rattle.outside_link.specs.Clock.{Tells}
use Rattle.outside_link.specs.Link.{Binds, Incoming, NeedsChannel, Outgoing, Ports, Same, Grows}
use Rattle.outside_link.proofs.LinkLemmas.{Same-refl, Same-trans}
use Rattle.settings_reader.specs.declared.settings_err.SettingsErr.{SettingsErr}
use Rattle.settings_reader.specs.Settings.{EndsSettings, IsJustRead, SettingsEnd}
use Rattle.serve_defs.specs.Laws.{AreSettings}
use Rattle.serve_defs.specs.Served.{Arrival, Outer, Step, all_steps}
use Rattle.serve_loop.specs.declared.ending.Ending.{Ending}
use Rattle.serve_loop.specs.declared.ending.Ending.TheVariants.{Done, NoMemory, Refused, ReadFault, WriteFault, Full, LinkFault, TooLong}
use Rattle.serve_loop.specs.Ending.{ending_of}
use Rattle.serve_loop.specs.Run.{IsLogged, outer_of}
use Rattle.serve_loop.specs.Ends.{Ends, Halted, IsBoundTo, IsFirst, IsPartlyBound, RunEnds, Told, clocked, later_moments}

-- ---- settings that were read

ended_settings : (given feed : List ℕ) (q : Progress) (moment : ℕ) → moment ≤ 4294967295 → EndsSettings given feed q → AreSettings (record q.config { clock = moment })
ended_settings given feed q moment fits e = record {
  room = 0;
  lines = ended_lines e.before ++ e.line ∷ [];
  p = q;
  reads = read_lines-append 0 (start empty) e.p (ended_lines e.before) (e.line ∷ []) e.read.lines ∙ read_lines-next 0 e.p q e.line [] e.next;
  begun = e.begun;
  same = refl;
  moment = fits;
}

-- with another moment they are settings that lines can write
pub settings_read : (limit : ℕ) (left left' : Option (List ℕ)) (settings c : Config) (moment : ℕ) → SettingsEnd limit left left' (Ok settings) → c ≡ clocked settings moment → AreSettings c
settings_read limit left left' settings c moment reading is = subst AreSettings (sym is) (just_read reading.ends.1)
  where
    just_read : IsJustRead reading.given left' settings → AreSettings (clocked settings moment)
    just_read j = subst (λ s. AreSettings (clocked s moment)) j.settings (placed j.place)
      where
        placed : EndsSettings reading.given (10 ∷ []) j.q ⊎ (IsAtEnd left' × EndsSettings reading.given [] j.q) → AreSettings (clocked j.q.config moment)
        placed (inl e) = ended_settings reading.given (10 ∷ []) j.q (min moment 4294967295) (min-le_right moment 4294967295) e
        placed (inr e) = ended_settings reading.given [] j.q (min moment 4294967295) (min-le_right moment 4294967295) e.1

-- ---- what was told as the run began

grows_before : {A : Type 0} (a b c : Option (List A)) (xs : List A) → Same a b → Grows b c xs → Grows a c xs
grows_before None b c xs s g = tt
grows_before (Some x) None c xs s g = absurd s
grows_before (Some x) (Some y) None xs s g = absurd g
grows_before (Some x) (Some y) (Some z) xs s g = g ∙ ap (λ l. l ++ xs) s

logged_before : (c : Config) (origin taken : Option (List ℕ)) (first mid sent : Option (List Outgoing)) (came : List Arrival) → Same first mid → IsLogged c origin taken mid sent came → IsLogged c origin taken first sent came
logged_before c origin taken first mid sent came s h = record { written = h.written; trace = h.trace; posted = grows_before first mid sent _ s h.posted }

-- the link told of nothing, or of the same
halted_after : (room : ℕ) (c : Config) (before : Option Outer) (waits : Option (List (List Incoming))) (all : List Step) (origin taken : Option (List ℕ)) (first mid sent : Option (List Outgoing)) (e : Ending)
    → Same first mid → Halted room c before waits all origin taken mid sent e → Halted room c before waits all origin taken first sent e
halted_after room c before waits all origin taken first mid sent Done s h = (h.0, h.1, h.2, logged_before c origin taken first mid sent h.0 s h.3)
halted_after room c before waits all origin taken first mid sent NoMemory s h = (h.0, h.1, logged_before c origin taken first mid sent h.0 s h.2)
halted_after room c before waits all origin taken first mid sent (Refused line why) s h = absurd h
halted_after room c before waits all origin taken first mid sent ReadFault s h = absurd h
halted_after room c before waits all origin taken first mid sent WriteFault s h =
    (h.0, h.1, h.2, record { n = h.3.n; proper = h.3.proper; written = h.3.written; trace = h.3.trace; posted = grows_before first mid sent _ s h.3.posted })
halted_after room c before waits all origin taken first mid sent Full s h = (h.0, h.1, h.2, h.3, logged_before c origin taken first mid sent h.0 s h.4)
halted_after room c before waits all origin taken first mid sent LinkFault s h =
    (h.0, h.1, record { written = h.2.written; trace = h.2.trace; posted = (h.2.posted.0, h.2.posted.1, grows_before first mid sent _ s h.2.posted.2) })
halted_after room c before waits all origin taken first mid sent TooLong s h = absurd h

-- less is told
halted_untold : (room : ℕ) (c : Config) (before : Option Outer) (waits : Option (List (List Incoming))) (all : List Step) (origin taken : Option (List ℕ)) (first sent : Option (List Outgoing)) (e : Ending)
    → Halted room c before waits all origin taken first sent e → Halted room c None waits all origin taken first sent e
halted_untold room c before waits all origin taken first sent Done h = (h.0, tt, h.2, h.3)
halted_untold room c before waits all origin taken first sent NoMemory h = (h.0, tt, h.2)
halted_untold room c before waits all origin taken first sent (Refused line why) h = absurd h
halted_untold room c before waits all origin taken first sent ReadFault h = absurd h
halted_untold room c before waits all origin taken first sent WriteFault h = (h.0, h.1, tt, h.3)
halted_untold room c before waits all origin taken first sent Full h = (h.0, h.1, tt, record { controls = h.3.controls; before_it = tt; more = tt }, h.4)
halted_untold room c before waits all origin taken first sent LinkFault h = (h.0, tt, h.2)
halted_untold room c before waits all origin taken first sent TooLong h = absurd h

halted_told : (room : ℕ) (c : Config) (before mid : Option Outer) (waits : Option (List (List Incoming))) (all : List Step) (origin taken : Option (List ℕ)) (first sent : Option (List Outgoing)) (e : Ending)
    → (before ≡ None) ⊎ (before ≡ mid) → Halted room c mid waits all origin taken first sent e → Halted room c before waits all origin taken first sent e
halted_told room c before mid waits all origin taken first sent e (inl none) h = subst (λ o. Halted room c o waits all origin taken first sent e) (sym none) (halted_untold room c mid waits all origin taken first sent e h)
halted_told room c before mid waits all origin taken first sent e (inr same) h = subst (λ o. Halted room c o waits all origin taken first sent e) (sym same) h

told : (k r : ℕ) (m m' : Option (List ℕ)) (w w' : Option (List (List Incoming))) → Tells m m' r → Same w w'
    → (outer_of k (later_moments m) w ≡ None) ⊎ (outer_of k (later_moments m) w ≡ outer_of k m' w')
told k r None m' w w' t s = inl refl
told k r (Some m) m' None w' t s = inl refl
told k r (Some m) None (Some w) w' t s = absurd t
told k r (Some m) (Some m') (Some w) None t s = absurd s
told k r (Some m) (Some m') (Some w) (Some w') t s = inr (ap₂ (λ n v. Some (record { clock = k; moments = n; waits = v })) (sym t.1) (sym s))

is_first : (m m' : Option (List ℕ)) (r : ℕ) → Tells m m' r → IsFirst m r
is_first None m' r t = tt
is_first (Some m) None r t = absurd t
is_first (Some m) (Some m') r t = t.0

run_after : (room turns : ℕ) (c : Config) (before mid : Option Outer) (waits : Option (List (List Incoming))) (origin taken : Option (List ℕ)) (first started sent : Option (List Outgoing)) (e : Ending)
    → (before ≡ None) ⊎ (before ≡ mid) → Same first started → RunEnds room turns c mid waits origin taken started sent e → RunEnds room turns c before waits origin taken first sent e
run_after room turns c before mid waits origin taken first started sent e b s (inl h) = inl (h.0, Same-trans first started sent s h.1)
run_after room turns c before mid waits origin taken first started sent e b s (inr h) =
    inr (halted_told room c before mid waits (all_steps c.ports turns) origin taken first sent e b (halted_after room c mid waits (all_steps c.ports turns) origin taken first started sent e s h))

-- ---- the whole run

pub ends_unsettled : (limit room turns : ℕ) (ports : List ℕ) (left left' taken : Option (List ℕ)) (waits : Option (List (List Incoming))) (sent : Option (List Outgoing)) (bound : Option Ports) (moments : Option (List ℕ)) (e : SettingsErr) (ending : Ending)
    → SettingsEnd limit left left' (Err e) → ending ≡ ending_of e
    → Ends limit room turns ports (record { left = left; taken = taken; waits = waits; sent = sent; bound = bound; moments = moments }) (record { left = left'; taken = taken; waits = waits; sent = sent; bound = bound; moments = moments }) ending
ends_unsettled limit room turns ports left left' taken waits sent bound moments e ending reading is = inl (
  e,
  record {
    reading = reading;
    ends = is;
    untouched = record { written = Keeps-same taken; sent_none = Same-refl sent; waiting = Same-refl waits };
    unbound = Same-refl bound;
    unasked = Same-refl moments;
  },
)

pub ends_unbound : (limit room turns : ℕ) (ports : List ℕ) (old new : Told) (settings : Config) → SettingsEnd limit old.left new.left (Ok settings) → new.taken ≡ old.taken → Same old.sent new.sent → Same old.waits new.waits
    → IsPartlyBound old.bound new.bound ports → new.moments ≡ old.moments → Ends limit room turns ports old new LinkFault
ends_unbound limit room turns ports old new settings reading same sent waits bound still = inr (
  settings,
  reading,
  inl (record {
    ends = refl;
    untouched = record { written = subst (Keeps old.taken) (sym same) (Keeps-same old.taken); sent_none = sent; waiting = waits };
    bound = bound;
    unasked = subst (Same old.moments) (sym still) (Same-refl old.moments);
  }),
)

bound_then : (a b c : Option Ports) (ports : List ℕ) → IsBoundTo a b ports → Same b c → IsBoundTo a c ports
bound_then None b c ports p q = tt
bound_then (Some x) None c ports p q = absurd p
bound_then (Some x) (Some y) None ports p q = absurd q
bound_then (Some x) (Some y) (Some z) ports p q = q ∙ p

-- none is bound yet
pub bound_none : (a : Option Ports) → IsBoundTo a a []
bound_none None = tt
bound_none (Some x) = refl

-- one more is
pub bound_next : (T E : Type 0) (a b c : Option Ports) (ports : List ℕ) (channel port : ℕ) (done : T) → IsBoundTo a b (take channel ports) → Binds {T = T} {E = E} b c channel port (Ok done)
    → NeedsChannel {T = T} {E = E} b channel (Ok done) → channel < length ports → port ≡ slice_index_or ports channel 0 → IsBoundTo a c (take (channel + 1) ports)
bound_next T E None b c ports channel port done p q needs low is = tt
bound_next T E (Some x) None c ports channel port done p q needs low is = absurd p
bound_next T E (Some x) (Some y) None ports channel port done p q needs low is = absurd q
bound_next T E (Some x) (Some y) (Some z) ports channel port done p q needs low is =
    let first = take channel ports in
    let few : length first ≡ channel = length-take-le channel ports (omega (arith, low)) in
    let long : length (map Some first) ≡ channel = length-map first Some ∙ few in
    let whole : length y ≡ channel + (length x - channel) = ap length p ∙ length-append (map Some first) (drop (length first) x) ∙ omega (arith, long, few, length-drop (length first) x) in
    let within : channel < length x = elim (cases_lt channel (length y)) [ inl lt ↦ omega (arith, lt, whole) | inr ge ↦ let h : false ≡ true = needs ge in cc ] in
    let split : y ≡ map Some first ++ slice_index_or x channel None ∷ drop (channel + 1) x =
    p ∙ ap (λ n. map Some first ++ drop n x) few ∙ ap (λ l. map Some first ++ l) (drop_more x channel None within) in
    let last : ℕ = slice_index_or ports channel 0 in
    let most : length (take (channel + 1) ports) ≡ channel + 1 = length-take-le (channel + 1) ports (omega (arith, low)) in
    let after : map Some (take (channel + 1) ports) ++ drop (length (take (channel + 1) ports)) x ≡ map Some first ++ Some last ∷ drop (channel + 1) x =
    ap₂ (λ l n. map Some l ++ drop n x) (take_more ports channel 0 low) most ∙ ap (λ l. l ++ drop (channel + 1) x) (map-append Some first (last ∷ [])) ∙ append_assoc (map Some first) (Some last ∷ []) (drop (channel + 1) x) in
    q ∙ ap (λ l. slice_set l channel (Some port)) split ∙ set_at (map Some first) (slice_index_or x channel None) (drop (channel + 1) x) (Some port) channel long
    ∙ ap (λ n. map Some first ++ Some n ∷ drop (channel + 1) x) is ∙ sym after

pub ends_served : (limit room turns : ℕ) (ports : List ℕ) (old new : Told) (settings c : Config) (moment : ℕ) (m' : Option (List ℕ)) (w' : Option (List (List Incoming))) (started : Option (List Outgoing)) (b' : Option Ports) (e : Ending)
    → SettingsEnd limit old.left new.left (Ok settings) → IsBoundTo old.bound b' ports → Same b' new.bound → Tells old.moments m' moment → Same old.waits w' → Same old.sent started → c ≡ clocked settings moment
    → RunEnds room turns c (outer_of c.clock m' w') new.waits old.taken new.taken started new.sent e
    → Ends limit room turns ports old new e
ends_served limit room turns ports old new settings c moment m' w' started b' e reading bound kept t sw ss is h =
    let d = clocked settings moment in
    inr (
      settings,
      reading,
      inr (
        bound_then old.bound b' new.bound ports bound kept,
        moment,
        is_first old.moments m' moment t,
        run_after room turns d (outer_of d.clock (later_moments old.moments) old.waits) (outer_of d.clock m' w') new.waits old.taken new.taken old.sent started new.sent e
            (told d.clock moment old.moments m' old.waits w' t sw) ss
            (subst (λ k. RunEnds room turns k (outer_of k.clock m' w') new.waits old.taken new.taken started new.sent e) is h),
      ),
    )

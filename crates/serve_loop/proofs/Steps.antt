-- One step and several, and where a run ends in them.
use Rattle.std.proofs.Common.{◌≡◌, inl, inr, ℕ, ◌+◌, List, [], ◌∷◌, ◌++◌, Bool, true, false, arith, Option, None, Some, Result, Ok, Err, OnOk, IfErr, refl, sym, ap, ◌∙◌, subst, append_assoc, append-nil, length, take, drop, map, slice_index_or, ◌<◌, zero, suc}
use Rattle.std.proofs.lemmas.List.{take_all, take_more, map-append, take-append-drop}
use Rattle.switch_event.specs.declared.config.PortConf.{PortConf}
use Rattle.switch_event.specs.Config.{Config}
use Rattle.switch_defs.specs.Switch.{State}
use Rattle.outside_link.specs.Link.{Incoming, Outgoing, Same}
use Rattle.outside_link.proofs.LinkLemmas.{Grows-kept, Grows-same}
use Rattle.serve_defs.specs.Served.{Arrival, Outer, Step, comes, outer_after, came_then, outer_then, ends_run, arrivals_of, turn_steps, turns_steps}
use Rattle.serve_defs.specs.Served.Step.{Up, Ask}
use Rattle.serve_defs.specs.Posted.{posted_for}
use Rattle.serve_loop.specs.declared.server.Server.{Server}
use Rattle.serve_loop.specs.declared.ending.Ending.{Ending}
use Rattle.serve_loop.specs.declared.ending.Ending.TheVariants.{Done, NoMemory, Refused, ReadFault, WriteFault, Full, LinkFault, TooLong}
use Rattle.serve_loop.specs.Run.{IsAt, Moves, Passed, Closes, Steps, StopsAt, Stops, Halts, EnterHalts, TakeHalts, IsHalfPosted}
use Rattle.serve_loop.proofs.Entering.{logged_of}

-- ---- the steps of the outside

pub passes_none : (c : Config) (o : Option Outer) → Passed c o [] o []
passes_none c None = tt
passes_none c (Some o) = λ rest. (refl, refl)

pub passes_one : (c : Config) (before : Option Outer) (step : Step) (after : Option Outer) (came : List Arrival) → Moves c before step after came → Passed c before (step ∷ []) after came
passes_one c None step after came m = tt
passes_one c (Some o) step None came m = absurd m
passes_one c (Some o) step (Some p) came m = λ rest. (ap (λ a. came_then a (λ q. comes c q rest)) m, ap (λ a. outer_then a (λ q. outer_after c q rest)) m)

pub passes_more : (c : Config) (before mid after : Option Outer) (xs ys : List Step) (came more : List Arrival) → Passed c before xs mid came → Passed c mid ys after more
    → Passed c before (xs ++ ys) after (came ++ more)
passes_more c None mid after xs ys came more p q = tt
passes_more c (Some o) None after xs ys came more p q = absurd p
passes_more c (Some o) (Some u) None xs ys came more p q = absurd q
passes_more c (Some o) (Some u) (Some v) xs ys came more p q = λ rest. (
  ap (comes c o) (append_assoc xs ys rest) ∙ (p (ys ++ rest)).0 ∙ ap (λ l. came ++ l) (q rest).0 ∙ sym (append_assoc came more (comes c v rest)),
  ap (outer_after c o) (append_assoc xs ys rest) ∙ (p (ys ++ rest)).1 ∙ (q rest).1,
)

-- ---- one step of the run

pub halts_entered : (room : ℕ) (c : Config) (before after : Option Outer) (step : Step) (a : Arrival) (origin taken : Option (List ℕ)) (first sent : Option (List Outgoing)) (came : List Arrival) (e : Ending)
    → Moves c before step after (a ∷ []) → EnterHalts room c a origin taken first sent came e → Halts room c before step after origin taken first sent came e
halts_entered room c before after step a origin taken first sent came Done m h = absurd h
halts_entered room c before after step a origin taken first sent came NoMemory m h = h
halts_entered room c before after step a origin taken first sent came (Refused line why) m h = absurd h
halts_entered room c before after step a origin taken first sent came ReadFault m h = absurd h
halts_entered room c before after step a origin taken first sent came WriteFault m h = (a, m, h)
halts_entered room c before after step a origin taken first sent came Full m h = (a, m, h.0, h.1)
halts_entered room c before after step a origin taken first sent came LinkFault m h = (a ∷ [], inl m, h)
halts_entered room c before after step a origin taken first sent came TooLong m h = absurd h

-- a run that ends at a step ends in the steps that are this one
pub stops_one : (room : ℕ) (c : Config) (before after : Option Outer) (step : Step) (origin taken : Option (List ℕ)) (first sent : Option (List Outgoing)) (came : List Arrival) (e : Ending)
    → Halts room c before step after origin taken first sent came e → StopsAt room c before (step ∷ []) after origin taken first sent came e
stops_one room c before after step origin taken first sent came e h = record {
  done = [];
  step = step;
  rest = [];
  split = refl;
  mid = before;
  more = [];
  passed = passes_none c before;
  halts = subst (λ l. Halts room c before step after origin taken first sent l e) (sym (append-nil came)) h;
}

-- how a datagram ends a run, the step that took it does
halts_taken : (room : ℕ) (c : Config) (before after : Option Outer) (channel : ℕ) (d : Incoming) (origin taken : Option (List ℕ)) (first sent : Option (List Outgoing)) (came : List Arrival) (e : Ending)
    → (ends_run channel d.octets ≡ false → Moves c before (Ask channel) after (arrivals_of c channel d)) → (ends_run channel d.octets ≡ true → Closes c before (Ask channel) after)
    → TakeHalts room c channel d origin taken first sent came e → Halts room c before (Ask channel) after origin taken first sent came e
halts_taken room c before after channel d origin taken first sent came e m closes h = by e h
  where
    entered : (e : Ending) (a : Arrival) → ends_run channel d.octets ≡ false → arrivals_of c channel d ≡ a ∷ [] → EnterHalts room c a origin taken first sent came e
        → Halts room c before (Ask channel) after origin taken first sent came e
    entered e a goes is h = halts_entered room c before after (Ask channel) a origin taken first sent came e (subst (λ l. Moves c before (Ask channel) after l) is (m goes)) h

    by : (e : Ending) → TakeHalts room c channel d origin taken first sent came e → Halts room c before (Ask channel) after origin taken first sent came e
    by Done h = (closes h.0, h.1, h.2)
    by NoMemory h = entered NoMemory h.0 h.1 h.2 h.3
    by (Refused line why) h = entered (Refused line why) h.0 h.1 h.2 h.3
    by ReadFault h = entered ReadFault h.0 h.1 h.2 h.3
    by WriteFault h = entered WriteFault h.0 h.1 h.2 h.3
    by Full h = entered Full h.0 h.1 h.2 h.3
    by LinkFault h = entered LinkFault h.0 h.1 h.2 h.3
    by TooLong h = entered TooLong h.0 h.1 h.2 h.3

-- ---- the steps of a turn, of several turns, and of the links

-- the steps of a turn up to a channel, and the channel's
pub turn_split : (k : ℕ) → k < 6 → turn_steps ≡ take (k + 1) turn_steps ++ Ask k ∷ drop (k + 2) turn_steps
turn_split zero h = refl
turn_split (suc zero) h = refl
turn_split (suc (suc zero)) h = refl
turn_split (suc (suc (suc zero))) h = refl
turn_split (suc (suc (suc (suc zero)))) h = refl
turn_split (suc (suc (suc (suc (suc zero))))) h = refl
turn_split (suc (suc (suc (suc (suc (suc k)))))) h = absurd (omega (arith, h))

pub turn_next : (k : ℕ) → k < 6 → take (k + 1 + 1) turn_steps ≡ take (k + 1) turn_steps ++ Ask k ∷ []
turn_next zero h = refl
turn_next (suc zero) h = refl
turn_next (suc (suc zero)) h = refl
turn_next (suc (suc (suc zero))) h = refl
turn_next (suc (suc (suc (suc zero)))) h = refl
turn_next (suc (suc (suc (suc (suc zero))))) h = refl
turn_next (suc (suc (suc (suc (suc (suc k)))))) h = absurd (omega (arith, h))

turns_end : (n : ℕ) → turns_steps (suc n) ≡ turns_steps n ++ turn_steps
turns_end zero = refl
turns_end (suc n) = ap (λ l. turn_steps ++ l) (turns_end n) ∙ sym (append_assoc turn_steps (turns_steps n) turn_steps)

pub turns_next : (n : ℕ) → turns_steps (n + 1) ≡ turns_steps n ++ turn_steps
turns_next n =
    let e : n + 1 ≡ suc n = omega arith in
    ap turns_steps e ∙ turns_end n

pub turns_split : (n m k : ℕ) → m ≡ n + 1 + k → turns_steps m ≡ turns_steps n ++ (turn_steps ++ turns_steps k)
turns_split zero m k h =
    let e : m ≡ suc k = omega (arith, h) in
    ap turns_steps e
turns_split (suc n) m k h =
    let e : m ≡ suc (n + 1 + k) = omega (arith, h) in
    ap turns_steps e ∙ ap (λ l. turn_steps ++ l) (turns_split n (n + 1 + k) k refl) ∙ sym (append_assoc turn_steps (turns_steps n) (turn_steps ++ turns_steps k))

ups_next : (ports : List PortConf) (i : ℕ) (d : PortConf) → i < length ports
    → map (λ p. Up p.port) (take (i + 1) ports) ≡ map (λ p. Up p.port) (take i ports) ++ Up (slice_index_or ports i d).port ∷ []
ups_next ports i d h = ap (map (λ p. Up p.port)) (take_more ports i d h) ∙ map-append (λ p. Up p.port) (take i ports) (slice_index_or ports i d ∷ [])

ups_split : (ports : List PortConf) (i : ℕ) (d : PortConf) → i < length ports
    → map (λ p. Up p.port) ports ≡ map (λ p. Up p.port) (take i ports) ++ (Up (slice_index_or ports i d).port ∷ [] ++ map (λ p. Up p.port) (drop (i + 1) ports))
ups_split ports i d h =
    ap (map (λ p. Up p.port)) (sym (take-append-drop (i + 1) ports)) ∙ map-append (λ p. Up p.port) (take (i + 1) ports) (drop (i + 1) ports)
    ∙ ap (λ l. l ++ map (λ p. Up p.port) (drop (i + 1) ports)) (ups_next ports i d h)
    ∙ append_assoc (map (λ p. Up p.port) (take i ports)) (Up (slice_index_or ports i d).port ∷ []) (map (λ p. Up p.port) (drop (i + 1) ports))

-- a port that was looked up in the settings
pub ups_next_at : (ports now : List PortConf) (i : ℕ) (d : PortConf) → now ≡ ports → i < length ports
    → map (λ p. Up p.port) (take (i + 1) ports) ≡ map (λ p. Up p.port) (take i ports) ++ Up (slice_index_or now i d).port ∷ []
ups_next_at ports now i d is h = subst (λ l. map (λ p. Up p.port) (take (i + 1) ports) ≡ map (λ p. Up p.port) (take i ports) ++ Up (slice_index_or l i d).port ∷ []) (sym is) (ups_next ports i d h)

pub ups_split_at : (ports now : List PortConf) (i : ℕ) (d : PortConf) → now ≡ ports → i < length ports
    → map (λ p. Up p.port) ports ≡ map (λ p. Up p.port) (take i ports) ++ (Up (slice_index_or now i d).port ∷ [] ++ map (λ p. Up p.port) (drop (i + 1) ports))
ups_split_at ports now i d is h =
    subst (λ l. map (λ p. Up p.port) ports ≡ map (λ p. Up p.port) (take i ports) ++ (Up (slice_index_or l i d).port ∷ [] ++ map (λ p. Up p.port) (drop (i + 1) ports))) (sym is) (ups_split ports i d h)

module _ {A : Type 0} (stands : A → State → Type 0) (made : A → ℕ) where
  pub step_ok : {T : Type 0} (r : Result T Ending) (c : Config) (before after : Option Outer) (step : Step) (a : Arrival) (taken taken' : Option (List ℕ)) (sent sent' : Option (List Outgoing)) (old new : Server A)
      → ((origin : Option (List ℕ)) (first : Option (List Outgoing)) (came : List Arrival) → IsAt stands made origin taken first sent old came → OnOk r (IsAt stands made origin taken' first sent' new (came ++ a ∷ [])))
      → Moves c before step after (a ∷ []) → OnOk r (Steps stands made c before (step ∷ []) after taken taken' sent sent' old new)
  step_ok (Ok t) c before after step a taken taken' sent sent' old new enters m = λ origin first came at. (a ∷ [], enters origin first came at, passes_one c before step after (a ∷ []) m)
  step_ok (Err e) c before after step a taken taken' sent sent' old new enters m = tt

  pub step_err : {T : Type 0} (r : Result T Ending) (room : ℕ) (c : Config) (before after : Option Outer) (step : Step) (a : Arrival) (taken taken' : Option (List ℕ)) (sent sent' : Option (List Outgoing)) (old : Server A)
      → ((origin : Option (List ℕ)) (first : Option (List Outgoing)) (came : List Arrival) → IsAt stands made origin taken first sent old came → IfErr r (λ e. EnterHalts room c a origin taken' first sent' came e))
      → Moves c before step after (a ∷ []) → IfErr r (λ e. Stops stands made room c before (step ∷ []) after taken taken' sent sent' old e)
  step_err (Ok t) room c before after step a taken taken' sent sent' old halts m = tt
  step_err (Err e) room c before after step a taken taken' sent sent' old halts m = λ origin first came at.
      stops_one room c before after step origin taken' first sent' came e (halts_entered room c before after step a origin taken' first sent' came e m (halts origin first came at))

  -- the link sent nothing more
  pub kept_sent : (origin taken : Option (List ℕ)) (first sent sent' : Option (List Outgoing)) (server : Server A) (came : List Arrival) → Same sent sent' → IsAt stands made origin taken first sent server came
      → IsAt stands made origin taken first sent' server came
  kept_sent origin taken first sent sent' server came s at = record { standing = at.standing; homes = at.homes; settings = at.settings; records = at.records; written = at.written; posted = Grows-kept first sent sent' _ at.posted s }

  -- the last second is no part of what was taken
  pub same_last : (origin taken : Option (List ℕ)) (first sent : Option (List Outgoing)) (server : Server A) (came : List Arrival) (last : ℕ) → IsAt stands made origin taken first sent server came
      → IsAt stands made origin taken first sent (record server { last = last }) came
  same_last origin taken first sent server came last at = record { standing = at.standing; homes = at.homes; settings = at.settings; records = at.records; written = at.written; posted = at.posted }

  -- nothing came
  pub step_none : (c : Config) (before after : Option Outer) (step : Step) (taken : Option (List ℕ)) (sent sent' : Option (List Outgoing)) (server : Server A)
      → Moves c before step after [] → Same sent sent' → Steps stands made c before (step ∷ []) after taken taken sent sent' server server
  step_none c before after step taken sent sent' server m s = λ origin first came at. (
    [],
    subst (λ l. IsAt stands made origin taken first sent' server l) (sym (append-nil came)) (kept_sent origin taken first sent sent' server came s at),
    passes_one c before step after [] m,
  )

  -- ---- a datagram

  pub entered_ok : {T : Type 0} (r : Result T Ending) (P Q : Type 0) → P → OnOk r Q → OnOk r (P × Q)
  entered_ok (Ok t) P Q p q = (p, q)
  entered_ok (Err e) P Q p q = tt

  -- the channel failed
  pub stops_failed : (room : ℕ) (c : Config) (before after : Option Outer) (step : Step) (taken : Option (List ℕ)) (sent sent' : Option (List Outgoing)) (server : Server A)
      → Same before after → Same sent sent' → c ≡ server.config → Stops stands made room c before (step ∷ []) after taken taken sent sent' server LinkFault
  stops_failed room c before after step taken sent sent' server stays s same = λ origin first came at.
      let logged = logged_of stands made origin taken first sent server came at in
      let posts = posted_for server.config came in
      let here : IsHalfPosted server.config origin taken first sent' came = record {
        written = logged.written;
        trace = logged.trace;
        posted = (length posts, omega arith, Grows-same first sent' posts _ (sym (take_all (length posts) posts (omega arith))) (Grows-kept first sent sent' posts logged.posted s));
      } in
      let same_here = subst (λ k. IsHalfPosted k origin taken first sent' came) (sym same) here in
      let kept = subst (IsHalfPosted c origin taken first sent') (sym (append-nil came)) same_here in
      stops_one room c before after step origin taken first sent' came LinkFault ([], inr (refl, stays), kept)

  pub taken_ok : {T : Type 0} (r : Result T Ending) (c : Config) (before after : Option Outer) (step : Step) (ends : Bool) (more : List Arrival) (taken taken' : Option (List ℕ)) (sent mid sent' : Option (List Outgoing)) (old new : Server A)
      → Same sent mid
      → ((origin : Option (List ℕ)) (first : Option (List Outgoing)) (came : List Arrival) → IsAt stands made origin taken first mid old came → OnOk r ((ends ≡ false) × IsAt stands made origin taken' first sent' new (came ++ more)))
      → (ends ≡ false → Moves c before step after more) → OnOk r (Steps stands made c before (step ∷ []) after taken taken' sent sent' old new)
  taken_ok (Ok t) c before after step ends more taken taken' sent mid sent' old new s takes m = λ origin first came at.
      let found = takes origin first came (kept_sent origin taken first sent mid old came s at) in
      (more, found.1, passes_one c before step after more (m found.0))
  taken_ok (Err e) c before after step ends more taken taken' sent mid sent' old new s takes m = tt

  pub taken_err : {T : Type 0} (r : Result T Ending) (room : ℕ) (c : Config) (before after : Option Outer) (channel : ℕ) (d : Incoming) (taken taken' : Option (List ℕ)) (sent mid sent' : Option (List Outgoing)) (old : Server A)
      → Same sent mid
      → ((origin : Option (List ℕ)) (first : Option (List Outgoing)) (came : List Arrival) → IsAt stands made origin taken first mid old came → IfErr r (λ e. TakeHalts room c channel d origin taken' first sent' came e))
      → (ends_run channel d.octets ≡ false → Moves c before (Ask channel) after (arrivals_of c channel d)) → (ends_run channel d.octets ≡ true → Closes c before (Ask channel) after)
      → IfErr r (λ e. Stops stands made room c before (Ask channel ∷ []) after taken taken' sent sent' old e)
  taken_err (Ok t) room c before after channel d taken taken' sent mid sent' old s takes m closes = tt
  taken_err (Err e) room c before after channel d taken taken' sent mid sent' old s takes m closes = λ origin first came at.
      stops_one room c before after (Ask channel) origin taken' first sent' came e
      (halts_taken room c before after channel d origin taken' first sent' came e m closes (takes origin first came (kept_sent origin taken first sent mid old came s at)))

  -- ---- several steps

  pub steps_more : (c : Config) (before mid after : Option Outer) (xs ys : List Step) (taken taken' taken'' : Option (List ℕ)) (sent sent' sent'' : Option (List Outgoing)) (a b d : Server A)
      → Steps stands made c before xs mid taken taken' sent sent' a b → Steps stands made c mid ys after taken' taken'' sent' sent'' b d → Steps stands made c before (xs ++ ys) after taken taken'' sent sent'' a d
  steps_more c before mid after xs ys taken taken' taken'' sent sent' sent'' a b d p q = λ origin first came at.
      let one = p origin first came at in
      let two = q origin first (came ++ one.0) one.1 in
      (one.0 ++ two.0, subst (λ l. IsAt stands made origin taken'' first sent'' d l) (append_assoc came one.0 two.0) two.1, passes_more c before mid after xs ys one.0 two.0 one.2 two.2)

  -- a run that ends in the later steps
  pub stops_later : (room : ℕ) (c : Config) (before mid after : Option Outer) (xs ys all : List Step) (taken taken' taken'' : Option (List ℕ)) (sent sent' sent'' : Option (List Outgoing)) (a b : Server A) (e : Ending)
      → all ≡ xs ++ ys → Steps stands made c before xs mid taken taken' sent sent' a b → Stops stands made room c mid ys after taken' taken'' sent' sent'' b e → Stops stands made room c before all after taken taken'' sent sent'' a e
  stops_later room c before mid after xs ys all taken taken' taken'' sent sent' sent'' a b e split p q = λ origin first came at.
      let one = p origin first came at in
      let two = q origin first (came ++ one.0) one.1 in record {
        done = xs ++ two.done;
        step = two.step;
        rest = two.rest;
        split = split ∙ ap (λ l. xs ++ l) two.split ∙ sym (append_assoc xs two.done (two.step ∷ two.rest));
        mid = two.mid;
        more = one.0 ++ two.more;
        passed = passes_more c before mid two.mid xs two.done one.0 two.more one.2 two.passed;
        halts = subst (λ l. Halts room c two.mid two.step after origin taken'' first sent'' l e) (append_assoc came one.0 two.more) two.halts;
      }

  -- a run that ends in the first steps
  pub stops_first : (room : ℕ) (c : Config) (before after : Option Outer) (xs ys all : List Step) (taken taken' : Option (List ℕ)) (sent sent' : Option (List Outgoing)) (a : Server A) (e : Ending)
      → all ≡ xs ++ ys → Stops stands made room c before xs after taken taken' sent sent' a e → Stops stands made room c before all after taken taken' sent sent' a e
  stops_first room c before after xs ys all taken taken' sent sent' a e split p = λ origin first came at.
      let one = p origin first came at in record {
        done = one.done;
        step = one.step;
        rest = one.rest ++ ys;
        split = split ∙ ap (λ l. l ++ ys) one.split ∙ append_assoc one.done (one.step ∷ one.rest) ys;
        mid = one.mid;
        more = one.more;
        passed = one.passed;
        halts = one.halts;
      }

  pub turn_goes : (c d : Config) (k : ℕ) (before mid after : Option Outer) (taken taken' taken'' : Option (List ℕ)) (sent sent' sent'' : Option (List Outgoing)) (a b e : Server A)
      → k < 6 → d ≡ c → Steps stands made c before (take (k + 1) turn_steps) mid taken taken' sent sent' a b → Steps stands made d mid (Ask k ∷ []) after taken' taken'' sent' sent'' b e
      → Steps stands made c before (take (k + 1 + 1) turn_steps) after taken taken'' sent sent'' a e
  turn_goes c d k before mid after taken taken' taken'' sent sent' sent'' a b e h same p q =
      subst (λ l. Steps stands made c before l after taken taken'' sent sent'' a e) (sym (turn_next k h))
      (steps_more c before mid after (take (k + 1) turn_steps) (Ask k ∷ []) taken taken' taken'' sent sent' sent'' a b e p (subst (λ f. Steps stands made f mid (Ask k ∷ []) after taken' taken'' sent' sent'' b e) same q))

  pub turn_stops : (room : ℕ) (c d : Config) (k : ℕ) (before mid after : Option Outer) (taken taken' taken'' : Option (List ℕ)) (sent sent' sent'' : Option (List Outgoing)) (a b : Server A) (e : Ending)
      → k < 6 → d ≡ c → Steps stands made c before (take (k + 1) turn_steps) mid taken taken' sent sent' a b → Stops stands made room d mid (Ask k ∷ []) after taken' taken'' sent' sent'' b e
      → Stops stands made room c before turn_steps after taken taken'' sent sent'' a e
  turn_stops room c d k before mid after taken taken' taken'' sent sent' sent'' a b e h same p q =
      let rest = drop (k + 2) turn_steps in
      let there = subst (λ f. Stops stands made room f mid (Ask k ∷ []) after taken' taken'' sent' sent'' b e) same q in
      stops_later room c before mid after (take (k + 1) turn_steps) (Ask k ∷ rest) turn_steps taken taken' taken'' sent sent' sent'' a b e (turn_split k h) p
      (stops_first room c mid after (Ask k ∷ []) rest (Ask k ∷ rest) taken' taken'' sent' sent'' b e refl there)

  pub steps_none : (c : Config) (o : Option Outer) (taken : Option (List ℕ)) (sent : Option (List Outgoing)) (server : Server A) → Steps stands made c o [] o taken taken sent sent server server
  steps_none c o taken sent server = λ origin first came at. ([], subst (λ l. IsAt stands made origin taken first sent server l) (sym (append-nil came)) at, passes_none c o)

  -- more of the same, where the settings stay
  pub goes_on : (c d : Config) (xs ys all : List Step) (before mid after : Option Outer) (taken taken' taken'' : Option (List ℕ)) (sent sent' sent'' : Option (List Outgoing)) (a b e : Server A)
      → all ≡ xs ++ ys → d ≡ c → Steps stands made c before xs mid taken taken' sent sent' a b → Steps stands made d mid ys after taken' taken'' sent' sent'' b e
      → Steps stands made c before all after taken taken'' sent sent'' a e
  goes_on c d xs ys all before mid after taken taken' taken'' sent sent' sent'' a b e split same p q =
      subst (λ l. Steps stands made c before l after taken taken'' sent sent'' a e) (sym split)
      (steps_more c before mid after xs ys taken taken' taken'' sent sent' sent'' a b e p (subst (λ f. Steps stands made f mid ys after taken' taken'' sent' sent'' b e) same q))

  pub stops_on : (room : ℕ) (c d : Config) (xs ys zs all : List Step) (before mid after : Option Outer) (taken taken' taken'' : Option (List ℕ)) (sent sent' sent'' : Option (List Outgoing)) (a b : Server A) (e : Ending)
      → all ≡ xs ++ (ys ++ zs) → d ≡ c → Steps stands made c before xs mid taken taken' sent sent' a b → Stops stands made room d mid ys after taken' taken'' sent' sent'' b e
      → Stops stands made room c before all after taken taken'' sent sent'' a e
  stops_on room c d xs ys zs all before mid after taken taken' taken'' sent sent' sent'' a b e split same p q =
      let there = subst (λ f. Stops stands made room f mid ys after taken' taken'' sent' sent'' b e) same q in
      stops_later room c before mid after xs (ys ++ zs) all taken taken' taken'' sent sent' sent'' a b e split p
      (stops_first room c mid after ys zs (ys ++ zs) taken' taken'' sent' sent'' b e refl there)

  pub stops_over : (room : ℕ) (c d : Config) (xs ys all : List Step) (before mid after : Option Outer) (taken taken' taken'' : Option (List ℕ)) (sent sent' sent'' : Option (List Outgoing)) (a b : Server A) (e : Ending)
      → all ≡ xs ++ ys → d ≡ c → Steps stands made c before xs mid taken taken' sent sent' a b → Stops stands made room d mid ys after taken' taken'' sent' sent'' b e
      → Stops stands made room c before all after taken taken'' sent sent'' a e
  stops_over room c d xs ys all before mid after taken taken' taken'' sent sent' sent'' a b e split same p q =
      stops_later room c before mid after xs ys all taken taken' taken'' sent sent' sent'' a b e split p (subst (λ f. Stops stands made room f mid ys after taken' taken'' sent' sent'' b e) same q)

  pub steps_same : (c : Config) (before after : Option Outer) (xs ys : List Step) (taken taken' : Option (List ℕ)) (sent sent' : Option (List Outgoing)) (a b : Server A) → xs ≡ ys
      → Steps stands made c before xs after taken taken' sent sent' a b → Steps stands made c before ys after taken taken' sent sent' a b
  steps_same c before after xs ys taken taken' sent sent' a b e p = subst (λ l. Steps stands made c before l after taken taken' sent sent' a b) e p

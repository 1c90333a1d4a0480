-- From the step at which a run ended to how it ended.
use Rattle.std.proofs.Common.{◌≡◌, inl, inr, ℕ, ◌+◌, ◌≤◌, ◌<◌, true, List, [], ◌∷◌, ◌++◌, Option, None, Some, refl, sym, ap, ◌∙◌, subst, arith, append_assoc, append-nil}
use Rattle.switch_event.specs.Config.{Config}
use Rattle.switch_defs.specs.Switch.{State}
use Rattle.trace_defs.specs.Line.{Record}
use Rattle.trace_defs.specs.Line.Record.{Control, Data}
use Rattle.history_defs.specs.Output.{controls_in, first_place}
use Rattle.history_defs.proofs.PlaceLemmas.{place_serial, controls_in-append}
use Rattle.outside_link.specs.Link.{Incoming, Outgoing, Same}
use Rattle.serve_defs.specs.Log.{cut}
use Rattle.serve_defs.specs.Served.{Arrival, Outer, Step, comes, outer_after, came_then, outer_then, entries_of, all_steps}
use Rattle.serve_defs.proofs.Appended.{entries_of-append}
use Rattle.serve_defs.proofs.Cuts.{cut_here}
use Rattle.serve_loop.specs.declared.ending.Ending.{Ending}
use Rattle.serve_loop.specs.declared.ending.Ending.TheVariants.{Done, NoMemory, Refused, ReadFault, WriteFault, Full, LinkFault, TooLong}
use Rattle.serve_loop.specs.declared.server.Server.{Server}
use Rattle.serve_loop.specs.Arrived.{is_control_record}
use Rattle.serve_loop.specs.Run.{Moves, Closes, Passes, Passed, MovesOrStays, Halts, StopsAt, Stops, Steps, IsAt, IsLogged, IsSound, IsTooMany, outer_of, place_of}
use Rattle.serve_loop.specs.Ends.{Finished, Begins, IsFull, Partly, Halted, RunEnds}
use Rattle.serve_loop.proofs.Entering.{logged_of}
use Rattle.serve_loop.proofs.Steps.{passes_one, passes_more}

-- what waits, where the outside is told
abbrev pub waits_of : Option Outer → Option (List (List Incoming)) → Type 0
waits_of None waits = Unit {0}
waits_of (Some o) waits = waits ≡ Some o.waits

pub waits_are : (last : ℕ) (m : Option (List ℕ)) (w : Option (List (List Incoming))) → waits_of (outer_of last m w) w
waits_are last None w = tt
waits_are last (Some m) None = tt
waits_are last (Some m) (Some w) = refl

none_some : {A : Type 0} {x : A} → None ≡ Some x → ⊥
none_some e = cc

some_is : {A : Type 0} {x y : A} → Some x ≡ Some y → x ≡ y
some_is e = cc

controls_of : (c : Config) (came : List Arrival) → (place_of c came).serial ≡ controls_in (entries_of came)
controls_of c came = place_serial (first_place c) (entries_of came) ∙ none_more (controls_in (entries_of came))
  where
    none_more : (n : ℕ) → 0 + n ≡ n
    none_more n = omega arith

-- ---- what came

begins : (c : Config) (before mid : Option Outer) (all done rest : List Step) (came : List Arrival) → all ≡ done ++ rest → Passed c before done mid came → Begins c before all came
begins c None mid all done rest came split p = tt
begins c (Some o) None all done rest came split p = absurd p
begins c (Some o) (Some u) all done rest came split p = (comes c u rest, ap (comes c o) split ∙ (p rest).0)

begins-one : (c : Config) (before mid after : Option Outer) (all done rest : List Step) (step : Step) (came : List Arrival) (a : Arrival) → all ≡ done ++ step ∷ rest
    → Passed c before done mid came → Moves c mid step after (a ∷ []) → Begins c before all (came ++ a ∷ [])
begins-one c before mid after all done rest step came a split p m =
    begins c before after all (done ++ step ∷ []) rest (came ++ a ∷ []) (split ∙ sym (append_assoc done (step ∷ []) rest))
    (passes_more c before mid after done (step ∷ []) came (a ∷ []) p (passes_one c mid step after (a ∷ []) m))

-- the steps were done, and the outside is told
record IsDone (c : Config) (o v : Outer) (done : List Step) (came : List Arrival) : Type 0 where
  came_is : came ≡ comes c o done
  outer_is : v ≡ outer_after c o done

passed_done : (c : Config) (o v : Outer) (done : List Step) (came : List Arrival) → Passes c o done v came → IsDone c o v done came
passed_done c o v done came p = record {
  came_is = sym (append-nil came) ∙ sym (p []).0 ∙ ap (comes c o) (append-nil done);
  outer_is = sym (p []).1 ∙ ap (outer_after c o) (append-nil done);
}

partly : (c : Config) (before after : Option Outer) (waits : Option (List (List Incoming))) (all done rest : List Step) (came : List Arrival) → all ≡ done ++ rest
    → Passed c before done after came → waits_of after waits → Partly c before waits all came
partly c None after waits all done rest came split p w = tt
partly c (Some o) None waits all done rest came split p w = absurd p
partly c (Some o) (Some v) None all done rest came split p w = absurd (none_some w)
partly c (Some o) (Some v) (Some k) all done rest came split p w =
    let d = passed_done c o v done came p in record {
      done = done;
      rest = rest;
      split = split;
      came_is = d.came_is;
      waits_are = some_is w ∙ ap (λ q. q.waits) d.outer_is;
      more = comes c v rest;
      all = ap (comes c o) split ∙ (p rest).0;
    }

finished : (c : Config) (before after : Option Outer) (waits : Option (List (List Incoming))) (all : List Step) (came : List Arrival)
    → Passed c before all after came → waits_of after waits → Finished c before waits all came
finished c None after waits all came p w = tt
finished c (Some o) None waits all came p w = absurd p
finished c (Some o) (Some v) None all came p w = absurd (none_some w)
finished c (Some o) (Some v) (Some k) all came p w =
    let d = passed_done c o v all came p in (d.came_is, some_is w ∙ ap (λ q. q.waits) d.outer_is)

-- a step that ended the run
closed : (c : Config) (before mid after : Option Outer) (waits : Option (List (List Incoming))) (all done rest : List Step) (step : Step) (came : List Arrival) → all ≡ done ++ step ∷ rest
    → Passed c before done mid came → Closes c mid step after → waits_of after waits → Finished c before waits all came
closed c None mid after waits all done rest step came split p e w = tt
closed c (Some o) None after waits all done rest step came split p e w = absurd p
closed c (Some o) (Some u) None waits all done rest step came split p e w = absurd e
closed c (Some o) (Some u) (Some v) None all done rest step came split p e w = absurd (none_some w)
closed c (Some o) (Some u) (Some v) (Some k) all done rest step came split p e w = (
  sym (append-nil came) ∙ sym (ap (λ r. came ++ came_then r (λ q. comes c q rest)) e) ∙ sym (p (step ∷ rest)).0 ∙ sym (ap (comes c o) split),
  some_is w ∙ ap (λ q. q.waits) (sym (ap (λ r. outer_then r (λ q. outer_after c q rest)) e) ∙ sym (p (step ∷ rest)).1 ∙ sym (ap (outer_after c o) split)),
)

stayed : (c : Config) (before mid after : Option Outer) (done : List Step) (came : List Arrival) → Passed c before done mid came → Same mid after → Passed c before done after came
stayed c None mid after done came p s = tt
stayed c (Some o) None after done came p s = absurd p
stayed c (Some o) (Some u) None done came p s = absurd s
stayed c (Some o) (Some u) (Some v) done came p s = subst (λ q. Passes c o done q came) (sym s) p

half : (c : Config) (before mid after : Option Outer) (waits : Option (List (List Incoming))) (all done rest : List Step) (step : Step) (came more : List Arrival) → all ≡ done ++ step ∷ rest
    → Passed c before done mid came → MovesOrStays c mid step after more → waits_of after waits → Partly c before waits all (came ++ more)
half c before mid after waits all done rest step came more split p (inl m) w =
    partly c before after waits all (done ++ step ∷ []) rest (came ++ more) (split ∙ sym (append_assoc done (step ∷ []) rest)) (passes_more c before mid after done (step ∷ []) came more p (passes_one c mid step after more m)) w
half c before mid after waits all done rest step came more split p (inr q) w =
    subst (λ l. Partly c before waits all l) (sym (ap (λ l. came ++ l) q.0 ∙ append-nil came)) (partly c before after waits all done (step ∷ rest) came split (stayed c before mid after done came p q.1) w)

-- ---- no room for one more

-- records, a control record for which there is no room, and more
record IsCut (room : ℕ) (rs : List Record) (r : Record) (more : List Record) : Type 0 where
  before_it : rs ≡ cut room (rs ++ r ∷ more)
  over : room < controls_in (rs ++ r ∷ more)

cut_at : (room : ℕ) (rs : List Record) (r : Record) (more : List Record) → is_control_record r ≡ true → controls_in rs ≡ room → IsCut room rs r more
cut_at room rs (Control lane happening) more is full = record {
  before_it = sym (cut_here room rs more lane happening full);
  over = omega (arith, controls_in-append rs (Control lane happening ∷ more), full);
}
cut_at room rs (Data port octets) more is full = absurd (cc)

full_told : (room : ℕ) (c : Config) (o : Outer) (all : List Step) (came more : List Arrival) (a : Arrival) → comes c o all ≡ (came ++ a ∷ []) ++ more
    → is_control_record a.entry ≡ true → controls_in (entries_of came) ≡ room
    → (entries_of came ≡ cut room (entries_of (comes c o all))) × (room < controls_in (entries_of (comes c o all)))
full_told room c o all came more a is control full =
    let whole : entries_of (comes c o all) ≡ entries_of came ++ a.entry ∷ entries_of more =
    ap entries_of (is ∙ append_assoc came (a ∷ []) more) ∙ entries_of-append came (a ∷ more) in
    let k = cut_at room (entries_of came) a.entry (entries_of more) control full in
    (k.before_it ∙ ap (cut room) (sym whole), subst (λ l. room < controls_in l) (sym whole) k.over)

full : (room : ℕ) (c : Config) (before : Option Outer) (all : List Step) (came : List Arrival) (a : Arrival) → Begins c before all (came ++ a ∷ []) → IsTooMany room c came a → IsFull room c before all came
full room c None all came a b many = record { controls = sym (controls_of c came) ∙ many.1; before_it = tt; more = tt }
full room c (Some o) all came a b many =
    let count = sym (controls_of c came) ∙ many.1 in
    let told = full_told room c o all came b.0 a b.1 many.0 count in
    record { controls = count; before_it = told.0; more = told.1 }

-- ---- the whole run

halted : (room : ℕ) (c : Config) (before after : Option Outer) (waits : Option (List (List Incoming))) (all : List Step) (origin taken : Option (List ℕ)) (first sent : Option (List Outgoing)) (e : Ending)
    → StopsAt room c before all after origin taken first sent [] e → waits_of after waits → Halted room c before waits all origin taken first sent e
halted room c before after waits all origin taken first sent e s w = by e s.halts
  where
    by : (e : Ending) → Halts room c s.mid s.step after origin taken first sent s.more e → Halted room c before waits all origin taken first sent e
    by Done h = (s.more, closed c before s.mid after waits all s.done s.rest s.step s.more s.split s.passed h.0 w, omega (arith, h.1, controls_of c s.more), h.2)
    by NoMemory h = (s.more, begins c before s.mid all s.done (s.step ∷ s.rest) s.more s.split s.passed, h)
    by (Refused line why) h = absurd h
    by ReadFault h = absurd h
    by WriteFault h = (s.more, h.0, half c before s.mid after waits all s.done s.rest s.step s.more (h.0 ∷ []) s.split s.passed (inl h.1) w, h.2)
    by Full h = (s.more, h.0, half c before s.mid after waits all s.done s.rest s.step s.more (h.0 ∷ []) s.split s.passed (inl h.1) w, full room c before all s.more h.0 (begins-one c before s.mid after all s.done s.rest s.step s.more h.0 s.split s.passed h.1) h.2, h.3)
    by LinkFault h = (s.more ++ h.0, half c before s.mid after waits all s.done s.rest s.step s.more h.0 s.split s.passed h.1 w, h.2)
    by TooLong h = absurd h

module _ {A : Type 0} (stands : A → State → Type 0) (made : A → ℕ) where
  pub run_stops : (room turns : ℕ) (c d : Config) (clock : ℕ) (m m' : Option (List ℕ)) (w w' : Option (List (List Incoming))) (last : ℕ) (origin taken taken' : Option (List ℕ)) (first sent' : Option (List Outgoing)) (server : Server A) (e : Ending)
      → d ≡ c → clock ≡ c.clock → IsAt stands made origin taken first first server []
      → Stops stands made room d (outer_of clock m w) (all_steps c.ports turns) (outer_of last m' w') taken taken' first sent' server e
      → RunEnds room turns c (outer_of c.clock m w) w' origin taken' first sent' e
  run_stops room turns c d clock m m' w w' last origin taken taken' first sent' server e same clocks at stops =
      let there : StopsAt room d (outer_of clock m w) (all_steps c.ports turns) (outer_of last m' w') origin taken' first sent' [] e = stops origin first [] at in
      let here = subst (λ k. StopsAt room c (outer_of k m w) (all_steps c.ports turns) (outer_of last m' w') origin taken' first sent' [] e) clocks
      (subst (λ k. StopsAt room k (outer_of clock m w) (all_steps c.ports turns) (outer_of last m' w') origin taken' first sent' [] e) same there) in
      inr (halted room c (outer_of c.clock m w) (outer_of last m' w') w' (all_steps c.ports turns) origin taken' first sent' e here (waits_are last m' w'))

  pub run_done : (room turns : ℕ) (c d : Config) (clock : ℕ) (m m' : Option (List ℕ)) (w w' : Option (List (List Incoming))) (last : ℕ) (origin taken taken' : Option (List ℕ)) (first sent' : Option (List Outgoing)) (server server' : Server A)
      → d ≡ c → clock ≡ c.clock → server'.config ≡ c → IsSound stands made room server' → IsAt stands made origin taken first first server []
      → Steps stands made d (outer_of clock m w) (all_steps c.ports turns) (outer_of last m' w') taken taken' first sent' server server'
      → RunEnds room turns c (outer_of c.clock m w) w' origin taken' first sent' Done
  run_done room turns c d clock m m' w w' last origin taken taken' first sent' server server' same clocks same' sound at steps =
      let all = all_steps c.ports turns in
      let there = steps origin first [] at in
      let passed = subst (λ k. Passed c (outer_of k m w) all (outer_of last m' w') there.0) clocks (subst (λ k. Passed k (outer_of clock m w) all (outer_of last m' w') there.0) same there.2) in
      let few : controls_in (entries_of there.0) ≤ room = omega (arith, sound.few, sound.standing.serial, there.1.standing.serial, controls_of server'.config there.0) in
      inr (
        there.0,
        finished c (outer_of c.clock m w) (outer_of last m' w') w' all there.0 passed (waits_are last m' w'),
        few,
        subst (λ k. IsLogged k origin taken' first sent' there.0) same' (logged_of stands made origin taken' first sent' server' there.0 there.1),
      )

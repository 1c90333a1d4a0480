-- What one step does to the outside, where clock and link tell.
use Rattle.std.proofs.Common.{◌≡◌, ℕ, ◌+◌, ◌≤◌, ◌<◌, min, List, [], ◌∷◌, Option, None, Some, Ok, Err, refl, sym, ap, ap₂, ◌∙◌, subst, arith, length, length-take, take, Bool, true, false, nat_lt, lt-ltb, le-ltb, ltb-true, ltb-false, ◌==◌, ◌&&◌, if◌then◌else◌}
use Rattle.std.proofs.lemmas.List.{take_min, take_all}
use Rattle.std.proofs.Math.Nat.{min_comm}
use Rattle.wire_core.specs.declared.address.Addr.{Addr}
use Rattle.outside_core.specs.declared.outside.Failed.{Failed}
use Rattle.switch_event.specs.Config.{Config}
use Rattle.switch_event.specs.Event.{Second, Link}
use Rattle.outside_link.specs.Clock.{Tells, moment_of, moments_after}
use Rattle.outside_link.specs.Link.{Incoming, Same, Receives, IsReceived, without_first}
use Rattle.serve_defs.specs.Served.{Outer, event, by_datagram, ends_run, arrivals_of, arrival_on, is_end}
use Rattle.serve_defs.specs.Served.Step.{Up, Time, Ask}
use Rattle.serve_defs.specs.Served.Answered.{Goes, Ends}
use Rattle.serve_loop.specs.Run.{outer_of, Moves, Closes}

-- a port's link came up
pub moves_up : (c : Config) (last last' port : ℕ) (m : Option (List ℕ)) (w w' : Option (List (List Incoming))) → last' ≡ last → Same w w'
    → Moves c (outer_of last m w) (Up port) (outer_of last' m w') (record { entry = event (Link port true); from = None } ∷ [])
moves_up c last last' port None w w' e s = tt
moves_up c last last' port (Some m) None w' e s = tt
moves_up c last last' port (Some m) (Some w) None e s = absurd s
moves_up c last last' port (Some m) (Some w) (Some w') e s =
    ap₂ (λ k v. Goes (record { clock = k; moments = m; waits = v }) (record { entry = event (Link port true); from = None } ∷ [])) (sym e) (sym s)

-- the clock has not gone on
pub moves_still : (c : Config) (last now : ℕ) (m m' : Option (List ℕ)) (w : Option (List (List Incoming))) → Tells m m' now → now ≤ last
    → Moves c (outer_of last m w) Time (outer_of last m' w) []
moves_still c last now None m' w t h = tt
moves_still c last now (Some m) m' None t h = tt
moves_still c last now (Some m) None (Some w) t h = absurd t
moves_still c last now (Some m) (Some m') (Some w) t h =
    let still : nat_lt last (moment_of m) ≡ false = le-ltb _ _ (subst (λ k. k ≤ last) t.0 h) in
    ap (λ b. if b then Goes (record { clock = last + 1; moments = moments_after m; waits = w }) (record { entry = event Second; from = None } ∷ []) else Goes (record { clock = last; moments = moments_after m; waits = w }) []) still
    ∙ ap (λ k. Goes (record { clock = last; moments = k; waits = w }) []) (sym t.1)

-- a second has gone by
pub moves_second : (c : Config) (last last' now : ℕ) (m m' : Option (List ℕ)) (w w' : Option (List (List Incoming))) → Tells m m' now → last < now → last' ≡ last + 1 → Same w w'
    → Moves c (outer_of last m w) Time (outer_of last' m' w') (record { entry = event Second; from = None } ∷ [])
moves_second c last last' now None m' w w' t h e s = tt
moves_second c last last' now (Some m) m' None w' t h e s = tt
moves_second c last last' now (Some m) None (Some w) w' t h e s = absurd t
moves_second c last last' now (Some m) (Some m') (Some w) None t h e s = absurd s
moves_second c last last' now (Some m) (Some m') (Some w) (Some w') t h e s =
    let later : nat_lt last (moment_of m) ≡ true = lt-ltb _ _ (subst (λ k. last < k) t.0 h) in
    let came = record { entry = event Second; from = None } ∷ [] in
    ap (λ b. if b then Goes (record { clock = last + 1; moments = moments_after m; waits = w }) came else Goes (record { clock = last; moments = moments_after m; waits = w }) []) later
    ∙ ap (λ k. Goes (record { clock = last + 1; moments = k; waits = w }) came) (sym t.1)
    ∙ ap₂ (λ k v. Goes (record { clock = k; moments = m'; waits = v }) came) (sym e) (sym s)

-- nothing waits on the channel
pub moves_none : (c : Config) (last channel : ℕ) (m : Option (List ℕ)) (w w' : Option (List (List Incoming))) (buf : List ℕ)
    → Receives {E = Failed} w w' channel (Ok None) buf → Moves c (outer_of last m w) (Ask channel) (outer_of last m w') []
moves_none c last channel None w w' buf r = tt
moves_none c last channel (Some m) None w' buf r = tt
moves_none c last channel (Some m) (Some w) None buf r = absurd r
moves_none c last channel (Some m) (Some w) (Some w') buf r =
    ap (λ f. by_datagram c (record { clock = last; moments = m; waits = w }) channel f) r.0 ∙ ap (λ v. Goes (record { clock = last; moments = m; waits = v }) []) (sym r.1)

-- the channel failed
pub stays_failed : (last channel : ℕ) (m : Option (List ℕ)) (w w' : Option (List (List Incoming))) (e : Failed) (buf : List ℕ)
    → Receives w w' channel (Err e) buf → Same (outer_of last m w) (outer_of last m w')
stays_failed last channel None w w' e buf r = tt
stays_failed last channel (Some m) None w' e buf r = tt
stays_failed last channel (Some m) (Some w) None e buf r = absurd r
stays_failed last channel (Some m) (Some w) (Some w') e buf r = ap (λ v. record { clock = last; moments = m; waits = v }) r

-- ---- a datagram of which as much was taken as fits

record Truncates (c : Config) (channel : ℕ) (from : Addr) (xs ys : List ℕ) : Type 0 where
  came : arrivals_of c channel (record { from = from; octets = ys }) ≡ arrivals_of c channel (record { from = from; octets = xs })
  ends : ends_run channel ys ≡ ends_run channel xs

truncated : (c : Config) (channel : ℕ) (from : Addr) (xs : List ℕ) → Truncates c channel from xs (take 5001 xs)
truncated c channel from xs = record { came = by_length (nat_lt 5000 (length xs)) refl; ends = ap (λ b. (channel == 0) && b) (end_is xs) }
  where
    end_is : (xs : List ℕ) → is_end (take 5001 xs) ≡ is_end xs
    end_is [] = refl
    end_is (o ∷ []) = refl
    end_is (o ∷ p ∷ rest) = refl

    by_length : (b : Bool) → nat_lt 5000 (length xs) ≡ b → arrivals_of c channel (record { from = from; octets = take 5001 xs }) ≡ arrivals_of c channel (record { from = from; octets = xs })
    by_length false short = ap (λ l. arrivals_of c channel (record { from = from; octets = l })) (take_all 5001 xs (omega (arith, ltb-false _ _ short)))
    by_length true long =
        let cut : nat_lt 5000 (length (take 5001 xs)) ≡ true = lt-ltb _ _ (omega (arith, length-take 5001 xs, ltb-true _ _ long)) in
        ap (λ b. if b then [] else arrival_on c channel (record { from = from; octets = take 5001 xs })) cut
        ∙ sym (ap (λ b. if b then [] else arrival_on c channel (record { from = from; octets = xs })) long)

taken : (c : Config) (channel : ℕ) (d : Incoming) (from : Addr) (n : ℕ) (buf ys : List ℕ) → IsReceived d from n buf → length buf ≡ 5001 → ys ≡ take n buf
    → Truncates c channel from d.octets ys
taken c channel d from n buf ys is size e =
    let front : ys ≡ take 5001 d.octets =
    e ∙ is.octets ∙ ap (λ k. take k d.octets) (is.count ∙ ap (λ k. min (length d.octets) k) size ∙ min_comm (length d.octets) 5001) ∙ take_min 5001 d.octets in
    subst (Truncates c channel from d.octets) (sym front) (truncated c channel from d.octets)

same_sender : (d : Incoming) (from : Addr) → from ≡ d.from → record { from = from; octets = d.octets } ≡ d
same_sender d from e = ap (λ f. record { from = f; octets = d.octets }) e

-- a datagram was taken, and did not end the run
pub moves_datagram : (c : Config) (last last' channel : ℕ) (m : Option (List ℕ)) (w w' w'' : Option (List (List Incoming))) (buf ys : List ℕ) (from : Addr) (n : ℕ)
    → Receives {E = Failed} w w' channel (Ok (Some (from, n))) buf → length buf ≡ 5001 → ys ≡ take n buf → last' ≡ last → Same w' w''
    → ends_run channel ys ≡ false
    → Moves c (outer_of last m w) (Ask channel) (outer_of last' m w'') (arrivals_of c channel (record { from = from; octets = ys }))
moves_datagram c last last' channel None w w' w'' buf ys from n r size e same s goes = tt
moves_datagram c last last' channel (Some m) None w' w'' buf ys from n r size e same s goes = tt
moves_datagram c last last' channel (Some m) (Some w) None w'' buf ys from n r size e same s goes = absurd r
moves_datagram c last last' channel (Some m) (Some w) (Some w') None buf ys from n r size e same s goes = absurd s
moves_datagram c last last' channel (Some m) (Some w) (Some w') (Some w'') buf ys from n r size e same s goes =
    let d = r.0 in
    let t = taken c channel d from n buf ys r.2 size e in
    let whole = same_sender d from r.2.sender in
    let going : ends_run channel d.octets ≡ false = sym t.ends ∙ goes in
    let came : arrivals_of c channel d ≡ arrivals_of c channel (record { from = from; octets = ys }) = sym (ap (arrivals_of c channel) whole) ∙ sym t.came in
    let after : Outer = record { clock = last; moments = m; waits = without_first channel w } in
    ap (by_datagram c (record { clock = last; moments = m; waits = w }) channel) r.1
    ∙ ap (λ b. if b then Ends after else Goes after (arrivals_of c channel d)) going
    ∙ ap (λ l. Goes after l) came
    ∙ ap₂ (λ k v. Goes (record { clock = k; moments = m; waits = v }) (arrivals_of c channel (record { from = from; octets = ys }))) (sym same) (sym r.3 ∙ sym s)

-- a datagram was taken, and ended the run
pub closes_datagram : (c : Config) (last last' channel : ℕ) (m : Option (List ℕ)) (w w' w'' : Option (List (List Incoming))) (buf ys : List ℕ) (from : Addr) (n : ℕ)
    → Receives {E = Failed} w w' channel (Ok (Some (from, n))) buf → length buf ≡ 5001 → ys ≡ take n buf → last' ≡ last → Same w' w''
    → ends_run channel ys ≡ true
    → Closes c (outer_of last m w) (Ask channel) (outer_of last' m w'')
closes_datagram c last last' channel None w w' w'' buf ys from n r size e same s ends = tt
closes_datagram c last last' channel (Some m) None w' w'' buf ys from n r size e same s ends = tt
closes_datagram c last last' channel (Some m) (Some w) None w'' buf ys from n r size e same s ends = absurd r
closes_datagram c last last' channel (Some m) (Some w) (Some w') None buf ys from n r size e same s ends = absurd s
closes_datagram c last last' channel (Some m) (Some w) (Some w') (Some w'') buf ys from n r size e same s ends =
    let d = r.0 in
    let t = taken c channel d from n buf ys r.2 size e in
    let ending : ends_run channel d.octets ≡ true = sym t.ends ∙ ends in
    let after : Outer = record { clock = last; moments = m; waits = without_first channel w } in
    ap (by_datagram c (record { clock = last; moments = m; waits = w }) channel) r.1
    ∙ ap (λ b. if b then Ends after else Goes after (arrivals_of c channel d)) ending
    ∙ ap₂ (λ k v. Ends (record { clock = k; moments = m; waits = v })) (sym same) (sym r.3 ∙ sym s)

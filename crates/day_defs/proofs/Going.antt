-- How a day goes on: what is done first, and then what is done next; and how much is done.
use Rattle.std.proofs.Common.{◌≡◌, ℕ, zero, suc, ◌+◌, ◌*◌, ◌≤◌, List, [], ◌∷◌, ◌++◌, length, map, refl, ap, ◌∙◌, arith, length-append}
use Rattle.std.specs.Prelude.{Option, Some, None}
use Rattle.std.specs.List.{flat_map, range_with_len}
use Rattle.std.proofs.lemmas.List.{length-map}
use Rattle.std.proofs.lemmas.List.FromFn.{length-range_with_len}
use Rattle.trace_defs.specs.Line.{Record}
use Rattle.day_defs.specs.declared.Phase.{Phase}
use Rattle.day_defs.specs.declared.Phase.TheVariants.{Arrival, Hour, Renewal}
use Rattle.day_defs.specs.declared.TheConstants.{MOST_HOSTS, FRAMES_AN_HOUR}
use Rattle.day_defs.specs.Office.{hosts}
use Rattle.day_defs.specs.Day.{Act, Send, Day, record_of, after_act, after_acts, with_record, recorded, links, log_in, renew, arrival, seconds, seconds_and_frames, hour, renewal, acts_of}

-- ---- one after another

pub after_acts-append : (d : Day) (first next : List Act) → after_acts d (first ++ next) ≡ after_acts (after_acts d first) next
after_acts-append d [] next = refl
after_acts-append d (a ∷ rest) next = after_acts-append (after_act d a) rest next

with_record-append : (o : Option Record) (xs ys : List Record) → with_record o (xs ++ ys) ≡ with_record o xs ++ ys
with_record-append None xs ys = refl
with_record-append (Some r) xs ys = refl

pub recorded-append : (d : Day) (first next : List Act) → recorded d (first ++ next) ≡ recorded d first ++ recorded (after_acts d first) next
recorded-append d [] next = refl
recorded-append d (a ∷ rest) next =
    ap (with_record (record_of d.sent a)) (recorded-append (after_act d a) rest next)
    ∙ with_record-append (record_of d.sent a) (recorded (after_act d a) rest) (recorded (after_acts (after_act d a) rest) next)

-- ---- how much is done

pub length-each : (f : ℕ → List Act) (size : ℕ) → ((k : ℕ) → length (f k) ≡ size) → (first n : ℕ) → length (flat_map f (range_with_len first n)) ≡ size * n
length-each f size each first zero = omega arith
length-each f size each first (suc n) =
    let rest = length-each f size each (first + 1) n in
    let both = length-append (f first) (flat_map f (range_with_len (first + 1) n)) in
    grind (arith, each first)

pub length-links : length links ≡ 60
unfolding links
length-links = refl

pub length-arrival : (n : ℕ) → length (arrival n) ≡ 60 + 3 * n
unfolding arrival
length-arrival n =
    let each = length-each log_in 3 (λ h. refl) 1 n in
    omega (arith, length-append links (flat_map log_in (hosts n)), length-links, each)

pub length-seconds : length seconds ≡ 360
unfolding seconds
length-seconds = refl

pub length-seconds_and_frames : (n : ℕ) → length (seconds_and_frames n) ≡ 360 + n
length-seconds_and_frames n =
    omega (arith, length-append seconds (map Send (hosts n)), length-seconds, length-map (hosts n) Send, length-range_with_len 1 n)

pub length-hour : (n : ℕ) → length (hour n) ≡ 10 * (360 + n)
unfolding hour
length-hour n =
    let all = length-each (λ part. seconds_and_frames n) (360 + n) (λ part. length-seconds_and_frames n) 0 FRAMES_AN_HOUR in
    omega arith

pub length-renewal : (n : ℕ) → length (renewal n) ≡ 3 * n
unfolding renewal
length-renewal n = length-each renew 3 (λ h. refl) 1 n

pub length-acts : (n : ℕ) (which : Phase) → n ≤ MOST_HOSTS → length (acts_of n which) ≤ 6000
length-acts n Arrival few = omega (arith, length-arrival n)
length-acts n Hour few = omega (arith, length-hour n)
length-acts n Renewal few = omega (arith, length-renewal n)

-- ---- records are no more than what is done

pub recorded-few : (d : Day) (acts : List Act) → length (recorded d acts) ≤ length acts
recorded-few d [] = omega arith
recorded-few d (a ∷ rest) = with_one (record_of d.sent a) (recorded (after_act d a) rest) (length rest) (recorded-few (after_act d a) rest)
  where
    with_one : (o : Option Record) (records : List Record) (n : ℕ) → length records ≤ n → length (with_record o records) ≤ suc n
    with_one None records n few = omega arith
    with_one (Some r) records n few = omega arith

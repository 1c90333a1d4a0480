-- The log and the datagrams of one list of records after another.
use Rattle.std.proofs.Common.{◌≡◌, List, [], ◌∷◌, ◌++◌, refl, sym, ap, ◌∙◌, append_assoc, append-nil}
use Rattle.std.proofs.lemmas.List.{map-append}
use Rattle.switch_event.specs.Config.{Config}
use Rattle.trace_defs.specs.Line.{Record}
use Rattle.trace_defs.specs.Text.{config_text}
use Rattle.history_defs.specs.Output.{Place, first_place, next_place, place_after}
use Rattle.serve_defs.specs.Log.{log, logged, all_logged}
use Rattle.serve_defs.specs.Served.{Arrival, entries_of}
use Rattle.serve_defs.specs.Posted.{Home, homes_after, all_homes, sent_at, all_posted, posted_from, posted_for}

pub entries_of-append : (xs ys : List Arrival) → entries_of (xs ++ ys) ≡ entries_of xs ++ entries_of ys
entries_of-append xs ys = map-append (λ a. a.entry) xs ys

pub place_after-append : (at : Place) (xs ys : List Record) → place_after at (xs ++ ys) ≡ place_after (place_after at xs) ys
place_after-append at [] ys = refl
place_after-append at (x ∷ xs) ys = place_after-append (next_place at x) xs ys

pub all_logged-append : (at : Place) (xs ys : List Record) → all_logged at (xs ++ ys) ≡ all_logged at xs ++ all_logged (place_after at xs) ys
all_logged-append at [] ys = refl
all_logged-append at (x ∷ xs) ys =
    ap (λ l. logged at x ++ l) (all_logged-append (next_place at x) xs ys)
    ∙ sym (append_assoc (logged at x) (all_logged (next_place at x) xs) (all_logged (place_after (next_place at x) xs) ys))

pub all_homes-append : (homes : List Home) (xs ys : List Arrival) → all_homes homes (xs ++ ys) ≡ all_homes (all_homes homes xs) ys
all_homes-append homes [] ys = refl
all_homes-append homes (x ∷ xs) ys = all_homes-append (homes_after homes x) xs ys

pub posted_from-append : (c : Config) (homes : List Home) (at : Place) (xs ys : List Arrival)
    → posted_from c homes at (xs ++ ys) ≡ posted_from c homes at xs ++ posted_from c (all_homes homes xs) (place_after at (entries_of xs)) ys
posted_from-append c homes at [] ys = refl
posted_from-append c homes at (x ∷ xs) ys =
    let here = all_posted c (homes_after homes x) (sent_at at x.entry) in
    ap (λ l. here ++ l) (posted_from-append c (homes_after homes x) (next_place at x.entry) xs ys)
    ∙ sym (append_assoc here (posted_from c (homes_after homes x) (next_place at x.entry) xs) (posted_from c (all_homes (homes_after homes x) xs) (place_after (next_place at x.entry) (entries_of xs)) ys))

-- ---- one more record

-- where the place is after what came
abbrev pub place_of_all : Config → List Arrival → Place
place_of_all c came = place_after (first_place c) (entries_of came)

pub log-one : (c : Config) (came : List Arrival) (a : Arrival) → log c (entries_of (came ++ a ∷ [])) ≡ log c (entries_of came) ++ logged (place_of_all c came) a.entry
log-one c came a =
    ap (λ l. log c l) (entries_of-append came (a ∷ []))
    ∙ ap (λ l. config_text c ++ l) (all_logged-append (first_place c) (entries_of came) (a.entry ∷ []) ∙ ap (λ l. all_logged (first_place c) (entries_of came) ++ l) (append-nil (logged (place_of_all c came) a.entry)))
    ∙ sym (append_assoc (config_text c) (all_logged (first_place c) (entries_of came)) (logged (place_of_all c came) a.entry))

pub posted_for-one : (c : Config) (came : List Arrival) (a : Arrival)
    → posted_for c (came ++ a ∷ []) ≡ posted_for c came ++ all_posted c (homes_after (all_homes [] came) a) (sent_at (place_of_all c came) a.entry)
posted_for-one c came a =
    posted_from-append c [] (first_place c) came (a ∷ [])
    ∙ ap (λ l. posted_for c came ++ l) (append-nil (all_posted c (homes_after (all_homes [] came) a) (sent_at (place_of_all c came) a.entry)))

pub place-one : (c : Config) (came : List Arrival) (a : Arrival) → place_of_all c (came ++ a ∷ []) ≡ next_place (place_of_all c came) a.entry
place-one c came a = ap (λ l. place_after (first_place c) l) (entries_of-append came (a ∷ [])) ∙ place_after-append (first_place c) (entries_of came) (a.entry ∷ [])

pub homes-one : (came : List Arrival) (a : Arrival) → all_homes [] (came ++ a ∷ []) ≡ homes_after (all_homes [] came) a
homes-one came a = all_homes-append [] came (a ∷ [])

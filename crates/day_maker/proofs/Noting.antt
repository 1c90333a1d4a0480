-- What is noted of a thing that was sent.
use Rattle.std.proofs.Common.{◌≡◌, ◌≢◌, ℕ, ◌+◌, ◌/◌, ◌%◌, ◌<◌, List, [], ◌∷◌, ◌++◌, length, take, append_assoc, refl, sym, ap, ◌∙◌, subst, arith, inl, inr}
use Rattle.std.specs.Prelude.{Option, Some, None, set, get_or, slice_get}
use Rattle.std.specs.Option.{option_or}
use Rattle.std.specs.Str.{bytes_eq}
use Rattle.std.proofs.lemmas.Bool.{cases_Bool, cases_eq}
use Rattle.std.proofs.lemmas.Slice.Eq.{bytes_eq-Decides}
use Rattle.std.proofs.lemmas.Option.{slice_get_within, get_or_from_slice_get}
use Rattle.std.proofs.lemmas.List.{take_more, length-set, get_or-set_same, get_or-set_other}
use Rattle.switch_event.specs.Sent.{Sent}
use Rattle.day_defs.specs.declared.Question.{Question}
use Rattle.day_defs.specs.Office.{address_of_host}
use Rattle.day_defs.specs.Server.{About, identity_asked, server_asked, for_host, last_about}
use Rattle.day_maker.specs.declared.notes.Note.{Note}
use Rattle.day_maker.specs.Hearing.{Hears, IsNobody, blank, note_of}

-- ---- whom a thing is about

for_same : {A : Type 0} (address : List ℕ) (x : A) → for_host address (Some (address, x)) ≡ Some x
for_same address x = rw ((bytes_eq-Decides address address).1 refl) refl

for_other : {A : Type 0} (address other : List ℕ) (x : A) → other ≢ address → for_host address (Some (other, x)) ≡ None
for_other address other x apart =
    elim (cases_Bool (bytes_eq other address)) [
      | inl same ↦ absurd (apart ((bytes_eq-Decides other address).0 same))
      | inr differ ↦ rw differ refl
    ]

-- two hosts have two addresses
address_apart : (h g : ℕ) → address_of_host h ≡ address_of_host g → h ≡ g
address_apart h g same =
    let high : h / 256 ≡ g / 256 = cc in
    let low : h % 256 ≡ g % 256 = cc in
    omega arith

-- ---- one thing more

last_more : {A : Type 0} (about : Sent → About A) (address : List ℕ) (sent : List Sent) (s : Sent) → last_about about address (sent ++ s ∷ []) ≡ option_or (for_host address (about s)) (last_about about address sent)
last_more about address [] s = elim (for_host address (about s)) as (λ o. option_or None o ≡ option_or o None) [ None ↦ refl | Some x ↦ refl ]
last_more about address (t ∷ rest) s =
    ap (λ o. option_or o (for_host address (about t))) (last_more about address rest s)
    ∙ or_assoc (for_host address (about s)) (last_about about address rest) (for_host address (about t))
  where
    or_assoc : {A : Type 0} (a b c : Option A) → option_or (option_or a b) c ≡ option_or a (option_or b c)
    or_assoc None b c = refl
    or_assoc (Some x) b c = refl

-- a note with what one thing says
abbrev noted : Option ℕ → Option Question → Note → Note
noted identity question x = record { identity = option_or identity x.identity; question = option_or question x.question }

note_more : (sent : List Sent) (s : Sent) (h : ℕ) → note_of (sent ++ s ∷ []) h ≡ noted (for_host (address_of_host h) (identity_asked s)) (for_host (address_of_host h) (server_asked s)) (note_of sent h)
note_more sent s h =
    ap (λ identity. record { identity = identity; question = last_about server_asked (address_of_host h) (sent ++ s ∷ []) }) (last_more identity_asked (address_of_host h) sent s)
    ∙ ap (λ question. record { identity = option_or (for_host (address_of_host h) (identity_asked s)) (last_about identity_asked (address_of_host h) sent); question = question }) (last_more server_asked (address_of_host h) sent s)

-- nothing is noted of a thing for a host that it is not about
kept : (notes : List Note) (sent : List Sent) (s : Sent) (k : ℕ) → Hears notes sent → k < length notes
    → for_host (address_of_host (k + 1)) (identity_asked s) ≡ None → for_host (address_of_host (k + 1)) (server_asked s) ≡ None
    → get_or notes k blank ≡ note_of (sent ++ s ∷ []) (k + 1)
kept notes sent s k hears within identity question =
    hears k within
    ∙ sym (note_more sent s (k + 1)
    ∙ ap (λ o. noted o (for_host (address_of_host (k + 1)) (server_asked s)) (note_of sent (k + 1))) identity
    ∙ ap (λ o. noted None o (note_of sent (k + 1))) question)

pub heard_nothing : (notes : List Note) (sent : List Sent) (s : Sent)
    → ((k : ℕ) → k < length notes → for_host (address_of_host (k + 1)) (identity_asked s) ≡ None)
    → ((k : ℕ) → k < length notes → for_host (address_of_host (k + 1)) (server_asked s) ≡ None) → Hears notes sent → Hears notes (sent ++ s ∷ [])
heard_nothing notes sent s identity question hears k within = kept notes sent s k hears within (identity k within) (question k within)

pub about_nobody : {A : Type 0} (hosts : ℕ) (about : About A) → about ≡ None → (k : ℕ) → k < hosts → for_host (address_of_host (k + 1)) about ≡ None
about_nobody hosts about none k within = ap (for_host (address_of_host (k + 1))) none

pub about_stranger : {A : Type 0} (hosts : ℕ) (about : About A) (address : List ℕ) (x : A) → about ≡ Some (address, x) → IsNobody address hosts
    → (k : ℕ) → k < hosts → for_host (address_of_host (k + 1)) about ≡ None
about_stranger hosts about address x is nobody k within =
    ap (for_host (address_of_host (k + 1))) is ∙ for_other (address_of_host (k + 1)) address x (nobody k within)

about_another : {A : Type 0} (about : About A) (address : List ℕ) (x : A) (i : ℕ) → about ≡ Some (address, x) → address ≡ address_of_host (i + 1)
    → (k : ℕ) → k ≢ i → for_host (address_of_host (k + 1)) about ≡ None
about_another about address x i is whose k other =
    ap (for_host (address_of_host (k + 1))) is
    ∙ for_other (address_of_host (k + 1)) address x (λ same. let twice = address_apart (k + 1) (i + 1) (sym same ∙ whose) in other (omega arith))

about_itself : {A : Type 0} (about : About A) (address : List ℕ) (x : A) (i : ℕ) → about ≡ Some (address, x) → address ≡ address_of_host (i + 1)
    → for_host (address_of_host (i + 1)) about ≡ Some x
about_itself about address x i is whose =
    ap (for_host (address_of_host (i + 1))) (is ∙ ap (λ (a : List ℕ). Some (a, x)) whose) ∙ for_same (address_of_host (i + 1)) x

-- a thing that is about the host of a place is noted there
heard_at : (notes : List Note) (sent : List Sent) (s : Sent) (i : ℕ) (y : Note) → i < length notes
    → ((k : ℕ) → k ≢ i → for_host (address_of_host (k + 1)) (identity_asked s) ≡ None)
    → ((k : ℕ) → k ≢ i → for_host (address_of_host (k + 1)) (server_asked s) ≡ None)
    → y ≡ noted (for_host (address_of_host (i + 1)) (identity_asked s)) (for_host (address_of_host (i + 1)) (server_asked s)) (get_or notes i blank)
    → Hears notes sent → Hears (set notes i y) (sent ++ s ∷ [])
heard_at notes sent s i y there identity question is hears k within =
    let at_place : get_or (set notes i y) i blank ≡ note_of (sent ++ s ∷ []) (i + 1) =
    get_or-set_same notes i y blank there
    ∙ is
    ∙ ap (noted (for_host (address_of_host (i + 1)) (identity_asked s)) (for_host (address_of_host (i + 1)) (server_asked s))) (hears i there)
    ∙ sym (note_more sent s (i + 1)) in
    let inside : k < length notes = omega (arith, length-set notes i y) in
    elim (cases_eq k i) [
      | inl same ↦ subst (λ (j : ℕ). get_or (set notes i y) j blank ≡ note_of (sent ++ s ∷ []) (j + 1)) (sym same) at_place
      | inr other ↦ get_or-set_other notes i k y blank other ∙ kept notes sent s k hears inside (identity k other) (question k other)
    ]

-- a Request for an identity, and a question, are noted
pub heard_identity : (notes : List Note) (sent : List Sent) (s : Sent) (address : List ℕ) (id i : ℕ) → identity_asked s ≡ Some (address, id)
    → server_asked s ≡ None → i < length notes → address ≡ address_of_host (i + 1) → Hears notes sent
    → Hears (set notes i (record (get_or notes i blank) { identity = Some id })) (sent ++ s ∷ [])
heard_identity notes sent s address id i asked none there whose =
    let x = get_or notes i blank in
    let e = about_itself (identity_asked s) address id i asked whose in
    let f : for_host (address_of_host (i + 1)) (server_asked s) ≡ None = ap (for_host (address_of_host (i + 1))) none in
    heard_at notes sent s i (record x { identity = Some id }) there (about_another (identity_asked s) address id i asked whose)
    (λ k other. ap (for_host (address_of_host (k + 1))) none)
    (sym (ap (λ o. noted o (for_host (address_of_host (i + 1)) (server_asked s)) x) e ∙ ap (λ o. noted (Some id) o x) f))

pub heard_question : (notes : List Note) (sent : List Sent) (s : Sent) (address : List ℕ) (q : Question) (i : ℕ) → server_asked s ≡ Some (address, q)
    → identity_asked s ≡ None → i < length notes → address ≡ address_of_host (i + 1) → Hears notes sent
    → Hears (set notes i (record (get_or notes i blank) { question = Some q })) (sent ++ s ∷ [])
heard_question notes sent s address q i asked none there whose =
    let x = get_or notes i blank in
    let e = about_itself (server_asked s) address q i asked whose in
    let f : for_host (address_of_host (i + 1)) (identity_asked s) ≡ None = ap (for_host (address_of_host (i + 1))) none in
    heard_at notes sent s i (record x { question = Some q }) there (λ k other. ap (for_host (address_of_host (k + 1))) none)
    (about_another (server_asked s) address q i asked whose)
    (sym (ap (λ o. noted o (for_host (address_of_host (i + 1)) (server_asked s)) x) f ∙ ap (λ o. noted None o x) e))

-- ---- the things of a turn, one after another

pub heard_more : (notes : List Note) (sent items : List Sent) (n : ℕ) (s : Sent) → slice_get items n ≡ Some s → Hears notes ((sent ++ take n items) ++ s ∷ [])
    → Hears notes (sent ++ take (n + 1) items)
heard_more notes sent items n s is hears =
    let next : take n items ++ s ∷ [] ≡ take (n + 1) items =
    sym (take_more items n s (slice_get_within items n s is) ∙ ap (λ (x : Sent). take n items ++ x ∷ []) (get_or_from_slice_get items n s s is)) in
    subst (Hears notes) (append_assoc sent (take n items) (s ∷ []) ∙ ap (λ (xs : List Sent). sent ++ xs) next) hears

-- Beginnings of a list, and what a longer list of changes says.
use Rattle.std.proofs.Common.{◌≡◌, ℕ, ◌+◌, ◌≤◌, Fits, w64, true, false, Bool, List, [], ◌∷◌, ◌++◌, length, refl, ap, arith}
use Rattle.std.proofs.Common.{MatchBool}
use Rattle.std.proofs.lemmas.Bool.Decides.{nat_tests}
use lib.Dec.{leb}
use mathlib.Core.List.{IsPrefix}
use Rattle.table_defs.specs.Table.{Table}
use Rattle.table_defs.specs.Table.{Change}
use Rattle.table_defs.specs.Table.{Items, Finish, changed, changed_by}
use Rattle.event_record.specs.declared.TheConstants.{MOST_EVENTS}
use Rattle.auth_publish.specs.Changes.{is_finish, weight, front_of, is_open, finish_is_last}

pub prefix_self : {A : Type 0} (xs : List A) → IsPrefix xs xs
prefix_self [] = ([], refl)
prefix_self (x ∷ xs) = (let r = prefix_self xs in r.0, ap (λ ys. x ∷ ys) (prefix_self xs).1)

-- of two beginnings of one list the shorter begins the longer
pub prefix_shorter : {A : Type 0} (xs ys zs : List A) → IsPrefix xs zs → IsPrefix ys zs → length xs ≤ length ys → IsPrefix xs ys
prefix_shorter [] ys zs p q le = (ys, refl)
prefix_shorter (x ∷ xs) [] zs p q le = absurd (omega arith)
prefix_shorter (x ∷ xs) (y ∷ ys) [] p q le = absurd (cc (p.1))
prefix_shorter (x ∷ xs) (y ∷ ys) (z ∷ zs) p q le =
    let heads : x ≡ y = cc (p.1, q.1) in
    let rest = prefix_shorter xs ys zs (p.0, cc (p.1)) (q.0, cc (q.1)) (omega arith) in
    (rest.0, cc (heads, rest.1))

-- a beginning as long as the whole is the whole
pub prefix_whole : {A : Type 0} (xs ys : List A) → IsPrefix xs ys → length ys ≤ length xs → xs ≡ ys
prefix_whole [] [] p le = refl
prefix_whole [] (y ∷ ys) p le = absurd (omega arith)
prefix_whole (x ∷ xs) [] p le = absurd (cc (p.1))
prefix_whole (x ∷ xs) (y ∷ ys) p le =
    let rest = prefix_whole xs ys (p.0, cc (p.1)) (omega arith) in cc (p.1, rest)

pub changed_more : (t : Table) (cs : List Change) (c : Change) → changed (changed_by t cs) c ≡ changed_by t (cs ++ c ∷ [])
changed_more t [] c = refl
changed_more t (d ∷ cs) c = changed_more (changed t d) cs c

pub front_more : (cs : List Change) (c : Change) → front_of (cs ++ c ∷ []) ≡ front_of cs + weight c
front_more [] c = omega arith
front_more (d ∷ cs) c = let h = front_more cs c in omega arith

pub weight_small : (c : Change) → weight c ≤ 1
weight_small (Items is) = omega arith
weight_small Finish = omega arith

pub front_small : (cs : List Change) → front_of cs ≤ length cs
front_small [] = omega arith
front_small (c ∷ cs) = let h = front_small cs in let l = weight_small c in omega arith

-- of an open list each change counts
pub open_length : (cs : List Change) → is_open cs ≡ true → length cs ≡ front_of cs
open_length [] h = refl
open_length (Items is ∷ cs) h = let r = open_length cs h in omega arith
open_length (Finish ∷ cs) h = absurd cc

-- so the number of changes has room for one more
pub room_for_more : (cs : List Change) (n : ℕ) → n ≡ length cs → is_open cs ≡ true → front_of cs ≤ MOST_EVENTS → Fits w64 (n + 1)
room_for_more cs n is h room = let r = open_length cs h in omega arith

-- a list without Finish stays so by a change that is none
pub open_more : (cs : List Change) (c : Change) → is_open cs ≡ true → is_finish c ≡ false → is_open (cs ++ c ∷ []) ≡ true
open_more [] (Items is) h going = refl
open_more [] Finish h going = absurd cc
open_more (Items is ∷ cs) c h going = open_more cs c h going
open_more (Finish ∷ cs) c h going = absurd cc

pub last_more : (cs : List Change) (c : Change) → is_open cs ≡ true → finish_is_last (cs ++ c ∷ []) ≡ true
last_more [] (Items is) h = refl
last_more [] Finish h = refl
last_more (Items is ∷ cs) c h = last_more cs c h
last_more (Finish ∷ cs) c h = absurd cc

-- of two beginnings of one list one begins the other, and their lengths tell which
pub prefix_compare : {A : Type 0} (xs ys zs : List A) → IsPrefix xs zs → IsPrefix ys zs → (b : Bool) → leb (length xs) (length ys) ≡ b → MatchBool b (IsPrefix xs ys) (IsPrefix ys xs)
prefix_compare xs ys zs p q true is = prefix_shorter xs ys zs p q (grind (arith, nat_tests))
prefix_compare xs ys zs p q false is = prefix_shorter ys xs zs q p (grind (arith, nat_tests))

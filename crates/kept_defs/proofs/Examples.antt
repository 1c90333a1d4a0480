-- The definitions, computed at kept replies of which the answers are known.
use Rattle.std.proofs.Common.{◌≡◌, ℕ, List, [], ◌∷◌, ◌++◌, refl, Option, Some, None}
use Rattle.std.specs.Prelude.{replicate}
use Rattle.kept_defs.specs.Kept.{Entry, newest_reply, with_newest}

abbrev entry : ℕ → ℕ → Entry
entry moment reply = record { moment = moment; sport = 4000; request = 40 ∷ 7 ∷ []; reply = reply ∷ [] }

-- two replies to the same request, kept at 1000 and at 1010
abbrev two : List Entry
two = entry 1000 41 ∷ entry 1010 42 ∷ []

abbrev reply_at : ℕ → Option (List ℕ)
reply_at now = newest_reply 4000 (40 ∷ 7 ∷ []) now two

before_it_was_kept : reply_at 999 ≡ None
before_it_was_kept = refl

the_older : reply_at 1009 ≡ Some (41 ∷ [])
the_older = refl

the_newer : reply_at 1010 ≡ Some (42 ∷ [])
the_newer = refl

after_30_seconds : reply_at 1040 ≡ Some (42 ∷ [])
after_30_seconds = refl

after_31_seconds : reply_at 1041 ≡ None
after_31_seconds = refl

of_another_port : newest_reply 4001 (40 ∷ 7 ∷ []) 1010 two ≡ None
of_another_port = refl

of_another_request : newest_reply 4000 (40 ∷ 8 ∷ []) 1010 two ≡ None
of_another_request = refl

-- a 65th pushes out the oldest
of_65 : with_newest (entry 9 2) (entry 1 1 ∷ replicate 63 (entry 5 1)) ≡ replicate 63 (entry 5 1) ++ entry 9 2 ∷ []
of_65 = refl

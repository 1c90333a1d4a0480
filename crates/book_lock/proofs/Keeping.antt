-- Each step keeps the rule.
use Rattle.std.proofs.lemmas.List.{append-nil}
use Rattle.std.proofs.lemmas.Option.{slice_get_within}
use Rattle.std.proofs.Common.{◌≡◌, ◌≢◌, ℕ, zero, suc, ◌+◌, ◌-◌, ◌%◌, ◌^◌, ◌<◌, ◌≤◌, true, false, List, [], ◌∷◌, ◌++◌, length, take, set, slice_index, Some, None, Option, slice_get, refl, ap, sym, ◌∙◌, subst, ⊎_elim, arith, length-append, length-set, mod-eq_of_lt}
use Rattle.std.proofs.lemmas.Bool.Decides.{nat_tests}
use mathlib.Core.Option.{some, some-injective}
use mathlib.Core.Option as maybe
use mathlib.Core.Logic.{dite}
use native.Mathlib.Decide.{ℕ_discrete, dec_lt}
use lib.ListN.{get_elem?}
use Rattle.atomic_table.specs.Table.{State, Me, keeps, takes, gives, put_back, Allows, Splits, Joins, Final, Seen, opening}
use Rattle.atomic_table.proofs.Lists.{at_set, at_snoc, at_longer, set_here, set_else, set_again}
use Rattle.event_record.specs.Entry.{Entry}
use Rattle.book_lock.specs.declared.law.Base.{Base}
use Rattle.book_lock.specs.declared.law.Made.{Made}
use Rattle.book_lock.specs.declared.law.Turns.{Turns}
use Rattle.book_lock.specs.Sums.{total, Each}
use Rattle.book_lock.specs.Places.{once_below, times_at, one_at, Stands}
use Rattle.book_lock.specs.Rules.{one_if, waits, parts_of, opened, fewer, fresh, joined, spent, drawn, served, recorded, passed, Fits, base_of, IsBook, NoneServed, IsServed, Kept, Whole, Looked, Drawn, Recorded, Passed}
use Rattle.event_record.specs.declared.TheConstants.{MOST_EVENTS}
use Rattle.book_lock.proofs.Merging.{times_merged, each_merged, rises_last, rises_merged, in_order_is}
use Rattle.book_lock.proofs.Lists.{total_set, total_snoc, total_two, total_below, total_one, each_widens, each_both, times_last, get_last, take_last, stands_more, no_bool, apart_in_line, mod_suc, mod_next}

next_place : (p n : ℕ) → one_at n p + once_below p n ≡ once_below p (n + 1)
next_place p n = grind (arith, nat_tests)

next_entry : (p n count : ℕ) (ms : List Made) (m : Made) → m.place ≡ n → n ≡ count → (once_below p count + 0) + times_at p (ms ++ m ∷ []) ≡ (once_below p (count + 1) + 0) + times_at p ms
next_entry p n count ms m at is =
    let a = times_last p ms m in
    let b = next_place p count in
    let c : one_at m.place p ≡ one_at count p = ap (λ (z : ℕ). one_at z p) (at ∙ is) in
    omega arith

module _ {B F : Type 0} (fixed : B → F) (list : B → List Entry) where
  abbrev Homes : Type 0
  Homes = List (maybe.Option (Option B))

  abbrev St : Type 0
  St = State (Option B) (Turns F)

  -- the rule in the middle of a split or a join: so many parts, and these places once more
  record Wide (all : ℕ) (extra : ℕ → ℕ) (x : Base F) (ticket serving count : ℕ) (log : List Entry) (homes : Homes) (views : List (Turns F)) : Type 0 where
    parts : total parts_of views ≡ all
    line : ticket ≡ (serving + total waits views) % 2 ^ 64
    once : (p : ℕ) → total (λ v. times_at p v.entries) views ≡ once_below p count + extra p
    seats : (seat : ℕ) (v : Turns F) → get_elem? views seat ≡ some v → Fits x serving (total waits views) count log v
    differ : (j k : ℕ) (v w : Turns F) (t : ℕ) → get_elem? views j ≡ some v → get_elem? views k ≡ some w → v.ticket ≡ Some t → w.ticket ≡ Some t → j ≡ k
    home : NoneServed fixed list views → (b : B) × (homes ≡ some (Some b) ∷ []) × IsBook fixed list x log b
    away : IsServed fixed list views → homes ≡ maybe.none ∷ []

  abbrev wide : (x : Base F) (s : St) (k : Kept fixed list x s) → Wide 3 (λ p. 0) x k.ticket k.serving k.count k.log s.homes s.views
  wide x s k = record { parts = k.parts; line = k.line; once = λ p. k.once p ∙ (let n : ℕ = once_below p k.count in let q : n ≡ n + 0 = omega arith in q); seats = k.seats; differ = k.differ; home = k.home; away = k.away }

  kept : (x : Base F) (ticket serving count : ℕ) (log : List Entry) (words : List ℕ) (homes : Homes) (views : List (Turns F)) → words ≡ ticket ∷ serving ∷ count ∷ [] → length homes ≡ 1 → serving < 2 ^ 64 → length log ≡ count
      → Wide 3 (λ p. 0) x ticket serving count log homes views → Kept fixed list x record { words = words; homes = homes; views = views }
  kept x ticket serving count log words homes views is one small counted w = record {
    ticket = ticket;
    serving = serving;
    count = count;
    log = log;
    words = is;
    one_slot = one;
    parts = w.parts;
    line = w.line;
    small = small;
    counted = counted;
    once = λ p. w.once p ∙ (let n : ℕ = once_below p count in let q : n + 0 ≡ n = omega arith in q);
    seats = w.seats;
    differ = w.differ;
    home = w.home;
    away = w.away;
  }

  -- no more tickets are held than there are parts
  few : (x : Base F) (serving q count : ℕ) (log : List Entry) (views : List (Turns F)) (all : ℕ) → total parts_of views ≡ all → ((seat : ℕ) (v : Turns F) → get_elem? views seat ≡ some v → Fits x serving q count log v) → total waits views ≤ all
  few x serving q count log views all is fits = subst (λ n. total waits views ≤ n) is (total_below waits parts_of views (λ i v at. one v (fits i v at)))
    where
      one : (v : Turns F) → Fits x serving q count log v → waits v ≤ v.parts
      one v f = dite (ℕ_discrete v.parts 0) (λ none. subst (λ o. one_if o ≤ v.parts) (sym (f.spent none).0) (omega arith)) (λ above. small v.ticket v.parts (omega arith))
        where
          small : (o : Option ℕ) (n : ℕ) → 1 ≤ n → one_if o ≤ n
          small None n h = omega arith
          small (Some t) n h = h

  -- one seat's view changes
  moved : (all all' : ℕ) (extra extra' : ℕ → ℕ) (x : Base F) (ticket serving count ticket' serving' count' : ℕ) (log log' : List Entry) (homes homes' : Homes) (views : List (Turns F)) (id : ℕ) (v w : Turns F)
      → Wide all extra x ticket serving count log homes views → get_elem? views id ≡ some v
      → all + w.parts ≡ all' + v.parts
      → ticket' ≡ (serving' + total waits (set views id w)) % 2 ^ 64
      → ((p : ℕ) → (once_below p count + extra p) + times_at p w.entries ≡ (once_below p count' + extra' p) + times_at p v.entries)
      → Fits x serving' (total waits (set views id w)) count' log' w
      → ((j : ℕ) (u : Turns F) → j ≢ id → get_elem? views j ≡ some u → Fits x serving' (total waits (set views id w)) count' log' u)
      → ((k : ℕ) (u : Turns F) (t : ℕ) → k ≢ id → get_elem? views k ≡ some u → w.ticket ≡ Some t → u.ticket ≡ Some t → ⊥)
      → (NoneServed fixed list (set views id w) → (b : B) × (homes' ≡ some (Some b) ∷ []) × IsBook fixed list x log' b)
      → (IsServed fixed list (set views id w) → homes' ≡ maybe.none ∷ [])
      → Wide all' extra' x ticket' serving' count' log' homes' (set views id w)
  moved all all' extra extra' x ticket serving count ticket' serving' count' log log' homes homes' views id v w k at parts line once mine others apart home away = record {
    parts = (let e = total_set parts_of views id v w at in let p = k.parts in omega arith);
    line = line;
    once = λ p. let e = total_set (λ (u : Turns F). times_at p u.entries) views id v w at in let o = k.once p in let n = once p in omega arith;
    seats = λ j u e. ⊎_elim (λ (t : (j ≡ id) × (w ≡ u)). subst (Fits x serving' (total waits (set views id w)) count' log') t.1 mine) (λ (t : (j ≢ id) × (get_elem? views j ≡ some u)). others j u t.0 t.1) (at_set views id j w u e);
    differ = λ i j a b t ea eb ta tb. ⊎_elim
        (λ (l : (i ≡ id) × (w ≡ a)). ⊎_elim (λ (r : (j ≡ id) × (w ≡ b)). l.0 ∙ sym r.0) (λ (r : (j ≢ id) × (get_elem? views j ≡ some b)). absurd (apart j b t r.0 r.1 (ap (λ z. z.ticket) l.1 ∙ ta) tb)) (at_set views id j w b eb))
        (λ (l : (i ≢ id) × (get_elem? views i ≡ some a)). ⊎_elim (λ (r : (j ≡ id) × (w ≡ b)). absurd (apart i a t l.0 l.1 (ap (λ z. z.ticket) r.1 ∙ tb) ta)) (λ (r : (j ≢ id) × (get_elem? views j ≡ some b)). k.differ i j a b t l.1 r.1 ta tb) (at_set views id j w b eb))
        (at_set views id i w a ea);
    home = home;
    away = away;
  }

  -- who has not the turn leaves the others as they are
  none_before : (views : List (Turns F)) (id : ℕ) (v w : Turns F) → get_elem? views id ≡ some v → v.turn ≡ false → NoneServed fixed list (set views id w) → NoneServed fixed list views
  none_before views id v w at idle none j u e = dite (ℕ_discrete j id) (λ (is : j ≡ id). ap (λ z. z.turn) (some-injective u v (sym e ∙ (ap (get_elem? views) is ∙ at))) ∙ idle) (λ (ne : j ≢ id). none j u (set_else views id j w ne ∙ e))

  -- who has not the turn afterwards is not the one that has it
  served_before : (views : List (Turns F)) (id : ℕ) (w : Turns F) → w.turn ≡ false → IsServed fixed list (set views id w) → IsServed fixed list views
  served_before views id w idle (j, u, e, on) = ⊎_elim
      (λ (t : (j ≡ id) × (w ≡ u)). let off : u.turn ≡ false = ap (λ z. z.turn) (sym t.1) ∙ idle in absurd cc)
      (λ (t : (j ≢ id) × (get_elem? views j ≡ some u)). (j, u, t.1, on))
      (at_set views id j w u e)

  -- where one seat has the ticket that is served, no other has the turn
  others_wait : (all : ℕ) (extra : ℕ → ℕ) (x : Base F) (ticket serving count : ℕ) (log : List Entry) (homes : Homes) (views : List (Turns F)) → Wide all extra x ticket serving count log homes views
      → (id : ℕ) (v : Turns F) → get_elem? views id ≡ some v → v.ticket ≡ Some serving → (j : ℕ) (u : Turns F) → get_elem? views j ≡ some u → u.turn ≡ true → j ≡ id
  others_wait all extra x ticket serving count log homes views k id v at mine j u e turn = k.differ j id u v serving e at ((k.seats j u e).turn turn).0 mine

  same_base : (x y : Base F) (v : Turns F) → v.base ≡ Some x → v.base ≡ Some y → x ≡ y
  same_base x y v a b = cc

  no_turn : (x : Base F) (serving q count : ℕ) (log : List Entry) (v : Turns F) → Fits x serving q count log v → v.ticket ≡ None → v.turn ≡ false
  no_turn x serving q count log v f none = no_bool v.turn (λ turn. let e = (f.turn turn).0 in absurd cc)

  single : (hs : Homes) (h : maybe.Option (Option B)) → length hs ≡ 1 → set hs 0 h ≡ h ∷ []
  single [] h one = absurd (omega arith)
  single (g ∷ []) h one = refl
  single (g ∷ (g' ∷ gs)) h one = absurd (omega arith)

  -- a ticket is drawn
  pub draws : (x : Base F) (slots id : ℕ) (me : Me (Option B) (Turns F)) → me.0.ticket ≡ None → 0 < me.0.parts → Allows (Kept fixed list x) slots id me 0 (λ n. (n + 1) % 2 ^ 64) (Drawn me)
  draws x slots id me none some_part s k deep at fits =
      let v : Turns F = me.0 in
      let n : ℕ = slice_index s.words 0 in
      let n_is : n ≡ k.ticket = ap (λ ws. slice_index ws 0) k.words in
      let w : Turns F = drawn n v in
      let f = k.seats id v at in
      let q : ℕ = total waits s.views in
      let q' : ℕ = total waits (set s.views id w) in
      let waits_v : waits v ≡ 0 = ap one_if none in
      let grows : q' ≡ q + 1 = (let e = total_set waits s.views id v w at in omega arith) in
      let three : q ≤ 3 = few x k.serving q k.count k.log s.views 3 k.parts k.seats in
      let idle : v.turn ≡ false = no_turn x k.serving q k.count k.log v f none in
      let mine_is : n ≡ (k.serving + q) % 2 ^ 64 = n_is ∙ k.line in
      let line' : (k.ticket + 1) % 2 ^ 64 ≡ (k.serving + q') % 2 ^ 64 = ap (λ t. (t + 1) % 2 ^ 64) k.line ∙ (mod_suc (k.serving + q) ∙ ap (λ t. t % 2 ^ 64) (let e : (k.serving + q) + 1 ≡ k.serving + q' = omega arith in e)) in
      let words' : set s.words 0 ((n + 1) % 2 ^ 64) ≡ ((k.ticket + 1) % 2 ^ 64) ∷ k.serving ∷ k.count ∷ [] = ap (λ ws. set ws 0 ((slice_index ws 0 + 1) % 2 ^ 64)) k.words in
      let more : (u : Turns F) → Fits x k.serving q k.count k.log u → Fits x k.serving q' k.count k.log u = λ u g. record {
        based = g.based;
        spent = g.spent;
        range = λ t is. (let r = g.range t is in (r.0, (let b = r.1 in omega arith), r.2));
        turn = g.turn;
        made = g.made;
        rises = g.rises;
        mark = g.mark;
      } in (
        w,
        keeps,
        tt,
        kept x ((k.ticket + 1) % 2 ^ 64) k.serving k.count k.log (set s.words 0 ((n + 1) % 2 ^ 64)) s.homes (set s.views id w) words' k.one_slot k.small k.counted
            (moved 3 3 (λ p. 0) (λ p. 0) x k.ticket k.serving k.count ((k.ticket + 1) % 2 ^ 64) k.serving k.count k.log k.log s.homes s.homes s.views id v w (wide x s k) at refl line' (λ p. refl)
            record {
              based = f.based;
              spent = λ zero_parts. absurd (omega arith);
              range = λ t is. (q, omega arith, (let e : n ≡ t = cc in sym e ∙ mine_is));
              turn = λ turn. absurd (let e = idle in cc);
              made = f.made;
              rises = f.rises;
              mark = f.mark;
            }
            (λ j u ne e. more u (k.seats j u e))
            (λ j u t ne e mine other. let r = (k.seats j u e).range t other in let is : n ≡ t = cc in apart_in_line k.serving r.0 q r.1 three (sym r.2 ∙ (sym is ∙ mine_is)))
            (λ served. k.home (none_before s.views id v w at idle served))
            (λ served. k.away (served_before s.views id w idle served))),
        refl,
      )

  -- a seat whose facts are those of before, in a rule whose log and line are those of before
  abbrev still : (x : Base F) (serving q count : ℕ) (log : List Entry) (v : Turns F) → Fits x serving q count log v → Fits x serving q count log v
  still x serving q count log v f = f

  -- the serving word is looked at
  pub looks : (x : Base F) (slots id : ℕ) (me : Me (Option B) (Turns F)) (mine : ℕ) → me.0.ticket ≡ Some mine → me.0.turn ≡ false → 0 < me.0.parts → Allows (Kept fixed list x) slots id me 1 (λ n. n) (Looked fixed list me)
  looks x slots id me mine has idle some_part s k deep at fits =
      let v : Turns F = me.0 in
      let n : ℕ = slice_index s.words 1 in
      let n_is : n ≡ k.serving = ap (λ ws. slice_index ws 1) k.words in
      let words' : set s.words 1 n ≡ k.ticket ∷ k.serving ∷ k.count ∷ [] = ap (λ ws. set ws 1 (slice_index ws 1)) k.words in
      let f = k.seats id v at in
      dite (ℕ_discrete n mine)
      (λ (is : n ≡ mine).
      let turn : v.ticket ≡ Some k.serving = has ∙ ap Some (sym is ∙ n_is) in
      let none : NoneServed fixed list s.views = λ j u e. no_bool u.turn (λ on. let same = others_wait 3 (λ p. 0) x k.ticket k.serving k.count k.log s.homes s.views (wide x s k) id v at turn j u e on in
      let u_is : u ≡ v = some-injective u v (sym e ∙ (ap (get_elem? s.views) same ∙ at)) in let off : u.turn ≡ false = ap (λ z. z.turn) u_is ∙ idle in cc) in
      let h = k.home none in
      let b : B = h.0 in
      let homes_is : s.homes ≡ some (Some b) ∷ [] = h.1 in
      let w : Turns F = served k.log v in
      let same_q : total waits (set s.views id w) ≡ total waits s.views = (let e = total_set waits s.views id v w at in omega arith) in
      let line' : k.ticket ≡ (k.serving + total waits (set s.views id w)) % 2 ^ 64 = k.line ∙ ap (λ q. (k.serving + q) % 2 ^ 64) (sym same_q) in
      let now : (u : Turns F) → Fits x k.serving (total waits s.views) k.count k.log u → Fits x k.serving (total waits (set s.views id w)) k.count k.log u = λ u g. subst (λ q. Fits x k.serving q k.count k.log u) (sym same_q) g in (
        w,
        takes 0 (Some b),
        ap (λ hs. get_elem? hs 0) homes_is,
        kept x k.ticket k.serving k.count k.log (set s.words 1 n) (set s.homes 0 maybe.none) (set s.views id w) words' (length-set s.homes 0 maybe.none ∙ k.one_slot) k.small k.counted
            (moved 3 3 (λ p. 0) (λ p. 0) x k.ticket k.serving k.count k.ticket k.serving k.count k.log k.log s.homes (set s.homes 0 maybe.none) s.views id v w (wide x s k) at refl line' (λ p. refl)
            (now w record { based = f.based; spent = f.spent; range = f.range; turn = λ _. (turn, refl); made = f.made; rises = f.rises; mark = f.mark })
            (λ j u ne e. now u (k.seats j u e))
            (λ j u t ne e mine' other. ne (k.differ j id u v t e at other mine'))
            (λ served'. let on = served' id w (set_here s.views id w (at_inside s.views id v at)) in absurd cc)
            (λ _. single s.homes maybe.none k.one_slot)),
        λ t t_is. (
          (λ _. (b, k.log, refl, (λ y base. subst (λ z. IsBook fixed list z k.log b) (same_base x y v (f.based some_part) base) h.2))),
          (λ ne. absurd (ne (is ∙ (let q : mine ≡ t = cc in q)))),
        ),
      ))
      (λ (ne : n ≢ mine).
      let same : set s.views id v ≡ s.views = set_again s.views id v at in (
        v,
        keeps,
        tt,
        kept x k.ticket k.serving k.count k.log (set s.words 1 n) s.homes (set s.views id v) words' k.one_slot k.small k.counted (subst (Wide 3 (λ p. 0) x k.ticket k.serving k.count k.log s.homes) (sym same) (wide x s k)),
        λ t t_is. (
          (λ is. absurd (ne (is ∙ (let q : t ≡ mine = cc in q)))),
          (λ _. refl),
        ),
      ))
    where
      at_inside : (views : List (Turns F)) (i : ℕ) (u : Turns F) → get_elem? views i ≡ some u → i < length views
      at_inside [] i u e = absurd cc
      at_inside (z ∷ zs) zero u e = omega arith
      at_inside (z ∷ zs) (suc i) u e = let h = at_inside zs i u e in omega arith

  -- an entry is recorded
  pub records : (x : Base F) (slots id : ℕ) (me : Me (Option B) (Turns F)) (e : Entry) → me.0.turn ≡ true → length me.0.found < MOST_EVENTS → 0 < me.0.parts → Allows (Kept fixed list x) slots id me 2 (λ n. (n + 1) % 2 ^ 64) (Recorded e me)
  records x slots id me e on room some_part s k deep at fits =
      let v : Turns F = me.0 in
      let n : ℕ = slice_index s.words 2 in
      let n_is : n ≡ k.count = ap (λ ws. slice_index ws 2) k.words in
      let f = k.seats id v at in
      let mine : v.ticket ≡ Some k.serving = (f.turn on).0 in
      let found_is : v.found ≡ k.log = (f.turn on).1 in
      let length_is : length v.found ≡ k.count = ap length found_is ∙ k.counted in
      let n_found : n ≡ length v.found = n_is ∙ sym length_is in
      let w : Turns F = recorded e n v in
      let log' : List Entry = k.log ++ e ∷ [] in
      let count_is : (n + 1) % 2 ^ 64 ≡ k.count + 1 = mod-eq_of_lt (let l : n + 1 < 2 ^ 64 = omega arith in l) ∙ (let q : n + 1 ≡ k.count + 1 = omega arith in q) in
      let words' : set s.words 2 ((n + 1) % 2 ^ 64) ≡ k.ticket ∷ k.serving ∷ (k.count + 1) ∷ [] = ap (λ ws. set ws 2 ((n + 1) % 2 ^ 64)) k.words ∙ ap (λ c. k.ticket ∷ k.serving ∷ c ∷ []) count_is in
      let same_q : total waits (set s.views id w) ≡ total waits s.views = (let h = total_set waits s.views id v w at in omega arith) in
      let line' : k.ticket ≡ (k.serving + total waits (set s.views id w)) % 2 ^ 64 = k.line ∙ ap (λ q. (k.serving + q) % 2 ^ 64) (sym same_q) in
      let stands : (m : Made) → Stands k.log m → Stands log' m = λ m h. stands_more k.log (e ∷ []) m h in
      let below : Each (λ m. m.place < n) v.entries = each_widens (Stands k.log) (λ m. m.place < n) v.entries (λ m h. let inside = slice_get_within k.log m.place m.entry h.0 in let c = k.counted in omega arith) f.made in
      let here : Stands log' record { place = n; entry = e; before = v.found } = (
        ap (slice_get log') (n_is ∙ sym k.counted) ∙ get_last k.log e,
        found_is ∙ (sym (take_last k.log (e ∷ [])) ∙ ap (λ i. take i log') (k.counted ∙ sym n_is)),
      ) in (
        w,
        keeps,
        tt,
        kept x k.ticket k.serving (k.count + 1) log' (set s.words 2 ((n + 1) % 2 ^ 64)) s.homes (set s.views id w) words' k.one_slot k.small (let h = length-append k.log (e ∷ []) in let c = k.counted in omega arith)
            (moved 3 3 (λ p. 0) (λ p. 0) x k.ticket k.serving k.count k.ticket k.serving (k.count + 1) k.log log' s.homes s.homes s.views id v w (wide x s k) at refl line'
            (λ p. next_entry p n k.count v.entries record { place = n; entry = e; before = v.found } refl n_is)
            record {
              based = f.based;
              spent = λ zero_parts. absurd (omega arith);
              range = λ t is. subst (λ q. (i : ℕ) × (i < q) × (t ≡ (k.serving + i) % 2 ^ 64)) (sym same_q) (f.range t is);
              turn = λ _. (mine, ap (λ z. z ++ e ∷ []) found_is);
              made = each_both (Stands log') v.entries (record { place = n; entry = e; before = v.found } ∷ []) (each_widens (Stands k.log) (Stands log') v.entries stands f.made) (here, tt);
              rises = rises_last 0 n v.entries (record { place = n; entry = e; before = v.found }) f.rises below (omega arith) refl;
              mark = (let m = f.mark in omega arith);
            }
            (λ j u ne h. let g = k.seats j u h in record {
              based = g.based;
              spent = g.spent;
              range = λ t is. subst (λ q. (i : ℕ) × (i < q) × (t ≡ (k.serving + i) % 2 ^ 64)) (sym same_q) (g.range t is);
              turn = λ also. absurd (ne (others_wait 3 (λ p. 0) x k.ticket k.serving k.count k.log s.homes s.views (wide x s k) id v at mine j u h also));
              made = each_widens (Stands k.log) (Stands log') u.entries stands g.made;
              rises = g.rises;
              mark = (let m = g.mark in omega arith);
            })
            (λ j u t ne h mine' other. ne (k.differ j id u v t h at other mine'))
            (λ served'. let off = served' id w (set_here s.views id w (at_inside s.views id v at)) in absurd cc)
            (λ _. k.away (id, v, at, on))),
        (refl, n_found, below),
      )
    where
      at_inside : (views : List (Turns F)) (i : ℕ) (u : Turns F) → get_elem? views i ≡ some u → i < length views
      at_inside [] i u e = absurd cc
      at_inside (z ∷ zs) zero u e = omega arith
      at_inside (z ∷ zs) (suc i) u e = let h = at_inside zs i u e in omega arith

  small_next : (n : ℕ) → (n + 1) % 2 ^ 64 < 2 ^ 64
  small_next n = omega arith

  no_further : (n : ℕ) → n < 2 ^ 64 → (n + 0) % 2 ^ 64 ≡ n
  no_further n small = let l : n + 0 < 2 ^ 64 = omega arith in mod-eq_of_lt l ∙ (let z : n + 0 ≡ n = omega arith in z)

  -- the turn ends, and the book is given back
  pub passes : (x : Base F) (slots id : ℕ) (me : Me (Option B) (Turns F)) (b : B) (mark : ℕ) → me.0.turn ≡ true → 0 < me.0.parts → me.1 ≡ (0, Some b) ∷ []
      → ((y : Base F) → me.0.base ≡ Some y → IsBook fixed list y me.0.found b) → ((n : ℕ) → me.0.mark ≤ n → length me.0.found ≡ n → mark ≤ n)
      → Allows (Kept fixed list x) slots id me 1 (λ n. (n + 1) % 2 ^ 64) (λ n. Passed mark me)
  passes x slots id me b mark on some_part carried is_book marks s k deep at fits =
      let v : Turns F = me.0 in
      let n : ℕ = slice_index s.words 1 in
      let n_is : n ≡ k.serving = ap (λ ws. slice_index ws 1) k.words in
      let f = k.seats id v at in
      let mine : v.ticket ≡ Some k.serving = (f.turn on).0 in
      let found_is : v.found ≡ k.log = (f.turn on).1 in
      let w : Turns F = passed mark v in
      let q : ℕ = total waits s.views in
      let q' : ℕ = total waits (set s.views id w) in
      let waits_v : waits v ≡ 1 = ap one_if mine in
      let shrinks : q' + 1 ≡ q = (let h = total_set waits s.views id v w at in omega arith) in
      let serving' : ℕ = (k.serving + 1) % 2 ^ 64 in
      let step : (i : ℕ) → 0 < i → (k.serving + i) % 2 ^ 64 ≡ (serving' + (i - 1)) % 2 ^ 64 = λ i above. mod_next k.serving i above k.small (dec_lt (k.serving + 1) (2 ^ 64)) in
      let line' : k.ticket ≡ (serving' + q') % 2 ^ 64 = k.line ∙ (step q (omega arith) ∙ ap (λ r. (serving' + r) % 2 ^ 64) (let e : q - 1 ≡ q' = omega arith in e)) in
      let words' : set s.words 1 ((n + 1) % 2 ^ 64) ≡ k.ticket ∷ serving' ∷ k.count ∷ [] = ap (λ ws. set ws 1 ((slice_index ws 1 + 1) % 2 ^ 64)) k.words in
      let homes' : put_back s.homes me.1 ≡ some (Some b) ∷ [] = ap (put_back s.homes) carried ∙ single s.homes (some (Some b)) k.one_slot in
      let nobody : IsServed fixed list (set s.views id w) → ⊥ = λ (j, u, e, also). ⊎_elim
      (λ (t : (j ≡ id) × (w ≡ u)). let off : u.turn ≡ false = ap (λ z. z.turn) (sym t.1) in absurd cc)
      (λ (t : (j ≢ id) × (get_elem? s.views j ≡ some u)). absurd (t.0 (others_wait 3 (λ p. 0) x k.ticket k.serving k.count k.log s.homes s.views (wide x s k) id v at mine j u t.1 also)))
      (at_set s.views id j w u e) in
      let book : IsBook fixed list x k.log b = subst (λ l. IsBook fixed list x l b) found_is (is_book x (f.based some_part)) in (
        w,
        gives,
        tt,
        kept x k.ticket serving' k.count k.log (set s.words 1 ((n + 1) % 2 ^ 64)) (put_back s.homes me.1) (set s.views id w) words' (ap length homes') (small_next k.serving) k.counted
            (moved 3 3 (λ p. 0) (λ p. 0) x k.ticket k.serving k.count k.ticket serving' k.count k.log k.log s.homes (put_back s.homes me.1) s.views id v w (wide x s k) at refl line' (λ p. refl)
            record {
              based = f.based;
              spent = λ zero_parts. absurd (omega arith);
              range = λ t is. absurd cc;
              turn = λ also. absurd cc;
              made = f.made;
              rises = f.rises;
              mark = marks k.count f.mark (ap length found_is ∙ k.counted);
            }
            (λ j u ne h. let g = k.seats j u h in record {
              based = g.based;
              spent = g.spent;
              range = λ t is. (let r = g.range t is in
                  let later_one : r.0 ≢ 0 → (i : ℕ) × (i < q') × (t ≡ (serving' + i) % 2 ^ 64) = λ later. (r.0 - 1, (let l = r.1 in omega arith), r.2 ∙ step r.0 (omega arith)) in
                  dite (ℕ_discrete r.0 0)
                  (λ (first : r.0 ≡ 0).
                  let same : t ≡ k.serving = r.2 ∙ (ap (λ i. (k.serving + i) % 2 ^ 64) first ∙ no_further k.serving k.small) in
                  absurd (ne (k.differ j id u v k.serving h at (is ∙ ap Some same) mine)))
                  later_one);
              turn = λ also. absurd (ne (others_wait 3 (λ p. 0) x k.ticket k.serving k.count k.log s.homes s.views (wide x s k) id v at mine j u h also));
              made = g.made;
              rises = g.rises;
              mark = g.mark;
            })
            (λ j u t ne h mine' other. absurd cc)
            (λ _. (b, homes', book))
            (λ served'. absurd (nobody served'))),
        refl,
      )

  pub starts : (b : B) → Kept fixed list (base_of fixed list b) (opening (0 ∷ 0 ∷ 0 ∷ []) (Some b ∷ []) (opened (base_of fixed list b)))
  starts b = let x : Base F = base_of fixed list b in record {
    ticket = 0;
    serving = 0;
    count = 0;
    log = [];
    words = refl;
    one_slot = refl;
    parts = refl;
    line = refl;
    small = omega arith;
    counted = refl;
    once = λ p. grind (arith, nat_tests);
    seats = λ j u e. ⊎_elim (λ (at : get_elem? [] j ≡ some u). absurd cc) (λ (is : opened x ≡ u). subst (Fits x 0 0 0 []) is record { based = λ _. refl; spent = λ none. absurd (omega arith); range = λ t none. absurd cc; turn = λ on. absurd cc; made = tt; rises = tt; mark = omega arith }) (at_snoc [] (opened x) u j e);
    differ = λ j k v w t ej ek tv tw. absurd (none_of j v (opened x) refl ej t tv);
    home = λ _. (b, refl, (refl, sym (append-nil (list b))));
    away = λ (j, u, e, on). ⊎_elim (λ (at : get_elem? [] j ≡ some u). absurd cc) (λ (is : opened x ≡ u). let off : u.turn ≡ false = ap (λ z. z.turn) (sym is) in absurd cc) (at_snoc [] (opened x) u j e);
  }
    where
      none_of : (j : ℕ) (v o : Turns F) → o.ticket ≡ None → get_elem? (o ∷ []) j ≡ some v → (t : ℕ) → v.ticket ≡ Some t → ⊥
      none_of j v o none e t is = ⊎_elim (λ (at : get_elem? [] j ≡ some v). absurd cc) (λ (same : o ≡ v). let q : v.ticket ≡ None = sym (ap (λ z. z.ticket) same) ∙ none in absurd cc) (at_snoc [] o v j e)

  -- a seat is given a part
  seated : (all all' : ℕ) (extra : ℕ → ℕ) (x : Base F) (ticket serving count : ℕ) (log : List Entry) (homes : Homes) (views : List (Turns F)) (w : Turns F)
      → Wide all extra x ticket serving count log homes views → all + w.parts ≡ all' → w.ticket ≡ None → w.entries ≡ [] → w.turn ≡ false → Fits x serving (total waits views) count log w
      → Wide all' extra x ticket serving count log homes (views ++ w ∷ [])
  seated all all' extra x ticket serving count log homes views w k parts none empty idle fits =
      let same_q : total waits (views ++ w ∷ []) ≡ total waits views = (let a = total_snoc waits views w in let b : waits w ≡ 0 = ap one_if none in omega arith) in
      record {
        parts = (let a = total_snoc parts_of views w in let b = k.parts in omega arith);
        line = k.line ∙ ap (λ q. (serving + q) % 2 ^ 64) (sym same_q);
        once = λ p. (let a = total_snoc (λ (u : Turns F). times_at p u.entries) views w in let b : times_at p w.entries ≡ 0 = ap (times_at p) empty in let c = k.once p in omega arith);
        seats = λ j u e. subst (λ q. Fits x serving q count log u) (sym same_q) (⊎_elim (λ (at : get_elem? views j ≡ some u). k.seats j u at) (λ (is : w ≡ u). subst (Fits x serving (total waits views) count log) is fits) (at_snoc views w u j e));
        differ = λ i j a b t ea eb ta tb. ⊎_elim
            (λ (l : get_elem? views i ≡ some a). ⊎_elim (λ (r : get_elem? views j ≡ some b). k.differ i j a b t l r ta tb) (λ (r : w ≡ b). let q : b.ticket ≡ None = sym (ap (λ z. z.ticket) r) ∙ none in absurd cc) (at_snoc views w b j eb))
            (λ (l : w ≡ a). let q : a.ticket ≡ None = sym (ap (λ z. z.ticket) l) ∙ none in absurd cc) (at_snoc views w a i ea);
        home = λ all_idle. k.home (λ j u e. all_idle j u (at_longer views (w ∷ []) j u e));
        away = λ (j, u, e, on). k.away (⊎_elim (λ (at : get_elem? views j ≡ some u). (j, u, at, on)) (λ (is : w ≡ u). let off : u.turn ≡ false = ap (λ z. z.turn) (sym is) ∙ idle in absurd cc) (at_snoc views w u j e));
      }

  -- a seat gives one of its parts to a new one
  pub splits : (x : Base F) (id : ℕ) (v : Turns F) → 1 < v.parts → v.turn ≡ false → Splits (Kept fixed list x) id v (fewer v) (fresh v)
  splits x id v two idle s k at =
      let f = k.seats id v at in
      let w : Turns F = fewer v in
      let same_q : total waits (set s.views id w) ≡ total waits s.views = (let e = total_set waits s.views id v w at in omega arith) in
      let line' : k.ticket ≡ (k.serving + total waits (set s.views id w)) % 2 ^ 64 = k.line ∙ ap (λ q. (k.serving + q) % 2 ^ 64) (sym same_q) in
      let now : (u : Turns F) → Fits x k.serving (total waits s.views) k.count k.log u → Fits x k.serving (total waits (set s.views id w)) k.count k.log u = λ u g. subst (λ q. Fits x k.serving q k.count k.log u) (sym same_q) g in
      let less = moved 3 2 (λ p. 0) (λ p. 0) x k.ticket k.serving k.count k.ticket k.serving k.count k.log k.log s.homes s.homes s.views id v w (wide x s k) at (omega arith) line' (λ p. refl)
      (now w record { based = λ _. f.based (omega arith); spent = λ none. absurd (omega arith); range = f.range; turn = f.turn; made = f.made; rises = f.rises; mark = f.mark })
      (λ j u ne e. now u (k.seats j u e))
      (λ j u t ne e mine other. ne (k.differ j id u v t e at other mine))
      (λ all_idle. k.home (none_before s.views id v w at idle all_idle))
      (λ on. k.away (served_before s.views id w idle on)) in
      kept x k.ticket k.serving k.count k.log s.words s.homes (set s.views id w ++ fresh v ∷ []) k.words k.one_slot k.small k.counted
      (seated 2 3 (λ p. 0) x k.ticket k.serving k.count k.log s.homes (set s.views id w) (fresh v) less refl refl refl refl
      record { based = λ _. f.based (omega arith); spent = λ none. absurd (omega arith); range = λ t is. absurd cc; turn = λ on. absurd cc; made = tt; rises = tt; mark = omega arith })

  -- a seat takes another one in
  pub joins : (x : Base F) (id : ℕ) (v : Turns F) (other : ℕ) (w : Turns F) → 0 < v.parts → v.ticket ≡ None → w.ticket ≡ None → Joins (Kept fixed list x) id v other w (joined v w) spent
  joins x id v other w some_part none_v none_w s k at apart there =
      let f = k.seats id v at in
      let both : Turns F = joined v w in
      let at_other : get_elem? s.views other ≡ some w = ⊎_elim (λ (t : (other ≡ id) × (both ≡ w)). absurd (apart t.0)) (λ (t : (other ≢ id) × (get_elem? s.views other ≡ some w)). t.1) (at_set s.views id other both w there) in
      let g = k.seats other w at_other in
      let idle_v = no_turn x k.serving (total waits s.views) k.count k.log v f none_v in
      let idle_w = no_turn x k.serving (total waits s.views) k.count k.log w g none_w in
      let waits_v : waits v ≡ 0 = ap one_if none_v in
      let waits_w : waits w ≡ 0 = ap one_if none_w in
      let q_both : total waits (set s.views id both) ≡ total waits s.views = (let e = total_set waits s.views id v both at in omega arith) in
      let line_both : k.ticket ≡ (k.serving + total waits (set s.views id both)) % 2 ^ 64 = k.line ∙ ap (λ q. (k.serving + q) % 2 ^ 64) (sym q_both) in
      let now : (u : Turns F) → Fits x k.serving (total waits s.views) k.count k.log u → Fits x k.serving (total waits (set s.views id both)) k.count k.log u = λ u h. subst (λ q. Fits x k.serving q k.count k.log u) (sym q_both) h in
      let extra : ℕ → ℕ = λ p. times_at p w.entries in
      let once_both : (p : ℕ) → (once_below p k.count + 0) + times_at p both.entries ≡ (once_below p k.count + extra p) + times_at p v.entries = λ p. (let e = times_merged p w.entries v.entries in omega arith) in
      let disjoint : (p : ℕ) → times_at p w.entries + times_at p v.entries ≤ 1 = λ p. (let t = total_two (λ (u : Turns F). times_at p u.entries) s.views other id w v apart at_other at in let o = k.once p in grind (arith, nat_tests)) in
      let more : Wide (3 + w.parts) extra x k.ticket k.serving k.count k.log s.homes (set s.views id both) =
      moved 3 (3 + w.parts) (λ p. 0) extra x k.ticket k.serving k.count k.ticket k.serving k.count k.log k.log s.homes s.homes s.views id v both (wide x s k) at (omega arith) line_both once_both
      (now both record { based = λ _. f.based some_part; spent = λ none. absurd (omega arith); range = λ t is. absurd cc; turn = λ on. absurd cc; made = each_merged (Stands k.log) w.entries v.entries g.made f.made; rises = rises_merged w.entries v.entries f.rises disjoint; mark = (let a = f.mark in let b = g.mark in omega arith) })
      (λ j u ne e. now u (k.seats j u e))
      (λ j u t ne e mine also. absurd cc)
      (λ all_idle. k.home (none_before s.views id v both at idle_v all_idle))
      (λ on. k.away (served_before s.views id both refl on)) in
      let q_after : total waits (set (set s.views id both) other spent) ≡ total waits (set s.views id both) = (let e = total_set waits (set s.views id both) other w spent there in omega arith) in
      let line_after : k.ticket ≡ (k.serving + total waits (set (set s.views id both) other spent)) % 2 ^ 64 = line_both ∙ ap (λ q. (k.serving + q) % 2 ^ 64) (sym q_after) in
      let later : (u : Turns F) → Fits x k.serving (total waits (set s.views id both)) k.count k.log u → Fits x k.serving (total waits (set (set s.views id both) other spent)) k.count k.log u = λ u h. subst (λ q. Fits x k.serving q k.count k.log u) (sym q_after) h in
      kept x k.ticket k.serving k.count k.log s.words s.homes (set (set s.views id both) other spent) k.words k.one_slot k.small k.counted
      (moved (3 + w.parts) 3 extra (λ p. 0) x k.ticket k.serving k.count k.ticket k.serving k.count k.log k.log s.homes s.homes (set s.views id both) other w spent more there (omega arith) line_after (λ p. omega arith)
      (later spent record { based = λ above. absurd (omega arith); spent = λ _. (refl, refl); range = λ t is. absurd cc; turn = λ on. absurd cc; made = tt; rises = tt; mark = omega arith })
      (λ j u ne e. later u (more.seats j u e))
      (λ j u t ne e mine also. absurd cc)
      (λ all_idle. more.home (none_before (set s.views id both) other w spent there idle_w all_idle))
      (λ on. more.away (served_before (set s.views id both) other spent refl on)))

  -- the seat with all parts sees the whole
  pub closes : (x : Base F) (id : ℕ) (v : Turns F) (ws : List ℕ) (xs : List (Option B)) → v.parts ≡ 3 → v.ticket ≡ None → Final (Seen (Kept fixed list x) id v) ws xs
      → (b : B) × (get_elem? xs 0 ≡ some (Some b)) × Whole fixed list x v.entries v.mark b
  closes x id v ws xs all none final =
      let s : St = final.0 in
      let k : Kept fixed list x s = final.1.0 in
      let at : get_elem? s.views id ≡ some v = final.1.1 in
      let others : (j : ℕ) (u : Turns F) → j ≢ id → get_elem? s.views j ≡ some u → u.parts ≡ 0 = λ j u ne e. (let a = total_two parts_of s.views j id u v ne e at in let b = k.parts in omega arith) in
      let idle : NoneServed fixed list s.views = λ j u e. dite (ℕ_discrete j id)
      (λ (is : j ≡ id). let u_is : u ≡ v = some-injective u v (sym e ∙ (ap (get_elem? s.views) is ∙ at)) in ap (λ z. z.turn) u_is ∙ no_turn x k.serving (total waits s.views) k.count k.log v (k.seats id v at) none)
      (λ (ne : j ≢ id). no_turn x k.serving (total waits s.views) k.count k.log u (k.seats j u e) ((k.seats j u e).spent (others j u ne e)).0) in
      let h = k.home idle in
      let b : B = h.0 in
      let made : Each (Stands k.log) v.entries = (k.seats id v at).made in
      let once : (p : ℕ) → times_at p v.entries ≡ once_below p (length k.log) = λ p.
      sym (total_one (λ (u : Turns F). times_at p u.entries) s.views id v at (λ j u ne e. ap (times_at p) ((k.seats j u e).spent (others j u ne e)).1)) ∙ (k.once p ∙ ap (once_below p) (sym k.counted)) in (
        b,
        final.4 0 (Some b) (ap (λ hs. get_elem? hs 0) h.1),
        record {
          log = k.log;
          book = h.2;
          made = made;
          once = once;
          all = in_order_is k.log v.entries made once;
          mark = (let m = (k.seats id v at).mark in let c = k.counted in omega arith);
        },
      )

  -- the same is known by other lists of the same entries
  pub gathers : (x : Base F) (es fs : List Made) (m n : ℕ) (b c : B) → Whole fixed list x es m b → ((p : ℕ) → times_at p fs ≡ times_at p es)
      → ((log : List Entry) → Each (Stands log) es → Each (Stands log) fs) → m ≡ n → b ≡ c → Whole fixed list x fs n c
  gathers x es fs m n b c w times stand same_mark same =
      let made : Each (Stands w.log) fs = stand w.log w.made in
      let once : (p : ℕ) → times_at p fs ≡ once_below p (length w.log) = λ p. times p ∙ w.once p in
      record {
        log = w.log;
        book = subst (IsBook fixed list x w.log) same w.book;
        made = made;
        once = once;
        all = in_order_is w.log fs made once;
        mark = subst (λ k. k ≤ length w.log) same_mark w.mark;
      }

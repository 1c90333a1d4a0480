-- A list of changes that goes on with a history.
use Rattle.std.proofs.Common.{◌≡◌, ℕ, zero, suc, ◌+◌, ◌≤◌, ◌<◌, ◌∙◌, refl, sym, ap, subst, List, [], ◌∷◌, ◌++◌, length, take, map, Option, Some, None, true, false, cond, inl, inr, arith}
use Rattle.std.proofs.lemmas.Bool.{cases_lt}
use Rattle.std.proofs.lemmas.List.{length-append}
use Rattle.switch_event.specs.declared.config.PortConf.{PortConf}
use Rattle.std.specs.Prelude.{find, slice_get, nat_le, ◌==◌, ◌&&◌}
use Rattle.std.specs.List.{range_with_len, list_all}
use Rattle.std.specs.Option.{option_map}
use Rattle.std.proofs.lemmas.Bool.Decides.{nat_tests}
use Rattle.switch_event.specs.Config.{Config, is_valid}
use Rattle.switch_defs.proofs.Lists.{both}
use Rattle.switch_defs.proofs.Valid.{valid_ports}
use Rattle.switch_defs.specs.Switch.{State, opening, opened_port, is_port, port_of, most_sessions}
use Rattle.switch_defs.specs.Decide.{view_of}
use Rattle.event_record.specs.Entry.{Entry}
use Rattle.switch_defs.specs.History.{after}
use Rattle.switch_defs.specs.Sound.{In, here, there, most_ports}
use Rattle.switch_defs.specs.Turn.{turn}
use Rattle.switch_defs.proofs.Numbers.{runs_append}
use Rattle.switch_defs.proofs.Soundness.{sessions_are_few}
use Rattle.table_defs.specs.Table.{Table, Change, Items, changed, changed_by, row_count, row_in, row_of, row_opened, conf_of, view_in, held_in, right_for, AreKeys, opening_table, Agrees, Mirrors, IsItems, IsBegun, IsContinued, AreItemsFew, all_absorbed}
use Rattle.table_defs.proofs.Mirror.{enough, kept}

-- the row of each number of a port
rows_from : {X : Type 0} (f : ℕ → X) (first count n : ℕ) → n < count → slice_get (map f (range_with_len first count)) n ≡ Some (f (first + n))
rows_from f first zero n less = absurd (omega arith)
rows_from f first (suc count) zero less = ap (λ (k : ℕ). Some (f k)) (omega arith)
rows_from f first (suc count) (suc n) less = rows_from f (first + 1) count n (omega arith) ∙ ap (λ (k : ℕ). Some (f k)) (omega arith)

rows_past : {X : Type 0} (f : ℕ → X) (first count n : ℕ) → count ≤ n → slice_get (map f (range_with_len first count)) n ≡ None
rows_past f first zero n past = refl
rows_past f first (suc count) zero past = absurd (omega arith)
rows_past f first (suc count) (suc n) past = rows_past f (first + 1) count n (omega arith)

opened_row : (c : Config) (n : ℕ) → n < row_count → row_of n (opening_table c) ≡ option_map row_opened (conf_of n c.ports)
opened_row c n less = ap row_in (rows_from (λ m. option_map row_opened (conf_of m c.ports)) 0 row_count n less) ∙ ap (λ (m : ℕ). option_map row_opened (conf_of m c.ports)) (omega arith)

no_row : (c : Config) (n : ℕ) → row_count ≤ n → row_of n (opening_table c) ≡ None
no_row c n past = ap row_in (rows_past (λ m. option_map row_opened (conf_of m c.ports)) 0 row_count n past)

opened_view : (c : Config) (n : ℕ) (ps : List PortConf) → view_in (option_map row_opened (conf_of n ps)) ≡ view_of (find (is_port n) (map (opened_port c) ps))
opened_view c n [] = refl
opened_view c n (p ∷ ps) = elim (p.port == n) as (λ b. view_in (option_map row_opened (cond b (Some p) (conf_of n ps))) ≡ view_of (cond b (Some (opened_port c p)) (find (is_port n) (map (opened_port c) ps)))) [
  | true ↦ refl
  | false ↦ opened_view c n ps
]

-- no port has a number past 60
none_past : (c : Config) (n : ℕ) (ps : List PortConf) → 61 ≤ n → list_all (λ p. nat_le 1 p.port && nat_le p.port 60) ps ≡ true → find (is_port n) (map (opened_port c) ps) ≡ None
none_past c n [] past v = refl
none_past c n (p ∷ ps) past v =
    let k = both (nat_le 1 p.port && nat_le p.port 60) (list_all (λ p. nat_le 1 p.port && nat_le p.port 60) ps) v in
    rw (other p.port n past (both (nat_le 1 p.port) (nat_le p.port 60) k.0).1) (none_past c n ps past k.1)
  where
    other : (m n : ℕ) → 61 ≤ n → nat_le m 60 ≡ true → (m == n) ≡ false
    other m n past small = grind (arith, nat_tests)

begun_view : (c : Config) (n : ℕ) → is_valid c ≡ true → view_in (row_of n (opening_table c)) ≡ view_of (port_of n (opening c))
begun_view c n v = elim (cases_lt n row_count) [
  | inl less ↦ ap view_in (opened_row c n less) ∙ opened_view c n c.ports
  | inr past ↦ ap view_in (no_row c n past) ∙ sym (ap view_of (none_past c n c.ports past (valid_ports c v).in_range))
]

nothing_in : (o : Option PortConf) → held_in (option_map row_opened o) ≡ []
nothing_in None = refl
nothing_in (Some p) = refl

nothing_held : (c : Config) (n : ℕ) → held_in (row_of n (opening_table c)) ≡ []
nothing_held c n = elim (cases_lt n row_count) [
  | inl less ↦ ap held_in (opened_row c n less) ∙ nothing_in (conf_of n c.ports)
  | inr past ↦ ap held_in (no_row c n past)
]

pub begun : IsBegun
begun c v = record {
  ports = λ n. begun_view c n v;
  held = λ port address. ap (right_for address) (nothing_held c port);
  keys = λ port. subst AreKeys (sym (nothing_held c port)) tt;
}

changed_append : (t : Table) (cs ds : List Change) → changed_by t (cs ++ ds) ≡ changed_by (changed_by t cs) ds
changed_append t [] ds = refl
changed_append t (c ∷ cs) ds = changed_append (changed t c) cs ds

after_more : (c : Config) (h : List Entry) (e : Entry) → after c (h ++ e ∷ []) ≡ (turn (after c h) e.event).state
unfolding after
after_more c h e = runs_append (opening c) h (e ∷ [])

-- a place in a list with one more is a place before, or the end
take_push : {A : Type 0} (xs : List A) (x : A) (n : ℕ) → n ≤ length xs → take n (xs ++ x ∷ []) ≡ take n xs
take_push xs x zero le = refl
take_push [] x (suc n) le = absurd (omega arith)
take_push (y ∷ xs) x (suc n) le = ap (λ zs. y ∷ zs) (take_push xs x n (omega arith))

take_whole : {A : Type 0} (xs : List A) (n : ℕ) → length xs ≤ n → take n xs ≡ xs
take_whole [] zero le = refl
take_whole [] (suc n) le = refl
take_whole (x ∷ xs) zero le = absurd (omega arith)
take_whole (x ∷ xs) (suc n) le = ap (λ zs. x ∷ zs) (take_whole xs n (omega arith))

agree_at : (t u : Table) (s r : State) → u ≡ t → r ≡ s → Agrees t s → Agrees u r
agree_at t u s r e f a = subst (λ (x : Table). Agrees x r) (sym e) (subst (λ (y : State). Agrees t y) (sym f) a)

going_push : (cs : List Change) (d : Change) → ((c : Change) → In c cs → IsItems c) → IsItems d → (c : Change) → In c (cs ++ d ∷ []) → IsItems c
going_push [] d f g c here = g
going_push [] d f g c (there i) = elim i [ ]
going_push (x ∷ cs) d f g c here = f c here
going_push (x ∷ cs) d f g c (there i) = going_push cs d (λ y j. f y (there j)) g c i

pub continued : IsContinued
continued c cs h e is tells m leads =
    let more : Mirrors (changed_by (opening_table c) (cs ++ Items is ∷ [])) (after c (h ++ e ∷ [])) =
    subst (λ (t : Table). Mirrors t (after c (h ++ e ∷ []))) (sym (changed_append (opening_table c) cs (Items is ∷ [])))
    (subst (λ (s : State). Mirrors (all_absorbed (changed_by (opening_table c) cs) is) s) (sym (after_more c h e)) (kept _ _ _ is m leads).1) in
    let alike : length (cs ++ Items is ∷ []) ≡ length (h ++ e ∷ []) = simp length-append (ap (λ n. n + 1) tells.alike) in (
      record {
        alike = alike;
        going = going_push cs (Items is) tells.going tt;
        agree = λ n le. elim (cases_lt n (length (h ++ e ∷ []))) [
          | inl l ↦
              let k : n ≤ length h = omega (arith, length-append h (e ∷ []), l) in
              let j : n ≤ length cs = omega (arith, tells.alike, k) in
              agree_at _ _ _ _ (ap (changed_by (opening_table c)) (take_push cs (Items is) n j)) (ap (after c) (take_push h e n k)) (tells.agree n k)
          | inr l ↦
              agree_at _ _ _ _ (ap (changed_by (opening_table c)) (take_whole (cs ++ Items is ∷ []) n (omega (arith, l, alike)))) (ap (after c) (take_whole (h ++ e ∷ []) n l)) (enough _ _ more)
        ];
      },
      more,
    )

pub items_are_few : AreItemsFew
items_are_few n s new is a t =
    let sessions : length s.sessions ≤ most_sessions = sessions_are_few n s a in
    let ports : length s.ports ≤ most_ports = a.room in
    omega (arith, t.few, sessions, ports)

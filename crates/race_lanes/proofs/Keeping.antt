-- What was printed stays right while the history grows, and phase follows phase.
use Rattle.std.proofs.Common.{◌≡◌, ℕ, suc, ◌+◌, ◌-◌, ◌%◌, ◌<◌, ◌≤◌, mod-lt, List, [], ◌∷◌, ◌++◌, map, length, take, slice_get, Some, refl, ap, sym, ◌∙◌, subst, append_assoc, append-nil, arith}
use Rattle.std.proofs.lemmas.Bool.Decides.{nat_tests}
use Rattle.std.proofs.lemmas.Option.{slice_get_within}
use Rattle.std.proofs.lemmas.List.{take-append-le}
use mathlib.Core.List.{IsPrefix}
use mathlib.Core.Logic.{dite}
use native.Mathlib.Decide.{dec_lt}
use Rattle.book_lock.specs.Sums.{Each}
use Rattle.book_lock.specs.Places.{once_below}
use Rattle.book_lock.proofs.Lists.{each_widens, each_both, get_more}
use Rattle.switch_event.specs.Config.{Config}
use Rattle.event_record.specs.Entry.{Entry}
use Rattle.table_defs.specs.Table.{Table, Change, opening_table}
use Rattle.auth_publish.specs.Changes.{front_of}
use Rattle.trace_defs.specs.Line.{Record}
use Rattle.legal_defs.specs.Runs.{Numbered, numbered, runs_on, served_by, controls_in, place, places, places_from}
use Rattle.legal_defs.specs.Blocks.{Shown, Line, Block, block, record_of, place_of, lines_of, shown_in, text_of, forwarded_in, said_of, said_in, entry_on, reply_text}
use Rattle.legal_defs.specs.Blocks.Line.{Reply, Decision}
use Rattle.legal_defs.specs.Legal.{times, InOrder, Follows, Later, Replies}
use Rattle.race_lanes.specs.Workers.{at_worker}
use Rattle.race_lanes.specs.Lines.{SawFrom, Beside, PhaseLines}
use Rattle.race_lanes.specs.Standing.{Run, Kept, Stands, records_in}
use Rattle.race_lanes.proofs.Hearing.{front_grows}
use Rattle.race_lanes.proofs.Turning.{each_map, map_map}
use Rattle.race_lanes.proofs.Ordering.{times_append}
use Rattle.race_lanes.proofs.Seeing.{saw_stays}

pub map_both : {A B : Type 0} (f : A → B) (xs ys : List A) → map f (xs ++ ys) ≡ map f xs ++ map f ys
map_both f [] ys = refl
map_both f (x ∷ xs) ys = ap (λ l. f x ∷ l) (map_both f xs ys)

-- places
pub places_snoc : (m n : ℕ) (ps : List (List Record)) (p : List Record)
    → places_from m n (ps ++ p ∷ []) ≡ places_from m n ps ++ map (place (m + length ps)) (numbered (n + records_in ps) p)
places_snoc m n [] p =
    append-nil (map (place m) (numbered n p))
    ∙ (let a : m ≡ m + 0 = omega arith in let b : n ≡ n + 0 = omega arith in λ i. map (place (a i)) (numbered (b i) p))
places_snoc m n (q ∷ ps) p =
    ap (λ l. map (place m) (numbered n q) ++ l)
    (places_snoc (suc m) (n + length q) ps p
    ∙ (let a : suc m + length ps ≡ m + suc (length ps) = omega arith in let b : n + length q + records_in ps ≡ n + (length q + records_in ps) = omega arith in
    λ i. places_from (suc m) (n + length q) ps ++ map (place (a i)) (numbered (b i) p)))
    ∙ sym (append_assoc (map (place m) (numbered n q)) (places_from (suc m) (n + length q) ps) (map (place (m + suc (length ps))) (numbered (n + (length q + records_in ps)) p)))

pub records_snoc : (ps : List (List Record)) (p : List Record) → records_in (ps ++ p ∷ []) ≡ records_in ps + length p
records_snoc [] p = omega arith
records_snoc (q ∷ ps) p = let h = records_snoc ps p in omega arith

placed : (m : ℕ) (ls : List Line) (rs : List Numbered) → map record_of ls ≡ rs → map place_of (map (block m) ls) ≡ map (place m) rs
placed m ls rs is = map_map (block m) place_of ls ∙ (sym (map_map record_of (place m) ls) ∙ ap (map (place m)) is)

pub lines_tagged : (m : ℕ) (ls : List Line) → lines_of (map (block m) ls) ≡ ls
lines_tagged m [] = refl
lines_tagged m (l ∷ ls) = ap (λ z. l ∷ z) (lines_tagged m ls)

pub lines_both : (bs : List Block) (m : ℕ) (ls : List Line) → lines_of (bs ++ map (block m) ls) ≡ lines_of bs ++ ls
lines_both bs m ls = map_both (λ (b : Block). b.line) bs (map (block m) ls) ∙ ap (λ z. lines_of bs ++ z) (lines_tagged m ls)

said_both : (xs ys : List Line) → said_in (xs ++ ys) ≡ said_in xs ++ said_in ys
said_both [] ys = refl
said_both (x ∷ xs) ys = ap (λ l. said_of x ++ l) (said_both xs ys) ∙ sym (append_assoc (said_of x) (said_in xs) (said_in ys))

-- the text
pub text_both : (xs ys : List Line) → text_of (xs ++ ys) ≡ text_of xs ++ text_of ys
text_both [] ys = refl
text_both (x ∷ xs) ys = ap (λ t. (shown_in x).text ++ t) (text_both xs ys) ∙ sym (append_assoc (shown_in x).text (text_of xs) (text_of ys))

-- the forwarded frames
forwarded_both : (xs ys : List Line) → forwarded_in (xs ++ ys) ≡ forwarded_in xs + forwarded_in ys
forwarded_both [] ys = omega arith
forwarded_both (x ∷ xs) ys = let h = forwarded_both xs ys in omega arith

-- orders
order_both : {A : Type 0} (R : A → A → Type 0) (xs ys : List A) → InOrder R xs → InOrder R ys → Each (λ x. Each (R x) ys) xs → InOrder R (xs ++ ys)
order_both R [] ys a b c = b
order_both R (x ∷ xs) ys a b c = (each_both (R x) xs ys a.0 c.0, order_both R xs ys a.1 b c.1)

order_map : {A B : Type 0} (f : A → B) (R : A → A → Type 0) (S : B → B → Type 0) (xs : List A) → ((x y : A) → R x y → S (f x) (f y)) → InOrder R xs → InOrder S (map f xs)
order_map f R S [] h p = tt
order_map f R S (x ∷ xs) h p = (each_map f (S (f x)) xs (each_widens (R x) (λ y. S (f x) (f y)) xs (h x) p.0), order_map f R S xs h p.1)

each_and : {A : Type 0} (P Q : A → Type 0) (xs : List A) → Each P xs → Each Q xs → Each (λ x. P x × Q x) xs
each_and P Q [] p q = tt
each_and P Q (x ∷ xs) p q = ((p.0, q.0), each_and P Q xs p.1 q.1)

beside_follows : (lanes workers m : ℕ) (a b : Line) → Beside lanes workers a b → Follows lanes workers m a m b
beside_follows lanes workers m (Reply e s) (Reply e' s') h = (h, λ less. absurd (omega arith))
beside_follows lanes workers m (Reply e s) (Decision x d) h = λ less. absurd (omega arith)
beside_follows lanes workers m (Decision x d) (Reply e s) h = tt
beside_follows lanes workers m (Decision x d) (Decision x' d') h = h

-- a line of an earlier phase, and one of a later phase
abbrev Under : ℕ → ℕ → (ℕ → List Change) → Line → Type 0
Under n workers seen (Reply e s) = s.count < n
Under n workers seen (Decision x d) = d.count ≤ front_of (seen (served_by workers x.port))

abbrev Over : ℕ → ℕ → (ℕ → List Change) → Line → Type 0
Over n workers seen (Reply e s) = n ≤ s.count
Over n workers seen (Decision x d) = (n ≤ d.count) × (front_of (seen (served_by workers x.port)) ≤ d.count)

apart_follows : (lanes workers n : ℕ) (seen : ℕ → List Change) (p q : ℕ) (a b : Line) → Under n workers seen a → Over n workers seen b → Follows lanes workers p a q b
apart_follows lanes workers n seen p q (Reply e s) (Reply e' s') u o = ((λ _. omega arith), (λ _. omega arith))
apart_follows lanes workers n seen p q (Reply e s) (Decision x d) u o = λ _. (let a = o.0 in omega arith)
apart_follows lanes workers n seen p q (Decision x d) (Reply e s) u o = tt
apart_follows lanes workers n seen p q (Decision x d) (Decision x' d') u o = λ same. (let e = ap (λ k. front_of (seen k)) same in let a = o.1 in omega arith)

under_line : (config : Config) (lanes workers : ℕ) (h : List Entry) (seen : ℕ → List Change) (l : Line) → Replies config h lanes l × SawFrom (opening_table config) workers (λ k. []) seen l → Under (length h) workers seen l
under_line config lanes workers h seen (Reply e s) r = slice_get_within h s.count (entry_on (runs_on lanes e.lane) e) r.0.0
under_line config lanes workers h seen (Decision x d) r = (let a = front_grows r.1.list (seen (served_by workers x.port)) r.1.within in let b = r.1.front in omega arith)

-- no serial is below
serials_over : (n : ℕ) (ss : List Shown) → ((k : ℕ) → k < n → times k ss ≡ 0) → Each (λ s. n ≤ s.count) ss
serials_over n [] h = tt
serials_over n (s ∷ ss) h = (
  dite (dec_lt s.count n) (λ (less : s.count < n). (let z = h s.count less in let one = stands s ss in absurd (omega arith))) (λ (not : ¬ (s.count < n)). omega arith),
  serials_over n ss (λ k less. (let z = h k less in let a = more k s ss in omega arith)),
)
  where
    stands : (s : Shown) (ss : List Shown) → 1 ≤ times s.count (s ∷ ss)
    stands s ss = grind (arith, nat_tests)

    more : (k : ℕ) (s : Shown) (ss : List Shown) → times k ss ≤ times k (s ∷ ss)
    more k s ss = omega arith

over_lines : (n workers : ℕ) (first : Table) (least most : ℕ → List Change) (some : 0 < workers) (told : (k : ℕ) → k < workers → n ≤ front_of (least k)) (ls : List Line)
    → Each (λ s. n ≤ s.count) (said_in ls) → Each (SawFrom first workers least most) ls → Each (Over n workers least) ls
over_lines n workers first least most some told [] s w = tt
over_lines n workers first least most some told (Reply e x ∷ ls) s w = (s.0, over_lines n workers first least most some told ls s.1 w.1)
over_lines n workers first least most some told (Decision x d ∷ ls) s w = (
  (let a = front_grows (least ((x.port - 1) % workers)) w.0.list w.0.begins in let b = w.0.front in let t = told ((x.port - 1) % workers) (mod-lt (x.port - 1) some) in ((omega arith), (omega arith))),
  over_lines n workers first least most some told ls s w.1,
)

module _ (config : Config) (h h' : List Entry) (more : IsPrefix h h') where
  replies_stay : (lanes : ℕ) (l : Line) → Replies config h lanes l → Replies config h' lanes l
  replies_stay lanes (Reply e s) r =
      let inside = slice_get_within h s.count (entry_on (runs_on lanes e.lane) e) r.0 in (
        subst (λ z. slice_get z s.count ≡ Some (entry_on (runs_on lanes e.lane) e)) more.1 (get_more h more.0 s.count (entry_on (runs_on lanes e.lane) e) r.0),
        r.1 ∙ ap (λ g. reply_text config g (runs_on lanes e.lane) e s.count) (sym (ap (take s.count) (sym more.1) ∙ take-append-le s.count h more.0 (omega arith))),
      )
  replies_stay lanes (Decision x d) r = tt

saw_any : (first : Table) (workers : ℕ) (least most : ℕ → List Change) (l : Line) → SawFrom first workers least most l → SawFrom first workers (λ k. []) most l
saw_any first workers least most (Reply e s) w = tt
saw_any first workers least most (Decision x d) w = record { list = w.list; begins = (w.list, refl); within = w.within; front = w.front; text = w.text; forwards = w.forwards }

once_old : (n a c : ℕ) → n < a → once_below n a ≡ once_below n (a + c)
once_old n a c less = grind (arith, nat_tests)

once_new : (p a c : ℕ) → once_below (a + p) a + once_below p c ≡ once_below (a + p) (a + c)
once_new p a c = grind (arith, nat_tests)

-- one more phase
pub kept_more : (config : Config) (lanes workers : ℕ) (ps : List (List Record)) (p : List Record) (n : ℕ) (h h' : List Entry) (seen seen' : ℕ → List Change) (blocks : List Block) (ls : List Line) → 0 < workers
    → n ≡ 1 + records_in ps
    → Kept config lanes workers (places ps) h seen blocks → PhaseLines config lanes workers (length h) h' (numbered n p) seen seen' ls → IsPrefix h h'
    → ((k : ℕ) → k < workers → IsPrefix (seen k) (seen' k) × (length h' ≤ front_of (seen' k)))
    → Kept config lanes workers (places (ps ++ p ∷ [])) h' seen' (blocks ++ map (block (length ps)) ls)
kept_more config lanes workers ps p n h h' seen seen' blocks ls some at kept now more told =
    let m = length ps in
    let rs : List Numbered = numbered n p in
    let new : List Block = map (block m) ls in
    let first = opening_table config in
    let b = kept.ordered in
    let both : Each (λ (x : Block). Replies config h lanes x.line × SawFrom first workers (λ k. []) seen x.line) blocks = each_and (λ (x : Block). Replies config h lanes x.line) (λ (x : Block). SawFrom first workers (λ k. []) seen x.line) blocks b.replies kept.saw in
    let under : Each (λ (x : Block). Under (length h) workers seen x.line) blocks = each_widens (λ (x : Block). Replies config h lanes x.line × SawFrom first workers (λ k. []) seen x.line) (λ (x : Block). Under (length h) workers seen x.line) blocks (λ x. under_line config lanes workers h seen x.line) both in
    let over : Each (Over (length h) workers seen) ls = over_lines (length h) workers first seen seen' some kept.told ls (serials_over (length h) (said_in ls) now.none_before) now.saw in
    let cross : Each (λ (x : Block). Each (Later lanes workers x) new) blocks = each_widens (λ (x : Block). Under (length h) workers seen x.line) (λ (x : Block). Each (Later lanes workers x) new) blocks
    (λ x u. each_map (block m) (Later lanes workers x) ls (each_widens (Over (length h) workers seen) (λ l. Later lanes workers x (block m l)) ls (λ l o. apart_follows lanes workers (length h) seen x.phase m x.line l u o) over)) under in
    let said : said_in (lines_of (blocks ++ new)) ≡ said_in (lines_of blocks) ++ said_in ls = ap said_in (lines_both blocks m ls) ∙ said_both (lines_of blocks) ls in
    let count = now.count in
    let times_both : (i : ℕ) → times i (said_in (lines_of (blocks ++ new))) ≡ times i (said_in (lines_of blocks)) + times i (said_in ls) = λ i. ap (times i) said ∙ times_append i (said_in (lines_of blocks)) (said_in ls) in
    record {
      ordered = record {
        each = map_both place_of blocks new ∙ ((λ i. b.each i ++ placed m ls rs now.each i) ∙ sym (places_snoc 0 1 ps p ∙ (let q : 0 + m ≡ m = omega arith in λ i. places ps ++ map (place (q i)) (numbered (sym at i) p))));
        once = λ i.
            let a = times_both i in
            let old = b.once i in
            dite (dec_lt i (length h))
            (λ (less : i < length h). (let none = now.none_before i less in let o = once_old i (length h) (controls_in rs) less in let e = ap (once_below i) count in omega arith))
            (λ (not : ¬ (i < length h)).
            let k : ℕ = i - length h in
            let is : i ≡ length h + k = omega arith in
            let o = ap (λ z. times z (said_in ls)) is ∙ now.once k in
            let s = ap (λ z. once_below z (length h)) is in
            let t = once_new k (length h) (controls_in rs) in
            let e : once_below i (length h') ≡ once_below (length h + k) (length h + controls_in rs) = (λ j. once_below (is j) (count j)) in
            omega arith);
        order = order_both (Later lanes workers) blocks new b.order (order_map (block m) (Beside lanes workers) (Later lanes workers) ls (beside_follows lanes workers m) now.order) cross;
        replies = each_both (λ (x : Block). Replies config h' lanes x.line) blocks new
            (each_widens (λ (x : Block). Replies config h lanes x.line) (λ (x : Block). Replies config h' lanes x.line) blocks (λ x. replies_stay config h h' more lanes x.line) b.replies)
            (each_map (block m) (λ (x : Block). Replies config h' lanes x.line) ls now.replies);
      };
      saw = each_both (λ (x : Block). SawFrom first workers (λ k. []) seen' x.line) blocks new
          (each_widens (λ (x : Block). SawFrom first workers (λ k. []) seen x.line) (λ (x : Block). SawFrom first workers (λ k. []) seen' x.line) blocks (λ x. saw_stays first workers (λ k. []) seen seen' some (λ k l. (told k l).0) x.line) kept.saw)
          (each_map (block m) (λ (x : Block). SawFrom first workers (λ k. []) seen' x.line) ls (each_widens (SawFrom first workers seen seen') (SawFrom first workers (λ k. []) seen') ls (saw_any first workers seen seen') now.saw));
      told = λ k l. (told k l).1;
    }

-- nothing is printed yet
pub kept_none : (config : Config) (lanes workers : ℕ) (h : List Entry) (seen : ℕ → List Change) → h ≡ [] → Kept config lanes workers [] h seen []
kept_none config lanes workers h seen none = record {
  ordered = record { each = refl; once = λ n. (let q : 0 ≡ once_below n 0 = nil n in q ∙ ap (λ z. once_below n (length z)) (sym none)); order = tt; replies = tt };
  saw = tt;
  told = λ k l. (let a = ap length none in omega arith);
}
  where
    nil : (n : ℕ) → 0 ≡ once_below n 0
    nil n = grind (arith, nat_tests)

-- a phase more was printed
pub stands_more : (r : Run) (next : Run) (ps : List (List Record)) (p : List Record) (was : List ℕ) (ls : List Line) → 0 < r.workers → next.config ≡ r.config → next.lanes ≡ r.lanes → next.workers ≡ r.workers
    → next.number ≡ r.number + length p → next.forwarded ≡ r.forwarded + forwarded_in ls → PhaseLines r.config r.lanes r.workers (length r.history) next.history (numbered r.number p) (at_worker r.seen) (at_worker next.seen) ls → IsPrefix r.history next.history
    → ((k : ℕ) → k < r.workers → IsPrefix (at_worker r.seen k) (at_worker next.seen k) × (length next.history ≤ front_of (at_worker next.seen k)))
    → Stands r ps was → Stands next (ps ++ p ∷ []) (was ++ text_of ls)
stands_more r next ps p was ls some config lanes workers number forwarded now more told s =
    let new : List Block = s.blocks ++ map (block (length ps)) ls in
    let kept = kept_more r.config r.lanes r.workers ps p r.number r.history next.history (at_worker r.seen) (at_worker next.seen) s.blocks ls some s.number s.kept now more told in
    record {
      number = (let a = s.number in let b = records_snoc ps p in omega arith);
      blocks = new;
      kept = subst (λ (z : Config × ℕ × ℕ). Kept z.0 z.1 z.2 (places (ps ++ p ∷ [])) next.history (at_worker next.seen) new) (λ i. (sym config i, sym lanes i, sym workers i)) kept;
      printed = (λ i. s.printed i ++ text_of ls) ∙ sym (ap text_of (lines_both s.blocks (length ps) ls) ∙ text_both (lines_of s.blocks) ls);
      forwarded = (let a = s.forwarded in let b = ap forwarded_in (lines_both s.blocks (length ps) ls) ∙ forwarded_both (lines_of s.blocks) ls in omega arith);
    }

pub stands_none : (r : Run) → r.number ≡ 1 → r.history ≡ [] → r.forwarded ≡ 0 → Stands r [] []
stands_none r number none forwarded = record {
  number = (let a = number in omega arith);
  blocks = [];
  kept = kept_none r.config r.lanes r.workers r.history (at_worker r.seen) none;
  printed = refl;
  forwarded = forwarded;
}

-- What lanes and workers printed in a phase, line by line.
use Rattle.std.proofs.Common.{◌≡◌, ℕ, zero, suc, ◌+◌, ◌-◌, ◌%◌, ◌<◌, ◌≤◌, ◌==◌, mod-lt, nat_lt, Bool, true, false, List, [], ◌∷◌, ◌++◌, map, length, slice_index_or, if◌then◌else◌, refl, ap, sym, ◌∙◌, subst, length-append, arith}
use Rattle.std.proofs.lemmas.Bool.Decides.{nat_tests}
use mathlib.Core.Logic.{dite}
use native.Mathlib.Decide.{dec_lt}
use Rattle.book_lock.specs.Sums.{total, Each, lanes_up}
use Rattle.book_lock.specs.Places.{once_below}
use Rattle.race_lanes.proofs.Turning.{length_map, total_map}
use Rattle.race_lanes.proofs.Printed.{total_same, total_plus, each_true}
use Rattle.race_lanes.proofs.Merging.{same_next, same_number}
use Rattle.switch_event.specs.Config.{Config}
use Rattle.event_record.specs.Entry.{Entry}
use Rattle.table_defs.specs.Table.{Table, Change}
use Rattle.legal_defs.specs.Runs.{ControlRecord, DataRecord, Numbered, runs_on, served_by, controls_in}
use Rattle.legal_defs.specs.Blocks.{Shown, Line, record_of, said_of, said_in}
use Rattle.legal_defs.specs.Blocks.Line.{Reply, Decision}
use Rattle.legal_defs.specs.Legal.{times, InOrder, Replies}
use Rattle.race_lanes.specs.declared.lanes.LaneOut.{LaneOut}
use Rattle.race_lanes.specs.declared.workers.WorkerJob.{WorkerJob}
use Rattle.race_lanes.specs.Shares.{controls_of, datas_of, said_for, said_on, heard_on}
use Rattle.race_lanes.specs.InPhase.{Pairs, Rises, NoFall, counts, Replied, LaneOk, PhaseOk}
use Rattle.race_lanes.specs.Workers.{Saw, Hears}
use Rattle.race_lanes.specs.Lines.{AreWhole, Merged, SawFrom, Beside}

-- an item that is there or not
pairs_rest : {A B : Type 0} (R : A → B → Type 0) (b : Bool) (x : A) (xs : List A) (y : B) (ys : List B) → Pairs R ((if b then x ∷ [] else []) ++ xs) ((if b then y ∷ [] else []) ++ ys) → Pairs R xs ys
pairs_rest R true x xs y ys p = p.1
pairs_rest R false x xs y ys p = p

pairs_head : {A B : Type 0} (R : A → B → Type 0) (b : Bool) (x : A) (xs : List A) (y : B) (ys : List B) → b ≡ true → Pairs R ((if b then x ∷ [] else []) ++ xs) ((if b then y ∷ [] else []) ++ ys) → R x y
pairs_head R true x xs y ys e p = p.0
pairs_head R false x xs y ys e p = absurd cc

each_serial_head : (P : ℕ → Type 0) (b : Bool) (s : Shown) (ss : List Shown) → b ≡ true → Each P (counts ((if b then s ∷ [] else []) ++ ss)) → P s.count
each_serial_head P true s ss e p = p.0
each_serial_head P false s ss e p = absurd cc

each_serial_rest : (P : ℕ → Type 0) (b : Bool) (s : Shown) (ss : List Shown) → Each P (counts ((if b then s ∷ [] else []) ++ ss)) → Each P (counts ss)
each_serial_rest P true s ss p = p.1
each_serial_rest P false s ss p = p

rises_head : (b : Bool) (s : Shown) (ss : List Shown) → b ≡ true → Rises (counts ((if b then s ∷ [] else []) ++ ss)) → Each (λ m. s.count < m) (counts ss)
rises_head true s ss e p = p.0
rises_head false s ss e p = absurd cc

rises_rest : (b : Bool) (s : Shown) (ss : List Shown) → Rises (counts ((if b then s ∷ [] else []) ++ ss)) → Rises (counts ss)
rises_rest true s ss p = p.1
rises_rest false s ss p = p

each_front_head : (P : ℕ → Type 0) (b : Bool) (d : Shown) (ds : List Shown) → b ≡ true → Each P (counts ((if b then d ∷ [] else []) ++ ds)) → P d.count
each_front_head P true d ds e p = p.0
each_front_head P false d ds e p = absurd cc

each_front_rest : (P : ℕ → Type 0) (b : Bool) (d : Shown) (ds : List Shown) → Each P (counts ((if b then d ∷ [] else []) ++ ds)) → Each P (counts ds)
each_front_rest P true d ds p = p.1
each_front_rest P false d ds p = p

fall_head : (b : Bool) (d : Shown) (ds : List Shown) → b ≡ true → NoFall (counts ((if b then d ∷ [] else []) ++ ds)) → Each (λ m. d.count ≤ m) (counts ds)
fall_head true d ds e p = p.0
fall_head false d ds e p = absurd cc

fall_rest : (b : Bool) (d : Shown) (ds : List Shown) → NoFall (counts ((if b then d ∷ [] else []) ++ ds)) → NoFall (counts ds)
fall_rest true d ds p = p.1
fall_rest false d ds p = p

module _ (lanes : ℕ) (above : 0 < lanes) where
  pub replies_all : (config : Config) (h : List Entry) (ls : List Line) → ((l : ℕ) → l < lanes → Pairs (Replied config h (suc l)) (controls_of lanes (suc l) (map record_of ls)) (said_on lanes (suc l) ls)) → Each (Replies config h lanes) ls
  replies_all config h [] p = tt
  replies_all config h (Reply e s ∷ ls) p =
      let is : suc ((e.lane - 1) % lanes) ≡ runs_on lanes e.lane = omega arith in (
        subst (λ l. Replied config h l e s) is (pairs_head (Replied config h (suc ((e.lane - 1) % lanes))) (runs_on lanes e.lane == suc ((e.lane - 1) % lanes)) e _ s _ (same_next ((e.lane - 1) % lanes) ((e.lane - 1) % lanes) refl) (p ((e.lane - 1) % lanes) (mod-lt (e.lane - 1) above))),
        replies_all config h ls (λ l inn. pairs_rest (Replied config h (suc l)) (runs_on lanes e.lane == suc l) e (controls_of lanes (suc l) (map record_of ls)) s (said_on lanes (suc l) ls) (p l inn)),
      )
  replies_all config h (Decision x d ∷ ls) p = (tt, replies_all config h ls p)

  -- a lane's later counts
  beside_lane : (workers : ℕ) (e : ControlRecord) (s : Shown) (l : ℕ) → runs_on lanes e.lane ≡ l → (ls : List Line) → Each (λ m. s.count < m) (counts (said_on lanes l ls)) → Each (Beside lanes workers (Reply e s)) ls
  beside_lane workers e s l is [] p = tt
  beside_lane workers e s l is (Reply e' s' ∷ ls) p = (
    (λ same. each_serial_head (λ m. s.count < m) (runs_on lanes e'.lane == l) s' (said_on lanes l ls) (same_number (runs_on lanes e'.lane) l (sym is ∙ same)) p),
    beside_lane workers e s l is ls (each_serial_rest (λ m. s.count < m) (runs_on lanes e'.lane == l) s' (said_on lanes l ls) p),
  )
  beside_lane workers e s l is (Decision x d ∷ ls) p = (tt, beside_lane workers e s l is ls p)

  module _ (workers : ℕ) (some : 0 < workers) where
    beside_worker : (x : DataRecord) (d : Shown) (k : ℕ) → served_by workers x.port ≡ k → (ls : List Line) → Each (λ m. d.count ≤ m) (counts (heard_on workers k ls)) → Each (Beside lanes workers (Decision x d)) ls
    beside_worker x d k is [] p = tt
    beside_worker x d k is (Reply e s ∷ ls) p = (tt, beside_worker x d k is ls p)
    beside_worker x d k is (Decision x' d' ∷ ls) p = (
      (λ same. each_front_head (λ m. d.count ≤ m) (served_by workers x'.port == k) d' (heard_on workers k ls) (same_number (served_by workers x'.port) k (sym is ∙ same)) p),
      beside_worker x d k is ls (each_front_rest (λ m. d.count ≤ m) (served_by workers x'.port == k) d' (heard_on workers k ls) p),
    )

    pub order_all : (ls : List Line) → ((l : ℕ) → l < lanes → Rises (counts (said_on lanes (suc l) ls))) → ((k : ℕ) → k < workers → NoFall (counts (heard_on workers k ls))) → InOrder (Beside lanes workers) ls
    order_all [] p q = tt
    order_all (Reply e s ∷ ls) p q =
        let is : runs_on lanes e.lane ≡ suc ((e.lane - 1) % lanes) = omega arith in (
          beside_lane workers e s (suc ((e.lane - 1) % lanes)) is ls (rises_head (runs_on lanes e.lane == suc ((e.lane - 1) % lanes)) s (said_on lanes (suc ((e.lane - 1) % lanes)) ls) (same_next ((e.lane - 1) % lanes) ((e.lane - 1) % lanes) refl) (p ((e.lane - 1) % lanes) (mod-lt (e.lane - 1) above))),
          order_all ls (λ l inn. rises_rest (runs_on lanes e.lane == suc l) s (said_on lanes (suc l) ls) (p l inn)) q,
        )
    order_all (Decision x d ∷ ls) p q = (
      beside_worker x d ((x.port - 1) % workers) refl ls (fall_head (served_by workers x.port == (x.port - 1) % workers) d (heard_on workers ((x.port - 1) % workers) ls) (same_number ((x.port - 1) % workers) ((x.port - 1) % workers) refl) (q ((x.port - 1) % workers) (mod-lt (x.port - 1) some))),
      order_all ls p (λ k inn. fall_rest (served_by workers x.port == k) d (heard_on workers k ls) (q k inn)),
    )

    pub saw_all : (first : Table) (least most : ℕ → List Change) (ls : List Line) → ((k : ℕ) → k < workers → Pairs (Saw first (least k) (most k)) (datas_of workers k (map record_of ls)) (heard_on workers k ls)) → Each (SawFrom first workers least most) ls
    saw_all first least most [] p = tt
    saw_all first least most (Reply e s ∷ ls) p = (tt, saw_all first least most ls p)
    saw_all first least most (Decision x d ∷ ls) p = (
      pairs_head (Saw first (least ((x.port - 1) % workers)) (most ((x.port - 1) % workers))) (served_by workers x.port == (x.port - 1) % workers) x _ d _ (same_number ((x.port - 1) % workers) ((x.port - 1) % workers) refl) (p ((x.port - 1) % workers) (mod-lt (x.port - 1) some)),
      saw_all first least most ls (λ k inn. pairs_rest (Saw first (least k) (most k)) (served_by workers x.port == k) x (datas_of workers k (map record_of ls)) d (heard_on workers k ls) (p k inn)),
    )

-- each serial stands on its lane
pub times_append : (n : ℕ) (xs ys : List Shown) → times n (xs ++ ys) ≡ times n xs + times n ys
times_append n [] ys = omega arith
times_append n (x ∷ xs) ys = let h = times_append n xs ys in omega arith

total_snoc : {A : Type 0} (f : A → ℕ) (xs : List A) (a : A) → total f (xs ++ a ∷ []) ≡ total f xs + f a
total_snoc f [] a = omega arith
total_snoc f (x ∷ xs) a = let h = total_snoc f xs a in omega arith

share_next : (c b n : ℕ) → (if nat_lt b n then c else 0) + (if suc b == suc n then c else 0) ≡ (if nat_lt b (suc n) then c else 0)
share_next c b n = grind (arith, nat_tests)

share : (c b n : ℕ) → total (λ l. if suc b == l then c else 0) (lanes_up n) ≡ (if nat_lt b n then c else 0)
share c b zero = let q : (if nat_lt b 0 then c else 0) ≡ 0 = grind (arith, nat_tests) in sym q
share c b (suc n) =
    let a = total_snoc (λ l. if suc b == l then c else 0) (lanes_up n) (suc n) in
    let h = share c b n in
    let s = share_next c b n in
    omega arith

share_below : (c b n : ℕ) → b < n → (if nat_lt b n then c else 0) ≡ c
share_below c b n l = grind (arith, nat_tests)

times_if : (n : ℕ) (b : Bool) (s : Shown) → times n (if b then s ∷ [] else []) ≡ (if b then times n (s ∷ []) else 0)
times_if n true s = refl
times_if n false s = refl

nothing_said : (xs : List ℕ) → total (λ l. 0) xs ≡ 0
nothing_said [] = refl
nothing_said (x ∷ xs) = let h = nothing_said xs in omega arith

one_line : (n lanes : ℕ) (x : Line) → 0 < lanes → total (λ l. times n (said_for lanes l x)) (lanes_up lanes) ≡ times n (said_of x)
one_line n lanes (Reply e s) above =
    let is : runs_on lanes e.lane ≡ suc ((e.lane - 1) % lanes) = omega arith in
    total_same (λ l. times n (said_for lanes l (Reply e s))) (λ l. if suc ((e.lane - 1) % lanes) == l then times n (s ∷ []) else 0) (lanes_up lanes)
    (each_true (λ l. times n (said_for lanes l (Reply e s)) ≡ (if suc ((e.lane - 1) % lanes) == l then times n (s ∷ []) else 0)) (lanes_up lanes) (λ l. times_if n (runs_on lanes e.lane == l) s ∙ ap (λ z. if z == l then times n (s ∷ []) else 0) is))
    ∙ (share (times n (s ∷ [])) ((e.lane - 1) % lanes) lanes ∙ share_below (times n (s ∷ [])) ((e.lane - 1) % lanes) lanes (mod-lt (e.lane - 1) above))
one_line n lanes (Decision x d) above = nothing_said (lanes_up lanes)

pub times_all : (n lanes : ℕ) (ls : List Line) → 0 < lanes → times n (said_in ls) ≡ total (λ l. times n (said_on lanes l ls)) (lanes_up lanes)
times_all n lanes [] above = sym (nothing_said (lanes_up lanes))
times_all n lanes (x ∷ ls) above =
    let a = total_same (λ l. times n (said_for lanes l x ++ said_on lanes l ls)) (λ l. times n (said_for lanes l x) + times n (said_on lanes l ls)) (lanes_up lanes) (each_true (λ l. times n (said_for lanes l x ++ said_on lanes l ls) ≡ times n (said_for lanes l x) + times n (said_on lanes l ls)) (lanes_up lanes) (λ l. times_append n (said_for lanes l x) (said_on lanes l ls))) in
    let b = total_plus (λ l. times n (said_for lanes l x)) (λ l. times n (said_on lanes l ls)) (lanes_up lanes) in
    let c = one_line n lanes x above in
    let h = times_all n lanes ls above in
    let d = times_append n (said_of x) (said_in ls) in
    omega arith

-- one of several
pub each_at : {A : Type 0} (P : A → Type 0) (xs : List A) (l : ℕ) → Each P xs → l < length xs → (x : A) × P x × ((d : A) → slice_index_or xs l d ≡ x)
each_at P [] l p inn = absurd (omega arith)
each_at P (x ∷ xs) zero p inn = (x, p.0, λ d. refl)
each_at P (x ∷ xs) (suc l) p inn = each_at P xs l p.1 (omega arith)

map_at : {A B : Type 0} (f : A → B) (xs : List A) (l : ℕ) (x : A) (e : B) → l < length xs → ((d : A) → slice_index_or xs l d ≡ x) → slice_index_or (map f xs) l e ≡ f x
map_at f [] l x e inn is = absurd (omega arith)
map_at f (y ∷ xs) zero x e inn is = ap f (is x)
map_at f (y ∷ xs) (suc l) x e inn is = map_at f xs l x e (omega arith) is

at_front : {A : Type 0} (xs ys : List A) (l : ℕ) (e : A) → l < length xs → slice_index_or (xs ++ ys) l e ≡ slice_index_or xs l e
at_front [] ys l e inn = absurd (omega arith)
at_front (x ∷ xs) ys zero e inn = refl
at_front (x ∷ xs) ys (suc l) e inn = at_front xs ys l e (omega arith)

at_end : {A : Type 0} (xs : List A) (a e : A) → slice_index_or (xs ++ a ∷ []) (length xs) e ≡ a
at_end [] a e = refl
at_end (x ∷ xs) a e = at_end xs a e

pub lanes_many : (n : ℕ) → length (lanes_up n) ≡ n
lanes_many zero = refl
lanes_many (suc n) = let a = length-append (lanes_up n) (suc n ∷ []) in let h = lanes_many n in omega arith

lane_number : (n l e : ℕ) → l < n → slice_index_or (lanes_up n) l e ≡ suc l
lane_number zero l e inn = absurd (omega arith)
lane_number (suc n) l e inn =
    let many = lanes_many n in
    dite (dec_lt l n)
    (λ (less : l < n). at_front (lanes_up n) (suc n ∷ []) l e (omega arith) ∙ lane_number n l e less)
    (λ (not : ¬ (l < n)). (let last : l ≡ n = omega arith in ap (λ z. slice_index_or (lanes_up n ++ suc n ∷ []) z e) (last ∙ sym many) ∙ (at_end (lanes_up n) (suc n) e ∙ ap suc (sym last))))

pub pairs_many : {A B : Type 0} (R : A → B → Type 0) (xs : List A) (ys : List B) → Pairs R xs ys → length ys ≡ length xs
pairs_many R [] [] p = refl
pairs_many R [] (y ∷ ys) p = absurd p
pairs_many R (x ∷ xs) [] p = absurd p
pairs_many R (x ∷ xs) (y ∷ ys) p = ap suc (pairs_many R xs ys p.1)

module _ (config : Config) (h : List Entry) (from lanes : ℕ) (records : List Numbered) (outs : List LaneOut) (k : PhaseOk config h from lanes records outs) where
  pub lanes_out : length outs ≡ lanes
  lanes_out = sym (length_map (λ (o : LaneOut). o.lane) outs) ∙ (ap length k.lane_numbers ∙ lanes_many lanes)

  -- what this lane printed
  pub lane_out : (l : ℕ) → l < lanes → (o : LaneOut) × LaneOk config h lanes records o × (o.lane ≡ suc l) × ((d : LaneOut) → slice_index_or outs l d ≡ o)
  lane_out l inn =
      let many = lanes_out in
      let inside : l < length outs = omega arith in
      let got = each_at (LaneOk config h lanes records) outs l k.each inside in
      let number = sym (map_at (λ (o : LaneOut). o.lane) outs l got.0 0 inside got.2) ∙ (ap (λ z. slice_index_or z l 0) k.lane_numbers ∙ lane_number lanes l 0 inn) in
      (got.0, got.1, number, got.2)

  pub are_whole : (workers : ℕ) (jobs : List WorkerJob) → length jobs ≡ workers → ((i : ℕ) (d : WorkerJob) → i < workers → length (slice_index_or jobs i d).decided ≡ length (datas_of workers i records)) → AreWhole lanes workers records outs jobs
  are_whole workers jobs many heard = record {
    lane_count = lanes_out;
    worker_count = many;
    said = λ l d inn.
        let o = lane_out l inn in
        ap (λ (z : LaneOut). length z.said) (o.3 d) ∙ (pairs_many (Replied config h o.0.lane) (controls_of lanes o.0.lane records) o.0.said o.1.0 ∙ ap (λ n. length (controls_of lanes n records)) o.2);
    heard = heard;
  }

  module _ (workers : ℕ) (jobs : List WorkerJob) (ls : List Line) (m : Merged lanes workers records outs jobs ls) (above : 0 < lanes) (some : 0 < workers) where
    said_is : (l : ℕ) → l < lanes → (o : LaneOut) × LaneOk config h lanes records o × (o.lane ≡ suc l) × (said_on lanes (suc l) ls ≡ o.said)
    said_is l inn = let o = lane_out l inn in (o.0, o.1, o.2, m.said l o.0 inn ∙ ap (λ (z : LaneOut). z.said) (o.3 o.0))

    said_outs : (before : ℕ) (xs : List LaneOut) (n : ℕ) → ((l : ℕ) (d : LaneOut) → l < length xs → times n (said_on lanes (slice_index_or xs l d).lane ls) ≡ times n (slice_index_or xs l d).said)
        → total (λ (o : LaneOut). times n (said_on lanes o.lane ls)) xs ≡ total (λ (o : LaneOut). times n o.said) xs
    said_outs before [] n f = refl
    said_outs before (x ∷ xs) n f = let a = f 0 x (omega arith) in let b = said_outs before xs n (λ l d inn. f (suc l) d (omega arith)) in omega arith

    said_times : (n : ℕ) → times n (said_in ls) ≡ total (λ (o : LaneOut). times n o.said) outs
    said_times n =
        times_all n lanes ls above
        ∙ (ap (total (λ l. times n (said_on lanes l ls))) (sym k.lane_numbers)
        ∙ (total_map (λ (o : LaneOut). o.lane) (λ l. times n (said_on lanes l ls)) outs
        ∙ said_outs 0 outs n (λ l d inn.
        let inside : l < lanes = (let q = lanes_out in omega arith) in
        let o = lane_out l inside in
        let lane_is : (slice_index_or outs l d).lane ≡ suc l = ap (λ (z : LaneOut). z.lane) (o.3 d) ∙ o.2 in
        ap (λ z. times n (said_on lanes z ls)) lane_is ∙ ap (times n) (m.said l d inside))))

    pub phase_lines : (least most : ℕ → List Change) (first : Table) → length h ≡ from + controls_in records
        → ((i : ℕ) → i < workers → Hears first (least i) (most i) (datas_of workers i records) (heard_on workers i ls))
        → Each (Replies config h lanes) ls × Each (SawFrom first workers least most) ls × InOrder (Beside lanes workers) ls
        × ((p : ℕ) → times (from + p) (said_in ls) ≡ once_below p (controls_in records)) × ((n : ℕ) → n < from → times n (said_in ls) ≡ 0)
    phase_lines least most first count hears = (
      replies_all lanes above config h ls (λ l inn.
          let o = said_is l inn in
          let p : Pairs (Replied config h (suc l)) (controls_of lanes (suc l) records) o.0.said = subst (λ n. Pairs (Replied config h n) (controls_of lanes n records) o.0.said) o.2 o.1.0 in
          subst (λ (z : List Numbered × List Shown). Pairs (Replied config h (suc l)) (controls_of lanes (suc l) z.0) z.1) (λ i. (sym m.each i, sym o.3 i)) p),
      saw_all lanes above workers some first least most ls (λ i inn. subst (λ (z : List Numbered). Pairs (Saw first (least i) (most i)) (datas_of workers i z) (heard_on workers i ls)) (sym m.each) (hears i inn).0),
      order_all lanes above workers some ls (λ l inn. let o = said_is l inn in subst (λ z. Rises (counts z)) (sym o.3) o.1.1) (λ i inn. (hears i inn).1),
      (λ p. said_times (from + p) ∙ k.once p),
      (λ n less. said_times n ∙ k.none_before n less),
    )

-- Lines in the order of records, one record further.
use Rattle.std.proofs.Common.{◌≡◌, ℕ, zero, suc, ◌+◌, ◌-◌, ◌%◌, ◌<◌, ◌≤◌, ◌==◌, true, false, List, [], ◌∷◌, ◌++◌, length, replicate, length-set, length-append, take, slice_get, slice_set, slice_index_or, Some, refl, ap, sym, ◌∙◌, subst, append_assoc, append-nil, arith, if◌then◌else◌}
use Rattle.std.proofs.lemmas.Bool.Decides.{nat_tests}
use native.Mathlib.Decide.{ℕ_discrete}
use Rattle.race_lanes.proofs.Speaking.{take_zero, take_more, controls_more, not_control, here, elsewhere}
use Rattle.race_lanes.proofs.Hearing.{datas_more, not_data, own, another}
use Rattle.race_lanes.proofs.Turning.{map_snoc}
use Rattle.legal_defs.specs.Runs.{ControlRecord, DataRecord, Numbered, runs_on, served_by}
use Rattle.legal_defs.specs.Runs.Numbered.{Control, Data}
use Rattle.legal_defs.specs.Blocks.{Shown, Line, record_of, shown_in, text_of, forwarded_in}
use Rattle.legal_defs.specs.Blocks.Line.{Reply, Decision}
use Rattle.race_lanes.specs.declared.lanes.LaneOut.{LaneOut}
use Rattle.race_lanes.specs.declared.workers.WorkerJob.{WorkerJob}
use Rattle.race_lanes.specs.Shares.{control_for, controls_of, data_for, datas_of, said_for, said_on, heard_for, heard_on}
use Rattle.race_lanes.specs.Lines.{Walked, AreWhole, Merged}

pub set_same : {A : Type 0} (xs : List A) (n : ℕ) (v d : A) → n < length xs → slice_index_or (slice_set xs n v) n d ≡ v
set_same [] n v d l = absurd (omega arith)
set_same (x ∷ xs) zero v d l = refl
set_same (x ∷ xs) (suc n) v d l = set_same xs n v d (omega arith)

pub set_other : {A : Type 0} (xs : List A) (n k : ℕ) (v d : A) → (k ≡ n → ⊥) → slice_index_or (slice_set xs n v) k d ≡ slice_index_or xs k d
set_other [] n k v d apart = refl
set_other (x ∷ xs) zero zero v d apart = absurd (apart refl)
set_other (x ∷ xs) zero (suc k) v d apart = refl
set_other (x ∷ xs) (suc n) zero v d apart = refl
set_other (x ∷ xs) (suc n) (suc k) v d apart = set_other xs n k v d (λ e. apart (ap suc e))

pub same_next : (a l : ℕ) → l ≡ a → (a + 1 == suc l) ≡ true
same_next a l e = grind (arith, nat_tests)

pub other_next : (a l : ℕ) → (l ≡ a → ⊥) → (a + 1 == suc l) ≡ false
other_next a l e = grind (arith, nat_tests)

pub same_number : (a l : ℕ) → l ≡ a → (a == l) ≡ true
same_number a l e = grind (arith, nat_tests)

pub other_number : (a l : ℕ) → (l ≡ a → ⊥) → (a == l) ≡ false
other_number a l e = grind (arith, nat_tests)

-- one more item, or none
mine : {T : Type 0} (a a' src : List T) (n n' : ℕ) (x : T) → a' ≡ a ++ x ∷ [] → n' ≡ n + 1 → a ≡ take n src → slice_get src n ≡ Some x → a' ≡ take n' src
mine a a' src n n' x is more before at =
    let next : n' ≡ suc n = omega arith in
    is ∙ (ap (λ l. l ++ x ∷ []) before ∙ (sym (take_more src n x at) ∙ ap (λ k. take k src) (sym next)))

none : {T : Type 0} (a a' src : List T) (n n' : ℕ) → a' ≡ a ++ [] → n' ≡ n → a ≡ take n src → a' ≡ take n' src
none a a' src n n' is same before = is ∙ (append-nil a ∙ (before ∙ ap (λ k. take k src) (sym same)))

said_more : (lanes l : ℕ) (xs : List Line) (x : Line) → said_on lanes l (xs ++ x ∷ []) ≡ said_on lanes l xs ++ said_for lanes l x
said_more lanes l [] x = append-nil (said_for lanes l x)
said_more lanes l (y ∷ xs) x = ap (λ z. said_for lanes l y ++ z) (said_more lanes l xs x) ∙ sym (append_assoc (said_for lanes l y) (said_on lanes l xs) (said_for lanes l x))

heard_more : (workers k : ℕ) (xs : List Line) (x : Line) → heard_on workers k (xs ++ x ∷ []) ≡ heard_on workers k xs ++ heard_for workers k x
heard_more workers k [] x = append-nil (heard_for workers k x)
heard_more workers k (y ∷ xs) x = ap (λ z. heard_for workers k y ++ z) (heard_more workers k xs x) ∙ sym (append_assoc (heard_for workers k y) (heard_on workers k xs) (heard_for workers k x))

lane_count_more : (lanes l : ℕ) (done : List Numbered) (r : Numbered) (more : List ControlRecord) → control_for lanes l r ≡ more → length (controls_of lanes l (done ++ r ∷ [])) ≡ length (controls_of lanes l done) + length more
lane_count_more lanes l done r more is = ap length (controls_more lanes l done r) ∙ (length-append (controls_of lanes l done) (control_for lanes l r) ∙ ap (λ (z : List ControlRecord). length (controls_of lanes l done) + length z) is)

worker_count_more : (workers k : ℕ) (done : List Numbered) (r : Numbered) (more : List DataRecord) → data_for workers k r ≡ more → length (datas_of workers k (done ++ r ∷ [])) ≡ length (datas_of workers k done) + length more
worker_count_more workers k done r more is = ap length (datas_more workers k done r) ∙ (length-append (datas_of workers k done) (data_for workers k r) ∙ ap (λ (z : List DataRecord). length (datas_of workers k done) + length z) is)

said_if : (lanes l : ℕ) (e : ControlRecord) (s : Shown) → (runs_on lanes e.lane == l) ≡ true → said_for lanes l (Reply e s) ≡ s ∷ []
said_if lanes l e s is = ap (λ b. if b then s ∷ [] else []) is

said_not : (lanes l : ℕ) (e : ControlRecord) (s : Shown) → (runs_on lanes e.lane == l) ≡ false → said_for lanes l (Reply e s) ≡ []
said_not lanes l e s is = ap (λ b. if b then s ∷ [] else []) is

heard_if : (workers k : ℕ) (x : DataRecord) (d : Shown) → (served_by workers x.port == k) ≡ true → heard_for workers k (Decision x d) ≡ d ∷ []
heard_if workers k x d is = ap (λ b. if b then d ∷ [] else []) is

heard_not : (workers k : ℕ) (x : DataRecord) (d : Shown) → (served_by workers x.port == k) ≡ false → heard_for workers k (Decision x d) ≡ []
heard_not workers k x d is = ap (λ b. if b then d ∷ [] else []) is

module _ (lanes workers : ℕ) (outs : List LaneOut) (jobs : List WorkerJob) (done : List Numbered) (r : Numbered) (lane_next worker_next : List ℕ) (lines : List Line)
    (w : Walked lanes workers outs jobs done lane_next worker_next lines) where
  module _ (e : ControlRecord) (s : Shown) (l0 : ℕ) (lane_next' : List ℕ) (is : r ≡ Control e) (turn : l0 ≡ (e.lane - 1) % lanes) (inside : l0 < lanes)
      (next : lane_next' ≡ slice_set lane_next l0 (slice_index_or lane_next l0 0 + 1))
      (at : (d : LaneOut) → slice_get (slice_index_or outs l0 d).said (slice_index_or lane_next l0 0) ≡ Some s) where
    lane_step : (l : ℕ) → l < lanes → Dec (l ≡ l0) → slice_index_or lane_next' l 0 ≡ length (controls_of lanes (suc l) (done ++ r ∷ []))
    lane_step l inn (yes same) =
        let c = lane_count_more lanes (suc l) done r (e ∷ []) (here lanes (suc l) e r is (same_next ((e.lane - 1) % lanes) l (same ∙ turn))) in
        let v = slice_index_or lane_next l0 0 + 1 in
        let a = ap (λ z. slice_index_or z l 0) next ∙ (ap (λ z. slice_index_or (slice_set lane_next l0 v) z 0) same ∙ set_same lane_next l0 v 0 (let q = w.lane_count in omega arith)) in
        let b = w.lane_at l0 inside ∙ ap (λ z. length (controls_of lanes (suc z) done)) (sym same) in
        omega arith
    lane_step l inn (no apart) =
        let c = lane_count_more lanes (suc l) done r [] (elsewhere lanes (suc l) e r is (other_next ((e.lane - 1) % lanes) l (λ q. apart (q ∙ sym turn)))) in
        let a = ap (λ z. slice_index_or z l 0) next ∙ set_other lane_next l0 l (slice_index_or lane_next l0 0 + 1) 0 apart in
        let b = w.lane_at l inn in
        omega arith

    said_step : (l : ℕ) (d : LaneOut) → l < lanes → Dec (l ≡ l0) → said_on lanes (suc l) (lines ++ Reply e s ∷ []) ≡ take (length (controls_of lanes (suc l) (done ++ r ∷ []))) (slice_index_or outs l d).said
    said_step l d inn (yes same) =
        let on = same_next ((e.lane - 1) % lanes) l (same ∙ turn) in
        mine (said_on lanes (suc l) lines) _ (slice_index_or outs l d).said (length (controls_of lanes (suc l) done)) _ s
        (said_more lanes (suc l) lines (Reply e s) ∙ ap (λ z. said_on lanes (suc l) lines ++ z) (said_if lanes (suc l) e s on))
        (lane_count_more lanes (suc l) done r (e ∷ []) (here lanes (suc l) e r is on))
        (w.said l d inn)
        (subst (λ (z : ℕ × ℕ). slice_get (slice_index_or outs z.0 d).said z.1 ≡ Some s) (λ i. (sym same i, (w.lane_at l0 inside ∙ ap (λ z. length (controls_of lanes (suc z) done)) (sym same)) i)) (at d))
    said_step l d inn (no apart) =
        let off = other_next ((e.lane - 1) % lanes) l (λ q. apart (q ∙ sym turn)) in
        none (said_on lanes (suc l) lines) _ (slice_index_or outs l d).said (length (controls_of lanes (suc l) done)) _
        (said_more lanes (suc l) lines (Reply e s) ∙ ap (λ z. said_on lanes (suc l) lines ++ z) (said_not lanes (suc l) e s off))
        (let c = lane_count_more lanes (suc l) done r [] (elsewhere lanes (suc l) e r is off) in omega arith)
        (w.said l d inn)

    pub walked_reply : Walked lanes workers outs jobs (done ++ r ∷ []) lane_next' worker_next (lines ++ Reply e s ∷ [])
    walked_reply = record {
      lane_count = ap length next ∙ (length-set lane_next l0 (slice_index_or lane_next l0 0 + 1) ∙ w.lane_count);
      worker_count = w.worker_count;
      each = map_snoc record_of lines (Reply e s) ∙ (λ i. w.each i ++ sym is i ∷ []);
      lane_at = λ l inn. lane_step l inn (ℕ_discrete l l0);
      worker_at = λ k inn. (let c = worker_count_more workers k done r [] (not_data workers k e r is) in let b = w.worker_at k inn in omega arith);
      said = λ l d inn. said_step l d inn (ℕ_discrete l l0);
      heard = λ k d inn. none (heard_on workers k lines) _ (slice_index_or jobs k d).decided (length (datas_of workers k done)) _
          (heard_more workers k lines (Reply e s))
          (let c = worker_count_more workers k done r [] (not_data workers k e r is) in omega arith)
          (w.heard k d inn);
    }

  module _ (x : DataRecord) (v : Shown) (k0 : ℕ) (worker_next' : List ℕ) (is : r ≡ Data x) (turn : k0 ≡ (x.port - 1) % workers) (inside : k0 < workers)
      (next : worker_next' ≡ slice_set worker_next k0 (slice_index_or worker_next k0 0 + 1))
      (at : (d : WorkerJob) → slice_get (slice_index_or jobs k0 d).decided (slice_index_or worker_next k0 0) ≡ Some v) where
    worker_step : (k : ℕ) → k < workers → Dec (k ≡ k0) → slice_index_or worker_next' k 0 ≡ length (datas_of workers k (done ++ r ∷ []))
    worker_step k inn (yes same) =
        let c = worker_count_more workers k done r (x ∷ []) (own workers k x r is (same_number ((x.port - 1) % workers) k (same ∙ turn))) in
        let n = slice_index_or worker_next k0 0 + 1 in
        let a = ap (λ z. slice_index_or z k 0) next ∙ (ap (λ z. slice_index_or (slice_set worker_next k0 n) z 0) same ∙ set_same worker_next k0 n 0 (let q = w.worker_count in omega arith)) in
        let b = w.worker_at k0 inside ∙ ap (λ z. length (datas_of workers z done)) (sym same) in
        omega arith
    worker_step k inn (no apart) =
        let c = worker_count_more workers k done r [] (another workers k x r is (other_number ((x.port - 1) % workers) k (λ q. apart (q ∙ sym turn)))) in
        let a = ap (λ z. slice_index_or z k 0) next ∙ set_other worker_next k0 k (slice_index_or worker_next k0 0 + 1) 0 apart in
        let b = w.worker_at k inn in
        omega arith

    heard_step : (k : ℕ) (d : WorkerJob) → k < workers → Dec (k ≡ k0) → heard_on workers k (lines ++ Decision x v ∷ []) ≡ take (length (datas_of workers k (done ++ r ∷ []))) (slice_index_or jobs k d).decided
    heard_step k d inn (yes same) =
        let on = same_number ((x.port - 1) % workers) k (same ∙ turn) in
        mine (heard_on workers k lines) _ (slice_index_or jobs k d).decided (length (datas_of workers k done)) _ v
        (heard_more workers k lines (Decision x v) ∙ ap (λ z. heard_on workers k lines ++ z) (heard_if workers k x v on))
        (worker_count_more workers k done r (x ∷ []) (own workers k x r is on))
        (w.heard k d inn)
        (subst (λ (z : ℕ × ℕ). slice_get (slice_index_or jobs z.0 d).decided z.1 ≡ Some v) (λ i. (sym same i, (w.worker_at k0 inside ∙ ap (λ z. length (datas_of workers z done)) (sym same)) i)) (at d))
    heard_step k d inn (no apart) =
        let off = other_number ((x.port - 1) % workers) k (λ q. apart (q ∙ sym turn)) in
        none (heard_on workers k lines) _ (slice_index_or jobs k d).decided (length (datas_of workers k done)) _
        (heard_more workers k lines (Decision x v) ∙ ap (λ z. heard_on workers k lines ++ z) (heard_not workers k x v off))
        (let c = worker_count_more workers k done r [] (another workers k x r is off) in omega arith)
        (w.heard k d inn)

    pub walked_decision : Walked lanes workers outs jobs (done ++ r ∷ []) lane_next worker_next' (lines ++ Decision x v ∷ [])
    walked_decision = record {
      lane_count = w.lane_count;
      worker_count = ap length next ∙ (length-set worker_next k0 (slice_index_or worker_next k0 0 + 1) ∙ w.worker_count);
      each = map_snoc record_of lines (Decision x v) ∙ (λ i. w.each i ++ sym is i ∷ []);
      lane_at = λ l inn. (let c = lane_count_more lanes (suc l) done r [] (not_control lanes (suc l) x r is) in let b = w.lane_at l inn in omega arith);
      worker_at = λ k inn. worker_step k inn (ℕ_discrete k k0);
      said = λ l d inn. none (said_on lanes (suc l) lines) _ (slice_index_or outs l d).said (length (controls_of lanes (suc l) done)) _
          (said_more lanes (suc l) lines (Decision x v))
          (let c = lane_count_more lanes (suc l) done r [] (not_control lanes (suc l) x r is) in omega arith)
          (w.said l d inn);
      heard = λ k d inn. heard_step k d inn (ℕ_discrete k k0);
    }

-- a record's turn is within those of all records
pub controls_left : (lanes l : ℕ) (rs : List Numbered) (i : ℕ) (r : Numbered) → slice_get rs i ≡ Some r → length (controls_of lanes l (take i rs)) + length (control_for lanes l r) ≤ length (controls_of lanes l rs)
controls_left lanes l [] i r e = absurd cc
controls_left lanes l (q ∷ rs) zero r e =
    let same : q ≡ r = cc in let n = ap (λ z. length (control_for lanes l z)) same in let a = length-append (control_for lanes l q) (controls_of lanes l rs) in omega arith
controls_left lanes l (q ∷ rs) (suc i) r e =
    let h = controls_left lanes l rs i r e in let a = length-append (control_for lanes l q) (controls_of lanes l rs) in let b = length-append (control_for lanes l q) (controls_of lanes l (take i rs)) in omega arith

pub datas_left : (workers k : ℕ) (rs : List Numbered) (i : ℕ) (r : Numbered) → slice_get rs i ≡ Some r → length (datas_of workers k (take i rs)) + length (data_for workers k r) ≤ length (datas_of workers k rs)
datas_left workers k [] i r e = absurd cc
datas_left workers k (q ∷ rs) zero r e =
    let same : q ≡ r = cc in let n = ap (λ z. length (data_for workers k z)) same in let a = length-append (data_for workers k q) (datas_of workers k rs) in omega arith
datas_left workers k (q ∷ rs) (suc i) r e =
    let h = datas_left workers k rs i r e in let a = length-append (data_for workers k q) (datas_of workers k rs) in let b = length-append (data_for workers k q) (datas_of workers k (take i rs)) in omega arith

take_whole : {T : Type 0} (xs : List T) (n : ℕ) → length xs ≡ n → take n xs ≡ xs
take_whole [] zero e = refl
take_whole [] (suc n) e = absurd (omega arith)
take_whole (x ∷ xs) zero e = absurd (omega arith)
take_whole (x ∷ xs) (suc n) e = ap (λ ys. x ∷ ys) (take_whole xs n (omega arith))

-- all records are walked
pub merged : (lanes workers : ℕ) (records : List Numbered) (outs : List LaneOut) (jobs : List WorkerJob) (lane_next worker_next : List ℕ) (lines : List Line)
    → AreWhole lanes workers records outs jobs → Walked lanes workers outs jobs records lane_next worker_next lines → Merged lanes workers records outs jobs lines
merged lanes workers records outs jobs lane_next worker_next lines a w = record {
  each = w.each;
  said = λ l d inn. w.said l d inn ∙ take_whole (slice_index_or outs l d).said (length (controls_of lanes (suc l) records)) (a.said l d inn);
  heard = λ k d inn. w.heard k d inn ∙ take_whole (slice_index_or jobs k d).decided (length (datas_of workers k records)) (a.heard k d inn);
}

pub get_default : {A : Type 0} (xs : List A) (n : ℕ) (d e : A) → n < length xs → slice_index_or xs n d ≡ slice_index_or xs n e
get_default [] n d e l = absurd (omega arith)
get_default (x ∷ xs) zero d e l = refl
get_default (x ∷ xs) (suc n) d e l = get_default xs n d e (omega arith)

-- one block more
pub text_more : (ls : List Line) (l : Line) → text_of (ls ++ l ∷ []) ≡ text_of ls ++ (shown_in l).text
text_more [] l = append-nil (shown_in l).text
text_more (x ∷ ls) l = ap (λ t. (shown_in x).text ++ t) (text_more ls l) ∙ sym (append_assoc (shown_in x).text (text_of ls) (shown_in l).text)

pub forwarded_more : (ls : List Line) (l : Line) → forwarded_in (ls ++ l ∷ []) ≡ forwarded_in ls + (shown_in l).forwards
forwarded_more [] l = omega arith
forwarded_more (x ∷ ls) l = let h = forwarded_more ls l in omega arith

zeros : (n l : ℕ) → slice_index_or (replicate n zero) l zero ≡ zero
zeros zero l = refl
zeros (suc n) zero = refl
zeros (suc n) (suc l) = zeros n l

many_zeros : (n : ℕ) → length (replicate n zero) ≡ n
many_zeros zero = refl
many_zeros (suc n) = ap suc (many_zeros n)

-- nothing is taken yet
pub walked_none : (lanes workers : ℕ) (outs : List LaneOut) (jobs : List WorkerJob) (lane_next worker_next : List ℕ) → length outs ≡ lanes → length jobs ≡ workers
    → lane_next ≡ replicate (length outs) 0 → worker_next ≡ replicate (length jobs) 0 → Walked lanes workers outs jobs [] lane_next worker_next []
walked_none lanes workers outs jobs lane_next worker_next a b c d = record {
  lane_count = ap length c ∙ (many_zeros (length outs) ∙ a);
  worker_count = ap length d ∙ (many_zeros (length jobs) ∙ b);
  each = refl;
  lane_at = λ l inn. ap (λ z. slice_index_or z l 0) c ∙ zeros (length outs) l;
  worker_at = λ k inn. ap (λ z. slice_index_or z k 0) d ∙ zeros (length jobs) k;
  said = λ l o inn. sym (take_zero (slice_index_or outs l o).said);
  heard = λ k j inn. sym (take_zero (slice_index_or jobs k j).decided);
}

-- What a worker decided belongs to its records, one to one.
use Rattle.std.proofs.Common.{◌≡◌, ℕ, ◌≤◌, ◌==◌, true, false, List, [], ◌∷◌, ◌++◌, take, if◌then◌else◌, ap, sym, ◌∙◌, subst, append_assoc, append-nil, arith}
use mathlib.Core.List.{IsPrefix}
use Rattle.book_lock.specs.Sums.{Each}
use Rattle.book_lock.proofs.Lists.{each_widens}
use Rattle.race_lanes.proofs.Speaking.{take_zero}
use Rattle.table_defs.specs.Table.{Table, Change}
use Rattle.auth_publish.specs.Changes.{front_of, weight}
use Rattle.forward_worker.proofs.Closing.{prefix_trans}
use Rattle.legal_defs.specs.Runs.{ControlRecord, DataRecord, Numbered, served_by}
use Rattle.legal_defs.specs.Runs.Numbered.{Control, Data}
use Rattle.legal_defs.specs.Blocks.{Shown, forwards_one}
use Rattle.race_lanes.specs.Shares.{data_for, datas_of}
use Rattle.race_lanes.specs.InPhase.{Pairs, NoFall, counts}
use Rattle.race_lanes.specs.Workers.{Saw, Hears, Heard, list_text, list_decides}

pub front_grows : (l m : List Change) → IsPrefix l m → front_of l ≤ front_of m
front_grows [] m p = omega arith
front_grows (c ∷ l) [] p = absurd (cc (p.1))
front_grows (c ∷ l) (d ∷ m) p =
    let h = front_grows l m (p.0, cc (p.1)) in let is : c ≡ d = cc (p.1) in let w : weight c ≡ weight d = ap weight is in omega arith

pub prefix_same : {A : Type 0} (xs : List A) → IsPrefix xs xs
prefix_same xs = ([], append-nil xs)

pub datas_more : (workers k : ℕ) (done : List Numbered) (r : Numbered) → datas_of workers k (done ++ r ∷ []) ≡ datas_of workers k done ++ data_for workers k r
datas_more workers k [] r = append-nil (data_for workers k r)
datas_more workers k (d ∷ done) r = ap (λ xs. data_for workers k d ++ xs) (datas_more workers k done r) ∙ sym (append_assoc (data_for workers k d) (datas_of workers k done) (data_for workers k r))

pub pairs_widen : {A B : Type 0} (R S : A → B → Type 0) (xs : List A) (ys : List B) → ((x : A) (y : B) → R x y → S x y) → Pairs R xs ys → Pairs S xs ys
pairs_widen R S [] [] h p = tt
pairs_widen R S [] (y ∷ ys) h p = absurd p
pairs_widen R S (x ∷ xs) [] h p = absurd p
pairs_widen R S (x ∷ xs) (y ∷ ys) h p = (h x y p.0, pairs_widen R S xs ys h p.1)

pub pairs_more : {A B : Type 0} (R : A → B → Type 0) (xs : List A) (ys : List B) (x : A) (y : B) → Pairs R xs ys → R x y → Pairs R (xs ++ x ∷ []) (ys ++ y ∷ [])
pairs_more R [] [] x y p one = (one, tt)
pairs_more R [] (b ∷ ys) x y p one = absurd p
pairs_more R (a ∷ xs) [] x y p one = absurd p
pairs_more R (a ∷ xs) (b ∷ ys) x y p one = (p.0, pairs_more R xs ys x y p.1 one)

pub saw_later : (first : Table) (least most most' : List Change) (x : DataRecord) (d : Shown) → IsPrefix most most' → Saw first least most x d → Saw first least most' x d
saw_later first least most most' x d p s = record { list = s.list; begins = s.begins; within = prefix_trans s.list most most' s.within p; front = s.front; text = s.text; forwards = s.forwards }

-- the counts of what was seen in a list are at most that list's
pub fronts_below : (first : Table) (least most : List Change) (xs : List DataRecord) (ds : List Shown) → Pairs (Saw first least most) xs ds → Each (λ n. n ≤ front_of most) (counts ds)
fronts_below first least most [] [] p = tt
fronts_below first least most [] (d ∷ ds) p = absurd p
fronts_below first least most (x ∷ xs) [] p = absurd p
fronts_below first least most (x ∷ xs) (d ∷ ds) p = ((let s = p.0 in let a = front_grows s.list most s.within in let b = s.front in omega arith), fronts_below first least most xs ds p.1)

-- and at least those of the list before
pub fronts_above : (first : Table) (least most : List Change) (xs : List DataRecord) (ds : List Shown) → Pairs (Saw first least most) xs ds → Each (λ n. front_of least ≤ n) (counts ds)
fronts_above first least most [] [] p = tt
fronts_above first least most [] (d ∷ ds) p = absurd p
fronts_above first least most (x ∷ xs) [] p = absurd p
fronts_above first least most (x ∷ xs) (d ∷ ds) p = ((let s = p.0 in let a = front_grows least s.list s.begins in let b = s.front in omega arith), fronts_above first least most xs ds p.1)

each_front : (P : ℕ → Type 0) (ds : List Shown) (d : Shown) → Each P (counts ds) → P d.count → Each P (counts (ds ++ d ∷ []))
each_front P [] d all one = (one, tt)
each_front P (x ∷ ds) d all one = (all.0, each_front P ds d all.1 one)

no_fall_more : (ds : List Shown) (d : Shown) → NoFall (counts ds) → Each (λ n. n ≤ d.count) (counts ds) → NoFall (counts (ds ++ d ∷ []))
no_fall_more [] d all below = (tt, tt)
no_fall_more (x ∷ ds) d all below = (each_front (λ n. x.count ≤ n) ds d all.0 below.0, no_fall_more ds d all.1 below.1)

-- a record that is not this worker's
pub hears_same : (first : Table) (least most : List Change) (workers k : ℕ) (done : List Numbered) (r : Numbered) (ds : List Shown) → data_for workers k r ≡ []
    → Hears first least most (datas_of workers k done) ds → Hears first least most (datas_of workers k (done ++ r ∷ [])) ds
hears_same first least most workers k done r ds none h =
    let same : datas_of workers k (done ++ r ∷ []) ≡ datas_of workers k done = datas_more workers k done r ∙ (ap (λ xs. datas_of workers k done ++ xs) none ∙ append-nil (datas_of workers k done)) in
    (subst (λ xs. Pairs (Saw first least most) xs ds) (sym same) h.0, h.1)

-- a record of this worker: it enters, and what it enters begins with what it had seen
pub hears_more : (first : Table) (least most most' : List Change) (workers k : ℕ) (done : List Numbered) (r : Numbered) (x : DataRecord) (ds ds' : List Shown) (d : Shown) → data_for workers k r ≡ x ∷ []
    → IsPrefix least most → IsPrefix most most' → d.count ≡ front_of most' → d.text ≡ list_text first most' x d.count → d.forwards ≡ forwards_one (list_decides first most' x) → ds' ≡ ds ++ d ∷ []
    → Hears first least most (datas_of workers k done) ds → Hears first least most' (datas_of workers k (done ++ r ∷ [])) ds'
hears_more first least most most' workers k done r x ds ds' d mine begins grows front text forwards is h =
    let more : datas_of workers k (done ++ r ∷ []) ≡ datas_of workers k done ++ x ∷ [] = datas_more workers k done r ∙ ap (λ xs. datas_of workers k done ++ xs) mine in
    let one : Saw first least most' x d = record { list = most'; begins = prefix_trans least most most' begins grows; within = prefix_same most'; front = front; text = text; forwards = forwards } in
    let before : Pairs (Saw first least most') (datas_of workers k done) ds = pairs_widen (Saw first least most) (Saw first least most') (datas_of workers k done) ds (λ y e s. saw_later first least most most' y e grows s) h.0 in
    let low = fronts_below first least most (datas_of workers k done) ds h.0 in
    let rise = front_grows most most' grows in (
      subst (λ (z : List DataRecord × List Shown). Pairs (Saw first least most') z.0 z.1) (λ i. (sym more i, sym is i)) (pairs_more (Saw first least most') (datas_of workers k done) ds x d before one),
      subst (λ z. NoFall (counts z)) (sym is) (no_fall_more ds d h.1 (each_widens (λ n. n ≤ front_of most) (λ n. n ≤ d.count) (counts ds) (λ n le. omega arith) low)),
    )

pub not_data : (workers k : ℕ) (e : ControlRecord) (r : Numbered) → r ≡ Control e → data_for workers k r ≡ []
not_data workers k e r is = ap (data_for workers k) is

pub another : (workers k : ℕ) (x : DataRecord) (r : Numbered) → r ≡ Data x → (served_by workers x.port == k) ≡ false → data_for workers k r ≡ []
another workers k x r is other = ap (data_for workers k) is ∙ ap (λ b. if b then x ∷ [] else []) other

pub own : (workers k : ℕ) (x : DataRecord) (r : Numbered) → r ≡ Data x → (served_by workers x.port == k) ≡ true → data_for workers k r ≡ x ∷ []
own workers k x r is mine = ap (data_for workers k) is ∙ ap (λ b. if b then x ∷ [] else []) mine

pub hears_none : (first : Table) (list : List Change) (workers k : ℕ) (records : List Numbered) (ds : List Shown) → ds ≡ [] → Hears first list list (datas_of workers k (take 0 records)) ds
hears_none first list workers k records ds none =
    subst (λ (z : List DataRecord × List Shown). Hears first list list z.0 z.1) (λ i. (ap (datas_of workers k) (sym (take_zero records)) i, sym none i)) (tt, tt)

pub hears_next : (first : Table) (least most most' : List Change) (workers k : ℕ) (done : List Numbered) (r : Numbered) (x : DataRecord) (ds ds' : List Shown) → data_for workers k r ≡ x ∷ []
    → IsPrefix least most → IsPrefix most most' → Heard first most' x ds ds'
    → Hears first least most (datas_of workers k done) ds → Hears first least most' (datas_of workers k (done ++ r ∷ [])) ds'
hears_next first least most most' workers k done r x ds ds' mine begins grows one h =
    hears_more first least most most' workers k done r x ds ds' one.shown mine begins grows one.front one.text one.forwards one.is h

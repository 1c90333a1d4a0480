-- All ports, one after another.
use Rattle.std.proofs.Common.{◌≡◌, ℕ, zero, suc, ◌+◌, ◌<◌, Bool, true, false, cond, List, [], ◌∷◌, ◌++◌, length, map, take, drop, get_or, set, refl, ap, sym, ◌∙◌, arith, append_assoc}
use Rattle.std.proofs.lemmas.List.{append-nil, map-append}
use Rattle.table_defs.specs.declared.change.Item.{Item as ItemNow}
use Rattle.table_defs.specs.Change.{item_of}
use Rattle.std.proofs.lemmas.List.Edits.{map_over_more}
use Rattle.std.proofs.Math.Seq.{take-append_seam}
use Rattle.switch_event.specs.declared.config.PortConf.{PortConf}
use Rattle.switch_event.specs.Config.{Config}
use Rattle.switch_defs.specs.Switch.{Port, opened_port}
use Rattle.switch_defs.specs.Sound.{confs}
use Rattle.table_defs.specs.Table.{Item, Guest}
use Rattle.table_defs.specs.Told.{opened_guests, opens}

pub confs_opened : (c : Config) (cs : List PortConf) → confs (map (opened_port c) cs) ≡ cs
confs_opened c [] = refl
confs_opened c (p ∷ cs) = ap (λ (ds : List PortConf). p ∷ ds) (confs_opened c cs)

-- a part of memory that is as long as the whole is written back
pub back : (n : ℕ) (new rest : List Port) → n ≡ length new → take n (new ++ rest) ≡ new
back n new rest e = ap (λ (m : ℕ). take m (new ++ rest)) e ∙ take-append_seam new rest

-- what comes was not looked at yet
untouched : (f : Port → Port) (xs : List Port) (i : ℕ) (d : Port) → i < length xs → get_or (map f (take i xs) ++ drop i xs) i d ≡ get_or xs i d
untouched f [] i d l = absurd (omega arith)
untouched f (x ∷ xs) zero d l = refl
untouched f (x ∷ xs) (suc i) d l = untouched f xs i d (omega arith)

pub before_it : (f : Port → Port) (xs ys : List Port) (i : ℕ) (x : Port) → i < length xs → ys ≡ map f (take i xs) ++ drop i xs → x ≡ get_or ys i x → x ≡ get_or xs i x
before_it f xs ys i x l e at = at ∙ ap (λ (zs : List Port). get_or zs i x) e ∙ untouched f xs i x l

pub one_more : (f : Port → Port) (xs ys : List Port) (i : ℕ) (x new : Port) → i < length xs → ys ≡ map f (take i xs) ++ drop i xs → x ≡ get_or ys i x → new ≡ f x → set ys i new ≡ map f (take (i + 1) xs) ++ drop (i + 1) xs
one_more f xs ys i x new l e at is = ap (set ys i) is ∙ map_over_more f xs ys i x l e at

-- the item of one port
abbrev pub item_opened : Port → List Item
item_opened p = cond (opens p) (Guest p.conf.port true ∷ []) []

cons_cond : (b : Bool) (i : Item) (is : List Item) → cond b (i ∷ is) is ≡ cond b (i ∷ []) [] ++ is
cons_cond true i is = refl
cons_cond false i is = refl

cond_append : (b : Bool) (i : Item) (is js : List Item) → cond b (i ∷ (is ++ js)) (is ++ js) ≡ cond b (i ∷ is) is ++ js
cond_append true i is js = refl
cond_append false i is js = refl

pub opened_more : (xs : List Port) (i : ℕ) (x : Port) → i < length xs → x ≡ get_or xs i x → opened_guests (take (suc i) xs) ≡ opened_guests (take i xs) ++ item_opened x
opened_more [] i x l e = absurd (omega arith)
opened_more (y ∷ ys) zero x l e = cons_cond (opens y) (Guest y.conf.port true) [] ∙ ap (λ (p : Port). cond (opens p) (Guest p.conf.port true ∷ []) [] ++ []) (sym e) ∙ nil_right (item_opened x)
  where
    nil_right : (is : List Item) → is ++ [] ≡ is
    nil_right [] = refl
    nil_right (i ∷ is) = ap (λ (js : List Item). i ∷ js) (nil_right is)
opened_more (y ∷ ys) (suc i) x l e =
    ap (λ (is : List Item). cond (opens y) (Guest y.conf.port true ∷ is) is) (opened_more ys i x (omega arith) e) ∙ cond_append (opens y) (Guest y.conf.port true) (opened_guests (take i ys)) (item_opened x)

opened_next : (xs : List Port) (i : ℕ) (x : Port) → i < length xs → x ≡ get_or xs i x → opened_guests (take (i + 1) xs) ≡ opened_guests (take i xs) ++ item_opened x
opened_next xs i x l e =
    let next : i + 1 ≡ suc i = omega arith in
    ap (λ (n : ℕ). opened_guests (take n xs)) next ∙ opened_more xs i x l e

-- a port that lets guests in from now on has its item
pub told_open : (told : List Item) (xs : List Port) (i : ℕ) (x : Port) (old new : List ItemNow) (item : ItemNow) → i < length xs → x ≡ get_or xs i x → opens x ≡ true → item_of item ≡ Guest x.conf.port true
    → map item_of old ≡ told ++ opened_guests (take i xs) → new ≡ old ++ item ∷ [] → map item_of new ≡ told ++ opened_guests (take (i + 1) xs)
told_open told xs i x old new item l at open_ is before e =
    let one : item_opened x ≡ item_of item ∷ [] = ap (λ (b : Bool). cond b (Guest x.conf.port true ∷ []) []) open_ ∙ ap (λ (k : Item). k ∷ []) (sym is) in
    ap (map item_of) e ∙ map-append item_of old (item ∷ []) ∙ ap (λ (is : List Item). is ++ item_of item ∷ []) before ∙ append_assoc told (opened_guests (take i xs)) (item_of item ∷ [])
    ∙ ap (λ (is : List Item). told ++ (opened_guests (take i xs) ++ is)) (sym one) ∙ ap (λ (is : List Item). told ++ is) (sym (opened_next xs i x l at))

-- another port has none
pub told_shut : (told : List Item) (xs : List Port) (i : ℕ) (x : Port) (old : List ItemNow) → i < length xs → x ≡ get_or xs i x → opens x ≡ false → map item_of old ≡ told ++ opened_guests (take i xs) →
    map item_of old ≡ told ++ opened_guests (take (i + 1) xs)
told_shut told xs i x old l at shut before =
    let none : item_opened x ≡ [] = ap (λ (b : Bool). cond b (Guest x.conf.port true ∷ []) []) shut in
    before ∙ ap (λ (is : List Item). told ++ is) (sym (opened_next xs i x l at ∙ ap (λ (is : List Item). opened_guests (take i xs) ++ is) none ∙ append-nil (opened_guests (take i xs))))

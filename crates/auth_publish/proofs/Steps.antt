-- Each step keeps the rule of the published value.
use Rattle.std.proofs.Common.{◌≡◌, ◌≢◌, ℕ, true, List, [], ◌∷◌, ◌++◌, set, refl, ap, sym, ◌∙◌, subst, inl, inr, ⊎_elim, ◌⊎◌, Some, None, Option}
use mathlib.Core.Option.{some}
use lib.ListN.{get_elem?}
use Rattle.atomic_table.proofs.Lists.{at_set, at_snoc}
use Rattle.crossbeam_utils.specs.Register.{Admits, TurnsAt, Turns, Forks, Merges}
use Rattle.logbook.specs.Pages.{Book}
use Rattle.table_defs.specs.Table.{Table}
use Rattle.table_defs.specs.Table.{Change}
use Rattle.table_defs.specs.Table.{changed, changed_by}
use Rattle.auth_publish.specs.Changes.{is_open, finish_is_last}
use Rattle.auth_publish.specs.declared.rule.Published.{Published}
use Rattle.auth_publish.specs.declared.rule.Opening.{Opening}
use Rattle.auth_publish.specs.Deeds.{grown}
use Rattle.auth_publish.specs.Rules.{Stands, Sees, opening}
use Rattle.auth_publish.proofs.Lists.{changed_more, last_more}

abbrev Fits : Table → Book → Option Opening → Type 0
Fits first name v = (v ≡ None) ⊎ (v ≡ Some (opening first name))

abbrev pub Begun : Option Opening → Published → Published → Option Opening → Type 0
Begun v x y w = w ≡ Some (opening y.table y.told.name)

abbrev pub Same : Option Opening → Published → Published → Option Opening → Type 0
Same v x y w = w ≡ v

-- one seat knows something else that is true
abbrev reseated : (x : Published) (views : List (Option Opening)) (seat : ℕ) (w : Option Opening) (s : Stands x views) → Fits s.first x.told.name w → Stands x (set views seat w)
reseated x views seat w s fits = record {
  first = s.first;
  table_is = s.table_is;
  last = s.last;
  seats = λ j u e. ⊎_elim (λ (t : (j ≡ seat) × (w ≡ u)). subst (Fits s.first x.told.name) t.1 fits) (λ (t : (j ≢ seat) × (get_elem? views j ≡ some u)). s.seats j u t.1) (at_set views seat j w u e);
}

-- a new seat knows something that is true
abbrev seated : (x : Published) (views : List (Option Opening)) (w : Option Opening) (s : Stands x views) → Fits s.first x.told.name w → Stands x (views ++ w ∷ [])
seated x views w s fits = record {
  first = s.first;
  table_is = s.table_is;
  last = s.last;
  seats = λ j u e. ⊎_elim (λ (at : get_elem? views j ≡ some u). s.seats j u at) (λ (is : w ≡ u). subst (Fits s.first x.told.name) is fits) (at_snoc views w u j e);
}

pub admits : Admits Stands None
admits x views s = seated x views None s (inl refl)

pub starts : (x : Published) → x.told.list ≡ [] → Stands x (None ∷ [])
starts x none = record {
  first = x.table;
  table_is = sym (ap (changed_by x.table) none);
  last = ap finish_is_last none;
  seats = λ j u e. ⊎_elim (λ (at : get_elem? [] j ≡ some u). absurd cc) (λ (is : None ≡ u). subst (Fits x.table x.told.name) is (inl refl)) (at_snoc [] None u j e);
}

same_place : (v : Option Opening) (f g : Table) (m n : Book) → (v ≡ None) ⊎ (v ≡ Some (opening g n)) → v ≡ Some (opening f m) → (g ≡ f) × (n ≡ m)
same_place v f g m n (inl none) is = absurd cc
same_place v f g m n (inr one) is =
    let same : opening g n ≡ opening f m = cc (one, is) in (ap (λ o. o.first) same, ap (λ o. o.told.name) same)

pub enters : (seat : ℕ) (v : Option Opening) → Turns Stands seat v (λ x. x) (λ v x y w. Sees v y w)
enters seat v x views s at = (
  v,
  reseated x views seat v s (s.seats seat v at),
  record {
    same = refl;
    placed = λ f m e.
        let same = same_place v f s.first m x.told.name (s.seats seat v at) e in (s.table_is ∙ ap (λ t. changed_by t x.told.list) same.0, same.1);
    last = s.last;
  },
)

pub begins : (seat : ℕ) (v : Option Opening) (x : Published) → x.told.list ≡ [] → TurnsAt Stands seat v x x Begun
begins seat v x none views s at =
    let first : x.table ≡ s.first = s.table_is ∙ ap (changed_by s.first) none in
    let w : Option Opening = Some (opening x.table x.told.name) in
    (w, reseated x views seat w s (inr (ap (λ t. Some (opening t x.told.name)) first)), refl)

pub posts : (c : Change) (seat : ℕ) (v : Option Opening) (x : Published) → is_open x.told.list ≡ true → TurnsAt Stands seat v x record { table = changed x.table c; told = grown x c } Same
posts c seat v x unfinished views s at = (
  v,
  record {
    first = s.first;
    table_is = ap (λ t. changed t c) s.table_is ∙ changed_more s.first x.told.list c;
    last = last_more x.told.list c unfinished;
    seats = (reseated x views seat v s (s.seats seat v at)).seats;
  },
  refl,
)

pub copies : (seat : ℕ) (v : Option Opening) → Forks Stands seat v v v
copies seat v x views s at = seated x (set views seat v) v (reseated x views seat v s (s.seats seat v at)) (s.seats seat v at)

pub arrives : (seat : ℕ) (v : Option Opening) (other : ℕ) (n : Option Opening) → Merges Stands seat v other n n None
arrives seat v other n x views s at apart there =
    let f = ⊎_elim (λ (t : (other ≡ seat) × (n ≡ n)). absurd (apart t.0)) (λ (t : (other ≢ seat) × (get_elem? views other ≡ some n)). s.seats other n t.1) (at_set views seat other n n there) in
    reseated x (set views seat n) other None (reseated x views seat n s f) (inl refl)

-- What is published goes on with the history.
use Rattle.std.proofs.Common.{◌≡◌, ◌≢◌, ℕ, zero, suc, ◌+◌, Bool, true, false, refl, sym, ap, subst, ◌∙◌, List, [], ◌∷◌, ◌++◌, length, take, arith, length-append}
use Rattle.logbook.specs.Pages.{Book as Name}
use Rattle.switch_event.specs.Config.{Config, is_valid}
use Rattle.event_record.specs.Entry.{Entry}
use Rattle.switch_defs.specs.Switch.{State, opening}
use Rattle.switch_defs.specs.Turn.{turn}
use Rattle.switch_defs.specs.History.{runs, after}
use Rattle.switch_defs.specs.Sound.{In, here, there}
use Rattle.switch_defs.proofs.Settings.{config_turn}
use Rattle.switch_defs.proofs.Numbers.{runs_append}
use Rattle.table_defs.specs.Table.{Table, Change, Item, Items, Finish, Tells, TellsAll, IsItems, Mirrors, Agrees, changed_by, opening_table}
use Rattle.table_defs.proofs.Mirror.{enough}
use Rattle.table_defs.proofs.Telling.{begun, continued}
use Rattle.auth_publish.specs.Changes.{is_open, front_of}
use Rattle.auth_publish.proofs.Lists.{open_length, changed_more}
use Rattle.event_record.specs.declared.TheConstants.{MOST_EVENTS}
use Rattle.switch_book.specs.Book.{Book, all_published, IsTold, IsKept}

config_runs : (s : State) (h : List Entry) → (runs s h).config ≡ s.config
config_runs s [] = refl
config_runs s (e ∷ h) = config_runs (turn s e.event).state h ∙ config_turn s e.event

-- no turn changes the settings
pub config_after : (c : Config) (h : List Entry) → (after c h).config ≡ c
unfolding after
config_after c h = config_runs (opening c) h

open_of : (cs : List Change) → ((c : Change) → In c cs → IsItems c) → is_open cs ≡ true
open_of [] f = refl
open_of (Items is ∷ cs) f = open_of cs (λ c i. f c (there i))
open_of (Finish ∷ cs) f = absurd (f Finish here)

-- changes that tell of a history have no Finish, and are as many as its entries
pub told_open : (c : Config) (cs : List Change) (h : List Entry) → TellsAll c cs h → is_open cs ≡ true
told_open c cs h t = open_of cs t.going

pub told_front : (c : Config) (cs : List Change) (h : List Entry) → TellsAll c cs h → front_of cs ≡ length h
told_front c cs h t = sym (open_length cs (told_open c cs h t)) ∙ t.alike

-- the table after what is published is in step with the state after the history
abbrev pub InStep : Config → List Change → List Entry → Type 0
InStep c cs h = Mirrors (changed_by (opening_table c) cs) (after c h)

pub after_more : (c : Config) (h : List Entry) (e : Entry) → after c (h ++ e ∷ []) ≡ (turn (after c h) e.event).state
unfolding after
after_more c h e = runs_append (opening c) h (e ∷ [])

-- Finish changes no table
pub finished_in_step : (c : Config) (cs : List Change) (h : List Entry) → InStep c cs h → InStep c (cs ++ Finish ∷ []) h
finished_in_step c cs h m = subst (λ (t : Table). Mirrors t (after c h)) (changed_more (opening_table c) cs Finish) m

-- a book that is not finished publishes the changes alone
pub told_alone : (b : Book) → b.finished ≡ false → IsTold b → TellsAll b.config b.published b.list
told_alone b f t = subst (λ (cs : List Change). TellsAll b.config cs b.list) (sym (t.1 ∙ ap (λ (k : Bool). all_published k t.0) f)) t.2

pub told_still : (b : Book) → b.finished ≡ false → TellsAll b.config b.published b.list → IsTold b
told_still b f t = (b.published, sym (ap (λ (k : Bool). all_published k b.published) f), t)

-- ---- a book as it is opened

opened_agrees : (c : Config) → is_valid c ≡ true → (n : ℕ) → Agrees (changed_by (opening_table c) (take n [])) (after c (take n []))
unfolding after
opened_agrees c v zero = enough _ _ (begun c v)
opened_agrees c v (suc n) = enough _ _ (begun c v)

opened_told : (c : Config) → is_valid c ≡ true → TellsAll c [] []
opened_told c v = record { alike = refl; going = λ d i. elim i [ ]; agree = λ n le. opened_agrees c v n }

opened_in_step : (c : Config) → is_valid c ≡ true → InStep c [] []
unfolding after
opened_in_step c v = begun c v

opened_after : (c : Config) → after c [] ≡ opening c
unfolding after
opened_after c = refl

pub kept_opened : {A : Type 0} (stands : A → State → Type 0) (made : A → ℕ) (c : Config) (name : Name) (list : List Entry) (cs : List Change) (t : Table) (x y : A)
    → is_valid c ≡ true → list ≡ [] → cs ≡ [] → t ≡ opening_table c → stands x (opening c) → stands y (opening c) → made x ≡ 0 → made y ≡ 0
    → IsKept stands made (record { config = c; name = name; list = list; published = cs; finished = false }) t x y
kept_opened stands made c name list cs t x y v l s same sx sy mx my = record {
  table_is = same;
  few = rw l (omega arith);
  told = ([], s, rw l (opened_told c v));
  in_step = rw (l, s) (opened_in_step c v);
  first_stands = rw l (subst (stands x) (sym (opened_after c)) sx);
  second_stands = rw l (subst (stands y) (sym (opened_after c)) sy);
  first_made = rw l mx;
  second_made = rw l my;
}

-- ---- what a call leaves of a book

module _ {A : Type 0} (stands : A → State → Type 0) (made : A → ℕ) (b : Book) (table : Table) (first second : A) (kept : IsKept stands made b table first second) where
  -- nothing was, and the first authenticator is as the second
  pub kept_back : (name : Name) (list : List Entry) (cs : List Change) (t : Table) (x : A) → list ≡ b.list → cs ≡ b.published → t ≡ table
      → stands x (after b.config b.list) → made x ≡ made second → IsKept stands made (record b { name = name; list = list; published = cs }) t x second
  kept_back name list cs t x l c same sx mx = record {
    table_is = same ∙ kept.table_is;
    few = rw l kept.few;
    told = rw (l, c) kept.told;
    in_step = rw (l, c) kept.in_step;
    first_stands = rw l sx;
    second_stands = rw l kept.second_stands;
    first_made = rw l (mx ∙ kept.second_made);
    second_made = rw l kept.second_made;
  }

module _ {A : Type 0} (stands : A → State → Type 0) (made : A → ℕ) (b : Book) (table : Table) (first second : A) (kept : IsKept stands made b table first second) (f : b.finished ≡ false) where
  pub kept_open : is_open b.published ≡ true
  kept_open = told_open b.config b.published b.list (told_alone b f kept.told)

  pub kept_front : front_of b.published ≡ length b.list
  kept_front = told_front b.config b.published b.list (told_alone b f kept.told)

  -- an entry was accepted, and each authenticator has made its turn
  pub kept_accepted : (name : Name) (e : Entry) (is : List Item) (list : List Entry) (cs : List Change) (t : Table) (x y : A)
      → length b.list ≢ MOST_EVENTS → list ≡ b.list ++ e ∷ [] → cs ≡ b.published ++ Items is ∷ [] → t ≡ table
      → Tells (after b.config b.list) is (turn (after b.config b.list) e.event).state
      → stands x (turn (after b.config b.list) e.event).state → stands y (turn (after b.config b.list) e.event).state
      → made x ≡ made first + 1 → made y ≡ made second + 1
      → IsKept stands made (record b { name = name; list = list; published = cs }) t x y
  kept_accepted name e is list cs t x y room l c same tells sx sy mx my =
      let now = continued b.config b.published b.list e is (told_alone b f kept.told) kept.in_step tells in
      let state : after b.config list ≡ (turn (after b.config b.list) e.event).state = ap (after b.config) l ∙ after_more b.config b.list e in
      let longer : length list ≡ length b.list + 1 = ap length l ∙ length-append b.list (e ∷ []) in
      record {
        table_is = same ∙ kept.table_is;
        few = (let few = kept.few in omega arith);
        told = told_still (record b { name = name; list = list; published = cs }) f (rw (l, c) now.0);
        in_step = rw (l, c) now.1;
        first_stands = subst (stands x) (sym state) sx;
        second_stands = subst (stands y) (sym state) sy;
        first_made = (let m = kept.first_made in omega arith);
        second_made = (let m = kept.second_made in omega arith);
      }

  -- Finish was published
  pub kept_finished : (name : Name) (cs : List Change) (t : Table) → cs ≡ b.published ++ Finish ∷ [] → t ≡ table
      → IsKept stands made (record b { name = name; published = cs; finished = true }) t first second
  kept_finished name cs t c same = record {
    table_is = same ∙ kept.table_is;
    few = kept.few;
    told = (b.published, c, told_alone b f kept.told);
    in_step = rw c (finished_in_step b.config b.published b.list kept.in_step);
    first_stands = kept.first_stands;
    second_stands = kept.second_stands;
    first_made = kept.first_made;
    second_made = kept.second_made;
  }

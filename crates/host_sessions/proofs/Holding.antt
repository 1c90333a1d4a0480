-- What is kept stays that of a state, as both are changed alike.
use Rattle.std.proofs.Common.{◌≡◌, ℕ, refl, sym, ap, subst, ◌∙◌, List, [], ◌∷◌, map, filter, Option, Some, None, Bool, true, false, cond, not, arith}
use Rattle.std.specs.Option.{option_map}
use Rattle.std.specs.List.{AllByRecursion, IsDistinct}
use Rattle.std.proofs.lemmas.Bool.{eqb-true}
use Rattle.std.proofs.lemmas.Option.{same_Some}
use Rattle.session_table.specs.Slots.{Entry, IsTable, held_at, is_at as is_in, is_for, is_other as is_elsewhere, renewed, value_at, with_value}
use Rattle.session_table.proofs.Tables.{each_at_place, held_renewed, left_of_host, table_renewed, told_apart}
use Rattle.aaa_defs.specs.Waits.{Waits, forgotten}
use Rattle.switch_event.specs.Config.{Config}
use Rattle.switch_defs.specs.Switch as switch
use Rattle.switch_defs.specs.Switch.{Host, Standing, State, is_at, opening}
use Rattle.switch_defs.specs.Session.{stands_as, is_other, place, forget, close}
use Rattle.switch_defs.specs.Sound.{In}
use Rattle.switch_defs.proofs.Lists.{each_in, of_each, in_map, key_same}
use Rattle.host_session.specs.declared.session.Session.{Session}
use Rattle.host_session.specs.Sits.{SitsAs}
use Rattle.host_sessions.specs.declared.sessions.Sessions.{Sessions}
use Rattle.host_sessions.specs.Holds.{AreOf, Holds}
use Rattle.host_sessions.specs.Finds.{FindsAt, IsAt}
use Rattle.host_sessions.proofs.Pairs.{Both, Renews, both_kept, other_agree, renewed_is}

-- ---- nothing

pub table_none : IsTable {T = Session} []
unfolding IsDistinct
table_none = record { few = omega arith; placed = tt; places = tt; hosts = tt }

pub holds_none : (c : Config) (k : Sessions) → k.slots ≡ [] → k.waits ≡ (opening c).waits →
    k.asked ≡ 0 → k.next ≡ 1 → Holds k (opening c)
holds_none c k slots waits asked next =
    let P : List (Entry Session) → Type 0 = λ es. AreOf c.times es [] in
    record {
      table = subst IsTable (sym slots) table_none;
      sessions = subst P (sym slots) tt;
      waits = waits;
      asked = asked;
      next = next;
    }

-- ---- what is found

pub finds : (k : Sessions) (s : State) → Holds k s → (o : Option (Entry Session))
    (p : Option switch.Session) → Both s.config.times k.slots s.sessions o p →
    FindsAt (option_map (λ (e : Entry Session). e.place) o) p k s
finds k s holds None None b = tt
finds k s holds None (Some y) b = absurd b
finds k s holds (Some e) None b = absurd b
finds k s holds (Some e) (Some y) b = record {
  entry = e;
  here = of_each (λ e. held_at e.place k.slots ≡ Some e) (each_at_place k.slots holds.table) b.0;
  there = b.1;
  is = b.2;
}

pub none_found : (o : Option switch.Session) (k : Sessions) (s : State) → FindsAt None o k s → o ≡ None
none_found None k s f = refl
none_found (Some y) k s f = absurd f

pub some_found : (at : ℕ) (o : Option switch.Session) (k : Sessions) (s : State) →
    FindsAt (Some at) o k s → (y : switch.Session) × (o ≡ Some y) × IsAt at y k s
some_found at None k s f = absurd f
some_found at (Some y) k s f = (y, refl, f)

-- what is held at the place is the session's
pub value_is : (k : Sessions) (s : State) (at : ℕ) (y : switch.Session) (v : Session) →
    (i : IsAt at y k s) → Some v ≡ value_at at k.slots → v ≡ i.entry.value
value_is k s at y v i e =
    same_Some v i.entry.value (e ∙ ap (option_map (λ (f : Entry Session). f.value)) i.here)

pub value_sits : (k : Sessions) (s : State) (at : ℕ) (y : switch.Session) (v : Session) →
    (i : IsAt at y k s) → Some v ≡ value_at at k.slots → SitsAs v y.standing
value_sits k s at y v i e =
    subst (λ (w : Session). SitsAs w y.standing) (sym (value_is k s at y v i e)) i.is.sits

pub value_number : (k : Sessions) (s : State) (at : ℕ) (y : switch.Session) (v : Session) →
    (i : IsAt at y k s) → Some v ≡ value_at at k.slots → v.number ≡ y.host.number
value_number k s at y v i e =
    ap (λ (w : Session). w.number) (value_is k s at y v i e) ∙ i.is.number

-- ---- another standing

-- the entry at a place is the only one there, and the only one of its host
renews : (k : Sessions) (s : State) (at : ℕ) (y : switch.Session) (w : Session) → Holds k s →
    (i : IsAt at y k s) → w.number ≡ i.entry.value.number →
    AllByRecursion (Renews y.host at w) k.slots
renews k s at y w holds i same = each_in (Renews y.host at w) k.slots (λ e j. record {
  one = rw (sym i.is.port, sym i.is.address)
      (of_each (λ f. is_in at f ≡ is_for i.entry.port i.entry.address f)
      (told_apart k.slots at i.entry holds.table i.here) j);
  number = λ here_too. same ∙ ap (λ (f : Entry Session). f.value.number) (only e j here_too);
})
  where
    only : (e : Entry Session) → In e k.slots → is_in at e ≡ true → i.entry ≡ e
    only e j here_too =
        same_Some i.entry e
        (sym i.here ∙ ap (λ q. held_at q k.slots) (sym (eqb-true e.place at here_too))
        ∙ of_each (λ f. held_at f.place k.slots ≡ Some f) (each_at_place k.slots holds.table) j)

pub placed : (k : Sessions) (s : State) (at : ℕ) (y : switch.Session) (w : Session) (x : Standing) →
    Holds k s → (i : IsAt at y k s) → w.number ≡ i.entry.value.number → SitsAs w x →
    x.vars.times ≡ s.config.times →
    Holds (record k { slots = renewed at w k.slots }) (place y.host x s)
placed k s at y w x holds i same sits timed = record {
  table = table_renewed at w k.slots holds.table;
  sessions = renewed_is s.config.times y.host x at w sits timed k.slots s.sessions
      (renews k s at y w holds i same) holds.sessions;
  waits = holds.waits;
  asked = holds.asked;
  next = holds.next;
}

held_is : (at : ℕ) (e : Entry Session) (es : List (Entry Session)) → held_at at es ≡ Some e →
    is_in at e ≡ true
held_is at e [] is = cc
held_is at e (f ∷ es) is = by (held_is at e es) (is_in at f) refl is
  where
    by : (held_at at es ≡ Some e → is_in at e ≡ true) → (b : Bool) → is_in at f ≡ b →
        cond b (Some f) (held_at at es) ≡ Some e → is_in at e ≡ true
    by rest true j found = subst (λ (g : Entry Session). is_in at g ≡ true) (same_Some f e found) j
    by rest false j found = rest found

-- and the session is at the place still
pub placed_at : (k : Sessions) (s : State) (at : ℕ) (y : switch.Session) (w : Session) (x : Standing) →
    (i : IsAt at y k s) → w.number ≡ i.entry.value.number → SitsAs w x →
    x.vars.times ≡ s.config.times →
    IsAt at (record y { standing = x }) (record k { slots = renewed at w k.slots }) (place y.host x s)
placed_at k s at y w x i same sits timed = record {
  entry = record i.entry { value = w };
  here = held_renewed at at w k.slots ∙ ap (option_map (with_value at w)) i.here
      ∙ ap Some (mine (is_in at i.entry) (held_is at i.entry k.slots i.here));
  there = subst (λ (z : switch.Session). In z (map (stands_as y.host x) s.sessions))
      (mine_too (is_at y.host.port y.host.address y.host) (key_same y.host.port y.host.address))
      (in_map (stands_as y.host x) i.there);
  is = record {
    number = same ∙ i.is.number;
    port = i.is.port;
    address = i.is.address;
    sits = sits;
    timed = timed;
  };
}
  where
    mine : (b : Bool) → is_in at i.entry ≡ true → with_value at w i.entry ≡ record i.entry { value = w }
    mine b j = rw j refl

    mine_too : (b : Bool) → is_at y.host.port y.host.address y.host ≡ true →
        stands_as y.host x y ≡ record y { standing = x }
    mine_too b j = rw j refl

-- ---- the same value

map_same : (f : Entry Session → Entry Session) (es : List (Entry Session)) →
    AllByRecursion (λ e. f e ≡ e) es → map f es ≡ es
map_same f [] a = refl
map_same f (e ∷ es) a = rw a.0 (ap (λ (fs : List (Entry Session)). e ∷ fs) (map_same f es a.1))

pub renewed_same : (at : ℕ) (v : Session) (es : List (Entry Session)) → IsTable es →
    Some v ≡ value_at at es → renewed at v es ≡ es
renewed_same at v es table found =
    map_same (with_value at v) es (each_in (λ e. with_value at v e ≡ e) es (λ e i. by e i (is_in at e) refl))
  where
    by : (e : Entry Session) → In e es → (b : Bool) → is_in at e ≡ b → with_value at v e ≡ e
    by e i false j = rw j refl
    by e i true j =
        let held : held_at at es ≡ Some e = ap (λ q. held_at q es) (sym (eqb-true e.place at j))
        ∙ of_each (λ f. held_at f.place es ≡ Some f) (each_at_place es table) i in
        let same : v ≡ e.value =
        same_Some v e.value (found ∙ ap (option_map (λ (f : Entry Session). f.value)) held) in
        rw j (ap (λ (w : Session). record e { value = w }) same)

-- ---- a request that is forgotten

pub forgets : (k : Sessions) (s : State) (h : Host) (w : Waits) → Holds k s →
    w ≡ forgotten h.number k.waits → Holds (record k { waits = w }) (forget h s)
forgets k s h w holds e = record {
  table = holds.table;
  sessions = holds.sessions;
  waits = e ∙ ap (forgotten h.number) holds.waits;
  asked = holds.asked;
  next = holds.next;
}

-- ---- a session that is closed

pub closes : (k : Sessions) (s : State) (at : ℕ) (y : switch.Session) (es : List (Entry Session))
    (w : Waits) → Holds k s → IsAt at y k s → es ≡ filter (is_elsewhere at) k.slots → IsTable es →
    w ≡ forgotten y.host.number k.waits → Holds (record k { slots = es; waits = w }) (close y.host s)
closes k s at y es w holds i left table e = record {
  table = table;
  sessions = rw (left, left_of_host k.slots at i.entry holds.table i.here, i.is.port, i.is.address)
      (both_kept s.config.times (λ f. not (is_for y.host.port y.host.address f)) (is_other y.host)
      (other_agree s.config.times y.host) k.slots s.sessions holds.sessions);
  waits = e ∙ ap (forgotten y.host.number) holds.waits;
  asked = holds.asked;
  next = holds.next;
}

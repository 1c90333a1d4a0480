-- The end of a run: what each worker decided is right by the whole history.
use Rattle.std.proofs.Common.{◌≡◌, ◌⊎◌, inl, inr, ⊎_elim, ℕ, ◌+◌, ◌-◌, ◌%◌, ◌<◌, ◌≤◌, mod-lt, true, All, Result, Ok, Err, IfErr, List, [], ◌∷◌, ◌++◌, length, take, refl, ap, sym, ◌∙◌, subst, append-nil, length-append, arith}
use mathlib.Core.List.{IsPrefix}
use Rattle.switch_event.specs.Config.{Config}
use Rattle.event_record.specs.Entry.{Entry}
use Rattle.table_defs.specs.Table.{Table, Change, Items, Finish, TellsAll, changed_by, decide_table, opening_table}
use Rattle.switch_defs.specs.History.{after}
use Rattle.switch_defs.specs.Decide.{decide}
use Rattle.auth_publish.specs.Changes.{front_of, is_open}
use Rattle.auth_publish.proofs.Lists.{open_length, changed_more, front_more}
use Rattle.book_lock.proofs.Lists.{each_widens, take_last}
use Rattle.forward_worker.proofs.Closing.{prefix_trans}
use Rattle.switch_book.proofs.Telling.{told_open}
use Rattle.trace_defs.specs.Output.{data_block}
use Rattle.trace_defs.specs.Line.{Record}
use Rattle.legal_defs.specs.Runs.{served_by}
use Rattle.legal_defs.specs.Blocks.{Line, Block, forwards_one}
use Rattle.legal_defs.specs.Blocks.Line.{Reply, Decision}
use Rattle.legal_defs.specs.Legal.{Decides, ShowsOne, LegalBy, IsBegun}
use Rattle.race_lanes.specs.declared.workers.WorkerJob.{WorkerJob}
use Rattle.race_lanes.specs.Workers.{at_worker, seen_by}
use Rattle.race_lanes.specs.Lines.{SawFrom}
use Rattle.race_lanes.proofs.Seeing.{seen_at, some_job}
use Rattle.race_lanes.specs.Standing.{Run, Stands}

-- what begins a list with one more begins the list, or is all of it
begins_or_is : {A : Type 0} (l cs : List A) (x : A) → IsPrefix l (cs ++ x ∷ []) → IsPrefix l cs ⊎ (l ≡ cs ++ x ∷ [])
begins_or_is [] cs x p = inl (cs, refl)
begins_or_is (y ∷ l) [] x p = inr (let same : y ≡ x = cc (p.1) in let rest : l ++ p.0 ≡ [] = cc (p.1) in (λ i. same i ∷ nothing l p.0 rest i))
  where
    nothing : {A : Type 0} (xs ys : List A) → xs ++ ys ≡ [] → xs ≡ []
    nothing [] ys e = refl
    nothing (x ∷ xs) ys e = absurd (cc (e))
begins_or_is (y ∷ l) (c ∷ cs) x p =
    let same : y ≡ c = cc (p.1) in
    ⊎_elim (λ (b : IsPrefix l cs). inl (b.0, (λ i. same i ∷ b.1 i))) (λ (e : l ≡ cs ++ x ∷ []). inr (λ i. same i ∷ e i))
    (begins_or_is l cs x (p.0, cc (p.1)))

open_front : (l m : List Change) → is_open (l ++ m) ≡ true → is_open l ≡ true
open_front [] m h = refl
open_front (Items is ∷ l) m h = open_front l m h
open_front (Finish ∷ l) m h = absurd (cc (h))

-- a list that begins the finished list is after as many entries as its front says
pub record Says (c : Config) (h : List Entry) (l : List Change) : Type 0 where
  pub within : front_of l ≤ length h
  pub agrees : (port : ℕ) (octets : List ℕ) → decide_table (changed_by (opening_table c) l) port octets ≡ decide (after c (take (front_of l) h)) port octets

says_prefix : (c : Config) (h : List Entry) (cs l : List Change) → TellsAll c cs h → IsPrefix l cs → Says c h l
says_prefix c h cs l t p =
    let whole : is_open (l ++ p.0) ≡ true = ap is_open p.1 ∙ told_open c cs h t in
    let n : length l ≡ front_of l = open_length l (open_front l p.0 whole) in
    let a = ap length (sym p.1) ∙ length-append l p.0 in
    let b = t.alike in
    let taken : take (length l) cs ≡ l = ap (take (length l)) (sym p.1) ∙ take_last l p.0 in
    let small : length l ≤ length h = omega arith in
    record {
      within = omega arith;
      agrees = λ port octets. ap (λ (k : List Change). decide_table (changed_by (opening_table c) k) port octets) (sym taken)
          ∙ (t.agree (length l) small port octets ∙ ap (λ m. decide (after c (take m h)) port octets) n);
    }

says_all : (c : Config) (h : List Entry) (cs l : List Change) → TellsAll c cs h → l ≡ cs ++ Finish ∷ [] → Says c h l
says_all c h cs l t is =
    let all = says_prefix c h cs cs t ([], append-nil cs) in
    let front : front_of l ≡ front_of cs = ap front_of is ∙ (front_more cs Finish ∙ (let q : front_of cs + 0 ≡ front_of cs = omega arith in q)) in
    record {
      within = (let a = all.within in omega arith);
      agrees = λ port octets. ap (λ (k : Table). decide_table k port octets) (ap (changed_by (opening_table c)) is ∙ sym (changed_more (opening_table c) cs Finish))
          ∙ (all.agrees port octets ∙ ap (λ m. decide (after c (take m h)) port octets) (sym front));
    }

pub says : (c : Config) (h : List Entry) (cs l : List Change) → TellsAll c cs h → IsPrefix l (cs ++ Finish ∷ []) → Says c h l
says c h cs l t p = ⊎_elim (says_prefix c h cs l t) (says_all c h cs l t) (begins_or_is l cs Finish p)

decides_line : (c : Config) (workers : ℕ) (h : List Entry) (cs : List Change) (seen : ℕ → List Change) → TellsAll c cs h → 0 < workers → ((k : ℕ) → k < workers → IsPrefix (seen k) (cs ++ Finish ∷ [])) → (l : Line)
    → SawFrom (opening_table c) workers (λ k. []) seen l → Decides c h l
decides_line c workers h cs seen t some whole (Reply e s) w = tt
decides_line c workers h cs seen t some whole (Decision x d) w =
    let means = says c h cs w.list t (prefix_trans w.list (seen (served_by workers x.port)) (cs ++ Finish ∷ []) w.within (whole ((x.port - 1) % workers) (mod-lt (x.port - 1) some))) in (
      (let a = means.within in let b = w.front in omega arith),
      w.text ∙ (λ i. data_block x.number d.count ((means.agrees x.port x.octets ∙ ap (λ n. decide (after c (take n h)) x.port x.octets) (sym w.front)) i) x.octets),
      w.forwards ∙ ap forwards_one (means.agrees x.port x.octets ∙ ap (λ n. decide (after c (take n h)) x.port x.octets) (sym w.front)),
    )

shows_line : (first : Table) (workers : ℕ) (seen : ℕ → List Change) (l : Line) → SawFrom first workers (λ k. []) seen l → ShowsOne l
shows_line first workers seen (Reply e s) w = tt
shows_line first workers seen (Decision x d) w = (decide_table (changed_by first w.list) x.port x.octets, w.text, w.forwards)

-- at the end all is legal
pub stands_legal : (r : Run) (cs : List Change) (phases : List (List Record)) (text : List ℕ) → 0 < r.workers → TellsAll r.config cs r.history
    → ((k : ℕ) → k < r.workers → IsPrefix (at_worker r.seen k) (cs ++ Finish ∷ [])) → Stands r phases text → LegalBy r.config r.lanes r.workers phases text r.history r.forwarded
stands_legal r cs phases text some t whole s = record {
  legal = record {
    history = r.history;
    blocks = s.blocks;
    ordered = s.kept.ordered;
    decisions = each_widens (λ (x : Block). SawFrom (opening_table r.config) r.workers (λ k. []) (at_worker r.seen) x.line) (λ (x : Block). Decides r.config r.history x.line) s.blocks (λ x. decides_line r.config r.workers r.history cs (at_worker r.seen) t some whole x.line) s.kept.saw;
    printed = s.printed;
  };
  history_is = refl;
  frames_is = s.forwarded;
}

-- and at any moment it has begun so
pub stands_begun : (r : Run) (phases : List (List Record)) (text : List ℕ) → Stands r phases text → IsBegun r.config r.lanes r.workers phases text
stands_begun r phases text s = record {
  history = r.history;
  blocks = s.blocks;
  ordered = s.kept.ordered;
  shown = each_widens (λ (x : Block). SawFrom (opening_table r.config) r.workers (λ k. []) (at_worker r.seen) x.line) (λ (x : Block). ShowsOne x.line) s.blocks (λ x. shows_line (opening_table r.config) r.workers (at_worker r.seen) x.line) s.kept.saw;
  printed = s.printed;
}

pub all_closed : (list : List Change) (jobs : List WorkerJob) (workers : ℕ) → length jobs ≡ workers → All (λ (j : WorkerJob). IsPrefix j.worker.list list) jobs → (k : ℕ) → k < workers → IsPrefix (seen_by jobs k) list
all_closed list jobs workers count all k l =
    let d = some_job jobs k (omega arith) in
    subst (λ z. IsPrefix z list) (sym (seen_at jobs k (omega arith) d)) (all k d (omega arith))

pub err_any : {T E : Type 0} (P : Type 0) (r : Result T E) → P → IfErr r (λ e. P)
err_any P (Ok x) p = tt
err_any P (Err e) p = p

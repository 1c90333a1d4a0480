-- The queues of a link in memory.
use Rattle.std.proofs.Common.{◌≡◌, ℕ, ◌<◌, List, [], ◌∷◌, ◌++◌, Option, None, Some, refl, sym, ap, ◌∙◌, arith, length, drop, option_to_list, map, slice_index_or, slice_set, Global}
use Rattle.std.proofs.lemmas.List.{get_or-map, map-set}
use Rattle.std.specs.declared.collections.VecDeque.{VecDeque}
use Rattle.outside_link.specs.declared.mem_link.Letter.{Letter}
use Rattle.outside_link.specs.Link.{Incoming, first}
use Rattle.outside_link.specs.Post.{Post}

-- the first of a queue is taken
pub popped : {A : Type 0} (r : Option A) (old new : List A) → old ≡ option_to_list r ++ new → new ≡ drop 1 old → r ≡ first old
popped (Some y) old new e f = sym (ap first e)
popped None [] new e f = refl
popped None (x ∷ xs) new e f = absurd (omega (arith, ap length e, ap length f))

pub queue_of : (queues : List (VecDeque Letter Global)) (waits : List (List Incoming)) (channel at : ℕ) (d : VecDeque Letter Global) → map (λ q. q.items) queues ≡ waits → at ≡ channel → length queues ≡ 6 → channel < 6
    → slice_index_or waits channel [] ≡ (slice_index_or queues at d).items
queue_of queues waits channel at d e same size h =
    ap (λ w. slice_index_or w channel []) (sym e) ∙ get_or-map (λ q. q.items) queues channel d [] (omega (arith, size, h)) ∙ ap (λ i. (slice_index_or queues i d).items) (sym same)

abbrev pub with_waits : Post → List (List Incoming) → Post
with_waits v w = record v { waits = w }

-- one queue was changed
pub changed : (queues : List (VecDeque Letter Global)) (waits : List (List Incoming)) (channel at : ℕ) (new : VecDeque Letter Global) (l : List Incoming) → map (λ q. q.items) queues ≡ waits → at ≡ channel → new.items ≡ l
    → map (λ q. q.items) (slice_set queues at new) ≡ slice_set waits channel l
changed queues waits channel at new l e same is =
    map-set (λ q. q.items) queues at new ∙ ap (λ w. slice_set w at new.items) e ∙ ap (λ i. slice_set waits i new.items) same ∙ ap (slice_set waits channel) is

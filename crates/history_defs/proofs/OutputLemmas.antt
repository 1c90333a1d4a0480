-- The output of one phase after another.
use Rattle.std.proofs.Common.{◌≡◌, List, [], ◌∷◌, ◌++◌, refl, sym, ap, ◌∙◌, append_assoc, append-nil}
use Rattle.std.specs.List.{flat_map}
use Rattle.std.proofs.lemmas.List.Concat.{flat_map-append}
use Rattle.switch_event.specs.Config.{Config}
use Rattle.trace_defs.specs.Line.{Record}
use Rattle.history_defs.specs.Output.{Place, block, next_place, blocks, place_after, first_place, plain}

pub place_after-append : (at : Place) (xs ys : List Record) → place_after at (xs ++ ys) ≡ place_after (place_after at xs) ys
place_after-append at [] ys = refl
place_after-append at (x ∷ xs) ys = place_after-append (next_place at x) xs ys

pub blocks-append : (at : Place) (xs ys : List Record) → blocks at (xs ++ ys) ≡ blocks at xs ++ blocks (place_after at xs) ys
blocks-append at [] ys = refl
blocks-append at (x ∷ xs) ys = ap (λ l. block at x ++ l) (blocks-append (next_place at x) xs ys) ∙ sym (append_assoc (block at x) _ _)

pub flat_more : (phases : List (List Record)) (phase : List Record) → flat_map (λ phase. phase) (phases ++ phase ∷ []) ≡ flat_map (λ phase. phase) phases ++ phase
flat_more phases phase = flat_map-append (λ phase. phase) phases (phase ∷ []) ∙ ap (λ l. flat_map (λ phase. phase) phases ++ l) (append-nil phase)

pub plain-more : (config : Config) (phases : List (List Record)) (phase : List Record)
    → plain config (phases ++ phase ∷ []) ≡ plain config phases ++ blocks (place_after (first_place config) (flat_map (λ phase. phase) phases)) phase
plain-more config phases phase = ap (blocks (first_place config)) (flat_more phases phase) ∙ blocks-append (first_place config) (flat_map (λ phase. phase) phases) phase

pub place_after-more : (config : Config) (phases : List (List Record)) (phase : List Record)
    → place_after (first_place config) (flat_map (λ phase. phase) (phases ++ phase ∷ [])) ≡ place_after (place_after (first_place config) (flat_map (λ phase. phase) phases)) phase
place_after-more config phases phase = ap (place_after (first_place config)) (flat_more phases phase) ∙ place_after-append (first_place config) (flat_map (λ phase. phase) phases) phase

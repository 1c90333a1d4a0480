-- What a deed does to the published value.
use Rattle.std.specs.Prelude.{◌≡◌, true, List, [], ◌∷◌, ◌++◌}
use Rattle.table_defs.specs.Table.{Change, changed}
use Rattle.auth_publish.specs.Changes.{is_open}
use Rattle.auth_publish.specs.Told.{Told}
use Rattle.auth_publish.specs.declared.rule.Published.{Published}
use Rattle.auth_publish.specs.declared.rule.Deed.{Deed}
use Rattle.auth_publish.specs.declared.rule.Deed.TheVariants.{Begin, Publish}

abbrev pub done : Published → Deed → Published
done p Begin = p
done p (Publish c told) = record { table = changed p.table c; told = told }

-- the list of a published value, and one more change
abbrev pub grown : Published → Change → Told
grown p c = record { name = p.told.name; list = p.told.list ++ c ∷ [] }

-- one change comes next, and no Finish stands before it
abbrev pub IsNext : Published → List Deed → Type 0
IsNext p deeds =
    (is_open p.told.list ≡ true) × ((c : Change) × (deeds ≡ Publish c (grown p c) ∷ []))

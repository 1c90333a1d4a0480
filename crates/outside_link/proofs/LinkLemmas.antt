-- What several calls on a link do together.
use Rattle.std.proofs.Common.{◌≡◌, List, [], ◌++◌, Option, None, Some, refl, sym, ap, ◌∙◌, subst, append_assoc, append-nil}
use Rattle.outside_link.specs.Link.{Same, Grows}

pub Same-refl : {A : Type 0} (a : Option A) → Same a a
Same-refl None = tt
Same-refl (Some x) = refl

pub Same-trans : {A : Type 0} (a b c : Option A) → Same a b → Same b c → Same a c
Same-trans None b c p q = tt
Same-trans (Some x) None c p q = absurd p
Same-trans (Some x) (Some y) None p q = absurd q
Same-trans (Some x) (Some y) (Some z) p q = q ∙ p

pub Grows-none : {A : Type 0} (a : Option (List A)) → Grows a a []
Grows-none None = tt
Grows-none (Some x) = sym (append-nil x)

pub Grows-trans : {A : Type 0} (a b c : Option (List A)) (xs ys : List A) → Grows a b xs → Grows b c ys → Grows a c (xs ++ ys)
Grows-trans None b c xs ys p q = tt
Grows-trans (Some x) None c xs ys p q = absurd p
Grows-trans (Some x) (Some y) None xs ys p q = absurd q
Grows-trans (Some x) (Some y) (Some z) xs ys p q = q ∙ ap (λ l. l ++ ys) p ∙ append_assoc x xs ys

pub Grows-kept : {A : Type 0} (a b c : Option (List A)) (xs : List A) → Grows a b xs → Same b c → Grows a c xs
Grows-kept None b c xs p q = tt
Grows-kept (Some x) None c xs p q = absurd p
Grows-kept (Some x) (Some y) None xs p q = absurd q
Grows-kept (Some x) (Some y) (Some z) xs p q = q ∙ p

pub Grows-same : {A : Type 0} (a b : Option (List A)) (xs ys : List A) → xs ≡ ys → Grows a b xs → Grows a b ys
Grows-same a b xs ys e p = subst (λ l. Grows a b l) e p

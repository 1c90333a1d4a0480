-- What the words ask for is one thing.
use Rattle.std.proofs.Common.{◌≡◌, ℕ, List, [], ◌∷◌, length, map, Option, None, Some, refl, sym, ap, ◌∙◌, subst}
use Rattle.switch_top.specs.declared.form.Form.{Form}
use Rattle.switch_top.specs.Form.{form_of}
use Rattle.switch_top.specs.declared.form.Form.TheVariants.{Check, Replay, Race, Load, Serve}

abbrev workers_of : Form → ℕ
workers_of Check = 0
workers_of Replay = 0
workers_of (Race workers lanes) = workers
workers_of (Load hosts) = 0
workers_of (Serve frames radius dynamic turns) = 0

abbrev lanes_of : Form → ℕ
lanes_of Check = 0
lanes_of Replay = 0
lanes_of (Race workers lanes) = lanes
lanes_of (Load hosts) = 0
lanes_of (Serve frames radius dynamic turns) = 0

abbrev form_or : Option Form → Form
form_or None = Check
form_or (Some form) = form

-- what holds of the workers and lanes that are asked for holds of any that are said to be asked for
pub raced_so : (P : ℕ → ℕ → Type 0) (form : Option Form) (w l workers lanes : ℕ) → form ≡ Some (Race w l) → form ≡ Some (Race workers lanes) → P workers lanes → P w l
raced_so P form w l workers lanes asked is h =
    let same : Some (Race workers lanes) ≡ Some (Race w l) = sym is ∙ asked in
    subst (λ n. P w n) (ap (λ f. lanes_of (form_or f)) same) (subst (λ n. P n lanes) (ap (λ f. workers_of (form_or f)) same) h)

abbrev turns_of : Form → ℕ
turns_of Check = 0
turns_of Replay = 0
turns_of (Race workers lanes) = 0
turns_of (Load hosts) = 0
turns_of (Serve frames radius dynamic turns) = turns

-- the same of the turns of a server
pub served_so : (P : ℕ → Type 0) (form : Option Form) (a b c t frames radius dynamic turns : ℕ) → form ≡ Some (Serve a b c t) → form ≡ Some (Serve frames radius dynamic turns) → P turns → P t
served_so P form a b c t frames radius dynamic turns asked is h = subst P (ap (λ f. turns_of (form_or f)) (sym is ∙ asked)) h

-- and of the hosts of a day
abbrev hosts_of : Form → ℕ
hosts_of Check = 0
hosts_of Replay = 0
hosts_of (Race workers lanes) = 0
hosts_of (Load hosts) = hosts
hosts_of (Serve frames radius dynamic turns) = 0

pub loaded_so : (P : ℕ → Type 0) (form : Option Form) (n hosts : ℕ) → form ≡ Some (Load n) → form ≡ Some (Load hosts) → P hosts → P n
loaded_so P form n hosts asked is h = subst P (ap (λ f. hosts_of (form_or f)) (sym is ∙ asked)) h

-- of other numbers of words than one, two, three and five there is no form
pub none_else : {A : Type 0} (f : A → List ℕ) (words : List A) → (length words ≡ 1 → ⊥) → (length words ≡ 2 → ⊥) → (length words ≡ 3 → ⊥) → (length words ≡ 5 → ⊥)
    → None ≡ form_of (map f words)
none_else f [] one two three five = refl
none_else f (a ∷ []) one two three five = absurd (one refl)
none_else f (a ∷ b ∷ []) one two three five = absurd (two refl)
none_else f (a ∷ b ∷ c ∷ []) one two three five = absurd (three refl)
none_else f (a ∷ b ∷ c ∷ d ∷ []) one two three five = refl
none_else f (a ∷ b ∷ c ∷ d ∷ e ∷ []) one two three five = absurd (five refl)
none_else f (a ∷ b ∷ c ∷ d ∷ e ∷ g ∷ rest) one two three five = refl

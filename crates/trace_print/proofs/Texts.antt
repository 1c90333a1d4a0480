-- Text that is put together part by part.
use Rattle.std.proofs.Common.{◌≡◌, ℕ, zero, suc, ◌+◌, ◌<◌, List, [], ◌∷◌, ◌++◌, length, take, drop, get_or, codes, Some, Result, Ok, Err, refl, sym, map, ap, ap₂, ◌∙◌, arith, append_assoc, append-nil, take-append-drop}
use Rattle.std.specs.Prelude.{OnOk, OnErr, slice_get}
use Rattle.std.specs.List.{concat, flat_map}
use Rattle.std.proofs.lemmas.List.Concat.{flat_map-append}
use Rattle.std.proofs.lemmas.List.Folds.{flat_map-map}
use Rattle.std.proofs.lemmas.List.{take_more}
use Rattle.std.proofs.lemmas.Option.{slice_get_read, slice_get_within}
use Rattle.std.proofs.Math.Seq.{take-append_seam}
use Rattle.std.specs.Fmt.{decimal}
use Rattle.hex.specs.Hex.{encode_lower}
use Rattle.switch_event.specs.declared.config.PortConf.{PortConf}
use Rattle.switch_event.specs.Config.{Config}
use Rattle.trace_defs.specs.declared.keyword.OtherVlan.TheVariants.{Restricted, Guest}
use Rattle.machine_vars.specs.declared.control.Times.{Times}
use Rattle.switch_event.specs.Sent.{Sent}
use Rattle.trace_defs.specs.Output.{sent_line, sent_lines}
use Rattle.trace_defs.specs.Text.{dotted, text_line, client_words, port_words, port_vlan_lines, vlan_lines, first_lines, time_lines, last_lines, switch_text, config_text}
use Rattle.trace_print.specs.Pieces.{times_text, last_text}

-- an address, number by number
pub dotted_is : (ip : List ℕ) → length ip ≡ 4
    → concat (decimal (get_or ip 0 0) ∷ codes "." ∷ decimal (get_or ip 1 0) ∷ codes "." ∷ decimal (get_or ip 2 0) ∷ codes "." ∷ decimal (get_or ip 3 0) ∷ []) ≡ dotted ip
dotted_is (a ∷ b ∷ c ∷ d ∷ []) four = refl
dotted_is [] four = absurd (omega arith)
dotted_is (a ∷ []) four = absurd (omega arith)
dotted_is (a ∷ b ∷ []) four = absurd (omega arith)
dotted_is (a ∷ b ∷ c ∷ []) four = absurd (omega arith)
dotted_is (a ∷ b ∷ c ∷ d ∷ e ∷ more) four = absurd (omega arith)

-- what begins with more of a text begins with the text
pub begins_more : (old text mid new : List ℕ) → mid ≡ old ++ text → take (length mid) new ≡ mid → take (length old) new ≡ old
begins_more old text mid new is h =
    ap (take (length old)) (sym (take-append-drop (length mid) new) ∙ ap (λ l. l ++ drop (length mid) new) (h ∙ is) ∙ append_assoc old text (drop (length mid) new))
    ∙ take-append_seam old (text ++ drop (length mid) new)

pub on_err : {P Q : Type 0} {T E : Type 0} (r : Result T E) → (P → Q) → OnErr r P → OnErr r Q
on_err (Ok x) f h = tt
on_err (Err e) f h = f h

pub on_ok : {P Q : Type 0} {T E : Type 0} (r : Result T E) → (P → Q) → OnOk r P → OnOk r Q
on_ok (Ok x) f h = f h
on_ok (Err e) f h = tt

-- ---- settings

-- their lines, part by part
lines_of : (a b c d e f g : List (List (List ℕ))) → flat_map text_line (a ++ b ++ (c ++ d ++ e) ++ f ++ g)
    ≡ flat_map text_line a ++ (flat_map text_line b ++ (flat_map text_line c ++ (flat_map text_line d ++ (flat_map text_line e ++ (flat_map text_line f ++ flat_map text_line g)))))
lines_of a b c d e f g = simp (flat_map-append, append_assoc)

flat_map-flat : (f : PortConf → List (List (List ℕ))) (ports : List PortConf) → flat_map text_line (flat_map f ports) ≡ flat_map (λ p. flat_map text_line (f p)) ports
flat_map-flat f [] = refl
flat_map-flat f (p ∷ ports) = flat_map-append text_line (f p) (flat_map f ports) ∙ ap (λ l. flat_map text_line (f p) ++ l) (flat_map-flat f ports)

-- a line of two, three and four words, and what follows it
two_words : (a b rest : List ℕ) → text_line (a ∷ b ∷ []) ++ rest ≡ (a ++ 32 ∷ []) ++ (b ++ (10 ∷ rest))
two_words a b rest = simp (append_assoc, append-nil)

three_words : (a b c rest : List ℕ) → text_line (a ∷ b ∷ c ∷ []) ++ rest ≡ (a ++ 32 ∷ []) ++ (b ++ (32 ∷ (c ++ (10 ∷ rest))))
three_words a b c rest =
    append_assoc (a ++ (32 ∷ (b ++ (32 ∷ (c ++ []))))) (10 ∷ []) rest ∙ append_assoc a (32 ∷ (b ++ (32 ∷ (c ++ [])))) (10 ∷ rest)
    ∙ ap (λ l. a ++ (32 ∷ l)) (append_assoc b (32 ∷ (c ++ [])) (10 ∷ rest) ∙ ap (λ l. b ++ (32 ∷ l)) (append_assoc c [] (10 ∷ rest)))
    ∙ sym (append_assoc a (32 ∷ []) (b ++ (32 ∷ (c ++ (10 ∷ rest)))))

abbrev set_line : List ℕ → List ℕ → List ℕ
set_line name value = text_line (codes "set" ∷ name ∷ value ∷ [])

-- a line of `set`, and what follows it
set_more : (name value rest rest' : List ℕ) → rest ≡ rest' → set_line name value ++ rest ≡ codes "set " ++ (name ++ (32 ∷ (value ++ (10 ∷ rest'))))
set_more name value rest rest' e = three_words (codes "set") name value rest ∙ ap (λ l. codes "set " ++ (name ++ (32 ∷ (value ++ (10 ∷ l))))) e

times_are : (times : Times) → flat_map text_line (time_lines times) ≡ times_text times
times_are times =
    set_more (codes "quiet-period") (decimal times.quiet) _ _
    (set_more (codes "server-timeout") (decimal times.server) _ _
    (set_more (codes "reauth-max") (decimal times.reauth_max) _ _
    (set_more (codes "reauth-period") (decimal times.reauth_period) _ _
    (set_more (codes "reauth") (switch_text times.reauth) [] [] refl))))

last_is : (c : Config) → flat_map text_line (last_lines c) ≡ last_text c
last_is c =
    set_more (codes "guest-wait") (decimal c.guest_wait) _ _
    (set_more (codes "dyn-window") (decimal c.window) _ _
    (set_more (codes "require-ma") (switch_text c.require_ma) _ _
    (two_words (codes "clock") (decimal c.clock) (text_line (codes "seed" ∷ encode_lower c.seed ∷ []) ++ (text_line (codes "begin" ∷ []) ++ []))
    ∙ ap (λ l. codes "clock " ++ (decimal c.clock ++ (10 ∷ l))) (two_words (codes "seed") (encode_lower c.seed) (text_line (codes "begin" ∷ []) ++ [])))))

-- the same parts, by other names
pub times_same : (times : Times) (a b c d : ℕ) (on : List ℕ) → a ≡ times.quiet → b ≡ times.server → c ≡ times.reauth_max → d ≡ times.reauth_period → on ≡ switch_text times.reauth
    → concat (
    codes "set quiet-period " ∷ decimal a ∷ (10 ∷ codes "set server-timeout ") ∷ decimal b
    ∷ (10 ∷ codes "set reauth-max ") ∷ decimal c ∷ (10 ∷ codes "set reauth-period ")
    ∷ decimal d ∷ (10 ∷ codes "set reauth ") ∷ on ∷ (10 ∷ []) ∷ []
    ) ≡ times_text times
times_same times a b c d on ea eb ec ed eo = rw (ea, eb, ec, ed, eo) refl

pub last_same : (c : Config) (wait window : ℕ) (on : List ℕ) (clock : ℕ) (seed : List ℕ) → wait ≡ c.guest_wait → window ≡ c.window → on ≡ switch_text c.require_ma → clock ≡ c.clock → seed ≡ c.seed
    → concat (
    codes "set guest-wait " ∷ decimal wait ∷ (10 ∷ codes "set dyn-window ") ∷ decimal window
    ∷ (10 ∷ codes "set require-ma ") ∷ on ∷ (10 ∷ codes "clock ") ∷ decimal clock
    ∷ (10 ∷ codes "seed ") ∷ encode_lower seed ∷ (10 ∷ codes "begin" ++ 10 ∷ []) ∷ []
    ) ≡ last_text c
last_same c wait window on clock seed ew ei eo ec es = rw (ew, ei, eo, ec, es) refl

pub config_text-parts : (c : Config) → config_text c
    ≡ flat_map text_line (first_lines c) ++ (flat_map (λ client. text_line (client_words client)) c.clients ++ (flat_map (λ conf. text_line (port_words conf)) c.ports
    ++ (flat_map (λ conf. flat_map text_line (port_vlan_lines Restricted conf)) c.ports ++ (flat_map (λ conf. flat_map text_line (port_vlan_lines Guest conf)) c.ports
    ++ (times_text c.times ++ last_text c)))))
config_text-parts c =
    let clients = flat_map (λ client. text_line (client_words client)) c.clients in
    let ports = flat_map (λ conf. text_line (port_words conf)) c.ports in
    let restricted = flat_map text_line (vlan_lines Restricted c.ports) in
    let guests = flat_map text_line (vlan_lines Guest c.ports) in
    let last = times_text c.times ++ last_text c in
    lines_of (first_lines c) (map client_words c.clients) (map port_words c.ports) (vlan_lines Restricted c.ports) (vlan_lines Guest c.ports) (time_lines c.times) (last_lines c)
    ∙ ap₂ (λ l m. flat_map text_line (first_lines c) ++ (flat_map text_line (map client_words c.clients) ++ (flat_map text_line (map port_words c.ports) ++ (restricted ++ (guests ++ (l ++ m)))))) (times_are c.times) (last_is c)
    ∙ ap₂ (λ l m. flat_map text_line (first_lines c) ++ (l ++ (m ++ (restricted ++ (guests ++ last))))) (flat_map-map text_line client_words c.clients) (flat_map-map text_line port_words c.ports)
    ∙ ap₂ (λ l m. flat_map text_line (first_lines c) ++ (clients ++ (ports ++ (l ++ (m ++ last))))) (flat_map-flat (port_vlan_lines Restricted) c.ports) (flat_map-flat (port_vlan_lines Guest) c.ports)

-- seven parts, one after another
pub seven_parts : (text t1 t2 t3 t4 t5 t6 end a b c d e f g : List ℕ) → t1 ≡ text ++ a → t2 ≡ t1 ++ b → t3 ≡ t2 ++ c → t4 ≡ t3 ++ d → t5 ≡ t4 ++ e → t6 ≡ t5 ++ f → end ≡ t6 ++ g
    → end ≡ text ++ (a ++ (b ++ (c ++ (d ++ (e ++ (f ++ g))))))
seven_parts text t1 t2 t3 t4 t5 t6 end a b c d e f g e1 e2 e3 e4 e5 e6 e7 =
    e7 ∙ ap (λ t. t ++ g) (e6 ∙ ap (λ t. t ++ f) (e5 ∙ ap (λ t. t ++ e) (e4 ∙ ap (λ t. t ++ d) (e3 ∙ ap (λ t. t ++ c) (e2 ∙ ap (λ t. t ++ b) e1))))) ∙ regrouped
  where
    regrouped : (((((((text ++ a) ++ b) ++ c) ++ d) ++ e) ++ f) ++ g) ≡ text ++ (a ++ (b ++ (c ++ (d ++ (e ++ (f ++ g))))))
    regrouped = simp append_assoc

-- what was put before a part that there is no room for
pub kept_err : {T E : Type 0} (r : Result T E) {P : Type 0} → P → OnErr r P
kept_err (Ok x) h = tt
kept_err (Err e) h = h

-- ---- what was sent

read_at : (items : List Sent) (n : ℕ) (s : Sent) → slice_get items n ≡ Some s → get_or items n s ≡ s
read_at items n s is = same (get_or items n s) s (sym (slice_get_read items (length items) n (get_or items n s) refl (slice_get_within items n s is) (ends items n s (slice_get_within items n s is))) ∙ is)
  where
    same : (x s : Sent) → Some x ≡ Some s → x ≡ s
    same x s e = cc

    ends : (items : List Sent) (n : ℕ) (d : Sent) → n < length items → get_or items n d ≡ get_or items n (get_or items n d)
    ends [] n d h = absurd (omega arith)
    ends (x ∷ items) zero d h = refl
    ends (x ∷ items) (suc n) d h = again items n d (get_or items n d) (omega arith)
      where
        again : (items : List Sent) (n : ℕ) (d e : Sent) → n < length items → get_or items n d ≡ get_or items n e
        again [] n d e h = absurd (omega arith)
        again (x ∷ items) zero d e h = refl
        again (x ∷ items) (suc n) d e h = again items n d e (omega arith)

sent_lines-more : (items : List Sent) (n : ℕ) (d : Sent) → n < length items → sent_lines (take (n + 1) items) ≡ sent_lines (take n items) ++ sent_line (get_or items n d)
sent_lines-more items n d h =
    ap sent_lines (take_more items n d h) ∙ flat_map-append sent_line (take n items) (get_or items n d ∷ [])
    ∙ ap (λ l. sent_lines (take n items) ++ l) (append-nil (sent_line (get_or items n d)))

-- one more line
pub sent_more : (items : List Sent) (n : ℕ) (s : Sent) (old text new : List ℕ) → slice_get items n ≡ Some s → text ≡ old ++ sent_lines (take n items) → new ≡ text ++ sent_line s
    → new ≡ old ++ sent_lines (take (n + 1) items)
sent_more items n s old text new is e f =
    f ∙ ap (λ t. t ++ sent_line s) e ∙ append_assoc old (sent_lines (take n items)) (sent_line s) ∙ ap (λ l. old ++ l) (step items n is)
  where
    step : (items : List Sent) (n : ℕ) → slice_get items n ≡ Some s → sent_lines (take n items) ++ sent_line s ≡ sent_lines (take (n + 1) items)
    step items n is =
        ap (λ x. sent_lines (take n items) ++ sent_line x) (sym (read_at items n s is)) ∙ sym (sent_lines-more items n s (slice_get_within items n s is))
